-- Where one OnSubscribe comes, no further one is unwanted.
use Rattle.std.proofs.Common.{ℕ, List, ◌==◌}
use Rattle.std.proofs.lemmas.Bool.{and_parts}
use Rattle.rsx_verify.specs.Prelude.{NoneAfter, RefusesUnwanted, Stamped, is_on_subscribe, of}

pub refuses : (s : ℕ) (t : List Stamped) → NoneAfter (of s is_on_subscribe) (of s is_on_subscribe) t → RefusesUnwanted s t
refuses s t none w i k lt un a between =
    let here = un.0 in let before = un.1 in
    absurd (none before.0 i before.1 before.2 (here.0, here.1, (and_parts (of s is_on_subscribe here.0) (here.0.worker == w) here.2).0))
