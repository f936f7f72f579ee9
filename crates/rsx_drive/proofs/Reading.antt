-- What a reader has left after several reads, and what is said of the whole input then.
use Rattle.std.proofs.Common.{◌≡◌, ℕ, List, [], ◌++◌, take, Option, Some, None, sym, ap, subst, ◌∙◌}
use Rattle.std.specs.Prelude.{IfSome}
use Rattle.std.specs.Io.KnownBytes.{Appends, Consumes, IsAtEnd}
use Rattle.std.proofs.lemmas.List.{append-nil}
use Rattle.std.proofs.KnownBytes.{Appends-trans}
use Rattle.rsx_drive.specs.Answered.{Writes}

-- the reader is at its end, so all that it had was got
pub if_ended : (old now new : Option (List ℕ)) (got : List ℕ) (n : ℕ) (buffer : List ℕ) (P : List ℕ → Type 0) → Consumes old now got → Consumes now new (take n buffer) → n ≡ 0 → IsAtEnd new → P got → IfSome old P
if_ended None now new got n buffer P h k none e p = tt
if_ended (Some xs) None new got n buffer P h k none e p = absurd h
if_ended (Some xs) (Some ys) None got n buffer P h k none e p = absurd k
if_ended (Some xs) (Some ys) (Some zs) got n buffer P h k none e p =
    let nothing : take n buffer ≡ [] = ap (λ (m : ℕ). take m buffer) none in
    let all : xs ≡ got = h ∙ ap (λ (x : List ℕ). got ++ x) (k ∙ ap (λ (x : List ℕ). x ++ zs) nothing ∙ e) ∙ append-nil got in
    subst P (sym all) p

-- whatever the reader has left
pub if_more : (old now : Option (List ℕ)) (got : List ℕ) (P : List ℕ → Type 0) → Consumes old now got → ((more : List ℕ) → P (got ++ more)) → IfSome old P
if_more None now got P h p = tt
if_more (Some xs) None got P h p = absurd h
if_more (Some xs) (Some ys) got P h p = subst P (sym h) (p ys)

-- what is written after some text
pub writes_after : (a b c : Option (List ℕ)) (s : List ℕ) (P Q : List ℕ → Type 0) → Appends a b s → ((t : List ℕ) → P t → Q (s ++ t)) → Writes b c P → Writes a c Q
writes_after a b c s P Q h f w = (s ++ w.0, Appends-trans a b c s w.0 h w.1, f w.0 w.2)

pub if_some_to : (old : Option (List ℕ)) (P Q : List ℕ → Type 0) → ((x : List ℕ) → P x → Q x) → IfSome old P → IfSome old Q
if_some_to None P Q to h = tt
if_some_to (Some x) P Q to h = to x h

-- what waited was written at last
pub writes_more : (a b c : Option (List ℕ)) (out : List ℕ) (P : List ℕ → Type 0) → Appends b c out → Writes a b (λ text. P (text ++ out)) → Writes a c P
writes_more a b c out P k w = (w.0 ++ out, Appends-trans a b c w.0 out w.1 k, w.2)
