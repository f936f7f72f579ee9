-- Items that wait.
use Rattle.std.proofs.Common.{◌≡◌, ℕ, List, [], ◌∷◌, ◌++◌, length, reverse, Option, Some, None, refl, ap, sym, ◌∙◌, arith}
use Rattle.std.specs.Option.{option_to_list}
use Rattle.std.proofs.lemmas.List.{append-nil, length-reverse, reverse-append, reverse-reverse}
use Rattle.rsx_demand.specs.Demand.{saturating_total}
use Rattle.rsx_grouping.specs.Waiting.{waiting_of}

-- all items, the last one first, of which the last was taken
pub of_reversed : {T : Type 0} (xs rs behind : List T) (o : Option T) → rs ≡ reverse xs → rs ≡ behind ++ option_to_list o → (o ≡ None → behind ≡ []) → waiting_of o behind ≡ xs
of_reversed xs rs behind (Some x) back left empty =
    sym (reverse-append behind (x ∷ [])) ∙ ap reverse (sym left ∙ back) ∙ reverse-reverse xs
of_reversed xs rs behind None back left empty =
    sym (ap reverse (left ∙ append-nil behind ∙ empty refl)) ∙ ap reverse back ∙ reverse-reverse xs

-- the oldest item and those behind it, each counted
pub counted : {T : Type 0} (n : ℕ) (x : T) (behind : List T) → saturating_total (saturating_total n 1) (length behind) ≡ saturating_total n (length (waiting_of (Some x) behind))
counted n x behind = let same = length-reverse behind in omega (arith, same)
