-- What the nodes of an expression record.
use Rattle.std.specs.Prelude.{◌≡◌, Bool, true, false, if◌then◌else◌, List, [], ◌∷◌, Option, Some, None, option_and_then}
use Rattle.rsx_values.specs.Prelude.{Note, Nothing, Picks, Ended}
use Rattle.rsx_model.specs.declared.expr.Expr.{Expr}
use Rattle.rsx_model.specs.declared.expr.Expr.TheOpen.{Expr-F, Items, Range, Hub, Plain, Concat, Merge, MergeDelay, Zip, Latest, Group, Window, Flat, FlatDelay, On, OnEager}
use Rattle.rsx_model.specs.declared.expr.Expr.TheFolds.{fold-Expr}
use Rattle.rsx_model.specs.Shape.{children}

-- whether a note is of the kind that a node records: nothing, choices, or the input whose ending it took
abbrev pub is_nothing : Note → Bool
is_nothing Nothing = true
is_nothing (Picks cs) = false
is_nothing (Ended i) = false

abbrev pub is_picks : Note → Bool
is_picks Nothing = false
is_picks (Picks cs) = true
is_picks (Ended i) = false

abbrev pub is_ended : Note → Bool
is_ended Nothing = false
is_ended (Picks cs) = false
is_ended (Ended i) = true

abbrev pub is_of_kind : {T A : Type 0} → Expr-F T A → Note → Bool
is_of_kind (Items v) n = is_nothing n
is_of_kind (Range a k) n = is_nothing n
is_of_kind (Hub h) n = is_nothing n
is_of_kind (Plain g b) n = is_nothing n
is_of_kind (Concat v) n = is_nothing n
is_of_kind (Merge p v) n = is_picks n
is_of_kind (MergeDelay p v) n = is_picks n
is_of_kind (Zip p v) n = is_ended n
is_of_kind (Latest p v) n = is_picks n
is_of_kind (Group f gs b) n = is_picks n
is_of_kind (Window k gs b) n = is_nothing n
is_of_kind (Flat f c gs b) n = is_picks n
is_of_kind (FlatDelay f c gs b) n = is_picks n
is_of_kind (On k p b) n = is_nothing n
is_of_kind (OnEager k p b) n = is_picks n

-- the notes behind the first, where that one is of the kind
abbrev pub behind_kind : (Note → Bool) → List Note → Option (List Note)
behind_kind k [] = None
behind_kind k (n ∷ ns) = if k n then Some ns else None

-- the notes behind those of subtrees that stand side by side
abbrev pub behind_all : List (List Note → Option (List Note)) → List Note → Option (List Note)
behind_all [] ns = Some ns
behind_all (f ∷ fs) ns = option_and_then (behind_all fs) (f ns)

-- the notes behind those of an expression, where each of these is of its node's kind; none where one is missing or of another
abbrev pub behind_notes : {T : Type 0} → Expr T → List Note → Option (List Note)
behind_notes {T} = fold-Expr T (List Note → Option (List Note)) (λ e ns. option_and_then (behind_all (children e)) (behind_kind (is_of_kind e) ns))

-- as many notes as nodes, each of its node's kind
abbrev pub AreNoted : {T : Type 0} → Expr T → List Note → Type 0
AreNoted e ns = behind_notes e ns ≡ Some []
