-- How many items a lane has left.
use Rattle.std.proofs.Common.{◌≡◌, List, [], ◌∷◌, ◌++◌, length, map, refl, sym, ◌∙◌, arith}
use Rattle.std.proofs.lemmas.List.{length-reverse}
use Rattle.std.specs.Prelude.{reverse}
use Rattle.rsx_types.specs.Stream.{ending_signals, signals}
use Rattle.rsx_types.specs.declared.signal.Ending.{Ending}
use Rattle.rsx_types.specs.declared.signal.Ending.TheVariants.{Open, Done, Failed}
use Rattle.rsx_types.specs.declared.signal.Signal.TheVariants.{Next}
use Rattle.rsx_merging.specs.Lanes.{items_in}

-- an ending is no item
no_items : (T : Type 0) (e : Ending) → items_in {T = T} (ending_signals e) ≡ 0
no_items T Open = refl
no_items T Done = refl
no_items T (Failed c) = refl

-- the items among the signals of a value are the value's
counted : {T : Type 0} (xs : List T) (e : Ending) → items_in (map Next xs ++ ending_signals e) ≡ length xs
counted {T} [] e = no_items T e
counted {T} (x ∷ xs) e = let h = counted xs e in omega (arith, h)

-- as many as were kept, in whatever order
pub items_left : {T : Type 0} (kept : List T) (e : Ending) → length kept ≡ items_in (signals (record { items = reverse kept; ending = e }))
items_left kept e = sym (counted (reverse kept) e ∙ length-reverse kept)
