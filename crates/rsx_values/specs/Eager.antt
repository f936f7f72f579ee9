-- The identity whose failure may overtake items: choice 0 takes the next item, choice 1 the failure, past the items before it.
use Rattle.std.specs.Prelude.{ℕ, zero, suc, List, [], ◌∷◌, Option, Some, None, option_map}
use Rattle.rsx_types.specs.declared.signal.Ending.{Ending}
use Rattle.rsx_types.specs.declared.signal.Ending.TheVariants.{Open, Done, Failed}
use Rattle.rsx_types.specs.Stream.{Stream, ended_by, item_then}

-- the failure, where nothing is chosen behind it
abbrev pub failure_here : {T : Type 0} → Ending → List ℕ → Option (Stream T)
failure_here Open cs = None
failure_here Done cs = None
failure_here (Failed c) [] = Some (ended_by (Failed c))
failure_here (Failed c) (d ∷ cs) = None

-- these items and this ending under the choices; none where one of them finds nothing to take
abbrev pub eager : {T : Type 0} → List ℕ → List T → Ending → Option (Stream T)
eager [] xs e = Some (record { items = xs; ending = e })
eager (zero ∷ cs) [] e = None
eager (zero ∷ cs) (x ∷ xs) e = option_map (item_then x) (eager cs xs e)
eager (suc zero ∷ cs) xs e = failure_here e cs
eager (suc (suc n) ∷ cs) xs e = None

abbrev pub eager_of : {T : Type 0} → List ℕ → Stream T → Option (Stream T)
eager_of cs v = eager cs v.items v.ending
