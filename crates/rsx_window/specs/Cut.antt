-- What still comes out of a `window` that has taken some of its input.
use Rattle.std.specs.Prelude.{◌≡◌, ⊤, ℕ, suc, ◌-◌, Bool, true, false, List, [], drop}
use Rattle.rsx_sources.specs.Prelude.{Ending, Open, Done, Failed, Signal, Stage, Meaning, chained, taken_items, Stream, ended_by, item_then, items_then, signals_then}
use Rattle.rsx_plain.specs.Emission.{emission_then}
use Rattle.rsx_plain.specs.declared.prepared.Emission.{Emission}
use Rattle.rsx_values.specs.Prelude.{value_then, window}
use Rattle.rsx_plain.specs.Chain.{chain_from, chain_over}
use Rattle.rsx_collections.specs.Signals.{put_out}
use Rattle.rsx_plain.specs.declared.chain.ChainState.{ChainState}
use Rattle.rsx_sources.specs.declared.machine.Passed.{Passed}
use Rattle.rsx_sources.specs.declared.machine.Passed.TheVariants.{Item, Kept, Declined}
use Rattle.rsx_window.specs.declared.current.CurrentWindow.{CurrentWindow}
use Rattle.rsx_window.specs.declared.current.CurrentWindow.TheVariants.{Running, Passing, Over}
use Rattle.rsx_window.specs.declared.current.Begun.{Begun}

-- what still comes in at a window that k more items fill: those items and the completion, or fewer and the input's ending
abbrev pub window_rest : {T : Type 0} → ℕ → Stream T → Stream T
window_rest k v = taken_items k v.items v.ending

-- what comes in behind k more items
abbrev pub behind : {T : Type 0} → ℕ → Stream T → Stream T
behind k v = record { items = drop k v.items; ending = v.ending }

-- what still comes out: the started window's chain of what still comes in there, and behind its completion the windows of
-- what comes in behind it; where the items of a window are let go, the windows behind those
abbrev pub window_left : {T : Type 0} → Meaning T → ℕ → List (Stage T) → CurrentWindow T → Stream T → Stream T
window_left m n gs (Running c more) v = value_then (chain_from m c (window_rest (suc more) v)) (window m n gs (behind (suc more) v))
window_left m n gs (Passing left) v = window m n gs (behind left v)
window_left m n gs Over v = ended_by Open

abbrev pub is_over : {T : Type 0} → CurrentWindow T → Bool
is_over (Running c more) = false
is_over (Passing left) = false
is_over Over = true

-- no operator in the chain of the window that is started is over
abbrev pub GoesOn : {T : Type 0} → CurrentWindow T → Type 0
GoesOn (Running c more) = chain_over c ≡ false
GoesOn (Passing left) = ⊤
GoesOn Over = ⊤

-- ---- an item

-- what comes out of a window's chain that takes an item, and then what comes out of it; the item may be the window's last
abbrev pub TakesItem : {T : Type 0} → Meaning T → ChainState T → ℕ → T → Emission T → ChainState T → Type 0
TakesItem {T} m old more x out new = (v : Stream T) → chain_from m old (window_rest (suc more) (item_then x v)) ≡ emission_then out (chain_from m new (window_rest more v))

-- what comes out of a new window's chain at its start and by its first item, and then what comes out of it
abbrev pub Begins : {T : Type 0} → Meaning T → List (Stage T) → ℕ → T → Begun T → Type 0
Begins {T} m gs more x b = (v : Stream T) → chained m gs (window_rest (suc more) (item_then x v)) ≡ items_then b.items.items (emission_then b.out (chain_from m b.chain (window_rest more v)))

-- a completed window completes nothing but itself
abbrev pub unless_done : Ending → Ending
unless_done Open = Open
unless_done Done = Open
unless_done (Failed c) = Failed c

-- where the window is then, which takes so many more items and whose chain has put out this ending
abbrev pub window_after : {T : Type 0} → ChainState T → ℕ → Ending → CurrentWindow T
window_after c more Open = Running c (more - 1)
window_after c more Done = Passing more
window_after c more (Failed f) = Over

-- the windows go on behind an item, and their chain does
abbrev pub IsOpen : {T : Type 0} → CurrentWindow T → Type 0
IsOpen c = (is_over c ≡ false) × GoesOn c

-- an item comes out as it is; or it is let go; or it comes back, and nothing has changed
abbrev pub GoesThrough : {T : Type 0} → ℕ → List (Stage T) → CurrentWindow T → T → Passed T → CurrentWindow T → Type 0
GoesThrough {T} n gs old x (Item y) new = (is_over old ≡ false) × IsOpen new × ((m : Meaning T) (v : Stream T) → window_left m n gs old (item_then x v) ≡ item_then y (window_left m n gs new v))
GoesThrough {T} n gs old x Kept new = (is_over old ≡ false) × IsOpen new × ((m : Meaning T) (v : Stream T) → window_left m n gs old (item_then x v) ≡ window_left m n gs new v)
GoesThrough n gs old x (Declined y) new = (y ≡ x) × (new ≡ old)

-- ---- an ending of the input

-- the ending of the whole, where the last window has put out this one and the input ends so
abbrev pub last_ending : Ending → Ending → Ending
last_ending Open e = e
last_ending Done e = e
last_ending (Failed c) e = Failed c

-- these signals come out of a window by such an ending of the input, and nothing follows them
abbrev pub EndsWith : {T : Type 0} → Meaning T → CurrentWindow T → Ending → List (Signal T) → Type 0
EndsWith {T} m old e out = (n : ℕ) (gs : List (Stage T)) (v : Stream T) → is_over old ≡ false → window_left m n gs old (ended_by e) ≡ signals_then out v

-- this comes out of a window's chain by such an ending of the input; nothing more comes out but that ending
abbrev pub ClosesWith : {T : Type 0} → Meaning T → CurrentWindow T → Ending → Emission T → Type 0
ClosesWith m old e out = EndsWith m old e (put_out [] out.item (last_ending out.ending e))
