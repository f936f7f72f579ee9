-- Which nodes of a tree read a hub, and how far they got in it. How far each hub got is a list: so many items, or nothing for a hub
-- that has ended.
use Rattle.std.specs.Prelude.{◌≡◌, ◌⊎◌, ⊤, ℕ, false, List, [], ◌∷◌, ◌++◌, Option, Some, None, option_map, slice_get}
use Rattle.std.specs.List.{AllZip}
use Rattle.rsx_sources.specs.Prelude.{Ending, Open, Done, Failed, Reading}
use Rattle.rsx_sources.specs.Reading.{origin_of}
use Rattle.rsx_sources.specs.declared.machine.Machine.{Ghosts as Machine}
use Rattle.rsx_tree.specs.declared.inputs.Inputs.{Inputs, End, More'}
use Rattle.rsx_tree.specs.declared.node.Node.{Node}
use Rattle.rsx_tree.specs.Edges.{is_live}

-- so many items, as long as no ending follows
abbrev pub count_before : Ending → ℕ → Option ℕ
count_before Open n = Some n
count_before Done n = None
count_before (Failed c) n = None

-- where it reads a hub, it got as far as this list says of that hub, which has not ended; of an empty list, it reads none
abbrev pub IsReadAt : List (Option ℕ) → Option Reading → Type 0
IsReadAt counts None = ⊤
IsReadAt counts (Some r) = slice_get counts r.hub ≡ Some (Some r.reached)

-- so did each node of a row, and below it, whose edge is live; what is behind an edge that isn't takes nothing in
abbrev pub IsRowReadAt : {M T : Type 0} → Machine M T → List (Option ℕ) → Inputs M → Type 0
IsRowReadAt b counts End = ⊤
IsRowReadAt b counts (More' e n p below q beside) =
    ((is_live e.state ≡ false) ⊎ (IsReadAt counts (b.reads n) × IsRowReadAt b counts below)) × IsRowReadAt b counts beside

-- and each node of a tree whose root's own edge is live
abbrev pub IsTreeReadAt : {M T : Type 0} → Machine M T → List (Option ℕ) → Node M → Type 0
IsTreeReadAt b counts t = IsReadAt counts (b.reads t.machine) × IsRowReadAt b counts t.inputs

-- ---- over live edges and others alike

-- what each node of a row, and below it, reads, in pre-order
abbrev pub row_readings : {M T : Type 0} → Machine M T → Inputs M → List (Option Reading)
row_readings b End = []
row_readings b (More' e n p below q beside) = b.reads n ∷ (row_readings b below ++ row_readings b beside)

-- and each node of a tree
abbrev pub readings : {M T : Type 0} → Machine M T → Node M → List (Option Reading)
readings b t = b.reads t.machine ∷ row_readings b t.inputs

-- a node reads the hub that it read, with the counts that it began with, or none any more
abbrev pub GoesOn : Option Reading → Option Reading → Type 0
GoesOn old new = (option_map origin_of new ≡ option_map origin_of old) ⊎ (new ≡ None)

-- so does each
abbrev pub AllGoOn : List (Option Reading) → List (Option Reading) → Type 0
AllGoOn old new = AllZip GoesOn old new
