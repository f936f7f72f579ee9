-- Recorded choices, and more choices after them. The notes of a tree are a list in pre-order of its nodes.
use Rattle.std.specs.Prelude.{List, [], ◌∷◌, ◌++◌, Option, Some, None}
use Rattle.rsx_types.specs.declared.note.Note.{Note}
use Rattle.rsx_types.specs.declared.note.Note.TheVariants.{Nothing, Picks, Ended}

-- a note, and what is recorded after it; the kind of what follows decides
abbrev pub note_then : Note → Note → Note
note_then (Picks cs) (Picks ds) = Picks (cs ++ ds)
note_then (Ended (Some i)) (Ended None) = Ended (Some i)
note_then (Ended (Some i)) (Ended (Some j)) = Nothing
note_then n k = k

-- the notes of a tree, and what its nodes record after them, node by node
abbrev pub notes_then : List Note → List Note → List Note
notes_then [] ks = []
notes_then (n ∷ ns) [] = []
notes_then (n ∷ ns) (k ∷ ks) = note_then n k ∷ notes_then ns ks

-- a node like this one chooses nothing more
abbrev pub unchosen : Note → Note
unchosen Nothing = Nothing
unchosen (Picks cs) = Picks []
unchosen (Ended o) = Ended None
