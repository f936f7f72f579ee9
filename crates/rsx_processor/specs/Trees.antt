-- A tree of nodes of one kind, as one of nodes of either kind.
use Rattle.std.specs.Prelude.{◌≡◌, ⊤}
use Rattle.rsx_tree.specs.declared.inputs.Inputs.{Inputs, End, More'}
use Rattle.rsx_tree.specs.declared.node.Node.{Node}
use Rattle.rsx_processor.specs.declared.either.EitherNode.{EitherNode}
use Rattle.rsx_processor.specs.declared.either.EitherNode.TheVariants.{Left}

-- each node of the second row is that of the first, and so is its edge
abbrev pub IsLeftRow : {A B : Type 0} → Inputs A → Inputs (EitherNode A B) → Type 0
IsLeftRow End End = ⊤
IsLeftRow (More' e n p below q beside) (More' f k r inside s others) = (f ≡ e) × (k ≡ Left n) × IsLeftRow below inside × IsLeftRow beside others
IsLeftRow r s = ⊥

abbrev pub IsLeft : {A B : Type 0} → Node A → Node (EitherNode A B) → Type 0
IsLeft t u = (u.machine ≡ Left t.machine) × IsLeftRow t.inputs u.inputs
