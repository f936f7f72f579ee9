-- Several items of a hub that a part takes in at once.
use Rattle.std.proofs.Common.{◌≡◌, ℕ, ◌≤◌, true, false, if◌then◌else◌, List, [], ◌∷◌, ◌++◌, reverse, refl, ap, sym, ◌∙◌, arith}
use Rattle.std.proofs.lemmas.List.{append-nil}
use Rattle.rsx_sources.specs.declared.machine.Machine.{Ghosts as Machine}
use Rattle.rsx_types.specs.declared.signal.Signal.TheVariants.{Next}
use Rattle.rsx_tree.specs.declared.edge.Edge.{Edge}
use Rattle.rsx_tree.specs.declared.node.Node.{Node}
use Rattle.rsx_tree.specs.Edges.{is_live}
use Rattle.rsx_tree.specs.Handed as Tree
use Rattle.rsx_tree.specs.Runs.{Leads}
use Rattle.rsx_tree.proofs.Runs.{leads_lift}
use Rattle.rsx_rooted.specs.Taking as TreeItems
use Rattle.rsx_rooted.specs.Taking.{AreTakenOff, blocks}
use Rattle.rsx_rooted.proofs.TakenOff.{taken_as}
use Rattle.rsx_pipe.specs.Part.{Part}
use Rattle.rsx_pipe.specs.Published.{readers}
use Rattle.rsx_pipe.specs.Taking.{IsItemHanded, spaces_for}
use Rattle.rsx_pipe.proofs.Handing.{handed_dead, handed_part}

item_part : {M T : Type 0} (b : Machine M T) (h : ℕ) (root : Edge) (old new : Node M) (x : T) → is_live root.state ≡ true → TreeItems.IsItemHanded b h old x new → IsItemHanded b h (record { tree = old; root = root }) x (record { tree = new; root = root })
item_part b h root old new x live k = record {
  room = ap (λ t. if t then Tree.has_room b h old else true) live ∙ k.room;
  handed = handed_part b h (Next x) root old new live k.handed;
}

pub many_handed : {M T : Type 0} (b : Machine M T) (spaces : M → ℕ) (h count most : ℕ) (root : Edge) (old new : Node M) (items left : List T) → is_live root.state ≡ true →
    AreTakenOff (Tree.readers b h old) count (TreeItems.spaces_for b spaces h most old) items left (λ xs. Leads (TreeItems.IsItemHanded b h) old xs new) →
    AreTakenOff (readers b h (record { tree = old; root = root })) count (spaces_for b spaces h most (record { tree = old; root = root })) items left (λ xs. Leads (IsItemHanded b h) (record { tree = old; root = root }) xs (record { tree = new; root = root }))
many_handed {M} {T} b spaces h count most root old new items left live taken =
    let made : Node M → Part M = λ t. record { tree = t; root = root } in
    taken_as (Tree.readers b h old) (readers b h (made old)) count (TreeItems.spaces_for b spaces h most old) (spaces_for b spaces h most (made old)) items left (λ xs. Leads (TreeItems.IsItemHanded b h) old xs new) _
    (sym (ap (λ t. if t then Tree.readers b h old else 0) live)) (equal_within _ _ (ap (λ t. if t then TreeItems.spaces_for b spaces h most old else most) live))
    (λ xs run. leads_lift (TreeItems.IsItemHanded b h) (IsItemHanded b h) made (λ k l x d. item_part b h root k l x live d) old new xs run) taken
  where
    equal_within : (a c : ℕ) → a ≡ c → a ≤ c
    equal_within a c x = omega (arith, x)

dead_run : {M T : Type 0} (b : Machine M T) (h : ℕ) (part : Part M) (xs : List T) → is_live part.root.state ≡ false → Leads (IsItemHanded b h) part xs part
dead_run b h part [] dead = refl
dead_run b h part (x ∷ xs) dead = (part, record { room = ap (λ t. if t then Tree.has_room b h part.tree else true) dead; handed = handed_dead b h (Next x) part dead }, dead_run b h part xs dead)

pub none_to_hand : {M T : Type 0} (b : Machine M T) (h count spaces : ℕ) (part : Part M) (items : List T) → is_live part.root.state ≡ false → AreTakenOff (readers b h part) count spaces items items (λ xs. Leads (IsItemHanded b h) part xs part)
none_to_hand b h count spaces part items dead before xs all len fits =
    (dead_run b h part xs dead, all ∙ (ap (λ t. before ++ blocks (if t then Tree.readers b h part.tree else 0) (reverse xs)) dead ∙ append-nil before))
