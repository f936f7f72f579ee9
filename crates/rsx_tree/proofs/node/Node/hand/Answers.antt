use Rattle.std.proofs.Common.{◌≡◌, ℕ, ◌+◌, ap, ◌∙◌, arith}
use Rattle.rsx_tree.specs.Handed.{times, reader_at, readers_in, room_at, has_room_in}
use Rattle.rsx_tree.proofs.Handing.{room_first, room_second}
use Rattle.rsx_tree.proofs.Taking.{tree_handed}
use Rattle.rsx_tree.proofs.node.Node.hand.Goals as goal

pub returns : goal.returns
returns g c s k all room =
    let b = g.M.Machine in
    let h = c.args.hub in
    let x = reader_at b h c.args.self.now.machine in
    let y = readers_in b h c.args.self.now.inputs in
    let one = c.hand_to.ensures s (k + y) (all ∙ ap (λ j. times j s) (turned k x y)) (room_first s (room_at b h c.args.self.now.machine) (has_room_in b h c.args.self.now.inputs) room) in
    let two = c.hand.ensures s k one.1 (room_second s (room_at b h c.args.self.now.machine) (has_room_in b h c.args.self.now.inputs) room) in
    (tree_handed b h s c.args.self.now.machine c.hand_to.new.machine c.args.self.now.inputs c.hand.new.self one.0 two.0, two.1)
  where
    turned : (k x y : ℕ) → k + (x + y) ≡ k + y + x
    turned k x y = omega arith
