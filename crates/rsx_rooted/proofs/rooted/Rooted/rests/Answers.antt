use Rattle.std.proofs.Common.{◌&&◌, ap, ◌∙◌}
use Rattle.std.proofs.Math.Bool.{and-false}
use Rattle.rsx_tree.proofs.Drives.{idle_tree}
use Rattle.rsx_rooted.proofs.Parts.{quiet_when}
use Rattle.rsx_rooted.proofs.rooted.Rooted.rests.Goals as goal

pub returns-in-Some : goal.returns-in-Some
returns-in-Some g c = λ m room yes.
    let tree = c.args.self.now.tree in
    quiet_when g.M.Machine m c.args.self.now room (ap (λ x. room && x) (c.in-Some.ensures.stays m) ∙ and-false room) (idle_tree g.M.Machine m tree.machine tree.inputs c.args.self.now.root.demand.asked c.args.self.now.root.demand.sent (c.rests_in.ensures m yes)) c.in-Some.ensures.still
