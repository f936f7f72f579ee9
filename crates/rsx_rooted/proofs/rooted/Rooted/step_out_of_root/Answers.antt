use Rattle.std.proofs.Common.{◌≡◌, ℕ, ◌-◌, ◌*◌, ◌≤◌, true, length, arith, rules, subst}
use Rattle.rsx_rooted.specs.Items.{carried, room}
use Rattle.rsx_tree.specs.Prelude.{edge_view}
use Rattle.rsx_rooted.proofs.ManyFetched.{are_fetched}
use Rattle.rsx_rooted.proofs.OverEdges.{items_popped}
use Rattle.rsx_rooted.proofs.rooted.Rooted.step_out_of_root.Goals as goal

pub returns-clause-yes : goal.returns-clause-yes
returns-clause-yes g c = λ e.
    let m = g.O.Ops.meaning c.args.ops.now in
    let yes = c.if-not-step_items.false in
    let root = c.args.self.now.root in
    let tree = c.args.self.now.tree in
    let items = c.step_items.new.items.items in
    let most = c.step_items.ensures.most in
    let fewer = c.min-fewer.ensures in
    let within = c.requires.room in
    let many : c.len-stepped.result ≡ length items = search rules in
    let fits : length items ≤ room (edge_view root) = omega (arith, most, fewer, within) in
    let C : ℕ → Type 0 = λ n. edge_view c.carry_all.new.edge ≡ carried (edge_view root) n in
    let over : C (length items) = subst C many c.carry_all.ensures in
    let run = items_popped g.M.Machine m true items 0 root.demand.asked root.demand.sent tree.machine c.step_items.new.self tree.inputs (c.step_items.ensures.yes yes) in
    are_fetched g.M.Machine m true items (length items) c.args.left.now (c.args.left.now - 2 * c.len-stepped.result) tree.machine c.step_items.new.self tree.inputs tree.inputs root c.carry_all.new.edge
    run (omega (arith, many, most, fewer)) fits over
