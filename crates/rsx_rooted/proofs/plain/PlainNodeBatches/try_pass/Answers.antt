use Rattle.std.proofs.Common.{◌≡◌, [], ap, sym, ◌∙◌, refl, subst, rules}
use Rattle.rsx_plain.specs.declared.node.PlainNode.{PlainNode}
use Rattle.rsx_rooted.specs.Items.{IsOut}
use Rattle.rsx_rooted.specs.Items.{ArePassed, IsIn}
use Rattle.rsx_rooted.specs.Machines.{plain_machine}
use Rattle.rsx_rooted.proofs.OverEdges.{passed_length}
use Rattle.rsx_rooted.proofs.Plains.{all_passed}
use Rattle.rsx_rooted.proofs.plain.PlainNodeBatches.try_pass.Goals as goal

pub returns-in-true-clause-passed : goal.returns-in-true-clause-passed
returns-in-true-clause-passed g c = λ new w.
    let m = g.O.Ops.meaning c.args.ops.now in
    let first : c.args.input ≡ 0 = search rules in
    let empty : c.args.self.now.slot ≡ [] = search rules in
    let old = c.in-Some.state in
    let is = c.pass_all.new.self in
    let from : record { state = old; slot = [] } ≡ c.args.self.now = ap (λ s. record { state = s; slot = [] }) c.in-Some.ensures ∙ ap (λ l. record { state = c.args.self.now.state; slot = l }) (sym empty) in
    let to : record { state = is; slot = [] } ≡ new = ap (λ l. record { state = is; slot = l }) (sym c.new.ensures) ∙ sym w in
    let P : PlainNode g.row.T.Denot → PlainNode g.row.T.Denot → Type 0 = λ a b. ArePassed (IsIn plain_machine m c.args.input) (IsOut plain_machine m) a c.args.items.now.items c.pass_all.new.items.items b in
    subst (λ a. P a new) from (subst (P (record { state = old; slot = [] })) to (all_passed m c.args.input old is c.args.items.now.items c.pass_all.new.items.items first (c.pass_all.ensures c.in-true.is)))

pub returns-in-true-clause-most : goal.returns-in-true-clause-most
returns-in-true-clause-most g c =
    let m = g.O.Ops.meaning c.args.ops.now in
    let xs = c.args.items.now.items in
    let ys = c.pass_all.new.items.items in
    let old = c.in-Some.state in
    let new = c.pass_all.new.self in
    passed_length (IsIn plain_machine m 0) (IsOut plain_machine m) xs ys (record { state = old; slot = [] }) (record { state = new; slot = [] }) (all_passed m 0 old new xs ys refl (c.pass_all.ensures c.in-true.is))
