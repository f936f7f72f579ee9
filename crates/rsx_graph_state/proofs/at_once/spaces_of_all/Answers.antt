use Rattle.std.proofs.Common.{◌+◌, ◌∙◌, arith, sym}
use Rattle.std.proofs.lemmas.List.{at_drop_all}
use Rattle.rsx_graph_state.specs.AtOnce as spec
use Rattle.rsx_graph_state.proofs.AllAtOnce.{spaces_next, spaces_past}
use Rattle.rsx_graph_state.proofs.Skipping.{unread_between}
use Rattle.rsx_graph_state.proofs.at_once.spaces_of_all.Goals as goal

pub walk-init : goal.walk-init
walk-init g c =
    let xs = c.args.subscriptions.now in
    let h = c.args.number in
    let n = c.next-at.result in
    sym (spaces_past g.N.Machine g.N.Batches.spaces_of h c.args.most 0 n xs (omega arith) (unread_between g.N.Machine h 0 n c.args.skipped.now xs c.requires.unread c.next-at.ensures.passed))

pub walk-preserved : goal.walk-preserved
walk-preserved g c =
    let xs = c.args.subscriptions.now in
    let h = c.args.number in
    let at = c.walk.at in
    let n = c.next-at-in-walk.result in
    let left = c.spaces_for-left.result in
    let none = unread_between g.N.Machine h (at + 1) n c.args.skipped.now xs c.requires.unread c.next-at-in-walk.ensures.passed in
    sym (spaces_past g.N.Machine g.N.Batches.spaces_of h left (at + 1) n xs c.next-at-in-walk.ensures.above none)
    ∙ (sym (spaces_next g.N.Machine g.N.Batches.spaces_of h c.walk.left left at xs c.index-subscriptions-at.result c.walk-test.true c.index-subscriptions-at.is c.spaces_for-left.ensures) ∙ c.walk.invariant)

pub returns : goal.returns
returns g c = sym (at_drop_all (spec.spaces_of_all g.N.Machine g.N.Batches.spaces_of c.args.number c.walk.left) c.args.subscriptions.now c.walk.at c.walk-test.false) ∙ c.walk.invariant
