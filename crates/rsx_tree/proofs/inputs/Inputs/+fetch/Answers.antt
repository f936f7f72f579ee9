use Rattle.std.proofs.Common.{◌≡◌, ◌∙◌, true, refl, arith, rules}
use Rattle.std.specs.Box.{with_value}
use Rattle.rsx_tree.specs.Inputs.{size}
use Rattle.rsx_tree.specs.declared.inputs.Inputs.TheViews.{More}
use Rattle.rsx_tree.proofs.Changes.{Rest}
use Rattle.rsx_tree.proofs.Drives.{IsUnderWay, size_run, under_way_asked}
use Rattle.rsx_tree.proofs.Fetches.{below_smaller, fetched_beside, fetched_none, fetched_then, handed_back, handed_item, handed_kept, pulled_from, pulled_item, pulled_moved, pulled_run, pulled_step, pulled_step_out, run_over}
use Rattle.rsx_tree.proofs.Popped.{item_out_of}
use Rattle.rsx_tree.proofs.inputs.Inputs.+fetch.Goals as goal

pub fetch-returns-then-left-eq0 : goal.fetch-returns-then-left-eq0
fetch-returns-then-left-eq0 g t c =
    fetched_none g.M.Machine (g.O.Ops.meaning c.args.ops.now) c.args.input c.args.asked c.args.sent c.args.left.now c.args.receiver.now c.args.self.now c.items.left c.items.receiver _ (c.items.invariant.0 c.in-More.field-3 c.in-More.is)

pub fetch-items-preserved-in-Ok : goal.fetch-items-preserved-in-Ok
fetch-items-preserved-in-Ok g t c =
    let some = c.if-left-eq0.false in (
      λ beside is.
          under_way_asked g.M.Machine (g.O.Ops.meaning c.args.ops.now) true c.args.input c.args.asked c.args.sent c.args.left.now c.items.left c.args.receiver.now c.args.self.now c.items.receiver c.items.receiver c.items.edge c.ask_over.new.edge c.items.sender c.items.sender c.items.below beside
          (c.items.invariant.0 beside is) (omega (arith, some)) c.in-Ok.ensures.made,
      c.items.invariant.1,
    )

pub fetch-returns-in-Err : goal.fetch-returns-in-Err
fetch-returns-in-Err g t c =
    let u = c.items.invariant.0 _ c.in-More.is in
    fetched_none g.M.Machine (g.O.Ops.meaning c.args.ops.now) c.args.input c.args.asked c.args.sent c.args.left.now c.args.receiver.now c.args.self.now c.items.left c.items.receiver _ (rw c.in-Err.ensures.same u)

pub fetch-returns-in-Item-hand_over : goal.fetch-returns-in-Item-hand_over
fetch-returns-in-Item-hand_over g t c =
    let m = g.O.Ops.meaning c.args.ops.now in
    let e = c.in-Item.ensures in
    let u = run_over g.M.Machine m c.args.input c.args.asked c.args.sent c.args.left.now c.items.left c.pull.new.left e.0 c.args.receiver.now c.args.self.now c.items.receiver c.items.edge c.items.sender e.1 c.items.below c.in-More.field-3 c.deref_mut.result.now c.pull.new.self
    (c.items.invariant.0 c.in-More.field-3 c.in-More.is) c.deref_mut.ensures.value e.2 e.3 in
    handed_item g.M.Machine m c.args.input c.args.asked c.args.sent c.args.left.now c.pull.new.left c.hand_over.new.left c.args.receiver.now c.args.self.now c.items.receiver c.hand_over.new.receiver c.items.edge c.hand_over.new.edge e.1 c.hand_over.new.sender (with_value c.items.below c.pull.new.self) c.in-More.field-3 c.in-Item-hand_over.item
    u (c.in-Item-hand_over.ensures e.1 e.4)

pub fetch-items-preserved-in-Kept : goal.fetch-items-preserved-in-Kept
fetch-items-preserved-in-Kept g t c =
    let m = g.O.Ops.meaning c.args.ops.now in
    let e = c.in-Item.ensures in
    let on : (beside : Rest _) → c.args.self.now ≡ More c.in-More.edge c.in-More.sender c.in-More.below beside →
    IsUnderWay g.M.Machine m true c.args.input c.args.asked c.args.sent c.args.left.now c.args.receiver.now c.args.self.now c.hand_over.new.left c.hand_over.new.receiver (More c.hand_over.new.edge c.hand_over.new.sender (with_value c.items.below c.pull.new.self) beside) =
    λ beside is.
    (let u = run_over g.M.Machine m c.args.input c.args.asked c.args.sent c.args.left.now c.items.left c.pull.new.left e.0 c.args.receiver.now c.args.self.now c.items.receiver c.items.edge c.items.sender e.1 c.items.below beside c.deref_mut.result.now c.pull.new.self
    (c.items.invariant.0 beside is) c.deref_mut.ensures.value e.2 e.3 in
    handed_kept g.M.Machine m c.args.input c.args.asked c.args.sent c.args.left.now c.pull.new.left c.hand_over.new.left c.args.receiver.now c.args.self.now c.items.receiver c.hand_over.new.receiver c.items.edge c.hand_over.new.edge e.1 c.hand_over.new.sender (with_value c.items.below c.pull.new.self) beside
    u (c.in-Kept.ensures e.1 e.4)) in (
      on,
      below_smaller g.M.Machine m c.args.input c.args.asked c.args.sent c.args.left.now c.args.receiver.now c.args.self.now c.hand_over.new.left c.hand_over.new.receiver c.hand_over.new.edge c.hand_over.new.sender (with_value c.items.below c.pull.new.self) c.in-More.field-3 (on c.in-More.field-3 c.in-More.is),
    )

pub fetch-returns-in-Back : goal.fetch-returns-in-Back
fetch-returns-in-Back g t c =
    let m = g.O.Ops.meaning c.args.ops.now in
    let e = c.in-Item.ensures in
    let u = run_over g.M.Machine m c.args.input c.args.asked c.args.sent c.args.left.now c.items.left c.pull.new.left e.0 c.args.receiver.now c.args.self.now c.items.receiver c.items.edge c.items.sender e.1 c.items.below c.in-More.field-3 c.deref_mut.result.now c.pull.new.self
    (c.items.invariant.0 c.in-More.field-3 c.in-More.is) c.deref_mut.ensures.value e.2 e.3 in
    fetched_none g.M.Machine m c.args.input c.args.asked c.args.sent c.args.left.now c.args.receiver.now c.args.self.now c.hand_over.new.left c.hand_over.new.receiver _
    (handed_back g.M.Machine m c.args.input c.args.asked c.args.sent c.args.left.now c.pull.new.left c.hand_over.new.left c.args.receiver.now c.args.self.now c.items.receiver c.hand_over.new.receiver c.items.edge c.hand_over.new.edge e.1 c.hand_over.new.sender (with_value c.items.below c.pull.new.self) c.in-More.field-3
    u (c.in-Back.ensures e.1 e.4))

pub fetch-items-preserved : goal.fetch-items-preserved
fetch-items-preserved g t c =
    let m = g.O.Ops.meaning c.args.ops.now in
    let e = c.in-Moved.ensures in
    let on : (beside : Rest _) → c.args.self.now ≡ More c.in-More.edge c.in-More.sender c.in-More.below beside →
    IsUnderWay g.M.Machine m true c.args.input c.args.asked c.args.sent c.args.left.now c.args.receiver.now c.args.self.now c.pull.new.left c.items.receiver (More c.items.edge c.pull.new.sender (with_value c.items.below c.pull.new.self) beside) =
    λ beside is.
    run_over g.M.Machine m c.args.input c.args.asked c.args.sent c.args.left.now c.items.left c.pull.new.left e.0 c.args.receiver.now c.args.self.now c.items.receiver c.items.edge c.items.sender c.pull.new.sender c.items.below beside c.deref_mut.result.now c.pull.new.self
    (c.items.invariant.0 beside is) c.deref_mut.ensures.value e.1 e.3 in (
      on,
      below_smaller g.M.Machine m c.args.input c.args.asked c.args.sent c.args.left.now c.args.receiver.now c.args.self.now c.pull.new.left c.items.receiver c.items.edge c.pull.new.sender (with_value c.items.below c.pull.new.self) c.in-More.field-3 (on c.in-More.field-3 c.in-More.is),
    )

pub fetch-returns-in-Nothing : goal.fetch-returns-in-Nothing
fetch-returns-in-Nothing g t c =
    let m = g.O.Ops.meaning c.args.ops.now in
    let e = c.in-Nothing.ensures in
    fetched_none g.M.Machine m c.args.input c.args.asked c.args.sent c.args.left.now c.args.receiver.now c.args.self.now c.pull.new.left c.items.receiver _
    (run_over g.M.Machine m c.args.input c.args.asked c.args.sent c.args.left.now c.items.left c.pull.new.left e.0 c.args.receiver.now c.args.self.now c.items.receiver c.items.edge c.items.sender c.pull.new.sender c.items.below c.in-More.field-3 c.deref_mut.result.now c.pull.new.self
    (c.items.invariant.0 c.in-More.field-3 c.in-More.is) c.deref_mut.ensures.value e.1 e.2)

pub fetch_beside-returns-in-Some : goal.fetch_beside-returns-in-Some
fetch_beside-returns-in-Some g t c =
    rw c.in-More.is (fetched_beside g.M.Machine (g.O.Ops.meaning c.args.ops.now) c.args.input c.in-Some.next c.args.asked c.args.sent c.args.left.now c.fetch_row.new.left c.args.receiver.now c.fetch_row.new.receiver c.in-More.field-0 c.in-More.field-1 c.in-More.field-2 c.in-More.beside c.deref_mut.result.now c.fetch_row.new.self c.fetch_row.result
    c.in-Some.ensures.1 c.deref_mut.ensures.value c.fetch_row.ensures)

pub fetch_row-fetch_beside-requires : goal.fetch_row-fetch_beside-requires
fetch_row-fetch_beside-requires g t c κs within =
    let e = c.in-None.ensures in
    let same : size c.fetch.new.self ≡ size c.args.self.now = size_run g.M.Machine (g.O.Ops.meaning c.args.ops.now) true e.0 c.args.input c.args.asked c.args.sent c.args.receiver.now c.fetch.new.receiver c.args.self.now c.fetch.new.self e.2 in
    search (same, rules)

pub fetch_row-returns-in-None : goal.fetch_row-returns-in-None
fetch_row-returns-in-None g t c =
    fetched_then g.M.Machine (g.O.Ops.meaning c.args.ops.now) c.args.input c.args.asked c.args.sent c.args.left.now c.fetch.new.left c.fetch_beside.new.left c.args.receiver.now c.fetch.new.receiver c.fetch_beside.new.receiver c.args.self.now c.fetch.new.self c.fetch_beside.new.self c.fetch_beside.result
    c.in-None.ensures c.fetch_beside.ensures

pub pull-returns-in-Ok-true : goal.pull-returns-in-Ok-true
pull-returns-in-Ok-true g t c =
    let some = c.if-left-eq0.false in
    let none = c.in_default-step_item_over.ensures.out in
    pulled_step g.M.Machine (g.O.Ops.meaning c.args.ops.now) c.args.left.now c.args.edge.now c.args.sender.now c.step_item_over.new.node c.step_over.new.node c.args.self.now c.step_item_over.new.below c.step_over.new.below (omega (arith, some)) (none.0 ∙ c.in_default.ensures.none) none.1 (c.in-Ok-true.ensures.made c.in-Ok-true.field-0-test)

pub pull-returns-then-never_steps : goal.pull-returns-then-never_steps
pull-returns-then-never_steps g t c =
    pulled_from g.M.Machine (g.O.Ops.meaning c.args.ops.now) c.args.left.now c.pull_below.new.left c.args.edge.now c.args.sender.now c.pop_item.new.self c.pull_below.new.sender c.args.self.now c.args.self.now c.pull_below.new.self c.pull_below.result c.in_default.ensures.none refl c.pull_below.ensures

pub pull-returns : goal.pull-returns
pull-returns g t c =
    let still = c.in-Ok-false.ensures.same c.in-Ok-false.field-0-test in
    let none = c.in_default-step_item_over.ensures.out in
    pulled_from g.M.Machine (g.O.Ops.meaning c.args.ops.now) c.args.left.now c.pull_below-2.new.left c.args.edge.now c.args.sender.now c.step_over.new.node c.pull_below-2.new.sender c.args.self.now c.step_over.new.below c.pull_below-2.new.self c.pull_below-2.result
    (still.0 ∙ none.0 ∙ c.in_default.ensures.none) (still.1 ∙ none.1) c.pull_below-2.ensures

pub pull_below-returns-in-Some : goal.pull_below-returns-in-Some
pull_below-returns-in-Some g t c =
    pulled_item g.M.Machine (g.O.Ops.meaning c.args.ops.now) c.args.left.now c.fetch_row.new.left c.args.edge.now c.args.sender.now c.args.sender.now c.fetch_row.new.receiver c.args.self.now c.args.self.now c.fetch_row.new.self c.in-Some.item
    refl refl c.in-Some.ensures

pub pull_below-returns-else-left-before : goal.pull_below-returns-else-left-before
pull_below-returns-else-left-before g t c =
    pulled_moved g.M.Machine (g.O.Ops.meaning c.args.ops.now) c.args.left.now c.fetch_row.new.left c.args.edge.now c.args.sender.now c.fetch_row.new.receiver c.args.self.now c.fetch_row.new.self c.if-left-before.false
    (pulled_run g.M.Machine (g.O.Ops.meaning c.args.ops.now) c.args.left.now c.fetch_row.new.left c.args.edge.now c.args.sender.now c.args.sender.now c.fetch_row.new.receiver c.args.self.now c.args.self.now c.fetch_row.new.self refl refl c.in-None.ensures)

pub pull-returns-in-Some-step_item_over : goal.pull-returns-in-Some-step_item_over
pull-returns-in-Some-step_item_over g t c =
    let some = c.if-left-eq0.false in
    pulled_step_out g.M.Machine (g.O.Ops.meaning c.args.ops.now) c.args.left.now c.args.edge.now c.args.sender.now c.pop_item.new.self c.step_item_over.new.node c.args.self.now c.step_item_over.new.below c.in-Some-step_item_over.item (omega (arith, some)) c.in_default.ensures.none c.in-Some-step_item_over.ensures.out

pub fetch-items-smaller-in-Kept : goal.fetch-items-smaller-in-Kept
fetch-items-smaller-in-Kept g t c =
    let e = c.in-Item.ensures in
    let h = c.in-Kept.ensures e.1 e.4 in
    let one = h.0 in
    let spent = e.2 in
    omega (arith, one, spent)

pub pull-returns-in-Some : goal.pull-returns-in-Some
pull-returns-in-Some g t c = (
  0,
  c.args.sender.now,
  omega arith,
  (λ r i asked sent p q beside. refl),
  item_out_of g.M.Machine (g.O.Ops.meaning c.args.ops.now) c.args.sender.now c.pop_item.new.self (g.M.Machine.popping c.args.sender.now) c.in-Some.item refl c.in-Some.ensures.some c.in-Some.ensures.alike,
)
