use Rattle.std.proofs.Common.{None, sym, ap, ◌∙◌, rules}
use Rattle.rsx_combining.specs.Latest.{LatestState, completed}
use Rattle.rsx_combining.proofs.Takes.{IsTaken, taken_as, item_taken, completion_taken, failure_taken}
use Rattle.rsx_combining.proofs.latest.CombineLatestNode.take_picked.Goals as goal

pub returns-in-Some-Next : goal.returns-in-Some-Next
returns-in-Some-Next g c =
    let start : LatestState g.row.T.Denot = record { inputs = c.self.inside.inputs.items; latest = c.self.inside.latest; output = c.self.inside.output; choices = c.self.inside.choices } in
    let p : IsTaken start c.args.self.now c.args.at c.take.result c.index_mut.result.now c.take.new.self = record { same = c.self.view_is; there = c.requires.there; was = c.index_mut.ensures.value; signal = c.take.ensures.signal; state = c.take.ensures.state } in
    item_taken start c.args.self.now c.args.at c.take.result c.in-Some-Next.field-0 c.in-Some-Next.item c.index_mut.result.now c.take.new.self c.put.new.self p c.in-Some-Next.is c.in-Some-Next.field-0-is c.put.ensures

pub returns-then-completes : goal.returns-then-completes
returns-then-completes g c =
    let start : LatestState g.row.T.Denot = record { inputs = c.self.inside.inputs.items; latest = c.self.inside.latest; output = c.self.inside.output; choices = c.self.inside.choices } in
    let p : IsTaken start c.args.self.now c.args.at c.take.result c.index_mut.result.now c.take.new.self = record { same = c.self.view_is; there = c.requires.there; was = c.index_mut.ensures.value; signal = c.take.ensures.signal; state = c.take.ensures.state } in
    completion_taken start c.args.self.now c.args.at None c.take.result c.in-Some-Complete.field-0 c.index_mut.result.now c.take.new.self c.completes.result c.put-then-completes.new.self p c.in-Some-Complete.is c.in-Some-Complete.field-0-is c.completes.ensures (c.put-then-completes.ensures ∙ ap (λ t. completed t start.output) (sym c.if-completes.true))

pub returns-else-completes : goal.returns-else-completes
returns-else-completes g c =
    let start : LatestState g.row.T.Denot = record { inputs = c.self.inside.inputs.items; latest = c.self.inside.latest; output = c.self.inside.output; choices = c.self.inside.choices } in
    let p : IsTaken start c.args.self.now c.args.at c.take.result c.index_mut.result.now c.take.new.self = record { same = c.self.view_is; there = c.requires.there; was = c.index_mut.ensures.value; signal = c.take.ensures.signal; state = c.take.ensures.state } in
    completion_taken start c.args.self.now c.args.at None c.take.result c.in-Some-Complete.field-0 c.index_mut.result.now c.take.new.self c.completes.result c.self.inside.output p c.in-Some-Complete.is c.in-Some-Complete.field-0-is c.completes.ensures (ap (λ t. completed t start.output) (sym c.if-completes.false))

pub returns-in-Some-Error : goal.returns-in-Some-Error
returns-in-Some-Error g c =
    let start : LatestState g.row.T.Denot = record { inputs = c.self.inside.inputs.items; latest = c.self.inside.latest; output = c.self.inside.output; choices = c.self.inside.choices } in
    let p : IsTaken start c.args.self.now c.args.at c.take.result c.index_mut.result.now c.take.new.self = record { same = c.self.view_is; there = c.requires.there; was = c.index_mut.ensures.value; signal = c.take.ensures.signal; state = c.take.ensures.state } in
    failure_taken start c.args.self.now c.args.at None c.take.result c.in-Some-Error.field-0 c.in-Some-Error.cause c.index_mut.result.now c.take.new.self c.put-in-Some-Error.new.self p c.in-Some-Error.is c.in-Some-Error.field-0-is c.put-in-Some-Error.ensures

pub returns-in-None : goal.returns-in-None
returns-in-None g c =
    let start : LatestState g.row.T.Denot = record { inputs = c.self.inside.inputs.items; latest = c.self.inside.latest; output = c.self.inside.output; choices = c.self.inside.choices } in
    let p : IsTaken start c.args.self.now c.args.at c.take.result c.index_mut.result.now c.take.new.self = record { same = c.self.view_is; there = c.requires.there; was = c.index_mut.ensures.value; signal = c.take.ensures.signal; state = c.take.ensures.state } in
    taken_as start c.args.self.now c.args.at None c.take.result None c.index_mut.result.now c.take.new.self p c.in-None.is

pub index_mut-requires : goal.index_mut-requires
index_mut-requires g c = search rules

pub invariant_of-self-in-Some-Complete : goal.invariant_of-self-in-Some-Complete
invariant_of-self-in-Some-Complete g c = search rules

pub put-requires-then-completes : goal.put-requires-then-completes
put-requires-then-completes g c = search rules

pub invariant_of-self-then-completes : goal.invariant_of-self-then-completes
invariant_of-self-then-completes g c = search rules

pub invariant_of-self-else-completes : goal.invariant_of-self-else-completes
invariant_of-self-else-completes g c = search rules

pub put-requires-in-Some-Error : goal.put-requires-in-Some-Error
put-requires-in-Some-Error g c = search rules

pub invariant_of-self-in-Some-Error : goal.invariant_of-self-in-Some-Error
invariant_of-self-in-Some-Error g c = search rules

pub invariant_of-self-in-None : goal.invariant_of-self-in-None
invariant_of-self-in-None g c = search rules
