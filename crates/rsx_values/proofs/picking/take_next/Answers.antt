use Rattle.std.proofs.Common.{◌≡◌, ◌<◌, ◌≤◌, length, nat_eq, true, false, rules, sym, ap, ◌∙◌, arith}
use Rattle.rsx_values.specs.Pick.{next_of}
use Rattle.rsx_values.proofs.Places.{takes_next, not_among_more, not_among}
use Rattle.rsx_values.proofs.picking.take_next.Goals as goal

pub returns-then-index-choice : goal.returns-then-index-choice
returns-then-index-choice g c =
    let is = c.loop-at.inputs.items in
    let i = c.index.result.now in
    let within : c.loop-at.at < length is = omega arith in
    let test : nat_eq c.args.choice i.0 ≡ true = search rules in
    let found = takes_next c.args.choice is c.loop-at.at i _ _ within (sym c.index.ensures) c.loop-at.invariant.earlier test (c.take_at.ensures i (sym c.index.ensures)) in
    rw c.loop-at.invariant.same at found

pub loop-at-preserved : goal.loop-at-preserved
loop-at-preserved g c =
    let is = c.loop-at.inputs.items in
    let i = c.index.result.now in
    let within : c.loop-at.at < length is = omega arith in
    let test : nat_eq c.args.choice i.0 ≡ false = search rules in
    record {
      same = c.loop-at.invariant.same;
      earlier = not_among_more c.args.choice is c.loop-at.at i within (sym c.index.ensures) test c.loop-at.invariant.earlier;
    }

pub returns : goal.returns
returns g c =
    let is = c.loop-at.inputs.items in
    let over : length is ≤ c.loop-at.at = omega arith in
    ap (next_of c.args.choice) (sym c.loop-at.invariant.same) ∙ not_among c.args.choice is c.loop-at.at over c.loop-at.invariant.earlier
