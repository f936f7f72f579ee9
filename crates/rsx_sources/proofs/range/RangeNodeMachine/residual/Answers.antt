use Rattle.std.proofs.Common.{rules, ◌≡◌, pos, ◌+ℤ◌, ◌++◌, ◌∷◌, [], ap, ◌∙◌}
use Rattle.rsx_sources.proofs.Ranges.{makes_next}
use Rattle.rsx_sources.proofs.range.RangeNodeMachine.residual.Goals as goal

pub loop-at-preserved : goal.loop-at-preserved
loop-at-preserved g c =
    let m = g.O.Ops.meaning c.args.ops.now in
    let item : c.in_ok-item.item ≡ m.number (c.args.self.now.first +ℤ pos c.loop-at.at) = search rules in
    record {
      made = makes_next m c.args.self.now.first c.loop-at.at c.args.self.now.count c.loop-at.left.items c.push_reserved.new.self.items _ c.loop-at-test.true (c.push_reserved.ensures.items ∙ ap (λ v. c.loop-at.left.items ++ (v ∷ [])) item) c.loop-at.invariant.made;
      room = search rules;
      counted = search rules;
    }

pub returns : goal.returns
returns g c = search rules
