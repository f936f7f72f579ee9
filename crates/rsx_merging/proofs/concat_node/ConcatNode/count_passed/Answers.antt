use Rattle.std.proofs.Common.{ap, ◌∙◌}
use Rattle.rsx_merging.proofs.Through.{counted_all}
use Rattle.rsx_merging.proofs.concat_node.ConcatNode.count_passed.Goals as goal

pub returns : goal.returns
returns g c =
    let n = c.args.self.now in
    ap (λ k. record { endings = n.endings; output = n.output; earlier = n.earlier; current = k }) c.saturating_total-self.ensures ∙ counted_all n c.args.items c.if-items-eq0.false
