use Rattle.std.proofs.Common.{Bool, ◌++◌, ap, subst, sym, ◌∙◌}
use Rattle.rsx_link.specs.Ends.{received_signals}
use Rattle.rsx_region.specs.Joins.{IsShutUnless}
use Rattle.rsx_region.proofs.Halving.{put_ended, same_root_ended}
use Rattle.rsx_region.proofs.halves.join_ended.Goals as goal

pub returns-clause-put : goal.returns-clause-put
returns-clause-put g c =
    let can = c.requires.can in
    let S : Bool → Type 0 = λ l. IsShutUnless g.N.Machine l c.args.below.piece.part c.shut_unless-lower.result in
    record {
      there = can.there;
      is = can.is;
      below = c.shut_unless-lower.result;
      shut = subst S (c.is_live_at-is_live.ensures can.there can.is) c.shut_unless-lower.ensures;
      remaining = c.close.result.remaining;
      all = ap (λ d. received_signals d ++ c.close.result.remaining) (sym c.into_ends-down.ensures.0) ∙ c.close.ensures.closes.signals;
      put = put_ended g.N.Machine g.N.CrossingNodes c.args.part.now c.rejoin_ended.new.self c.shut_unless-lower.result c.args.below.at c.args.below.queue c.rejoin_ended.result c.requires.empty can.takes c.rejoin_ended.ensures.ok c.rejoin_ended.ensures.refused;
    }

pub returns-clause-root : goal.returns-clause-root
returns-clause-root g c = same_root_ended g.N.CrossingNodes c.args.part.now c.rejoin_ended.new.self c.shut_unless-lower.result c.args.below.at c.args.below.queue c.rejoin_ended.result c.rejoin_ended.ensures.ok c.rejoin_ended.ensures.same
