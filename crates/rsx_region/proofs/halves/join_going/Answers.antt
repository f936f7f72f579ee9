use Rattle.std.proofs.Common.{Bool, ℕ, ◌++◌, ap, subst, sym, ◌∙◌}
use Rattle.rsx_link.specs.Ends.{received_signals}
use Rattle.rsx_region.specs.Joins.{IsPutBack, IsShutUnless}
use Rattle.rsx_region.proofs.halves.join_going.Goals as goal

pub returns-clause-put : goal.returns-clause-put
returns-clause-put g c =
    let can = c.requires.can in
    let S : Bool → Type 0 = λ l. IsShutUnless g.N.Machine l c.args.below.piece.part c.shut_unless-lower.result in
    let P : ℕ → Type 0 = λ h. IsPutBack g.N.Machine g.N.CrossingNodes c.args.part.now c.args.below.at h c.close-closed.result.remaining c.shut_unless-lower.result c.put_back.new.part in
    record {
      there = can.there;
      is = can.is;
      below = c.shut_unless-lower.result;
      shut = subst S (c.is_live_at-is_live.ensures can.there can.is) c.shut_unless-lower.ensures;
      remaining = c.close-closed.result.remaining;
      all = ap (λ d. received_signals d ++ c.close-closed.result.remaining) (sym c.into_ends-down.ensures.0) ∙ c.close-closed.ensures.closes.signals;
      put = subst P c.from-hub.ensures c.put_back.ensures.put;
    }
