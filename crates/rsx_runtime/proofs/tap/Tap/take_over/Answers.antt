use Rattle.std.proofs.Common.{◌∙◌, sym, ap}
use Rattle.rsx_runtime.specs.Standing.{is_over}
use Rattle.rsx_runtime.proofs.Signals.{given_orderly, giving_goes_on, still_unended, told_now}
use Rattle.rsx_runtime.proofs.tap.Tap.take_over.Goals as goal

pub invariant_of-self-2 : goal.invariant_of-self-2
invariant_of-self-2 g c =
    let was = c.args.self.now.«open» (giving_goes_on c.args.self.now.state (sym c.is_giving.ensures ∙ c.if-not-is_giving.false)) in
    let signal = c.in_ok-signal.signal in
    record {
      «open» = λ e. (still_unended _ _ signal c.args.self.now.state c.in_ok-signal.ensures.some.received was.0 (sym (ap is_over c.state_after-self.ensures) ∙ e), was.1);
      orderly = given_orderly _ _ signal _ c.in_ok-signal.ensures.some.received was.0 was.1;
      told = c.is_ending-self.ensures ∙ told_now _ _ signal c.in_ok-signal.ensures.some.received was.0;
    }
