use Rattle.std.proofs.Common.{◌≡◌, true, rules}
use Rattle.rsx_hub.specs.Member.{takes, took}
use Rattle.rsx_hub.proofs.Rests.{took_rest}
use Rattle.rsx_hub.proofs.member.Member.take_in.Goals as goal

pub returns-clause-value : goal.returns-clause-value
returns-clause-value g c = λ w next.
    let taken : takes c.args.self.now c.args.signal ≡ true = search rules in
    let after : c.match-signal.self ≡ took c.args.self.now c.args.signal = search rules in
    rw after (took_rest c.args.self.now c.args.signal taken w next)

pub returns-then-not-can_take_in-clause-enabled : goal.returns-then-not-can_take_in-clause-enabled
returns-then-not-can_take_in-clause-enabled g c = search rules

pub returns-then-not-can_take_in-clause-ok : goal.returns-then-not-can_take_in-clause-ok
returns-then-not-can_take_in-clause-ok g c = search rules
