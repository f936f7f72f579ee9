use Rattle.rsx_plain.proofs.Drained.{item_out, item_is_none}
use Rattle.rsx_plain.proofs.rest.put_behind.Goals as goal

pub returns-in_ok-push-in-Some-Next-clause-moves : goal.returns-in_ok-push-in-Some-Next-clause-moves
returns-in_ok-push-in-Some-Next-clause-moves g c =
    item_out c.args.out.now.items c.push.new.self.items c.args.signal c.in-Some-Next.field-0 c.in-Some-Next.item c.in-Some-Next.is c.in-Some-Next.field-0-is c.in_ok-push-in-Some-Next.ensures.items

pub returns-in_ok-push-in-Some-Next-clause-ended : goal.returns-in_ok-push-in-Some-Next-clause-ended
returns-in_ok-push-in-Some-Next-clause-ended g c = item_is_none c.args.signal c.in-Some-Next.field-0 c.in-Some-Next.item _ c.in-Some-Next.is c.in-Some-Next.field-0-is
