use Rattle.std.proofs.Common.{refl}
use Rattle.rsx_serialized.proofs.Passing.{sent_passed}
use Rattle.rsx_serialized.proofs.ends.ToTap.send.Goals as goal

pub returns-clause-passed : goal.returns-clause-passed
returns-clause-passed g c h = sent_passed c.args.self.now _ c.args.signal refl c.put.ensures.same.1 c.put.ensures.same.2 c.put.ensures.sent c.put.ensures.room h
