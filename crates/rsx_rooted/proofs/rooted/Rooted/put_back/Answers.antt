use Rattle.rsx_rooted.proofs.Sends.{was_before}
use Rattle.rsx_rooted.proofs.rooted.Rooted.put_back.Goals as goal

pub returns : goal.returns
returns g c = λ m before k. was_before g.M.Machine m before c.args.self.now c.args.signal c.put_back.new.self c.before-self.result k c.put_back.ensures c.before-self.ensures
