use Rattle.std.proofs.lemmas.Result.{IfOk-weaker}
use Rattle.rsx_tree.proofs.Idles.{asked_enough}
use Rattle.rsx_subscriber.proofs.Sentence.{still_owed}
use Rattle.rsx_subscriber.proofs.subscription.Subscription.owed.Goals as goal

pub returns : goal.returns
returns g c = IfOk-weaker c.behind.result _ _ (λ v e. still_owed g.N.Machine (λ m. (g.met.N.Machine.settles m, g.met.N.Machine.ending_waits m, g.met.N.Nodes.rests m, asked_enough g.N.Machine m (g.met.N.Machine.shows m) g.met.N.Machine.asked_enough)) (g.O.Ops.meaning c.args.ops.now) c.args.inboxes.now c.args.self.now c.in_ok-rest.rest v c.in_ok-rest.ensures e) c.behind.ensures
