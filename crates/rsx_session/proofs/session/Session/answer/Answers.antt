use Rattle.std.proofs.Common.{rules, ℤ, w64, subst}
use Rattle.std.proofs.lemmas.Int.{to_z-of_z}
use Rattle.rsx_session.specs.Prelude.{AreChoices, AreJoins, IsAsked, IsChecked, IsCounted, IsDrawn, IsExplained, IsFeedExplained, IsViewed, LeadsAll, OnText}
use Rattle.rsx_script.specs.declared.command.Command.TheVariants as command
use Rattle.rsx_session.proofs.Lines.{answered, looked, told}
use Rattle.rsx_session.proofs.session.Session.answer.Goals as goal

pub returns-in-Hub-clause-grows : goal.returns-in-Hub-clause-grows
returns-in-Hub-clause-grows c = rw c.in-Hub.is (answered c.hub.result c.args.self.now.view (command.Hub c.in-Hub.kind c.in-Hub.capacity) _ _ c.write.result c.write.ensures.grows c.hub.ensures.answer c.hub.ensures.err)

pub returns-in-Hub-clause-leads : goal.returns-in-Hub-clause-leads
returns-in-Hub-clause-leads c = rw c.in-Hub.is (told c.hub.result (command.Hub c.in-Hub.kind c.in-Hub.capacity) c.args.self.now c.hub.new.self _ _ c.write.result c.write.ensures.grows c.hub.ensures.leads)

pub returns-in-Feed-clause-grows : goal.returns-in-Feed-clause-grows
returns-in-Feed-clause-grows c = rw c.in-Feed.is (answered c.feed.result c.args.self.now.view (command.Feed c.in-Feed.kind c.in-Feed.capacity c.in-Feed.expr) _ _ c.write-in-Feed.result c.write-in-Feed.ensures.grows c.feed.ensures.answer c.feed.ensures.err)

pub returns-in-Feed-clause-leads : goal.returns-in-Feed-clause-leads
returns-in-Feed-clause-leads c = rw c.in-Feed.is (told c.feed.result (command.Feed c.in-Feed.kind c.in-Feed.capacity c.in-Feed.expr) c.args.self.now c.feed.new.self _ _ c.write-in-Feed.result c.write-in-Feed.ensures.grows c.feed.ensures.leads)

pub returns-in-Emit-clause-grows : goal.returns-in-Emit-clause-grows
returns-in-Emit-clause-grows c = rw c.in-Emit.is (answered c.emit.result c.args.self.now.view (command.Emit c.in-Emit.hub c.in-Emit.number) _ _ c.write-in-Emit.result c.write-in-Emit.ensures.grows c.emit.ensures.answer c.emit.ensures.err)

pub returns-in-Emit-clause-leads : goal.returns-in-Emit-clause-leads
returns-in-Emit-clause-leads c =
    let number = to_z-of_z w64 c.in-Emit.number (search rules) in
    let L : ℤ → Type 0 = λ z. OnText c.emit.result (λ text. LeadsAll (command.Emit c.in-Emit.hub z) c.args.self.now text c.emit.new.self) in
    rw c.in-Emit.is (told c.emit.result (command.Emit c.in-Emit.hub c.in-Emit.number) c.args.self.now c.emit.new.self _ _ c.write-in-Emit.result c.write-in-Emit.ensures.grows (subst L number c.emit.ensures.leads))

pub returns-in-Complete-clause-grows : goal.returns-in-Complete-clause-grows
returns-in-Complete-clause-grows c = rw c.in-Complete.is (answered c.complete.result c.args.self.now.view (command.Complete c.in-Complete.hub) _ _ c.write-in-Complete.result c.write-in-Complete.ensures.grows c.complete.ensures.answer c.complete.ensures.err)

pub returns-in-Complete-clause-leads : goal.returns-in-Complete-clause-leads
returns-in-Complete-clause-leads c = rw c.in-Complete.is (told c.complete.result (command.Complete c.in-Complete.hub) c.args.self.now c.complete.new.self _ _ c.write-in-Complete.result c.write-in-Complete.ensures.grows c.complete.ensures.leads)

pub returns-in-Fail-clause-grows : goal.returns-in-Fail-clause-grows
returns-in-Fail-clause-grows c = rw c.in-Fail.is (answered c.fail.result c.args.self.now.view (command.Fail c.in-Fail.hub c.in-Fail.number) _ _ c.write-in-Fail.result c.write-in-Fail.ensures.grows c.fail.ensures.answer c.fail.ensures.err)

pub returns-in-Fail-clause-leads : goal.returns-in-Fail-clause-leads
returns-in-Fail-clause-leads c = rw c.in-Fail.is (told c.fail.result (command.Fail c.in-Fail.hub c.in-Fail.number) c.args.self.now c.fail.new.self _ _ c.write-in-Fail.result c.write-in-Fail.ensures.grows c.fail.ensures.leads)

pub returns-in-Subscribe-clause-grows : goal.returns-in-Subscribe-clause-grows
returns-in-Subscribe-clause-grows c = rw c.in-Subscribe.is (answered c.subscribe.result c.args.self.now.view (command.Subscribe c.in-Subscribe.expr) _ _ c.write-in-Subscribe.result c.write-in-Subscribe.ensures.grows c.subscribe.ensures.answer c.subscribe.ensures.err)

pub returns-in-Subscribe-clause-leads : goal.returns-in-Subscribe-clause-leads
returns-in-Subscribe-clause-leads c = rw c.in-Subscribe.is (told c.subscribe.result (command.Subscribe c.in-Subscribe.expr) c.args.self.now c.subscribe.new.self _ _ c.write-in-Subscribe.result c.write-in-Subscribe.ensures.grows c.subscribe.ensures.leads)

pub returns-in-Request-clause-grows : goal.returns-in-Request-clause-grows
returns-in-Request-clause-grows c = rw c.in-Request.is (answered c.request.result c.args.self.now.view (command.Request c.in-Request.sub c.in-Request.count) _ _ c.write-in-Request.result c.write-in-Request.ensures.grows c.request.ensures.answer c.request.ensures.err)

pub returns-in-Request-clause-leads : goal.returns-in-Request-clause-leads
returns-in-Request-clause-leads c =
    let number = to_z-of_z w64 c.in-Request.count (search rules) in
    let L : ℤ → Type 0 = λ z. OnText c.request.result (λ text. LeadsAll (command.Request c.in-Request.sub z) c.args.self.now text c.request.new.self) in
    rw c.in-Request.is (told c.request.result (command.Request c.in-Request.sub c.in-Request.count) c.args.self.now c.request.new.self _ _ c.write-in-Request.result c.write-in-Request.ensures.grows (subst L number c.request.ensures.leads))

pub returns-in-Cancel-clause-grows : goal.returns-in-Cancel-clause-grows
returns-in-Cancel-clause-grows c = rw c.in-Cancel.is (answered c.cancel.result c.args.self.now.view (command.Cancel c.in-Cancel.sub) _ _ c.write-in-Cancel.result c.write-in-Cancel.ensures.grows c.cancel.ensures.answer c.cancel.ensures.err)

pub returns-in-Cancel-clause-leads : goal.returns-in-Cancel-clause-leads
returns-in-Cancel-clause-leads c = rw c.in-Cancel.is (told c.cancel.result (command.Cancel c.in-Cancel.sub) c.args.self.now c.cancel.new.self _ _ c.write-in-Cancel.result c.write-in-Cancel.ensures.grows c.cancel.ensures.leads)

pub returns-in-Pump-clause-grows : goal.returns-in-Pump-clause-grows
returns-in-Pump-clause-grows c = rw c.in-Pump.is (answered c.pump.result c.args.self.now.view (command.Pump c.in-Pump.budget) _ _ c.write-in-Pump.result c.write-in-Pump.ensures.grows c.pump.ensures.answer c.pump.ensures.err)

pub returns-in-Pump-clause-leads : goal.returns-in-Pump-clause-leads
returns-in-Pump-clause-leads c = rw c.in-Pump.is (told c.pump.result (command.Pump c.in-Pump.budget) c.args.self.now c.pump.new.self _ _ c.write-in-Pump.result c.write-in-Pump.ensures.grows c.pump.ensures.leads)

pub returns-in-Pick-clause-grows : goal.returns-in-Pick-clause-grows
returns-in-Pick-clause-grows c = rw c.in-Pick.is (answered c.pick.result c.args.self.now.view (command.Pick c.in-Pick.sub c.in-Pick.node c.in-Pick.input) _ _ c.write-in-Pick.result c.write-in-Pick.ensures.grows c.pick.ensures.answer c.pick.ensures.err)

pub returns-in-Pick-clause-leads : goal.returns-in-Pick-clause-leads
returns-in-Pick-clause-leads c = rw c.in-Pick.is (told c.pick.result (command.Pick c.in-Pick.sub c.in-Pick.node c.in-Pick.input) c.args.self.now c.pick.new.self _ _ c.write-in-Pick.result c.write-in-Pick.ensures.grows c.pick.ensures.leads)

pub returns-in-Show-clause-grows : goal.returns-in-Show-clause-grows
returns-in-Show-clause-grows c = rw c.in-Show.is (answered c.show.result c.args.self.now.view (command.Show c.in-Show.sub) _ _ c.write-in-Show.result c.write-in-Show.ensures.grows c.show.ensures.answer c.show.ensures.err)

pub returns-in-Show-clause-leads : goal.returns-in-Show-clause-leads
returns-in-Show-clause-leads c = rw c.in-Show.is (told c.show.result (command.Show c.in-Show.sub) c.args.self.now _ _ _ c.write-in-Show.result c.write-in-Show.ensures.grows (looked c.args.self.now c.show.result (λ place text. IsViewed c.args.self.now.view place c.in-Show.sub text) c.show.ensures.says))

pub returns-in-Asked-clause-grows : goal.returns-in-Asked-clause-grows
returns-in-Asked-clause-grows c = rw c.in-Asked.is (answered c.asked.result c.args.self.now.view (command.Asked c.in-Asked.sub) _ _ c.write-in-Asked.result c.write-in-Asked.ensures.grows c.asked.ensures.answer c.asked.ensures.err)

pub returns-in-Asked-clause-leads : goal.returns-in-Asked-clause-leads
returns-in-Asked-clause-leads c = rw c.in-Asked.is (told c.asked.result (command.Asked c.in-Asked.sub) c.args.self.now _ _ _ c.write-in-Asked.result c.write-in-Asked.ensures.grows (looked c.args.self.now c.asked.result (λ place text. IsAsked place c.in-Asked.sub text) c.asked.ensures.says))

pub returns-in-Count-clause-grows : goal.returns-in-Count-clause-grows
returns-in-Count-clause-grows c = rw c.in-Count.is (answered c.count.result c.args.self.now.view (command.Count c.in-Count.sub) _ _ c.write-in-Count.result c.write-in-Count.ensures.grows c.count.ensures.answer c.count.ensures.err)

pub returns-in-Count-clause-leads : goal.returns-in-Count-clause-leads
returns-in-Count-clause-leads c = rw c.in-Count.is (told c.count.result (command.Count c.in-Count.sub) c.args.self.now _ _ _ c.write-in-Count.result c.write-in-Count.ensures.grows (looked c.args.self.now c.count.result (λ place text. IsCounted place c.in-Count.sub text) c.count.ensures.says))

pub returns-in-Joins-clause-grows : goal.returns-in-Joins-clause-grows
returns-in-Joins-clause-grows c = rw c.in-Joins.is (answered c.joins.result c.args.self.now.view (command.Joins c.in-Joins.sub) _ _ c.write-in-Joins.result c.write-in-Joins.ensures.grows c.joins.ensures.answer c.joins.ensures.err)

pub returns-in-Joins-clause-leads : goal.returns-in-Joins-clause-leads
returns-in-Joins-clause-leads c = rw c.in-Joins.is (told c.joins.result (command.Joins c.in-Joins.sub) c.args.self.now _ _ _ c.write-in-Joins.result c.write-in-Joins.ensures.grows (looked c.args.self.now c.joins.result (λ place text. AreJoins place c.in-Joins.sub text) c.joins.ensures.says))

pub returns-in-Choices-clause-grows : goal.returns-in-Choices-clause-grows
returns-in-Choices-clause-grows c = rw c.in-Choices.is (answered c.choices.result c.args.self.now.view (command.Choices c.in-Choices.sub) _ _ c.write-in-Choices.result c.write-in-Choices.ensures.grows c.choices.ensures.answer c.choices.ensures.err)

pub returns-in-Choices-clause-leads : goal.returns-in-Choices-clause-leads
returns-in-Choices-clause-leads c = rw c.in-Choices.is (told c.choices.result (command.Choices c.in-Choices.sub) c.args.self.now _ _ _ c.write-in-Choices.result c.write-in-Choices.ensures.grows (looked c.args.self.now c.choices.result (λ place text. AreChoices place c.in-Choices.sub text) c.choices.ensures.says))

pub returns-in-Check-clause-grows : goal.returns-in-Check-clause-grows
returns-in-Check-clause-grows c = rw c.in-Check.is (answered c.check.result c.args.self.now.view (command.Check c.in-Check.sub) _ _ c.write-in-Check.result c.write-in-Check.ensures.grows c.check.ensures.answer c.check.ensures.err)

pub returns-in-Check-clause-leads : goal.returns-in-Check-clause-leads
returns-in-Check-clause-leads c = rw c.in-Check.is (told c.check.result (command.Check c.in-Check.sub) c.args.self.now _ _ _ c.write-in-Check.result c.write-in-Check.ensures.grows (looked c.args.self.now c.check.result (λ place text. IsChecked place c.in-Check.sub text) c.check.ensures.says))

pub returns-in-Why-clause-grows : goal.returns-in-Why-clause-grows
returns-in-Why-clause-grows c = rw c.in-Why.is (answered c.why.result c.args.self.now.view (command.Why c.in-Why.sub) _ _ c.write-in-Why.result c.write-in-Why.ensures.grows c.why.ensures.answer c.why.ensures.err)

pub returns-in-Why-clause-leads : goal.returns-in-Why-clause-leads
returns-in-Why-clause-leads c = rw c.in-Why.is (told c.why.result (command.Why c.in-Why.sub) c.args.self.now _ _ _ c.write-in-Why.result c.write-in-Why.ensures.grows (looked c.args.self.now c.why.result (λ place text. IsExplained place c.in-Why.sub text) c.why.ensures.says))

pub returns-in-WhyFeed-clause-grows : goal.returns-in-WhyFeed-clause-grows
returns-in-WhyFeed-clause-grows c = rw c.in-WhyFeed.is (answered c.why_feed.result c.args.self.now.view (command.WhyFeed c.in-WhyFeed.hub) _ _ c.write-in-WhyFeed.result c.write-in-WhyFeed.ensures.grows c.why_feed.ensures.answer c.why_feed.ensures.err)

pub returns-in-WhyFeed-clause-leads : goal.returns-in-WhyFeed-clause-leads
returns-in-WhyFeed-clause-leads c = rw c.in-WhyFeed.is (told c.why_feed.result (command.WhyFeed c.in-WhyFeed.hub) c.args.self.now _ _ _ c.write-in-WhyFeed.result c.write-in-WhyFeed.ensures.grows (looked c.args.self.now c.why_feed.result (λ place text. IsFeedExplained place c.in-WhyFeed.hub text) c.why_feed.ensures.says))

pub returns-in-Draw-clause-grows : goal.returns-in-Draw-clause-grows
returns-in-Draw-clause-grows c = rw c.in-Draw.is (answered c.draw.result c.args.self.now.view (command.Draw c.in-Draw.sub) _ _ c.write-in-Draw.result c.write-in-Draw.ensures.grows c.draw.ensures.answer c.draw.ensures.err)

pub returns-in-Draw-clause-leads : goal.returns-in-Draw-clause-leads
returns-in-Draw-clause-leads c = rw c.in-Draw.is (told c.draw.result (command.Draw c.in-Draw.sub) c.args.self.now _ _ _ c.write-in-Draw.result c.write-in-Draw.ensures.grows (looked c.args.self.now c.draw.result (λ place text. IsDrawn place c.in-Draw.sub text) c.draw.ensures.says))
