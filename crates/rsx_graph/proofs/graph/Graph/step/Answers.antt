use Rattle.rsx_kinds.specs.Any.{any_machine}
use Rattle.std.proofs.Common.{rules, length, map, ap, ◌∙◌, arith, w64}
use Rattle.std.proofs.lemmas.Int.{to_z-of_z}
use Rattle.rsx_graph.proofs.Kept.{unchanged}
use Rattle.rsx_graph.proofs.Known.{emitted_goes_on, ended_goes_on, ending_refused, fault_there, id_there, item_refused, move_known, move_refused, new_feed_refused, subs_there, subscribe_refused}
use Rattle.rsx_graph.specs.InGraph.{state_of}
use Rattle.rsx_graph_state.proofs.Graphs.{state_there}
use Rattle.rsx_graph_state.proofs.Publishes.{hub_refused}
use Rattle.rsx_subscriber.specs.Stands.{standing_of}
use Rattle.rsx_graph.proofs.graph.Graph.step.Goals as goal

pub returns-in-Ok-clause-stands : goal.returns-in-Ok-clause-stands
returns-in-Ok-clause-stands g c = rw c.in-Subscribe.is c.in-Ok.ensures.stands

pub returns-in-Err-clause-stands : goal.returns-in-Err-clause-stands
returns-in-Err-clause-stands g c = rw c.in-Subscribe.is (unchanged (g.O.Ops.meaning c.args.self.now.ops) (state_of c.args.self.now) _ c.in-Err.ensures.same)

pub returns-in-Ok-clause-belongs : goal.returns-in-Ok-clause-belongs
returns-in-Ok-clause-belongs g c = λ h s.
    rw c.in-Subscribe.is (id_there _ c.in-Ok.id _ _ _ _ s.rows.many (subs_there (g.O.Ops.meaning c.args.self.now.ops) (state_of c.args.self.now).rows h s.rows) c.in-Ok.ensures.id)

pub returns-in-Err-clause-belongs : goal.returns-in-Err-clause-belongs
returns-in-Err-clause-belongs g c = λ h s.
    rw c.in-Subscribe.is (subscribe_refused _ c.args.self.now.hubs.items _ _ _ c.in-Err.why s.rows.many (subs_there (g.O.Ops.meaning c.args.self.now.ops) (state_of c.args.self.now).rows h s.rows) c.in-Err.ensures.err)

pub returns-in-Ok-clause-done : goal.returns-in-Ok-clause-done
returns-in-Ok-clause-done g c = let k = c.in-Ok.ensures in rw c.in-Subscribe.is (k.id, k.effect, k.joined, c.subscribe-made.ensures.feeds, k.missed, ap (map (λ v. v.items)) c.subscribe-made.ensures.feed_joins, k.placed)

pub returns-in-Err-clause-done : goal.returns-in-Err-clause-done
returns-in-Err-clause-done g c = let k = c.in-Err.ensures in rw c.in-Subscribe.is (k.err, k.same)

pub returns-in-Ok-request-clause-stands : goal.returns-in-Ok-request-clause-stands
returns-in-Ok-request-clause-stands g c = let n = to_z-of_z w64 c.in-Request.n (search rules) in rw c.in-Request.is (rw n at c.in-Ok-request.ensures.stands)

pub returns-in-Err-request-clause-stands : goal.returns-in-Err-request-clause-stands
returns-in-Err-request-clause-stands g c = rw c.in-Request.is (unchanged (g.O.Ops.meaning c.args.self.now.ops) (state_of c.args.self.now) _ c.in-Err-request.ensures.same)

pub returns-in-Ok-request-clause-belongs : goal.returns-in-Ok-request-clause-belongs
returns-in-Ok-request-clause-belongs g c = λ h s.
    let a = c.in-Ok-request.ensures.effect in
    rw c.in-Request.is (standing_of a.old, state_there any_machine (g.O.Ops.meaning c.args.self.now.ops) s.rows.taken c.args.self.now.subscriptions.items h.pasts c.in-Request.sub.0 a.old a.there s.rows.all, search (rules, a.answer))

pub returns-in-Err-request-clause-belongs : goal.returns-in-Err-request-clause-belongs
returns-in-Err-request-clause-belongs g c = λ h s.
    let same = subs_there (g.O.Ops.meaning c.args.self.now.ops) (state_of c.args.self.now).rows h s.rows in
    let r = c.in-Err-request.ensures.err in
    rw c.in-Request.is (r.0, omega (arith, same, r.1))

pub returns-in-Ok-request-clause-done : goal.returns-in-Ok-request-clause-done
returns-in-Ok-request-clause-done g c = let n = to_z-of_z w64 c.in-Request.n (search rules) in rw c.in-Request.is (rw n at c.in-Ok-request.ensures.effect, c.request.ensures.aside)

pub returns-in-Err-request-clause-done : goal.returns-in-Err-request-clause-done
returns-in-Err-request-clause-done g c = let r = c.in-Err-request.ensures.err in rw c.in-Request.is (r.0, r.1, c.in-Err-request.ensures.same)

pub returns-in-Ok-cancel-clause-stands : goal.returns-in-Ok-cancel-clause-stands
returns-in-Ok-cancel-clause-stands g c = rw c.in-Cancel.is c.in-Ok-cancel.ensures.stands

pub returns-in-Err-cancel-clause-stands : goal.returns-in-Err-cancel-clause-stands
returns-in-Err-cancel-clause-stands g c = rw c.in-Cancel.is (unchanged (g.O.Ops.meaning c.args.self.now.ops) (state_of c.args.self.now) _ c.in-Err-cancel.ensures.same)

pub returns-in-Ok-cancel-clause-belongs : goal.returns-in-Ok-cancel-clause-belongs
returns-in-Ok-cancel-clause-belongs g c = λ h s.
    let same = subs_there (g.O.Ops.meaning c.args.self.now.ops) (state_of c.args.self.now).rows h s.rows in
    let known = c.in-Ok-cancel.ensures.known in
    rw c.in-Cancel.is (omega (arith, same, known))

pub returns-in-Err-cancel-clause-belongs : goal.returns-in-Err-cancel-clause-belongs
returns-in-Err-cancel-clause-belongs g c = λ h s.
    let same = subs_there (g.O.Ops.meaning c.args.self.now.ops) (state_of c.args.self.now).rows h s.rows in
    let r = c.in-Err-cancel.ensures.err in
    rw c.in-Cancel.is (r.0, omega (arith, same, r.1))

pub returns-in-Ok-cancel-clause-done : goal.returns-in-Ok-cancel-clause-done
returns-in-Ok-cancel-clause-done g c = rw c.in-Cancel.is (c.in-Ok-cancel.ensures.effect, c.cancel.ensures.aside)

pub returns-in-Err-cancel-clause-done : goal.returns-in-Err-cancel-clause-done
returns-in-Err-cancel-clause-done g c = let r = c.in-Err-cancel.ensures.err in rw c.in-Cancel.is (r.0, r.1, c.in-Err-cancel.ensures.same)

pub returns-in-Ok-make-clause-stands : goal.returns-in-Ok-make-clause-stands
returns-in-Ok-make-clause-stands g c = rw c.in-Make.is c.in-Ok-make.ensures.stands

pub returns-in-Err-make-clause-stands : goal.returns-in-Err-make-clause-stands
returns-in-Err-make-clause-stands g c = rw c.in-Make.is (unchanged (g.O.Ops.meaning c.args.self.now.ops) (state_of c.args.self.now) _ c.in-Err-make.ensures.same)

pub returns-in-Ok-make-clause-belongs : goal.returns-in-Ok-make-clause-belongs
returns-in-Ok-make-clause-belongs g c = λ h s.
    rw c.in-Make.is (c.in-Ok-make.ensures.answer, move_known (g.O.Ops.meaning c.args.self.now.ops) (state_of c.args.self.now).rows h c.in-Make.what s.rows c.in-Ok-make.ensures.enabled)

pub returns-in-Err-make-clause-belongs : goal.returns-in-Err-make-clause-belongs
returns-in-Err-make-clause-belongs g c = λ h s.
    rw c.in-Make.is (_, move_refused (g.O.Ops.meaning c.args.self.now.ops) (state_of c.args.self.now).rows h _ c.in-Make.what c.in-Err-make.why s.rows c.in-Err-make.ensures.err)

pub returns-in-Ok-make-clause-done : goal.returns-in-Ok-make-clause-done
returns-in-Ok-make-clause-done g c = let k = c.in-Ok-make.ensures in rw c.in-Make.is (k.enabled, k.effect, k.answer, c.make.ensures.joins)

pub returns-in-Err-make-clause-done : goal.returns-in-Err-make-clause-done
returns-in-Err-make-clause-done g c = let k = c.in-Err-make.ensures in rw c.in-Make.is (k.err, k.memory, k.same)

pub returns-in-Ok-hub-clause-stands : goal.returns-in-Ok-hub-clause-stands
returns-in-Ok-hub-clause-stands g c = rw c.in-Hub.is c.in-Ok-hub.ensures.stands

pub returns-in-Err-hub-clause-stands : goal.returns-in-Err-hub-clause-stands
returns-in-Err-hub-clause-stands g c = rw c.in-Hub.is (unchanged (g.O.Ops.meaning c.args.self.now.ops) (state_of c.args.self.now) _ c.in-Err-hub.ensures.same)

pub returns-in-Ok-hub-clause-belongs : goal.returns-in-Ok-hub-clause-belongs
returns-in-Ok-hub-clause-belongs g c = λ h s.
    let k = c.in-Ok-hub.ensures.id in
    let many = s.rows.many in
    rw c.in-Hub.is (k.0 ∙ many, k.1, omega (arith, many, k.2))

pub returns-in-Err-hub-clause-belongs : goal.returns-in-Err-hub-clause-belongs
returns-in-Err-hub-clause-belongs g c = λ h s.
    rw c.in-Hub.is (hub_refused c.in-Hub.kind c.in-Hub.capacity (length c.args.self.now.hubs.items) (length h.hubs) c.in-Err-hub.why s.rows.many c.in-Err-hub.ensures.err)

pub returns-in-Ok-hub-clause-done : goal.returns-in-Ok-hub-clause-done
returns-in-Ok-hub-clause-done g c = let k = c.in-Ok-hub.ensures in rw c.in-Hub.is (k.id.0, k.id.1, k.id.2, k.effect, c.hub.ensures.rest)

pub returns-in-Err-hub-clause-done : goal.returns-in-Err-hub-clause-done
returns-in-Err-hub-clause-done g c = let k = c.in-Err-hub.ensures in rw c.in-Hub.is (k.err, k.same)

pub returns-in-Ok-made-clause-stands : goal.returns-in-Ok-made-clause-stands
returns-in-Ok-made-clause-stands g c = rw c.in-FeedHub.is c.in-Ok-made.ensures.stands

pub returns-in-Err-made-clause-stands : goal.returns-in-Err-made-clause-stands
returns-in-Err-made-clause-stands g c = rw c.in-FeedHub.is (unchanged (g.O.Ops.meaning c.args.self.now.ops) (state_of c.args.self.now) _ c.in-Err-made.ensures.same)

pub returns-in-Ok-made-clause-belongs : goal.returns-in-Ok-made-clause-belongs
returns-in-Ok-made-clause-belongs g c = λ h s.
    let k = c.in-Ok-made.ensures.id in
    let many = s.rows.many in
    rw c.in-FeedHub.is (k.0 ∙ many, fault_there c.in-FeedHub.kind c.in-FeedHub.capacity _ _ _ many ∙ k.1, omega (arith, many, k.2))

pub returns-in-Err-made-clause-belongs : goal.returns-in-Err-made-clause-belongs
returns-in-Err-made-clause-belongs g c = λ h s.
    rw c.in-FeedHub.is (new_feed_refused c.in-FeedHub.kind c.in-FeedHub.capacity _ c.args.self.now.hubs.items (length h.hubs) c.in-Err-made.why s.rows.many c.in-Err-made.ensures.err)

pub returns-in-Ok-made-clause-done : goal.returns-in-Ok-made-clause-done
returns-in-Ok-made-clause-done g c = let k = c.in-Ok-made.ensures in rw c.in-FeedHub.is (k.id.0, k.id.1, k.id.2, k.effect, c.feed_hub-made.ensures.subscriptions, ap (map (λ v. v.items)) c.feed_hub-made.ensures.joins, k.missed, k.placed)

pub returns-in-Err-made-clause-done : goal.returns-in-Err-made-clause-done
returns-in-Err-made-clause-done g c = let k = c.in-Err-made.ensures in rw c.in-FeedHub.is (k.err, k.same)

pub returns-in-Ok-emit-clause-stands : goal.returns-in-Ok-emit-clause-stands
returns-in-Ok-emit-clause-stands g c = rw c.in-Emit.is c.in-Ok-emit.ensures.stands

pub returns-in-Err-emit-clause-stands : goal.returns-in-Err-emit-clause-stands
returns-in-Err-emit-clause-stands g c = rw c.in-Emit.is (unchanged (g.O.Ops.meaning c.args.self.now.ops) (state_of c.args.self.now) _ c.in-Err-emit.ensures.same)

pub returns-in-Ok-emit-clause-belongs : goal.returns-in-Ok-emit-clause-belongs
returns-in-Ok-emit-clause-belongs g c = λ h s.
    rw c.in-Emit.is (emitted_goes_on (g.O.Ops.meaning c.args.self.now.ops) (state_of c.args.self.now).rows h c.in-Emit.hub.0 _ _ s.rows c.in-Ok-emit.ensures.known c.in-Ok-emit.ensures.effect)

pub returns-in-Err-emit-clause-belongs : goal.returns-in-Err-emit-clause-belongs
returns-in-Err-emit-clause-belongs g c = λ h s.
    rw c.in-Emit.is (item_refused (g.O.Ops.meaning c.args.self.now.ops) (state_of c.args.self.now).rows h c.in-Emit.hub.0 c.in-Err-emit.back.refusal s.rows c.in-Err-emit.ensures.err)

pub returns-in-Ok-emit-clause-done : goal.returns-in-Ok-emit-clause-done
returns-in-Ok-emit-clause-done g c = let k = c.in-Ok-emit.ensures in rw c.in-Emit.is (k.known, k.effect, c.emit.ensures.rest)

pub returns-in-Err-emit-clause-done : goal.returns-in-Err-emit-clause-done
returns-in-Err-emit-clause-done g c = let k = c.in-Err-emit.ensures in rw c.in-Emit.is (k.err, k.same)

pub returns-in-Ok-complete-clause-stands : goal.returns-in-Ok-complete-clause-stands
returns-in-Ok-complete-clause-stands g c = rw c.in-Complete.is c.in-Ok-complete.ensures.stands

pub returns-in-Err-complete-clause-stands : goal.returns-in-Err-complete-clause-stands
returns-in-Err-complete-clause-stands g c = rw c.in-Complete.is (unchanged (g.O.Ops.meaning c.args.self.now.ops) (state_of c.args.self.now) _ c.in-Err-complete.ensures.same)

pub returns-in-Ok-complete-clause-belongs : goal.returns-in-Ok-complete-clause-belongs
returns-in-Ok-complete-clause-belongs g c = λ h s.
    rw c.in-Complete.is (ended_goes_on (g.O.Ops.meaning c.args.self.now.ops) (state_of c.args.self.now).rows h c.in-Complete.hub.0 _ _ s.rows c.in-Ok-complete.ensures.known c.in-Ok-complete.ensures.effect)

pub returns-in-Err-complete-clause-belongs : goal.returns-in-Err-complete-clause-belongs
returns-in-Err-complete-clause-belongs g c = λ h s.
    rw c.in-Complete.is (ending_refused (g.O.Ops.meaning c.args.self.now.ops) (state_of c.args.self.now).rows h c.in-Complete.hub.0 c.in-Err-complete.why s.rows c.in-Err-complete.ensures.err)

pub returns-in-Ok-complete-clause-done : goal.returns-in-Ok-complete-clause-done
returns-in-Ok-complete-clause-done g c = let k = c.in-Ok-complete.ensures in rw c.in-Complete.is (k.known, k.effect, c.complete.ensures.rest)

pub returns-in-Err-complete-clause-done : goal.returns-in-Err-complete-clause-done
returns-in-Err-complete-clause-done g c = let k = c.in-Err-complete.ensures in rw c.in-Complete.is (k.err, k.same)

pub returns-in-Ok-fail-clause-stands : goal.returns-in-Ok-fail-clause-stands
returns-in-Ok-fail-clause-stands g c = rw c.in-Fail.is c.in-Ok-fail.ensures.stands

pub returns-in-Err-fail-clause-stands : goal.returns-in-Err-fail-clause-stands
returns-in-Err-fail-clause-stands g c = rw c.in-Fail.is (unchanged (g.O.Ops.meaning c.args.self.now.ops) (state_of c.args.self.now) _ c.in-Err-fail.ensures.same)

pub returns-in-Ok-fail-clause-belongs : goal.returns-in-Ok-fail-clause-belongs
returns-in-Ok-fail-clause-belongs g c = λ h s.
    rw c.in-Fail.is (ended_goes_on (g.O.Ops.meaning c.args.self.now.ops) (state_of c.args.self.now).rows h c.in-Fail.hub.0 _ _ s.rows c.in-Ok-fail.ensures.known c.in-Ok-fail.ensures.effect)

pub returns-in-Err-fail-clause-belongs : goal.returns-in-Err-fail-clause-belongs
returns-in-Err-fail-clause-belongs g c = λ h s.
    rw c.in-Fail.is (ending_refused (g.O.Ops.meaning c.args.self.now.ops) (state_of c.args.self.now).rows h c.in-Fail.hub.0 c.in-Err-fail.why s.rows c.in-Err-fail.ensures.err)

pub returns-in-Ok-fail-clause-done : goal.returns-in-Ok-fail-clause-done
returns-in-Ok-fail-clause-done g c = let k = c.in-Ok-fail.ensures in rw c.in-Fail.is (k.known, k.effect, c.fail.ensures.rest)

pub returns-in-Err-fail-clause-done : goal.returns-in-Err-fail-clause-done
returns-in-Err-fail-clause-done g c = let k = c.in-Err-fail.ensures in rw c.in-Fail.is (k.err, k.same)
