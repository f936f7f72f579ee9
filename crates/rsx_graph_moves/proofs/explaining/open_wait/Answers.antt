use Rattle.std.proofs.Common.{◌∙◌, length, refl}
use Rattle.std.proofs.lemmas.Option.{slice_get_read}
use Rattle.rsx_graph_state.specs.Moves.{rows_of}
use Rattle.rsx_graph_moves.proofs.Opened.{awaits_hub, awaits_request, hub_missing, none_found}
use Rattle.rsx_graph_moves.proofs.Quiet.{awake_there}
use Rattle.rsx_graph_moves.proofs.explaining.open_wait.Goals as goal

pub returns-in-Some : goal.returns-in-Some
returns-in-Some g c = λ m.
    let s = c.index-subscriptions-sub.result in
    let subs = c.args.subscriptions.now in
    let rows = rows_of c.args.hubs.now c.args.feeds.now subs in
    let there = slice_get_read subs (length subs) c.args.sub.0 s refl c.requires.there c.index-subscriptions-sub.is in
    let standing = c.requires.state s there in
    let some = c.in-Some.ensures.some m in
    awake_there g.N.Machine g.N.Nodes m rows c.args.sub s c.in-Some.step there standing (c.in-Some.ensures.awake m) some.0 some.1

pub returns-then-delivered-asked : goal.returns-then-delivered-asked
returns-then-delivered-asked g c = λ m.
    let s = c.index-subscriptions-sub.result in
    let subs = c.args.subscriptions.now in
    let rows = rows_of c.args.hubs.now c.args.feeds.now subs in
    let there = slice_get_read subs (length subs) c.args.sub.0 s refl c.requires.there c.index-subscriptions-sub.is in
    let standing = c.requires.state s there in
    awaits_request g.N.Machine g.N.Nodes m rows c.args.sub s c.asked-asked.result c.delivered.result there standing (c.in_default.ensures.none m) c.asked-asked.ensures c.delivered.ensures c.if-delivered-asked.true

pub returns-in_default-waiting_leaf : goal.returns-in_default-waiting_leaf
returns-in_default-waiting_leaf g c = λ m.
    let s = c.index-subscriptions-sub.result in
    let subs = c.args.subscriptions.now in
    let rows = rows_of c.args.hubs.now c.args.feeds.now subs in
    let there = slice_get_read subs (length subs) c.args.sub.0 s refl c.requires.there c.index-subscriptions-sub.is in
    let standing = c.requires.state s there in
    none_found g.N.Machine g.N.Nodes m rows c.args.sub s c.asked-asked.result c.delivered.result c.rooted-rooted.result.now there standing (c.in_default.ensures.none m) c.asked-asked.ensures c.delivered.ensures c.if-delivered-asked.false (c.rooted-rooted.ensures ∙ c.part.ensures) (c.in_default-waiting_leaf.ensures.idle m)

pub returns-then-leaf-hubs : goal.returns-then-leaf-hubs
returns-then-leaf-hubs g c = λ m.
    let s = c.index-subscriptions-sub.result in
    let subs = c.args.subscriptions.now in
    let rows = rows_of c.args.hubs.now c.args.feeds.now subs in
    let there = slice_get_read subs (length subs) c.args.sub.0 s refl c.requires.there c.index-subscriptions-sub.is in
    let standing = c.requires.state s there in
    hub_missing g.N.Machine g.N.Nodes m rows c.args.sub s c.asked-asked.result c.delivered.result c.rooted-rooted.result.now _ _ there standing (c.in_default.ensures.none m) c.asked-asked.ensures c.delivered.ensures c.if-delivered-asked.false (c.rooted-rooted.ensures ∙ c.part.ensures) c.in-Some-waiting_leaf.ensures.some c.if-leaf-hubs.true

pub returns : goal.returns
returns g c = λ m.
    let s = c.index-subscriptions-sub.result in
    let subs = c.args.subscriptions.now in
    let rows = rows_of c.args.hubs.now c.args.feeds.now subs in
    let there = slice_get_read subs (length subs) c.args.sub.0 s refl c.requires.there c.index-subscriptions-sub.is in
    let standing = c.requires.state s there in
    awaits_hub g.N.Machine g.N.Nodes m rows c.args.sub s c.asked-asked.result c.delivered.result c.rooted-rooted.result.now _ _ c.in-Some-waiting_leaf.leaf.hub c.hub_wait-why.result there standing (c.in_default.ensures.none m) c.asked-asked.ensures c.delivered.ensures c.if-delivered-asked.false (c.rooted-rooted.ensures ∙ c.part.ensures) c.in-Some-waiting_leaf.ensures.some refl (c.hub_wait-why.ensures m)
