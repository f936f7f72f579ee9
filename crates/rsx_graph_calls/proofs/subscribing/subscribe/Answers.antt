use Rattle.std.proofs.Common.{◌≡◌, ◌∙◌, ◌∷◌, ◌++◌, [], ap, map, rules}
use Rattle.rsx_graph_state.proofs.Joins.{map_last}
use Rattle.rsx_graph_state.specs.Moves.{rows_of}
use Rattle.rsx_graph_calls.proofs.Subscribed.{joins_made, regions_made, subscribed_made}
use Rattle.rsx_model.specs.Region.{region_of}
use Rattle.rsx_graph_calls.specs.Regions.{regions_of}
use Rattle.rsx_graph_calls.specs.Senders.{senders_below}
use Rattle.rsx_graph_calls.proofs.subscribing.subscribe.Goals as goal

pub returns-clause-stands : goal.returns-clause-stands
returns-clause-stands g c = λ m feeds h built s.
    let sub = c.in_ok-made.made.subscription in
    let k = c.in_ok-made.ensures in
    let added : c.push_reserved.new.self.items ≡ c.args.subscriptions.now.items ++ sub ∷ [] = search rules in
    subscribed_made g.N.Machine m c.args.expr.now (rows_of c.args.hubs.now.items feeds c.args.subscriptions.now.items) c.count_in.new.hubs.items c.push_reserved.new.self.items sub h
    added (λ published taken. k.stands m c.args.hubs.now.items c.args.expr.now published c.requires.fine built taken) c.count_in.ensures.joined s

pub returns-clause-effect : goal.returns-clause-effect
returns-clause-effect g c = λ m built placed.
    let sub = c.in_ok-made.made.subscription in
    let added : c.push_reserved.new.self.items ≡ c.args.subscriptions.now.items ++ sub ∷ [] = search rules in
    (sub, added, c.in_ok-made.ensures.fresh m c.args.hubs.now.items c.args.expr.now built placed)

pub returns-clause-missed : goal.returns-clause-missed
returns-clause-missed g c =
    let missed = c.in_ok-made.made.joins in
    let added : c.push_reserved-2.new.self.items ≡ c.args.joins.now.items ++ missed ∷ [] = search rules in
    ap (map (λ v. v.items)) added ∙ (map_last (λ v. v.items) c.args.joins.now.items missed ∙ ap (λ js. map (λ v. v.items) c.args.joins.now.items ++ js ∷ []) c.in_ok-made.ensures.missed)

pub returns-clause-joins : goal.returns-clause-joins
returns-clause-joins g c = λ m feeds feed_joins h s k.
    joins_made g.N.Machine m c.args.expr.now (rows_of c.args.hubs.now.items feeds c.args.subscriptions.now.items) (map (λ v. v.items) c.args.joins.now.items) (map (λ v. v.items) c.push_reserved-2.new.self.items) feed_joins h (returns-clause-missed g c) s k

-- the region of the root, and those of the senders, stand behind the others
pub returns-clause-placed : goal.returns-clause-placed
returns-clause-placed g c =
    let regions = c.args.regions.now in
    let region : c.push_reserved-3.new.self.items ≡ regions.roots.items ++ region_of c.args.expr.now ∷ [] = search rules in
    let senders : c.push_reserved-4.new.self.items ≡ regions.senders.items ++ c.in_ok-made.made.senders ∷ [] = search rules in
    let all : map (λ v. v.items) c.push_reserved-4.new.self.items ≡ map (λ v. v.items) regions.senders.items ++ senders_below c.args.expr.now ∷ [] =
    ap (map (λ v. v.items)) senders ∙ (map_last (λ v. v.items) regions.senders.items c.in_ok-made.made.senders ∙ ap (λ l. map (λ v. v.items) regions.senders.items ++ l ∷ []) c.in_ok-made.ensures.senders) in
    let fed : map (λ v. v.items) c.prepare.new.regions.feed_senders.items ≡ map (λ v. v.items) regions.feed_senders.items = ap (map (λ v. v.items)) c.prepare.ensures.feed_senders in
    λ i. record { roots = region i; senders = all i; feed_senders = fed i }

pub returns-clause-regions : goal.returns-clause-regions
returns-clause-regions g c = λ feeds h k. regions_made c.args.expr.now feeds (regions_of c.args.regions.now) _ h (returns-clause-placed g c) k
