use Rattle.std.proofs.Common.{◌≡◌, ◌∙◌, ◌∷◌, ◌++◌, [], ap, length, map, refl, subst, suc, sym, rules}
use Rattle.std.proofs.lemmas.List.{length-map}
use Rattle.rsx_graph_state.proofs.Joins.{map_last}
use Rattle.rsx_graph_state.specs.Prelude.{fresh_hub, rows_of}
use Rattle.rsx_subscriber.specs.Prelude.{IsPlaced, differ, region_of}
use Rattle.rsx_pipe.specs.Tree.{edges}
use Rattle.rsx_graph_calls.proofs.Behind.{one_more}
use Rattle.rsx_graph_calls.proofs.Fed.{fed_effect, fed_made, fed_named}
use Rattle.rsx_graph_calls.proofs.Kept.{joins_fed, regions_fed}
use Rattle.rsx_graph_calls.specs.Regions.{regions_of}
use Rattle.rsx_graph_calls.specs.Senders.{senders_into}
use Rattle.rsx_graph_calls.proofs.Leaves.{places_behind}
use Rattle.rsx_graph_calls.proofs.feed_hubs.feed_hub.Goals as goal

pub count_in-requires-clause-places : goal.count_in-requires-clause-places
count_in-requires-clause-places g c =
    let fine = c.requires.fine in
    let pushed : c.push_reserved.new.self.items ≡ c.args.hubs.now.items ++ fresh_hub c.args.kind c.args.capacity ∷ [] = search rules in
    let places = c.requires.places in
    places_behind c.args.kind c.args.capacity c.args.expr.now c.args.hubs.now.items c.push_reserved.new.self.items fine pushed places

pub returns-clause-named : goal.returns-clause-named
returns-clause-named g c =
    let pushed : c.push_reserved.new.self.items ≡ c.args.hubs.now.items ++ fresh_hub c.args.kind c.args.capacity ∷ [] = search rules in
    let added : c.push_reserved-2.new.self.items ≡ c.args.feeds.now.items ++ c.in_ok-made.made.feed ∷ [] = search rules in
    fed_named c.args.kind c.args.capacity (length c.count_in.new.hubs.items) c.args.hubs.now.items c.push_reserved.new.self.items c.args.feeds.now.items c.push_reserved-2.new.self.items c.in_ok-made.made.feed pushed c.count_in.ensures.count added c.in_ok-made.ensures.named c.requires.named

pub returns-clause-stands : goal.returns-clause-stands
returns-clause-stands g c = λ m subscriptions h built s.
    let fine = c.requires.fine in
    let pushed : c.push_reserved.new.self.items ≡ c.args.hubs.now.items ++ fresh_hub c.args.kind c.args.capacity ∷ [] = search rules in
    let added : c.push_reserved-2.new.self.items ≡ c.args.feeds.now.items ++ c.in_ok-made.made.feed ∷ [] = search rules in
    fed_made g.N.Machine m c.args.kind c.args.capacity c.args.expr.now (rows_of c.args.hubs.now.items c.args.feeds.now.items subscriptions) c.push_reserved.new.self.items c.count_in.new.hubs.items c.push_reserved-2.new.self.items c.in_ok-made.made.feed h
    fine pushed c.count_in.ensures.joined added c.in_ok-made.ensures.named c.requires.named (λ published taken. c.in_ok-made.ensures.stands m c.args.hubs.now.items c.args.expr.now published refl built taken) s

pub returns-clause-effect : goal.returns-clause-effect
returns-clause-effect g c = λ m built placed.
    let fine = c.requires.fine in
    let pushed : c.push_reserved.new.self.items ≡ c.args.hubs.now.items ++ fresh_hub c.args.kind c.args.capacity ∷ [] = search rules in
    let added : c.push_reserved-2.new.self.items ≡ c.args.feeds.now.items ++ c.in_ok-made.made.feed ∷ [] = search rules in
    fed_effect g.N.Machine c.args.kind c.args.capacity c.args.expr.now c.args.hubs.now.items c.push_reserved.new.self.items c.count_in.new.hubs.items c.args.feeds.now.items c.push_reserved-2.new.self.items c.in_ok-made.made.feed fine pushed c.count_in.ensures.joined added c.in_ok-made.ensures.named (subst (λ t. IsPlaced g.N.Machine.crosses c.args.expr.now (differ 0 (region_of c.args.expr.now)) t) (sym c.in_ok-made.ensures.tree) placed)
    c.in_ok-made.ensures.root (ap edges c.in_ok-made.ensures.tree ∙ built.edges)

pub returns-clause-beside : goal.returns-clause-beside
returns-clause-beside g c =
    let added : c.push_reserved-2.new.self.items ≡ c.args.feeds.now.items ++ c.in_ok-made.made.feed ∷ [] = search rules in
    let kept : c.push_reserved-3.new.self.items ≡ c.args.joins.now.items ++ c.in_ok-made.made.joins ∷ [] = search rules in
    ap length kept ∙ (one_more c.args.joins.now.items c.in_ok-made.made.joins ∙ (ap suc c.requires.beside ∙ sym (ap length added ∙ one_more c.args.feeds.now.items c.in_ok-made.made.feed)))

pub returns-clause-missed : goal.returns-clause-missed
returns-clause-missed g c =
    let missed = c.in_ok-made.made.joins in
    let kept : c.push_reserved-3.new.self.items ≡ c.args.joins.now.items ++ c.in_ok-made.made.joins ∷ [] = search rules in
    ap (map (λ v. v.items)) kept ∙ (map_last (λ v. v.items) c.args.joins.now.items missed ∙ ap (λ js. map (λ v. v.items) c.args.joins.now.items ++ js ∷ []) c.in_ok-made.ensures.missed)

pub returns-clause-joins : goal.returns-clause-joins
returns-clause-joins g c = λ m subscriptions sub_joins h s j.
    let added : c.push_reserved-2.new.self.items ≡ c.args.feeds.now.items ++ c.in_ok-made.made.feed ∷ [] = search rules in
    joins_fed g.N.Machine m c.args.kind c.args.expr.now (rows_of c.args.hubs.now.items c.args.feeds.now.items subscriptions) c.push_reserved-2.new.self.items c.in_ok-made.made.feed sub_joins (map (λ v. v.items) c.args.joins.now.items) (map (λ v. v.items) c.push_reserved-3.new.self.items) h
    added c.in_ok-made.ensures.named c.requires.named (length-map c.args.joins.now.items (λ v. v.items) ∙ c.requires.beside) (returns-clause-missed g c) s j

pub returns-clause-sent : goal.returns-clause-sent
returns-clause-sent g c =
    let added : c.push_reserved-2.new.self.items ≡ c.args.feeds.now.items ++ c.in_ok-made.made.feed ∷ [] = search rules in
    let sent : c.push_reserved-4.new.self.items ≡ c.args.regions.now.feed_senders.items ++ c.in_ok-made.made.senders ∷ [] = search rules in
    ap length sent ∙ (one_more c.args.regions.now.feed_senders.items c.in_ok-made.made.senders ∙ (ap suc c.requires.sent ∙ sym (ap length added ∙ one_more c.args.feeds.now.items c.in_ok-made.made.feed)))

pub returns-clause-placed : goal.returns-clause-placed
returns-clause-placed g c =
    let regions = c.args.regions.now in
    let sent : c.push_reserved-4.new.self.items ≡ regions.feed_senders.items ++ c.in_ok-made.made.senders ∷ [] = search rules in
    let all : map (λ v. v.items) c.push_reserved-4.new.self.items ≡ map (λ v. v.items) regions.feed_senders.items ++ senders_into 0 c.args.expr.now ∷ [] =
    ap (map (λ v. v.items)) sent ∙ (map_last (λ v. v.items) regions.feed_senders.items c.in_ok-made.made.senders ∙ ap (λ l. map (λ v. v.items) regions.feed_senders.items ++ l ∷ []) c.in_ok-made.ensures.senders) in
    let kept = c.prepare.ensures.regions in
    λ i. record { roots = (kept i).roots; senders = (kept i).senders; feed_senders = all i }

pub returns-clause-regions : goal.returns-clause-regions
returns-clause-regions g c = λ m subscriptions h s j.
    let added : c.push_reserved-2.new.self.items ≡ c.args.feeds.now.items ++ c.in_ok-made.made.feed ∷ [] = search rules in
    regions_fed g.N.Machine m c.args.kind c.args.expr.now (rows_of c.args.hubs.now.items c.args.feeds.now.items subscriptions) c.push_reserved-2.new.self.items c.in_ok-made.made.feed (regions_of c.args.regions.now) _ h
    added c.in_ok-made.ensures.named c.requires.named (length-map c.args.regions.now.feed_senders.items (λ v. v.items) ∙ c.requires.sent) (returns-clause-placed g c) s j
