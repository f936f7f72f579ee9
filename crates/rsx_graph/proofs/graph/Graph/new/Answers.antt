use Rattle.rsx_kinds.specs.Any.{any_machine}
use Rattle.rsx_graph.specs.Kinds.{Feed}
use Rattle.std.proofs.Common.{length, map, List, ap, sym, ◌∙◌, subst, arith}
use Rattle.std.proofs.lemmas.List.{length-map}
use Rattle.rsx_graph_calls.specs.Edits.{NameHubs}
use Rattle.rsx_graph_calls.specs.Regions.{RegionLists}
use Rattle.rsx_graph.proofs.Kept.{begun_from, state_with}
use Rattle.rsx_graph_moves.proofs.Rest.{none_idle}
use Rattle.rsx_graph.proofs.graph.Graph.new.Goals as goal

pub invariant_of-result : goal.invariant_of-result
invariant_of-result g c =
    let hubs = ap length c.new.ensures.items in
    let subscriptions = ap length c.new-4.ensures.items in
    let P : List (Feed _) → Type 0 = λ l. NameHubs (length c.new.result.items) l in
    record {
      few = omega (arith, subscriptions);
      few_hubs = omega (arith, hubs);
      named = subst P (sym c.new-2.ensures.items) tt;
      beside = ap length c.new-3.ensures.items ∙ sym (ap length c.new-2.ensures.items);
      sent = sym (length-map c.new-6.result.feed_senders.items (λ v. v.items)) ∙ (ap (λ (r : RegionLists). length r.feed_senders) c.new-6.ensures ∙ sym (ap length c.new-2.ensures.items));
      joined = ap length c.new-5.ensures.items ∙ sym (ap length c.new-4.ensures.items);
      rooted = ap (λ (r : RegionLists). length r.roots) c.new-6.ensures ∙ sym (ap length c.new-4.ensures.items);
      resting = none_idle any_machine (g.O.Ops.meaning c.args.ops) c.new-7.result c.new-4.result.items c.new-7.ensures;
    }

pub returns-clause-empty : goal.returns-clause-empty
returns-clause-empty g c = λ i. state_with (c.new.ensures.items i) (c.new-2.ensures.items i) (c.new-4.ensures.items i) (map (λ v. v.items) (c.new-5.ensures.items i)) (map (λ v. v.items) (c.new-3.ensures.items i)) (c.new-6.ensures i)

pub returns-clause-stands : goal.returns-clause-stands
returns-clause-stands g c =
    begun_from (g.O.Ops.meaning c.args.ops) _
    (λ i. state_with (c.new.ensures.items i) (c.new-2.ensures.items i) (c.new-4.ensures.items i) (map (λ v. v.items) (c.new-5.ensures.items i)) (map (λ v. v.items) (c.new-3.ensures.items i)) (c.new-6.ensures i))
