use Rattle.std.proofs.Common.{◌∙◌, Bool, ap, refl, subst, sym}
use Rattle.std.proofs.lemmas.List.{length-set}
use Rattle.rsx_graph_state.proofs.Alone.{alone_in_feed}
use Rattle.rsx_graph_state.proofs.Graphs.{found, set_same}
use Rattle.rsx_pipe.specs.Part.{IsMade}
use Rattle.rsx_sources.specs.Steps.{IsNotMade}
use Rattle.rsx_graph_state.specs.Moves.{allocates_inside, works_where}
use Rattle.rsx_graph_state.proofs.Places.{placed_feed}
use Rattle.rsx_graph_state.proofs.feed_moves.work_in_feed.Goals as goal

pub returns-in-Ok-clause-count : goal.returns-in-Ok-clause-count
returns-in-Ok-clause-count g c = length-set c.args.feeds.now.items c.args.at _

pub returns-in-Err-clause-count : goal.returns-in-Err-clause-count
returns-in-Err-clause-count g c = length-set c.args.feeds.now.items c.args.at _

pub returns-in-Ok-clause-effect : goal.returns-in-Ok-clause-effect
returns-in-Ok-clause-effect g c =
    let fs = c.args.feeds.now.items in
    let x = c.index_mut-feed.result.now in
    let k = c.in-Ok.ensures.made in
    record {
      feed = x;
      part = c.make.new.self;
      at = c.args.at;
      place = c.requires.place;
      there = found fs c.args.at x c.requires.within (sym c.index_mut-feed.ensures.value);
      effect = subst (λ o. IsMade g.N.Machine (g.O.Ops.meaning c.args.ops.now) c.args.step x.part o c.make.new.self) (sym k.2) k.1;
      others = refl;
    }

pub returns-in-Ok-clause-alone : goal.returns-in-Ok-clause-alone
returns-in-Ok-clause-alone g c =
    let fs = c.args.feeds.now.items in
    let x = c.index_mut-feed.result.now in
    alone_in_feed g.N.Machine (g.O.Ops.meaning c.args.ops.now) c.args.step c.args.hub.0 c.args.at fs x (record { part = c.make.new.self; hub = x.hub })
    c.requires.place (found fs c.args.at x c.requires.within (sym c.index_mut-feed.ensures.value)) c.in-Ok.ensures.alone

pub returns-in-Ok-clause-enabled : goal.returns-in-Ok-clause-enabled
returns-in-Ok-clause-enabled g c =
    let m = g.O.Ops.meaning c.args.ops.now in
    let fs = c.args.feeds.now.items in
    let x = c.index_mut-feed.result.now in
    let there = found fs c.args.at x c.requires.within (sym c.index_mut-feed.ensures.value) in
    ap (λ o. works_where g.N.Machine m o c.args.step) (placed_feed fs c.args.hub.0 c.args.at x c.requires.place there) ∙ c.in-Ok.ensures.enabled

pub returns-in-Err-clause-err : goal.returns-in-Err-clause-err
returns-in-Err-clause-err g c =
    let m = g.O.Ops.meaning c.args.ops.now in
    let fs = c.args.feeds.now.items in
    let x = c.index_mut-feed.result.now in
    let there = found fs c.args.at x c.requires.within (sym c.index_mut-feed.ensures.value) in
    let P : Bool → Type 0 = λ b. IsNotMade b c.in-Err.why in
    subst P (sym (ap (λ o. works_where g.N.Machine m o c.args.step) (placed_feed fs c.args.hub.0 c.args.at x c.requires.place there))) c.in-Err.ensures.err

pub returns-in-Err-clause-memory : goal.returns-in-Err-clause-memory
returns-in-Err-clause-memory g c = λ free.
    let a = g.O.Ops.allocates c.args.ops.now in
    let fs = c.args.feeds.now.items in
    let x = c.index_mut-feed.result.now in
    let there = found fs c.args.at x c.requires.within (sym c.index_mut-feed.ensures.value) in
    c.in-Err.ensures.memory (sym (ap (λ o. allocates_inside g.N.Machine a o c.args.step) (placed_feed fs c.args.hub.0 c.args.at x c.requires.place there)) ∙ free)

pub returns-in-Err-clause-same : goal.returns-in-Err-clause-same
returns-in-Err-clause-same g c =
    let fs = c.args.feeds.now.items in
    let x = c.index_mut-feed.result.now in
    set_same fs c.args.at x (record { part = c.make.new.self; hub = x.hub }) c.requires.within (sym c.index_mut-feed.ensures.value) (λ i. record { part = c.in-Err.ensures.same.0 i; hub = x.hub })
