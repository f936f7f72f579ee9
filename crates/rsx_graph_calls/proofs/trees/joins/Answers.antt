use Rattle.std.proofs.Common.{length, map, subst, sym}
use Rattle.rsx_graph_state.specs.Moves.{rows_of}
use Rattle.rsx_types.specs.declared.names.Tree.{Tree}
use Rattle.rsx_graph_calls.specs.Looks.{AreJoins, IsTreeLookRefusal}
use Rattle.rsx_graph_calls.proofs.trees.joins.Goals as goal

pub returns-in-Ok-clause-joins : goal.returns-in-Ok-clause-joins
returns-in-Ok-clause-joins g c =
    let P : Tree → Type 0 = λ t. AreJoins c.args.hubs.now c.args.feeds.now (map (λ js. js.items) c.args.sub_joins.now) (map (λ js. js.items) c.args.feed_joins.now) t c.in-Ok.joins.items in
    subst P (sym c.in-Feed.is) (c.in-Ok.ensures.known, c.in-Ok.ensures.joins)

pub returns-in-Err-clause-err : goal.returns-in-Err-clause-err
returns-in-Err-clause-err g c = λ subs.
    let P : Tree → Type 0 = λ t. IsTreeLookRefusal (rows_of c.args.hubs.now c.args.feeds.now subs) (length c.args.sub_joins.now) t c.in-Err.why in
    subst P (sym c.in-Feed.is) (c.in-Err.ensures.err subs)

pub returns-in-Ok-joins_of_sub-clause-joins : goal.returns-in-Ok-joins_of_sub-clause-joins
returns-in-Ok-joins_of_sub-clause-joins g c =
    let P : Tree → Type 0 = λ t. AreJoins c.args.hubs.now c.args.feeds.now (map (λ js. js.items) c.args.sub_joins.now) (map (λ js. js.items) c.args.feed_joins.now) t c.in-Ok-joins_of_sub.joins.items in
    subst P (sym c.in-Sub.is) c.in-Ok-joins_of_sub.ensures.joins

pub returns-in-Err-joins_of_sub-clause-err : goal.returns-in-Err-joins_of_sub-clause-err
returns-in-Err-joins_of_sub-clause-err g c = λ subs.
    let P : Tree → Type 0 = λ t. IsTreeLookRefusal (rows_of c.args.hubs.now c.args.feeds.now subs) (length c.args.sub_joins.now) t c.in-Err-joins_of_sub.why in
    subst P (sym c.in-Sub.is) c.in-Err-joins_of_sub.ensures.err
