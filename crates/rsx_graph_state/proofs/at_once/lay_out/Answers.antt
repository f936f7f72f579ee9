use Rattle.std.proofs.Common.{◌≡◌, ◌-◌, ◌<◌, ◌++◌, ◌∙◌, ℕ, List, Result, Ok, Err, ap, arith, reverse}
use Rattle.std.specs.Prelude.{OnOk}
use Rattle.rsx_rooted.specs.Taking.{blocks}
use Rattle.rsx_graph_state.proofs.AllAtOnce.{last_block, one_more_block}
use Rattle.rsx_graph_state.proofs.at_once.lay_out.Goals as goal

pub loop-made-preserved : goal.loop-made-preserved
loop-made-preserved g c =
    let all = reverse c.args.hub.now.inbox in
    c.in_ok-copy_inbox.ensures ∙ (ap (λ l. l ++ all) c.loop-made.invariant ∙ one_more_block c.loop-made.made all)

laid : {T A E : Type 0} (r : Result A E) (made readers : ℕ) (old new all : List T) → made ≡ readers - 1 → 0 < readers → old ≡ blocks made all → OnOk r (new ≡ old ++ all) → OnOk r (new ≡ blocks readers all)
laid (Ok a) made readers old new all e some is more = more ∙ (ap (λ l. l ++ all) (is ∙ ap (λ k. blocks k all) e) ∙ last_block readers all some)
laid (Err x) made readers old new all e some is more = more

pub returns-clause-items : goal.returns-clause-items
returns-clause-items g c =
    let done = c.loop-made-test.false in
    let end = c.loop-made.auto.made-end in
    laid c.accept_all.result c.loop-made.made c.args.readers c.loop-made.items.items c.accept_all.new.items.items (reverse c.args.hub.now.inbox) (omega (arith, done, end)) c.requires.some c.loop-made.invariant c.accept_all.ensures.items
