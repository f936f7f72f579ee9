use Rattle.std.proofs.Common.{◌≡◌, ◌-◌, ◌++◌, ◌∙◌, ap, arith, reverse}
use Rattle.rsx_rooted.specs.Taking.{blocks}
use Rattle.rsx_graph_state.proofs.AllAtOnce.{last_block, one_more_block}
use Rattle.rsx_graph_state.proofs.feeding_many.lay_out_many.Goals as goal

pub loop-made-preserved : goal.loop-made-preserved
loop-made-preserved g c =
    let all = reverse c.args.from.now.items in
    c.in_ok-copy_reversed.ensures ∙ (ap (λ l. c.loop-made.items.items ++ reverse l) c.as_slice.ensures.value ∙ (ap (λ l. l ++ all) c.loop-made.invariant ∙ one_more_block c.loop-made.made all))

pub returns : goal.returns
returns g c =
    let all = reverse c.args.from.now.items in
    let done = c.loop-made-test.false in
    let end = c.loop-made.auto.made-end in
    let many : c.loop-made.made ≡ c.args.readers - 1 = omega (arith, done, end) in
    c.move_reversed.ensures ∙ (ap (λ l. l ++ all) (c.in_ok-reserve.ensures.items ∙ (c.loop-made.invariant ∙ ap (λ k. blocks k all) many)) ∙ last_block c.args.readers all c.requires.some)
