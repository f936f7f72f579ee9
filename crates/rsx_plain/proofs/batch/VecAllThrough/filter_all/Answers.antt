use Rattle.std.proofs.Common.{◌≡◌, [], ◌∷◌, ◌++◌, reverse, ap, sym, subst, rules}
use Rattle.rsx_plain.specs.Passes.{GoThrough}
use Rattle.rsx_plain.specs.declared.state.PlainState.TheVariants.{Filter as FilterFrom}
use Rattle.rsx_plain.proofs.Batches.{ended, one_out, turned}
use Rattle.rsx_plain.proofs.batch.VecAllThrough.filter_all.Goals as goal

pub loop-item-preserved-in-Item : goal.loop-item-preserved-in-Item
loop-item-preserved-in-Item g c =
    let m = g.O.Ops.meaning c.args.ops.now in
    let old = FilterFrom c.args.function c.args.dropped.now in
    let now = FilterFrom c.args.function c.loop-item.dropped in
    let next = FilterFrom c.args.function c.through_filter.new.dropped in
    let all : c.loop-item.self.items ≡ c.pop.new.self.items ++ c.in-Some.item ∷ [] = search rules in
    let more : c.push_reserved.new.self.items ≡ c.loop-item.spare.items ++ c.in-Item.out ∷ [] = search rules in (
      one_out m old c.args.self.now.items now next c.in-Some.item c.in-Item.out (reverse c.loop-item.self.items) (reverse c.pop.new.self.items) c.loop-item.spare.items c.push_reserved.new.self.items c.loop-item.invariant.0 (turned c.loop-item.self.items c.pop.new.self.items c.in-Some.item all) c.in-Item.ensures more,
      search rules,
    )

pub returns : goal.returns
returns g c = λ e.
    let m = g.O.Ops.meaning c.args.ops.now in
    let old = FilterFrom c.args.function c.args.dropped.now in
    let new = FilterFrom c.args.function c.loop-item.dropped in
    let empty : c.loop-item.self.items ≡ [] = search rules in
    let out : c.swap.new.x.items ≡ c.loop-item.spare.items = ap (λ u. u.items) c.swap.ensures.x_after in
    subst (λ l. GoThrough m old c.args.self.now.items l new) (sym out) (ended m old c.args.self.now.items new (reverse c.loop-item.self.items) c.loop-item.spare.items c.loop-item.invariant.0 (ap reverse empty))
