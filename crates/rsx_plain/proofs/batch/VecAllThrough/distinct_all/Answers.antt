use Rattle.std.proofs.Common.{◌≡◌, [], ◌∷◌, ◌++◌, reverse, ap, sym, subst, rules}
use Rattle.rsx_plain.specs.Passes.{GoThrough}
use Rattle.rsx_plain.specs.declared.state.PlainState.TheVariants.{Distinct as DistinctFrom}
use Rattle.rsx_plain.proofs.Batches.{ended, one_out, turned}
use Rattle.rsx_plain.proofs.batch.VecAllThrough.distinct_all.Goals as goal

pub loop-item-preserved-in-Item : goal.loop-item-preserved-in-Item
loop-item-preserved-in-Item g c =
    let m = g.O.Ops.meaning c.args.ops.now in
    let old = DistinctFrom c.args.function c.args.keys.now c.args.repeated.now in
    let now = DistinctFrom c.args.function c.loop-item.keys c.loop-item.repeated in
    let next = DistinctFrom c.args.function c.through_distinct.new.keys c.through_distinct.new.repeated in
    let all : c.loop-item.self.items ≡ c.pop.new.self.items ++ c.in-Some.item ∷ [] = search rules in
    let more : c.push_reserved.new.self.items ≡ c.loop-item.spare.items ++ c.in-Item.out ∷ [] = search rules in (
      one_out m old c.args.self.now.items now next c.in-Some.item c.in-Item.out (reverse c.loop-item.self.items) (reverse c.pop.new.self.items) c.loop-item.spare.items c.push_reserved.new.self.items c.loop-item.invariant.0 (turned c.loop-item.self.items c.pop.new.self.items c.in-Some.item all) c.in-Item.ensures more,
      search rules,
    )

pub returns : goal.returns
returns g c = λ e.
    let m = g.O.Ops.meaning c.args.ops.now in
    let old = DistinctFrom c.args.function c.args.keys.now c.args.repeated.now in
    let new = DistinctFrom c.args.function c.loop-item.keys c.loop-item.repeated in
    let empty : c.loop-item.self.items ≡ [] = search rules in
    let out : c.swap.new.x.items ≡ c.loop-item.spare.items = ap (λ u. u.items) c.swap.ensures.x_after in
    subst (λ l. GoThrough m old c.args.self.now.items l new) (sym out) (ended m old c.args.self.now.items new (reverse c.loop-item.self.items) c.loop-item.spare.items c.loop-item.invariant.0 (ap reverse empty))
