use Rattle.std.proofs.Common.{◌≡◌, [], ◌∷◌, ◌++◌, reverse, ap, sym, subst, rules}
use Rattle.rsx_plain.specs.Passes.{GoThrough}
use Rattle.rsx_plain.specs.declared.state.PlainState.TheVariants.{Buffer as BufferFrom}
use Rattle.rsx_plain.proofs.Batches.{ended, one_out, turned}
use Rattle.rsx_plain.proofs.batch.VecAllThrough.buffer_all.Goals as goal

pub loop-item-preserved-in-Item : goal.loop-item-preserved-in-Item
loop-item-preserved-in-Item g c =
    let m = g.O.Ops.meaning c.args.ops.now in
    let old = BufferFrom c.args.size c.args.gathered.now in
    let now = BufferFrom c.args.size c.loop-item.gathered in
    let next = BufferFrom c.args.size c.through_buffer.new.gathered in
    let all : c.loop-item.self.items ≡ c.pop.new.self.items ++ c.in-Some.item ∷ [] = search rules in
    let more : c.push_reserved.new.self.items ≡ c.loop-item.spare.items ++ c.in-Item.list ∷ [] = search rules in (
      one_out m old c.args.self.now.items now next c.in-Some.item c.in-Item.list (reverse c.loop-item.self.items) (reverse c.pop.new.self.items) c.loop-item.spare.items c.push_reserved.new.self.items c.loop-item.invariant.0 (turned c.loop-item.self.items c.pop.new.self.items c.in-Some.item all) c.in-Item.ensures more,
      search rules,
    )

pub returns : goal.returns
returns g c = λ e.
    let m = g.O.Ops.meaning c.args.ops.now in
    let old = BufferFrom c.args.size c.args.gathered.now in
    let new = BufferFrom c.args.size c.loop-item.gathered in
    let empty : c.loop-item.self.items ≡ [] = search rules in
    let out : c.swap.new.x.items ≡ c.loop-item.spare.items = ap (λ u. u.items) c.swap.ensures.x_after in
    subst (λ l. GoThrough m old c.args.self.now.items l new) (sym out) (ended m old c.args.self.now.items new (reverse c.loop-item.self.items) c.loop-item.spare.items c.loop-item.invariant.0 (ap reverse empty))
