use Rattle.std.proofs.Common.{◌≡◌, true, ◌<◌, ◌≤◌, length, sym, ◌∙◌, subst, arith, rules}
use Rattle.std.proofs.lemmas.List.{length-set, with_items_is}
use Rattle.std.specs.Vec.{with_items}
use Rattle.rsx_plain.specs.Passes.{GoThrough}
use Rattle.rsx_plain.specs.declared.state.PlainState.TheVariants.{Map as MapFrom}
use Rattle.rsx_plain.proofs.Batches.{all_of, one_more, rest_on}
use Rattle.rsx_plain.proofs.batch.VecAllThrough.map_all.Goals as goal

pub loop-item-preserved : goal.loop-item-preserved
loop-item-preserved g c =
    let i = c.loop-item.invariant in
    let at = c.loop-item.item-index in
    let xs = c.args.self.now.items in
    let ys = c.loop-item.item-items in
    let x = c.item-item.result in
    let count = i.count in
    let yes : c.map_in_place.result ≡ true = search rules in
    let within : at < length xs = omega (arith, count) in record {
      count = length-set ys at c.map_in_place.new.self ∙ count;
      rest = rest_on at xs ys x c.map_in_place.new.self count within i.rest;
      through = one_more (g.O.Ops.meaning c.args.ops.now) (MapFrom c.args.function) (MapFrom c.args.function) (MapFrom c.args.function) at xs ys x c.map_in_place.new.self count within i.rest i.through (c.map_in_place.ensures yes);
    }

pub returns : goal.returns
returns g c = λ e.
    let m = g.O.Ops.meaning c.args.ops.now in
    let i = c.loop-item.invariant in
    let at = c.loop-item.item-index in
    let xs = c.args.self.now.items in
    let ys = c.loop-item.item-items in
    let count = i.count in
    let done : length xs ≤ at = omega (arith, count) in
    let is : (with_items c.args.self.now ys).items ≡ ys = with_items_is c.args.self.now ys (count ∙ sym c.args.self.now.ok.0) in
    subst (λ l. GoThrough m (MapFrom c.args.function) xs l (MapFrom c.args.function)) (sym is) (all_of m (MapFrom c.args.function) (MapFrom c.args.function) at xs ys count done i.through)
