use Rattle.std.proofs.Common.{◌≡◌, ◌+ℤ◌, pos, arith}
use Rattle.std.proofs.lemmas.Int.{ints, to_z-of_z}
use Rattle.std.proofs.lemmas.List.FromFn.{map-range_with_len_more}
use Rattle.rsx_model.proofs.operators.plain.range_list.Goals as goal

pub loop-k-preserved : goal.loop-k-preserved
loop-k-preserved g c =
    let m = g.O.Ops.meaning c.args.ops.now in
    let e = map-range_with_len_more (λ k. m.number (c.args.first +ℤ pos k)) 0 c.loop-k.k c.loop-k.k (omega arith) in
    grind (arith, ints, to_z-of_z)

pub returns : goal.returns
returns g c = let e : c.args.count ≡ c.loop-k.k = omega arith in grind (arith, ints, to_z-of_z)
