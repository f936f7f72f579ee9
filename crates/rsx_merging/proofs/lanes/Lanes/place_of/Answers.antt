use Rattle.std.proofs.Common.{◌≡◌, ◌<◌, ◌≤◌, length, slice_index_or, nat_eq, true, false, rules, sym, ap, ◌∙◌, arith}
use Rattle.rsx_values.proofs.Places.{not_among_more, not_among}
use Rattle.rsx_merging.proofs.Places.{place_there}
use Rattle.rsx_merging.proofs.lanes.Lanes.place_of.Goals as goal

pub returns-then-number : goal.returns-then-number
returns-then-number g c =
    let is = c.args.self.now in
    let i = c.index.result.now in
    let same : length is ≡ length c.self.inside.list.items = ap length (sym c.self.view_is) in
    let within : c.loop-at.at < length is = omega (arith, same) in
    let at : slice_index_or is c.loop-at.at i ≡ i = ap (λ l. slice_index_or l c.loop-at.at i) (sym c.self.view_is) ∙ sym c.index.ensures in
    let test : nat_eq c.args.number i.0 ≡ true = search rules in
    place_there c.args.number is c.loop-at.at i within at c.loop-at.invariant test

pub loop-at-preserved : goal.loop-at-preserved
loop-at-preserved g c =
    let is = c.args.self.now in
    let i = c.index.result.now in
    let same : length is ≡ length c.self.inside.list.items = ap length (sym c.self.view_is) in
    let within : c.loop-at.at < length is = omega (arith, same) in
    let at : slice_index_or is c.loop-at.at i ≡ i = ap (λ l. slice_index_or l c.loop-at.at i) (sym c.self.view_is) ∙ sym c.index.ensures in
    let test : nat_eq c.args.number i.0 ≡ false = search rules in
    not_among_more c.args.number is c.loop-at.at i within at test c.loop-at.invariant

pub returns : goal.returns
returns g c =
    let is = c.args.self.now in
    let same : length is ≡ length c.self.inside.list.items = ap length (sym c.self.view_is) in
    let over : length is ≤ c.loop-at.at = omega (arith, same) in
    not_among c.args.number is c.loop-at.at over c.loop-at.invariant
