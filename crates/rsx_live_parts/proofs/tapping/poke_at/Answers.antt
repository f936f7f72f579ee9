use Rattle.std.proofs.Common.{◌≤◌, ℕ, ap, arith, subst, sym, slice_set}
use Rattle.std.specs.List.{AllZip}
use Rattle.rsx_gate.specs.Machine.{all_parts}
use Rattle.rsx_gate.specs.Seats.{IsSeatOf}
use Rattle.rsx_live_parts.proofs.Taps.{read_there, zip_at, zip_set}
use Rattle.rsx_live_parts.proofs.tapping.poke_at.Goals as goal

pub poke-requires-after_bounds : goal.poke-requires-after_bounds
poke-requires-after_bounds g c κs within =
    let seats = c.args.seats.now.items in
    let at = read_there seats c.from.result c.args.region c.index_mut.result.now c.from.ensures c.requires.there c.index_mut.ensures.value in
    let z = zip_at (λ g' s. IsSeatOf g' s × (all_parts ≤ s.me.0.parts)) c.args.live.now.gates.items seats c.args.region c.index_mut.result.now c.requires.seats at in
    (z.0, z.1, z.2.0)

pub returns-clause-seats : goal.returns-clause-seats
returns-clause-seats g c =
    let seats = c.args.seats.now.items in
    let gates = c.args.live.now.gates.items in
    let at = read_there seats c.from.result c.args.region c.index_mut.result.now c.from.ensures c.requires.there c.index_mut.ensures.value in
    let z = zip_at (λ g' s. IsSeatOf g' s × (all_parts ≤ s.me.0.parts)) gates seats c.args.region c.index_mut.result.now c.requires.seats at in
    let seat = c.poke.ensures.seat in
    let k = z.2.1 in
    let p = c.poke.ensures.parts in
    let all : all_parts ≤ c.poke.new.seat.me.0.parts = omega (arith, k, p) in
    let Z : ℕ → Type 0 = λ k. AllZip (λ g' s. IsSeatOf g' s × (all_parts ≤ s.me.0.parts)) gates (slice_set seats k c.poke.new.seat) in
    subst Z (sym c.from.ensures) (zip_set (λ g' s. IsSeatOf g' s × (all_parts ≤ s.me.0.parts)) gates seats c.args.region seat.0 c.poke.new.seat c.requires.seats seat.1 (seat.2, all))

pub returns-clause-went : goal.returns-clause-went
returns-clause-went g c =
    let seats = c.args.seats.now.items in
    record {
      was = c.index_mut.result.now;
      now = c.poke.new.seat;
      there = read_there seats c.from.result c.args.region c.index_mut.result.now c.from.ensures c.requires.there c.index_mut.ensures.value;
      put = ap (λ k. slice_set seats k c.poke.new.seat) c.from.ensures;
      done = c.poke.ensures.steps;
    }
