use Rattle.std.proofs.Common.{refl, rules, subst, sym}
use Rattle.rsx_serialized.specs.Sending.{IsFirstFor}
use Rattle.rsx_serialized.proofs.Goes.{region_same}
use Rattle.rsx_serialized.proofs.Regions.{first_some, outlet_at, outlet_there, sends_step}
use Rattle.rsx_serialized.proofs.Resting.{far_held, full_held, none_held, sent_fewer, sent_none, still_same, still_set}
use Rattle.rsx_serialized.proofs.Rounds.{busy_sent, sent_one, set_there}
use Rattle.rsx_serialized.proofs.region.GraphRegion.send_one.Goals as goal

pub returns-in-None-clause-goes : goal.returns-in-None-clause-goes
returns-in-None-clause-goes g c = region_same c.args.links.now c.args.self.now c.requires

pub returns-in-None-clause-none : goal.returns-in-None-clause-none
returns-in-None-clause-none g c e = record { pending = refl; held = none_held c.args.self.now.pending.items c.args.self.now.outlets.items (search rules) }

pub returns-in-None-clause-still : goal.returns-in-None-clause-still
returns-in-None-clause-still g c = still_same c.args.self.now.outlets.items

pub returns-then-at-len-clause-goes : goal.returns-then-at-len-clause-goes
returns-then-at-len-clause-goes g c = region_same c.args.links.now c.args.self.now c.requires

pub returns-then-at-len-clause-none : goal.returns-then-at-len-clause-none
returns-then-at-len-clause-none g c e = record {
  pending = refl;
  held = far_held c.in-Some.at c.args.self.now.pending.items c.args.self.now.outlets.items c.in-Some.ensures.some (search rules);
}

pub returns-then-at-len-clause-still : goal.returns-then-at-len-clause-still
returns-then-at-len-clause-still g c = still_same c.args.self.now.outlets.items

pub send_first-requires-clause-end : goal.send_first-requires-clause-end
send_first-requires-clause-end g c = (outlet_there c.args.links.now.taps.items c.args.self.now.outlets.items c.in-Some.at c.index.result.now c.index_mut.result.now c.requires.outlets (search rules) c.index.ensures c.index_mut.ensures.value).0

pub send_first-requires-clause-some : goal.send_first-requires-clause-some
send_first-requires-clause-some g c = first_some c.in-Some.at c.args.self.now.pending.items c.in-Some.ensures.some

pub returns-clause-goes : goal.returns-clause-goes
returns-clause-goes g c = sends_step c.args.links.now c.args.self.now _ c.in-Some.at c.send_first.result c.index.result.now c.index_mut.result.now c.send_first.new.outlet c.requires (search rules) c.index.ensures c.index_mut.ensures.value refl refl refl c.in-Some.ensures.some c.send_first.ensures.kept c.send_first.ensures.sent refl

pub returns-clause-none : goal.returns-clause-none
returns-clause-none g c e =
    let same = sent_none c.send_first.result c.args.self.now.pending.items c.send_first.new.pending.items c.index_mut.result.now c.send_first.new.outlet c.send_first.ensures.sent e in
    let first = c.in-Some.ensures.some in record {
      pending = same;
      held = full_held c.in-Some.at c.send_first.new.pending.items c.args.self.now.outlets.items c.send_first.new.outlet (subst (λ ds. IsFirstFor c.in-Some.at ds) (sym same) first) (c.send_first.ensures.full e);
    }

pub returns-clause-still : goal.returns-clause-still
returns-clause-still g c = still_set c.args.self.now.outlets.items c.in-Some.at c.index_mut.result.now c.send_first.new.outlet (outlet_at c.args.self.now.outlets.items c.in-Some.at c.index_mut.result.now (search rules) c.index_mut.ensures.value) c.send_first.ensures.kept.steps

pub returns-clause-busy : goal.returns-clause-busy
returns-clause-busy g c e =
    let os = c.args.self.now.outlets.items in
    let there = outlet_at os c.in-Some.at c.index_mut.result.now (search rules) c.index_mut.ensures.value in
    busy_sent c.args.links.now c.args.self.now _
    (sends_step c.args.links.now c.args.self.now _ c.in-Some.at c.send_first.result c.index.result.now c.index_mut.result.now c.send_first.new.outlet c.requires (search rules) c.index.ensures c.index_mut.ensures.value refl refl refl c.in-Some.ensures.some c.send_first.ensures.kept c.send_first.ensures.sent refl)
    (sent_one c.send_first.result c.args.self.now.pending.items c.send_first.new.pending.items os c.in-Some.at c.index_mut.result.now c.send_first.new.outlet there (set_there os c.in-Some.at c.index_mut.result.now c.send_first.new.outlet there) c.send_first.ensures.sent e)

pub returns-clause-fewer : goal.returns-clause-fewer
returns-clause-fewer g c e = sent_fewer c.send_first.result c.args.self.now.pending.items c.send_first.new.pending.items c.index_mut.result.now c.send_first.new.outlet c.send_first.ensures.sent e
