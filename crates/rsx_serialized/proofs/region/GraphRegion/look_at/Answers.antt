use Rattle.std.proofs.Common.{refl, ◌∙◌}
use Rattle.rsx_serialized.proofs.Goes.{both_go}
use Rattle.rsx_serialized.proofs.Regions.{look_step, outlet_at, outlet_there, outlet_within, only_at}
use Rattle.rsx_serialized.proofs.Resting.{one_seen, see_one, seen_now}
use Rattle.rsx_serialized.proofs.Telling.{told_stands}
use Rattle.rsx_serialized.proofs.region.GraphRegion.look_at.Goals as goal

pub look-looked-requires-clause-end : goal.look-looked-requires-clause-end
look-looked-requires-clause-end g c = (outlet_there c.args.links.now.taps.items c.args.self.now.outlets.items c.args.at c.index.result.now c.index_mut.result.now c.requires.ends.outlets (outlet_within c.args.links.now c.args.self.now c.args.at c.requires.ends c.requires.there) c.index.ensures c.index_mut.ensures.value).0

pub look-looked-requires-clause-passed : goal.look-looked-requires-clause-passed
look-looked-requires-clause-passed g c = (outlet_there c.args.links.now.taps.items c.args.self.now.outlets.items c.args.at c.index.result.now c.index_mut.result.now c.requires.ends.outlets (outlet_within c.args.links.now c.args.self.now c.args.at c.requires.ends c.requires.there) c.index.ensures c.index_mut.ensures.value).1

pub returns-clause-goes : goal.returns-clause-goes
returns-clause-goes g c =
    let l = c.look-looked.ensures in
    let os = c.args.self.now.outlets.items in
    let there = outlet_at os c.args.at c.index_mut.result.now (outlet_within c.args.links.now c.args.self.now c.args.at c.requires.ends c.requires.there) c.index_mut.ensures.value in
    both_go c.args.links.now _ c.args.self.now _
    (look_step c.args.links.now c.args.self.now _ c.args.at c.look-looked.result.items c.look-looked.result.stopped _ c.index_mut.result.now c.look-looked.new.self c.requires.ends (c.stop.ensures.ops ∙ c.ask.ensures.ops) (c.stop.ensures.joins ∙ c.ask.ensures.joins)
    (told_stands c.args.self.now.graph c.ask.new.graph c.stop.new.graph _ c.look-looked.result.items c.look-looked.result.stopped c.ask.ensures.ops c.ask.ensures.stands c.stop.ensures.stands)
    refl refl refl there (only_at c.args.links.now.taps.items os c.args.at c.index.result.now c.look-looked.new.self c.requires.ends.outlets (outlet_within c.args.links.now c.args.self.now c.args.at c.requires.ends c.requires.there) c.index.ensures (l.end, l.passed))
    refl l.items l.most l.stopped l.stays l.same.0 l.same.1 refl c.requires.there)

pub returns-clause-looked : goal.returns-clause-looked
returns-clause-looked g c =
    let l = c.look-looked.ensures in
    let os = c.args.self.now.outlets.items in
    let there = outlet_at os c.args.at c.index_mut.result.now (outlet_within c.args.links.now c.args.self.now c.args.at c.requires.ends c.requires.there) c.index_mut.ensures.value in
    see_one c.args.links.now c.args.at _ c.args.self.now _
    (look_step c.args.links.now c.args.self.now _ c.args.at c.look-looked.result.items c.look-looked.result.stopped _ c.index_mut.result.now c.look-looked.new.self c.requires.ends (c.stop.ensures.ops ∙ c.ask.ensures.ops) (c.stop.ensures.joins ∙ c.ask.ensures.joins)
    (told_stands c.args.self.now.graph c.ask.new.graph c.stop.new.graph _ c.look-looked.result.items c.look-looked.result.stopped c.ask.ensures.ops c.ask.ensures.stands c.stop.ensures.stands)
    refl refl refl there (only_at c.args.links.now.taps.items os c.args.at c.index.result.now c.look-looked.new.self c.requires.ends.outlets (outlet_within c.args.links.now c.args.self.now c.args.at c.requires.ends c.requires.there) c.index.ensures (l.end, l.passed))
    refl l.items l.most l.stopped l.stays l.same.0 l.same.1 refl c.requires.there)
    (one_seen c.args.at _ os c.index_mut.result.now c.look-looked.new.self there (seen_now c.args.at c.look-looked.result.items c.look-looked.result.stopped _ c.index_mut.result.now c.look-looked.new.self refl l.looked l.stopped))
