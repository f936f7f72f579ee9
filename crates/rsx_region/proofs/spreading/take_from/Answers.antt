use Rattle.std.proofs.Common.{refl, slice_index_or}
use Rattle.rsx_region.proofs.Rows.{none_taken, numbers_kept, some_taken}
use Rattle.rsx_region.proofs.spreading.take_from.Goals as goal

pub returns-clause-some : goal.returns-clause-some
returns-clause-some g c = some_taken c.args.regions.now c.from.result c.args.place c.index-regions-from.result _ c.pop.result c.from.ensures c.requires c.pop.ensures.items

pub returns-clause-none : goal.returns-clause-none
returns-clause-none g c = none_taken c.args.regions.now c.from.result c.args.place c.index-regions-from.result c.pop.result _ _ _ c.from.ensures c.requires (slice_index_or c.args.regions.now c.from.result c.index-regions-from.result).pieces.ok.0 c.pop.ensures.cases

pub returns-clause-numbers : goal.returns-clause-numbers
returns-clause-numbers g c = numbers_kept c.args.regions.now c.from.result c.args.place c.index-regions-from.result _ c.from.ensures c.requires refl
