use Rattle.std.proofs.Common.{ℕ, inl, refl, subst, ◌∙◌}
use Rattle.rsx_region.proofs.Shares.{none_at}
use Rattle.rsx_region.specs.Pieces.{none_taken}
use Rattle.rsx_region.specs.Trees.{IsReadUnder, StaysWholeAt, stage_of}
use Rattle.rsx_region.proofs.Stages.{self_stage}
use Rattle.rsx_live_parts.proofs.Counts.{as_many, is_number, more_than, one_more}
use Rattle.rsx_live_parts.proofs.Sweeps.{at_least}
use Rattle.rsx_live_parts.proofs.cutting.try_cut.Goals as goal

pub returns-in_default-clause-more : goal.returns-in_default-clause-more
returns-in_default-clause-more g c = as_many _ _ refl

pub returns-in_default-clause-count : goal.returns-in_default-clause-count
returns-in_default-clause-count g c = refl

pub returns-in_default-clause-from : goal.returns-in_default-clause-from
returns-in_default-clause-from g c = λ m n whole most w. w

pub cut-requires : goal.cut-requires
cut-requires g c = c.requires

pub returns-in-Ok-cut-clause-count : goal.returns-in-Ok-cut-clause-count
returns-in-Ok-cut-clause-count g c = one_more c.args.trees.now.pieces.items c.cut.new.self.pieces.items c.args.above _ _ c.in-Ok-cut.ensures.cut.pieces

pub returns-in-Ok-cut-clause-more : goal.returns-in-Ok-cut-clause-more
returns-in-Ok-cut-clause-more g c = more_than _ _ (one_more c.args.trees.now.pieces.items c.cut.new.self.pieces.items c.args.above _ _ c.in-Ok-cut.ensures.cut.pieces)

pub returns-in-Ok-cut-clause-from : goal.returns-in-Ok-cut-clause-from
returns-in-Ok-cut-clause-from g c = λ m n whole most w. c.cut.ensures.from m (none_taken n) whole (none_at n c.in-Ok.hub (is_number c.in-Ok.hub c.len.result n c.in-Ok.ensures most)) w

pub returns-in-Err-Whole-clause-count : goal.returns-in-Err-Whole-clause-count
returns-in-Err-Whole-clause-count g c = c.in-Err-Whole.ensures.same.0.count

pub returns-in-Err-Whole-clause-more : goal.returns-in-Err-Whole-clause-more
returns-in-Err-Whole-clause-more g c = as_many _ _ c.in-Err-Whole.ensures.same.0.count

pub returns-in-Err-Whole-clause-from : goal.returns-in-Err-Whole-clause-from
returns-in-Err-Whole-clause-from g c = λ m n whole most w. c.cut.ensures.from m (none_taken n) whole (none_at n c.in-Ok.hub (is_number c.in-Ok.hub c.len.result n c.in-Ok.ensures most)) w

pub returns-in-Err-NoMemory-clause-more : goal.returns-in-Err-NoMemory-clause-more
returns-in-Err-NoMemory-clause-more g c = as_many _ _ c.in-Err-NoMemory.ensures.same.0.count

pub returns-in-Err-NoMemory-clause-from : goal.returns-in-Err-NoMemory-clause-from
returns-in-Err-NoMemory-clause-from g c = λ m n whole most w. c.cut.ensures.from m (none_taken n) whole (none_at n c.in-Ok.hub (is_number c.in-Ok.hub c.len.result n c.in-Ok.ensures most)) w

pub returns-in_default-clause-whole : goal.returns-in_default-clause-whole
returns-in_default-clause-whole g c = λ is. (inl (at_least c.len.result _ c.in_default.ensures (c.len.ensures ∙ c.args.trees.now.links.ok.0)), self_stage (stage_of c.args.trees.now))

pub returns-in-Ok-cut-clause-cut : goal.returns-in-Ok-cut-clause-cut
returns-in-Ok-cut-clause-cut g c = λ is. (c.in-Ok-cut.ensures.cut, subst (λ (k : ℕ). IsReadUnder k c.args.above c.cut.new.self.pieces.items) (c.in-Ok.ensures.1 ∙ (c.len.ensures ∙ c.args.trees.now.links.ok.0)) c.in-Ok-cut.ensures.hub)

pub returns-in-Err-Whole-clause-whole : goal.returns-in-Err-Whole-clause-whole
returns-in-Err-Whole-clause-whole g c = λ is. (subst (λ (k : ℕ). StaysWholeAt g.N.Machine g.N.CrossingNodes c.args.trees.now c.args.above c.args.at k) (c.in-Ok.ensures.1 ∙ (c.len.ensures ∙ c.args.trees.now.links.ok.0)) (c.in-Err-Whole.ensures.whole c.in-Err-Whole.field-0-is), c.in-Err-Whole.ensures.same.0)
