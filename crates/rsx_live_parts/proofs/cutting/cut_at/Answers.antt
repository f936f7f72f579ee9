use Rattle.std.proofs.Common.{inl, inr, refl, sym, ◌∙◌}
use Rattle.rsx_live_parts.proofs.Counts.{beside_cut, beside_whole, if_none, on_none, still_below}
use Rattle.rsx_live_parts.proofs.cutting.cut_at.Goals as goal

pub try_cut-requires : goal.try_cut-requires
try_cut-requires g c = c.requires.there

pub returns-in_err-try_cut-clause-there : goal.returns-in_err-try_cut-clause-there
returns-in_err-try_cut-clause-there g c = still_below _ _ _ c.requires.there c.try_cut.ensures.more

pub returns-in_err-try_cut-clause-count : goal.returns-in_err-try_cut-clause-count
returns-in_err-try_cut-clause-count g c = refl

pub returns-in_err-try_cut-clause-from : goal.returns-in_err-try_cut-clause-from
returns-in_err-try_cut-clause-from g c = c.try_cut.ensures.from

pub returns-then-not-branch-clause-there : goal.returns-then-not-branch-clause-there
returns-then-not-branch-clause-there g c = still_below _ _ _ c.requires.there c.try_cut.ensures.more

pub returns-then-not-branch-clause-count : goal.returns-then-not-branch-clause-count
returns-then-not-branch-clause-count g c = refl

pub returns-then-not-branch-clause-from : goal.returns-then-not-branch-clause-from
returns-then-not-branch-clause-from g c = c.try_cut.ensures.from

pub returns-in_err-push-clause-there : goal.returns-in_err-push-clause-there
returns-in_err-push-clause-there g c = still_below _ _ _ c.requires.there c.try_cut.ensures.more

pub returns-in_err-push-clause-count : goal.returns-in_err-push-clause-count
returns-in_err-push-clause-count g c = c.push.ensures.count

pub returns-in_err-push-clause-from : goal.returns-in_err-push-clause-from
returns-in_err-push-clause-from g c = c.try_cut.ensures.from

pub returns-clause-there : goal.returns-clause-there
returns-clause-there g c = still_below _ _ _ c.requires.there c.try_cut.ensures.more

pub returns-clause-count : goal.returns-clause-count
returns-clause-count g c = c.push.ensures.count

pub returns-clause-from : goal.returns-clause-from
returns-clause-from g c = c.try_cut.ensures.from

pub returns-in_err-try_cut-clause-beside : goal.returns-in_err-try_cut-clause-beside
returns-in_err-try_cut-clause-beside g c = on_none c.from_residual.result _ c.from_residual.ensures.0

pub returns-then-not-branch-clause-beside : goal.returns-then-not-branch-clause-beside
returns-then-not-branch-clause-beside g c = beside_whole _ _ _ c.in_ok-try_cut.field-0 c.requires.beside c.in_ok-try_cut.ensures.count c.if-not-branch.true

pub returns-in_err-push-clause-beside : goal.returns-in_err-push-clause-beside
returns-in_err-push-clause-beside g c = on_none c.from_residual-in_err-push.result _ c.from_residual-in_err-push.ensures.0

pub returns-clause-beside : goal.returns-clause-beside
returns-clause-beside g c = beside_cut _ _ _ _ c.in_ok-try_cut.field-0 c.requires.beside c.in_ok-try_cut.ensures.count c.if-not-branch.false c.in_ok-push.ensures.beside

pub returns-in_err-try_cut-clause-cut : goal.returns-in_err-try_cut-clause-cut
returns-in_err-try_cut-clause-cut g c = if_none c.from_residual.result _ c.from_residual.ensures.0

pub returns-then-not-branch-clause-cut : goal.returns-then-not-branch-clause-cut
returns-then-not-branch-clause-cut g c =
    let left = c.in_ok-try_cut.ensures.whole c.if-not-branch.true in
    inr (record { whole = left.0; same = left.1; placed = refl; begins = refl; none = refl })

pub returns-in_err-push-clause-cut : goal.returns-in_err-push-clause-cut
returns-in_err-push-clause-cut g c = if_none c.from_residual-in_err-push.result _ c.from_residual-in_err-push.ensures.0

pub returns-clause-cut : goal.returns-clause-cut
returns-clause-cut g c =
    let cut = c.in_ok-try_cut.ensures.cut c.if-not-branch.false in
    let last = c.count_last.ensures in
    inl (record { cut = cut.0; hub = cut.1; placed = c.in_ok-push.ensures.places; begins = c.in_ok-push.ensures.cursors; counts = (last.0, last.1, sym c.deref.ensures.value ∙ last.2, last.3) })
