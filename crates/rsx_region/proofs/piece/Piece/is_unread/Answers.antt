use Rattle.std.proofs.Common.{List, subst, sym}
use Rattle.rsx_region.specs.Cuts.{NoneHasNumber}
use Rattle.rsx_region.specs.declared.piece.Incoming.{Incoming}
use Rattle.rsx_region.proofs.piece.Piece.is_unread.Goals as goal

pub returns-then-is_read_by_none-clause-free : goal.returns-then-is_read_by_none-clause-free
returns-then-is_read_by_none-clause-free g c = λ rest. let N : List (Incoming _) → Type 0 = λ l. NoneHasNumber c.args.hub l in (c.is_read_by_none.ensures.free c.if-is_read_by_none.true, subst N c.deref.ensures.value (c.has_no_number.ensures.free rest))

pub returns-then-is_read_by_none-clause-used : goal.returns-then-is_read_by_none-clause-used
returns-then-is_read_by_none-clause-used g c = λ is free none. let N : List (Incoming _) → Type 0 = λ l. NoneHasNumber c.args.hub l in c.has_no_number.ensures.used is (subst N (sym c.deref.ensures.value) none)

pub returns-else-is_read_by_none-clause-used : goal.returns-else-is_read_by_none-clause-used
returns-else-is_read_by_none-clause-used g c = λ is free none. c.is_read_by_none.ensures.used c.if-is_read_by_none.false free
