use Rattle.std.proofs.Common.{ap, subst, sym, ◌∙◌}
use Rattle.rsx_tree.specs.Reads.{row_readings}
use Rattle.rsx_tree.specs.declared.inputs.Inputs.{Inputs}
use Rattle.rsx_live_parts.specs.Outgoing.{NoneRead}
use Rattle.rsx_live_parts.proofs.Parts.{reads_one, row_parts}
use Rattle.rsx_live_parts.proofs.unread.+is_unread.Goals as goal
use Rattle.rsx_live_parts.proofs.unread.+is_unread.Goals.{then-is_none, else-is_none}

pub returns-then-is_unread-clause-no : goal.returns-then-is_unread-clause-no
returns-then-is_unread-clause-no g t c = λ is none.
    let more = c.in-More in
    let parts = row_parts (row_readings g.N.Machine c.args.row.now) (row_readings g.N.Machine more.below.value) (row_readings g.N.Machine more.beside.value) (g.N.Machine.reads more.machine) (ap (λ (r : Inputs _). row_readings g.N.Machine r) more.is) none in
    c.is_unread-then-is_unread.ensures.no is (subst (λ (r : Inputs _). NoneRead (row_readings g.N.Machine r)) (sym c.deref-then-is_unread.ensures) parts.2)

pub returns-else-is_unread-clause-no : goal.returns-else-is_unread-clause-no
returns-else-is_unread-clause-no g t c = λ is none.
    let more = c.in-More in
    let parts = row_parts (row_readings g.N.Machine c.args.row.now) (row_readings g.N.Machine more.below.value) (row_readings g.N.Machine more.beside.value) (g.N.Machine.reads more.machine) (ap (λ (r : Inputs _). row_readings g.N.Machine r) more.is) none in
    elim c.if-is_none.branch [
      | then-is_none w ↦ w.is_unread.ensures.no (sym w.value-is ∙ is) (subst (λ (r : Inputs _). NoneRead (row_readings g.N.Machine r)) (sym w.deref.ensures) parts.1)
      | else-is_none w ↦ reads_one (g.N.Machine.reads more.machine) c.hub.result c.is_none.result c.hub.ensures c.is_none.ensures w.if-is_none.false parts.0
    ]
