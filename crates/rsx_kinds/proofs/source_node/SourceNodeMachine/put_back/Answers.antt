use Rattle.std.proofs.Common.{subst}
use Rattle.rsx_kinds.specs.Prelude.{SourceNode, source_popped}
use Rattle.rsx_kinds.proofs.Dispatch.{returned_items, returned_range, returned_hub}
use Rattle.rsx_kinds.proofs.source_node.SourceNodeMachine.put_back.Goals as goal

pub returns-in-Items : goal.returns-in-Items
returns-in-Items g c = λ before h.
    let P : SourceNode _ → Type 0 = λ t. source_popped before c.args.signal t in
    returned_items before c.args.signal c.in-Items.node c.put_back.new.self (subst P c.in-Items.is h) c.put_back.ensures

pub returns-in-Range : goal.returns-in-Range
returns-in-Range g c = λ before h.
    let P : SourceNode _ → Type 0 = λ t. source_popped before c.args.signal t in
    returned_range before c.args.signal c.in-Range.node c.put_back-in-Range.new.self (subst P c.in-Range.is h) c.put_back-in-Range.ensures

pub returns-in-Hub : goal.returns-in-Hub
returns-in-Hub g c = λ before h.
    let P : SourceNode _ → Type 0 = λ t. source_popped before c.args.signal t in
    returned_hub before c.args.signal c.in-Hub.node c.put_back-in-Hub.new.self (subst P c.in-Hub.is h) c.put_back-in-Hub.ensures
