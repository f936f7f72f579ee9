use Rattle.std.proofs.Common.{subst}
use Rattle.rsx_kinds.specs.Prelude.{AnyNode, any_popped}
use Rattle.rsx_kinds.proofs.Dispatch.{returned_plain, returned_publish_on, returned_several, returned_source, returned_window, returned_flat_map, returned_flat_map_delay, returned_publish_on_eager, returned_group_by}
use Rattle.rsx_kinds.proofs.any_node.AnyNodeMachine.put_back.Goals as goal

pub returns-in-Source : goal.returns-in-Source
returns-in-Source g c = λ before h.
    let P : AnyNode _ → Type 0 = λ t. any_popped before c.args.signal t in
    returned_source before c.args.signal c.in-Source.node c.put_back.new.self (subst P c.in-Source.is h) c.put_back.ensures

pub returns-in-Plain : goal.returns-in-Plain
returns-in-Plain g c = λ before h.
    let P : AnyNode _ → Type 0 = λ t. any_popped before c.args.signal t in
    returned_plain before c.args.signal c.in-Plain.node c.put_back-in-Plain.new.self (subst P c.in-Plain.is h) c.put_back-in-Plain.ensures

pub returns-in-Several : goal.returns-in-Several
returns-in-Several g c = λ before h.
    let P : AnyNode _ → Type 0 = λ t. any_popped before c.args.signal t in
    returned_several before c.args.signal c.in-Several.node c.put_back-in-Several.new.self (subst P c.in-Several.is h) c.put_back-in-Several.ensures

pub returns-in-PublishOn : goal.returns-in-PublishOn
returns-in-PublishOn g c = λ before h.
    let P : AnyNode _ → Type 0 = λ t. any_popped before c.args.signal t in
    returned_publish_on before c.args.signal c.in-PublishOn.node c.put_back-in-PublishOn.new.self (subst P c.in-PublishOn.is h) c.put_back-in-PublishOn.ensures

pub returns-in-Window : goal.returns-in-Window
returns-in-Window g c = λ before h.
    let P : AnyNode _ → Type 0 = λ t. any_popped before c.args.signal t in
    returned_window before c.args.signal c.in-Window.node c.put_back-in-Window.new.self (subst P c.in-Window.is h) c.put_back-in-Window.ensures

pub returns-in-FlatMap : goal.returns-in-FlatMap
returns-in-FlatMap g c = λ before h.
    let P : AnyNode _ → Type 0 = λ t. any_popped before c.args.signal t in
    returned_flat_map before c.args.signal c.in-FlatMap.node c.put_back-in-FlatMap.new.self (subst P c.in-FlatMap.is h) c.put_back-in-FlatMap.ensures

pub returns-in-FlatMapDelay : goal.returns-in-FlatMapDelay
returns-in-FlatMapDelay g c = λ before h.
    let P : AnyNode _ → Type 0 = λ t. any_popped before c.args.signal t in
    returned_flat_map_delay before c.args.signal c.in-FlatMapDelay.node c.put_back-in-FlatMapDelay.new.self (subst P c.in-FlatMapDelay.is h) c.put_back-in-FlatMapDelay.ensures

pub returns-in-PublishOnEager : goal.returns-in-PublishOnEager
returns-in-PublishOnEager g c = λ before h.
    let P : AnyNode _ → Type 0 = λ t. any_popped before c.args.signal t in
    returned_publish_on_eager before c.args.signal c.in-PublishOnEager.node c.put_back-in-PublishOnEager.new.self (subst P c.in-PublishOnEager.is h) c.put_back-in-PublishOnEager.ensures

pub returns-in-GroupBy : goal.returns-in-GroupBy
returns-in-GroupBy g c = λ before h.
    let P : AnyNode _ → Type 0 = λ t. any_popped before c.args.signal t in
    returned_group_by before c.args.signal c.in-GroupBy.node c.put_back-in-GroupBy.new.self (subst P c.in-GroupBy.is h) c.put_back-in-GroupBy.ensures
