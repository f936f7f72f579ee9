use Rattle.rsx_kinds.proofs.any_node.AnyNodeMachine.residual.Goals as goal

pub returns-in-Source : goal.returns-in-Source
returns-in-Source g c = rw c.in-Source.is c.residual.ensures

pub returns-in-Several : goal.returns-in-Several
returns-in-Several g c = rw c.in-Several.is c.residual-in-Several.ensures

pub returns-in-PublishOn : goal.returns-in-PublishOn
returns-in-PublishOn g c = rw c.in-PublishOn.is c.residual-in-PublishOn.ensures

pub returns-in-Window : goal.returns-in-Window
returns-in-Window g c = rw c.in-Window.is c.residual-in-Window.ensures

pub returns-in-FlatMap : goal.returns-in-FlatMap
returns-in-FlatMap g c = rw c.in-FlatMap.is c.residual-in-FlatMap.ensures

pub returns-in-FlatMapDelay : goal.returns-in-FlatMapDelay
returns-in-FlatMapDelay g c = rw c.in-FlatMapDelay.is c.residual-in-FlatMapDelay.ensures

pub returns-in-PublishOnEager : goal.returns-in-PublishOnEager
returns-in-PublishOnEager g c = rw c.in-PublishOnEager.is c.residual-in-PublishOnEager.ensures

pub returns-in-GroupBy : goal.returns-in-GroupBy
returns-in-GroupBy g c = rw c.in-GroupBy.is c.residual-in-GroupBy.ensures
