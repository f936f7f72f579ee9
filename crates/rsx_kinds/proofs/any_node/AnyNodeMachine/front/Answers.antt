use Rattle.rsx_kinds.proofs.any_node.AnyNodeMachine.front.Goals as goal

pub returns-in-Source : goal.returns-in-Source
returns-in-Source g c = record { shown = rw c.in-Source.is c.front.ensures.shown; first = λ m. rw c.in-Source.is (c.front.ensures.first m) }

pub returns-in-Plain : goal.returns-in-Plain
returns-in-Plain g c = record { shown = rw c.in-Plain.is c.front-in-Plain.ensures.shown; first = λ m. rw c.in-Plain.is (c.front-in-Plain.ensures.first m) }

pub returns-in-Several : goal.returns-in-Several
returns-in-Several g c = record { shown = rw c.in-Several.is c.front-in-Several.ensures.shown; first = λ m. rw c.in-Several.is (c.front-in-Several.ensures.first m) }

pub returns-in-PublishOn : goal.returns-in-PublishOn
returns-in-PublishOn g c = record { shown = rw c.in-PublishOn.is c.front-in-PublishOn.ensures.shown; first = λ m. rw c.in-PublishOn.is (c.front-in-PublishOn.ensures.first m) }

pub returns-in-Window : goal.returns-in-Window
returns-in-Window g c = record { shown = rw c.in-Window.is c.front-in-Window.ensures.shown; first = λ m. rw c.in-Window.is (c.front-in-Window.ensures.first m) }

pub returns-in-FlatMap : goal.returns-in-FlatMap
returns-in-FlatMap g c = record { shown = rw c.in-FlatMap.is c.front-in-FlatMap.ensures.shown; first = λ m. rw c.in-FlatMap.is (c.front-in-FlatMap.ensures.first m) }

pub returns-in-FlatMapDelay : goal.returns-in-FlatMapDelay
returns-in-FlatMapDelay g c = record { shown = rw c.in-FlatMapDelay.is c.front-in-FlatMapDelay.ensures.shown; first = λ m. rw c.in-FlatMapDelay.is (c.front-in-FlatMapDelay.ensures.first m) }

pub returns-in-PublishOnEager : goal.returns-in-PublishOnEager
returns-in-PublishOnEager g c = record { shown = rw c.in-PublishOnEager.is c.front-in-PublishOnEager.ensures.shown; first = λ m. rw c.in-PublishOnEager.is (c.front-in-PublishOnEager.ensures.first m) }

pub returns-in-GroupBy : goal.returns-in-GroupBy
returns-in-GroupBy g c = record { shown = rw c.in-GroupBy.is c.front-in-GroupBy.ensures.shown; first = λ m. rw c.in-GroupBy.is (c.front-in-GroupBy.ensures.first m) }
