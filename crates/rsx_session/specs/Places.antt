-- Where a script stands, and what each command changes there and answers.
use Rattle.rsx_graph.specs.Kinds.{notes_of, Subscription}
use Rattle.std.specs.Prelude.{◌≡◌, ◌⊎◌, ℕ, ◌≤◌, Bool, true, false, Decides, List, [], ◌++◌, length, take, Some, Result, Ok, Err, slice_get, codes}
use Rattle.std.specs.Fmt.{decimal}
use Rattle.rsx_types.specs.Stream.{Stream}
use Rattle.rsx_types.specs.declared.names.Move.TheVariants.{Pick}
use Rattle.rsx_types.specs.declared.names.HubId.{HubId}
use Rattle.rsx_types.specs.declared.names.SubId.{SubId}
use Rattle.rsx_types.specs.declared.names.Tree.TheVariants.{Sub}
use Rattle.rsx_demo.specs.Demo.{demo_meaning, demo_allocates}
use Rattle.rsx_demo.specs.declared.val.Val.{Val}
use Rattle.rsx_demo.specs.declared.val.Val.TheVariants.{Int}
use Rattle.rsx_subscriber.specs.Prelude.{environment, Expr, IsScratch, name_codes as scratch_name, ScratchRefusal, Past, IsPrefixOf, items_in}
use Rattle.rsx_model.specs.declared.evaluate.ScratchRefusal.TheVariants as scratch
use Rattle.rsx_graph_state.specs.Prelude.{SubscriptionState}
use Rattle.rsx_subscriber.specs.declared.state.SubscriptionState.TheVariants as is
use Rattle.rsx_graph_state.specs.Names.{name_codes}
use Rattle.rsx_graph.specs.Rows.{AreValues, Feed, HasEnded, History, HasLooks, HubPast, IsFeedWait, IsOwed, IsWait, LeadTo, Made, after_moves, fed, feed_of, has_feed}
use Rattle.rsx_graph.specs.Done.{IsDone, fed_by}
use Rattle.rsx_graph.specs.Stands.{AreJoinsSame, GraphState, nothing}
use Rattle.rsx_graph.specs.Steps.{extended, no_history}
use Rattle.rsx_graph_state.specs.declared.refusal.Refusal.TheVariants.{NoMemory}
use Rattle.rsx_graph_state.specs.declared.step.Answer.{Answer}
use Rattle.rsx_graph_state.specs.declared.step.Answer.TheVariants.{Opened, Published, Subscribed, Requested, Cancelled, Made as MoveMade, Refused}
use Rattle.rsx_graph_state.specs.declared.step.Pumped.{Pumped}
use Rattle.rsx_graph_state.specs.declared.step.Pumped.TheVariants.{Idle, Budget}
use Rattle.rsx_graph.specs.declared.step.Step.{Step}
use Rattle.rsx_graph.specs.declared.step.Step.TheVariants as step
use Rattle.rsx_script.specs.declared.command.Command.{Command}
use Rattle.rsx_script.specs.declared.command.Command.TheVariants as command
use Rattle.rsx_script.specs.Answers.{notes_text, numbers_text, signals_text}
use Rattle.rsx_waits.specs.Looks.{looks_text}
use Rattle.rsx_waits.specs.Texts.{feed_wait_text, wait_text}
use Rattle.rsx_waits.specs.declared.look.NodeLook.{NodeLook}
use Rattle.rsx_waits.specs.declared.wait.FeedWait.{FeedWait}
use Rattle.rsx_waits.specs.declared.wait.Wait.{Wait}
use Rattle.rsx_session.specs.Kept.{Known, ending_in, followed_by, seen}
use Rattle.rsx_session.specs.declared.session.View.{View}
use Rattle.rsx_session.specs.declared.session.View.TheVariants.{Received, FromScratch}

-- a graph over the demonstration's functions, and what has happened to it
pub record Place : Type 0 where
  pub graph : GraphState Val
  pub history : History Val

-- where a script begins
abbrev pub begun : Place
begun = record { graph = nothing; history = no_history }

-- ---- calls that change the graph

-- what the call of a step is answered with
abbrev pub step_text : Answer Val → List ℕ
step_text (Opened hub) = codes "hub " ++ decimal hub.0
step_text Published = codes "ok"
step_text (Subscribed sub) = codes "sub " ++ decimal sub.0
step_text (Requested o) = codes "ok"
step_text Cancelled = codes "ok"
step_text (MoveMade o) = codes "ok"
step_text (Refused r) = codes "refused " ++ name_codes r

-- the graph made this step, or refused it other than for want of memory, and the text says which
abbrev pub IsStepMade : Step Val → Place → List ℕ → Place → Type 0
IsStepMade s old text new =
    (answer : Answer Val) × IsDone demo_meaning demo_allocates old.graph s answer new.graph × (new.history ≡ extended old.history s answer (fed_by demo_meaning old.graph s answer)) × (answer ≡ Refused NoMemory → ⊥) × (text ≡ step_text answer)

-- how a run of moves ended
abbrev pub pumped_text : Pumped → List ℕ
pumped_text Idle = codes "idle"
pumped_text Budget = codes "budget"

-- the graph made enabled moves, at most so many, until none was enabled, or else the whole budget was spent
abbrev pub ArePumped : ℕ → Place → List ℕ → Place → Type 0
ArePumped budget old text new =
    (moves : List (Made Val)) × LeadTo demo_meaning old.graph.rows moves new.graph.rows × AreJoinsSame old.graph new.graph × (new.history ≡ after_moves old.history moves)
    × ((ended : Pumped) × HasEnded demo_meaning budget (length moves) new.graph.rows (Ok ended) × (text ≡ pumped_text ended))

-- ---- looks

-- of what has happened to the subscriber with this number the answer says this; where there is none, the look is refused
abbrev pub OfSub : Place → ℕ → List ℕ → (Past Val → Type 0) → Type 0
OfSub place i text P =
    ((past : Past Val) × (slice_get place.history.pasts i ≡ Some past) × P past) ⊎ ((length place.history.pasts ≤ i) × (text ≡ codes "refused G2"))

-- what the graph owes it
abbrev pub IsOwing : Place → SubId → List ℕ → Type 0
IsOwing place sub rest = (v : Stream Val) × IsOwed demo_meaning place.graph.rows place.history sub v × (rest ≡ codes " | owed" ++ signals_text v.items v.ending)

-- what follows what it received
abbrev pub IsRest : Place → SubId → SubscriptionState → List ℕ → Type 0
IsRest place sub is.Open rest = IsOwing place sub rest
IsRest place sub is.Ended rest = IsOwing place sub rest
IsRest place sub is.Cancelled rest = rest ≡ codes " | cancelled"
IsRest place sub is.Refused rest = rest ≡ codes " | closed"

-- what it received, and the rest
abbrev pub IsShown : Place → SubId → List ℕ → Type 0
IsShown place sub text = OfSub place sub.0 text (λ past.
    (rest : List ℕ) × IsRest place sub past.state rest × (text ≡ codes "received" ++ (signals_text (items_in past.received) (ending_in past.received) ++ rest)))

-- the values of the hubs, in their order: what was published at an emitter, and the value of an expression that feeds a hub over
-- the hubs before it
abbrev pub HaveValues : Place → List (Stream Val) → Type 0
HaveValues place published = AreValues demo_meaning place.graph.rows.feeds [] place.history.hubs published

-- the values of the first hubs
abbrev pub HaveFirstValues : Place → List (Stream Val) → Type 0
HaveFirstValues place before = AreValues demo_meaning place.graph.rows.feeds [] (take (length before) place.history.hubs) before

-- the slow evaluator refused the expression that feeds a hub, over the values of the hubs before it, under its joins and what the
-- nodes of the feed recorded
pub record IsFeedRefused (place : Place) (e : ScratchRefusal) : Type 0 where
  pub before : List (Stream Val)
  pub values : HaveFirstValues place before
  pub hub : HubPast Val
  pub there : slice_get place.history.hubs (length before) ≡ Some hub
  pub expression : Expr Val
  pub joins : List ℕ
  pub source : hub.source ≡ fed expression joins
  pub feed : Feed Val
  pub feeds : feed_of place.graph.rows.feeds (length before) ≡ Some feed
  pub refused : IsScratch (environment demo_meaning before joins (notes_of feed.part.tree)) expression (Err e)

-- what the slow evaluator answers for its expression, over the values of the hubs and under what its nodes recorded
abbrev pub IsEvaluatedOver : Place → SubId → Past Val → Result (Stream Val) ScratchRefusal → Type 0
IsEvaluatedOver place sub past r =
    (published : List (Stream Val)) × HaveValues place published
    × ((node : Subscription Val) × (slice_get place.graph.rows.subs sub.0 ≡ Some node) × IsScratch (environment demo_meaning published past.joins (notes_of node.part.tree)) past.expression r)

-- the same, where it may refuse the expression of a feed
abbrev pub IsEvaluated : Place → SubId → Past Val → Result (Stream Val) ScratchRefusal → Type 0
IsEvaluated place sub past (Ok v) = IsEvaluatedOver place sub past (Ok v)
IsEvaluated place sub past (Err e) = IsEvaluatedOver place sub past (Err e) ⊎ IsFeedRefused place e

-- that answer is a value of which this holds, or a refusal other than for want of memory, which the text names
abbrev pub OfValue : List ℕ → Result (Stream Val) ScratchRefusal → (Stream Val → Type 0) → Type 0
OfValue text (Ok v) P = P v
OfValue text (Err e) P = (e ≡ scratch.NoMemory → ⊥) × (text ≡ codes "refused " ++ scratch_name e)

-- the value of its expression
abbrev pub IsValued : Place → SubId → List ℕ → Type 0
IsValued place sub text = OfSub place sub.0 text (λ past.
    (r : Result (Stream Val) ScratchRefusal) × IsEvaluated place sub past r × OfValue text r (λ v. text ≡ codes "scratch" ++ signals_text v.items v.ending))

-- what `show` answers
abbrev pub IsViewed : View → Place → SubId → List ℕ → Type 0
IsViewed Received place sub text = IsShown place sub text
IsViewed FromScratch place sub text = IsValued place sub text

abbrev pub IsAsked : Place → SubId → List ℕ → Type 0
IsAsked place sub text = OfSub place sub.0 text (λ past. text ≡ codes "asked " ++ decimal past.asked)

abbrev pub IsCounted : Place → SubId → List ℕ → Type 0
IsCounted place sub text = OfSub place sub.0 text (λ past. text ≡ codes "count " ++ decimal (length (items_in past.received)))

abbrev pub AreJoins : Place → SubId → List ℕ → Type 0
AreJoins place sub text = OfSub place sub.0 text (λ past. text ≡ codes "joins" ++ numbers_text past.joins)

abbrev pub AreChoices : Place → SubId → List ℕ → Type 0
AreChoices place sub text = OfSub place sub.0 text (λ past.
    (node : Subscription Val) × (slice_get place.graph.rows.subs sub.0 ≡ Some node) × (text ≡ codes "choices" ++ notes_text 0 (notes_of node.part.tree)))

-- what it waits for
abbrev pub IsExplained : Place → SubId → List ℕ → Type 0
IsExplained place sub text = OfSub place sub.0 text (λ past.
    (wait : Wait) × IsWait demo_meaning place.graph.rows sub wait × (text ≡ codes "waits: " ++ wait_text wait))

-- what the feed of a hub waits for; where the hub isn't there or has no feed, the look is refused
abbrev pub IsFeedExplained : Place → HubId → List ℕ → Type 0
IsFeedExplained place hub text =
    ((wait : FeedWait) × IsFeedWait demo_meaning place.graph.rows hub wait × (text ≡ codes "waits: " ++ feed_wait_text wait)) ⊎ ((has_feed place.graph.rows hub.0 ≡ false) × (text ≡ codes "refused G1"))

-- what the nodes of its tree do
abbrev pub IsDrawn : Place → SubId → List ℕ → Type 0
IsDrawn place sub text = OfSub place sub.0 text (λ past.
    (looks : List NodeLook) × HasLooks place.graph.rows.subs sub looks × (text ≡ codes "tree" ++ looks_text 0 looks))

-- whether this, and what the graph owes it, is this value
abbrev pub IsAllOf : Place → SubId → Known → Stream Val → Bool → Type 0
IsAllOf place sub got v right =
    (owed : Stream Val) × IsOwed demo_meaning place.graph.rows place.history sub owed × Decides right (followed_by got.items got.ending owed ≡ v)

-- whether what it received, and what the graph owes it, is this value; of one that cancelled or made a bad request, whether the
-- items that it received begin it
abbrev pub IsRight : Place → SubId → Past Val → Stream Val → SubscriptionState → Bool → Type 0
IsRight place sub past v is.Open right = IsAllOf place sub (seen past) v right
IsRight place sub past v is.Ended right = IsAllOf place sub (seen past) v right
IsRight place sub past v is.Cancelled right = Decides right (IsPrefixOf (items_in past.received) v.items)
IsRight place sub past v is.Refused right = Decides right (IsPrefixOf (items_in past.received) v.items)

abbrev pub checked_text : Bool → List ℕ
checked_text true = codes "equal"
checked_text false = codes "different"

-- how that compares with the value of its expression
abbrev pub IsChecked : Place → SubId → List ℕ → Type 0
IsChecked place sub text = OfSub place sub.0 text (λ past.
    (r : Result (Stream Val) ScratchRefusal) × IsEvaluated place sub past r × OfValue text r (λ v. (right : Bool) × IsRight place sub past v past.state right × (text ≡ checked_text right)))

-- ---- commands

-- a look changes nothing
abbrev pub IsLook : Place → Place → Type 0 → Type 0
IsLook old new P = (new ≡ old) × P

-- what a command changes, and the text of its answer
abbrev pub IsAnswerTo : View → Command → Place → List ℕ → Place → Type 0
IsAnswerTo view (command.Hub kind capacity) old text new = IsStepMade (step.Hub kind capacity) old text new
IsAnswerTo view (command.Feed kind capacity expr) old text new = IsStepMade (step.FeedHub kind capacity expr) old text new
IsAnswerTo view (command.Emit hub number) old text new = IsStepMade (step.Emit hub (Int number)) old text new
IsAnswerTo view (command.Complete hub) old text new = IsStepMade (step.Complete hub) old text new
IsAnswerTo view (command.Fail hub number) old text new = IsStepMade (step.Fail hub number) old text new
IsAnswerTo view (command.Subscribe expr) old text new = IsStepMade (step.Subscribe expr) old text new
IsAnswerTo view (command.Request sub count) old text new = IsStepMade (step.Request sub count) old text new
IsAnswerTo view (command.Cancel sub) old text new = IsStepMade (step.Cancel sub) old text new
IsAnswerTo view (command.Pump budget) old text new = ArePumped budget old text new
IsAnswerTo view (command.Pick sub node input) old text new = IsStepMade (step.Make (Pick (Sub sub) node input)) old text new
IsAnswerTo view (command.Show sub) old text new = IsLook old new (IsViewed view old sub text)
IsAnswerTo view (command.Asked sub) old text new = IsLook old new (IsAsked old sub text)
IsAnswerTo view (command.Count sub) old text new = IsLook old new (IsCounted old sub text)
IsAnswerTo view (command.Joins sub) old text new = IsLook old new (AreJoins old sub text)
IsAnswerTo view (command.Choices sub) old text new = IsLook old new (AreChoices old sub text)
IsAnswerTo view (command.Check sub) old text new = IsLook old new (IsChecked old sub text)
IsAnswerTo view (command.Why sub) old text new = IsLook old new (IsExplained old sub text)
IsAnswerTo view (command.WhyFeed hub) old text new = IsLook old new (IsFeedExplained old hub text)
IsAnswerTo view (command.Draw sub) old text new = IsLook old new (IsDrawn old sub text)
