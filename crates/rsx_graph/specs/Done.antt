-- What each step of a graph did, by its answer.
use Rattle.rsx_graph.specs.Kinds.{IsMoved, is_enabled, may_allocate, sent, IsFedHubMade, IsSubscribed, IsCancelledAt, IsRequestedAt}
use Rattle.std.specs.Prelude.{◌≡◌, ◌≢◌, ◌≤◌, ◌<◌, true, false, List, [], ◌∷◌, ◌++◌, length, Option, None}
use Rattle.rsx_graph_moves.specs.Moves.{IsMakeRefusal}
use Rattle.rsx_graph_calls.specs.Edits.{IsFedHubRefusal, fault_of}
use Rattle.rsx_graph_calls.specs.Publishes.{IsEmitRefusal, IsEndRefusal, has_emitter}
use Rattle.rsx_graph_calls.specs.Regions.{with_fed_regions, with_regions}
use Rattle.rsx_graph_calls.specs.Subscribing.{IsSubscribeRefusal}
use Rattle.rsx_graph_state.specs.Prelude.{History, HaveJoined, IsHubRefusal, IsSubscribeId, IsEmittedAt, IsEndedAt, are_numbers, fresh_hub}
use Rattle.rsx_graph_state.specs.declared.TheConstants.{MOST_HUBS}
use Rattle.rsx_graph_state.specs.declared.refusal.Refusal.TheVariants.{UnknownSub, NoMemory}
use Rattle.rsx_graph_state.specs.declared.step.Answer.{Answer}
use Rattle.rsx_graph_state.specs.declared.step.Answer.TheVariants.{Opened, Published, Subscribed, Requested, Cancelled as CancelTaken, Made, Refused as NotDone}
use Rattle.rsx_subscriber.specs.Prelude.{new_joins, IsMadeAnswer}
use Rattle.rsx_sources.specs.Prelude.{Meaning, Allocates, User, Done, Failed, Signal}
use Rattle.rsx_graph.specs.Stands.{AreJoinsSame, GraphStands, GraphState, IsAsideSame, IsRestSame}
use Rattle.rsx_graph.specs.Steps.{AllBelong, all_extended}
use Rattle.rsx_graph.specs.declared.step.Step.{Step}
use Rattle.rsx_graph.specs.declared.step.Step.TheVariants.{Hub, FeedHub, Emit, Complete, Fail, Subscribe, Request, Cancel, Make}

-- what goes out of a feed into its hub by a step that gets this answer: no answer says it
abbrev pub fed_by : {T : Type 0} → Meaning T → GraphState T → Step T → Answer T → Option (Signal T)
fed_by m g (Make mv) (Made o) = sent m g.rows mv
fed_by m g s answer = None

-- what a step did: the graph after it from that before it, by the answer. A refused step left all as it was, and each refusal comes
-- in its case
abbrev pub IsDone : {T : Type 0} → Meaning T → Allocates → GraphState T → Step T → Answer T → GraphState T → Type 0
IsDone m a old (Subscribe e) (Subscribed i) new =
    IsSubscribeId (length old.rows.hubs) (length old.rows.subs) e i × IsSubscribed e old.rows.subs new.rows.subs × HaveJoined e old.rows.hubs new.rows.hubs
    × (new.rows.feeds ≡ old.rows.feeds) × (new.joins ≡ old.joins ++ new_joins old.rows.hubs e ∷ []) × (new.feed_joins ≡ old.feed_joins)
    × (new.regions ≡ with_regions e old.regions)
IsDone m a old (Subscribe e) (NotDone r) new = IsSubscribeRefusal e old.rows.hubs (length old.rows.subs) r × (new ≡ old)
IsDone m a old (Request i n) (Requested o) new = IsRequestedAt i.0 n old.rows.subs new.rows.subs o × IsAsideSame old new
IsDone m a old (Request i n) (NotDone r) new = (r ≡ UnknownSub) × (length old.rows.subs ≤ i.0) × (new ≡ old)
IsDone m a old (Cancel i) CancelTaken new = IsCancelledAt i.0 old.rows.subs new.rows.subs × IsAsideSame old new
IsDone m a old (Cancel i) (NotDone r) new = (r ≡ UnknownSub) × (length old.rows.subs ≤ i.0) × (new ≡ old)
IsDone m a old (Make mv) (Made o) new = (is_enabled m old.rows mv ≡ true) × IsMoved m mv old.rows new.rows o × IsMadeAnswer mv o × AreJoinsSame old new
IsDone m a old (Make mv) (NotDone r) new =
    IsMakeRefusal old.rows (is_enabled m old.rows mv) mv r × (may_allocate a old.rows mv ≡ false → r ≢ NoMemory) × (new ≡ old)
IsDone m a old (Hub k c) (Opened i) new =
    (i.0 ≡ length old.rows.hubs) × (are_numbers k c ≡ true) × (length old.rows.hubs < MOST_HUBS) × (new.rows.hubs ≡ old.rows.hubs ++ fresh_hub k c ∷ []) × IsRestSame old new
IsDone m a old (Hub k c) (NotDone r) new = IsHubRefusal k c (length old.rows.hubs) r × (new ≡ old)
IsDone m a old (FeedHub k c e) (Opened i) new =
    (i.0 ≡ length old.rows.hubs) × (fault_of k c (length old.rows.hubs) e ≡ None) × (length old.rows.hubs < MOST_HUBS)
    × IsFedHubMade k c e old.rows.hubs new.rows.hubs old.rows.feeds new.rows.feeds × (new.rows.subs ≡ old.rows.subs) × (new.joins ≡ old.joins)
    × (new.feed_joins ≡ old.feed_joins ++ new_joins old.rows.hubs e ∷ []) × (new.regions ≡ with_fed_regions e old.regions)
IsDone m a old (FeedHub k c e) (NotDone r) new = IsFedHubRefusal k c e old.rows.hubs r × (new ≡ old)
IsDone m a old (Emit i x) Published new = (has_emitter old.rows.hubs old.rows.feeds i.0 ≡ true) × IsEmittedAt i.0 x old.rows.hubs new.rows.hubs × IsRestSame old new
IsDone m a old (Emit i x) (NotDone r) new = IsEmitRefusal old.rows.hubs old.rows.feeds i.0 r × (new ≡ old)
IsDone m a old (Complete i) Published new = (has_emitter old.rows.hubs old.rows.feeds i.0 ≡ true) × IsEndedAt i.0 Done old.rows.hubs new.rows.hubs × IsRestSame old new
IsDone m a old (Complete i) (NotDone r) new = IsEndRefusal old.rows.hubs old.rows.feeds i.0 r × (new ≡ old)
IsDone m a old (Fail i n) Published new = (has_emitter old.rows.hubs old.rows.feeds i.0 ≡ true) × IsEndedAt i.0 (Failed (User n)) old.rows.hubs new.rows.hubs × IsRestSame old new
IsDone m a old (Fail i n) (NotDone r) new = IsEndRefusal old.rows.hubs old.rows.feeds i.0 r × (new ≡ old)
IsDone m a old s answer new = ⊥

-- the steps were made one after the other, each of them with its answer, and this went out of feeds into hubs
abbrev pub AllDone : {T : Type 0} → Meaning T → Allocates → GraphState T → List (Step T) → List (Answer T) → List (Option (Signal T)) → GraphState T → Type 0
AllDone m a old [] [] [] new = new ≡ old
AllDone {T} m a old (s ∷ ss) (r ∷ rs) (o ∷ os) new = (mid : GraphState T) × IsDone m a old s r mid × (o ≡ fed_by m old s r) × AllDone m a mid ss rs os new
AllDone m a old ss rs os new = ⊥

-- what a list of steps with these answers did
pub record HasRun {T : Type 0} (m : Meaning T) (a : Allocates) (old : GraphState T) (steps : List (Step T)) (answers : List (Answer T)) (new : GraphState T) : Type 0 where
  -- what went out of a feed into its hub by each step
  pub sent : List (Option (Signal T))
  -- each step did what its answer says, one after the other
  pub done : AllDone m a old steps answers sent new
  -- the graph stands for what has happened by them
  pub stands : (h : History T) → GraphStands m old h → GraphStands m new (all_extended h steps answers sent)
  -- each answer belongs to its step, by what had happened before it
  pub belongs : (h : History T) → GraphStands m old h → AllBelong h steps answers sent
