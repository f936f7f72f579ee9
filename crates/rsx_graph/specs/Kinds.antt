-- What the crates below say of graphs of any nodes, at the nodes that there are: the words of this crate, and of those over it.
use Rattle.std.specs.Prelude.{ℕ, ℤ, Bool, List, Option, Result}
use Rattle.rsx_sources.specs.Prelude.{Allocates, HubId, HubKind, Meaning, Move, Note, Signal, Stream, SubId, Tree}
use Rattle.rsx_hub.specs.Hub.{HubState}
use Rattle.rsx_model.specs.declared.expr.Expr.{Expr}
use Rattle.rsx_tree.specs.declared.look.NodeMove.{NodeMove}
use Rattle.rsx_tree.specs.declared.node.Node.{Node}
use Rattle.rsx_kinds.specs.Any.{TreeNode}
pub use Rattle.rsx_kinds.specs.Any.{any_machine}
pub use Rattle.rsx_kinds.specs.Routes.{tree_nodes}
use Rattle.rsx_rooted.specs.declared.nodes.Route.{Route}
use Rattle.rsx_subscriber.specs.Delivered.{Delivered}
use Rattle.rsx_subscriber.specs.Past.{Past}
use Rattle.rsx_subscriber.specs.declared.state.SubscriptionState.{SubscriptionState}
use Rattle.rsx_subscriber.specs.declared.subscription.Subscription as subscription
use Rattle.rsx_graph_state.specs.History.{History, HubPast, Source}
use Rattle.rsx_graph_state.specs.declared.feed.Feed as feed
use Rattle.rsx_graph_state.specs.declared.refusal.Refusal.{Refusal}
use Rattle.rsx_graph_state.specs.declared.step.Pumped.{Pumped}
use Rattle.rsx_graph_moves.specs.Pumped.{Made}
use Rattle.rsx_graph_moves.specs.declared.idle_set.IdleSet.{IdleSet}
use Rattle.rsx_graph_moves.specs.Explained as Explained
use Rattle.rsx_graph_moves.specs.FeedWaits as FeedWaits
use Rattle.rsx_graph_moves.specs.Pictures as Pictures
use Rattle.rsx_waits.specs.declared.look.NodeLook.{NodeLook}
use Rattle.rsx_waits.specs.declared.wait.FeedWait.{FeedWait}
use Rattle.rsx_waits.specs.declared.wait.Wait.{Wait}
use Rattle.rsx_graph_calls.specs.Edits as CallsEdits
use Rattle.rsx_graph_calls.specs.Looks as CallsLooks
use Rattle.rsx_graph_moves.specs.Many as MovesMany
use Rattle.rsx_graph_moves.specs.Moves as MovesMoves
use Rattle.rsx_graph_moves.specs.Pumped as MovesPumped
use Rattle.rsx_graph_moves.specs.Resting as MovesResting
use Rattle.rsx_graph_moves.specs.Served as MovesServed
use Rattle.rsx_graph_state.specs.Begun as RowsBegun
use Rattle.rsx_graph_state.specs.Feeds as RowsFeeds
use Rattle.rsx_graph_state.specs.Headline as RowsHeadline
use Rattle.rsx_graph_state.specs.Holding as RowsHolding
use Rattle.rsx_graph_state.specs.Moves as RowsMoves
use Rattle.rsx_graph_state.specs.Publishing as RowsPublishing
use Rattle.rsx_graph_state.specs.Sending as RowsSending
use Rattle.rsx_graph_state.specs.Served as RowsServed
use Rattle.rsx_graph_state.specs.Stands as RowsStands
use Rattle.rsx_graph_state.specs.Subscriptions as RowsSubscriptions
use Rattle.rsx_pipe.specs.Crossing as Crossing
use Rattle.rsx_pipe.specs.Part as Parts
use Rattle.rsx_pipe.specs.Published as Published
use Rattle.rsx_rooted.specs.Feeding as Feeding
use Rattle.rsx_rooted.specs.Rooted as Rooted
use Rattle.rsx_subscriber.specs.Begun as SubBegun
use Rattle.rsx_subscriber.specs.Edited as SubEdited
use Rattle.rsx_subscriber.specs.Holds as SubHolds
use Rattle.rsx_subscriber.specs.Stands as SubStands
use Rattle.rsx_tree.specs.Tree as Trees

-- ---- what they are

abbrev pub Part : Type 0 → Type 0
Part T = Parts.Part (TreeNode T)

abbrev pub Subscription : Type 0 → Type 0
Subscription T = subscription.Subscription (TreeNode T) T

abbrev pub Feed : Type 0 → Type 0
Feed T = feed.Feed (TreeNode T)

abbrev pub Rows : Type 0 → Type 0
Rows T = RowsStands.Rows (TreeNode T) T

-- ---- of trees

abbrev pub notes_of : {T : Type 0} → Node (TreeNode T) → List Note
notes_of t = Trees.notes any_machine t

-- ---- of parts

abbrev pub IsQuietInside : {T : Type 0} → Meaning T → Part T → Type 0
IsQuietInside m part = Feeding.IsQuietInside any_machine m part

abbrev pub goes_out : {T : Type 0} → Meaning T → Part T → Bool
goes_out m part = Feeding.goes_out any_machine m part

abbrev pub inside_enabled : {T : Type 0} → Meaning T → Part T → NodeMove → Bool
inside_enabled m part step = Feeding.inside_enabled any_machine m part step

abbrev pub next_out : {T : Type 0} → Meaning T → Part T → Option (Signal T)
next_out m part = Feeding.next_out any_machine m part

abbrev pub IsPartQuiet : {T : Type 0} → Meaning T → Part T → Bool → Type 0
IsPartQuiet m part room = Rooted.IsQuiet any_machine m part room

abbrev pub PartStands : {T : Type 0} → Meaning T → List (Stream T) → Part T → Expr T → List ℕ → List (Signal T) → Type 0
PartStands m published part e joins queue = Rooted.Stands any_machine m published part e joins queue

abbrev pub route : {T : Type 0} → Part T → ℕ → Route
route part n = Crossing.route tree_nodes part n

abbrev pub HasReadAll : {T : Type 0} → Meaning T → List (Stream T) → Part T → Type 0
HasReadAll m published part = Parts.HasReadAll any_machine m published part

abbrev pub has_room_for : {T : Type 0} → ℕ → Part T → Bool
has_room_for n part = Published.has_room_for any_machine n part

abbrev pub readers : {T : Type 0} → ℕ → Part T → ℕ
readers n part = Published.readers any_machine n part

-- ---- of a subscription

abbrev pub IsFresh : {T : Type 0} → (e : Expr T) (sub : Subscription T) → Type 0
IsFresh e sub = SubBegun.IsFresh any_machine e sub

abbrev pub IsCancelled : {T : Type 0} → SubscriptionState → Subscription T → Subscription T → Type 0
IsCancelled state old new = SubEdited.IsCancelled any_machine state old new

abbrev pub IsRequested : {T : Type 0} → SubscriptionState → ℤ → Subscription T → Subscription T → Type 0
IsRequested state n old new = SubEdited.IsRequested any_machine state n old new

abbrev pub Holds : {T : Type 0} → (m : Meaning T) (published : List (Stream T)) (sub : Subscription T) (past : Past T) → Type 0
Holds m published sub past = SubHolds.Holds any_machine m published sub past

abbrev pub enabled_inside : {T : Type 0} → Meaning T → Subscription T → Option NodeMove → Bool
enabled_inside m sub move = SubStands.enabled_inside any_machine m sub move

abbrev pub inner_move : {T : Type 0} → Subscription T → Move → Option NodeMove
inner_move sub mv = SubStands.inner_move tree_nodes sub mv

abbrev pub move_enabled_in : {T : Type 0} → Meaning T → Subscription T → Move → Bool
move_enabled_in m sub mv = SubStands.move_enabled_in any_machine tree_nodes m sub mv

-- ---- of rows

abbrev pub IsSubscribed : {T : Type 0} → Expr T → List (Subscription T) → List (Subscription T) → Type 0
IsSubscribed e subs subs' = RowsBegun.IsSubscribed any_machine e subs subs'

abbrev pub has_room_at : {T : Type 0} → ℕ → Feed T → Bool
has_room_at n feed = RowsFeeds.has_room_at any_machine n feed

abbrev pub reads_at : {T : Type 0} → ℕ → Feed T → ℕ
reads_at n feed = RowsFeeds.reads_at any_machine n feed

abbrev pub AreValues : {T : Type 0} → Meaning T → List (Feed T) → List (Stream T) → List (HubPast T) → List (Stream T) → Type 0
AreValues m feeds published pasts published' = RowsHeadline.AreValues any_machine m feeds published pasts published'

abbrev pub Headline : {T : Type 0} → (m : Meaning T) (g : Rows T) (h : History T) → Type 0
Headline m g h = RowsHeadline.Headline any_machine m g h

abbrev pub IsValue : {T : Type 0} → Meaning T → List (Feed T) → List (Stream T) → Source T → Stream T → Type 0
IsValue m feeds published source v = RowsHeadline.IsValue any_machine m feeds published source v

abbrev pub AllHold : {T : Type 0} → Meaning T → List (Stream T) → List (Subscription T) → List (Past T) → Type 0
AllHold m published subs pasts = RowsHolding.AllHold any_machine m published subs pasts

abbrev pub IsMovedBy : {T : Type 0} → Meaning T → NodeMove → Bool → ℕ → Rows T → Rows T → Type 0
IsMovedBy m step b n g g' = RowsMoves.IsMovedBy any_machine m step b n g g'

abbrev pub accepts_at : {T : Type 0} → Rows T → ℕ → Bool
accepts_at g n = RowsMoves.accepts_at any_machine g n

abbrev pub accepts_in : {T : Type 0} → Rows T → Option (HubState T) → ℕ → Bool
accepts_in g hub n = RowsMoves.accepts_in any_machine g hub n

abbrev pub feed_enabled : {T : Type 0} → Meaning T → Rows T → ℕ → NodeMove → Bool
feed_enabled m g n step = RowsMoves.feed_enabled any_machine m g n step

abbrev pub sends : {T : Type 0} → Meaning T → Rows T → ℕ → Bool
sends m g n = RowsMoves.sends any_machine m g n

abbrev pub sends_where : {T : Type 0} → Meaning T → Rows T → Option (HubState T) → Option (Feed T) → Bool
sends_where m g hub feed = RowsMoves.sends_where any_machine m g hub feed

abbrev pub works : {T : Type 0} → Meaning T → List (Feed T) → ℕ → NodeMove → Bool
works m feeds n step = RowsMoves.works any_machine m feeds n step

abbrev pub works_where : {T : Type 0} → Meaning T → Option (Feed T) → NodeMove → Bool
works_where m feed step = RowsMoves.works_where any_machine m feed step

abbrev pub AllHanded : {T : Type 0} → ℕ → Signal T → List (Subscription T) → List (Subscription T) → Type 0
AllHanded n s subs subs' = RowsPublishing.AllHanded any_machine n s subs subs'

abbrev pub all_have_room : {T : Type 0} → ℕ → List (Feed T) → List (Subscription T) → Bool
all_have_room n feeds subs = RowsPublishing.all_have_room any_machine n feeds subs

abbrev pub all_readers : {T : Type 0} → ℕ → List (Feed T) → List (Subscription T) → ℕ
all_readers n feeds subs = RowsPublishing.all_readers any_machine n feeds subs

abbrev pub can_accept : {T : Type 0} → ℕ → HubState T → List (Feed T) → List (Subscription T) → Bool
can_accept n hub feeds subs = RowsPublishing.can_accept any_machine n hub feeds subs

abbrev pub can_feed : {T : Type 0} → Meaning T → Feed T → HubState T → List (Feed T) → List (Subscription T) → Bool
can_feed m feed hub feeds subs = RowsSending.can_feed any_machine m feed hub feeds subs

abbrev pub AllHaveRead : {T : Type 0} → Meaning T → List (Stream T) → List (Subscription T) → Type 0
AllHaveRead m published subs = RowsServed.AllHaveRead any_machine m published subs

abbrev pub HubStands : {T : Type 0} → (m : Meaning T) (feeds : List (Feed T)) (taken : List (Stream T)) (i : ℕ) (v : Stream T) (s : HubState T) (p : HubPast T) → Type 0
HubStands m feeds taken i v s p = RowsStands.HubStands any_machine m feeds taken i v s p

abbrev pub IsFedBy : {T : Type 0} → (m : Meaning T) (feeds : List (Feed T)) (taken : List (Stream T)) (i : ℕ) (s : HubState T) (e : Expr T) (joins : List ℕ) → Type 0
IsFedBy m feeds taken i s e joins = RowsStands.IsFedBy any_machine m feeds taken i s e joins

abbrev pub SourceStands : {T : Type 0} → Meaning T → List (Feed T) → List (Stream T) → ℕ → Stream T → HubState T → Source T → Type 0
SourceStands m feeds published n v hub source = RowsStands.SourceStands any_machine m feeds published n v hub source

abbrev pub StandsFor : {T : Type 0} → (m : Meaning T) (g : Rows T) (h : History T) → Type 0
StandsFor m g h = RowsStands.StandsFor any_machine m g h

abbrev pub AllStand : {T : Type 0} → Meaning T → List (Stream T) → List (Subscription T) → List (Past T) → Type 0
AllStand m published subs pasts = RowsSubscriptions.AllStand any_machine m published subs pasts

abbrev pub HasNotesAt : {T : Type 0} → List (Subscription T) → SubId → List Note → Type 0
HasNotesAt subs i notes = RowsSubscriptions.HasNotesAt any_machine subs i notes

abbrev pub IsCancelledAt : {T : Type 0} → (i : ℕ) (subs news : List (Subscription T)) → Type 0
IsCancelledAt i subs news = RowsSubscriptions.IsCancelledAt any_machine i subs news

abbrev pub IsMadeAt : {T : Type 0} → (m : Meaning T) (mv : Move) (i : ℕ) (subs news : List (Subscription T)) (o : Option (SubId × Signal T)) → Type 0
IsMadeAt m mv i subs news o = RowsSubscriptions.IsMadeAt any_machine tree_nodes m mv i subs news o

abbrev pub IsRequestedAt : {T : Type 0} → (i : ℕ) (n : ℤ) (subs news : List (Subscription T)) (o : Option (Signal T)) → Type 0
IsRequestedAt i n subs news o = RowsSubscriptions.IsRequestedAt any_machine i n subs news o

abbrev pub enabled_at : {T : Type 0} → Meaning T → List (Subscription T) → ℕ → Move → Bool
enabled_at m subs n mv = RowsSubscriptions.enabled_at any_machine tree_nodes m subs n mv

abbrev pub AreIdle : {T : Type 0} → Meaning T → IdleSet → List (Subscription T) → Type 0
AreIdle m idle subs = MovesResting.AreIdle any_machine m idle subs

pub AreIdle-prop : {T : Type 0} (m : Meaning T) (idle : IdleSet) (subs : List (Subscription T)) → IsProp (AreIdle m idle subs)
AreIdle-prop m idle subs = MovesResting.AreIdle-prop any_machine m idle subs

-- ---- of moves

abbrev pub IsMoved : {T : Type 0} → Meaning T → Move → Rows T → Rows T → Option (SubId × Signal T) → Type 0
IsMoved m mv g g' o = MovesMoves.IsMoved any_machine tree_nodes m mv g g' o

abbrev pub IsMadeAlone : {T : Type 0} → Meaning T → Move → Rows T → Rows T → Type 0
IsMadeAlone m mv g g' = MovesMoves.IsMadeAlone any_machine tree_nodes m mv g g'

abbrev pub IsMovedInFeed : {T : Type 0} → Meaning T → Option NodeMove → ℕ → Rows T → Rows T → Type 0
IsMovedInFeed m move n g g' = MovesMoves.IsMovedInFeed any_machine m move n g g'

abbrev pub drives_allocate : {T : Type 0} → Allocates → Rows T → Bool
drives_allocate a g = MovesMoves.drives_allocate any_machine a g

abbrev pub feed_move : {T : Type 0} → List (Feed T) → ℕ → Move → Option NodeMove
feed_move feeds n mv = MovesMoves.feed_move tree_nodes feeds n mv

abbrev pub feed_move_enabled : {T : Type 0} → Meaning T → Rows T → ℕ → Option NodeMove → Bool
feed_move_enabled m g n move = MovesMoves.feed_move_enabled any_machine m g n move

abbrev pub is_enabled : {T : Type 0} → Meaning T → Rows T → Move → Bool
is_enabled m g mv = MovesMoves.is_enabled any_machine tree_nodes m g mv

abbrev pub may_allocate : {T : Type 0} → Allocates → Rows T → Move → Bool
may_allocate a g mv = MovesMoves.may_allocate any_machine tree_nodes a g mv

abbrev pub name_in : {T : Type 0} → Feed T → HubId → NodeMove → Move
name_in feed id step = MovesMoves.name_in tree_nodes feed id step

abbrev pub sent : {T : Type 0} → Meaning T → Rows T → Move → Option (Signal T)
sent m g mv = MovesMoves.sent any_machine tree_nodes m g mv

abbrev pub IsMadeTimes : {T : Type 0} → (m : Meaning T) (mv : Move) (count : ℕ) (old : Rows T) (before : Delivered T) (new : Rows T) (after : Delivered T) → Type 0
IsMadeTimes m mv count old before new after = MovesMany.IsMadeTimes any_machine tree_nodes m mv count old before new after

abbrev pub IsNextRefused : {T : Type 0} → (m : Meaning T) (a : Allocates) (mv : Move) (g : Rows T) (out : Delivered T) (why : Refusal) → Type 0
IsNextRefused m a mv g out why = MovesMany.IsNextRefused any_machine tree_nodes m a mv g out why

abbrev pub AreHubsQuiet : {T : Type 0} → Meaning T → Rows T → ℕ → Type 0
AreHubsQuiet m g n = MovesPumped.AreHubsQuiet any_machine m g n

abbrev pub HasEnded : {T : Type 0} → Meaning T → ℕ → ℕ → Rows T → Result Pumped Refusal → Type 0
HasEnded m n n' g result = MovesPumped.HasEnded any_machine tree_nodes m n n' g result

abbrev pub HasPumped : {T : Type 0} → Meaning T → ℕ → Rows T → Delivered T → Result Pumped Refusal → Rows T → Delivered T → Type 0
HasPumped m n g out result g' out' = MovesPumped.HasPumped any_machine tree_nodes m n g out result g' out'

abbrev pub IsAllQuiet : {T : Type 0} → Meaning T → Rows T → Type 0
IsAllQuiet m g = MovesPumped.IsAllQuiet any_machine tree_nodes m g

abbrev pub IsHubQuiet : {T : Type 0} → (m : Meaning T) (g : Rows T) (h : ℕ) → Type 0
IsHubQuiet m g h = MovesPumped.IsHubQuiet any_machine m g h

abbrev pub IsMoveMade : {T : Type 0} → Meaning T → Rows T → Made T → Rows T → Type 0
IsMoveMade m old made new = MovesPumped.IsMoveMade any_machine tree_nodes m old made new

abbrev pub LeadTo : {T : Type 0} → Meaning T → Rows T → List (Made T) → Rows T → Type 0
LeadTo m g moves g' = MovesPumped.LeadTo any_machine tree_nodes m g moves g'

abbrev pub IsServed : {T : Type 0} → (m : Meaning T) (g : Rows T) (h : History T) → Type 0
IsServed m g h = MovesServed.IsServed any_machine m g h

-- ---- of calls

abbrev pub IsFedHubMade : {T : Type 0} → (k : HubKind) (c : ℕ) (e : Expr T) (hubs news : List (HubState T)) (feeds fed_by : List (Feed T)) → Type 0
IsFedHubMade k c e hubs news feeds fed_by = CallsEdits.IsFedHubMade any_machine k c e hubs news feeds fed_by

abbrev pub HasFeedNotes : {T : Type 0} → (g : Rows T) (h : ℕ) (ns : List Note) → Type 0
HasFeedNotes g h ns = CallsLooks.HasFeedNotes any_machine g h ns

abbrev pub HasNotes : {T : Type 0} → Rows T → Tree → List Note → Type 0
HasNotes g tree notes = CallsLooks.HasNotes any_machine g tree notes

abbrev pub IsOwed : {T : Type 0} → (m : Meaning T) (g : Rows T) (h : History T) (i : SubId) (v : Stream T) → Type 0
IsOwed m g h i v = CallsLooks.IsOwed any_machine m g h i v

abbrev pub IsWait : {T : Type 0} → Meaning T → Rows T → SubId → Wait → Type 0
IsWait m g i wait = Explained.IsWait any_machine tree_nodes m g i wait

abbrev pub IsFeedWait : {T : Type 0} → Meaning T → Rows T → HubId → FeedWait → Type 0
IsFeedWait m g h wait = FeedWaits.IsFeedWait any_machine tree_nodes m g h wait

abbrev pub HasLooks : {T : Type 0} → List (Subscription T) → SubId → List NodeLook → Type 0
HasLooks subs i looks = Pictures.HasLooks any_machine tree_nodes subs i looks
