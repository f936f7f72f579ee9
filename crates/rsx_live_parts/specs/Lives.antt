-- Subscriptions that are live.
use Rattle.std.specs.Prelude.{◌≡◌, ◌<◌, ◌^◌, ℕ, Bool, List, [], length}
use Rattle.std.proofs.Common.{Vec, Global}
use Rattle.rsx_region.specs.Pieces.{none_taken}
use Rattle.rsx_sources.specs.Prelude.{Meaning, Stream}
use Rattle.rsx_sources.specs.declared.machine.Machine.{Ghosts as Machine}
use Rattle.rsx_rooted.specs.declared.nodes.CrossingNodes.{Ghosts as CrossingNodes}
use Rattle.rsx_link.specs.declared.link.Link.{Link}
use Rattle.rsx_region.specs.Trees.{AreCutFrom, HaveGoneSince, LastCannotJoin, Stage}
use Rattle.rsx_region.specs.declared.piece.Piece.{Piece}
use Rattle.rsx_region.specs.declared.trees.CutTrees.{CutTrees}
use Rattle.rsx_runtime.specs.Closing.{IsLiveOf}
use Rattle.rsx_runtime.specs.declared.tap.Tap.{Tap}
use Rattle.rsx_graph_state.specs.Subscriptions.{AllStand}
use Rattle.rsx_subscriber.specs.Past.{Past}
use Rattle.rsx_subscriber.specs.declared.subscription.Subscription.{Subscription}
use Rattle.rsx_live_parts.specs.Cutting.{AreAllSwept}
use Rattle.rsx_live_parts.specs.Kept.{AreOut, WereStopped, all_lived}
use Rattle.rsx_live_parts.specs.declared.kept.Kept.{Kept}
use Rattle.rsx_live_parts.specs.declared.going.NotLive.{NotLive}
use Rattle.rsx_live_parts.specs.declared.going.NotLive.TheVariants.{NoMemory, NotJoined}
use Rattle.rsx_live_parts.specs.declared.lives.LiveSubscriptions.{LiveSubscriptions}

-- how many numbers there are under which links are read
abbrev pub most_numbers : ℕ
most_numbers = 2 ^ 32

module _ {M T : Type 0} where
  -- The trees are those of the pieces that these subscriptions became, which were cut. Each piece stands for what it stood for then.
  pub record HaveGoneOut (b : Machine M T) (crossing : CrossingNodes M T) (m : Meaning T) (subs : List (Subscription M T)) (ks : List (Kept M T)) (ts : List (Tap T)) (trees : CutTrees M T) : Type 0 where
    pub pieces : List (Piece M T)
    pub links : List (Link T)
    pub out : AreOut b 0 subs ks pieces links ts
    pub opening : Stage M T
    pub since : HaveGoneSince b crossing m (none_taken most_numbers) (none_taken most_numbers) (record { pieces = pieces; links = links }) opening trees

  -- the same, where nothing was done since they were cut
  pub record AreCutOut (b : Machine M T) (crossing : CrossingNodes M T) (m : Meaning T) (subs : List (Subscription M T)) (ks : List (Kept M T)) (ts : List (Tap T)) (trees : CutTrees M T) : Type 0 where
    pub pieces : List (Piece M T)
    pub links : List (Link T)
    pub out : AreOut b 0 subs ks pieces links ts
    pub cut : AreCutFrom b crossing m (none_taken most_numbers) (record { pieces = pieces; links = links }) trees

  -- So many links there are where the trees of the pieces that these subscriptions became, none of which was cut before, are cut at all
  -- edges at which they can be.
  pub record AreAllCut (b : Machine M T) (crossing : CrossingNodes M T) (subs : List (Subscription M T)) (ks : List (Kept M T)) (all : List (Link T)) : Type 0 where
    pub first : CutTrees M T
    pub now : CutTrees M T
    pub taps : List (Tap T)
    pub out : AreOut b 0 subs ks first.pieces.items first.links.items taps
    pub none : first.edges.items ≡ []
    pub count : ℕ
    pub senders : List (Vec ℕ Global)
    pub roots : List ℕ
    pub places : List ℕ
    pub swept : AreAllSwept b crossing count senders roots taps first now places
    pub links : all ≡ now.links.items

  -- Of the pieces that these subscriptions became, some can't be joined: some edge is left, and a join was refused at the last.
  pub record AreNotJoined (b : Machine M T) (crossing : CrossingNodes M T) (m : Meaning T) (subs : List (Subscription M T)) (ks : List (Kept M T)) : Type 0 where
    pub taps : List (Tap T)
    pub trees : CutTrees M T
    pub gone : HaveGoneOut b crossing m subs ks taps trees
    pub left : 0 < length trees.edges.items
    pub cannot : LastCannotJoin b crossing trees

  -- those stand for what these stood for
  abbrev pub StandAs : Machine M T → Meaning T → List (Subscription M T) → List (Subscription M T) → Type 0
  StandAs b m was now = (published : List (Stream T)) (pasts : List (Past T)) → AllStand b m published was pasts → AllStand b m published now pasts

module _ {M T O : Type 0} where
  -- these subscriptions went live, with the pieces of some of them in the regions
  pub record IsLiveFor (b : Machine M T) (crossing : CrossingNodes M T) (meaning : O → Meaning T) (subs : List (Subscription M T)) (s : LiveSubscriptions M T O) : Type 0 where
    pub pieces : List (Piece M T)
    pub links : List (Link T)
    pub taps : List (Tap T)
    pub out : AreOut b 0 subs s.kept.items pieces links taps
    pub is : IsLiveOf b crossing meaning most_numbers (record { pieces = pieces; links = links }) s.live s.plan

  -- so it is of some subscriptions
  pub record IsLive (b : Machine M T) (crossing : CrossingNodes M T) (meaning : O → Meaning T) (s : LiveSubscriptions M T O) : Type 0 where
    pub subs : List (Subscription M T)
    pub is : IsLiveFor b crossing meaning subs s

  -- They came back, where each of their subscribers got what its tap gave. `flags` says of each tap whether a flag of its link was set.
  pub record CameBackFrom (b : Machine M T) (crossing : CrossingNodes M T) (meaning : O → Meaning T) (s : LiveSubscriptions M T O) (ts : List (Tap T)) (now : List (Subscription M T)) : Type 0 where
    pub flags : List Bool
    pub stopped : WereStopped ts flags
    pub stands : (subs : List (Subscription M T)) → IsLiveFor b crossing meaning subs s → (published : List (Stream T)) (pasts : List (Past T)) → AllStand b (meaning s.live.ops) published subs pasts → AllStand b (meaning s.live.ops) published now (all_lived s.kept.items ts flags pasts)

  -- They come back, with the functions; each stands for what it stood for. But where a join was refused nothing comes back.
  abbrev pub ComeBack : Machine M T → CrossingNodes M T → (O → Meaning T) → O → List (Subscription M T) → NotLive M T O → Type 0
  ComeBack b crossing meaning ops subs (NoMemory o now) = (o ≡ ops) × (length now.items ≡ length subs) × StandAs b (meaning ops) subs now.items
  ComeBack b crossing meaning ops subs NotJoined = (ks : List (Kept M T)) × AreNotJoined b crossing (meaning ops) subs ks
