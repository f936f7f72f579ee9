-- Which subscriptions are known to be idle, and which of them are known not to read a hub.
use Rattle.std.specs.Prelude.{◌≡◌, ◌↔◌, ℕ, ◌<◌, Some, slice_get}
use Rattle.rsx_types.specs.declared.names.Move.{Move}
use Rattle.rsx_types.specs.declared.names.Move.TheVariants.{Ask, Send, Take, Pick, Row, Accept}
use Rattle.rsx_types.specs.declared.names.Tree.{Tree}
use Rattle.rsx_types.specs.declared.names.Tree.TheVariants.{Sub, Feed}
use Rattle.rsx_graph_state.specs.SubscriptionSet as Set
use Rattle.rsx_graph_state.specs.declared.subscription_set.SubscriptionSet.{SubscriptionSet}
use Rattle.rsx_graph_moves.specs.declared.idle_set.IdleSet.{IdleSet}

-- the number is in the set
unfoldable pub IsIn : IdleSet → ℕ → Type 0
IsIn set i = Set.IsIn set.idle i

-- none is
abbrev pub IsEmpty : IdleSet → Type 0
IsEmpty set = (i : ℕ) → IsIn set i → ⊥

-- of this subscription, if it is idle, it is known that no node of it reads the hub with the number `h`
unfoldable pub IsApart : IdleSet → ℕ → ℕ → Type 0
IsApart set h i = (h < set.known) × (Set.IsIn set.moved i → ⊥) × ((found : SubscriptionSet) × (slice_get set.apart h ≡ Some found) × Set.IsIn found i)

-- some were taken out of the set, and no more is known of the others
pub record IsLess (taken : ℕ → Type 0) (old new : IdleSet) : Type 0 where
  pub idle : (i : ℕ) → IsIn new i ↔ (IsIn old i × (taken i → ⊥))
  pub apart : (h i : ℕ) → IsApart new h i → IsApart old h i

-- a move in this tree may wake the subscription with this number: one in a feed any, and one in the tree of a subscription that
abbrev pub IsStirredIn : Tree → ℕ → Type 0
IsStirredIn (Sub sub) i = i ≡ sub.0
IsStirredIn (Feed hub) i = Unit {0}

-- this move may: that of a hub any
abbrev pub IsStirred : Move → ℕ → Type 0
IsStirred (Ask t n) i = IsStirredIn t i
IsStirred (Send t n) i = IsStirredIn t i
IsStirred (Take t n) i = IsStirredIn t i
IsStirred (Pick t n k) i = IsStirredIn t i
IsStirred (Row t n) i = IsStirredIn t i
IsStirred (Accept h) i = Unit {0}
