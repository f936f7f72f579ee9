-- Subscriptions of which some have pieces in place of their parts.
use Rattle.std.specs.Prelude.{◌≡◌, ◌⊎◌, ⊤, ◌+◌, ◌≤◌, ℕ, suc, Bool, false, List, [], ◌∷◌, ◌++◌, length}
use Rattle.std.specs.Vec.{vec_capacity}
use Rattle.rsx_sources.specs.Prelude.{Meaning, Signal, Stream}
use Rattle.rsx_types.specs.declared.limits.TheConstants.{CAPACITY}
use Rattle.rsx_sources.specs.declared.machine.Machine.{Ghosts as Machine}
use Rattle.rsx_link.specs.Ends.{IsUpOf, capacity_of, carried_down}
use Rattle.rsx_link.specs.declared.link.Link.{Link}
use Rattle.rsx_region.specs.Pieces.{IsAt, StandsSince, none_taken}
use Rattle.rsx_region.specs.declared.piece.Piece.{Piece}
use Rattle.rsx_runtime.specs.Tapping.{IsTapOf}
use Rattle.rsx_runtime.specs.declared.tap.Tap.{Tap}
use Rattle.rsx_graph_state.specs.Subscriptions.{AllStand}
use Rattle.rsx_subscriber.specs.Past.{Past}
use Rattle.rsx_subscriber.specs.declared.subscription.Subscription.{Subscription}
use Rattle.rsx_live_parts.specs.Outgoing.{IsFresh, IsOutOf, IsTapFor, MayGoOut}
use Rattle.rsx_live_parts.specs.Returning.{StandsFor, WasStopped, lived}
use Rattle.rsx_live_parts.specs.declared.kept.Kept.{Kept}
use Rattle.rsx_live_parts.specs.declared.kept.Kept.TheVariants.{Away, Here}
use Rattle.rsx_live_parts.specs.declared.kept.Parted.{Parted}

module _ {T : Type 0} where
  -- whether a flag of its link was set, of each tap
  abbrev pub WereStopped : List (Tap T) → List Bool → Type 0
  WereStopped [] fs = fs ≡ []
  WereStopped (t ∷ ts) [] = ⊥
  WereStopped (t ∷ ts) (f ∷ fs) = WasStopped t f × WereStopped ts fs

module _ {M T : Type 0} where
  -- ---- the pieces are made

  -- the first of the subscriptions stays as it is
  pub record Stays (s : Subscription M T) (ks : List (Kept M T)) : Type 0 where
    pub others : List (Kept M T)
    pub is : ks ≡ Here s ∷ others

  -- it has a piece, a link and a tap, each in front of those of the others
  pub record Goes (b : Machine M T) (k : ℕ) (s : Subscription M T) (ks : List (Kept M T)) (ps : List (Piece M T)) (ls : List (Link T)) (ts : List (Tap T)) : Type 0 where
    pub others : List (Kept M T)
    pub pieces : List (Piece M T)
    pub links : List (Link T)
    pub taps : List (Tap T)
    pub piece : Piece M T
    pub link : Link T
    pub tap : Tap T
    pub is : ks ≡ Away [] s.demand.sent ∷ others
    pub piece_first : ps ≡ piece ∷ pieces
    pub link_first : ls ≡ link ∷ links
    pub tap_first : ts ≡ tap ∷ taps
    pub out : IsOutOf b s k piece link
    pub over : IsTapFor s link tap
    pub number : tap.link ≡ k
    pub fresh : IsFresh s tap

  -- Each stays as it is, or has a piece, a link and a tap. The links have the numbers from `k` on.
  abbrev pub AreOut : Machine M T → ℕ → List (Subscription M T) → List (Kept M T) → List (Piece M T) → List (Link T) → List (Tap T) → Type 0
  AreOut b k [] ks ps ls ts = (ks ≡ []) × (ps ≡ []) × (ls ≡ []) × (ts ≡ [])
  AreOut b k (s ∷ ss) ks ps ls ts =
      ((h : Stays s ks) × AreOut b k ss h.others ps ls ts)
      ⊎ ((h : Goes b k s ks ps ls ts) × AreOut b (suc k) ss h.others h.pieces h.links h.taps)

  -- one that stays as it is may not go out
  abbrev pub MustStay : Machine M T → Kept M T → Type 0
  MustStay b (Here s) = MayGoOut b s → ⊥
  MustStay b (Away q n) = ⊤

  -- so it is with each
  abbrev pub AllMustStay : Machine M T → List (Kept M T) → Type 0
  AllMustStay b [] = ⊤
  AllMustStay b (k ∷ ks) = MustStay b k × AllMustStay b ks

  -- where that was so, it is so of what came behind them, too, unless one stays for want of memory or of a number
  pub record StaysOnly (b : Machine M T) (old new : Parted M T) : Type 0 where
    pub before : new.refused ≡ false → old.refused ≡ false
    pub stay : new.refused ≡ false → AllMustStay b old.kept.items → AllMustStay b new.kept.items

  -- there is room for what so many subscriptions become
  pub record HasRoomFor (count : ℕ) (p : Parted M T) : Type 0 where
    pub pieces : length p.pieces.items + count ≤ vec_capacity p.pieces
    pub links : length p.links.items + count ≤ vec_capacity p.links
    pub taps : length p.taps.items + count ≤ vec_capacity p.taps
    pub kept : length p.kept.items + count ≤ vec_capacity p.kept

  -- these came behind the others
  pub record HasMore (old : Parted M T) (ks : List (Kept M T)) (ps : List (Piece M T)) (ls : List (Link T)) (ts : List (Tap T)) (new : Parted M T) : Type 0 where
    pub kept : new.kept.items ≡ old.kept.items ++ ks
    pub pieces : new.pieces.items ≡ old.pieces.items ++ ps
    pub links : new.links.items ≡ old.links.items ++ ls
    pub taps : new.taps.items ≡ old.taps.items ++ ts

  -- so each of these subscriptions is parted
  pub record ArePartedBy (b : Machine M T) (subs : List (Subscription M T)) (old new : Parted M T) : Type 0 where
    pub kept : List (Kept M T)
    pub pieces : List (Piece M T)
    pub links : List (Link T)
    pub taps : List (Tap T)
    pub more : HasMore old kept pieces links taps new
    pub out : AreOut b (length old.links.items) subs kept pieces links taps

  -- ---- the taps

  -- Of each piece there is one tap, in their order. It is over the link with its number, from the number `k` on, and counts on from what
  -- its subscriber was delivered before.
  abbrev pub AreTapsFrom : List (Link T) → ℕ → List (Kept M T) → List (Tap T) → Type 0
  AreTapsFrom links k [] ts = ts ≡ []
  AreTapsFrom links k (Here s ∷ ks) ts = AreTapsFrom links k ks ts
  AreTapsFrom links k (Away q n ∷ ks) [] = ⊥
  AreTapsFrom links k (Away q n ∷ ks) (t ∷ ts) = (t.link ≡ k) × IsAt links k (λ l. IsTapOf l t) × (carried_down t.down ≡ n) × AreTapsFrom links (suc k) ks ts

  -- ---- they come back

  -- What one comes back of that has a piece: the piece, the link and the tap that stand in front of the others.
  pub record HasFirst (ps : List (Piece M T)) (ls : List (Link T)) (ts : List (Tap T)) : Type 0 where
    pub pieces : List (Piece M T)
    pub links : List (Link T)
    pub taps : List (Tap T)
    pub piece : Piece M T
    pub link : Link T
    pub tap : Tap T
    pub piece_first : ps ≡ piece ∷ pieces
    pub link_first : ls ≡ link ∷ links
    pub tap_first : ts ≡ tap ∷ taps

  -- their ends belong together, and the link holds no more than the queue takes
  pub record CanReturn {ps : List (Piece M T)} {ls : List (Link T)} {ts : List (Tap T)} (h : HasFirst ps ls ts) (q : List (Signal T)) : Type 0 where
    pub end : IsUpOf h.link h.piece.up
    pub over : IsTapOf h.link h.tap
    pub small : capacity_of h.link ≤ CAPACITY
    pub empty : q ≡ []

  abbrev pub CanComeFirst : Kept M T → List (Piece M T) → List (Link T) → List (Tap T) → Type 0
  CanComeFirst (Here s) ps ls ts = ⊤
  CanComeFirst (Away q n) ps ls ts = (h : HasFirst ps ls ts) × CanReturn h q

  -- it came back, and the others are left
  pub record Returned (b : Machine M T) {all_pieces : List (Piece M T)} {all_links : List (Link T)} {all_taps : List (Tap T)} (h : HasFirst all_pieces all_links all_taps) (ps : List (Piece M T)) (ls : List (Link T)) (ts : List (Tap T)) (sub : Subscription M T) : Type 0 where
    pub stopped : Bool
    pub was : WasStopped h.tap stopped
    pub stands : (m : Meaning T) (n k : ℕ) (before : Subscription M T) (opening : Piece M T) (made : Link T) → IsOutOf b before k opening made → IsTapFor before h.link h.tap → StandsSince b m (none_taken n) opening h.piece → StandsFor b m before h.tap stopped sub
    pub left : (ps ≡ h.pieces) × (ls ≡ h.links) × (ts ≡ h.taps)

  abbrev pub CameFirst : Machine M T → Kept M T → List (Piece M T) → List (Link T) → List (Tap T) → List (Piece M T) → List (Link T) → List (Tap T) → Subscription M T → Type 0
  CameFirst b (Here s) ps ls ts ps' ls' ts' sub = (sub ≡ s) × (ps' ≡ ps) × (ls' ≡ ls) × (ts' ≡ ts)
  CameFirst b (Away q n) ps ls ts ps' ls' ts' sub = (h : HasFirst ps ls ts) × Returned b h ps' ls' ts' sub

  -- A piece comes back, which stands for what it stood for as it was made of the subscription.
  pub record Returns (b : Machine M T) (m : Meaning T) (n k : ℕ) (s : Subscription M T) (ks : List (Kept M T)) (ps : List (Piece M T)) (ls : List (Link T)) (ts : List (Tap T)) : Type 0 where
    pub others : List (Kept M T)
    pub is : ks ≡ Away [] s.demand.sent ∷ others
    pub first : HasFirst ps ls ts
    pub opening : Piece M T
    pub out : IsOutOf b s k opening first.link
    pub over : IsTapFor s first.link first.tap
    pub end : IsUpOf first.link first.piece.up
    pub since : StandsSince b m (none_taken n) opening first.piece

  -- so it is of each of the subscriptions that doesn't stay as it is
  abbrev pub AreBack : Machine M T → Meaning T → ℕ → ℕ → List (Subscription M T) → List (Kept M T) → List (Piece M T) → List (Link T) → List (Tap T) → Type 0
  AreBack b m n k [] ks ps ls ts = (ks ≡ []) × (ts ≡ [])
  AreBack b m n k (s ∷ ss) ks ps ls ts =
      ((h : Stays s ks) × AreBack b m n k ss h.others ps ls ts)
      ⊎ ((h : Returns b m n k s ks ps ls ts) × AreBack b m n (suc k) ss h.others h.first.pieces h.first.links h.first.taps)

  -- of some subscriptions
  pub record CanComeBack (b : Machine M T) (ks : List (Kept M T)) (ps : List (Piece M T)) (ls : List (Link T)) (ts : List (Tap T)) : Type 0 where
    pub meaning : Meaning T
    pub count : ℕ
    pub number : ℕ
    pub subs : List (Subscription M T)
    pub are : AreBack b meaning count number subs ks ps ls ts

  -- ---- what has happened

  -- what has happened to each subscriber while they were live
  abbrev pub all_lived : List (Kept M T) → List (Tap T) → List Bool → List (Past T) → List (Past T)
  all_lived [] ts fs ps = ps
  all_lived (k ∷ ks) ts fs [] = []
  all_lived (Here s ∷ ks) ts fs (p ∷ ps) = p ∷ all_lived ks ts fs ps
  all_lived (Away q n ∷ ks) [] fs (p ∷ ps) = p ∷ ps
  all_lived (Away q n ∷ ks) (t ∷ ts) [] (p ∷ ps) = p ∷ ps
  all_lived (Away q n ∷ ks) (t ∷ ts) (f ∷ fs) (p ∷ ps) = lived t f p ∷ all_lived ks ts fs ps

  -- Subscriptions came back, of these and what their taps gave. Whatever stood for what has happened to their subscribers before stands
  -- for that with what their taps gave.
  pub record CameBack (b : Machine M T) (ks : List (Kept M T)) (ps : List (Piece M T)) (ls : List (Link T)) (ts : List (Tap T)) (subs : List (Subscription M T)) : Type 0 where
    pub flags : List Bool
    pub stopped : WereStopped ts flags
    pub stands : (m : Meaning T) (n k : ℕ) (was : List (Subscription M T)) → AreBack b m n k was ks ps ls ts → (published : List (Stream T)) (pasts : List (Past T)) → AllStand b m published was pasts → AllStand b m published subs (all_lived ks ts flags pasts)
    pub count : length subs ≡ length ks
