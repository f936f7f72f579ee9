-- A piece with the ends of its links, and what it stands for.
use Rattle.std.specs.Prelude.{◌≡◌, ℕ, List, [], ◌∷◌, Some, map, replicate, slice_get}
use Rattle.rsx_sources.specs.Prelude.{Meaning, Signal, Stream}
use Rattle.rsx_sources.specs.declared.machine.Machine.{Ghosts as Machine}
use Rattle.rsx_link.specs.Ends.{IsUpOf, carried_down, carried_up, received_signals, sent_signals}
use Rattle.rsx_link.specs.declared.link.Link.{Link}
use Rattle.rsx_rooted.specs.Local.{stream_of}
use Rattle.rsx_region.specs.Inlet.{InletStands, IsInletOf, replaced_at}
use Rattle.rsx_region.specs.Piece.{IsInStep, PieceStands}
use Rattle.rsx_region.specs.declared.piece.Incoming.{Incoming}
use Rattle.rsx_region.specs.declared.piece.Piece.{Piece}

-- there is a link with this number, and this holds of it
abbrev pub IsAt : {T : Type 0} → List (Link T) → ℕ → (Link T → Type 0) → Type 0
IsAt {T} links k P = (l : Link T) × (slice_get links k ≡ Some l) × P l

-- this holds of each of them
abbrev pub Each : {X : Type 0} → (X → Type 0) → List X → Type 0
Each {X} P xs = (k : ℕ) (x : X) → slice_get xs k ≡ Some x → P x

-- no number stands there twice
abbrev pub AreApart : List ℕ → Type 0
AreApart hs = (j k h : ℕ) → slice_get hs j ≡ Some h → slice_get hs k ≡ Some h → j ≡ k

-- these values, but at each of these numbers that of what came there
abbrev pub taken_by : {A B : Type 0} → (B → A) → List A → List (ℕ × B) → List A
taken_by f values [] = values
taken_by f values (c ∷ cs) = replaced_at c.0 (f c.1) (taken_by f values cs)

-- so many values of hubs and links of which nothing was taken in
abbrev pub none_taken : {T : Type 0} → ℕ → List (Stream T)
none_taken n = replicate n (stream_of [])

-- under this number nothing is among the values
abbrev pub IsBlankAt : {T : Type 0} → List (Stream T) → ℕ → Type 0
IsBlankAt values h = slice_get values h ≡ Some (stream_of [])

module _ {T : Type 0} where
  -- the number under which a node of the piece reads a link
  abbrev pub hub_of : Incoming T → ℕ
  hub_of i = i.inlet.hub

  -- that number, and what came over the link
  abbrev pub came_of : Incoming T → ℕ × List (Signal T)
  came_of i = (i.inlet.hub, received_signals i.inlet.down)

  -- the number of the link, the one under which it is read, and how many items had gone over its edge before the link was made
  abbrev pub numbers_of : Incoming T → ℕ × ℕ × ℕ
  numbers_of i = (i.link, i.inlet.hub, carried_down i.inlet.down)

module _ {M T : Type 0} where
  abbrev pub hubs_of : Piece M T → List ℕ
  hubs_of p = map hub_of p.inlets.items

  -- what hubs and links gave to the piece: its own links what came over them, and the hubs these values
  abbrev pub taken_of : List (Stream T) → Piece M T → List (Stream T)
  taken_of hubs p = taken_by stream_of hubs (map came_of p.inlets.items)

  -- each end is that of the link with its number, no two links are read under one number, and the root edge and its end count alike
  pub record IsPieceOf (links : List (Link T)) (p : Piece M T) : Type 0 where
    pub sends : IsAt links p.link (λ l. IsUpOf l p.up)
    pub takes : Each (λ (i : Incoming T). IsAt links i.link (λ l. IsInletOf l i.inlet)) p.inlets.items
    pub apart : AreApart (hubs_of p)
    pub step : IsInStep p.part p.up

  -- The equation of a piece since its opening, where the hubs took in these values. What was sent is what was sent then, and what came out
  -- since; each link that comes in stands as it should, and has no value there. What no step changes is as it was.
  pub record StandsSince (b : Machine M T) (m : Meaning T) (hubs : List (Stream T)) (opening p : Piece M T) : Type 0 where
    pub links : (p.link ≡ opening.link) × (map numbers_of p.inlets.items ≡ map numbers_of opening.inlets.items)
    pub carried : carried_up p.up ≡ carried_up opening.up
    pub part : PieceStands b m (taken_of hubs p) opening.part.tree (sent_signals opening.up) p.part p.up
    pub ins : Each (λ (i : Incoming T). InletStands b (taken_of hubs p) p.part i.inlet) p.inlets.items
    pub blank : Each (λ (i : Incoming T). IsBlankAt hubs (hub_of i)) p.inlets.items
