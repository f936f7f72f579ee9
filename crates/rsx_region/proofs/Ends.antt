-- The ends of a piece stay those of its links.
use Rattle.std.proofs.Common.{◌≡◌, ℕ, List, map, sym, ap, ◌∙◌, subst, Some, slice_get}
use Rattle.rsx_link.specs.Ends.{IsUpOf}
use Rattle.rsx_link.specs.declared.link.Link.{Link}
use Rattle.rsx_link.specs.declared.up.Up.{Up}
use Rattle.rsx_region.specs.Inlet.{IsInletOf}
use Rattle.rsx_region.specs.Piece.{IsInStep}
use Rattle.rsx_region.specs.Pieces.{AreApart, Each, IsAt, IsPieceOf, hub_of}
use Rattle.rsx_region.specs.Steps.{OneChanged, SameInlets}
use Rattle.rsx_region.specs.declared.piece.Incoming.{Incoming}
use Rattle.rsx_region.specs.declared.piece.Piece.{Piece}
use Rattle.rsx_region.proofs.Lists.{each_set, map_same}

-- the link with this number, of which the fact is known
pub link_is : {T : Type 0} (links : List (Link T)) (k : ℕ) (P : Link T → Type 0) (l : Link T) → slice_get links k ≡ Some l → IsAt links k P → P l
link_is links k P l at h = let same : h.0 ≡ l = (let a = h.1 in cc) in subst P same h.2

pub ends_root : {M T : Type 0} (links : List (Link T)) (p new : Piece M T) (l : Link T) → slice_get links p.link ≡ Some l → SameInlets p new → IsUpOf l new.up → IsInStep new.part new.up → IsPieceOf links p → IsPieceOf links new
ends_root {M} {T} links p new l at same up step h =
    let E : List (Incoming T) → Type 0 = λ is. Each (λ (i : Incoming T). IsAt links i.link (λ k. IsInletOf k i.inlet)) is in
    let A : List (Incoming T) → Type 0 = λ is. AreApart (map hub_of is) in
    record {
      sends = (l, ap (slice_get links) same.0 ∙ at, up);
      takes = subst E (sym same.1) h.takes;
      apart = subst A (sym same.1) h.apart;
      step = step;
    }

pub ends_one : {M T : Type 0} (links : List (Link T)) (p new : Piece M T) (at : ℕ) (was is : Incoming T) (l : Link T) → slice_get links was.link ≡ Some l → OneChanged at was is p new → IsInletOf l is.inlet → IsInStep new.part new.up → IsPieceOf links p → IsPieceOf links new
ends_one {M} {T} links p new at was is l there c of step h =
    let P : Incoming T → Type 0 = λ i. IsAt links i.link (λ k. IsInletOf k i.inlet) in
    let here : P is = (l, ap (slice_get links) c.number ∙ there, of) in
    let U : Up T → Type 0 = λ u. IsAt links p.link (λ k. IsUpOf k u) in
    let L : ℕ → Type 0 = λ n. IsAt links n (λ k. IsUpOf k new.up) in
    let hubs : map hub_of new.inlets.items ≡ map hub_of p.inlets.items = ap (map hub_of) c.put ∙ map_same hub_of p.inlets.items at was is c.there c.hub in
    record {
      sends = subst L (sym c.link) (subst U (sym c.up) h.sends);
      takes = subst (Each P) (sym c.put) (each_set P p.inlets.items at is here h.takes);
      apart = subst AreApart (sym hubs) h.apart;
      step = step;
    }
