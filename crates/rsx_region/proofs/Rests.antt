-- What single steps say of rest.
use Rattle.std.proofs.Common.{◌≡◌, ◌≢◌, ◌⊎◌, inl, inr, ℕ, ◌+◌, ◌<◌, ◌≤◌, Bool, true, false, List, length, map, refl, sym, ap, ◌∙◌, subst, arith, Option, Some, None, slice_get, slice_set}
use Rattle.std.proofs.lemmas.List.{length-set}
use Rattle.std.proofs.lemmas.Option.{slice_get_within}
use Rattle.rsx_sources.specs.Prelude.{Meaning}
use Rattle.rsx_sources.specs.declared.machine.Machine.{Ghosts as Machine}
use Rattle.rsx_tree.specs.declared.edge.Edge.{Edge}
use Rattle.rsx_tree.specs.Edges.{is_live}
use Rattle.rsx_pipe.specs.Part.{Part}
use Rattle.rsx_pipe.specs.Published.{has_room_for, readers, reader_edge}
use Rattle.rsx_link.specs.Ends.{Waits, asked_total, cancels_of, down_steps, queued, received_signals, sent_signals, up_steps}
use Rattle.rsx_link.specs.Steps.{asked_of}
use Rattle.rsx_link.specs.declared.view.Step.{Step as LinkStep}
use Rattle.rsx_link.specs.declared.cancel.CancelSeat.{CancelSeat}
use Rattle.rsx_link.specs.declared.down.Down.{Down}
use Rattle.rsx_region.specs.Moves.{HasLeft, IsAskedFor, IsAskedOver}
use Rattle.rsx_region.specs.declared.inlet.Inlet.{Inlet}
use Rattle.rsx_region.specs.Pieces.{Each}
use Rattle.rsx_region.specs.Serving.{AllPassedOn, CanNotPop, EachBefore, HasLeftAll, HasLeftBefore, HasLeftOne, HasPassedOn, HasStayed, IsAtRest, IsPassedOn, IsPassedOver}
use Rattle.rsx_region.specs.Steps.{HasTried, OneChanged, Shown, shown}
use Rattle.rsx_region.specs.declared.piece.Incoming.{Incoming}
use Rattle.rsx_region.specs.declared.piece.Piece.{Piece}
use Rattle.rsx_region.proofs.Lists.{each_shown, map_same, set_cases}

at_most : (x y : ℕ) → y ≡ x → x ≤ y
at_most x y e = omega (arith, e)

over : {T : Type 0} (l : Bool) (e : Edge) (d : Down T) (s : CancelSeat) (i : Inlet T) → IsAskedOver l e d s i.down i.closer → IsPassedOver l e i
over {T} true e d s i h = elim h.0 [
  | inl same ↦ at_most e.demand.asked (asked_total i.down) same
  | inr k ↦ let D : Down T → Type 0 = λ x. e.demand.asked ≤ asked_total x in subst D (sym k.1) k.0
]
over false e d s i h = h.1

pub passed_on : {T : Type 0} (o : Option Edge) (d : Down T) (s : CancelSeat) (i : Inlet T) → IsAskedFor o d s i.down i.closer → IsPassedOn o i
passed_on None d s i h = tt
passed_on (Some e) d s i h = over (is_live e.state) e d s i h

pub cannot_pop : {M T : Type 0} (b : Machine M T) (old new : Part M) (was is : Incoming T) → is.inlet.hub ≡ was.inlet.hub → HasLeft b old was.inlet new is.inlet → CanNotPop b new is
cannot_pop {M} b old new was is hub h =
    let P : Part M → Type 0 = λ p. CanNotPop b p is in
    let N : ℕ → Type 0 = λ k. (readers b k old ≢ 1) ⊎ ((has_room_for b k old ≡ false) ⊎ Waits is.inlet.down (queued is.inlet.down)) in
    subst P (sym h.part) (subst N (sym hub) (elim h.why [
      | inl r ↦ inl r
      | inr w ↦ elim w [
        | inl r ↦ inr (inl r)
        | inr t ↦ inr (inr t.waits)
      ]
    ]))

pub shown_same : {T : Type 0} (was is : Incoming T) → is.link ≡ was.link → is.inlet.hub ≡ was.inlet.hub → received_signals is.inlet.down ≡ received_signals was.inlet.down → down_steps is.inlet.down ≡ down_steps was.inlet.down → is.inlet.closer ≡ was.inlet.closer → shown is ≡ shown was
shown_same was is e h r s c = cc

-- ---- each before a place

pub before_none : {X : Type 0} (P : X → Type 0) (xs : List X) → EachBefore 0 P xs
before_none P xs k x h e = absurd (omega (arith, h))

pub before_more : {X : Type 0} (P : X → Type 0) (xs ys : List X) (at : ℕ) (y : X) → ys ≡ slice_set xs at y → P y → EachBefore at P xs → EachBefore (at + 1) P ys
before_more {X} P xs ys at y put here all k z below there =
    let found : slice_get (slice_set xs at y) k ≡ Some z = ap (λ (l : List X). slice_get l k) (sym put) ∙ there in
    elim (set_cases xs at k y z found) [
      | inl s ↦ subst P (sym s.1) here
      | inr s ↦ all k z (less k at below s.0) s.1
    ]
  where
    less : (k at : ℕ) → k < at + 1 → (k ≡ at → ⊥) → k < at
    less k at below n = omega (arith, below, n)

pub before_all : {X : Type 0} (P : X → Type 0) (xs : List X) (at : ℕ) → length xs ≤ at → EachBefore at P xs → Each P xs
before_all P xs at done all k x there = all k x (within (slice_get_within xs k x there)) there
  where
    within : k < length xs → k < at
    within h = omega (arith, h, done)

-- ---- a piece that was only tried

pub tried_none : {M T : Type 0} (p : Piece M T) → HasTried p p
tried_none p = record { part = refl; link = refl; sent = refl; looks = refl; ins = refl }

pub tried_then : {M T : Type 0} (p q r : Piece M T) → HasTried p q → HasTried q r → HasTried p r
tried_then p q r g h = record { part = h.part ∙ g.part; link = h.link ∙ g.link; sent = h.sent ∙ g.sent; looks = h.looks ∙ g.looks; ins = h.ins ∙ g.ins }

pub tried_one : {M T : Type 0} (p new : Piece M T) (at : ℕ) (was is : Incoming T) → OneChanged at was is p new → new.part ≡ p.part → shown is ≡ shown was → HasTried p new
tried_one {M} {T} p new at was is c part same = record {
  part = part;
  link = c.link;
  sent = ap sent_signals c.up;
  looks = ap up_steps c.up;
  ins = ap (map shown) c.put ∙ map_same shown p.inlets.items at was is c.there same;
}

passed_shown : {M T : Type 0} (b : Machine M T) (part : Part M) (x y : Incoming T) → shown y ≡ shown x → IsPassedOn (reader_edge b x.inlet.hub part) x.inlet → IsPassedOn (reader_edge b y.inlet.hub part) y.inlet
passed_shown {M} {T} b part x y same h =
    let hub : y.inlet.hub ≡ x.inlet.hub = ap (λ (s : Shown T). s.hub) same in
    let asks : down_steps y.inlet.down ≡ down_steps x.inlet.down = ap (λ (s : Shown T). s.asks) same in
    let closer : y.inlet.closer ≡ x.inlet.closer = ap (λ (s : Shown T). s.closer) same in
    let H : ℕ → Type 0 = λ k. IsPassedOn (reader_edge b k part) y.inlet in
    subst H (sym hub) (by_edge (reader_edge b x.inlet.hub part) asks closer h)
  where
    by_live : (l : Bool) (e : Edge) → down_steps y.inlet.down ≡ down_steps x.inlet.down → y.inlet.closer ≡ x.inlet.closer → IsPassedOver l e x.inlet → IsPassedOver l e y.inlet
    by_live true e asks closer h = let A : List LinkStep → Type 0 = λ s. e.demand.asked ≤ asked_of s in subst A (sym asks) h
    by_live false e asks closer h = let C : CancelSeat → Type 0 = λ s. 0 < cancels_of s in subst C (sym closer) h

    by_edge : (o : Option Edge) → down_steps y.inlet.down ≡ down_steps x.inlet.down → y.inlet.closer ≡ x.inlet.closer → IsPassedOn o x.inlet → IsPassedOn o y.inlet
    by_edge None asks closer h = tt
    by_edge (Some e) asks closer h = by_live (is_live e.state) e asks closer h

pub passed_tried : {M T : Type 0} (b : Machine M T) (p new : Piece M T) → HasTried p new → AllPassedOn b p → AllPassedOn b new
passed_tried {M} {T} b p new h all =
    let Q : Part M → Type 0 = λ q. Each (λ (i : Incoming T). IsPassedOn (reader_edge b i.inlet.hub q) i.inlet) new.inlets.items in
    subst Q (sym h.part) (each_shown shown (λ (i : Incoming T). IsPassedOn (reader_edge b i.inlet.hub p.part) i.inlet) p.inlets.items new.inlets.items h.ins (λ x y e. passed_shown b p.part x y e) all)

-- a turn in which nothing was taken, and no move made
pub rests : {M T : Type 0} (b : Machine M T) (m : Meaning T) (p q r : Piece M T) → AllPassedOn b p → HasLeftAll b p q → HasStayed b m q r → IsAtRest b m r
rests {M} {T} b m p q r asked left stayed =
    let E : List (Incoming T) → Type 0 = λ is. Each (CanNotPop b q.part) is in
    let Q : Part M → Type 0 = λ x. Each (CanNotPop b x) r.inlets.items in
    record {
      idle = stayed.idle;
      taken = subst Q (sym stayed.tried.part) (subst E (sym stayed.others.1) left.left);
      asked = passed_tried b q r stayed.tried (passed_tried b p q left.tried asked);
    }

-- ---- the links, one after the other

pub passed_count : {M T : Type 0} (b : Machine M T) (p new : Piece M T) (at : ℕ) → HasPassedOn b at p new → length new.inlets.items ≡ length p.inlets.items
passed_count b p new at h = ap length h.put ∙ length-set p.inlets.items at h.is

pub passed_more : {M T : Type 0} (b : Machine M T) (p new : Piece M T) (at : ℕ) → HasPassedOn b at p new → EachBefore at (λ (i : Incoming T). IsPassedOn (reader_edge b i.inlet.hub p.part) i.inlet) p.inlets.items →
    EachBefore (at + 1) (λ (i : Incoming T). IsPassedOn (reader_edge b i.inlet.hub new.part) i.inlet) new.inlets.items
passed_more {M} {T} b p new at h all =
    let Q : Part M → Type 0 = λ q. EachBefore at (λ (i : Incoming T). IsPassedOn (reader_edge b i.inlet.hub q) i.inlet) p.inlets.items in
    before_more (λ (i : Incoming T). IsPassedOn (reader_edge b i.inlet.hub new.part) i.inlet) p.inlets.items new.inlets.items at h.is h.put h.asked (subst Q (sym h.part) all)

pub left_none : {M T : Type 0} (b : Machine M T) (p : Piece M T) → HasLeftBefore b 0 p p
left_none b p = record { tried = tried_none p; left = before_none (CanNotPop b p.part) p.inlets.items }

pub left_more : {M T : Type 0} (b : Machine M T) (first p new : Piece M T) (at : ℕ) → HasLeftBefore b at first p → HasLeftOne b at p new → HasLeftBefore b (at + 1) first new
left_more {M} {T} b first p new at h one =
    let Q : Part M → Type 0 = λ q. EachBefore at (CanNotPop b q) p.inlets.items in
    record {
      tried = tried_then first p new h.tried one.tried;
      left = before_more (CanNotPop b new.part) p.inlets.items new.inlets.items at one.is one.put one.left (subst Q (sym one.tried.part) h.left);
    }

pub left_all : {M T : Type 0} (b : Machine M T) (first p : Piece M T) (at : ℕ) → length p.inlets.items ≤ at → HasLeftBefore b at first p → HasLeftAll b first p
left_all b first p at done h = record { tried = h.tried; left = before_all (CanNotPop b p.part) p.inlets.items at done h.left }
