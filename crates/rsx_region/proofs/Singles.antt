-- The single steps of a piece.
use Rattle.std.proofs.Common.{◌≡◌, ◌⊎◌, inl, inr, ℕ, ◌+◌, ◌&&◌, nat_lt, if◌then◌else◌, Bool, true, false, List, map, refl, sym, ap, ◌∙◌, subst, Option, Some, None, Result, Ok, Err, slice_get}
use Rattle.std.specs.Prelude.{IfNone, IfOk, IfSome, OnErr}
use Rattle.rsx_sources.specs.Prelude.{Meaning, Next, Signal, front_of}
use Rattle.rsx_sources.specs.declared.machine.Front.{Front}
use Rattle.rsx_sources.specs.declared.machine.Front.TheVariants.{Item, Completion, Failure}
use Rattle.rsx_sources.specs.declared.machine.Machine.{Ghosts as Machine}
use Rattle.rsx_tree.specs.declared.edge.EdgeState.{EdgeState}
use Rattle.rsx_tree.specs.declared.edge.EdgeState.TheVariants.{Live, Ended, Closed}
use Rattle.rsx_tree.specs.Edges.{EdgeView, can_pass, edge_view, is_live}
use Rattle.rsx_tree.proofs.Shut.{pass_live}
use Rattle.rsx_rooted.specs.Feeding.{carried}
use Rattle.rsx_rooted.specs.Tree.{offers}
use Rattle.rsx_pipe.specs.Part.{Part}
use Rattle.rsx_pipe.specs.Published.{reader_edge}
use Rattle.rsx_link.specs.Ends.{SameUp, carried_up, received_signals, sent_signals, up_steps}
use Rattle.rsx_link.specs.declared.link.Link.{Link}
use Rattle.rsx_link.specs.declared.up.Found.{Found}
use Rattle.rsx_link.specs.declared.up.Up.{Up}
use Rattle.rsx_region.specs.Moves.{HasBrought, HasLeft, HasPopped, HasPulled, HasStepped, IsAskedFor, IsLooked, IsStill, KeepsInlet, SameInlet}
use Rattle.rsx_region.specs.Serving.{HasLeftOne, HasPassedOn, HasStayed, IsPassedOn}
use Rattle.rsx_region.specs.Steps.{Goes, HasTried, OneChanged, SameInlets, done, shown}
use Rattle.rsx_region.specs.declared.piece.Incoming.{Incoming}
use Rattle.rsx_region.specs.declared.piece.Piece.{Piece}
use Rattle.rsx_region.specs.declared.step.Step.TheVariants.{Look, Ask, Pop, Move, Many, Try}
use Rattle.rsx_region.proofs.Rests.{cannot_pop, passed_on, shown_same, tried_none, tried_one}
use Rattle.rsx_region.proofs.Runs.{goes_one, goes_then}

pub looked_goes : {M T : Type 0} (b : Machine M T) (m : Meaning T) (links : List (Link T)) (p new : Piece M T) (l : Link T) (o : Option Found) → slice_get links p.link ≡ Some l → SameInlets p new →
    IfSome o (λ f. IsLooked b m l f p.part p.up new.part new.up) → IfSome o (λ f. p.part.root.state ≡ Live) → IfNone o ((p.part.root.state ≡ Live → ⊥) × (new.part ≡ p.part) × (new.up ≡ p.up)) → Goes b m links 0 0 p new
looked_goes b m links p new l (Some f) there same looked live none = goes_one b m links Look 0 0 p new refl refl (record { out = l; there = there; live = live; found = f; looked = looked; others = same })
looked_goes b m links p new l None there same looked live none = goes_one b m links Try 0 0 p new refl refl (record { part = none.1; link = same.0; sent = ap sent_signals none.2; looks = ap (λ u. u.seat.me.0.steps) none.2; ins = ap (map shown) same.1 })

-- a look leaves how many items had gone over the edge before the link was made
pub looked_carried : {M T : Type 0} (b : Machine M T) (m : Meaning T) (l : Link T) (part part' : Part M) (up up' : Up T) (o : Option Found) → IfSome o (λ f. IsLooked b m l f part up part' up') → IfNone o ((part.root.state ≡ Live → ⊥) × (part' ≡ part) × (up' ≡ up)) → carried_up up' ≡ carried_up up
looked_carried b m l part part' up up' (Some f) looked none = looked.end.3
looked_carried b m l part part' up up' None looked none = ap carried_up none.2

pub asked_goes : {M T : Type 0} (b : Machine M T) (m : Meaning T) (links : List (Link T)) (p new : Piece M T) (l : Link T) (at : ℕ) (was is : Incoming T) → OneChanged at was is p new → new.part ≡ p.part → KeepsInlet l was.inlet is.inlet →
    IsAskedFor (reader_edge b was.inlet.hub p.part) was.inlet.down was.inlet.closer is.inlet.down is.inlet.closer → Goes b m links 0 0 p new
asked_goes b m links p new l at was is c part keeps asked = goes_one b m links Ask 0 0 p new refl refl (record { at = at; was = was; is = is; changed = c; part = part; came = keeps.0.1; asked = asked })

pub asked_passed : {M T : Type 0} (b : Machine M T) (p new : Piece M T) (at : ℕ) (was is : Incoming T) → OneChanged at was is p new → new.part ≡ p.part →
    IsAskedFor (reader_edge b was.inlet.hub p.part) was.inlet.down was.inlet.closer is.inlet.down is.inlet.closer → HasPassedOn b at p new
asked_passed {M} {T} b p new at was is c part asked =
    let Q : Part M → Type 0 = λ q. IsPassedOn (reader_edge b is.inlet.hub q) is.inlet in
    let H : ℕ → Type 0 = λ k. IsPassedOn (reader_edge b k p.part) is.inlet in
    record { is = is; put = c.put; part = part; up = c.up; asked = subst Q (sym part) (subst H (sym c.hub) (passed_on (reader_edge b was.inlet.hub p.part) was.inlet.down was.inlet.closer is.inlet asked)) }

pub popped_goes : {M T E : Type 0} (b : Machine M T) (m : Meaning T) (links : List (Link T)) (p new : Piece M T) (l : Link T) (at : ℕ) (was is : Incoming T) (r : Result Bool E) → OneChanged at was is p new → SameInlet l was.inlet is.inlet →
    IfOk r (λ x. x ≡ true → HasPopped b p.part was.inlet new.part is.inlet) → IfOk r (λ x. x ≡ false → HasLeft b p.part was.inlet new.part is.inlet) → OnErr r ((new.part ≡ p.part) × (is.inlet.down ≡ was.inlet.down)) → Goes b m links 0 (done r) p new
popped_goes b m links p new l at was is (Ok true) c same popped left err = goes_one b m links Pop 0 1 p new refl refl (record { at = at; was = was; is = is; changed = c; popped = popped refl })
popped_goes b m links p new l at was is (Ok false) c same popped left err =
    let h = left refl in
    goes_one b m links Try 0 0 p new refl refl (tried_one p new at was is c h.part (shown_same was is c.number c.hub h.received same.3 same.2))
popped_goes b m links p new l at was is (Err e) c same popped left err =
    goes_one b m links Try 0 0 p new refl refl (tried_one p new at was is c err.0 (shown_same was is c.number c.hub (ap received_signals err.1) same.3 same.2))

pub popped_left : {M T E : Type 0} (b : Machine M T) (p new : Piece M T) (l : Link T) (at : ℕ) (was is : Incoming T) (r : Result Bool E) → OneChanged at was is p new → SameInlet l was.inlet is.inlet →
    IfOk r (λ x. x ≡ false → HasLeft b p.part was.inlet new.part is.inlet) → IfOk r (λ x. x ≡ false → HasLeftOne b at p new)
popped_left b p new l at was is (Ok x) c same left = λ e.
    let h = left e in
    record { is = is; put = c.put; tried = tried_one p new at was is c h.part (shown_same was is c.number c.hub h.received same.3 same.2); left = cannot_pop b p.part new.part was is c.hub h }
popped_left b p new l at was is (Err e) c same left = tt

pub tried_root : {M T : Type 0} (l : Link T) (p new : Piece M T) → SameInlets p new → SameUp l p.up new.up → new.part ≡ p.part → sent_signals new.up ≡ sent_signals p.up → HasTried p new
tried_root l p new same up part sent = record { part = part; link = same.0; sent = sent; looks = up.1; ins = ap (map shown) same.1 }

pub stepped_goes : {M T E : Type 0} (b : Machine M T) (m : Meaning T) (links : List (Link T)) (p new : Piece M T) (l : Link T) (r : Result Bool E) → p.part.root.state ≡ Live → SameInlets p new → SameUp l p.up new.up →
    IfOk r (λ x. x ≡ true → HasStepped b m p.part p.up new.part new.up) → IfOk r (λ x. x ≡ false → IsStill b m p.part p.up new.part new.up) → OnErr r ((new.part ≡ p.part) × (sent_signals new.up ≡ sent_signals p.up)) → Goes b m links (done r) 0 p new
stepped_goes b m links p new l (Ok true) live same up made still err = goes_one b m links Move 1 0 p new refl refl (record { live = live; stepped = made refl; looks = up.1; others = same })
stepped_goes b m links p new l (Ok false) live same up made still err = let h = still refl in goes_one b m links Try 0 0 p new refl refl (tried_root l p new same up h.0 h.1)
stepped_goes b m links p new l (Err e) live same up made still err = goes_one b m links Try 0 0 p new refl refl (tried_root l p new same up err.0 err.1)

pub stepped_stayed : {M T E : Type 0} (b : Machine M T) (m : Meaning T) (p new : Piece M T) (l : Link T) (r : Result Bool E) → SameInlets p new → SameUp l p.up new.up →
    IfOk r (λ x. x ≡ false → IsStill b m p.part p.up new.part new.up) → IfOk r (λ x. x ≡ false → HasStayed b m p new)
stepped_stayed b m p new l (Ok x) same up still = λ e. let h = still e in record { tried = tried_root l p new same up h.0 h.1; others = same; idle = h.2 }
stepped_stayed b m p new l (Err e) same up still = tt

-- An item that was pulled through. A root edge over which an item goes is live, and was so before the moves inside.
pub brought_goes : {M T : Type 0} (b : Machine M T) (m : Meaning T) (links : List (Link T)) (p new : Piece M T) (inside n : ℕ) → SameInlets p new → up_steps new.up ≡ up_steps p.up → inside + 1 ≡ n → HasBrought b m inside p.part p.up new.part new.up → Goes b m links n 0 p new
brought_goes {M} {T} b m links p new inside n same looks sum k =
    let mid : Piece M T = record { part = k.mid; link = p.link; up = p.up; inlets = p.inlets } in
    let on : k.mid.root.state ≡ Live = pass_live (edge_view k.mid.root) Item k.out.can in
    let live : p.part.root.state ≡ Live = ap (λ e. e.state) (sym (k.worked.inside (sym k.worked.queued))) ∙ on in
    goes_then b m links inside 0 1 0 n 0 p mid new sum refl
    (goes_one b m links (Many inside) inside 0 p mid refl refl (record { live = live; worked = k.worked; sent = refl; looks = refl; others = (refl, refl) }))
    (goes_one b m links Move 1 0 mid new refl refl (record { live = on; stepped = inl (record { signal = Next k.item; out = k.out; pushed = k.pushed }); looks = looks; others = same }))

-- such an item, or moves inside alone
pub pulled_goes : {M T : Type 0} (b : Machine M T) (m : Meaning T) (links : List (Link T)) (p new : Piece M T) (l : Link T) (n : ℕ) → SameInlets p new → SameUp l p.up new.up → HasPulled b m n p.part p.up new.part new.up →
    ((p.part.root.state ≡ Live → ⊥) → (n ≡ 0) × (new.part ≡ p.part) × (sent_signals new.up ≡ sent_signals p.up)) → Goes b m links n 0 p new
pulled_goes b m links p new l n same up (inl h) after = brought_goes b m links p new h.0 n same up.1 h.1 h.2
pulled_goes b m links p new l n same up (inr h) after = elim (live_or p.part.root.state) [
  | inl live ↦ goes_one b m links (Many n) n 0 p new refl refl (record { live = live; worked = h.0; sent = h.1; looks = up.1; others = same })
  | inr dead ↦ let a = after dead in goes_one b m links Try n 0 p new (sym a.0) refl (tried_root l p new same up a.1 a.2)
]
  where
    live_or : (s : EdgeState) → (s ≡ Live) ⊎ (s ≡ Live → ⊥)
    live_or Live = inl refl
    live_or Ended = inr (λ e. cc)
    live_or Closed = inr (λ e. cc)

-- ---- a piece whose root edge isn't live

no_pass : (e : EdgeView) → is_live e.state ≡ false → (f : Front) → can_pass e f ≡ false
no_pass e dead Item = ap (λ l. l && nat_lt e.sent e.asked) dead
no_pass e dead Completion = dead
no_pass e dead (Failure c) = dead

none_out : {T : Type 0} (e : EdgeView) → is_live e.state ≡ false → (o : Option (Signal T)) → carried e o ≡ None
none_out e dead None = refl
none_out {T} e dead (Some s) = ap (λ (t : Bool). if t then Some s else None) (no_pass e dead (front_of s))

dead_is : (s : EdgeState) → is_live s ≡ false → s ≡ Live → ⊥
dead_is Live e l = cc
dead_is Ended e l = cc
dead_is Closed e l = cc

pub live_is : (s : EdgeState) → is_live s ≡ true → s ≡ Live
live_is Live e = refl
live_is Ended e = cc
live_is Closed e = cc

pub dead_stays : {M T : Type 0} (b : Machine M T) (m : Meaning T) (p : Piece M T) → is_live p.part.root.state ≡ false → HasStayed b m p p
dead_stays b m p dead = record { tried = tried_none p; others = (refl, refl); idle = (inl (none_out (edge_view p.part.root) dead (offers b m p.part.tree)), λ live. absurd (dead_is p.part.root.state dead live)) }
