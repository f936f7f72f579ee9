-- Many moves of a piece, one after the other.
use Rattle.std.proofs.Common.{◌≡◌, ◌⊎◌, inl, inr, ℕ, zero, suc, ◌+◌, Bool, true, false, refl, ap, sym, ◌∙◌, subst, arith, None, Result, Ok, Err}
use Rattle.std.specs.Prelude.{IfOk, OnErr}
use Rattle.rsx_sources.specs.Prelude.{Meaning}
use Rattle.rsx_sources.specs.declared.machine.Machine.{Ghosts as Machine}
use Rattle.rsx_tree.specs.declared.edge.EdgeState.TheVariants.{Live}
use Rattle.rsx_pipe.specs.Feeding.{IsQuietInside, next_out}
use Rattle.rsx_pipe.specs.Part.{Part}
use Rattle.rsx_link.specs.Ends.{SameUp, free_slots, sent_signals}
use Rattle.rsx_link.specs.declared.link.Link.{Link}
use Rattle.rsx_link.specs.declared.up.Up.{Up}
use Rattle.rsx_region.specs.Moves.{HasKept, HasMoved, HasStepped, IsServed, IsStill}

pub served_none : {M T : Type 0} (b : Machine M T) (m : Meaning T) (p : Part M) (u : Up T) → IsServed b m 0 p u p u
served_none b m p u = (refl, refl)

stepped_same : {M T : Type 0} (b : Machine M T) (m : Meaning T) (q : Part M) (v : Up T) (p p' : Part M) (u u' : Up T) → p' ≡ p → sent_signals u' ≡ sent_signals u → HasStepped b m q v p u → HasStepped b m q v p' u'
stepped_same {M} b m q v p p' u u' part sent h =
    let P : Part M → Type 0 = λ x. HasStepped b m q v x u' in
    subst P (sym part) (elim h [
      | inl s ↦ inl (record { signal = s.signal; out = s.out; pushed = sent ∙ s.pushed })
      | inr s ↦ inr (s.0, sent ∙ s.1)
    ])

pub served_same : {M T : Type 0} (b : Machine M T) (m : Meaning T) (n : ℕ) (p : Part M) (u : Up T) (q q' : Part M) (v v' : Up T) → q' ≡ q → sent_signals v' ≡ sent_signals v → IsServed b m n p u q v → IsServed b m n p u q' v'
served_same b m zero p u q q' v v' part sent h = (part ∙ h.0, sent ∙ h.1)
served_same b m (suc n) p u q q' v v' part sent h = (h.0, h.1, h.2, stepped_same b m h.0 h.1 q q' v v' part sent h.3)

pub served_more : {M T : Type 0} (b : Machine M T) (m : Meaning T) (n : ℕ) (p : Part M) (u : Up T) (q q' : Part M) (v v' : Up T) → IsServed b m n p u q v → HasStepped b m q v q' v' → IsServed b m (n + 1) p u q' v'
served_more {M} {T} b m n p u q q' v v' h step =
    let P : ℕ → Type 0 = λ k. IsServed b m k p u q' v' in
    let next : suc n ≡ n + 1 = more n in
    subst P next (q, v, h, step)
  where
    more : (n : ℕ) → suc n ≡ n + 1
    more n = omega arith

-- ---- one move

pub step_made : {M T E : Type 0} (b : Machine M T) (m : Meaning T) (r : Result Bool E) (p q p' : Part M) (u v : Up T) → HasKept b m p u q v → IfOk r (λ x. x ≡ true → HasMoved b m q p') → IfOk r (λ x. x ≡ true → HasStepped b m p u p' v)
step_made {M} b m (Ok x) p q p' u v k h = λ e. let P : Part M → Type 0 = λ z. HasMoved b m z p' in inr (subst P k.part (h e), k.sent)
step_made b m (Err e) p q p' u v k h = tt

pub step_still : {M T E : Type 0} (b : Machine M T) (m : Meaning T) (r : Result Bool E) (p q p' : Part M) (u v : Up T) → HasKept b m p u q v → IfOk r (λ x. x ≡ false → (p' ≡ q) × (q.root.state ≡ Live → IsQuietInside b m q)) → IfOk r (λ x. x ≡ false → IsStill b m p u p' v)
step_still {M} b m (Ok x) p q p' u v k h = λ e.
    let n = h e in
    let same : p' ≡ p = n.0 ∙ k.part in
    let W : Part M → Type 0 = λ z. (next_out b m z ≡ None) ⊎ (free_slots v ≡ 0) in
    let Q : Part M → Type 0 = λ z. z.root.state ≡ Live → IsQuietInside b m z in
    (same, k.sent, (subst W (sym same) k.why, subst Q (sym n.0) n.1))
step_still b m (Err e) p q p' u v k h = tt

pub step_same : {M T E : Type 0} (b : Machine M T) (m : Meaning T) (r : Result Bool E) (p q p' : Part M) (u v : Up T) → HasKept b m p u q v → OnErr r (p' ≡ q) → OnErr r ((p' ≡ p) × (sent_signals v ≡ sent_signals u))
step_same b m (Ok x) p q p' u v k h = tt
step_same b m (Err e) p q p' u v k h = (h ∙ k.part, k.sent)

-- of a piece that has ended nothing changes by two calls either
pub after_then : {M T : Type 0} (p q q' : Part M) (u v v' : Up T) → ((p.root.state ≡ Live → ⊥) → (q ≡ p) × (sent_signals v ≡ sent_signals u)) → ((q.root.state ≡ Live → ⊥) → (q' ≡ q) × (sent_signals v' ≡ sent_signals v)) → (p.root.state ≡ Live → ⊥) → (q' ≡ p) × (sent_signals v' ≡ sent_signals u)
after_then p q q' u v v' first second dead =
    let a = first dead in
    let c = second (λ l. dead (ap (λ x. x.root.state) (sym a.0) ∙ l)) in
    (c.0 ∙ a.0, c.1 ∙ a.1)

-- the same end, after two calls
pub same_then : {T : Type 0} (l : Link T) (u v w : Up T) → SameUp l u v → SameUp l v w → SameUp l u w
same_then l u v w h k = (k.0, k.1 ∙ h.1, k.2 ∙ h.2)
