-- Feeds found by the numbers of their hubs, where one of them changed, or a signal of a hub was handed to all.
use Rattle.rsx_sources.specs.declared.machine.Machine.{Ghosts as Machine}
use Rattle.std.proofs.Common.{◌≡◌, ℕ, zero, suc, ◌<◌, Bool, true, false, nat_eq, if◌then◌else◌, List, [], ◌∷◌, length, slice_get, Option, Some, None, option_map, refl, ap, sym, ◌∙◌, subst, arith}
use Rattle.std.proofs.Math.ListN.{set}
use Rattle.rsx_pipe.proofs.Signals.{some_same}
use Rattle.rsx_graph_state.specs.Feeds.{IsFeedHanded}
use Rattle.rsx_graph_state.specs.Publishing.{AllFeedsHanded}
use Rattle.rsx_graph_state.specs.declared.feed.Feed.{Feed}
use Rattle.rsx_types.specs.declared.signal.Signal.{Signal}
use Rattle.rsx_graph_state.specs.Stands.{feed_of, place_of}
use Rattle.rsx_graph_state.proofs.Named.{other_number}

-- ---- a place, and the feed that stands there

none_before : (o : Option ℕ) → option_map suc o ≡ None → o ≡ None
none_before None e = refl
none_before (Some k) e = cc

one_before : (o : Option ℕ) (at : ℕ) → option_map suc o ≡ Some at → (k : ℕ) × (o ≡ Some k) × (at ≡ suc k)
one_before None at e = cc
one_before (Some k) at e = (k, refl, sym (some_same (suc k) at e))

pub unfed_there : {M : Type 0} (fs : List (Feed M)) (h : ℕ) → place_of fs h ≡ None → feed_of fs h ≡ None
unfed_there [] h e = refl
unfed_there {M} (f ∷ fs) h e = by_test (λ q. unfed_there fs h q) (nat_eq f.hub h) e
  where
    by_test : (place_of fs h ≡ None → feed_of fs h ≡ None) → (b : Bool) → (if b then Some 0 else option_map suc (place_of fs h)) ≡ None → (if b then Some f else feed_of fs h) ≡ None
    by_test rest true e = cc
    by_test rest false e = rest (none_before (place_of fs h) e)

pub no_place : {M : Type 0} (fs : List (Feed M)) (h : ℕ) → feed_of fs h ≡ None → place_of fs h ≡ None
no_place [] h e = refl
no_place {M} (f ∷ fs) h e = by_test (λ q. no_place fs h q) (nat_eq f.hub h) e
  where
    by_test : (feed_of fs h ≡ None → place_of fs h ≡ None) → (b : Bool) → (if b then Some f else feed_of fs h) ≡ None → (if b then Some 0 else option_map suc (place_of fs h)) ≡ None
    by_test rest true e = cc
    by_test rest false e = ap (option_map suc) (rest e)

-- the feed of the hub, at its place
pub record IsPlaced {M : Type 0} (fs : List (Feed M)) (h at : ℕ) : Type 0 where
  pub feed : Feed M
  pub there : slice_get fs at ≡ Some feed
  pub named : feed_of fs h ≡ Some feed
  pub within : at < length fs

pub feed_placed : {M : Type 0} (fs : List (Feed M)) (h at : ℕ) → place_of fs h ≡ Some at → IsPlaced fs h at
feed_placed [] h at e = cc
feed_placed {M} (f ∷ fs) h at e = by_test (λ k q. feed_placed fs h k q) (nat_eq f.hub h) refl e
  where
    by_test : ((k : ℕ) → place_of fs h ≡ Some k → IsPlaced fs h k) → (b : Bool) → nat_eq f.hub h ≡ b → (if b then Some 0 else option_map suc (place_of fs h)) ≡ Some at → IsPlaced (f ∷ fs) h at
    by_test rest true is e =
        let P : ℕ → Type 0 = λ k. IsPlaced (f ∷ fs) h k in
        subst P (some_same 0 at e) (record { feed = f; there = refl; named = ap (λ b. if b then Some f else feed_of fs h) is; within = omega arith })
    by_test rest false is e =
        let k = one_before (place_of fs h) at e in
        let r = rest k.0 k.1 in
        let less = r.within in
        let P : ℕ → Type 0 = λ k. IsPlaced (f ∷ fs) h k in
        subst P (sym k.2) (record { feed = r.feed; there = r.there; named = ap (λ b. if b then Some f else feed_of fs h) is ∙ r.named; within = omega (arith, less) })

pub placed_feed : {M : Type 0} (fs : List (Feed M)) (h at : ℕ) (x : Feed M) → place_of fs h ≡ Some at → slice_get fs at ≡ Some x → feed_of fs h ≡ Some x
placed_feed fs h at x e there =
    let r = feed_placed fs h at e in
    let same = sym r.there ∙ there in
    r.named ∙ same

-- ---- one feed changed, and names its hub still

pub place_set : {M : Type 0} (fs : List (Feed M)) (i : ℕ) (f g : Feed M) (h : ℕ) → slice_get fs i ≡ Some f → g.hub ≡ f.hub → place_of (set fs i g) h ≡ place_of fs h
place_set [] i f g h e same = refl
place_set (x ∷ fs) zero f g h e same = ap (λ n. if nat_eq n h then Some 0 else option_map suc (place_of fs h)) (same ∙ ap (λ y. y.hub) (sym (some_same x f e)))
place_set (x ∷ fs) (suc i) f g h e same = ap (λ o. if nat_eq x.hub h then Some 0 else option_map suc o) (place_set fs i f g h e same)

-- the feed of another hub stays
pub other_feed : {M : Type 0} (fs : List (Feed M)) (i : ℕ) (f g : Feed M) (h : ℕ) → slice_get fs i ≡ Some f → g.hub ≡ f.hub → (f.hub ≡ h → ⊥) → feed_of (set fs i g) h ≡ feed_of fs h
other_feed [] i f g h e same other = refl
other_feed {M} (x ∷ fs) zero f g h e same other =
    let named : x.hub ≡ f.hub = ap (λ y. y.hub) (some_same x f e) in
    let no : nat_eq x.hub h ≡ false = other_number x.hub h (λ q. other (sym named ∙ q)) in
    let none : nat_eq g.hub h ≡ false = other_number g.hub h (λ q. other (sym same ∙ q)) in
    ap (λ b. if b then Some g else feed_of fs h) none ∙ sym (ap (λ b. if b then Some x else feed_of fs h) no)
other_feed (x ∷ fs) (suc i) f g h e same other = ap (λ o. if nat_eq x.hub h then Some x else o) (other_feed fs i f g h e same other)

-- ---- a signal was handed to all feeds

pub place_handed : {M T : Type 0} (mc : Machine M T) (n : ℕ) (s : Signal T) (fs gs : List (Feed M)) (h : ℕ) → AllFeedsHanded mc n s fs gs → place_of gs h ≡ place_of fs h
place_handed mc n s [] [] h all = refl
place_handed mc n s [] (g ∷ gs) h all = absurd all
place_handed mc n s (f ∷ fs) [] h all = absurd all
place_handed mc n s (f ∷ fs) (g ∷ gs) h all =
    ap (λ k. if nat_eq k h then Some 0 else option_map suc (place_of gs h)) all.0.hub
    ∙ ap (λ o. if nat_eq f.hub h then Some 0 else option_map suc o) (place_handed mc n s fs gs h all.1)

pub unfed_handed : {M T : Type 0} (mc : Machine M T) (n : ℕ) (s : Signal T) (fs gs : List (Feed M)) (h : ℕ) → AllFeedsHanded mc n s fs gs → feed_of fs h ≡ None → feed_of gs h ≡ None
unfed_handed mc n s fs gs h all e = unfed_there gs h (place_handed mc n s fs gs h all ∙ no_place fs h e)

-- the feed of a hub, after it was handed the signal
pub record FeedAfter {M T : Type 0} (mc : Machine M T) (n : ℕ) (s : Signal T) (gs : List (Feed M)) (h : ℕ) (f : Feed M) : Type 0 where
  pub feed : Feed M
  pub there : feed_of gs h ≡ Some feed
  pub handed : IsFeedHanded mc n s f feed

pub feed_after : {M T : Type 0} (mc : Machine M T) (n : ℕ) (s : Signal T) (fs gs : List (Feed M)) (h : ℕ) (f : Feed M) → AllFeedsHanded mc n s fs gs → feed_of fs h ≡ Some f → FeedAfter mc n s gs h f
feed_after mc n s [] gs h f all e = cc
feed_after mc n s (x ∷ fs) [] h f all e = absurd all
feed_after {M} {T} mc n s (x ∷ fs) (y ∷ gs) h f all e = by_test (λ q. feed_after mc n s fs gs h f all.1 q) (nat_eq x.hub h) refl e
  where
    by_test : (feed_of fs h ≡ Some f → FeedAfter mc n s gs h f) → (b : Bool) → nat_eq x.hub h ≡ b → (if b then Some x else feed_of fs h) ≡ Some f → FeedAfter mc n s (y ∷ gs) h f
    by_test rest true is e =
        let P : Feed M → Type 0 = λ z. IsFeedHanded mc n s z y in
        record { feed = y; there = ap (λ b. if b then Some y else feed_of gs h) (ap (λ k. nat_eq k h) all.0.hub ∙ is); handed = subst P (some_same x f e) all.0 }
    by_test rest false is e =
        let r = rest e in
        record { feed = r.feed; there = ap (λ b. if b then Some y else feed_of gs h) (ap (λ k. nat_eq k h) all.0.hub ∙ is) ∙ r.there; handed = r.handed }

pub feeds_length : {M T : Type 0} (mc : Machine M T) (n : ℕ) (s : Signal T) (fs gs : List (Feed M)) → AllFeedsHanded mc n s fs gs → length gs ≡ length fs
feeds_length mc n s [] [] all = refl
feeds_length mc n s [] (g ∷ gs) all = absurd all
feeds_length mc n s (f ∷ fs) [] all = absurd all
feeds_length mc n s (f ∷ fs) (g ∷ gs) all = ap suc (feeds_length mc n s fs gs all.1)
