-- The feeds of hubs, found by the numbers of their hubs.
use Rattle.std.proofs.Common.{◌≡◌, ℕ, zero, suc, ◌+◌, ◌≤◌, Bool, true, false, nat_eq, if◌then◌else◌, List, [], ◌∷◌, length, drop, slice_get, Option, Some, None, option_map, refl, ap, sym, ◌∙◌, arith}
use Rattle.std.proofs.lemmas.Bool.Decides.{nat_tests}
use Rattle.rsx_pipe.proofs.Signals.{some_same}
use Rattle.rsx_graph_state.specs.declared.feed.Feed.{Feed}
use Rattle.rsx_graph_state.specs.Stands.{feed_of, place_of}

pub same_number : (n h : ℕ) → nat_eq n h ≡ true → n ≡ h
same_number n h e = grind (arith, nat_tests, e)

pub is_number : (n h : ℕ) → n ≡ h → nat_eq n h ≡ true
is_number n h e = grind (arith, nat_tests, e)

pub other_number : (n h : ℕ) → (n ≡ h → ⊥) → nat_eq n h ≡ false
other_number n h k = by_test (nat_eq n h) refl
  where
    by_test : (b : Bool) → nat_eq n h ≡ b → nat_eq n h ≡ false
    by_test true e = absurd (k (same_number n h e))
    by_test false e = e

pub feed_named : {M : Type 0} (fs : List (Feed M)) (h : ℕ) (f : Feed M) → feed_of fs h ≡ Some f → f.hub ≡ h
feed_named [] h f e = cc
feed_named {M} (g ∷ fs) h f e = by_test (λ q. feed_named fs h f q) (nat_eq g.hub h) refl e
  where
    by_test : (feed_of fs h ≡ Some f → f.hub ≡ h) → (b : Bool) → nat_eq g.hub h ≡ b → (if b then Some g else feed_of fs h) ≡ Some f → f.hub ≡ h
    by_test rest true is e = ap (λ x. x.hub) (sym (some_same g f e)) ∙ same_number g.hub h is
    by_test rest false is e = rest e

-- ---- looking for a feed, one after the other

pub place_here : {M : Type 0} (fs : List (Feed M)) (h at : ℕ) (x : Feed M) → slice_get fs at ≡ Some x → x.hub ≡ h → place_of (drop at fs) h ≡ Some 0
place_here [] h at x e n = cc
place_here (y ∷ fs) h zero x e n = ap (λ b. if b then Some 0 else option_map suc (place_of fs h)) (is_number y.hub h (ap (λ f. f.hub) (some_same y x e) ∙ n))
place_here (y ∷ fs) h (suc at) x e n = place_here fs h at x e n

place_on : {M : Type 0} (fs : List (Feed M)) (h at : ℕ) (x : Feed M) → slice_get fs at ≡ Some x → (x.hub ≡ h → ⊥) → place_of (drop at fs) h ≡ option_map suc (place_of (drop (suc at) fs) h)
place_on [] h at x e n = cc
place_on (y ∷ fs) h zero x e n = ap (λ b. if b then Some 0 else option_map suc (place_of fs h)) (other_number y.hub h (λ q. n (sym (ap (λ f. f.hub) (some_same y x e)) ∙ q)))
place_on (y ∷ fs) h (suc at) x e n = place_on fs h at x e n

-- the place from a feed on, among all
abbrev pub place_from : {M : Type 0} → ℕ → List (Feed M) → ℕ → Option ℕ
place_from at fs h = option_map (λ k. at + k) (place_of (drop at fs) h)

behind_one : (at : ℕ) (o : Option ℕ) → option_map (λ k. at + k) (option_map suc o) ≡ option_map (λ k. suc at + k) o
behind_one at None = refl
behind_one at (Some k) = ap Some (more at k)
  where
    more : (a b : ℕ) → a + suc b ≡ suc a + b
    more a b = omega arith

pub found_here : {M : Type 0} (fs : List (Feed M)) (h at : ℕ) (x : Feed M) → slice_get fs at ≡ Some x → x.hub ≡ h → place_from at fs h ≡ Some at
found_here fs h at x e n = ap (option_map (λ k. at + k)) (place_here fs h at x e n) ∙ ap Some (none_more at)
  where
    none_more : (a : ℕ) → a + 0 ≡ a
    none_more a = omega arith

pub found_on : {M : Type 0} (fs : List (Feed M)) (h at : ℕ) (x : Feed M) → slice_get fs at ≡ Some x → (x.hub ≡ h → ⊥) → place_from at fs h ≡ place_from (at + 1) fs h
found_on fs h at x e n = ap (option_map (λ k. at + k)) (place_on fs h at x e n) ∙ (behind_one at (place_of (drop (suc at) fs) h) ∙ ap (λ k. place_from k fs h) (one_more at))
  where
    one_more : (a : ℕ) → suc a ≡ a + 1
    one_more a = omega arith

pub found_first : {M : Type 0} (fs : List (Feed M)) (h : ℕ) → place_from 0 fs h ≡ place_of fs h
found_first fs h = same (place_of fs h)
  where
    none_first : (k : ℕ) → 0 + k ≡ k
    none_first k = omega arith

    same : (o : Option ℕ) → option_map (λ k. 0 + k) o ≡ o
    same None = refl
    same (Some k) = ap Some (none_first k)

pub found_none : {M : Type 0} (fs : List (Feed M)) (h at : ℕ) → length fs ≤ at → place_from at fs h ≡ None
found_none [] h zero l = refl
found_none [] h (suc at) l = refl
found_none (y ∷ fs) h zero l = absurd (omega (arith, l))
found_none (y ∷ fs) h (suc at) l = ap (option_map (λ k. suc at + k)) (gone fs at (omega (arith, l)))
  where
    gone : {M : Type 0} (fs : List (Feed M)) (at : ℕ) → length fs ≤ at → place_of (drop at fs) h ≡ None
    gone [] zero l = refl
    gone [] (suc at) l = refl
    gone (z ∷ fs) zero l = absurd (omega (arith, l))
    gone (z ∷ fs) (suc at) l = gone fs at (omega (arith, l))
