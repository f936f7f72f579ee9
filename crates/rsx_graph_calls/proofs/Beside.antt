-- What is kept at the places of the feeds goes on being that of the history: by new hubs, by what is published and by moves.
use Rattle.std.proofs.Common.{◌≡◌, ◌⊎◌, inl, inr, ℕ, zero, suc, Bool, true, false, nat_eq, if◌then◌else◌, List, [], ◌∷◌, ◌++◌, length, map, slice_get, Option, Some, None, option_map, refl, ap, sym, ◌∙◌, subst, arith}
use Rattle.rsx_graph_state.proofs.Joins.{got_map}
use Rattle.rsx_graph_state.proofs.Named.{is_number, other_number}
use Rattle.rsx_graph_state.specs.Prelude.{History, HubPast, Source, emitted, fed, place_of, changed, AreFeedJoins}
use Rattle.rsx_graph_state.specs.declared.feed.Feed.{Feed}
use Rattle.rsx_pipe.proofs.Signals.{some_same}
use Rattle.rsx_subscriber.specs.Prelude.{Expr}
use Rattle.rsx_sources.specs.Prelude.{ended_by, HubId, HubKind, Open, Signal}
use Rattle.rsx_graph_calls.specs.Edits.{NameHubs, joins_in, with_fed_hub, with_hub}
use Rattle.rsx_graph_calls.specs.Publishes.{published_at, published_from, with_published}
use Rattle.rsx_graph_calls.specs.Regions.{AllKept, IsKept}
use Rattle.rsx_graph_calls.proofs.Behind.{last_or, still_there}

-- ---- a feed behind the others

one_before : (o : Option ℕ) (at : ℕ) → option_map suc o ≡ Some at → (k : ℕ) × (o ≡ Some k) × (at ≡ suc k)
one_before None at e = cc
one_before (Some k) at e = (k, refl, sym (some_same (suc k) at e))

place_first : {M : Type 0} (fs : List (Feed M)) (f : Feed M) (i at : ℕ) → place_of fs i ≡ Some at → place_of (fs ++ f ∷ []) i ≡ Some at
place_first [] f i at e = cc
place_first {M} (g ∷ fs) f i at e = by_test (λ k q. place_first fs f i k q) (nat_eq g.hub i) e
  where
    by_test : ((k : ℕ) → place_of fs i ≡ Some k → place_of (fs ++ f ∷ []) i ≡ Some k) → (b : Bool) → (if b then Some 0 else option_map suc (place_of fs i)) ≡ Some at → (if b then Some 0 else option_map suc (place_of (fs ++ f ∷ []) i)) ≡ Some at
    by_test rest true q = q
    by_test rest false q = let k = one_before (place_of fs i) at q in ap (option_map suc) (rest k.0 k.1) ∙ ap Some (sym k.2)

place_last : {M : Type 0} (fs : List (Feed M)) (f : Feed M) (n : ℕ) → NameHubs n fs → f.hub ≡ n → place_of (fs ++ f ∷ []) n ≡ Some (length fs)
place_last [] f n k e = ap (λ b. if b then Some 0 else None) (is_number f.hub n e)
place_last (g ∷ fs) f n k e =
    let less = k.0 in
    ap (λ b. if b then Some 0 else option_map suc (place_of (fs ++ f ∷ []) n)) (other_number g.hub n (λ q. absurd (omega (arith, less, q)))) ∙ ap (option_map suc) (place_last fs f n k.1 e)

got_last : {A : Type 0} (xs : List A) (x : A) → slice_get (xs ++ x ∷ []) (length xs) ≡ Some x
got_last [] x = refl
got_last (y ∷ xs) x = got_last xs x

-- a hub that an expression feeds, behind the others, and what is kept of that feed
pub kept_fed : {M T : Type 0} (of : Expr T → List ℕ → List ℕ) (k : HubKind) (e : Expr T) (n : ℕ) (olds feeds : List (Feed M)) (f : Feed M) (kept news : List (List ℕ)) (own : List ℕ) (h : History T) →
    feeds ≡ olds ++ f ∷ [] → f.hub ≡ n → n ≡ length h.hubs → NameHubs n olds → length kept ≡ length olds → news ≡ kept ++ own ∷ [] → own ≡ of e (joins_in h e) →
    AllKept of olds kept h → AllKept of feeds news (with_fed_hub k e h)
kept_fed {M} {T} of k e n olds feeds f kept news own h is named many names beside is_news is_own all = each
  where
    last : HubPast T
    last = record { kind = k; source = fed e (joins_in h e); count = 0 }

    older : (i : ℕ) (src : Source T) → IsKept of olds kept i src → IsKept of feeds news i src
    older i (emitted w) r = tt
    older i (fed x ks) r = (
      r.0,
      ap (λ l. place_of l i) is ∙ place_first olds f i r.0 r.1,
      ap (λ l. slice_get l r.0) is_news ∙ still_there kept own r.0 (of x ks) r.2,
    )

    there : (i : ℕ) → i ≡ length h.hubs → AreFeedJoins feeds news i (of e (joins_in h e))
    there i at = (
      length olds,
      ap (λ l. place_of l i) is ∙ (ap (place_of (olds ++ f ∷ [])) (at ∙ sym many) ∙ place_last olds f n names named),
      ap (λ l. slice_get l (length olds)) is_news ∙ (ap (slice_get (kept ++ own ∷ [])) (sym beside) ∙ (got_last kept own ∙ ap Some is_own)),
    )

    each : (i : ℕ) (p : HubPast T) → slice_get (h.hubs ++ last ∷ []) i ≡ Some p → IsKept of feeds news i p.source
    each i p q =
        let P : HubPast T → Type 0 = λ r. IsKept of feeds news i r.source in
        elim (last_or h.hubs last i p q) [ inl a ↦ older i p.source (all i p a) | inr b ↦ subst P b.1 (there i b.0) ]

-- ---- a hub with an emitter

pub kept_hub : {M T : Type 0} (of : Expr T → List ℕ → List ℕ) (k : HubKind) (feeds : List (Feed M)) (kept : List (List ℕ)) (h : History T) → AllKept of feeds kept h → AllKept of feeds kept (with_hub k h)
kept_hub {M} {T} of k feeds kept h all = each
  where
    last : HubPast T
    last = record { kind = k; source = emitted (ended_by Open); count = 0 }

    each : (i : ℕ) (p : HubPast T) → slice_get (h.hubs ++ last ∷ []) i ≡ Some p → IsKept of feeds kept i p.source
    each i p q =
        let P : HubPast T → Type 0 = λ r. IsKept of feeds kept i r.source in
        elim (last_or h.hubs last i p q) [ inl a ↦ all i p a | inr b ↦ subst P b.1 tt ]

-- ---- what changes no source

-- feeds of the same hubs have the same places
place_same : {M : Type 0} (fs gs : List (Feed M)) (i : ℕ) → map (λ f. f.hub) gs ≡ map (λ f. f.hub) fs → place_of gs i ≡ place_of fs i
place_same [] [] i same = refl
place_same [] (g ∷ gs) i same = cc
place_same (f ∷ fs) [] i same = cc
place_same (f ∷ fs) (g ∷ gs) i same =
    let here : g.hub ≡ f.hub = cc in
    let rest : map (λ x. x.hub) gs ≡ map (λ x. x.hub) fs = cc in
    ap (λ n. if nat_eq n i then Some 0 else option_map suc (place_of gs i)) here ∙ ap (λ o. if nat_eq f.hub i then Some 0 else option_map suc o) (place_same fs gs i rest)

got_source : {T : Type 0} (ps : List (HubPast T)) (i : ℕ) (src : Source T) → slice_get (map (λ p. p.source) ps) i ≡ Some src → (p : HubPast T) × (slice_get ps i ≡ Some p) × (p.source ≡ src)
got_source [] i src e = cc
got_source (p ∷ ps) zero src e = (p, refl, some_same p.source src e)
got_source (p ∷ ps) (suc i) src e = got_source ps i src e

pub kept_same : {M T : Type 0} (of : Expr T → List ℕ → List ℕ) (feeds gs : List (Feed M)) (kept : List (List ℕ)) (h k : History T) → map (λ f. f.hub) gs ≡ map (λ f. f.hub) feeds → map (λ p. p.source) k.hubs ≡ map (λ p. p.source) h.hubs →
    AllKept of feeds kept h → AllKept of gs kept k
kept_same {M} {T} of feeds gs kept h k same sources all = each
  where
    moved : (i : ℕ) (src : Source T) → IsKept of feeds kept i src → IsKept of gs kept i src
    moved i (emitted w) r = tt
    moved i (fed x ks) r = (r.0, place_same feeds gs i same ∙ r.1, r.2)

    each : (i : ℕ) (p : HubPast T) → slice_get k.hubs i ≡ Some p → IsKept of gs kept i p.source
    each i p q =
        let was = got_source h.hubs i p.source (ap (λ l. slice_get l i) (sym sources) ∙ got_map (λ r. r.source) k.hubs i p q) in
        let P : Source T → Type 0 = λ src. IsKept of feeds kept i src in
        moved i p.source (subst P was.2 (all i was.0 was.1))

-- ---- what is published

-- one element changed: what stands there is what stood there, or that changed
got_changed : {A : Type 0} (f : A → A) (xs : List A) (n i : ℕ) (y : A) → slice_get (changed f xs n) i ≡ Some y → (x : A) × (slice_get xs i ≡ Some x) × ((y ≡ x) ⊎ (y ≡ f x))
got_changed f [] n i y e = cc
got_changed f (x ∷ xs) zero zero y e = (x, refl, inr (sym (some_same (f x) y e)))
got_changed f (x ∷ xs) zero (suc i) y e = (y, e, inl refl)
got_changed f (x ∷ xs) (suc n) zero y e = (x, refl, inl (sym (some_same x y e)))
got_changed f (x ∷ xs) (suc n) (suc i) y e = got_changed f xs n i y e

pub kept_published : {M T : Type 0} (of : Expr T → List ℕ → List ℕ) (s : Signal T) (n : HubId) (feeds : List (Feed M)) (kept : List (List ℕ)) (h : History T) → AllKept of feeds kept h → AllKept of feeds kept (with_published s n h)
kept_published {M} {T} of s n feeds kept h all = each
  where
    publishes : (i : ℕ) (src : Source T) → IsKept of feeds kept i src → IsKept of feeds kept i (published_from s src)
    publishes i (emitted w) r = tt
    publishes i (fed x ks) r = r

    each : (i : ℕ) (p : HubPast T) → slice_get (changed (published_at s) h.hubs n.0) i ≡ Some p → IsKept of feeds kept i p.source
    each i p q =
        let was = got_changed (published_at s) h.hubs n.0 i p q in
        let P : HubPast T → Type 0 = λ r. IsKept of feeds kept i r.source in
        elim was.2 [ inl a ↦ subst P (sym a) (all i was.0 was.1) | inr b ↦ subst P (sym b) (publishes i was.0.source (all i was.0 was.1)) ]
