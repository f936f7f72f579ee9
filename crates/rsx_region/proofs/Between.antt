-- The ends of the halves of a piece as it was cut.
use Rattle.std.proofs.Common.{◌≡◌, ◌⊎◌, inl, inr, ℕ, zero, suc, ◌+◌, ◌<◌, min, arith, List, [], ◌∷◌, ◌++◌, length, map, refl, ap, sym, ◌∙◌, subst, Some, slice_get}
use Rattle.rsx_demand.specs.declared.TheConstants.{UNBOUNDED}
use Rattle.rsx_tree.specs.declared.edge.Edge.{Edge}
use Rattle.rsx_sources.specs.declared.machine.Machine.{Ghosts as Machine}
use Rattle.rsx_rooted.specs.declared.nodes.CrossingNodes.{Ghosts as CrossingNodes}
use Rattle.rsx_types.proofs.Lists.{slice_get_behind}
use Rattle.rsx_link.specs.Ends.{AreEnds, IsUpOf, carried_up, items_sent, seen_total}
use Rattle.rsx_link.specs.Signals.{items_in}
use Rattle.rsx_link.specs.declared.link.Link.{Link}
use Rattle.rsx_link.specs.declared.up.Up.{Up}
use Rattle.rsx_region.specs.Inlet.{IsInletOf}
use Rattle.rsx_region.proofs.Joinings.{items_next}
use Rattle.rsx_region.proofs.EdgePlaces.{same_some}
use Rattle.rsx_region.specs.Joins.{HasNoOther, IsCutFrom, IsJoinedBy}
use Rattle.rsx_region.specs.Pieces.{AreApart, Each, IsAt, IsPieceOf, hub_of, hubs_of}
use Rattle.rsx_region.specs.Halves.{Halves}
use Rattle.rsx_region.specs.declared.piece.Incoming.{Incoming}
use Rattle.rsx_region.specs.declared.piece.Piece.{Piece}
use Rattle.rsx_region.proofs.Opened.{IsBegun, capped, each_more}
use Rattle.rsx_region.proofs.Shares.{map_append}

-- what was there is there still
pub front_there : {A : Type 0} (xs : List A) (y : A) (k : ℕ) (x : A) → slice_get xs k ≡ Some x → slice_get (xs ++ y ∷ []) k ≡ Some x
front_there [] y k x e = cc
front_there (w ∷ xs) y zero x e = e
front_there (w ∷ xs) y (suc k) x e = front_there xs y k x e

-- a link that was there is there still
still_at : {T : Type 0} (links : List (Link T)) (l : Link T) (k : ℕ) (P : Link T → Type 0) → IsAt links k P → IsAt (links ++ l ∷ []) k P
still_at links l k P h = (h.0, front_there links l k h.0 h.1, h.2)

new_at : {T : Type 0} (links : List (Link T)) (l : Link T) (k : ℕ) (P : Link T → Type 0) → k ≡ length links → P l → IsAt (links ++ l ∷ []) k P
new_at links l k P is h = (l, ap (slice_get (links ++ l ∷ [])) is ∙ slice_get_behind links l [], h)

-- one number more, which is none of the others
snoc_cases : (hs : List ℕ) (x j h : ℕ) → slice_get (hs ++ x ∷ []) j ≡ Some h → (slice_get hs j ≡ Some h) ⊎ ((j ≡ length hs) × (h ≡ x))
snoc_cases [] x zero h e = inr (refl, sym (same_some _ _ e))
snoc_cases [] x (suc j) h e = cc
snoc_cases (w ∷ hs) x zero h e = inl e
snoc_cases (w ∷ hs) x (suc j) h e = elim (snoc_cases hs x j h e) [ inl y ↦ inl y | inr y ↦ inr (ap suc y.0, y.1) ]

apart_more : (hs : List ℕ) (x : ℕ) → AreApart hs → ((j h : ℕ) → slice_get hs j ≡ Some h → h ≡ x → ⊥) → AreApart (hs ++ x ∷ [])
apart_more hs x apart none j k h at_j at_k = elim (snoc_cases hs x j h at_j) [
  | inl a ↦ elim (snoc_cases hs x k h at_k) [
    | inl c ↦ apart j k h a c
    | inr c ↦ absurd (none j h a c.1)
  ]
  | inr a ↦ elim (snoc_cases hs x k h at_k) [
    | inl c ↦ absurd (none k h c a.1)
    | inr c ↦ a.0 ∙ sym c.0
  ]
]

map_none : {T : Type 0} (is : List (Incoming T)) (x : ℕ) → Each (λ (i : Incoming T). hub_of i ≡ x → ⊥) is → (j h : ℕ) → slice_get (map hub_of is) j ≡ Some h → h ≡ x → ⊥
map_none [] x all j h at e = cc
map_none (i ∷ is) x all zero h at e = all 0 i refl (same_some _ _ at ∙ e)
map_none (i ∷ is) x all (suc j) h at e = map_none is x (λ k y there. all (suc k) y there) j h at e

pub between : {M T : Type 0} (b : Machine M T) (crossing : CrossingNodes M T) (was : Piece M T) (h : Halves M T) (edge : Edge) (number : ℕ) (link : Link T) (links : List (Link T)) (cut : IsCutFrom b crossing was h) → IsBegun b edge h cut.inlet →
    AreEnds link h.lower.up cut.inlet.inlet.down cut.inlet.inlet.closer → cut.inlet.link ≡ number → h.lower.link ≡ number → number ≡ length links → IsPieceOf links was → IsPieceOf (links ++ link ∷ []) h.upper × IsPieceOf (links ++ link ∷ []) h.lower
between {M} {T} b crossing was h edge number link links cut begun ends comes sends last w =
    let more = links ++ link ∷ [] in
    let I : Incoming T → Type 0 = λ i. IsAt more i.link (λ l. IsInletOf l i.inlet) in
    let U : Up T → Type 0 = λ u. IsAt more was.link (λ l. IsUpOf l u) in
    let N : ℕ → Type 0 = λ j. IsAt more j (λ l. IsUpOf l h.upper.up) in
    let root = ap (λ q. q.root) cut.cut.cut.upper in (
      record {
        sends = subst N (sym cut.link) (subst U (sym cut.up) (still_at links link was.link (λ l. IsUpOf l was.up) w.sends));
        takes = subst (Each I) (sym cut.ins) (each_more I was.inlets.items cut.inlet (λ j i at. still_at links link i.link (λ l. IsInletOf l i.inlet) (w.takes j i at)) (new_at links link cut.inlet.link (λ l. IsInletOf l cut.inlet.inlet) (comes ∙ last) (ends.1, ends.2)));
        apart = subst AreApart (sym (ap (map hub_of) cut.ins ∙ map_append hub_of was.inlets.items (cut.inlet ∷ []))) (apart_more (hubs_of was) (hub_of cut.inlet) w.apart (map_none was.inlets.items (hub_of cut.inlet) cut.apart));
        step = record {
          asked = ap (λ (e : Edge). e.demand.asked) root ∙ (w.step.asked ∙ ap (λ u. min UNBOUNDED (seen_total u)) (sym cut.up));
          sent = ap (λ (e : Edge). e.demand.sent) root ∙ (w.step.sent ∙ ap items_sent (sym cut.up));
        };
      },
      record {
        sends = new_at links link h.lower.link (λ l. IsUpOf l h.lower.up) (sends ∙ last) ends.0;
        takes = subst (Each I) (sym cut.none) (λ j i at. cc);
        apart = subst (λ l. AreApart (map hub_of l)) (sym cut.none) (λ j i x at there. cc);
        step = record {
          asked = begun.asked ∙ (capped edge ∙ ap (min UNBOUNDED) (sym begun.seen));
          sent = sym cut.cut.counted ∙ (ap (λ c. c + length cut.queue) (sym cut.carried) ∙ ap (λ c. carried_up h.lower.up + c) (sym (ap items_in cut.sent ∙ items_next cut.queue)));
        };
      },
    )

-- what is behind a smaller number is there without the last
still_there : {A : Type 0} (xs : List A) (y : A) (k : ℕ) → k < length xs → slice_get (xs ++ y ∷ []) k ≡ slice_get xs k
still_there [] y k less = absurd (let l = less in omega (arith, l))
still_there (w ∷ xs) y zero less = refl
still_there (w ∷ xs) y (suc k) less = still_there xs y k (let l = less in omega (arith, l))

back_at : {T : Type 0} (links : List (Link T)) (l : Link T) (k : ℕ) (P : Link T → Type 0) → k < length links → IsAt (links ++ l ∷ []) k P → IsAt links k P
back_at links l k P less h = (h.0, sym (still_there links l k less) ∙ h.1, h.2)

-- the ends of the joined piece are those of the other links
pub ends_back : {M T : Type 0} (upper p : Piece M T) (link : Link T) (links : List (Link T)) → IsJoinedBy upper p → IsPieceOf (links ++ link ∷ []) upper → HasNoOther (length links) p → IsPieceOf links p
ends_back {M} {T} upper p link links j w none =
    let more = links ++ link ∷ [] in
    let U : Up T → Type 0 = λ u. IsAt more upper.link (λ l. IsUpOf l u) in
    let N : ℕ → Type 0 = λ k. IsAt more k (λ l. IsUpOf l p.up) in
    let hubs : hubs_of upper ≡ hubs_of p ++ hub_of j.last ∷ [] = ap (map hub_of) j.ins ∙ map_append hub_of p.inlets.items (j.last ∷ []) in
    let here : (k h : ℕ) → slice_get (hubs_of p) k ≡ Some h → slice_get (hubs_of upper) k ≡ Some h = λ k h at. ap (λ l. slice_get l k) hubs ∙ front_there (hubs_of p) (hub_of j.last) k h at in
    record {
      sends = back_at links link p.link (λ l. IsUpOf l p.up) none.sends (subst N (sym j.link) (subst U (sym j.up) w.sends));
      takes = λ k i at. back_at links link i.link (λ l. IsInletOf l i.inlet) (none.comes k i at) (w.takes k i (ap (λ l. slice_get l k) j.ins ∙ front_there p.inlets.items j.last k i at));
      apart = λ k n h at_k at_n. w.apart k n h (here k h at_k) (here n h at_n);
      step = record {
        asked = ap (λ (e : Edge). e.demand.asked) j.root ∙ (w.step.asked ∙ ap (λ u. min UNBOUNDED (seen_total u)) (sym j.up));
        sent = ap (λ (e : Edge). e.demand.sent) j.root ∙ (w.step.sent ∙ ap items_sent (sym j.up));
      };
    }
