-- Pieces that went on can come back, with the taps of their links.
use Rattle.std.proofs.Common.{◌≡◌, inl, inr, ℕ, suc, ◌+◌, List, [], ◌∷◌, length, refl, ap, sym, ◌∙◌, subst, arith, Some, slice_get}
use Rattle.std.specs.List.{AllZip}
use Rattle.rsx_sources.specs.Prelude.{Meaning}
use Rattle.rsx_sources.specs.declared.machine.Machine.{Ghosts as Machine}
use Rattle.rsx_rooted.specs.declared.nodes.CrossingNodes.{Ghosts as CrossingNodes}
use Rattle.rsx_tree.specs.Runs.{Leads}
use Rattle.rsx_link.specs.Ends.{IsUpOf}
use Rattle.rsx_link.specs.declared.link.Link.{Link}
use Rattle.rsx_region.specs.Pieces.{IsPieceOf, StandsSince, none_taken}
use Rattle.rsx_region.specs.Regions.{ArePiecesOf}
use Rattle.rsx_region.specs.Trees.{EdgeName, IsCutThere, Stage}
use Rattle.rsx_region.specs.declared.piece.Piece.{Piece}
use Rattle.rsx_region.proofs.Between.{front_there}
use Rattle.rsx_runtime.specs.Tapping.{IsTapOf}
use Rattle.rsx_runtime.specs.declared.tap.Tap.{Tap}
use Rattle.rsx_subscriber.specs.declared.subscription.Subscription.{Subscription}
use Rattle.rsx_live_parts.specs.Kept.{AreBack, AreOut, AreTapsFrom, Goes, HasFirst, Returns}
use Rattle.rsx_live_parts.specs.declared.kept.Kept.{Kept}
use Rattle.rsx_live_parts.specs.declared.kept.Kept.TheVariants.{Away}

-- ---- lists

-- these stand in the other list, from the place k on
abbrev pub Ahead : {X : Type 0} → List X → ℕ → List X → Type 0
Ahead {X} all k xs = (j : ℕ) (x : X) → slice_get xs j ≡ Some x → slice_get all (k + j) ≡ Some x

pub head_ahead : {X : Type 0} (all : List X) (k : ℕ) (x : X) (xs zs : List X) → zs ≡ x ∷ xs → Ahead all k zs → slice_get all k ≡ Some x
head_ahead {X} all k x xs zs e h =
    let here : slice_get zs 0 ≡ Some x = ap (λ (l : List X). slice_get l 0) e in
    let same : k ≡ k + 0 = omega arith in
    ap (slice_get all) same ∙ h 0 x here

pub tail_ahead : {X : Type 0} (all : List X) (k : ℕ) (x : X) (xs zs : List X) → zs ≡ x ∷ xs → Ahead all k zs → Ahead all (suc k) xs
tail_ahead {X} all k x xs zs e h j y at =
    let here : slice_get zs (suc j) ≡ Some y = ap (λ (l : List X). slice_get l (suc j)) e ∙ at in
    let same : suc k + j ≡ k + suc j = omega arith in
    ap (slice_get all) same ∙ h (suc j) y here

pub all_ahead : {X : Type 0} (xs : List X) → Ahead xs 0 xs
all_ahead xs j x at = let same : 0 + j ≡ j = omega arith in ap (slice_get xs) same ∙ at

one_there : {X : Type 0} (xs : List X) (i : ℕ) (x y : X) → slice_get xs i ≡ Some x → slice_get xs i ≡ Some y → x ≡ y
one_there xs i x y p q = let e : Some x ≡ Some y = sym p ∙ q in cc

-- what is so of two lists, place by place
pub zip_of : {X : Type 0} (R : X → X → Type 0) (xs ys : List X) → length ys ≡ length xs → ((k : ℕ) (x y : X) → slice_get xs k ≡ Some x → slice_get ys k ≡ Some y → R x y) → AllZip R xs ys
zip_of R [] [] e h = tt
zip_of R [] (y ∷ ys) e h = cc
zip_of R (x ∷ xs) [] e h = cc
zip_of R (x ∷ xs) (y ∷ ys) e h = (h 0 x y refl refl, zip_of R xs ys (let k : length ys ≡ length xs = cc in k) (λ k a c p q. h (suc k) a c p q))

-- ---- links of trees that are cut

module _ {M T : Type 0} (b : Machine M T) (crossing : CrossingNodes M T) (m : Meaning T) (n : ℕ) where
  -- those that were there before stand in front
  pub links_ahead : (whole : Stage M T) (names : List EdgeName) (opening : Stage M T) → Leads (IsCutThere b crossing m (none_taken n)) whole names opening → (j : ℕ) (l : Link T) → slice_get whole.links j ≡ Some l → slice_get opening.links j ≡ Some l
  links_ahead whole [] opening run j l at = ap (λ (s : Stage M T). slice_get s.links j) run ∙ at
  links_ahead whole (name ∷ names) opening run j l at =
      let cut = run.1 in
      let before : slice_get cut.before.links j ≡ Some l = ap (λ ls. slice_get ls j) cut.same.links ∙ at in
      let after : slice_get run.0.links j ≡ Some l = ap (λ ls. slice_get ls j) cut.cut.links ∙ front_there cut.before.links cut.cut.link j l before in
      links_ahead run.0 names opening run.2 j l after

-- ---- all of them

module _ {M T : Type 0} (b : Machine M T) (m : Meaning T) (n : ℕ) (tapped sent : List (Link T)) where
  same_link : (k : ℕ) (link : Link T) (opening piece : Piece M T) → slice_get sent k ≡ Some link → opening.link ≡ k → StandsSince b m (none_taken n) opening piece → IsPieceOf sent piece → IsUpOf link piece.up
  same_link k link opening piece at number since ends =
      let s = ends.sends in
      let there : slice_get sent k ≡ Some s.0 = ap (slice_get sent) (sym (since.links.0 ∙ number)) ∙ s.1 in
      subst (λ (l : Link T). IsUpOf l piece.up) (one_there sent k s.0 link there at) s.2

  -- the others can, where there are such pieces and taps of them
  abbrev Others : (k : ℕ) (s : Subscription M T) (ks : List (Kept M T)) (ps : List (Piece M T)) (ls : List (Link T)) (ts : List (Tap T)) (subs : List (Subscription M T)) → Goes b k s ks ps ls ts → List (Piece M T) → List (Tap T) → Type 0
  Others k s ks ps ls ts subs g now taps = AreOut b (suc k) subs g.others g.pieces g.links g.taps → AllZip (StandsSince b m (none_taken n)) g.pieces now → ArePiecesOf sent now → Ahead tapped (suc k) g.links → Ahead sent (suc k) g.links → AreTapsFrom tapped (suc k) g.others taps → AreBack b m n (suc k) subs g.others now g.links taps

  pub ready : (subs : List (Subscription M T)) (k : ℕ) (ks : List (Kept M T)) (ps : List (Piece M T)) (ls : List (Link T)) (ts : List (Tap T)) (now : List (Piece M T)) (taps : List (Tap T)) →
      AreOut b k subs ks ps ls ts → AllZip (StandsSince b m (none_taken n)) ps now → ArePiecesOf sent now → Ahead tapped k ls → Ahead sent k ls → AreTapsFrom tapped k ks taps → AreBack b m n k subs ks now ls taps
  ready [] k ks ps ls ts now taps out since ends at_taps at_sent are = (out.0, subst (λ (l : List (Kept M T)). AreTapsFrom tapped k l taps) out.0 are)
  ready (s ∷ subs) k ks ps ls ts now taps out since ends at_taps at_sent are = elim out [
    | inl h ↦ (
        let rest : AreTapsFrom tapped k h.0.others taps = subst (λ (l : List (Kept M T)). AreTapsFrom tapped k l taps) h.0.is are in
        inl (h.0, ready subs k h.0.others ps ls ts now taps h.1 since ends at_taps at_sent rest))
    | inr h ↦ inr (goes (λ g ps' taps' o z e t s' a. ready subs (suc k) g.others g.pieces g.links g.taps ps' taps' o z e t s' a) now taps h.0 h.1 (subst (λ (l : List (Piece M T)). AllZip (StandsSince b m (none_taken n)) l now) h.0.piece_first since) ends (subst (λ (l : List (Kept M T)). AreTapsFrom tapped k l taps) h.0.is are))
  ]
    where
      goes : ((g : Goes b k s ks ps ls ts) (ps' : List (Piece M T)) (taps' : List (Tap T)) → Others k s ks ps ls ts subs g ps' taps') → (now : List (Piece M T)) (taps : List (Tap T)) (g : Goes b k s ks ps ls ts) → AreOut b (suc k) subs g.others g.pieces g.links g.taps → AllZip (StandsSince b m (none_taken n)) (g.piece ∷ g.pieces) now → ArePiecesOf sent now → AreTapsFrom tapped k (Away [] s.demand.sent ∷ g.others) taps →
          (r : Returns b m n k s ks now ls taps) × AreBack b m n (suc k) subs r.others r.first.pieces r.first.links r.first.taps
      goes again [] taps g out since ends are = absurd since
      goes again (p ∷ now) [] g out since ends are = absurd are
      goes again (p ∷ now) (t ∷ taps) g out since ends are =
          let at_t = head_ahead tapped k g.link g.links ls g.link_first at_taps in
          let at_s = head_ahead sent k g.link g.links ls g.link_first at_sent in
          let over = are.1 in
          let tap_of : IsTapOf g.link t = subst (λ (l : Link T). IsTapOf l t) (one_there tapped k over.0 g.link over.1 at_t) over.2 in
          let first : HasFirst (p ∷ now) ls (t ∷ taps) = record { pieces = now; links = g.links; taps = taps; piece = p; link = g.link; tap = t; piece_first = refl; link_first = g.link_first; tap_first = refl } in
          let returns : Returns b m n k s ks (p ∷ now) ls (t ∷ taps) = record {
            others = g.others;
            is = g.is;
            first = first;
            opening = g.piece;
            out = g.out;
            over = (tap_of, are.2);
            end = same_link k g.link g.piece p at_s g.out.number since.0 (ends 0 p refl);
            since = since.0;
          } in
          (returns, again g now taps out since.1 (λ i q at. ends (suc i) q at) (tail_ahead tapped k g.link g.links ls g.link_first at_taps) (tail_ahead sent k g.link g.links ls g.link_first at_sent) are.3)
