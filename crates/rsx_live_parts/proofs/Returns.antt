-- Subscriptions that come back one after the other.
use Rattle.std.proofs.Common.{◌≡◌, inl, inr, ℕ, suc, Bool, List, [], ◌∷◌, length, refl, ap, sym, ◌∙◌, subst, arith}
use Rattle.rsx_sources.specs.Prelude.{Meaning, Signal, Stream}
use Rattle.rsx_sources.specs.declared.machine.Machine.{Ghosts as Machine}
use Rattle.rsx_link.specs.declared.link.Link.{Link}
use Rattle.rsx_region.specs.Pieces.{StandsSince, none_taken}
use Rattle.rsx_region.specs.declared.piece.Piece.{Piece}
use Rattle.rsx_runtime.specs.declared.tap.Tap.{Tap}
use Rattle.rsx_graph_state.specs.Subscriptions.{AllStand}
use Rattle.rsx_subscriber.specs.Past.{Past}
use Rattle.rsx_subscriber.specs.Stands.{Stands}
use Rattle.rsx_subscriber.specs.declared.subscription.Subscription.{Subscription}
use Rattle.rsx_live_parts.specs.Kept.{AreBack, CameBack, CameFirst, CanComeBack, CanComeFirst, HasFirst, WereStopped, all_lived}
use Rattle.rsx_live_parts.specs.Outgoing.{IsOutOf, IsTapFor}
use Rattle.rsx_live_parts.specs.Returning.{StandsFor, WasStopped}
use Rattle.rsx_live_parts.specs.declared.kept.Kept.{Kept}
use Rattle.rsx_live_parts.specs.declared.kept.Kept.TheVariants.{Away, Here}

-- the first of a list that was taken apart twice
firsts : {X : Type 0} (zs xs ys : List X) (x y : X) → zs ≡ x ∷ xs → zs ≡ y ∷ ys → (x ≡ y) × (xs ≡ ys)
firsts zs xs ys x y p q = let e : x ∷ xs ≡ y ∷ ys = sym p ∙ q in (let h : x ≡ y = cc in h, let t : xs ≡ ys = cc in t)

module _ {M T : Type 0} (b : Machine M T) where
  -- ---- what is asked of the first

  first_can : (m : Meaning T) (n k : ℕ) (subs : List (Subscription M T)) (first : Kept M T) (ks : List (Kept M T)) (ps : List (Piece M T)) (ls : List (Link T)) (ts : List (Tap T)) →
      AreBack b m n k subs (first ∷ ks) ps ls ts → CanComeFirst first ps ls ts
  first_can m n k [] first ks ps ls ts h = let e = h.0 in cc
  first_can m n k (s ∷ subs) first ks ps ls ts h = elim h [
    | inl g ↦ (let same : first ≡ Here s = (firsts (first ∷ ks) ks g.0.others first (Here s) refl g.0.is).0 in subst (λ (f : Kept M T). CanComeFirst f ps ls ts) (sym same) tt)
    | inr g ↦ (
        let r = g.0 in
        let same : first ≡ Away [] s.demand.sent = (firsts (first ∷ ks) ks r.others first (Away [] s.demand.sent) refl r.is).0 in
        subst (λ (f : Kept M T). CanComeFirst f ps ls ts) (sym same) (r.first, record { end = r.end; over = r.over.0; small = let c = r.out.small in omega (arith, c); empty = refl }))
  ]

  pub can_first : (all : List (Kept M T)) (first : Kept M T) (ks : List (Kept M T)) (ps : List (Piece M T)) (ls : List (Link T)) (ts : List (Tap T)) → all ≡ first ∷ ks → CanComeBack b all ps ls ts → CanComeFirst first ps ls ts
  can_first all first ks ps ls ts e c =
      let A : List (Kept M T) → Type 0 = λ l. AreBack b c.meaning c.count c.number c.subs l ps ls ts in
      first_can c.meaning c.count c.number c.subs first ks ps ls ts (subst A e c.are)

  -- one that had a piece came back
  pub came_away : (kept : Kept M T) (q : List (Signal T)) (i : ℕ) (ps ps' : List (Piece M T)) (ls ls' : List (Link T)) (ts ts' : List (Tap T)) (p : Piece M T) (l : Link T) (t : Tap T) (stopped : Bool) (sub : Subscription M T) →
      kept ≡ Away q i → ps ≡ p ∷ ps' → ls ≡ l ∷ ls' → ts ≡ t ∷ ts' → WasStopped t stopped →
      ((m : Meaning T) (n k : ℕ) (before : Subscription M T) (opening : Piece M T) (made : Link T) → IsOutOf b before k opening made → IsTapFor before l t → StandsSince b m (none_taken n) opening p → StandsFor b m before t stopped sub) →
      CameFirst b kept ps ls ts ps' ls' ts' sub
  came_away kept q i ps ps' ls ls' ts ts' p l t stopped sub is pe le te was stands =
      let first : HasFirst ps ls ts = record { pieces = ps'; links = ls'; taps = ts'; piece = p; link = l; tap = t; piece_first = pe; link_first = le; tap_first = te } in
      subst (λ (k : Kept M T). CameFirst b k ps ls ts ps' ls' ts' sub) (sym is) (first, record { stopped = stopped; was = was; stands = stands; left = (refl, refl, refl) })

  -- ---- what is left for the others

  -- the lists behind the first, which came back
  record Left (m : Meaning T) (n : ℕ) (subs : List (Subscription M T)) (ks : List (Kept M T)) (ps : List (Piece M T)) (ls : List (Link T)) (ts : List (Tap T)) : Type 0 where
    number : ℕ
    are : AreBack b m n number subs ks ps ls ts

  left_behind : (m : Meaning T) (n k : ℕ) (s : Subscription M T) (subs : List (Subscription M T)) (first : Kept M T) (ks : List (Kept M T)) (ps ps' : List (Piece M T)) (ls ls' : List (Link T)) (ts ts' : List (Tap T)) (sub : Subscription M T) →
      AreBack b m n k (s ∷ subs) (first ∷ ks) ps ls ts → CameFirst b first ps ls ts ps' ls' ts' sub → Left m n subs ks ps' ls' ts'
  left_behind m n k s subs (Here z) ks ps ps' ls ls' ts ts' sub h c = elim h [
    | inl g ↦ (
        let rest = (firsts (Here z ∷ ks) ks g.0.others (Here z) (Here s) refl g.0.is).1 in
        let K : List (Kept M T) → Type 0 = λ l. AreBack b m n k subs l ps ls ts in
        let P : List (Piece M T) → Type 0 = λ l. AreBack b m n k subs ks l ls ts in
        let L : List (Link T) → Type 0 = λ l. AreBack b m n k subs ks ps' l ts in
        let R : List (Tap T) → Type 0 = λ l. AreBack b m n k subs ks ps' ls' l in
        record { number = k; are = subst R (sym c.3) (subst L (sym c.2) (subst P (sym c.1) (subst K (sym rest) g.1))) })
    | inr g ↦ (let same : Here z ≡ Away [] s.demand.sent = (firsts (Here z ∷ ks) ks g.0.others (Here z) (Away [] s.demand.sent) refl g.0.is).0 in cc)
  ]
  left_behind m n k s subs (Away q i) ks ps ps' ls ls' ts ts' sub h c = elim h [
    | inl g ↦ (let same : Away q i ≡ Here s = (firsts (Away q i ∷ ks) ks g.0.others (Away q i) (Here s) refl g.0.is).0 in cc)
    | inr g ↦ (
        let r = g.0 in
        let rest = (firsts (Away q i ∷ ks) ks r.others (Away q i) (Away [] s.demand.sent) refl r.is).1 in
        let f = c.0 in
        let o = c.1.left in
        let p = (firsts ps r.first.pieces f.pieces r.first.piece f.piece r.first.piece_first f.piece_first).1 in
        let l = (firsts ls r.first.links f.links r.first.link f.link r.first.link_first f.link_first).1 in
        let t = (firsts ts r.first.taps f.taps r.first.tap f.tap r.first.tap_first f.tap_first).1 in
        let K : List (Kept M T) → Type 0 = λ x. AreBack b m n (suc k) subs x r.first.pieces r.first.links r.first.taps in
        let P : List (Piece M T) → Type 0 = λ x. AreBack b m n (suc k) subs ks x r.first.links r.first.taps in
        let L : List (Link T) → Type 0 = λ x. AreBack b m n (suc k) subs ks ps' x r.first.taps in
        let R : List (Tap T) → Type 0 = λ x. AreBack b m n (suc k) subs ks ps' ls' x in
        record { number = suc k; are = subst R (t ∙ sym o.2) (subst L (l ∙ sym o.1) (subst P (p ∙ sym o.0) (subst K (sym rest) g.1))) })
  ]

  -- ---- all of them

  -- no one comes back
  pub none_back : (ks : List (Kept M T)) (ps : List (Piece M T)) (ls : List (Link T)) (ts : List (Tap T)) → ks ≡ [] → CanComeBack b ks ps ls ts → CameBack b ks ps ls ts []
  none_back ks ps ls ts e c = record {
    flags = [];
    stopped = none_stopped (no_taps c.subs c.are);
    stands = λ m n k was h published pasts st. none_stands m n k was h published pasts st;
    count = ap length (sym e);
  }
    where
      no_taps : (subs : List (Subscription M T)) → AreBack b c.meaning c.count c.number subs ks ps ls ts → ts ≡ []
      no_taps [] h = h.1
      no_taps (s ∷ subs) h = elim h [
        | inl g ↦ (let k = sym e ∙ g.0.is in cc)
        | inr g ↦ (let k = sym e ∙ g.0.is in cc)
      ]

      none_stopped : ts ≡ [] → WereStopped ts []
      none_stopped n = subst (λ (l : List (Tap T)). WereStopped l []) (sym n) refl

      none_stands : (m : Meaning T) (n k : ℕ) (was : List (Subscription M T)) → AreBack b m n k was ks ps ls ts → (published : List (Stream T)) (pasts : List (Past T)) → AllStand b m published was pasts → AllStand b m published [] (all_lived ks ts [] pasts)
      none_stands m n k [] h published [] st = subst (λ (l : List (Kept M T)). AllStand b m published [] (all_lived l ts [] [])) (sym e) tt
      none_stands m n k [] h published (p ∷ pasts) st = absurd st
      none_stands m n k (s ∷ was) h published pasts st = elim h [
        | inl g ↦ (let z = sym e ∙ g.0.is in cc)
        | inr g ↦ (let z = sym e ∙ g.0.is in cc)
      ]

  abbrev StandBack : List (Kept M T) → List (Piece M T) → List (Link T) → List (Tap T) → List Bool → List (Subscription M T) → Type 0
  StandBack ks ps ls ts flags subs = (m : Meaning T) (n k : ℕ) (was : List (Subscription M T)) → AreBack b m n k was ks ps ls ts → (published : List (Stream T)) (pasts : List (Past T)) → AllStand b m published was pasts → AllStand b m published subs (all_lived ks ts flags pasts)

  here_back : (z : Subscription M T) (ks : List (Kept M T)) (ps ps' : List (Piece M T)) (ls ls' : List (Link T)) (ts ts' : List (Tap T)) (sub : Subscription M T) (subs : List (Subscription M T)) →
      CameFirst b (Here z) ps ls ts ps' ls' ts' sub → CameBack b ks ps' ls' ts' subs → CameBack b (Here z ∷ ks) ps ls ts (sub ∷ subs)
  here_back z ks ps ps' ls ls' ts ts' sub subs c rest = record {
    flags = rest.flags;
    stopped = subst (λ (l : List (Tap T)). WereStopped l rest.flags) c.3 rest.stopped;
    stands = stand;
    count = ap suc rest.count;
  }
    where
      stand : StandBack (Here z ∷ ks) ps ls ts rest.flags (sub ∷ subs)
      stand m n k [] h published pasts st = let e = h.0 in cc
      stand m n k (s ∷ was) h published [] st = absurd st
      stand m n k (s ∷ was) h published (p ∷ pasts) st =
          let left = left_behind m n k s was (Here z) ks ps ps' ls ls' ts ts' sub h c in
          let others = rest.stands m n left.number was left.are published pasts st.1 in
          let same : sub ≡ s = c.0 ∙ same_here h in
          let S : Subscription M T → Type 0 = λ x. Stands b m published x p in
          let A : List (Tap T) → Type 0 = λ l. AllStand b m published subs (all_lived ks l rest.flags pasts) in
          (subst S (sym same) st.0, subst A c.3 others)
        where
          same_here : AreBack b m n k (s ∷ was) (Here z ∷ ks) ps ls ts → z ≡ s
          same_here h = elim h [
            | inl g ↦ (let e = (firsts (Here z ∷ ks) ks g.0.others (Here z) (Here s) refl g.0.is).0 in cc)
            | inr g ↦ (let e = (firsts (Here z ∷ ks) ks g.0.others (Here z) (Away [] s.demand.sent) refl g.0.is).0 in cc)
          ]

  away_back : (q : List (Signal T)) (i : ℕ) (ks : List (Kept M T)) (ps ps' : List (Piece M T)) (ls ls' : List (Link T)) (ts ts' : List (Tap T)) (sub : Subscription M T) (subs : List (Subscription M T)) →
      CameFirst b (Away q i) ps ls ts ps' ls' ts' sub → CameBack b ks ps' ls' ts' subs → CameBack b (Away q i ∷ ks) ps ls ts (sub ∷ subs)
  away_back q i ks ps ps' ls ls' ts ts' sub subs c rest = record {
    flags = c.1.stopped ∷ rest.flags;
    stopped = subst (λ (l : List (Tap T)). WereStopped l (c.1.stopped ∷ rest.flags)) (sym taps_are) (c.1.was, rest.stopped);
    stands = stand;
    count = ap suc rest.count;
  }
    where
      taps_are : ts ≡ c.0.tap ∷ ts'
      taps_are = c.0.tap_first ∙ ap (λ l. c.0.tap ∷ l) (sym c.1.left.2)

      one : (m : Meaning T) (n k : ℕ) (s : Subscription M T) (was : List (Subscription M T)) → AreBack b m n k (s ∷ was) (Away q i ∷ ks) ps ls ts → StandsFor b m s c.0.tap c.1.stopped sub
      one m n k s was h = elim h [
        | inl g ↦ (let e = (firsts (Away q i ∷ ks) ks g.0.others (Away q i) (Here s) refl g.0.is).0 in cc)
        | inr g ↦ (
            let r = g.0 in
            let p = (firsts ps r.first.pieces c.0.pieces r.first.piece c.0.piece r.first.piece_first c.0.piece_first).0 in
            let l = (firsts ls r.first.links c.0.links r.first.link c.0.link r.first.link_first c.0.link_first).0 in
            let t = (firsts ts r.first.taps c.0.taps r.first.tap c.0.tap r.first.tap_first c.0.tap_first).0 in
            let L : Link T → Type 0 = λ x. IsTapFor s x r.first.tap in
            let R : Tap T → Type 0 = λ x. IsTapFor s c.0.link x in
            let P : Piece M T → Type 0 = λ x. StandsSince b m (none_taken n) r.opening x in
            c.1.stands m n k s r.opening r.first.link r.out (subst R t (subst L l r.over)) (subst P p r.since))
      ]

      stand : StandBack (Away q i ∷ ks) ps ls ts (c.1.stopped ∷ rest.flags) (sub ∷ subs)
      stand m n k [] h published pasts st = let e = h.0 in cc
      stand m n k (s ∷ was) h published [] st = absurd st
      stand m n k (s ∷ was) h published (p ∷ pasts) st =
          let left = left_behind m n k s was (Away q i) ks ps ps' ls ls' ts ts' sub h c in
          let others = rest.stands m n left.number was left.are published pasts st.1 in
          let A : List (Tap T) → Type 0 = λ l. AllStand b m published (sub ∷ subs) (all_lived (Away q i ∷ ks) l (c.1.stopped ∷ rest.flags) (p ∷ pasts)) in
          subst A (sym taps_are) (one m n k s was h published p st.0, others)

  pub more_back : (all : List (Kept M T)) (first : Kept M T) (ks : List (Kept M T)) (ps ps' : List (Piece M T)) (ls ls' : List (Link T)) (ts ts' : List (Tap T)) (sub : Subscription M T) (subs : List (Subscription M T)) →
      all ≡ first ∷ ks → CameFirst b first ps ls ts ps' ls' ts' sub → CameBack b ks ps' ls' ts' subs → CameBack b all ps ls ts (sub ∷ subs)
  more_back all first ks ps ps' ls ls' ts ts' sub subs e c rest =
      let A : List (Kept M T) → Type 0 = λ l. CameBack b l ps ls ts (sub ∷ subs) in
      subst A (sym e) (by_first first c)
    where
      by_first : (f : Kept M T) → CameFirst b f ps ls ts ps' ls' ts' sub → CameBack b (f ∷ ks) ps ls ts (sub ∷ subs)
      by_first (Here z) c = here_back z ks ps ps' ls ls' ts ts' sub subs c rest
      by_first (Away q i) c = away_back q i ks ps ps' ls ls' ts ts' sub subs c rest

  -- the others can come back, too
  pub can_others : (all : List (Kept M T)) (first : Kept M T) (ks : List (Kept M T)) (ps ps' : List (Piece M T)) (ls ls' : List (Link T)) (ts ts' : List (Tap T)) (sub : Subscription M T) →
      all ≡ first ∷ ks → CanComeBack b all ps ls ts → CameFirst b first ps ls ts ps' ls' ts' sub → CanComeBack b ks ps' ls' ts'
  can_others all first ks ps ps' ls ls' ts ts' sub e can c =
      let A : List (Kept M T) → Type 0 = λ l. AreBack b can.meaning can.count can.number can.subs l ps ls ts in
      by_subs can.subs (subst A e can.are)
    where
      by_subs : (subs : List (Subscription M T)) → AreBack b can.meaning can.count can.number subs (first ∷ ks) ps ls ts → CanComeBack b ks ps' ls' ts'
      by_subs [] h = let z = h.0 in cc
      by_subs (s ∷ subs) h =
          let left = left_behind can.meaning can.count can.number s subs first ks ps ps' ls ls' ts ts' sub h c in
          record { meaning = can.meaning; count = can.count; number = left.number; subs = subs; are = left.are }
