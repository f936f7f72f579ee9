-- Pieces that were made of the parts of subscriptions can be cut.
use Rattle.std.proofs.Common.{◌≡◌, inl, inr, ℕ, zero, suc, List, [], ◌∷◌, ◌++◌, length, map, refl, ap, sym, ◌∙◌, subst, append_assoc, Some, slice_get}
use Rattle.rsx_types.proofs.Lists.{slice_get_behind}
use Rattle.rsx_sources.specs.Prelude.{Meaning}
use Rattle.rsx_sources.specs.declared.machine.Machine.{Ghosts as Machine}
use Rattle.rsx_tree.specs.declared.edge.EdgeState.TheVariants.{Live}
use Rattle.rsx_pipe.specs.Output.{counts_in}
use Rattle.rsx_pipe.specs.Part.{Part}
use Rattle.rsx_link.specs.Ends.{IsUpOf, received_signals}
use Rattle.rsx_link.specs.declared.link.Link.{Link}
use Rattle.rsx_region.specs.Inlet.{InletStands, IsInletOf}
use Rattle.rsx_region.proofs.Openings.{opens}
use Rattle.rsx_region.specs.Cuts.{HasTakenNothing}
use Rattle.rsx_region.specs.Pieces.{AreApart, Each, IsAt, IsPieceOf, StandsSince, hub_of, taken_of, none_taken, IsBlankAt}
use Rattle.rsx_region.specs.Regions.{ArePiecesOf}
use Rattle.rsx_region.specs.Trees.{IsOpen}
use Rattle.rsx_region.specs.declared.piece.Incoming.{Incoming}
use Rattle.rsx_region.specs.declared.piece.Piece.{Piece}
use Rattle.rsx_runtime.specs.declared.tap.Tap.{Tap}
use Rattle.rsx_subscriber.specs.declared.subscription.Subscription.{Subscription}
use Rattle.rsx_live_parts.specs.Kept.{AreOut}
use Rattle.rsx_live_parts.specs.Outgoing.{IsOutOf, ReadsNothing}
use Rattle.rsx_live_parts.specs.declared.kept.Kept.{Kept}
use Rattle.rsx_live_parts.proofs.Parts.{tree_unread}

-- ---- one piece

each_none : {X : Type 0} (P : X → Type 0) (xs : List X) → xs ≡ [] → Each P xs
each_none {X} P xs e = subst (λ (l : List X). Each P l) (sym e) (λ k x at. cc)

apart_none : {T : Type 0} (xs : List (Incoming T)) → xs ≡ [] → AreApart (map hub_of xs)
apart_none {T} xs e = subst (λ (l : List (Incoming T)). AreApart (map hub_of l)) (sym e) (λ j k h p q. cc)

-- it stands for what it begins with
pub stands_first : {M T : Type 0} (b : Machine M T) (m : Meaning T) (n k : ℕ) (s : Subscription M T) (p : Piece M T) (l : Link T) → IsOutOf b s k p l → StandsSince b m (none_taken n) p p
stands_first {M} {T} b m n k s p l out =
    let live : p.part.root.state ≡ Live = ap (λ (q : Part M). q.root.state) out.part ∙ out.may.counts.live in
    let R : Part M → Type 0 = λ q. ReadsNothing b q.tree in
    let unread : ReadsNothing b p.part.tree = subst R (sym out.part) out.may.nothing in
    record {
      links = (refl, refl);
      carried = refl;
      part = opens b m (taken_of (none_taken n) p) p.part p.up live out.step (tree_unread b (counts_in (taken_of (none_taken n) p)) p.part.tree unread);
      ins = each_none (λ (i : Incoming T). InletStands b (taken_of (none_taken n) p) p.part i.inlet) p.inlets.items out.ins;
      blank = each_none (λ (i : Incoming T). IsBlankAt (none_taken n) (hub_of i)) p.inlets.items out.ins;
    }

pub fresh_first : {M T : Type 0} (b : Machine M T) (k : ℕ) (s : Subscription M T) (p : Piece M T) (l : Link T) → IsOutOf b s k p l → HasTakenNothing p
fresh_first {M} {T} b k s p l out = each_none (λ (i : Incoming T). received_signals i.inlet.down ≡ []) p.inlets.items out.ins

-- its ends are those of the link with its number
ends_first : {M T : Type 0} (b : Machine M T) (k : ℕ) (s : Subscription M T) (p : Piece M T) (l : Link T) (all : List (Link T)) → IsOutOf b s k p l → slice_get all k ≡ Some l → IsPieceOf all p
ends_first {M} {T} b k s p l all out at =
    let N : ℕ → Type 0 = λ i. IsAt all i (λ w. IsUpOf w p.up) in
    record {
      sends = subst N (sym out.number) (l, at, out.end);
      takes = each_none (λ (i : Incoming T). IsAt all i.link (λ w. IsInletOf w i.inlet)) p.inlets.items out.ins;
      apart = apart_none p.inlets.items out.ins;
      step = out.step;
    }

-- ---- all of them

one_longer : {X : Type 0} (pre : List X) (x : X) → length (pre ++ x ∷ []) ≡ suc (length pre)
one_longer [] x = refl
one_longer (p ∷ pre) x = ap suc (one_longer pre x)

each_cons : {X : Type 0} (P : X → Type 0) (x : X) (xs : List X) → P x → Each P xs → Each P (x ∷ xs)
each_cons {X} P x xs h all zero y at = let same : x ≡ y = cc in subst P same h
each_cons P x xs h all (suc k) y at = all k y at

module _ {M T : Type 0} (b : Machine M T) (m : Meaning T) (n : ℕ) where
  record AreFirst (all : List (Link T)) (ps : List (Piece M T)) : Type 0 where
    ends : ArePiecesOf all ps
    fresh : Each HasTakenNothing ps
    stands : Each (λ (p : Piece M T). StandsSince b m (none_taken n) p p) ps

  none_first : (all : List (Link T)) (ps : List (Piece M T)) → ps ≡ [] → AreFirst all ps
  none_first all ps e = record {
    ends = each_none (IsPieceOf all) ps e;
    fresh = each_none HasTakenNothing ps e;
    stands = each_none (λ (p : Piece M T). StandsSince b m (none_taken n) p p) ps e;
  }

  are_first : (subs : List (Subscription M T)) (pre : List (Link T)) (k : ℕ) (ks : List (Kept M T)) (ps : List (Piece M T)) (ls : List (Link T)) (ts : List (Tap T)) → length pre ≡ k → AreOut b k subs ks ps ls ts → AreFirst (pre ++ ls) ps
  are_first [] pre k ks ps ls ts len out = none_first (pre ++ ls) ps out.1
  are_first (s ∷ subs) pre k ks ps ls ts len out = elim out [
    | inl h ↦ are_first subs pre k h.0.others ps ls ts len h.1
    | inr h ↦ (
        let g = h.0 in
        let rest : AreFirst ((pre ++ g.link ∷ []) ++ g.links) g.pieces = are_first subs (pre ++ g.link ∷ []) (suc k) g.others g.pieces g.links g.taps (one_longer pre g.link ∙ ap suc len) h.1 in
        let all : (pre ++ g.link ∷ []) ++ g.links ≡ pre ++ ls = append_assoc pre (g.link ∷ []) g.links ∙ ap (λ l. pre ++ l) (sym g.link_first) in
        let there : slice_get (pre ++ ls) k ≡ Some g.link = ap (λ l. slice_get (pre ++ l) k) g.link_first ∙ (ap (slice_get (pre ++ g.link ∷ g.links)) (sym len) ∙ slice_get_behind pre g.link g.links) in
        let E : List (Link T) → Type 0 = λ l. ArePiecesOf l g.pieces in
        let P : List (Piece M T) → Type 0 = λ l. AreFirst (pre ++ ls) l in
        subst P (sym g.piece_first) (record {
          ends = each_cons (IsPieceOf (pre ++ ls)) g.piece g.pieces (ends_first b k s g.piece g.link (pre ++ ls) g.out there) (subst E all rest.ends);
          fresh = each_cons HasTakenNothing g.piece g.pieces (fresh_first b k s g.piece g.link g.out) rest.fresh;
          stands = each_cons (λ (p : Piece M T). StandsSince b m (none_taken n) p p) g.piece g.pieces (stands_first b m n k s g.piece g.link g.out) rest.stands;
        }))
  ]

  pub out_open : (subs : List (Subscription M T)) (ks : List (Kept M T)) (ps : List (Piece M T)) (ls : List (Link T)) (ts : List (Tap T)) → AreOut b 0 subs ks ps ls ts → IsOpen b m (none_taken n) (record { pieces = ps; links = ls })
  out_open subs ks ps ls ts out =
      let f = are_first subs [] 0 ks ps ls ts refl out in
      record { ends = f.ends; fresh = f.fresh; stands = f.stands }
