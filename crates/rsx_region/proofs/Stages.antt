-- Trees that are cut at one edge after the other, and joined again.
use Rattle.std.proofs.Common.{◌≡◌, inl, inr, ℕ, zero, suc, ◌+◌, ◌<◌, ◌≤◌, min, List, [], ◌∷◌, ◌++◌, length, map, refl, ap, sym, ◌∙◌, subst, arith, true, Option, Some, None, Result, Ok, Err, slice_get, slice_set}
use Rattle.std.specs.Prelude.{OnErr}
use Rattle.std.proofs.lemmas.List.{length-set}
use Rattle.std.proofs.lemmas.Option.{slice_get_within}
use Rattle.rsx_demand.specs.declared.TheConstants.{UNBOUNDED}
use Rattle.rsx_sources.specs.Prelude.{Meaning, Reading, Stream}
use Rattle.rsx_sources.specs.declared.machine.Machine.{Ghosts as Machine}
use Rattle.rsx_rooted.specs.declared.nodes.CrossingNodes.{Ghosts as CrossingNodes}
use Rattle.rsx_rooted.specs.Local.{stream_of}
use Rattle.rsx_types.proofs.Lists.{slice_get_behind}
use Rattle.rsx_tree.specs.Runs.{Leads}
use Rattle.rsx_tree.specs.Edges.{is_live}
use Rattle.rsx_tree.specs.Reads.{IsReadAt, IsRowReadAt, IsTreeReadAt}
use Rattle.rsx_tree.specs.declared.edge.EdgeState.{EdgeState}
use Rattle.rsx_tree.specs.declared.edge.EdgeState.TheVariants.{Closed, Ended, Live}
use Rattle.rsx_tree.specs.declared.inputs.Inputs.{Inputs, End, More'}
use Rattle.rsx_tree.specs.declared.node.Node.{Node}
use Rattle.rsx_pipe.specs.Output.{counts_in}
use Rattle.rsx_pipe.specs.Part.{Part}
use Rattle.rsx_link.specs.Ends.{IsUpOf, capacity_of, carried_up, items_sent, received_signals, seen_total, sent_signals}
use Rattle.rsx_link.specs.declared.link.Link.{Link}
use Rattle.rsx_link.specs.declared.up.Up.{Up}
use Rattle.rsx_region.specs.Inlet.{InletStands, IsInletOf}
use Rattle.rsx_region.specs.Piece.{IsInStep, PieceStands}
use Rattle.rsx_region.proofs.Openings.{opens}
use Rattle.rsx_region.proofs.EdgePlaces.{same_some}
use Rattle.rsx_region.specs.Cuts.{AreWhole, HasNumbers, HasTakenNothing, IsWhole, SamePiece}
use Rattle.rsx_region.specs.Halves.{AreHalves}
use Rattle.rsx_region.specs.Joins.{CannotJoin, HasNoOther, IsCutFrom, IsJoinedBy}
use Rattle.rsx_region.specs.Pieces.{AreApart, Each, IsAt, IsBlankAt, IsPieceOf, StandsSince, came_of, hub_of, numbers_of, taken_by, taken_of}
use Rattle.rsx_region.specs.Regions.{ArePiecesOf, RegionStands}
use Rattle.rsx_region.specs.Trees.{AreCutFrom, EdgeName, HaveGoneSince, IsCutThere, IsOneCut, IsOpen, LastCannotJoin, SameStage, Stage, names_of, stage_of}
use Rattle.rsx_region.specs.declared.halves.Below.{Below}
use Rattle.rsx_region.specs.declared.halves.TheConstants.{LINK_PLACES}
use Rattle.rsx_region.specs.declared.piece.Incoming.{Incoming}
use Rattle.rsx_region.specs.declared.piece.Piece.{Piece}
use Rattle.rsx_region.specs.declared.trees.CutEdge.{CutEdge}
use Rattle.rsx_region.specs.declared.trees.CutTrees.{CutTrees}
use Rattle.rsx_region.proofs.Between.{front_there}
use Rattle.rsx_region.proofs.Joins.{snoc_parts}
use Rattle.rsx_region.proofs.Lists.{each_set, each_shown, set_cases, set_same, set_there}
use Rattle.rsx_region.proofs.Opened.{each_more}
use Rattle.rsx_region.proofs.Shares.{map_append}

-- ---- lists

same_lists : {A : Type 0} (xs ys : List A) → map (λ (x : A). x) xs ≡ map (λ (y : A). y) ys → xs ≡ ys
same_lists [] [] e = refl
same_lists [] (y ∷ ys) e = cc
same_lists (x ∷ xs) [] e = cc
same_lists (x ∷ xs) (y ∷ ys) e =
    let first : x ≡ y = cc in
    let rest : map (λ z. z) xs ≡ map (λ z. z) ys = cc in
    ap (λ z. z ∷ xs) first ∙ ap (λ l. y ∷ l) (same_lists xs ys rest)

-- lists with one element behind
pub both_same : {A : Type 0} (xs ys : List A) (x y : A) → xs ++ x ∷ [] ≡ ys ++ y ∷ [] → (xs ≡ ys) × (x ≡ y)
both_same {A} xs ys x y e =
    let parts = snoc_parts (λ (z : A). z) xs ys x y (ap (map (λ (z : A). z)) e) in
    (same_lists xs ys parts.0, parts.1)

pub one_longer : {A : Type 0} (xs : List A) (x : A) → length (xs ++ x ∷ []) ≡ length xs + 1
one_longer [] x = refl
one_longer (y ∷ xs) x = let k = one_longer xs x in omega (arith, k)

-- the last of a list that shows what another list shows
record LastShown {A B : Type 0} (f : A → B) (xs : List A) (ys : List A) (y : A) : Type 0 where
  others : List A
  last : A
  is : xs ≡ others ++ last ∷ []
  shows : map f others ≡ map f ys
  last_shows : f last ≡ f y

last_shown : {A B : Type 0} (f : A → B) (xs ys : List A) (y : A) → map f xs ≡ map f (ys ++ y ∷ []) → LastShown f xs ys y
last_shown f [] [] y e = cc
last_shown f [] (w ∷ ys) y e = cc
last_shown f (x ∷ []) [] y e = let one : f x ≡ f y = cc in record { others = []; last = x; is = refl; shows = refl; last_shows = one }
last_shown f (x ∷ z ∷ xs) [] y e = cc
last_shown f (x ∷ xs) (w ∷ ys) y e =
    let one : f x ≡ f w = cc in
    let rest : map f xs ≡ map f (ys ++ y ∷ []) = cc in
    let r = last_shown f xs ys y rest in
    record { others = x ∷ r.others; last = r.last; is = ap (λ l. x ∷ l) r.is; shows = ap (λ z. z ∷ map f r.others) one ∙ ap (λ l. f w ∷ l) r.shows; last_shows = r.last_shows }

pub there_of : {A : Type 0} (xs : List A) (k : ℕ) → k < length xs → (x : A) × (slice_get xs k ≡ Some x)
there_of [] k less = absurd (let l = less in omega (arith, l))
there_of (x ∷ xs) zero less = (x, refl)
there_of (x ∷ xs) (suc k) less = there_of xs k (let l = less in omega (arith, l))

-- what stands in front of the last one
pub front_of : {A : Type 0} (xs : List A) (y : A) (k : ℕ) → k < length xs → slice_get (xs ++ y ∷ []) k ≡ slice_get xs k
front_of [] y k less = absurd (let l = less in omega (arith, l))
front_of (w ∷ xs) y zero less = refl
front_of (w ∷ xs) y (suc k) less = front_of xs y k (let l = less in omega (arith, l))

pub set_other : {A : Type 0} (xs : List A) (i k : ℕ) (y : A) → (k ≡ i → ⊥) → slice_get (slice_set xs i y) k ≡ slice_get xs k
set_other [] i k y ne = refl
set_other (x ∷ xs) zero zero y ne = absurd (ne refl)
set_other (x ∷ xs) zero (suc k) y ne = refl
set_other (x ∷ xs) (suc i) zero y ne = refl
set_other (x ∷ xs) (suc i) (suc k) y ne = set_other xs i k y (λ e. ne (ap suc e))

-- ---- the same pieces, but for the room of their lists

same_ends : {M T : Type 0} (links : List (Link T)) (old new : Piece M T) → SamePiece old new → IsPieceOf links old → IsPieceOf links new
same_ends {M} {T} links old new s w =
    let U : Up T → Type 0 = λ u. IsAt links old.link (λ l. IsUpOf l u) in
    let N : ℕ → Type 0 = λ k. IsAt links k (λ l. IsUpOf l new.up) in
    let E : List (Incoming T) → Type 0 = λ is. Each (λ (i : Incoming T). IsAt links i.link (λ l. IsInletOf l i.inlet)) is in
    let A : List (Incoming T) → Type 0 = λ is. AreApart (map hub_of is) in
    record {
      sends = subst N (sym s.link) (subst U (sym s.up) w.sends);
      takes = subst E (sym s.inlets) w.takes;
      apart = subst A (sym s.inlets) w.apart;
      step = record {
        asked = ap (λ (p : Part M). p.root.demand.asked) s.part ∙ (w.step.asked ∙ ap (λ u. min UNBOUNDED (seen_total u)) (sym s.up));
        sent = ap (λ (p : Part M). p.root.demand.sent) s.part ∙ (w.step.sent ∙ ap items_sent (sym s.up));
      };
    }

same_fresh : {M T : Type 0} (old new : Piece M T) → SamePiece old new → HasTakenNothing old → HasTakenNothing new
same_fresh {M} {T} old new s h = let E : List (Incoming T) → Type 0 = λ is. Each (λ (i : Incoming T). received_signals i.inlet.down ≡ []) is in subst E (sym s.inlets) h

same_since : {M T : Type 0} (b : Machine M T) (m : Meaning T) (hubs : List (Stream T)) (o o' p p' : Piece M T) → SamePiece o o' → SamePiece p p' → StandsSince b m hubs o p → StandsSince b m hubs o' p'
same_since {M} {T} b m hubs o o' p p' so sp w =
    let taken : taken_of hubs p' ≡ taken_of hubs p = ap (λ l. taken_by stream_of hubs (map came_of l)) sp.inlets in
    let A : List (Stream T) → Type 0 = λ t. PieceStands b m t o.part.tree (sent_signals o.up) p.part p.up in
    let B : Part M → Type 0 = λ q. PieceStands b m (taken_of hubs p') q.tree (sent_signals o.up) p.part p.up in
    let C : Up T → Type 0 = λ u. PieceStands b m (taken_of hubs p') o'.part.tree (sent_signals u) p.part p.up in
    let D : Part M → Type 0 = λ q. PieceStands b m (taken_of hubs p') o'.part.tree (sent_signals o'.up) q p.up in
    let E : Up T → Type 0 = λ u. PieceStands b m (taken_of hubs p') o'.part.tree (sent_signals o'.up) p'.part u in
    let I : List (Stream T) → Type 0 = λ t. Each (λ (i : Incoming T). InletStands b t p.part i.inlet) p.inlets.items in
    let J : Part M → Type 0 = λ q. Each (λ (i : Incoming T). InletStands b (taken_of hubs p') q i.inlet) p.inlets.items in
    let K : List (Incoming T) → Type 0 = λ l. Each (λ (i : Incoming T). InletStands b (taken_of hubs p') p'.part i.inlet) l in
    record {
      links = (sp.link ∙ (w.links.0 ∙ sym so.link), ap (map numbers_of) sp.inlets ∙ (w.links.1 ∙ ap (map numbers_of) (sym so.inlets)));
      carried = ap carried_up sp.up ∙ (w.carried ∙ ap carried_up (sym so.up));
      part = subst E (sym sp.up) (subst D (sym sp.part) (subst C (sym so.up) (subst B (sym so.part) (subst A (sym taken) w.part))));
      ins = subst K (sym sp.inlets) (subst J (sym sp.part) (subst I (sym taken) w.ins));
      blank = subst (Each (λ (i : Incoming T). IsBlankAt hubs (hub_of i))) (sym sp.inlets) w.blank;
    }

self_same : {M T : Type 0} (p : Piece M T) → SamePiece p p
self_same p = record { part = refl; link = refl; up = refl; inlets = refl }

turned : {M T : Type 0} (p q : Piece M T) → SamePiece p q → SamePiece q p
turned p q s = record { part = sym s.part; link = sym s.link; up = sym s.up; inlets = sym s.inlets }

-- what is so of each piece is so of each of the same pieces
each_same : {M T : Type 0} (P : Piece M T → Type 0) (old new : Stage M T) → SameStage old new → ((p q : Piece M T) → SamePiece p q → P p → P q) → Each P old.pieces → Each P new.pieces
each_same P old new s keeps all k q at =
    let n = slice_get_within new.pieces k q at in
    let c = s.count in
    let was = there_of old.pieces k (omega (arith, n, c)) in
    keeps was.0 q (s.each k was.0 q was.1 at) (all k was.0 was.1)

pub same_open : {M T : Type 0} (b : Machine M T) (m : Meaning T) (hubs : List (Stream T)) (old new : Stage M T) → SameStage old new → IsOpen b m hubs old → IsOpen b m hubs new
same_open {M} {T} b m hubs old new s o =
    let L : List (Link T) → Type 0 = λ ls. ArePiecesOf ls new.pieces in
    record {
      ends = subst L (sym s.links) (each_same (IsPieceOf old.links) old new s (same_ends old.links) o.ends);
      fresh = each_same HasTakenNothing old new s same_fresh o.fresh;
      stands = each_same (λ (p : Piece M T). StandsSince b m hubs p p) old new s (λ p q same w. same_since b m hubs p q p q same same w) o.stands;
    }

pub same_again : {M T : Type 0} (a b c : Stage M T) → SameStage a b → SameStage b c → SameStage a c
same_again {M} {T} a b c s t = record {
  links = t.links ∙ s.links;
  count = t.count ∙ s.count;
  each = λ k p r at_p at_r.
      let n = slice_get_within a.pieces k p at_p in
      let l = s.count in
      let q = there_of b.pieces k (omega (arith, n, l)) in
      let one = s.each k p q.0 at_p q.1 in
      let two = t.each k q.0 r q.1 at_r in
      record { part = two.part ∙ one.part; link = two.link ∙ one.link; up = two.up ∙ one.up; inlets = two.inlets ∙ one.inlets };
}

pub self_stage : {M T : Type 0} (s : Stage M T) → SameStage s s
self_stage {M} {T} s = record {
  links = refl;
  count = refl;
  each = λ k p q at_p at_q. subst (λ (r : Piece M T). SamePiece p r) (same_some p q (sym at_p ∙ at_q)) (self_same p);
}

-- what stands for the same pieces stands for these
pub stand_same : {M T : Type 0} (b : Machine M T) (m : Meaning T) (hubs : List (Stream T)) (old new : Stage M T) (now : List (Piece M T)) → SameStage old new → RegionStands b m hubs new.pieces now → RegionStands b m hubs old.pieces now
stand_same b m hubs old new now s w = record {
  count = w.count ∙ s.count;
  each = λ k o p first at.
      let within = slice_get_within old.pieces k o first in
      let c = s.count in
      let mid = there_of new.pieces k (omega (arith, within, c)) in
      same_since b m hubs mid.0 o p p (turned o mid.0 (s.each k o mid.0 first mid.1)) (self_same p) (w.each k mid.0 p mid.1 at);
}

-- ---- a cut

more_links : {M T : Type 0} (links : List (Link T)) (l : Link T) (p : Piece M T) → IsPieceOf links p → IsPieceOf (links ++ l ∷ []) p
more_links {M} {T} links l p w = record {
  sends = (w.sends.0, front_there links l p.link w.sends.0 w.sends.1, w.sends.2);
  takes = λ k i at. let h = w.takes k i at in (h.0, front_there links l i.link h.0 h.1, h.2);
  apart = w.apart;
  step = w.step;
}

each_cut : {A : Type 0} (P : A → Type 0) (xs : List A) (i : ℕ) (u l : A) → P u → P l → Each P xs → Each P (slice_set xs i u ++ l ∷ [])
each_cut P xs i u l up low all = each_more P (slice_set xs i u) l (each_set P xs i u up all) low

pub cut_open : {M T : Type 0} (b : Machine M T) (crossing : CrossingNodes M T) (m : Meaning T) (hubs : List (Stream T)) (above at : ℕ) (old new : Stage M T) (c : IsOneCut b crossing old above at new) →
    IsPieceOf new.links c.upper → IsPieceOf new.links c.lower → HasTakenNothing c.upper → HasTakenNothing c.lower → StandsSince b m hubs c.upper c.upper → StandsSince b m hubs c.lower c.lower → IsOpen b m hubs old → IsOpen b m hubs new
cut_open {M} {T} b crossing m hubs above at old new c up low fresh_up fresh_low stands_up stands_low o =
    let E : List (Piece M T) → Type 0 = λ ps. ArePiecesOf new.links ps in
    let F : List (Piece M T) → Type 0 = λ ps. Each HasTakenNothing ps in
    let S : List (Piece M T) → Type 0 = λ ps. Each (λ (p : Piece M T). StandsSince b m hubs p p) ps in
    let L : List (Link T) → Type 0 = λ ls. ArePiecesOf ls old.pieces in
    let more : ArePiecesOf new.links old.pieces = subst L (sym c.links) (λ k p is. more_links old.links c.link p (o.ends k p is)) in
    record {
      ends = subst E (sym c.pieces) (each_cut (IsPieceOf new.links) old.pieces above c.upper c.lower up low more);
      fresh = subst F (sym c.pieces) (each_cut HasTakenNothing old.pieces above c.upper c.lower fresh_up fresh_low o.fresh);
      stands = subst S (sym c.pieces) (each_cut (λ (p : Piece M T). StandsSince b m hubs p p) old.pieces above c.upper c.lower stands_up stands_low o.stands);
    }

-- one step behind the others
leads_more : {S L : Type 0} (step : S → L → S → Type 0) (a b c : S) (ls : List L) (l : L) → Leads step a ls b → step b l c → Leads step a (ls ++ l ∷ []) c
leads_more {S} step a b c [] l run one = let P : S → Type 0 = λ s. step s l c in (c, subst P run one, refl)
leads_more step a b c (k ∷ ls) l run one = (run.0, run.1, leads_more step run.0 b c ls l run.2 one)

-- the last step
leads_last : {S L : Type 0} (step : S → L → S → Type 0) (a c : S) (ls : List L) (l : L) → Leads step a (ls ++ l ∷ []) c → (b : S) × Leads step a ls b × step b l c
leads_last {S} step a c [] l run = let P : S → Type 0 = λ s. step a l s in (a, refl, subst P (sym run.2) run.1)
leads_last step a c (k ∷ ls) l run = let r = leads_last step run.0 c ls l run.2 in (r.0, (run.0, run.1, r.1), r.2)

-- the number of the link
pub comes_so : {M T : Type 0} (b : Machine M T) (crossing : CrossingNodes M T) (was upper : Piece M T) (below : Below M T) (at number hub count : ℕ) (c : IsCutFrom b crossing was (record { upper = upper; lower = below.piece; at = at })) → HasNumbers at number hub upper below → number ≡ count → c.inlet.link ≡ count
comes_so b crossing was upper below at number hub count c numbers is =
    let last = both_same numbers.others was.inlets.items numbers.last c.inlet (sym numbers.ins ∙ c.ins) in
    ap (λ (i : Incoming _). i.link) (sym last.1) ∙ (numbers.comes ∙ is)

pub cut_from : {M T : Type 0} (b : Machine M T) (crossing : CrossingNodes M T) (m : Meaning T) (hubs : List (Stream T)) (above at number : ℕ) (whole : Stage M T) (old new : CutTrees M T) (c : IsOneCut b crossing (stage_of old) above at (stage_of new)) → names_of new.edges.items ≡ names_of old.edges.items ++ record { above = above; at = at } ∷ [] →
    number ≡ length old.links.items → ((links : List (Link T)) → number ≡ length links → IsPieceOf links c.was → IsPieceOf (links ++ c.link ∷ []) c.upper × IsPieceOf (links ++ c.link ∷ []) c.lower) →
    (HasTakenNothing c.was → HasTakenNothing c.upper × HasTakenNothing c.lower) → (HasTakenNothing c.was → StandsSince b m hubs c.was c.was → StandsSince b m hubs c.upper c.upper × StandsSince b m hubs c.lower c.lower) →
    AreCutFrom b crossing m hubs whole old → AreCutFrom b crossing m hubs whole new
cut_from {M} {T} b crossing m hubs above at number whole old new c named last ends fresh stands w =
    let step = IsCutThere b crossing m hubs in
    let R : List EdgeName → Type 0 = λ es. Leads step whole es (stage_of new) in
    let L : List (Link T) → Type 0 = λ ls. IsPieceOf ls c.upper × IsPieceOf ls c.lower in
    let nothing = w.opens.fresh above c.was c.there in
    let both_ends = subst L (sym c.links) (ends old.links.items last (w.opens.ends above c.was c.there)) in
    let both_fresh = fresh nothing in
    let both_stand = stands nothing (w.opens.stands above c.was c.there) in
    record {
      last = stage_of new;
      run = subst R (sym named) (leads_more step whole w.last (stage_of new) (names_of old.edges.items) (record { above = above; at = at }) w.run (record { before = stage_of old; same = w.same; opens = w.opens; cut = c }));
      same = self_stage (stage_of new);
      opens = cut_open b crossing m hubs above at (stage_of old) (stage_of new) c both_ends.0 both_ends.1 both_fresh.0 both_fresh.1 both_stand.0 both_stand.1 w.opens;
    }

-- the lists of the pieces have other room at most
pub stage_same : {M T : Type 0} (old new : Stage M T) → new.pieces ≡ old.pieces → new.links ≡ old.links → SameStage old new
stage_same {M} {T} old new pieces links = record {
  links = links;
  count = ap length pieces;
  each = λ k p q at_p at_q. subst (λ (r : Piece M T). SamePiece p r) (same_some p q (sym at_p ∙ (sym (ap (λ l. slice_get l k) pieces) ∙ at_q))) (self_same p);
}

pub stage_one : {M T : Type 0} (old new : Stage M T) (above : ℕ) (was is : Piece M T) → slice_get old.pieces above ≡ Some was → SamePiece was is → new.pieces ≡ slice_set old.pieces above is → new.links ≡ old.links → SameStage old new
stage_one {M} {T} old new above was is there same pieces links = record {
  links = links;
  count = ap length pieces ∙ length-set old.pieces above is;
  each = λ k p q at_p at_q. elim (set_cases old.pieces above k is q (sym (ap (λ l. slice_get l k) pieces) ∙ at_q)) [
    | inl s ↦
        let first : was ≡ p = same_some was p (sym there ∙ (ap (slice_get old.pieces) (sym s.0) ∙ at_p)) in
        subst (λ (r : Piece M T). SamePiece p r) (sym s.1) (subst (λ (r : Piece M T). SamePiece r is) first same)
    | inr s ↦ subst (λ (r : Piece M T). SamePiece p r) (same_some p q (sym at_p ∙ s.1)) (self_same p)
  ];
}

pub still_from : {M T : Type 0} (b : Machine M T) (crossing : CrossingNodes M T) (m : Meaning T) (hubs : List (Stream T)) (whole : Stage M T) (old new : CutTrees M T) → SameStage (stage_of old) (stage_of new) → names_of new.edges.items ≡ names_of old.edges.items → AreCutFrom b crossing m hubs whole old → AreCutFrom b crossing m hubs whole new
still_from {M} {T} b crossing m hubs whole old new s edges w =
    let R : List EdgeName → Type 0 = λ es. Leads (IsCutThere b crossing m hubs) whole es w.last in
    record { last = w.last; run = subst R (sym edges) w.run; same = same_again w.last (stage_of old) (stage_of new) w.same s; opens = same_open b m hubs (stage_of old) (stage_of new) s w.opens }

-- ---- what is known of the last edge

pub record LastOf {M T : Type 0} (b : Machine M T) (crossing : CrossingNodes M T) (m : Meaning T) (hubs : List (Stream T)) (whole opening : Stage M T) (edges : List EdgeName) (edge : EdgeName) : Type 0 where
  pub first : Stage M T
  pub run : Leads (IsCutThere b crossing m hubs) whole edges first
  pub there : IsCutThere b crossing m hubs first edge opening

module _ {M T : Type 0} (b : Machine M T) (crossing : CrossingNodes M T) (m : Meaning T) (first hubs : List (Stream T)) (whole opening : Stage M T) (t : CutTrees M T) (edges : List EdgeName) (edge : EdgeName) (pieces : List (Piece M T)) (lower : Piece M T) (links : List (Link T)) (link : Link T)
    (edges_are : names_of t.edges.items ≡ edges ++ edge ∷ []) (pieces_are : t.pieces.items ≡ pieces ++ lower ∷ []) (links_are : t.links.items ≡ links ++ link ∷ []) (since : HaveGoneSince b crossing m first hubs whole opening t) where
  pub last : LastOf b crossing m first whole opening edges edge
  last =
      let R : List EdgeName → Type 0 = λ es. Leads (IsCutThere b crossing m first) whole es opening in
      let r = leads_last (IsCutThere b crossing m first) whole opening edges edge (subst R edges_are since.run) in
      record { first = r.0; run = r.1; there = r.2 }

  abbrev pub before : Stage M T
  before = last.there.before

  pub cut : IsOneCut b crossing before edge.above edge.at opening
  cut = last.there.cut

  abbrev was : Piece M T
  was = cut.was

  links_same : (links ≡ before.links) × (link ≡ cut.link)
  links_same = both_same links before.links link cut.link (sym links_are ∙ (since.links ∙ cut.links))

  -- as many pieces as there were
  size : length pieces ≡ length before.pieces
  size =
      let a = one_longer pieces lower in
      let c = one_longer (slice_set before.pieces edge.above cut.upper) cut.lower in
      let d = length-set before.pieces edge.above cut.upper in
      let e = ap length pieces_are in
      let f = ap length cut.pieces in
      let g = since.stands.count in
      omega (arith, a, c, d, e, f, g)

  above_there : edge.above < length before.pieces
  above_there = slice_get_within before.pieces edge.above was cut.there

  pub above_less : edge.above < length pieces
  above_less = let a = above_there in let s = size in omega (arith, a, s)

  lower_at : slice_get opening.pieces (length pieces) ≡ Some cut.lower
  lower_at =
      ap (λ l. slice_get l (length pieces)) cut.pieces
      ∙ (ap (slice_get (slice_set before.pieces edge.above cut.upper ++ cut.lower ∷ [])) (size ∙ sym (length-set before.pieces edge.above cut.upper))
      ∙ slice_get_behind (slice_set before.pieces edge.above cut.upper) cut.lower [])

  lower_here : slice_get t.pieces.items (length pieces) ≡ Some lower
  lower_here = ap (λ l. slice_get l (length pieces)) pieces_are ∙ slice_get_behind pieces lower []

  lower_since : StandsSince b m hubs cut.lower lower
  lower_since = since.stands.each (length pieces) cut.lower lower lower_at lower_here

  opening_at : (k : ℕ) → k < length pieces → slice_get opening.pieces k ≡ slice_get (slice_set before.pieces edge.above cut.upper) k
  opening_at k less =
      ap (λ l. slice_get l k) cut.pieces
      ∙ front_of (slice_set before.pieces edge.above cut.upper) cut.lower k (let d = length-set before.pieces edge.above cut.upper in let s = size in omega (arith, less, d, s))

  here : (k : ℕ) (p : Piece M T) → slice_get pieces k ≡ Some p → slice_get t.pieces.items k ≡ Some p
  here k p at = ap (λ l. slice_get l k) pieces_are ∙ front_there pieces lower k p at

  module _ (upper : Piece M T) (upper_at : slice_get pieces edge.above ≡ Some upper) where
    upper_since : StandsSince b m hubs cut.upper upper
    upper_since = since.stands.each edge.above cut.upper upper (opening_at edge.above above_less ∙ set_there before.pieces edge.above was cut.upper cut.there) (here edge.above upper upper_at)

    shown : LastShown numbers_of upper.inlets.items was.inlets.items cut.cut.inlet
    shown = last_shown numbers_of upper.inlets.items was.inlets.items cut.cut.inlet (upper_since.links.1 ∙ ap (map numbers_of) cut.cut.ins)

    upper_ends : IsPieceOf t.links.items upper
    upper_ends = since.ends edge.above upper (here edge.above upper upper_at)

    lower_ends : IsPieceOf t.links.items lower
    lower_ends = since.ends (length pieces) lower lower_here

    -- the link between both halves
    between_at : (k : ℕ) → k ≡ length before.links → slice_get t.links.items k ≡ Some link
    between_at k is =
        ap (slice_get t.links.items) (is ∙ sym (ap length links_same.0))
        ∙ (ap (λ l. slice_get l (length links)) links_are ∙ slice_get_behind links link [])

    last_number : shown.last.link ≡ length before.links
    last_number = ap (λ (x : ℕ × ℕ × ℕ). x.0) shown.last_shows ∙ cut.comes

    pub are_halves : (below : Below M T) → below.piece ≡ lower → below.link ≡ link → below.queue ≡ [] → AreHalves upper below
    are_halves below piece_is link_is empty =
        let comes = upper_ends.takes (length shown.others) shown.last (ap (λ l. slice_get l (length shown.others)) shown.is ∙ slice_get_behind shown.others shown.last []) in
        let into = subst (λ (l : Link T). IsInletOf l shown.last.inlet) (same_some comes.0 link (sym comes.1 ∙ between_at shown.last.link last_number)) comes.2 in
        let sends = lower_ends.sends in
        let from = subst (λ (l : Link T). IsUpOf l lower.up) (same_some sends.0 link (sym sends.1 ∙ between_at lower.link (lower_since.links.0 ∙ cut.sends))) sends.2 in
        let U : Piece M T → Type 0 = λ p. IsUpOf link p.up in
        let L : Link T → Type 0 = λ l. IsUpOf l below.piece.up in
        let I : Link T → Type 0 = λ l. IsInletOf l shown.last.inlet in
        let F : Link T → Type 0 = λ l. capacity_of l ≤ LINK_PLACES in
        let end = subst I (sym link_is) into in
        record {
          others = shown.others;
          last = shown.last;
          ins = shown.is;
          ends = (subst L (sym link_is) (subst U (sym piece_is) from), end.0, end.1);
          small = subst F (sym (link_is ∙ links_same.1)) cut.small;
          empty = empty;
        }

    was_stands : StandsSince b m first was was
    was_stands = last.there.opens.stands edge.above was cut.there

    was_ends : IsPieceOf before.links was
    was_ends = last.there.opens.ends edge.above was cut.there

    in_links : (k : ℕ) (P : Link T → Type 0) → IsAt before.links k P → k < length links
    in_links k P h = let a = slice_get_within before.links k h.0 h.1 in let s = ap length links_same.0 in omega (arith, a, s)

    -- links of pieces that show the numbers of those there were
    known : (i : Piece M T) (q : Piece M T) → q.link ≡ i.link → map numbers_of q.inlets.items ≡ map numbers_of i.inlets.items → IsPieceOf before.links i → HasNoOther (length links) q
    known i q same shows ends =
        let less = in_links i.link (λ l. IsUpOf l i.up) ends.sends in
        record {
          sends = (let s = same in omega (arith, s, less));
          comes = each_shown numbers_of (λ (x : Incoming T). x.link < length links) i.inlets.items q.inlets.items shows (λ x y e w. let s = ap (λ (z : ℕ × ℕ × ℕ). z.0) e in omega (arith, s, w)) (λ k x at. in_links x.link (λ l. IsInletOf l x.inlet) (ends.takes k x at));
        }

    module _ (whole_piece : Piece M T) (by : IsJoinedBy upper whole_piece) where
      joined_known : HasNoOther (length links) whole_piece
      joined_known =
          let rest = both_same whole_piece.inlets.items shown.others by.last shown.last (sym by.ins ∙ shown.is) in
          known was whole_piece (by.link ∙ (upper_since.links.0 ∙ cut.cut.link)) (ap (map numbers_of) rest.0 ∙ shown.shows) was_ends

      -- a piece that was left alone
      other_was : (k : ℕ) (p : Piece M T) → (k ≡ edge.above → ⊥) → slice_get pieces k ≡ Some p → (o : Piece M T) × (slice_get before.pieces k ≡ Some o) × StandsSince b m hubs o p
      other_was k p ne at =
          let less = slice_get_within pieces k p at in
          let o = there_of before.pieces k (let s = size in omega (arith, less, s)) in
          (o.0, o.1, since.stands.each k o.0 p (opening_at k less ∙ (set_other before.pieces edge.above k cut.upper ne ∙ o.1)) (here k p at))

      back : (p : Piece M T) → IsPieceOf t.links.items p → HasNoOther (length links) p → IsPieceOf links p
      back p ends none =
          let at : (k : ℕ) (P : Link T → Type 0) → k < length links → IsAt t.links.items k P → IsAt links k P = λ k P less h. (h.0, sym (ap (λ l. slice_get l k) links_are ∙ front_of links link k less) ∙ h.1, h.2) in
          record {
            sends = at p.link (λ l. IsUpOf l p.up) none.sends ends.sends;
            takes = λ k i is. at i.link (λ l. IsInletOf l i.inlet) (none.comes k i is) (ends.takes k i is);
            apart = ends.apart;
            step = ends.step;
          }

      pub joined_since : (new : CutTrees M T) → new.pieces.items ≡ slice_set pieces edge.above whole_piece → new.links.items ≡ links → names_of new.edges.items ≡ edges →
          ((ls : List (Link T)) → IsPieceOf (ls ++ link ∷ []) upper → HasNoOther (length ls) whole_piece → IsPieceOf ls whole_piece) →
          ((was : Piece M T) (h : IsCutFrom b crossing was (record { upper = cut.upper; lower = cut.lower; at = edge.at })) → StandsSince b m hubs cut.upper upper → StandsSince b m hubs cut.lower lower → StandsSince b m first was was → StandsSince b m hubs was whole_piece) →
          (start : Stage M T) × HaveGoneSince b crossing m first hubs whole start new
      joined_since new new_pieces new_links new_edges ends stands =
          let start = last.first in
          let same = last.there.same in
          let E : List EdgeName → Type 0 = λ es. Leads (IsCutThere b crossing m first) whole es start in
          let P : List (Piece M T) → Type 0 = λ ps. ArePiecesOf links ps in
          let L : List (Link T) → Type 0 = λ ls. ArePiecesOf ls new.pieces.items in
          let U : List (Link T) → Type 0 = λ ls. IsPieceOf ls upper in
          let whole_ends = ends links (subst U links_are upper_ends) joined_known in
          let whole_stands = stands was cut.cut upper_since lower_since was_stands in (
            start,
            record {
              run = subst E (sym new_edges) last.run;
              links = new_links ∙ (links_same.0 ∙ same.links);
              ends = subst L (sym new_links) (subst P (sym new_pieces) (λ k p at. elim (set_cases pieces edge.above k whole_piece p at) [
                | inl s ↦ subst (IsPieceOf links) (sym s.1) whole_ends
                | inr s ↦
                    let o = other_was k p s.0 s.1 in
                    back p (since.ends k p (here k p s.1)) (known o.0 p o.2.links.0 o.2.links.1 (last.there.opens.ends k o.0 o.1))
              ]));
              stands = record {
                count = ap length new_pieces ∙ (length-set pieces edge.above whole_piece ∙ (size ∙ same.count));
                each = λ k o p first_at now_at.
                    let now_here = sym (ap (λ l. slice_get l k) new_pieces) ∙ now_at in
                    let within = slice_get_within start.pieces k o first_at in
                    let c = same.count in
                    let mid = there_of before.pieces k (omega (arith, within, c)) in
                    let one = turned o mid.0 (same.each k o mid.0 first_at mid.1) in
                    elim (set_cases pieces edge.above k whole_piece p now_here) [
                      | inl s ↦
                          let mid_is : was ≡ mid.0 = same_some was mid.0 (sym cut.there ∙ (ap (slice_get before.pieces) (sym s.0) ∙ mid.1)) in
                          same_since b m hubs mid.0 o whole_piece p one (subst (λ (q : Piece M T). SamePiece whole_piece q) (sym s.1) (self_same whole_piece)) (subst (λ (q : Piece M T). StandsSince b m hubs q whole_piece) mid_is whole_stands)
                      | inr s ↦
                          let x = other_was k p s.0 s.1 in
                          same_since b m hubs mid.0 o p p one (self_same p) (subst (λ (q : Piece M T). StandsSince b m hubs q p) (same_some x.0 mid.0 (sym x.1 ∙ mid.1)) x.2)
                    ];
              };
            },
          )

-- where an edge was cut, there are a piece and a link behind the others
pub some_there : {M T : Type 0} (b : Machine M T) (crossing : CrossingNodes M T) (m : Meaning T) (first hubs : List (Stream T)) (whole opening : Stage M T) (t : CutTrees M T) (edges : List EdgeName) (edge : EdgeName) → names_of t.edges.items ≡ edges ++ edge ∷ [] → HaveGoneSince b crossing m first hubs whole opening t → (0 < length t.pieces.items) × (0 < length t.links.items)
some_there {M} {T} b crossing m first hubs whole opening t edges edge are since =
    let R : List EdgeName → Type 0 = λ es. Leads (IsCutThere b crossing m first) whole es opening in
    let c = (leads_last (IsCutThere b crossing m first) whole opening edges edge (subst R are since.run)).2.cut in
    let before = (leads_last (IsCutThere b crossing m first) whole opening edges edge (subst R are since.run)).2.before in
    let one = one_longer (slice_set before.pieces edge.above c.upper) c.lower in
    let two = one_longer before.links c.link in
    let p = ap length c.pieces in
    let k = since.stands.count in
    let q = ap length c.links in
    let l = ap length since.links in
    (omega (arith, one, p, k), omega (arith, two, q, l))

-- the names with that of the last edge
pub names_last : {T : Type 0} (all rest : List (CutEdge T)) (e : CutEdge T) → all ≡ rest ++ e ∷ [] → names_of all ≡ names_of rest ++ record { above = e.above; at = e.at } ∷ []
names_last all rest e is = ap names_of is ∙ map_append (λ (x : CutEdge _). let n : EdgeName = record { above = x.above; at = x.at } in n) rest (e ∷ [])

pub on_err : {A E : Type 0} (r : Result A E) (P : Type 0) → P → OnErr r P
on_err (Ok x) P p = tt
on_err (Err e) P p = p

-- what was taken out and put back
pub put_again : {M T : Type 0} (t new : CutTrees M T) (pieces : List (Piece M T)) (piece upper joined : Piece M T) (links : List (Link T)) (link : Link T) (edges : List EdgeName) (edge : EdgeName) (above : ℕ) (below : Below M T) → t.pieces.items ≡ pieces ++ piece ∷ [] → t.links.items ≡ links ++ link ∷ [] → names_of t.edges.items ≡ edges ++ edge ∷ [] →
    slice_get pieces above ≡ Some upper → joined ≡ upper → below.piece ≡ piece → below.link ≡ link → new.pieces.items ≡ slice_set pieces above joined ++ below.piece ∷ [] → new.links.items ≡ links ++ below.link ∷ [] → names_of new.edges.items ≡ edges ++ edge ∷ [] → (stage_of new ≡ stage_of t) × (names_of new.edges.items ≡ names_of t.edges.items)
put_again {M} {T} t new pieces piece upper joined links link edges edge above below pieces_are links_are edges_are there same piece_is link_is new_pieces new_links new_edges =
    let p : new.pieces.items ≡ t.pieces.items = new_pieces ∙ (ap (λ l. l ++ below.piece ∷ []) (ap (slice_set pieces above) same ∙ set_same pieces above upper there) ∙ (ap (λ x. pieces ++ x ∷ []) piece_is ∙ sym pieces_are)) in
    let l : new.links.items ≡ t.links.items = new_links ∙ (ap (λ x. links ++ x ∷ []) link_is ∙ sym links_are) in
    (ap (λ x. let s : Stage M T = record { pieces = x; links = new.links.items } in s) p ∙ ap (λ x. let s : Stage M T = record { pieces = t.pieces.items; links = x } in s) l, new_edges ∙ sym edges_are)

-- ---- a join at the last edge that is refused

pub last_cannot : {M T : Type 0} (b : Machine M T) (crossing : CrossingNodes M T) (t : CutTrees M T) (edges : List EdgeName) (edge : EdgeName) (pieces : List (Piece M T)) (upper lower : Piece M T) → names_of t.edges.items ≡ edges ++ edge ∷ [] → t.pieces.items ≡ pieces ++ lower ∷ [] → slice_get pieces edge.above ≡ Some upper →
    CannotJoin b crossing upper.part edge.at upper.inlets.items lower.part → LastCannotJoin b crossing t
last_cannot {M} {T} b crossing t edges edge pieces upper lower named are there cannot es e ps u l named' are' there' =
    let edge_is = (both_same edges es edge e (sym named ∙ named')).1 in
    let rest = both_same pieces ps lower l (sym are ∙ are') in
    let upper_is : upper ≡ u = same_some upper u (sym there ∙ (ap (λ x. slice_get x edge.above) rest.0 ∙ (ap (λ (x : EdgeName). slice_get ps x.above) edge_is ∙ there'))) in
    let U : Piece M T → Type 0 = λ x. CannotJoin b crossing x.part edge.at x.inlets.items lower.part in
    let E : EdgeName → Type 0 = λ x. CannotJoin b crossing u.part x.at u.inlets.items lower.part in
    let L : Piece M T → Type 0 = λ x. CannotJoin b crossing u.part e.at u.inlets.items x.part in
    subst L rest.1 (subst E edge_is (subst U upper_is cannot))

pub last_still : {M T : Type 0} (b : Machine M T) (crossing : CrossingNodes M T) (old new : CutTrees M T) → stage_of new ≡ stage_of old → names_of new.edges.items ≡ names_of old.edges.items → LastCannotJoin b crossing old → LastCannotJoin b crossing new
last_still {M} {T} b crossing old new same names h es e ps u l named are there = h es e ps u l (sym names ∙ named) (sym (ap (λ (s : Stage M T). s.pieces) same) ∙ are) there

-- nothing was joined
pub still_since : {M T : Type 0} (b : Machine M T) (crossing : CrossingNodes M T) (m : Meaning T) (first hubs : List (Stream T)) (whole opening : Stage M T) (old new : CutTrees M T) → stage_of new ≡ stage_of old → names_of new.edges.items ≡ names_of old.edges.items → HaveGoneSince b crossing m first hubs whole opening old → HaveGoneSince b crossing m first hubs whole opening new
still_since {M} {T} b crossing m first hubs whole opening old new same edges w =
    let R : List EdgeName → Type 0 = λ es. Leads (IsCutThere b crossing m first) whole es opening in
    let S : Stage M T → Type 0 = λ s. (s.links ≡ opening.links) × ArePiecesOf s.links s.pieces × RegionStands b m hubs opening.pieces s.pieces in
    let h = subst S (sym same) (w.links, w.ends, w.stands) in
    record { run = subst R (sym edges) w.run; links = h.0; ends = h.1; stands = h.2 }

-- ---- trees none of which is cut

-- where no hub and no link is there, no node reads one
read_any : (counts : List (Option ℕ)) (r : Option Reading) → IsReadAt [] r → IsReadAt counts r
read_any counts None h = tt
read_any counts (Some r) h = cc

row_any : {M T : Type 0} (b : Machine M T) (counts : List (Option ℕ)) (t : Inputs M) → IsRowReadAt b [] t → IsRowReadAt b counts t
row_any b counts End h = tt
row_any b counts (More' e n p below q beside) h = (elim h.0 [ inl dead ↦ inl dead | inr live ↦ inr (read_any counts (b.reads n) live.0, row_any b counts below live.1) ], row_any b counts beside h.1)

tree_any : {M T : Type 0} (b : Machine M T) (counts : List (Option ℕ)) (t : Node M) → IsTreeReadAt b [] t → IsTreeReadAt b counts t
tree_any b counts t h = (read_any counts (b.reads t.machine) h.0, row_any b counts t.inputs h.1)

none_come : {M T : Type 0} (P : Incoming T → Type 0) (p : Piece M T) → p.inlets.items ≡ [] → Each P p.inlets.items
none_come {M} {T} P p none = let E : List (Incoming T) → Type 0 = λ is. Each P is in subst E (sym none) (λ k i at. cc)

opened_whole : {M T : Type 0} (b : Machine M T) (m : Meaning T) (hubs : List (Stream T)) (p : Piece M T) → IsWhole p → IsInStep p.part p.up → IsTreeReadAt b (counts_in (taken_of hubs p)) p.part.tree → StandsSince b m hubs p p
opened_whole b m hubs p w step reads = record {
  links = (refl, refl);
  carried = refl;
  part = opens b m (taken_of hubs p) p.part p.up w.live step reads;
  ins = none_come (λ i. InletStands b (taken_of hubs p) p.part i.inlet) p w.none;
  blank = none_come (λ i. IsBlankAt hubs (hub_of i)) p w.none;
}

pub opened_new : {M T : Type 0} (b : Machine M T) (m : Meaning T) (hubs : List (Stream T)) (p : Piece M T) → p.inlets.items ≡ [] → p.part.root.state ≡ Live → IsInStep p.part p.up → IsTreeReadAt b [] p.part.tree → StandsSince b m hubs p p
opened_new b m hubs p none live step reads = opened_whole b m hubs p (record { none = none; live = live }) step (tree_any b (counts_in (taken_of hubs p)) p.part.tree reads)

pub ends_new : {M T : Type 0} (links : List (Link T)) (p : Piece M T) → p.inlets.items ≡ [] → IsAt links p.link (λ l. IsUpOf l p.up) → IsInStep p.part p.up → IsPieceOf links p
ends_new {M} {T} links p none sends step =
    let A : List (Incoming T) → Type 0 = λ is. AreApart (map hub_of is) in
    record { sends = sends; takes = none_come (λ i. IsAt links i.link (λ l. IsInletOf l i.inlet)) p none; apart = subst A (sym none) (λ j k h at there. cc); step = step }

pub begun_from : {M T : Type 0} (b : Machine M T) (crossing : CrossingNodes M T) (m : Meaning T) (hubs : List (Stream T)) (t : CutTrees M T) → t.edges.items ≡ [] → IsOpen b m hubs (stage_of t) → AreCutFrom b crossing m hubs (stage_of t) t
begun_from {M} {T} b crossing m hubs t none opens =
    let R : List EdgeName → Type 0 = λ es. Leads (IsCutThere b crossing m hubs) (stage_of t) es (stage_of t) in
    record { last = stage_of t; run = subst R (sym (ap names_of none)) refl; same = self_stage (stage_of t); opens = opens }

pub whole_from : {M T : Type 0} (b : Machine M T) (crossing : CrossingNodes M T) (m : Meaning T) (first hubs : List (Stream T)) (whole opening : Stage M T) (t : CutTrees M T) → t.edges.items ≡ [] → AreWhole t.pieces.items → HaveGoneSince b crossing m first hubs whole opening t → AreCutFrom b crossing m hubs (stage_of t) t
whole_from b crossing m first hubs whole opening t none all w = begun_from b crossing m hubs t none (record {
  ends = w.ends;
  fresh = λ k p at. none_come (λ i. received_signals i.inlet.down ≡ []) p (all k p at).none;
  stands = λ k p at.
      let within = slice_get_within t.pieces.items k p at in
      let c = w.stands.count in
      let was = there_of opening.pieces k (omega (arith, within, c)) in
      let since = w.stands.each k was.0 p was.1 at in
      opened_whole b m hubs p (all k p at) since.part.step (since.part.live (all k p at).live).reads;
})

-- of trees that were cut and not served yet, each piece stands for what it stood for after the cuts
pub since_from : {M T : Type 0} (b : Machine M T) (crossing : CrossingNodes M T) (m : Meaning T) (hubs : List (Stream T)) (whole : Stage M T) (t : CutTrees M T) → AreCutFrom b crossing m hubs whole t → (opening : Stage M T) × HaveGoneSince b crossing m hubs hubs whole opening t
since_from b crossing m hubs whole t w = (
  w.last,
  record {
    run = w.run;
    links = w.same.links;
    ends = w.opens.ends;
    stands = record {
      count = w.same.count;
      each = λ k o p first now. let same = turned o p (w.same.each k o p first now) in same_since b m hubs p o p p same (self_same p) (w.opens.stands k p now);
    };
  },
)

-- trees with no edge left are whole again
pub none_left : {M T : Type 0} (b : Machine M T) (crossing : CrossingNodes M T) (m : Meaning T) (first hubs : List (Stream T)) (whole : Stage M T) (t : CutTrees M T) → t.edges.items ≡ [] → (before : Stage M T) × HaveGoneSince b crossing m first hubs whole before t → HaveGoneSince b crossing m first hubs whole whole t
none_left {M} {T} b crossing m first hubs whole t none since =
    let names : names_of t.edges.items ≡ [] = ap names_of none in
    let same : since.0 ≡ whole = subst (λ (l : List EdgeName). Leads (IsCutThere b crossing m first) whole l since.0) names since.1.run in
    subst (λ (s : Stage M T). HaveGoneSince b crossing m first hubs whole s t) same since.1

-- ---- whether they are whole

pub none_counted : {A : Type 0} (xs : List A) (len : ℕ) → len ≡ length xs → len ≡ 0 → xs ≡ []
none_counted [] len is none = refl
none_counted (x ∷ xs) len is none = absurd (let l = is in omega (arith, l, none))

pub whole_none : {M T : Type 0} (ps : List (Piece M T)) → ps ≡ [] → AreWhole ps
whole_none {M} {T} ps none = let A : List (Piece M T) → Type 0 = λ l. AreWhole l in subst A (sym none) (λ k p at. cc)

live_of : (s : EdgeState) → is_live s ≡ true → s ≡ Live
live_of Live h = refl
live_of Ended h = cc
live_of Closed h = cc

pub one_whole : {M T : Type 0} (p : Piece M T) → is_live p.part.root.state ≡ true → p.inlets.items ≡ [] → IsWhole p
one_whole p live none = record { none = none; live = live_of p.part.root.state live }

pub whole_more : {M T : Type 0} (all others : List (Piece M T)) (first : Piece M T) → all ≡ first ∷ others → IsWhole first → AreWhole others → AreWhole all
whole_more {M} {T} all others first is one rest = let A : List (Piece M T) → Type 0 = λ l. AreWhole l in subst A (sym is) of
  where
    of : AreWhole (first ∷ others)
    of zero p at = subst (λ (q : Piece M T). IsWhole q) (same_some first p at) one
    of (suc k) p at = rest k p at

-- what is so of all is so of the first, and of the others
pub whole_first : {M T : Type 0} (all others : List (Piece M T)) (first : Piece M T) → all ≡ first ∷ others → AreWhole all → IsWhole first × AreWhole others
whole_first {M} {T} all others first is w =
    let A : List (Piece M T) → Type 0 = λ l. AreWhole l in
    let both : AreWhole (first ∷ others) = subst A is w in
    (both 0 first refl, λ k p at. both (suc k) p at)
