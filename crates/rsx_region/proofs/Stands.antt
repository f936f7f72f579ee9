-- A piece stands on for what it stood for.
use Rattle.std.proofs.Common.{◌≡◌, ℕ, List, [], ◌∷◌, map, refl, sym, ap, ◌∙◌, subst, inl, inr}
use Rattle.rsx_sources.specs.Prelude.{Meaning, Signal, Stream}
use Rattle.rsx_sources.specs.declared.machine.Machine.{Ghosts as Machine}
use Rattle.rsx_tree.specs.declared.node.Node.{Node}
use Rattle.rsx_pipe.specs.Part.{Part}
use Rattle.rsx_link.specs.Ends.{carried_down, carried_up, received_signals, sent_signals}
use Rattle.rsx_link.specs.declared.up.Up.{Up}
use Rattle.rsx_rooted.specs.Local.{stream_of}
use Rattle.rsx_region.specs.Inlet.{HasCome, InletStands, with_come}
use Rattle.rsx_region.specs.Piece.{PieceStands}
use Rattle.rsx_region.specs.declared.inlet.Inlet.{Inlet}
use Rattle.rsx_region.specs.Pieces.{AreApart, Each, IsBlankAt, StandsSince, came_of, hub_of, hubs_of, numbers_of, taken_by, taken_of}
use Rattle.rsx_region.specs.Steps.{OneChanged, SameInlets}
use Rattle.rsx_region.specs.declared.piece.Incoming.{Incoming}
use Rattle.rsx_region.specs.declared.piece.Piece.{Piece}
use Rattle.rsx_region.proofs.Lists.{apart_at, each_set, get_map, map_same, map_set, set_cases, taken_set}

-- what came to a piece, where its inlets show it
taken_from : {M T : Type 0} (hubs : List (Stream T)) (p new : Piece M T) → map came_of new.inlets.items ≡ map came_of p.inlets.items → taken_of hubs new ≡ taken_of hubs p
taken_from hubs p new same = ap (taken_by stream_of hubs) same

pub stands_root : {M T : Type 0} (b : Machine M T) (m : Meaning T) (hubs : List (Stream T)) (opening p new : Piece M T) → SameInlets p new → carried_up new.up ≡ carried_up p.up →
    ((taken : List (Stream T)) (old : Node M) (queued : List (Signal T)) → PieceStands b m taken old queued p.part p.up → PieceStands b m taken old queued new.part new.up) →
    ((taken : List (Stream T)) (i : Inlet T) → InletStands b taken p.part i → InletStands b taken new.part i) → StandsSince b m hubs opening p → StandsSince b m hubs opening new
stands_root {M} {T} b m hubs opening p new same carried stands inlets h =
    let taken : taken_of hubs new ≡ taken_of hubs p = taken_from hubs p new (ap (map came_of) same.1) in
    let S : List (Stream T) → Type 0 = λ t. PieceStands b m t opening.part.tree (sent_signals opening.up) new.part new.up in
    let I : List (Stream T) → Type 0 = λ t. Each (λ (i : Incoming T). InletStands b t new.part i.inlet) new.inlets.items in
    let E : List (Incoming T) → Type 0 = λ is. Each (λ (i : Incoming T). InletStands b (taken_of hubs p) new.part i.inlet) is in
    record {
      links = (same.0 ∙ h.links.0, ap (map numbers_of) same.1 ∙ h.links.1);
      carried = carried ∙ h.carried;
      part = subst S (sym taken) (stands (taken_of hubs p) opening.part.tree (sent_signals opening.up) h.part);
      ins = subst I (sym taken) (subst E (sym same.1) (λ k x at. inlets (taken_of hubs p) x.inlet (h.ins k x at)));
      blank = subst (Each (λ (i : Incoming T). IsBlankAt hubs (hub_of i))) (sym same.1) h.blank;
    }

numbers_same : {T : Type 0} (was is : Incoming T) → is.link ≡ was.link → is.inlet.hub ≡ was.inlet.hub → carried_down is.inlet.down ≡ carried_down was.inlet.down → numbers_of is ≡ numbers_of was
numbers_same was is e h c = cc

-- the links are read under the numbers of before
blank_changed : {M T : Type 0} (hubs : List (Stream T)) (p new : Piece M T) (at : ℕ) (was is : Incoming T) → OneChanged at was is p new → Each (λ (i : Incoming T). IsBlankAt hubs (hub_of i)) p.inlets.items → Each (λ (i : Incoming T). IsBlankAt hubs (hub_of i)) new.inlets.items
blank_changed {M} {T} hubs p new at was is c blank =
    let P : Incoming T → Type 0 = λ i. IsBlankAt hubs (hub_of i) in
    subst (Each P) (sym c.put) (each_set P p.inlets.items at is (subst (IsBlankAt hubs) (sym c.hub) (blank at was c.there)) blank)

pub stands_asked : {M T : Type 0} (b : Machine M T) (m : Meaning T) (hubs : List (Stream T)) (opening p new : Piece M T) (at : ℕ) (was is : Incoming T) → OneChanged at was is p new → new.part ≡ p.part → received_signals is.inlet.down ≡ received_signals was.inlet.down →
    ((taken : List (Stream T)) → InletStands b taken p.part was.inlet → InletStands b taken p.part is.inlet) → StandsSince b m hubs opening p → StandsSince b m hubs opening new
stands_asked {M} {T} b m hubs opening p new at was is c part came stands h =
    let items = p.inlets.items in
    let hub = c.hub in
    let shows : came_of is ≡ came_of was = cc in
    let taken : taken_of hubs new ≡ taken_of hubs p = taken_from hubs p new (ap (map came_of) c.put ∙ map_same came_of items at was is c.there shows) in
    let S : List (Stream T) → Type 0 = λ t. PieceStands b m t opening.part.tree (sent_signals opening.up) new.part new.up in
    let Q : Part M → Type 0 = λ q. PieceStands b m (taken_of hubs p) opening.part.tree (sent_signals opening.up) q new.up in
    let U : Up T → Type 0 = λ u. PieceStands b m (taken_of hubs p) opening.part.tree (sent_signals opening.up) p.part u in
    let I : List (Stream T) → Type 0 = λ t. Each (λ (i : Incoming T). InletStands b t new.part i.inlet) new.inlets.items in
    let R : Part M → Type 0 = λ q. Each (λ (i : Incoming T). InletStands b (taken_of hubs p) q i.inlet) new.inlets.items in
    let P : Incoming T → Type 0 = λ i. InletStands b (taken_of hubs p) p.part i.inlet in
    record {
      links = (c.link ∙ h.links.0, ap (map numbers_of) c.put ∙ map_same numbers_of items at was is c.there (numbers_same was is c.number c.hub c.carried) ∙ h.links.1);
      carried = ap carried_up c.up ∙ h.carried;
      part = subst S (sym taken) (subst Q (sym part) (subst U (sym c.up) h.part));
      ins = subst I (sym taken) (subst R (sym part) (subst (Each P) (sym c.put) (each_set P items at is (stands (taken_of hubs p) (h.ins at was c.there)) h.ins)));
      blank = blank_changed hubs p new at was is c h.blank;
    }

firsts : {T : Type 0} (is : List (Incoming T)) → map (λ (c : ℕ × List (Signal T)). c.0) (map came_of is) ≡ map hub_of is
firsts [] = refl
firsts (i ∷ is) = ap (λ l. i.inlet.hub ∷ l) (firsts is)

pub stands_popped : {M T : Type 0} (b : Machine M T) (m : Meaning T) (hubs : List (Stream T)) (opening p new : Piece M T) (at : ℕ) (was is : Incoming T) → OneChanged at was is p new → AreApart (hubs_of p) →
    ((taken : List (Stream T)) (old : Node M) (queued : List (Signal T)) (up : Up T) → HasCome taken was.inlet → PieceStands b m taken old queued p.part up → PieceStands b m (with_come is.inlet taken) old queued new.part up) →
    ((taken : List (Stream T)) → InletStands b taken p.part was.inlet → InletStands b (with_come is.inlet taken) new.part is.inlet) →
    ((taken : List (Stream T)) (other : Inlet T) → (other.hub ≡ was.inlet.hub → ⊥) → HasCome taken was.inlet → InletStands b taken p.part other → InletStands b (with_come is.inlet taken) new.part other) →
    StandsSince b m hubs opening p → StandsSince b m hubs opening new
stands_popped {M} {T} b m hubs opening p new at was is c apart stands own others h =
    let items = p.inlets.items in
    let before = taken_of hubs p in
    let A : List ℕ → Type 0 = AreApart in
    let firsts_apart = subst A (sym (firsts items)) apart in
    let taken : taken_of hubs new ≡ with_come is.inlet before =
    ap (λ (l : List (Incoming T)). taken_by stream_of hubs (map came_of l)) c.put
    ∙ (ap (taken_by stream_of hubs) (map_set came_of items at is)
    ∙ taken_set stream_of hubs (map came_of items) at (came_of was) (came_of is) firsts_apart (get_map came_of items at was c.there) c.hub) in
    let come : HasCome before was.inlet = (h.ins at was c.there).came in
    let S : List (Stream T) → Type 0 = λ t. PieceStands b m t opening.part.tree (sent_signals opening.up) new.part new.up in
    let U : Up T → Type 0 = λ u. PieceStands b m (with_come is.inlet before) opening.part.tree (sent_signals opening.up) new.part u in
    let I : List (Stream T) → Type 0 = λ t. Each (λ (i : Incoming T). InletStands b t new.part i.inlet) new.inlets.items in
    let P : Incoming T → Type 0 = λ i. InletStands b (with_come is.inlet before) new.part i.inlet in
    record {
      links = (c.link ∙ h.links.0, ap (map numbers_of) c.put ∙ map_same numbers_of items at was is c.there (numbers_same was is c.number c.hub c.carried) ∙ h.links.1);
      carried = ap carried_up c.up ∙ h.carried;
      part = subst S (sym taken) (subst U (sym c.up) (stands before opening.part.tree (sent_signals opening.up) p.up come h.part));
      ins = subst I (sym taken) (subst (Each P) (sym c.put) (λ k x there. elim (set_cases items at k is x there) [
        | inl s ↦ subst P (sym s.1) (own before (h.ins at was c.there))
        | inr s ↦ others before x.inlet (apart_at (hubs_of p) at k was.inlet.hub x.inlet.hub apart (get_map hub_of items at was c.there) (get_map hub_of items k x s.1) s.0) come (h.ins k x s.1)
      ]));
      blank = blank_changed hubs p new at was is c h.blank;
    }
