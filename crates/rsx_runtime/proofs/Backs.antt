-- Pieces that come back out of the regions of a live graph.
use Rattle.std.proofs.Common.{◌≡◌, ℕ, zero, suc, List, [], ◌∷◌, map, refl, ap, sym, ◌∙◌, subst, Some, slice_get}
use Rattle.rsx_types.specs.Meaning.{Meaning}
use Rattle.rsx_sources.specs.declared.machine.Machine.{Ghosts as Machine}
use Rattle.rsx_rooted.specs.declared.nodes.CrossingNodes.{Ghosts as CrossingNodes}
use Rattle.rsx_tree.specs.Runs.{Leads}
use Rattle.rsx_gate.specs.declared.gate.Gate.{Gate}
use Rattle.rsx_gate.specs.Seats.{key_of}
use Rattle.rsx_link.specs.declared.link.Link.{Link}
use Rattle.rsx_region.specs.Pieces.{Each, IsPieceOf, none_taken}
use Rattle.rsx_region.specs.Regions.{ArePiecesOf, RegionStands}
use Rattle.rsx_region.specs.Spread.{RowsStand, rows_of}
use Rattle.rsx_region.specs.Trees.{EdgeName, HaveGoneSince, IsCutThere, Stage, names_of}
use Rattle.rsx_region.specs.declared.opening.Opening.{Opening}
use Rattle.rsx_region.specs.declared.piece.Piece.{Piece}
use Rattle.rsx_region.specs.declared.region.Region.{Region}
use Rattle.rsx_region.specs.declared.trees.CutTrees.{CutTrees}
use Rattle.rsx_region.proofs.Rows.{StandIn, each_in, stand_in}
use Rattle.rsx_region.proofs.Stages.{stand_same}
use Rattle.rsx_runtime.specs.Closing.{IsLiveOf, opened_with}
use Rattle.rsx_runtime.specs.Poking.{Fits, IsGateOf}
use Rattle.rsx_runtime.specs.Stopping.{HaveFitting}
use Rattle.rsx_runtime.specs.declared.closing.Plan.{Plan}
use Rattle.rsx_runtime.specs.declared.live.Live.{Live}

module _ {M T O : Type 0} (b : Machine M T) (meaning : O → Meaning T) (links : List (Link T)) (ops : O) (n : ℕ) where
  abbrev TheGate : Type 0
  TheGate = Gate (Region M T) (Opening M T O)

  -- what is known of the gates: they are of these links and functions, and there are so many values
  abbrev IsOf : TheGate → Type 0
  IsOf g = IsGateOf links ops g × ((key_of g).values ≡ n)

  later : (P : TheGate → Type 0) (g : TheGate) (gs : List TheGate) → Each P (g ∷ gs) → P g × Each P gs
  later P g gs all = (all 0 g refl, λ k x at. all (suc k) x at)

  one_stands : (g : TheGate) (r : Region M T) → IsOf g → Fits b meaning (key_of g) r → RegionStands b (meaning ops) (none_taken n) (opened_with g) r.pieces.items
  one_stands g r is fits =
      let F : O → Type 0 = λ o. RegionStands b (meaning o) (none_taken (key_of g).values) (opened_with g) r.pieces.items in
      let N : ℕ → Type 0 = λ k. RegionStands b (meaning ops) (none_taken k) (opened_with g) r.pieces.items in
      subst N is.1 (subst F is.0.1 fits.stands)

  one_ends : (g : TheGate) (r : Region M T) → IsOf g → Fits b meaning (key_of g) r → ArePiecesOf links r.pieces.items
  one_ends g r is fits = subst (λ (ls : List (Link T)). ArePiecesOf ls r.pieces.items) is.0.0 fits.ends

  pub more_rows : (was is : List (Piece M T)) (opening now : List (List (Piece M T))) → RegionStands b (meaning ops) (none_taken n) was is → RowsStand b (meaning ops) (none_taken n) opening now → RowsStand b (meaning ops) (none_taken n) (was ∷ opening) (is ∷ now)
  more_rows was is opening now one rest = record { count = ap suc rest.count; each = of }
    where
      of : (k : ℕ) (p q : List (Piece M T)) → slice_get (was ∷ opening) k ≡ Some p → slice_get (is ∷ now) k ≡ Some q → RegionStands b (meaning ops) (none_taken n) p q
      of zero p q first second =
          let p_is : was ≡ p = cc in
          let q_is : is ≡ q = cc in
          subst (λ (x : List (Piece M T)). RegionStands b (meaning ops) (none_taken n) x q) p_is (subst (λ (x : List (Piece M T)). RegionStands b (meaning ops) (none_taken n) was x) q_is one)
      of (suc k) p q first second = rest.each k p q first second

  nothing_there : {A : Type 0} (k : ℕ) (x : A) → slice_get [] k ≡ Some x → ⊥
  nothing_there k x e = cc

  pub rows_stand : (gates : List TheGate) (regions : List (Region M T)) → Each IsOf gates → HaveFitting b meaning gates regions → RowsStand b (meaning ops) (none_taken n) (map opened_with gates) (rows_of regions)
  rows_stand [] [] all h = record { count = refl; each = λ k p q first second. absurd (nothing_there k p first) }
  rows_stand [] (r ∷ rs) all h = absurd h
  rows_stand (g ∷ gs) [] all h = absurd h
  rows_stand (g ∷ gs) (r ∷ rs) all h =
      let l = later IsOf g gs all in
      more_rows (opened_with g) r.pieces.items (map opened_with gs) (rows_of rs) (one_stands g r l.0 h.0) (rows_stand gs rs l.1 h.1)

  each_first : (P : List (Piece M T) → Type 0) (row : List (Piece M T)) (rows : List (List (Piece M T))) → P row → Each P rows → Each P (row ∷ rows)
  each_first P row rows one rest zero x at = let is : row ≡ x = cc in subst P is one
  each_first P row rows one rest (suc k) x at = rest k x at

  pub rows_end : (gates : List TheGate) (regions : List (Region M T)) → Each IsOf gates → HaveFitting b meaning gates regions → Each (ArePiecesOf links) (rows_of regions)
  rows_end [] [] all h = λ k x at. absurd (nothing_there k x at)
  rows_end [] (r ∷ rs) all h = absurd h
  rows_end (g ∷ gs) [] all h = absurd h
  rows_end (g ∷ gs) (r ∷ rs) all h =
      let l = later IsOf g gs all in
      each_first (ArePiecesOf links) r.pieces.items (rows_of rs) (one_ends g r l.0 h.0) (rows_end gs rs l.1 h.1)

module _ {M T O : Type 0} (b : Machine M T) (crossing : CrossingNodes M T) (meaning : O → Meaning T) (n : ℕ) (whole : Stage M T) (live : Live M T O) (plan : Plan M T) (is : IsLiveOf b crossing meaning n whole live plan) (regions : List (Region M T)) (fit : HaveFitting b meaning live.gates.items regions) where
  known : Each (IsOf b meaning live.links.items live.ops n) live.gates.items
  known k g at = (live.opened k g at, is.values k g at)

  pub stand : StandIn b (meaning live.ops) (none_taken n) plan.places.items is.begun.pieces (rows_of regions)
  stand = stand_in b (meaning live.ops) (none_taken n) is.base plan.places.items is.begun.pieces (map opened_with live.gates.items) (rows_of regions) is.spread (rows_stand b meaning live.links.items live.ops n live.gates.items regions known fit)

  pub come_back : (t : CutTrees M T) → t.pieces.items ≡ stand.pieces → t.links ≡ live.links → t.edges ≡ plan.edges → (opening : Stage M T) × HaveGoneSince b crossing (meaning live.ops) (none_taken n) (none_taken n) whole opening t
  come_back t pieces links edges =
      let ls = live.links.items in
      let L : List (Link T) → Type 0 = λ x. ArePiecesOf x t.pieces.items in
      let P : List (Piece M T) → Type 0 = λ ps. ArePiecesOf ls ps in
      let R : List (Piece M T) → Type 0 = λ ps. RegionStands b (meaning live.ops) (none_taken n) is.opening.pieces ps in
      let N : List EdgeName → Type 0 = λ es. Leads (IsCutThere b crossing (meaning live.ops) (none_taken n)) whole es is.opening in
      let ends = each_in (IsPieceOf ls) stand.base plan.places.items stand.pieces (rows_of regions) stand.are (rows_end b meaning ls live.ops n live.gates.items regions known fit) in (
        is.opening,
        record {
          run = subst N (sym (ap (λ v. names_of v.items) edges)) is.run;
          links = ap (λ v. v.items) links ∙ (is.links ∙ is.same.links);
          ends = subst L (sym (ap (λ v. v.items) links)) (subst P (sym pieces) ends);
          stands = subst R (sym pieces) (stand_same b (meaning live.ops) (none_taken n) is.opening is.begun stand.pieces is.same stand.stand);
        },
      )
