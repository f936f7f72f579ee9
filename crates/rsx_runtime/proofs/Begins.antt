-- Regions that go behind gates, and come back.
use Rattle.std.proofs.Common.{◌≡◌, ℕ, ◌+◌, ◌<◌, ◌≤◌, zero, suc, true, false, List, [], ◌∷◌, ◌++◌, length, map, refl, ap, sym, ◌∙◌, subst, arith, Some, slice_get, take, drop}
use Rattle.std.proofs.Math.Seq.{take-append_seam}
use Rattle.std.proofs.lemmas.List.{length-append}
use Rattle.std.proofs.lemmas.Slice.Zip.{AllZip-long}
use Rattle.std.specs.Prelude.{Err, IfErr, IfOk, Ok, OnErr, OnOk, Result, is_err}
use Rattle.rsx_types.proofs.Lists.{slice_get_behind}
use Rattle.rsx_region.proofs.Between.{front_there}
use Rattle.rsx_region.specs.Pieces.{Each, IsPieceOf, StandsSince, none_taken}
use Rattle.rsx_region.specs.Spread.{AreIn, RowsStand, numbers_in, rows_of}
use Rattle.rsx_region.specs.Trees.{AreCutFrom, EdgeName, HaveGoneSince, IsCutThere, Stage, names_of, stage_of}
use Rattle.rsx_region.specs.declared.trees.CutTrees.{CutTrees}
use Rattle.rsx_region.proofs.Lists.{get_map}
use Rattle.rsx_region.proofs.Rows.{StandIn, each_in, rows_each, stand_in}
use Rattle.rsx_region.proofs.Stages.{stand_same}
use Rattle.rsx_region.proofs.EdgePlaces.{same_some}
use Rattle.rsx_tree.specs.Runs.{Leads}
use Rattle.rsx_rooted.specs.declared.nodes.CrossingNodes.{Ghosts as CrossingNodes}
use Rattle.rsx_runtime.specs.Closing.{opened_with}
use Rattle.rsx_runtime.proofs.Backs.{more_rows}
use Rattle.std.specs.List.{AllZip}
use Rattle.rsx_types.specs.Meaning.{Meaning}
use Rattle.rsx_sources.specs.declared.machine.Machine.{Ghosts as Machine}
use Rattle.rsx_gate.specs.Machine.{all_parts}
use Rattle.rsx_gate.specs.declared.gate.Gate.{Gate}
use Rattle.rsx_gate.specs.Seats.{key_of}
use Rattle.rsx_link.specs.declared.link.Link.{Link}
use Rattle.rsx_region.specs.Regions.{ArePiecesOf, RegionStands}
use Rattle.rsx_region.specs.declared.opening.Opening.{Opening}
use Rattle.rsx_region.specs.declared.piece.Piece.{Piece}
use Rattle.rsx_region.specs.declared.region.Region.{Region}
use Rattle.rsx_runtime.specs.Beginning.{AreBackOf, IsBackOf, IsGateFor, IsReady}
use Rattle.rsx_runtime.specs.Poking.{Fits, IsGateOf}
use Rattle.rsx_runtime.specs.Stopping.{HaveFitting}
use Rattle.rsx_runtime.proofs.Stops.{last_on}

-- one more of each stands behind
pub both_on : {A B : Type 0} (P : A → B → Type 0) (xs : List A) (ys both : List B) (x : A) (y : B) → both ≡ ys ++ y ∷ [] → AllZip P xs ys → P x y → AllZip P (xs ++ x ∷ []) both
both_on {A} {B} P xs ys both x y is h k =
    let F : List B → Type 0 = λ l. AllZip P (xs ++ x ∷ []) l in
    subst F (sym is) (last_on P (xs ++ x ∷ []) xs ys x y refl h k)

pub zip_on_both : {A B : Type 0} (P : A → B → Type 0) (xs all : List A) (ys both : List B) (x : A) (y : B) → all ≡ xs ++ x ∷ [] → both ≡ ys ++ y ∷ [] → AllZip P xs ys → P x y → AllZip P all both
zip_on_both {A} {B} P xs all ys both x y are is h k =
    let F : List A → Type 0 = λ l. AllZip P l both in
    subst F (sym are) (both_on P xs ys both x y is h k)

-- what is so of all is so of those in front, and of the last one
pub each_front : {A : Type 0} (P : A → Type 0) (all xs : List A) (x : A) → all ≡ xs ++ x ∷ [] → Each P all → Each P xs × P x
each_front {A} P all xs x is h =
    let E : List A → Type 0 = λ l. Each P l in
    let both : Each P (xs ++ x ∷ []) = subst E is h in
    (λ k y at. both k y (front_there xs x k y at), both (length xs) x (slice_get_behind xs x []))

pub one_more : {A : Type 0} (all xs : List A) (x : A) → all ≡ xs ++ x ∷ [] → length all ≡ length xs + 1
one_more all xs x is = ap length is ∙ length-append xs (x ∷ [])

-- there is room for as many as there were
pub room_kept : {A : Type 0} (all xs : List A) (x : A) (cap most : ℕ) → all ≡ xs ++ x ∷ [] → cap ≡ most → length all ≤ most → length xs + 1 ≤ cap
room_kept all xs x cap most is same room = let l = one_more all xs x is in omega (arith, l, same, room)

-- also for those beside
pub room_over : {A B : Type 0} (P : A → B → Type 0) (xs : List A) (ys : List B) (cap : ℕ) → AllZip P xs ys → length xs + 1 ≤ cap → length ys + 1 ≤ cap
room_over P xs ys cap h room = let same = AllZip-long P xs ys h in omega (arith, same, room)

pub if_ok_map : {A E : Type 0} (r : Result A E) (P Q : A → Type 0) → ((a : A) → P a → Q a) → IfOk r P → IfOk r Q
if_ok_map (Ok x) P Q f h = f x h
if_ok_map (Err e) P Q f h = h

pub if_err_map : {A E : Type 0} (r : Result A E) (P Q : E → Type 0) → ((e : E) → P e → Q e) → IfErr r P → IfErr r Q
if_err_map (Ok x) P Q f h = h
if_err_map (Err e) P Q f h = f e h

-- there is room for one more, where there is for as many as others, and one
pub room_beside : {A B : Type 0} (P : A → B → Type 0) (xs : List A) (ys : List B) (len cap : ℕ) → AllZip P xs ys → len ≡ length ys → length xs + 1 ≤ cap → len < cap
room_beside P xs ys len cap h size room = let same = AllZip-long P xs ys h in omega (arith, same, size, room)

pub has_all : (parts : ℕ) → parts ≡ all_parts → all_parts ≤ parts
has_all parts is = omega (arith, is)

pub room_behind : {A B : Type 0} (P : A → B → Type 0) (xs : List A) (ys : List B) (old now : List B) (len cap most : ℕ) → AllZip P xs ys → now ≡ old ++ ys → old ≡ [] → len ≡ length now → cap ≡ most → length xs + 1 ≤ most → len < cap
room_behind P xs ys old now len cap most h is none size same room =
    let long = AllZip-long P xs ys h in
    let all = ap length (is ∙ ap (λ l. l ++ ys) none) in
    omega (arith, long, all, size, same, room)

module _ {M T O : Type 0} (b : Machine M T) (meaning : O → Meaning T) (links : List (Link T)) (ops : O) (n : ℕ) where
  abbrev TheGate : Type 0
  TheGate = Gate (Region M T) (Opening M T O)

  pub gate_for : (g : TheGate) (key : Opening M T O) (r : Region M T) → key_of g ≡ key → key.number ≡ r.number → key.values ≡ n → key.ops.value ≡ ops → key.pieces.value.items ≡ r.pieces.items → key.links.value.items ≡ links → IsGateFor links ops n r g
  gate_for g key r is number count functions pieces ends = record {
    number = ap (λ (k : Opening M T O). k.number) is ∙ number;
    count = ap (λ (k : Opening M T O). k.values) is ∙ count;
    functions = ap (λ (k : Opening M T O). k.ops.value) is ∙ functions;
    pieces = ap (λ (k : Opening M T O). k.pieces.value.items) is ∙ pieces;
    ends = ap (λ (k : Opening M T O). k.links.value.items) is ∙ ends;
  }

  came_back : (r : Region M T) (g : TheGate) (s : Region M T) → IsGateFor links ops n r g → Fits b meaning (key_of g) s → IsBackOf b (meaning ops) n links r s
  came_back r g s for fits =
      let F : O → Type 0 = λ o. RegionStands b (meaning o) (none_taken (key_of g).values) (key_of g).pieces.value.items s.pieces.items in
      let N : ℕ → Type 0 = λ k. RegionStands b (meaning ops) (none_taken k) (key_of g).pieces.value.items s.pieces.items in
      let P : List (Piece M T) → Type 0 = λ ps. RegionStands b (meaning ops) (none_taken n) ps s.pieces.items in
      record {
        number = fits.number ∙ for.number;
        ends = subst (λ (ls : List (Link T)). ArePiecesOf ls s.pieces.items) for.ends fits.ends;
        stands = subst P for.pieces (subst N for.count (subst F for.functions fits.stands));
      }

  all_back : (rs : List (Region M T)) (gs : List TheGate) (ss : List (Region M T)) → AllZip (IsGateFor links ops n) rs gs → HaveFitting b meaning gs ss → AreBackOf b (meaning ops) n links rs ss
  all_back [] [] [] h k = tt
  all_back [] [] (s ∷ ss) h k = absurd k
  all_back [] (g ∷ gs) ss h k = absurd h
  all_back (r ∷ rs) [] ss h k = absurd h
  all_back (r ∷ rs) (g ∷ gs) [] h k = absurd k
  all_back (r ∷ rs) (g ∷ gs) (s ∷ ss) h k = (came_back r g s h.0 k.0, all_back rs gs ss h.1 k.1)

  pub itself : (r s : Region M T) → s ≡ r → IsReady b (meaning ops) n links r → IsBackOf b (meaning ops) n links r s
  itself r s same ready = subst (λ (x : Region M T). IsBackOf b (meaning ops) n links r x) (sym same) (record { number = refl; ends = ready.ends; stands = ready.stands })

  pub all_with : (rs : List (Region M T)) (gs : List TheGate) (old ended now all : List (Region M T)) (r s : Region M T) → AllZip (IsGateFor links ops n) rs gs → HaveFitting b meaning gs ended → old ≡ [] → now ≡ old ++ ended → all ≡ now ++ s ∷ [] → s ≡ r → IsReady b (meaning ops) n links r → AreBackOf b (meaning ops) n links (rs ++ r ∷ []) all
  all_with rs gs old ended now all r s for fit none is more same ready =
      both_on (IsBackOf b (meaning ops) n links) rs ended all r s (more ∙ ap (λ l. l ++ s ∷ []) (is ∙ ap (λ l. l ++ ended) none)) (all_back rs gs ended for fit) (itself r s same ready)

  -- ---- all regions

  nothing_there : {A : Type 0} (k : ℕ) (x : A) → slice_get [] k ≡ Some x → ⊥
  nothing_there k x e = cc

  each_first : {A : Type 0} (P : A → Type 0) (x : A) (xs : List A) → P x → Each P xs → Each P (x ∷ xs)
  each_first P x xs one rest zero y at = let is : x ≡ y = cc in subst P is one
  each_first P x xs one rest (suc k) y at = rest k y at

  pub gates_of : (rs : List (Region M T)) (gs : List TheGate) → AllZip (IsGateFor links ops n) rs gs → Each (IsGateOf links ops) gs × Each (λ (g : TheGate). (key_of g).values ≡ n) gs
  gates_of [] [] h = (λ k x at. absurd (nothing_there k x at), λ k x at. absurd (nothing_there k x at))
  gates_of [] (g ∷ gs) h = absurd h
  gates_of (r ∷ rs) [] h = absurd h
  gates_of (r ∷ rs) (g ∷ gs) h =
      let rest = gates_of rs gs h.1 in
      (each_first (IsGateOf links ops) g gs (h.0.ends, h.0.functions) rest.0, each_first (λ (x : TheGate). (key_of x).values ≡ n) g gs h.0.count rest.1)

  pub rows_opened : (rs : List (Region M T)) (gs : List TheGate) → AllZip (IsGateFor links ops n) rs gs → rows_of rs ≡ map opened_with gs
  rows_opened [] [] h = refl
  rows_opened [] (g ∷ gs) h = absurd h
  rows_opened (r ∷ rs) [] h = absurd h
  rows_opened (r ∷ rs) (g ∷ gs) h = ap (λ x. x ∷ rows_of rs) (sym h.0.pieces) ∙ ap (λ l. opened_with g ∷ l) (rows_opened rs gs h.1)

  pub back_rows : (rs ss : List (Region M T)) → AreBackOf b (meaning ops) n links rs ss → RowsStand b (meaning ops) (none_taken n) (rows_of rs) (rows_of ss) × Each (ArePiecesOf links) (rows_of ss)
  back_rows [] [] h = (record { count = refl; each = λ k p q first second. absurd (nothing_there k p first) }, λ k x at. absurd (nothing_there k x at))
  back_rows [] (s ∷ ss) h = absurd h
  back_rows (r ∷ rs) [] h = absurd h
  back_rows (r ∷ rs) (s ∷ ss) h =
      let rest = back_rows rs ss h.1 in
      (more_rows b meaning links ops n r.pieces.items s.pieces.items (rows_of rs) (rows_of ss) h.0.stands rest.0, each_first (ArePiecesOf links) s.pieces.items (rows_of ss) h.0.ends rest.1)

  row_stands : (row : List (Piece M T)) → Each (λ (p : Piece M T). StandsSince b (meaning ops) (none_taken n) p p) row → RegionStands b (meaning ops) (none_taken n) row row
  row_stands row all = record { count = refl; each = λ k p q first second. subst (λ (x : Piece M T). StandsSince b (meaning ops) (none_taken n) p x) (same_some p q (sym first ∙ second)) (all k p first) }

  none_each : (P : Piece M T → Type 0) (rs : List (Region M T)) → Each (λ (r : Region M T). r.pieces.items ≡ []) rs → Each (λ (row : List (Piece M T)). Each P row) (rows_of rs)
  none_each P [] all k x at = absurd (nothing_there k x at)
  none_each P (r ∷ rs) all zero x at =
      let is : r.pieces.items ≡ x = cc in
      let E : List (Piece M T) → Type 0 = λ l. Each P l in
      subst E (sym (all 0 r refl) ∙ is) (λ j y there. absurd (nothing_there j y there))
  none_each P (r ∷ rs) all (suc k) x at = none_each P rs (λ j y there. all (suc j) y there) k x at

  pub are_ready : (empty rs : List (Region M T)) (ps : List ℕ) (xs : List (Piece M T)) → Each (λ (r : Region M T). r.pieces.items ≡ []) empty → AreIn (rows_of empty) ps xs (rows_of rs) → ArePiecesOf links xs → Each (λ (p : Piece M T). StandsSince b (meaning ops) (none_taken n) p p) xs → Each (IsReady b (meaning ops) n links) rs
  are_ready empty rs ps xs none h ends stands k r at =
      let S : Piece M T → Type 0 = λ p. StandsSince b (meaning ops) (none_taken n) p p in
      let there = get_map (λ (x : Region M T). x.pieces.items) rs k r at in
      record {
        ends = rows_each (IsPieceOf links) (rows_of empty) ps xs (rows_of rs) h (none_each (IsPieceOf links) empty none) ends k r.pieces.items there;
        stands = row_stands r.pieces.items (rows_each S (rows_of empty) ps xs (rows_of rs) h (none_each S empty none) stands k r.pieces.items there);
      }

-- ---- the trees come back

module _ {M T O : Type 0} (b : Machine M T) (crossing : CrossingNodes M T) (meaning : O → Meaning T) (ops : O) (n : ℕ) (whole : Stage M T) (trees : CutTrees M T) (base : List (List (Piece M T))) (places : List ℕ) (rs ss : List (Region M T)) (spread : AreIn base places trees.pieces.items (rows_of rs)) (back : AreBackOf b (meaning ops) n trees.links.items rs ss) where
  pub back_in : StandIn b (meaning ops) (none_taken n) places trees.pieces.items (rows_of ss)
  back_in = stand_in b (meaning ops) (none_taken n) base places trees.pieces.items (rows_of rs) (rows_of ss) spread (back_rows b meaning trees.links.items ops n rs ss back).0

  pub trees_back : (new : CutTrees M T) → new.pieces.items ≡ back_in.pieces → new.links ≡ trees.links → new.edges ≡ trees.edges → AreCutFrom b crossing (meaning ops) (none_taken n) whole trees → (opening : Stage M T) × HaveGoneSince b crossing (meaning ops) (none_taken n) (none_taken n) whole opening new
  trees_back new pieces links edges w =
      let ls = trees.links.items in
      let L : List (Link T) → Type 0 = λ x. ArePiecesOf x new.pieces.items in
      let P : List (Piece M T) → Type 0 = λ ps. ArePiecesOf ls ps in
      let R : List (Piece M T) → Type 0 = λ ps. RegionStands b (meaning ops) (none_taken n) w.last.pieces ps in
      let N : List EdgeName → Type 0 = λ es. Leads (IsCutThere b crossing (meaning ops) (none_taken n)) whole es w.last in
      let ends = each_in (IsPieceOf ls) back_in.base places back_in.pieces (rows_of ss) back_in.are (back_rows b meaning ls ops n rs ss back).1 in (
        w.last,
        record {
          run = subst N (sym (ap (λ v. names_of v.items) edges)) w.run;
          links = ap (λ v. v.items) links ∙ w.same.links;
          ends = subst L (sym (ap (λ v. v.items) links)) (subst P (sym pieces) ends);
          stands = subst R (sym pieces) (stand_same b (meaning ops) (none_taken n) w.last (stage_of trees) back_in.pieces w.same back_in.stand);
        },
      )

-- the list of all regions is what was written into it
pub written : {A : Type 0} (len : ℕ) (old new : List A) → len ≡ length old → length new ≡ length old → take len (new ++ drop (length new) old) ≡ new
written len old new is same = ap (λ k. take k (new ++ drop (length new) old)) (is ∙ sym same) ∙ take-append_seam new (drop (length new) old)

map_long : {A B : Type 0} (f : A → B) (xs : List A) → length (map f xs) ≡ length xs
map_long f [] = refl
map_long f (x ∷ xs) = ap suc (map_long f xs)

pub as_long : {M T : Type 0} (old new : List (Region M T)) → numbers_in new ≡ numbers_in old → length new ≡ length old
as_long old new same = sym (map_long (λ (r : Region _ _). r.number) new) ∙ (ap length same ∙ map_long (λ (r : Region _ _). r.number) old)

-- what is so where it was refused, and where it wasn't
pub when_refused : {A E : Type 0} (r : Result A E) (P : Type 0) → is_err r ≡ true → OnErr r P → P
when_refused (Ok x) P is h = cc
when_refused (Err e) P is h = h

pub when_done : {A E : Type 0} (r : Result A E) (P : Type 0) → is_err r ≡ false → OnOk r P → P
when_done (Ok x) P is h = h
when_done (Err e) P is h = cc
