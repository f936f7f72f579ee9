-- Elements that were put into rows, and are taken out again.
use Rattle.std.proofs.Common.{◌≡◌, inl, inr, ℕ, zero, suc, ◌+◌, ◌<◌, List, [], ◌∷◌, ◌++◌, length, refl, ap, sym, ◌∙◌, subst, arith, Option, Some, None, Result, Ok, Err, slice_get, slice_index_or, slice_set}
use Rattle.std.proofs.lemmas.List.{length-set}
use Rattle.std.proofs.lemmas.Option.{slice_get-get_or, slice_get_within}
use Rattle.std.specs.Option.{option_to_list}
use Rattle.std.specs.Prelude.{IfErr, IfNone, IfSome, MatchOption, OnOk}
use Rattle.rsx_types.proofs.Lists.{slice_get_behind}
use Rattle.rsx_sources.specs.Prelude.{Meaning, Stream}
use Rattle.rsx_sources.specs.declared.machine.Machine.{Ghosts as Machine}
use Rattle.rsx_region.proofs.EdgePlaces.{same_some}
use Rattle.rsx_region.specs.Pieces.{Each, StandsSince}
use Rattle.rsx_region.specs.Regions.{RegionStands}
use Rattle.rsx_region.specs.Spread.{AreIn, IsPut, RowsStand, numbers_in, rows_of}
use Rattle.rsx_region.specs.declared.piece.Piece.{Piece}
use Rattle.rsx_region.specs.declared.region.Region.{Region}
use Rattle.rsx_region.proofs.Between.{front_there}
use Rattle.rsx_region.proofs.Lists.{get_map, map_same, map_set, set_again, set_cases, set_same, set_there}
use Rattle.rsx_region.proofs.Opened.{each_more}
use Rattle.rsx_region.proofs.Stages.{both_same, none_counted, one_longer, there_of}

nothing_there : {A : Type 0} (k : ℕ) (x : A) → slice_get [] k ≡ Some x → ⊥
nothing_there k x e = cc

-- one more, that was put first
pub in_more : {A : Type 0} (base first rows : List (List A)) (ps : List ℕ) (xs : List A) (p : ℕ) (x : A) → IsPut base p x first → AreIn first ps xs rows → AreIn base (ps ++ p ∷ []) (xs ++ x ∷ []) rows
in_more {A} base first rows [] xs p x put h =
    let P : List (List A) → Type 0 = λ r. IsPut base p x r in
    (x, [], base, ap (λ l. l ++ x ∷ []) h.0, (refl, refl), subst P (sym h.1) put)
in_more base first rows (q ∷ ps) xs p x put h = (h.0, h.1 ++ x ∷ [], h.2, ap (λ l. l ++ x ∷ []) h.3, in_more base first h.2 ps h.1 p x put h.4, h.5)

-- what is taken out first
pub record TakenFirst {A : Type 0} (base : List (List A)) (p : ℕ) (ps : List ℕ) (xs : List A) (rows : List (List A)) : Type 0 where
  pub x : A
  pub others : List A
  pub row : List A
  pub all : xs ≡ x ∷ others
  pub there : slice_get rows p ≡ Some (row ++ x ∷ [])
  pub rest : AreIn base ps others (slice_set rows p row)

pub taken_first : {A : Type 0} (base : List (List A)) (p : ℕ) (ps : List ℕ) (xs : List A) (rows : List (List A)) → AreIn base (p ∷ ps) xs rows → TakenFirst base p ps xs rows
taken_first {A} base p ps xs rows h =
    let put = h.5 in
    let same : slice_set rows p put.row ≡ h.2 = ap (λ r. slice_set r p put.row) put.put ∙ (set_again h.2 p (put.row ++ h.0 ∷ []) put.row ∙ set_same h.2 p put.row put.there) in
    let R : List (List A) → Type 0 = λ r. AreIn base ps h.1 r in
    record {
      x = h.0;
      others = h.1;
      row = put.row;
      all = h.3;
      there = ap (λ r. slice_get r p) put.put ∙ set_there h.2 p put.row (put.row ++ h.0 ∷ []) put.there;
      rest = subst R (sym same) h.4;
    }

-- what is so of each element of each row is so of all elements
pub each_in : {A : Type 0} (P : A → Type 0) (base : List (List A)) (ps : List ℕ) (xs : List A) (rows : List (List A)) → AreIn base ps xs rows → Each (λ (r : List A). Each P r) rows → Each P xs
each_in {A} P base [] xs rows h all = let E : List A → Type 0 = λ l. Each P l in subst E (sym h.0) (λ k x at. cc)
each_in {A} P base (p ∷ ps) xs rows h all =
    let t = taken_first base p ps xs rows h in
    let row_all = all p (t.row ++ t.x ∷ []) t.there in
    let rest_all : Each (λ (r : List A). Each P r) (slice_set rows p t.row) = λ k r at. elim (set_cases rows p k t.row r at) [
      | inl s ↦ subst (λ (l : List A). Each P l) (sym s.1) (λ j x is. row_all j x (front_there t.row t.x j x is))
      | inr s ↦ all k r s.1
    ] in
    let others = each_in P base ps t.others (slice_set rows p t.row) t.rest rest_all in
    let E : List A → Type 0 = λ l. Each P l in
    subst E (sym t.all) (of t.x t.others (row_all (length t.row) t.x (slice_get_behind t.row t.x [])) others)
  where
    of : (x : A) (others : List A) → P x → Each P others → Each P (x ∷ others)
    of x others one rest zero y at = subst P (same_some x y at) one
    of x others one rest (suc k) y at = rest k y at

-- what is so of each element is so of each in the rows, where it is of those that were there
pub rows_each : {A : Type 0} (P : A → Type 0) (base : List (List A)) (ps : List ℕ) (xs : List A) (rows : List (List A)) → AreIn base ps xs rows → Each (λ (r : List A). Each P r) base → Each P xs → Each (λ (r : List A). Each P r) rows
rows_each {A} P base [] xs rows h old all = let E : List (List A) → Type 0 = λ l. Each (λ (r : List A). Each P r) l in subst E (sym h.1) old
rows_each {A} P base (p ∷ ps) xs rows h old all =
    let E : List A → Type 0 = λ l. Each P l in
    let both : Each P (h.0 ∷ h.1) = subst E h.3 all in
    let rest = rows_each P base ps h.1 h.2 h.4 old (λ k x at. both (suc k) x at) in
    let put = h.5 in
    let R : List (List A) → Type 0 = λ l. Each (λ (r : List A). Each P r) l in
    subst R (sym put.put) (λ k r at. elim (set_cases h.2 p k (put.row ++ h.0 ∷ []) r at) [
      | inl s ↦ subst (λ (l : List A). Each P l) (sym s.1) (each_more P put.row h.0 (rest p put.row put.there) (both 0 h.0 refl))
      | inr s ↦ rest k r s.1
    ])

-- the first piece was taken out
pub gathered_first : {A : Type 0} (base : List (List A)) (places others : List ℕ) (place : ℕ) (xs : List A) (rows new : List (List A)) (row : List A) (x : A) → places ≡ place ∷ others → AreIn base places xs rows → slice_get rows place ≡ Some (row ++ x ∷ []) → new ≡ slice_set rows place row →
    (rest : List A) × (xs ≡ x ∷ rest) × AreIn base others rest new
gathered_first {A} base places others place xs rows new row x are h there is =
    let P : List ℕ → Type 0 = λ ps. AreIn base ps xs rows in
    let t = taken_first base place others xs rows (subst P are h) in
    let both = both_same row t.row x t.x (same_some (row ++ x ∷ []) (t.row ++ t.x ∷ []) (sym there ∙ t.there)) in
    let R : List (List A) → Type 0 = λ r. AreIn base others t.others r in
    (t.others, t.all ∙ ap (λ z. z ∷ t.others) (sym both.1), subst R (sym (is ∙ ap (slice_set rows place) both.0)) t.rest)

append_one : {A : Type 0} (ys : List A) (y : A) (zs : List A) → (ys ++ y ∷ []) ++ zs ≡ ys ++ (y ∷ zs)
append_one [] y zs = refl
append_one (w ∷ ys) y zs = ap (λ l. w ∷ l) (append_one ys y zs)

pub gathered_rest : {A : Type 0} (old one all xs rest : List A) (x : A) → xs ≡ x ∷ rest → one ≡ old ++ x ∷ [] → all ≡ one ++ rest → all ≡ old ++ xs
gathered_rest old one all xs rest x are more is = is ∙ (ap (λ l. l ++ rest) more ∙ (append_one old x rest ∙ ap (λ l. old ++ l) (sym are)))

-- ---- one row changes

module _ {M T : Type 0} where
  region_at : (rs : List (Region M T)) (i place : ℕ) (d : Region M T) → i ≡ place → place < length rs → slice_get rs place ≡ Some (slice_index_or rs i d)
  region_at rs i place d same less = slice_get-get_or rs place d less ∙ ap (λ k. Some (slice_index_or rs k d)) (sym same)

  pub put_there : (rs : List (Region M T)) (i place : ℕ) (d r : Region M T) (piece : Piece M T) → i ≡ place → place < length rs → r.pieces.items ≡ (slice_index_or rs i d).pieces.items ++ piece ∷ [] → IsPut (rows_of rs) place piece (rows_of (slice_set rs i r))
  put_there rs i place d r piece same less more = record {
    row = (slice_index_or rs i d).pieces.items;
    there = get_map (λ (x : Region M T). x.pieces.items) rs place (slice_index_or rs i d) (region_at rs i place d same less);
    put = map_set (λ (x : Region M T). x.pieces.items) rs i r ∙ (ap (λ k. slice_set (rows_of rs) k r.pieces.items) same ∙ ap (slice_set (rows_of rs) place) more);
  }

  pub rows_kept : (rs : List (Region M T)) (i place : ℕ) (d r : Region M T) → i ≡ place → place < length rs → r.pieces.items ≡ (slice_index_or rs i d).pieces.items → rows_of (slice_set rs i r) ≡ rows_of rs
  rows_kept rs i place d r same less is = map_same (λ (x : Region M T). x.pieces.items) rs i (slice_index_or rs i d) r (ap (slice_get rs) same ∙ region_at rs i place d same less) is

  pub numbers_kept : (rs : List (Region M T)) (i place : ℕ) (d r : Region M T) → i ≡ place → place < length rs → r.number ≡ (slice_index_or rs i d).number → numbers_in (slice_set rs i r) ≡ numbers_in rs
  numbers_kept rs i place d r same less is = map_same (λ (x : Region M T). x.number) rs i (slice_index_or rs i d) r (ap (slice_get rs) same ∙ region_at rs i place d same less) is

  pub some_taken : (rs : List (Region M T)) (i place : ℕ) (d r : Region M T) (o : Option (Piece M T)) → i ≡ place → place < length rs → (slice_index_or rs i d).pieces.items ≡ r.pieces.items ++ option_to_list o →
      IfSome o (λ p. (row : List (Piece M T)) × (slice_get (rows_of rs) place ≡ Some (row ++ p ∷ [])) × (rows_of (slice_set rs i r) ≡ slice_set (rows_of rs) place row))
  some_taken rs i place d r None same less is = tt
  some_taken rs i place d r (Some p) same less is =
      let there = get_map (λ (x : Region M T). x.pieces.items) rs place (slice_index_or rs i d) (region_at rs i place d same less) in
      (r.pieces.items, there ∙ ap Some is, map_set (λ (x : Region M T). x.pieces.items) rs i r ∙ ap (λ k. slice_set (rows_of rs) k r.pieces.items) same)

  pub none_taken : (rs : List (Region M T)) (i place : ℕ) (d : Region M T) (o : Option (Piece M T)) (len : ℕ) (Q : Type 0) (R : Piece M T → Type 0) → i ≡ place → place < length rs → len ≡ length (slice_index_or rs i d).pieces.items → MatchOption o ((len ≡ 0) × Q) R → IfNone o (slice_get (rows_of rs) place ≡ Some [])
  none_taken rs i place d (Some p) len Q R same less size cases = tt
  none_taken rs i place d None len Q R same less size cases =
      let there = get_map (λ (x : Region M T). x.pieces.items) rs place (slice_index_or rs i d) (region_at rs i place d same less) in
      there ∙ ap Some (none_counted (slice_index_or rs i d).pieces.items len size cases.0)

pub on_ok_map : {A E : Type 0} (r : Result A E) (P Q : Type 0) → (P → Q) → OnOk r P → OnOk r Q
on_ok_map (Ok x) P Q f h = f h
on_ok_map (Err e) P Q f h = h

pub if_err_map : {A E : Type 0} (r : Result A E) (P Q : E → Type 0) → ((e : E) → P e → Q e) → IfErr r P → IfErr r Q
if_err_map (Ok x) P Q f h = h
if_err_map (Err e) P Q f h = f e h

-- what was put is taken out
pub put_undone : {A : Type 0} (base rows again new : List (List A)) (place : ℕ) (x y : A) (row : List A) → IsPut base place x rows → again ≡ rows → slice_get again place ≡ Some (row ++ y ∷ []) → new ≡ slice_set again place row → (new ≡ base) × (y ≡ x)
put_undone {A} base rows again new place x y row put same there is =
    let here : slice_get again place ≡ Some (put.row ++ x ∷ []) = ap (λ r. slice_get r place) (same ∙ put.put) ∙ set_there base place put.row (put.row ++ x ∷ []) put.there in
    let both = both_same row put.row y x (same_some (row ++ y ∷ []) (put.row ++ x ∷ []) (sym there ∙ here)) in
    (is ∙ (ap (λ r. slice_set r place row) (same ∙ put.put) ∙ (set_again base place (put.row ++ x ∷ []) row ∙ (ap (slice_set base place) both.0 ∙ set_same base place put.row put.there))), both.1)

pub put_there_still : {A : Type 0} (base rows again : List (List A)) (place : ℕ) (x : A) → IsPut base place x rows → again ≡ rows → slice_get again place ≡ Some [] → ⊥
put_there_still {A} base rows again place x put same none =
    let here : slice_get again place ≡ Some (put.row ++ x ∷ []) = ap (λ r. slice_get r place) (same ∙ put.put) ∙ set_there base place put.row (put.row ++ x ∷ []) put.there in
    let size = one_longer put.row x in
    let no = ap length (same_some [] (put.row ++ x ∷ []) (sym none ∙ here)) in
    omega (arith, size, no)

-- ---- rows that stand for other rows

module _ {M T : Type 0} (b : Machine M T) (m : Meaning T) (hubs : List (Stream T)) where
  record LastStands (row : List (Piece M T)) (x : Piece M T) (now : List (Piece M T)) : Type 0 where
    rest : List (Piece M T)
    last : Piece M T
    is : now ≡ rest ++ last ∷ []
    stands : StandsSince b m hubs x last
    others : RegionStands b m hubs row rest

  unsnoc : (xs : List (Piece M T)) (size : ℕ) → length xs ≡ size + 1 → (rest : List (Piece M T)) × (last : Piece M T) × (xs ≡ rest ++ last ∷ [])
  unsnoc [] size e = absurd (let k = e in omega (arith, k))
  unsnoc (x ∷ []) size e = ([], x, refl)
  unsnoc (x ∷ y ∷ ys) size e = let r = unsnoc (y ∷ ys) (length ys) (let one : length (y ∷ ys) ≡ length ys + 1 = omega arith in one) in (x ∷ r.0, r.1, ap (λ l. x ∷ l) r.2)

  last_stands : (row : List (Piece M T)) (x : Piece M T) (now : List (Piece M T)) → RegionStands b m hubs (row ++ x ∷ []) now → LastStands row x now
  last_stands row x now w =
      let r = unsnoc now (length row) (w.count ∙ one_longer row x) in
      let size : length r.0 ≡ length row = let a = ap length r.2 in let c = one_longer r.0 r.1 in let d = w.count in let e = one_longer row x in omega (arith, a, c, d, e) in
      let at : slice_get now (length row) ≡ Some r.1 = ap (λ l. slice_get l (length row)) r.2 ∙ (ap (slice_get (r.0 ++ r.1 ∷ [])) (sym size) ∙ slice_get_behind r.0 r.1 []) in
      record {
        rest = r.0;
        last = r.1;
        is = r.2;
        stands = w.each (length row) x r.1 (slice_get_behind row x []) at;
        others = record { count = size; each = λ k p q first now_at. w.each k p q (front_there row x k p first) (ap (λ l. slice_get l k) r.2 ∙ front_there r.0 r.1 k q now_at) };
      }

  -- the rows without the piece that is taken out first, and that piece
  record FirstStands (p : ℕ) (row : List (Piece M T)) (x : Piece M T) (opening now : List (List (Piece M T))) : Type 0 where
    last : Piece M T
    lower : List (List (Piece M T))
    stands : StandsSince b m hubs x last
    rows : RowsStand b m hubs (slice_set opening p row) lower
    put : IsPut lower p last now

  rows_set : (p : ℕ) (row rest : List (Piece M T)) (opening now : List (List (Piece M T))) → RowsStand b m hubs opening now → RegionStands b m hubs row rest → RowsStand b m hubs (slice_set opening p row) (slice_set now p rest)
  rows_set p row rest opening now w one = record {
    count = length-set now p rest ∙ (w.count ∙ sym (length-set opening p row));
    each = λ k was is first now_at. elim (set_cases opening p k row was first) [
      | inl s ↦ elim (set_cases now p k rest is now_at) [
        | inl y ↦ subst (λ (r : List (Piece M T)). RegionStands b m hubs r is) (sym s.1) (subst (λ (r : List (Piece M T)). RegionStands b m hubs row r) (sym y.1) one)
        | inr y ↦ absurd (y.0 s.0)
      ]
      | inr s ↦ elim (set_cases now p k rest is now_at) [
        | inl y ↦ absurd (s.0 y.0)
        | inr y ↦ w.each k was is s.1 y.1
      ]
    ];
  }

  first_put : (p : ℕ) (row : List (Piece M T)) (x : Piece M T) (opening now : List (List (Piece M T))) (here : List (Piece M T)) → slice_get now p ≡ Some here → RowsStand b m hubs opening now → LastStands row x here → FirstStands p row x opening now
  first_put p row x opening now here at w l = record {
    last = l.last;
    lower = slice_set now p l.rest;
    stands = l.stands;
    rows = rows_set p row l.rest opening now w l.others;
    put = record {
      row = l.rest;
      there = set_there now p here l.rest at;
      put = sym (set_again now p l.rest (l.rest ++ l.last ∷ []) ∙ (ap (slice_set now p) (sym l.is) ∙ set_same now p here at));
    };
  }

  first_stands : (p : ℕ) (row : List (Piece M T)) (x : Piece M T) (opening now : List (List (Piece M T))) → slice_get opening p ≡ Some (row ++ x ∷ []) → RowsStand b m hubs opening now → FirstStands p row x opening now
  first_stands p row x opening now there w =
      let within = slice_get_within opening p (row ++ x ∷ []) there in
      let size = w.count in
      let here = there_of now p (omega (arith, within, size)) in
      first_put p row x opening now here.0 here.1 w (last_stands row x here.0 (w.each p (row ++ x ∷ []) here.0 there here.1))

  one_more : (x : Piece M T) (xs : List (Piece M T)) (y : Piece M T) (ys : List (Piece M T)) → StandsSince b m hubs x y → RegionStands b m hubs xs ys → RegionStands b m hubs (x ∷ xs) (y ∷ ys)
  one_more x xs y ys one rest = record { count = ap suc rest.count; each = of }
    where
      of : (k : ℕ) (p q : Piece M T) → slice_get (x ∷ xs) k ≡ Some p → slice_get (y ∷ ys) k ≡ Some q → StandsSince b m hubs p q
      of zero p q first now = subst (λ (z : Piece M T). StandsSince b m hubs z q) (same_some x p first) (subst (λ (z : Piece M T). StandsSince b m hubs x z) (same_some y q now) one)
      of (suc k) p q first now = rest.each k p q first now

  none_stand : RegionStands b m hubs [] []
  none_stand = record { count = refl; each = λ k p q at there. absurd (nothing_there k p at) }

  -- the pieces that are taken out of rows which stand for other rows stand for those that were put into these
  pub record StandIn (ps : List ℕ) (xs : List (Piece M T)) (now : List (List (Piece M T))) : Type 0 where
    pub base : List (List (Piece M T))
    pub pieces : List (Piece M T)
    pub are : AreIn base ps pieces now
    pub stand : RegionStands b m hubs xs pieces

  more_in : (p : ℕ) (ps : List ℕ) (xs others : List (Piece M T)) (x last : Piece M T) (lower now : List (List (Piece M T))) → xs ≡ x ∷ others → StandsSince b m hubs x last → IsPut lower p last now → StandIn ps others lower → StandIn (p ∷ ps) xs now
  more_in p ps xs others x last lower now all one put r = record {
    base = r.base;
    pieces = last ∷ r.pieces;
    are = (last, r.pieces, lower, refl, r.are, put);
    stand = subst (λ (z : List (Piece M T)). RegionStands b m hubs z (last ∷ r.pieces)) (sym all) (one_more x others last r.pieces one r.stand);
  }

  pub stand_in : (base : List (List (Piece M T))) (ps : List ℕ) (xs : List (Piece M T)) (opening now : List (List (Piece M T))) → AreIn base ps xs opening → RowsStand b m hubs opening now → StandIn ps xs now
  stand_in base [] xs opening now h w =
      let R : List (Piece M T) → Type 0 = λ l. RegionStands b m hubs l [] in
      record { base = now; pieces = []; are = (refl, refl); stand = subst R (sym h.0) none_stand }
  stand_in base (p ∷ ps) xs opening now h w =
      let t = taken_first base p ps xs opening h in
      let f = first_stands p t.row t.x opening now t.there w in
      more_in p ps xs t.others t.x f.last f.lower now t.all f.stands f.put (stand_in base ps t.others (slice_set opening p t.row) f.lower t.rest f.rows)
