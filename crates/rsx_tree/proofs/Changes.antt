-- How a change of one edge is put together from a change below a node, or beside it.
use Rattle.std.proofs.Common.{◌≡◌, inl, inr, ℕ, ◌+◌, ◌-◌, ◌<◌, ◌≤◌, min, Bool, true, false, ◌&&◌, nat_eq, nat_le, if◌then◌else◌, refl, ap, sym, ◌∙◌, subst, arith, Box, Global}
use Rattle.std.specs.Box.{with_value}
use Rattle.std.proofs.lemmas.Bool.{le-leb, lt-leb}
use Rattle.rsx_types.proofs.Numbers.{not_zero}
use Rattle.rsx_tree.specs.declared.edge.Edge.{Edge}
use Rattle.rsx_tree.specs.declared.inputs.Inputs.{Inputs}
use Rattle.rsx_tree.specs.declared.inputs.Inputs.TheViews.{More}
use Rattle.rsx_tree.specs.Inputs.{size, is_own, place, closed_row_if}
use Rattle.rsx_tree.specs.Changed.{Change, IsChanged}

-- inputs in their box
abbrev pub Rest : Type 0 → Type 0
Rest M = Box (Inputs M) Global

pub chosen_second : {A : Type 0} (b : Bool) (x y : A) → b ≡ false → (if b then x else y) ≡ y
chosen_second true x y e = cc
chosen_second false x y e = refl

pub chosen_first : {A : Type 0} (b : Bool) (x y : A) → b ≡ true → (if b then x else y) ≡ x
chosen_first true x y e = refl
chosen_first false x y e = cc

-- the number of nodes below, where there are fewer than were counted up to
pub counted_all : (k inside at : ℕ) → inside ≡ min k at → inside < at → inside ≡ k
counted_all k inside at e h = omega arith

pub counted_some : (k inside at : ℕ) → inside ≡ min k at → at ≤ inside → at ≤ k
counted_some k inside at e h = omega arith

-- ---- a change

pub changed_here : {M : Type 0} (P : Change M) (ends : M → Bool) (r r' : M) (i asked sent : ℕ) (old : Inputs M) (e e' : Edge) (n n' : M) (below beside : Rest M) (at : ℕ) →
    old ≡ More e n below beside → at ≡ 0 → P r i asked sent e n r' e' n' → IsChanged P ends r i asked sent old at r' (More e' n' below beside)
changed_here {M} P ends r r' i asked sent old e e' n n' below beside at is z p =
    let Q : Inputs M → Type 0 = λ t. IsChanged P ends r i asked sent t at r' (More e' n' below beside) in
    subst Q (sym is) (inl (record { e' = e'; n' = n'; at_is = z; made = p; new_is = refl }))

pub changed_beside : {M : Type 0} (P : Change M) (ends : M → Bool) (r r' : M) (i asked sent : ℕ) (old : Inputs M) (e : Edge) (n : M) (below beside : Rest M) (under was new : Inputs M) (at inside : ℕ) →
    old ≡ More e n below beside → under ≡ below.value → was ≡ beside.value → inside ≡ min (size under) at → inside < at →
    IsChanged P ends r (i + 1) asked sent was (at - 1 - inside) r' new → IsChanged P ends r i asked sent old at r' (More e n below (with_value beside new))
changed_beside {M} P ends r r' i asked sent old e n below beside under was new at inside is u w c far h =
    let Q : Inputs M → Type 0 = λ t. IsChanged P ends r i asked sent t at r' (More e n below (with_value beside new)) in
    let all : inside ≡ size below.value = counted_all (size under) inside at c far ∙ ap size u in
    let L : ℕ → Type 0 = λ k. k < at in
    let A : ℕ → Type 0 = λ k. IsChanged P ends r (i + 1) asked sent was (at - 1 - k) r' new in
    let W : Inputs M → Type 0 = λ t. IsChanged P ends r (i + 1) asked sent t (at - 1 - size below.value) r' new in
    subst Q (sym is) (inr (inr (record { beside' = new; beyond = subst L all far; made = subst W w (subst A all h); new_is = refl })))

pub changed_below : {M : Type 0} (P : Change M) (ends : M → Bool) (r : M) (i asked sent : ℕ) (old : Inputs M) (e : Edge) (n n' : M) (below beside : Rest M) (under was mid new : Inputs M) (at inside : ℕ) →
    old ≡ More e n below beside → under ≡ below.value → was ≡ below.value → inside ≡ min (size under) at → 0 < at → at ≤ inside →
    IsChanged P ends n 0 e.demand.asked e.demand.sent was (at - 1) n' mid → new ≡ closed_row_if (ends n' && is_own was (at - 1)) mid →
    IsChanged P ends r i asked sent old at r (More e n' (with_value below new) beside)
changed_below {M} P ends r i asked sent old e n n' below beside under was mid new at inside is u w c above near h shut =
    let Q : Inputs M → Type 0 = λ t. IsChanged P ends r i asked sent t at r (More e n' (with_value below new) beside) in
    let W : Inputs M → Type 0 = λ t. IsChanged P ends n 0 e.demand.asked e.demand.sent t (at - 1) n' mid in
    let S : Inputs M → Type 0 = λ t. at ≤ size t in
    let fit : new ≡ closed_row_if (ends n' && is_own below.value (at - 1)) mid = shut ∙ ap (λ t. closed_row_if (ends n' && is_own t (at - 1)) mid) w in
    subst Q (sym is) (inr (inl (record {
      n' = n';
      mid = mid;
      above = above;
      within = subst S u (counted_some (size under) inside at c near);
      receiver = refl;
      made = subst W w h;
      new_is = ap (λ t. More e n' (with_value below t) beside) fit;
    })))

-- ---- a place

pub place_beside : {M : Type 0} (r : M) (i asked sent : ℕ) (old : Inputs M) (e : Edge) (n : M) (below beside : Rest M) (under was : Inputs M) (at inside : ℕ) →
    old ≡ More e n below beside → under ≡ below.value → was ≡ beside.value → inside ≡ min (size under) at → inside < at →
    place r i asked sent old at ≡ place r (i + 1) asked sent was (at - 1 - inside)
place_beside {M} r i asked sent old e n below beside under was at inside is u w c far =
    let all : inside ≡ size below.value = counted_all (size under) inside at c far ∙ ap size u in
    let L : ℕ → Type 0 = λ k. k < at in
    let beyond : size below.value < at = subst L all far in
    let above : 0 < at = omega arith in
    ap (λ t. place r i asked sent t at) is
    ∙ (chosen_second (nat_eq at 0) _ _ (not_zero at above)
    ∙ (chosen_second (nat_le at (size below.value)) (place n 0 e.demand.asked e.demand.sent below.value (at - 1)) (place r (i + 1) asked sent beside.value (at - 1 - size below.value)) (lt-leb at (size below.value) beyond)
    ∙ (ap (λ k. place r (i + 1) asked sent beside.value (at - 1 - k)) (sym all) ∙ ap (λ t. place r (i + 1) asked sent t (at - 1 - inside)) (sym w))))

pub place_below : {M : Type 0} (r : M) (i asked sent : ℕ) (old : Inputs M) (e : Edge) (n : M) (below beside : Rest M) (under was : Inputs M) (at inside : ℕ) →
    old ≡ More e n below beside → under ≡ below.value → was ≡ below.value → inside ≡ min (size under) at → 0 < at → at ≤ inside →
    place r i asked sent old at ≡ place n 0 e.demand.asked e.demand.sent was (at - 1)
place_below {M} r i asked sent old e n below beside under was at inside is u w c above near =
    let S : Inputs M → Type 0 = λ t. at ≤ size t in
    let within : at ≤ size below.value = subst S u (counted_some (size under) inside at c near) in
    ap (λ t. place r i asked sent t at) is
    ∙ (chosen_second (nat_eq at 0) _ _ (not_zero at above)
    ∙ (chosen_first (nat_le at (size below.value)) (place n 0 e.demand.asked e.demand.sent below.value (at - 1)) (place r (i + 1) asked sent beside.value (at - 1 - size below.value)) (le-leb at (size below.value) within)
    ∙ ap (λ t. place n 0 e.demand.asked e.demand.sent t (at - 1)) (sym w)))
