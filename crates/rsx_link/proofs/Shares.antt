-- The parts of the right to cancel stay one whole.
use Rattle.std.proofs.Common.{◌≡◌, ℕ, zero, suc, ◌+◌, ◌<◌, ◌≤◌, List, [], ◌∷◌, ◌++◌, set, refl, sym, ap, ◌∙◌, subst, ⊎_elim, arith}
use Rattle.rsx_types.proofs.Lists.{nil_before, nil_behind}
use mathlib.Core.Option.{some, some-injective, some-ne-none}
use lib.ListN.{get_elem?}
use Rattle.atomic_table.proofs.Lists.{at_set, at_snoc, set_else}
use Rattle.rsx_link.specs.declared.view.View.{View}
use Rattle.rsx_link.specs.declared.view.Role.TheVariants.{Joined}
use Rattle.rsx_link.specs.declared.view.Step.{Step}
use Rattle.rsx_link.specs.Steps.{cancel_of, cancel_count}
use Rattle.rsx_link.specs.Parts.{share, size, Within, halved, IsWhole}
use Rattle.rsx_link.specs.Link.{fresh, with_parts, more, lists_of, joined, total, view_cancels, Holds, IsShared}
use Rattle.rsx_link.proofs.Totals.{total-set, total-append}

-- ---- parts at another depth

share_deeper : (depth n : ℕ) → n ≤ depth → share (suc depth) n ≡ share depth n + share depth n
share_deeper zero zero h = refl
share_deeper zero (suc n) h = absurd (omega arith)
share_deeper (suc depth) zero h = refl
share_deeper (suc depth) (suc n) h = share_deeper depth n (omega arith)

within_deeper : (depth : ℕ) (ns : List ℕ) → Within depth ns → Within (suc depth) ns
within_deeper depth [] w = tt
within_deeper depth (n ∷ ns) w = (let h = w.0 in omega arith, within_deeper depth ns w.1)

size_deeper : (depth : ℕ) (ns : List ℕ) → Within depth ns → size (suc depth) ns ≡ size depth ns + size depth ns
size_deeper depth [] w = refl
size_deeper depth (n ∷ ns) w = let one = share_deeper depth n w.0 in let rest = size_deeper depth ns w.1 in omega arith

size-append : (depth : ℕ) (ms ns : List ℕ) → size depth (ms ++ ns) ≡ size depth ms + size depth ns
size-append depth [] ns = omega arith
size-append depth (m ∷ ms) ns = let h = size-append depth ms ns in omega arith

within-append : (depth : ℕ) (ms ns : List ℕ) → Within depth ms → Within depth ns → Within depth (ms ++ ns)
within-append depth [] ns v w = w
within-append depth (m ∷ ms) ns v w = (v.0, within-append depth ms ns v.1 w)

share_positive : (depth n : ℕ) → n ≤ depth → 0 < share depth n
share_positive zero zero h = omega arith
share_positive zero (suc n) h = absurd (omega arith)
share_positive (suc depth) zero h = let p = share_positive depth zero (omega arith) in omega arith
share_positive (suc depth) (suc n) h = share_positive depth n (omega arith)

no_parts : (depth : ℕ) (ns : List ℕ) → Within depth ns → size depth ns ≡ 0 → ns ≡ []
no_parts depth [] w e = refl
no_parts depth (n ∷ ns) w e = let p = share_positive depth n w.0 in absurd (omega arith)

within-halved : (depth : ℕ) (ns : List ℕ) → Within depth ns → Within (suc depth) (halved ns)
within-halved depth [] w = tt
within-halved depth (n ∷ ns) w = (let h = w.0 in omega arith, within-halved depth ns w.1)

size-halved : (depth : ℕ) (ns : List ℕ) → size (suc depth) (halved ns) ≡ size depth ns
size-halved depth [] = refl
size-halved depth (n ∷ ns) = ap (λ k. share depth n + k) (size-halved depth ns)

halved_none : (ns : List ℕ) → halved ns ≡ [] → ns ≡ []
halved_none [] e = refl
halved_none (n ∷ ns) e = cc

-- ---- cuts

-- two lists of parts are as much as one
pub Cuts : List ℕ → List ℕ → List ℕ → Type 0
Cuts ns ps qs = (depth : ℕ) → Within depth ns → Within (suc depth) ps × Within (suc depth) qs × (size (suc depth) ps + size (suc depth) qs ≡ size (suc depth) ns)

pub cut_all : (ns : List ℕ) → Cuts ns [] ns
unfolding Cuts
cut_all ns depth w = (tt, within_deeper depth ns w, omega arith)

pub cut_none : (ns : List ℕ) → Cuts ns ns []
unfolding Cuts
cut_none ns depth w = (within_deeper depth ns w, tt, omega arith)

pub cut_half : (ns : List ℕ) → Cuts ns (halved ns) (halved ns)
unfolding Cuts
cut_half ns depth w = let h = size-halved depth ns in let d = size_deeper depth ns w in (within-halved depth ns w, within-halved depth ns w, omega arith)

-- ---- all seats

total_deeper : (depth : ℕ) (views : List View) → ((o : ℕ) (v : View) → get_elem? views o ≡ some v → Holds depth v)
    → total (λ (v : View). size (suc depth) v.parts) views ≡ total (λ (v : View). size depth v.parts) views + total (λ (v : View). size depth v.parts) views
total_deeper depth [] each = refl
total_deeper depth (x ∷ xs) each =
    let one = size_deeper depth x.parts (each zero x refl).within in
    let rest = total_deeper depth xs (λ o v e. each (suc o) v e) in omega arith

deeper : (views : List View) (h : IsShared views) → IsShared views
deeper views h = record {
  depth = suc h.depth;
  whole = let e = total_deeper h.depth views h.each in let w = h.whole in omega arith;
  each = λ o v e. let held = h.each o v e in record { within = within_deeper h.depth v.parts held.within; idle = held.idle };
}

-- a seat makes a step; who cancels has a part
pub shares_step : (views : List View) (id : ℕ) (v : View) (x : Step) → get_elem? views id ≡ some v → (v.parts ≡ [] → cancel_of x ≡ 0) → IsShared views → IsShared (set views id (more v x))
shares_step views id v x at has h = record {
  depth = h.depth;
  whole = let e = total-set (λ (u : View). size h.depth u.parts) views id v (more v x) at in let w = h.whole in omega arith;
  each = λ o u e. ⊎_elim (λ t. subst (λ (z : View). Holds h.depth z) t.1 mine) (λ t. h.each o u t.1) (at_set views id o (more v x) u e);
}
  where
    mine : Holds h.depth (more v x)
    mine = let held = h.each id v at in record {
      within = held.within;
      idle = λ e. let one = has e in let rest = held.idle e in omega arith;
    }

-- a new seat, which has never cancelled, gets some of a seat's parts
pub shares_cut : (views : List View) (id : ℕ) (v right : View) (ps : List ℕ) → get_elem? views id ≡ some v → Cuts v.parts ps right.parts → (ps ≡ [] → view_cancels v ≡ 0)
    → view_cancels right ≡ 0 → IsShared views → IsShared (set views id (with_parts v ps) ++ right ∷ [])
unfolding Cuts
shares_cut views id v right ps at cut idle never h =
    let d = suc h.depth in let left = with_parts v ps in
    let parts = cut h.depth (h.each id v at).within in
    let below = deeper views h in record {
      depth = d;
      whole =
          let f : View → ℕ = λ (u : View). size d u.parts in
          let one = total-append f (set views id left) (right ∷ []) in
          let two = total-set f views id v left at in
          let all = total_deeper h.depth views h.each in
          let sum = parts.2 in
          let w = h.whole in omega arith;
      each = λ o u e. ⊎_elim
          (λ t. ⊎_elim (λ r. subst (λ (z : View). Holds d z) r.1 (record { within = parts.0; idle = idle }))
          (λ r. let held = h.each o u r.1 in record { within = within_deeper h.depth u.parts held.within; idle = held.idle }) (at_set views id o left u t))
          (λ t. subst (λ (z : View). Holds d z) t (record { within = parts.1; idle = λ _. never })) (at_snoc (set views id left) right u o e);
    }

-- who keeps half of its parts has a part, or never had one
pub half_idle : (v : View) (views : List View) (id : ℕ) → get_elem? views id ≡ some v → IsShared views → halved v.parts ≡ [] → view_cancels v ≡ 0
half_idle v views id at h e = (h.each id v at).idle (halved_none v.parts e)

pub halved_some : (ns : List ℕ) → (ns ≡ [] → ⊥) → halved ns ≡ [] → ⊥
halved_some ns has e = has (halved_none ns e)

pub joined_some : (ms ns : List ℕ) → (ms ≡ [] → ⊥) → ms ++ ns ≡ [] → ⊥
joined_some ms ns has e = has (nil_before ms ns e)

-- a seat takes another's parts
pub shares_join : (views : List View) (id : ℕ) (v : View) (other : ℕ) (w : View) → get_elem? views id ≡ some v → (other ≡ id → ⊥) → get_elem? (set views id (joined v w)) other ≡ some w
    → IsShared views → IsShared (set (set views id (joined v w)) other (fresh Joined []))
shares_join views id v other w at ne at' h = record {
  depth = h.depth;
  whole =
      let f : View → ℕ = λ (u : View). size h.depth u.parts in
      let one = total-set f views id v (joined v w) at in
      let two = total-set f (set views id (joined v w)) other w (fresh Joined []) at' in
      let sum = size-append h.depth v.parts w.parts in
      let whole = h.whole in omega arith;
  each = λ o u e. ⊎_elim
      (λ t. subst (λ (z : View). Holds h.depth z) t.1 (record { within = tt; idle = λ _. refl }))
      (λ t. ⊎_elim (λ r. subst (λ (z : View). Holds h.depth z) r.1 both) (λ r. h.each o u r.1) (at_set views id o (joined v w) u t.1))
      (at_set (set views id (joined v w)) other o (fresh Joined []) u e);
}
  where
    its : Holds h.depth w
    its = h.each other w (sym (set_else views id other (joined v w) ne) ∙ at')

    both : Holds h.depth (joined v w)
    both = let mine = h.each id v at in record {
      within = within-append h.depth v.parts w.parts mine.within its.within;
      idle = λ e.
          let one = mine.idle (nil_before v.parts w.parts e) in
          let two = its.idle (nil_behind v.parts w.parts e) in
          let lists = total-append cancel_count v.beside (lists_of w) in omega arith;
    }

-- ---- who has all parts

deeper_by : (n : ℕ) (views : List View) → (h : IsShared views) → (g : IsShared views) × (g.depth ≡ n + h.depth)
unfolding deeper
deeper_by zero views h = (h, omega arith)
deeper_by (suc n) views h = let g = deeper_by n views h in (deeper views g.0, let e = g.1 in omega arith)

whole_by : (n : ℕ) (ns : List ℕ) → (w : IsWhole ns) → (g : IsWhole ns) × (g.depth ≡ n + w.depth)
whole_by zero ns w = (w, omega arith)
whole_by (suc n) ns w = let g = whole_by n ns w in (
  record {
    depth = suc g.0.depth;
    within = within_deeper g.0.depth ns g.0.within;
    all = let e = size_deeper g.0.depth ns g.0.within in let a = g.0.all in omega arith;
  },
  let e = g.1 in omega arith,
)

none_else : (depth : ℕ) (views : List View) → ((o : ℕ) (v : View) → get_elem? views o ≡ some v → Holds depth v) → total (λ (v : View). size depth v.parts) views ≡ 0 → total view_cancels views ≡ 0
none_else depth [] each e = refl
none_else depth (x ∷ xs) each e =
    let held = each zero x refl in
    let here : view_cancels x ≡ 0 = held.idle (no_parts depth x.parts held.within (omega arith)) in
    let rest = none_else depth xs (λ o v a. each (suc o) v a) (omega arith) in omega arith

part_of : (depth : ℕ) (views : List View) (id : ℕ) (v : View) → get_elem? views id ≡ some v → size depth v.parts ≤ total (λ (u : View). size depth u.parts) views
part_of depth [] id v at = absurd (some-ne-none v (sym at))
part_of depth (x ∷ xs) zero v at = let e : size depth x.parts ≡ size depth v.parts = ap (λ (u : View). size depth u.parts) (some-injective x v at) in omega arith
part_of depth (x ∷ xs) (suc id) v at = let h = part_of depth xs id v at in omega arith

alone : (depth : ℕ) (views : List View) (id : ℕ) (v : View) → get_elem? views id ≡ some v → ((o : ℕ) (u : View) → get_elem? views o ≡ some u → Holds depth u)
    → total (λ (u : View). size depth u.parts) views ≡ size depth v.parts → total view_cancels views ≡ view_cancels v
alone depth [] id v at each e = absurd (some-ne-none v (sym at))
alone depth (x ∷ xs) zero v at each e =
    let one : size depth x.parts ≡ size depth v.parts = ap (λ (u : View). size depth u.parts) (some-injective x v at) in
    let two : view_cancels x ≡ view_cancels v = ap view_cancels (some-injective x v at) in
    let rest = none_else depth xs (λ o u a. each (suc o) u a) (omega arith) in omega arith
alone depth (x ∷ xs) (suc id) v at each e =
    let le = part_of depth xs id v at in
    let held = each zero x refl in
    let here : view_cancels x ≡ 0 = held.idle (no_parts depth x.parts held.within (omega arith)) in
    let rest = alone depth xs id v at (λ o u a. each (suc o) u a) (omega arith) in omega arith

-- who has the whole right to cancel knows of every cancel
pub only : (views : List View) (id : ℕ) (v : View) → get_elem? views id ≡ some v → IsShared views → IsWhole v.parts → total view_cancels views ≡ view_cancels v
only views id v at h w =
    let g = deeper_by w.depth views h in let u = whole_by h.depth v.parts w in
    let same : u.0.depth ≡ g.0.depth = let a = g.1 in let b = u.1 in omega arith in
    let all : size g.0.depth v.parts ≡ share g.0.depth 0 = subst (λ (n : ℕ). size n v.parts ≡ share n 0) same u.0.all in
    alone g.0.depth views id v at g.0.each (g.0.whole ∙ sym all)
