-- Each step of a link keeps its rule.
use Rattle.std.proofs.Common.{◌≡◌, ◌≢◌, ℕ, zero, suc, ◌+◌, ◌≤◌, Bool, true, List, [], ◌∷◌, ◌++◌, get_or, set, refl, sym, ap, ◌∙◌, subst, ⊎_elim, le_refl, le_trans, arith, bit_or}
use mathlib.Core.Option.{Option, some, none, some-injective, some-ne-none}
use lib.ListN.{get_elem?}
use Rattle.atomic_table.specs.Table.{State, Me, step, keeps, Allows, Splits, Joins, opening}
use Rattle.atomic_table.proofs.Lists.{at_set, at_snoc, set_else}
use Rattle.rsx_link.specs.declared.view.View.{View}
use Rattle.rsx_link.specs.declared.view.Role.{Role}
use Rattle.rsx_link.specs.declared.view.Role.TheVariants.{Upstream, Downstream, Canceller, Joined}
use Rattle.rsx_link.specs.declared.view.Step.{Step}
use Rattle.rsx_link.specs.declared.view.Step.TheVariants.{Ask, SeeAsked, SeeFlags, Cancel, Refuse}
use Rattle.rsx_link.specs.Steps.{has_cancel, has_refusal, asked_of, NeverFalls, seen_of, cancel_of, cancel_count, is_refused}
use Rattle.rsx_link.specs.Link.{fresh, informed, with_parts, newborn, more, lists_of, joined, total, view_cancels, is_positive, flags, Knows, AllKnow, Fits, Stands, Holds, IsShared, Linked}
use Rattle.rsx_link.specs.Plays.{asked, saw_asked, saw_flags, cancelled, refused}
use Rattle.rsx_link.proofs.Shares.{Cuts, shares_step, shares_cut, shares_join}
use Rattle.rsx_link.proofs.Totals.{total-set, total-append, le-total}
use Rattle.rsx_link.proofs.Flags.{or_one, or_two, has_cancel-flags, has_refusal-flags, positive, above_zero}

-- what was seen stays so where totals and flags only grow
knows_more : (steps steps' : List Step) (c c' : ℕ) (own : List Step) → asked_of steps ≤ asked_of steps' → c ≤ c' → (is_refused steps ≡ true → is_refused steps' ≡ true)
    → Knows steps c own → Knows steps' c' own
knows_more steps steps' c c' own grows le stays k = record {
  asked = le_trans k.asked grows;
  cancel = λ e. let h = k.cancel e in omega arith;
  refusal = λ e. stays (k.refusal e);
}

all_know_more : (steps steps' : List Step) (c c' : ℕ) (lists : List (List Step)) → asked_of steps ≤ asked_of steps' → c ≤ c' → (is_refused steps ≡ true → is_refused steps' ≡ true)
    → AllKnow steps c lists → AllKnow steps' c' lists
all_know_more steps steps' c c' [] grows le stays k = tt
all_know_more steps steps' c c' (own ∷ lists) grows le stays k =
    (knows_more steps steps' c c' own grows le stays k.0, all_know_more steps steps' c c' lists grows le stays k.1)

all_know-append : (steps : List Step) (c : ℕ) (xs ys : List (List Step)) → AllKnow steps c xs → AllKnow steps c ys → AllKnow steps c (xs ++ ys)
all_know-append steps c [] ys k l = l
all_know-append steps c (x ∷ xs) ys k l = (k.0, all_know-append steps c xs ys k.1 l)

-- who has made no step has seen nothing
knows_nothing : (steps : List Step) (c : ℕ) → Knows steps c []
knows_nothing steps c = record { asked = omega arith; cancel = λ e. absurd (cc); refusal = λ e. absurd (cc) }

-- a seat makes one step, and the others' knowledge stays true
after : (s : State Unit View) (down : ℕ) (steps steps' : List Step) (words : List ℕ) (c' id : ℕ) (v : View) (x : Step) (homes : List (Option Unit))
    → get_elem? s.views id ≡ some v
    → Stands down steps s
    → c' ≡ total view_cancels s.views + cancel_of x
    → words ≡ asked_of steps' ∷ flags (is_positive c') (is_refused steps') ∷ []
    → NeverFalls steps'
    → asked_of steps ≤ asked_of steps'
    → (is_refused steps ≡ true → is_refused steps' ≡ true)
    → (v.role ≡ Downstream → (id ≡ down) × (x ∷ v.steps ≡ steps'))
    → ((o : ℕ) → o ≢ id → o ≡ down → steps ≡ steps')
    → Knows steps' c' (x ∷ v.steps)
    → Stands down steps' record { words = words; homes = homes; views = set s.views id (more v x) }
after s down steps steps' words c' id v x homes at st count word rises grows stays own others sees =
    let c = total view_cancels s.views in
    let sum = total-set view_cancels s.views id v (more v x) at in
    let now : total view_cancels (set s.views id (more v x)) ≡ c' = omega arith in
    let le : c ≤ c' = omega arith in
    let mine : Fits down steps' c' id (more v x) = record {
      asks = own;
      knows = (sees, all_know_more steps steps' c c' v.beside grows le stays (st.fits id v at).knows.1);
    } in record {
      words = word ∙ ap (λ (n : ℕ). asked_of steps' ∷ flags (is_positive n) (is_refused steps') ∷ []) (sym now);
      rises = rises;
      fits = λ o u e. subst (λ (n : ℕ). Fits down steps' n o u) (sym now)
          (⊎_elim (λ t. subst (λ (z : View). Fits down steps' c' o z) t.1 (subst (λ (k : ℕ). Fits down steps' c' k (more v x)) (sym t.0) mine))
          (λ t. other le o u t.0 (st.fits o u t.1)) (at_set s.views id o (more v x) u e));
    }
  where
    other : total view_cancels s.views ≤ c' → (o : ℕ) (u : View) → o ≢ id → Fits down steps (total view_cancels s.views) o u → Fits down steps' c' o u
    other le o u ne f = record {
      asks = λ r. let a = f.asks r in (a.0, a.1 ∙ others o ne a.0);
      knows = all_know_more steps steps' (total view_cancels s.views) c' (lists_of u) grows le stays f.knows;
    }

-- the sending end looks at the total
pub sees_asked : (n id : ℕ) (me : Me Unit View) → me.0.role ≡ Upstream → Allows Linked n id me 0 (λ y. y) (saw_asked (step n 0 0 0 none) me)
sees_asked n id me up s h wide at _ =
    let steps = h.1 in let st = h.2 in let c = total view_cancels s.views in let b = is_refused steps in
    let found : ℕ = get_or s.words 0 0 in
    let is : found ≡ asked_of steps = ap (λ l. get_or l 0 0) st.words in
    let k = (st.fits id me.0 at).knows.0 in
    let seen : seen_of me.0.steps ≤ found = let a = k.asked in omega arith in (
      more me.0 (SeeAsked found),
      keeps,
      tt,
      (
        h.0,
        steps,
        after s h.0 steps steps (set s.words 0 found) c id me.0 (SeeAsked found) s.homes at st (omega arith)
            (ap (λ l. set l 0 found) st.words ∙ ap (λ (k : ℕ). k ∷ flags (is_positive c) b ∷ []) is) st.rises (le_refl (asked_of steps)) (λ e. e)
            (λ r. absurd (cc)) (λ o ne e. refl)
            (record { asked = omega arith; cancel = k.cancel; refusal = k.refusal }),
        shares_step s.views id me.0 (SeeAsked found) at (λ _. refl) h.3,
      ),
      (refl, seen),
    )

-- and at the flags
pub sees_flags : (n id : ℕ) (me : Me Unit View) → me.0.role ≡ Upstream → Allows Linked n id me 1 (λ y. y) (saw_flags (step n 1 0 0 none) me)
sees_flags n id me up s h wide at _ =
    let steps = h.1 in let st = h.2 in let c = total view_cancels s.views in let b = is_refused steps in
    let found : ℕ = get_or s.words 1 0 in
    let is : found ≡ flags (is_positive c) b = ap (λ l. get_or l 1 0) st.words in
    let one : has_cancel found ≡ is_positive c = ap has_cancel is ∙ has_cancel-flags (is_positive c) b in
    let two : has_refusal found ≡ b = ap has_refusal is ∙ has_refusal-flags (is_positive c) b in
    let k = (st.fits id me.0 at).knows.0 in (
      more me.0 (SeeFlags found),
      keeps,
      tt,
      (
        h.0,
        steps,
        after s h.0 steps steps (set s.words 1 found) c id me.0 (SeeFlags found) s.homes at st (omega arith)
            (ap (λ l. set l 1 found) st.words ∙ ap (λ (k : ℕ). asked_of steps ∷ k ∷ []) is) st.rises (le_refl (asked_of steps)) (λ e. e)
            (λ r. absurd (cc)) (λ o ne e. refl)
            (record { asked = k.asked; cancel = λ e. above_zero c (sym one ∙ e); refusal = λ e. sym two ∙ e }),
        shares_step s.views id me.0 (SeeFlags found) at (λ _. refl) h.3,
      ),
      (refl, (λ e. one ∙ positive c (k.cancel e)), (λ e. two ∙ k.refusal e)),
    )

-- the receiving end stores a total that is no smaller
pub asks : (n id new : ℕ) (me : Me Unit View) → me.0.role ≡ Downstream → asked_of me.0.steps ≤ new → Allows Linked n id me 0 (λ _. new) (λ _. asked (step n 0 new 0 none) me new)
asks n id new me is_down grows s h wide at _ =
    let steps = h.1 in let st = h.2 in let c = total view_cancels s.views in let b = is_refused steps in
    let fit = st.fits id me.0 at in let is = fit.asks is_down in
    let more_now : asked_of steps ≤ new = let e = ap asked_of is.1 in omega arith in
    let k = fit.knows.0 in (
      more me.0 (Ask new),
      keeps,
      tt,
      (
        h.0,
        Ask new ∷ steps,
        after s h.0 steps (Ask new ∷ steps) (set s.words 0 new) c id me.0 (Ask new) s.homes at st (omega arith)
            (ap (λ l. set l 0 new) st.words) (more_now, st.rises) more_now (λ e. e)
            (λ r. (is.0, ap (λ (l : List Step). Ask new ∷ l) is.1)) (λ o ne e. absurd (ne (e ∙ sym is.0)))
            (record { asked = le_trans k.asked more_now; cancel = k.cancel; refusal = k.refusal }),
        shares_step s.views id me.0 (Ask new) at (λ _. refl) h.3,
      ),
      refl,
    )

-- a canceller sets flag 1
pub cancels : (n id : ℕ) (me : Me Unit View) → me.0.role ≡ Canceller → (me.0.parts ≡ [] → ⊥) → Allows Linked n id me 1 (λ y. bit_or y 1) (cancelled (step n 1 1 0 none) me)
cancels n id me role has s h wide at _ =
    let steps = h.1 in let st = h.2 in let c = total view_cancels s.views in let b = is_refused steps in
    let found : ℕ = get_or s.words 1 0 in
    let is : found ≡ flags (is_positive c) b = ap (λ l. get_or l 1 0) st.words in
    let one : has_cancel found ≡ is_positive c = ap has_cancel is ∙ has_cancel-flags (is_positive c) b in
    let k = (st.fits id me.0 at).knows.0 in
    let le = le-total view_cancels s.views id me.0 at in (
      more me.0 (Cancel found),
      keeps,
      tt,
      (
        h.0,
        steps,
        after s h.0 steps steps (set s.words 1 (bit_or found 1)) (c + 1) id me.0 (Cancel found) s.homes at st refl
            (ap (λ l. set l 1 (bit_or found 1)) st.words ∙ ap (λ (k : ℕ). asked_of steps ∷ bit_or k 1 ∷ []) is ∙ ap (λ (k : ℕ). asked_of steps ∷ k ∷ []) (or_one (is_positive c) b)
            ∙ ap (λ (z : Bool). asked_of steps ∷ flags z b ∷ []) (sym (positive (c + 1) (omega arith)))) st.rises (le_refl (asked_of steps)) (λ e. e)
            (λ r. absurd (cc)) (λ o ne e. refl)
            (record { asked = k.asked; cancel = λ _. omega arith; refusal = k.refusal }),
        shares_step s.views id me.0 (Cancel found) at (λ e. absurd (has e)) h.3,
      ),
      (refl, (λ some. one ∙ positive c (omega arith))),
    )

-- the receiving end sets flag 2
pub refuses : (n id : ℕ) (me : Me Unit View) → me.0.role ≡ Downstream → Allows Linked n id me 1 (λ y. bit_or y 2) (refused (step n 1 2 0 none) me)
refuses n id me is_down s h wide at _ =
    let steps = h.1 in let st = h.2 in let c = total view_cancels s.views in let b = is_refused steps in
    let found : ℕ = get_or s.words 1 0 in
    let is : found ≡ flags (is_positive c) b = ap (λ l. get_or l 1 0) st.words in
    let two : has_refusal found ≡ b = ap has_refusal is ∙ has_refusal-flags (is_positive c) b in
    let fit = st.fits id me.0 at in let mine = fit.asks is_down in
    let k = fit.knows.0 in (
      more me.0 (Refuse found),
      keeps,
      tt,
      (
        h.0,
        Refuse found ∷ steps,
        after s h.0 steps (Refuse found ∷ steps) (set s.words 1 (bit_or found 2)) c id me.0 (Refuse found) s.homes at st (omega arith)
            (ap (λ l. set l 1 (bit_or found 2)) st.words ∙ ap (λ (k : ℕ). asked_of steps ∷ bit_or k 2 ∷ []) is ∙ ap (λ (k : ℕ). asked_of steps ∷ k ∷ []) (or_two (is_positive c) b))
            (le_refl (asked_of steps), st.rises) (le_refl (asked_of steps)) (λ _. refl)
            (λ r. (mine.0, ap (λ (l : List Step). Refuse found ∷ l) mine.1)) (λ o ne e. absurd (ne (e ∙ sym mine.0)))
            (record { asked = k.asked; cancel = k.cancel; refusal = λ _. refl }),
        shares_step s.views id me.0 (Refuse found) at (λ _. refl) h.3,
      ),
      (refl, two ∙ ap is_refused (sym mine.1)),
    )

-- a new seat, which is no receiving end and has never cancelled, gets some of the parts, and knows what is so
splits_off : (id : ℕ) (v new : View) (ps : List ℕ) → (new.role ≡ Downstream → ⊥) → Cuts v.parts ps new.parts → ((views : List View) → get_elem? views id ≡ some v → IsShared views → ps ≡ [] → view_cancels v ≡ 0)
    → view_cancels new ≡ 0 → ((down : ℕ) (steps : List Step) (c : ℕ) → Fits down steps c id v → AllKnow steps c (lists_of new)) → Splits Linked id v (with_parts v ps) new
splits_off id v new ps apart cut idle never known s h at =
    let steps = h.1 in let st = h.2 in let c = total view_cancels s.views in let left = with_parts v ps in
    let first = total-set view_cancels s.views id v left at in
    let sum = total-append view_cancels (set s.views id left) (new ∷ []) in
    let none = never in
    let now : total view_cancels (set s.views id left ++ new ∷ []) ≡ c = omega arith in
    let mine = st.fits id v at in
    let kept : Fits h.0 steps c id left = record { asks = mine.asks; knows = mine.knows } in
    let added : (o : ℕ) → Fits h.0 steps c o new = λ o. record { asks = λ e. absurd (apart e); knows = known h.0 steps c mine } in (
      h.0,
      steps,
      record {
        words = st.words ∙ ap (λ (n : ℕ). asked_of steps ∷ flags (is_positive n) (is_refused steps) ∷ []) (sym now);
        rises = st.rises;
        fits = λ o u e. subst (λ (n : ℕ). Fits h.0 steps n o u) (sym now)
            (⊎_elim
            (λ t. ⊎_elim (λ r. subst (λ (z : View). Fits h.0 steps c o z) r.1 (subst (λ (k : ℕ). Fits h.0 steps c k left) (sym r.0) kept)) (λ r. st.fits o u r.1) (at_set s.views id o left u t))
            (λ is. subst (λ (z : View). Fits h.0 steps c o z) is (added o)) (at_snoc (set s.views id left) new u o e));
      },
      shares_cut s.views id v new ps at cut (idle s.views at h.3) never h.3,
    )

-- a new seat has made no step
pub splits : (id : ℕ) (v : View) (r : Role) (ps qs : List ℕ) → (r ≡ Downstream → ⊥) → Cuts v.parts ps qs → ((views : List View) → get_elem? views id ≡ some v → IsShared views → ps ≡ [] → view_cancels v ≡ 0)
    → Splits Linked id v (with_parts v ps) (fresh r qs)
splits id v r ps qs apart cut idle = splits_off id v (fresh r qs) ps apart cut idle refl (λ down steps c mine. (knows_nothing steps c, tt))

-- the first seat has never cancelled, also once it asked
pub asked_never_cancels : (v w : View) (n : ℕ) → w ≡ more v (Ask n) → v ≡ newborn → view_cancels w ≡ 0
asked_never_cancels v w n is born = ap view_cancels (is ∙ ap (λ u. more u (Ask n)) born)

-- the receiving end tells the sending end's new seat its total
pub tells_total : (id : ℕ) (v : View) → v.role ≡ Downstream → Cuts v.parts v.parts [] → ((views : List View) → get_elem? views id ≡ some v → IsShared views → v.parts ≡ [] → view_cancels v ≡ 0)
    → Splits Linked id v v (informed (asked_of v.steps))
tells_total id v is cut idle = splits_off id v (informed (asked_of v.steps)) v.parts (λ e. cc) cut idle refl
    (λ down steps c mine. (record { asked = let same = ap asked_of (mine.asks is).1 in omega arith; cancel = λ e. absurd (cc); refusal = λ e. absurd (cc) }, tt))

-- a seat that takes another in knows what both knew
pub joins : (id : ℕ) (v : View) (other : ℕ) (w : View) → Joins Linked id v other w (joined v w) (fresh Joined [])
joins id v other w s h at ne at' =
    let down = h.0 in let steps = h.1 in let st = h.2 in let c = total view_cancels s.views in
    let both = joined v w in let spent = fresh Joined [] in let views = set s.views id both in
    let one = total-set view_cancels s.views id v both at in
    let two = total-set view_cancels views other w spent at' in
    let lists = total-append cancel_count v.beside (lists_of w) in
    let now : total view_cancels (set views other spent) ≡ c = omega arith in
    let its = st.fits other w (sym (set_else s.views id other both ne) ∙ at') in
    let mine = st.fits id v at in
    let kept : Fits down steps c id both = record { asks = mine.asks; knows = (mine.knows.0, all_know-append steps c v.beside (lists_of w) mine.knows.1 its.knows) } in
    let gone : (o : ℕ) → Fits down steps c o spent = λ o. record { asks = λ e. absurd (cc); knows = (knows_nothing steps c, tt) } in (
      down,
      steps,
      record {
        words = st.words ∙ ap (λ (n : ℕ). asked_of steps ∷ flags (is_positive n) (is_refused steps) ∷ []) (sym now);
        rises = st.rises;
        fits = λ o u e. subst (λ (n : ℕ). Fits down steps n o u) (sym now)
            (⊎_elim (λ t. subst (λ (z : View). Fits down steps c o z) t.1 (gone o))
            (λ t. ⊎_elim (λ r. subst (λ (z : View). Fits down steps c o z) r.1 (subst (λ (k : ℕ). Fits down steps c k both) (sym r.0) kept)) (λ r. st.fits o u r.1) (at_set s.views id o both u t.1))
            (at_set views other o spent u e));
      },
      shares_join s.views id v other w at ne at' h.3,
    )

-- at the start nothing was asked, and no flag is set
pub starts : Linked (opening (0 ∷ 0 ∷ []) [] newborn)
starts = (0, [], record { words = refl; rises = tt; fits = λ o v e. first o v e }, record { depth = 0; whole = refl; each = λ o v e. holds o v e })
  where
    first : (o : ℕ) (v : View) → get_elem? (newborn ∷ []) o ≡ some v → Fits 0 [] 0 o v
    first zero v e = subst (λ (u : View). Fits 0 [] 0 0 u) (some-injective _ _ e) (record { asks = λ _. (refl, refl); knows = (knows_nothing [] 0, tt) })
    first (suc o) v e = absurd (some-ne-none v (sym e))

    holds : (o : ℕ) (v : View) → get_elem? (newborn ∷ []) o ≡ some v → Holds 0 v
    holds zero v e = subst (λ (u : View). Holds 0 u) (some-injective _ _ e) (record { within = (omega arith, tt); idle = λ _. refl })
    holds (suc o) v e = absurd (some-ne-none v (sym e))
