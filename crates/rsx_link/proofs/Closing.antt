-- What the last words say, once the seats of both ends and of the cancellers are one.
use Rattle.std.proofs.Common.{◌≡◌, ℕ, ◌<◌, ◌≤◌, true, List, [], ◌∷◌, ◌++◌, sym, ap, ◌∙◌, subst, arith}
use mathlib.Core.Option.{some, some-injective}
use lib.ListN.{get_elem?}
use Rattle.atomic_table.specs.Table.{Final, Seen}
use Rattle.rsx_link.specs.declared.view.View.{View}
use Rattle.rsx_link.specs.declared.view.Role.TheVariants.{Downstream}
use Rattle.rsx_link.specs.declared.view.Step.{Step}
use Rattle.rsx_link.specs.Steps.{has_cancel, has_refusal, asked_of, seen_of, flags_of, cancel_count, is_refused}
use Rattle.rsx_link.specs.Link.{lists_of, joined, total, view_cancels, is_positive, flags, Knows, AllKnow, Linked}
use Rattle.rsx_link.specs.Parts.{IsWhole}
use Rattle.rsx_link.proofs.Shares.{only}
use Rattle.rsx_link.proofs.Totals.{total-append, le-total}
use Rattle.rsx_link.proofs.Flags.{has_cancel-flags, has_refusal-flags, positive}

-- one list among others
among : (steps : List Step) (c : ℕ) (xs : List (List Step)) (own : List Step) (ys : List (List Step)) → AllKnow steps c (xs ++ own ∷ ys) → Knows steps c own
among steps c [] own ys k = k.0
among steps c (x ∷ xs) own ys k = among steps c xs own ys k.1

front : (steps : List Step) (c : ℕ) (xs ys : List (List Step)) → AllKnow steps c (xs ++ ys) → AllKnow steps c xs
front steps c [] ys k = tt
front steps c (x ∷ xs) ys k = (k.0, front steps c xs ys k.1)

-- v is the receiving end's view, u the sending end's and w the cancellers', and a and f are the last words
pub record Tells (v u w : View) (a f : ℕ) : Type 0 where
  pub asked : a ≡ asked_of v.steps
  pub seen : seen_of u.steps ≤ a
  pub refused : has_refusal f ≡ is_refused v.steps
  pub refusal_seen : has_refusal (flags_of u.steps) ≡ true → has_refusal f ≡ true
  pub cancelled : 0 < view_cancels w → has_cancel f ≡ true
  pub whole : IsWhole w.parts → has_cancel f ≡ is_positive (view_cancels w)
  pub cancel_seen : has_cancel (flags_of u.steps) ≡ true → has_cancel f ≡ true

pub tells : (v u w m m' : View) (id : ℕ) (words : List ℕ) (slots : List Unit) (a f : ℕ) → v.role ≡ Downstream → (v.parts ≡ []) × (view_cancels v ≡ 0) → (u.parts ≡ []) × (view_cancels u ≡ 0)
    → m ≡ joined v u → m' ≡ joined m w
    → Final (Seen Linked id m') words slots → get_elem? words 0 ≡ some a → get_elem? words 1 ≡ some f → Tells v u w a f
tells v u w m m' id words slots a f is_down not_v not_u one_is two_is end first second =
    let s = end.0 in let linked = end.1.0 in
    let whole : m' ≡ joined (joined v u) w = two_is ∙ ap (λ (z : View). joined z w) one_is in
    let at = subst (λ (z : View). get_elem? s.views id ≡ some z) whole end.1.1 in let steps = linked.1 in let st = linked.2 in
    let c = total view_cancels s.views in let b = is_refused steps in
    let fit = st.fits id (joined (joined v u) w) at in
    let own = (fit.asks is_down).1 in
    let word : words ≡ asked_of steps ∷ flags (is_positive c) b ∷ [] = sym end.2 ∙ st.words in
    let total_is : a ≡ asked_of steps = some-injective _ _ (sym first ∙ ap (λ l. get_elem? l 0) word) in
    let flags_are : f ≡ flags (is_positive c) b = some-injective _ _ (sym second ∙ ap (λ l. get_elem? l 1) word) in
    let one : has_cancel f ≡ is_positive c = ap has_cancel flags_are ∙ has_cancel-flags (is_positive c) b in
    let two : has_refusal f ≡ b = ap has_refusal flags_are ∙ has_refusal-flags (is_positive c) b in
    let k = among steps c v.beside u.steps u.beside (front steps c (v.beside ++ lists_of u) (lists_of w) fit.knows.1) in
    let le = le-total view_cancels s.views id (joined (joined v u) w) at in
    let lists = total-append cancel_count (v.beside ++ lists_of u) (lists_of w) in
    record {
      asked = total_is ∙ ap asked_of (sym own);
      seen = let h = k.asked in omega arith;
      refused = two ∙ ap is_refused (sym own);
      refusal_seen = λ e. two ∙ k.refusal e;
      cancelled = λ h. one ∙ positive c (omega arith);
      whole = λ all.
          let lists' = total-append cancel_count v.beside (lists_of u) in
          let parts : (v.parts ++ u.parts) ++ w.parts ≡ w.parts = ap (λ (l : List ℕ). (l ++ u.parts) ++ w.parts) not_v.0 ∙ ap (λ (l : List ℕ). l ++ w.parts) not_u.0 in
          let known = only s.views id (joined (joined v u) w) at linked.3 (subst IsWhole (sym parts) all) in
          let here : c ≡ view_cancels w = let a = not_v.1 in let b' = not_u.1 in omega arith in
          one ∙ ap is_positive here;
      cancel_seen = λ e. one ∙ positive c (k.cancel e);
    }
