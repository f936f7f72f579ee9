-- A subscription that stands for its past keeps the headline.
use Rattle.rsx_sources.specs.declared.machine.Machine.{Ghosts as Machine}
use Rattle.rsx_subscriber.proofs.Laws.{Laws}
use Rattle.std.proofs.Common.{◌≡◌, refl, ℕ, suc, List, [], ◌∷◌, ◌++◌, length, sym, ap, ◌∙◌, subst, arith, append_assoc, map, Option, Some, None, option_map}
use Rattle.rsx_sources.specs.Prelude.{Meaning, notes_then, unchosen, Stream, signals, signals_then, item_then, ended_by, Signal, Next, Complete, Error, Note, Ending}
use Rattle.rsx_tree.specs.declared.edge.EdgeState.{EdgeState}
use Rattle.rsx_tree.specs.declared.edge.EdgeState.TheVariants.{Live as EdgeLive, Closed as EdgeClosed, Ended as EdgeEnded}
use Rattle.rsx_tree.proofs.Residuals.{tree_some}
use Rattle.rsx_pipe.specs.Part.{IsPartResidual}
use Rattle.rsx_pipe.specs.Tree.{comes_out, notes_of}
use Rattle.rsx_model.specs.Check.{refusal}
use Rattle.rsx_model.proofs.UntilStop.{until_stop_law}
use Rattle.rsx_pipe.proofs.Parts.{values_then-again}
use Rattle.rsx_pipe.proofs.Signals.{map_then-append, prefix_of_orderly}
use Rattle.rsx_pipe.proofs.Trees.{notes_then-unchosen, unchosen_notes, unchosen_tree}
use Rattle.rsx_subscriber.proofs.Values.{notes_count, signals_ended, value_there}
use Rattle.rsx_subscriber.specs.Holds.{Holds}
use Rattle.rsx_subscriber.specs.Past.{Past, IsLive, IsPrefixOf, IsUnended, items_in}
use Rattle.rsx_subscriber.specs.Stands.{Stands, evaluated, owed_from, standing_of, values_then, IsStillOwed}
use Rattle.rsx_subscriber.specs.declared.state.SubscriptionState.{SubscriptionState}
use Rattle.rsx_subscriber.specs.declared.state.SubscriptionState.TheVariants.{Open, Ended}
use Rattle.rsx_subscriber.specs.declared.subscription.Subscription.{Subscription}

-- what a live subscriber received, followed by what it is owed, is its expression's value
pub live_value : {M T : Type 0} (mc : Machine M T) (m : Meaning T) (published : List (Stream T)) (sub : Subscription M T) (past : Past T) → Stands mc m published sub past → IsLive (standing_of sub) → (more : List (Stream T)) (further : List Note) → length further ≡ length (notes_of mc sub.part.tree) →
    option_map (signals_then past.received) (owed_from mc m (values_then published more) further sub) ≡ evaluated m (values_then published more) past (notes_then (notes_of mc sub.part.tree) further)
live_value {M} {T} mc m published sub past h live more further len =
    let still : Option (Stream T) = comes_out mc m (values_then published more) further sub.part.tree 0 in
    sym (map_then-append past.received sub.queue still) ∙ (ap (λ l. option_map (signals_then l) still) (h.held live) ∙ h.part.value more further len)

prefix_on : {A : Type 0} (xs ys zs : List A) → IsPrefixOf xs ys → IsPrefixOf ys zs → IsPrefixOf xs zs
prefix_on xs ys zs a b = (a.0 ++ b.0, sym (append_assoc xs a.0 b.0) ∙ (ap (λ l. l ++ b.0) a.1 ∙ b.1))

-- the same where this is published besides and nothing more is chosen
owed_now : {M T : Type 0} (mc : Machine M T) (m : Meaning T) (published more : List (Stream T)) (sub : Subscription M T) (past : Past T) → Stands mc m published sub past → IsLive (standing_of sub) →
    option_map (signals_then past.received) (owed_from mc m (values_then published more) (map unchosen (notes_of mc sub.part.tree)) sub) ≡ evaluated m (values_then published more) past (notes_of mc sub.part.tree)
owed_now {M} {T} mc m published more sub past h live =
    let ns : List Note = notes_of mc sub.part.tree in
    live_value mc m published sub past h live more (map unchosen ns) (unchosen_notes ns) ∙ ap (λ k. evaluated m (values_then published more) past k) (notes_then-unchosen ns)

pub values_then-length : {T : Type 0} (vs is : List (Stream T)) → length is ≡ length vs → length (values_then vs is) ≡ length vs
values_then-length [] is e = e
values_then-length (v ∷ vs) [] e = absurd (omega (arith, e))
values_then-length (v ∷ vs) (i ∷ is) e = ap suc (values_then-length vs is (omega (arith, e)))

-- where the hubs took in `taken` of what was published, and `waiting` of it stands in their inboxes
pub holds : {M T : Type 0} (mc : Machine M T) (lw : Laws mc) (m : Meaning T) (taken waiting : List (Stream T)) (sub : Subscription M T) (past : Past T) → Stands mc m taken sub past → length waiting ≡ length taken → Holds mc m (values_then taken waiting) sub past
holds {M} {T} mc lw m taken waiting sub past h same =
    let L : SubscriptionState → Type 0 = λ s. IsLive s in
    let R : ℕ → Type 0 = λ n. refusal n past.expression ≡ None in
    let there = value_there mc lw m taken waiting sub.part past.expression past.joins h.output h.part in
    record {
      live = λ l more further len.
          let V : List (Stream T) → Type 0 = λ w. option_map (signals_then past.received) (owed_from mc m w further sub) ≡ evaluated m w past (notes_then (notes_of mc sub.part.tree) further) in
          subst V (sym (values_then-again taken waiting more)) (live_value mc m taken sub past h (subst L (sym h.state) l) (values_then waiting more) further len);
      value = signals_then h.output there.left;
      scratch = (subst R (sym (values_then-length taken waiting same)) h.admitted, (notes_count mc sub.part.tree ∙ h.shape, h.joined), until_stop_law m (values_then taken waiting) past.joins (notes_of mc sub.part.tree) past.expression (signals_then h.output there.left) there.value);
      until_stop = there.value;
      owed = λ l. owed_now mc m taken waiting sub past h (subst L (sym h.state) l) ∙ there.value;
      whole = λ e.
          let ended : standing_of sub ≡ Ended = h.state ∙ e in
          signals_ended past.received sub.queue there.left h.orderly (h.got ended) ∙ ap (λ o. signals (signals_then o there.left)) (h.held (rw ended tt));
      asked = omega (arith, h.delivered, h.requested, sub.demand.covered);
      ended = h.orderly;
      prefix = λ dead more further len v e.
          let W : List (Stream T) → Type 0 = λ w. evaluated m w past (notes_then (notes_of mc sub.part.tree) further) ≡ Some v in
          prefix_on (items_in past.received) (items_in h.output) v.items (h.begun (λ l. dead (subst L h.state l)))
          (prefix_of_orderly h.output (comes_out mc m (values_then taken (values_then waiting more)) further sub.part.tree 0) v h.part.orderly (h.part.value (values_then waiting more) further len ∙ subst W (values_then-again taken waiting more) e));
    }

-- ---- what is owed

-- behind an ending nothing comes
cut_there : {T : Type 0} (queue : List (Signal T)) (u v : Stream T) → (IsUnended queue → ⊥) → signals_then queue u ≡ signals_then queue v
cut_there [] u v h = absurd (h tt)
cut_there (Next x ∷ ss) u v h = ap (item_then x) (cut_there ss u v h)
cut_there (Complete ∷ ss) u v h = refl
cut_there (Error c ∷ ss) u v h = refl

unended_both : {T : Type 0} (xs ys : List (Signal T)) → IsUnended xs → IsUnended ys → IsUnended (xs ++ ys)
unended_both [] ys h k = k
unended_both (Next x ∷ xs) ys h k = unended_both xs ys h k
unended_both (Complete ∷ xs) ys h k = absurd h
unended_both (Error c ∷ xs) ys h k = absurd h

pub still_owed : {M T : Type 0} (mc : Machine M T) (lw : Laws mc) (m : Meaning T) (inboxes : List (Stream T)) (sub : Subscription M T) (rest v : Stream T) → IsPartResidual mc m inboxes sub.part rest → v ≡ signals_then sub.queue rest → IsStillOwed mc m inboxes sub v
still_owed {M} {T} mc lw m inboxes sub rest v is e published whole past h o behind = by_edge sub.part.root.state refl
  where
    live : IsLive (standing_of sub)
    live = rw o tt

    some : (u : Stream T) × (comes_out mc m whole (map unchosen (notes_of mc sub.part.tree)) sub.part.tree 0 ≡ Some u)
    some = tree_some mc m ((lw m).0) whole (map unchosen (notes_of mc sub.part.tree)) sub.part.tree 0 (unchosen_tree mc sub.part.tree)

    by_edge : (s : EdgeState) → sub.part.root.state ≡ s → owed_from mc m whole (map unchosen (notes_of mc sub.part.tree)) sub ≡ Some v
    by_edge EdgeLive s = ap (option_map (signals_then sub.queue)) (is whole (h.part.balance s) (behind s)) ∙ ap Some (sym e)
    by_edge EdgeClosed s = absurd (h.unclosed live s)
    by_edge EdgeEnded s =
        ap (option_map (signals_then sub.queue)) some.1
        ∙ ap Some (cut_there sub.queue some.0 rest (λ k. h.part.ended s (subst IsUnended (h.held live) (unended_both past.received sub.queue (h.waits o) k))) ∙ sym e)

pub owes : {M T : Type 0} (mc : Machine M T) (m : Meaning T) (taken waiting : List (Stream T)) (sub : Subscription M T) (past : Past T) (v : Stream T) → standing_of sub ≡ Open → owed_from mc m (values_then taken waiting) (map unchosen (notes_of mc sub.part.tree)) sub ≡ Some v → Stands mc m taken sub past →
    evaluated m (values_then taken waiting) past (notes_of mc sub.part.tree) ≡ Some (signals_then past.received v)
owes {M} {T} mc m taken waiting sub past v o e h =
    let live : IsLive (standing_of sub) = rw o tt in
    sym (owed_now mc m taken waiting sub past h live) ∙ ap (option_map (signals_then past.received)) e

pub ended_value : {T : Type 0} (v : Stream T) (e : Ending) → v.items ≡ [] → v.ending ≡ e → v ≡ ended_by e
ended_value v e a b = ap (λ xs. record { items = xs; ending = v.ending }) a ∙ ap (λ x. record { items = []; ending = x }) b
