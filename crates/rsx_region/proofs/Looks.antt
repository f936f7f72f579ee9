-- A look at the link that goes out: what is asked of the root rises, and on a flag the part is closed.
use Rattle.std.proofs.Common.{◌≡◌, ◌⊎◌, inl, inr, ℕ, ◌+◌, ◌-◌, ◌≤◌, min, Bool, true, false, ◌||◌, List, ◌∷◌, map, refl, ap, sym, ◌∙◌, subst, arith, Option}
use Rattle.rsx_demand.specs.Demand.{saturating_total}
use Rattle.rsx_demand.specs.declared.TheConstants.{UNBOUNDED}
use Rattle.rsx_sources.specs.Prelude.{Meaning, Stream, Signal, Reading}
use Rattle.rsx_sources.specs.declared.machine.Machine.{Ghosts as Machine}
use Rattle.rsx_tree.specs.Allocates.{IsAlike}
use Rattle.rsx_tree.specs.Edges.{EdgeView, closed_state, closed_view, edge_view}
use Rattle.rsx_tree.specs.Reads.{AllGoOn, IsTreeReadAt, readings}
use Rattle.rsx_tree.specs.Tree.{IsAllClosed, IsKept, edges}
use Rattle.rsx_tree.specs.declared.edge.EdgeState.TheVariants.{Live, Closed}
use Rattle.rsx_tree.specs.declared.node.Node.{Node}
use Rattle.rsx_tree.proofs.Noted.{kept_chosen}
use Rattle.rsx_pipe.specs.Output.{counts_in}
use Rattle.rsx_pipe.specs.Part.{Part, all_edges}
use Rattle.rsx_pipe.specs.Tree.{IsBalanced}
use Rattle.rsx_link.specs.Ends.{HasSentNothing, Looks, carried_up, seen_total, sent_signals, up_steps}
use Rattle.rsx_link.specs.Signals.{items_in}
use Rattle.rsx_link.specs.Steps.{flags_of, has_cancel, has_refusal, seen_of}
use Rattle.rsx_link.specs.declared.link.Link.{Link}
use Rattle.rsx_link.specs.declared.up.Found.{Found}
use Rattle.rsx_link.specs.declared.up.Up.{Up}
use Rattle.rsx_link.specs.declared.view.Step.{Step}
use Rattle.rsx_rooted.proofs.Moves.{flows_chosen}
use Rattle.rsx_rooted.specs.Local.{Begins}
use Rattle.rsx_rooted.specs.Regions.{Carries}
use Rattle.rsx_region.specs.Moves.{IsLooked}
use Rattle.rsx_region.specs.Open.{WasClear}
use Rattle.rsx_region.specs.Piece.{IsInStep, PieceStands}

-- ---- what is asked

-- what was asked rose to the total that was found
pub asked_all : (old seen found new : ℕ) → old ≡ min UNBOUNDED seen → seen ≤ found → new ≡ saturating_total old (found - old) → new ≡ min UNBOUNDED found
asked_all old seen found new was rises now = omega (arith, was, rises, now)

-- there is something to ask for, or nothing
pub asked_below : (old seen found : ℕ) → old ≡ min UNBOUNDED seen → seen ≤ found → old ≤ found
asked_below old seen found was rises = omega (arith, was, rises)

pub in_step_looked : {M T : Type 0} (p p' : Part M) (u u' : Up T) (f : Found) → IsInStep p u → Looks (up_steps u) (up_steps u') f → carried_up u' ≡ carried_up u → sent_signals u' ≡ sent_signals u → p'.root.demand.asked ≡ min UNBOUNDED f.asked → p'.root.demand.sent ≡ p.root.demand.sent → IsInStep p' u'
in_step_looked p p' u u' f i looks carried sent asked count = record {
  asked = asked ∙ ap (λ l. min UNBOUNDED (seen_of l)) (sym looks.steps);
  sent = count ∙ (i.sent ∙ (ap (λ k. k + items_in (sent_signals u)) (sym carried) ∙ ap (λ l. carried_up u' + items_in l) (sym sent)));
}

-- ---- it goes on

pub stands_asked : {M T : Type 0} (b : Machine M T) (m : Meaning T) (taken : List (Stream T)) (old : Node M) (queued : List (Signal T)) (p p' : Part M) (u u' : Up T) → p.root.state ≡ Live → p'.tree ≡ p.tree → p'.root.state ≡ p.root.state → p'.root.demand.sent ≡ p.root.demand.sent → IsInStep p' u' → sent_signals u' ≡ sent_signals u →
    PieceStands b m taken old queued p u → PieceStands b m taken old queued p' u'
stands_asked {M} {T} b m taken old queued p p' u u' live tree state sent step same h =
    let was = h.live live in
    let C : Node M → Type 0 = λ t. Carries b m taken old t h.out in
    let R : Node M → Type 0 = λ t. AllGoOn (readings b old) (readings b t) in
    let B : Node M → Type 0 = λ t. IsBalanced b t p.root.demand.sent in
    let S : ℕ → Type 0 = λ k. IsBalanced b p'.tree k in
    let A : Node M → Type 0 = λ t. IsTreeReadAt b (counts_in taken) t in
    let W : Node M → Type 0 = λ t. WasClear b old t in
    let still : p'.root.state ≡ Live = state ∙ live in
    record {
      out = h.out;
      sent = same ∙ h.sent;
      flow = subst C (sym tree) h.flow;
      step = step;
      reading = subst R (sym tree) h.reading;
      crosses = ap (λ t. b.crosses t.machine) tree ∙ h.crosses;
      live = λ _. record { unended = was.unended; balance = λ before all k. subst S (sym sent) (subst B (sym tree) (was.balance before (all ∙ sent) k)); reads = subst A (sym tree) was.reads; clear = subst W (sym tree) was.clear };
      ended = λ e. let l = still in cc;
      closed = λ e. let l = still in cc;
    }

-- ---- it is closed

first_edge : (e f : EdgeView) (es fs : List EdgeView) → e ∷ es ≡ f ∷ fs → e ≡ f
first_edge e f es fs h = cc

other_edges : (e f : EdgeView) (es fs : List EdgeView) → e ∷ es ≡ f ∷ fs → es ≡ fs
other_edges e f es fs h = cc

pub closed_root : {M : Type 0} (p p' : Part M) → p.root.state ≡ Live → edge_view p'.root ∷ edges p'.tree ≡ map closed_view (edge_view p.root ∷ edges p.tree) → (p'.root.state ≡ Closed) × (p'.root.demand.sent ≡ p.root.demand.sent) × (edges p'.tree ≡ map closed_view (edges p.tree))
closed_root p p' live all =
    let root : edge_view p'.root ≡ closed_view (edge_view p.root) = first_edge _ _ _ _ all in
    (ap (λ e. e.state) root ∙ ap closed_state live, ap (λ e. e.sent) root, other_edges _ _ _ _ all)

-- one of the flags that a look found
pub flag_seen : (old new : List Step) (f : Found) → Looks old new f → f.cancelled || f.refused ≡ true → (has_cancel (flags_of new) ≡ true) ⊎ (has_refusal (flags_of new) ≡ true)
flag_seen old new f k flag =
    let last : flags_of new ≡ k.flags = ap flags_of k.steps in
    elim (either f.cancelled f.refused flag) [
      | inl c ↦ inl (ap has_cancel last ∙ (sym k.cancelled ∙ c))
      | inr r ↦ inr (ap has_refusal last ∙ (sym k.refused ∙ r))
    ]
  where
    either : (x y : Bool) → x || y ≡ true → (x ≡ true) ⊎ (y ≡ true)
    either true y h = inl refl
    either false y h = inr h

pub stands_closed : {M T : Type 0} (b : Machine M T) (m : Meaning T) (taken : List (Stream T)) (old : Node M) (queued : List (Signal T)) (p p' : Part M) (u u' : Up T) → p.root.state ≡ Live → p'.root.state ≡ Closed → IsKept b m p.tree p'.tree → IsAlike b p.tree p'.tree → IsAllClosed p'.tree → IsInStep p' u' → sent_signals u' ≡ sent_signals u →
    (has_cancel (flags_of (up_steps u')) ≡ true) ⊎ (has_refusal (flags_of (up_steps u')) ≡ true) → PieceStands b m taken old queued p u → PieceStands b m taken old queued p' u'
stands_closed b m taken old queued p p' u u' live shut kept alike none step same flag h =
    let was = h.live live in
    let R : List (Option Reading) → Type 0 = λ l. AllGoOn (readings b old) l in
    record {
      out = h.out;
      sent = same ∙ h.sent;
      flow = flows_chosen b m (Begins taken) old p.tree p'.tree h.out h.flow (kept_chosen b m p.tree p'.tree kept);
      step = step;
      reading = subst R (sym alike.2) h.reading;
      crosses = alike.3 ∙ h.crosses;
      live = λ e. cc;
      ended = λ e. cc;
      closed = λ _. record { unended = was.unended; edges = none; flag = flag };
    }

-- ---- a look as one step

-- what was asked of the root rose to the total that was found, and nothing else changed
pub record Rose {M : Type 0} (p mid : Part M) (f : Found) : Type 0 where
  pub asked : mid.root.demand.asked ≡ min UNBOUNDED f.asked
  pub sent : mid.root.demand.sent ≡ p.root.demand.sent
  pub state : mid.root.state ≡ p.root.state
  pub tree : mid.tree ≡ p.tree

pub rose : {M T : Type 0} (p mid : Part M) (u : Up T) (f : Found) (k : ℕ) → IsInStep p u → seen_total u ≤ f.asked → k ≡ p.root.demand.asked → mid.root.demand.asked ≡ saturating_total p.root.demand.asked (f.asked - k) → mid.root.demand.sent ≡ p.root.demand.sent → mid.root.state ≡ p.root.state → mid.tree ≡ p.tree → Rose p mid f
rose p mid u f k i rises is asked sent state tree = record {
  asked = asked_all p.root.demand.asked (seen_total u) f.asked mid.root.demand.asked i.asked rises (asked ∙ ap (λ x. saturating_total p.root.demand.asked (f.asked - x)) is);
  sent = sent;
  state = state;
  tree = tree;
}

pub looked_on : {M T : Type 0} (b : Machine M T) (m : Meaning T) (l : Link T) (f : Found) (p mid : Part M) (u u' : Up T) → p.root.state ≡ Live → Rose p mid f → HasSentNothing l u u' → Looks (up_steps u) (up_steps u') f → f.cancelled || f.refused ≡ false → IsLooked b m l f p u mid u'
looked_on b m l f p mid u u' live r same looks none = record {
  end = same;
  looked = looks;
  asked = r.asked;
  sent = r.sent;
  goes_on = λ _. (r.state ∙ live, r.tree);
  closed = λ flag. let n = none in cc;
}

pub looked_closed : {M T : Type 0} (b : Machine M T) (m : Meaning T) (l : Link T) (f : Found) (p mid p' : Part M) (u u' : Up T) → p.root.state ≡ Live → Rose p mid f → HasSentNothing l u u' → Looks (up_steps u) (up_steps u') f → f.cancelled || f.refused ≡ true →
    all_edges p' ≡ map closed_view (all_edges mid) → p'.root.demand.asked ≡ mid.root.demand.asked → IsKept b m mid.tree p'.tree → IsLooked b m l f p u p' u'
looked_closed {M} b m l f p mid p' u u' live r same looks flag all asked kept =
    let shut = closed_root mid p' (r.state ∙ live) all in
    let K : Node M → Type 0 = λ t. IsKept b m t p'.tree in
    record {
      end = same;
      looked = looks;
      asked = asked ∙ r.asked;
      sent = shut.1 ∙ r.sent;
      goes_on = λ none. let n = flag in cc;
      closed = λ _. (shut.0, shut.2 ∙ ap (λ t. map closed_view (edges t)) r.tree, subst K r.tree kept);
    }

pub stands_looked : {M T : Type 0} (b : Machine M T) (m : Meaning T) (taken : List (Stream T)) (old : Node M) (queued : List (Signal T)) (l : Link T) (f : Found) (p mid : Part M) (u u' : Up T) → p.root.state ≡ Live → Rose p mid f → HasSentNothing l u u' → Looks (up_steps u) (up_steps u') f → PieceStands b m taken old queued p u → PieceStands b m taken old queued mid u'
stands_looked b m taken old queued l f p mid u u' live r same looks h =
    stands_asked b m taken old queued p mid u u' live r.tree r.state r.sent (in_step_looked p mid u u' f h.step looks same.3 same.1 r.asked r.sent) same.1 h

pub stands_shut : {M T : Type 0} (b : Machine M T) (m : Meaning T) (taken : List (Stream T)) (old : Node M) (queued : List (Signal T)) (f : Found) (before : List Step) (mid p' : Part M) (u : Up T) → mid.root.state ≡ Live → Looks before (up_steps u) f → f.cancelled || f.refused ≡ true →
    all_edges p' ≡ map closed_view (all_edges mid) → p'.root.demand.asked ≡ mid.root.demand.asked → IsKept b m mid.tree p'.tree → IsAlike b mid.tree p'.tree → IsAllClosed p'.tree → PieceStands b m taken old queued mid u → PieceStands b m taken old queued p' u
stands_shut b m taken old queued f before mid p' u live looks flag all asked kept alike none h =
    let shut = closed_root mid p' live all in
    stands_closed b m taken old queued mid p' u u live shut.0 kept alike none (record { asked = asked ∙ h.step.asked; sent = shut.1 ∙ h.step.sent }) refl (flag_seen before (up_steps u) f looks flag) h
