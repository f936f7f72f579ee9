-- Items that are taken from a link, one after the other.
use Rattle.std.proofs.Common.{◌≡◌, ℕ, suc, ◌+◌, ◌<◌, ◌≤◌, Bool, true, false, if◌then◌else◌, List, [], ◌∷◌, ◌++◌, append_assoc, length, reverse, refl, sym, ap, ◌∙◌, subst, arith}
use Rattle.std.proofs.lemmas.List.{append-nil, length-append}
use mathlib.Core.List.{IsPrefix}
use Rattle.rsx_sources.specs.Prelude.{Complete, Error, Next, Signal}
use Rattle.rsx_sources.specs.declared.machine.Machine.{Ghosts as Machine}
use Rattle.rsx_tree.specs.Edges.{is_live}
use Rattle.rsx_tree.specs.Runs.{Leads}
use Rattle.rsx_tree.proofs.Runs.{leads_keep, leads_on}
use Rattle.rsx_rooted.proofs.TakenOff.{at_within, in_within}
use Rattle.rsx_rooted.specs.Taking.{AreTakenOff, blocks, spaces_at}
use Rattle.rsx_rooted.specs.Taking as Tree
use Rattle.rsx_pipe.specs.Part.{Part}
use Rattle.rsx_pipe.specs.Published.{readers}
use Rattle.rsx_pipe.specs.Taking.{IsItemHanded, spaces_for}
use Rattle.rsx_link.specs.Ends.{HasLooked, TakesOne, asked_total, carried_down, down_steps, items_taken, queued, received_signals}
use Rattle.rsx_link.specs.Signals.{items_in}
use Rattle.rsx_link.specs.Steps.{asked_of}
use Rattle.rsx_link.specs.declared.down.Down.{Down}
use Rattle.rsx_link.specs.declared.link.Link.{Link}
use Rattle.rsx_region.specs.Endings.{first_ending}
use Rattle.rsx_region.specs.Moves.{ArePopped}
use Rattle.rsx_region.specs.declared.inlet.Inlet.{Inlet}
use Rattle.rsx_region.specs.Taken.{AreTaken, AreTakenInTurn, IsItemTaken, IsLookedAt}

prefix_then : {A : Type 0} (xs ys zs : List A) → IsPrefix xs ys → IsPrefix ys zs → IsPrefix xs zs
prefix_then {A} xs ys zs h k = (h.0 ++ k.0, sym (append_assoc xs h.0 k.0) ∙ (ap (λ (l : List A). l ++ k.0) h.1 ∙ k.1))

pub none_taken : {T : Type 0} (old new : Down T) (before : List T) → IsLookedAt old new → AreTaken 0 old before before new
none_taken old new before h = record { items = []; count = refl; put = sym (append-nil before); last = old; run = refl; rest = h }

pub looked_at : {T : Type 0} (l : Link T) (old new : Down T) → HasLooked l old new → IsLookedAt old new
looked_at l old new h = record { received = h.2; steps = h.1; carried = h.4 }

-- a look before it changes nothing
taken_behind : {T : Type 0} (l : Link T) (old mid new : Down T) (x : T) → HasLooked l old mid → TakesOne mid new (Next x) → down_steps new ≡ down_steps mid → carried_down new ≡ carried_down mid → IsItemTaken old x new
taken_behind {T} l old mid new x h k steps carried =
    let taken : items_taken mid ≡ items_taken old = ap (λ (n : ℕ). n + items_in (received_signals mid)) h.4 ∙ ap (λ (ss : List (Signal T)). carried_down old + items_in ss) h.2 in
    let asked : asked_total mid ≡ asked_total old = ap asked_of h.1 in
    record {
      taken = record {
        received = k.received ∙ ap (λ (ss : List (Signal T)). ss ++ Next x ∷ []) h.2;
        oldest = prefix_then (queued old) (queued mid) (Next x ∷ queued new) h.3 k.oldest;
        may = λ item. subst (λ (a : ℕ). items_taken old < a) asked (subst (λ (t : ℕ). t < asked_total mid) taken (k.may item));
      };
      steps = steps ∙ h.1;
      carried = carried ∙ h.4;
    }

-- items that were taken after a look
from_look : {T : Type 0} (l : Link T) (old mid new : Down T) (xs : List T) → HasLooked l old mid → Leads IsItemTaken mid xs new → (last : Down T) × Leads IsItemTaken old xs last × IsLookedAt last new
from_look {T} l old mid new [] h run = (old, refl, (let L : Down T → Type 0 = λ d. IsLookedAt old d in subst L (sym run) (looked_at l old mid h)))
from_look l old mid new (x ∷ xs) h run = (new, (run.0, taken_behind l old mid run.0 x h run.1.taken run.1.steps run.1.carried, run.2), record { received = refl; steps = refl; carried = refl })

pub taken_turned : {T : Type 0} (l : Link T) (n : ℕ) (old mid new : Down T) (before after turned : List T) → HasLooked l old mid → before ≡ [] → AreTakenInTurn n mid before after new → turned ≡ reverse after → AreTaken n old [] turned new
taken_turned {T} l n old mid new before after turned looked none k is =
    let r = from_look l old mid new k.items looked k.run in
    record {
      items = k.items;
      count = k.count;
      put = is ∙ ap reverse (k.put ∙ ap (λ (xs : List T). xs ++ k.items) none);
      last = r.0;
      run = r.1;
      rest = r.2;
    }

-- what a run of them keeps
pub taken_keeps : {T : Type 0} (n : ℕ) (old new : Down T) (before after : List T) → AreTakenInTurn n old before after new → (down_steps new ≡ down_steps old) × (carried_down new ≡ carried_down old)
taken_keeps {T} n old new before after k =
    leads_keep IsItemTaken (λ (d : Down T). (down_steps d ≡ down_steps old) × (carried_down d ≡ carried_down old)) (λ a b x s h. (s.steps ∙ h.0, s.carried ∙ h.1)) old new k.items k.run (refl, refl)

-- one more
pub turn_more : {T : Type 0} (n : ℕ) (old mid new : Down T) (x : T) (before between after : List T) → AreTakenInTurn n old before between mid → TakesOne mid new (Next x) → down_steps new ≡ down_steps mid → carried_down new ≡ carried_down mid → after ≡ between ++ x ∷ [] → AreTakenInTurn (n + 1) old before after new
turn_more {T} n old mid new x before between after k taken steps carried push = record {
  items = k.items ++ x ∷ [];
  count = length-append k.items (x ∷ []) ∙ ap (λ (i : ℕ). i + 1) k.count;
  put = push ∙ (ap (λ (xs : List T). xs ++ x ∷ []) k.put ∙ append_assoc before k.items (x ∷ []));
  run = leads_on IsItemTaken old mid new k.items (x ∷ []) k.run (new, record { taken = taken; steps = steps; carried = carried }, refl);
}

-- ---- no ending among them

pub next_last : {T : Type 0} (ss : List (Signal T)) (x : T) → first_ending (ss ++ Next x ∷ []) ≡ first_ending ss
next_last [] x = refl
next_last (Next y ∷ ss) x = next_last ss x
next_last (Complete ∷ ss) x = refl
next_last (Error c ∷ ss) x = refl

pub no_ending : {T : Type 0} (n : ℕ) (old new : Down T) (before after : List T) → AreTaken n old before after new → first_ending (received_signals new) ≡ first_ending (received_signals old)
no_ending {T} n old new before after k =
    ap first_ending k.rest.received
    ∙ leads_keep IsItemTaken (λ (d : Down T). first_ending (received_signals d) ≡ first_ending (received_signals old)) (λ a b x s e. ap first_ending s.taken.received ∙ (next_last (received_signals a) x ∙ e)) old k.last k.items k.run refl

-- ---- handed to the one node that reads the link

-- a part has room for no more than it was asked about
pub spaces_within : {M T : Type 0} (b : Machine M T) (spaces : M → ℕ) (h most : ℕ) (p : Part M) → spaces_for b spaces h most p ≤ most
spaces_within b spaces h most p = by_live (is_live p.root.state)
  where
    both : (x y z : ℕ) → x ≤ y → y ≤ z → x ≤ z
    both x y z k l = omega (arith, k, l)

    by_live : (live : Bool) → (if live then Tree.spaces_for b spaces h most p.tree else most) ≤ most
    by_live true = both _ (spaces_at b spaces h most p.tree.machine) most (in_within b spaces h (spaces_at b spaces h most p.tree.machine) p.tree.inputs) (at_within b spaces h most p.tree.machine)
    by_live false = omega arith

-- all that stood in the list was handed to it
pub record AreHanded {M T : Type 0} (b : Machine M T) (h n : ℕ) (old : Part M) (down : Down T) (left : List T) (new : Part M) (after : Down T) : Type 0 where
  pub items : List T
  pub count : length items ≡ n
  pub reader : readers b h old ≡ 1
  pub last : Down T
  pub taken : Leads IsItemTaken down items last
  pub handed : Leads (IsItemHanded b h) old items new
  pub rest : IsLookedAt last after
  pub none : left ≡ []

pub all_handed : {M T : Type 0} (b : Machine M T) (spaces : M → ℕ) (h at n most room : ℕ) (p q : Part M) (d d' : Down T) (before after left : List T) → at ≡ h → readers b at p ≡ 1 → before ≡ [] → AreTaken n d before after d' → room ≡ spaces_for b spaces at most p → n ≤ room →
    ((m : ℕ) → AreTakenOff (readers b at p) n (spaces_for b spaces at m p) after left (λ xs. Leads (IsItemHanded b at) p xs q)) → AreHanded b h n p d left q d'
all_handed {M} {T} b spaces h at n most room p q d d' before after left same one none k is fits off =
    let items = k.items in
    let B : ℕ → Type 0 = λ r. reverse items ≡ blocks r (reverse items) in
    let stands : after ≡ [] ++ blocks (readers b at p) (reverse items) = k.put ∙ (ap (λ (l : List T). l ++ reverse items) none ∙ subst B (sym one) (sym (append-nil (reverse items)))) in
    let done = off most [] items stands k.count (subst (λ (r : ℕ). n ≤ r) is fits) in
    let H : ℕ → Type 0 = λ i. AreHanded b i n p d left q d' in
    subst H same (record { items = items; count = k.count; reader = one; last = k.last; taken = k.run; handed = done.0; rest = k.rest; none = done.1 })

pub popped_as : {M T : Type 0} (b : Machine M T) (n : ℕ) (old new : Part M) (i i' : Inlet T) (left : List T) (d : Down T) → i'.down ≡ d → AreHanded b i.hub n old i.down left new d → ArePopped b n old i new i'
popped_as {M} {T} b n old new i i' left d same k = record {
  items = k.items;
  count = k.count;
  reader = λ _. k.reader;
  last = k.last;
  taken = k.taken;
  handed = k.handed;
  rest = (let D : Down T → Type 0 = λ e. IsLookedAt k.last e in subst D (sym same) k.rest);
}

-- nothing was taken
pub popped_none : {M T : Type 0} (b : Machine M T) (p : Part M) (i i' : Inlet T) → i'.down ≡ i.down → ArePopped b 0 p i p i'
popped_none {M} {T} b p i i' same = record {
  items = [];
  count = refl;
  reader = λ h. absurd (omega (arith, h));
  last = i.down;
  taken = refl;
  handed = refl;
  rest = (let D : Down T → Type 0 = λ e. IsLookedAt i.down e in subst D (sym same) (record { received = refl; steps = refl; carried = refl }));
}
