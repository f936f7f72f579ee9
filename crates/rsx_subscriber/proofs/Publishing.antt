-- What a subscription stands for, where more is published.
use Rattle.rsx_sources.specs.declared.machine.Machine.{Ghosts as Machine}
use Rattle.std.proofs.Common.{◌≡◌, ℕ, zero, suc, List, [], ◌∷◌, length, None, refl, ap, sym, ◌∙◌, subst}
use Rattle.rsx_types.proofs.Lists.{same_tail}
use Rattle.rsx_sources.specs.Prelude.{Stream, Signal, Next}
use Rattle.rsx_model.specs.Check.{refusal}
use Rattle.rsx_pipe.specs.Output.{with_signal_at}
use Rattle.rsx_pipe.specs.Published as Part
use Rattle.rsx_pipe.specs.Tree.{edges}
use Rattle.rsx_tree.specs.Prelude.{NoneLive, EdgeView}
use Rattle.rsx_pipe.specs.Part.{Part as AnyPart}
use Rattle.rsx_subscription.specs.declared.State.TheVariants.{Fresh}
use Rattle.rsx_subscriber.specs.declared.subscription.Subscription.{Subscription}
use Rattle.rsx_tree.specs.Runs.{Leads}
use Rattle.rsx_tree.proofs.Runs.{leads_lift}
use Rattle.rsx_rooted.specs.Taking.{AreTakenOff}
use Rattle.rsx_pipe.specs.Taking as PartItems
use Rattle.rsx_subscriber.specs.Published.{IsHanded, IsItemHanded}

signal_length : {T : Type 0} (h : ℕ) (s : Signal T) (vs : List (Stream T)) → length (with_signal_at h s vs) ≡ length vs
signal_length h s [] = refl
signal_length zero s (v ∷ vs) = refl
signal_length (suc h) s (v ∷ vs) = ap suc (signal_length h s vs)

-- all edges of a tree are those of the other
pub handed_sub : {M T : Type 0} (mc : Machine M T) (h : ℕ) (s : Signal T) (old : Subscription M T) (part : AnyPart M) (opened : old.state ≡ Fresh → ⊥) → Part.IsHanded mc h s old.part part →
    IsHanded mc h s old (record { part = part; queue = old.queue; state = old.state; demand = old.demand; live = old.live; opened = opened })
handed_sub {M} {T} mc h s old part opened k = record {
  part = k;
  queue = refl;
  kept = record { state = refl; live = refl; demand = refl };
  stands = λ m published past o x.
      let R : ℕ → Type 0 = λ n. refusal n past.expression ≡ None in
      let C : List EdgeView → Type 0 = λ es. NoneLive es in
      record {
        state = x.state;
        live = x.live;
        output = x.output;
        part = k.stands m published past.expression past.joins x.output o x.part;
        held = x.held;
        begun = x.begun;
        orderly = x.orderly;
        waits = x.waits;
        got = x.got;
        asked = ap (λ r. r.demand.asked) k.root ∙ x.asked;
        requested = x.requested;
        delivered = x.delivered;
        unclosed = λ l c. x.unclosed l (ap (λ r. r.state) (sym k.root) ∙ c);
        admitted = subst R (sym (signal_length h s published)) x.admitted;
        shape = ap length k.edges ∙ x.shape;
        joined = x.joined;
        closed = λ dead.
            let was = x.closed dead in
            (subst C (sym (same_tail _ _ (edges part.tree) (edges old.part.tree) k.edges)) was.0, (λ l. was.1 (ap (λ r. r.state) (sym k.root) ∙ l)), was.2);
      };
}

-- ---- several items at once

pub handed_many : {M T : Type 0} (mc : Machine M T) (h count spaces : ℕ) (old : Subscription M T) (part : AnyPart M) (opened : old.state ≡ Fresh → ⊥) (items left : List T) →
    AreTakenOff (Part.readers mc h old.part) count spaces items left (λ xs. Leads (PartItems.IsItemHanded mc h) old.part xs part) →
    AreTakenOff (Part.readers mc h old.part) count spaces items left (λ xs. Leads (IsItemHanded mc h) old xs (record { part = part; queue = old.queue; state = old.state; demand = old.demand; live = old.live; opened = opened }))
handed_many {M} {T} mc h count spaces old part opened items left taken before xs all len fits =
    let here = taken before xs all len fits in
    let with : AnyPart M → Subscription M T = λ p. record { part = p; queue = old.queue; state = old.state; demand = old.demand; live = old.live; opened = old.opened } in
    let never : (e : old.state ≡ Fresh) → old.opened e ≡ opened e = λ e. absurd (old.opened e) in
    let same : old.opened ≡ opened = λ i e. never e i in
    let S : (old.state ≡ Fresh → ⊥) → Type 0 = λ o. Leads (IsItemHanded mc h) old xs (record { part = part; queue = old.queue; state = old.state; demand = old.demand; live = old.live; opened = o }) in
    let run : Leads (IsItemHanded mc h) old xs (with part) = leads_lift (PartItems.IsItemHanded mc h) (IsItemHanded mc h) with (λ a b x k. record { room = k.room; handed = handed_sub mc h (Next x) (with a) b old.opened k.handed }) old.part part xs here.0 in
    (subst S same run, here.1)
