-- Rounds of moves: those of the subscriptions, and then those of the hubs.
use Rattle.rsx_sources.specs.declared.machine.Machine.{Ghosts as Machine}
use Rattle.rsx_rooted.specs.declared.nodes.Nodes.{Ghosts as Nodes}
use Rattle.std.proofs.Common.{◌≡◌, ℕ, ◌+◌, ◌<◌, List, length, Ok, Err, ap, sym, subst, arith}
use Rattle.rsx_graph_moves.specs.Rows.{HasDriven}
use Rattle.rsx_graph_state.specs.Prelude.{Rows, AreQuiet, Delivered, Subscription}
use Rattle.rsx_graph_state.specs.declared.refusal.Refusal.{Refusal}
use Rattle.rsx_graph_state.specs.declared.step.Pumped.TheVariants.{Idle, Budget}
use Rattle.rsx_rooted.specs.declared.rooted.Pumped.TheVariants.{Idle as Rests, Budget as Wakes}
use Rattle.rsx_types.specs.Meaning.{Meaning}
use Rattle.rsx_graph_moves.specs.Pumped.{HasPumped, HaveServed}
use Rattle.rsx_graph_moves.proofs.Driving.{SoFar, none_made, rows_awake, rows_quiet, so_far_driven, so_far_taken}

-- so much of the budget is left after the moves that led here
abbrev pub Spent : {M T : Type 0} → Machine M T → Nodes M T → Meaning T → ℕ → ℕ → Rows M T → Delivered T → Rows M T → Delivered T → Type 0
Spent mc kd m budget left first before now out = (n : ℕ) × (n + left ≡ budget) × SoFar mc kd m first before.signals n now out.signals

abbrev with_subs : {M T : Type 0} → Rows M T → List (Subscription M T) → Rows M T
with_subs g subs = record { hubs = g.hubs; feeds = g.feeds; subs = subs }

-- ---- the subscriptions are driven

-- and so many moves led on, where this much is left
pub record Drives {M T : Type 0} (mc : Machine M T) (kd : Nodes M T) (m : Meaning T) (budget left : ℕ) (first : Rows M T) (before : Delivered T) (now : Rows M T) (out : Delivered T) : Type 0 where
  pub spent : Spent mc kd m budget left first before now out
  pub quiet : AreQuiet mc m now.subs (length now.subs)

pub drives : {M T : Type 0} (mc : Machine M T) (kd : Nodes M T) (m : Meaning T) (budget left rested : ℕ) (first : Rows M T) (before : Delivered T) (mid : Rows M T) (out out' : Delivered T) (subs : List (Subscription M T)) →
    Spent mc kd m budget left first before mid out → HasDriven mc kd m left mid.subs out (Ok (Rests rested)) subs out' → Drives mc kd m budget rested first before (with_subs mid subs) out'
drives mc kd m budget left rested first before mid out out' subs s p =
    let n = s.1 in
    let k = p.1.0 in
    record {
      spent = (s.0 + p.0, omega (arith, n, k), so_far_driven mc kd m first mid subs before.signals out.signals out'.signals s.0 p.0 s.2 p.2);
      quiet = p.1.1;
    }

pub drives_on : {M T : Type 0} (mc : Machine M T) (kd : Nodes M T) (m : Meaning T) (budget left : ℕ) (first : Rows M T) (before : Delivered T) (mid : Rows M T) (out out' : Delivered T) (subs : List (Subscription M T)) →
    Spent mc kd m budget left first before mid out → HasDriven mc kd m left mid.subs out (Ok Wakes) subs out' → HasPumped mc kd m budget first before (Ok Budget) (with_subs mid subs) out'
drives_on mc kd m budget left first before mid out out' subs s p =
    let n = s.1 in
    let k = p.1.0 in
    let d = so_far_driven mc kd m first mid subs before.signals out.signals out'.signals s.0 p.0 s.2 p.2 in
    let count = d.count in
    (d.moves, (omega (arith, n, k, count), rows_awake mc kd m (with_subs mid subs) p.1.1), d.made, d.output)

pub drives_refused : {M T : Type 0} (mc : Machine M T) (kd : Nodes M T) (m : Meaning T) (budget left : ℕ) (first : Rows M T) (before : Delivered T) (mid : Rows M T) (out out' : Delivered T) (subs : List (Subscription M T)) (why : Refusal) →
    Spent mc kd m budget left first before mid out → HasDriven mc kd m left mid.subs out (Err why) subs out' → HasPumped mc kd m budget first before (Err why) (with_subs mid subs) out'
drives_refused mc kd m budget left first before mid out out' subs why s p =
    let n = s.1 in
    let k = p.1.0 in
    let d = so_far_driven mc kd m first mid subs before.signals out.signals out'.signals s.0 p.0 s.2 p.2 in
    let count = d.count in
    (d.moves, (omega (arith, n, k, count), p.1.1), d.made, d.output)

-- ---- the hubs take in what they can

pub serves : {M T : Type 0} (mc : Machine M T) (kd : Nodes M T) (m : Meaning T) (budget rested left : ℕ) (first : Rows M T) (before : Delivered T) (mid now : Rows M T) (out : Delivered T) →
    Drives mc kd m budget rested first before mid out → HaveServed mc kd m rested mid (Ok (Rests left)) now → Spent mc kd m budget left first before now out
serves mc kd m budget rested left first before mid now out d q =
    let s = d.spent in
    let n = s.1 in
    let k = q.1.0 in
    (s.0 + length q.0, omega (arith, n, k), so_far_taken mc kd m first mid now before.signals out.signals s.0 q.0 s.2 q.2 q.3)

pub serves_on : {M T : Type 0} (mc : Machine M T) (kd : Nodes M T) (m : Meaning T) (budget rested : ℕ) (first : Rows M T) (before : Delivered T) (mid now : Rows M T) (out : Delivered T) →
    Drives mc kd m budget rested first before mid out → HaveServed mc kd m rested mid (Ok Wakes) now → HasPumped mc kd m budget first before (Ok Budget) now out
serves_on mc kd m budget rested first before mid now out d q =
    let s = d.spent in
    let n = s.1 in
    let k = q.1.0 in
    let e = so_far_taken mc kd m first mid now before.signals out.signals s.0 q.0 s.2 q.2 q.3 in
    let count = e.count in
    (e.moves, (omega (arith, n, k, count), q.1.1), e.made, e.output)

pub serves_refused : {M T : Type 0} (mc : Machine M T) (kd : Nodes M T) (m : Meaning T) (budget rested : ℕ) (first : Rows M T) (before : Delivered T) (mid now : Rows M T) (out : Delivered T) (why : Refusal) →
    Drives mc kd m budget rested first before mid out → HaveServed mc kd m rested mid (Err why) now → HasPumped mc kd m budget first before (Err why) now out
serves_refused mc kd m budget rested first before mid now out why d q =
    let s = d.spent in
    let n = s.1 in
    let k = q.1.0 in
    let e = so_far_taken mc kd m first mid now before.signals out.signals s.0 q.0 s.2 q.2 q.3 in
    let count = e.count in
    (e.moves, (omega (arith, n, k, count), q.1.1), e.made, e.output)

-- where no hub took anything in, no move is enabled
pub is_idle : {M T : Type 0} (mc : Machine M T) (kd : Nodes M T) (m : Meaning T) (budget rested left : ℕ) (first : Rows M T) (before : Delivered T) (mid now : Rows M T) (out : Delivered T) →
    Drives mc kd m budget rested first before mid out → HaveServed mc kd m rested mid (Ok (Rests left)) now → left ≡ rested → HasPumped mc kd m budget first before (Ok Idle) now out
is_idle {M} {T} mc kd m budget rested left first before mid now out d q last =
    let s = d.spent in
    let n = s.1 in
    let k = q.1.0 in
    let e = so_far_taken mc kd m first mid now before.signals out.signals s.0 q.0 s.2 q.2 q.3 in
    let count = e.count in
    let still = none_made mc kd m mid now q.0 (omega (arith, k, last)) q.2 in
    let Q : List (Subscription M T) → Type 0 = λ l. AreQuiet mc m l (length l) in
    (e.moves, (omega (arith, n, k, count), rows_quiet mc kd m now (subst Q (ap (λ g. g.subs) (sym still)) d.quiet) (q.1.1 last)), e.made, e.output)

-- otherwise less of the budget is left behind them
pub less_left : {M T : Type 0} (mc : Machine M T) (kd : Nodes M T) (m : Meaning T) (left rested behind : ℕ) (olds news : List (Subscription M T)) (out out' : Delivered T) (mid now : Rows M T) →
    HasDriven mc kd m left olds out (Ok (Rests rested)) news out' → HaveServed mc kd m rested mid (Ok (Rests behind)) now → (behind ≡ rested → ⊥) → behind < left
less_left mc kd m left rested behind olds news out out' mid now p q more =
    let k = p.1.0 in
    let j = q.1.0 in
    omega (arith, k, j, more)
