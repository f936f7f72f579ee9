-- A live graph whose taps and seats changed.
use Rattle.std.proofs.Common.{◌≡◌, ℕ, ◌≤◌, List, length, sym, subst, arith}
use Rattle.std.proofs.lemmas.Slice.Zip.{AllZip-long}
use Rattle.std.specs.List.{AllZip}
use Rattle.rsx_types.specs.declared.ops.Ops.{Ghosts as Ops}
use Rattle.rsx_gate.specs.Machine.{all_parts}
use Rattle.rsx_gate.specs.Seats.{IsSeatOf}
use Rattle.rsx_graph.specs.declared.graph.Graph.{Graph}
use Rattle.rsx_runtime.specs.declared.TheConstants.{MOST_WORKERS}
use Rattle.rsx_runtime.specs.declared.tap.Tap.{Tap}
use Rattle.rsx_live_parts.specs.Kept.{AreTapsFrom}
use Rattle.rsx_live.specs.Graphs.{IsLiveGraphOf}
use Rattle.rsx_live.specs.Starts.{AreTapsOf, IsStartedOf}
use Rattle.rsx_live.specs.declared.graph.LiveGraph.{LiveGraph}
use Rattle.rsx_live.specs.declared.graph.StartedGraph.{StartedGraph}

module _ {O T : Type 0} {b : Ops O T} (graph : Graph O T b) (s t : StartedGraph O T b) (live : t.live ≡ s.live) (is : IsStartedOf graph s) where
  live_started : IsLiveGraphOf graph t.live
  live_started = subst (λ (l : LiveGraph O T b). IsLiveGraphOf graph l) (sym live) is.live

  -- taps changed
  pub taps_started : t.seats.items ≡ s.seats.items → AreTapsOf s.live t.taps.items → IsStartedOf graph t
  taps_started seats taps =
      let A : LiveGraph O T b → Type 0 = λ l. AreTapsOf l t.taps.items in
      let B : LiveGraph O T b → Type 0 = λ l. AllZip (λ g x. IsSeatOf g x × (all_parts ≤ x.me.0.parts)) l.subs.live.gates.items t.seats.items in
      let seated = sym seats in
      let those = is.seats in
      let few = is.few in
      record { live = live_started; taps = subst A (sym live) taps; seats = subst B (sym live) (rw seated at those); few = rw seated at few }

  -- a seat changed
  pub seats_started : t.taps.items ≡ s.taps.items → AllZip (λ g x. IsSeatOf g x × (all_parts ≤ x.me.0.parts)) s.live.subs.live.gates.items t.seats.items → IsStartedOf graph t
  seats_started taps seats =
      let few = is.few in
      let long = AllZip-long (λ g x. IsSeatOf g x × (all_parts ≤ x.me.0.parts)) s.live.subs.live.gates.items s.seats.items is.seats in
      let now = AllZip-long (λ g x. IsSeatOf g x × (all_parts ≤ x.me.0.parts)) s.live.subs.live.gates.items t.seats.items seats in
      let A : List (Tap T) → Type 0 = λ ts. AreTapsFrom s.live.subs.live.links.items 0 s.live.subs.kept.items ts in
      let B : LiveGraph O T b → Type 0 = λ l. AreTapsFrom l.subs.live.links.items 0 l.subs.kept.items t.taps.items in
      let C : LiveGraph O T b → Type 0 = λ l. AllZip (λ g x. IsSeatOf g x × (all_parts ≤ x.me.0.parts)) l.subs.live.gates.items t.seats.items in
      record { live = live_started; taps = subst B (sym live) (subst A (sym taps) is.taps); seats = subst C (sym live) seats; few = omega (arith, few, long, now) }

-- what has gone live so
pub started_of : {O T : Type 0} {b : Ops O T} (graph : Graph O T b) (s : StartedGraph O T b) (workers : ℕ) → IsLiveGraphOf graph s.live → AreTapsFrom s.live.subs.live.links.items 0 s.live.subs.kept.items s.taps.items →
    AllZip (λ g x. IsSeatOf g x × (all_parts ≤ x.me.0.parts)) s.live.subs.live.gates.items s.seats.items → length s.live.subs.live.gates.items ≡ workers → workers ≤ MOST_WORKERS → IsStartedOf graph s
started_of graph s workers live taps seats count most =
    let long = AllZip-long (λ g x. IsSeatOf g x × (all_parts ≤ x.me.0.parts)) s.live.subs.live.gates.items s.seats.items seats in
    record { live = live; taps = taps; seats = seats; few = omega (arith, long, count, most) }
