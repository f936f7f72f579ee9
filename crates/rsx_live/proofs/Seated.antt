-- A live graph is put together again with taps and seats that came back from threads.
use Rattle.std.proofs.Common.{◌≡◌, ◌≤◌, arith, length, subst, sym}
use Rattle.std.specs.List.{AllZip}
use Rattle.std.proofs.lemmas.Slice.Zip.{AllZip-long}
use Rattle.rsx_types.specs.declared.ops.Ops.{Ghosts as Ops}
use Rattle.rsx_gate.specs.Machine.{all_parts}
use Rattle.rsx_gate.specs.Seats.{IsSeatOf}
use Rattle.rsx_live.specs.Graphs.{IsLiveGraphOf}
use Rattle.rsx_live.specs.Starts.{AreTapsOf, IsStarted}
use Rattle.rsx_live.specs.declared.graph.LiveGraph.{LiveGraph}
use Rattle.rsx_live.specs.declared.graph.StartedGraph.{StartedGraph}

-- it has started still, where its taps are those of the graph, and its seats those of the regions, each with all parts
pub again : {O T : Type 0} {b : Ops O T} (old new same : StartedGraph O T b) → IsStarted old → (new.live ≡ old.live) × (new.taps ≡ same.taps) × (new.seats ≡ same.seats) → AreTapsOf old.live same.taps.items →
    AllZip (λ g x. IsSeatOf g x × (all_parts ≤ x.me.0.parts)) old.live.subs.live.gates.items same.seats.items → IsStarted new
again {O} {T} {b} old new same started is taps seats =
    let long = AllZip-long (λ g x. IsSeatOf g x × (all_parts ≤ x.me.0.parts)) old.live.subs.live.gates.items old.seats.items started.is.seats in
    let now = AllZip-long (λ g x. IsSeatOf g x × (all_parts ≤ x.me.0.parts)) old.live.subs.live.gates.items same.seats.items seats in
    let few = started.is.few in
    let most : length same.seats.items ≤ 16 = omega (arith, few, long, now) in
    let A : LiveGraph O T b → Type 0 = λ l. IsLiveGraphOf started.graph l in
    let B : LiveGraph O T b → Type 0 = λ l. AreTapsOf l same.taps.items in
    let C : LiveGraph O T b → Type 0 = λ l. AllZip (λ g x. IsSeatOf g x × (all_parts ≤ x.me.0.parts)) l.subs.live.gates.items same.seats.items in
    let live = is.0 in
    let these = is.1 in
    let those = is.2 in
    let tapped = sym these in
    let seated = sym those in
    let over = subst B (sym live) taps in
    let of = subst C (sym live) seats in
    record {
      graph = started.graph;
      is = record { live = subst A (sym live) started.is.live; taps = rw tapped at over; seats = rw seated at of; few = rw seated at most };
    }
