-- An open subscription, none of whose moves is enabled.
use Rattle.std.proofs.Common.{◌≡◌, ℕ, ◌<◌, ◌≤◌, length, slice_get, Some, sym, subst, arith}
use Rattle.rsx_types.specs.declared.names.HubId.{HubId}
use Rattle.rsx_types.specs.declared.names.NodeId.{NodeId}
use Rattle.rsx_sources.specs.Prelude.{Meaning, SubId}
use Rattle.rsx_sources.specs.declared.machine.Machine.{Ghosts as Machine}
use Rattle.rsx_rooted.specs.declared.nodes.Nodes.{Ghosts as Nodes}
use Rattle.rsx_rooted.specs.declared.rooted.Rooted.{Rooted}
use Rattle.rsx_subscriber.specs.Prelude.{IsQuiet, standing_of}
use Rattle.rsx_subscriber.specs.declared.state.SubscriptionState.TheVariants.{Open}
use Rattle.rsx_graph_state.specs.Prelude.{Rows, Subscription}
use Rattle.rsx_graph_moves.specs.Explained.{IsWait}
use Rattle.rsx_graph_moves.specs.Hubs.{IsHubWait}
use Rattle.rsx_graph_moves.specs.Idle.{LacksAll}
use Rattle.rsx_graph_moves.specs.Waiting.{Waits}
use Rattle.rsx_graph_moves.proofs.Lacking.{hub_within, lacks_all}
use Rattle.rsx_waits.specs.declared.wait.HubWait.{HubWait}
use Rattle.rsx_waits.specs.declared.wait.Wait.TheVariants.{Request, Hub, Unknown}

-- it received as many items as it asked for
pub awaits_request : {M T : Type 0} (mc : Machine M T) (kd : Nodes M T) (m : Meaning T) (g : Rows M T) (i : SubId) (s : Subscription M T) (asked delivered : ℕ) → slice_get g.subs i.0 ≡ Some s → standing_of s ≡ Open → IsQuiet mc m s → asked ≡ s.demand.asked → delivered ≡ s.demand.sent → delivered ≡ asked → IsWait mc kd m g i (Request asked)
awaits_request mc kd m g i s asked delivered there o quiet a d same = record {
  sub = s;
  there = there;
  wait = record { idle = record { open_still = o; quiet = quiet }; asked = sym a; received = omega (arith, a, d, same) };
}

less : (asked delivered a d : ℕ) → asked ≡ a → delivered ≡ d → d ≤ a → (delivered ≡ asked → ⊥) → d < a
less asked delivered a d is was covered other = omega (arith, is, was, covered, other)

-- it asked for more, and a node of its tree waits for a hub that is there
pub awaits_hub : {M T : Type 0} (mc : Machine M T) (kd : Nodes M T) (m : Meaning T) (g : Rows M T) (i : SubId) (s : Subscription M T) (asked delivered : ℕ) (r : Rooted M) (node : NodeId) (hub : HubId) (number : ℕ) (why : HubWait) →
    slice_get g.subs i.0 ≡ Some s → standing_of s ≡ Open → IsQuiet mc m s → asked ≡ s.demand.asked → delivered ≡ s.demand.sent → (delivered ≡ asked → ⊥) → r ≡ s.part → Waits mc r.root r.tree node.0 number → hub.0 ≡ number → IsHubWait mc kd m g hub why → IsWait mc kd m g i (Hub node hub why)
awaits_hub {M} mc kd m g i s asked delivered r node hub number why there o quiet a d more part leaf same is =
    let covered = s.demand.covered in
    let P : Rooted M → Type 0 = λ x. Waits mc x.root x.tree node.0 hub.0 in
    let Q : ℕ → Type 0 = λ n. Waits mc r.root r.tree node.0 n in
    record {
      sub = s;
      there = there;
      wait = record {
        idle = record { open_still = o; quiet = quiet };
        more = less asked delivered s.demand.asked s.demand.sent a d covered more;
        leaf = subst P part (subst Q (sym same) leaf);
        why = is;
      };
    }

-- it asked for more, and no node of its tree is found that waits for a hub
pub none_found : {M T : Type 0} (mc : Machine M T) (kd : Nodes M T) (m : Meaning T) (g : Rows M T) (i : SubId) (s : Subscription M T) (asked delivered : ℕ) (r : Rooted M) →
    slice_get g.subs i.0 ≡ Some s → standing_of s ≡ Open → IsQuiet mc m s → asked ≡ s.demand.asked → delivered ≡ s.demand.sent → (delivered ≡ asked → ⊥) → r ≡ s.part → (LacksAll mc m r.root r.tree → ⊥) → IsWait mc kd m g i Unknown
none_found {M} mc kd m g i s asked delivered r there o quiet a d more part none =
    let covered = s.demand.covered in
    let lacking = less asked delivered s.demand.asked s.demand.sent a d covered more in
    let P : Rooted M → Type 0 = λ x. LacksAll mc m x.root x.tree in
    record {
      sub = s;
      there = there;
      wait = record {
        idle = record { open_still = o; quiet = quiet };
        more = lacking;
        never = λ published past many stands within. none (subst P (sym part) (lacks_all mc m published s past o quiet lacking stands within));
      };
    }

-- it asked for more, and the node that is found waits for a hub that isn't there
pub hub_missing : {M T : Type 0} (mc : Machine M T) (kd : Nodes M T) (m : Meaning T) (g : Rows M T) (i : SubId) (s : Subscription M T) (asked delivered : ℕ) (r : Rooted M) (node number : ℕ) →
    slice_get g.subs i.0 ≡ Some s → standing_of s ≡ Open → IsQuiet mc m s → asked ≡ s.demand.asked → delivered ≡ s.demand.sent → (delivered ≡ asked → ⊥) → r ≡ s.part → Waits mc r.root r.tree node number → length g.hubs ≤ number → IsWait mc kd m g i Unknown
hub_missing {M} mc kd m g i s asked delivered r node number there o quiet a d more part leaf missing =
    let covered = s.demand.covered in
    let lacking = less asked delivered s.demand.asked s.demand.sent a d covered more in
    let P : Rooted M → Type 0 = λ x. Waits mc x.root x.tree node number in
    record {
      sub = s;
      there = there;
      wait = record {
        idle = record { open_still = o; quiet = quiet };
        more = lacking;
        never = λ published past many stands within.
            let all = lacks_all mc m published s past o quiet lacking stands within in
            let k = hub_within mc m published s past stands all.live node number (subst P part leaf) in
            absurd (omega (arith, k, many, missing));
      };
    }
