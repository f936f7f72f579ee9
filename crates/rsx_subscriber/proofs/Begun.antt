-- A subscription that has just begun stands for its past.
use Rattle.rsx_sources.specs.declared.machine.Machine.{Ghosts as Machine}
use Rattle.std.proofs.Common.{◌≡◌, ℕ, suc, List, [], ◌∷◌, length, true, false, None, sym, ap, ◌∙◌, subst}
use Rattle.rsx_demand.specs.declared.Demand.{Demand}
use Rattle.rsx_model.specs.Check.{refusal}
use Rattle.rsx_model.specs.declared.expr.Expr.{Expr}
use Rattle.rsx_hub.specs.Hub.{HubState}
use Rattle.rsx_pipe.specs.Built.{fresh_edge, fresh_edges, new_joins}
use Rattle.rsx_pipe.specs.Crossings.{IsPlaced}
use Rattle.rsx_pipe.specs.Published.{AreTaken}
use Rattle.rsx_tree.specs.Edges.{edge_view}
use Rattle.rsx_pipe.specs.Part.{PartStands}
use Rattle.rsx_pipe.specs.Tree.{edges}
use Rattle.rsx_tree.specs.declared.edge.EdgeState.TheVariants.{Live, Closed}
use Rattle.rsx_subscriber.proofs.Moves.{live_test}
use Rattle.rsx_pipe.proofs.Rows.{length_fresh}
use Rattle.rsx_subscriber.proofs.Values.{new_joins_count, taken_length}
use Rattle.rsx_subscriber.specs.Begun.{IsFresh}
use Rattle.rsx_subscriber.specs.Past.{subscribed, IsLive}
use Rattle.rsx_subscriber.specs.Standing.{standing}
use Rattle.rsx_subscriber.specs.Stands.{Stands, standing_of}
use Rattle.rsx_subscriber.specs.declared.state.SubscriptionState.TheVariants.{Open}
use Rattle.rsx_subscriber.specs.declared.subscription.Subscription.{Subscription}
use Rattle.rsx_subscription.specs.declared.State.TheVariants.{Open as OpenState}
use Rattle.rsx_sources.specs.Prelude.{Meaning, Stream}

-- how the subscriber stands at the beginning
pub record IsBegun {M T : Type 0} (sub : Subscription M T) : Type 0 where
  pub state : sub.state ≡ OpenState
  pub live : sub.live ≡ true
  pub asked : sub.demand.asked ≡ 0
  pub delivered : sub.demand.sent ≡ 0

pub begun : {M T : Type 0} (sub : Subscription M T) (d : Demand) → d.asked ≡ 0 → d.sent ≡ 0 → sub.state ≡ OpenState → sub.live ≡ true → sub.demand.asked ≡ d.asked → sub.demand.sent ≡ d.sent → IsBegun sub
begun sub d a s o l r t = record { state = o; live = l; asked = r ∙ a; delivered = t ∙ s }

pub stands_fresh : {M T : Type 0} (mc : Machine M T) (m : Meaning T) (hubs : List (HubState T)) (published : List (Stream T)) (e : Expr T) (sub : Subscription M T) → refusal (length hubs) e ≡ None → AreTaken hubs published → PartStands mc m published sub.part e (new_joins hubs e) [] → edge_view sub.part.root ≡ fresh_edge → edges sub.part.tree ≡ fresh_edges e → sub.queue ≡ [] → IsBegun sub → Stands mc m published sub (subscribed e (new_joins hubs e))
stands_fresh {M} {T} mc m hubs published e sub ok taken b root below q f =
    let o : standing_of sub ≡ Open = ap (λ t. standing t sub.live) f.state in
    let live : IsLive (standing_of sub) = rw o tt in
    record {
      state = o;
      live = f.live ∙ sym (live_test (standing_of sub) live);
      output = [];
      part = b;
      held = λ _. q;
      begun = λ dead. absurd (dead live);
      orderly = tt;
      waits = λ _. tt;
      got = λ x. let k = o in cc;
      unclosed = λ _ c. not_closed (ap (λ v. v.state) (sym root) ∙ c);
      asked = ap (λ v. v.asked) root;
      requested = f.asked;
      delivered = f.delivered;
      admitted = let P : ℕ → Type 0 = λ n. refusal n e ≡ None in subst P (taken_length hubs published taken) ok;
      shape = ap suc (ap length below) ∙ length_fresh e;
      joined = new_joins_count hubs e;
      closed = λ dead. absurd (dead live);
    }
  where
    not_closed : Live ≡ Closed → ⊥
    not_closed c = cc

pub fresh_sub : {M T : Type 0} (mc : Machine M T) (m : Meaning T) (e : Expr T) (sub : Subscription M T) → edge_view sub.part.root ≡ fresh_edge → edges sub.part.tree ≡ fresh_edges e → IsPlaced mc.crosses e false sub.part.tree → sub.queue ≡ [] → IsBegun sub → IsFresh mc e sub
fresh_sub mc m e sub root below placed q f = record {
  edges = ap (λ v. v ∷ edges sub.part.tree) root ∙ ap (λ es. fresh_edge ∷ es) below;
  placed = placed;
  queue = q;
  state = f.state;
  live = f.live;
  asked = f.asked;
  delivered = f.delivered;
}
