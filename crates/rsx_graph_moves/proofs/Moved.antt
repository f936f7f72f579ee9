-- One move of a hub, as a move of the graph.
use Rattle.rsx_sources.specs.declared.machine.Machine.{Ghosts as Machine}
use Rattle.rsx_rooted.specs.declared.nodes.Nodes.{Ghosts as Nodes}
use Rattle.std.proofs.Common.{◌≡◌, ℕ, zero, suc, ◌<◌, ◌⊎◌, inl, inr, Bool, true, false, List, length, Some, None, refl, sym, ◌∙◌, subst, arith}
use Rattle.rsx_sources.specs.Prelude.{Meaning, HubId, Accept, Signal}
use Rattle.rsx_sources.specs.Steps.{IsNotMade}
use Rattle.rsx_sources.specs.declared.machine.NotMade.{NotMade}
use Rattle.rsx_sources.specs.declared.machine.NotMade.TheVariants.{NotEnabled, NoMemory}
use Rattle.rsx_tree.specs.Runs.{LeadsBy}
use Rattle.rsx_pipe.specs.Part as Part
use Rattle.rsx_subscriber.specs.Prelude.{IsQuietInside, inside_enabled, NodeMove, Send as NodeSend}
use Rattle.rsx_graph_state.specs.Moves.{IsWorkedAt}
use Rattle.rsx_graph_state.specs.Prelude.{AllHanded, History, HubState, IsAcceptedAt, IsFedAt, IsFeedMoved, IsMovedBy, Rows, StandsFor, Subscription, accepts_at, feed_enabled, feed_of, is_out, place_of, rows_of, sends}
use Rattle.rsx_graph_state.specs.declared.feed.Feed.{Feed}
use Rattle.rsx_graph_state.proofs.Calls.{known_feed, out_enabled, out_moved, work_moved}
use Rattle.rsx_graph_state.proofs.Kept.{accepted_stands, feed_moved_stands}
use Rattle.rsx_graph_state.proofs.Named.{feed_named}
use Rattle.rsx_graph_state.proofs.Places.{feed_placed, placed_feed}
use Rattle.rsx_graph_moves.specs.Moves.{name_in, sent}
use Rattle.rsx_graph_moves.specs.Pumped.{IsHubMoveRefusal, IsHubMoved, IsHubMovedOn, IsHubQuiet}
use Rattle.rsx_graph_moves.proofs.Driving.{made_one}
use Rattle.rsx_graph_moves.proofs.Named.{inside_of_feed, name_enabled, name_in_tree, name_inside, named_answer, named_happened, named_moved, not_out, not_quiet_accept, not_quiet_feed, sent_quiet}

-- ---- what was done

pub emitter_moved : {M T : Type 0} (mc : Machine M T) (kd : Nodes M T) (m : Meaning T) (h : HubId) (old new : Rows M T) → accepts_at mc old h.0 ≡ true → IsAcceptedAt mc h.0 old new → IsHubMoved mc kd m h.0 old new
emitter_moved mc kd m h old new can k = record {
  made = record { move = Accept h; delivered = None; fed = None };
  all = made_one mc kd m (Accept h) None old new can k refl (λ x s. accepted_stands mc m h old new x k s);
  silent = refl;
  awake = not_quiet_accept mc m old h.0 can;
  subs = inr (k.effect.signal, k.effect.handed);
}

subs_moved : {M T : Type 0} (mc : Machine M T) (m : Meaning T) (step : NodeMove) (out : Bool) (h : ℕ) (old new : Rows M T) → IsMovedBy mc m step out h old new → (new.subs ≡ old.subs) ⊎ ((s : Signal T) × AllHanded mc h s old.subs new.subs)
subs_moved {M} {T} mc m step true h old new k =
    let e = k.effect in
    let named = feed_named old.feeds h e.feed (placed_feed old.feeds h k.at e.feed k.place e.from) in
    let P : ℕ → Type 0 = λ n. AllHanded mc n e.signal old.subs new.subs in
    inr (e.signal, subst P named e.handed)
subs_moved mc m step false h old new k = inl k.subs

-- an enabled move of a feed
pub feed_moved_on : {M T : Type 0} (mc : Machine M T) (kd : Nodes M T) (m : Meaning T) (h : HubId) (f : Feed M) (step : NodeMove) (old new : Rows M T) → feed_of old.feeds h.0 ≡ Some f → feed_enabled mc m old h.0 step ≡ true → IsFeedMoved mc m step h.0 old new → IsHubMovedOn mc kd m h.0 old new
feed_moved_on {M} {T} mc kd m h f step old new named can k =
    let mv = name_in kd f h step in
    let tree = name_in_tree kd f h step in
    let is = name_inside kd old.feeds h f step named in
    let P : History T → Type 0 = λ y. StandsFor mc m new y in
    record {
      made = record { move = mv; delivered = None; fed = sent mc kd m old mv };
      all = made_one mc kd m mv None old new (name_enabled mc kd m old h f step named ∙ can) (named_moved mc kd m old new h step mv tree is k) (named_answer h mv None tree refl) (λ x s. subst P (sym (named_happened mc kd m old h step mv x tree is)) (feed_moved_stands mc m step h.0 old new x k s));
      silent = refl;
      subs = subs_moved mc m step (is_out step) h.0 old new k;
    }

feed_moved : {M T : Type 0} (mc : Machine M T) (kd : Nodes M T) (m : Meaning T) (h : HubId) (f : Feed M) (step : NodeMove) (old new : Rows M T) → feed_of old.feeds h.0 ≡ Some f → Part.IsNumbered step → feed_enabled mc m old h.0 step ≡ true → IsFeedMoved mc m step h.0 old new → IsHubMoved mc kd m h.0 old new
feed_moved mc kd m h f step old new named small can k =
    let on = feed_moved_on mc kd m h f step old new named can k in
    record { made = on.made; all = on.all; silent = on.silent; awake = not_quiet_feed mc m old h.0 step small can; subs = on.subs }

-- a move of a hub that was found enabled is some move of it
pub moved_on : {M T : Type 0} (mc : Machine M T) (kd : Nodes M T) (m : Meaning T) (h : ℕ) (old new : Rows M T) → IsHubMoved mc kd m h old new → IsHubMovedOn mc kd m h old new
moved_on mc kd m h old new k = record { made = k.made; all = k.all; silent = k.silent; subs = k.subs }

-- the first of several was enabled
pub awake_first : {M T : Type 0} (mc : Machine M T) (kd : Nodes M T) (m : Meaning T) (h n : ℕ) (old new : Rows M T) → LeadsBy (IsHubMoved mc kd m h) n old new → 0 < n → IsHubQuiet mc m old h → ⊥
awake_first mc kd m h zero old new moves some quiet = absurd (omega (arith, some))
awake_first mc kd m h (suc n) old new moves some quiet = moves.1.awake quiet

-- inside the feed
pub feed_worked : {M T : Type 0} (mc : Machine M T) (kd : Nodes M T) (m : Meaning T) (h : HubId) (f : Feed M) (step : NodeMove) (hubs : List (HubState T)) (feeds news : List (Feed M)) (subs : List (Subscription M T)) → h.0 < length hubs → feed_of feeds h.0 ≡ Some f → Part.IsNumbered step × (inside_enabled mc m f.part step ≡ true) → IsWorkedAt mc m step h.0 feeds news → IsHubMoved mc kd m h.0 (rows_of hubs feeds subs) (rows_of hubs news subs)
feed_worked mc kd m h f step hubs feeds news subs within named can k =
    let old = rows_of hubs feeds subs in
    let new = rows_of hubs news subs in
    feed_moved mc kd m h f step old new named can.0 (inside_of_feed mc m old h.0 f step within named can.1) (work_moved mc m h.0 old new step (not_out mc m f step can.1) (record { made = k; hubs = refl; subs = refl }))

sends_enabled : {M T : Type 0} (mc : Machine M T) (m : Meaning T) (h at : ℕ) (g : Rows M T) → h < length g.hubs → place_of g.feeds h ≡ Some at → sends mc m g h ≡ true → feed_enabled mc m g h (NodeSend 0) ≡ true
sends_enabled mc m h at g within place can = out_enabled mc m h g (NodeSend 0) true (known_feed h at g within place) refl can

-- out of it
pub feed_sent : {M T : Type 0} (mc : Machine M T) (kd : Nodes M T) (m : Meaning T) (h : HubId) (at : ℕ) (old new : Rows M T) → h.0 < length old.hubs → place_of old.feeds h.0 ≡ Some at → sends mc m old h.0 ≡ true → IsFedAt mc m h.0 old new → IsHubMoved mc kd m h.0 old new
feed_sent mc kd m h at old new within place can k =
    let f = feed_placed old.feeds h.0 at place in
    feed_moved mc kd m h f.feed (NodeSend 0) old new f.named (omega arith) (sends_enabled mc m h.0 at old within place can) (out_moved mc m h.0 old new (NodeSend 0) refl k)

-- ---- why nothing was done

pub refused : {M T : Type 0} (mc : Machine M T) (m : Meaning T) (g : Rows M T) (h : ℕ) (b : Bool) (why : NotMade) → IsNotMade b why → (b ≡ false → IsHubQuiet mc m g h) → (b ≡ true → IsHubQuiet mc m g h → ⊥) → IsHubMoveRefusal mc m g h why
refused mc m g h b NotEnabled k quiet awake = quiet k
refused mc m g h b NoMemory k quiet awake = awake k

pub send_refused : {M T : Type 0} (mc : Machine M T) (m : Meaning T) (g : Rows M T) (h at : ℕ) (f : Feed M) (why : NotMade) → h < length g.hubs → place_of g.feeds h ≡ Some at → feed_of g.feeds h ≡ Some f → IsQuietInside mc m f.part → IsNotMade (sends mc m g h) why → IsHubMoveRefusal mc m g h why
send_refused mc m g h at f why within place named quiet k =
    refused mc m g h (sends mc m g h) why k (λ e. sent_quiet mc m g h f within named quiet e) (λ e q. not_quiet_feed mc m g h (NodeSend 0) (omega arith) (sends_enabled mc m h at g within place e) q)
