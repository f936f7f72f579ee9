-- Why nothing comes from a hub.
use Rattle.std.proofs.Common.{◌≡◌, ◌<◌, ◌^◌, Bool, true, false, ◌&&◌, List, Option, Some, None, option_map, slice_get, refl, ap, sym, ◌∙◌, subst, arith}
use Rattle.std.specs.Prelude.{is_none}
use Rattle.rsx_types.specs.declared.names.HubId.{HubId}
use Rattle.rsx_sources.specs.Prelude.{Accept, Complete, Error, Meaning, Move, Next, Signal, Tree, Feed as FeedOf, front_of}
use Rattle.rsx_sources.specs.declared.machine.Front.{Front}
use Rattle.rsx_sources.specs.declared.machine.Front.TheVariants.{Item}
use Rattle.rsx_sources.specs.declared.machine.Machine.{Ghosts as Machine}
use Rattle.rsx_rooted.specs.declared.nodes.Nodes.{Ghosts as Nodes}
use Rattle.rsx_subscriber.specs.Prelude.{IsNumbered, IsQuietInside, NodeMove, Send as NodeSend, inside_enabled, inside_node, next_out, route, tree_of}
use Rattle.rsx_graph_state.specs.Prelude.{HubState, Subscription, accepts_in, all_have_room, can_accept, can_feed, feed_of, is_ready, place_of, rows_of, takes_next, waiting}
use Rattle.rsx_graph_state.specs.declared.feed.Feed.{Feed}
use Rattle.rsx_pipe.specs.Part as Part
use Rattle.rsx_subscriber.proofs.Names.{numbered_name}
use Rattle.rsx_graph_state.proofs.Named.{feed_named}
use Rattle.rsx_graph_state.proofs.Places.{unfed_there}
use Rattle.rsx_graph_moves.specs.Moves.{is_enabled, name_in}
use Rattle.rsx_graph_moves.proofs.Named.{inside_of_feed, name_enabled, name_in_tree, out_of_feed}
use Rattle.rsx_graph_moves.specs.Hubs.{IsFull, IsWhy, next_in}
use Rattle.rsx_graph_moves.proofs.Lacking.{got_within}
use Rattle.rsx_waits.specs.declared.wait.HubWait.TheVariants.{Nothing, Feed as OfFeed, Enabled, HeldBy}

-- ---- which signal waits in front

pub none_waits : {T : Type 0} (o : Option (Signal T)) → None ≡ option_map front_of o → o ≡ None
none_waits None e = refl
none_waits (Some s) e = cc

pub item_waits : {T : Type 0} (o : Option (Signal T)) → Some Item ≡ option_map front_of o → (x : T) × (o ≡ Some (Next x))
item_waits None e = cc
item_waits (Some (Next x)) e = (x, refl)
item_waits (Some Complete) e = cc
item_waits (Some (Error c)) e = cc

-- it is ready where there is room, and an ending needs none
pub item_ready : {T : Type 0} (o : Option (Signal T)) (room : Bool) → Some Item ≡ option_map front_of o → room ≡ true → is_ready o room ≡ true
item_ready None room e r = cc
item_ready (Some (Next x)) room e r = r
item_ready (Some Complete) room e r = cc
item_ready (Some (Error c)) room e r = cc

pub ending_ready : {T : Type 0} (o : Option (Signal T)) (f : Front) (room : Bool) → (f ≡ Item → ⊥) → Some f ≡ option_map front_of o → is_ready o room ≡ true
ending_ready None f room other e = cc
ending_ready (Some (Next x)) f room other e = let same : f ≡ Item = cc in absurd (other same)
ending_ready (Some Complete) f room other e = refl
ending_ready (Some (Error c)) f room other e = refl

-- ---- a hub with an emitter

pub nothing_there : {M T : Type 0} (mc : Machine M T) (kd : Nodes M T) (m : Meaning T) (hubs : List (HubState T)) (feeds : List (Feed M)) (subs : List (Subscription M T)) (h : HubId) (hub : HubState T) → place_of feeds h.0 ≡ None → None ≡ option_map front_of (waiting hub) → IsWhy mc kd m (rows_of hubs feeds subs) h hub Nothing
nothing_there mc kd m hubs feeds subs h hub unfed none = (unfed_there feeds h.0 unfed, none_waits (waiting hub) none)

pub held_there : {M T : Type 0} (mc : Machine M T) (kd : Nodes M T) (m : Meaning T) (hubs : List (HubState T)) (feeds : List (Feed M)) (subs : List (Subscription M T)) (h : HubId) (hub : HubState T) (tree : Tree) → place_of feeds h.0 ≡ None → Some Item ≡ option_map front_of (waiting hub) → IsFull mc feeds subs h.0 tree →
    IsWhy mc kd m (rows_of hubs feeds subs) h hub (HeldBy tree)
held_there mc kd m hubs feeds subs h hub tree unfed front full =
    let item = item_waits (waiting hub) front in
    record { item = item.0; waits = ap (λ o. next_in mc m o hub) (unfed_there feeds h.0 unfed) ∙ item.1; full = full }

pub ready_there : {M T : Type 0} (mc : Machine M T) (kd : Nodes M T) (m : Meaning T) (hubs : List (HubState T)) (feeds : List (Feed M)) (subs : List (Subscription M T)) (h : HubId) (hub : HubState T) → place_of feeds h.0 ≡ None → h.0 < 2 ^ 32 → slice_get hubs h.0 ≡ Some hub → can_accept mc h.0 hub feeds subs ≡ true →
    IsWhy mc kd m (rows_of hubs feeds subs) h hub (Enabled (Accept h))
ready_there mc kd m hubs feeds subs h hub unfed small there can =
    (small, refl, ap (λ o. accepts_in mc (rows_of hubs feeds subs) o h.0) there ∙ (ap (λ o. is_none o && can_accept mc h.0 hub feeds subs) (unfed_there feeds h.0 unfed) ∙ can))

-- ---- a hub with a feed

pub worked_there : {M T : Type 0} (mc : Machine M T) (kd : Nodes M T) (m : Meaning T) (hubs : List (HubState T)) (feeds : List (Feed M)) (subs : List (Subscription M T)) (h : HubId) (hub : HubState T) (f : Feed M) (inside : NodeMove) (mv : Move) → feed_of feeds h.0 ≡ Some f → slice_get hubs h.0 ≡ Some hub → mv ≡ name_in kd f h inside → Part.IsNumbered inside → inside_enabled mc m f.part inside ≡ true →
    IsWhy mc kd m (rows_of hubs feeds subs) h hub (Enabled mv)
worked_there mc kd m hubs feeds subs h hub f inside mv placed there name small can = (
  subst IsNumbered (sym name) (numbered_name (route kd f.part (inside_node inside)) (FeedOf h) inside small),
  ap tree_of name ∙ name_in_tree kd f h inside,
  ap (λ x. is_enabled mc kd m (rows_of hubs feeds subs) x) name
      ∙ (name_enabled mc kd m (rows_of hubs feeds subs) h f inside placed ∙ inside_of_feed mc m (rows_of hubs feeds subs) h.0 f inside (got_within hubs h.0 hub there) placed can),
)

pub sent_there : {M T : Type 0} (mc : Machine M T) (kd : Nodes M T) (m : Meaning T) (hubs : List (HubState T)) (feeds : List (Feed M)) (subs : List (Subscription M T)) (h : HubId) (hub : HubState T) (f : Feed M) (mv : Move) → feed_of feeds h.0 ≡ Some f → slice_get hubs h.0 ≡ Some hub → mv ≡ name_in kd f h (NodeSend 0) → can_feed mc m f hub feeds subs ≡ true →
    IsWhy mc kd m (rows_of hubs feeds subs) h hub (Enabled mv)
sent_there mc kd m hubs feeds subs h hub f mv placed there name can = (
  subst IsNumbered (sym name) (numbered_name (route kd f.part 0) (FeedOf h) (NodeSend 0) (omega arith)),
  ap tree_of name ∙ name_in_tree kd f h (NodeSend 0),
  ap (λ x. is_enabled mc kd m (rows_of hubs feeds subs) x) name
      ∙ (name_enabled mc kd m (rows_of hubs feeds subs) h f (NodeSend 0) placed ∙ out_of_feed mc m (rows_of hubs feeds subs) h.0 hub f there placed can),
)

pub feed_held_there : {M T : Type 0} (mc : Machine M T) (kd : Nodes M T) (m : Meaning T) (hubs : List (HubState T)) (feeds : List (Feed M)) (subs : List (Subscription M T)) (h : HubId) (hub : HubState T) (f : Feed M) (tree : Tree) → feed_of feeds h.0 ≡ Some f → Some Item ≡ option_map front_of (next_out mc m f.part) → IsFull mc feeds subs h.0 tree →
    IsWhy mc kd m (rows_of hubs feeds subs) h hub (HeldBy tree)
feed_held_there mc kd m hubs feeds subs h hub f tree placed front full =
    let item = item_waits (next_out mc m f.part) front in
    record { item = item.0; waits = ap (λ o. next_in mc m o hub) placed ∙ item.1; full = full }

-- what isn't taken in, though there is room for it, or though it needs none, isn't taken in whatever room there is
not_taken : {T : Type 0} (o : Option (Signal T)) (hub : HubState T) (room : Bool) → takes_next o hub room ≡ false → room ≡ true → takes_next o hub true ≡ false
not_taken o hub room off all = sym (ap (λ r. takes_next o hub r) all) ∙ off

not_item : {T : Type 0} (o : Option (Signal T)) (hub : HubState T) (room : Bool) → (Some Item ≡ option_map front_of o → ⊥) → takes_next o hub room ≡ false → takes_next o hub true ≡ false
not_item None hub room other e = refl
not_item (Some (Next x)) hub room other e = absurd (other refl)
not_item (Some Complete) hub room other e = e
not_item (Some (Error c)) hub room other e = e

pub silent_there : {M T : Type 0} (mc : Machine M T) (kd : Nodes M T) (m : Meaning T) (hubs : List (HubState T)) (feeds : List (Feed M)) (subs : List (Subscription M T)) (h : HubId) (hub : HubState T) (f : Feed M) → feed_of feeds h.0 ≡ Some f → IsQuietInside mc m f.part → can_feed mc m f hub feeds subs ≡ false → all_have_room mc h.0 feeds subs ≡ true →
    IsWhy mc kd m (rows_of hubs feeds subs) h hub OfFeed
silent_there mc kd m hubs feeds subs h hub f placed quiet off room =
    record { feed = f; fed = placed; quiet = quiet; nothing = not_taken (next_out mc m f.part) hub (all_have_room mc f.hub feeds subs) off (ap (λ k. all_have_room mc k feeds subs) (feed_named feeds h.0 f placed) ∙ room) }

pub ended_there : {M T : Type 0} (mc : Machine M T) (kd : Nodes M T) (m : Meaning T) (hubs : List (HubState T)) (feeds : List (Feed M)) (subs : List (Subscription M T)) (h : HubId) (hub : HubState T) (f : Feed M) (o : Option Front) → feed_of feeds h.0 ≡ Some f → IsQuietInside mc m f.part → can_feed mc m f hub feeds subs ≡ false → o ≡ option_map front_of (next_out mc m f.part) → (o ≡ Some Item → ⊥) →
    IsWhy mc kd m (rows_of hubs feeds subs) h hub OfFeed
ended_there mc kd m hubs feeds subs h hub f o placed quiet off front other =
    record { feed = f; fed = placed; quiet = quiet; nothing = not_item (next_out mc m f.part) hub (all_have_room mc f.hub feeds subs) (λ e. other (front ∙ sym e)) off }
