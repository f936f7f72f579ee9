-- What several moves of a hub, one after the other, leave as it was, and what they make.
use Rattle.std.proofs.Common.{◌≡◌, ℕ, zero, suc, ◌+◌, ◌<◌, ◌++◌, [], ◌∷◌, Option, refl, ap, sym, ◌∙◌, subst, arith}
use Rattle.std.specs.Option.{option_to_list}
use Rattle.rsx_sources.specs.Prelude.{HubId, Meaning, Signal, SubId}
use Rattle.rsx_sources.specs.declared.machine.Machine.{Ghosts as Machine}
use Rattle.rsx_rooted.specs.declared.nodes.Nodes.{Ghosts as Nodes}
use Rattle.rsx_tree.specs.Runs.{LeadsBy}
use Rattle.rsx_tree.proofs.Runs.{leads_by_lift, leads_by_on}
use Rattle.rsx_graph_state.specs.AtOnce.{IsFeedMove}
use Rattle.rsx_graph_state.specs.Stands.{Rows, place_of}
use Rattle.rsx_graph_state.specs.SubscriptionSet.{IsSkipped, NoneReads}
use Rattle.rsx_graph_state.specs.declared.skipped.Skipped.{Skipped}
use Rattle.rsx_graph_moves.specs.IdleSet.{IsIn}
use Rattle.rsx_graph_moves.specs.Pumped.{IsHubMoved, IsHubMovedOn, IsHubQuiet}
use Rattle.rsx_graph_moves.specs.Resting.{AreIdle}
use Rattle.rsx_graph_moves.specs.declared.idle_set.IdleSet.{IdleSet}
use Rattle.rsx_graph_moves.proofs.Driving.{SoFar, so_far_none, so_far_taken}
use Rattle.rsx_graph_moves.proofs.Keeping.{lead_keep, place_kept}
use Rattle.rsx_graph_moves.proofs.Moved.{feed_moved_on, moved_on}
use Rattle.rsx_graph_moves.proofs.Readers.{moved_idle, moved_unread}

-- so many moves of a hub were made, without a look at those that are skipped
pub record HasTakenIn {M T : Type 0} (mc : Machine M T) (kd : Nodes M T) (m : Meaning T) (h : ℕ) (skipped : Skipped) (first : Rows M T) (made : ℕ) (now : Rows M T) : Type 0 where
  pub so_far : SoFar mc kd m first [] made now []
  pub place : place_of now.feeds h ≡ place_of first.feeds h
  pub unread : NoneReads mc h skipped now.subs
  pub stay : (set : IdleSet) → ((i : ℕ) → IsIn set i → IsSkipped skipped i) → AreIdle mc m set first.subs → AreIdle mc m set now.subs

one_taken_in : {M T : Type 0} (mc : Machine M T) (kd : Nodes M T) (m : Meaning T) (h : ℕ) (skipped : Skipped) (first before after : Rows M T) (made : ℕ) → HasTakenIn mc kd m h skipped first made before → IsHubMovedOn mc kd m h before after → HasTakenIn mc kd m h skipped first (made + 1) after
one_taken_in {M} {T} mc kd m h skipped first before after made i k =
    let F : Option (SubId × Signal T) → _ = λ x. option_to_list x ++ [] in
    record {
      so_far = so_far_taken mc kd m first before after [] [] made _ i.so_far k.all (ap F k.silent);
      place = place_kept before after h (lead_keep mc kd m before (k.made ∷ []) after k.all.lead) ∙ i.place;
      unread = moved_unread mc h skipped before.subs after.subs k.subs i.unread;
      stay = λ set among quiet. moved_idle mc m h skipped set before.subs after.subs k.subs i.unread among (i.stay set among quiet);
    }

more_taken_in : {M T : Type 0} (mc : Machine M T) (kd : Nodes M T) (m : Meaning T) (h : ℕ) (skipped : Skipped) (first before after : Rows M T) (made n : ℕ) → HasTakenIn mc kd m h skipped first made before → LeadsBy (IsHubMovedOn mc kd m h) n before after → HasTakenIn mc kd m h skipped first (made + n) after
more_taken_in {M} {T} mc kd m h skipped first before after made zero i moves =
    let P : Rows M T → Type 0 = λ r. HasTakenIn mc kd m h skipped first (made + 0) r in
    let N : ℕ → Type 0 = λ k. HasTakenIn mc kd m h skipped first k before in
    let same : made ≡ made + 0 = omega arith in
    subst P (sym moves) (subst N same i)
more_taken_in {M} {T} mc kd m h skipped first before after made (suc n) i moves =
    let N : ℕ → Type 0 = λ k. HasTakenIn mc kd m h skipped first k after in
    let same : made + 1 + n ≡ made + suc n = omega arith in
    subst N same (more_taken_in mc kd m h skipped first moves.0 after (made + 1) n (one_taken_in mc kd m h skipped first before moves.0 made i moves.1) moves.2)

pub many_taken_in : {M T : Type 0} (mc : Machine M T) (kd : Nodes M T) (m : Meaning T) (h : ℕ) (skipped : Skipped) (first now : Rows M T) (n : ℕ) → NoneReads mc h skipped first.subs → LeadsBy (IsHubMovedOn mc kd m h) n first now → HasTakenIn mc kd m h skipped first n now
many_taken_in {M} {T} mc kd m h skipped first now n unread moves =
    let N : ℕ → Type 0 = λ k. HasTakenIn mc kd m h skipped first k now in
    let same : 0 + n ≡ n = omega arith in
    let begun : HasTakenIn mc kd m h skipped first 0 first = record { so_far = so_far_none mc kd m first []; place = refl; unread = unread; stay = λ set among quiet. quiet } in
    subst N same (more_taken_in mc kd m h skipped first first now 0 n begun moves)

-- ---- a feed that sends many items at once

-- where some move was enabled in the first place, or none was made yet and one is enabled now
awake_on : {M T : Type 0} (mc : Machine M T) (kd : Nodes M T) (m : Meaning T) (h made : ℕ) (first now : Rows M T) → LeadsBy (IsHubMovedOn mc kd m h) made first now → (0 < made → IsHubQuiet mc m first h → ⊥) → (IsHubQuiet mc m now h → ⊥) → IsHubQuiet mc m first h → ⊥
awake_on {M} {T} mc kd m h zero first now moves before awake = let P : Rows M T → Type 0 = λ r. IsHubQuiet mc m r h → ⊥ in subst P moves awake
awake_on mc kd m h (suc n) first now moves before awake = before (omega arith)

-- after one move more, and then those by which many items were sent at once
pub record HaveFed {M T : Type 0} (mc : Machine M T) (kd : Nodes M T) (m : Meaning T) (h : ℕ) (skipped : Skipped) (first : Rows M T) (made : ℕ) (now : Rows M T) : Type 0 where
  pub moves : LeadsBy (IsHubMovedOn mc kd m h) made first now
  pub awake : IsHubQuiet mc m first h → ⊥
  pub place : place_of now.feeds h ≡ place_of first.feeds h
  pub unread : NoneReads mc h skipped now.subs

pub fed_one : {M T : Type 0} (mc : Machine M T) (kd : Nodes M T) (m : Meaning T) (h : HubId) (skipped : Skipped) (first before after : Rows M T) (made : ℕ) → NoneReads mc h.0 skipped first.subs → LeadsBy (IsHubMovedOn mc kd m h.0) made first before → (0 < made → IsHubQuiet mc m first h.0 → ⊥) → IsHubMoved mc kd m h.0 before after →
    HaveFed mc kd m h.0 skipped first (made + 1) after
fed_one mc kd m h skipped first before after made unread moves awake k =
    let all = leads_by_on (IsHubMovedOn mc kd m h.0) made 1 first before after moves (after, moved_on mc kd m h.0 before after k, refl) in
    let taken = many_taken_in mc kd m h.0 skipped first after (made + 1) unread all in
    record { moves = all; awake = awake_on mc kd m h.0 made first before moves awake k.awake; place = taken.place; unread = taken.unread }

pub fed_many : {M T : Type 0} (mc : Machine M T) (kd : Nodes M T) (m : Meaning T) (h : HubId) (skipped : Skipped) (first before after : Rows M T) (made many : ℕ) → NoneReads mc h.0 skipped first.subs → HaveFed mc kd m h.0 skipped first made before → LeadsBy (IsFeedMove mc m h.0) many before after →
    HaveFed mc kd m h.0 skipped first (made + many) after
fed_many mc kd m h skipped first before after made many unread fed moves =
    let more = leads_by_lift (IsFeedMove mc m h.0) (IsHubMovedOn mc kd m h.0) (λ r. r) (λ a b k. feed_moved_on mc kd m h k.feed k.step a b k.named k.enabled k.effect) many before after moves in
    let all = leads_by_on (IsHubMovedOn mc kd m h.0) made many first before after fed.moves more in
    let taken = many_taken_in mc kd m h.0 skipped first after (made + many) unread all in
    record { moves = all; awake = fed.awake; place = taken.place; unread = taken.unread }
