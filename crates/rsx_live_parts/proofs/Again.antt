-- A subscription whose part went on as a piece stands for what it stood for, with what its tap gave.
use Rattle.std.proofs.Common.{◌≡◌, inl, inr, ℕ, ◌+◌, ◌-◌, ◌≤◌, min, Bool, true, false, List, [], ◌∷◌, ◌++◌, length, map, replicate, refl, ap, sym, ◌∙◌, subst, append_assoc, append-nil, length-append, arith}
use Rattle.rsx_demand.specs.Demand.{saturating_total}
use Rattle.rsx_demand.specs.declared.TheConstants.{UNBOUNDED}
use Rattle.rsx_sources.specs.Prelude.{Complete, Error, Meaning, Next, Signal, Stream}
use Rattle.rsx_sources.specs.declared.machine.Machine.{Ghosts as Machine}
use Rattle.rsx_tree.specs.declared.edge.EdgeState.TheVariants.{Closed}
use Rattle.rsx_rooted.proofs.Signals.{IsUnended-front, items_in-append}
use Rattle.rsx_rooted.specs.Local.{stream_of}
use Rattle.rsx_pipe.specs.Output.{IsOrderly, IsPrefixOf, IsUnended, items_in}
use Rattle.rsx_pipe.specs.Part.{Part, PartStands, all_edges}
use Rattle.rsx_link.specs.Ends.{asked_total, carried_down, carried_up, received_signals, seen_total, sent_signals}
use Rattle.rsx_link.specs.Signals.{items_in as counted_in}
use Rattle.rsx_link.specs.declared.link.Link.{Link}
use Rattle.rsx_region.specs.Piece.{PieceStands}
use Rattle.rsx_region.specs.Pieces.{StandsSince, came_of, numbers_of, taken_by, taken_of, none_taken}
use Rattle.rsx_region.specs.declared.piece.Incoming.{Incoming}
use Rattle.rsx_region.specs.declared.piece.Piece.{Piece}
use Rattle.rsx_runtime.specs.Ordered.{is_none, is_orderly, is_unended}
use Rattle.rsx_runtime.specs.Standing.{error_of}
use Rattle.rsx_runtime.specs.Tapping.{given}
use Rattle.rsx_runtime.specs.declared.tap.Tap.{Tap}
use Rattle.rsx_subscriber.specs.Past.{IsLive, Past}
use Rattle.rsx_subscriber.specs.Standing.{live_in}
use Rattle.rsx_subscriber.specs.Stands.{Stands, standing_of}
use Rattle.rsx_subscriber.specs.declared.state.SubscriptionState.{SubscriptionState}
use Rattle.rsx_subscriber.specs.declared.state.SubscriptionState.TheVariants.{Open, Ended, Cancelled, Refused}
use Rattle.rsx_subscriber.specs.declared.subscription.Subscription.{Subscription}
use Rattle.rsx_subscriber.proofs.Values.{notes_count}
use Rattle.rsx_live_parts.specs.Outgoing.{IsOutOf}
use Rattle.rsx_live_parts.specs.Returning.{IsBackOf, IsPutInto, lived, lived_state}
use Rattle.rsx_live_parts.proofs.Parts.{counted_items, orderly_both, part_again, unended_behind, unended_both}

-- ---- signals

is_unended_so : {T : Type 0} (ss : List (Signal T)) → is_unended ss ≡ true → IsUnended ss
is_unended_so [] h = tt
is_unended_so (Next x ∷ ss) h = is_unended_so ss h
is_unended_so (Complete ∷ ss) h = cc
is_unended_so (Error c ∷ ss) h = cc

is_ended_so : {T : Type 0} (ss : List (Signal T)) → is_unended ss ≡ false → IsUnended ss → ⊥
is_ended_so [] h u = cc
is_ended_so (Next x ∷ ss) h u = is_ended_so ss h u
is_ended_so (Complete ∷ ss) h u = u
is_ended_so (Error c ∷ ss) h u = u

none_so : {T : Type 0} (ss : List (Signal T)) → is_none ss ≡ true → ss ≡ []
none_so [] h = refl
none_so (s ∷ ss) h = cc

is_orderly_so : {T : Type 0} (ss : List (Signal T)) → is_orderly ss ≡ true → IsOrderly ss
is_orderly_so [] h = tt
is_orderly_so (Next x ∷ ss) h = is_orderly_so ss h
is_orderly_so (Complete ∷ ss) h = none_so ss h
is_orderly_so (Error c ∷ ss) h = none_so ss h

no_items : {T : Type 0} (error : Bool) → items_in (error_of {T = T} error) ≡ []
no_items false = refl
no_items true = refl

-- ---- how it stands

live_means : (s : SubscriptionState) → IsLive s → live_in s ≡ true
live_means Open h = refl
live_means Ended h = refl
live_means Cancelled h = absurd h
live_means Refused h = absurd h

dead_means : (s : SubscriptionState) → (IsLive s → ⊥) → live_in s ≡ false
dead_means Open h = absurd (h tt)
dead_means Ended h = absurd (h tt)
dead_means Cancelled h = refl
dead_means Refused h = refl

no_error : (error unended stopped : Bool) → IsLive (lived_state error unended stopped) → error ≡ false
no_error true unended stopped h = absurd h
no_error false unended stopped h = refl

open_means : (error unended stopped : Bool) → lived_state error unended stopped ≡ Open → (error ≡ false) × (unended ≡ true)
open_means true unended stopped h = cc
open_means false true true h = cc
open_means false true false h = (refl, refl)
open_means false false stopped h = cc

ended_means : (error unended stopped : Bool) → lived_state error unended stopped ≡ Ended → unended ≡ false
ended_means true unended stopped h = cc
ended_means false true true h = cc
ended_means false true false h = cc
ended_means false false stopped h = refl

-- one that is live though a flag was set has ended
stopped_means : (error unended stopped : Bool) → IsLive (lived_state error unended stopped) → stopped ≡ true → unended ≡ false
stopped_means true unended stopped h e = absurd h
stopped_means false true true h e = absurd h
stopped_means false true false h e = cc
stopped_means false false stopped h e = refl

-- ---- numbers

none_in : {A B : Type 0} (f : A → B) (xs : List A) → map f xs ≡ [] → xs ≡ []
none_in f [] e = refl
none_in f (x ∷ xs) e = cc

raised_to : (root seen total : ℕ) → root ≡ min UNBOUNDED seen → seen ≤ total → total ≤ UNBOUNDED → saturating_total root (total - root) ≡ total
raised_to root seen total is less most = omega (arith, is, less, most)

-- ---- the subscription

module _ {M T : Type 0} (b : Machine M T) (m : Meaning T) (n number : ℕ) (was : Subscription M T) (opening piece : Piece M T) (made link : Link T) (tap : Tap T) (stopped : Bool) (sub : Subscription M T)
    (out : IsOutOf b was number opening made) (counts : carried_down tap.down ≡ was.demand.sent) (since : StandsSince b m (none_taken n) opening piece) (back : IsBackOf b piece tap stopped sub) (published : List (Stream T)) (past : Past T) (st : Stands b m published was past) where
  abbrev received : List (Signal T)
  received = received_signals tap.down

  abbrev unended : Bool
  unended = is_unended received

  live_was : IsLive (standing_of was)
  live_was = subst IsLive (sym out.may.stands) tt

  -- what the piece is since its opening
  taken_none : taken_of (none_taken n) piece ≡ replicate n (stream_of [])
  taken_none =
      let ins : piece.inlets.items ≡ [] = none_in numbers_of piece.inlets.items (since.links.1 ∙ ap (map numbers_of) out.ins) in
      ap (λ (l : List (Incoming T)). taken_by stream_of (none_taken n) (map came_of l)) ins

  stands_piece : PieceStands b m (replicate n (stream_of [])) was.part.tree was.queue piece.part piece.up
  stands_piece =
      let A : List (Stream T) → Type 0 = λ t. PieceStands b m t opening.part.tree (sent_signals opening.up) piece.part piece.up in
      let B : Part M → Type 0 = λ q. PieceStands b m (replicate n (stream_of [])) q.tree (sent_signals opening.up) piece.part piece.up in
      let C : List (Signal T) → Type 0 = λ l. PieceStands b m (replicate n (stream_of [])) was.part.tree l piece.part piece.up in
      subst C out.sent (subst B out.part (subst A taken_none since.part))

  abbrev p_out : List (Signal T)
  p_out = stands_piece.out

  abbrev output : List (Signal T)
  output = st.output ++ p_out

  part_was : PartStands b m published piece.part past.expression past.joins output
  part_was =
      let counted : carried_up piece.up + counted_in was.queue ≡ was.part.root.demand.sent = ap (λ k. k + counted_in was.queue) (since.carried ∙ out.carried) ∙ out.may.counts.sent in
      part_again b m published past.expression past.joins st.output n was.part piece.part was.queue piece.up st.part out.may.counts.live out.may.nothing stands_piece counted

  -- what was received, and what the link holds still, is all that was put out
  all_out : past.received ++ (received ++ back.remaining) ≡ output
  all_out =
      ap (λ l. past.received ++ l) (back.signals ∙ stands_piece.sent)
      ∙ (sym (append_assoc past.received was.queue p_out) ∙ ap (λ l. l ++ p_out) (st.held live_was))

  unended_past : IsUnended past.received
  unended_past = st.waits out.may.stands

  unended_queue : IsUnended was.queue
  unended_queue = unended_behind past.received was.queue (subst IsUnended (sym (st.held live_was)) (st.part.unended out.may.counts.live))

  gave : tap.error ≡ false → given tap ≡ received
  gave none = ap (λ e. received ++ error_of e) none ∙ append-nil received

  stands_so : standing_of sub ≡ lived_state tap.error unended stopped
  stands_so = back.stands

  put_live : IsLive (standing_of sub) → IsPutInto true piece.part back.remaining sub.part sub.queue
  put_live live = let P : Bool → Type 0 = λ l. IsPutInto l piece.part back.remaining sub.part sub.queue in subst P (live_means (standing_of sub) live) back.put

  put_dead : (IsLive (standing_of sub) → ⊥) → IsPutInto false piece.part back.remaining sub.part sub.queue
  put_dead dead = let P : Bool → Type 0 = λ l. IsPutInto l piece.part back.remaining sub.part sub.queue in subst P (dead_means (standing_of sub) dead) back.put

  held_now : IsLive (standing_of sub) → (past.received ++ given tap) ++ sub.queue ≡ output
  held_now live =
      let none : tap.error ≡ false = no_error tap.error unended stopped (subst IsLive stands_so live) in
      ap (λ l. (past.received ++ l) ++ sub.queue) (gave none)
      ∙ (ap (λ q. (past.received ++ received) ++ q) (put_live live).2 ∙ (append_assoc past.received received back.remaining ∙ all_out))

  items_now : items_in (past.received ++ given tap) ≡ items_in past.received ++ items_in received
  items_now =
      items_in-append past.received (given tap)
      ∙ ap (λ l. items_in past.received ++ l) (items_in-append received (error_of tap.error) ∙ (ap (λ l. items_in received ++ l) (no_items tap.error) ∙ append-nil (items_in received)))

  begun_now : IsPrefixOf (items_in (past.received ++ given tap)) (items_in output)
  begun_now = (
    items_in back.remaining,
    ap (λ l. l ++ items_in back.remaining) items_now
        ∙ (append_assoc (items_in past.received) (items_in received) (items_in back.remaining)
        ∙ (ap (λ l. items_in past.received ++ l) (sym (items_in-append received back.remaining)) ∙ (sym (items_in-append past.received (received ++ back.remaining)) ∙ ap items_in all_out))),
  )

  waits_now : standing_of sub ≡ Open → IsUnended (past.received ++ given tap)
  waits_now is =
      let k = open_means tap.error unended stopped (sym stands_so ∙ is) in
      subst IsUnended (ap (λ l. past.received ++ l) (sym (gave k.0))) (unended_both past.received received unended_past (is_unended_so received k.1))

  got_now : standing_of sub ≡ Ended → IsUnended (past.received ++ given tap) → ⊥
  got_now is u =
      let k = ended_means tap.error unended stopped (sym stands_so ∙ is) in
      is_ended_so received k (IsUnended-front received (error_of tap.error) (unended_behind past.received (given tap) u))

  asked_now : sub.part.root.demand.asked ≡ asked_total tap.down
  asked_now =
      let most : asked_total tap.down ≤ UNBOUNDED = let B : ℕ → Type 0 = λ k. k ≤ UNBOUNDED in subst B back.asked sub.demand.bounded in
      back.raised ∙ raised_to piece.part.root.demand.asked (seen_total piece.up) (asked_total tap.down) stands_piece.step.asked back.seen most

  delivered_now : sub.demand.sent ≡ length (items_in (past.received ++ given tap))
  delivered_now =
      back.taken ∙ (ap (λ k. k + counted_in received) (counts ∙ st.delivered) ∙ (ap (λ k. length (items_in past.received) + k) (counted_items received)
      ∙ (sym (length-append (items_in past.received) (items_in received)) ∙ ap length (sym items_now))))

  -- a part that was closed was so by a flag, and nothing that it sent before was an ending
  unclosed_now : IsLive (standing_of sub) → sub.part.root.state ≡ Closed → ⊥
  unclosed_now live is =
      let shut = stands_piece.closed (sym (put_live live).1 ∙ is) in
      let flag : stopped ≡ true = elim shut.flag [ inl f ↦ back.cancel_seen f | inr f ↦ back.refusal_seen f ] in
      let over : unended ≡ false = stopped_means tap.error unended stopped (subst IsLive stands_so live) flag in
      let sent : IsUnended (received ++ back.remaining) = subst IsUnended (sym (back.signals ∙ stands_piece.sent)) (unended_both was.queue p_out unended_queue shut.unended) in
      is_ended_so received over (IsUnended-front received back.remaining sent)

  shape_now : length (all_edges sub.part) ≡ length (all_edges was.part)
  shape_now = back.shape ∙ (sym (notes_count b piece.part.tree) ∙ (stands_piece.flow.nodes ∙ notes_count b was.part.tree))

  pub stands_again : Stands b m published sub (lived tap stopped past)
  stands_again = record {
    state = back.stands;
    live = back.live;
    output = output;
    part = back.part m published past.expression past.joins output part_was;
    held = held_now;
    begun = λ dead. begun_now;
    orderly = orderly_both past.received (given tap) unended_past (is_orderly_so (given tap) tap.«orderly»);
    waits = waits_now;
    got = got_now;
    asked = asked_now;
    requested = back.asked;
    delivered = delivered_now;
    unclosed = unclosed_now;
    admitted = st.admitted;
    shape = shape_now ∙ st.shape;
    joined = st.joined;
    closed = λ dead. put_dead dead;
  }
