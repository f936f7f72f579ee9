-- A member reads the hub's value from its join on, over any list of what happens.
use Rattle.std.proofs.Common.{◌≡◌, ℕ, ◌+◌, ◌-◌, Bool, true, false, ◌&&◌, List, [], ◌∷◌, ◌++◌, length, drop, Option, Some, None, slice_get, refl, sym, ap, ◌∙◌, arith, append_assoc, append-nil, length-append, length-drop}
use Rattle.std.proofs.lemmas.Bool.{false≢true}
use Rattle.std.proofs.lemmas.List.{drop-append-le, drop-drop, drop_at}
use Rattle.circular_buffer.specs.Buffer.{keep_last}
use Rattle.rsx_sources.specs.Prelude.{HubKind, Multicast, Replay, Cause, Ending, Open, Done, Failed, Signal, Next, Complete, Error, Stream, ended_by, item_then, items_then, signal_then, signals_then, is_nil, ends_input}
use Rattle.rsx_hub.specs.Hub.{HubState, IsHub, replayed, join, accepts_items, waiting, taken_in, accepted, takes_signal, HasTakenIn, hub_value, BeginsWith}
use Rattle.rsx_hub.specs.Member.{MemberState, without, behind, rest, fresh_member, ending_taken, takes, offered, given}
use Rattle.rsx_hub.specs.Waiting.{is_open, first_waiting}
use Rattle.rsx_hub.specs.Reading.{Step, emits, ends, accepts, feeds, advances, Reading, item_behind, handed, accepted_next, given_next, emitted_next, ended_next, next, after, joined_now, IsRead, ReadsOn}
use Rattle.rsx_hub.proofs.Rests.{took_rest, stream_of}
use Rattle.rsx_sources.proofs.Slots.{nil_of}

-- ---- the last ones of a list

-- what is kept of more, where the last n were kept
keep_more : {X : Type 0} (n : ℕ) (xs : List X) (x : X) → keep_last n (keep_last n xs ++ x ∷ []) ≡ keep_last n (xs ++ x ∷ [])
keep_more n xs x =
    let same : drop (length xs - n) xs ++ x ∷ [] ≡ drop (length xs - n) (xs ++ x ∷ []) = sym (drop-append-le (length xs - n) xs (x ∷ []) (omega arith)) in
    let m : ℕ = length (drop (length xs - n) xs ++ x ∷ []) - n in
    let count : (length xs - n) + m ≡ length (xs ++ x ∷ []) - n
    = omega (arith, length-append (drop (length xs - n) xs) (x ∷ []), length-drop (length xs - n) xs, length-append xs (x ∷ [])) in
    ap (λ l. drop m l) same ∙ (drop-drop m (length xs - n) (xs ++ x ∷ []) ∙ ap (λ k. drop k (xs ++ x ∷ [])) count)

item_at : {X : Type 0} (xs : List X) (x : X) (more : List X) → slice_get ((xs ++ x ∷ []) ++ more) (length xs) ≡ Some x
item_at [] x more = refl
item_at (y ∷ ys) x more = item_at ys x more

-- ---- a new member

join_is : (k : HubKind) (count : ℕ) → join k count ≡ count - replayed k
join_is Multicast count = omega arith
join_is (Replay n) count = refl

-- behind its queue comes what the hub takes in later
later : {T : Type 0} (b : Bool) (e : Ending) (taken more : List T) (c : ℕ) (w : Stream T) → length taken ≡ c → w.items ≡ taken ++ more → (b ≡ true → (more ≡ []) × (w.ending ≡ e)) →
    behind false (ending_taken b e) (without c w) ≡ record { items = more; ending = w.ending }
later false e taken more c w n h k = stream_of _ _ w.ending w.ending (ap (drop c) h ∙ drop_at taken more c n) refl
later true Open taken more c w n h k = stream_of _ _ w.ending w.ending (ap (drop c) h ∙ drop_at taken more c n) refl
later true Done taken more c w n h k = stream_of _ _ Done w.ending (sym (k refl).0) (sym (k refl).1)
later true (Failed f) taken more c w n h k = stream_of _ _ (Failed f) w.ending (sym (k refl).0) (sym (k refl).1)

joined : {T : Type 0} (h : HubState T) (taken : List T) → HasTakenIn h taken → (w : Stream T) → BeginsWith h taken w → rest (fresh_member h) w ≡ without (join h.kind h.count) w
joined h taken is w b =
    let n : ℕ = replayed h.kind in
    let from : length taken - n ≡ join h.kind h.count = ap (λ c. c - n) (sym is.counted) ∙ sym (join_is h.kind h.count) in
    let items : h.kept ++ b.more ≡ drop (join h.kind h.count) w.items
    = ap (λ l. l ++ b.more) is.kept ∙ (sym (drop-append-le (length taken - n) taken b.more (omega arith)) ∙ (ap (λ k. drop k (taken ++ b.more)) from ∙ ap (drop (join h.kind h.count)) (sym b.items))) in
    ap (items_then h.kept) (later h.has_ended h.ending taken b.more h.count w (sym is.counted) b.items b.ended) ∙ stream_of _ _ w.ending w.ending items refl

-- ---- a signal goes out

item_out : {T : Type 0} (q : List T) (e : Ending) (g : Bool) (x : T) (v : Stream T) → first_waiting q e g ≡ Some (Next x) → items_then q v ≡ item_then x (items_then (drop 1 q) v)
item_out [] e true x v h = cc
item_out [] Open false x v h = cc
item_out [] Done false x v h = cc
item_out [] (Failed c) false x v h = cc
item_out (y ∷ ys) e g x v h = let same : y ≡ x = cc in ap (λ z. item_then z (items_then ys v)) same

done_out : {T : Type 0} (q : List T) (e : Ending) (g : Bool) (v : Stream T) → first_waiting q e g ≡ Some Complete → items_then q (behind g e v) ≡ ended_by Done
done_out [] e true v h = cc
done_out [] Open false v h = cc
done_out [] Done false v h = refl
done_out [] (Failed c) false v h = cc
done_out (y ∷ ys) e g v h = cc

failed_out : {T : Type 0} (q : List T) (e : Ending) (g : Bool) (f : Cause) (v : Stream T) → first_waiting q e g ≡ Some (Error f) → items_then q (behind g e v) ≡ ended_by (Failed f)
failed_out [] e true f v h = cc
failed_out [] Open false f v h = cc
failed_out [] Done false f v h = cc
failed_out [] (Failed c) false f v h = let same : c ≡ f = cc in ap (λ d. ended_by (Failed d)) same
failed_out (y ∷ ys) e g f v h = cc

gave : {T : Type 0} (m : MemberState T) (s : Signal T) → offered m ≡ Some s → (w : Stream T) → rest m w ≡ signal_then s (rest (given m (Some s)) w)
gave m (Next x) h w = item_out m.queue m.ending m.gone x (behind m.gone m.ending (without m.reached w)) h
gave m Complete h w = done_out m.queue m.ending m.gone (without m.reached w) h
gave m (Error c) h w = failed_out m.queue m.ending m.gone c (without m.reached w) h

given_reached : {T : Type 0} (m : MemberState T) (s : Signal T) → (given m (Some s)).reached ≡ m.reached
given_reached m (Next x) = refl
given_reached m Complete = refl
given_reached m (Error c) = refl

then_more : {T : Type 0} (ss : List (Signal T)) (s : Signal T) (v : Stream T) → signals_then (ss ++ s ∷ []) v ≡ signals_then ss (signal_then s v)
then_more [] s v = refl
then_more (t ∷ ts) s v = ap (signal_then t) (then_more ts s v)

-- ---- the inbox

-- where a signal waits, the ending was not taken in
not_taken : {T : Type 0} (xs : List T) (e : Ending) (g : Bool) (s : Signal T) → (g ≡ true → (xs ≡ []) × (is_open e ≡ false)) → first_waiting xs e g ≡ Some s → g ≡ false
not_taken [] e true s k h = cc
not_taken (x ∷ xs) e true s k h = let none : x ∷ xs ≡ [] = (k refl).0 in cc
not_taken xs e false s k h = refl

not_ended : {A : Type 0} (g : Bool) (e : Ending) → (g ≡ true → A × (is_open e ≡ false)) → is_open e ≡ true → g ≡ false
not_ended true e k o = sym o ∙ (k refl).1
not_ended false e k o = refl

-- the signal in front, and then the inbox without it
front_out : {T : Type 0} (taken xs : List T) (e : Ending) (g : Bool) (s : Signal T) → first_waiting xs e g ≡ Some s → item_behind taken s ++ drop 1 xs ≡ taken ++ xs
front_out taken [] e true s h = cc
front_out taken [] Open false s h = cc
front_out taken [] Done false (Next x) h = cc
front_out taken [] Done false Complete h = refl
front_out taken [] Done false (Error c) h = cc
front_out taken [] (Failed f) false (Next x) h = cc
front_out taken [] (Failed f) false Complete h = cc
front_out taken [] (Failed f) false (Error c) h = refl
front_out taken (x ∷ xs) e g (Next y) h = let same : y ≡ x = cc in ap (λ z. (taken ++ z ∷ []) ++ xs) same ∙ append_assoc taken (x ∷ []) xs
front_out taken (x ∷ xs) e g Complete h = cc
front_out taken (x ∷ xs) e g (Error c) h = cc

-- behind an ending nothing waits
nothing_behind : {T : Type 0} (xs : List T) (e : Ending) (g : Bool) (s : Signal T) → first_waiting xs e g ≡ Some s → ends_input s ≡ true → drop 1 xs ≡ []
nothing_behind [] e g s h i = refl
nothing_behind (x ∷ xs) e g (Next y) h i = cc
nothing_behind (x ∷ xs) e g Complete h i = cc
nothing_behind (x ∷ xs) e g (Error c) h i = cc

both_hold : (a b : Bool) → (a && b) ≡ true → (a ≡ true) × (b ≡ true)
both_hold true b r = (refl, r)
both_hold false b r = cc

-- ---- one step

-- what holds at each moment of a reading, where the member missed so many items when it joined
record Reads {T : Type 0} (j : ℕ) (r : Reading T) : Type 0 where
  history : HasTakenIn r.hub r.taken
  reached : r.member.reached ≡ length r.taken
  all_taken : r.hub.has_ended ≡ true → (r.hub.inbox ≡ []) × (is_open r.hub.ending ≡ false)
  published : r.taken ++ r.hub.inbox ≡ r.published
  reads : (w : Stream T) → BeginsWith r.hub r.taken w → signals_then r.given_out (rest r.member w) ≡ without j w

-- hub and member take a signal in
took_in : {T : Type 0} (j : ℕ) (r : Reading T) → Reads j r → (i : List T) (s : Signal T) (ps : List T) → r.hub.has_ended ≡ false → takes r.member s ≡ true → item_behind r.taken s ++ i ≡ ps → (ends_input s ≡ true → i ≡ []) →
    Reads j (handed r (taken_in (record r.hub { inbox = i }) s) ps s true)
took_in j r k i (Next x) ps goes_on takes_it p e =
    let n : ℕ = replayed r.hub.kind in
    let long : length (r.taken ++ x ∷ []) ≡ length r.taken + 1 = length-append r.taken (x ∷ []) in
    record {
      history = record { counted = ap (λ c. c + 1) k.history.counted ∙ sym long; kept = ap (λ l. keep_last n (l ++ x ∷ [])) k.history.kept ∙ keep_more n r.taken x };
      reached = ap (λ c. c + 1) k.reached ∙ sym long;
      all_taken = λ t. absurd (false≢true (sym goes_on ∙ t));
      published = p;
      reads = λ w b.
          let before : BeginsWith r.hub r.taken w = record { more = x ∷ b.more; items = b.items ∙ append_assoc r.taken (x ∷ []) b.more; ended = λ t. absurd (false≢true (sym goes_on ∙ t)) } in
          let here : slice_get w.items r.member.reached ≡ Some x = ap (slice_get w.items) k.reached ∙ (ap (λ l. slice_get l (length r.taken)) b.items ∙ item_at r.taken x b.more) in
          ap (signals_then r.given_out) (took_rest r.member (Next x) takes_it w here) ∙ k.reads w before;
    }
took_in j r k i Complete ps goes_on takes_it p e = record {
  history = record { counted = k.history.counted; kept = k.history.kept };
  reached = k.reached;
  all_taken = λ t. (e refl, refl);
  published = p;
  reads = λ w b.
      let last : (b.more ≡ []) × (w.ending ≡ Done) = b.ended refl in
      let before : BeginsWith r.hub r.taken w = record { more = b.more; items = b.items; ended = λ t. absurd (false≢true (sym goes_on ∙ t)) } in
      let all : length w.items ≡ r.member.reached = ap length (b.items ∙ (ap (λ l. r.taken ++ l) last.0 ∙ append-nil r.taken)) ∙ sym k.reached in
      ap (signals_then r.given_out) (took_rest r.member Complete takes_it w (all, last.1)) ∙ k.reads w before;
}
took_in j r k i (Error c) ps goes_on takes_it p e = record {
  history = record { counted = k.history.counted; kept = k.history.kept };
  reached = k.reached;
  all_taken = λ t. (e refl, refl);
  published = p;
  reads = λ w b.
      let last : (b.more ≡ []) × (w.ending ≡ Failed c) = b.ended refl in
      let before : BeginsWith r.hub r.taken w = record { more = b.more; items = b.items; ended = λ t. absurd (false≢true (sym goes_on ∙ t)) } in
      let all : length w.items ≡ r.member.reached = ap length (b.items ∙ (ap (λ l. r.taken ++ l) last.0 ∙ append-nil r.taken)) ∙ sym k.reached in
      ap (signals_then r.given_out) (took_rest r.member (Error c) takes_it w (all, last.1)) ∙ k.reads w before;
}

accepts_step : {T : Type 0} (j : ℕ) (r : Reading T) (s : Signal T) (b : Bool) → Reads j r → waiting r.hub ≡ Some s → takes r.member s ≡ b → Reads j (handed r (accepted r.hub (Some s)) r.published s b)
accepts_step j r s false k h t = k
accepts_step j r s true k h t =
    took_in j r k (drop 1 r.hub.inbox) s r.published (not_taken r.hub.inbox r.hub.ending r.hub.has_ended s k.all_taken h) t
    (front_out r.taken r.hub.inbox r.hub.ending r.hub.has_ended s h ∙ k.published)
    (nothing_behind r.hub.inbox r.hub.ending r.hub.has_ended s h)

accepted_step : {T : Type 0} (j : ℕ) (r : Reading T) (o : Option (Signal T)) → Reads j r → waiting r.hub ≡ o → Reads j (accepted_next r o)
accepted_step j r None k h = k
accepted_step j r (Some s) k h = accepts_step j r s (takes r.member s) k h refl

published_too : {T : Type 0} (xs ps : List T) (s : Signal T) → xs ≡ ps → item_behind xs s ≡ item_behind ps s
published_too xs ps s h = ap (λ l. item_behind l s) h

fed_step : {T : Type 0} (j : ℕ) (r : Reading T) (s : Signal T) (b : Bool) → Reads j r → (takes_signal r.hub s && takes r.member s) ≡ b → Reads j (handed r (taken_in r.hub s) (item_behind r.published s) s b)
fed_step j r s false k h = k
fed_step j r s true k h =
    let both = both_hold (takes_signal r.hub s) (takes r.member s) h in
    let hub = both_hold (is_open r.hub.ending) _ both.0 in
    let none : r.hub.inbox ≡ [] = nil_of r.hub.inbox (both_hold (is_nil r.hub.inbox) _ hub.1).0 in
    let all : r.taken ≡ r.published = sym (append-nil r.taken) ∙ (ap (λ l. r.taken ++ l) (sym none) ∙ k.published) in
    took_in j r k r.hub.inbox s (item_behind r.published s) (not_ended r.hub.has_ended r.hub.ending k.all_taken hub.0) both.1
    (ap (λ l. item_behind r.taken s ++ l) none ∙ (append-nil (item_behind r.taken s) ∙ published_too r.taken r.published s all))
    (λ e. none)

emitted_step : {T : Type 0} (j : ℕ) (r : Reading T) (x : T) (b : Bool) → Reads j r → accepts_items r.hub ≡ b → Reads j (emitted_next r x b)
emitted_step j r x false k h = k
emitted_step j r x true k h =
    let goes_on : is_open r.hub.ending ≡ true = (both_hold (is_open r.hub.ending) _ h).0 in
    let stays : r.hub.has_ended ≡ false = not_ended r.hub.has_ended r.hub.ending k.all_taken goes_on in
    record {
      history = record { counted = k.history.counted; kept = k.history.kept };
      reached = k.reached;
      all_taken = λ t. absurd (false≢true (sym stays ∙ t));
      published = sym (append_assoc r.taken r.hub.inbox (x ∷ [])) ∙ ap (λ l. l ++ x ∷ []) k.published;
      reads = λ w b. k.reads w (record { more = b.more; items = b.items; ended = b.ended });
    }

ended_step : {T : Type 0} (j : ℕ) (r : Reading T) (e : Ending) (b : Bool) → Reads j r → is_open r.hub.ending ≡ b → Reads j (ended_next r e b)
ended_step j r e false k h = k
ended_step j r e true k h =
    let stays : r.hub.has_ended ≡ false = not_ended r.hub.has_ended r.hub.ending k.all_taken h in
    record {
      history = record { counted = k.history.counted; kept = k.history.kept };
      reached = k.reached;
      all_taken = λ t. absurd (false≢true (sym stays ∙ t));
      published = k.published;
      reads = λ w b. k.reads w (record { more = b.more; items = b.items; ended = λ t. absurd (false≢true (sym stays ∙ t)) });
    }

given_step : {T : Type 0} (j : ℕ) (r : Reading T) (o : Option (Signal T)) → Reads j r → offered r.member ≡ o → Reads j (given_next r o)
given_step j r None k h = k
given_step j r (Some s) k h = record {
  history = record { counted = k.history.counted; kept = k.history.kept };
  reached = given_reached r.member s ∙ k.reached;
  all_taken = k.all_taken;
  published = k.published;
  reads = λ w b. then_more r.given_out s (rest (given r.member (Some s)) w) ∙ (ap (signals_then r.given_out) (sym (gave r.member s h w)) ∙ k.reads w b);
}

one_step : {T : Type 0} (j : ℕ) (r : Reading T) (s : Step T) → Reads j r → Reads j (next r s)
one_step j r (emits x) k = emitted_step j r x (accepts_items r.hub) k refl
one_step j r (ends e) k = ended_step j r e (is_open r.hub.ending) k refl
one_step j r accepts k = accepted_step j r (waiting r.hub) k refl
one_step j r (feeds s) k = fed_step j r s (takes_signal r.hub s && takes r.member s) k refl
one_step j r advances k = given_step j r (offered r.member) k refl

-- ---- all of them

all_steps : {T : Type 0} (j : ℕ) (r : Reading T) (ss : List (Step T)) → Reads j r → Reads j (after r ss)
all_steps j r [] k = k
all_steps j r (s ∷ ss) k = all_steps j (next r s) ss (one_step j r s k)

begins : {T : Type 0} (h : HubState T) (taken : List T) → IsHub h → HasTakenIn h taken → Reads (join h.kind h.count) (joined_now h taken)
begins h taken is k = record {
  history = k;
  reached = k.counted;
  all_taken = is.all_taken;
  published = refl;
  reads = joined h taken k;
}

so_far : {T : Type 0} (h : HubState T) (taken : List T) → (h.has_ended ≡ true → (h.inbox ≡ []) × (is_open h.ending ≡ false)) → BeginsWith h taken (hub_value h taken)
so_far h taken all = record { more = h.inbox; items = refl; ended = λ e. ((all e).0, refl) }

ends_read : {T : Type 0} (h : HubState T) (r : Reading T) → Reads (join h.kind h.count) r → IsRead h r
ends_read h r k = record {
  history = record { counted = k.history.counted; kept = k.history.kept };
  published = k.published;
  reads = k.reads;
  reads_all = k.reads (hub_value r.hub r.taken) (so_far r.hub r.taken k.all_taken);
}

pub all_read : {T : Type 0} → ReadsOn T
all_read h is taken k steps = ends_read h (after (joined_now h taken) steps) (all_steps (join h.kind h.count) (joined_now h taken) steps (begins h taken is k))
