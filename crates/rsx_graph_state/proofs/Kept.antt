-- A graph with feeds stands for what has happened, after each move.
use Rattle.rsx_sources.specs.declared.machine.Machine.{Ghosts as Machine}
use Rattle.std.proofs.Common.{◌≡◌, ℕ, zero, suc, ◌+◌, Bool, true, false, nat_eq, if◌then◌else◌, List, [], ◌∷◌, length, slice_get, Option, Some, None, refl, ap, sym, ◌∙◌, subst, arith}
use Rattle.std.proofs.Math.ListN.{set}
use Rattle.std.specs.Prelude.{option_and_then}
use Rattle.rsx_graph_state.specs.Answers.{changed}
use Rattle.rsx_graph_state.specs.Subscriptions.{AllStand}
use Rattle.rsx_hub.specs.Hub.{HubState, items_of}
use Rattle.rsx_pipe.proofs.Signals.{some_same}
use Rattle.rsx_subscriber.specs.Prelude.{next_out, IsOpenAt, with_signal, with_signal_at, IsTaken, Past, NodeMove}
use Rattle.rsx_graph_state.proofs.OneFeed.{worked_feed}
use Rattle.rsx_graph_state.specs.Feeds.{FeedStands}
use Rattle.rsx_graph_state.specs.Publishing.{AllFeedsHanded, AllHanded, IsAccepted}
use Rattle.rsx_graph_state.specs.Sending.{IsFed}
use Rattle.rsx_graph_state.specs.declared.feed.Feed.{Feed}
use Rattle.rsx_subscriber.specs.declared.subscription.Subscription.{Subscription}
use Rattle.rsx_sources.specs.Prelude.{Meaning, Stream, HubId, Signal}
use Rattle.rsx_graph_state.specs.History.{History, HubPast, Source, accepted_at, counted, emitted, fed, sent_at, with_accepted, with_sent}
use Rattle.rsx_graph_state.specs.Moves.{IsAcceptedAt, IsFedAt, IsFeedMoved, IsMadeInFeed, IsMovedBy, IsWorkedAt, is_out, next_sent, with_feed_moved}
use Rattle.rsx_graph_state.specs.Stands.{HubStands, Rows, SourceStands, StandsFor, feed_of, place_of}
use Rattle.rsx_graph_state.proofs.HubMoves.{has_accepted, has_taken}
use Rattle.rsx_graph_state.proofs.Named.{feed_named, is_number, same_number}
use Rattle.rsx_graph_state.proofs.Places.{feed_after, other_feed, place_handed, place_set, placed_feed, unfed_handed}

-- ---- one place of a list

other_there : {A : Type 0} (xs : List A) (n i : ℕ) (y : A) → (i ≡ n → ⊥) → slice_get (set xs n y) i ≡ slice_get xs i
other_there [] n i y other = refl
other_there (x ∷ xs) zero zero y other = absurd (other refl)
other_there (x ∷ xs) zero (suc i) y other = refl
other_there (x ∷ xs) (suc n) zero y other = refl
other_there (x ∷ xs) (suc n) (suc i) y other = other_there xs n i y (λ e. other (ap suc e))

set_there : {A : Type 0} (xs : List A) (n : ℕ) (x y : A) → slice_get xs n ≡ Some x → slice_get (set xs n y) n ≡ Some y
set_there [] n x y e = cc
set_there (z ∷ xs) zero x y e = refl
set_there (z ∷ xs) (suc n) x y e = set_there xs n x y e

set_length : {A : Type 0} (xs : List A) (n : ℕ) (y : A) → length (set xs n y) ≡ length xs
set_length [] n y = refl
set_length (x ∷ xs) zero y = refl
set_length (x ∷ xs) (suc n) y = ap suc (set_length xs n y)

other_past : {A : Type 0} (f : A → A) (xs : List A) (n i : ℕ) → (i ≡ n → ⊥) → slice_get (changed f xs n) i ≡ slice_get xs i
other_past f [] n i other = refl
other_past f (x ∷ xs) zero zero other = absurd (other refl)
other_past f (x ∷ xs) zero (suc i) other = refl
other_past f (x ∷ xs) (suc n) zero other = refl
other_past f (x ∷ xs) (suc n) (suc i) other = other_past f xs n i (λ e. other (ap suc e))

past_there : {A : Type 0} (f : A → A) (xs : List A) (n : ℕ) (x : A) → slice_get xs n ≡ Some x → slice_get (changed f xs n) n ≡ Some (f x)
past_there f [] n x e = cc
past_there f (y ∷ xs) zero x e = ap (λ z. Some (f z)) (some_same y x e)
past_there f (y ∷ xs) (suc n) x e = past_there f xs n x e

past_length : {A : Type 0} (f : A → A) (xs : List A) (n : ℕ) → length (changed f xs n) ≡ length xs
past_length f [] n = refl
past_length f (x ∷ xs) zero = refl
past_length f (x ∷ xs) (suc n) = ap suc (past_length f xs n)

other_value : {T : Type 0} (s : Signal T) (vs : List (Stream T)) (n i : ℕ) → (i ≡ n → ⊥) → slice_get (with_signal_at n s vs) i ≡ slice_get vs i
other_value s [] zero i other = refl
other_value s [] (suc n) i other = refl
other_value s (v ∷ vs) zero zero other = absurd (other refl)
other_value s (v ∷ vs) zero (suc i) other = refl
other_value s (v ∷ vs) (suc n) zero other = refl
other_value s (v ∷ vs) (suc n) (suc i) other = other_value s vs n i (λ e. other (ap suc e))

value_there : {T : Type 0} (s : Signal T) (vs : List (Stream T)) (n : ℕ) (v : Stream T) → slice_get vs n ≡ Some v → slice_get (with_signal_at n s vs) n ≡ Some (with_signal s v)
value_there s [] n v e = cc
value_there s (w ∷ vs) zero v e = ap (λ u. Some (with_signal s u)) (some_same w v e)
value_there s (w ∷ vs) (suc n) v e = value_there s vs n v e

value_length : {T : Type 0} (s : Signal T) (vs : List (Stream T)) (n : ℕ) → length (with_signal_at n s vs) ≡ length vs
value_length s [] zero = refl
value_length s [] (suc n) = refl
value_length s (v ∷ vs) zero = refl
value_length s (v ∷ vs) (suc n) = ap suc (value_length s vs n)

differ : (a b : ℕ) → a ≡ b → nat_eq a b ≡ false → ⊥
differ a b e miss = let yes = is_number a b e in cc

-- where one list has an element, one as long has one too
there_too : {A B : Type 0} (xs : List A) (ys : List B) (n : ℕ) (x : A) → length xs ≡ length ys → slice_get xs n ≡ Some x → (y : B) × (slice_get ys n ≡ Some y)
there_too [] ys n x l e = cc
there_too (z ∷ xs) [] n x l e = absurd (omega (arith, l))
there_too (z ∷ xs) (y ∷ ys) zero x l e = (y, refl)
there_too (z ∷ xs) (y ∷ ys) (suc n) x l e = there_too xs ys n x (omega (arith, l)) e

-- ---- the other hubs

-- one hub, and what it took in, and what has happened there changed; then this holds of each hub
each_hub : {T : Type 0} (P : ℕ → Stream T → HubState T → HubPast T → Type 0) (n : ℕ) (s : Signal T) (f : HubPast T → HubPast T) (taken : List (Stream T)) (hubs : List (HubState T)) (ps : List (HubPast T)) (v0 : Stream T) (hub after : HubState T) (p0 : HubPast T) →
    slice_get taken n ≡ Some v0 → slice_get hubs n ≡ Some hub → slice_get ps n ≡ Some p0 → P n (with_signal s v0) after (f p0) →
    ((i : ℕ) (v : Stream T) (x : HubState T) (p : HubPast T) → (i ≡ n → ⊥) → slice_get taken i ≡ Some v → slice_get hubs i ≡ Some x → slice_get ps i ≡ Some p → P i v x p) →
    (i : ℕ) (v : Stream T) (x : HubState T) (p : HubPast T) → slice_get (with_signal_at n s taken) i ≡ Some v → slice_get (set hubs n after) i ≡ Some x → slice_get (changed f ps n) i ≡ Some p → P i v x p
each_hub {T} P n s f taken hubs ps v0 hub after p0 ev eh ep here others i v x p iv ih ip = by_test (nat_eq i n) refl
  where
    by_test : (b : Bool) → nat_eq i n ≡ b → P i v x p
    by_test true is =
        let e : i ≡ n = same_number i n is in
        let vs : with_signal s v0 ≡ v = some_same (with_signal s v0) v (sym (value_there s taken n v0 ev) ∙ (ap (λ k. slice_get (with_signal_at n s taken) k) (sym e) ∙ iv)) in
        let hs : after ≡ x = some_same after x (sym (set_there hubs n hub after eh) ∙ (ap (λ k. slice_get (set hubs n after) k) (sym e) ∙ ih)) in
        let qs : f p0 ≡ p = some_same (f p0) p (sym (past_there f ps n p0 ep) ∙ (ap (λ k. slice_get (changed f ps n) k) (sym e) ∙ ip)) in
        let A : ℕ → Type 0 = λ k. P k (with_signal s v0) after (f p0) in
        let B : Stream T → Type 0 = λ k. P i k after (f p0) in
        let C : HubState T → Type 0 = λ k. P i v k (f p0) in
        let D : HubPast T → Type 0 = λ k. P i v x k in
        subst D qs (subst C hs (subst B vs (subst A (sym e) here)))
    by_test false is =
        let other : i ≡ n → ⊥ = λ e. differ i n e is in
        others i v x p other (sym (other_value s taken n i other) ∙ iv) (sym (other_there hubs n i after other) ∙ ih) (sym (other_past f ps n i other) ∙ ip)

-- what another hub publishes, after a signal was handed to all feeds
source_handed : {M T : Type 0} (mc : Machine M T) (m : Meaning T) (n i : ℕ) (sig : Signal T) (fs gs : List (Feed M)) (taken : List (Stream T)) (v : Stream T) (s : HubState T) (src : Source T) → (i ≡ n → ⊥) → IsOpenAt n taken → AllFeedsHanded mc n sig fs gs → SourceStands mc m fs taken i v s src → SourceStands mc m gs (with_signal_at n sig taken) i v s src
source_handed mc m n i sig fs gs taken v s (emitted w) other unended all k = (unfed_handed mc n sig fs gs i all k.0, k.1)
source_handed mc m n i sig fs gs taken v s (fed e joins) other unended all k =
    let a = feed_after mc n sig fs gs i k.feed all k.there in
    record {
      feed = a.feed;
      there = a.there;
      stands = a.handed.stands m taken e joins unended (λ q. other (sym (feed_named fs i k.feed k.there) ∙ q)) k.stands;
      empty = k.empty;
      unended = k.unended;
    }

hub_handed : {M T : Type 0} (mc : Machine M T) (m : Meaning T) (n i : ℕ) (sig : Signal T) (fs gs : List (Feed M)) (taken : List (Stream T)) (v : Stream T) (s : HubState T) (p : HubPast T) → (i ≡ n → ⊥) → IsOpenAt n taken → AllFeedsHanded mc n sig fs gs → HubStands mc m fs taken i v s p → HubStands mc m gs (with_signal_at n sig taken) i v s p
hub_handed mc m n i sig fs gs taken v s p other unended all k = record {
  kind = k.kind;
  count = k.count;
  taken_in = k.taken_in;
  ended = k.ended;
  source = source_handed mc m n i sig fs gs taken v s p.source other unended all k.source;
}

-- and after one feed of another hub changed
source_set : {M T : Type 0} (mc : Machine M T) (m : Meaning T) (i at : ℕ) (f g : Feed M) (fs : List (Feed M)) (taken : List (Stream T)) (v : Stream T) (s : HubState T) (src : Source T) → slice_get fs at ≡ Some f → g.hub ≡ f.hub → (f.hub ≡ i → ⊥) → SourceStands mc m fs taken i v s src → SourceStands mc m (set fs at g) taken i v s src
source_set mc m i at f g fs taken v s (emitted w) there named other k = (other_feed fs at f g i there named other ∙ k.0, k.1)
source_set mc m i at f g fs taken v s (fed e joins) there named other k = record {
  feed = k.feed;
  there = other_feed fs at f g i there named other ∙ k.there;
  stands = k.stands;
  empty = k.empty;
  unended = k.unended;
}

hub_set : {M T : Type 0} (mc : Machine M T) (m : Meaning T) (i at : ℕ) (f g : Feed M) (fs : List (Feed M)) (taken : List (Stream T)) (v : Stream T) (s : HubState T) (p : HubPast T) → slice_get fs at ≡ Some f → g.hub ≡ f.hub → (f.hub ≡ i → ⊥) → HubStands mc m fs taken i v s p → HubStands mc m (set fs at g) taken i v s p
hub_set mc m i at f g fs taken v s p there named other k = record {
  kind = k.kind;
  count = k.count;
  taken_in = k.taken_in;
  ended = k.ended;
  source = source_set mc m i at f g fs taken v s p.source there named other k.source;
}

-- ---- the subscriptions

subs_handed : {M T : Type 0} (mc : Machine M T) (m : Meaning T) (i : ℕ) (sig : Signal T) (taken : List (Stream T)) → IsOpenAt i taken → (olds news : List (Subscription M T)) (pasts : List (Past T)) → AllHanded mc i sig olds news → AllStand mc m taken olds pasts → AllStand mc m (with_signal_at i sig taken) news pasts
subs_handed mc m i sig taken o [] [] [] k h = tt
subs_handed mc m i sig taken o [] [] (p ∷ ps) k h = absurd h
subs_handed mc m i sig taken o [] (y ∷ ys) ps k h = absurd k
subs_handed mc m i sig taken o (x ∷ xs) [] ps k h = absurd k
subs_handed mc m i sig taken o (x ∷ xs) (y ∷ ys) [] k h = absurd h
subs_handed mc m i sig taken o (x ∷ xs) (y ∷ ys) (p ∷ ps) k h = (k.0.stands m taken p o h.0, subs_handed mc m i sig taken o xs ys ps k.1 h.1)

-- ---- an Accept

-- the hub that took its next signal in
hub_accepted : {M T : Type 0} (mc : Machine M T) (m : Meaning T) (n : ℕ) (fs gs : List (Feed M)) (taken news : List (Stream T)) (v : Stream T) (s t : HubState T) (p : HubPast T) (olds subs : List (Subscription M T)) → feed_of fs n ≡ None → feed_of gs n ≡ None → (k : IsAccepted mc n s t fs gs olds subs) → HubStands mc m fs taken n v s p → HubStands mc m gs news n (with_signal k.signal v) t (accepted_at p)
hub_accepted {M} {T} mc m n fs gs taken news v s t p olds subs unfed still k h = by_source p.source h.source
  where
    by_source : (src : Source T) → SourceStands mc m fs taken n v s src → HubStands mc m gs news n (with_signal k.signal v) t (record { kind = p.kind; source = src; count = counted src p.count })
    by_source (fed e joins) f = let no = sym unfed ∙ f.there in cc
    by_source (emitted w) f =
        let H : HubState T → Type 0 = λ x. HubStands mc m gs news n (with_signal k.signal v) x (record { kind = p.kind; source = emitted w; count = counted (emitted w) p.count }) in
        let I : HubState T → Type 0 = λ x. IsTaken x (with_signal k.signal v) in
        let a = has_accepted s v w k.signal h.taken_in h.ended f.1 k.waited in
        subst H (sym k.taken) (record {
          kind = a.kind ∙ h.kind;
          count = a.count ∙ ap (λ c. counted (emitted w) c) h.count;
          taken_in = subst I k.taken (k.published v h.taken_in h.ended).1;
          ended = a.ended;
          source = (still, a.value);
        })

pub accepted_stands : {M T : Type 0} (mc : Machine M T) (m : Meaning T) (i : HubId) (old new : Rows M T) (h : History T) → IsAcceptedAt mc i.0 old new → StandsFor mc m old h → StandsFor mc m new (with_accepted i h)
accepted_stands {M} {T} mc m i old new h k s =
    let n = i.0 in
    let e = k.effect in
    let sig = e.signal in
    let p0 = there_too old.hubs h.hubs n k.hub s.many k.there in
    let v0 = there_too old.hubs s.taken n k.hub (s.many ∙ sym s.each) k.there in
    let here = s.hub n v0.0 k.hub p0.0 v0.1 k.there p0.1 in
    let was_open : IsOpenAt n s.taken = (v0.0, v0.1, (e.published v0.0 here.taken_in here.ended).0) in
    let still = unfed_handed mc n sig old.feeds new.feeds n e.fed k.unfed in
    let P : ℕ → Stream T → HubState T → HubPast T → Type 0 = λ j v x p. HubStands mc m new.feeds (with_signal_at n sig s.taken) j v x p in
    let all = each_hub P n sig accepted_at s.taken old.hubs h.hubs v0.0 k.hub k.after p0.0 v0.1 k.there p0.1
    (hub_accepted mc m n old.feeds new.feeds s.taken (with_signal_at n sig s.taken) v0.0 k.hub k.after p0.0 old.subs new.subs k.unfed still e here)
    (λ j v x p other ev eh ep. hub_handed mc m n j sig old.feeds new.feeds s.taken v x p other was_open e.fed (s.hub j v x p ev eh ep)) in
    record {
      taken = with_signal_at n sig s.taken;
      many = ap length k.others ∙ (set_length old.hubs n k.after ∙ (s.many ∙ sym (past_length accepted_at h.hubs n)));
      each = value_length sig s.taken n ∙ (s.each ∙ sym (past_length accepted_at h.hubs n));
      hub = λ j v x p ev eh ep. all j v x p ev (sym (ap (λ l. slice_get l j) k.others) ∙ eh) ep;
      all = subs_handed mc m n sig s.taken was_open old.subs new.subs h.pasts e.handed s.all;
    }

-- ---- a feed's Send into its hub

-- the hub that took it in
hub_fed : {M T : Type 0} (mc : Machine M T) (m : Meaning T) (n at : ℕ) (fs gs : List (Feed M)) (taken : List (Stream T)) (v : Stream T) (s t : HubState T) (p : HubPast T) (olds subs : List (Subscription M T)) → slice_get taken n ≡ Some v → place_of fs n ≡ Some at → place_of gs n ≡ Some at → (k : IsFed mc m at s t fs gs olds subs) → k.feed.hub ≡ n → HubStands mc m fs taken n v s p → HubStands mc m gs (with_signal_at n k.signal taken) n (with_signal k.signal v) t (sent_at k.signal p)
hub_fed {M} {T} mc m n at fs gs taken v s t p olds subs ev place still k named h = by_source p.source h.source
  where
    own : feed_of fs n ≡ Some k.feed
    own = placed_feed fs n at k.feed place k.from

    by_source : (src : Source T) → SourceStands mc m fs taken n v s src → HubStands mc m gs (with_signal_at n k.signal taken) n (with_signal k.signal v) t (record { kind = p.kind; source = src; count = (sent_at k.signal p).count })
    by_source (emitted w) f = let no = sym own ∙ f.0 in cc
    by_source (fed e joins) f =
        let H : HubState T → Type 0 = λ x. HubStands mc m gs (with_signal_at n k.signal taken) n (with_signal k.signal v) x (record { kind = p.kind; source = fed e joins; count = (sent_at k.signal p).count }) in
        let I : HubState T → Type 0 = λ x. IsTaken x (with_signal k.signal v) in
        let F : Feed M → Type 0 = λ x. FeedStands mc m taken x e joins in
        let a = has_taken s k.signal in
        let same : f.feed ≡ k.feed = some_same f.feed k.feed (sym f.there ∙ own) in
        let moved = k.stands taken v e joins (ap (λ j. slice_get taken j) named ∙ ev) h.taken_in (subst F same f.stands) in
        let G : ℕ → Type 0 = λ j. FeedStands mc m (with_signal_at j k.signal taken) moved.0 e joins in
        subst H (sym k.taken) (record {
          kind = a.kind ∙ h.kind;
          count = a.count ∙ ap (λ c. c + items_of k.signal) h.count;
          taken_in = subst I k.taken (k.published v h.taken_in).1;
          ended = λ _. a.inbox ∙ f.empty;
          source = record {
            feed = moved.0;
            there = placed_feed gs n at moved.0 still moved.1;
            stands = subst G named moved.2;
            empty = a.inbox ∙ f.empty;
            unended = a.unended f.unended;
          };
        })

fed_stands : {M T : Type 0} (mc : Machine M T) (m : Meaning T) (n : ℕ) (old new : Rows M T) (h : History T) → (k : IsFedAt mc m n old new) → StandsFor mc m old h → StandsFor mc m new (with_sent (Some k.effect.signal) n h)
fed_stands {M} {T} mc m n old new h k s =
    let e = k.effect in
    let sig = e.signal in
    let mid : Feed M = record { part = e.part; hub = e.feed.hub } in
    let mids = set old.feeds k.at mid in
    let own = placed_feed old.feeds n k.at e.feed k.place e.from in
    let named : e.feed.hub ≡ n = feed_named old.feeds n e.feed own in
    let F : ℕ → Type 0 = λ j. AllFeedsHanded mc j sig mids new.feeds in
    let S : ℕ → Type 0 = λ j. AllHanded mc j sig old.subs new.subs in
    let handed : AllFeedsHanded mc n sig mids new.feeds = subst F named e.fed in
    let p0 = there_too old.hubs h.hubs n k.hub s.many k.there in
    let v0 = there_too old.hubs s.taken n k.hub (s.many ∙ sym s.each) k.there in
    let here = s.hub n v0.0 k.hub p0.0 v0.1 k.there p0.1 in
    let was_open : IsOpenAt n s.taken = (v0.0, v0.1, (e.published v0.0 here.taken_in).0) in
    let still : place_of new.feeds n ≡ Some k.at = place_handed mc n sig mids new.feeds n handed ∙ (place_set old.feeds k.at e.feed mid n e.from refl ∙ k.place) in
    let P : ℕ → Stream T → HubState T → HubPast T → Type 0 = λ j v x p. HubStands mc m new.feeds (with_signal_at n sig s.taken) j v x p in
    let all = each_hub P n sig (sent_at sig) s.taken old.hubs h.hubs v0.0 k.hub k.after p0.0 v0.1 k.there p0.1
    (hub_fed mc m n k.at old.feeds new.feeds s.taken v0.0 k.hub k.after p0.0 old.subs new.subs v0.1 k.place still e named here)
    (λ j v x p other ev eh ep.
    hub_handed mc m n j sig mids new.feeds s.taken v x p other was_open handed
    (hub_set mc m j k.at e.feed mid old.feeds s.taken v x p e.from refl (λ q. other (sym q ∙ named)) (s.hub j v x p ev eh ep))) in
    record {
      taken = with_signal_at n sig s.taken;
      many = ap length k.others ∙ (set_length old.hubs n k.after ∙ (s.many ∙ sym (past_length (sent_at sig) h.hubs n)));
      each = value_length sig s.taken n ∙ (s.each ∙ sym (past_length (sent_at sig) h.hubs n));
      hub = λ j v x p ev eh ep. all j v x p ev (sym (ap (λ l. slice_get l j) k.others) ∙ eh) ep;
      all = subs_handed mc m n sig s.taken was_open old.subs new.subs h.pasts (subst S named e.handed) s.all;
    }

-- it is the signal that the feed would send
sent_next : {M T : Type 0} (mc : Machine M T) (m : Meaning T) (n : ℕ) (old new : Rows M T) → (k : IsFedAt mc m n old new) → next_sent mc m old n ≡ Some k.effect.signal
sent_next mc m n old new k = ap (λ o. option_and_then (λ f. next_out mc m f.part) o) (placed_feed old.feeds n k.at k.effect.feed k.place k.effect.from) ∙ k.effect.sent.next

-- ---- a move inside a feed

-- where a feed made a move inside, what its hub publishes stands as before
source_worked : {M T : Type 0} (mc : Machine M T) (m : Meaning T) (step : NodeMove) (n i : ℕ) (fs gs : List (Feed M)) (taken : List (Stream T)) (v : Stream T) (s : HubState T) (src : Source T) → (k : IsWorkedAt mc m step n fs gs) → k.feed.hub ≡ n → SourceStands mc m fs taken i v s src → SourceStands mc m gs taken i v s src
source_worked {M} {T} mc m step n i fs gs taken v s src k named h = by_test (nat_eq i n) refl
  where
    mid : Feed M
    mid = record { part = k.part; hub = k.feed.hub }

    back : SourceStands mc m (set fs k.at mid) taken i v s src → SourceStands mc m gs taken i v s src
    back = let P : List (Feed M) → Type 0 = λ l. SourceStands mc m l taken i v s src in subst P (sym k.others)

    own : feed_of fs n ≡ Some k.feed
    own = placed_feed fs n k.at k.feed k.place k.there

    of_own : (src : Source T) → i ≡ n → SourceStands mc m fs taken i v s src → SourceStands mc m (set fs k.at mid) taken i v s src
    of_own (emitted w) e f = let no = sym own ∙ (ap (λ j. feed_of fs j) (sym e) ∙ f.0) in cc
    of_own (fed x joins) e f =
        let F : Feed M → Type 0 = λ y. FeedStands mc m taken y x joins in
        let same : f.feed ≡ k.feed = some_same f.feed k.feed (sym f.there ∙ (ap (λ j. feed_of fs j) e ∙ own)) in
        let place : place_of (set fs k.at mid) i ≡ Some k.at = place_set fs k.at k.feed mid i k.there refl ∙ (ap (λ j. place_of fs j) e ∙ k.place) in
        record {
          feed = mid;
          there = placed_feed (set fs k.at mid) i k.at mid place (set_there fs k.at k.feed mid k.there);
          stands = worked_feed mc m k.feed k.part step k.effect taken x joins (subst F same f.stands);
          empty = f.empty;
          unended = f.unended;
        }

    by_test : (b : Bool) → nat_eq i n ≡ b → SourceStands mc m gs taken i v s src
    by_test true is = back (of_own src (same_number i n is) h)
    by_test false is = back (source_set mc m i k.at k.feed mid fs taken v s src k.there refl (λ e. differ i n (sym (sym named ∙ e)) is) h)

worked_stands : {M T : Type 0} (mc : Machine M T) (m : Meaning T) (step : NodeMove) (n : ℕ) (old new : Rows M T) (h : History T) → IsMadeInFeed mc m step n old new → StandsFor mc m old h → StandsFor mc m new h
worked_stands {M} {T} mc m step n old new h k s =
    let w = k.made in
    let own = placed_feed old.feeds n w.at w.feed w.place w.there in
    let named : w.feed.hub ≡ n = feed_named old.feeds n w.feed own in
    let A : List (Subscription M T) → Type 0 = λ l. AllStand mc m s.taken l h.pasts in
    record {
      taken = s.taken;
      many = ap length k.hubs ∙ s.many;
      each = s.each;
      hub = λ j v x p ev eh ep.
          let one = s.hub j v x p ev (sym (ap (λ l. slice_get l j) k.hubs) ∙ eh) ep in
          record {
            kind = one.kind;
            count = one.count;
            taken_in = one.taken_in;
            ended = one.ended;
            source = source_worked mc m step n j old.feeds new.feeds s.taken v x p.source w named one.source;
          };
      all = subst A (sym k.subs) s.all;
    }

-- ---- any move of a feed

pub feed_moved_stands : {M T : Type 0} (mc : Machine M T) (m : Meaning T) (step : NodeMove) (n : ℕ) (old new : Rows M T) (h : History T) → IsFeedMoved mc m step n old new → StandsFor mc m old h → StandsFor mc m new (with_feed_moved mc m old step n h)
feed_moved_stands {M} {T} mc m step n old new h k s = by_out (is_out step) k
  where
    by_out : (b : Bool) → IsMovedBy mc m step b n old new → StandsFor mc m new (with_sent (if b then next_sent mc m old n else None) n h)
    by_out true k = let P : Option (Signal T) → Type 0 = λ o. StandsFor mc m new (with_sent o n h) in subst P (sym (sent_next mc m n old new k)) (fed_stands mc m n old new h k s)
    by_out false k = worked_stands mc m step n old new h k s
