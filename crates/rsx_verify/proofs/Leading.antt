-- Runs, act by act.
use Rattle.rsx_verify.specs.Prelude.{Act, Acted, AreLines, AreVerified, Feed, GraphStands, GraphState, IsActed, IsActedAs, IsAsideSame, IsBegun, IsFedHubMade, IsFollowed, IsFollowedTo, IsLine, IsPassedOver, IsProcessed, IsProcessing, IsRecorded, IsRequestedAt, IsSubscribed, Line, Meaning, Multicast, Signal, Stamped, SubId, Subscription, bad_request_acts, cancel_acts, delivery, no_history, nothing, processor_acts, publisher_acts, reader, stamped, with_fed_hub, with_subscriber}
use Rattle.std.proofs.Common.{◌≡◌, ℕ, ◌+◌, ◌<◌, ◌≤◌, List, [], ◌∷◌, ◌++◌, length, take, get_or, ℤ, Option, None, Some, inl, refl, sym, ap, ◌∙◌, subst, append_assoc}
use Rattle.std.proofs.lemmas.List.{append-nil, flat_map_more, map-append, take_all, take_more}
use Rattle.rsx_subscriber.specs.Prelude.{Expr, cancelled, requested}
use Rattle.rsx_graph_state.specs.Prelude.{HaveJoined, History}
use Rattle.rsx_tck.specs.declared.event.Event.TheVariants as event
use Rattle.rsx_graph_calls.specs.Requests.{with_past}
use Rattle.rsx_verify.specs.declared.act.Act.TheVariants.{Request}
use Rattle.rsx_tree.proofs.Runs.{leads_on}
use Rattle.rsx_verify.specs.declared.TheConstants.{CAPACITY}

pub begun_from : {T : Type 0} (m m' : Meaning T) (e : Expr T) (old new : GraphState T) → m' ≡ m → old ≡ nothing → IsSubscribed e old.rows.subs new.rows.subs → GraphStands m old no_history →
    ((h : History T) → GraphStands m' old h → GraphStands m' new (with_subscriber e h)) → IsBegun m e new
begun_from {T} m m' e old new same empty subscribed stood after =
    let S : GraphState T → Type 0 = λ g. IsSubscribed e g.rows.subs new.rows.subs in
    let A : Meaning T → Type 0 = λ n. (h : History T) → GraphStands n old h → GraphStands n new (with_subscriber e h) in
    let after' : (h : History T) → GraphStands m old h → GraphStands m new (with_subscriber e h) = subst A same after in
    record { subscribed = subst S empty subscribed; stands = after' no_history stood }

pub processing_from : {T : Type 0} (m m' m'' m''' : Meaning T) (e : Expr T) (a b c d : GraphState T) → m' ≡ m → m'' ≡ m' → m''' ≡ m'' → a ≡ nothing → GraphStands m a no_history →
    ((h : History T) → GraphStands m' a h → GraphStands m' b (with_fed_hub Multicast e h)) → IsFedHubMade Multicast CAPACITY e a.rows.hubs b.rows.hubs a.rows.feeds b.rows.feeds → b.rows.subs ≡ a.rows.subs →
    ((h : History T) → GraphStands m'' b h → GraphStands m'' c (with_subscriber reader h)) → IsSubscribed reader b.rows.subs c.rows.subs → HaveJoined reader b.rows.hubs c.rows.hubs → c.rows.feeds ≡ b.rows.feeds →
    ((h : History T) → GraphStands m''' c h → GraphStands m''' d (with_subscriber reader h)) → IsSubscribed reader c.rows.subs d.rows.subs → HaveJoined reader c.rows.hubs d.rows.hubs → d.rows.feeds ≡ c.rows.feeds → IsProcessing m e d
processing_from {T} m m' m'' m''' e a b c d same same' same'' empty stood feeding fed unread reading first first_joined feeds reading' second second_joined feeds' =
    let A : Meaning T → Type 0 = λ n. (h : History T) → GraphStands n a h → GraphStands n b (with_fed_hub Multicast e h) in
    let B : Meaning T → Type 0 = λ n. (h : History T) → GraphStands n b h → GraphStands n c (with_subscriber reader h) in
    let C : Meaning T → Type 0 = λ n. (h : History T) → GraphStands n c h → GraphStands n d (with_subscriber reader h) in
    let one : A m = subst A same feeding in
    let two : B m = subst B (same' ∙ same) reading in
    let three : C m = subst C (same'' ∙ (same' ∙ same)) reading' in
    let h : History T = with_fed_hub Multicast e no_history in
    let F : GraphState T → Type 0 = λ g. IsFedHubMade Multicast CAPACITY e g.rows.hubs b.rows.hubs g.rows.feeds b.rows.feeds in
    let G : List (Feed T) → Type 0 = λ l. IsFedHubMade Multicast CAPACITY e [] b.rows.hubs [] l in
    let S : List (Subscription T) → Type 0 = λ l. IsSubscribed reader l c.rows.subs in
    record {
      hubs = b.rows.hubs;
      joined = c.rows.hubs;
      subs = c.rows.subs;
      fed = subst G (sym (feeds' ∙ feeds)) (subst F empty fed);
      first = subst S (unread ∙ ap (λ g. g.rows.subs) empty) first;
      first_joined = first_joined;
      second = second;
      second_joined = second_joined;
      stands = three (with_subscriber reader h) (two h (one no_history stood));
    }

-- nothing was done yet
pub followed_none : {T : Type 0} (m : Meaning T) (w : ℕ) (g : GraphState T) (first : List Stamped) → IsFollowedTo m w g [] first first g
followed_none m w g first = record { done = []; acts_are = refl; lead = refl; recorded = sym (append-nil first) }

-- one act more of a list
pub followed_more : {T : Type 0} (m m' : Meaning T) (w w' : ℕ) (old : GraphState T) (acts : List Act) (i : ℕ) (d : Act) (first t t' : List Stamped) (b c : GraphState T) → m' ≡ m → w' ≡ w → i < length acts → IsFollowedTo m w old (take i acts) first t b →
    ((more : List Stamped) × (t' ≡ t ++ more) × IsActed m' w' (get_or acts i d) b more c) → IsFollowedTo m w old (take (i + 1) acts) first t' c
followed_more {T} m m' w w' old acts i d first t t' b c same there lt run (more, noted, acted) =
    let act : Act = get_or acts i d in
    let one : Acted = record { act = act; events = more } in
    let A : Meaning T → Type 0 = λ n. IsActed n w' act b more c in
    let B : ℕ → Type 0 = λ k. IsActed m k act b more c in
    let P : List Act → Type 0 = λ l. IsFollowedTo m w old l first t' c in
    subst P (sym (take_more acts i d lt)) (record {
      done = run.done ++ one ∷ [];
      acts_are = ap (λ l. l ++ act ∷ []) run.acts_are ∙ sym (map-append (λ (d : Acted). d.act) run.done (one ∷ []));
      lead = leads_on (IsActedAs m w) old b c run.done (one ∷ []) run.lead (c, subst B there (subst A same acted), refl);
      recorded = noted ∙ (ap (λ l. l ++ more) run.recorded ∙ flat_map_more (λ (d : Acted). d.events) first run.done one);
    })

pub followed_all : {T : Type 0} (m : Meaning T) (w : ℕ) (old : GraphState T) (acts : List Act) (i : ℕ) (first t : List Stamped) (g : GraphState T) → length acts ≤ i → IsFollowedTo m w old (take i acts) first t g → IsFollowed m w old acts first t
followed_all {T} m w old acts i first t g l run =
    let P : List Act → Type 0 = λ s. IsFollowedTo m w old s first t g in
    (g, subst P (take_all i acts l) run)

-- a run of what began so, where its functions, its region and its first events are these
pub followed_from : {T : Type 0} (m m' : Meaning T) (w w' : ℕ) (old : GraphState T) (acts : List Act) (first first' t : List Stamped) → m' ≡ m → w' ≡ w → first' ≡ first → IsFollowed m' w' old acts first' t → IsFollowed m w old acts first t
followed_from {T} m m' w w' old acts first first' t same there is run =
    let A : Meaning T → Type 0 = λ n. IsFollowed n w' old acts first' t in
    let B : ℕ → Type 0 = λ k. IsFollowed m k old acts first' t in
    let C : List Stamped → Type 0 = λ l. IsFollowed m w old acts l t in
    subst C is (subst B there (subst A same run))

-- a request that answered the error of a bad request
pub request_answered : {T : Type 0} (m : Meaning T) (w : ℕ) (i : SubId) (n : ℤ) (old new : GraphState T) (o : Option (Signal T)) (s : Signal T) (t t' t'' : List Stamped) →
    t' ≡ t ++ stamped (event.Request i.0 n) ∷ [] → t'' ≡ t' ++ delivery 0 (i, s) → o ≡ Some s → IsRequestedAt i.0 n old.rows.subs new.rows.subs o → IsAsideSame old new →
    ((h : History T) → GraphStands m old h → GraphStands m new (with_past (requested n) i h)) → (more : List Stamped) × (t'' ≡ t ++ more) × IsActed m w (Request i n) old more new
request_answered {T} m w i n old new o s t t' t'' first second is effect aside stands =
    let R : Option (Signal T) → Type 0 = λ a. IsRequestedAt i.0 n old.rows.subs new.rows.subs a in (
      stamped (event.Request i.0 n) ∷ delivery 0 (i, s),
      second ∙ (ap (λ l. l ++ delivery 0 (i, s)) first ∙ append_assoc t (stamped (event.Request i.0 n) ∷ []) (delivery 0 (i, s))),
      inl (record { answer = Some s; effect = subst R is effect; aside = aside; stands = stands; recorded = refl }),
    )

-- a request that answered no signal
pub request_unanswered : {T : Type 0} (m : Meaning T) (w : ℕ) (i : SubId) (n : ℤ) (old new : GraphState T) (o : Option (Signal T)) (t t' : List Stamped) →
    t' ≡ t ++ stamped (event.Request i.0 n) ∷ [] → o ≡ None → IsRequestedAt i.0 n old.rows.subs new.rows.subs o → IsAsideSame old new →
    ((h : History T) → GraphStands m old h → GraphStands m new (with_past (requested n) i h)) → (more : List Stamped) × (t' ≡ t ++ more) × IsActed m w (Request i n) old more new
request_unanswered {T} m w i n old new o t t' noted is effect aside stands =
    let R : Option (Signal T) → Type 0 = λ a. IsRequestedAt i.0 n old.rows.subs new.rows.subs a in
    (stamped (event.Request i.0 n) ∷ [], noted, inl (record { answer = None; effect = subst R is effect; aside = aside; stands = stands; recorded = refl }))

-- nothing was recorded, and nothing happened
pub none_recorded : {T : Type 0} (i : SubId) (old new : GraphState T) (t : List Stamped) → length old.rows.subs ≤ i.0 → new ≡ old → (more : List Stamped) × (t ≡ t ++ more) × IsPassedOver i old more new
none_recorded i old new t past same = ([], sym (append-nil t), (past, refl, same))

-- the four runs, judged
pub verified_from : {T : Type 0} (m : Meaning T) (e : Expr T) (p c b r p' c' b' r' : List Stamped) (lines : List Line) → IsRecorded m e publisher_acts p → IsRecorded m e cancel_acts c → IsRecorded m e bad_request_acts b → IsProcessed m e processor_acts r →
    p' ≡ p → c' ≡ c → b' ≡ b → r' ≡ r → AreLines (IsLine p' c' b' r') lines → AreVerified m e lines
verified_from {T} m e p c b r p' c' b' r' lines published cancelled requested processed ep ec eb er judged =
    let P : List Stamped → Type 0 = λ t. IsRecorded m e publisher_acts t in
    let C : List Stamped → Type 0 = λ t. IsRecorded m e cancel_acts t in
    let B : List Stamped → Type 0 = λ t. IsRecorded m e bad_request_acts t in
    let R : List Stamped → Type 0 = λ t. IsProcessed m e processor_acts t in
    record {
      publisher = p';
      cancel = c';
      bad_request = b';
      processor = r';
      published = subst P (sym ep) published;
      cancelled = subst C (sym ec) cancelled;
      requested = subst B (sym eb) requested;
      processed = subst R (sym er) processed;
      judged = judged;
    }
