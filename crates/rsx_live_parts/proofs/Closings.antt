-- Subscriptions that were live come back.
use Rattle.std.proofs.Common.{◌≡◌, inl, inr, ℕ, suc, ◌+◌, ◌||◌, Bool, true, false, List, [], ◌∷◌, ◌++◌, length, refl, ap, sym, ◌∙◌, subst, append-nil, arith, Some, slice_get, ◌<◌, ◌≤◌, ◌^◌, Vec, Global}
use Rattle.rsx_sources.specs.Prelude.{Meaning, Signal, Stream}
use Rattle.rsx_sources.specs.declared.machine.Machine.{Ghosts as Machine}
use Rattle.rsx_rooted.specs.declared.nodes.CrossingNodes.{Ghosts as CrossingNodes}
use Rattle.rsx_link.specs.Ends.{asked_total, cancel_parts, cancels_of, down_steps, received_signals}
use Rattle.rsx_link.specs.Link.{is_positive}
use Rattle.rsx_link.specs.Parts.{IsWhole}
use Rattle.rsx_link.specs.Steps.{is_refused}
use Rattle.rsx_link.specs.declared.link.Link.{Link}
use Rattle.rsx_region.specs.Pieces.{StandsSince, none_taken}
use Rattle.rsx_region.specs.Regions.{ArePiecesOf}
use Rattle.rsx_region.specs.Trees.{AreCutFrom, HaveGoneSince, IsOpen, LastCannotJoin, Stage, names_of, stage_of}
use Rattle.rsx_region.specs.declared.piece.Piece.{Piece}
use Rattle.rsx_region.specs.declared.trees.CutTrees.{CutTrees}
use Rattle.rsx_region.proofs.Stages.{since_from}
use Rattle.rsx_runtime.specs.Closing.{IsLiveOf}
use Rattle.rsx_runtime.specs.Ordered.{is_unended}
use Rattle.rsx_runtime.specs.Standing.{given_by}
use Rattle.rsx_runtime.specs.Tapping.{given}
use Rattle.rsx_runtime.specs.declared.live.Live.{Live}
use Rattle.rsx_runtime.specs.declared.closing.Plan.{Plan}
use Rattle.rsx_runtime.specs.declared.tap.Tap.{Tap}
use Rattle.rsx_graph_state.specs.Subscriptions.{AllStand}
use Rattle.rsx_subscriber.specs.Past.{Past}
use Rattle.rsx_subscriber.specs.Stands.{Stands, standing_of}
use Rattle.rsx_subscriber.specs.declared.state.SubscriptionState.TheVariants.{Open}
use Rattle.rsx_subscriber.specs.declared.subscription.Subscription.{Subscription}
use Rattle.rsx_live_parts.specs.Kept.{AreBack, AreOut, AreTapsFrom, CameBack, Goes, WereStopped, all_lived}
use Rattle.rsx_live_parts.specs.Cutting.{AreAllSwept}
use Rattle.rsx_live_parts.specs.Lives.{AreAllCut, AreCutOut, AreNotJoined, ComeBack, HaveGoneOut, IsLiveFor, StandAs, most_numbers}
use Rattle.rsx_live_parts.specs.declared.lives.LiveSubscriptions.{LiveSubscriptions}
use Rattle.rsx_live_parts.specs.Outgoing.{IsFresh}
use Rattle.rsx_live_parts.specs.Returning.{WasStopped, lived, lived_state, tapped_state}
use Rattle.rsx_live_parts.specs.declared.going.NotLive.{NotLive}
use Rattle.rsx_live_parts.specs.declared.going.NotLive.TheVariants.{NoMemory, NotJoined}
use Rattle.rsx_live_parts.specs.declared.kept.Kept.{Kept}
use Rattle.rsx_live_parts.specs.declared.kept.Kept.TheVariants.{Away}
use Rattle.rsx_live_parts.specs.declared.kept.Parted.{Parted}
use Rattle.rsx_live_parts.proofs.Opens.{out_open}
use Rattle.rsx_live_parts.proofs.Ready.{Ahead, all_ahead, head_ahead, links_ahead, ready, tail_ahead, zip_of}

-- ---- a tap that did nothing

nothing_given : {T : Type 0} (ss : List (Signal T)) (error : Bool) → given_by ss error ≡ [] → (ss ≡ []) × (error ≡ false)
nothing_given [] false e = (refl, refl)
nothing_given [] true e = cc
nothing_given (s ∷ ss) false e = cc
nothing_given (s ∷ ss) true e = cc

one_part : IsWhole (0 ∷ [])
one_part = record { depth = 0; within = (omega arith, tt); all = refl }

not_stopped : {T : Type 0} (t : Tap T) (f : Bool) → cancels_of t.seat ≡ 0 → cancel_parts t.seat ≡ 0 ∷ [] → is_refused (down_steps t.down) ≡ false → WasStopped t f → f ≡ false
not_stopped t f none whole refused was =
    was.whole (subst IsWhole (sym whole) one_part) ∙ (ap (λ k. is_positive k || is_refused (down_steps t.down)) none ∙ refused)

module _ {M T : Type 0} (b : Machine M T) (m : Meaning T) where
  lived_same : (published : List (Stream T)) (s : Subscription M T) (p : Past T) (t : Tap T) (f : Bool) → standing_of s ≡ Open → IsFresh s t → WasStopped t f → Stands b m published s p → lived t f p ≡ p
  lived_same published s p t f stands fresh was st =
      let none = nothing_given (received_signals t.down) t.error fresh.none in
      let off : f ≡ false = not_stopped t f fresh.cancels fresh.whole fresh.refused was in
      let got : p.received ++ given t ≡ p.received = ap (λ l. p.received ++ l) fresh.none ∙ append-nil p.received in
      let asked : asked_total t.down ≡ p.asked = fresh.asked ∙ st.requested in
      let state : tapped_state t f ≡ p.state =
      ap (λ e. lived_state e (is_unended (received_signals t.down)) f) none.1 ∙ (ap (λ ss. lived_state false (is_unended ss) f) none.0 ∙ (ap (λ g. lived_state false true g) off ∙ (sym stands ∙ st.state))) in
      ap (λ r. let q : Past T = record { expression = p.expression; joins = p.joins; received = r; asked = asked_total t.down; state = tapped_state t f } in q) got
      ∙ (ap (λ a. let q : Past T = record { expression = p.expression; joins = p.joins; received = p.received; asked = a; state = tapped_state t f } in q) asked
      ∙ ap (λ z. let q : Past T = record { expression = p.expression; joins = p.joins; received = p.received; asked = p.asked; state = z } in q) state)

  -- where all taps did nothing, nothing has happened
  all_same : (subs : List (Subscription M T)) (k : ℕ) (ks : List (Kept M T)) (ps : List (Piece M T)) (ls : List (Link T)) (ts : List (Tap T)) (fs : List Bool) (published : List (Stream T)) (pasts : List (Past T)) →
      AreOut b k subs ks ps ls ts → WereStopped ts fs → AllStand b m published subs pasts → all_lived ks ts fs pasts ≡ pasts
  all_same [] k ks ps ls ts fs published pasts out were st = ap (λ l. all_lived l ts fs pasts) out.0
  all_same (s ∷ subs) k ks ps ls ts fs published [] out were st = absurd st
  all_same (s ∷ subs) k ks ps ls ts fs published (p ∷ pasts) out were st = elim out [
    | inl h ↦ ap (λ l. all_lived l ts fs (p ∷ pasts)) h.0.is ∙ ap (λ l. p ∷ l) (all_same subs k h.0.others ps ls ts fs published pasts h.1 were st.1)
    | inr h ↦ (
        let g = h.0 in
        ap (λ l. all_lived l ts fs (p ∷ pasts)) g.is ∙ (ap (λ l. all_lived (Away [] s.demand.sent ∷ g.others) l fs (p ∷ pasts)) g.tap_first
        ∙ away fs g (λ gs w. all_same subs (suc k) g.others g.pieces g.links g.taps gs published pasts h.1 w st.1) (subst (λ l. WereStopped l fs) g.tap_first were)))
  ]
    where
      away : (fs : List Bool) (g : Goes b k s ks ps ls ts) → ((gs : List Bool) → WereStopped g.taps gs → all_lived g.others g.taps gs pasts ≡ pasts) → WereStopped (g.tap ∷ g.taps) fs → all_lived (Away [] s.demand.sent ∷ g.others) (g.tap ∷ g.taps) fs (p ∷ pasts) ≡ p ∷ pasts
      away [] g rest w = absurd w
      away (f ∷ gs) g rest w = ap (λ z. z ∷ all_lived g.others g.taps gs pasts) (lived_same published s p g.tap f g.out.may.stands g.fresh w.0 st.0) ∙ ap (λ l. p ∷ l) (rest gs w.1)

  -- ---- taps that were just made

  pub taps_first : (links : List (Link T)) (subs : List (Subscription M T)) (k : ℕ) (ks : List (Kept M T)) (ps : List (Piece M T)) (ls : List (Link T)) (ts : List (Tap T)) → AreOut b k subs ks ps ls ts → Ahead links k ls → AreTapsFrom links k ks ts
  taps_first links [] k ks ps ls ts out ahead = subst (λ (l : List (Kept M T)). AreTapsFrom links k l ts) (sym out.0) out.3
  taps_first links (s ∷ subs) k ks ps ls ts out ahead = elim out [
    | inl h ↦ subst (λ (l : List (Kept M T)). AreTapsFrom links k l ts) (sym h.0.is) (taps_first links subs k h.0.others ps ls ts h.1 ahead)
    | inr h ↦ (
        let g = h.0 in
        let there = head_ahead links k g.link g.links ls g.link_first ahead in
        let rest = taps_first links subs (suc k) g.others g.pieces g.links g.taps h.1 (tail_ahead links k g.link g.links ls g.link_first ahead) in
        subst (λ (l : List (Kept M T)). AreTapsFrom links k l ts) (sym g.is) (subst (λ (l : List (Tap T)). AreTapsFrom links k (Away [] s.demand.sent ∷ g.others) l) (sym g.tap_first) (g.number, (g.link, there, g.over.0), g.over.1, rest)))
  ]

  -- ---- pieces that were joined

  pub back_ready : (crossing : CrossingNodes M T) (subs : List (Subscription M T)) (ks : List (Kept M T)) (pieces : List (Piece M T)) (links : List (Link T)) (first : List (Tap T)) (trees : CutTrees M T) (tapped : List (Link T)) (taps : List (Tap T)) → AreOut b 0 subs ks pieces links first →
      HaveGoneSince b crossing m (none_taken most_numbers) (none_taken most_numbers) (record { pieces = pieces; links = links }) (record { pieces = pieces; links = links }) trees → ((j : ℕ) (l : Link T) → slice_get links j ≡ Some l → slice_get tapped j ≡ Some l) → AreTapsFrom tapped 0 ks taps →
      AreBack b m most_numbers 0 subs ks trees.pieces.items trees.links.items taps
  back_ready crossing subs ks pieces links first trees tapped taps out since ahead are =
      let E : List (Link T) → Type 0 = λ l. ArePiecesOf l trees.pieces.items in
      let A : List (Link T) → Type 0 = λ l. AreBack b m most_numbers 0 subs ks trees.pieces.items l taps in
      let from : Ahead tapped 0 links = λ j l at. let same : 0 + j ≡ j = omega arith in ap (slice_get tapped) same ∙ ahead j l at in
      subst A (sym since.links) (ready b m most_numbers tapped links subs 0 ks pieces links first trees.pieces.items taps out
      (zip_of (StandsSince b m (none_taken most_numbers)) pieces trees.pieces.items since.stands.count since.stands.each) (subst E since.links since.ends) from (all_ahead links) are)

  -- those that were given back stand for what they stood for
  pub given_ready : (crossing : CrossingNodes M T) (subs : List (Subscription M T)) (ks : List (Kept M T)) (taps : List (Tap T)) (trees joined : CutTrees M T) → (g : HaveGoneOut b crossing m subs ks taps trees) →
      HaveGoneSince b crossing m (none_taken most_numbers) (none_taken most_numbers) (record { pieces = g.pieces; links = g.links }) (record { pieces = g.pieces; links = g.links }) joined → AreBack b m most_numbers 0 subs ks joined.pieces.items joined.links.items taps
  given_ready crossing subs ks taps trees joined g since = back_ready crossing subs ks g.pieces g.links taps joined g.links taps g.out since (λ j l at. at) (taps_first g.links subs 0 ks g.pieces g.links taps g.out (all_ahead g.links))

  pub given_stand : (crossing : CrossingNodes M T) (subs : List (Subscription M T)) (ks : List (Kept M T)) (taps : List (Tap T)) (trees joined : CutTrees M T) (now : List (Subscription M T)) → (g : HaveGoneOut b crossing m subs ks taps trees) →
      HaveGoneSince b crossing m (none_taken most_numbers) (none_taken most_numbers) (record { pieces = g.pieces; links = g.links }) (record { pieces = g.pieces; links = g.links }) joined → CameBack b ks joined.pieces.items joined.links.items taps now → StandAs b m subs now
  given_stand crossing subs ks taps trees joined now g since came published pasts st =
      let A : List (Past T) → Type 0 = λ l. AllStand b m published now l in
      subst A (all_same subs 0 ks g.pieces g.links taps came.flags published pasts g.out came.stopped st) (came.stands m most_numbers 0 subs (given_ready crossing subs ks taps trees joined g since) published pasts st)

  -- where a join was refused
  pub joined_not : (crossing : CrossingNodes M T) (subs : List (Subscription M T)) (ks : List (Kept M T)) (taps : List (Tap T)) (trees joined : CutTrees M T) → HaveGoneOut b crossing m subs ks taps trees →
      ((whole opening : Stage M T) → HaveGoneSince b crossing m (none_taken most_numbers) (none_taken most_numbers) whole opening trees → (before : Stage M T) × HaveGoneSince b crossing m (none_taken most_numbers) (none_taken most_numbers) whole before joined) → (0 < length joined.edges.items) × LastCannotJoin b crossing joined → AreNotJoined b crossing m subs ks
  joined_not crossing subs ks taps trees joined g since refused =
      let s = since (record { pieces = g.pieces; links = g.links }) g.opening g.since in
      record {
        taps = taps;
        trees = joined;
        gone = record { pieces = g.pieces; links = g.links; out = g.out; opening = s.0; since = s.1 };
        left = refused.0;
        cannot = refused.1;
      }

  -- trees that were cut, with nothing done since
  pub gone_of : (crossing : CrossingNodes M T) (subs : List (Subscription M T)) (ks : List (Kept M T)) (taps : List (Tap T)) (trees : CutTrees M T) → AreCutOut b crossing m subs ks taps trees → HaveGoneOut b crossing m subs ks taps trees
  gone_of crossing subs ks taps trees c =
      let s = since_from b crossing m (none_taken most_numbers) (record { pieces = c.pieces; links = c.links }) trees c.cut in
      record { pieces = c.pieces; links = c.links; out = c.out; opening = s.0; since = s.1 }

-- ---- live ones

module _ {M T O : Type 0} (b : Machine M T) (crossing : CrossingNodes M T) (meaning : O → Meaning T) where
  -- the links of the pieces stand in front of those of the cuts
  pub live_ahead : (whole : Stage M T) (live : Live M T O) (plan : Plan M T) → IsLiveOf b crossing meaning most_numbers whole live plan → (j : ℕ) (l : Link T) → slice_get whole.links j ≡ Some l → slice_get live.links.items j ≡ Some l
  live_ahead whole live plan is j l at =
      ap (λ ls. slice_get ls j) (is.links ∙ is.same.links) ∙ links_ahead b crossing (meaning live.ops) most_numbers whole (names_of plan.edges.items) is.opening is.run j l at

  -- where a join was refused of what came back
  pub live_not : (subs : List (Subscription M T)) (s : LiveSubscriptions M T O) (is : IsLiveFor b crossing meaning subs s) (trees : CutTrees M T) → (opening : Stage M T) × HaveGoneSince b crossing (meaning s.live.ops) (none_taken most_numbers) (none_taken most_numbers) (record { pieces = is.pieces; links = is.links }) opening trees →
      (0 < length trees.edges.items) × LastCannotJoin b crossing trees → AreNotJoined b crossing (meaning s.live.ops) subs s.kept.items
  live_not subs s is trees since refused = record {
    taps = is.taps;
    trees = trees;
    gone = record { pieces = is.pieces; links = is.links; out = is.out; opening = since.0; since = since.1 };
    left = refused.0;
    cannot = refused.1;
  }

  -- the taps that were made are over them
  pub taps_live : (subs : List (Subscription M T)) (ks : List (Kept M T)) (taps : List (Tap T)) (pieces : List (Piece M T)) (links : List (Link T)) (live : Live M T O) (plan : Plan M T) → AreOut b 0 subs ks pieces links taps →
      IsLiveOf b crossing meaning most_numbers (record { pieces = pieces; links = links }) live plan → AreTapsFrom live.links.items 0 ks taps
  taps_live subs ks taps pieces links live plan out is =
      let ahead : Ahead live.links.items 0 links = λ j l at. let same : 0 + j ≡ j = omega arith in ap (slice_get live.links.items) same ∙ live_ahead (record { pieces = pieces; links = links }) live plan is j l at in
      taps_first b (meaning live.ops) live.links.items subs 0 ks pieces links taps out ahead

-- ---- trees that were just made of the pieces

module _ {M T : Type 0} (b : Machine M T) (crossing : CrossingNodes M T) (m : Meaning T) where
  -- none of them is cut yet
  pub cut_first : (subs : List (Subscription M T)) (ks : List (Kept M T)) (taps : List (Tap T)) (pieces : Vec (Piece M T) Global) (links : Vec (Link T) Global) (trees : CutTrees M T) → AreOut b 0 subs ks pieces.items links.items taps → (trees.pieces ≡ pieces) × (trees.links ≡ links) × (trees.edges.items ≡ []) →
      (IsOpen b m (none_taken most_numbers) (stage_of trees) → AreCutFrom b crossing m (none_taken most_numbers) (stage_of trees) trees) → AreCutOut b crossing m subs ks taps trees
  cut_first subs ks taps pieces links trees out made from =
      let same : stage_of trees ≡ record { pieces = pieces.items; links = links.items } =
      ap (λ (p : Vec (Piece M T) Global). let s : Stage M T = record { pieces = p.items; links = trees.links.items } in s) made.0 ∙ ap (λ (l : Vec (Link T) Global). let s : Stage M T = record { pieces = pieces.items; links = l.items } in s) made.1 in
      let O : Stage M T → Type 0 = λ s. IsOpen b m (none_taken most_numbers) s in
      let C : Stage M T → Type 0 = λ s. AreCutFrom b crossing m (none_taken most_numbers) s trees in
      record { pieces = pieces.items; links = links.items; out = out; cut = subst C same (from (subst O (sym same) (out_open b m most_numbers subs ks pieces.items links.items taps out))) }

  -- they are cut further
  pub still_cut : (subs : List (Subscription M T)) (ks : List (Kept M T)) (taps : List (Tap T)) (old new : CutTrees M T) → AreCutOut b crossing m subs ks taps old →
      ((n : ℕ) (whole : Stage M T) → 2 ^ 32 ≤ n → AreCutFrom b crossing m (none_taken n) whole old → AreCutFrom b crossing m (none_taken n) whole new) → AreCutOut b crossing m subs ks taps new
  still_cut subs ks taps old new c from = record { pieces = c.pieces; links = c.links; out = c.out; cut = from most_numbers (record { pieces = c.pieces; links = c.links }) (omega arith) c.cut }

  pub as_many_kept : (subs : List (Subscription M T)) (k : ℕ) (ks : List (Kept M T)) (ps : List (Piece M T)) (ls : List (Link T)) (ts : List (Tap T)) → AreOut b k subs ks ps ls ts → length ks ≡ length subs
  as_many_kept [] k ks ps ls ts out = ap length out.0
  as_many_kept (s ∷ subs) k ks ps ls ts out = elim out [
    | inl h ↦ (ap length h.0.is ∙ ap suc (as_many_kept subs k h.0.others ps ls ts h.1))
    | inr h ↦ (ap length h.0.is ∙ ap suc (as_many_kept subs (suc k) h.0.others h.0.pieces h.0.links h.0.taps h.1))
  ]

  pub as_many_taps : (subs : List (Subscription M T)) (k : ℕ) (ks : List (Kept M T)) (ps : List (Piece M T)) (ls : List (Link T)) (ts : List (Tap T)) → AreOut b k subs ks ps ls ts → length ts ≡ length ps
  as_many_taps [] k ks ps ls ts out = ap length out.3 ∙ sym (ap length out.1)
  as_many_taps (s ∷ subs) k ks ps ls ts out = elim out [
    | inl h ↦ as_many_taps subs k h.0.others ps ls ts h.1
    | inr h ↦ (ap length h.0.tap_first ∙ (ap suc (as_many_taps subs (suc k) h.0.others h.0.pieces h.0.links h.0.taps h.1) ∙ sym (ap length h.0.piece_first)))
  ]

-- they are cut at all edges
pub all_cut : {M T : Type 0} (b : Machine M T) (crossing : CrossingNodes M T) (subs : List (Subscription M T)) (p : Parted M T) (ks : Vec (Kept M T) Global) (all : Vec (Link T) Global) (first now : CutTrees M T) (count : ℕ) (senders : List (Vec ℕ Global)) (roots : List ℕ) (taps : List (Tap T)) (places : List ℕ) →
    AreOut b 0 subs p.kept.items p.pieces.items p.links.items p.taps.items → ks ≡ p.kept → (first.pieces ≡ p.pieces) × (first.links ≡ p.links) × (first.edges.items ≡ []) → taps ≡ p.taps.items → AreAllSwept b crossing count senders roots taps first now places → all ≡ now.links → AreAllCut b crossing subs ks.items all.items
all_cut {M} {T} b crossing subs p ks all first now count senders roots taps places out kept made same swept links =
    let K : Vec (Kept M T) Global → Type 0 = λ v. AreOut b 0 subs v.items first.pieces.items first.links.items p.taps.items in
    let L : Vec (Link T) Global → Type 0 = λ v. AreOut b 0 subs p.kept.items first.pieces.items v.items p.taps.items in
    let P : Vec (Piece M T) Global → Type 0 = λ v. AreOut b 0 subs p.kept.items v.items p.links.items p.taps.items in
    record {
      first = first;
      now = now;
      taps = p.taps.items;
      out = subst K (sym kept) (subst L (sym made.1) (subst P (sym made.0) out));
      none = made.2;
      count = count;
      senders = senders;
      roots = roots;
      places = places;
      swept = subst (λ (l : List (Tap T)). AreAllSwept b crossing count senders roots l first now places) same swept;
      links = ap (λ (v : Vec (Link T) Global). v.items) links;
    }

module _ {M T O : Type 0} (b : Machine M T) (crossing : CrossingNodes M T) (meaning : O → Meaning T) where
  -- the trees and the functions that come back
  pub gone_back : (ops o : O) (subs : List (Subscription M T)) (ks : List (Kept M T)) (ts : List (Tap T)) (trees back : CutTrees M T) → AreCutOut b crossing (meaning ops) subs ks ts trees → o ≡ ops →
      ((whole : Stage M T) → AreCutFrom b crossing (meaning ops) (none_taken most_numbers) whole trees → (opening : Stage M T) × HaveGoneSince b crossing (meaning ops) (none_taken most_numbers) (none_taken most_numbers) whole opening back) → HaveGoneOut b crossing (meaning o) subs ks ts back
  gone_back ops o subs ks ts trees back c same since =
      let s = since (record { pieces = c.pieces; links = c.links }) c.cut in
      subst (λ (f : O). HaveGoneOut b crossing (meaning f) subs ks ts back) (sym same) (record { pieces = c.pieces; links = c.links; out = c.out; opening = s.0; since = s.1 })

  pub refused_back : (ops o : O) (subs : List (Subscription M T)) (r : NotLive M T O) → o ≡ ops → ComeBack b crossing meaning o subs r → ComeBack b crossing meaning ops subs r
  refused_back ops o subs r same h = subst (λ (f : O). ComeBack b crossing meaning f subs r) same h

  -- what comes back where a growth was refused
  pub come_of : (ops o : O) (subs : List (Subscription M T)) (now : Vec (Subscription M T) Global) (r : NotLive M T O) → r ≡ NoMemory o now → ComeBack b crossing meaning ops subs r → (o ≡ ops) × (length now.items ≡ length subs) × StandAs b (meaning ops) subs now.items
  come_of ops o subs now r same h = subst (λ (x : NotLive M T O). ComeBack b crossing meaning ops subs x) same h

  -- where a join was refused
  pub not_joined_of : (ops : O) (subs : List (Subscription M T)) (r : NotLive M T O) → r ≡ NotJoined → ComeBack b crossing meaning ops subs r → (ks : List (Kept M T)) × AreNotJoined b crossing (meaning ops) subs ks
  not_joined_of ops subs r same h = subst (λ (x : NotLive M T O). ComeBack b crossing meaning ops subs x) same h
