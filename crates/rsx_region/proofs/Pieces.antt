-- What a move inside the part, and a signal sent into the link, make of what a piece stands for.
use Rattle.std.proofs.Common.{◌≡◌, ◌⊎◌, inl, inr, ℕ, ◌+◌, ◌<◌, min, Bool, true, false, ◌&&◌, nat_lt, List, [], ◌∷◌, ◌++◌, append_assoc, refl, ap, sym, ◌∙◌, subst, arith, Option, Some, None}
use Rattle.std.proofs.lemmas.Bool.Decides.{nat_tests}
use Rattle.rsx_demand.specs.declared.TheConstants.{UNBOUNDED}
use Rattle.rsx_sources.specs.Prelude.{Meaning, Stream, Signal, Next, Complete, Error, Reading, ends_input, front_of}
use Rattle.rsx_sources.specs.declared.machine.Machine.{Ghosts as Machine}
use Rattle.rsx_tree.specs.Allocates.{IsAlike}
use Rattle.rsx_tree.specs.Chosen.{IsChosen}
use Rattle.rsx_tree.specs.Edges.{EdgeView, can_pass, edge_view, is_live, passed}
use Rattle.rsx_tree.specs.Reads.{AllGoOn, GoesOn, readings}
use Rattle.rsx_tree.specs.declared.edge.EdgeState.{EdgeState}
use Rattle.rsx_tree.specs.declared.edge.EdgeState.TheVariants.{Live, Closed, Ended}
use Rattle.rsx_tree.specs.declared.look.NodeMove.{NodeMove}
use Rattle.rsx_tree.specs.declared.node.Node.{Node}
use Rattle.rsx_tree.proofs.Shut.{pass_live}
use Rattle.rsx_rooted.proofs.Signals.{IsUnended-more}
use Rattle.rsx_rooted.proofs.Moves.{flows_chosen, flows_sent}
use Rattle.rsx_rooted.specs.Local.{Begins}
use Rattle.rsx_pipe.specs.Feeding.{IsSentOut}
use Rattle.rsx_pipe.specs.Fetched.{IsWorked}
use Rattle.rsx_pipe.specs.Output.{IsUnended, counts_in}
use Rattle.rsx_pipe.specs.Part.{IsMade, Part}
use Rattle.rsx_pipe.specs.Tree.{IsBalanced, IsBalancedAfter, IsLetGo}
use Rattle.rsx_link.specs.Ends.{MaySend, carried_up, sent_signals, up_steps}
use Rattle.rsx_link.specs.Signals.{items_in}
use Rattle.rsx_link.specs.Steps.{flags_of, has_cancel, has_refusal, seen_of}
use Rattle.rsx_link.specs.declared.up.Up.{Up}
use Rattle.rsx_region.proofs.ClearBefore.{clear_then, effect_clear, item_clear, worked_clear}
use Rattle.rsx_region.specs.Open.{WasClear}
use Rattle.rsx_region.specs.Piece.{GoesOn as PartGoesOn, IsInStep, PieceStands}

-- ---- tests

and_right : (c d : Bool) → c && d ≡ true → d ≡ true
and_right true d h = h
and_right false d h = cc

lit : (x y : ℕ) → nat_lt x y ≡ true → x < y
lit x y h = grind (arith, nat_tests, h)

live_is : (s : EdgeState) → is_live s ≡ true → s ≡ Live
live_is Live h = refl
live_is Ended h = cc
live_is Closed h = cc

pub dead_not_live : (s : EdgeState) → is_live s ≡ false → s ≡ Live → ⊥
dead_not_live Live h e = cc
dead_not_live Ended h e = cc
dead_not_live Closed h e = cc

pub live_from : (s : EdgeState) (c : Bool) → c ≡ is_live s → c ≡ true → s ≡ Live
live_from s c e t = live_is s (sym e ∙ t)

-- ---- what the nodes read

goes_on_then : (x y z : Option Reading) → GoesOn x y → GoesOn y z → GoesOn x z
goes_on_then x y None h k = inr refl
goes_on_then x None (Some c) h k = elim k [ inl e ↦ cc | inr e ↦ cc ]
goes_on_then x (Some a) (Some c) h k = elim h [ inl e ↦ elim k [ inl f ↦ inl (f ∙ e) | inr f ↦ cc ] | inr e ↦ cc ]

pub all_go_on : (xs ys zs : List (Option Reading)) → AllGoOn xs ys → AllGoOn ys zs → AllGoOn xs zs
all_go_on [] [] [] h k = tt
all_go_on [] [] (z ∷ zs) h k = absurd k
all_go_on [] (y ∷ ys) zs h k = absurd h
all_go_on (x ∷ xs) [] zs h k = absurd h
all_go_on (x ∷ xs) (y ∷ ys) [] h k = absurd k
all_go_on (x ∷ xs) (y ∷ ys) (z ∷ zs) h k = (goes_on_then x y z h.0 k.0, all_go_on xs ys zs h.1 k.1)

-- ---- the sending end did nothing

pub in_step_same : {M T : Type 0} (p : Part M) (u u' : Up T) → IsInStep p u → up_steps u' ≡ up_steps u → carried_up u' ≡ carried_up u → sent_signals u' ≡ sent_signals u → IsInStep p u'
in_step_same p u u' i steps carried sent = record {
  asked = i.asked ∙ ap (λ l. min UNBOUNDED (seen_of l)) (sym steps);
  sent = i.sent ∙ (ap (λ k. k + items_in (sent_signals u)) (sym carried) ∙ ap (λ l. carried_up u' + items_in l) (sym sent));
}

pub stands_same : {M T : Type 0} (b : Machine M T) (m : Meaning T) (taken : List (Stream T)) (old : Node M) (queued : List (Signal T)) (p : Part M) (u u' : Up T) → PieceStands b m taken old queued p u → up_steps u' ≡ up_steps u → carried_up u' ≡ carried_up u → sent_signals u' ≡ sent_signals u → PieceStands b m taken old queued p u'
stands_same b m taken old queued p u u' h steps carried sent = record {
  out = h.out;
  sent = sent ∙ h.sent;
  flow = h.flow;
  step = in_step_same p u u' h.step steps carried sent;
  reading = h.reading;
  crosses = h.crosses;
  live = h.live;
  ended = h.ended;
  closed = λ c. let w = h.closed c in record { unended = w.unended; edges = w.edges; flag = let F : List _ → Type 0 = λ l. (has_cancel (flags_of l) ≡ true) ⊎ (has_refusal (flags_of l) ≡ true) in subst F (sym steps) w.flag };
}

-- ---- a signal went over the root edge, into the link

-- a signal was sent behind what had been sent, after a look at the room that there is
pub sent_behind : {T : Type 0} (u u' u'' : Up T) (s : Signal T) → sent_signals u' ≡ sent_signals u → sent_signals u'' ≡ sent_signals u' ++ s ∷ [] → sent_signals u'' ≡ sent_signals u ++ s ∷ []
sent_behind u u' u'' s same sent = sent ∙ ap (λ l. l ++ s ∷ []) same

-- an item that can go over the root edge may be sent into the link
pub may_send : {M T : Type 0} (p : Part M) (u : Up T) (s : Signal T) → IsInStep p u → can_pass (edge_view p.root) (front_of s) ≡ true → MaySend u s
may_send p u (Next x) i h item = let l = lit p.root.demand.sent p.root.demand.asked (and_right (is_live p.root.state) (nat_lt p.root.demand.sent p.root.demand.asked) h) in let a = i.asked in let c = i.sent in omega (arith, l, a, c)
may_send p u Complete i h item = cc
may_send p u (Error c) i h item = cc

pub items_more : {T : Type 0} (xs ys : List (Signal T)) → items_in (xs ++ ys) ≡ items_in xs + items_in ys
items_more [] ys = none_plus (items_in ys)
  where
    none_plus : (k : ℕ) → k ≡ 0 + k
    none_plus k = omega arith
items_more (Next x ∷ xs) ys = let r = items_more xs ys in omega (arith, r)
items_more (Complete ∷ xs) ys = let r = items_more xs ys in omega (arith, r)
items_more (Error c ∷ xs) ys = let r = items_more xs ys in omega (arith, r)

passed_items : {T : Type 0} (e : EdgeView) (s : Signal T) → (passed e (front_of s)).sent ≡ e.sent + items_in (s ∷ [])
passed_items e (Next x) = omega arith
passed_items e Complete = omega arith
passed_items e (Error c) = omega arith

pub in_step_sent : {M T : Type 0} (b : Machine M T) (m : Meaning T) (p p' : Part M) (u u' : Up T) (s : Signal T) → IsInStep p u → IsSentOut b m p s p' → up_steps u' ≡ up_steps u → carried_up u' ≡ carried_up u → sent_signals u' ≡ sent_signals u ++ s ∷ [] → IsInStep p' u'
in_step_sent b m p p' u u' s i k steps carried sent =
    let now : p'.root.demand.sent ≡ p.root.demand.sent + items_in (s ∷ []) = ap (λ v. v.sent) k.root ∙ passed_items (edge_view p.root) s in
    let more : items_in (sent_signals u') ≡ items_in (sent_signals u) + items_in (s ∷ []) = ap items_in sent ∙ items_more (sent_signals u) (s ∷ []) in
    let was = i.sent in
    record {
      asked = k.made.asked ∙ (i.asked ∙ ap (λ l. min UNBOUNDED (seen_of l)) (sym steps));
      sent = counts p'.root.demand.sent p.root.demand.sent (items_in (s ∷ [])) (carried_up u) (carried_up u') (items_in (sent_signals u)) (items_in (sent_signals u')) now was carried more;
    }
  where
    counts : (a c n k j x y : ℕ) → a ≡ c + n → c ≡ k + x → j ≡ k → y ≡ x + n → a ≡ j + y
    counts a c n k j x y h1 h2 h3 h4 = omega (arith, h1, h2, h3, h4)

-- what the root edge is after a signal went over it while it was live
passed_on : {T : Type 0} (e : EdgeView) (s : Signal T) → e.state ≡ Live → (passed e (front_of s)).state ≡ Live → (x : T) × (s ≡ Next x)
passed_on e (Next x) l h = (x, refl)
passed_on e Complete l h = cc
passed_on e (Error c) l h = cc

passed_last : {T : Type 0} (e : EdgeView) (s : Signal T) → e.state ≡ Live → (passed e (front_of s)).state ≡ Ended → ends_input s ≡ true
passed_last e (Next x) l h = cc
passed_last e Complete l h = refl
passed_last e (Error c) l h = refl

passed_open : {T : Type 0} (e : EdgeView) (s : Signal T) → e.state ≡ Live → (passed e (front_of s)).state ≡ Closed → ⊥
passed_open e (Next x) l c = cc
passed_open e Complete l c = cc
passed_open e (Error k) l c = cc

-- the tree let the signal go
pub let_go : {M T : Type 0} (b : Machine M T) (m : Meaning T) (p : Part M) (s : Signal T) (p' : Part M) → IsSentOut b m p s p' → IsLetGo b m p.tree s p'.tree
let_go {M} b m p s p' k =
    let t = k.made.effect.tree in
    let same : s ≡ t.0 = let e = t.1 in cc in
    let L : Signal _ → Type 0 = λ x. IsLetGo b m p.tree x p'.tree in
    subst L (sym same) t.2

-- the items that went out since the opening, with one signal more
before_sent : {T : Type 0} (before was now : ℕ) (out : List (Signal T)) (s : Signal T) → before + items_in (out ++ s ∷ []) ≡ now → now ≡ was + items_in (s ∷ []) → before + items_in out ≡ was
before_sent before was now out s all one = let more = items_more out (s ∷ []) in counts before was now (items_in out) (items_in (s ∷ [])) (items_in (out ++ s ∷ [])) all one more
  where
    counts : (b w n x y z : ℕ) → b + z ≡ n → n ≡ w + y → z ≡ x + y → b + x ≡ w
    counts b w n x y z h1 h2 h3 = omega (arith, h1, h2, h3)

on_sent : {M T : Type 0} (b : Machine M T) (m : Meaning T) (taken : List (Stream T)) (old : Node M) (p p' : Part M) (out : List (Signal T)) (s : Signal T) (x : T) → s ≡ Next x → PartGoesOn b taken old p out → IsLetGo b m p.tree s p'.tree → p'.root.demand.sent ≡ p.root.demand.sent + items_in (s ∷ []) → PartGoesOn b taken old p' (out ++ s ∷ [])
on_sent b m taken old p p' out s x is was gone sent =
    let U : Signal _ → Type 0 = λ t. IsUnended (out ++ t ∷ []) in
    let B : Signal _ → Type 0 = λ t. IsBalancedAfter b t p'.tree p.root.demand.sent in
    let C : ℕ → Type 0 = λ c. IsBalanced b p'.tree c in
    let one : p'.root.demand.sent ≡ p.root.demand.sent + 1 = sent ∙ ap (λ t. p.root.demand.sent + items_in (t ∷ [])) is in
    record {
      unended = subst U (sym is) (IsUnended-more out x was.unended);
      balance = λ before all h. subst C (sym one) (subst B is (gone.balance p.root.demand.sent (was.balance before (before_sent before p.root.demand.sent p'.root.demand.sent out s all sent) h)));
      reads = gone.alike.1 (counts_in taken) was.reads;
      clear = clear_then b old p.tree p'.tree was.clear (item_clear b m p.tree s p'.tree x gone is);
    }

pub stands_sent : {M T : Type 0} (b : Machine M T) (m : Meaning T) (taken : List (Stream T)) (old : Node M) (queued : List (Signal T)) (p p' : Part M) (u u' : Up T) (s : Signal T) → PieceStands b m taken old queued p u → IsSentOut b m p s p' → up_steps u' ≡ up_steps u → carried_up u' ≡ carried_up u → sent_signals u' ≡ sent_signals u ++ s ∷ [] → PieceStands b m taken old queued p' u'
stands_sent {M} b m taken old queued p p' u u' s h k steps carried sent =
    let gone = let_go b m p s p' k in
    let live : p.root.state ≡ Live = pass_live (edge_view p.root) (front_of s) k.can in
    let was = h.live live in
    let state : p'.root.state ≡ (passed (edge_view p.root) (front_of s)).state = ap (λ v. v.state) k.root in
    let count : p'.root.demand.sent ≡ p.root.demand.sent + items_in (s ∷ []) = ap (λ v. v.sent) k.root ∙ passed_items (edge_view p.root) s in
    let R : List (Option Reading) → Type 0 = λ l. AllGoOn (readings b old) l in
    record {
      out = h.out ++ s ∷ [];
      sent = sent ∙ (ap (λ l. l ++ s ∷ []) h.sent ∙ append_assoc queued h.out (s ∷ []));
      flow = flows_sent b m (Begins taken) old p.tree p'.tree h.out s h.flow gone;
      step = in_step_sent b m p p' u u' s h.step k steps carried sent;
      reading = subst R (sym gone.alike.2) h.reading;
      crosses = gone.alike.3 ∙ h.crosses;
      live = λ l. let x = passed_on (edge_view p.root) s live (sym state ∙ l) in on_sent b m taken old p p' h.out s x.0 x.1 was gone count;
      ended = λ e. record { before = p; rest = h.out; last = s; all = refl; ends = passed_last (edge_view p.root) s live (sym state ∙ e); sent = k; live = live; on = was; flow = h.flow };
      closed = λ c. absurd (passed_open (edge_view p.root) s live (sym state ∙ c));
    }

-- ---- moves inside

in_step_root : {M T : Type 0} (p p' : Part M) (u : Up T) → p'.root ≡ p.root → IsInStep p u → IsInStep p' u
in_step_root p p' u root i = record { asked = ap (λ e. e.demand.asked) root ∙ i.asked; sent = ap (λ e. e.demand.sent) root ∙ i.sent }

-- what such moves leave as it is
stands_inside : {M T : Type 0} (b : Machine M T) (m : Meaning T) (taken : List (Stream T)) (old : Node M) (queued : List (Signal T)) (p p' : Part M) (u : Up T) → p.root.state ≡ Live → PieceStands b m taken old queued p u →
    p'.root ≡ p.root → IsChosen b m p.tree p'.tree → ((sent : ℕ) → IsBalanced b p.tree sent → IsBalanced b p'.tree sent) → IsAlike b p.tree p'.tree → WasClear b p.tree p'.tree → PieceStands b m taken old queued p' u
stands_inside b m taken old queued p p' u live h root chosen balance alike clear =
    let was = h.live live in
    let R : List (Option Reading) → Type 0 = λ l. AllGoOn (readings b old) l in
    let C : ℕ → Type 0 = λ c. IsBalanced b p'.tree c in
    let still : p'.root.state ≡ Live = ap (λ e. e.state) root ∙ live in
    record {
      out = h.out;
      sent = h.sent;
      flow = flows_chosen b m (Begins taken) old p.tree p'.tree h.out h.flow chosen;
      step = in_step_root p p' u root h.step;
      reading = subst R (sym alike.2) h.reading;
      crosses = alike.3 ∙ h.crosses;
      live = λ _. record {
        unended = was.unended;
        balance = λ before all h. subst C (ap (λ e. e.demand.sent) (sym root)) (balance p.root.demand.sent (was.balance before (all ∙ ap (λ e. e.demand.sent) root) h));
        reads = alike.1 (counts_in taken) was.reads;
        clear = clear_then b old p.tree p'.tree was.clear clear;
      };
      ended = λ e. let s = still in cc;
      closed = λ e. let s = still in cc;
    }

-- over what never has room, nothing goes out
pub stands_made_into : {M T : Type 0} (b : Machine M T) (m : Meaning T) (taken : List (Stream T)) (old : Node M) (queued : List (Signal T)) (step : NodeMove) (p p' : Part M) (u : Up T) (out : List (Signal T)) → p.root.state ≡ Live → PieceStands b m taken old queued p u → IsMade b m step p out p' → [] ≡ [] ++ out → PieceStands b m taken old queued p' u
stands_made_into {M} {T} b m taken old queued step p p' u out live h made none =
    let I : List (Signal T) → Type 0 = λ o. IsMade b m step p o p' in
    let k = subst I (sym none) made in
    stands_inside b m taken old queued p p' u live h (k.inside refl) (k.chosen refl) (k.balance refl) k.alike (effect_clear b m step p p' k.effect)

-- so many moves
pub in_step_many : {M T : Type 0} (b : Machine M T) (m : Meaning T) (n : ℕ) (p p' : Part M) (u : Up T) → IsInStep p u → IsWorked b m n p p' → IsInStep p' u
in_step_many b m n p p' u i k = in_step_root p p' u (k.inside (sym k.queued)) i

pub stands_many : {M T : Type 0} (b : Machine M T) (m : Meaning T) (taken : List (Stream T)) (old : Node M) (queued : List (Signal T)) (n : ℕ) (p p' : Part M) (u : Up T) → p.root.state ≡ Live → PieceStands b m taken old queued p u → IsWorked b m n p p' → PieceStands b m taken old queued p' u
stands_many b m taken old queued n p p' u live h k =
    let none = sym k.queued in
    stands_inside b m taken old queued p p' u live h (k.inside none) (k.chosen none) (k.balance none) k.alike (worked_clear b m n p p' k)
