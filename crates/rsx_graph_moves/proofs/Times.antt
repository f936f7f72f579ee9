-- One move of a graph, made many times: none, one, and more.
use Rattle.rsx_sources.specs.declared.machine.Machine.{Ghosts as Machine}
use Rattle.rsx_rooted.specs.declared.nodes.Nodes.{Ghosts as Nodes}
use Rattle.std.proofs.Common.{◌≡◌, ℕ, ◌+◌, ◌<◌, min, Bool, true, false, nat_eq, if◌then◌else◌, List, [], ◌∷◌, ◌++◌, length, get_or, map, replicate, Option, Some, None, refl, ap, sym, ◌∙◌, subst, arith, append_assoc}
use Rattle.std.proofs.Math.ListN.{set}
use Rattle.std.proofs.lemmas.Bool.Decides.{nat_tests}
use Rattle.std.proofs.lemmas.List.{append-nil, map-append, replicate-append-replicate}
use Rattle.std.proofs.lemmas.List.Concat.{flat_map-append}
use Rattle.std.specs.Option.{option_to_list}
use Rattle.rsx_sources.specs.Prelude.{Meaning, Allocates, Move, Ask, Send, Take, Pick, Row, Accept, SubId, Sub, Feed as FeedOf, Signal}
use Rattle.rsx_subscriber.specs.Delivered.{Delivered}
use Rattle.rsx_subscriber.specs.Prelude.{IsMadeAnswer, IsTakeAnswer, delivery, given, take_enabled}
use Rattle.rsx_subscriber.specs.Taken.{IsTakenInto}
use Rattle.rsx_subscriber.specs.declared.subscription.Subscription.{Subscription}
use Rattle.rsx_subscriber.proofs.Moves.{delivery_enabled}
use Rattle.rsx_graph_state.specs.Prelude.{History, Rows, StandsFor, HubState, rows_of, with_made}
use Rattle.rsx_graph_state.specs.declared.feed.Feed.{Feed}
use Rattle.rsx_graph_state.specs.declared.refusal.Refusal.{Refusal}
use Rattle.rsx_pipe.specs.declared.many.TheConstants.{MOST_AT_ONCE}
use Rattle.rsx_graph_state.proofs.Graphs.{AllStand-set, enabled_there, found}
use Rattle.rsx_graph_moves.specs.Many.{IsMadeTimes, IsNextRefused, delivers_to, most_of}
use Rattle.rsx_graph_moves.specs.Moves.{IsMoved, is_enabled, sent}
use Rattle.rsx_graph_moves.specs.Pumped.{Made, delivered_by, delivery_by}
use Rattle.rsx_graph_moves.proofs.Driving.{made_none, made_on, made_one}
use Rattle.rsx_graph_moves.proofs.Named.{root_take}

-- ---- none, and more

pub times_none : {M T : Type 0} (mc : Machine M T) (kd : Nodes M T) (m : Meaning T) (mv : Move) (g : Rows M T) (out : Delivered T) → IsMadeTimes mc kd m mv 0 g out g out
times_none mc kd m mv g out = record { moves = []; named = refl; made = made_none mc kd m g; output = sym (append-nil out.signals) }

-- and then one more
pub times_on : {M T : Type 0} (mc : Machine M T) (kd : Nodes M T) (m : Meaning T) (mv : Move) (n : ℕ) (a b c : Rows M T) (before between after : Delivered T) → IsMadeTimes mc kd m mv n a before b between → IsMadeTimes mc kd m mv 1 b between c after → IsMadeTimes mc kd m mv (n + 1) a before c after
times_on {M} {T} mc kd m mv n a b c before between after x y =
    let name : Made T → Move = λ d. d.move in
    record {
      moves = x.moves ++ y.moves;
      named = map-append name x.moves y.moves ∙ (ap (λ l. l ++ map name y.moves) x.named ∙ (ap (λ l. replicate n mv ++ l) y.named ∙ replicate-append-replicate n 1 mv));
      made = made_on mc kd m a b c x.moves y.moves x.made y.made;
      output = y.output ∙ (ap (λ l. l ++ delivered_by y.moves) x.output ∙ (append_assoc before.signals (delivered_by x.moves) (delivered_by y.moves) ∙ ap (λ l. before.signals ++ l) (sym (flat_map-append delivery_by x.moves y.moves))));
    }

-- where nothing changed behind them
pub times_same : {M T : Type 0} (mc : Machine M T) (kd : Nodes M T) (m : Meaning T) (mv : Move) (n : ℕ) (a b c : Rows M T) (before between after : Delivered T) → c ≡ b → after ≡ between → IsMadeTimes mc kd m mv n a before b between → IsMadeTimes mc kd m mv n a before c after
times_same {M} {T} mc kd m mv n a b c before between after rows out x =
    let P : Rows M T → Type 0 = λ g. IsMadeTimes mc kd m mv n a before g after in
    let Q : Delivered T → Type 0 = λ d. IsMadeTimes mc kd m mv n a before b d in
    subst P (sym rows) (subst Q (sym out) x)

pub refused_same : {M T : Type 0} (mc : Machine M T) (kd : Nodes M T) (m : Meaning T) (a : Allocates) (mv : Move) (b c : Rows M T) (between after : Delivered T) (why : Refusal) → c ≡ b → after ≡ between → IsNextRefused mc kd m a mv b between why → IsNextRefused mc kd m a mv c after why
refused_same {M} {T} mc kd m a mv b c between after why rows out x =
    let P : Rows M T → Type 0 = λ g. IsNextRefused mc kd m a mv g after why in
    let Q : Delivered T → Type 0 = λ d. IsNextRefused mc kd m a mv b d why in
    subst P (sym rows) (subst Q (sym out) x)

-- where some are wanted, one may be made at least
least : (n : ℕ) → 0 < n → 0 < min n 1
least n some = omega (arith, some)

least_many : (n : ℕ) → 0 < n → 0 < min n MOST_AT_ONCE
least_many n some = omega (arith, some)

pub most_some : (mv : Move) (n : ℕ) → 0 < n → 0 < most_of mv n
most_some (Ask t at) n some = least n some
most_some (Send t at) n some = least_many n some
most_some (Take t at) n some = least_many n some
most_some (Pick t at input) n some = least n some
most_some (Row t at) n some = least n some
most_some (Accept h) n some = least n some

-- ---- one

-- a move that delivers nothing
pub times_made : {M T : Type 0} (mc : Machine M T) (kd : Nodes M T) (m : Meaning T) (mv : Move) (o : Option (SubId × Signal T)) (old new : Rows M T) (out : Delivered T) → o ≡ None → is_enabled mc kd m old mv ≡ true → IsMoved mc kd m mv old new o → IsMadeAnswer mv o → ((h : History T) → StandsFor mc m old h → StandsFor mc m new (with_made mv o (sent mc kd m old mv) h)) →
    IsMadeTimes mc kd m mv 1 old out new out
times_made mc kd m mv o old new out none can effect answer stands = record {
  moves = record { move = mv; delivered = o; fed = sent mc kd m old mv } ∷ [];
  named = refl;
  made = made_one mc kd m mv o old new can effect answer stands;
  output = sym (append-nil out.signals) ∙ ap (λ l. out.signals ++ l) (sym (append-nil (option_to_list o) ∙ ap option_to_list none));
}

-- the Take from the root edge of a subscription
pub times_taken : {M T : Type 0} (mc : Machine M T) (kd : Nodes M T) (m : Meaning T) (id : SubId) (subs : List (Subscription M T)) (old new : Subscription M T) (before after : Delivered T) (hubs : List (HubState T)) (feeds : List (Feed M)) → id.0 < length subs → get_or subs id.0 old ≡ old → take_enabled old 0 ≡ true → IsTakenInto mc id old before new after →
    IsMadeTimes mc kd m (delivery id) 1 (rows_of hubs feeds subs) before (rows_of hubs feeds (set subs id.0 new)) after
times_taken {M} {T} mc kd m id subs old new before after hubs feeds within at can t =
    let mv = delivery id in
    let o : Option (SubId × Signal T) = Some (id, t.signal) in
    let first = rows_of hubs feeds subs in
    let last = rows_of hubs feeds (set subs id.0 new) in
    let stands : (h : History T) → StandsFor mc m first h → StandsFor mc m last (with_made mv o (sent mc kd m first mv) h) =
    λ h s. record { taken = s.taken; many = s.many; each = s.each; hub = s.hub; all = AllStand-set mc m s.taken (given t.signal) subs h.pasts id.0 old new within at (λ p k. t.stands m s.taken p k) s.all } in
    record {
      moves = record { move = mv; delivered = o; fed = sent mc kd m first mv } ∷ [];
      named = refl;
      made = made_one mc kd m mv o first last
          (enabled_there mc kd m subs id.0 old mv within at ∙ delivery_enabled mc kd m id old true can)
          (record { old = old; new = new; there = found subs id.0 old within at; effect = t.effect; others = refl }, refl, refl)
          (t.signal, refl) stands;
      output = t.output;
    }

-- ---- to whom a move delivers

if_some : {A : Type 0} (b : Bool) (x y : A) → (if b then Some x else None) ≡ Some y → (b ≡ true) × (x ≡ y)
if_some true x y e = (refl, cc)
if_some false x y e = cc

pub delivers_is : (mv : Move) (i : SubId) → delivers_to mv ≡ Some i → mv ≡ delivery i
delivers_is (Ask t at) i e = cc
delivers_is (Send t at) i e = cc
delivers_is (Take (Sub j) at) i e =
    let k = if_some (nat_eq at.0 0) j i e in
    let zero : at.0 ≡ 0 = let test = k.0 in grind (arith, nat_tests, test) in
    sym (root_take j at zero) ∙ ap delivery k.1
delivers_is (Take (FeedOf h) at) i e = cc
delivers_is (Pick t at input) i e = cc
delivers_is (Row t at) i e = cc
delivers_is (Accept h) i e = cc

none_answer : {T : Type 0} (b : Bool) (j : SubId) (o : Option (SubId × Signal T)) → (if b then Some j else None) ≡ None → IsTakeAnswer b j o → o ≡ None
none_answer true j o e a = cc
none_answer false j o e a = a

-- where to nobody, it answers nothing
pub delivers_none : {T : Type 0} (mv : Move) (o : Option (SubId × Signal T)) → delivers_to mv ≡ None → IsMadeAnswer mv o → o ≡ None
delivers_none (Ask t at) o e a = a
delivers_none (Send t at) o e a = a
delivers_none (Take (Sub j) at) o e a = none_answer (nat_eq at.0 0) j o e a
delivers_none (Take (FeedOf h) at) o e a = a
delivers_none (Pick t at input) o e a = a
delivers_none (Row t at) o e a = a
delivers_none (Accept h) o e a = a
