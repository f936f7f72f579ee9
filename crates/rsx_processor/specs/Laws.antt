-- The laws of an operator with its out slot.
use Rattle.std.specs.Prelude.{◌≡◌, ℕ, ◌+◌, ◌<◌, true, false, List, [], ◌∷◌, length, slice_get, Option, Some, None, refl}
use Rattle.std.proofs.Common.{inl, inr, sym, ap, ◌∙◌, subst, arith}
use Rattle.std.specs.Option.{option_to_list}
use Rattle.rsx_demand.specs.declared.TheConstants.{UNBOUNDED}
use Rattle.rsx_sources.specs.Prelude.{Allocates, Note, Nothing, Open, Signal, Meaning, Stream, AreWithin, IsHungry, Incoming, Reading, ended_by, ends_input, incoming_of, is_nil, quiet}
use Rattle.rsx_sources.proofs.Endings.{ending_cuts, ending_first, ending_waits}
use Rattle.rsx_tree.specs.Rests.{NothingComes}
use Rattle.rsx_processor.specs.Node.{held, node_allocates, node_comes_out, node_counted, node_ended, node_popped, node_takes, node_wanted, processed}
use Rattle.rsx_processor.specs.declared.node.ProcessorNode.{ProcessorNode}
use Rattle.rsx_processor.specs.declared.processor.Processor.{Ghosts as Processor}

never : false ≡ true → ⊥
never e = cc

-- a node has no input whose completion it took and that it goes on with
pub nothing_done : {A : Type 0} → false ≡ true → A
nothing_done e = absurd (never e)

-- it reads no hub
pub reads_nothing : (r : Reading) → None ≡ Some r → ⊥
reads_nothing r e = cc

-- what leaves the slot leaves what may allocate as it is
pub node_alike : {P T : Type 0} (b : Processor P T) (old : ProcessorNode P T) (s : Signal T) (new : ProcessorNode P T) → node_popped old s new → (a : Allocates) → node_allocates b a new ≡ node_allocates b a old
node_alike b old s new h a = ap (b.allocates a) (sym h.2)

first_held : {A : Type 0} (o : Option A) → slice_get (option_to_list o) 0 ≡ o
first_held None = refl
first_held (Some a) = refl

-- an ending in the slot cuts off whatever comes in
pub node_drops : {P T : Type 0} (b : Processor P T) (m : Meaning T) (n : ProcessorNode P T) (inc other : Incoming T) (further : Note) → node_ended n ≡ true → node_comes_out b m n inc further ≡ node_comes_out b m n other further
node_drops b m n inc other further e = ap (quiet further) (ending_cuts (held n) (processed b m n.processor inc.first) (processed b m n.processor other.first) e)

pub node_ends : {P T : Type 0} (b : Processor P T) (m : Meaning T) (n : ProcessorNode P T) (s : Signal T) (inc other : Incoming T) (further : Note) → n.slot ≡ Some s → ends_input s ≡ true → node_comes_out b m n inc further ≡ node_comes_out b m n other further
node_ends b m n s inc other further w e = node_drops b m n inc other further (ending_first (held n) s (first_held n.slot ∙ w) e)

-- the slot of a node that has ended isn't empty
pub node_ending_waits : {P T : Type 0} (n : ProcessorNode P T) → node_ended n ≡ true → n.slot ≡ None → ⊥
node_ending_waits n e none = ending_waits (held n) e (first_held n.slot ∙ none)

-- the law of an operator: where more is asked of it than it put out, it wants more than it took in
abbrev pub WantsMore : {P T : Type 0} → Processor P T → Type 0
WantsMore {P} b = (p : P) (taken put asked : ℕ) → b.balanced p taken put → put < asked → taken < UNBOUNDED → taken < b.wanted p asked

-- so it does where its slot is empty
wants_more : {P T : Type 0} (b : Processor P T) → WantsMore b → (n : ProcessorNode P T) (taken : List ℕ) (asked sent : ℕ) (counted : node_counted b n taken sent) → n.slot ≡ None → sent < asked → AreWithin taken → counted.0 < node_wanted b n 0 asked sent
wants_more b more n taken asked sent counted none less within =
    let empty : length (held n) ≡ 0 = ap (λ o. length (option_to_list o)) none in
    let low : AreWithin (counted.0 ∷ []) = subst AreWithin counted.1 within in
    more n.processor counted.0 (sent + length (held n)) asked counted.2 (omega (arith, empty, less)) low.0

pub node_hungry : {P T : Type 0} (b : Processor P T) → WantsMore b → (n : ProcessorNode P T) (taken : List ℕ) (asked sent : ℕ) → node_counted b n taken sent → n.slot ≡ None → sent < asked → AreWithin taken →
    IsHungry node_takes (λ k i a s. false) (λ k a s. false) (λ k i. false) (node_wanted b) (λ k. None) n taken asked sent
node_hungry b more n taken asked sent counted none less within = inr (inr (inl (record {
  i = 0;
  c = counted.0;
  at = ap (λ l. slice_get l 0) counted.1;
  open_still = refl;
  takes_any = λ f. ap (λ o. is_nil (option_to_list o)) none;
  wants = wants_more b more n taken asked sent counted none less within;
})))

-- and then nothing comes out of it where nothing more comes in
pub node_rests : {P T : Type 0} (b : Processor P T) (m : Meaning T) → ((p : P) → b.from m p [] ≡ []) → WantsMore b → (n : ProcessorNode P T) (taken : List ℕ) (asked sent : ℕ) (inc : Incoming T) → node_counted b n taken sent → n.slot ≡ None → sent < asked → AreWithin taken →
    NothingComes node_takes (λ k i. false) (node_wanted b) n taken asked sent (inc.first ∷ inc.others) → node_comes_out b m n inc Nothing ≡ Some (ended_by Open)
node_rests b m nothing more n taken asked sent inc counted none less within comes =
    let last : inc.first ≡ ended_by Open = comes 0 counted.0 (ap (λ l. slice_get l 0) counted.1) refl (λ f. ap (λ o. is_nil (option_to_list o)) none) (wants_more b more n taken asked sent counted none less within) in
    rw none (rw last (ap (λ l. Some (record { items = l; ending = Open })) (nothing n.processor)))

-- what comes out of it depends on no hub
pub node_local : {P T : Type 0} (b : Processor P T) (m : Meaning T) (n : ProcessorNode P T) (hubs others vs : List (Stream T)) (k : Note) → node_comes_out b m n (incoming_of hubs vs) k ≡ node_comes_out b m n (incoming_of others vs) k
node_local b m n hubs others [] k = refl
node_local b m n hubs others (v ∷ vs) k = refl
