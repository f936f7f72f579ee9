-- What still comes out of an operator with its out slot: what stands in the slot, and then what it makes of what comes in.
use Rattle.std.specs.Prelude.{◌≡◌, ℕ, ◌+◌, Bool, ◌&&◌, ◌==◌, List, [], ◌∷◌, length, Option, option_map}
use Rattle.std.specs.Option.{option_to_list}
use Rattle.rsx_sources.specs.Prelude.{Allocates, Note, Signal, Meaning, Stream, signals_then, Incoming, quiet, front_of, has_ending, is_nil}
use Rattle.rsx_sources.specs.declared.machine.Front.{Front}
use Rattle.rsx_processor.specs.declared.node.ProcessorNode.{ProcessorNode}
use Rattle.rsx_processor.specs.declared.processor.Processor.{Ghosts as Processor}

-- the operator of what comes in, with the ending behind it
abbrev pub processed : {P T : Type 0} → Processor P T → Meaning T → P → Stream T → Stream T
processed b m p v = record { items = b.from m p v.items; ending = v.ending }

-- what stands in the slot
abbrev pub held : {P T : Type 0} → ProcessorNode P T → List (Signal T)
held n = option_to_list n.slot

abbrev pub node_comes_out : {P T : Type 0} → Processor P T → Meaning T → ProcessorNode P T → Incoming T → Note → Option (Stream T)
node_comes_out b m n inc further = quiet further (signals_then (held n) (processed b m n.processor inc.first))

abbrev pub node_waiting : {P T : Type 0} → Meaning T → ProcessorNode P T → Option (Signal T)
node_waiting m n = n.slot

abbrev pub node_shown : {P T : Type 0} → ProcessorNode P T → Option Front
node_shown n = option_map front_of n.slot

-- a signal of the one input is taken where the slot is empty
abbrev pub node_takes : {P T : Type 0} → ProcessorNode P T → ℕ → Front → Bool
node_takes n i f = (i == 0) && is_nil (held n)

-- whether an ending stands in the slot
abbrev pub node_ended : {P T : Type 0} → ProcessorNode P T → Bool
node_ended n = has_ending (held n)

-- what was put out was sent or stands in the slot
abbrev pub node_counted : {P T : Type 0} → Processor P T → ProcessorNode P T → List ℕ → ℕ → Type 0
node_counted b n taken sent = (c : ℕ) × (taken ≡ c ∷ []) × b.balanced n.processor c (sent + length (held n))

abbrev pub node_wanted : {P T : Type 0} → Processor P T → ProcessorNode P T → ℕ → ℕ → ℕ → ℕ
node_wanted b n i asked sent = b.wanted n.processor asked

-- the signal leaves the slot
abbrev pub node_popped : {P T : Type 0} → ProcessorNode P T → Signal T → ProcessorNode P T → Type 0
node_popped old s new = (held old ≡ s ∷ []) × (held new ≡ []) × (old.processor ≡ new.processor)

abbrev pub node_allocates : {P T : Type 0} → Processor P T → Allocates → ProcessorNode P T → Bool
node_allocates b a n = b.allocates a n.processor
