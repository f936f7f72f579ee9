-- The concat as a node: how each input has ended so far, what the node has put out, and how many items it got.
use Rattle.std.specs.Prelude.{◌≡◌, ⊤, ℕ, zero, suc, ◌+◌, ◌-◌, min, Bool, true, false, ◌&&◌, nat_eq, if◌then◌else◌, List, [], ◌∷◌, slice_get, Option, Some, None, option_map}
use Rattle.rsx_sources.specs.Prelude.{Note, Ending, Open, Done, Failed, Signal, Next, Complete, Error, Meaning, Stream, ended_by, Incoming, quiet, front_of}
use Rattle.rsx_demand.specs.Demand.{saturating_total}
use Rattle.rsx_demand.specs.declared.TheConstants.{UNBOUNDED}
use Rattle.rsx_sources.specs.declared.machine.Front.{Front}
use Rattle.rsx_sources.specs.declared.machine.Front.TheVariants.{Item, Completion, Failure}
use Rattle.rsx_queued.specs.declared.output.Output.{Output}
use Rattle.rsx_queued.specs.declared.output.Output.TheVariants.{Empty, Waiting, Over}
use Rattle.rsx_queued.specs.Prelude.{out_signal, is_empty, is_over, has_ending, IsOut, output_then, head_of, tail_of}
use Rattle.rsx_values.specs.Concat.{value_then}
use Rattle.rsx_merging.specs.declared.concat_node.ConcatNode.{ConcatNode}

-- the concat of the inputs, which have ended so, where these values still come in at those that are open
abbrev pub concat_left : {T : Type 0} → List Ending → List (Stream T) → Stream T
concat_left [] vs = ended_by Done
concat_left (Open ∷ es) vs = value_then (head_of vs) (concat_left es (tail_of vs))
concat_left (Done ∷ es) vs = concat_left es (tail_of vs)
concat_left (Failed c ∷ es) vs = ended_by (Failed c)

-- what was put out, and then the concat of what still comes in
abbrev pub concat_of : {T : Type 0} → Output T → List Ending → Incoming T → Note → Option (Stream T)
concat_of out es inc further = output_then out (quiet further (concat_left es (inc.first ∷ inc.others))) (quiet further (ended_by Done))

abbrev pub concat_comes_out : {T : Type 0} → Meaning T → ConcatNode T → Incoming T → Note → Option (Stream T)
concat_comes_out m n inc further = concat_of n.output n.endings.items inc further

abbrev pub concat_waiting : {T : Type 0} → Meaning T → ConcatNode T → Option (Signal T)
concat_waiting m n = out_signal n.output

abbrev pub concat_shown : {T : Type 0} → ConcatNode T → Option Front
concat_shown n = option_map front_of (out_signal n.output)

-- the input whose turn it is: the first that isn't done
abbrev pub turn : List Ending → ℕ
turn [] = 0
turn (Open ∷ es) = 0
turn (Done ∷ es) = suc (turn es)
turn (Failed c ∷ es) = 0

-- whether an input's ending came in; nothing comes at an input that isn't there
abbrev pub has_ended : Option Ending → Bool
has_ended None = true
has_ended (Some Open) = false
has_ended (Some Done) = true
has_ended (Some (Failed c)) = true

abbrev pub is_running : Option Ending → Bool
is_running None = false
is_running (Some Open) = true
is_running (Some Done) = false
is_running (Some (Failed c)) = false

-- an ending is taken of any input, an item only of the one whose turn it is
abbrev pub takes_in_turn : Bool → Front → Bool
takes_in_turn mine Item = mine
takes_in_turn mine Completion = true
takes_in_turn mine (Failure c) = true

abbrev pub concat_takes : {T : Type 0} → ConcatNode T → ℕ → Front → Bool
concat_takes n i f = is_empty n.output && (is_running (slice_get n.endings.items i) && takes_in_turn (nat_eq i (turn n.endings.items)) f)

abbrev pub concat_ended : {T : Type 0} → ConcatNode T → Bool
concat_ended n = has_ending n.output

abbrev pub concat_done : {T : Type 0} → ConcatNode T → ℕ → Bool
concat_done n i = has_ended (slice_get n.endings.items i)

-- as many items as were asked for, without those got from earlier inputs
abbrev pub concat_wanted : {T : Type 0} → ConcatNode T → ℕ → ℕ → ℕ → ℕ
concat_wanted n i asked sent = if nat_eq i (turn n.endings.items) then asked - n.earlier else 0

abbrev pub concat_popped : {T : Type 0} → ConcatNode T → Signal T → ConcatNode T → Type 0
concat_popped old s new = IsOut old.output s new.output × (old.endings ≡ new.endings) × (old.earlier ≡ new.earlier) × (old.current ≡ new.current)

-- ---- counts

-- nothing was taken at any of these
abbrev pub AreZero : List Ending → List ℕ → Type 0
AreZero [] [] = ⊤
AreZero [] (c ∷ cs) = ⊥
AreZero (e ∷ es) [] = ⊥
AreZero (e ∷ es) (c ∷ cs) = (c ≡ 0) × AreZero es cs

-- e items were taken at the inputs before the one whose turn it is, k at that one, and none behind it
abbrev pub IsSplit : List Ending → List ℕ → ℕ → ℕ → Type 0
IsSplit [] cs e k = ⊥
IsSplit (x ∷ es) [] e k = ⊥
IsSplit (Open ∷ es) (c ∷ cs) e k = (e ≡ 0) × (k ≡ c) × AreZero es cs
IsSplit (Done ∷ es) (c ∷ cs) e k = (d : ℕ) × (e ≡ c + d) × IsSplit es cs d k
IsSplit (Failed f ∷ es) (c ∷ cs) e k = ⊥

-- how many items wait
abbrev pub waits : {T : Type 0} → Output T → ℕ
waits Empty = 0
waits (Waiting (Next x)) = 1
waits (Waiting Complete) = 0
waits (Waiting (Error c)) = 0
waits Over = 0

-- the node goes on; what it took was sent, or waits
pub record IsInTurn {T : Type 0} (n : ConcatNode T) (taken : List ℕ) (sent : ℕ) : Type 0 where
  pub not_over : is_over n.output ≡ false
  pub before : ℕ
  pub mine : ℕ
  pub split : IsSplit n.endings.items taken before mine
  pub total : sent + waits n.output ≡ before + mine
  pub earlier : n.earlier ≡ min UNBOUNDED before
  pub current : n.current ≡ min UNBOUNDED mine

-- what the endings that came in put out: the first that isn't a completion, or the completion where all are
abbrev pub ending_out : {T : Type 0} → List Ending → Output T
ending_out [] = Waiting Complete
ending_out (Open ∷ es) = Empty
ending_out (Done ∷ es) = ending_out es
ending_out (Failed c ∷ es) = Waiting (Error c)

-- where the input whose turn it is has ended, what was got there was got earlier
abbrev pub earlier_after : List Ending → ℕ → ℕ → ℕ → ℕ
earlier_after es i earlier current = if nat_eq i (turn es) then saturating_total earlier current else earlier

abbrev pub current_after : List Ending → ℕ → ℕ → ℕ
current_after es i current = if nat_eq i (turn es) then 0 else current

-- ---- items that go through it in one go

-- the node after an item of the input whose turn it is went through it
abbrev pub after_passed : {T : Type 0} → ConcatNode T → ConcatNode T
after_passed n = record { endings = n.endings; output = n.output; earlier = n.earlier; current = saturating_total n.current 1 }

-- the node after so many did
abbrev pub after_all_passed : {T : Type 0} → ConcatNode T → ℕ → ConcatNode T
after_all_passed n zero = n
after_all_passed n (suc k) = after_all_passed (after_passed n) k
