-- A signal that an operator took in, by its counts.
use Rattle.std.proofs.Common.{◌≡◌, ℕ, ◌+◌, false, true, length, Option, Some, None, option_map, refl, ap, subst, arith}
use Rattle.std.specs.Option.{option_to_list}
use Rattle.rsx_sources.specs.Prelude.{CountsIn, Signal, Next, Complete, Error, ends_input, one_more}
use Rattle.rsx_processor.specs.Node.{held, node_counted, node_ended}
use Rattle.rsx_processor.specs.declared.node.ProcessorNode.{ProcessorNode}
use Rattle.rsx_processor.specs.declared.processor.Processor.{Ghosts as Processor}

same_length : {A B : Type 0} (f : A → B) (o : Option A) → length (option_to_list (option_map f o)) ≡ length (option_to_list o)
same_length f None = refl
same_length f (Some a) = refl

unended : {P T : Type 0} (n : ProcessorNode P T) → n.slot ≡ None → node_ended n ≡ true → ⊥
unended n none e = cc

-- an item that was answered
pub item_counts : {P T : Type 0} (b : Processor P T) (old new : ProcessorNode P T) (i : ℕ) (x : T) (o : Option T) → i ≡ 0 → old.slot ≡ None → new.slot ≡ option_map Next o →
    ((taken put : ℕ) → b.balanced old.processor taken put → b.balanced new.processor (taken + 1) (put + length (option_to_list o))) →
    CountsIn (node_counted b) node_ended (λ n i. false) old i (Next x) new
item_counts b old new i x o first none is more = record {
  stays_ended = λ e. absurd (unended old none e);
  counts = λ going taken sent c.
      let empty : length (held old) ≡ 0 = ap (λ s. length (option_to_list s)) none in
      let out : length (held new) ≡ length (option_to_list o) = rw is (same_length Next o) in
      let W : ℕ → Type 0 = λ k. b.balanced new.processor (c.0 + 1) k in
      (c.0 + 1, rw first (ap (one_more 0) c.1), subst W (omega (arith, empty, out)) (more c.0 (sent + length (held old)) c.2));
  stays_done = λ j e. e;
  is_done = λ going e. e;
}

-- an ending
pub ending_counts : {P T : Type 0} (b : Processor P T) (old new : ProcessorNode P T) (i : ℕ) (s : Signal T) → ends_input s ≡ true → new.slot ≡ Some s → CountsIn (node_counted b) node_ended (λ n i. false) old i s new
ending_counts b old new i (Next x) e is = cc
ending_counts b old new i Complete e is = record { stays_ended = λ was. rw is refl; counts = λ going taken sent c. cc; stays_done = λ j d. d; is_done = λ going d. cc }
ending_counts b old new i (Error c) e is = record { stays_ended = λ was. rw is refl; counts = λ going taken sent k. cc; stays_done = λ j d. d; is_done = λ going d. cc }
