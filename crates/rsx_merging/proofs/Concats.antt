-- A signal comes in at one of the inputs of a concat: the value.
use Rattle.std.proofs.Common.{◌≡◌, ℕ, zero, suc, List, [], ◌∷◌, slice_set, slice_get, Option, Some, refl, ap, sym, ◌∙◌, subst}
use Rattle.std.proofs.Math.ListN.{replicate}
use Rattle.rsx_sources.specs.Prelude.{Note, Nothing, Picks, Ended, Cause, Ending, Open, Done, Failed, Next, Complete, Error, Stream, ended_by, item_then, Incoming, in_front, in_front_at, quiet}
use Rattle.rsx_queued.specs.declared.output.Output.{Output}
use Rattle.rsx_queued.specs.declared.output.Output.TheVariants.{Empty, Waiting}
use Rattle.rsx_queued.specs.Prelude.{output_then, head_of, tail_of, first_values}
use Rattle.rsx_values.specs.Concat.{value_then, concat}
use Rattle.rsx_merging.specs.Concat.{concat_left, concat_of, turn, ending_out}
use Rattle.rsx_queued.proofs.Values.{front_list}

-- ---- an item of the input whose turn it is

item_at : {T : Type 0} (es : List Ending) (vs : List (Stream T)) (x : T) → slice_get es (turn es) ≡ Some Open → concat_left es (in_front_at (turn es) (Next x) vs) ≡ item_then x (concat_left es vs)
item_at [] vs x o = cc
item_at (Open ∷ es) [] x o = refl
item_at (Open ∷ es) (v ∷ vs) x o = refl
item_at (Done ∷ es) [] x o = item_at es [] x o
item_at (Done ∷ es) (v ∷ vs) x o = item_at es vs x o
item_at (Failed c ∷ es) vs x o = cc

of_left : {T : Type 0} → Output T → Note → Stream T → Option (Stream T)
of_left out further v = output_then out (quiet further v) (quiet further (ended_by Done))

item_first : {T : Type 0} (x : T) (further : Note) (v : Stream T) → of_left (Waiting (Next x)) further v ≡ of_left Empty further (item_then x v)
unfolding of_left
item_first x Nothing v = refl
item_first x (Picks cs) v = refl
item_first x (Ended o) v = refl

pub item_taken : {T : Type 0} (out out' : Output T) (es : List Ending) (i : ℕ) (x : T) → out ≡ Empty → out' ≡ Waiting (Next x) → i ≡ turn es → slice_get es i ≡ Some Open →
    (inc : Incoming T) (further : Note) → concat_of out' es inc further ≡ concat_of out es (in_front i (Next x) inc) further
unfolding of_left item_first
item_taken {T} out out' es i x empty put mine o inc further =
    let P : ℕ → Type 0 = λ k. slice_get es k ≡ Some Open in
    let vs = inc.first ∷ inc.others in
    rw (put, empty) (item_first x further (concat_left es vs) ∙ ap (quiet further) (sym (item_at es vs x (subst P mine o)) ∙ ap (λ k. concat_left es (in_front_at k (Next x) vs)) (sym mine) ∙ ap (concat_left es) (sym (front_list i (Next x) inc))))

-- ---- an ending of any input

done_at : {T : Type 0} (es : List Ending) (i : ℕ) (vs : List (Stream T)) → slice_get es i ≡ Some Open → concat_left (slice_set es i Done) vs ≡ concat_left es (in_front_at i Complete vs)
done_at [] i vs o = refl
done_at (Open ∷ es) zero [] o = refl
done_at (Open ∷ es) zero (v ∷ vs) o = refl
done_at (Done ∷ es) zero vs o = cc
done_at (Failed c ∷ es) zero vs o = cc
done_at (Open ∷ es) (suc i) [] o = ap (value_then (ended_by Open)) (done_at es i [] o)
done_at (Open ∷ es) (suc i) (v ∷ vs) o = ap (value_then v) (done_at es i vs o)
done_at (Done ∷ es) (suc i) [] o = done_at es i [] o
done_at (Done ∷ es) (suc i) (v ∷ vs) o = done_at es i vs o
done_at (Failed c ∷ es) (suc i) vs o = refl

failed_at : {T : Type 0} (es : List Ending) (i : ℕ) (c : Cause) (vs : List (Stream T)) → slice_get es i ≡ Some Open → concat_left (slice_set es i (Failed c)) vs ≡ concat_left es (in_front_at i (Error c) vs)
failed_at [] i c vs o = cc
failed_at (Open ∷ es) zero c [] o = refl
failed_at (Open ∷ es) zero c (v ∷ vs) o = refl
failed_at (Done ∷ es) zero c vs o = cc
failed_at (Failed f ∷ es) zero c vs o = cc
failed_at (Open ∷ es) (suc i) c [] o = ap (value_then (ended_by Open)) (failed_at es i c [] o)
failed_at (Open ∷ es) (suc i) c (v ∷ vs) o = ap (value_then v) (failed_at es i c vs o)
failed_at (Done ∷ es) (suc i) c [] o = failed_at es i c [] o
failed_at (Done ∷ es) (suc i) c (v ∷ vs) o = failed_at es i c vs o
failed_at (Failed f ∷ es) (suc i) c vs o = refl

-- what the endings put out stands for itself
out_left : {T : Type 0} (es : List Ending) (vs : List (Stream T)) (further : Note) → of_left (ending_out es) further (concat_left es vs) ≡ quiet further (concat_left es vs)
unfolding of_left
out_left [] vs Nothing = refl
out_left [] vs (Picks cs) = refl
out_left [] vs (Ended o) = refl
out_left (Open ∷ es) vs further = refl
out_left (Done ∷ es) vs further = out_left es (tail_of vs) further
out_left (Failed c ∷ es) vs Nothing = refl
out_left (Failed c ∷ es) vs (Picks cs) = refl
out_left (Failed c ∷ es) vs (Ended o) = refl

pub done_taken : {T : Type 0} (out out' : Output T) (es es' : List Ending) (i : ℕ) → out ≡ Empty → es' ≡ slice_set es i Done → out' ≡ ending_out (slice_set es i Done) → slice_get es i ≡ Some Open →
    (inc : Incoming T) (further : Note) → concat_of out' es' inc further ≡ concat_of out es (in_front i Complete inc) further
unfolding of_left out_left
done_taken out out' es es' i empty now put o inc further =
    let vs = inc.first ∷ inc.others in
    rw (put, now, empty) (out_left (slice_set es i Done) vs further ∙ ap (quiet further) (done_at es i vs o ∙ ap (concat_left es) (sym (front_list i Complete inc))))

pub failure_taken : {T : Type 0} (out out' : Output T) (es es' : List Ending) (i : ℕ) (c : Cause) → out ≡ Empty → es' ≡ slice_set es i (Failed c) → out' ≡ ending_out (slice_set es i (Failed c)) → slice_get es i ≡ Some Open →
    (inc : Incoming T) (further : Note) → concat_of out' es' inc further ≡ concat_of out es (in_front i (Error c) inc) further
unfolding of_left out_left
failure_taken out out' es es' i c empty now put o inc further =
    let vs = inc.first ∷ inc.others in
    rw (put, now, empty) (out_left (slice_set es i (Failed c)) vs further ∙ ap (quiet further) (failed_at es i c vs o ∙ ap (concat_left es) (sym (front_list i (Error c) inc))))

-- ---- at the start

fresh_left : {T : Type 0} (n : ℕ) (vs : List (Stream T)) → concat_left (replicate n Open) vs ≡ concat (first_values n vs)
fresh_left zero vs = refl
fresh_left (suc n) vs = ap (value_then (head_of vs)) (fresh_left n (tail_of vs))

pub fresh_concat : {T : Type 0} (out : Output T) (es : List Ending) (n : ℕ) → out ≡ ending_out es → es ≡ replicate n Open →
    (inc : Incoming T) (further : Note) → concat_of out es inc further ≡ quiet further (concat (first_values n (inc.first ∷ inc.others)))
unfolding of_left out_left
fresh_concat out es n put all inc further =
    let vs = inc.first ∷ inc.others in
    rw (put, all) (out_left (replicate n Open) vs further ∙ ap (quiet further) (fresh_left n vs))
