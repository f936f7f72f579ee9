-- The next signal of an input is taken.
use Rattle.std.proofs.Common.{◌≡◌, ℕ, zero, suc, ◌<◌, ◌||◌, Bool, List, [], ◌∷◌, length, slice_index_or, slice_set, slice_get, Option, Some, None, refl, ap, sym, ◌∙◌, arith}
use Rattle.rsx_sources.specs.Prelude.{Cause, Signal, Next, Complete, Error}
use Rattle.rsx_queued.specs.declared.input.QueuedInput.{QueuedInput}
use Rattle.rsx_queued.specs.declared.output.Output.{Output}
use Rattle.rsx_queued.specs.declared.output.Output.TheVariants.{Waiting}
use Rattle.rsx_queued.specs.Prelude.{next_signal, without, next_signal_at, are_gone}
use Rattle.rsx_values.specs.Latest.{is_itemless}
use Rattle.rsx_combining.specs.Latest.{LatestState, row_is_next, latest_with, taken_at, made_out, completed, after_signal, after_pick}

-- the node after this signal, where these inputs are left
abbrev pub after_with : {T : Type 0} → LatestState T → ℕ → Option T → List (QueuedInput T) → Option (Signal T) → LatestState T
after_with n i made qs None = record { inputs = qs; latest = n.latest; output = n.output; choices = n.choices }
after_with n i made qs (Some (Next x)) = record { inputs = qs; latest = slice_set n.latest i (Some x); output = made_out made n.output; choices = n.choices }
after_with n i made qs (Some Complete) = record { inputs = qs; latest = n.latest; output = completed (is_itemless (slice_get n.latest i) || are_gone qs) n.output; choices = n.choices }
after_with n i made qs (Some (Error c)) = record { inputs = qs; latest = n.latest; output = Waiting (Error c); choices = n.choices }

same_after : {T : Type 0} (n : LatestState T) (i : ℕ) (made : Option T) (o : Option (Signal T)) → after_with n i made (taken_at n.inputs i) o ≡ after_signal n i made o
same_after n i made None = refl
same_after n i made (Some (Next x)) = refl
same_after n i made (Some Complete) = refl
same_after n i made (Some (Error c)) = refl

-- what the code did to take what is next at place i
pub record IsTaken {T : Type 0} (start old : LatestState T) (i : ℕ) (r : Option (Signal T)) (a b : QueuedInput T) : Type 0 where
  pub same : start ≡ old
  pub there : i < length old.inputs
  pub was : a ≡ slice_index_or start.inputs i a
  pub signal : r ≡ next_signal a
  pub state : b ≡ without a r

next_is : {T : Type 0} (qs : List (QueuedInput T)) (i : ℕ) (a : QueuedInput T) → i < length qs → a ≡ slice_index_or qs i a → next_signal_at (slice_get qs i) ≡ next_signal a
next_is [] i a lt was = absurd (omega arith)
next_is (q ∷ qs) zero a lt was = ap next_signal (sym was)
next_is (q ∷ qs) (suc i) a lt was = next_is qs i a (omega arith) was

set_is : {T : Type 0} (qs : List (QueuedInput T)) (i : ℕ) (a : QueuedInput T) → i < length qs → a ≡ slice_index_or qs i a → slice_set qs i (without a (next_signal a)) ≡ taken_at qs i
set_is [] i a lt was = absurd (omega arith)
set_is (q ∷ qs) zero a lt was = ap (λ p. without p (next_signal p) ∷ qs) was
set_is (q ∷ qs) (suc i) a lt was = ap (λ l. q ∷ l) (set_is qs i a (omega arith) was)

pub taken_as : {T : Type 0} (start old : LatestState T) (i : ℕ) (made : Option T) (r o : Option (Signal T)) (a b : QueuedInput T) → IsTaken start old i r a b → r ≡ o →
    after_with start i made (slice_set start.inputs i b) o ≡ after_pick old i made
taken_as start old i made r o a b p is =
    let there : i < length start.inputs = let l = ap (λ n. length n.inputs) p.same in let t = p.there in omega (arith, l, t) in
    ap (λ q. after_with start i made (slice_set start.inputs i q) o) (p.state ∙ ap (without a) p.signal)
    ∙ ap (λ qs. after_with start i made qs o) (set_is start.inputs i a there p.was)
    ∙ same_after start i made o
    ∙ ap (after_signal start i made) (sym is ∙ p.signal ∙ sym (next_is start.inputs i a there p.was))
    ∙ ap (λ n. after_pick n i made) p.same

-- the same as the code puts it together, by the signal
pub item_taken : {T : Type 0} (start old : LatestState T) (i : ℕ) (r : Option (Signal T)) (f : Signal T) (x : T) (a b : QueuedInput T) (latest : List (Option T)) → IsTaken start old i r a b → r ≡ Some f → f ≡ Next x → latest ≡ slice_set start.latest i (Some x) →
    ◌≡◌ {A = LatestState T} (record { inputs = slice_set start.inputs i b; latest = latest; output = start.output; choices = start.choices }) (after_pick old i None)
item_taken {T} start old i r f x a b latest p is next put =
    let at : List (Option T) → LatestState T = λ l. record { inputs = slice_set start.inputs i b; latest = l; output = start.output; choices = start.choices } in
    ap at put ∙ taken_as start old i None r (Some (Next x)) a b p (is ∙ ap (λ s. Some s) next)

pub completion_taken : {T : Type 0} (start old : LatestState T) (i : ℕ) (made : Option T) (r : Option (Signal T)) (f : Signal T) (a b : QueuedInput T) (t : Bool) (out : Output T) → IsTaken start old i r a b → r ≡ Some f → f ≡ Complete →
    t ≡ is_itemless (slice_get start.latest i) || are_gone (slice_set start.inputs i b) → out ≡ completed t start.output →
    ◌≡◌ {A = LatestState T} (record { inputs = slice_set start.inputs i b; latest = start.latest; output = out; choices = start.choices }) (after_pick old i made)
completion_taken {T} start old i made r f a b t out p is next test put =
    let at : Output T → LatestState T = λ o. record { inputs = slice_set start.inputs i b; latest = start.latest; output = o; choices = start.choices } in
    ap at (put ∙ ap (λ c. completed c start.output) test) ∙ taken_as start old i made r (Some Complete) a b p (is ∙ ap (λ s. Some s) next)

pub failure_taken : {T : Type 0} (start old : LatestState T) (i : ℕ) (made : Option T) (r : Option (Signal T)) (f : Signal T) (c : Cause) (a b : QueuedInput T) (out : Output T) → IsTaken start old i r a b → r ≡ Some f → f ≡ Error c → out ≡ Waiting (Error c) →
    ◌≡◌ {A = LatestState T} (record { inputs = slice_set start.inputs i b; latest = start.latest; output = out; choices = start.choices }) (after_pick old i made)
failure_taken {T} start old i made r f c a b out p is next put =
    let at : Output T → LatestState T = λ o. record { inputs = slice_set start.inputs i b; latest = start.latest; output = o; choices = start.choices } in
    ap at put ∙ taken_as start old i made r (Some (Error c)) a b p (is ∙ ap (λ s. Some s) next)

pub is_within : {T : Type 0} (qs : List (QueuedInput T)) (i : ℕ) (s : Signal T) → next_signal_at (slice_get qs i) ≡ Some s → i < length qs
is_within [] i s e = cc
is_within (q ∷ qs) zero s e = omega arith
is_within (q ∷ qs) (suc i) s e = let lt = is_within qs i s e in omega (arith, lt)

pub read_there : {T : Type 0} (qs : List (QueuedInput T)) (i : ℕ) → i < length qs → (a : QueuedInput T) × (a ≡ slice_index_or qs i a)
read_there [] i lt = absurd (omega arith)
read_there (q ∷ qs) zero lt = (q, refl)
read_there (q ∷ qs) (suc i) lt = read_there qs i (omega arith)

-- an item that gives a row was taken, and its row is put out, or went out at once
pub row_taken : {T : Type 0} (start old : LatestState T) (i : ℕ) (made : Option T) (x : T) (a b : QueuedInput T) (latest : List (Option T)) (out : Output T) → IsTaken start old i (next_signal a) a b → next_signal a ≡ Some (Next x) → latest ≡ latest_with start.latest i (next_signal a) → out ≡ made_out made start.output →
    ◌≡◌ {A = LatestState T} (record { inputs = slice_set start.inputs i b; latest = latest; output = out; choices = start.choices }) (after_pick old i made)
row_taken {T} start old i made x a b latest out p next is put =
    let at : List (Option T) → Output T → LatestState T = λ l o. record { inputs = slice_set start.inputs i b; latest = l; output = o; choices = start.choices } in
    ap (λ l. at l out) (is ∙ ap (latest_with start.latest i) next) ∙ ap (at (slice_set start.latest i (Some x))) put ∙ taken_as start old i made (next_signal a) (Some (Next x)) a b p next

-- what the test says of the input that is read
pub row_is_next_at : {T : Type 0} (qs : List (QueuedInput T)) (i : ℕ) (a : QueuedInput T) (row t : Bool) → i < length qs → a ≡ slice_index_or qs i a → row_is_next (next_signal_at (slice_get qs i)) row ≡ t → row_is_next (next_signal a) row ≡ t
row_is_next_at qs i a row t lt was e = ap (λ s. row_is_next s row) (sym (next_is qs i a lt was)) ∙ e
