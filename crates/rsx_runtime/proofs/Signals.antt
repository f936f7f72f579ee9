-- Lists of signals in which nothing follows an ending.
use Rattle.std.proofs.Common.{◌≡◌, inl, inr, ℕ, Bool, true, false, nat_eq, nat_lt, cond, not, arith, List, [], ◌∷◌, ◌++◌, refl, ap, sym, ◌∙◌, subst, Result, Ok, Err, OnOk, IfErr, Option, Some, None}
use Rattle.std.proofs.lemmas.Bool.Decides.{nat_tests}
use Rattle.std.specs.Prelude.{◌⊎◌, ℤ, pos, negsuc, zero, suc, int_lt}
use Rattle.rsx_types.specs.declared.signal.Signal.{Signal}
use Rattle.rsx_types.specs.declared.signal.Signal.TheVariants.{Next, Complete, Error}
use Rattle.rsx_types.specs.declared.signal.Cause.TheVariants.{NonPositiveRequest}
use Rattle.rsx_sources.specs.Counts.{ends_input}
use Rattle.rsx_link.specs.Ends.{Requests}
use Rattle.rsx_link.specs.Signals.{request_of}
use Rattle.rsx_link.specs.declared.view.Step.{Step}
use Rattle.rsx_runtime.specs.Ordered.{is_orderly, is_unended}
use Rattle.rsx_runtime.specs.Standing.{asks, gives, given_by, is_over, taken_state}
use Rattle.rsx_runtime.specs.declared.tap.Tapped.{Tapped}
use Rattle.rsx_runtime.specs.declared.tap.Tapped.TheVariants.{Open, Cancelled, Refused, Over}

pub giving_goes_on : (t : Tapped) → gives t ≡ true → is_over t ≡ false
giving_goes_on Open g = refl
giving_goes_on Cancelled g = refl
giving_goes_on Refused g = cc
giving_goes_on Over g = cc

pub asking_goes_on : (t : Tapped) → asks t ≡ true → is_over t ≡ false
asking_goes_on Open g = refl
asking_goes_on Cancelled g = cc
asking_goes_on Refused g = refl
asking_goes_on Over g = cc

-- what a request asks for
pub good_request : (z : ℤ) → int_lt (pos 0) z ≡ true → (items : ℕ) × (request_of z ≡ Some items)
good_request (pos zero) h = cc
good_request (pos (suc n)) h = (suc n, refl)
good_request (negsuc n) h = cc

never : (n : ℕ) → nat_lt 0 (suc n) ≡ false → ⊥
never n h = grind (arith, nat_tests, h)

pub bad_request : (z : ℤ) → int_lt (pos 0) z ≡ false → request_of z ≡ None
bad_request (pos zero) h = refl
bad_request (pos (suc n)) h = absurd (never n h)
bad_request (negsuc n) h = refl

module _ {T : Type 0} where
  pub unended_item : (ss : List (Signal T)) (x : T) → is_unended ss ≡ true → is_unended (ss ++ Next x ∷ []) ≡ true
  unended_item [] x h = refl
  unended_item (Next y ∷ ss) x h = unended_item ss x h
  unended_item (Complete ∷ ss) x h = cc
  unended_item (Error e ∷ ss) x h = cc

  -- any signal may follow where there is no ending
  pub orderly_then : (ss : List (Signal T)) (s : Signal T) → is_unended ss ≡ true → is_orderly (ss ++ s ∷ []) ≡ true
  orderly_then [] (Next x) h = refl
  orderly_then [] Complete h = refl
  orderly_then [] (Error e) h = refl
  orderly_then (Next y ∷ ss) s h = orderly_then ss s h
  orderly_then (Complete ∷ ss) s h = cc
  orderly_then (Error e ∷ ss) s h = cc

  pub nothing_behind : (ss : List (Signal T)) → ss ++ [] ≡ ss
  nothing_behind [] = refl
  nothing_behind (s ∷ ss) = ap (λ l. s ∷ l) (nothing_behind ss)

  -- ---- an item that was sent, or not

  pub sent_or_not : {A E : Type 0} (r : Result A E) (P Q : E → Type 0) (was now : List (Signal T)) (s : Signal T) → OnOk r (now ≡ was ++ s ∷ []) → IfErr r (λ e. P e × (now ≡ was) × Q e) → (now ≡ was ++ s ∷ []) ⊎ (now ≡ was)
  sent_or_not (Ok a) P Q was now s ok err = inl ok
  sent_or_not (Err e) P Q was now s ok err = inr err.1

  pub emitted_unended : (was now : List (Signal T)) (x : T) → (now ≡ was ++ Next x ∷ []) ⊎ (now ≡ was) → is_unended was ≡ true → is_unended now ≡ true
  emitted_unended was now x h k =
      let U : List (Signal T) → Type 0 = λ l. is_unended l ≡ true in
      elim h [ inl e ↦ subst U (sym e) (unended_item was x k) | inr e ↦ subst U (sym e) k ]

  pub emitted_orderly : (was now : List (Signal T)) (x : T) → (now ≡ was ++ Next x ∷ []) ⊎ (now ≡ was) → is_unended was ≡ true → is_orderly was ≡ true → is_orderly now ≡ true
  emitted_orderly was now x h k o =
      let U : List (Signal T) → Type 0 = λ l. is_orderly l ≡ true in
      elim h [ inl e ↦ subst U (sym e) (orderly_then was (Next x) k) | inr e ↦ subst U (sym e) o ]

  pub ended_orderly : (was now : List (Signal T)) (s : Signal T) → now ≡ was ++ s ∷ [] → is_unended was ≡ true → is_orderly now ≡ true
  ended_orderly was now s e k = let U : List (Signal T) → Type 0 = λ l. is_orderly l ≡ true in subst U (sym e) (orderly_then was s k)

  -- ---- a signal that a tap gave

  pub still_unended : (was now : List (Signal T)) (s : Signal T) (old : Tapped) → now ≡ was ++ s ∷ [] → is_unended was ≡ true → is_over (taken_state s old) ≡ false → is_unended now ≡ true
  still_unended was now (Next x) old e k g = let U : List (Signal T) → Type 0 = λ l. is_unended l ≡ true in subst U (sym e) (unended_item was x k)
  still_unended was now Complete old e k g = cc
  still_unended was now (Error c) old e k g = cc

  pub given_orderly : (was now : List (Signal T)) (s : Signal T) (error : Bool) → now ≡ was ++ s ∷ [] → is_unended was ≡ true → error ≡ false → is_orderly (given_by now error) ≡ true
  given_orderly was now s error e k none =
      let O : List (Signal T) → Type 0 = λ l. is_orderly l ≡ true in
      let same : given_by now error ≡ was ++ s ∷ [] = ap (given_by now) none ∙ (nothing_behind now ∙ e) in
      subst O (sym same) (orderly_then was s k)

  -- whether the last signal was an ending is whether there is one
  ends_all : (ss : List (Signal T)) (s : Signal T) → is_unended ss ≡ true → ends_input s ≡ not (is_unended (ss ++ s ∷ []))
  ends_all [] (Next x) h = refl
  ends_all [] Complete h = refl
  ends_all [] (Error e) h = refl
  ends_all (Next y ∷ ss) s h = ends_all ss s h
  ends_all (Complete ∷ ss) s h = cc
  ends_all (Error e ∷ ss) s h = cc

  pub told_now : (was now : List (Signal T)) (s : Signal T) → now ≡ was ++ s ∷ [] → is_unended was ≡ true → ends_input s ≡ not (is_unended now)
  told_now was now s e k = ends_all was s k ∙ ap (λ l. not (is_unended l)) (sym e)

  -- ---- a request

  -- a good one is answered by nothing
  pub good_answer : (items : ℕ) (o : Option ℕ) (old new : List Step) (answer : Option (Signal T)) → o ≡ Some items → Requests o old new answer → answer ≡ None
  good_answer items (Some k) old new answer is h = h.none
  good_answer items None old new answer is h = cc

  -- a bad one by its error, or by nothing
  pub bad_answer : (o : Option ℕ) (old new : List Step) (answer : Option (Signal T)) (s : Signal T) → o ≡ None → Requests o old new answer → answer ≡ Some s → s ≡ Error NonPositiveRequest
  bad_answer (Some k) old new answer s none h is = cc
  bad_answer None old new answer s none h is = by_test (nat_eq h.found 0) (sym h.answered ∙ is)
    where
      by_test : (c : Bool) → cond c (Some (Error NonPositiveRequest)) None ≡ Some s → s ≡ Error NonPositiveRequest
      by_test true e = cc
      by_test false e = cc

  pub given_same : (was now : List (Signal T)) (error : Bool) → now ≡ was → given_by now error ≡ given_by was error ++ []
  given_same was now error e = ap (λ l. given_by l error) e ∙ sym (nothing_behind (given_by was error))

  pub given_error : (was now : List (Signal T)) (error : Bool) (s : Signal T) → now ≡ was → error ≡ false → s ≡ Error NonPositiveRequest → given_by now true ≡ given_by was error ++ s ∷ []
  given_error was now error s e none is =
      ap (λ l. l ++ Error NonPositiveRequest ∷ []) e ∙ (ap (λ l. l ++ Error NonPositiveRequest ∷ []) (sym (ap (given_by was) none ∙ nothing_behind was)) ∙ ap (λ x. given_by was error ++ x ∷ []) (sym is))

  pub error_orderly : (was now : List (Signal T)) → now ≡ was → is_unended was ≡ true → is_orderly (given_by now true) ≡ true
  error_orderly was now e k = let O : List (Signal T) → Type 0 = λ l. is_orderly (given_by l true) ≡ true in subst O (sym e) (orderly_then was (Error NonPositiveRequest) k)
