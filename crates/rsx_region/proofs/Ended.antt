-- The ending among signals that were taken from a link.
use Rattle.std.proofs.Common.{◌≡◌, List, [], ◌∷◌, ◌++◌, Option, Some, None, refl, ap, sym, ◌∙◌, subst}
use Rattle.rsx_sources.specs.Prelude.{Complete, Done, Ending, Error, Failed, Next, Signal}
use Rattle.rsx_rooted.specs.Cutting.{endings}
use Rattle.rsx_pipe.specs.Output.{IsUnended}
use Rattle.rsx_region.specs.Endings.{first_ending}

-- ---- one signal more

abbrev pub ending_in : {T : Type 0} → Signal T → Option Ending
ending_in (Next x) = None
ending_in Complete = Some Done
ending_in (Error c) = Some (Failed c)

first_none : {T : Type 0} (ss : List (Signal T)) (s : Signal T) → first_ending ss ≡ None → first_ending (ss ++ s ∷ []) ≡ ending_in s
first_none [] (Next x) h = refl
first_none [] Complete h = refl
first_none [] (Error c) h = refl
first_none (Next y ∷ ss) s h = first_none ss s h
first_none (Complete ∷ ss) s h = cc
first_none (Error c ∷ ss) s h = cc

first_some : {T : Type 0} (ss : List (Signal T)) (s : Signal T) (e : Ending) → first_ending ss ≡ Some e → first_ending (ss ++ s ∷ []) ≡ Some e
first_some [] s e h = cc
first_some (Next y ∷ ss) s e h = first_some ss s e h
first_some (Complete ∷ ss) s e h = h
first_some (Error c ∷ ss) s e h = h

-- an ending that is known goes on, and else this signal is the first
pub ended_still : {T : Type 0} (ss : List (Signal T)) (s : Signal T) (e : Option Ending) (k : Ending) → e ≡ Some k → e ≡ first_ending ss → Some k ≡ first_ending (ss ++ s ∷ [])
ended_still ss s e k some known = sym (first_some ss s k (sym known ∙ some))

pub ended_now : {T : Type 0} (ss : List (Signal T)) (s t : Signal T) (e : Option Ending) → e ≡ None → s ≡ t → e ≡ first_ending ss → ending_in t ≡ first_ending (ss ++ s ∷ [])
ended_now ss s t e none is known = ap ending_in (sym is) ∙ sym (first_none ss s (sym known ∙ none))

-- an item ends nothing
pub ended_item : {T : Type 0} (ss : List (Signal T)) (s : Signal T) (x : T) (e : Option Ending) → s ≡ Next x → e ≡ first_ending ss → e ≡ first_ending (ss ++ s ∷ [])
ended_item {T} ss s x e is known =
    let P : Signal T → Type 0 = λ t. e ≡ first_ending (ss ++ t ∷ []) in
    subst P (sym is) (known ∙ sym (same ss x))
  where
    same : (ss : List (Signal T)) (x : T) → first_ending (ss ++ Next x ∷ []) ≡ first_ending ss
    same [] x = refl
    same (Next y ∷ ss) x = same ss x
    same (Complete ∷ ss) x = refl
    same (Error c ∷ ss) x = refl

-- ---- what it says of the signals

pub none_ended : {T : Type 0} (ss : List (Signal T)) → first_ending ss ≡ None → IsUnended ss
none_ended [] h = tt
none_ended (Next x ∷ ss) h = none_ended ss h
none_ended (Complete ∷ ss) h = cc
none_ended (Error c ∷ ss) h = cc

-- the first ending, with what stands before and after it
pub record IsEndedAt {T : Type 0} (e : Ending) (ss : List (Signal T)) : Type 0 where
  pub before : List (Signal T)
  pub signal : Signal T
  pub after : List (Signal T)
  pub all : ss ≡ before ++ signal ∷ after
  pub ending : endings e ≡ signal ∷ []

pub ended_at : {T : Type 0} (e : Ending) (ss : List (Signal T)) → first_ending ss ≡ Some e → IsEndedAt e ss
ended_at e [] h = cc
ended_at e (Next x ∷ ss) h = let k = ended_at e ss h in record { before = Next x ∷ k.before; signal = k.signal; after = k.after; all = ap (λ l. Next x ∷ l) k.all; ending = k.ending }
ended_at {T} e (Complete ∷ ss) h =
    let same : Done ≡ e = let s = h in cc in
    record { before = []; signal = Complete; after = ss; all = refl; ending = ap (λ k. endings {T = T} k) (sym same) }
ended_at {T} e (Error c ∷ ss) h =
    let same : Failed c ≡ e = let s = h in cc in
    record { before = []; signal = Error c; after = ss; all = refl; ending = ap (λ k. endings {T = T} k) (sym same) }
