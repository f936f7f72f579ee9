-- The sentences that need a flag for each worker.
use Rattle.std.proofs.Common.{◌≡◌, ◌≢◌, ℕ, ◌<◌, inl, inr, Bool, true, false, not, ◌&&◌, ◌||◌, ◌==◌, List, [], ◌∷◌, ◌++◌, length, refl, sym, ap, ◌∙◌, subst, arith, IsTrue, get_or, set}
use Rattle.std.specs.Prelude.{◌↔◌}
use Rattle.std.proofs.lemmas.List.{get_or-set_same, get_or-set_other, length-set}
use Rattle.std.proofs.lemmas.Bool.{and_parts, and_from, cases_eq, eqb-true}
use Rattle.rsx_tck.specs.declared.event.Event.{Event}
use Rattle.rsx_tck.specs.declared.event.Stamped.{Stamped}
use Rattle.rsx_tck.specs.declared.pass.Effect.{Effect}
use Rattle.rsx_tck.specs.Events.{of, of_on, subscriber_of, is_ending, is_exit, is_request_or_cancel}
use Rattle.rsx_tck.specs.Sentences.{NoneUntil}
use Rattle.rsx_tck.specs.Passes.{Judges, is_breach, IsOpen, TellsWorkers, KnowsEndings}
use Rattle.rsx_tck.specs.Laws.Positions.{of-same, of-other, match_bool}
use Rattle.rsx_tck.specs.Laws.Running.{open-none, open-new, open-old, open-cases, none_until-none, none_until-more, none_until-stops, on-same, on-elsewhere, on-isnt}

-- one flag is written
pub tells_workers-more : (flags : List Bool) (O O' : ℕ → Type 0) (v : ℕ) (flag : Bool) → v < 256 → TellsWorkers flags O →
    (IsTrue flag ↔ O' v) → ((w : ℕ) → w ≢ v → O w ↔ O' w) → TellsWorkers (set flags v flag) O'
tells_workers-more flags O O' v flag lt (len, tells) here others = (
  length-set flags v flag ∙ len,
  (λ w below. elim (cases_eq w v) [
    | inl is ↦ (let read : get_or (set flags v flag) w false ≡ flag =
        ap (λ n. get_or (set flags v flag) n false) is ∙ get_or-set_same flags v flag false (omega arith) in (
          (λ h. subst O' (sym is) (here.0 (sym read ∙ h))),
          (λ o. read ∙ here.1 (subst O' is o)),
        ))
    | inr apart ↦ (let read = get_or-set_other flags v w flag false apart in (
      (λ h. (others w apart).0 ((tells w below).0 (sym read ∙ h))),
      (λ o. read ∙ (tells w below).1 ((others w apart).1 o)),
    ))
  ]),
)

pub tells_workers-same : (flags : List Bool) (O O' : ℕ → Type 0) → TellsWorkers flags O → ((w : ℕ) → O w ↔ O' w) → TellsWorkers flags O'
tells_workers-same flags O O' (len, tells) same = (
  len,
  (λ w below. ((λ h. (same w).0 ((tells w below).0 h)), (λ o. (tells w below).1 ((same w).1 o)))),
)

pub tells_workers-none : (flags : List Bool) (O : ℕ → Type 0) → length flags ≡ 256 →
    ((w : ℕ) → w < 256 → get_or flags w false ≡ false) → ((w : ℕ) → ¬ O w) → TellsWorkers flags O
tells_workers-none flags O len clear none = (
  len,
  (λ w below. ((λ h. absurd (let off = clear w below in cc)), (λ o. absurd (none w o)))),
)

-- a flag for one that is open
pub open_flag : (p x : Stamped → Bool) (t : List Stamped) (e : Stamped) (flag begins exits : Bool) → p e ≡ begins → x e ≡ exits →
    (IsTrue flag ↔ IsOpen p x t) → IsTrue (begins || (flag && not exits)) ↔ IsOpen p x (t ++ e ∷ [])
open_flag p x t e flag true exits h g tells = ((λ f. open-new p x t e h), (λ o. refl))
open_flag p x t e flag false true h g tells = (
  (λ f. absurd (let off = (and_parts flag false f).1 in cc)),
  (λ o. elim (open-cases p x t e o) [ inl new ↦ absurd (cc) | inr (old, ne) ↦ absurd (ne g) ]),
)
open_flag p x t e flag false false h g tells = (
  (λ f. open-old p x t e g (tells.0 (and_parts flag true f).0)),
  (λ o. elim (open-cases p x t e o) [
    | inl new ↦ absurd (cc)
    | inr (old, ne) ↦ and_from flag true (tells.1 old) refl
  ]),
)

pub open_elsewhere : (p x : Stamped → Bool) (t : List Stamped) (e : Stamped) → p e ≡ false → x e ≡ false →
    IsOpen p x t ↔ IsOpen p x (t ++ e ∷ [])
open_elsewhere p x t e h g = (
  open-old p x t e g,
  (λ o. elim (open-cases p x t e o) [ inl new ↦ absurd (cc) | inr (old, ne) ↦ old ]),
)

-- 2.3
abbrev pub QuietInEnding : ℕ → List Stamped → Type 0
QuietInEnding s t = (w : ℕ) → NoneUntil (of_on s w is_ending) (of_on s w is_exit) (of_on s w is_request_or_cancel) t

pub quiet-none : (s : ℕ) → QuietInEnding s []
quiet-none s w = none_until-none (of_on s w is_ending) (of_on s w is_exit) (of_on s w is_request_or_cancel)

pub quiet-other : (s : ℕ) (t : List Stamped) (e : Stamped) → subscriber_of e.event ≢ s → QuietInEnding s t → QuietInEnding s (t ++ e ∷ [])
quiet-other s t e ne keeps w =
    none_until-more (of_on s w is_ending) (of_on s w is_exit) (of_on s w is_request_or_cancel) t e (keeps w)
    (λ new. absurd (let isnt = on-isnt s w is_request_or_cancel e (of-other s is_request_or_cancel e ne) in cc))

pub knows_endings-none : (flags : List Bool) (s : ℕ) → length flags ≡ 256 → ((w : ℕ) → w < 256 → get_or flags w false ≡ false) →
    KnowsEndings flags s []
knows_endings-none flags s len clear =
    tells_workers-none flags (λ w. IsOpen (of_on s w is_ending) (of_on s w is_exit) []) len clear
    (λ w. open-none (of_on s w is_ending) (of_on s w is_exit))

pub knows_endings-other : (flags : List Bool) (s : ℕ) (t : List Stamped) (e : Stamped) → subscriber_of e.event ≢ s →
    KnowsEndings flags s t → KnowsEndings flags s (t ++ e ∷ [])
knows_endings-other flags s t e ne knows =
    tells_workers-same flags (λ w. IsOpen (of_on s w is_ending) (of_on s w is_exit) t)
    (λ w. IsOpen (of_on s w is_ending) (of_on s w is_exit) (t ++ e ∷ [])) knows
    (λ w. open_elsewhere (of_on s w is_ending) (of_on s w is_exit) t e
    (on-isnt s w is_ending e (of-other s is_ending e ne)) (on-isnt s w is_exit e (of-other s is_exit e ne)))

pub on-parts : (s w : ℕ) (kind : Event → Bool) (e : Stamped) → of_on s w kind e ≡ true → (e.worker ≡ w) × (of s kind e ≡ true)
on-parts s w kind e h =
    let both = and_parts (of s kind e) (e.worker == w) h in (eqb-true e.worker w both.1, both.0)

pub ending-step : (s : ℕ) (e : Stamped) (flags flags' : List Bool) (flag : Bool) (effect : Effect) → subscriber_of e.event ≡ s → e.worker < 256 →
    flag ≡ (is_ending e.event || (get_or flags e.worker false && not (is_exit e.event))) →
    flags' ≡ set flags e.worker flag →
    is_breach effect ≡ (get_or flags e.worker false && is_request_or_cancel e.event) →
    Judges (QuietInEnding s) (KnowsEndings flags s) (KnowsEndings flags' s) e effect
ending-step s e flags flags' flag effect same lt moves writes breach past knows keeps =
    match_bool (is_breach effect) _ _
    (λ h all. let both = and_parts (get_or flags e.worker false) (is_request_or_cancel e.event) (sym breach ∙ h) in
    none_until-stops (of_on s e.worker is_ending) (of_on s e.worker is_exit) (of_on s e.worker is_request_or_cancel) past e
    (on-same s e.worker is_request_or_cancel e same refl ∙ both.1)
    ((knows.1 e.worker lt).0 both.0)
    (all e.worker))
    (λ h. (
      subst (λ f. KnowsEndings f s (past ++ e ∷ [])) (sym writes)
          (tells_workers-more flags (λ w. IsOpen (of_on s w is_ending) (of_on s w is_exit) past)
          (λ w. IsOpen (of_on s w is_ending) (of_on s w is_exit) (past ++ e ∷ [])) e.worker flag lt knows
          (let tells = open_flag (of_on s e.worker is_ending) (of_on s e.worker is_exit) past e (get_or flags e.worker false)
          (is_ending e.event) (is_exit e.event)
          (on-same s e.worker is_ending e same refl) (on-same s e.worker is_exit e same refl) (knows.1 e.worker lt) in
          ((λ f. tells.0 (sym moves ∙ f)), (λ o. moves ∙ tells.1 o)))
          (λ w apart. open_elsewhere (of_on s w is_ending) (of_on s w is_exit) past e
          (on-elsewhere s w is_ending e (λ g. apart (sym g))) (on-elsewhere s w is_exit e (λ g. apart (sym g))))),
      (λ w. none_until-more (of_on s w is_ending) (of_on s w is_exit) (of_on s w is_request_or_cancel) past e (keeps w)
          (λ new running.
          let at = on-parts s w is_request_or_cancel e new in
          let flagged = (knows.1 w (subst (λ n. n < 256) at.0 lt)).1 running in
          let on_here : get_or flags e.worker false ≡ true = ap (λ n. get_or flags n false) at.0 ∙ flagged in
          let asked = sym (of-same s is_request_or_cancel e same) ∙ at.1 in
          absurd (let both = breach ∙ and_from (get_or flags e.worker false) (is_request_or_cancel e.event) on_here asked in cc))),
    ))
