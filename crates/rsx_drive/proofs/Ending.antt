-- What is said of the whole input, where the last write failed, or nothing more is written.
use Rattle.std.proofs.Common.{◌≡◌, ℕ, List, [], ◌++◌, Option, Some, None, refl, sym, subst}
use Rattle.std.specs.Prelude.{IfSome}
use Rattle.std.proofs.lemmas.List.{append-nil}
use Rattle.std.proofs.KnownBytes.{Appends-trans}
use Rattle.rsx_script.specs.declared.fault.AppFault.{AppFault}
use Rattle.rsx_script.specs.declared.fault.AppFault.TheVariants.{Io}
use Rattle.rsx_script.specs.declared.words.LineRefusal.TheVariants.{NoMemory}
use Rattle.rsx_tck.specs.Texts.{lines}
use Rattle.rsx_drive.specs.Answered.{Begins, IsStopped, Refuses, Writes}
use Rattle.rsx_drive.proofs.Bytes.{cut_at_end, cut_at_last}

-- the whole input was answered, and the last answers were not all written
pub last_failed : (refuses : Refuses) (ends : List (List ℕ) → List ℕ → Type 0) (old a b c : Option (List ℕ)) (out : List ℕ) (fault : AppFault)
    → ((all : List (List ℕ)) (text : List ℕ) → ends all text → refuses all text [] NoMemory) → fault ≡ Io → Writes b c (λ part. Begins part out)
    → IfSome old (λ input. Writes a b (λ text. ends (lines input) (text ++ out))) → IfSome old (λ input. Writes a c (λ text. IsStopped refuses (lines input) text fault))
last_failed refuses ends None a b c out fault wanting is p w = tt
last_failed refuses ends (Some input) a b c out fault wanting is p w =
    let F : AppFault → Type 0 = λ f. IsStopped refuses (lines input) (w.0 ++ p.0) f in
    (w.0 ++ p.0, Appends-trans a b c w.0 p.0 w.1 p.1, subst F (sym is) (cut_at_end refuses (lines input) w.0 out p.0 p.2 (wanting (lines input) (w.0 ++ out) w.2)))

-- a run was stopped, and the last answers before it were not all written
pub stop_failed : (refuses : Refuses) (old a b c : Option (List ℕ)) (out : List ℕ) (fault failed : AppFault) → failed ≡ Io → Writes b c (λ part. Begins part out)
    → IfSome old (λ input. Writes a b (λ text. IsStopped refuses (lines input) (text ++ out) fault)) → IfSome old (λ input. Writes a c (λ text. IsStopped refuses (lines input) text failed))
stop_failed refuses None a b c out fault failed is p w = tt
stop_failed refuses (Some input) a b c out fault failed is p w =
    let F : AppFault → Type 0 = λ f. IsStopped refuses (lines input) (w.0 ++ p.0) f in
    (w.0 ++ p.0, Appends-trans a b c w.0 p.0 w.1 p.1, subst F (sym is) (cut_at_last refuses (lines input) w.0 out p.0 fault p.2 w.2))

-- a read or a write failed, and nothing more is written
pub stop_early : (refuses : Refuses) (old a b : Option (List ℕ)) (out : List ℕ) → IfSome old (λ input. Writes a b (λ text. IsStopped refuses (lines input) (text ++ out) Io)) → IfSome old (λ input. Writes a b (λ text. IsStopped refuses (lines input) text Io))
stop_early refuses None a b out w = tt
stop_early refuses (Some input) a b out w =
    let F : List ℕ → Type 0 = λ xs. IsStopped refuses (lines input) xs Io in
    (w.0, w.1, subst F (append-nil w.0) (cut_at_last refuses (lines input) w.0 out [] Io (out, refl) w.2))
