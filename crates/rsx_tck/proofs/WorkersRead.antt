-- The workers of a trace that was read are those that `print_trace` takes.
use Rattle.std.proofs.Common.{ℕ, ◌≤◌, Bool, true, false, List, [], ◌∷◌, Result, Ok, Err, Vec, Global, arith}
use Rattle.std.specs.Prelude.{All, IfOk}
use Rattle.std.proofs.lemmas.List.Elements.{All-nil, All-cons}
use Rattle.rsx_tck.specs.declared.event.Stamped.{Stamped}
use Rattle.rsx_tck.specs.declared.refusal.TraceRefusal.{TraceRefusal}
use Rattle.rsx_tck.specs.Grammar.{IsLine, AreLines, IsTrace}

line_worker : (stamped : Bool) (line : List ℕ) (e : Stamped) → IsLine stamped line e → e.worker ≤ 15
line_worker false line e h = omega (arith, h.1)
line_worker true line e h = h.2.small

lines_workers : (stamped : Bool) (body : List (List ℕ)) (events : List Stamped) → AreLines stamped body events → All (λ e. e.worker ≤ 15) events
lines_workers stamped [] [] h = All-nil _
lines_workers stamped [] (e ∷ events) h = absurd h
lines_workers stamped (line ∷ body) [] h = absurd h
lines_workers stamped (line ∷ body) (e ∷ events) h = All-cons (λ x. x.worker ≤ 15) e events (line_worker stamped line e h.0) (lines_workers stamped body events h.1)

trace_workers : (text : List ℕ) (events : List Stamped) → IsTrace text events → All (λ e. e.worker ≤ 15) events
trace_workers text events h = lines_workers h.0 h.1 events h.3

pub read_workers : (text : List ℕ) (r : Result (Vec Stamped Global) TraceRefusal) → IfOk r (λ v. IsTrace text v.items) → IfOk r (λ v. All (λ e. e.worker ≤ 15) v.items)
read_workers text (Ok v) h = trace_workers text v.items h
read_workers text (Err e) h = tt
