use Rattle.std.proofs.Common.{subst}
use Rattle.rsx_tck.specs.Gives.{GivesTrace}
use Rattle.rsx_tck.proofs.Traces.{trace_again}
use Rattle.rsx_tck.proofs.Sound.{read_is_trace}
use Rattle.rsx_tck.proofs.WorkersRead.{read_workers}
use Rattle.rsx_tck.proofs.WrongLines.{place_is_read, refusal_names}
use Rattle.rsx_tck.proofs.read.parse_trace.Goals as goal

pub returns-clause-found : goal.returns-clause-found
returns-clause-found c = read_is_trace c.args.text.now c.trace_in.result c.trace_in.ensures

pub returns-clause-workers : goal.returns-clause-workers
returns-clause-workers c = read_workers c.args.text.now c.trace_in.result (read_is_trace c.args.text.now c.trace_in.result c.trace_in.ensures)

pub returns-clause-only : goal.returns-clause-only
returns-clause-only c = λ events h. subst (λ read. GivesTrace (λ v. v.items) c.trace_in.result read) (trace_again c.args.text.now events h) c.trace_in.ensures

pub returns-clause-place : goal.returns-clause-place
returns-clause-place c = refusal_names c.args.text.now c.trace_in.result c.trace_in.ensures

pub returns-clause-refused : goal.returns-clause-refused
returns-clause-refused c = λ place h. subst (λ read. GivesTrace (λ v. v.items) c.trace_in.result read) (place_is_read c.args.text.now place h) c.trace_in.ensures
