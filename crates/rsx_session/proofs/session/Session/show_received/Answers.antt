use Rattle.std.proofs.Common.{◌≡◌, ◌++◌, ℕ, List, codes, length}
use Rattle.rsx_session.specs.Prelude.{IsRest, ending_in, items_in, signals_text}
use Rattle.rsx_session.proofs.Looks.{passed_on, shown, subs_count}
use Rattle.rsx_session.proofs.session.Session.show_received.Goals as goal

pub returns-in_err-rest-clause-says : goal.returns-in_err-rest-clause-says
returns-in_err-rest-clause-says c = passed_on c.args.self.now (length c.args.self.now.graph.subscriptions.items) c.args.sub c.in_err-rest.field-0.0 c.from_residual-in_err-rest.result (λ place text past. (rest : List ℕ) × IsRest place c.args.sub past.state rest × (text ≡ codes "received" ++ (signals_text (items_in past.received) (ending_in past.received) ++ rest))) (subs_count c.args.self.now) c.in_err-rest.ensures.refused c.from_residual-in_err-rest.ensures

pub returns-clause-says : goal.returns-clause-says
returns-clause-says c = λ h s. shown c.args.self.now h s c.args.sub c.in_ok-record.record.now c.in_ok-rest.rest c.as_slice.result.now c.in_ok-record.ensures.found c.as_slice.ensures.value (c.in_ok-rest.ensures.says h s)
