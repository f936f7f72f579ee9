use Rattle.std.proofs.Common.{sym, ◌∙◌, arith}
use Rattle.rsx_rooted.proofs.Looks.{enabled_root, none_below, some_below}
use Rattle.rsx_rooted.proofs.rooted.Rooted.first_enabled.Goals as goal

pub returns-then-can_send_root-clause-some : goal.returns-then-can_send_root-clause-some
returns-then-can_send_root-clause-some g c = λ m. (omega arith, sym (c.if-can_send_root.ensures m))

pub returns-then-can_send_root-clause-none : goal.returns-then-can_send_root-clause-none
returns-then-can_send_root-clause-none g c = λ m. tt

pub returns-in-Some-clause-some : goal.returns-in-Some-clause-some
returns-in-Some-clause-some g c = λ m. enabled_root g.M.Machine m c.args.self.now (g.S.Sink.room c.args.out.now) c.in-Some.step c.in-Some.ensures.some

pub returns-in-Some-clause-none : goal.returns-in-Some-clause-none
returns-in-Some-clause-none g c = λ m. tt

pub returns-clause-some : goal.returns-clause-some
returns-clause-some g c = λ m. some_below g.M.Machine m c.args.self.now (g.S.Sink.room c.args.out.now) c.first_enabled.result (c.first_enabled.ensures.some m)

pub returns-clause-none : goal.returns-clause-none
returns-clause-none g c = λ m. none_below g.M.Machine m c.args.self.now (g.S.Sink.room c.args.out.now) c.first_enabled.result (sym (c.can_send_root.ensures m) ∙ c.if-can_send_root.false) c.in-None.ensures.none (c.first_enabled.ensures.none m)
