use Rattle.rsx_gate.proofs.Closing.{closes, all_closed}
use Rattle.rsx_gate.proofs.gate.Gate.close.Goals as goal

pub returns-then-word-eq0-clause-ok : goal.returns-then-word-eq0-clause-ok
returns-then-word-eq0-clause-ok g c = let e = c.close_with-closed.ensures.values in
    closes (g.T.Kept.fits c.args.self.table.shared.key) c.args.self.table.shared.key _ _ _ _ _ _ e.2 c.word-word.ensures c.if-word-eq0.true c.take-value.ensures.value

pub returns-else-word-eq0-clause-all : goal.returns-else-word-eq0-clause-all
returns-else-word-eq0-clause-all g c = λ all. let e = c.close_with-closed.ensures.values in
    absurd (c.if-word-eq0.false (all_closed (g.T.Kept.fits c.args.self.table.shared.key) c.args.self.table.shared.key _ _ _ _ _ e.2 all c.requires.4 c.word-word.ensures))
