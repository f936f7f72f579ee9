use Rattle.std.proofs.Common.{◌≡◌, ◌+◌, ◌≤◌, length, [], ◌∷◌, ◌++◌, ap, arith, rules, sym, ◌∙◌}
use Rattle.rsx_tree.specs.Edges.{edge_view}
use Rattle.rsx_rooted.specs.Items.{room}
use Rattle.rsx_rooted.proofs.Tries.{tried_beside, tried_over, tried_source}
use Rattle.rsx_rooted.proofs.chain.+try_batch.Goals as goal

pub try_batch-returns-in-Some-clause-tried : goal.try_batch-returns-in-Some-clause-tried
try_batch-returns-in-Some-clause-tried g t c = λ ok.
    let pushed : c.push.new.self.items ≡ c.args.batch.now.notes.items ++ c.in-Some.noted ∷ [] = search (rules, ok) in
    tried_source g.M.Machine g.M.Batches.went (g.O.Ops.meaning c.args.ops.now) 0 c.args.node.now c.args.inputs.now c.peek.new.items.items c.push.new.self.items c.in-Some.noted
    c.in-End.is c.in-Some.ensures.took c.in-Some.ensures.steps (pushed ∙ ap (λ l. l ++ c.in-Some.noted ∷ []) c.requires.notes) c.in-Some.ensures.popped

pub try_over-returns-in-Some-clause-tried : goal.try_over-returns-in-Some-clause-tried
try_over-returns-in-Some-clause-tried g t c = λ e.
    let up : c.in-Some.next ≡ c.args.input + 1 = search rules in
    tried_beside g.M.Machine g.M.Batches.went (g.O.Ops.meaning c.args.ops.now) c.args.input c.in-Some.next c.args.node.now c.args.row.now c.in-More.edge c.in-More.sender c.in-More.below c.in-More.beside c.deref.result.now c.try_over.new.batch.items.items c.try_over.new.batch.notes.items
    c.in-More.is c.deref.ensures (sym c.is_live.ensures ∙ c.if-not-is_live.true) up (c.try_over.ensures.tried e)

pub try_over-returns-in-Some-try_pass-clause-tried : goal.try_over-returns-in-Some-try_pass-clause-tried
try_over-returns-in-Some-try_pass-clause-tried g t c = λ ok.
    let pushed : c.push.new.self.items ≡ c.try_batch.new.batch.notes.items ++ c.in-Some-try_pass.noted ∷ [] = search (rules, ok) in
    let most = c.try_batch.ensures.most c.if-not-try_batch.false in
    let fewer = c.min-fewer.ensures in
    let here = c.room_over.ensures in
    let fits : length c.try_batch.new.batch.items.items ≤ room (edge_view c.in-More.edge) = omega (arith, most, fewer, here) in
    tried_over g.M.Machine g.M.Batches.went (g.O.Ops.meaning c.args.ops.now) c.args.input c.args.node.now c.args.row.now c.in-More.edge c.in-More.sender c.in-More.below c.in-More.beside c.deref-in-More.result.now c.try_batch.new.batch.items.items c.try_pass.new.items.items c.try_batch.new.batch.notes.items c.push.new.self.items c.in-Some-try_pass.noted
    c.in-More.is c.deref-in-More.ensures (sym c.is_live.ensures ∙ c.if-not-is_live.false) fits (c.try_batch.ensures.tried c.if-not-try_batch.false) pushed c.in-Some-try_pass.ensures.took c.in-Some-try_pass.ensures.steps c.in-Some-try_pass.ensures.passed
