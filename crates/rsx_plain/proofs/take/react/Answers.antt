use Rattle.std.proofs.Common.{◌∷◌, [], ◌++◌, ap, ◌∙◌, rules}
use Rattle.rsx_types.specs.declared.signal.Signal.TheVariants.{Next, Complete}
use Rattle.rsx_plain.proofs.Taken.{last_taken, next_taken}
use Rattle.rsx_plain.proofs.take.react.Goals as goal

pub returns-then-fewer-eq0-clause-ok : goal.returns-then-fewer-eq0-clause-ok
returns-then-fewer-eq0-clause-ok g c =
    last_taken c.args.left.now c.args.item c.put-then-fewer-eq0.new.self c.requires.some c.if-fewer-eq0.true
    (c.put-then-fewer-eq0.ensures ∙ ap (λ l. l ++ Complete ∷ []) (c.put.ensures ∙ ap (λ l. l ++ Next c.args.item ∷ []) c.requires.none))

pub returns-else-fewer-eq0-clause-ok : goal.returns-else-fewer-eq0-clause-ok
returns-else-fewer-eq0-clause-ok g c = next_taken c.args.left.now c.args.item c.put.new.self c.requires.some (c.put.ensures ∙ ap (λ l. l ++ Next c.args.item ∷ []) c.requires.none)

pub returns-else-fewer-eq0-clause-over : goal.returns-else-fewer-eq0-clause-over
returns-else-fewer-eq0-clause-over g c = search rules
