use Rattle.std.proofs.Common.{◌≡◌, ◌∷◌, [], rules}
use Rattle.std.proofs.lemmas.Result.{IfOk-weaker}
use Rattle.rsx_types.specs.declared.signal.Signal.TheVariants.{Next}
use Rattle.rsx_merging.proofs.Copied.{owed_empty, owed_item}
use Rattle.rsx_merging.proofs.concat_node.ConcatNodeMachine.residual.Goals as goal

pub returns-in-Empty : goal.returns-in-Empty
returns-in-Empty g c =
    let n = c.args.self.now in
    IfOk-weaker c.left_behind.result _ _ (λ v h. owed_empty n.output n.endings.items c.args.incoming.now c.new.result.items v c.in-Empty.is c.new.ensures.items h) c.left_behind.ensures

pub returns-in_ok-push-in-Waiting-Next : goal.returns-in_ok-push-in-Waiting-Next
returns-in_ok-push-in-Waiting-Next g c =
    let n = c.args.self.now in
    let is : c.in-Waiting-Next.field-0 ≡ Next c.in-Waiting-Next.item = search rules in
    let one : c.push.new.self.items ≡ c.in_ok-first-in-Waiting-Next.first ∷ [] = search rules in
    IfOk-weaker c.left_behind-in-Waiting-Next.result _ _
    (λ v h. owed_item n.output c.in-Waiting-Next.field-0 c.in-Waiting-Next.item c.in_ok-first-in-Waiting-Next.first n.endings.items c.args.incoming.now c.push.new.self.items v c.in-Waiting-Next.is is c.in_ok-first-in-Waiting-Next.ensures.answer one h)
    c.left_behind-in-Waiting-Next.ensures
