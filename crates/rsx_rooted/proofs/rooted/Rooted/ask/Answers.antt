use Rattle.std.proofs.Common.{arith, refl}
use Rattle.rsx_tree.specs.declared.look.NodeMove.TheVariants.{Ask}
use Rattle.rsx_tree.proofs.Noted.{kept_chosen}
use Rattle.rsx_rooted.proofs.Parts.{asked_below_root, made_inside}
use Rattle.rsx_rooted.proofs.Trees.{ask_not_closed}
use Rattle.rsx_rooted.proofs.rooted.Rooted.ask.Goals as goal

pub returns-in-Ok-clause-made : goal.returns-in-Ok-clause-made
returns-in-Ok-clause-made g c = λ m.
    let old = c.args.self.now in
    let some = c.if-at-eq0.false in
    made_inside g.M.Machine m (Ask c.args.at) old (record { tree = c.ask.new.self; root = old.root }) (refl, asked_below_root g.M.Machine old c.ask.new.self c.args.at (omega (arith, some)) c.in-Ok.ensures.effect)
    (kept_chosen g.M.Machine m old.tree c.ask.new.self (c.in-Ok.ensures.kept m)) c.in-Ok.ensures.balance
    (λ closed _. ask_not_closed g.M.Machine old.tree _ old.root.demand.asked old.root.demand.sent c.in-Ok.ensures.ok closed)
    refl c.ask.ensures.alike
