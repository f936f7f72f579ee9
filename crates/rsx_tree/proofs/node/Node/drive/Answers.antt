use Rattle.std.proofs.Common.{◌≡◌, ◌+◌, ◌-◌, ◌∙◌, arith, false, true, refl, rules}
use Rattle.rsx_tree.proofs.Alike.{driven_alike}
use Rattle.rsx_tree.proofs.Drives.{tree_begun, tree_under_way, idle_after, none_left, shut_by, still_some, pass_same}
use Rattle.rsx_tree.proofs.node.Node.drive.Goals as goal

pub rounds-init : goal.rounds-init
rounds-init g c = (
  tree_begun g.M.Machine (g.O.Ops.meaning c.args.ops.now) true c.args.self.now c.args.asked c.args.sent c.args.budget,
  still_some false c.args.budget,
  λ none some. absurd (none_left c.args.budget none some),
)

pub returns-in-Err-clause-driven : goal.returns-in-Err-clause-driven
returns-in-Err-clause-driven g c =
    let k = c.in-Err.ensures.driven in
    let rest : k.0 + (c.rounds.left - k.0) ≡ c.rounds.left = let q = k.1 in omega (arith, q) in
    let u = tree_under_way g.M.Machine (g.O.Ops.meaning c.args.ops.now) true c.args.self.now c.args.asked c.args.sent c.args.budget c.rounds.left (c.rounds.left - k.0) k.0 false c.rounds.self.machine c.drive.new.receiver c.rounds.self.inputs c.drive.new.self c.drive.new.self
    c.rounds.invariant.0 rest k.2 refl in
    (u.count, let q = u.spent in omega (arith, q), u.run)

pub returns-in-Err-clause-chosen : goal.returns-in-Err-clause-chosen
returns-in-Err-clause-chosen g c =
    let k = c.in-Err.ensures.driven in
    let rest : k.0 + (c.rounds.left - k.0) ≡ c.rounds.left = let q = k.1 in omega (arith, q) in
    let u = tree_under_way g.M.Machine (g.O.Ops.meaning c.args.ops.now) true c.args.self.now c.args.asked c.args.sent c.args.budget c.rounds.left (c.rounds.left - k.0) k.0 false c.rounds.self.machine c.drive.new.receiver c.rounds.self.inputs c.drive.new.self c.drive.new.self
    c.rounds.invariant.0 rest k.2 refl in
    u.chosen

pub rounds-preserved : goal.rounds-preserved
rounds-preserved g c =
    let k = c.in-Ok.ensures.driven in
    let shut = shut_by c.in-Ok.pass.is_over c.drive.new.self c.drive.new.self c.close_if.new.self c.close_if.ensures.row refl in (
      tree_under_way g.M.Machine (g.O.Ops.meaning c.args.ops.now) true c.args.self.now c.args.asked c.args.sent c.args.budget c.rounds.left c.in-Ok.pass.left k.0 c.in-Ok.pass.is_over c.rounds.self.machine c.drive.new.receiver c.rounds.self.inputs c.drive.new.self c.close_if.new.self
          c.rounds.invariant.0 k.1 k.2 shut,
      still_some _ c.in-Ok.pass.left,
      λ e some.
          let same = pass_same c.in-Ok.pass.left c.rounds.left e some in
          let s = k.1 in
          let none : k.0 ≡ 0 = omega (arith, s, same) in
          idle_after g.M.Machine (g.O.Ops.meaning c.args.ops.now) true k.0 c.in-Ok.pass.is_over c.args.asked c.args.sent c.rounds.self.machine c.drive.new.receiver c.rounds.self.inputs c.drive.new.self c.close_if.new.self
          none k.2 shut (c.in-Ok.ensures.idle same (c.rounds.invariant.1 c.rounds-test.true)),
    )

pub returns-in-Err-clause-balance : goal.returns-in-Err-clause-balance
returns-in-Err-clause-balance g c =
    let k = c.in-Err.ensures.driven in
    let rest : k.0 + (c.rounds.left - k.0) ≡ c.rounds.left = let q = k.1 in omega (arith, q) in
    let u = tree_under_way g.M.Machine (g.O.Ops.meaning c.args.ops.now) true c.args.self.now c.args.asked c.args.sent c.args.budget c.rounds.left (c.rounds.left - k.0) k.0 false c.rounds.self.machine c.drive.new.receiver c.rounds.self.inputs c.drive.new.self c.drive.new.self
    c.rounds.invariant.0 rest k.2 refl in
    u.balance

pub returns-in-Err-clause-memory : goal.returns-in-Err-clause-memory
returns-in-Err-clause-memory g c = λ free.
    let a = g.O.Ops.allocates c.args.ops.now in
    let u = c.rounds.invariant.0 in
    c.in-Err.ensures.memory ((driven_alike g.M.Machine (g.O.Ops.meaning c.args.ops.now) true u.count c.args.self.now c.args.asked c.args.sent c.rounds.self u.run).0 a ∙ free)

pub returns-in-Err-clause-alike : goal.returns-in-Err-clause-alike
returns-in-Err-clause-alike g c =
    let k = c.in-Err.ensures.driven in
    let rest : k.0 + (c.rounds.left - k.0) ≡ c.rounds.left = let q = k.1 in omega (arith, q) in
    let u = tree_under_way g.M.Machine (g.O.Ops.meaning c.args.ops.now) true c.args.self.now c.args.asked c.args.sent c.args.budget c.rounds.left (c.rounds.left - k.0) k.0 false c.rounds.self.machine c.drive.new.receiver c.rounds.self.inputs c.drive.new.self c.drive.new.self
    c.rounds.invariant.0 rest k.2 refl in
    driven_alike g.M.Machine (g.O.Ops.meaning c.args.ops.now) true u.count c.args.self.now c.args.asked c.args.sent _ u.run

pub returns-clause-alike : goal.returns-clause-alike
returns-clause-alike g c =
    let u = c.rounds.invariant.0 in
    driven_alike g.M.Machine (g.O.Ops.meaning c.args.ops.now) true u.count c.args.self.now c.args.asked c.args.sent c.rounds.self u.run

pub returns-clause-memory : goal.returns-clause-memory
returns-clause-memory g c = search rules
