use Rattle.std.proofs.Common.{◌≡◌, ◌+◌, ◌-◌, refl, arith, rules}
use Rattle.rsx_rooted.specs.Rooted.{no_room}
use Rattle.rsx_rooted.proofs.Fetches.{fetched_nothing, fetched_still}
use Rattle.rsx_rooted.proofs.Parts.{pumped_made}
use Rattle.rsx_pipe.proofs.ahead.make_ahead.Goals as goal

pub returns-in-Ok-clause-made : goal.returns-in-Ok-clause-made
returns-in-Ok-clause-made g c =
    let m = g.O.Ops.meaning c.args.ops.now in
    let made = c.in-Ok.ensures.made in
    let some = c.if-left-eq0.false in
    let one : 1 + (c.args.left.now - 1) ≡ c.args.left.now = search (arith, rules) in
    (1, one, pumped_made g.M.Machine no_room m c.in-Some.step c.args.tree.now c.make.new.self tt tt c.in-Ok.ensures.enabled (made.0, made.1, made.2))

pub returns-then-left-eq0-clause-made : goal.returns-then-left-eq0-clause-made
returns-then-left-eq0-clause-made g c = fetched_nothing g.M.Machine (g.O.Ops.meaning c.args.ops.now) c.args.left.now c.args.tree.now

pub returns-in-None-clause-made : goal.returns-in-None-clause-made
returns-in-None-clause-made g c = fetched_nothing g.M.Machine (g.O.Ops.meaning c.args.ops.now) c.args.left.now c.args.tree.now

pub returns-in-Err-clause-made : goal.returns-in-Err-clause-made
returns-in-Err-clause-made g c = fetched_still g.M.Machine (g.O.Ops.meaning c.args.ops.now) c.args.left.now c.args.left.now c.args.tree.now c.args.tree.now c.make.new.self refl refl c.in-Err.ensures.same.0
