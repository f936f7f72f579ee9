use Rattle.std.proofs.Common.{◌≡◌, ◌+◌, ◌-◌, ◌≤◌, length, arith, rules}
use Rattle.rsx_rooted.specs.Items.{room}
use Rattle.rsx_rooted.specs.Made.{moves_of}
use Rattle.rsx_tree.specs.Prelude.{edge_view}
use Rattle.rsx_rooted.proofs.ManyFetched.{fed_fetched, tried_fed}
use Rattle.rsx_rooted.proofs.rooted.Rooted.try_batch.Goals as goal

pub returns-clause-fed : goal.returns-clause-fed
returns-clause-fed g c new gone =
    let items = c.try_batch.new.batch.items.items in
    let notes = c.try_batch.new.batch.notes.items in
    let yes = c.if-not-try_batch.false in
    let most = c.try_batch.ensures.most yes in
    let fewer = c.min-fewer.ensures in
    let here = c.room_over.ensures in
    let spent = c.in_ok-behind.ensures.spent in
    let two = c.in_ok-behind.ensures.two in
    let many : c.len.result ≡ length items = search rules in
    let all : moves_of notes + length items + (c.in_ok-behind.behind - c.len.result) ≡ c.args.left = omega (arith, spent, two, many) in
    let fits : length items ≤ room (edge_view c.args.self.now.root) = omega (arith, most, fewer, here) in
    tried_fed g.M.Machine g.M.Batches.went (g.O.Ops.meaning c.args.ops.now) items notes c.args.left (c.in_ok-behind.behind - c.len.result) c.args.self.now new (c.try_batch.ensures.tried yes) all fits gone

pub returns-clause-fetched : goal.returns-clause-fetched
returns-clause-fetched g c new gone =
    let items = c.try_batch.new.batch.items.items in
    fed_fetched g.M.Machine (g.O.Ops.meaning c.args.ops.now) items c.args.left (c.in_ok-behind.behind - c.len.result) c.args.self.now new (returns-clause-fed g c new gone)
