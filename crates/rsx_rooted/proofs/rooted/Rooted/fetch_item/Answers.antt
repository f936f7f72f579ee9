use Rattle.std.proofs.Common.{◌≡◌, ◌+◌, ◌-◌, None, subst, sym, ◌∙◌, arith}
use Rattle.rsx_rooted.specs.Fetched.{IsFetched}
use Rattle.rsx_tree.specs.declared.node.Node.{Node}
use Rattle.rsx_rooted.proofs.Fetches.{fetched_item, fetched_none, fetched_nothing}
use Rattle.rsx_rooted.proofs.rooted.Rooted.fetch_item.Goals as goal

pub returns-in-None : goal.returns-in-None
returns-in-None g c = fetched_none g.M.Machine (g.O.Ops.meaning c.args.ops.now) c.args.left.now c.fetch.new.left c.args.self.now c.fetch.new.self c.in-None.ensures

pub returns-then-left-eq0 : goal.returns-then-left-eq0
returns-then-left-eq0 g c =
    let m = g.O.Ops.meaning c.args.ops.now in
    let e = c.in-Some.ensures in
    let back : c.put_back.new.self ≡ e.0 = c.put_back.ensures e.0 e.2.popped in
    let Q : Node _ → Type 0 = λ t. IsFetched g.M.Machine m c.args.left.now c.args.self.now None c.fetch.new.left (record { tree = t; root = c.args.self.now.root }) in
    subst Q (sym back) (fetched_none g.M.Machine m c.args.left.now c.fetch.new.left c.args.self.now e.0 e.1)

pub returns : goal.returns
returns g c =
    let e = c.in-Some.ensures in
    let one : (c.fetch.new.left - 1) + 1 ≡ c.fetch.new.left = let h = c.if-left-eq0.false in omega (arith, h) in
    fetched_item g.M.Machine (g.O.Ops.meaning c.args.ops.now) c.args.left.now c.fetch.new.left (c.fetch.new.left - 1) c.args.self.now (record { tree = c.fetch.new.self; root = c.carry.new.self }) e.0 c.in-Some.item e.1 one e.2
    (sym c.can_carry.ensures ∙ c.if-not-can_carry.false) c.carry.ensures

pub returns-then-not-can_carry : goal.returns-then-not-can_carry
returns-then-not-can_carry g c = fetched_nothing g.M.Machine (g.O.Ops.meaning c.args.ops.now) c.args.left.now c.args.self.now
