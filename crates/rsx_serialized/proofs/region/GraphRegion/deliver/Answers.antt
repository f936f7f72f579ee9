use Rattle.std.proofs.Common.{◌≡◌, ◌∙◌, ap, length, refl, rules, deque_len, arith}
use Rattle.rsx_graph.specs.InGraph.{state_of}
use Rattle.rsx_serialized.proofs.Closes.{none_left}
use Rattle.rsx_serialized.proofs.Goes.{region_on}
use Rattle.rsx_serialized.proofs.Regions.{moves_on}
use Rattle.rsx_serialized.proofs.Resting.{and_right, delivers_all, neither, still_as, still_on}
use Rattle.rsx_serialized.proofs.Rounds.{either_busy}
use Rattle.rsx_serialized.proofs.region.GraphRegion.deliver.Goals as goal

pub returns-in_err-moved-clause-goes : goal.returns-in_err-moved-clause-goes
returns-in_err-moved-clause-goes g c = moves_on c.args.links.now c.args.self.now c.move_on.new.self c.requires c.move_on.ensures.goes c.move_on.ensures.same.0 c.move_on.ensures.same.1 c.move_on.ensures.same.2 c.move_on.ensures.same.3

pub returns-in_err-moved-clause-still : goal.returns-in_err-moved-clause-still
returns-in_err-moved-clause-still g c = still_as c.args.self.now.outlets.items c.move_on.new.self.outlets.items (ap (λ v. v.items) c.move_on.ensures.same.1)

pub send_out-sent-requires-after_bounds : goal.send_out-sent-requires-after_bounds
send_out-sent-requires-after_bounds g c κs within = (moves_on c.args.links.now c.args.self.now c.move_on.new.self c.requires c.move_on.ensures.goes c.move_on.ensures.same.0 c.move_on.ensures.same.1 c.move_on.ensures.same.2 c.move_on.ensures.same.3).0

pub returns-clause-goes : goal.returns-clause-goes
returns-clause-goes g c =
    let moved = moves_on c.args.links.now c.args.self.now c.move_on.new.self c.requires c.move_on.ensures.goes c.move_on.ensures.same.0 c.move_on.ensures.same.1 c.move_on.ensures.same.2 c.move_on.ensures.same.3 in
    region_on c.args.links.now c.args.self.now c.move_on.new.self c.send_out-sent.new.self moved c.send_out-sent.ensures.goes

pub returns-clause-idle : goal.returns-clause-idle
returns-clause-idle g c e =
    let both = neither _ _ e in
    let pending = c.args.self.now.pending in
    let all = pending.ok.0 in
    delivers_all _ _ c.args.self.now c.move_on.new.self c.send_out-sent.new.self
    (λ some. let none : deque_len pending ≡ 0 = search rules in none_left pending.items (length pending.items) refl (omega (arith, none, all)))
    (c.in_ok-moved.ensures.quiet both.0) (c.in_ok-moved.ensures.idle both.0) c.send_out-sent.ensures.none c.send_out-sent.ensures.held c.send_out-sent.ensures.same both.1

pub returns-clause-busy : goal.returns-clause-busy
returns-clause-busy g c e = either_busy _ _ c.args.self.now c.move_on.new.self c.send_out-sent.new.self c.in_ok-moved.ensures.busy (λ h. c.send_out-sent.ensures.busy (and_right _ _ h)) c.move_on.ensures.goes c.send_out-sent.ensures.goes.1 e

pub returns-clause-still : goal.returns-clause-still
returns-clause-still g c = still_on c.args.self.now.outlets.items c.move_on.new.self.outlets.items c.send_out-sent.new.self.outlets.items (still_as c.args.self.now.outlets.items c.move_on.new.self.outlets.items (ap (λ v. v.items) c.move_on.ensures.same.1)) c.send_out-sent.ensures.still

pub returns-clause-joins : goal.returns-clause-joins
returns-clause-joins g c = ap (λ x. (state_of x).joins) c.send_out-sent.ensures.same ∙ c.move_on.ensures.same.2
