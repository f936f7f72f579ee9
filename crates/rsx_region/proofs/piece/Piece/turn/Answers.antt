use Rattle.std.proofs.Common.{◌≡◌, ◌+◌, refl, sym, ◌∙◌, arith}
use Rattle.rsx_region.proofs.Rests.{rests}
use Rattle.rsx_region.proofs.Runs.{goes_as, goes_then, goes_three, none_plus}
use Rattle.rsx_region.proofs.Seen.{turn_seen}
use Rattle.rsx_region.proofs.piece.Piece.turn.Goals as goal

pub returns-in-Idle-clause-run : goal.returns-in-Idle-clause-run
returns-in-Idle-clause-run g c =
    let m = g.O.Ops.meaning c.args.ops.now in
    let n = c.pop_each-popped.result.pops in
    let k = c.move_on-rest.result.moves in
    let first = goes_three g.N.Machine m c.args.links.now n c.args.self.now c.look.new.self c.ask_each.new.self c.pop_each-popped.new.self (c.look.ensures.run m) (c.ask_each.ensures.run m) (c.pop_each-popped.ensures.run m) in
    goes_then g.N.Machine m c.args.links.now 0 n k c.move_on-rest.result.pops c.outcome.result.moves c.outcome.result.pops c.args.self.now c.pop_each-popped.new.self c.move_on-rest.new.self (none_plus k c.outcome.result.moves c.outcome.ensures.1) (sym c.outcome.ensures.2) first c.move_on-rest.ensures.run

pub returns-in-Idle-clause-idle : goal.returns-in-Idle-clause-idle
returns-in-Idle-clause-idle g c e none =
    let m = g.O.Ops.meaning c.args.ops.now in
    let moves = c.outcome.ensures.1 in
    let pops = c.outcome.ensures.2 in
    let no_pops : c.pop_each-popped.result.pops ≡ 0 = omega (arith, none, moves, pops) in
    let none_after : c.move_on-rest.result.moves + c.move_on-rest.result.pops ≡ 0 = omega (arith, none, moves, pops) in
    rests g.N.Machine m c.ask_each.new.self c.pop_each-popped.new.self c.move_on-rest.new.self c.ask_each.ensures.asked (c.pop_each-popped.ensures.idle c.in-Idle.is no_pops) (c.move_on-rest.ensures.idle (sym c.outcome.ensures.0 ∙ e) none_after)

pub returns-in-Idle-clause-seen : goal.returns-in-Idle-clause-seen
returns-in-Idle-clause-seen g c e none live =
    let m = g.O.Ops.meaning c.args.ops.now in
    let moves = c.outcome.ensures.1 in
    let pops = c.outcome.ensures.2 in
    let no_pops : c.pop_each-popped.result.pops ≡ 0 = omega (arith, none, moves, pops) in
    let none_after : c.move_on-rest.result.moves + c.move_on-rest.result.pops ≡ 0 = omega (arith, none, moves, pops) in
    turn_seen g.N.Machine m c.args.self.now c.look.new.self c.ask_each.new.self c.pop_each-popped.new.self c.move_on-rest.new.self (c.look.ensures.seen m) c.ask_each.ensures.same.0 c.ask_each.ensures.same.1 (c.pop_each-popped.ensures.idle c.in-Idle.is no_pops) (c.move_on-rest.ensures.idle (sym c.outcome.ensures.0 ∙ e) none_after) live

pub returns-in-Idle-clause-stands : goal.returns-in-Idle-clause-stands
returns-in-Idle-clause-stands g c hubs opening h =
    let m = g.O.Ops.meaning c.args.ops.now in
    c.move_on-rest.ensures.stands hubs opening (c.pop_each-popped.ensures.stands m hubs opening (c.ask_each.ensures.stands m hubs opening (c.look.ensures.stands m hubs opening h)))

pub returns-in-Budget : goal.returns-in-Budget
returns-in-Budget g c =
    let m = g.O.Ops.meaning c.args.ops.now in
    let n = c.pop_each-popped.result.pops in
    let p = c.pop_each-popped.ensures in
    let no_moves = p.moves in
    let most = p.most in
    let first = goes_three g.N.Machine m c.args.links.now n c.args.self.now c.look.new.self c.ask_each.new.self c.pop_each-popped.new.self (c.look.ensures.run m) (c.ask_each.ensures.run m) (p.run m) in record {
      ends = p.ends;
      run = goes_as g.N.Machine m c.args.links.now 0 n c.pop_each-popped.result.moves n c.args.self.now c.pop_each-popped.new.self (sym p.moves) refl first;
      most = omega (arith, no_moves, most);
      budget = λ e. let all = p.budget e in omega (arith, no_moves, all);
      idle = λ e none. let is = c.in-Budget.is in cc;
      seen = λ e none live. let is = c.in-Budget.is in cc;
      stands = λ j opening h. p.stands m j opening (c.ask_each.ensures.stands m j opening (c.look.ensures.stands m j opening h));
    }

pub returns-in-NoMemory : goal.returns-in-NoMemory
returns-in-NoMemory g c =
    let m = g.O.Ops.meaning c.args.ops.now in
    let n = c.pop_each-popped.result.pops in
    let p = c.pop_each-popped.ensures in
    let no_moves = p.moves in
    let most = p.most in
    let first = goes_three g.N.Machine m c.args.links.now n c.args.self.now c.look.new.self c.ask_each.new.self c.pop_each-popped.new.self (c.look.ensures.run m) (c.ask_each.ensures.run m) (p.run m) in record {
      ends = p.ends;
      run = goes_as g.N.Machine m c.args.links.now 0 n c.pop_each-popped.result.moves n c.args.self.now c.pop_each-popped.new.self (sym p.moves) refl first;
      most = omega (arith, no_moves, most);
      budget = λ e. let is = c.in-NoMemory.is in cc;
      idle = λ e none. let is = c.in-NoMemory.is in cc;
      seen = λ e none live. let is = c.in-NoMemory.is in cc;
      stands = λ j opening h. p.stands m j opening (c.ask_each.ensures.stands m j opening (c.look.ensures.stands m j opening h));
    }
