use Rattle.std.proofs.Common.{ap}
use Rattle.rsx_serialized.proofs.Goes.{region_on}
use Rattle.rsx_serialized.proofs.Resting.{at_rest, neither, seen_then, still_as}
use Rattle.rsx_serialized.proofs.Rounds.{either_busy, then_busy}
use Rattle.rsx_serialized.proofs.region.GraphRegion.round.Goals as goal

pub returns-in_err-more-clause-goes : goal.returns-in_err-more-clause-goes
returns-in_err-more-clause-goes g c =
    let first = region_on c.args.links.now c.args.self.now c.look.new.self c.take_in.new.self c.look.ensures.goes c.take_in.ensures.goes in
    region_on c.args.links.now c.args.self.now c.take_in.new.self c.deliver.new.self first c.deliver.ensures.goes

pub returns-in_err-more-clause-looked : goal.returns-in_err-more-clause-looked
returns-in_err-more-clause-looked g c =
    let first = seen_then c.args.self.now c.look.new.self c.take_in.new.self c.look.ensures.looked c.take_in.ensures.goes.1 c.take_in.ensures.aside.2 (still_as c.look.new.self.outlets.items c.take_in.new.self.outlets.items (ap (λ v. v.items) c.take_in.ensures.aside.1)) in
    seen_then c.args.self.now c.take_in.new.self c.deliver.new.self first c.deliver.ensures.goes.1 c.deliver.ensures.joins c.deliver.ensures.still

pub returns-clause-goes : goal.returns-clause-goes
returns-clause-goes g c =
    let first = region_on c.args.links.now c.args.self.now c.look.new.self c.take_in.new.self c.look.ensures.goes c.take_in.ensures.goes in
    let second = region_on c.args.links.now c.args.self.now c.take_in.new.self c.deliver.new.self first c.deliver.ensures.goes in
    region_on c.args.links.now c.args.self.now c.deliver.new.self c.take_in-taken.new.self second c.take_in-taken.ensures.goes

pub returns-clause-looked : goal.returns-clause-looked
returns-clause-looked g c =
    let first = seen_then c.args.self.now c.look.new.self c.take_in.new.self c.look.ensures.looked c.take_in.ensures.goes.1 c.take_in.ensures.aside.2 (still_as c.look.new.self.outlets.items c.take_in.new.self.outlets.items (ap (λ v. v.items) c.take_in.ensures.aside.1)) in
    let second = seen_then c.args.self.now c.take_in.new.self c.deliver.new.self first c.deliver.ensures.goes.1 c.deliver.ensures.joins c.deliver.ensures.still in
    seen_then c.args.self.now c.deliver.new.self c.take_in-taken.new.self second c.take_in-taken.ensures.goes.1 c.take_in-taken.ensures.aside.2 (still_as c.deliver.new.self.outlets.items c.take_in-taken.new.self.outlets.items (ap (λ v. v.items) c.take_in-taken.ensures.aside.1))

pub returns-clause-idle : goal.returns-clause-idle
returns-clause-idle g c e =
    let both = neither _ _ e in
    at_rest c.deliver.new.self c.take_in-taken.new.self (c.in_ok-more.ensures.idle both.0) (c.take_in-taken.ensures.none both.1) c.take_in-taken.ensures.goes.1.1.ops c.take_in-taken.ensures.aside.0 c.take_in-taken.ensures.aside.1

pub returns-clause-busy : goal.returns-clause-busy
returns-clause-busy g c e =
    let first = region_on c.args.links.now c.args.self.now c.look.new.self c.take_in.new.self c.look.ensures.goes c.take_in.ensures.goes in
    then_busy c.args.self.now c.take_in.new.self c.take_in-taken.new.self first.1
    (either_busy _ _ c.take_in.new.self c.deliver.new.self c.take_in-taken.new.self c.in_ok-more.ensures.busy c.take_in-taken.ensures.busy c.deliver.ensures.goes.1 c.take_in-taken.ensures.goes.1 e)
