use Rattle.std.proofs.Common.{refl, ◌++◌, ◌∷◌, [], List, subst, sym}
use Rattle.rsx_runtime.specs.Resting.{AreRestsOn}
use Rattle.rsx_runtime.specs.declared.park.ParkRest.{ParkRest}
use Rattle.rsx_runtime.proofs.Rests.{moved_on, rests_pushed}
use Rattle.rsx_runtime.proofs.park.ParkRest.on.Goals as goal

pub loop-own-preserved : goal.loop-own-preserved
loop-own-preserved c =
    let h = c.loop-own.invariant in
    let unparkers = c.args.rouser.now.unparkers.items in
    let own = c.loop-own.yielded ++ c.in-Some.own ∷ [] in record {
      all = moved_on c.loop-own.yielded c.loop-own.own-iterator.rest.items c.next.new.self.rest.items c.args.parkers.items c.in-Some.own c.in-Some.ensures.steps.0 h.all;
      rests = subst (λ rests. AreRestsOn unparkers own rests) (sym {A = List ParkRest} c.in_ok-push.ensures.items) (rests_pushed unparkers c.loop-own.yielded c.loop-own.rests.items c.in-Some.own _ h.rests refl c.in_ok-another.ensures);
    }
