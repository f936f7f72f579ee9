use Rattle.std.proofs.Common.{subst, sym}
use Rattle.rsx_serialized.specs.Regions.{AreInletsOf}
use Rattle.rsx_serialized.specs.declared.region.Links.{Links}
use Rattle.test_random.specs.Ends.{AreTapsOf}
use Rattle.test_random.proofs.Rests.{own_inlets, own_taps}
use Rattle.test_random.proofs.threaded.worked.Goals as goal

pub work_of-work-requires-clause-emitters : goal.work_of-work-requires-clause-emitters
work_of-work-requires-clause-emitters g c = rw c.links.ensures c.requires.emitters.ends

pub work_of-work-requires-clause-taps : goal.work_of-work-requires-clause-taps
work_of-work-requires-clause-taps g c = own_taps c.links.result.now.taps.items c.args.started.taps.items (rw c.links.ensures c.requires.taps)

pub returns : goal.returns
returns g c =
    let r = c.stop-region.result in
    let ts = c.in_ok-sent.field-0.taken.taps.items in
    let over = sym c.stop-region.ensures.links in
    let taps = rw c.in_ok-sent.was at c.work_on-seat.ensures.taps in
    record {
      inlets = own_inlets r.1.emitters.items r.0.inlets.items (subst (λ (l : Links _). AreInletsOf l.emitters.items r.0.inlets.items) over c.stop-region.ensures.stopped.ends.inlets);
      taps = subst (λ (l : Links _). AreTapsOf l.taps.items ts) over taps;
    }
