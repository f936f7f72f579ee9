use Rattle.std.proofs.Common.{◌≤◌, length, refl, sym, ◌∙◌, arith}
use Rattle.rsx_pipe.specs.Published.{reader_edge}
use Rattle.rsx_region.specs.Serving.{IsPassedOn}
use Rattle.rsx_region.specs.declared.piece.Incoming.{Incoming}
use Rattle.rsx_region.proofs.Rests.{before_all, passed_count, passed_more}
use Rattle.rsx_region.proofs.Runs.{goes_then}
use Rattle.rsx_region.proofs.piece.Piece.ask_each.Goals as goal

pub loop-at-preserved : goal.loop-at-preserved
loop-at-preserved g c =
    let i = c.loop-at.invariant in
    let s = c.ask_at.ensures in record {
      ends = s.ends;
      run = λ m. goes_then g.N.Machine m c.args.links.now 0 0 0 0 0 0 c.args.self.now c.loop-at.self c.ask_at.new.self refl refl (i.run m) (s.run m);
      stands = λ m hubs opening h. s.stands m hubs opening (i.stands m hubs opening h);
      part = s.asked.part ∙ i.part;
      up = s.asked.up ∙ i.up;
      count = i.count ∙ sym (passed_count g.N.Machine c.loop-at.self c.ask_at.new.self c.loop-at.at s.asked);
      passed = passed_more g.N.Machine c.loop-at.self c.ask_at.new.self c.loop-at.at s.asked i.passed;
    }

pub returns-clause-asked : goal.returns-clause-asked
returns-clause-asked g c =
    let count = c.loop-at.invariant.count in
    let done : length c.loop-at.self.inlets.items ≤ c.loop-at.at = omega (arith, count, c.loop-at-test.false) in
    before_all (λ (i : Incoming g.row.T.Denot). IsPassedOn (reader_edge g.N.Machine i.inlet.hub c.loop-at.self.part) i.inlet) c.loop-at.self.inlets.items c.loop-at.at done c.loop-at.invariant.passed
