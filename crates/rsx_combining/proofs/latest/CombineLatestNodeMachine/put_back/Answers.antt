use Rattle.std.proofs.Common.{refl}
use Rattle.rsx_combining.specs.Latest.{LatestState}
use Rattle.rsx_combining.proofs.Comes.{put_back_is}
use Rattle.rsx_combining.proofs.latest.CombineLatestNodeMachine.put_back.Goals as goal

pub returns : goal.returns
returns g c = λ before h.
    let start : LatestState g.row.T.Denot = record { inputs = c.self.inside.inputs.items; latest = c.self.inside.latest; output = c.self.inside.output; choices = c.self.inside.choices } in
    let new : LatestState g.row.T.Denot = record { inputs = c.self.inside.inputs.items; latest = c.self.inside.latest; output = c.put_back.new.self; choices = c.self.inside.choices } in
    put_back_is start c.args.self.now before new c.args.signal c.self.view_is refl refl refl c.put_back.ensures h
