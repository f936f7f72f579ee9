use Rattle.std.proofs.Common.{refl, rules, subst}
use Rattle.rsx_live_parts.specs.Outgoing.{MayGoOut}
use Rattle.rsx_live_parts.specs.declared.kept.Kept.TheVariants.{Away}
use Rattle.rsx_live_parts.proofs.Sending.{goes_parted, here_parted}
use Rattle.rsx_live_parts.proofs.Staying.{stay_away, stay_here, whole_else}
use Rattle.rsx_live_parts.proofs.kept.Parted.add.Goals as goal
use Rattle.rsx_live_parts.proofs.kept.Parted.add.Goals.{in-NoMemory, in_default-matches}

pub returns-in_default-clause-parted : goal.returns-in_default-clause-parted
returns-in_default-clause-parted g c = here_parted g.N.Machine c.args.sub c.args.sub c.args.self.now _ refl c.push_reserved.ensures.items refl refl refl

pub returns-in-Ok-clause-parted : goal.returns-in-Ok-clause-parted
returns-in-Ok-clause-parted g c =
    let made = c.in-Ok.ensures in
    let out = c.in-Ok.out in
    goes_parted g.N.Machine c.args.sub c.args.self.now c.put.new.self out.piece out.link out.tap out.queue c.delivered-delivered.result c.in-Ok-Ok.link (search rules) made.queue c.delivered-delivered.ensures made.out made.tap.0 made.tap.1 made.fresh c.put.ensures.more

pub returns-after-matches-clause-parted : goal.returns-after-matches-clause-parted
returns-after-matches-clause-parted g c = here_parted g.N.Machine c.args.sub c.in-Err.sub c.args.self.now _ c.in-Err.ensures.err c.push_reserved-in-Err.ensures.items refl refl refl

pub returns-in-Ok-clause-stay : goal.returns-in-Ok-clause-stay
returns-in-Ok-clause-stay g c = stay_away g.N.Machine c.args.self.now c.put.new.self (Away c.in-Ok.out.queue c.delivered-delivered.result) tt c.put.ensures.refused c.put.ensures.more.kept

pub returns-after-matches-clause-stay : goal.returns-after-matches-clause-stay
returns-after-matches-clause-stay g c = stay_here g.N.Machine c.args.self.now _ c.in-Err.sub c.match-matches.matches
    (λ off may. elim c.match-matches.branch [
      | in-NoMemory w ↦ (let on = w.matches-is in cc)
      | in_default-matches w ↦ c.in-Err.ensures.whole (whole_else c.in-Err.why w.in_default-matches.not-NoMemory) (subst (λ s. MayGoOut g.N.Machine s) c.in-Err.ensures.err may)
    ])
    refl c.push_reserved-in-Err.ensures.items
