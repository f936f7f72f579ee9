use Rattle.rsx_window.proofs.Rests.{whole_part, full_part}
use Rattle.rsx_window.proofs.rest.window_ending.Goals as goal

pub returns-then-items-more : goal.returns-then-items-more
returns-then-items-more g c = whole_part c.args.more c.args.items.now c.args.ending c.if-items-more.true

pub returns : goal.returns
returns g c = full_part c.args.more c.args.items.now c.args.ending c.if-items-more.false
