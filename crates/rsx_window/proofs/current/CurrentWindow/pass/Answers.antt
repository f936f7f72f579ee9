use Rattle.std.proofs.Common.{◌≡◌, ◌-◌, length, refl, ap, arith, rules}
use Rattle.rsx_window.specs.declared.current.CurrentWindow.TheVariants.{Running}
use Rattle.rsx_window.proofs.Passes.{next_passes, last_passes, first_passes, skipped_passes}
use Rattle.rsx_window.proofs.current.CurrentWindow.pass.Goals as goal

pub returns-in-Passing : goal.returns-in-Passing
returns-in-Passing g c = skipped_passes c.args.size c.args.stages.now c.args.self.now _ c.in-Passing.left c.args.item (search rules) c.in-Passing.left-test.1 refl

pub returns-else-size-le1 : goal.returns-else-size-le1
returns-else-size-le1 g c =
    let none : length c.args.stages.now ≡ 0 = search rules in
    first_passes c.args.size c.args.stages.now c.args.self.now c.start_empty.new.self c.args.item (search rules) none (search rules) c.start_empty.ensures

pub returns-then-more-gt0 : goal.returns-then-more-gt0
returns-then-more-gt0 g c =
    let w = c.in-Running-End-default in
    next_passes c.args.size c.args.stages.now c.args.self.now (Running w.field-0 (w.more - 1)) w.more c.args.item (search rules) (λ e. omega (arith, c.if-more-gt0.true, e)) (ap (λ h. Running h (w.more - 1)) w.field-0-is)

pub returns-else-not-is_empty : goal.returns-else-not-is_empty
returns-else-not-is_empty g c =
    let w = c.in-Running-End-default in
    let none : length c.args.stages.now ≡ 0 = search rules in
    last_passes c.args.size c.args.stages.now c.args.self.now (Running w.field-0 c.saturating_sub.result) w.more c.args.item (search rules) (omega (arith, c.if-more-gt0.false)) none (search rules)
