use Rattle.std.proofs.Common.{◌≡◌, ◌-◌, ◌==◌, if◌then◌else◌, true, false, ap, sym, ◌∙◌, rules}
use Rattle.rsx_values.proofs.LastRuns.{room_end}
use Rattle.rsx_values.proofs.record.Record.room_of_last.Goals as goal

pub returns-then-last-input : goal.returns-then-last-input
returns-then-last-input c =
    let r = c.in-Some.last.now in
    let same : (r.input == c.args.input) ≡ true = search rules in
    sym (room_end c.args.self.now c.args.input r (search rules) ∙ ap (λ b. if b then 18446744073709551615 - r.count else 0) same)

pub returns-else-last-input : goal.returns-else-last-input
returns-else-last-input c =
    let r = c.in-Some.last.now in
    let other : (r.input == c.args.input) ≡ false = search rules in
    sym (room_end c.args.self.now c.args.input r (search rules) ∙ ap (λ b. if b then 18446744073709551615 - r.count else 0) other)
