use Rattle.std.proofs.Common.{◌≡◌, ◌-◌, ◌<◌, ◌≤◌, ◌++◌, length, ap, sym, ◌∙◌, subst, arith, rules}
use Rattle.std.proofs.lemmas.Grind.{common_steps}
use Rattle.rsx_values.specs.Record.{IsRuns, added_to_last, room_of_last, times, written}
use Rattle.rsx_values.proofs.LastRuns.{added_none, added_still_runs, fits_last, set_last, written_added}
use Rattle.rsx_values.proofs.record.Record.push_times.Goals as goal

pub overflow_add-index_mut : goal.overflow_add-index_mut
overflow_add-index_mut c =
    let some : 0 < c.args.count = search (arith, rules) in
    let fits : c.args.count ≤ room_of_last c.self.inside.runs.items c.args.input = search rules in
    let at : c.len-at.result - 1 ≡ length c.self.inside.runs.items - 1 = search (arith, rules) in
    let less = fits_last c.self.inside.runs.items (c.len-at.result - 1) c.args.input c.args.count c.index_mut.result.now at c.index_mut.ensures.value some fits in
    grind (arith, common_steps, less)

pub invariant_of-self : goal.invariant_of-self
invariant_of-self c =
    let some : 0 < c.args.count = search (arith, rules) in
    let fits : c.args.count ≤ room_of_last c.self.inside.runs.items c.args.input = search rules in
    let at : c.len-at.result - 1 ≡ length c.self.inside.runs.items - 1 = search (arith, rules) in
    let same = set_last c.self.inside.runs.items (c.len-at.result - 1) c.args.input c.args.count c.index_mut.result.now at c.index_mut.ensures.value some fits in
    subst IsRuns (sym same) (added_still_runs c.self.inside.runs.items c.args.count c.self.invariant)

pub returns-then-count-gt0-clause-runs : goal.returns-then-count-gt0-clause-runs
returns-then-count-gt0-clause-runs c =
    let some : 0 < c.args.count = search (arith, rules) in
    let fits : c.args.count ≤ room_of_last c.self.inside.runs.items c.args.input = search rules in
    let at : c.len-at.result - 1 ≡ length c.self.inside.runs.items - 1 = search (arith, rules) in
    set_last c.self.inside.runs.items (c.len-at.result - 1) c.args.input c.args.count c.index_mut.result.now at c.index_mut.ensures.value some fits ∙ ap (λ l. added_to_last l c.args.count) c.self.view_is

pub returns-then-count-gt0-clause-choices : goal.returns-then-count-gt0-clause-choices
returns-then-count-gt0-clause-choices c =
    let some : 0 < c.args.count = search (arith, rules) in
    let fits : c.args.count ≤ room_of_last c.self.inside.runs.items c.args.input = search rules in
    let at : c.len-at.result - 1 ≡ length c.self.inside.runs.items - 1 = search (arith, rules) in
    ap written (set_last c.self.inside.runs.items (c.len-at.result - 1) c.args.input c.args.count c.index_mut.result.now at c.index_mut.ensures.value some fits)
    ∙ (written_added c.self.inside.runs.items c.args.input c.args.count fits ∙ ap (λ l. written l ++ times c.args.count c.args.input) c.self.view_is)

pub returns-else-count-gt0-clause-runs : goal.returns-else-count-gt0-clause-runs
returns-else-count-gt0-clause-runs c =
    let none : c.args.count ≡ 0 = search (arith, rules) in
    sym (ap (λ k. added_to_last c.args.self.now k) none ∙ added_none c.args.self.now)
