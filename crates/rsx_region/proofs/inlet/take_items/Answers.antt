use Rattle.std.proofs.Common.{List, [], sym, ◌∙◌, subst}
use Rattle.rsx_region.specs.Taken.{AreTaken}
use Rattle.rsx_region.proofs.Takings.{looked_at, none_taken, taken_keeps, taken_turned}
use Rattle.rsx_region.proofs.inlet.take_items.Goals as goal

pub returns-then-is_empty-clause-taken : goal.returns-then-is_empty-clause-taken
returns-then-is_empty-clause-taken g c =
    let d = c.args.down.now in
    let new = c.is_empty.new.self in
    let A : List g.row.T.Denot → Type 0 = λ xs. AreTaken 0 d [] xs new in
    subst A (sym c.requires.empty) (none_taken d new [] (looked_at c.args.link.now d new c.is_empty.ensures.same))

pub returns-clause-end : goal.returns-clause-end
returns-clause-end g c =
    let n = c.take_each-count in
    let looked = c.is_empty.ensures.same in
    let kept = taken_keeps n.result c.is_empty.new.self n.new.down c.args.items.now.items n.new.items.items n.ensures.taken in
    (n.ensures.end, kept.0 ∙ looked.1, kept.1 ∙ looked.4)

pub returns-clause-taken : goal.returns-clause-taken
returns-clause-taken g c =
    let n = c.take_each-count in
    taken_turned c.args.link.now n.result c.args.down.now c.is_empty.new.self n.new.down c.args.items.now.items n.new.items.items c.reverse.new.self.items c.is_empty.ensures.same c.requires.empty n.ensures.taken c.reverse.ensures.items
