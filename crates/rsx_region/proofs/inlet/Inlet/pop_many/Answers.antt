use Rattle.std.proofs.Common.{◌≤◌, [], ◌∙◌, refl, sym, arith}
use Rattle.rsx_region.proofs.Takings.{all_handed, no_ending, popped_as, popped_none, spaces_within}
use Rattle.rsx_region.proofs.inlet.Inlet.pop_many.Goals as goal

pub returns-then-not-waits_for-clause-popped : goal.returns-then-not-waits_for-clause-popped
returns-then-not-waits_for-clause-popped g c = popped_none g.N.Machine c.args.part.now c.args.self.now c.args.self.now refl

pub returns-then-is_err-clause-popped : goal.returns-then-is_err-clause-popped
returns-then-is_err-clause-popped g c = popped_none g.N.Machine c.args.part.now c.args.self.now _ refl

pub invariant_of-self-2-clause-none : goal.invariant_of-self-2-clause-none
invariant_of-self-2-clause-none g c =
    let i = c.args.self.now in
    (all_handed g.N.Machine g.N.Batches.spaces_of i.hub c.from-number.result c.take_items-count.result c.from.result c.spaces_for-spaces.result c.args.part.now c.hand_many.new.self i.down c.take_items-count.new.down [] c.take_items-count.new.items.items c.hand_many.new.items.items
    c.from-number.ensures (c.waits_for.ensures.yes c.if-not-waits_for.false).0 refl c.take_items-count.ensures.taken c.spaces_for-spaces.ensures c.take_items-count.ensures.most c.hand_many.ensures).none

pub overflow_cast-result : goal.overflow_cast-result
overflow_cast-result g c =
    let n = c.take_items-count.ensures.most in
    let s = c.spaces_for-spaces.ensures in
    let w = spaces_within g.N.Machine g.N.Batches.spaces_of c.from-number.result c.from.result c.args.part.now in
    let f = c.from.ensures in
    let m = c.ranges.most.fits in
    search (arith, n, s, w, f, m)

pub returns-clause-popped : goal.returns-clause-popped
returns-clause-popped g c =
    let i = c.args.self.now in
    popped_as g.N.Machine c.take_items-count.result c.args.part.now c.hand_many.new.self i _ c.hand_many.new.items.items c.take_items-count.new.down refl
    (all_handed g.N.Machine g.N.Batches.spaces_of i.hub c.from-number.result c.take_items-count.result c.from.result c.spaces_for-spaces.result c.args.part.now c.hand_many.new.self i.down c.take_items-count.new.down [] c.take_items-count.new.items.items c.hand_many.new.items.items
    c.from-number.ensures (c.waits_for.ensures.yes c.if-not-waits_for.false).0 refl c.take_items-count.ensures.taken c.spaces_for-spaces.ensures c.take_items-count.ensures.most c.hand_many.ensures)

pub returns-clause-most : goal.returns-clause-most
returns-clause-most g c =
    let n = c.take_items-count.ensures.most in
    let s = c.spaces_for-spaces.ensures in
    let w = spaces_within g.N.Machine g.N.Batches.spaces_of c.from-number.result c.from.result c.args.part.now in
    let f = c.from.ensures in
    let r : c.take_items-count.result ≤ c.args.most = omega (arith, n, s, w, f) in
    r

pub invariant_of-self-2-clause-over : goal.invariant_of-self-2-clause-over
invariant_of-self-2-clause-over g c =
    c.args.self.now.over ∙ sym (no_ending c.take_items-count.result c.args.self.now.down c.take_items-count.new.down [] c.take_items-count.new.items.items c.take_items-count.ensures.taken)
