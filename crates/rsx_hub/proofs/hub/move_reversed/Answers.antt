use Rattle.std.proofs.Common.{◌-◌, [], ◌++◌, length, reverse, take, append-nil, sym, ap, ◌∙◌, arith}
use Rattle.circular_buffer.specs.Buffer.{buffer}
use Rattle.rsx_hub.proofs.Lists.{last_out, one_less, nothing_last}
use Rattle.rsx_hub.proofs.hub.move_reversed.Goals as goal

pub loop-item-preserved : goal.loop-item-preserved
loop-item-preserved g c =
    let value = sym c.in-Some.is ∙ c.pop_back.ensures.value in
    let without = ap (λ b. b.items) c.pop_back.ensures.items in
    let less = one_less c.loop-item.from.items c.pop_back.new.self.items c.in-Some.item without value in
    record {
      moved = last_out c.loop-item.items.items c.push_reserved.new.self.items c.loop-item.from.items c.pop_back.new.self.items c.in-Some.item c.push_reserved.ensures.items without value ∙ c.loop-item.invariant.moved;
      capacity = ap (λ b. b.capacity) c.pop_back.ensures.items ∙ c.loop-item.invariant.capacity;
      fits = omega (arith, less, c.push_reserved.ensures.len, c.push_reserved.ensures.capacity, c.loop-item.invariant.fits);
    }

pub returns-clause-items : goal.returns-clause-items
returns-clause-items g c =
    let none = nothing_last c.loop-item.from.items (sym c.in_default.is ∙ c.pop_back.ensures.value) in
    sym (append-nil c.loop-item.items.items) ∙ (sym (ap (λ l. c.loop-item.items.items ++ reverse l) none) ∙ c.loop-item.invariant.moved)

pub returns-clause-empty : goal.returns-clause-empty
returns-clause-empty g c =
    let none = nothing_last c.loop-item.from.items (sym c.in_default.is ∙ c.pop_back.ensures.value) in
    c.pop_back.ensures.items ∙ (ap (λ l. buffer (take (length l - 1) l) c.loop-item.from.capacity) none ∙ ap (λ n. buffer [] n) c.loop-item.invariant.capacity)
