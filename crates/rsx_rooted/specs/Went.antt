-- What nodes are after a batch.
use Rattle.std.specs.Prelude.{◌≡◌, ℕ, ◌+◌, min, false, drop}
use Rattle.rsx_hub.specs.Leaf.{LeafState, with_queue}
use Rattle.rsx_plain.specs.declared.node.PlainNode.{PlainNode}
use Rattle.rsx_sources.specs.declared.range.RangeNode.{RangeNode}
use Rattle.rsx_queued.specs.declared.sender.Sender.{Sender}
use Rattle.rsx_queued.specs.declared.sender.Sender.TheVariants.{Direct, Crossing}
use Rattle.rsx_rooted.specs.declared.batch.After.{After}
use Rattle.rsx_rooted.specs.declared.batch.After.TheVariants.{Plain, Counted, Picked, Latest, Gave}
use Rattle.rsx_rooted.specs.declared.batch.Noted.{Noted}

-- a range gave so many of its numbers
abbrev pub range_went : {T : Type 0} → RangeNode T → After T → RangeNode T → Type 0
range_went old (Plain node) new = new ≡ old
range_went old Counted new = new ≡ old
range_went old (Picked i) new = new ≡ old
range_went old (Latest i x) new = new ≡ old
range_went old (Gave k) new = (new.first ≡ old.first) × (new.count ≡ old.count) × (new.at ≡ min (old.at + k) old.count)

-- a plain operator went on as it noted
abbrev pub plain_went : {T : Type 0} → PlainNode T → After T → PlainNode T → Type 0
plain_went old (Plain node) new = new ≡ node
plain_went old Counted new = new ≡ old
plain_went old (Picked i) new = new ≡ old
plain_went old (Latest i x) new = new ≡ old
plain_went old (Gave k) new = new ≡ old

-- a node that reads a hub gave the items that it had held longest, so many
abbrev pub leaf_went : {T : Type 0} → LeafState T → After T → LeafState T → Type 0
leaf_went old (Gave k) new = new ≡ with_queue old (drop k old.queue)
leaf_went old (Plain node) new = new ≡ old
leaf_went old Counted new = new ≡ old
leaf_went old (Picked i) new = new ≡ old
leaf_went old (Latest i x) new = new ≡ old

-- what a node with a queue noted, without the rows by which items went over that
abbrev pub inside : {T : Type 0} → Noted T → Noted T
inside n = record { took = n.took; steps = 0; by_step = false; after = n.after }

-- the node inside went on, and the queue of its edge, if it has one, stays
abbrev pub sender_went : {M T : Type 0} → (M → Noted T → M → Type 0) → Sender M T → Noted T → Sender M T → Type 0
sender_went went (Direct n) noted (Direct n') = went n noted n'
sender_went went (Direct n) noted (Crossing k) = ⊥
sender_went went (Crossing k) noted (Crossing k') = went k.node (inside noted) k'.node × (k'.queue ≡ k.queue) × (k'.tail ≡ k.tail)
sender_went went (Crossing k) noted (Direct n') = ⊥

-- a node takes in what the node inside does, but nothing at once where its edge has a queue
abbrev pub sender_spaces : {M T : Type 0} → (M → ℕ) → Sender M T → ℕ
sender_spaces spaces (Direct n) = spaces n
sender_spaces spaces (Crossing k) = 0
