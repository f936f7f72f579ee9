use Rattle.std.proofs.Common.{◌≡◌, take}
use Rattle.rsx_collections.proofs.buffered.BufferedCopied.copied.Given as goal

abbrev pub invariant-loop-item : goal.invariant-loop-item
invariant-loop-item g l = l.items.items ≡ take l.item-index l.self
