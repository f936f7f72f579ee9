-- A node of a tree keeps the laws that a tree rests on.
use Rattle.std.specs.Prelude.{◌≡◌, ◌<◌, ℕ, true, false, Some, None, option_map}
use Rattle.std.proofs.Common.{subst}
use Rattle.std.proofs.lemmas.Bool.{true≢false}
use Rattle.rsx_sources.specs.Prelude.{Meaning, unchosen, Stream, CanStep, Incoming, OffersWithin, front_of}
use Rattle.rsx_queued.specs.Sender.{sender_ending_waits, sender_enough, sender_settles, sender_shows}
use Rattle.rsx_kinds.specs.Any.{TreeNode, any_machine, kind_machine}
use Rattle.rsx_kinds.specs.Laws.{any_ending_waits, any_settles, any_shows}

-- what it shows is what waits
pub tree_shows : {T : Type 0} (m : Meaning T) (n : TreeNode T) → any_machine.shown n ≡ option_map front_of (any_machine.waiting m n)
tree_shows m n = sender_shows kind_machine m (any_shows m) n

-- something comes out where nothing more is chosen
pub tree_settles : {T : Type 0} (m : Meaning T) (n : TreeNode T) (inc : Incoming T) → (v : Stream T) × (any_machine.comes_out m n inc (unchosen (any_machine.recorded n)) ≡ Some v)
tree_settles m n inc = sender_settles kind_machine m (any_settles m) n inc

-- where it has ended, and offers nothing though more is asked of it, it can make a step
pub tree_ending_waits : {T : Type 0} (m : Meaning T) (n : TreeNode T) (asked sent : ℕ) → any_machine.ended n ≡ true → any_machine.waiting m n ≡ None → sent < asked → CanStep any_machine.picks any_machine.rows n asked sent
tree_ending_waits m n asked sent e none more = sender_ending_waits kind_machine m (any_shows m) (any_ending_waits m) n asked sent e none more

-- where it accepts no more demand, what it offers may go
pub tree_asked_enough : {T : Type 0} (m : Meaning T) (n : TreeNode T) (asked sent : ℕ) → any_machine.accepts n asked sent ≡ false → OffersWithin (option_map front_of (any_machine.waiting m n)) asked sent
tree_asked_enough m n asked sent e = subst (λ f. OffersWithin f asked sent) (tree_shows m n) (sender_enough kind_machine (λ k a s h. absurd (true≢false h)) n asked sent e)
