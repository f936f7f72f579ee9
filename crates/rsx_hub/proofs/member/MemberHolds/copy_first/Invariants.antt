use Rattle.std.proofs.Common.{◌≡◌, ◌+◌, ◌≤◌, ◌++◌, take, vec_len, vec_capacity}
use Rattle.rsx_hub.proofs.member.MemberHolds.copy_first.Given as goal

abbrev pub invariant-loop-at : goal.invariant-loop-at
invariant-loop-at g l =
    (l.all.items ≡ l.initial.all.items ++ take l.at l.self.queue)
    × (vec_len l.all ≡ vec_len l.initial.all + l.at)
    × (vec_len l.initial.all + l.fewer ≤ vec_capacity l.all)
