use Rattle.std.proofs.Common.{◌≡◌, ◌+◌, ◌<◌, ◌≤◌, ◌++◌, ◌∷◌, [], ap, append_assoc, length, None, Some, slice_get, sym, take, ◌∙◌, rules}
use Rattle.std.specs.Vec.{vec_len, vec_capacity}
use Rattle.rsx_hub.proofs.Lists.{is_there, take_next}
use Rattle.rsx_hub.proofs.member.MemberHolds.copy_first.Goals as goal
use Rattle.rsx_hub.proofs.member.MemberHolds.copy_first.Goals.{in-Some+in_ok-copy, in_default}

pub loop-at-preserved : goal.loop-at-preserved
loop-at-preserved g c =
    let queue = c.args.self.now.queue in
    let before = c.reserve.new.self in
    elim c.match-get.branch [
      | in-Some+in_ok-copy w ↦
          let there : slice_get queue c.loop-at.at ≡ Some w.in-Some.item.now = search rules in
          let pushed : c.match-get.all.items ≡ c.loop-at.all.items ++ w.in-Some.item.now ∷ [] = search rules in
          let longer : vec_len c.match-get.all ≡ vec_len before + (c.loop-at.at + 1) = search rules in
          let room : vec_len before + c.min-fewer.result ≤ vec_capacity c.match-get.all = search rules in (
            pushed ∙ (ap (λ l. l ++ w.in-Some.item.now ∷ []) c.loop-at.invariant.0 ∙ (append_assoc before.items (take c.loop-at.at queue) (w.in-Some.item.now ∷ []) ∙ ap (λ l. before.items ++ l) (sym (take_next queue c.loop-at.at w.in-Some.item.now there)))),
            longer,
            room,
          )
      | in_default w ↦
          let none : None ≡ slice_get queue c.loop-at.at = search rules in
          let within : c.loop-at.at < length queue = search rules in
          absurd (is_there queue c.loop-at.at none within)
    ]
