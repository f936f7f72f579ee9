use Rattle.std.proofs.Common.{◌≡◌, ap, ◌∙◌, arith}
use Rattle.rsx_link.specs.declared.view.Role.TheVariants.{Downstream, Canceller}
use Rattle.rsx_link.proofs.Keeps.{asked_never_cancels, splits, tells_total}
use Rattle.rsx_link.proofs.Shares.{cut_all, cut_none}
use Rattle.rsx_link.proofs.link.Link.open.Goals as goal

pub split_seat-up_seat-requires : goal.split_seat-up_seat-requires
split_seat-up_seat-requires g c =
    let begun = c.in_ok-link.ensures.seat in
    let sized = c.in_ok-link.link.sized in
    let stored = ap (λ m. m.0) c.store_asked.ensures.2 in
    let role : c.store_asked.new.seat.me.0.role ≡ Downstream = ap (λ v. v.role) stored ∙ ap (λ m. m.0.role) begun.1 in
    let never = asked_never_cancels _ _ _ stored (ap (λ m. m.0) begun.1) in
    (c.store_asked.ensures.0 ∙ begun.0, omega arith, tells_total _ _ role (cut_none _) (λ views at h e. never))

pub split_seat-cancel_seat-requires : goal.split_seat-cancel_seat-requires
split_seat-cancel_seat-requires g c =
    let begun = c.in_ok-link.ensures.seat in
    let sized = c.in_ok-link.link.sized in
    let stored = ap (λ m. m.0) c.store_asked.ensures.2 in
    let never = asked_never_cancels _ _ _ (ap (λ m. m.0) c.split_seat-up_seat.ensures.2 ∙ stored) (ap (λ m. m.0) begun.1) in
    (c.split_seat-up_seat.ensures.0 ∙ (c.store_asked.ensures.0 ∙ begun.0), omega arith, splits _ _ Canceller _ _ (λ e. cc) (cut_all _) (λ views at h e. never))
