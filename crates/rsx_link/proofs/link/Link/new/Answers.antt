use Rattle.std.proofs.Common.{◌≡◌, ap, ◌∙◌, arith}
use Rattle.rsx_link.specs.declared.view.Role.TheVariants.{Upstream, Canceller}
use Rattle.rsx_link.specs.Link.{newborn, view_cancels}
use Rattle.rsx_link.proofs.Keeps.{splits}
use Rattle.rsx_link.proofs.Shares.{cut_all, cut_none}
use Rattle.rsx_link.proofs.link.Link.new.Goals as goal

pub split_seat-up_seat-requires : goal.split_seat-up_seat-requires
split_seat-up_seat-requires g c =
    let begun = c.in_ok-link.ensures.seat in
    let sized = c.in_ok-link.link.sized in
    let view_is : c.in_ok-link.seat.me.0 ≡ newborn = ap (λ m. m.0) begun.1 in
    (begun.0, omega arith, splits _ _ Upstream _ _ (λ e. cc) (cut_none _) (λ views at h e. ap view_cancels view_is))

pub split_seat-cancel_seat-requires : goal.split_seat-cancel_seat-requires
split_seat-cancel_seat-requires g c =
    let begun = c.in_ok-link.ensures.seat in
    let sized = c.in_ok-link.link.sized in
    let view_is : c.split_seat-up_seat.new.seat.me.0 ≡ newborn = ap (λ m. m.0) c.split_seat-up_seat.ensures.2 ∙ ap (λ m. m.0) begun.1 in
    (c.split_seat-up_seat.ensures.0 ∙ begun.0, omega arith, splits _ _ Canceller _ _ (λ e. cc) (cut_all _) (λ views at h e. ap view_cancels view_is))
