use Rattle.std.proofs.Common.{arith}
use Rattle.rsx_link.proofs.Keeps.{splits}
use Rattle.rsx_link.specs.declared.view.Role.TheVariants.{Canceller}
use Rattle.rsx_link.proofs.Shares.{cut_half, half_idle}
use Rattle.rsx_link.proofs.link.Link.split_canceller.Goals as goal

pub split_seat-requires : goal.split_seat-requires
split_seat-requires g c = let sized = c.args.self.now.sized in (c.requires.0, omega arith, splits _ _ Canceller _ _ (λ e. cc) (cut_half _) (λ views at h e. half_idle _ views _ at h e))
