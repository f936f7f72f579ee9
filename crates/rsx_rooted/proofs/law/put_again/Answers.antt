use Rattle.rsx_rooted.proofs.Regions.{put_again_tree}
use Rattle.rsx_rooted.proofs.law.put_again.Goals as goal

pub returns : goal.returns
returns g c = put_again_tree
