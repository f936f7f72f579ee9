use Rattle.rsx_hub.proofs.Readings.{all_read}
use Rattle.rsx_hub.proofs.law.reads_on.Goals as goal

pub returns : goal.returns
returns g c = all_read
