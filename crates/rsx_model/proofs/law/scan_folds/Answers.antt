use Rattle.rsx_model.proofs.Laws.{scan_folds_law}
use Rattle.rsx_model.proofs.law.scan_folds.Goals as goal

pub returns : goal.returns
returns g c = λ m f s v. scan_folds_law m f s v
