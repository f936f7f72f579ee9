use Rattle.std.proofs.Common.{rules, arith}
use Rattle.std.proofs.lemmas.Grind.{common_steps}
use Rattle.rsx_merging.proofs.behind.ConcatNodeLeftBehind.copy_at.Goals as goal

pub index-requires : goal.index-requires
index-requires g c = search rules

pub get-requires : goal.get-requires
get-requires g c κs = search rules

pub returns-in_err-copy_behind-in-Some : goal.returns-in_err-copy_behind-in-Some
returns-in_err-copy_behind-in-Some g c = search rules

pub returns-in_ok-copy_behind-in-Some : goal.returns-in_ok-copy_behind-in-Some
returns-in_ok-copy_behind-in-Some g c = grind (arith, common_steps)

pub returns-in-None : goal.returns-in-None
returns-in-None g c = grind (arith, common_steps)

pub returns-in_default : goal.returns-in_default
returns-in_default g c = grind (arith, common_steps)
