use Rattle.std.proofs.Common.{sym}
use Rattle.rsx_types.proofs.Places.{position_none}
use Rattle.rsx_script.specs.Words.{is_separator}
use Rattle.rsx_script.proofs.words.len_of_word.Goals as goal

pub returns-in-None-clause-place : goal.returns-in-None-clause-place
returns-in-None-clause-place c = position_none is_separator c.args.bytes.now (sym c.in-None.ensures)
