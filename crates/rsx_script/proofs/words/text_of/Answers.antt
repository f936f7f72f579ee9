use Rattle.rsx_script.proofs.Places.{written_is_utf8}
use Rattle.rsx_script.proofs.words.text_of.Goals as goal

pub returns-in-Err : goal.returns-in-Err
returns-in-Err c = absurd (c.in-Err.ensures.cases.0 (written_is_utf8 c.args.word.now c.requires))
