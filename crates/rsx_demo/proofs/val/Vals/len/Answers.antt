use Rattle.std.proofs.Common.{◌∙◌, ap, sym}
use Rattle.rsx_demo.specs.Data.{data_len}
use Rattle.rsx_demo.proofs.Lengths.{data_len-data_of}
use Rattle.rsx_demo.proofs.val.Vals.len.Goals as goal

pub returns : goal.returns
returns c = sym (data_len-data_of c.as_slice.result.now) ∙ ap data_len c.as_slice.ensures
