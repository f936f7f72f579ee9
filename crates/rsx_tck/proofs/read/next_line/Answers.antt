use Rattle.rsx_tck.proofs.Lines.{next_first, next_only}
use Rattle.rsx_tck.proofs.read.next_line.Goals as goal

pub returns-then-len-bytes-clause-lines : goal.returns-then-len-bytes-clause-lines
returns-then-len-bytes-clause-lines c = next_first c.args.bytes.now c.len_to-len.result c.len_to-len.ensures.place c.if-len-bytes.true

pub returns-else-len-bytes-clause-lines : goal.returns-else-len-bytes-clause-lines
returns-else-len-bytes-clause-lines c = next_only c.args.bytes.now c.len_to-len.result c.len_to-len.ensures.place c.requires c.if-len-bytes.false
