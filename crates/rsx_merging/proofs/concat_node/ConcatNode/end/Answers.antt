use Rattle.std.proofs.Common.{rules}
use Rattle.rsx_merging.proofs.concat_node.ConcatNode.end.Goals as goal

pub index_mut-requires : goal.index_mut-requires
index_mut-requires g c = search rules

pub returns-clause-endings : goal.returns-clause-endings
returns-clause-endings g c = search rules

pub returns-clause-output : goal.returns-clause-output
returns-clause-output g c = search rules

pub returns-clause-earlier : goal.returns-clause-earlier
returns-clause-earlier g c = search rules

pub returns-clause-current : goal.returns-clause-current
returns-clause-current g c = search rules
