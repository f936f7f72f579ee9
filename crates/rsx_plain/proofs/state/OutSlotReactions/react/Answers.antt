use Rattle.std.proofs.Common.{rules}
use Rattle.rsx_plain.proofs.state.OutSlotReactions.react.Goals as goal

pub returns-in-Map-Next-rules : goal.returns-in-Map-Next-rules
returns-in-Map-Next-rules g c = search rules

pub returns-in-Filter-Next-rules : goal.returns-in-Filter-Next-rules
returns-in-Filter-Next-rules g c = search rules

pub returns-in-Take-default-eq0-default-rules : goal.returns-in-Take-default-eq0-default-rules
returns-in-Take-default-eq0-default-rules g c = search rules

pub returns-in-Take-Next-rules : goal.returns-in-Take-Next-rules
returns-in-Take-Next-rules g c = search rules

pub returns-in-Scan-Next-rules : goal.returns-in-Scan-Next-rules
returns-in-Scan-Next-rules g c = search rules

pub returns-in-Buffer-Next-rules : goal.returns-in-Buffer-Next-rules
returns-in-Buffer-Next-rules g c = search rules

pub returns-in-Buffer-Complete-rules : goal.returns-in-Buffer-Complete-rules
returns-in-Buffer-Complete-rules g c = search rules

pub returns-in-Buffer-Error-rules : goal.returns-in-Buffer-Error-rules
returns-in-Buffer-Error-rules g c = search rules

pub returns-in-Distinct-Next-rules : goal.returns-in-Distinct-Next-rules
returns-in-Distinct-Next-rules g c = search rules

pub react-requires-clause-some : goal.react-requires-clause-some
react-requires-clause-some g c = search rules
