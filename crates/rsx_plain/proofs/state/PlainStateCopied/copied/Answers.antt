use Rattle.std.proofs.Common.{rules}
use Rattle.rsx_plain.proofs.state.PlainStateCopied.copied.Goals as goal

pub returns-in_err-copy-in-Scan : goal.returns-in_err-copy-in-Scan
returns-in_err-copy-in-Scan g c = search rules

pub returns-in_err-copied-in-Buffer : goal.returns-in_err-copied-in-Buffer
returns-in_err-copied-in-Buffer g c = search rules

pub returns-in_err-copy-in-Distinct : goal.returns-in_err-copy-in-Distinct
returns-in_err-copy-in-Distinct g c = search rules

pub returns : goal.returns
returns g c = search rules
