use Rattle.std.proofs.Common.{arith}
use Rattle.opus_stream.proofs.Spanning.{spanned}
use Rattle.opus_stream.specs.Acceptance.{accepted}
use Rattle.opus_stream.proofs.Telling.{told, told_given, all_given}
use Rattle.opus_stream.proofs.laws.law_spans.Goals as goal

pub returns-clause-apart : goal.returns-clause-apart
returns-clause-apart c = λ bytes. (spanned bytes).apart

pub returns-clause-total : goal.returns-clause-total
returns-clause-total c = λ bytes. (spanned bytes).total

pub returns-clause-joined : goal.returns-clause-joined
returns-clause-joined c = λ bytes samples h. (told bytes).joined samples (omega arith)

pub returns-clause-kept : goal.returns-clause-kept
returns-clause-kept c = λ bytes. (told bytes).kept

pub returns-clause-uncut : goal.returns-clause-uncut
returns-clause-uncut c = λ bytes h. all_given (accepted bytes) h

pub returns-clause-trimmed : goal.returns-clause-trimmed
returns-clause-trimmed c = λ bytes. (told bytes).trims

pub returns-clause-reach : goal.returns-clause-reach
returns-clause-reach c = λ bytes given. (told_given bytes given).reach
