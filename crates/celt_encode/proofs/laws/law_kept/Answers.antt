use Rattle.std.proofs.Common.{sym}
use Rattle.celt_encode.proofs.WritingSteps.{kept_whole, kept_over, fell_whole, fell_over, silence_told}
use Rattle.celt_encode.proofs.laws.law_kept.Goals as goal

pub returns-clause-whole : goal.returns-clause-whole
returns-clause-whole c f fits = (sym (kept_whole f fits), sym (fell_whole f fits))

pub returns-clause-over : goal.returns-clause-over
returns-clause-over c f over = (sym (kept_over f over), sym (fell_over f over))

pub returns-clause-silence : goal.returns-clause-silence
returns-clause-silence c = silence_told
