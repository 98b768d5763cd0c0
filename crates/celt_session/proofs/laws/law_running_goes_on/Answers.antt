use Rattle.std.proofs.Common.{◌∙◌, ◌++◌}
use Rattle.celt_session.specs.Decoding.{decoding_function, start_of}
use Rattle.celt_session.proofs.Folding.{running-front, full-is}
use Rattle.celt_session.proofs.laws.law_running_goes_on.Goals as goal

pub returns-clause-running : goal.returns-clause-running
returns-clause-running c = λ settings bytes more. running-front decoding_function (start_of settings) bytes more

pub returns-clause-full : goal.returns-clause-full
returns-clause-full c = λ settings bytes more.
    full-is decoding_function (start_of settings) (bytes ++ more) ∙ running-front decoding_function (start_of settings) bytes more
