use Rattle.std.proofs.Common.{sym, subst, ◌++◌}
use Rattle.celt_base.specs.Outside.{AppendsFront}
use Rattle.celt_base.proofs.Causes.{then_front, longer_front}
use Rattle.celt_session.specs.Decoding.{decoding_function, start_of}
use Rattle.celt_session.specs.PageFunctions.{running, added_by}
use Rattle.celt_session.proofs.Folding.{running-front, full-is}
use Rattle.celt_session.proofs.laws.law_failed_write.Goals as goal

pub returns-clause-running : goal.returns-clause-running
returns-clause-running c = λ settings bytes piece more begun before now h g.
    let f = decoding_function in
    let start = start_of settings in
    let now_read = bytes ++ piece in
    let all = running-front f start now_read more in
    let so_far = subst (AppendsFront begun now) (sym (running-front f start bytes piece)) (then_front begun before now (running f start bytes) (added_by f start bytes now_read) h g) in
    subst (AppendsFront begun now) (sym all) (longer_front begun now (running f start now_read) (added_by f start now_read (now_read ++ more)) so_far)

pub returns-clause-full : goal.returns-clause-full
returns-clause-full c = λ settings bytes piece more begun before now h g.
    subst (AppendsFront begun now) (sym (full-is decoding_function (start_of settings) ((bytes ++ piece) ++ more))) (returns-clause-running c settings bytes piece more begun before now h g)
