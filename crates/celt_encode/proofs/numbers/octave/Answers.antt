use Rattle.std.proofs.Common.{arith}
use Rattle.celt_encode.specs.Wanted.{octave_of}
use Rattle.celt_encode.proofs.NumberSteps.{lowering_first, lowering_next, octave_found, octave_small, some_octave}
use Rattle.celt_encode.proofs.numbers.octave.Goals as goal

pub loop-octave-init : goal.loop-octave-init
loop-octave-init c = lowering_first c.args.setting.period

pub loop-octave-preserved : goal.loop-octave-preserved
loop-octave-preserved c =
    let l = c.loop-octave.invariant in
    let small = octave_small c.loop-octave.octave l.few in
    let test = c.loop-octave-test.true in
    lowering_next c.args.setting.period c.loop-octave.octave l (omega (arith, small, test))

pub loop-octave-smaller : goal.loop-octave-smaller
loop-octave-smaller c =
    let l = c.loop-octave.invariant in
    let small = octave_small c.loop-octave.octave l.few in
    let test = c.loop-octave-test.true in
    let some = some_octave c.args.setting.period c.loop-octave.octave c.args.setting.least_period (omega (arith, small, test)) in
    omega (arith, some)

pub overflow_shl-octave : goal.overflow_shl-octave
overflow_shl-octave c = let l = c.loop-octave.invariant in let f = l.few in omega (arith, f)

pub returns-clause-value : goal.returns-clause-value
unfolding octave_of
returns-clause-value c =
    let l = c.loop-octave.invariant in
    let small = octave_small c.loop-octave.octave l.few in
    let test = c.loop-octave-test.false in
    octave_found c.args.setting.period c.loop-octave.octave l (omega (arith, small, test))

pub returns-clause-within : goal.returns-clause-within
returns-clause-within c =
    let l = c.loop-octave.invariant in
    let small = octave_small c.loop-octave.octave l.few in
    let test = c.loop-octave-test.false in
    omega (arith, small, test)

pub returns-clause-most : goal.returns-clause-most
returns-clause-most c = let l = c.loop-octave.invariant in l.few
