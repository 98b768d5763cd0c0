use Rattle.std.proofs.Common.{arith}
use Rattle.celt_synth.specs.Collapse.{seed_uncollapsed}
use Rattle.celt_synth.proofs.CollapseLemmas.{filled_is, filled_small, unfilled_small, uncollapsed_none, uncollapsed_some}
use Rattle.celt_synth.proofs.collapse.uncollapse.Goals as goal

pub returns-then-filled-eq0-clause-value : goal.returns-then-filled-eq0-clause-value
returns-then-filled-eq0-clause-value c =
    let f = c.fill_blocks-filled.ensures in
    let zero_count = c.if-filled-eq0.true in
    let some = c.requires.some in
    let n = f.counted in
    uncollapsed_none c.args.blocks c.args.width c.args.mask c.args.level c.args.seed.now c.args.x.now _ (omega (arith, n, zero_count))
    (filled_is c.args.blocks c.args.width c.args.mask c.args.level c.args.seed.now c.args.x.now _ some c.requires.length f.filled)

pub returns-then-filled-eq0-clause-seed : goal.returns-then-filled-eq0-clause-seed
unfolding seed_uncollapsed
returns-then-filled-eq0-clause-seed c = c.fill_blocks-filled.ensures.stepped

pub returns-then-filled-eq0-clause-items : goal.returns-then-filled-eq0-clause-items
returns-then-filled-eq0-clause-items c =
    let f = c.fill_blocks-filled.ensures in
    let zero_count = c.if-filled-eq0.true in
    let n = f.counted in
    unfilled_small c.args.blocks c.args.width c.args.mask c.args.level c.args.seed.now c.args.x.now _ c.requires.some (omega (arith, n, zero_count)) c.requires.items
    (filled_is c.args.blocks c.args.width c.args.mask c.args.level c.args.seed.now c.args.x.now _ c.requires.some c.requires.length f.filled)

pub unit-requires-clause-items : goal.unit-requires-clause-items
unit-requires-clause-items c = λ k d l.
    let f = c.fill_blocks-filled.ensures in
    let s = filled_small c.args.blocks c.args.width c.args.mask c.args.level c.args.seed.now c.args.x.now c.fill_blocks-filled.new.x c.requires.level c.requires.items
    (filled_is c.args.blocks c.args.width c.args.mask c.args.level c.args.seed.now c.args.x.now c.fill_blocks-filled.new.x c.requires.some c.requires.length f.filled) in
    let t = s k d l in
    omega (arith, t)

pub returns-clause-value : goal.returns-clause-value
returns-clause-value c =
    let f = c.fill_blocks-filled.ensures in
    let not_zero = c.if-filled-eq0.false in
    uncollapsed_some c.args.blocks c.args.width c.args.mask c.args.level c.args.seed.now c.args.x.now c.fill_blocks-filled.new.x _ c.fill_blocks-filled.result.count f.counted (omega (arith, not_zero))
    (filled_is c.args.blocks c.args.width c.args.mask c.args.level c.args.seed.now c.args.x.now c.fill_blocks-filled.new.x c.requires.some c.requires.length f.filled) c.unit.ensures.value

pub returns-clause-seed : goal.returns-clause-seed
unfolding seed_uncollapsed
returns-clause-seed c = c.fill_blocks-filled.ensures.stepped
