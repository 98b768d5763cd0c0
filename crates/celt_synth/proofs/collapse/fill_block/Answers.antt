use Rattle.std.proofs.Common.{◌≡◌, ℕ, ◌+◌, ◌*◌, ◌<◌, ◌≤◌, arith, ap, ◌∙◌, length, w64, FitsSigned, ℤ}
use Rattle.std.proofs.lemmas.Int.{to_z-of_z}
use Rattle.std.proofs.lemmas.Nat.{row_fits}
use Rattle.spread_fold.specs.Noise.{seed_after}
use Rattle.celt_synth.proofs.CollapseLemmas.{block_begun, block_more}
use Rattle.celt_synth.proofs.collapse.fill_block.Goals as goal

pub loop-j-init : goal.loop-j-init
loop-j-init c = block_begun c.args.blocks c.args.block c.args.level c.args.seed c.args.x.now

pub loop-j-preserved : goal.loop-j-preserved
loop-j-preserved c =
    let m : ℕ = c.args.blocks in
    let k : ℕ = c.args.block in
    let w : ℕ = c.args.width in
    let n : ℕ = c.loop-j.j in
    let below : n < w = c.loop-j-test.true in
    let fits : n * m + m ≤ w * m = row_fits n m w m below (omega arith) in
    let len = c.loop-j.invariant.count in
    let whole = c.requires.length in
    let some = c.requires.some in
    let inside : n * m + k < length c.loop-j.x = omega (arith, fits, len, whole, some) in
    let v : ℤ = c.signed.result in
    let f : FitsSigned w64 v = record { sfits = c.signed.type_inv } in
    simp to_z-of_z (block_more m k c.args.level c.args.seed c.args.x.now c.loop-j.x n c.loop-j.state c.noise-state.result v some inside c.noise-state.ensures c.signed.ensures c.loop-j.invariant)

pub returns-clause-here : goal.returns-clause-here
returns-clause-here c = λ j l. c.loop-j.invariant.here j (omega (arith, c.loop-j-test.false, l))

pub returns-clause-others : goal.returns-clause-others
returns-clause-others c = c.loop-j.invariant.others

pub returns-clause-seed : goal.returns-clause-seed
returns-clause-seed c =
    let e : c.loop-j.j ≡ c.args.width = omega arith in
    c.loop-j.invariant.stepped ∙ ap (λ k. seed_after k c.args.seed) e
