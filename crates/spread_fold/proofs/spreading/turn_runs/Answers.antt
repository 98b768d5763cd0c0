use Rattle.std.proofs.Common.{◌≡◌, ℕ, ◌+◌, ◌-◌, ◌*◌, ◌/◌, ◌≤◌, ◌<◌, ◌^◌, arith, length, take, drop, ◌++◌, List}
use Rattle.std.specs.Prelude.{ℤ, unsigned_abs, All}
use Rattle.std.proofs.lemmas.Int.{to_z-of_z}
use Rattle.std.proofs.lemmas.List.{length-take, length-drop}
use Rattle.spread_fold.specs.Spreading.{spread_runs, spread_run}
use Rattle.spread_fold.proofs.SpreadLemmas.{runs_begun, runs_more, runs_ended, runs_within, runs_whole, keeps_going, all_run, small_below}
use Rattle.spread_fold.proofs.spreading.turn_runs.Goals as goal

pub loop-b-init : goal.loop-b-init
loop-b-init c =
    let fc = c.ranges.c in
    let fs = c.ranges.s in
    simp to_z-of_z (runs_begun c.args.forward c.args.t c.args.c c.args.s (length c.args.x.now / c.args.blocks) c.args.x.now)

pub turn_run-requires-clause-count : goal.turn_run-requires-clause-count
turn_run-requires-clause-count c =
    let n : ℕ = length c.args.x.now / c.args.blocks in
    let b : ℕ = c.loop-b.b in
    omega (arith, length-take ((b + 1) * n - b * n) (drop (b * n) c.loop-b.x), length-drop (b * n) c.loop-b.x, c.loop-b.auto.x, c.requires.count)

pub turn_run-requires-clause-items : goal.turn_run-requires-clause-items
turn_run-requires-clause-items c =
    let fc = c.ranges.c in
    let fs = c.ranges.s in
    let xs : List ℤ = c.args.x.now in
    let n : ℕ = length xs / c.args.blocks in
    let b : ℕ = c.loop-b.b in
    let e : c.loop-b.x ≡ spread_runs c.args.forward c.args.t c.args.c c.args.s n b xs ++ drop (b * n) xs = simp to_z-of_z at c.loop-b.invariant in
    all_run (λ v. unsigned_abs v < 2 ^ 20) ((b + 1) * n - b * n) (b * n) c.loop-b.x
    (keeps_going (λ v. unsigned_abs v < 2 ^ 20) small_below c.args.forward c.args.t c.args.c c.args.s n b xs c.loop-b.x e c.requires.items)

pub loop-b-preserved : goal.loop-b-preserved
loop-b-preserved c =
    let fc = c.ranges.c in
    let fs = c.ranges.s in
    let xs : List ℤ = c.args.x.now in
    let n : ℕ = length xs / c.args.blocks in
    let b : ℕ = c.loop-b.b in
    let e : c.loop-b.x ≡ spread_runs c.args.forward c.args.t c.args.c c.args.s n b xs ++ drop (b * n) xs = simp to_z-of_z at c.loop-b.invariant in
    let f : c.turn_run.new.x ≡ spread_run c.args.forward c.args.t c.args.c c.args.s (take ((b + 1) * n - b * n) (drop (b * n) c.loop-b.x)) = simp to_z-of_z at c.turn_run.ensures in
    simp to_z-of_z
    (runs_more c.args.forward c.args.t c.args.c c.args.s n b ((b + 1) * n - b * n) xs c.loop-b.x c.turn_run.new.x (omega arith)
    (runs_within (length xs) b c.args.blocks c.requires.blocks c.loop-b-test.true) e f)

pub returns : goal.returns
returns c =
    let fc = c.ranges.c in
    let fs = c.ranges.s in
    let xs : List ℤ = c.args.x.now in
    let n : ℕ = length xs / c.args.blocks in
    let e : c.loop-b.x ≡ spread_runs c.args.forward c.args.t c.args.c c.args.s n c.loop-b.b xs ++ drop (c.loop-b.b * n) xs = simp to_z-of_z at c.loop-b.invariant in
    runs_ended c.args.forward c.args.t c.args.c c.args.s n c.loop-b.b c.args.blocks xs c.loop-b.x (omega (arith, c.loop-b.auto.b-end, c.loop-b-test.false))
    (runs_whole (length xs) c.args.blocks c.requires.blocks c.requires.runs) e
