use Rattle.std.proofs.Common.{◌≡◌, true, false, ap, ◌∙◌, arith, inl, inr, List}
use Rattle.std.specs.Prelude.{ℤ, pos}
use Rattle.std.proofs.lemmas.Int.{to_z-of_z}
use Rattle.fixed_math.specs.Unit.{energy, unit_of}
use Rattle.spread_fold.specs.Stereo.{channel}
use Rattle.spread_fold.proofs.StereoLemmas.{merged_faint, merged_whole, channel_size, merged_size}
use Rattle.spread_fold.proofs.stereo.merge.Goals as goal

pub returns-then-energies-lt-FAINT-clause-left : goal.returns-then-energies-lt-FAINT-clause-left
returns-then-energies-lt-FAINT-clause-left c =
    let fm = c.ranges.mid in
    let xs : List ℤ = c.args.x.now in
    let ys : List ℤ = c.args.y.now in
    let a : c.energies_of-energies.result.left ≡ energy (channel c.args.mid false xs ys) = simp to_z-of_z at c.energies_of-energies.ensures.left in
    merged_faint c.args.mid false xs ys (inl (omega arith))

pub returns-then-energies-lt-FAINT-clause-right : goal.returns-then-energies-lt-FAINT-clause-right
returns-then-energies-lt-FAINT-clause-right c =
    let fm = c.ranges.mid in
    let xs : List ℤ = c.args.x.now in
    let ys : List ℤ = c.args.y.now in
    let a : c.energies_of-energies.result.left ≡ energy (channel c.args.mid false xs ys) = simp to_z-of_z at c.energies_of-energies.ensures.left in
    c.copy_from_slice.ensures.after ∙ merged_faint c.args.mid true xs ys (inl (omega arith))

pub returns-then-energies-lt-FAINT-2-clause-left : goal.returns-then-energies-lt-FAINT-2-clause-left
returns-then-energies-lt-FAINT-2-clause-left c =
    let fm = c.ranges.mid in
    let xs : List ℤ = c.args.x.now in
    let ys : List ℤ = c.args.y.now in
    let a : c.energies_of-energies.result.left ≡ energy (channel c.args.mid false xs ys) = simp to_z-of_z at c.energies_of-energies.ensures.left in
    let b : c.energies_of-energies.result.right ≡ energy (channel c.args.mid true xs ys) = simp to_z-of_z at c.energies_of-energies.ensures.right in
    merged_faint c.args.mid false xs ys (inr (omega arith))

pub returns-then-energies-lt-FAINT-2-clause-right : goal.returns-then-energies-lt-FAINT-2-clause-right
returns-then-energies-lt-FAINT-2-clause-right c =
    let fm = c.ranges.mid in
    let xs : List ℤ = c.args.x.now in
    let ys : List ℤ = c.args.y.now in
    let a : c.energies_of-energies.result.left ≡ energy (channel c.args.mid false xs ys) = simp to_z-of_z at c.energies_of-energies.ensures.left in
    let b : c.energies_of-energies.result.right ≡ energy (channel c.args.mid true xs ys) = simp to_z-of_z at c.energies_of-energies.ensures.right in
    c.copy_from_slice-then-energies-lt-FAINT-2.ensures.after ∙ merged_faint c.args.mid true xs ys (inr (omega arith))

pub returns-clause-left : goal.returns-clause-left
returns-clause-left c =
    let fm = c.ranges.mid in
    let xs : List ℤ = c.args.x.now in
    let ys : List ℤ = c.args.y.now in
    let a : c.energies_of-energies.result.left ≡ energy (channel c.args.mid false xs ys) = simp to_z-of_z at c.energies_of-energies.ensures.left in
    let b : c.energies_of-energies.result.right ≡ energy (channel c.args.mid true xs ys) = simp to_z-of_z at c.energies_of-energies.ensures.right in
    let l : c.separate.new.x ≡ channel c.args.mid false xs ys = simp to_z-of_z at c.separate.ensures.left in
    c.unit.ensures.value ∙ ap (unit_of (pos 32768)) l ∙ merged_whole c.args.mid false xs ys (omega arith) (omega arith)

pub returns-clause-right : goal.returns-clause-right
returns-clause-right c =
    let fm = c.ranges.mid in
    let xs : List ℤ = c.args.x.now in
    let ys : List ℤ = c.args.y.now in
    let a : c.energies_of-energies.result.left ≡ energy (channel c.args.mid false xs ys) = simp to_z-of_z at c.energies_of-energies.ensures.left in
    let b : c.energies_of-energies.result.right ≡ energy (channel c.args.mid true xs ys) = simp to_z-of_z at c.energies_of-energies.ensures.right in
    let l : c.separate.new.y ≡ channel c.args.mid true xs ys = simp to_z-of_z at c.separate.ensures.right in
    c.unit-2.ensures.value ∙ ap (unit_of (pos 32768)) l ∙ merged_whole c.args.mid true xs ys (omega arith) (omega arith)

pub unit-requires-clause-items : goal.unit-requires-clause-items
unit-requires-clause-items c =
    let fm = c.ranges.mid in
    let xs : List ℤ = c.args.x.now in
    let ys : List ℤ = c.args.y.now in
    let l : c.separate.new.x ≡ channel c.args.mid false xs ys = simp to_z-of_z at c.separate.ensures.left in
    channel_size c.args.mid false xs ys c.separate.new.x c.requires.mid_low c.requires.mid_high c.requires.middle c.requires.side l

pub unit-requires-2-clause-items : goal.unit-requires-2-clause-items
unit-requires-2-clause-items c =
    let fm = c.ranges.mid in
    let xs : List ℤ = c.args.x.now in
    let ys : List ℤ = c.args.y.now in
    let l : c.separate.new.y ≡ channel c.args.mid true xs ys = simp to_z-of_z at c.separate.ensures.right in
    channel_size c.args.mid true xs ys c.separate.new.y c.requires.mid_low c.requires.mid_high c.requires.middle c.requires.side l

pub returns-then-energies-lt-FAINT-clause-left_size : goal.returns-then-energies-lt-FAINT-clause-left_size
returns-then-energies-lt-FAINT-clause-left_size c = λ m s h. merged_size c.args.mid false c.args.x.now c.args.y.now _ m c.requires.mid_low c.requires.mid_high c.requires.count c.requires.middle c.requires.side (returns-then-energies-lt-FAINT-clause-left c) s h

pub returns-then-energies-lt-FAINT-clause-right_size : goal.returns-then-energies-lt-FAINT-clause-right_size
returns-then-energies-lt-FAINT-clause-right_size c = λ m s h. merged_size c.args.mid true c.args.x.now c.args.y.now _ m c.requires.mid_low c.requires.mid_high c.requires.count c.requires.middle c.requires.side (returns-then-energies-lt-FAINT-clause-right c) s h

pub returns-then-energies-lt-FAINT-2-clause-left_size : goal.returns-then-energies-lt-FAINT-2-clause-left_size
returns-then-energies-lt-FAINT-2-clause-left_size c = λ m s h. merged_size c.args.mid false c.args.x.now c.args.y.now _ m c.requires.mid_low c.requires.mid_high c.requires.count c.requires.middle c.requires.side (returns-then-energies-lt-FAINT-2-clause-left c) s h

pub returns-then-energies-lt-FAINT-2-clause-right_size : goal.returns-then-energies-lt-FAINT-2-clause-right_size
returns-then-energies-lt-FAINT-2-clause-right_size c = λ m s h. merged_size c.args.mid true c.args.x.now c.args.y.now _ m c.requires.mid_low c.requires.mid_high c.requires.count c.requires.middle c.requires.side (returns-then-energies-lt-FAINT-2-clause-right c) s h

pub returns-clause-left_size : goal.returns-clause-left_size
returns-clause-left_size c = λ m s h. merged_size c.args.mid false c.args.x.now c.args.y.now _ m c.requires.mid_low c.requires.mid_high c.requires.count c.requires.middle c.requires.side (returns-clause-left c) s h

pub returns-clause-right_size : goal.returns-clause-right_size
returns-clause-right_size c = λ m s h. merged_size c.args.mid true c.args.x.now c.args.y.now _ m c.requires.mid_low c.requires.mid_high c.requires.count c.requires.middle c.requires.side (returns-clause-right c) s h
