use Rattle.std.proofs.Common.{◌≡◌, ℕ, ◌+◌, ◌*◌, ◌<◌, arith, subst, sym, length, List}
use Rattle.std.specs.Prelude.{ℤ, ◌+ℤ◌, FitsSigned}
use Rattle.std.specs.Int.{w64, cast_signed as to_z}
use Rattle.std.proofs.lemmas.Int.{to_z-of_z, fits_signed_from_abs}
use Rattle.fixed_math.specs.Items.{item}
use Rattle.post_filter.specs.Deemphasis.{remainder}
use Rattle.post_filter.proofs.DeemphasisLemmas.{Filtered, filtered_step, filtered_sizes, filtered_end, deemphasized_is}
use Rattle.post_filter.proofs.emphasis.deemphasis.Goals as goal

pub loop-four-preserved : goal.loop-four-preserved
loop-four-preserved c =
    let m : ℤ = c.args.memory.now in
    let xs : List ℤ = c.args.x.now in
    let ys : List ℤ = c.loop-four.x in
    let n : ℕ = 4 * c.loop-four.four in
    let y : ℤ = to_z w64 c.loop-four.y-bits in
    let whole : length ys ≡ length xs = c.loop-four.auto.x in
    let room : n + 3 < length xs = omega (arith, c.loop-four-test.true) in
    let a : ℤ = c.put_output-y.result in
    let fits_a : FitsSigned w64 a = fits_signed_from_abs w64 a (omega (arith, c.put_output-y.ensures.size)) in
    let value_a : a ≡ item ys n +ℤ remainder y = c.put_output-y.ensures.value in
    let list_a = c.put_output-y.ensures.list in
    let count_a : length c.put_output-y.new.x ≡ length xs = omega (arith, c.put_output-y.auto.x) in
    let filtered_a : Filtered m xs c.put_output-y.new.x (n + 1) a = filtered_step m xs ys c.put_output-y.new.x n (n + 1) y a (omega arith) (omega arith) value_a c.put_output-y.ensures.size list_a c.loop-four.invariant in
    let b : ℤ = c.put_output-y-in-loop-four.result in
    let fits_b : FitsSigned w64 b = fits_signed_from_abs w64 b (omega (arith, c.put_output-y-in-loop-four.ensures.size)) in
    let value_b : b ≡ item c.put_output-y.new.x (n + 1) +ℤ remainder a = simp to_z-of_z at c.put_output-y-in-loop-four.ensures.value in
    let list_b = c.put_output-y-in-loop-four.ensures.list in
    let count_b : length c.put_output-y-in-loop-four.new.x ≡ length xs = omega (arith, c.put_output-y-in-loop-four.auto.x) in
    let filtered_b : Filtered m xs c.put_output-y-in-loop-four.new.x (n + 2) b = filtered_step m xs c.put_output-y.new.x c.put_output-y-in-loop-four.new.x (n + 1) (n + 2) a b (omega arith) (omega arith) value_b c.put_output-y-in-loop-four.ensures.size list_b filtered_a in
    let d : ℤ = c.put_output-y-in-loop-four-2.result in
    let fits_d : FitsSigned w64 d = fits_signed_from_abs w64 d (omega (arith, c.put_output-y-in-loop-four-2.ensures.size)) in
    let value_d : d ≡ item c.put_output-y-in-loop-four.new.x (n + 2) +ℤ remainder b = simp to_z-of_z at c.put_output-y-in-loop-four-2.ensures.value in
    let list_d = c.put_output-y-in-loop-four-2.ensures.list in
    let count_d : length c.put_output-y-in-loop-four-2.new.x ≡ length xs = omega (arith, c.put_output-y-in-loop-four-2.auto.x) in
    let filtered_d : Filtered m xs c.put_output-y-in-loop-four-2.new.x (n + 3) d = filtered_step m xs c.put_output-y-in-loop-four.new.x c.put_output-y-in-loop-four-2.new.x (n + 2) (n + 3) b d (omega arith) (omega arith) value_d c.put_output-y-in-loop-four-2.ensures.size list_d filtered_b in
    let e : ℤ = c.put_output-y-in-loop-four-3.result in
    let fits_e : FitsSigned w64 e = fits_signed_from_abs w64 e (omega (arith, c.put_output-y-in-loop-four-3.ensures.size)) in
    let value_e : e ≡ item c.put_output-y-in-loop-four-2.new.x (n + 3) +ℤ remainder d = simp to_z-of_z at c.put_output-y-in-loop-four-3.ensures.value in
    let list_e = c.put_output-y-in-loop-four-3.ensures.list in
    let count_e : length c.put_output-y-in-loop-four-3.new.x ≡ length xs = omega (arith, c.put_output-y-in-loop-four-3.auto.x) in
    let filtered_e : Filtered m xs c.put_output-y-in-loop-four-3.new.x (n + 4) e = filtered_step m xs c.put_output-y-in-loop-four-2.new.x c.put_output-y-in-loop-four-3.new.x (n + 3) (n + 4) d e (omega arith) (omega arith) value_e c.put_output-y-in-loop-four-3.ensures.size list_e filtered_d in
    let last : n + 4 ≡ 4 * (c.loop-four.four + 1) = omega arith in
    subst (λ z. Filtered m xs c.put_output-y-in-loop-four-3.new.x (4 * (c.loop-four.four + 1)) z) (sym (to_z-of_z w64 e fits_e)) (subst (λ k. Filtered m xs c.put_output-y-in-loop-four-3.new.x k e) last filtered_e)

pub loop-i-preserved : goal.loop-i-preserved
loop-i-preserved c =
    let m : ℤ = c.args.memory.now in
    let xs : List ℤ = c.args.x.now in
    let ys : List ℤ = c.loop-i.x in
    let i : ℕ = c.loop-i.i in
    let y : ℤ = to_z w64 c.loop-i.y-bits in
    let v : ℤ = c.put_output-y-in-loop-i.result in
    let fits : FitsSigned w64 v = fits_signed_from_abs w64 v (omega (arith, c.put_output-y-in-loop-i.ensures.size)) in
    let value : v ≡ item ys i +ℤ remainder y = c.put_output-y-in-loop-i.ensures.value in
    let inside : i < length ys = omega (arith, c.loop-i.auto.x, c.loop-i-test.true) in
    subst (λ z. Filtered m xs c.put_output-y-in-loop-i.new.x (i + 1) z) (sym (to_z-of_z w64 v fits)) (filtered_step m xs ys c.put_output-y-in-loop-i.new.x i (i + 1) y v inside (omega arith) value c.put_output-y-in-loop-i.ensures.size c.put_output-y-in-loop-i.ensures.list c.loop-i.invariant)

pub returns-clause-sizes : goal.returns-clause-sizes
returns-clause-sizes c = filtered_sizes c.args.memory.now c.args.x.now c.loop-i.x c.loop-i.i (to_z w64 c.loop-i.y-bits) (omega arith) (omega (arith, c.loop-i.auto.x, c.loop-four.auto.x)) c.loop-i.invariant

pub returns-clause-list : goal.returns-clause-list
returns-clause-list c =
    deemphasized_is c.args.memory.now c.args.x.now c.loop-i.x
    (filtered_end c.args.memory.now c.args.x.now c.loop-i.x c.loop-i.i (to_z w64 c.loop-i.y-bits) (omega arith) (omega (arith, c.loop-i.auto.x, c.loop-four.auto.x)) c.loop-i.invariant)
