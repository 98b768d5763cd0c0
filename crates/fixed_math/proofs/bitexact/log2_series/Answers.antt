use Rattle.std.proofs.Common.{◌≡◌, ℕ, ◌-◌, ◌*◌, ◌%◌, ◌<◌, ◌≤◌, ◌^◌, arith, ap, ◌∙◌}
use Rattle.std.specs.Prelude.{ℤ, pos, negsuc, ◌+ℤ◌, ◌*ℤ◌, unsigned_abs}
use Rattle.std.specs.Int.{w64, cast_signed as to_z}
use Rattle.std.proofs.lemmas.Int.{to_z-of_z}
use Rattle.fixed_math.specs.Root.{bit_length_of}
use Rattle.fixed_math.specs.Bitexact.{product, aligned, curve}
use Rattle.fixed_math.proofs.BitexactLemmas.{product_size, bits_15, aligned_small, aligned-is, log2_steps}
use Rattle.fixed_math.proofs.bitexact.log2_series.Goals as goal

pub overflow_sub-x : goal.overflow_sub-x
overflow_sub-x c = omega (arith, bits_15 c.args.s (omega arith))

pub mulr-requires-2-clause-product : goal.mulr-requires-2-clause-product
mulr-requires-2-clause-product c =
    let s : ℕ = c.args.s in
    let n : ℕ = c.bit_length-length.result in
    let h : s < 2 ^ 15 = omega arith in
    let en : n ≡ bit_length_of s = c.bit_length-length.ensures in
    let x : ℤ = pos (aligned s) in
    let ax : to_z w64 (s * 2 ^ (15 - n) % 2 ^ 64) ≡ x = rw en (aligned-is s h) in
    let sx : unsigned_abs x ≤ 2 ^ 15 = aligned_small s h in
    let ea : c.mulr.result ≡ product x (negsuc 2596) = simp ax at c.mulr.ensures.value in
    let sa : unsigned_abs c.mulr.result ≤ 2597 = product_size x (negsuc 2596) c.mulr.result 2597 sx (omega arith) ea in
    let ln : n ≤ 15 = omega (arith, bits_15 s h) in
    let t = log2_steps n x c.mulr.result (pos 0) ln sx sa (omega arith) in
    let fa = t.a_fits in
    let fi = t.inner in
    simp (to_z-of_z, ax) t.product

pub overflow_add-result : goal.overflow_add-result
overflow_add-result c =
    let s : ℕ = c.args.s in
    let n : ℕ = c.bit_length-length.result in
    let h : s < 2 ^ 15 = omega arith in
    let en : n ≡ bit_length_of s = c.bit_length-length.ensures in
    let x : ℤ = pos (aligned s) in
    let ax : to_z w64 (s * 2 ^ (15 - n) % 2 ^ 64) ≡ x = rw en (aligned-is s h) in
    let sx : unsigned_abs x ≤ 2 ^ 15 = aligned_small s h in
    let ea : c.mulr.result ≡ product x (negsuc 2596) = simp ax at c.mulr.ensures.value in
    let sa : unsigned_abs c.mulr.result ≤ 2597 = product_size x (negsuc 2596) c.mulr.result 2597 sx (omega arith) ea in
    let ln : n ≤ 15 = omega (arith, bits_15 s h) in
    let t = log2_steps n x c.mulr.result (pos 0) ln sx sa (omega arith) in
    let fa = t.a_fits in
    let fi = t.inner in
    let eb : c.mulr-2.result ≡ product x (c.mulr.result +ℤ pos 7932) = simp (to_z-of_z, ax) at c.mulr-2.ensures.value in
    let sb : unsigned_abs c.mulr-2.result ≤ 2 ^ 15 = product_size x (c.mulr.result +ℤ pos 7932) c.mulr-2.result (2 ^ 15) sx t.inner_size eb in
    let u = log2_steps n x c.mulr.result c.mulr-2.result ln sx sa sb in
    let fb = u.b_fits in
    let fn = u.n_pos in
    let fl = u.length in
    simp (to_z-of_z, fn) u.sum

pub returns-clause-value : goal.returns-clause-value
returns-clause-value c =
    let s : ℕ = c.args.s in
    let n : ℕ = c.bit_length-length.result in
    let h : s < 2 ^ 15 = omega arith in
    let en : n ≡ bit_length_of s = c.bit_length-length.ensures in
    let x : ℤ = pos (aligned s) in
    let ax : to_z w64 (s * 2 ^ (15 - n) % 2 ^ 64) ≡ x = rw en (aligned-is s h) in
    let sx : unsigned_abs x ≤ 2 ^ 15 = aligned_small s h in
    let ea : c.mulr.result ≡ product x (negsuc 2596) = simp ax at c.mulr.ensures.value in
    let sa : unsigned_abs c.mulr.result ≤ 2597 = product_size x (negsuc 2596) c.mulr.result 2597 sx (omega arith) ea in
    let ln : n ≤ 15 = omega (arith, bits_15 s h) in
    let t = log2_steps n x c.mulr.result (pos 0) ln sx sa (omega arith) in
    let fa = t.a_fits in
    let fi = t.inner in
    let eb : c.mulr-2.result ≡ product x (c.mulr.result +ℤ pos 7932) = simp (to_z-of_z, ax) at c.mulr-2.ensures.value in
    let sb : unsigned_abs c.mulr-2.result ≤ 2 ^ 15 = product_size x (c.mulr.result +ℤ pos 7932) c.mulr-2.result (2 ^ 15) sx t.inner_size eb in
    let u = log2_steps n x c.mulr.result c.mulr-2.result ln sx sa sb in
    let fb = u.b_fits in
    let fn = u.n_pos in
    let fl = u.length in
    let fs = u.sum in
    let e : c.mulr-2.result ≡ curve x = eb ∙ ap (λ z. product x (z +ℤ pos 7932)) ea in
    let m : pos n *ℤ pos 2048 ≡ pos (bit_length_of s * 2048) = ap (λ k. pos (k * 2048)) en in
    simp (to_z-of_z, fn) (ap (λ z. pos n *ℤ pos 2048 +ℤ z) e ∙ ap (λ z. z +ℤ curve x) m)

pub returns-clause-size : goal.returns-clause-size
returns-clause-size c =
    let s : ℕ = c.args.s in
    let n : ℕ = c.bit_length-length.result in
    let h : s < 2 ^ 15 = omega arith in
    let en : n ≡ bit_length_of s = c.bit_length-length.ensures in
    let x : ℤ = pos (aligned s) in
    let ax : to_z w64 (s * 2 ^ (15 - n) % 2 ^ 64) ≡ x = rw en (aligned-is s h) in
    let sx : unsigned_abs x ≤ 2 ^ 15 = aligned_small s h in
    let ea : c.mulr.result ≡ product x (negsuc 2596) = simp ax at c.mulr.ensures.value in
    let sa : unsigned_abs c.mulr.result ≤ 2597 = product_size x (negsuc 2596) c.mulr.result 2597 sx (omega arith) ea in
    let ln : n ≤ 15 = omega (arith, bits_15 s h) in
    let t = log2_steps n x c.mulr.result (pos 0) ln sx sa (omega arith) in
    let fa = t.a_fits in
    let fi = t.inner in
    let eb : c.mulr-2.result ≡ product x (c.mulr.result +ℤ pos 7932) = simp (to_z-of_z, ax) at c.mulr-2.ensures.value in
    let sb : unsigned_abs c.mulr-2.result ≤ 2 ^ 15 = product_size x (c.mulr.result +ℤ pos 7932) c.mulr-2.result (2 ^ 15) sx t.inner_size eb in
    let u = log2_steps n x c.mulr.result c.mulr-2.result ln sx sa sb in
    let fb = u.b_fits in
    let fn = u.n_pos in
    let fl = u.length in
    let fs = u.sum in
    simp (to_z-of_z, fn) u.size
