use Rattle.std.proofs.Common.{◌≡◌, ◌≤◌, ◌^◌, arith, ap, ◌∙◌}
use Rattle.std.specs.Prelude.{ℤ, pos, negsuc, ◌+ℤ◌, ◌-ℤ◌, unsigned_abs}
use Rattle.std.proofs.lemmas.Int.{ints, to_z-of_z}
use Rattle.fixed_math.specs.Bitexact.{product}
use Rattle.fixed_math.proofs.RoundingLemmas.{product_within}
use Rattle.fixed_math.proofs.BitexactLemmas.{product_size, product_size_right, series_steps}
use Rattle.fixed_math.proofs.bitexact.cosine_series.Goals as goal

pub mulr-middle-requires-clause-product : goal.mulr-middle-requires-clause-product
mulr-middle-requires-clause-product c =
    let t : ℤ = c.args.t in
    let ft = c.ranges.t in
    let ea : c.mulr-inner.result ≡ product (negsuc 625) t = simp to_z-of_z at c.mulr-inner.ensures.value in
    let sa : unsigned_abs c.mulr-inner.result ≤ 626 = product_size_right (negsuc 625) t c.mulr-inner.result 626 (omega arith) c.requires ea in
    let s = series_steps t c.mulr-inner.result (pos 0) (pos 0) c.requires (omega arith) (omega arith) (omega arith) in
    let fa = s.a_fits in
    let fi = s.inner in
    let si : unsigned_abs (pos 8277 +ℤ c.mulr-inner.result) ≤ 2 ^ 15 = omega (arith, ints) in
    simp to_z-of_z (omega (arith, product_within t (pos 8277 +ℤ c.mulr-inner.result) (2 ^ 15) (2 ^ 15) c.requires si))

pub mulr-requires-clause-product : goal.mulr-requires-clause-product
mulr-requires-clause-product c =
    let t : ℤ = c.args.t in
    let ft = c.ranges.t in
    let ea : c.mulr-inner.result ≡ product (negsuc 625) t = simp to_z-of_z at c.mulr-inner.ensures.value in
    let sa : unsigned_abs c.mulr-inner.result ≤ 626 = product_size_right (negsuc 625) t c.mulr-inner.result 626 (omega arith) c.requires ea in
    let s = series_steps t c.mulr-inner.result (pos 0) (pos 0) c.requires (omega arith) (omega arith) (omega arith) in
    let fa = s.a_fits in
    let fi = s.inner in
    let eb : c.mulr-middle.result ≡ product t (pos 8277 +ℤ c.mulr-inner.result) = simp to_z-of_z at c.mulr-middle.ensures.value in
    let sb : unsigned_abs c.mulr-middle.result ≤ 8903 = product_size t (pos 8277 +ℤ c.mulr-inner.result) c.mulr-middle.result 8903 c.requires (omega (arith, ints)) eb in
    let v = series_steps t c.mulr-inner.result c.mulr-middle.result (pos 0) c.requires (omega arith) (omega arith) (omega arith) in
    let fb = v.b_fits in
    let fm = v.middle in
    let sm : unsigned_abs (negsuc 7650 +ℤ c.mulr-middle.result) ≤ 2 ^ 15 = omega (arith, ints) in
    simp to_z-of_z (omega (arith, product_within t (negsuc 7650 +ℤ c.mulr-middle.result) (2 ^ 15) (2 ^ 15) c.requires sm))

pub overflow_add-result-2 : goal.overflow_add-result-2
overflow_add-result-2 c =
    let t : ℤ = c.args.t in
    let ft = c.ranges.t in
    let ea : c.mulr-inner.result ≡ product (negsuc 625) t = simp to_z-of_z at c.mulr-inner.ensures.value in
    let sa : unsigned_abs c.mulr-inner.result ≤ 626 = product_size_right (negsuc 625) t c.mulr-inner.result 626 (omega arith) c.requires ea in
    let s = series_steps t c.mulr-inner.result (pos 0) (pos 0) c.requires (omega arith) (omega arith) (omega arith) in
    let fa = s.a_fits in
    let fi = s.inner in
    let eb : c.mulr-middle.result ≡ product t (pos 8277 +ℤ c.mulr-inner.result) = simp to_z-of_z at c.mulr-middle.ensures.value in
    let sb : unsigned_abs c.mulr-middle.result ≤ 8903 = product_size t (pos 8277 +ℤ c.mulr-inner.result) c.mulr-middle.result 8903 c.requires (omega (arith, ints)) eb in
    let v = series_steps t c.mulr-inner.result c.mulr-middle.result (pos 0) c.requires (omega arith) (omega arith) (omega arith) in
    let fb = v.b_fits in
    let fm = v.middle in
    let ed : c.mulr.result ≡ product t (negsuc 7650 +ℤ c.mulr-middle.result) = simp to_z-of_z at c.mulr.ensures.value in
    let sd : unsigned_abs c.mulr.result ≤ 16554 = product_size t (negsuc 7650 +ℤ c.mulr-middle.result) c.mulr.result 16554 c.requires (omega (arith, ints)) ed in
    let w = series_steps t c.mulr-inner.result c.mulr-middle.result c.mulr.result c.requires (omega arith) (omega arith) (omega arith) in
    let fd = w.d_fits in
    let fr = w.rest in
    let ff = w.first in
    simp to_z-of_z w.sum

pub returns : goal.returns
returns c =
    let t : ℤ = c.args.t in
    let ft = c.ranges.t in
    let ea : c.mulr-inner.result ≡ product (negsuc 625) t = simp to_z-of_z at c.mulr-inner.ensures.value in
    let sa : unsigned_abs c.mulr-inner.result ≤ 626 = product_size_right (negsuc 625) t c.mulr-inner.result 626 (omega arith) c.requires ea in
    let s = series_steps t c.mulr-inner.result (pos 0) (pos 0) c.requires (omega arith) (omega arith) (omega arith) in
    let fa = s.a_fits in
    let fi = s.inner in
    let eb : c.mulr-middle.result ≡ product t (pos 8277 +ℤ c.mulr-inner.result) = simp to_z-of_z at c.mulr-middle.ensures.value in
    let sb : unsigned_abs c.mulr-middle.result ≤ 8903 = product_size t (pos 8277 +ℤ c.mulr-inner.result) c.mulr-middle.result 8903 c.requires (omega (arith, ints)) eb in
    let v = series_steps t c.mulr-inner.result c.mulr-middle.result (pos 0) c.requires (omega arith) (omega arith) (omega arith) in
    let fb = v.b_fits in
    let fm = v.middle in
    let ed : c.mulr.result ≡ product t (negsuc 7650 +ℤ c.mulr-middle.result) = simp to_z-of_z at c.mulr.ensures.value in
    let sd : unsigned_abs c.mulr.result ≤ 16554 = product_size t (negsuc 7650 +ℤ c.mulr-middle.result) c.mulr.result 16554 c.requires (omega (arith, ints)) ed in
    let w = series_steps t c.mulr-inner.result c.mulr-middle.result c.mulr.result c.requires (omega arith) (omega arith) (omega arith) in
    let fd = w.d_fits in
    let fr = w.rest in
    let ff = w.first in
    let fs = w.sum in
    let e = ed ∙ ap (λ z. product t (negsuc 7650 +ℤ z)) (eb ∙ ap (λ z. product t (pos 8277 +ℤ z)) ea) in
    simp to_z-of_z (ap (λ z. (pos 1 +ℤ (pos 32767 -ℤ t)) +ℤ z) e)
