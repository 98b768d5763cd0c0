use Rattle.std.proofs.Common.{◌≡◌, ◌≤◌, arith, ◌∙◌, subst, sym}
use Rattle.std.specs.Prelude.{pos, ◌+ℤ◌, ◌*ℤ◌, ◌≤ℤ◌, unsigned_abs, FitsSigned}
use Rattle.std.specs.Int.{w64, w32, int_shr}
use Rattle.std.proofs.lemmas.Int.{ints, to_z-of_z, fits_signed_from_abs}
use Rattle.fixed_math.specs.Bitexact.{bitexact_cosine, cosine_of_square}
use Rattle.fixed_math.proofs.BitexactLemmas.{square_steps, cosine_range, cosine-square}
use Rattle.fixed_math.proofs.bitexact.bitexact_cos.Goals as goal

pub cosine_series-requires : goal.cosine_series-requires
cosine_series-requires c =
    let fx = c.ranges.x in
    let t = square_steps c.args.x c.requires.from c.requires.to in
    let f1 = t.x_fits in
    let f2 = t.square in
    let f3 = t.sum in
    let f4 = t.shifted in
    simp to_z-of_z t.size

pub overflow_cast-result : goal.overflow_cast-result
overflow_cast-result c =
    let fx = c.ranges.x in
    let t = square_steps c.args.x c.requires.from c.requires.to in
    let f1 = t.x_fits in
    let f2 = t.square in
    let f3 = t.sum in
    let f4 = t.shifted in
    let e : c.cosine_series.result ≡ cosine_of_square (int_shr (pos 4096 +ℤ c.args.x *ℤ c.args.x) 13) = simp to_z-of_z at c.cosine_series.ensures in
    let d : c.cosine_series.result ≡ bitexact_cosine c.args.x = e ∙ cosine-square c.args.x in
    let r = cosine_range c.args.x c.requires.from c.requires.to in
    let l : pos 1 ≤ℤ bitexact_cosine c.args.x = r.0 in
    let h : bitexact_cosine c.args.x ≤ℤ pos 32767 = r.1 in
    let s : unsigned_abs c.cosine_series.result ≤ 32767 = omega (arith, ints) in
    let f5 : FitsSigned w64 c.cosine_series.result = fits_signed_from_abs w64 c.cosine_series.result (omega arith) in
    simp to_z-of_z (fits_signed_from_abs w32 c.cosine_series.result (omega arith))

pub returns-clause-value : goal.returns-clause-value
returns-clause-value c =
    let fx = c.ranges.x in
    let t = square_steps c.args.x c.requires.from c.requires.to in
    let f1 = t.x_fits in
    let f2 = t.square in
    let f3 = t.sum in
    let f4 = t.shifted in
    let e : c.cosine_series.result ≡ cosine_of_square (int_shr (pos 4096 +ℤ c.args.x *ℤ c.args.x) 13) = simp to_z-of_z at c.cosine_series.ensures in
    let d : c.cosine_series.result ≡ bitexact_cosine c.args.x = e ∙ cosine-square c.args.x in
    let r = cosine_range c.args.x c.requires.from c.requires.to in
    let l : pos 1 ≤ℤ bitexact_cosine c.args.x = r.0 in
    let h : bitexact_cosine c.args.x ≤ℤ pos 32767 = r.1 in
    let s : unsigned_abs c.cosine_series.result ≤ 32767 = omega (arith, ints) in
    let f5 : FitsSigned w64 c.cosine_series.result = fits_signed_from_abs w64 c.cosine_series.result (omega arith) in
    let f6 : FitsSigned w32 c.cosine_series.result = fits_signed_from_abs w32 c.cosine_series.result (omega arith) in
    simp to_z-of_z d

pub returns-clause-low : goal.returns-clause-low
returns-clause-low c =
    let fx = c.ranges.x in
    let t = square_steps c.args.x c.requires.from c.requires.to in
    let f1 = t.x_fits in
    let f2 = t.square in
    let f3 = t.sum in
    let f4 = t.shifted in
    let e : c.cosine_series.result ≡ cosine_of_square (int_shr (pos 4096 +ℤ c.args.x *ℤ c.args.x) 13) = simp to_z-of_z at c.cosine_series.ensures in
    let d : c.cosine_series.result ≡ bitexact_cosine c.args.x = e ∙ cosine-square c.args.x in
    let r = cosine_range c.args.x c.requires.from c.requires.to in
    let l : pos 1 ≤ℤ bitexact_cosine c.args.x = r.0 in
    let h : bitexact_cosine c.args.x ≤ℤ pos 32767 = r.1 in
    let s : unsigned_abs c.cosine_series.result ≤ 32767 = omega (arith, ints) in
    let f5 : FitsSigned w64 c.cosine_series.result = fits_signed_from_abs w64 c.cosine_series.result (omega arith) in
    let f6 : FitsSigned w32 c.cosine_series.result = fits_signed_from_abs w32 c.cosine_series.result (omega arith) in
    let g : pos 1 ≤ℤ c.cosine_series.result = subst (λ z. pos 1 ≤ℤ z) (sym d) l in
    simp to_z-of_z g

pub returns-clause-high : goal.returns-clause-high
returns-clause-high c =
    let fx = c.ranges.x in
    let t = square_steps c.args.x c.requires.from c.requires.to in
    let f1 = t.x_fits in
    let f2 = t.square in
    let f3 = t.sum in
    let f4 = t.shifted in
    let e : c.cosine_series.result ≡ cosine_of_square (int_shr (pos 4096 +ℤ c.args.x *ℤ c.args.x) 13) = simp to_z-of_z at c.cosine_series.ensures in
    let d : c.cosine_series.result ≡ bitexact_cosine c.args.x = e ∙ cosine-square c.args.x in
    let r = cosine_range c.args.x c.requires.from c.requires.to in
    let l : pos 1 ≤ℤ bitexact_cosine c.args.x = r.0 in
    let h : bitexact_cosine c.args.x ≤ℤ pos 32767 = r.1 in
    let s : unsigned_abs c.cosine_series.result ≤ 32767 = omega (arith, ints) in
    let f5 : FitsSigned w64 c.cosine_series.result = fits_signed_from_abs w64 c.cosine_series.result (omega arith) in
    let f6 : FitsSigned w32 c.cosine_series.result = fits_signed_from_abs w32 c.cosine_series.result (omega arith) in
    let g : c.cosine_series.result ≤ℤ pos 32767 = subst (λ z. z ≤ℤ pos 32767) (sym d) h in
    simp to_z-of_z g
