use Rattle.std.proofs.Common.{◌≡◌, ◌+◌, ◌^◌, ◌∙◌, refl, arith, rules}
use Rattle.std.specs.Prelude.{ℤ, ◌+ℤ◌, FitsSigned}
use Rattle.std.specs.Int.{w64}
use Rattle.std.proofs.lemmas.Int.{to_z-of_z, fits_signed_from_abs}
use Rattle.mdct_fixed.specs.Rows.{ArePartsWithin}
use Rattle.mdct_fixed.proofs.FifthLemmas.{same_five, parts_wider, four_steps}
use Rattle.mdct_fixed.proofs.rows.five_parts.Goals as goal

pub more-two-requires-clause-parts : goal.more-two-requires-clause-parts
more-two-requires-clause-parts c =
    let r = c.requires.first.re in
    let x : ℤ = c.args.y.first.re in
    let fx : FitsSigned w64 x = fits_signed_from_abs w64 x (omega arith) in
    let within = simp to_z-of_z at c.more-one.ensures.within in
    let w1 : ArePartsWithin (2 ^ 46 + 2 ^ 48) c.more-one.result = within (2 ^ 46) (record { second = r; third = r; fourth = r; fifth = r }) in
    parts_wider (2 ^ 46 + 2 ^ 48) (2 ^ 52) c.more-one.result (omega arith) w1

pub more-three-requires-clause-parts : goal.more-three-requires-clause-parts
more-three-requires-clause-parts c =
    let r = c.requires.first.re in
    let x : ℤ = c.args.y.first.re in
    let fx : FitsSigned w64 x = fits_signed_from_abs w64 x (omega arith) in
    let within = simp to_z-of_z at c.more-one.ensures.within in
    let w1 : ArePartsWithin (2 ^ 46 + 2 ^ 48) c.more-one.result = within (2 ^ 46) (record { second = r; third = r; fourth = r; fifth = r }) in
    parts_wider (2 ^ 46 + 2 ^ 48 + 2 ^ 48) (2 ^ 52) c.more-two.result (omega arith) (c.more-two.ensures.within (2 ^ 46 + 2 ^ 48) w1)

pub more-requires-clause-parts : goal.more-requires-clause-parts
more-requires-clause-parts c =
    let r = c.requires.first.re in
    let x : ℤ = c.args.y.first.re in
    let fx : FitsSigned w64 x = fits_signed_from_abs w64 x (omega arith) in
    let within = simp to_z-of_z at c.more-one.ensures.within in
    let w1 : ArePartsWithin (2 ^ 46 + 2 ^ 48) c.more-one.result = within (2 ^ 46) (record { second = r; third = r; fourth = r; fifth = r }) in
    parts_wider (2 ^ 46 + 2 ^ 48 + 2 ^ 48 + 2 ^ 48) (2 ^ 52) c.more-three.result (omega arith) (c.more-three.ensures.within (2 ^ 46 + 2 ^ 48 + 2 ^ 48) (c.more-two.ensures.within (2 ^ 46 + 2 ^ 48) w1))

pub returns-clause-second : goal.returns-clause-second
returns-clause-second c =
    let r = c.requires.first.re in
    let x : ℤ = c.args.y.first.re in
    let fx : FitsSigned w64 x = fits_signed_from_abs w64 x (omega arith) in
    let fa : FitsSigned w64 c.by_fifths-a.result.one = search rules in
    let fb : FitsSigned w64 c.by_fifths-b.result.two = search rules in
    let fd : FitsSigned w64 c.by_fifths-c.result.three = search rules in
    let fe : FitsSigned w64 c.by_fifths-d.result.four = search rules in
    let e1 : c.more-one.result.second ≡ x +ℤ c.by_fifths-a.result.one = simp to_z-of_z at c.more-one.ensures.second in
    let e2 : c.more-two.result.second ≡ c.more-one.result.second +ℤ c.by_fifths-b.result.two = simp to_z-of_z at c.more-two.ensures.second in
    let e3 : c.more-three.result.second ≡ c.more-two.result.second +ℤ c.by_fifths-c.result.three = simp to_z-of_z at c.more-three.ensures.second in
    let e4 : c.more.result.second ≡ c.more-three.result.second +ℤ c.by_fifths-d.result.four = simp to_z-of_z at c.more.ensures.second in
    four_steps x c.by_fifths-a.result.one c.by_fifths-b.result.two c.by_fifths-c.result.three c.by_fifths-d.result.four c.more-one.result.second c.more-two.result.second c.more-three.result.second c.more.result.second e1 e2 e3 e4
    ∙ same_five {a = x} {b = c.by_fifths-a.result.one} {d = c.by_fifths-b.result.two} {e = c.by_fifths-c.result.three} {f = c.by_fifths-d.result.four} refl c.by_fifths-a.ensures.one c.by_fifths-b.ensures.two c.by_fifths-c.ensures.three c.by_fifths-d.ensures.four

pub returns-clause-third : goal.returns-clause-third
returns-clause-third c =
    let r = c.requires.first.re in
    let x : ℤ = c.args.y.first.re in
    let fx : FitsSigned w64 x = fits_signed_from_abs w64 x (omega arith) in
    let fa : FitsSigned w64 c.by_fifths-a.result.two = search rules in
    let fb : FitsSigned w64 c.by_fifths-b.result.four = search rules in
    let fd : FitsSigned w64 c.by_fifths-c.result.one = search rules in
    let fe : FitsSigned w64 c.by_fifths-d.result.three = search rules in
    let e1 : c.more-one.result.third ≡ x +ℤ c.by_fifths-a.result.two = simp to_z-of_z at c.more-one.ensures.third in
    let e2 : c.more-two.result.third ≡ c.more-one.result.third +ℤ c.by_fifths-b.result.four = simp to_z-of_z at c.more-two.ensures.third in
    let e3 : c.more-three.result.third ≡ c.more-two.result.third +ℤ c.by_fifths-c.result.one = simp to_z-of_z at c.more-three.ensures.third in
    let e4 : c.more.result.third ≡ c.more-three.result.third +ℤ c.by_fifths-d.result.three = simp to_z-of_z at c.more.ensures.third in
    four_steps x c.by_fifths-a.result.two c.by_fifths-b.result.four c.by_fifths-c.result.one c.by_fifths-d.result.three c.more-one.result.third c.more-two.result.third c.more-three.result.third c.more.result.third e1 e2 e3 e4
    ∙ same_five {a = x} {b = c.by_fifths-a.result.two} {d = c.by_fifths-b.result.four} {e = c.by_fifths-c.result.one} {f = c.by_fifths-d.result.three} refl c.by_fifths-a.ensures.two c.by_fifths-b.ensures.four c.by_fifths-c.ensures.one c.by_fifths-d.ensures.three

pub returns-clause-fourth : goal.returns-clause-fourth
returns-clause-fourth c =
    let r = c.requires.first.re in
    let x : ℤ = c.args.y.first.re in
    let fx : FitsSigned w64 x = fits_signed_from_abs w64 x (omega arith) in
    let fa : FitsSigned w64 c.by_fifths-a.result.three = search rules in
    let fb : FitsSigned w64 c.by_fifths-b.result.one = search rules in
    let fd : FitsSigned w64 c.by_fifths-c.result.four = search rules in
    let fe : FitsSigned w64 c.by_fifths-d.result.two = search rules in
    let e1 : c.more-one.result.fourth ≡ x +ℤ c.by_fifths-a.result.three = simp to_z-of_z at c.more-one.ensures.fourth in
    let e2 : c.more-two.result.fourth ≡ c.more-one.result.fourth +ℤ c.by_fifths-b.result.one = simp to_z-of_z at c.more-two.ensures.fourth in
    let e3 : c.more-three.result.fourth ≡ c.more-two.result.fourth +ℤ c.by_fifths-c.result.four = simp to_z-of_z at c.more-three.ensures.fourth in
    let e4 : c.more.result.fourth ≡ c.more-three.result.fourth +ℤ c.by_fifths-d.result.two = simp to_z-of_z at c.more.ensures.fourth in
    four_steps x c.by_fifths-a.result.three c.by_fifths-b.result.one c.by_fifths-c.result.four c.by_fifths-d.result.two c.more-one.result.fourth c.more-two.result.fourth c.more-three.result.fourth c.more.result.fourth e1 e2 e3 e4
    ∙ same_five {a = x} {b = c.by_fifths-a.result.three} {d = c.by_fifths-b.result.one} {e = c.by_fifths-c.result.four} {f = c.by_fifths-d.result.two} refl c.by_fifths-a.ensures.three c.by_fifths-b.ensures.one c.by_fifths-c.ensures.four c.by_fifths-d.ensures.two

pub returns-clause-fifth : goal.returns-clause-fifth
returns-clause-fifth c =
    let r = c.requires.first.re in
    let x : ℤ = c.args.y.first.re in
    let fx : FitsSigned w64 x = fits_signed_from_abs w64 x (omega arith) in
    let fa : FitsSigned w64 c.by_fifths-a.result.four = search rules in
    let fb : FitsSigned w64 c.by_fifths-b.result.three = search rules in
    let fd : FitsSigned w64 c.by_fifths-c.result.two = search rules in
    let fe : FitsSigned w64 c.by_fifths-d.result.one = search rules in
    let e1 : c.more-one.result.fifth ≡ x +ℤ c.by_fifths-a.result.four = simp to_z-of_z at c.more-one.ensures.fifth in
    let e2 : c.more-two.result.fifth ≡ c.more-one.result.fifth +ℤ c.by_fifths-b.result.three = simp to_z-of_z at c.more-two.ensures.fifth in
    let e3 : c.more-three.result.fifth ≡ c.more-two.result.fifth +ℤ c.by_fifths-c.result.two = simp to_z-of_z at c.more-three.ensures.fifth in
    let e4 : c.more.result.fifth ≡ c.more-three.result.fifth +ℤ c.by_fifths-d.result.one = simp to_z-of_z at c.more.ensures.fifth in
    four_steps x c.by_fifths-a.result.four c.by_fifths-b.result.three c.by_fifths-c.result.two c.by_fifths-d.result.one c.more-one.result.fifth c.more-two.result.fifth c.more-three.result.fifth c.more.result.fifth e1 e2 e3 e4
    ∙ same_five {a = x} {b = c.by_fifths-a.result.four} {d = c.by_fifths-b.result.three} {e = c.by_fifths-c.result.two} {f = c.by_fifths-d.result.one} refl c.by_fifths-a.ensures.four c.by_fifths-b.ensures.three c.by_fifths-c.ensures.two c.by_fifths-d.ensures.one
