use Rattle.std.proofs.Common.{◌≡◌, ℕ, ◌-◌, ◌*◌, ◌^◌, ◌<◌, ◌≤◌, ◌∙◌, ap, arith, rules}
use Rattle.std.specs.Prelude.{◌+ℤ◌, unsigned_abs, FitsSigned}
use Rattle.std.specs.Int.{w64}
use Rattle.std.proofs.lemmas.Int.{to_z-of_z, fits_signed_from_abs}
use Rattle.fixed_math.specs.Items.{item}
use Rattle.fixed_math.specs.Rounding.{rounded}
use Rattle.post_filter.specs.Comb.{scaled, echo}
use Rattle.post_filter.proofs.EchoLemmas.{faded_within, echo_as}
use Rattle.post_filter.proofs.echoes.faded_term.Goals as goal

pub overflow_add-old : goal.overflow_add-old
overflow_add-old c =
    let f : FitsSigned w64 c.echo_of-old.result = search rules in
    let g : FitsSigned w64 c.echo_of-new.result = search rules in
    let old = c.part_of.ensures in
    let new = c.part_of-2.ensures in
    let within : (m : ℕ) → ((q : ℕ) → q < c.args.p → unsigned_abs (item c.args.v.now q) ≤ m) → unsigned_abs (c.echo_of-old.result +ℤ c.echo_of-new.result) ≤ m * 2 ^ 15 = λ m h.
    faded_within c.args.share c.args.from c.args.to c.part_of.result c.part_of-2.result c.echo_of-old.result c.echo_of-new.result m c.requires.share old.centre old.near old.far new.centre new.near new.far (c.echo_of-old.ensures.size m h) (c.echo_of-new.ensures.size m h) in
    let most : unsigned_abs (c.echo_of-old.result +ℤ c.echo_of-new.result) ≤ 2 ^ 30 * 2 ^ 15 = within (2 ^ 30) c.requires.values in
    let sum : FitsSigned w64 (c.echo_of-old.result +ℤ c.echo_of-new.result) = fits_signed_from_abs w64 (c.echo_of-old.result +ℤ c.echo_of-new.result) (omega arith) in
    simp to_z-of_z sum

pub rounded_share-requires : goal.rounded_share-requires
rounded_share-requires c =
    let f : FitsSigned w64 c.echo_of-old.result = search rules in
    let g : FitsSigned w64 c.echo_of-new.result = search rules in
    let old = c.part_of.ensures in
    let new = c.part_of-2.ensures in
    let within : (m : ℕ) → ((q : ℕ) → q < c.args.p → unsigned_abs (item c.args.v.now q) ≤ m) → unsigned_abs (c.echo_of-old.result +ℤ c.echo_of-new.result) ≤ m * 2 ^ 15 = λ m h.
    faded_within c.args.share c.args.from c.args.to c.part_of.result c.part_of-2.result c.echo_of-old.result c.echo_of-new.result m c.requires.share old.centre old.near old.far new.centre new.near new.far (c.echo_of-old.ensures.size m h) (c.echo_of-new.ensures.size m h) in
    let most : unsigned_abs (c.echo_of-old.result +ℤ c.echo_of-new.result) ≤ 2 ^ 30 * 2 ^ 15 = within (2 ^ 30) c.requires.values in
    let sum : FitsSigned w64 (c.echo_of-old.result +ℤ c.echo_of-new.result) = fits_signed_from_abs w64 (c.echo_of-old.result +ℤ c.echo_of-new.result) (omega arith) in
    simp to_z-of_z (omega arith)

pub returns-clause-value : goal.returns-clause-value
returns-clause-value c =
    let f : FitsSigned w64 c.echo_of-old.result = search rules in
    let g : FitsSigned w64 c.echo_of-new.result = search rules in
    let old = c.part_of.ensures in
    let new = c.part_of-2.ensures in
    let within : (m : ℕ) → ((q : ℕ) → q < c.args.p → unsigned_abs (item c.args.v.now q) ≤ m) → unsigned_abs (c.echo_of-old.result +ℤ c.echo_of-new.result) ≤ m * 2 ^ 15 = λ m h.
    faded_within c.args.share c.args.from c.args.to c.part_of.result c.part_of-2.result c.echo_of-old.result c.echo_of-new.result m c.requires.share old.centre old.near old.far new.centre new.near new.far (c.echo_of-old.ensures.size m h) (c.echo_of-new.ensures.size m h) in
    let most : unsigned_abs (c.echo_of-old.result +ℤ c.echo_of-new.result) ≤ 2 ^ 30 * 2 ^ 15 = within (2 ^ 30) c.requires.values in
    let sum : FitsSigned w64 (c.echo_of-old.result +ℤ c.echo_of-new.result) = fits_signed_from_abs w64 (c.echo_of-old.result +ℤ c.echo_of-new.result) (omega arith) in
    let r : FitsSigned w64 c.rounded_share.result = search rules in
    let e : c.rounded_share.result ≡ rounded (c.echo_of-old.result +ℤ c.echo_of-new.result) 15 = simp to_z-of_z at c.rounded_share.ensures.value in
    let a = c.echo_of-old.ensures.value ∙ echo_as _ _ _ _ _ _ _ _ c.args.v.now c.args.p old.centre old.near old.far old.period in
    let b = c.echo_of-new.ensures.value ∙ echo_as _ _ _ _ _ _ _ _ c.args.v.now c.args.p new.centre new.near new.far new.period in
    simp to_z-of_z (e ∙ ap (λ z. rounded (z +ℤ c.echo_of-new.result) 15) a
    ∙ ap (λ z. rounded (echo (scaled (2 ^ 15 - c.args.share) c.args.from.centre) (scaled (2 ^ 15 - c.args.share) c.args.from.near) (scaled (2 ^ 15 - c.args.share) c.args.from.far) c.args.from.period c.args.v.now c.args.p +ℤ z) 15) b)

pub returns-clause-size : goal.returns-clause-size
returns-clause-size c = λ n h.
    let f : FitsSigned w64 c.echo_of-old.result = search rules in
    let g : FitsSigned w64 c.echo_of-new.result = search rules in
    let old = c.part_of.ensures in
    let new = c.part_of-2.ensures in
    let within : (m : ℕ) → ((q : ℕ) → q < c.args.p → unsigned_abs (item c.args.v.now q) ≤ m) → unsigned_abs (c.echo_of-old.result +ℤ c.echo_of-new.result) ≤ m * 2 ^ 15 = λ m h.
    faded_within c.args.share c.args.from c.args.to c.part_of.result c.part_of-2.result c.echo_of-old.result c.echo_of-new.result m c.requires.share old.centre old.near old.far new.centre new.near new.far (c.echo_of-old.ensures.size m h) (c.echo_of-new.ensures.size m h) in
    let most : unsigned_abs (c.echo_of-old.result +ℤ c.echo_of-new.result) ≤ 2 ^ 30 * 2 ^ 15 = within (2 ^ 30) c.requires.values in
    let sum : FitsSigned w64 (c.echo_of-old.result +ℤ c.echo_of-new.result) = fits_signed_from_abs w64 (c.echo_of-old.result +ℤ c.echo_of-new.result) (omega arith) in
    let r : FitsSigned w64 c.rounded_share.result = search rules in
    let s = simp to_z-of_z at c.rounded_share.ensures.size in
    simp to_z-of_z (s n (within n h))
