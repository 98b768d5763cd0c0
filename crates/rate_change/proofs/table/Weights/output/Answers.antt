use Rattle.std.proofs.Common.{◌≡◌, ℕ, ◌+◌, ◌-◌, ◌<◌, arith, rules, sym, subst, ◌∙◌, get_or}
use Rattle.std.specs.Prelude.{FitsSigned}
use Rattle.std.specs.Int.{w16, w64}
use Rattle.std.proofs.lemmas.Int.{to_z-of_z, fits_signed_from_abs}
use Rattle.fixed_math.specs.Items.{item}
use Rattle.rate_change.specs.Parts.{parts_of}
use Rattle.rate_change.specs.Resampling.{in_window, saturated, nearest}
use Rattle.rate_change.specs.Tables.{IsRow}
use Rattle.rate_change.specs.declared.row.Row.{Row}
use Rattle.rate_change.proofs.OutputLemmas.{between_whole, value_from, output_from}
use Rattle.rate_change.proofs.table.Weights.output.Goals as goal

pub returns-then-f-eq0-clause-value : goal.returns-then-f-eq0-clause-value
returns-then-f-eq0-clause-value c =
    let fx : FitsSigned w16 (item c.args.window.now 15) = search rules in
    simp to_z-of_z (sym (between_whole (parts_of c.args.self.now) c.args.f (in_window c.args.window.now) c.if-f-eq0.true))

pub returns-then-f-eq0-clause-sample : goal.returns-then-f-eq0-clause-sample
returns-then-f-eq0-clause-sample c = λ down k input e h. returns-then-f-eq0-clause-value c ∙ output_from (parts_of c.args.self.now) down k c.args.f input c.args.window.now e h

pub returns-clause-value : goal.returns-clause-value
returns-clause-value c =
    let up : ℕ = c.args.self.now.up in
    let f : ℕ = c.args.f in
    let row : Row = c.index-row.result.now in
    let n = c.if-f-eq0.false in
    let whole : f - 1 + 1 ≡ f = behind f n in
    let r : IsRow up (f - 1 + 1) (get_or c.args.self.now.rows.items (f - 1) row) = c.args.self.now.are_rows.each (f - 1) row (subst (λ x. x < up) (sym whole) c.requires) in
    let is : IsRow up f row = subst (IsRow up f) (sym c.index-row.ensures) (subst (λ x. IsRow up x (get_or c.args.self.now.rows.items (f - 1) row)) whole r) in
    let fp : FitsSigned w64 c.product.result = search rules in
    let fd : FitsSigned w64 row.divisor = fits_signed_from_abs w64 row.divisor (omega (arith, row.most)) in
    let fn : FitsSigned w16 c.nearest_sample.result = search rules in
    let s : c.nearest_sample.result ≡ saturated (nearest c.product.result row.divisor) = simp to_z-of_z at c.nearest_sample.ensures in
    to_z-of_z w16 c.nearest_sample.result fn ∙ value_from up f c.args.window.now c.product.result row.divisor c.nearest_sample.result n is.divisor_is (c.product.ensures.value up f is) s
  where
    behind : (f : ℕ) → (f ≡ 0 → ⊥) → f - 1 + 1 ≡ f
    behind f n = omega arith

pub returns-clause-sample : goal.returns-clause-sample
returns-clause-sample c = λ down k input e h. returns-clause-value c ∙ output_from (parts_of c.args.self.now) down k c.args.f input c.args.window.now e h
