use Rattle.celt_base.specs.Questions.{laplace_row, place_of}
use Rattle.celt_base.proofs.Fillings.{table_fills, uniform_fills, step_fills, triangle_fills, laplace_fills, filled_place}
use Rattle.celt_base.proofs.Rows.{bit_fills}
use Rattle.celt_base.proofs.laws.law_parts.Goals as goal

pub returns-clause-bit : goal.returns-clause-bit
returns-clause-bit c = bit_fills

pub returns-clause-table : goal.returns-clause-table
returns-clause-table c = table_fills

pub returns-clause-uniform : goal.returns-clause-uniform
returns-clause-uniform c = uniform_fills

pub returns-clause-step : goal.returns-clause-step
returns-clause-step c = step_fills

pub returns-clause-triangle : goal.returns-clause-triangle
returns-clause-triangle c = triangle_fills

pub returns-clause-laplace : goal.returns-clause-laplace
returns-clause-laplace c =
    λ fs decay is. let cut = laplace_fills fs decay is in
    (cut.0, cut.1, λ a. let both = filled_place (laplace_row fs decay) cut.0 (place_of a) cut.1 in (both.1, both.0))
