use Rattle.std.proofs.Common.{ℕ, ◌+◌, ◌*◌, ◌^◌, ◌≤◌, arith, rules}
use Rattle.std.specs.Prelude.{unsigned_abs, FitsSigned}
use Rattle.std.specs.Int.{w64}
use Rattle.std.proofs.lemmas.Int.{to_z-of_z}
use Rattle.post_filter.proofs.EchoLemmas.{within_whole}
use Rattle.post_filter.proofs.echoes.steady_term.Goals as goal

pub rounded_share-requires : goal.rounded_share-requires
rounded_share-requires c =
    let f : FitsSigned w64 c.echo_of.result = search rules in
    simp to_z-of_z (omega (arith, c.args.taps.sum, c.echo_of.ensures.size (2 ^ 30) c.requires.values))

pub returns-clause-size : goal.returns-clause-size
returns-clause-size c = λ m h.
    let f : FitsSigned w64 c.echo_of.result = search rules in
    let g : FitsSigned w64 c.rounded_share.result = search rules in
    let k : ℕ = c.args.taps.centre + 2 * c.args.taps.near + 2 * c.args.taps.far in
    let low : k ≤ 2 ^ 15 = omega (arith, c.args.taps.sum) in
    let s : unsigned_abs c.echo_of.result ≤ m * 2 ^ 15 = omega (arith, c.echo_of.ensures.size m h, within_whole k m low) in
    let r = simp to_z-of_z at c.rounded_share.ensures.size in
    simp to_z-of_z (r m s)
