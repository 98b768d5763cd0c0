use Rattle.std.proofs.Common.{◌≤◌, ◌^◌, arith, List}
use Rattle.std.specs.Prelude.{ℤ, pos, unsigned_abs, replicate, All}
use Rattle.std.proofs.lemmas.List.Elements.{All-replicate}
use Rattle.fixed_math.proofs.ItemLemmas.{item_within}
use Rattle.post_filter.proofs.tests.extremes.Goals as goal

pub loop-i-init : goal.loop-i-init
loop-i-init c =
    let xs : List ℤ = replicate 2048 (pos (2 ^ 30)) in
    let all : All (λ v. unsigned_abs v ≤ 2 ^ 30) xs = All-replicate (λ v. unsigned_abs v ≤ 2 ^ 30) 2048 (pos (2 ^ 30)) (omega arith) in
    record {
      earlier = λ p l. item_within xs (2 ^ 30) p all;
      values = λ p. omega (arith, item_within xs (2 ^ 30) p all);
    }
