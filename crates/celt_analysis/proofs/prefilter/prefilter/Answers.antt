use Rattle.std.proofs.Common.{◌≡◌, ◌∙◌, ℕ, ◌+◌, ◌-◌, ◌^◌, ◌<◌, arith, rules, refl, List, length, ap}
use Rattle.std.specs.Prelude.{ℤ, unsigned_abs}
use Rattle.std.proofs.lemmas.List.{get_or_default}
use Rattle.std.proofs.lemmas.List.Elements.{All-append}
use Rattle.celt_base.specs.declared.state.Setting.{Setting}
use Rattle.fixed_math.specs.Items.{item, listed}
use Rattle.celt_analysis.specs.Signals.{off, value_at}
use Rattle.celt_analysis.proofs.SignalLemmas.{part_is, values_join}
use Rattle.celt_analysis.proofs.prefilter.prefilter.Goals as goal

pub returns-clause-value : goal.returns-clause-value
returns-clause-value c =
    let s : List Setting = c.args.settings.now in
    let n : ℕ = length c.args.out.now - 120 in
    let p : ℕ → ℤ = item c.args.emphasized.now in
    let three : length s ≡ 3 = search rules in
    let a = get_or_default s 0 c.index-settings-0.result off (omega (arith, three)) in
    let b = get_or_default s 1 c.index-settings-1.result off (omega (arith, three)) in
    let e = get_or_default s 2 c.index-settings-2.result off (omega (arith, three)) in
    let size = c.requires.size in
    let fade : length c.args.out.now - 240 ≡ n - 120 = omega arith in
    let behind = c.split_at_mut-before.ensures.back_len in
    let rest : length c.split_at_mut-before.result.1.now ≡ n = omega (arith, behind, size) in
    let ex = part_is p 1025 _ _ _ _ _ _ _ _ c.filter_from.new.out c.filter_from.ensures.value c.split_at_mut-before.ensures.front_len fade a b in
    let ey = part_is p 1145 _ _ _ _ _ _ _ _ c.filter_from-2.new.out c.filter_from-2.ensures.value rest refl b e in
    let whole : n + 120 ≡ length c.args.out.now = omega arith in
    values_join n s p c.filter_from.new.out c.filter_from-2.new.out ex ey ∙ ap (λ k. listed k (value_at n s p)) whole

pub returns-clause-sizes : goal.returns-clause-sizes
returns-clause-sizes c = All-append (λ v. unsigned_abs v < 2 ^ 29) c.filter_from.new.out c.filter_from-2.new.out c.filter_from.ensures.sizes c.filter_from-2.ensures.sizes
