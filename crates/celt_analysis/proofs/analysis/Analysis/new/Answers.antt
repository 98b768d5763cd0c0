use Rattle.std.proofs.Common.{rules, ◌≡◌, sym, subst, [], refl, false}
use Rattle.std.specs.Prelude.{None}
use Rattle.celt_analysis.specs.Analyses.{blank, spectrum_size, IsAnalysis}
use Rattle.celt_analysis.proofs.SettingLemmas.{off_is}
use Rattle.celt_analysis.proofs.analysis.Analysis.new.Goals as goal

pub invariant_of-result : goal.invariant_of-result
unfolding spectrum_size
invariant_of-result c =
    let l : [] ≡ c.in-Ok.channels.left.spectrum = sym c.in-Ok.ensures.left in
    let r : [] ≡ c.in-Ok.channels.right.spectrum = sym c.in-Ok.ensures.right in
    subst (λ xs. IsAnalysis None xs c.in-Ok.channels.right.spectrum c.least_targets.result c.least_heights.result) l
    (subst (λ ys. IsAnalysis None [] ys c.least_targets.result c.least_heights.result) r (record {
      left_size = refl;
      right_size = refl;
      left_items = search rules;
      right_items = search rules;
      target_rows = c.least_targets.ensures.rows;
      bands = c.least_targets.ensures.bands;
      targets_are = c.least_targets.ensures.sizes;
      heights_are = c.least_heights.ensures.sizes;
    }))

pub returns : goal.returns
unfolding blank
returns c =
    let l : c.in-Ok.channels.left.spectrum ≡ [] = c.in-Ok.ensures.left in
    let r : c.in-Ok.channels.right.spectrum ≡ [] = c.in-Ok.ensures.right in
    let s = off_is c.off.result c.off.ensures in
    λ k. record {
      kind = None;
      silent = false;
      transient = false;
      setting = s k;
      left = l k;
      right = r k;
      targets = c.least_targets.ensures.value k;
      heights = c.least_heights.ensures.value k;
    }
