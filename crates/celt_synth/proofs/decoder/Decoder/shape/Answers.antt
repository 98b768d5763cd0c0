use Rattle.std.proofs.Common.{◌≡◌, ◌∙◌, ap, sym, length}
use Rattle.band_shapes.specs.Frames.{symbols_of}
use Rattle.celt_synth.specs.Readings.{shaped_by}
use Rattle.celt_synth.proofs.ReadingLemmas.{setting_held}
use Rattle.celt_synth.proofs.decoder.Decoder.shape.Goals as goal

pub returns-clause-shaped : goal.returns-clause-shaped
unfolding shaped_by
returns-clause-shaped c =
    let kind = c.args.kind in
    let f = c.args.s.now.fields in
    let v = c.self.view_is in
    let b = c.bands-2.ensures in
    record {
      count = ap (λ x. length x.amounts) (sym c.bands.ensures) ∙ c.whole_amounts.ensures;
      transient_is = c.transient.ensures;
      collapse_is = c.collapse.ensures;
      setting_is = setting_held c.setting.result f.opening.post_filter c.args.s.now.post_filter c.setting.ensures.period c.setting.ensures.gain c.setting.ensures.tapset;
      range_is = c.range.ensures;
      pulses_are = ap (λ a. a.pulses) c.allocation.ensures;
      masks_are = c.shapes.ensures.masks ∙ (λ k. (shaped_by kind (symbols_of (b k)) (v k).invert (v k).state.seed).masks);
      seed_is = c.shapes.ensures.seed ∙ (λ k. (shaped_by kind (symbols_of (b k)) (v k).invert (v k).state.seed).shapes.seed);
      left_is = c.copy_from_slice.ensures.after ∙ c.shape.ensures ∙ c.shapes.ensures.left ∙ (λ k. (shaped_by kind (symbols_of (b k)) (v k).invert (v k).state.seed).shapes.left);
      right_is = c.copy_from_slice-2.ensures.after ∙ c.shape-2.ensures ∙ c.shapes.ensures.right ∙ (λ k. (shaped_by kind (symbols_of (b k)) (v k).invert (v k).state.seed).shapes.right);
    }
