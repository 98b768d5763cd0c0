use Rattle.std.proofs.Common.{◌≡◌, ◌-◌, ◌∙◌, ap, arith, length}
use Rattle.std.specs.Prelude.{pos, replicate}
use Rattle.band_shapes.proofs.RoomLemmas.{kept}
use Rattle.band_shapes.proofs.frame.pad.Goals as goal

pub returns : goal.returns
returns c =
    let n : length c.split_at_mut-behind.result.1.now ≡ length c.args.line.now - c.args.end = omega (arith, c.split_at_mut-behind.ensures.back_len) in
    kept c.args.size c.args.end c.args.line.now c.split_at_mut-behind.result.0.now c.fill.new.self c.requires.end c.requires.size c.split_at_mut-behind.ensures.front
    (c.fill.ensures.after (λ y h. h) ∙ ap (λ k. replicate k (pos 0)) n)
