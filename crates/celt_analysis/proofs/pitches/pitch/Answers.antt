use Rattle.std.proofs.Common.{◌≡◌, ℕ, ◌+◌, ◌-◌, ◌*◌, ◌^◌, ◌<◌, length, sym, ap, subst, arith, ◌∙◌}
use Rattle.std.specs.Prelude.{pos, drop, take}
use Rattle.std.proofs.lemmas.List.{get_or-drop, get_or-take}
use Rattle.fixed_math.specs.Items.{item}
use Rattle.celt_analysis.specs.Pitch.{downmix, IsPitch}
use Rattle.celt_analysis.proofs.PitchLaws.{pitch_same}
use Rattle.celt_analysis.proofs.PitchLemmas.{downmix-one}
use Rattle.celt_analysis.proofs.pitches.pitch.Goals as goal

pub returns-then-kind-eq1 : goal.returns-then-kind-eq1
returns-then-kind-eq1 c =
    let w = c.args.window.now in
    let kind = c.args.kind in
    let n : ℕ = c.frame_size-n.result in
    let v : n ≡ 120 * 2 ^ kind.lm = c.frame_size-n.ensures.value in
    let one : kind.channels ≡ 1 = omega arith in
    let l : length w ≡ 1 * (1145 + 120 * 2 ^ kind.lm) = c.requires ∙ ap (λ k. k * (1145 + 120 * 2 ^ kind.lm)) one in
    let at : (i : ℕ) → i < 1022 + n → item (take (length w - 123) (drop 123 w)) i ≡ item w (123 + i) = λ i p. get_or-take (length w - 123) (drop 123 w) i (pos 0) (omega arith) ∙ get_or-drop 123 w i (pos 0) in
    subst (λ m. IsPitch (downmix kind.channels (item w)) 1022 m c.pitch_of.result) v
    (pitch_same (item (take (length w - 123) (drop 123 w))) (downmix kind.channels (item w)) n _ (λ i p. at i p ∙ sym (ap (λ f. f i) (downmix-one kind.channels (item w) one))) c.pitch_of.ensures)

pub returns : goal.returns
returns c =
    let w = c.args.window.now in
    let kind = c.args.kind in
    let two : 2 ≡ kind.channels = omega (arith, kind.some_channel, kind.two_channels) in
    subst (λ m. IsPitch (downmix kind.channels (item w)) 1022 m c.mixed_pitch.result) c.frame_size-n.ensures.value (subst (λ k. IsPitch (downmix k (item w)) 1022 c.frame_size-n.result c.mixed_pitch.result) two c.mixed_pitch.ensures)
