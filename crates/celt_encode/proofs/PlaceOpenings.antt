-- The places of the first questions of a frame. Those of the post-filter are asked where it is wanted.
use Rattle.std.proofs.Common.{◌≡◌, ℕ, zero, suc, ◌+◌, ◌≤◌, List, Bool, true, false, nat_eq, nat_le, if◌then◌else◌, refl, sym, subst, arith}
use Rattle.std.specs.Prelude.{ℤ, pos, negsuc}
use Rattle.std.proofs.lemmas.Bool.{false≢true, leb-true}
use Rattle.celt_base.specs.declared.coder.Place.TheVariants.{Filter, Octave, Period, Gain, Tapset, Transient, Intra}
use Rattle.celt_base.specs.declared.question.Question.TheVariants.{Bit}
use Rattle.celt_base.specs.Paces.{tell_of}
use Rattle.celt_base.specs.WalkCalls.{meant}
use Rattle.celt_base.specs.WalkScripts.{Done, asks_at, asks_bit, bit_within, is_one}
use Rattle.frame_symbols.specs.Frames.{opening_script}
use Rattle.frame_symbols.specs.Openings.{off, on_script, filter_script, transient_script}
use Rattle.range_coder.specs.Nearest.{IsNearest, distance}
use Rattle.celt_encode.specs.Outsets.{Outset}
use Rattle.celt_encode.specs.Places.{HasOctave, IsPlace, IsTold}
use Rattle.celt_encode.specs.Standing.{Standing}
use Rattle.celt_encode.specs.Wanted.{flag_of, is_on, wanted}
use Rattle.celt_encode.proofs.PlaceRules.{Goes, goes_then, Stands, stays, Keeps, keep_none, keep_then, keep_if, keep_number, keep_bit_within, keep_number_within}

-- a flag is answered where it is wanted
wanted_flag : (flag : Bool) (answer : ℤ) → IsNearest (Bit 1) (flag_of flag) answer → is_one answer ≡ true → flag ≡ true
unfolding flag_of is_one
wanted_flag true answer near one = refl
wanted_flag false answer near one = absurd (by_answer answer (near.nearest (pos 0) (omega arith)) one)
  where
    by_answer : (answer : ℤ) → distance answer (pos 0) ≤ distance (pos 0) (pos 0) → is_one answer ≡ true → ⊥
    by_answer (pos zero) less one = false≢true one
    by_answer (pos (suc zero)) less one = omega (arith, less)
    by_answer (pos (suc (suc n))) less one = false≢true one
    by_answer (negsuc n) less one = false≢true one

filter_wanted : (s : Standing) (answer : ℤ) → IsNearest (Bit 1) (meant Filter (Bit 1) (wanted s Filter)) answer → is_one answer ≡ true → 3072 ≤ s.frame.setting.gain
unfolding wanted meant
filter_wanted s answer near one = leb-true 3072 s.frame.setting.gain (wanted_flag (is_on s.frame.setting) answer near one)

octave_fits : (s : Standing) → HasOctave s.frame.setting
octave_fits s =
    let low = s.frame.setting.least_period in
    let high = s.frame.setting.most_period in
    record { least = omega (arith, low); most = omega (arith, high) }

module _ {f : Outset} {held : List ℤ → List ℤ → Type 0} where
  filter_goes : (budget : ℕ) (s : Standing) → Stands f held s
      → Goes f.kind (λ t on. Stands f held t × (on ≡ true → 3072 ≤ f.setting.gain)) s (bit_within Filter 1 16 budget)
  unfolding bit_within asks_bit asks_at IsPlace IsTold
  filter_goes budget s i = λ pace. by_test (nat_le (tell_of pace + 16) budget)
    where
      gain_of : (answer : ℤ) → IsNearest (Bit 1) (meant Filter (Bit 1) (wanted s Filter)) answer → is_one answer ≡ true → 3072 ≤ f.setting.gain
      gain_of answer near one = subst (λ (o : Outset). 3072 ≤ o.setting.gain) i.frame_is (filter_wanted s answer near one)

      by_test : (b : Bool) → Goes f.kind (λ t on. Stands f held t × (on ≡ true → 3072 ≤ f.setting.gain)) s (if b then asks_bit Filter 1 else Done false)
      by_test true = (i.known, tt, λ answer near. (tt, (stays s Filter (Bit 1) answer tt i, gain_of answer near)))
      by_test false = (i, λ e. absurd (false≢true e))

  on_keeps : (budget : ℕ) → 3072 ≤ f.setting.gain → Keeps f held (on_script budget)
  unfolding on_script IsPlace IsTold
  on_keeps budget some =
      keep_then (keep_number Octave _ (λ s i. octave_fits s, λ answer is. tt)) (λ octave m.
      keep_then (keep_number (Period octave) _ (λ s i. octave_fits s, λ answer is. tt)) (λ place m.
      keep_then (keep_number Gain _ (λ s i. subst (λ (o : Outset). 3072 ≤ o.setting.gain) (sym i.frame_is) some, λ answer is. tt)) (λ gain m.
      keep_then (keep_number_within Tapset _ _ _ _ (λ s i. tt, λ answer is. tt)) (λ tapset m. keep_none))))

  filter_keeps : (budget : ℕ) → Keeps f held (filter_script budget)
  unfolding filter_script
  filter_keeps budget = record {
    is = λ s i. goes_then f.kind (λ t on. Stands f held t × (on ≡ true → 3072 ≤ f.setting.gain)) (λ t value. Stands f held t) (bit_within Filter 1 16 budget) (λ on. if on then on_script budget else Done off) s (filter_goes budget s i)
        (λ t on h m. by_on t on h.0 h.1);
  }
    where
      by_on : (t : Standing) (on : Bool) → Stands f held t → (on ≡ true → 3072 ≤ f.setting.gain)
          → Goes f.kind (λ t value. Stands f held t) t (if on then on_script budget else Done off)
      by_on t true i some = (on_keeps budget (some refl)).is t i
      by_on t false i some = i

  pub opening_keeps : (budget : ℕ) → Keeps f held (opening_script f.kind budget)
  unfolding opening_script transient_script IsPlace IsTold
  opening_keeps budget =
      keep_then (filter_keeps budget) (λ post_filter m.
      keep_then (keep_if (nat_eq f.kind.lm 0) keep_none (keep_bit_within Transient _ _ _ (λ s i. tt, λ answer is. tt))) (λ transient m.
      keep_then (keep_bit_within Intra _ _ _ (λ s i. tt, λ answer is. tt)) (λ intra m. keep_none)))
