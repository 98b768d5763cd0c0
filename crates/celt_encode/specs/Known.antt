-- What the answers of a frame came to so far. Each answer that is told changes it.
use Rattle.std.specs.Prelude.{ℕ, zero, suc, ◌*◌, ◌/◌, min, Bool, true, false, if◌then◌else◌, ◌&&◌, int_lt, slice_index_or, nat_eq, nat_lt, ℤ, pos, negsuc, neg_ℤ, unsigned_abs, List, [], replicate, slice_set}
use Rattle.celt_base.specs.declared.coder.Place.{Place}
use Rattle.celt_base.specs.declared.coder.Place.TheVariants.{Transient, Intra, Coarse, Spread, Intensity, Dual, Fine, Theta, Inversion}
use Rattle.celt_encode.specs.declared.answers.Answers.{Answers}

-- No coarse energy has a value beyond these.
unfoldable pub limited : ℤ → ℤ
limited value = if int_lt (pos 32767) value then pos 32767 else (if int_lt value (neg_ℤ (pos 32768)) then neg_ℤ (pos 32768) else value)

unfoldable pub is_told : ℤ → Bool
is_told (pos (suc zero)) = true
is_told answer = false

-- The angle is above 8192, where qn steps of it are a right angle, 16384.
unfoldable pub leans_by : ℕ → ℤ → Bool
leans_by qn answer = if nat_eq qn 0 then false else nat_lt 8192 (min (unsigned_abs answer) 256 * 16384 / qn)

-- the entry of a channel and band, where there is one
unfoldable pub put_at : {A : Type 0} → List (List A) → ℕ → ℕ → A → List (List A)
put_at rows channel band value =
    if nat_lt channel 2 && nat_lt band 21 then slice_set rows channel (slice_set (slice_index_or rows channel []) band value) else rows

unfoldable pub put_flag : List Bool → ℕ → Bool → List Bool
put_flag flags band flag = if nat_lt band 21 then slice_set flags band flag else flags

-- What the answers come to with one more. At a coarse energy it is a value.
unfoldable pub told_of : Answers → Place → ℤ → Answers
told_of known Transient answer = record known { transient = is_told answer }
told_of known Intra answer = record known { intra = is_told answer }
told_of known Spread answer = record known { spread = min (unsigned_abs answer) 3 }
told_of known (Intensity coded) answer = record known { intensity = min (unsigned_abs answer) 21 }
told_of known Dual answer = record known { dual = is_told answer }
told_of known (Coarse band channel) answer = record known { coarse = put_at known.coarse channel band (limited answer) }
told_of known (Fine band channel bits) answer =
    record known { fine = put_at known.fine channel band (min (unsigned_abs answer) 255); bits = put_at known.bits channel band bits }
told_of known (Theta band channel offset n qn true) answer = record known { leans = put_flag known.leans band (leans_by qn answer) }
told_of known (Inversion band) answer = record known { inverted = put_flag known.inverted band (is_told answer) }
told_of known at answer = known

-- Before the first question: what is not asked counts as this.
abbrev pub no_answers : Answers
no_answers = record {
  intra = false;
  transient = false;
  spread = 2;
  intensity = 0;
  dual = false;
  coarse = replicate 2 (replicate 21 (negsuc 0));
  fine = replicate 2 (replicate 21 0);
  bits = replicate 2 (replicate 21 0);
  leans = replicate 21 false;
  inverted = replicate 21 false;
}
