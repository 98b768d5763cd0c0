-- Samples and their bytes, one by one.
use Rattle.std.proofs.Common.{◌≡◌, ℕ, zero, suc, ◌^◌, ℤ, ◌+◌, ◌*◌, ◌≤◌, ◌<◌, List, [], ◌∷◌, ◌++◌, length, All, ◌%◌, take, drop, get_or, slice_set, FitsSigned, refl, sym, ap, ◌∙◌, arith}
use Rattle.std.specs.Int.{w16, cast_signed, cast_unsigned, to_le_bytes, from_le_bytes}
use Rattle.std.proofs.lemmas.List.{append_assoc, append-nil, take_more_set, take_all, drop_all, drop_more, length-set}
use Rattle.std.proofs.lemmas.Nat.{le_bytes_2, from_le_bytes-to_le_bytes_2}
use Rattle.std.proofs.Math.Facts.{to_z-of_z, Fits-of_z}
use Rattle.std.proofs.lemmas.Int.{of_z-to_z}
use Rattle.wav_edge.specs.Samples.{samples_of, bytes_of}

-- the samples from the i-th on
samples_from : (bytes : List ℕ) (i : ℕ) → 2 * i + 1 < length bytes →
    samples_of (drop (2 * i) bytes) ≡ cast_signed w16 (from_le_bytes w16 (get_or bytes (2 * i) 0 ∷ get_or bytes (2 * i + 1) 0 ∷ [])) ∷ samples_of (drop (2 * (i + 1)) bytes)
unfolding samples_of
samples_from bytes i h =
    let first = drop_more bytes (2 * i) 0 (omega arith) in
    let second = drop_more bytes (2 * i + 1) 0 h in
    let place : 2 * i + 1 + 1 ≡ 2 * (i + 1) = omega arith in
    rw (first, second, place) refl

-- one more sample
pub sample_put : (bytes : List ℕ) (out : List ℤ) (i : ℕ) (sample : ℤ) → 2 * i + 1 < length bytes → i < length out →
    sample ≡ cast_signed w16 (from_le_bytes w16 (get_or bytes (2 * i) 0 ∷ get_or bytes (2 * i + 1) 0 ∷ [])) →
    take i out ++ samples_of (drop (2 * i) bytes) ≡ samples_of bytes →
    take (i + 1) (slice_set out i sample) ++ samples_of (drop (2 * (i + 1)) bytes) ≡ samples_of bytes
sample_put bytes out i sample h room is before =
    ap (λ (xs : List ℤ). xs ++ samples_of (drop (2 * (i + 1)) bytes)) (take_more_set out i sample room)
    ∙ append_assoc (take i out) (sample ∷ []) (samples_of (drop (2 * (i + 1)) bytes))
    ∙ ap (λ (x : ℤ). take i out ++ (x ∷ samples_of (drop (2 * (i + 1)) bytes))) is
    ∙ ap (λ (xs : List ℤ). take i out ++ xs) (sym (samples_from bytes i h)) ∙ before

-- all samples
pub samples_put : (bytes : List ℕ) (out : List ℤ) (i : ℕ) → length out ≤ i → length bytes ≤ 2 * i →
    take i out ++ samples_of (drop (2 * i) bytes) ≡ samples_of bytes → out ≡ samples_of bytes
unfolding samples_of
samples_put bytes out i h k all =
    let front = take_all i out h in
    let rest = drop_all (2 * i) bytes k in
    sym (append-nil out) ∙ ap (λ (xs : List ℤ). xs ++ []) (sym front) ∙ ap (λ (xs : List ℕ). take i out ++ samples_of xs) (sym rest) ∙ all

-- the bytes of the samples from the i-th on
bytes_from : (samples : List ℤ) (i : ℕ) (d : ℤ) → i < length samples →
    bytes_of (drop i samples) ≡ to_le_bytes w16 (cast_unsigned w16 (get_or samples i d)) ++ bytes_of (drop (i + 1) samples)
unfolding bytes_of
bytes_from samples i d h = rw (drop_more samples i d h) refl

-- the two bytes of one more sample
pub bytes_put : (samples : List ℤ) (out : List ℕ) (i low high : ℕ) (d : ℤ) → i < length samples → 2 * i + 1 < length out →
    low ∷ high ∷ [] ≡ to_le_bytes w16 (cast_unsigned w16 (get_or samples i d)) →
    take (2 * i) out ++ bytes_of (drop i samples) ≡ bytes_of samples →
    take (2 * (i + 1)) (slice_set (slice_set out (2 * i) low) (2 * i + 1) high) ++ bytes_of (drop (i + 1) samples) ≡ bytes_of samples
bytes_put samples out i low high d h room is before =
    let rest = bytes_of (drop (i + 1) samples) in
    let once = slice_set out (2 * i) low in
    let place : 2 * (i + 1) ≡ 2 * i + 1 + 1 = omega arith in
    let first : take (2 * i + 1) once ≡ take (2 * i) out ++ low ∷ [] = take_more_set out (2 * i) low (omega arith) in
    let second : take (2 * i + 1 + 1) (slice_set once (2 * i + 1) high) ≡ take (2 * i + 1) once ++ high ∷ [] = take_more_set once (2 * i + 1) high (omega (arith, length-set out (2 * i) low)) in
    ap (λ (n : ℕ). take n (slice_set once (2 * i + 1) high) ++ rest) place
    ∙ ap (λ (xs : List ℕ). xs ++ rest) (second ∙ ap (λ (xs : List ℕ). xs ++ high ∷ []) first)
    ∙ ap (λ (xs : List ℕ). xs ++ rest) (append_assoc (take (2 * i) out) (low ∷ []) (high ∷ []))
    ∙ append_assoc (take (2 * i) out) (low ∷ high ∷ []) rest
    ∙ ap (λ (xs : List ℕ). take (2 * i) out ++ (xs ++ rest)) is
    ∙ ap (λ (xs : List ℕ). take (2 * i) out ++ xs) (sym (bytes_from samples i d h)) ∙ before

-- all bytes
pub all_bytes_put : (samples : List ℤ) (out : List ℕ) (i : ℕ) → length samples ≤ i → length out ≤ 2 * i →
    take (2 * i) out ++ bytes_of (drop i samples) ≡ bytes_of samples → out ≡ bytes_of samples
unfolding bytes_of
all_bytes_put samples out i h k all =
    let front = take_all (2 * i) out k in
    let rest = drop_all i samples h in
    sym (append-nil out) ∙ ap (λ (xs : List ℕ). xs ++ []) (sym front) ∙ ap (λ (xs : List ℤ). take (2 * i) out ++ bytes_of xs) (sym rest) ∙ all

-- the bytes of samples give the samples
pub samples_of-bytes_of : (samples : List ℤ) → All (λ z. FitsSigned w16 z) samples → samples_of (bytes_of samples) ≡ samples
unfolding samples_of bytes_of
samples_of-bytes_of [] fits = refl
samples_of-bytes_of (z ∷ samples) fits =
    let first : FitsSigned w16 z = fits 0 z (omega arith) in
    let ih = samples_of-bytes_of samples (λ k d h. fits (suc k) d (omega arith)) in
    let wide : cast_unsigned w16 z < 2 ^ 16 = omega (arith, Fits-of_z {w = w16} {z = z} first) in
    let bits : from_le_bytes w16 (to_le_bytes w16 (cast_unsigned w16 z)) ≡ cast_unsigned w16 z = from_le_bytes-to_le_bytes_2 (cast_unsigned w16 z) wide in
    ap (λ (n : ℕ). cast_signed w16 n ∷ samples_of (bytes_of samples)) bits
    ∙ ap (λ (x : ℤ). x ∷ samples_of (bytes_of samples)) (to_z-of_z {w = w16} {z = z} first)
    ∙ ap (λ (zs : List ℤ). z ∷ zs) ih

two_bytes : (low high : ℕ) → low < 256 → high < 256 → to_le_bytes w16 (cast_unsigned w16 (cast_signed w16 (from_le_bytes w16 (low ∷ high ∷ [])))) ≡ low ∷ high ∷ []
two_bytes low high l h =
    let n = from_le_bytes w16 (low ∷ high ∷ []) in
    let small : n < 2 ^ 16 = omega arith in
    ap (to_le_bytes w16) (of_z-to_z w16 n small) ∙ le_bytes_2 (low ∷ high ∷ []) n refl (λ i. below i) refl
  where
    below : (i : ℕ) → get_or (low ∷ high ∷ []) i 0 < 256
    below zero = l
    below (suc zero) = h
    below (suc (suc i)) = omega arith

-- the samples of whole pairs of bytes give the bytes
pub bytes_of-samples_of : (bytes : List ℕ) → All (λ b. b < 256) bytes → length bytes % 2 ≡ 0 → bytes_of (samples_of bytes) ≡ bytes
unfolding samples_of bytes_of
bytes_of-samples_of [] small even = refl
bytes_of-samples_of (low ∷ []) small even = absurd (omega arith)
bytes_of-samples_of (low ∷ high ∷ bytes) small even =
    let ih = bytes_of-samples_of bytes (λ k d h. small (suc (suc k)) d (omega arith)) (omega arith) in
    ap (λ (bs : List ℕ). bs ++ bytes_of (samples_of bytes)) (two_bytes low high (small 0 low (omega arith)) (small 1 high (omega arith)))
    ∙ ap (λ (bs : List ℕ). low ∷ high ∷ bs) ih
