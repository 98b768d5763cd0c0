-- Fields of a list of bytes: what a read from a place on gives, and that bytes further on change nothing.
use Rattle.std.proofs.Common.{◌≡◌, ℕ, zero, suc, ◌+◌, ◌≤◌, List, ◌++◌, length, drop, refl, ap, ◌∙◌, arith}
use Rattle.std.proofs.lemmas.List.{get_or-drop}
use Rattle.std.proofs.Math.ListN.{get_or-append}
use Rattle.byteorder.specs.Endian.{little_from, little_number}
use Rattle.wav_edge.specs.Fields.{number_at}

-- the places of a list from place k on
pub little_from-drop : (k j n : ℕ) (xs : List ℕ) → little_from j n (drop k xs) ≡ little_from (k + j) n xs
little_from-drop k j zero xs = refl
little_from-drop k j (suc n) xs =
    let byte = get_or-drop k xs j 0 in
    let rest = little_from-drop k (suc j) n xs in
    let e : k + suc j ≡ suc (k + j) = omega arith in
    rw (byte, rest, e) refl

-- a number read at the beginning of what follows place k
pub number_at-drop : (n k : ℕ) (xs : List ℕ) → little_number n (drop k xs) ≡ number_at n k xs
unfolding number_at
number_at-drop n k xs = let e : k + 0 ≡ k = omega arith in little_from-drop k 0 n xs ∙ ap (λ (i : ℕ). little_from i n xs) e

little_from-append : (k n : ℕ) (xs ys : List ℕ) → k + n ≤ length xs → little_from k n (xs ++ ys) ≡ little_from k n xs
little_from-append k zero xs ys h = refl
little_from-append k (suc n) xs ys h =
    let byte = get_or-append xs ys 0 k (omega arith) in
    let rest = little_from-append (suc k) n xs ys (omega arith) in
    rw (byte, rest) refl

-- bytes after a number change nothing
pub number_at-append : (n k : ℕ) (xs ys : List ℕ) → k + n ≤ length xs → number_at n k (xs ++ ys) ≡ number_at n k xs
unfolding number_at
number_at-append n k xs ys h = little_from-append k n xs ys h
