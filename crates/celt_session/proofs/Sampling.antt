-- The samples of parts of some bytes.
use Rattle.std.proofs.Common.{◌≡◌, ℕ, ℤ, pos, zero, suc, ◌*◌, ◌/◌, List, [], ◌∷◌, ◌++◌, length, take, drop, replicate, refl, ◌∙◌, ap, arith, sym}
use Rattle.std.specs.Int.{w16, cast_signed, from_le_bytes}
use Rattle.std.proofs.lemmas.List.{take-append-drop, take_all, length-take-le, append_assoc}
use Rattle.wav_edge.specs.Samples.{samples_of}

abbrev sample : ℕ → ℕ → ℤ
sample low high = cast_signed w16 (from_le_bytes w16 (low ∷ high ∷ []))

double_more : (k : ℕ) → 2 * suc k ≡ suc (suc (2 * k))
double_more k = omega arith

pub samples-len : (bytes : List ℕ) → length (samples_of bytes) ≡ length bytes / 2
unfolding samples_of
samples-len [] = refl
samples-len (low ∷ []) = refl
samples-len (low ∷ high ∷ bytes) = let again = samples-len bytes in omega arith

pub samples-join : (k : ℕ) (a b : List ℕ) → length a ≡ 2 * k → samples_of (a ++ b) ≡ samples_of a ++ samples_of b
unfolding samples_of
samples-join zero [] b e = refl
samples-join zero (x ∷ a) b e = absurd (omega arith)
samples-join (suc k) [] b e = absurd (omega arith)
samples-join (suc k) (x ∷ []) b e = absurd (omega arith)
samples-join (suc k) (x ∷ y ∷ a) b e = ap (λ l. sample x y ∷ l) (samples-join k a b (omega arith))

drop_step : (k : ℕ) (bytes : List ℕ) → ((b : List ℕ) → samples_of (drop (2 * k) b) ≡ drop k (samples_of b))
    → samples_of (drop (suc (suc (2 * k))) bytes) ≡ drop (suc k) (samples_of bytes)
unfolding samples_of
drop_step k [] again = refl
drop_step k (x ∷ []) again = refl
drop_step k (x ∷ y ∷ bytes) again = again bytes

pub samples-drop : (k : ℕ) (bytes : List ℕ) → samples_of (drop (2 * k) bytes) ≡ drop k (samples_of bytes)
samples-drop zero bytes = refl
samples-drop (suc k) bytes = ap (λ n. samples_of (drop n bytes)) (double_more k) ∙ drop_step k bytes (samples-drop k)

take_step : (k : ℕ) (bytes : List ℕ) → ((b : List ℕ) → samples_of (take (2 * k) b) ≡ take k (samples_of b))
    → samples_of (take (suc (suc (2 * k))) bytes) ≡ take (suc k) (samples_of bytes)
unfolding samples_of
take_step k [] again = refl
take_step k (x ∷ []) again = refl
take_step k (x ∷ y ∷ bytes) again = ap (λ l. sample x y ∷ l) (again bytes)

none : samples_of [] ≡ []
unfolding samples_of
none = refl

pub samples-take : (k : ℕ) (bytes : List ℕ) → samples_of (take (2 * k) bytes) ≡ take k (samples_of bytes)
samples-take zero bytes = none
samples-take (suc k) bytes = ap (λ n. samples_of (take n bytes)) (double_more k) ∙ take_step k bytes (samples-take k)

zeros_step : (k : ℕ) → samples_of (0 ∷ 0 ∷ replicate (2 * k) 0) ≡ pos 0 ∷ samples_of (replicate (2 * k) 0)
unfolding samples_of
zeros_step k = refl

pub samples-zeros : (k : ℕ) → samples_of (replicate (2 * k) 0) ≡ replicate k (pos 0)
samples-zeros zero = none
samples-zeros (suc k) = ap (λ n. samples_of (replicate n 0)) (double_more k) ∙ zeros_step k ∙ ap (λ l. pos 0 ∷ l) (samples-zeros k)

-- more bytes only add samples
pub samples-longer : (bytes more : List ℕ) → samples_of (bytes ++ more) ≡ samples_of bytes ++ samples_of (drop (2 * (length bytes / 2)) bytes ++ more)
samples-longer bytes more =
    let k = length bytes / 2 in
    let front = take (2 * k) bytes in
    let rest = drop (2 * k) bytes in
    let len : length front ≡ 2 * k = length-take-le (2 * k) bytes (omega arith) in
    let all : take k (samples_of bytes) ≡ samples_of bytes = take_all k (samples_of bytes) (let e = samples-len bytes in omega arith) in
    ap (λ l. samples_of (l ++ more)) (sym (take-append-drop (2 * k) bytes))
    ∙ ap samples_of (append_assoc front rest more)
    ∙ samples-join k front (rest ++ more) len
    ∙ ap (λ l. l ++ samples_of (rest ++ more)) (samples-take k bytes ∙ all)
