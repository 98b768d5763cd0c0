-- An identification header and its spelling belong together.
use Rattle.std.proofs.Common.{◌≡◌, ℕ, ◌+◌, ◌*◌, ◌/◌, ◌%◌, ◌^◌, ◌<◌, ◌≤◌, ◌⊎◌, Bool, true, false, ◌||◌, ◌&&◌, ◌==◌, nat_eq, nat_lt, nat_le, List, [], ◌∷◌, ◌++◌, take, drop, length, get_or, slice_index, arith, ◌∙◌, ap, to_z, of_z, w16, Ok, IfOk, refl, sym, inl, inr, codes}
use Rattle.std.specs.List.{starts_with}
use Rattle.std.specs.Int.{bytes_low_first}
use Rattle.std.specs.Cmp.Lexicographic.{same_text}
use Rattle.std.proofs.lemmas.List.{drop_more, take-append-drop}
use Rattle.std.proofs.lemmas.Int.{to_z-of_z, of_z-to_z}
use Rattle.std.proofs.lemmas.Bool.Decides.{nat_tests}
use Rattle.std.proofs.Math.Facts.{Fits-of_z, Fits-bits, sfits_to_z}
use Rattle.opus_packets.specs.Header.{number_at, begins_head, head_of, fields_of, Fields, AreFields, IsSpelledHead, spelled_head, head_in}
use Rattle.opus_packets.specs.Form.{AreBytes}
use Rattle.opus_packets.proofs.Headers.{head_read}

-- two octets of a number, put together again
two_octets : (n : ℕ) → n < 2 ^ 16 → n % 256 + 256 * (n / 256 % 256) ≡ n
two_octets n less = omega arith

begins_spelled : (f : Fields) → f.version < 16 → begins_head (spelled_head f) ≡ true
begins_spelled f less =
    let long : nat_le 19 (length (spelled_head f)) ≡ true = grind (arith, nat_tests) in
    let version : nat_lt f.version 16 ≡ true = grind (arith, nat_tests) in
    rw (long, version) refl

pub head_spelled : (f : Fields) → AreFields f → head_of (spelled_head f) ≡ Ok (head_in f)
head_spelled f is =
    let bits : of_z w16 f.gain < 2 ^ 16 = omega (arith, Fits-of_z {w = w16} is.gain) in
    sym (head_read (spelled_head f) f.preskip f.gain f.gain (begins_spelled f is.version) refl is.channels (sym (two_octets f.preskip is.preskip))
    (sym (to_z-of_z w16 f.gain is.gain) ∙ ap (to_z w16) (sym (two_octets (of_z w16 f.gain) bits))))

-- nineteen bytes, one by one from the ninth on
from_ninth : (xs : List ℕ) → 19 ≤ length xs → drop 8 xs ≡ get_or xs 8 0 ∷ get_or xs 9 0 ∷ get_or xs 10 0 ∷ get_or xs 11 0 ∷ get_or xs 12 0 ∷ get_or xs 13 0 ∷ get_or xs 14 0 ∷ get_or xs 15 0 ∷ get_or xs 16 0 ∷ get_or xs 17 0 ∷ get_or xs 18 0 ∷ drop 19 xs
from_ninth xs long =
    rw (
      drop_more xs 8 0 (omega arith),
      drop_more xs 9 0 (omega arith),
      drop_more xs 10 0 (omega arith),
      drop_more xs 11 0 (omega arith),
      drop_more xs 12 0 (omega arith),
      drop_more xs 13 0 (omega arith),
      drop_more xs 14 0 (omega arith),
      drop_more xs 15 0 (omega arith),
      drop_more xs 16 0 (omega arith),
      drop_more xs 17 0 (omega arith),
      drop_more xs 18 0 (omega arith),
    ) refl

and_both : (a b : Bool) → (a && b) ≡ true → (a ≡ true) × (b ≡ true)
and_both true b e = (refl, e)
and_both false b e = cc

-- octets of a number, spelled again
two_spelled : (a b : ℕ) → a < 256 → b < 256 → bytes_low_first 0 2 (a + 256 * b) ≡ a ∷ b ∷ []
two_spelled a b la lb =
    let e : (a + 256 * b) % 256 ≡ a = omega arith in
    let f : (a + 256 * b) / 256 % 256 ≡ b = omega arith in
    rw (e, f) refl

four_spelled : (a b c d : ℕ) → a < 256 → b < 256 → c < 256 → d < 256 → bytes_low_first 0 4 (a + 256 * b + 65536 * c + 16777216 * d) ≡ a ∷ b ∷ c ∷ d ∷ []
four_spelled a b c d la lb lc ld =
    let e : (a + 256 * b + 65536 * c + 16777216 * d) % 256 ≡ a = omega arith in
    let f : (a + 256 * b + 65536 * c + 16777216 * d) / 256 % 256 ≡ b = omega arith in
    let g : (a + 256 * b + 65536 * c + 16777216 * d) / 65536 % 256 ≡ c = omega arith in
    let h : (a + 256 * b + 65536 * c + 16777216 * d) / 16777216 % 256 ≡ d = omega arith in
    rw (e, f, g, h) refl

fields_spelled : (xs : List ℕ) → AreBytes xs → begins_head xs ≡ true → slice_index xs 18 ≡ 0 → (slice_index xs 9 ≡ 1) ⊎ (slice_index xs 9 ≡ 2) → IsSpelledHead xs (fields_of xs)
fields_spelled xs bytes begins family channels =
    let parts = and_both (nat_le 19 (length xs) && starts_with nat_eq xs (codes "OpusHead")) (nat_lt (slice_index xs 8) 16) begins in
    let front = and_both (nat_le 19 (length xs)) (starts_with nat_eq xs (codes "OpusHead")) parts.0 in
    let long : 19 ≤ length xs = grind (arith, nat_tests, front.0) in
    let version : slice_index xs 8 < 16 = grind (arith, nat_tests, parts.1) in
    let letters : codes "OpusHead" ≡ take 8 xs = same_text (codes "OpusHead") (take 8 xs) (sym front.1) in
    let small : number_at xs 10 < 2 ^ 16 = omega (arith, bytes 10, bytes 11) in
    let bits : number_at xs 16 < 2 ^ 16 = omega (arith, bytes 16, bytes 17) in
    let rate = slice_index xs 12 + 256 * slice_index xs 13 + 65536 * slice_index xs 14 + 16777216 * slice_index xs 15 in
    let large : rate < 2 ^ 32 = omega (arith, bytes 12, bytes 13, bytes 14, bytes 15) in
    let gain = to_z w16 (number_at xs 16) in
    let all : spelled_head (record { version = slice_index xs 8; channels = slice_index xs 9; preskip = number_at xs 10; rate = rate; gain = gain; rest = drop 19 xs }) ≡ xs =
    ap (λ n. codes "OpusHead" ++ (slice_index xs 8 ∷ slice_index xs 9 ∷ (bytes_low_first 0 2 (number_at xs 10) ++ (bytes_low_first 0 4 rate ++ (bytes_low_first 0 2 n ++ (0 ∷ drop 19 xs)))))) (of_z-to_z w16 (number_at xs 16) bits)
    ∙ ap (λ ys. codes "OpusHead" ++ (slice_index xs 8 ∷ slice_index xs 9 ∷ (ys ++ (bytes_low_first 0 4 rate ++ (bytes_low_first 0 2 (number_at xs 16) ++ (0 ∷ drop 19 xs)))))) (two_spelled (slice_index xs 10) (slice_index xs 11) (bytes 10) (bytes 11))
    ∙ ap (λ ys. codes "OpusHead" ++ (slice_index xs 8 ∷ slice_index xs 9 ∷ slice_index xs 10 ∷ slice_index xs 11 ∷ (ys ++ (bytes_low_first 0 2 (number_at xs 16) ++ (0 ∷ drop 19 xs))))) (four_spelled (slice_index xs 12) (slice_index xs 13) (slice_index xs 14) (slice_index xs 15) (bytes 12) (bytes 13) (bytes 14) (bytes 15))
    ∙ ap (λ ys. codes "OpusHead" ++ (slice_index xs 8 ∷ slice_index xs 9 ∷ slice_index xs 10 ∷ slice_index xs 11 ∷ slice_index xs 12 ∷ slice_index xs 13 ∷ slice_index xs 14 ∷ slice_index xs 15 ∷ (ys ++ (0 ∷ drop 19 xs)))) (two_spelled (slice_index xs 16) (slice_index xs 17) (bytes 16) (bytes 17))
    ∙ ap (λ n. codes "OpusHead" ++ (slice_index xs 8 ∷ slice_index xs 9 ∷ slice_index xs 10 ∷ slice_index xs 11 ∷ slice_index xs 12 ∷ slice_index xs 13 ∷ slice_index xs 14 ∷ slice_index xs 15 ∷ slice_index xs 16 ∷ slice_index xs 17 ∷ n ∷ drop 19 xs)) (sym family)
    ∙ ap (λ ys. codes "OpusHead" ++ ys) (sym (from_ninth xs long)) ∙ ap (λ ys. ys ++ drop 8 xs) letters ∙ take-append-drop 8 xs in
    record {
      fields = record { version = slice_index xs 8; channels = slice_index xs 9; preskip = number_at xs 10; rate = rate; gain = gain; rest = drop 19 xs };
      sound = record { version = version; channels = channels; preskip = small; rate = large; gain = sfits_to_z {w = w16} (Fits-bits 16 tt bits) };
      spells = all;
      head_is = refl;
    }

equals : (n k : ℕ) → (n == k) ≡ true → n ≡ k
equals n k e = grind (arith, nat_tests)

one_or_two : (n : ℕ) (b : Bool) → (n == 1) ≡ b → (b || n == 2) ≡ true → (n ≡ 1) ⊎ (n ≡ 2)
one_or_two n true one e = inl (equals n 1 one)
one_or_two n false one e = inr (equals n 2 e)

head_found_by : (xs : List ℕ) → AreBytes xs → (a b d : Bool) → begins_head xs ≡ a → (slice_index xs 18 == 0) ≡ b → (slice_index xs 9 == 1 || slice_index xs 9 == 2) ≡ d → IfOk (head_of xs) (λ head. IsSpelledHead xs head)
unfolding head_of
head_found_by xs bytes false b d ea eb ed = rw ea tt
head_found_by xs bytes true false d ea eb ed = rw (ea, eb) tt
head_found_by xs bytes true true false ea eb ed = rw (ea, eb, ed) tt
head_found_by xs bytes true true true ea eb ed =
    let family : slice_index xs 18 ≡ 0 = grind (arith, nat_tests) in
    rw (ea, eb, ed) (fields_spelled xs bytes ea family (one_or_two (slice_index xs 9) (slice_index xs 9 == 1) refl ed))

pub head_found : (xs : List ℕ) → AreBytes xs → IfOk (head_of xs) (λ head. IsSpelledHead xs head)
head_found xs bytes = head_found_by xs bytes (begins_head xs) (slice_index xs 18 == 0) (slice_index xs 9 == 1 || slice_index xs 9 == 2) refl refl refl
