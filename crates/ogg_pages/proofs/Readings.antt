-- Bytes that are read as a page are the spelling of its fields.
use Rattle.std.proofs.Common.{◌≡◌, ℕ, ◌+◌, ◌^◌, ◌<◌, ◌≤◌, List, ◌∷◌, ◌++◌, length, take, drop, sum, true, sym, ◌∙◌, ap, subst, arith, append_assoc, length-drop, drop-drop, drop-cons}
use Rattle.std.specs.Prelude.{slice_index, nat_eq}
use Rattle.std.specs.Int.{w32, w64, cast_unsigned, from_le_bytes}
use Rattle.std.proofs.Math.Facts.{of_z-to_z, sfits_to_z, Fits-of_lt}
use Rattle.std.proofs.lemmas.List.{take-append-drop, take_all, get_or-take, length-take-le}
use Rattle.std.proofs.lemmas.Bool.{eqb-true}
use Rattle.std.proofs.lemmas.Nat.{le_bytes_4, le_bytes_8}
use Rattle.std.specs.Cmp.Lexicographic.{same_text}
use lib.Pointwise.{pointwise}
use Rattle.byteorder.specs.Endian.{little_bytes, little_number, little_from}
use Rattle.byteorder.specs.Numbers.{little_from-take, little_from-lt}
use Rattle.ogg_pages.specs.declared.page.Verdict.TheVariants.{Whole}
use Rattle.ogg_pages.specs.Bounds.{segments_of, lacing_of, page_len}
use Rattle.ogg_pages.specs.Checksum.{blanked, checksum}
use Rattle.ogg_pages.specs.Fields.{Page, body_of, page_of}
use Rattle.ogg_pages.specs.Remainder.{IsRemainder}
use Rattle.ogg_pages.specs.Spelling.{AreBytes, IsPage, header, with_checksum, spelling}
use Rattle.ogg_pages.specs.Verdicts.{capture, captures, checksum_in, summed, verdict}
use Rattle.ogg_pages.proofs.ByteLists.{bytes-take, bytes-drop}
use Rattle.ogg_pages.proofs.Judged.{sound_of, page_len-take}
use Rattle.ogg_pages.proofs.Later.{captured_before}
use Rattle.ogg_pages.proofs.Remainders.{checksum_is_remainder}
use Rattle.ogg_pages.proofs.Spelled.{checksum_same}

capture_front : (xs : List ℕ) → 4 ≤ length xs → captures xs ≡ true → take 4 xs ≡ capture
unfolding captures
capture_front xs h e =
    let four : length (take 4 xs) ≡ 4 = length-take-le 4 xs h in
    same_text (take 4 xs) capture (sym e ∙ ap (λ n. pointwise nat_eq (take 4 xs) (take n capture)) four)

-- the bytes of a number stand where it is read
number_4 : (xs : List ℕ) → AreBytes xs → 4 ≤ length xs → little_bytes 4 (little_number 4 xs) ≡ take 4 xs
number_4 xs small h =
    let four = take 4 xs in
    let read : little_from 0 4 four ≡ from_le_bytes w32 four = omega arith in
    le_bytes_4 four (little_number 4 xs) (length-take-le 4 xs h) (bytes-take 4 xs small) (sym (little_from-take 0 4 4 xs (omega arith)) ∙ read)

number_8 : (xs : List ℕ) → AreBytes xs → 8 ≤ length xs → little_bytes 8 (little_number 8 xs) ≡ take 8 xs
number_8 xs small h =
    let eight = take 8 xs in
    let read : little_from 0 8 eight ≡ from_le_bytes w64 eight = omega arith in
    le_bytes_8 eight (little_number 8 xs) (length-take-le 8 xs h) (bytes-take 8 xs small) (sym (little_from-take 0 8 8 xs (omega arith)) ∙ read)

at_number_4 : (at : ℕ) (xs : List ℕ) → AreBytes xs → at + 4 ≤ length xs → drop at xs ≡ little_bytes 4 (little_number 4 (drop at xs)) ++ drop (at + 4) xs
at_number_4 at xs small h =
    sym (take-append-drop 4 (drop at xs))
    ∙ ap (λ l. l ++ drop 4 (drop at xs)) (sym (number_4 (drop at xs) (bytes-drop at xs small) (simp length-drop (omega arith))))
    ∙ ap (λ l. little_bytes 4 (little_number 4 (drop at xs)) ++ l) (drop-drop 4 at xs)

at_number_8 : (at : ℕ) (xs : List ℕ) → AreBytes xs → at + 8 ≤ length xs → drop at xs ≡ little_bytes 8 (little_number 8 (drop at xs)) ++ drop (at + 8) xs
at_number_8 at xs small h =
    sym (take-append-drop 8 (drop at xs))
    ∙ ap (λ l. l ++ drop 8 (drop at xs)) (sym (number_8 (drop at xs) (bytes-drop at xs small) (simp length-drop (omega arith))))
    ∙ ap (λ l. little_bytes 8 (little_number 8 (drop at xs)) ++ l) (drop-drop 8 at xs)

-- bytes of just a page's length
record IsWhole (xs : List ℕ) : Type 0 where
  pub small : AreBytes xs
  pub len : length xs ≡ page_len xs
  pub captured : captures xs ≡ true
  pub version : slice_index xs 4 ≡ 0

granule_read : (xs : List ℕ) → AreBytes xs → little_number 8 (drop 6 xs) < 2 ^ 64
granule_read xs small = little_from-lt 0 8 (drop 6 xs) (bytes-drop 6 xs small)

lacing_len : (xs : List ℕ) → IsWhole xs → length (lacing_of xs) ≡ segments_of xs
lacing_len xs w = let l = w.len in length-take-le (segments_of xs) (drop 27 xs) (simp length-drop (omega arith))

rest_len : (xs : List ℕ) → IsWhole xs → length (drop (27 + segments_of xs) xs) ≡ sum (lacing_of xs)
rest_len xs w = let l = w.len in simp length-drop (omega arith)

body_all : (xs : List ℕ) → IsWhole xs → body_of xs ≡ drop (27 + segments_of xs) xs
body_all xs w = let e = rest_len xs w in take_all (sum (lacing_of xs)) (drop (27 + segments_of xs) xs) (omega arith)

behind_header : (xs : List ℕ) → IsWhole xs → drop 27 xs ≡ lacing_of xs ++ body_of xs
behind_header xs w =
    sym (take-append-drop (segments_of xs) (drop 27 xs))
    ∙ ap (λ l. lacing_of xs ++ l) (drop-drop (segments_of xs) 27 xs ∙ sym (body_all xs w))

whole_fields : (xs : List ℕ) → IsWhole xs → IsPage (page_of xs)
whole_fields xs w =
    let few : segments_of xs < 256 = w.small 26 in
    let l = lacing_len xs w in
    record {
      flags = w.small 5;
      granule = sfits_to_z (Fits-of_lt (granule_read xs w.small));
      serial = little_from-lt 0 4 (drop 14 xs) (bytes-drop 14 xs w.small);
      sequence = little_from-lt 0 4 (drop 18 xs) (bytes-drop 18 xs w.small);
      segments = omega arith;
      lacing = bytes-take (segments_of xs) (drop 27 xs) (bytes-drop 27 xs w.small);
      body = bytes-take (sum (lacing_of xs)) (drop (27 + segments_of xs) xs) (bytes-drop (27 + segments_of xs) xs w.small);
      body_len = ap length (body_all xs w) ∙ rest_len xs w;
    }

-- the parts, each with what stands behind it, put together
from_parts : (q : Page) (s : ℕ) (a b c d e f g h : List ℕ) (xs : List ℕ) → xs ≡ capture ++ a → a ≡ 0 ∷ b → b ≡ q.flags ∷ c
    → c ≡ little_bytes 8 (cast_unsigned w64 q.granule) ++ d → d ≡ little_bytes 4 q.serial ++ e → e ≡ little_bytes 4 q.sequence ++ f → f ≡ little_bytes 4 s ++ g
    → g ≡ length q.lacing ∷ h → h ≡ q.lacing ++ q.body → xs ≡ with_checksum q s
from_parts q s a b c d e f g h xs at_0 at_4 at_5 at_6 at_14 at_18 at_22 at_26 at_27 =
    rw (at_0, at_4, at_5, at_6, at_14, at_18, at_22, at_26, at_27) (sym (append_assoc (header q s) q.lacing q.body))

whole_parts : (xs : List ℕ) → IsWhole xs → xs ≡ with_checksum (page_of xs) (checksum_in xs)
unfolding checksum_in
whole_parts xs w =
    let q : Page = page_of xs in
    let l = w.len in
    let s = little_number 4 (drop 22 xs) in
    let granule : cast_unsigned w64 q.granule ≡ little_number 8 (drop 6 xs) = of_z-to_z {w = w64} (Fits-of_lt (granule_read xs w.small)) in
    from_parts q s (drop 4 xs) (drop 5 xs) (drop 6 xs) (drop 14 xs) (drop 18 xs) (drop 22 xs) (drop 26 xs) (drop 27 xs) xs
    (sym (take-append-drop 4 xs) ∙ ap (λ t. t ++ drop 4 xs) (capture_front xs (omega arith) w.captured))
    (drop-cons xs 4 0 (omega arith) ∙ ap (λ v. v ∷ drop 5 xs) w.version)
    (drop-cons xs 5 0 (omega arith))
    (at_number_8 6 xs w.small (omega arith) ∙ ap (λ n. little_bytes 8 n ++ drop 14 xs) (sym granule))
    (at_number_4 14 xs w.small (omega arith))
    (at_number_4 18 xs w.small (omega arith))
    (at_number_4 22 xs w.small (omega arith))
    (drop-cons xs 26 0 (omega arith) ∙ ap (λ n. n ∷ drop 27 xs) (sym (lacing_len xs w)))
    (behind_header xs w)

whole_spelled : (xs : List ℕ) → IsWhole xs → summed xs ≡ true → xs ≡ spelling (page_of xs)
unfolding spelling
whole_spelled xs w h =
    let q : Page = page_of xs in
    let parts = whole_parts xs w in
    let held : checksum xs ≡ checksum_in xs = eqb-true (checksum xs) (checksum_in xs) h in
    let own : checksum_in xs ≡ checksum (with_checksum q 0) = sym held ∙ ap checksum parts ∙ checksum_same q (checksum_in xs) in
    parts ∙ ap (with_checksum q) own

is_whole : (bytes : List ℕ) (n : ℕ) → AreBytes bytes → verdict bytes ≡ Whole n → IsWhole (take n bytes)
is_whole bytes n small h =
    let s = sound_of bytes n h in
    let first = s.length_is in
    record {
      small = bytes-take n bytes small;
      len = length-take-le n bytes s.inside ∙ sym (page_len-take bytes n s.length_is s.inside);
      captured = captured_before (take n bytes) (drop n bytes) (ap captures (take-append-drop n bytes) ∙ s.captured);
      version = get_or-take n bytes 4 0 (omega arith) ∙ s.version;
    }

pub read_is_page : (bytes : List ℕ) (n : ℕ) → AreBytes bytes → verdict bytes ≡ Whole n → IsPage (page_of (take n bytes))
read_is_page bytes n small h = whole_fields (take n bytes) (is_whole bytes n small h)

pub read_is_spelling : (bytes : List ℕ) (n : ℕ) → AreBytes bytes → verdict bytes ≡ Whole n → take n bytes ≡ spelling (page_of (take n bytes))
read_is_spelling bytes n small h = whole_spelled (take n bytes) (is_whole bytes n small h) (sound_of bytes n h).sum_is

-- the checksum that a page holds is the remainder
pub read_remainder : (bytes : List ℕ) (n : ℕ) → AreBytes bytes → verdict bytes ≡ Whole n → IsRemainder (blanked (take n bytes)) (checksum_in (take n bytes))
read_remainder bytes n small h =
    let xs = take n bytes in
    let held : checksum xs ≡ checksum_in xs = eqb-true (checksum xs) (checksum_in xs) (sound_of bytes n h).sum_is in
    subst (IsRemainder (blanked xs)) held (checksum_is_remainder xs (bytes-take n bytes small))
