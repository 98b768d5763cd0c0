-- Reading a page that is spelled, whatever follows.
use Rattle.std.proofs.Common.{◌≡◌, ℕ, ◌+◌, ◌^◌, ◌<◌, ◌≤◌, List, [], ◌∷◌, ◌++◌, length, take, drop, sum, refl, true, sym, ◌∙◌, ap, arith, append_assoc, length-append, length-take, drop-drop, inl, inr, ◌⊎◌}
use Rattle.std.specs.Prelude.{slice_index}
use Rattle.std.specs.Int.{w64, cast_signed, cast_unsigned}
use Rattle.std.proofs.Math.Facts.{to_z-of_z, Fits-of_z}
use Rattle.std.proofs.Math.Seq.{take-append_seam}
use Rattle.std.proofs.lemmas.List.{append-nil, take_at, drop_at, take-append-drop, get_or-take, get_or_past}
use Rattle.std.proofs.lemmas.Bool.{cases_lt, eq-eqb}
use Rattle.byteorder.specs.Endian.{little_bytes, little_number}
use Rattle.byteorder.specs.Numbers.{little_number-reads_back}
use Rattle.ogg_pages.specs.declared.page.Verdict.TheVariants.{Whole, Need}
use Rattle.ogg_pages.specs.Bounds.{lacing_of, page_len}
use Rattle.ogg_pages.specs.Checksum.{blanked, remainder_from, checksum}
use Rattle.ogg_pages.specs.Fields.{Page, body_of, page_of}
use Rattle.ogg_pages.specs.Spelling.{AreBytes, IsPage, header, with_checksum, spelling}
use Rattle.ogg_pages.specs.Verdicts.{captures, checksum_in, summed, verdict}
use Rattle.ogg_pages.proofs.ByteLists.{bytes-cons, bytes-nil, bytes-append, bytes-low_first}
use Rattle.ogg_pages.proofs.Judged.{sound_of, of_sound, of_cut, page_len-append}
use Rattle.ogg_pages.proofs.Later.{captured_before}
use Rattle.ogg_pages.proofs.Remainders.{checksum-lt}
use Rattle.ogg_pages.proofs.Written.{length-with_checksum, length-spelling}

-- ---- the parts of the bytes of a page that more bytes follow

pub parts : (p : Page) (s : ℕ) (rest : List ℕ) → with_checksum p s ++ rest ≡ header p s ++ (p.lacing ++ (p.body ++ rest))
parts p s rest = append_assoc (header p s ++ p.lacing) p.body rest ∙ append_assoc (header p s) p.lacing (p.body ++ rest)

header_captures : (p : Page) (s : ℕ) (t : List ℕ) → captures (header p s ++ t) ≡ true
unfolding captures
header_captures p s t = refl

header_lacing : (p : Page) (s : ℕ) (t : List ℕ) → lacing_of (header p s ++ (p.lacing ++ t)) ≡ p.lacing
header_lacing p s t = take-append_seam p.lacing t

header_len : (p : Page) (s : ℕ) (t : List ℕ) → page_len (header p s ++ (p.lacing ++ t)) ≡ 27 + length p.lacing + sum p.lacing
header_len p s t = ap (λ l. 27 + length p.lacing + sum l) (header_lacing p s t)

header_body : (p : Page) (s : ℕ) (rest : List ℕ) → length p.body ≡ sum p.lacing → body_of (header p s ++ (p.lacing ++ (p.body ++ rest))) ≡ p.body
header_body p s rest e =
    let all = header p s ++ (p.lacing ++ (p.body ++ rest)) in
    let behind : drop (27 + length p.lacing) all ≡ p.body ++ rest = sym (drop-drop (length p.lacing) 27 all) ∙ drop_at p.lacing (p.body ++ rest) (length p.lacing) refl in
    ap (λ l. take (sum l) (drop (27 + length p.lacing) all)) (header_lacing p s (p.body ++ rest))
    ∙ ap (take (sum p.lacing)) behind
    ∙ take_at p.body rest (sum p.lacing) e

-- the fields are read back
header_fields : (p : Page) (s : ℕ) (rest : List ℕ) → IsPage p → page_of (header p s ++ (p.lacing ++ (p.body ++ rest))) ≡ p
header_fields p s rest is =
    let t = p.lacing ++ (p.body ++ rest) in
    let all = header p s ++ t in
    let z = cast_unsigned w64 p.granule in
    let segments = length p.lacing ∷ t in
    let granule : little_number 8 (drop 6 all) ≡ z =
    little_number-reads_back 8 z (little_bytes 4 p.serial ++ (little_bytes 4 p.sequence ++ (little_bytes 4 s ++ segments))) (Fits-of_z is.granule).fits in
    let serial : little_number 4 (drop 14 all) ≡ p.serial =
    little_number-reads_back 4 p.serial (little_bytes 4 p.sequence ++ (little_bytes 4 s ++ segments)) is.serial in
    let sequence : little_number 4 (drop 18 all) ≡ p.sequence =
    little_number-reads_back 4 p.sequence (little_bytes 4 s ++ segments) is.sequence in
    (λ i. record {
      flags = p.flags;
      granule = (ap (cast_signed w64) granule ∙ to_z-of_z is.granule) i;
      serial = serial i;
      sequence = sequence i;
      lacing = header_lacing p s (p.body ++ rest) i;
      body = header_body p s rest is.body_len i;
    })

-- ---- the checksum of a page that is spelled

blanked_same : (p : Page) (s : ℕ) → blanked (with_checksum p s) ≡ blanked (with_checksum p 0)
blanked_same p s =
    let apart : (k : ℕ) → with_checksum p k ≡ header p k ++ (p.lacing ++ p.body) = λ k. append_assoc (header p k) p.lacing p.body in
    let same : blanked (header p s ++ (p.lacing ++ p.body)) ≡ blanked (header p 0 ++ (p.lacing ++ p.body)) = refl in
    ap blanked (apart s) ∙ same ∙ ap blanked (sym (apart 0))

pub checksum_same : (p : Page) (s : ℕ) → checksum (with_checksum p s) ≡ checksum (with_checksum p 0)
unfolding checksum
checksum_same p s = ap (λ l. remainder_from 0 l) (blanked_same p s)

pub checksum_held : (p : Page) (s : ℕ) → s < 2 ^ 32 → checksum_in (with_checksum p s) ≡ s
unfolding checksum_in
checksum_held p s h =
    ap (λ l. little_number 4 (drop 22 l)) (append_assoc (header p s) p.lacing p.body)
    ∙ little_number-reads_back 4 s (length p.lacing ∷ (p.lacing ++ p.body)) h

bytes-header : (p : Page) (s : ℕ) → IsPage p → AreBytes (header p s)
bytes-header p s is =
    let z = cast_unsigned w64 p.granule in
    let few = is.segments in
    let flags = is.flags in
    let behind_sum = length p.lacing ∷ [] in
    let behind_sequence = little_bytes 4 s ++ behind_sum in
    let behind_serial = little_bytes 4 p.sequence ++ behind_sequence in
    let behind_granule = little_bytes 4 p.serial ++ behind_serial in
    let numbers : AreBytes (p.flags ∷ little_bytes 8 z ++ behind_granule) =
    bytes-cons p.flags (little_bytes 8 z ++ behind_granule) flags
    (bytes-append (little_bytes 8 z) behind_granule (bytes-low_first 0 8 z)
    (bytes-append (little_bytes 4 p.serial) behind_serial (bytes-low_first 0 4 p.serial)
    (bytes-append (little_bytes 4 p.sequence) behind_sequence (bytes-low_first 0 4 p.sequence)
    (bytes-append (little_bytes 4 s) behind_sum (bytes-low_first 0 4 s) (bytes-cons (length p.lacing) [] (omega arith) bytes-nil))))) in
    let begin : AreBytes (79 ∷ 103 ∷ 103 ∷ 83 ∷ 0 ∷ []) =
    bytes-cons 79 (103 ∷ 103 ∷ 83 ∷ 0 ∷ []) (omega arith) (bytes-cons 103 (103 ∷ 83 ∷ 0 ∷ []) (omega arith)
    (bytes-cons 103 (83 ∷ 0 ∷ []) (omega arith) (bytes-cons 83 (0 ∷ []) (omega arith) (bytes-cons 0 [] (omega arith) bytes-nil)))) in
    bytes-append (79 ∷ 103 ∷ 103 ∷ 83 ∷ 0 ∷ []) (p.flags ∷ little_bytes 8 z ++ behind_granule) begin numbers

pub bytes-with_checksum : (p : Page) (s : ℕ) → IsPage p → AreBytes (with_checksum p s)
bytes-with_checksum p s is =
    bytes-append (header p s ++ p.lacing) p.body (bytes-append (header p s) p.lacing (bytes-header p s is) is.lacing) is.body

pub summed-spelling : (p : Page) → IsPage p → summed (spelling p) ≡ true
unfolding spelling
summed-spelling p is =
    let s = checksum (with_checksum p 0) in
    let small : s < 2 ^ 32 = checksum-lt (with_checksum p 0) (bytes-with_checksum p 0 is) in
    eq-eqb (checksum (with_checksum p s)) (checksum_in (with_checksum p s)) (checksum_same p s ∙ sym (checksum_held p s small))

-- ---- the law of a page, the first three points

spelled : (p : Page) (rest : List ℕ) → spelling p ++ rest ≡ header p (checksum (with_checksum p 0)) ++ (p.lacing ++ (p.body ++ rest))
unfolding spelling
spelled p rest = parts p (checksum (with_checksum p 0)) rest

pub spelling_len : (p : Page) → IsPage p → length (spelling p) ≡ 27 + length p.lacing + sum p.lacing
spelling_len p is = length-spelling p ∙ length-with_checksum p 0 ∙ ap (λ n. 27 + length p.lacing + n) is.body_len

pub spelling_read : (p : Page) (rest : List ℕ) → IsPage p → verdict (spelling p ++ rest) ≡ Whole (length (spelling p))
spelling_read p rest is =
    let s = checksum (with_checksum p 0) in
    let t = p.lacing ++ (p.body ++ rest) in
    let e = spelled p rest in
    of_sound (spelling p ++ rest) (length (spelling p)) (record {
      captured = ap captures e ∙ header_captures p s t;
      version = ap (λ l. slice_index l 4) e;
      length_is = spelling_len p is ∙ sym (header_len p s (p.body ++ rest)) ∙ ap page_len (sym e);
      inside = simp length-append (omega arith);
      sum_is = ap summed (take-append_seam (spelling p) rest) ∙ summed-spelling p is;
    })

pub spelling_fields : (p : Page) (rest : List ℕ) → IsPage p → page_of (spelling p ++ rest) ≡ p
spelling_fields p rest is = ap page_of (spelled p rest) ∙ header_fields p (checksum (with_checksum p 0)) rest is

pub spelling_page : (p : Page) → IsPage p → page_of (spelling p) ≡ p
spelling_page p is = ap page_of (sym (append-nil (spelling p))) ∙ spelling_fields p [] is

pub spelling_only : (p q : Page) → IsPage p → IsPage q → spelling p ≡ spelling q → p ≡ q
spelling_only p q a b e = sym (spelling_page p a) ∙ ap page_of e ∙ spelling_page q b

-- a proper prefix of a spelling
pub prefix_need : (p : Page) (k : ℕ) → IsPage p → k < length (spelling p) → verdict (take k (spelling p)) ≡ Need
prefix_need p k is h =
    let all = spelling p in
    let s = sound_of (all ++ []) (length all) (spelling_read p [] is) in
    let whole : all ++ [] ≡ all = append-nil all in
    let joined : take k all ++ drop k all ≡ all = take-append-drop k all in
    let captured : captures all ≡ true = ap captures (sym whole) ∙ s.captured in
    let version : slice_index all 4 ≡ 0 = ap (λ l. slice_index l 4) (sym whole) ∙ s.version in
    let len : length all ≡ page_len all = s.length_is ∙ ap page_len whole in
    let few : length (take k all) ≡ k = simp length-take (omega arith) in
    of_cut (take k all) (record {
      captured = captured_before (take k all) (drop k all) (ap captures joined ∙ captured);
      version = version_cut all version (cases_lt 4 k);
      short = short_cut all h joined len few (cases_lt (length (take k all)) (page_len (take k all)));
    })
  where
    version_cut : (all : List ℕ) → slice_index all 4 ≡ 0 → (4 < k) ⊎ (k ≤ 4) → slice_index (take k all) 4 ≡ 0
    version_cut all e (inl there) = get_or-take k all 4 0 there ∙ e
    version_cut all e (inr past) = get_or_past (take k all) 4 0 (simp length-take (omega arith))

    short_cut : (all : List ℕ) → k < length all → take k all ++ drop k all ≡ all → length all ≡ page_len all → length (take k all) ≡ k
        → (length (take k all) < page_len (take k all)) ⊎ (page_len (take k all) ≤ length (take k all)) → length (take k all) < page_len (take k all)
    short_cut all more joined len few (inl short) = short
    short_cut all more joined len few (inr there) =
        let same : page_len all ≡ page_len (take k all) = ap page_len (sym joined) ∙ page_len-append (take k all) (drop k all) there in
        absurd (omega arith)
