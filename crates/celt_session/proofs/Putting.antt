-- Text that is put into a slice, part by part.
use Rattle.std.proofs.Common.{◌≡◌, ℕ, zero, suc, ◌+◌, ◌-◌, ◌/◌, ◌%◌, ◌^◌, ◌<◌, ◌≤◌, List, [], ◌∷◌, ◌++◌, length, take, drop, refl, sym, ◌∙◌, ap, subst, arith, append_assoc, append-nil, length-append}
use Rattle.std.specs.Fmt.{decimal}
use Rattle.std.proofs.Math.Numerals.{add-one}
use Rattle.std.proofs.Math.Seq.{take-append_seam}
use Rattle.std.proofs.lemmas.Fmt.{decimal_digit, decimal_step, length-decimal-le}
use Rattle.std.proofs.lemmas.List.{length-take-le, length-drop}
use Rattle.celt_session.specs.Texts.{hex_digit, hex_digits, IsPut}
use Rattle.celt_session.specs.Lines.{line_of}

pub put_none : (old : List ℕ) (at : ℕ) → IsPut old old at at []
put_none old at = record { len = refl; front = sym (append-nil (take at old)); ends = omega arith }

-- one text behind another
pub put_then : (old mid new : List ℕ) (at middle end : ℕ) (first second : List ℕ) → IsPut old mid at middle first → IsPut mid new middle end second → IsPut old new at end (first ++ second)
put_then old mid new at middle end first second a b = record {
  len = b.len ∙ a.len;
  front = b.front ∙ ap (λ l. l ++ second) a.front ∙ append_assoc (take at old) first second;
  ends = let e = a.ends in let g = b.ends in let n = length-append first second in omega arith;
}

pub put_decimal_one : (old new : List ℕ) (at end n : ℕ) → n < 10 → IsPut old new at end ((48 + n) ∷ []) → IsPut old new at end (decimal n)
put_decimal_one old new at end n h p = subst (IsPut old new at end) (sym (decimal_digit n h)) p

pub put_decimal_more : (old mid new : List ℕ) (at middle end n : ℕ) → 10 ≤ n → n < 2 ^ 64 → IsPut old mid at middle (decimal (n / 10)) → IsPut mid new middle end ((48 + n % 10) ∷ []) → IsPut old new at end (decimal n)
put_decimal_more old mid new at middle end n h small a b = subst (IsPut old new at end) (sym (decimal_step n h small)) (put_then old mid new at middle end (decimal (n / 10)) ((48 + n % 10) ∷ []) a b)

pub decimal_room : (n : ℕ) → 10 ≤ n → n < 2 ^ 64 → length (decimal n) ≡ length (decimal (n / 10)) + 1
decimal_room n h small = ap length (decimal_step n h small) ∙ length-append (decimal (n / 10)) ((48 + n % 10) ∷ [])

pub decimal_one_room : (n : ℕ) → n < 10 → length (decimal n) ≡ 1
decimal_one_room n h = ap length (decimal_digit n h)

pub hex-none : (n : ℕ) → hex_digits 0 n ≡ []
unfolding hex_digits
hex-none n = refl

pub hex-more : (count n : ℕ) → hex_digits (suc count) n ≡ hex_digits count (n / 16) ++ hex_digit (n % 16) ∷ []
unfolding hex_digits
hex-more count n = refl

pub hex_len : (count n : ℕ) → length (hex_digits count n) ≡ count
unfolding hex_digits
hex_len zero n = refl
hex_len (suc count) n = length-append (hex_digits count (n / 16)) (hex_digit (n % 16) ∷ []) ∙ ap (λ k. k + 1) (hex_len count (n / 16)) ∙ add-one count

pub hex-behind : (count n : ℕ) → 0 < count → hex_digits count n ≡ hex_digits (count - 1) (n / 16) ++ hex_digit (n % 16) ∷ []
hex-behind zero n h = absurd (omega arith)
hex-behind (suc count) n h = let e : count ≡ suc count - 1 = omega arith in hex-more count n ∙ ap (λ k. hex_digits k (n / 16) ++ hex_digit (n % 16) ∷ []) e

-- the line of a frame is not longer than its room
pub decimal_short : (n : ℕ) → n < 2 ^ 64 → length (decimal n) ≤ 20
decimal_short n h = length-decimal-le 20 n (omega arith) (omega arith) h

pub decimal_four : (n : ℕ) → n ≤ 1275 → length (decimal n) ≤ 4
decimal_four n h = length-decimal-le 4 n (omega arith) (omega arith) (omega arith)

-- the six parts of a line
pub line_is : (o a b d e f g : List ℕ) (at1 at2 at3 at4 at5 end number len range : ℕ)
    → IsPut o a 0 at1 (decimal number) → IsPut a b at1 at2 (32 ∷ []) → IsPut b d at2 at3 (decimal len) → IsPut d e at3 at4 (32 ∷ []) → IsPut e f at4 at5 (hex_digits 8 range) → IsPut f g at5 end (10 ∷ [])
    → take end g ≡ line_of number len range
unfolding line_of
line_is o a b d e f g at1 at2 at3 at4 at5 end number len range p1 p2 p3 p4 p5 p6 =
    let tail5 = put_then e f g at4 at5 end (hex_digits 8 range) (10 ∷ []) p5 p6 in
    let tail4 = put_then d e g at3 at4 end (32 ∷ []) (hex_digits 8 range ++ 10 ∷ []) p4 tail5 in
    let tail3 = put_then b d g at2 at3 end (decimal len) (32 ∷ (hex_digits 8 range ++ 10 ∷ [])) p3 tail4 in
    let tail2 = put_then a b g at1 at2 end (32 ∷ []) (decimal len ++ 32 ∷ (hex_digits 8 range ++ 10 ∷ [])) p2 tail3 in
    (put_then o a g 0 at1 end (decimal number) (32 ∷ (decimal len ++ 32 ∷ (hex_digits 8 range ++ 10 ∷ []))) p1 tail2).front

-- text that is put between what stands before it and behind it
pub put_spliced : (old new : List ℕ) (at end : ℕ) (text : List ℕ) → at + length text ≤ length old → end ≡ at + length text → new ≡ take at old ++ (text ++ drop end old) → IsPut old new at end text
put_spliced old new at end text room is spliced =
    let front = take at old ++ text in
    let first : length (take at old) ≡ at = length-take-le at old (omega arith) in
    let many : length front ≡ end = let n = length-append (take at old) text in omega arith in
    let whole : new ≡ front ++ drop end old = spliced ∙ sym (append_assoc (take at old) text (drop end old)) in
    record {
      len = let a = ap length whole in let b = length-append front (drop end old) in let d = length-drop end old in omega arith;
      front = ap (take end) whole ∙ ap (λ n. take n (front ++ drop end old)) (sym many) ∙ take-append_seam front (drop end old);
      ends = is;
    }
