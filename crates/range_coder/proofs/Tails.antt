-- The bits at the end of a frame, from four bytes counted from its end.
use Rattle.std.proofs.Common.{◌≡◌, ℕ, zero, suc, ◌+◌, ◌-◌, ◌*◌, ◌/◌, ◌%◌, ◌^◌, ◌<◌, ◌≤◌, inl, inr, List, length, slice_index, refl, sym, ap, ◌∙◌, arith}
use Rattle.std.proofs.lemmas.Bool.{cases_lt}
use Rattle.std.proofs.lemmas.Nat.{pow-add, pow_pos}
use Rattle.std.proofs.Math.Arith.{mod-mul}
use Rattle.std.proofs.Math.Nat.{div-le_self, div-div-eq-div-mul, mul-add-mod_self_right}
use Rattle.range_coder.specs.FrameBits.{front, tail}
use Rattle.range_coder.proofs.Bits.{front_more}

-- a byte counted from the end
pub record IsFromEnd (frame : List ℕ) (place byte : ℕ) : Type 0 where
  pub inside : place < length frame → byte ≡ slice_index frame (length frame - 1 - place)
  pub past : length frame ≤ place → byte ≡ 0

front_none : (frame : List ℕ) → front frame 0 ≡ 0
unfolding front
front_none frame = refl

pub front_from_end : (frame : List ℕ) (place byte : ℕ) → IsFromEnd frame place byte
    → front frame (length frame - place) ≡ front frame (length frame - suc place) * 256 + byte
front_from_end frame place byte is =
    elim (cases_lt place (length frame)) [
      | inl inside ↦
          let before = length frame - suc place in
          let e : length frame - place ≡ suc before = omega arith in
          let same : length frame - 1 - place ≡ before = omega arith in
          let byte_is : byte ≡ slice_index frame before = is.inside inside ∙ ap (slice_index frame) same in
          ap (front frame) e ∙ front_more frame before ∙ ap (λ n. front frame before * 256 + n) (sym byte_is)
      | inr past ↦
          let none : length frame - place ≡ 0 = omega arith in
          let less : length frame - suc place ≡ 0 = omega arith in
          let zero_is : byte ≡ 0 = is.past past in
          let start = front_none frame in
          let first : front frame (length frame - place) ≡ 0 = ap (front frame) none ∙ start in
          let next : front frame (length frame - suc place) ≡ 0 = ap (front frame) less ∙ start in
          omega arith
    ]

-- the byte of a place, counted from the end
byte_of : (frame : List ℕ) (place : ℕ) → ((k : ℕ) → slice_index frame k < 256) → (byte : ℕ) × IsFromEnd frame place byte × (byte < 256)
byte_of frame place bytes =
    elim (cases_lt place (length frame)) [
      | inl inside ↦ (slice_index frame (length frame - 1 - place), record { inside = λ p. refl; past = λ p. absurd (omega arith) }, bytes (length frame - 1 - place))
      | inr past ↦ (0, record { inside = λ p. absurd (omega arith); past = λ p. refl }, omega arith)
    ]

front_dropped : (frame : List ℕ) (place : ℕ) → ((k : ℕ) → slice_index frame k < 256)
    → front frame (length frame) / 2 ^ (8 * place) ≡ front frame (length frame - place)
front_dropped frame zero bytes =
    let one : front frame (length frame) / 1 ≡ front frame (length frame) = omega arith in
    one ∙ ap (front frame) (let e : length frame ≡ length frame - 0 = omega arith in e)
front_dropped frame (suc place) bytes =
    let before = front_dropped frame place bytes in
    let byte = byte_of frame place bytes in
    let split = front_from_end frame place byte.0 byte.1 in
    let small = byte.2 in
    let power : 2 ^ (8 * suc place) ≡ 2 ^ (8 * place) * 2 ^ 8 = ap (λ n. 2 ^ n) (let e : 8 * suc place ≡ 8 * place + 8 = omega arith in e) ∙ pow-add 2 (8 * place) 8 in
    let twice = div-div-eq-div-mul (front frame (length frame)) (2 ^ (8 * place)) (2 ^ 8) in
    ap (λ n. front frame (length frame) / n) power ∙ sym twice ∙ ap (λ n. n / 2 ^ 8) before ∙ omega arith

-- bits within the lowest 32 of a number
shifted : (above word low : ℕ) → low < 8 → (above * 2 ^ 32 + word) / 2 ^ low ≡ above * 2 ^ (32 - low) + word / 2 ^ low
shifted above word zero le = omega arith
shifted above word (suc zero) le = omega arith
shifted above word (suc (suc zero)) le = omega arith
shifted above word (suc (suc (suc zero))) le = omega arith
shifted above word (suc (suc (suc (suc zero)))) le = omega arith
shifted above word (suc (suc (suc (suc (suc zero))))) le = omega arith
shifted above word (suc (suc (suc (suc (suc (suc zero)))))) le = omega arith
shifted above word (suc (suc (suc (suc (suc (suc (suc zero))))))) le = omega arith
shifted above word (suc (suc (suc (suc (suc (suc (suc (suc n)))))))) le = absurd (omega arith)

within_word : (above word low count : ℕ) → low < 8 → count ≤ 24 → (above * 2 ^ 32 + word) / 2 ^ low % 2 ^ count ≡ word / 2 ^ low % 2 ^ count
within_word above word low count less few =
    let power : 2 ^ (32 - low) ≡ 2 ^ (32 - low - count) * 2 ^ count = ap (λ n. 2 ^ n) (let e : 32 - low ≡ (32 - low - count) + count = omega arith in e) ∙ pow-add 2 (32 - low - count) count in
    let split : (above * 2 ^ 32 + word) / 2 ^ low ≡ above * 2 ^ (32 - low - count) * 2 ^ count + word / 2 ^ low =
    shifted above word low less ∙ ap (λ n. above * n + word / 2 ^ low) power ∙ omega arith in
    ap (λ n. n % 2 ^ count) split ∙ mul-add-mod_self_right (above * 2 ^ (32 - low - count)) (2 ^ count) (word / 2 ^ low)

-- the tail from four bytes
pub tail_is : (frame : List ℕ) (from count a b c d : ℕ) → ((k : ℕ) → slice_index frame k < 256) → count ≤ 24
    → IsFromEnd frame (from / 8) a → IsFromEnd frame (from / 8 + 1) b → IsFromEnd frame (from / 8 + 2) c → IsFromEnd frame (from / 8 + 3) d
    → tail frame from count ≡ (((d * 256 + c) * 256 + b) * 256 + a) / 2 ^ (from % 8) % 2 ^ count
unfolding tail
tail_is frame from count a b c d bytes few first second third fourth =
    let place = from / 8 in
    let low = from % 8 in
    let next : (n : ℕ) → length frame - suc n ≡ length frame - (n + 1) = λ n. omega arith in
    let one = front_from_end frame place a first in
    let two = front_from_end frame (place + 1) b second in
    let three = front_from_end frame (place + 2) c third in
    let four = front_from_end frame (place + 3) d fourth in
    let second_is : front frame (length frame - suc place) ≡ front frame (length frame - (place + 1)) = ap (λ n. front frame (length frame - n)) (let e : suc place ≡ place + 1 = omega arith in e) in
    let third_is : front frame (length frame - suc (place + 1)) ≡ front frame (length frame - (place + 2)) = ap (λ n. front frame (length frame - n)) (let e : suc (place + 1) ≡ place + 2 = omega arith in e) in
    let fourth_is : front frame (length frame - suc (place + 2)) ≡ front frame (length frame - (place + 3)) = ap (λ n. front frame (length frame - n)) (let e : suc (place + 2) ≡ place + 3 = omega arith in e) in
    let above = front frame (length frame - suc (place + 3)) in
    let word = ((d * 256 + c) * 256 + b) * 256 + a in
    let number : front frame (length frame - place) ≡ above * 2 ^ 32 + word = omega arith in
    let power : 2 ^ from ≡ 2 ^ (8 * place) * 2 ^ low = ap (λ n. 2 ^ n) (let e : from ≡ 8 * place + low = omega arith in e) ∙ pow-add 2 (8 * place) low in
    let twice = div-div-eq-div-mul (front frame (length frame)) (2 ^ (8 * place)) (2 ^ low) in
    let dropped : front frame (length frame) / 2 ^ from ≡ (above * 2 ^ 32 + word) / 2 ^ low =
    ap (λ n. front frame (length frame) / n) power ∙ sym twice ∙ ap (λ n. n / 2 ^ low) (front_dropped frame place bytes ∙ number) in
    ap (λ n. n % 2 ^ count) dropped ∙ within_word above word low count (omega arith) few

-- the bits of a tail, the first one lowest
pub tail_none : (frame : List ℕ) (from : ℕ) → tail frame from 0 ≡ 0
unfolding tail
tail_none frame from = omega arith

pub tail_more : (frame : List ℕ) (from count : ℕ) → tail frame from (count + 1) ≡ tail frame from count + 2 ^ count * tail frame (from + count) 1
unfolding tail
tail_more frame from count =
    let number = front frame (length frame) in
    let twice_power = pow-add 2 count 1 in
    let power : 2 ^ (count + 1) ≡ 2 * 2 ^ count = omega arith in
    let split = mod-mul (number / 2 ^ from) {m = 2} {c = 2 ^ count} (omega arith) (pow_pos count) in
    let twice = div-div-eq-div-mul number (2 ^ from) (2 ^ count) in
    let both : 2 ^ (from + count) ≡ 2 ^ from * 2 ^ count = pow-add 2 from count in
    let next : number / 2 ^ from / 2 ^ count ≡ number / 2 ^ (from + count) = twice ∙ ap (λ n. number / n) (sym both) in
    ap (λ n. number / 2 ^ from % n) power ∙ split ∙ ap (λ n. n % 2 * 2 ^ count + number / 2 ^ from % 2 ^ count) next ∙ omega arith

bit_of_byte : (above byte low : ℕ) → low < 8 → (above * 256 + byte) / 2 ^ low % 2 ≡ byte / 2 ^ low % 2
bit_of_byte above byte zero le = omega arith
bit_of_byte above byte (suc zero) le = omega arith
bit_of_byte above byte (suc (suc zero)) le = omega arith
bit_of_byte above byte (suc (suc (suc zero))) le = omega arith
bit_of_byte above byte (suc (suc (suc (suc zero)))) le = omega arith
bit_of_byte above byte (suc (suc (suc (suc (suc zero))))) le = omega arith
bit_of_byte above byte (suc (suc (suc (suc (suc (suc zero)))))) le = omega arith
bit_of_byte above byte (suc (suc (suc (suc (suc (suc (suc zero))))))) le = omega arith
bit_of_byte above byte (suc (suc (suc (suc (suc (suc (suc (suc n)))))))) le = absurd (omega arith)

pub tail_bit : (frame : List ℕ) (place low byte : ℕ) → ((k : ℕ) → slice_index frame k < 256) → low < 8 → IsFromEnd frame place byte
    → tail frame (8 * place + low) 1 ≡ byte / 2 ^ low % 2
unfolding tail
tail_bit frame place low byte bytes inside is =
    let number = front frame (length frame) in
    let power : 2 ^ (8 * place + low) ≡ 2 ^ (8 * place) * 2 ^ low = pow-add 2 (8 * place) low in
    let twice = div-div-eq-div-mul number (2 ^ (8 * place)) (2 ^ low) in
    let dropped = front_dropped frame place bytes ∙ front_from_end frame place byte is in
    ap (λ n. number / n % 2) power ∙ ap (λ n. n % 2) (sym twice) ∙ ap (λ n. n / 2 ^ low % 2) dropped
    ∙ bit_of_byte (front frame (length frame - suc place)) byte low inside

pub zero_bit : (low : ℕ) → 0 / 2 ^ low % 2 ≡ 0
zero_bit low = let small = div-le_self 0 (2 ^ low) in omega arith
