-- Bit by bit: the head of a frame takes one bit more, and a part by the standard's equations.
use Rattle.std.proofs.Common.{◌≡◌, ℕ, zero, suc, ◌+◌, ◌-◌, ◌*◌, ◌/◌, ◌%◌, ◌^◌, ◌<◌, ◌≤◌, inl, inr, List, slice_index, refl, sym, ap, ◌∙◌, arith}
use Rattle.std.proofs.lemmas.Bool.{cases_lt}
use Rattle.celt_base.specs.Intervals.{Interval, narrowed}
use Rattle.range_coder.specs.FrameBits.{front, head, bit_at}

-- a bit of the last of several bytes, from the bits above it
split_bit : (before byte low : ℕ) → low ≤ 7 → (before * 256 + byte) / 2 ^ low ≡ 2 * ((before * 256 + byte) / 2 ^ (low + 1)) + byte / 2 ^ low % 2
split_bit before byte zero le = omega arith
split_bit before byte (suc zero) le = omega arith
split_bit before byte (suc (suc zero)) le = omega arith
split_bit before byte (suc (suc (suc zero))) le = omega arith
split_bit before byte (suc (suc (suc (suc zero)))) le = omega arith
split_bit before byte (suc (suc (suc (suc (suc zero))))) le = omega arith
split_bit before byte (suc (suc (suc (suc (suc (suc zero)))))) le = omega arith
split_bit before byte (suc (suc (suc (suc (suc (suc (suc zero))))))) le = omega arith
split_bit before byte (suc (suc (suc (suc (suc (suc (suc (suc n)))))))) le = absurd (omega arith)

-- the head within the byte at `place`, `low` bits above the byte's lowest one
head_within : (frame : List ℕ) (bits place low : ℕ) → bits + low ≡ 8 * place + 8 → low ≤ 8 → 1 ≤ low
    → head frame bits ≡ (front frame place * 256 + slice_index frame place) / 2 ^ low
unfolding head front
head_within frame bits place low e most least =
    let bytes : bits / 8 + 1 ≡ suc place = omega arith in
    let left : 8 - bits % 8 ≡ low = omega arith in
    rw (bytes, left) refl

pub head_none : (frame : List ℕ) → slice_index frame 0 < 256 → head frame 0 ≡ 0
unfolding front
head_none frame byte = head_within frame 0 0 8 (omega arith) (omega arith) (omega arith) ∙ omega arith

-- one bit more, where the bits so far end within a byte, and where they end it
within_byte : (frame : List ℕ) (bits : ℕ) → bits % 8 < 7 → head frame (bits + 1) ≡ 2 * head frame bits + bit_at frame bits
within_byte frame bits inside =
    let place = bits / 8 in
    let low = 7 - bits % 8 in
    let more = head_within frame (bits + 1) place low (omega arith) (omega arith) (omega arith) in
    let now = head_within frame bits place (low + 1) (omega arith) (omega arith) (omega arith) in
    more ∙ split_bit (front frame place) (slice_index frame place) low (omega arith)
    ∙ ap (λ n. 2 * n + bit_at frame bits) (sym now)

front_more : (frame : List ℕ) (count : ℕ) → front frame (suc count) ≡ front frame count * 256 + slice_index frame count
unfolding front
front_more frame count = refl

ends_byte : (frame : List ℕ) (bits : ℕ) → ((k : ℕ) → slice_index frame k < 256) → bits % 8 ≡ 7
    → head frame (bits + 1) ≡ 2 * head frame bits + bit_at frame bits
ends_byte frame bits bytes last =
    let place = bits / 8 in
    let more = head_within frame (bits + 1) (suc place) 8 (omega arith) (omega arith) (omega arith) in
    let now = head_within frame bits place 1 (omega arith) (omega arith) (omega arith) in
    let next = bytes (suc place) in
    let front_is = front_more frame place in
    let split = split_bit (front frame place) (slice_index frame place) 0 (omega arith) in
    let bit : bit_at frame bits ≡ slice_index frame place / 2 ^ 0 % 2 = ap (λ n. slice_index frame place / 2 ^ n % 2) (let e : 7 - bits % 8 ≡ 0 = omega arith in e) in
    omega arith

pub head_bit : (frame : List ℕ) (bits : ℕ) → ((k : ℕ) → slice_index frame k < 256) → head frame (bits + 1) ≡ 2 * head frame bits + bit_at frame bits
head_bit frame bits bytes =
    elim (cases_lt (bits % 8) 7) [
      | inl inside ↦ within_byte frame bits inside
      | inr last ↦ ends_byte frame bits bytes (omega arith)
    ]

-- a part by the standard's two cases: the lowest part takes what the division leaves
pub lowest_part : (i : Interval) (to total : ℕ) → 0 < to → narrowed (record { from = 0; to = to; total = total }) i ≡ record i { width = i.width - i.width / total * (total - to) }
unfolding narrowed
lowest_part i zero total some = absurd (omega arith)
lowest_part i (suc k) total some = let same : i.low + (i.width - i.width) ≡ i.low = omega arith in
    ap (λ n. let j : Interval = record i { low = n; width = i.width - i.width / total * (total - suc k) } in j) same

pub higher_part : (i : Interval) (from to total : ℕ) → 0 < from → from < to → to ≤ total
    → narrowed (record { from = from; to = to; total = total }) i
    ≡ record i { low = i.low + (i.width - i.width / total * (total - from)); width = i.width / total * (to - from) }
unfolding narrowed
higher_part i zero to total some less within = absurd (omega arith)
higher_part i (suc f) zero total some less within = absurd (omega arith)
higher_part i (suc f) (suc t) total some less within =
    let unit = i.width / total in
    let sum : total - suc f ≡ (suc t - suc f) + (total - suc t) = omega arith in
    let width : unit * (total - suc f) - unit * (total - suc t) ≡ unit * (suc t - suc f) =
    ap (λ n. unit * n - unit * (total - suc t)) sum ∙ omega arith in
    ap (λ n. let j : Interval = record i { low = i.low + (i.width - unit * (total - suc f)); width = n } in j) width
