-- A frame as one number: its first bits, its last bits, and that it determines the bytes.
use Rattle.std.proofs.Common.{◌≡◌, ℕ, zero, suc, ◌+◌, ◌-◌, ◌*◌, ◌/◌, ◌%◌, ◌^◌, ◌<◌, ◌≤◌, inl, inr, List, length, slice_index, refl, sym, ap, ◌∙◌, subst, arith}
use Rattle.std.proofs.lemmas.Bool.{cases_eq}
use Rattle.std.proofs.lemmas.List.{ext_get_or, get_or_past}
use Rattle.std.proofs.lemmas.Nat.{pow-add, pow_pos, mul-le, le-div, div_below, mod_low, shr_high}
use Rattle.std.proofs.Math.Nat.{div-div-eq-div-mul, mul-div-mul_right, mul-mod_left}
use Rattle.range_coder.specs.FrameBits.{front, number, head, tail}
use Rattle.range_coder.proofs.Bits.{front_more}

-- each item of a frame is a byte
abbrev pub AreBytes : List ℕ → Type 0
AreBytes frame = (place : ℕ) → slice_index frame place < 256

eight_more : (n : ℕ) → 2 ^ (8 * suc n) ≡ 2 ^ (8 * n) * 256
eight_more n = ap (λ k. 2 ^ k) (let e : 8 * suc n ≡ 8 * n + 8 = omega arith in e) ∙ pow-add 2 (8 * n) 8

-- behind the frame follow zeros
front_past : (frame : List ℕ) (more : ℕ) → front frame (length frame + more) ≡ number frame * 2 ^ (8 * more)
unfolding number
front_past frame zero =
    let one : front frame (length frame) ≡ front frame (length frame) * 2 ^ 0 = omega arith in
    ap (front frame) (let e : length frame + 0 ≡ length frame = omega arith in e) ∙ one
front_past frame (suc more) =
    let before = front_past frame more in
    let power = eight_more more in
    let byte : slice_index frame (length frame + more) ≡ 0 = get_or_past frame (length frame + more) 0 (omega arith) in
    let split = ap (λ n. front frame (length frame) * n) power in
    ap (front frame) (let e : length frame + suc more ≡ suc (length frame + more) = omega arith in e)
    ∙ front_more frame (length frame + more) ∙ omega arith

-- the front without its last bytes
front_without : (frame : List ℕ) (count more : ℕ) → AreBytes frame → front frame (count + more) / 2 ^ (8 * more) ≡ front frame count
front_without frame count zero bytes =
    let one : front frame (count + 0) / 2 ^ 0 ≡ front frame (count + 0) = omega arith in
    one ∙ ap (front frame) (let e : count + 0 ≡ count = omega arith in e)
front_without frame count (suc more) bytes =
    let byte = bytes (count + more) in
    let split : front frame (count + suc more) ≡ front frame (count + more) * 256 + slice_index frame (count + more) =
    ap (front frame) (let e : count + suc more ≡ suc (count + more) = omega arith in e) ∙ front_more frame (count + more) in
    let power : 2 ^ (8 * suc more) ≡ 256 * 2 ^ (8 * more) = eight_more more ∙ omega arith in
    let last : front frame (count + suc more) / 256 ≡ front frame (count + more) = omega arith in
    ap (λ n. front frame (count + suc more) / n) power
    ∙ sym (div-div-eq-div-mul (front frame (count + suc more)) 256 (2 ^ (8 * more)))
    ∙ ap (λ n. n / 2 ^ (8 * more)) last
    ∙ front_without frame count more bytes

front_number : (frame : List ℕ) (count : ℕ) → AreBytes frame → front frame count ≡ number frame * 2 ^ (8 * count) / 2 ^ (8 * length frame)
front_number frame count bytes =
    sym (front_without frame count (length frame) bytes)
    ∙ ap (λ n. n / 2 ^ (8 * length frame)) (ap (front frame) (let e : count + length frame ≡ length frame + count = omega arith in e) ∙ front_past frame count)

-- the first bits of a number of 8 bits a byte, also past its end
pub head_number : (frame : List ℕ) (bits : ℕ) → AreBytes frame → head frame bits ≡ number frame * 2 ^ bits / 2 ^ (8 * length frame)
unfolding head
head_number frame bits bytes =
    let left = 8 - bits % 8 in
    let whole = 2 ^ (8 * length frame) in
    let power : 2 ^ (8 * (bits / 8 + 1)) ≡ 2 ^ bits * 2 ^ left =
    ap (λ k. 2 ^ k) (let e : 8 * (bits / 8 + 1) ≡ bits + left = omega arith in e) ∙ pow-add 2 bits left in
    let product : number frame * 2 ^ (8 * (bits / 8 + 1)) ≡ number frame * 2 ^ bits * 2 ^ left = ap (λ n. number frame * n) power ∙ omega arith in
    ap (λ n. n / 2 ^ left) (front_number frame (bits / 8 + 1) bytes)
    ∙ div-div-eq-div-mul (number frame * 2 ^ (8 * (bits / 8 + 1))) whole (2 ^ left)
    ∙ ap (λ n. n / (whole * 2 ^ left)) product
    ∙ mul-div-mul_right (number frame * 2 ^ bits) whole (pow_pos left)

pub head_eight : (frame : List ℕ) (shift : ℕ) → AreBytes frame → head frame (31 + (shift + 8)) / 256 ≡ head frame (31 + shift)
head_eight frame shift bytes =
    let whole = 2 ^ (8 * length frame) in
    let power : 2 ^ (31 + (shift + 8)) ≡ 2 ^ (31 + shift) * 256 =
    ap (λ k. 2 ^ k) (let e : 31 + (shift + 8) ≡ 31 + shift + 8 = omega arith in e) ∙ pow-add 2 (31 + shift) 8 in
    let product : number frame * 2 ^ (31 + (shift + 8)) ≡ number frame * 2 ^ (31 + shift) * 256 = ap (λ n. number frame * n) power ∙ omega arith in
    ap (λ n. n / 256) (head_number frame (31 + (shift + 8)) bytes ∙ ap (λ n. n / whole) product)
    ∙ div-div-eq-div-mul (number frame * 2 ^ (31 + shift) * 256) whole 256
    ∙ mul-div-mul_right (number frame * 2 ^ (31 + shift)) whole (omega arith)
    ∙ sym (head_number frame (31 + shift) bytes)

-- frames of one length and one number are equal
front_same : (a b : List ℕ) (count : ℕ) → AreBytes a → AreBytes b → front a count ≡ front b count
    → (place : ℕ) → place < count → slice_index a place ≡ slice_index b place
front_same a b zero first second same place below = absurd (omega arith)
front_same a b (suc count) first second same place below =
    let one = first count in
    let two = second count in
    let own = front_more a count in
    let other = front_more b count in
    elim (cases_eq place count) [
      | inl e ↦ subst (λ k. slice_index a k ≡ slice_index b k) (sym e) (omega arith)
      | inr ne ↦ front_same a b count first second (omega arith) place (omega arith)
    ]

pub number_same : (a b : List ℕ) → AreBytes a → AreBytes b → length a ≡ length b → number a ≡ number b → a ≡ b
unfolding number
number_same a b first second size same =
    let fronts : front a (length a) ≡ front b (length a) = same ∙ ap (front b) (sym size) in
    ext_get_or 0 a b size (front_same a b (length a) first second fronts)

-- the parts of a number of which a few bits stand first and few stand last
pub record IsBetween (low high n : ℕ) : Type 0 where
  pub above : low ≤ n
  pub below : n < high

pub first_bits : (first last end bits whole left : ℕ) → last < 2 ^ end → end + bits ≡ whole + left
    → IsBetween (first * 2 ^ left) ((first + 1) * 2 ^ left) ((first * 2 ^ end + last) * 2 ^ bits / 2 ^ whole)
first_bits first last end bits whole left below e =
    let number = first * 2 ^ end + last in
    let power : 2 ^ end * 2 ^ bits ≡ 2 ^ whole * 2 ^ left =
    sym (pow-add 2 end bits) ∙ ap (λ k. 2 ^ k) e ∙ pow-add 2 whole left in
    let low = ap (λ n. first * n) power in
    let most = mul-le (last + 1) (2 ^ bits) (2 ^ end) (2 ^ bits) (omega arith) (omega arith) in
    let some = pow_pos bits in
    record {
      above = le-div (first * 2 ^ left) (number * 2 ^ bits) (2 ^ whole) (pow_pos whole) (omega arith);
      below = div_below (number * 2 ^ bits) (2 ^ whole) ((first + 1) * 2 ^ left) (pow_pos whole) (omega arith);
    }

power_split : (raw end : ℕ) → raw ≤ end → 2 ^ end ≡ 2 ^ (end - raw) * 2 ^ raw
power_split raw end within = ap (λ k. 2 ^ k) (let e : end ≡ (end - raw) + raw = omega arith in e) ∙ pow-add 2 (end - raw) raw

pub last_bits : (first last raw end : ℕ) → last < 2 ^ raw → raw ≤ end → (first * 2 ^ end + last) % 2 ^ raw ≡ last
last_bits first last raw end below within =
    let split : first * 2 ^ end + last ≡ first * 2 ^ (end - raw) * 2 ^ raw + last = ap (λ n. first * n + last) (power_split raw end within) ∙ omega arith in
    ap (λ n. n % 2 ^ raw) split ∙ mod_low (first * 2 ^ (end - raw)) raw last below

pub between_bits : (first last raw end : ℕ) → last < 2 ^ raw → raw ≤ end → (first * 2 ^ end + last) / 2 ^ raw % 2 ^ (end - raw) ≡ 0
between_bits first last raw end below within =
    let split : first * 2 ^ end + last ≡ first * 2 ^ (end - raw) * 2 ^ raw + last = ap (λ n. first * n + last) (power_split raw end within) ∙ omega arith in
    ap (λ n. n / 2 ^ raw % 2 ^ (end - raw)) split
    ∙ ap (λ n. n % 2 ^ (end - raw)) (shr_high (first * 2 ^ (end - raw)) raw last below)
    ∙ mul-mod_left first (2 ^ (end - raw))

-- the last bits of a frame by its number
pub tail_number : (frame : List ℕ) (from count : ℕ) → tail frame from count ≡ number frame / 2 ^ from % 2 ^ count
unfolding tail number
tail_number frame from count = refl

pub tail_end : (frame : List ℕ) (count : ℕ) → tail frame 0 count ≡ number frame % 2 ^ count
tail_end frame count =
    let one : number frame / 2 ^ 0 ≡ number frame = omega arith in
    tail_number frame 0 count ∙ ap (λ n. n % 2 ^ count) one
