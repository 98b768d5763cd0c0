-- A frame as one number: one of its bytes changed, and what fits beside raw bits.
use Rattle.std.proofs.Common.{◌≡◌, ◌≢◌, ℕ, zero, suc, ◌+◌, ◌-◌, ◌*◌, ◌/◌, ◌%◌, ◌^◌, ◌<◌, ◌≤◌, inl, inr, List, length, slice_index, refl, sym, ap, ◌∙◌, subst, arith}
use Rattle.std.specs.Prelude.{slice_set}
use Rattle.std.proofs.lemmas.Bool.{cases_lt}
use Rattle.std.proofs.lemmas.List.{get_or-set_same, get_or-set_other, length-set}
use Rattle.std.proofs.lemmas.Nat.{mul-le, pow-add}
use Rattle.std.proofs.Math.Nat.{pow-le-pow_right}
use Rattle.range_coder.specs.FrameBits.{front, number}

front_none : (frame : List ℕ) → front frame 0 ≡ 0
unfolding front
front_none frame = refl

front_more : (frame : List ℕ) (count : ℕ) → front frame (suc count) ≡ front frame count * 256 + slice_index frame count
unfolding front
front_more frame count = refl

-- the bytes before a place do not see it
front_before : (frame : List ℕ) (place value count : ℕ) → count ≤ place → front (slice_set frame place value) count ≡ front frame count
front_before frame place value zero within = front_none (slice_set frame place value) ∙ sym (front_none frame)
front_before frame place value (suc count) within =
    let less : count ≤ place = omega arith in
    let other : count ≢ place = omega arith in
    let same : slice_index (slice_set frame place value) count ≡ slice_index frame count = get_or-set_other frame place count value 0 other in
    front_more (slice_set frame place value) count
    ∙ ap (λ n. n * 256 + slice_index (slice_set frame place value) count) (front_before frame place value count less)
    ∙ ap (λ n. front frame count * 256 + n) same ∙ sym (front_more frame count)

-- those from the place on see it in units of the bytes behind it
front_changed : (frame : List ℕ) (place value more : ℕ) → place < length frame
    → front (slice_set frame place value) (suc place + more) + slice_index frame place * 2 ^ (8 * more)
    ≡ front frame (suc place + more) + value * 2 ^ (8 * more)
front_changed frame place value zero within =
    let before = front_before frame place value place (omega arith) in
    let here : slice_index (slice_set frame place value) place ≡ value = get_or-set_same frame place value 0 within in
    let new = front_more (slice_set frame place value) place in
    let old = front_more frame place in
    let index : suc place + 0 ≡ suc place = omega arith in
    rw index (omega arith)
front_changed frame place value (suc more) within =
    let set = slice_set frame place value in
    let rest = front_changed frame place value more within in
    let other : suc place + more ≢ place = omega arith in
    let same : slice_index set (suc place + more) ≡ slice_index frame (suc place + more) = get_or-set_other frame place (suc place + more) value 0 other in
    let new = front_more set (suc place + more) in
    let old = front_more frame (suc place + more) in
    let eight : 2 ^ (8 * suc more) ≡ 2 ^ (8 * more) * 256 = ap (λ n. 2 ^ n) (let e : 8 * suc more ≡ 8 * more + 8 = omega arith in e) ∙ pow-add 2 (8 * more) 8 in
    let index : suc place + suc more ≡ suc (suc place + more) = omega arith in
    let first : slice_index frame place * 2 ^ (8 * suc more) ≡ slice_index frame place * 2 ^ (8 * more) * 256 =
    ap (λ n. slice_index frame place * n) eight ∙ omega arith in
    let second : value * 2 ^ (8 * suc more) ≡ value * 2 ^ (8 * more) * 256 = ap (λ n. value * n) eight ∙ omega arith in
    rw index (omega arith)

-- a byte of a room is changed
pub number_changed : (frame : List ℕ) (place value : ℕ) → place < length frame
    → number (slice_set frame place value) + slice_index frame place * 2 ^ (8 * (length frame - (place + 1)))
    ≡ number frame + value * 2 ^ (8 * (length frame - (place + 1)))
unfolding number
number_changed frame place value within =
    let set = slice_set frame place value in
    let len : length set ≡ length frame = length-set frame place value in
    let all : suc place + (length frame - (place + 1)) ≡ length frame = omega arith in
    let changed = front_changed frame place value (length frame - (place + 1)) within in
    ap (λ n. front set n + slice_index frame place * 2 ^ (8 * (length frame - (place + 1)))) (len ∙ sym all)
    ∙ changed ∙ ap (λ n. front frame n + value * 2 ^ (8 * (length frame - (place + 1)))) all

-- a front and the raw bits behind it
pub number_small : (first bits above raw below : ℕ) → first < 2 ^ above → bits < 2 ^ raw → raw ≤ below → first * 2 ^ below + bits < 2 ^ (above + below)
number_small first bits above raw below front rest within =
    let power : 2 ^ (above + below) ≡ 2 ^ above * 2 ^ below = pow-add 2 above below in
    let raws : 2 ^ raw ≤ 2 ^ below = pow-le-pow_right {n = 2} (omega arith) within in
    let product = mul-le (first + 1) (2 ^ below) (2 ^ above) (2 ^ below) (omega arith) (omega arith) in
    omega arith

-- a front from the number of its interval
pub front_small : (first power above : ℕ) → first * 2 ^ power < 2 ^ (power + above) → first < 2 ^ above
front_small first power above below =
    elim (cases_lt first (2 ^ above)) [
      | inl less ↦ less
      | inr more ↦
          let product = mul-le (2 ^ above) (2 ^ power) first (2 ^ power) more (omega arith) in
          let power_is : 2 ^ (power + above) ≡ 2 ^ power * 2 ^ above = pow-add 2 power above in
          absurd (omega arith)
    ]

-- a step of a carry: the byte takes what it holds
pub carried : (frame : List ℕ) (end carry sum : ℕ) → 1 ≤ end → end ≤ length frame → sum ≡ slice_index frame (end - 1) + carry
    → number (slice_set frame (end - 1) (sum % 256)) + sum / 256 * 2 ^ (8 * (length frame - (end - 1))) ≡ number frame + carry * 2 ^ (8 * (length frame - end))
carried frame end carry sum some within e =
    let unit = 2 ^ (8 * (length frame - end)) in
    let place : (end - 1) + 1 ≡ end = omega arith in
    let changed : number (slice_set frame (end - 1) (sum % 256)) + slice_index frame (end - 1) * unit ≡ number frame + sum % 256 * unit =
    subst (λ n. number (slice_set frame (end - 1) (sum % 256)) + slice_index frame (end - 1) * 2 ^ (8 * (length frame - n))
    ≡ number frame + sum % 256 * 2 ^ (8 * (length frame - n))) place (number_changed frame (end - 1) (sum % 256) (omega arith)) in
    let eight : 2 ^ (8 * (length frame - (end - 1))) ≡ unit * 256 =
    ap (λ n. 2 ^ n) (let e : 8 * (length frame - (end - 1)) ≡ 8 * (length frame - end) + 8 = omega arith in e) ∙ pow-add 2 (8 * (length frame - end)) 8 in
    let above : sum / 256 * 2 ^ (8 * (length frame - (end - 1))) ≡ 256 * (sum / 256) * unit = ap (λ n. sum / 256 * n) eight ∙ omega arith in
    let whole : sum * unit ≡ slice_index frame (end - 1) * unit + carry * unit = ap (λ n. n * unit) e ∙ omega arith in
    let split : sum * unit ≡ (256 * (sum / 256) + sum % 256) * unit = ap (λ n. n * unit) (let q : sum ≡ 256 * (sum / 256) + sum % 256 = omega arith in q) in
    omega arith
