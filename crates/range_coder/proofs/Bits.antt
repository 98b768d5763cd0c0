-- The head of a frame, a byte further.
use Rattle.std.proofs.Common.{◌≡◌, ℕ, suc, ◌+◌, ◌-◌, ◌*◌, ◌/◌, ◌%◌, List, slice_index, refl, add-one, arith}
use Rattle.range_coder.specs.FrameBits.{front, head}

pub front_more : (frame : List ℕ) (count : ℕ) → front frame (suc count) ≡ front frame count * 256 + slice_index frame count
unfolding front
front_more frame count = refl

-- all bits of so many bytes but the lowest one
head_at : (frame : List ℕ) (taken bits : ℕ) → bits + 1 ≡ 8 * taken → head frame bits ≡ front frame taken / 2
unfolding head
head_at frame taken bits e =
    let bytes : bits / 8 + 1 ≡ taken = omega arith in
    let one : 8 - bits % 8 ≡ 1 = omega arith in
    rw (bytes, one) refl

-- the four bytes of the start
pub head_start : (frame : List ℕ) → head frame 31 ≡ (((slice_index frame 0 * 256 + slice_index frame 1) * 256 + slice_index frame 2) * 256 + slice_index frame 3) / 2
unfolding front
head_start frame = let e = head_at frame 4 31 (omega arith) in omega arith

-- eight bits more: the lowest bit of the byte before and all but the lowest of the next one
pub head_more : (frame : List ℕ) (before shift : ℕ) → 8 * (before + 1) ≡ 32 + shift
    → head frame (31 + (shift + 8)) ≡ head frame (31 + shift) * 256 + (slice_index frame before % 2 * 128 + slice_index frame (before + 1) / 2)
head_more frame before shift e =
    let now = head_at frame (suc before) (31 + shift) (omega arith) in
    let next = head_at frame (suc (suc before)) (31 + (shift + 8)) (omega arith) in
    let last = front_more frame before in
    let more = front_more frame (suc before) in
    rw add-one (omega arith)
