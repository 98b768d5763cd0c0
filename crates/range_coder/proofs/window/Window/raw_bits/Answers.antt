use Rattle.std.proofs.Common.{◌≡◌, ℕ, ◌+◌, ◌-◌, ◌*◌, ◌/◌, ◌%◌, ◌^◌, sym, ap, ◌∙◌, arith}
use Rattle.std.proofs.lemmas.Nat.{one_shl}
use Rattle.range_coder.specs.FrameBits.{tail}
use Rattle.range_coder.proofs.Tails.{IsFromEnd, tail_is}
use Rattle.range_coder.proofs.window.Window.raw_bits.Goals as goal

from_end : (c : goal.After-from-high) → (place byte same : ℕ) → byte ≡ same → IsFromEnd c.args.frame.now place same → IsFromEnd c.args.frame.now place byte
from_end c place byte same e is = record { inside = λ p. e ∙ is.inside p; past = λ p. e ∙ is.past p }

pub returns-clause-value : goal.returns-clause-value
returns-clause-value c =
    λ i shows.
    let window = c.args.self in
    let frame = c.args.frame.now in
    let count = c.args.count in
    let from = window.bits - 1 - 8 * window.taken in
    let bits = shows.bits in
    let taken = shows.taken in
    let raw : i.raw ≡ from = omega arith in
    let one : (1 * 2 ^ count) % 2 ^ 32 ≡ 2 ^ count = one_shl count 32 (omega arith) in
    let word = ((c.from-high.result * 256 + c.from-third.result) * 256 + c.from-second.result) * 256 + c.from-low.result in
    ap (λ n. tail frame n count) raw
    ∙ tail_is frame from count c.from-low.result c.from-second.result c.from-third.result c.from-high.result
    (λ k. omega (arith, c.type_inv.frame k)) (omega arith)
    (from_end c (from / 8) c.from-low.result c.byte_from_end.result c.from-low.ensures (record { inside = c.byte_from_end.ensures.inside; past = c.byte_from_end.ensures.past }))
    (from_end c (from / 8 + 1) c.from-second.result c.byte_from_end-2.result c.from-second.ensures (record { inside = c.byte_from_end-2.ensures.inside; past = c.byte_from_end-2.ensures.past }))
    (from_end c (from / 8 + 2) c.from-third.result c.byte_from_end-3.result c.from-third.ensures (record { inside = c.byte_from_end-3.ensures.inside; past = c.byte_from_end-3.ensures.past }))
    (from_end c (from / 8 + 3) c.from-high.result c.byte_from_end-4.result c.from-high.ensures (record { inside = c.byte_from_end-4.ensures.inside; past = c.byte_from_end-4.ensures.past }))
    ∙ ap (λ n. word / 2 ^ (from % 8) % n) (sym one)
