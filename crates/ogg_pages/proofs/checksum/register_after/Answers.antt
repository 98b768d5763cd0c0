use Rattle.std.proofs.Common.{◌≡◌, ◌<◌, ◌^◌, ◌/◌, ◌*◌, ◌%◌, bit_xor, sym, ◌∙◌, ap, arith}
use Rattle.std.proofs.lemmas.Nat.{xor_lt}
use Rattle.ogg_pages.specs.Checksum.{times_power}
use Rattle.ogg_pages.specs.declared.checksum.TheConstants.{REMAINDERS}
use Rattle.std.specs.List.{slice_index}
use Rattle.ogg_pages.proofs.Register.{after_byte-apart, remainder_at}
use Rattle.ogg_pages.proofs.checksum.register_after.Goals as goal

pub returns : goal.returns
returns c =
    let hi = c.args.register / 2 ^ 24 in
    let low = c.args.register % 2 ^ 24 * 256 in
    let top_small : bit_xor hi c.args.byte < 2 ^ 8 = xor_lt 8 hi c.args.byte (omega arith) (omega arith) in
    let entry : c.remainder_of.result ≡ times_power 8 (bit_xor hi c.args.byte * 2 ^ 24) =
    c.remainder_of.ensures ∙ ap (λ t. slice_index REMAINDERS (bit_xor hi t)) c.from.ensures ∙ remainder_at (bit_xor hi c.args.byte) top_small in
    ap (λ t. bit_xor t low) entry ∙ sym (after_byte-apart c.args.register c.args.byte (omega arith) (omega arith))
