use Rattle.std.proofs.Common.{◌≡◌, ◌*◌, ◌%◌, ◌^◌, ap, ◌∙◌, refl, arith}
use Rattle.range_coder.specs.FrameBits.{number}
use Rattle.range_coder.proofs.SentSteps.{raw_matches, shift_small, bits_pace}
use Rattle.range_coder.proofs.sender.Sender.send_bits.Goals as goal
use Rattle.range_coder.proofs.sender.Sender.send_bits.Goals.{then-self-count, else-self-count}

pub add-requires-clause-small : goal.add-requires-clause-small
add-requires-clause-small c =
    let small = shift_small c.args.number c.args.count (c.args.self.raw % 8) c.requires.number c.requires.count (omega arith) in
    omega arith

pub returns-clause-sends : goal.returns-clause-sends
returns-clause-sends c =
    let s = c.args.self in
    let old = c.args.room.now in
    let value = c.args.number * 2 ^ (s.raw % 8) % 2 ^ 32 in
    let small = shift_small c.args.number c.args.count (s.raw % 8) c.requires.number c.requires.count (omega arith) in
    let value_is : value ≡ c.args.number * 2 ^ (s.raw % 8) = omega arith in
    record {
      matches = λ i is. raw_matches old c.if-self-count.room s _ i c.args.count c.args.number value c.if-self-count.auto.room refl refl refl refl
          c.requires.number c.requires.some value_is
          (elim c.if-self-count.branch [
            | then-self-count w ↦ λ fits within. ap number w.room-is ∙ w.add.ensures.sum within
            | else-self-count w ↦ λ fits. let past = w.if-self-count.false in absurd (omega arith)
          ])
          is;
      pace = bits_pace s _ c.args.count c.args.number (omega arith);
    }
