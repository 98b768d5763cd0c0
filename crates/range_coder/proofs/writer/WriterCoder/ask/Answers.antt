use Rattle.std.proofs.Common.{w64, FitsSigned, sym, subst, refl, arith}
use Rattle.std.proofs.lemmas.Int.{ints, to_z-of_z, fits_signed_from_abs}
use Rattle.range_coder.specs.Nearest.{IsNearest}
use Rattle.range_coder.specs.Senders.{SendsAnswer}
use Rattle.range_coder.proofs.Coding.{coded_longer}
use Rattle.range_coder.proofs.NearestLemmas.{wanted}
use Rattle.range_coder.proofs.writer.WriterCoder.ask.Goals as goal

pub returns-clause-asks : goal.returns-clause-asks
returns-clause-asks c =
    let sent = c.send_answer-sent in
    let q = c.args.question in
    let writer = c.args.self.now in
    let small = sent.ensures.small in
    let fits : FitsSigned w64 sent.result.answer = fits_signed_from_abs w64 sent.result.answer (omega (arith, ints, small)) in
    let same = sym (to_z-of_z w64 sent.result.answer fits) in
    let nearest = subst (IsNearest q c.args.want) same (wanted q c.args.want sent.result.answer c.ranges.want sent.ensures.nearest) in
    record {
      nearest = nearest;
      longer = coded_longer writer _ q _ c.requires.valid nearest.is_answer
          (subst (λ a. SendsAnswer writer.room.now writer.sender q a sent.new.room sent.result.sender) same sent.ensures.sends) refl;
      same = refl;
      length_is = sent.ensures.len;
    }
