use Rattle.std.proofs.Common.{refl, length}
use Rattle.celt_base.specs.Questions.{interval_of}
use Rattle.range_coder.proofs.Finishing.{zeros_number}
use Rattle.range_coder.proofs.writer.Writer.new.Goals as goal

pub returns-clause-coded : goal.returns-clause-coded
unfolding interval_of
returns-clause-coded c =
    record {
      matches = c.new.ensures.matches c.fill.new.self (zeros_number c.fill.new.self (length c.args.room.now) (c.fill.ensures.after (λ y h. h)));
      count = refl;
      answers = tt;
    }
