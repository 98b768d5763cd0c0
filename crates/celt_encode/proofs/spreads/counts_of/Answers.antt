use Rattle.std.proofs.Common.{◌≡◌, arith, refl, length}
use Rattle.std.proofs.lemmas.Bool.Decides.{nat_tests}
use Rattle.celt_encode.specs.Spreads.{small_in}
use Rattle.celt_encode.proofs.SpreadLemmas.{counts_none}
use Rattle.celt_encode.proofs.UnitLemmas.{no_items}
use Rattle.celt_encode.proofs.spreads.counts_of.Goals as goal

pub returns-then-is_empty-clause-all : goal.returns-then-is_empty-clause-all
returns-then-is_empty-clause-all c =
    let n : length c.args.spectrum.now ≡ 0 = grind (arith, nat_tests) in
    counts_none c.args.kind c.args.spectrum.now length c.args.kind.end (no_items c.args.spectrum.now n) refl

pub returns-then-is_empty-clause-small : goal.returns-then-is_empty-clause-small
returns-then-is_empty-clause-small c =
    let n : length c.args.spectrum.now ≡ 0 = grind (arith, nat_tests) in
    counts_none c.args.kind c.args.spectrum.now small_in c.args.kind.end (no_items c.args.spectrum.now n) refl
