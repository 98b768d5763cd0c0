use Rattle.mdct_fixed.proofs.RowLemmas.{reordered}
use Rattle.mdct_fixed.proofs.rows.four_sums.Goals as goal

pub returns : goal.returns
returns c = record {
  first = reordered c.args.y.first _ _ _ c.add_two.ensures c.add-even.ensures.value c.quarter_turns-second.ensures.none c.quarter_turns-third.ensures.none c.quarter_turns-fourth.ensures.none;
  second = reordered c.args.y.first _ _ _ c.add_two-2.ensures c.add-odd.ensures.value c.quarter_turns-second.ensures.one c.quarter_turns-third.ensures.two c.quarter_turns-fourth.ensures.three;
  third = reordered c.args.y.first _ _ _ c.add_two-3.ensures c.add-even.ensures.value c.quarter_turns-second.ensures.two c.quarter_turns-third.ensures.none c.quarter_turns-fourth.ensures.two;
  fourth = reordered c.args.y.first _ _ _ c.add_two-4.ensures c.add-odd.ensures.value c.quarter_turns-second.ensures.three c.quarter_turns-third.ensures.two c.quarter_turns-fourth.ensures.one;
}
