use Rattle.std.proofs.Common.{arith, ◌-◌}
use Rattle.post_filter.proofs.FilterLemmas.{combed_is, filtered_is}
use Rattle.celt_synth.proofs.filters.filter.Goals as goal

pub returns-clause-value : goal.returns-clause-value
returns-clause-value c =
    let some = c.requires.size in
    let room = c.requires.room in
    let count = c.comb.ensures.value.count in
    filtered_is c.args.before c.args.now c.args.frame c.args.n c.args.buf.now c.comb.new.buf c.comb-2.new.buf
    (combed_is c.args.before c.args.now 1024 120 c.args.buf.now c.comb.new.buf (omega arith) (omega (arith, some, room)) c.comb.ensures.value)
    (combed_is c.args.now c.args.frame 1144 (c.args.n - 120) c.comb.new.buf c.comb-2.new.buf (omega arith) (omega (arith, some, room, count)) c.comb-2.ensures.value)
