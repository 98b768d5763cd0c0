use Rattle.std.proofs.Common.{◌∙◌, ◌*◌, ap}
use Rattle.celt_tables.specs.Tables.{size_of}
use Rattle.bit_allocation.specs.Shares.{raised_once, raised_twice, raised_bits}
use Rattle.bit_allocation.proofs.splitting.raised_bits.Goals as goal

pub returns-clause-value : goal.returns-clause-value
unfolding raised_bits
returns-clause-value c =
    let n = c.args.numbers in
    c.raised_twice.ensures.value
    ∙ ap (raised_twice n (n * c.logarithm.result)) c.raised_once-once.ensures.value
    ∙ ap (λ s. raised_twice n (n * c.logarithm.result) (raised_once s n (n * c.logarithm.result) c.args.bits)) c.size.ensures.value
    ∙ ap (λ l. raised_twice n (n * l) (raised_once (size_of c.args.kind c.args.band) n (n * l) c.args.bits)) c.logarithm.ensures.value
