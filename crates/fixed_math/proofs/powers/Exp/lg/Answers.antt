use Rattle.std.proofs.Common.{ℕ, ◌+◌, ◌-◌, ◌*◌, ◌%◌, ◌^◌, arith, ap, ◌∙◌}
use Rattle.std.specs.Prelude.{pos}
use Rattle.std.specs.Int.Count.{count_leading_zeros}
use Rattle.std.specs.Int.{w32}
use Rattle.std.proofs.lemmas.Int.{to_z_pos}
use Rattle.fixed_math.proofs.PowerLemmas.{Octave, octave-is, limit-is, logarithm_from}
use Rattle.fixed_math.proofs.powers.Exp.lg.Goals as goal

pub overflow_sub-octave-2 : goal.overflow_sub-octave-2
overflow_sub-octave-2 c =
    let o = octave-is c.args.v c.requires.some c.requires.size in
    omega arith

pub last_below-place-requires : goal.last_below-place-requires
last_below-place-requires c =
    let j : ℕ = 63 - count_leading_zeros 64 c.args.v in
    let o : Octave c.args.v j = octave-is c.args.v c.requires.some c.requires.size in
    rw (limit-is c.args.v j o) o.limit_low

pub returns : goal.returns
returns c =
    let j : ℕ = 63 - count_leading_zeros 64 c.args.v in
    let o : Octave c.args.v j = octave-is c.args.v c.requires.some c.requires.size in
    let p = c.last_below-place.ensures in
    let e = logarithm_from c.args.v j c.last_below-place.result ((c.args.v + 1) * 2 ^ (60 - j) % 2 ^ 64) o c.requires.some c.requires.size (limit-is c.args.v j o) p in
    to_z_pos w32 (j * 1024 + c.last_below-place.result) (omega arith) ∙ ap pos e
