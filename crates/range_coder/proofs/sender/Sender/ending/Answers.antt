use Rattle.std.proofs.Common.{◌≡◌, ◌+◌, ◌-◌, ◌*◌, ◌%◌, ◌^◌, ◌<◌, ◌≤◌, subst, arith}
use Rattle.std.proofs.lemmas.Nat.{one_shl}
use Rattle.std.proofs.Math.Nat.{pow-le-pow_right}
use Rattle.range_coder.proofs.SentEnds.{HasPower, has_power, IsCeiling, is_ceiling, wide_ending, half_ending, first_few}
use Rattle.range_coder.proofs.sender.Sender.ending.Goals as goal

power_is : (c : goal.After-bit_length-bits) → HasPower c.args.self.width c.bit_length-bits.result
power_is c = has_power c.args.self.width c.bit_length-bits.result c.requires.wide c.args.self.narrow c.bit_length-bits.ensures

pub rounded_up-first-requires-clause-fits : goal.rounded_up-first-requires-clause-fits
rounded_up-first-requires-clause-fits c =
    let is = has_power c.args.self.width c.bit_length-bits.result c.requires.wide c.args.self.narrow c.bit_length-bits.ensures in
    let wide = is.wide in
    let within = c.args.self.within in
    omega arith

pub overflow_sub-self : goal.overflow_sub-self
overflow_sub-self c =
    let s = c.args.self in
    let length = c.bit_length-bits.result in
    let power = 31 - (32 - length) in
    let is = has_power s.width length c.requires.wide s.narrow c.bit_length-bits.ensures in
    let wide = is.wide in
    let within = s.within in
    let first = is_ceiling s.low power c.rounded_up-first.result c.rounded_up-first.ensures.value in
    let near = first.near in
    let whole : c.rounded_up-first.result * 2 ^ power % 2 ^ 32 ≡ c.rounded_up-first.result * 2 ^ power = omega arith in
    omega arith

pub returns-then-self-first-clause-first : goal.returns-then-self-first-clause-first
returns-then-self-first-clause-first c =
    let s = c.args.self in
    let length = c.bit_length-bits.result in
    let is = has_power s.width length c.requires.wide s.narrow c.bit_length-bits.ensures in
    let least = is.least in
    let most = is.most in
    first_few s.low s.width (32 - length) (31 - (32 - length)) c.rounded_up-first.result (omega arith) is.wide s.within
    (is_ceiling s.low (31 - (32 - length)) c.rounded_up-first.result c.rounded_up-first.ensures.value)

pub returns-then-self-first-clause-ending : goal.returns-then-self-first-clause-ending
returns-then-self-first-clause-ending c =
    λ i front low_is width_is.
    let s = c.args.self in
    let length = c.bit_length-bits.result in
    let power = 31 - (32 - length) in
    let is = has_power s.width length c.requires.wide s.narrow c.bit_length-bits.ensures in
    let least = is.least in
    let most = is.most in
    let wide = is.wide in
    let within = s.within in
    let first = is_ceiling s.low power c.rounded_up-first.result c.rounded_up-first.ensures.value in
    let near = first.near in
    let whole : c.rounded_up-first.result * 2 ^ power % 2 ^ 32 ≡ c.rounded_up-first.result * 2 ^ power = omega arith in
    let one : (1 * 2 ^ power) % 2 ^ 32 ≡ 2 ^ power = one_shl power 32 (omega arith) in
    let test = c.if-self-first.true in
    wide_ending i front s.low s.width (32 - length) power c.rounded_up-first.result
    (record { low_is = low_is; width_is = width_is; sum = omega arith; wide = is.wide; narrow = is.narrow })
    first (omega arith)

pub rounded_up-requires-clause-fits : goal.rounded_up-requires-clause-fits
rounded_up-requires-clause-fits c =
    let length = c.bit_length-bits.result in
    let is = has_power c.args.self.width length c.requires.wide c.args.self.narrow c.bit_length-bits.ensures in
    let wide = is.wide in
    let within = c.args.self.within in
    let half : 2 ^ (31 - (32 - length) - 1) ≤ 2 ^ (31 - (32 - length)) = pow-le-pow_right {n = 2} (omega arith) (omega arith) in
    omega arith

pub returns-clause-first : goal.returns-clause-first
returns-clause-first c =
    let s = c.args.self in
    let length = c.bit_length-bits.result in
    let is = has_power s.width length c.requires.wide s.narrow c.bit_length-bits.ensures in
    let least = is.least in
    let most = is.most in
    let wide = is.wide in
    let half : 2 ^ (31 - (32 - length) - 1) ≤ 2 ^ (31 - (32 - length)) = pow-le-pow_right {n = 2} (omega arith) (omega arith) in
    first_few s.low s.width (32 - length + 1) (31 - (32 - length) - 1) c.rounded_up.result (omega arith) (omega arith) s.within
    (is_ceiling s.low (31 - (32 - length) - 1) c.rounded_up.result c.rounded_up.ensures.value)

pub returns-clause-ending : goal.returns-clause-ending
returns-clause-ending c =
    λ i front low_is width_is.
    let s = c.args.self in
    let length = c.bit_length-bits.result in
    let power = 31 - (32 - length) in
    let is = has_power s.width length c.requires.wide s.narrow c.bit_length-bits.ensures in
    let least = is.least in
    let most = is.most in
    let wide = is.wide in
    let within = s.within in
    let first = is_ceiling s.low power c.rounded_up-first.result c.rounded_up-first.ensures.value in
    let near = first.near in
    let whole : c.rounded_up-first.result * 2 ^ power % 2 ^ 32 ≡ c.rounded_up-first.result * 2 ^ power = omega arith in
    let one : (1 * 2 ^ power) % 2 ^ 32 ≡ 2 ^ power = one_shl power 32 (omega arith) in
    let test = c.if-self-first.false in
    let same : power ≡ (power - 1) + 1 = omega arith in
    half_ending i front s.low s.width (32 - length) (power - 1) c.rounded_up-first.result c.rounded_up.result
    (record {
      low_is = low_is;
      width_is = width_is;
      sum = omega arith;
      wide = subst (λ n. 2 ^ n ≤ s.width) same is.wide;
      narrow = subst (λ n. s.width < 2 ^ (n + 1)) same is.narrow;
    })
    (subst (λ n. IsCeiling s.low n c.rounded_up-first.result) same first)
    (subst (λ n. s.low + s.width < c.rounded_up-first.result * 2 ^ n + 2 ^ n) same (omega arith))
    (is_ceiling s.low (power - 1) c.rounded_up.result c.rounded_up.ensures.value)
