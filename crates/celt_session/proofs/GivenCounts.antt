-- How many packets are given of so many samples.
use Rattle.std.proofs.Common.{◌≡◌, ℕ, ◌+◌, ◌*◌, ◌/◌, ◌≤◌, ◌<◌, sym, ◌∙◌, ap, arith}
use Rattle.std.proofs.Math.Nat.{mul_comm, div-div-eq-div-mul}
use Rattle.std.proofs.lemmas.Nat.{le-div}

pub given_last : (group samples n p : ℕ) → 1 ≤ group → 1 ≤ samples → ((p + 1) * group + 15) * samples ≤ n → p < 16 * (n / (16 * samples)) / group
given_last group samples n p some more within =
    let all = le-div ((p + 1) * group + 15) n samples (omega arith) within in
    let split : n / (16 * samples) ≡ n / samples / 16 = ap (λ k. n / k) (mul_comm 16 samples) ∙ sym (div-div-eq-div-mul n samples 16) in
    let least = le-div (p + 1) (16 * (n / (16 * samples))) group (omega arith) (omega arith) in
    omega arith
