-- The greatest quality and step that fit lie where bisection finds them, since the sums do not fall.
use Rattle.std.proofs.Common.{◌≡◌, ◌≢◌, ℕ, ◌+◌, ◌*◌, ◌/◌, ◌<◌, ◌≤◌, Bool, true, false, nat_le, List, ◌∙◌, ap, arith}
use Rattle.std.specs.Prelude.{slice_index}
use Rattle.std.proofs.lemmas.Bool.Decides.{nat_tests}
use Rattle.std.proofs.lemmas.Nat.{mul-le}
use Rattle.bit_allocation.specs.declared.request.Request.{Request}
use Rattle.bit_allocation.specs.Counts.{counts_of, greatest, IsGreatest, boosted_of, quality_of, first_of, second_of, stepped_of, step_of}
use Rattle.bit_allocation.proofs.AmountLemmas.{value_rises, band_inside}
use Rattle.bit_allocation.proofs.CountLemmas.{counts_more, counts_same, greatest_is, greatest_from, greatest_under, test_falls}

pub boosted_rises : (r : Request) (k : ℕ) → k < 10 → counts_of r.kind (boosted_of r k) ≤ counts_of r.kind (boosted_of r (k + 1))
boosted_rises r k below =
    counts_more r.kind (boosted_of r k) (boosted_of r (k + 1))
    (λ b inside. let v = value_rises r k b below (band_inside r.kind b inside) in omega (arith, v))

pub stepped_rises : (r : Request) (quality k : ℕ) → counts_of r.kind (stepped_of r quality k) ≤ counts_of r.kind (stepped_of r quality (k + 1))
unfolding stepped_of
stepped_rises r quality k =
    counts_more r.kind (λ band. first_of r quality band + k * second_of r quality band / 64) (λ band. first_of r quality band + (k + 1) * second_of r quality band / 64)
    (λ b inside. let p = mul-le k (second_of r quality b) (k + 1) (second_of r quality b) (omega arith) (omega arith) in omega (arith, p))

test_true : (n rest : ℕ) → n ≤ rest → nat_le n rest ≡ true
test_true n rest fits = grind (arith, nat_tests)

test_false : (n rest : ℕ) → rest < n → nat_le n rest ≡ false
test_false n rest over = grind (arith, nat_tests)

pub quality_most : (r : Request) (rest : ℕ) → quality_of r rest ≤ 10
unfolding quality_of
quality_most r rest = (greatest_is (λ quality. nat_le (counts_of r.kind (boosted_of r quality)) rest) 10).within

pub quality_fits : (r : Request) (rest k : ℕ) → k ≤ 10 → counts_of r.kind (boosted_of r k) ≤ rest → k ≤ quality_of r rest
unfolding quality_of
quality_fits r rest k inside fits =
    greatest_from (λ quality. nat_le (counts_of r.kind (boosted_of r quality)) rest) 10 k (test_true (counts_of r.kind (boosted_of r k)) rest fits) inside

pub quality_over : (r : Request) (rest k : ℕ) → 0 < k → rest < counts_of r.kind (boosted_of r k) → quality_of r rest < k
unfolding quality_of
quality_over r rest k some over =
    greatest_under (λ quality. nat_le (counts_of r.kind (boosted_of r quality)) rest) 10 k
    (λ j low high. test_falls (λ quality. counts_of r.kind (boosted_of r quality)) 10 rest (boosted_rises r) k j low high)
    (test_false (counts_of r.kind (boosted_of r k)) rest over) some

pub step_most : (r : Request) (quality rest : ℕ) → step_of r quality rest ≤ 63
unfolding step_of
step_most r quality rest = (greatest_is (λ step. nat_le (counts_of r.kind (stepped_of r quality step)) rest) 63).within

pub step_fits : (r : Request) (quality rest k : ℕ) → k ≤ 63 → counts_of r.kind (stepped_of r quality k) ≤ rest → k ≤ step_of r quality rest
unfolding step_of
step_fits r quality rest k inside fits =
    greatest_from (λ step. nat_le (counts_of r.kind (stepped_of r quality step)) rest) 63 k (test_true (counts_of r.kind (stepped_of r quality k)) rest fits) inside

pub step_over : (r : Request) (quality rest k : ℕ) → 0 < k → rest < counts_of r.kind (stepped_of r quality k) → step_of r quality rest < k
unfolding step_of
step_over r quality rest k some over =
    greatest_under (λ step. nat_le (counts_of r.kind (stepped_of r quality step)) rest) 63 k
    (λ j low high. test_falls (λ step. counts_of r.kind (stepped_of r quality step)) 63 rest (λ n below. stepped_rises r quality n) k j low high)
    (test_false (counts_of r.kind (stepped_of r quality k)) rest over) some

pub stepped_at : (r : Request) (quality step : ℕ) (firsts seconds amounts : List ℕ) (b : ℕ)
    → slice_index firsts b ≡ first_of r quality b
    → slice_index seconds b ≡ second_of r quality b
    → slice_index amounts b ≡ slice_index firsts b + step * slice_index seconds b / 64
    → slice_index amounts b ≡ stepped_of r quality step b
unfolding stepped_of
stepped_at r quality step firsts seconds amounts b first second at =
    at ∙ ap (λ x. x + step * slice_index seconds b / 64) first ∙ ap (λ x. first_of r quality b + step * x / 64) second

-- the count of amounts that are read
pub stepped_same : (r : Request) (quality step : ℕ) (firsts seconds amounts : List ℕ)
    → ((b : ℕ) → b < r.kind.end → slice_index firsts b ≡ first_of r quality b)
    → ((b : ℕ) → b < r.kind.end → slice_index seconds b ≡ second_of r quality b)
    → ((b : ℕ) → b < 21 → slice_index amounts b ≡ slice_index firsts b + step * slice_index seconds b / 64)
    → counts_of r.kind (slice_index amounts) ≡ counts_of r.kind (stepped_of r quality step)
stepped_same r quality step firsts seconds amounts first second all =
    counts_same r.kind (slice_index amounts) (stepped_of r quality step) (λ b below. stepped_at r quality step firsts seconds amounts b (first b below) (second b below) (all b (band_inside r.kind b below)))

passed : (n rest : ℕ) → nat_le n rest ≡ true → n ≤ rest
passed n rest t = grind (arith, nat_tests)

pub quality_passes : (r : Request) (rest : ℕ) → quality_of r rest ≢ 0 → counts_of r.kind (boosted_of r (quality_of r rest)) ≤ rest
unfolding quality_of
quality_passes r rest some =
    let test : ℕ → Bool = λ quality. nat_le (counts_of r.kind (boosted_of r quality)) rest in
    passed (counts_of r.kind (boosted_of r (greatest test 10))) rest ((greatest_is test 10).passes (omega (arith, some)))

pub step_passes : (r : Request) (quality rest : ℕ) → step_of r quality rest ≢ 0 → counts_of r.kind (stepped_of r quality (step_of r quality rest)) ≤ rest
unfolding step_of
step_passes r quality rest some =
    let test : ℕ → Bool = λ step. nat_le (counts_of r.kind (stepped_of r quality step)) rest in
    passed (counts_of r.kind (stepped_of r quality (greatest test 63))) rest ((greatest_is test 63).passes (omega (arith, some)))

pub no_step : (r : Request) (quality step band : ℕ) → step ≡ 0 → stepped_of r quality step band ≡ first_of r quality band
unfolding stepped_of
no_step r quality step band none = rw none (omega arith)

pub quality_is : (r : Request) (rest : ℕ) → IsGreatest (λ quality. nat_le (counts_of r.kind (boosted_of r quality)) rest) 10 (quality_of r rest)
unfolding quality_of
quality_is r rest = greatest_is (λ quality. nat_le (counts_of r.kind (boosted_of r quality)) rest) 10

pub step_is : (r : Request) (quality rest : ℕ) → IsGreatest (λ step. nat_le (counts_of r.kind (stepped_of r quality step)) rest) 63 (step_of r quality rest)
unfolding step_of
step_is r quality rest = greatest_is (λ step. nat_le (counts_of r.kind (stepped_of r quality step)) rest) 63
