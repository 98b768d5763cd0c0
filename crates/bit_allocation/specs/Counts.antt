-- What a list of amounts counts for, and the greatest quality and step that fit (RFC 6716, section 4.3.3).
use Rattle.std.specs.Prelude.{◌≡◌, ℕ, zero, suc, ◌+◌, ◌-◌, ◌*◌, ◌/◌, ◌<◌, ◌≤◌, min, Bool, true, false, ◌||◌, if◌then◌else◌, nat_eq, nat_le}
use Rattle.bit_allocation.specs.declared.request.Request.{Request}
use Rattle.bit_allocation.specs.Amounts.{bit_each, threshold_of, most_of, boost_of, value_of}
use Rattle.celt_base.specs.declared.kind.Kind.{Kind}

-- one of so many bands from this one on passes the test
unfoldable pub one_from : (ℕ → Bool) → ℕ → ℕ → Bool
one_from test zero band = false
one_from test (suc left) band = test band || one_from test left (band + 1)

-- the sum over the bands below this one
unfoldable pub sum_below : (ℕ → ℕ) → ℕ → ℕ
sum_below amounts zero = 0
sum_below amounts (suc band) = sum_below amounts band + amounts band

-- this band or one above it reaches its threshold
abbrev pub is_reached : Kind → (ℕ → ℕ) → ℕ → Bool
is_reached kind amounts band = one_from (λ b. nat_le (threshold_of kind b) (amounts b)) (kind.end - band) band

-- one bit in each channel, where the amount has room for them
abbrev pub few : Kind → ℕ → ℕ
few kind amount = if nat_le (bit_each kind) amount then bit_each kind else 0

-- What a band counts: from the highest band that reaches its threshold down, its amount up to the greatest; above
-- that band, one bit in each channel or nothing.
unfoldable pub count_of : Kind → (ℕ → ℕ) → ℕ → ℕ
count_of kind amounts band =
    if is_reached kind amounts band then min (amounts band) (most_of kind band) else few kind (amounts band)

unfoldable pub counts_of : Kind → (ℕ → ℕ) → ℕ
counts_of kind amounts = sum_below (count_of kind amounts) kind.end

-- The greatest number up to `most` that passes the test, or 0.
unfoldable pub greatest : (ℕ → Bool) → ℕ → ℕ
greatest test zero = 0
greatest test (suc n) = if test (suc n) then suc n else greatest test n

-- What `greatest` is: it passes, or it is 0; and no greater number passes.
pub record IsGreatest (test : ℕ → Bool) (most n : ℕ) : Type 0 where
  pub within : n ≤ most
  pub passes : 0 < n → test n ≡ true
  pub none_above : (k : ℕ) → n < k → k ≤ most → test k ≡ false

-- a quality's amounts, each with its boost
abbrev pub boosted_of : Request → ℕ → ℕ → ℕ
boosted_of r quality band = value_of r quality band + boost_of r band

-- the greatest quality from 1 to 10 whose amounts fit, or 0
unfoldable pub quality_of : Request → ℕ → ℕ
quality_of r rest = greatest (λ quality. nat_le (counts_of r.kind (boosted_of r quality)) rest) 10

-- The amounts of that quality; quality 0 has no boosts.
abbrev pub first_of : Request → ℕ → ℕ → ℕ
first_of r quality band = value_of r quality band + (if nat_eq quality 0 then 0 else boost_of r band)

-- what the next quality has more
abbrev pub second_of : Request → ℕ → ℕ → ℕ
second_of r quality band = boosted_of r (quality + 1) band - first_of r quality band

-- the amounts a number of 64ths of the way to the next quality
unfoldable pub stepped_of : Request → ℕ → ℕ → ℕ → ℕ
stepped_of r quality step band = first_of r quality band + step * second_of r quality band / 64

-- the greatest step from 0 to 63 whose amounts fit
unfoldable pub step_of : Request → ℕ → ℕ → ℕ
step_of r quality rest = greatest (λ step. nat_le (counts_of r.kind (stepped_of r quality step)) rest) 63
