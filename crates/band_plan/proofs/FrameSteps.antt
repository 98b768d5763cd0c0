-- The changes that the tables have, and what an allocation is to the walk.
use Rattle.std.proofs.Common.{◌≡◌, ℕ, ◌^◌, ◌<◌, ◌≤◌, Bool, true, false, ◌&&◌, refl, sym, subst, arith, nat_eq}
use Rattle.std.specs.Prelude.{◌≢◌, ℤ, pos, neg_ℤ, ◌≤ℤ◌, int_le, unsigned_abs, nat_le}
use Rattle.std.proofs.lemmas.Bool.Decides.{nat_tests}
use Rattle.std.proofs.lemmas.Bool.{and_parts}
use Rattle.std.proofs.lemmas.Int.{ints}
use Rattle.band_plan.specs.declared.symbols.BandSettings.{BandSettings}
use Rattle.band_plan.specs.Frames.{IsFrame}
use Rattle.band_plan.specs.Plans.{IsChange, AreSettings, pulses_of}
use Rattle.celt_base.specs.declared.kind.Kind.{Kind}
use Rattle.celt_base.specs.declared.state.Allocation.{Allocation}
use Rattle.celt_base.specs.States.{IsShare, IsAllocation}
use Rattle.celt_base.proofs.Below.{all_below, at_each, at_most}
use Rattle.celt_tables.specs.Tables.{change_of, cap_of}
use Rattle.band_plan.proofs.PlanSteps.{end_within}

-- finer in time, or not at all
is_long : ℤ → Bool
is_long change = int_le (neg_ℤ (pos 3)) change && int_le change (pos 0)

is_short : ℕ → ℤ → Bool
is_short lm change = int_le (neg_ℤ (pos 1)) change && int_le change (pos lm)

long_at : (lm : ℕ) (select flag : Bool) → lm < 4 → is_long (change_of lm false select flag) ≡ true
unfolding is_long
long_at lm false false below = at_each (λ k. is_long (change_of k false false false)) 4 lm refl below
long_at lm false true below = at_each (λ k. is_long (change_of k false false true)) 4 lm refl below
long_at lm true false below = at_each (λ k. is_long (change_of k false true false)) 4 lm refl below
long_at lm true true below = at_each (λ k. is_long (change_of k false true true)) 4 lm refl below

short_at : (lm : ℕ) (select flag : Bool) → lm < 4 → is_short lm (change_of lm true select flag) ≡ true
unfolding is_short
short_at lm false false below = at_each (λ k. is_short k (change_of k true false false)) 4 lm refl below
short_at lm false true below = at_each (λ k. is_short k (change_of k true false true)) 4 lm refl below
short_at lm true false below = at_each (λ k. is_short k (change_of k true true false)) 4 lm refl below
short_at lm true true below = at_each (λ k. is_short k (change_of k true true true)) 4 lm refl below

int_at_most : (a b : ℤ) → int_le a b ≡ true → a ≤ℤ b
int_at_most a b test = grind (arith, ints, test)

pub change_long : (lm : ℕ) (change : ℤ) → lm ≤ 3 → IsChange lm false change → (neg_ℤ (pos 3) ≤ℤ change) × (change ≤ℤ pos 0)
unfolding is_long
change_long lm change low is =
    let t = and_parts (int_le (neg_ℤ (pos 3)) change) (int_le change (pos 0))
    (subst (λ x. is_long x ≡ true) (sym is.value) (long_at lm is.select is.flag (omega (arith, low)))) in
    (int_at_most (neg_ℤ (pos 3)) change t.0, int_at_most change (pos 0) t.1)

pub change_short : (lm : ℕ) (change : ℤ) → lm ≤ 3 → IsChange lm true change → (neg_ℤ (pos 1) ≤ℤ change) × (change ≤ℤ pos lm)
unfolding is_short
change_short lm change low is =
    let t = and_parts (int_le (neg_ℤ (pos 1)) change) (int_le change (pos lm))
    (subst (λ x. is_short lm x ≡ true) (sym is.value) (short_at lm is.select is.flag (omega (arith, low)))) in
    (int_at_most (neg_ℤ (pos 1)) change t.0, int_at_most change (pos lm) t.1)

pub change_small : (lm : ℕ) (transient : Bool) (change : ℤ) → lm ≤ 3 → IsChange lm transient change → unsigned_abs change ≤ 3
change_small lm false change low is = let r = change_long lm change low is in let a = r.0 in let b = r.1 in omega (arith, ints, a, b)
change_small lm true change low is = let r = change_short lm change low is in let a = r.0 in let b = r.1 in omega (arith, ints, low, a, b)

-- how much a band can be given
caps_fit : ℕ → ℕ → Bool
caps_fit channels lm = all_below (λ band. nat_le (cap_of lm channels band) (2 ^ 15)) 21

one_fits : all_below (caps_fit 1) 4 ≡ true
unfolding caps_fit
one_fits = refl

two_fit : all_below (caps_fit 2) 4 ≡ true
unfolding caps_fit
two_fit = refl

caps_by : (channels lm band : ℕ) → all_below (caps_fit channels) 4 ≡ true → lm ≤ 3 → band ≤ 20 → cap_of lm channels band ≤ 2 ^ 15
unfolding caps_fit
caps_by channels lm band fit low small =
    at_most (cap_of lm channels band) (2 ^ 15)
    (at_each (λ k. nat_le (cap_of lm channels k) (2 ^ 15)) 21 band (at_each (caps_fit channels) 4 lm fit (omega (arith, low))) (omega (arith, small)))

cap_small : (channels lm band : ℕ) → 1 ≤ channels → channels ≤ 2 → lm ≤ 3 → band ≤ 20 → cap_of lm channels band ≤ 2 ^ 15
cap_small channels lm band some most low small = by_channels (nat_eq channels 1) refl
  where
    by_channels : (b : Bool) → nat_eq channels 1 ≡ b → cap_of lm channels band ≤ 2 ^ 15
    by_channels true e =
        let one : 1 ≡ channels = grind (arith, nat_tests, e) in
        subst (λ n. cap_of lm n band ≤ 2 ^ 15) one (caps_by 1 lm band one_fits low small)
    by_channels false e =
        let ne : channels ≢ 1 = grind (arith, nat_tests, e) in
        let two : 2 ≡ channels = omega (arith, ne, some, most) in
        subst (λ n. cap_of lm n band ≤ 2 ^ 15) two (caps_by 2 lm band two_fit low small)

share_small : (cap : ℕ) (pulses : ℤ) → cap ≤ 2 ^ 15 → IsShare (pos cap) pulses → unsigned_abs pulses ≤ 2 ^ 15
share_small cap pulses most is = let a = is.least in let b = is.most in omega (arith, ints, most, a, b)

pub frame_is : (kind : Kind) (settings : BandSettings) (a : Allocation) (total : ℤ) → AreSettings kind settings
    → IsAllocation (λ band. pos (cap_of kind.lm kind.channels band)) kind a → unsigned_abs total ≤ 81600 → IsFrame kind settings a total
frame_is kind settings a total s is t =
    let low = is.balance.least in
    let high = is.balance.most in
    record {
      settings = s;
      coded = is.most_coded;
      balance = omega (arith, ints, low, high);
      pulses = λ band below.
          share_small (cap_of kind.lm kind.channels band) (pulses_of a band)
          (cap_small kind.channels kind.lm band kind.some_channel kind.two_channels kind.sized (end_within kind band below)) (is.pulses band below);
      total = t;
    }
