-- Narrowing and growing an interval.
use Rattle.std.proofs.Common.{◌≡◌, ℕ, zero, suc, ◌+◌, ◌-◌, ◌*◌, ◌/◌, ◌^◌, ◌<◌, ◌≤◌, Bool, true, false, nat_lt, if◌then◌else◌, List, [], ◌∷◌, refl, ◌∙◌, ap, arith}
use Rattle.std.proofs.lemmas.Bool.Decides.{nat_tests}
use Rattle.std.proofs.lemmas.Nat.{pow-add}
use Rattle.std.proofs.Math.Nat.{div-mul-le_self, mul-le-mul_left}
use Rattle.std.specs.List.{fold}
use Rattle.celt_base.specs.Intervals.{Part, Symbol, InPart, InBits, Interval, whole, depth, narrowed, grown, after}
use Rattle.celt_base.specs.Questions.{Answered, steps, after_answer, interval_of}

-- a place is within the interval, and a higher place is nearer to its upper end
pub depth_le : (width total place : ℕ) → depth width total place ≤ width
depth_le width total zero = omega arith
depth_le width total (suc k) =
    omega (arith, mul-le-mul_left (width / total) (let e : total - suc k ≤ total = omega arith in e), div-mul-le_self width total)

pub depth_falls : (width total low high : ℕ) → low ≤ high → depth width total high ≤ depth width total low
depth_falls width total zero high le = depth_le width total high
depth_falls width total (suc k) zero le = absurd (omega arith)
depth_falls width total (suc k) (suc m) le =
    mul-le-mul_left (width / total) (let e : total - suc m ≤ total - suc k = omega arith in e)

-- the interval with eight bits more
abbrev pub wider : Interval → Interval
wider i = record i { low = i.low * 256; width = i.width * 256; shift = i.shift + 8 }

test_true : (a b : ℕ) → a < b → nat_lt a b ≡ true
test_true a b lt = grind (arith, nat_tests)

test_false : (a b : ℕ) → b ≤ a → nat_lt a b ≡ false
test_false a b le = grind (arith, nat_tests)

pub grown_stays : (i : Interval) → 2 ^ 23 < i.width → grown i ≡ i
unfolding grown
grown_stays i wide = ap (λ b. if b then i else wider i) (test_true (2 ^ 23) i.width wide)

pub grown_grows : (i : Interval) → i.width ≤ 2 ^ 23 → grown i ≡ wider i
unfolding grown
grown_grows i small = ap (λ b. if b then i else wider i) (test_false (2 ^ 23) i.width small)

-- what every interval of a list keeps
pub record IsInterval (i : Interval) : Type 0 where
  pub narrow : i.width ≤ 2 ^ 31
  pub below : i.low + i.width ≤ 2 ^ (31 + i.shift)

narrowed_is : (part : Part) (i : Interval) → IsInterval i → IsInterval (narrowed part i)
unfolding narrowed
narrowed_is part i is =
    let from = depth_le i.width part.total part.from in
    let narrow = is.narrow in
    let below = is.below in
    record { narrow = omega arith; below = omega arith }

grown_by : (b : Bool) (i : Interval) → nat_lt (2 ^ 23) i.width ≡ b → IsInterval i → IsInterval (if b then i else wider i)
grown_by true i test is = is
grown_by false i test is =
    let small : i.width ≤ 2 ^ 23 = grind (arith, nat_tests) in
    let below = is.below in
    let eight : 2 ^ (31 + (i.shift + 8)) ≡ 2 ^ (31 + i.shift) * 256 = ap (λ n. 2 ^ n) (let e : 31 + (i.shift + 8) ≡ (31 + i.shift) + 8 = omega arith in e) ∙ pow-add 2 (31 + i.shift) 8 in
    record { narrow = omega arith; below = omega arith }

grown_is : (i : Interval) → IsInterval i → IsInterval (grown i)
unfolding grown
grown_is i is = grown_by (nat_lt (2 ^ 23) i.width) i refl is

pub after_is : (s : Symbol) (i : Interval) → IsInterval i → IsInterval (after i s)
unfolding after
after_is (InPart part) i is = grown_is (grown (grown (narrowed part i))) (grown_is (grown (narrowed part i)) (grown_is (narrowed part i) (narrowed_is part i is)))
after_is (InBits count number) i is = record { narrow = is.narrow; below = is.below }

pub all_after_is : (symbols : List Symbol) (i : Interval) → IsInterval i → IsInterval (fold after i symbols)
all_after_is [] i is = is
all_after_is (s ∷ symbols) i is = all_after_is symbols (after i s) (after_is s i is)

answered_is : (list : List Answered) (i : Interval) → IsInterval i → IsInterval (fold after_answer i list)
unfolding after_answer
answered_is [] i is = is
answered_is (a ∷ list) i is = answered_is list (after_answer i a) (all_after_is (steps a.question a.answer) i is)

pub interval_is : (list : List Answered) → IsInterval (interval_of list)
unfolding interval_of
interval_is list = answered_is list whole (record { narrow = omega arith; below = omega arith })
