-- The transform of a list: lengths, items past its end, and the joins from the innermost on.
use Rattle.std.proofs.Common.{◌≡◌, ℕ, zero, suc, ◌+◌, ◌*◌, ◌/◌, ◌%◌, ◌^◌, ◌<◌, ◌≤◌, refl, sym, subst, inl, inr, arith, ap, ◌∙◌, List, [], ◌∷◌, length}
use Rattle.std.specs.Prelude.{ℤ, pos, unsigned_abs}
use Rattle.std.proofs.lemmas.Nat.{mul-le, mod-mul-add, div-add-mod'}
use Rattle.std.proofs.lemmas.Bool.{cases_lt}
use Rattle.std.proofs.lemmas.List.{get_or_past}
use Rattle.fixed_math.specs.Items.{item}
use Rattle.mdct_fixed.specs.declared.complex.Complex.{Complex}
use Rattle.mdct_fixed.specs.Numbers.{at, IsWithin}
use Rattle.mdct_fixed.specs.Digits.{IsLength}
use Rattle.mdct_fixed.specs.Transform.{radix, size, IsPlan, fourier, radices, reversed, joined_all, growth}
use Rattle.mdct_fixed.proofs.PlanLemmas.{radix_whole, plan_of, joined_all_within, transform_joined, reversed_below}

-- items past the end are 0
pub at_within : (re im : List ℤ) (n m : ℕ) → length re ≡ m → length im ≡ m → ((i : ℕ) → i < m → IsWithin n (at re im i)) → (i : ℕ) → IsWithin n (at re im i)
at_within re im n m e f h i = elim (cases_lt i m) [
  | inl l ↦ h i l
  | inr l ↦
      let a : item re i ≡ pos 0 = get_or_past re i (pos 0) (omega arith) in
      let b : item im i ≡ pos 0 = get_or_past im i (pos 0) (omega arith) in
      record {
        re = subst (λ v. unsigned_abs v ≤ n) (sym a) (omega arith);
        im = subst (λ v. unsigned_abs v ≤ n) (sym b) (omega arith);
      }
]

pub wider : (m n : ℕ) (z : Complex) → m ≤ n → IsWithin m z → IsWithin n z
wider m n z h w =
    let a = w.re in
    let b = w.im in
    record { re = omega arith; im = omega arith }

pub record LengthFacts (n : ℕ) : Type 0 where
  pub divides : 480 % n ≡ 0
  pub low : 60 ≤ n
  pub high : n ≤ 480

pub length_facts : (n : ℕ) → IsLength n → LengthFacts n
length_facts n h = elim h [
  | inl e ↦ rw e (record { divides = refl; low = omega arith; high = omega arith })
  | inr o ↦ elim o [
    | inl e ↦ rw e (record { divides = refl; low = omega arith; high = omega arith })
    | inr p ↦ elim p [
      | inl e ↦ rw e (record { divides = refl; low = omega arith; high = omega arith })
      | inr e ↦ rw e (record { divides = refl; low = omega arith; high = omega arith })
    ]
  ]
]

-- ---- the runs inside those of a length

pub whole_number : (n len : ℕ) → n % len ≡ 0 → n ≡ n / len * len
whole_number n len h = sym (div-add-mod' n len) ∙ ap (λ k. n / len * len + k) h ∙ plain (n / len * len)
  where
    plain : (k : ℕ) → k + 0 ≡ k
    plain k = omega arith

pub record InnerFacts (len n : ℕ) : Type 0 where
  pub low : 2 ≤ radix len
  pub some : 1 ≤ len / radix len
  pub smaller : len / radix len < len
  pub divides : 480 % (len / radix len) ≡ 0
  pub runs : n % (len / radix len) ≡ 0

pub inner_facts : (len n : ℕ) → 2 ≤ len → 480 % len ≡ 0 → n % len ≡ 0 → InnerFacts len n
inner_facts len n l h k = record {
  low = (radix_whole len l h).1;
  some = some;
  smaller = less (radix len) (len / radix len) len (radix_whole len l h).1 some (radix_whole len l h).0;
  divides = divided 480 h;
  runs = divided n k;
}
  where
    some : 1 ≤ len / radix len
    some = room (radix len) (len / radix len) len l (radix_whole len l h).0
      where
        room : (r m len : ℕ) → 2 ≤ len → len ≡ r * m → 1 ≤ m
        room r zero len l e = absurd (omega arith)
        room r (suc m) len l e = omega arith

    less : (r m len : ℕ) → 2 ≤ r → 1 ≤ m → len ≡ r * m → m < len
    less r m len a b e =
        let u : 2 * m ≤ r * m = mul-le 2 m r m a (omega arith) in
        omega arith

    divided : (x : ℕ) → x % len ≡ 0 → x % (len / radix len) ≡ 0
    divided x e =
        let b : ℕ = x / len in
        let r : ℕ = radix len in
        let m : ℕ = len / radix len in
        let u : x ≡ b * len = whole_number x len e in
        let v : b * len ≡ b * (r * m) = ap (λ y. b * y) (radix_whole len l h).0 in
        let w : x ≡ b * r * m + 0 = omega arith in
        ap (λ y. y % m) w ∙ mod-mul-add (b * r) m 0 some

-- a single item is its own transform
pub one_item : (rs : List ℕ) (len : ℕ) (s : ℕ → Complex) (i : ℕ) → IsPlan rs → size rs ≡ len → 1 ≤ len → len ≤ 1 → s i ≡ joined_all rs s i
unfolding IsPlan size joined_all radix
one_item [] len s i p e l h = refl
one_item (r ∷ rs) len s i p e l h =
    let one : r * size rs ≡ 1 = omega arith in
    let five : r ≡ 5 = p.0 ∙ ap radix one in
    absurd (none r (size rs) five one)
  where
    none : (r m : ℕ) → r ≡ 5 → r * m ≡ 1 → ⊥
    none r m e f =
        let g : 5 * m ≡ 1 = sym (ap (λ y. y * m) e) ∙ f in
        omega arith

-- items after the joins of the inner runs are still small
pub inner_within : (m : ℕ) (s t : ℕ → Complex) (i : ℕ) → 1 ≤ m → 480 % m ≡ 0 → ((i : ℕ) → IsWithin (2 ^ 31) (s i)) → t i ≡ joined_all (radices m) s i → IsWithin (2 ^ 46) (t i)
inner_within m s t i l h w e =
    let p = plan_of m l h in
    let g = p.growth in
    let u : growth (radices m) * 2 ^ 31 ≤ 6615 * 2 ^ 31 = mul-le (growth (radices m)) (2 ^ 31) 6615 (2 ^ 31) g (omega arith) in
    wider (growth (radices m) * 2 ^ 31) (2 ^ 46) (t i) (omega arith) (subst (IsWithin (growth (radices m) * 2 ^ 31)) (sym e) (joined_all_within (radices m) s (2 ^ 31) w i))

-- ---- the whole transform

pub transform_value : (n : ℕ) (old mid new s : ℕ → Complex) → 1 ≤ n → 480 % n ≡ 0 → ((k : ℕ) → k < n → mid k ≡ old (reversed (radices n) k)) → ((rs : List ℕ) → IsPlan rs → size rs ≡ n → (i : ℕ) → i < n → new i ≡ joined_all rs mid i) → ((i : ℕ) → i < n → old i ≡ s i) → (k : ℕ) → k < n → new k ≡ fourier n s k
transform_value n old mid new s l h r j e k lk =
    let p = plan_of n l h in
    let ps = p.size in
    let lz : k < size (radices n) = omega arith in
    let z : 0 * size (radices n) + k ≡ k = omega arith in
    j (radices n) p.plan ps k lk ∙ ap (joined_all (radices n) mid) (sym z)
    ∙ transform_joined (radices n) 0 mid s (λ i li. from_reversed i (size (radices n)) ps li) k lz
  where
    from_reversed : (i m : ℕ) → size (radices n) ≡ n → i < size (radices n) → mid (0 * size (radices n) + i) ≡ s (reversed (radices n) i)
    from_reversed i m ps li =
        let z : 0 * size (radices n) + i ≡ i = omega arith in
        let ln : i < n = omega arith in
        let b : reversed (radices n) i < size (radices n) = reversed_below (radices n) i li in
        let bn : reversed (radices n) i < n = omega arith in
        ap mid z ∙ r i ln ∙ e (reversed (radices n) i) bn

pub reversed_within : (n m : ℕ) (old mid : ℕ → Complex) → 1 ≤ n → 480 % n ≡ 0 → ((k : ℕ) → k < n → mid k ≡ old (reversed (radices n) k)) → ((i : ℕ) → i < n → IsWithin m (old i)) → (i : ℕ) → i < n → IsWithin m (mid i)
reversed_within n m old mid l h r w i li =
    let p = plan_of n l h in
    let ps = p.size in
    let b : reversed (radices n) i < size (radices n) = reversed_below (radices n) i (omega arith) in
    subst (IsWithin m) (sym (r i li)) (w (reversed (radices n) i) (omega arith))
