-- Energies of bands, and their small coefficients.
use Rattle.std.proofs.Common.{◌≡◌, ℕ, zero, suc, ◌+◌, ◌-◌, ◌/◌, ◌*◌, ◌^◌, ◌<◌, ◌≤◌, refl, sym, ap, subst, inl, inr, get_or, ◌∙◌, arith, List, [], length, take, Bool, true, false, if◌then◌else◌}
use Rattle.std.specs.Prelude.{ℤ, pos, unsigned_abs, All, nat_le}
use Rattle.std.proofs.lemmas.Bool.Decides.{nat_tests}
use Rattle.std.proofs.lemmas.List.{take_all, drop_all}
use Rattle.celt_base.specs.declared.kind.Kind.{Kind}
use Rattle.celt_tables.specs.Tables.{size_of}
use Rattle.celt_encode.specs.Spreads.{small_in, over_bands}
use Rattle.celt_encode.specs.Units.{start_of, band_of}
use Rattle.std.proofs.lemmas.Bool.{cases_lt}
use Rattle.std.proofs.lemmas.Nat.{mul-le, div_below}
use Rattle.std.proofs.lemmas.List.Sums.{get_or-le-sum_by}
use Rattle.std.proofs.lemmas.List.Elements.{All-weaker}
use Rattle.fixed_math.specs.Unit.{energy, square}
use Rattle.fixed_math.proofs.UnitLemmas.{energy_within}

pub energy_most : (xs : List ℤ) → length xs ≤ 176 → All (λ x. unsigned_abs x < 2 ^ 38) xs → energy xs ≤ 2 ^ 84
energy_most xs l h =
    let e : energy xs ≤ 176 * (2 ^ 38 * 2 ^ 38) = energy_within xs (2 ^ 38) l (All-weaker (λ x. unsigned_abs x < 2 ^ 38) (λ x. unsigned_abs x ≤ 2 ^ 38) (λ x p. omega (arith, p)) xs h) in
    omega (arith, e)

-- a part, rounded up
pub part_most : (e p : ℕ) → 1 ≤ p → (e + p - 1) / p ≤ e
part_most e p l =
    let m : e * 1 ≤ e * p = mul-le e 1 e p (omega arith) l in
    let q : (e + p - 1) / p < e + 1 = div_below (e + p - 1) p (e + 1) l (subst (λ n. e + p - 1 < n) (more e p) (below e p (e * p) m l)) in
    omega (arith, q)
  where
    below : (e p m : ℕ) → e * 1 ≤ m → 1 ≤ p → e + p - 1 < m + p
    below e p m h l = omega (arith, h, l)

    more : (e p : ℕ) → e * p + p ≡ (e + 1) * p
    more e p = omega arith

-- an item of a band with little energy
pub narrow_item : (xs : List ℤ) (i : ℕ) → i < length xs → energy xs < 2 ^ 62 → unsigned_abs (get_or xs i (pos 0)) < 2 ^ 31
narrow_item xs i l h =
    let x : ℕ = unsigned_abs (get_or xs i (pos 0)) in
    elim (cases_lt x (2 ^ 31)) [
      | inl a ↦ a
      | inr a ↦
          let s : 2 ^ 31 * 2 ^ 31 ≤ x * x = mul-le (2 ^ 31) (2 ^ 31) x x a a in
          let m : x * x ≤ energy xs = get_or-le-sum_by square xs i (pos 0) l in
          absurd (omega (arith, s, m, h))
    ]

-- the counts of the first n bands
pub record CountsTo (kind : Kind) (spectrum : List ℤ) (all small n : ℕ) : Type 0 where
  pub every : all ≡ over_bands length kind spectrum n
  pub faint : small ≡ over_bands small_in kind spectrum n
  pub most : all ≤ n * 176
  pub few : small ≤ all

pub counts_first : (kind : Kind) (spectrum : List ℤ) → CountsTo kind spectrum 0 0 0
unfolding over_bands
counts_first kind spectrum = record { every = refl; faint = refl; most = omega arith; few = omega arith }

-- one band more that has enough coefficients, and one that has not
pub counts_next : (kind : Kind) (spectrum band : List ℤ) (all small count faint n : ℕ) → 8 ≤ count → count ≡ size_of kind n → count ≤ 176 → band ≡ band_of kind spectrum n → length band ≡ count
    → faint ≡ small_in band → faint ≤ count → CountsTo kind spectrum all small n → CountsTo kind spectrum (all + count) (small + faint) (n + 1)
unfolding over_bands
counts_next kind spectrum band all small count faint n l ec m eb len ef f h =
    let next : suc n ≡ n + 1 = omega arith in
    let enough : nat_le 8 (size_of kind n) ≡ true = grind (arith, nat_tests, l, ec) in
    let one : (count_of : List ℤ → ℕ) → count_of band ≡ (if nat_le 8 (size_of kind n) then count_of (band_of kind spectrum n) else 0) = (λ count_of. ap count_of eb ∙ sym (ap (λ b. if b then count_of (band_of kind spectrum n) else 0) enough)) in
    record {
      every = (λ k. h.every k + (sym len ∙ one length) k) ∙ ap (over_bands length kind spectrum) next;
      faint = (λ k. h.faint k + (ef ∙ one small_in) k) ∙ ap (over_bands small_in kind spectrum) next;
      most = omega (arith, h.most, m);
      few = omega (arith, h.few, f);
    }

pub counts_pass : (kind : Kind) (spectrum : List ℤ) (all small count n : ℕ) → count < 8 → count ≡ size_of kind n → CountsTo kind spectrum all small n → CountsTo kind spectrum all small (n + 1)
unfolding over_bands
counts_pass kind spectrum all small count n l ec h =
    let next : suc n ≡ n + 1 = omega arith in
    let few : nat_le 8 (size_of kind n) ≡ false = grind (arith, nat_tests, l, ec) in
    let none : (count_of : List ℤ → ℕ) (s : ℕ) → s ≡ s + (if nat_le 8 (size_of kind n) then count_of (band_of kind spectrum n) else 0) = (λ count_of s. nothing s ∙ sym (ap (λ b. s + (if b then count_of (band_of kind spectrum n) else 0)) few)) in
    record {
      every = h.every ∙ none length (over_bands length kind spectrum n) ∙ ap (over_bands length kind spectrum) next;
      faint = h.faint ∙ none small_in (over_bands small_in kind spectrum n) ∙ ap (over_bands small_in kind spectrum) next;
      most = omega (arith, h.most);
      few = h.few;
    }
  where
    nothing : (s : ℕ) → s ≡ s + 0
    nothing s = omega arith

-- of no spectrum
pub counts_none : (kind : Kind) (xs : List ℤ) (count : List ℤ → ℕ) (n : ℕ) → xs ≡ [] → count [] ≡ 0 → 0 ≡ over_bands count kind xs n
unfolding over_bands
counts_none kind xs count zero e z = refl
counts_none kind xs count (suc n) e z = grown (over_bands count kind xs n) (counts_none kind xs count n e z) (nat_le 8 (size_of kind n)) (count (band_of kind xs n)) (ap count band ∙ z)
  where
    band : band_of kind xs n ≡ []
    band = ap (λ z. band_of kind z n) e ∙ (ap (take (size_of kind n)) (drop_all (start_of kind n) [] (omega arith)) ∙ take_all (size_of kind n) [] (omega arith))

    grown : (s : ℕ) → 0 ≡ s → (b : Bool) (c : ℕ) → c ≡ 0 → 0 ≡ s + (if b then c else 0)
    grown s es true c ec = omega (arith, es, ec)
    grown s es false c ec = omega (arith, es)
