-- The vectors of the bands in a frame's rows, and the bounds of what is wanted.
use Rattle.std.proofs.Common.{◌≡◌, ◌⊎◌, ℕ, zero, suc, ◌+◌, ◌-◌, ◌*◌, ◌^◌, ◌<◌, ◌≤◌, refl, sym, ap, subst, inl, inr, arith, ◌∙◌, List, [], ◌∷◌, ◌++◌, length, take, drop, get_or, Bool, true, false, if◌then◌else◌, nat_lt, nat_eq}
use Rattle.std.specs.Prelude.{ℤ, pos, ◌-ℤ◌, ◌≤ℤ◌, unsigned_abs, All, map, nat_le, replicate}
use Rattle.std.proofs.lemmas.Int.{ints}
use Rattle.std.proofs.lemmas.Nat.{mul-le}
use Rattle.std.proofs.lemmas.Bool.{cases_lt, and_parts}
use Rattle.std.proofs.lemmas.Bool.Decides.{nat_tests}
use Rattle.std.proofs.lemmas.List.{append_assoc, take_at, drop_at, length-take, length-drop, length-append, length-map, get_or_past}
use Rattle.std.proofs.lemmas.List.Elements.{All-take, All-drop, All-weaker, All-map}
use Rattle.std.proofs.lemmas.List.FromFn.{get_or-map-range_with_len, length-map-range_with_len}
use Rattle.std.proofs.Math.Nat.{zero-div}
use Rattle.std.specs.List.{range_with_len}
use mathlib.Core.Bool.{true≢false}
use Rattle.celt_base.specs.declared.kind.Kind.{Kind}
use Rattle.celt_base.proofs.BandEnds.{end_most}
use Rattle.celt_base.proofs.Below.{at_each, at_most, less}
use Rattle.celt_tables.specs.Tables.{edge_of, size_of}
use Rattle.fixed_math.specs.Items.{item}
use Rattle.fixed_math.specs.Unit.{energy, norm, over, unit_of}
use Rattle.fixed_math.proofs.UnitLemmas.{energy_wide, unit_size, unit-zero, zeros_from_energy}
use Rattle.celt_analysis.specs.Analyses.{Analysis, spectrum_of}
use Rattle.celt_analysis.specs.Signals.{frame_size}
use Rattle.celt_encode.specs.Listening.{settled, stands_out}
use Rattle.celt_encode.specs.Outsets.{Outset}
use Rattle.celt_encode.specs.Spreads.{spread_by}
use Rattle.celt_encode.specs.Units.{start_of, band_of, units_below, unit_row, units_for}
use Rattle.celt_encode.specs.Vectors.{part_of, unit_in}
use Rattle.celt_encode.proofs.ListeningLemmas.{within_two, within-size}
use Rattle.celt_encode.proofs.UnitLemmas.{start_next, band_room}

-- ---- where the vectors stand

pub unit-length : (g : ℤ) (xs : List ℤ) → length (unit_of g xs) ≡ length xs
unfolding unit_of
unit-length g xs = by_test (nat_eq (energy xs) 0)
  where
    by_test : (b : Bool) → length (if b then map (λ x. pos 0) xs else map (over g (norm xs)) xs) ≡ length xs
    by_test true = length-map xs (λ x. pos 0)
    by_test false = length-map xs (over g (norm xs))

-- a whole spectrum has every band
whole : (kind : Kind) (xs : List ℤ) (b : ℕ) → b < 21 → length xs ≡ frame_size kind → length (band_of kind xs b) ≡ size_of kind b
whole kind xs b l e =
    let ends : start_of kind b + size_of kind b ≤ 120 * 2 ^ kind.lm =
    subst (λ n. n ≤ 120 * 2 ^ kind.lm) (sym (start_next kind b l)) (mul-le (edge_of (b + 1)) (2 ^ kind.lm) 120 (2 ^ kind.lm) (omega (arith, at_most _ _ (at_each (λ k. nat_le (edge_of (k + 1)) 100) 21 b refl l))) (omega arith)) in
    length-take (size_of kind b) (drop (start_of kind b) xs) ∙ omega (arith, length-drop (start_of kind b) xs, e, ends)

below-length : (kind : Kind) (xs : List ℤ) (n : ℕ) → n ≤ 21 → length xs ≡ frame_size kind → length (units_below kind xs n) ≡ start_of kind n
unfolding units_below
below-length kind xs zero l e = omega arith
below-length kind xs (suc n) l e =
    let one : n + 1 ≡ suc n = omega arith in
    length-append (units_below kind xs n) (unit_of (pos 32768) (band_of kind xs n))
    ∙ (λ k. below-length kind xs n (omega (arith, l)) e k + (unit-length (pos 32768) (band_of kind xs n) ∙ whole kind xs n (omega (arith, l)) e) k)
    ∙ start_next kind n (omega (arith, l)) ∙ ap (start_of kind) one

pub part_is : (kind : Kind) (xs ys : List ℤ) (n b : ℕ) → b < n → n ≤ 21 → length xs ≡ frame_size kind → part_of (units_below kind xs n ++ ys) (start_of kind b) (size_of kind b) ≡ unit_of (pos 32768) (band_of kind xs b)
unfolding units_below
part_is kind xs ys zero b l m e = absurd (omega (arith, l))
part_is kind xs ys (suc n) b l m e =
    ap (λ zs. part_of zs (start_of kind b) (size_of kind b)) (append_assoc (units_below kind xs n) (unit_of (pos 32768) (band_of kind xs n)) ys)
    ∙ by_place (cases_lt b n) (λ q. part_is kind xs (unit_of (pos 32768) (band_of kind xs n) ++ ys) n b q (omega (arith, m)) e)
  where
    front : List ℤ
    front = units_below kind xs n

    here : List ℤ
    here = unit_of (pos 32768) (band_of kind xs n)

    last : part_of (front ++ (here ++ ys)) (start_of kind n) (size_of kind n) ≡ here
    last =
        ap (take (size_of kind n)) (drop_at front (here ++ ys) (start_of kind n) (below-length kind xs n (omega (arith, m)) e))
        ∙ take_at here ys (size_of kind n) (unit-length (pos 32768) (band_of kind xs n) ∙ whole kind xs n (omega (arith, m)) e)

    by_place : (b < n) ⊎ (n ≤ b) → (b < n → part_of (front ++ (here ++ ys)) (start_of kind b) (size_of kind b) ≡ unit_of (pos 32768) (band_of kind xs b))
        → part_of (front ++ (here ++ ys)) (start_of kind b) (size_of kind b) ≡ unit_of (pos 32768) (band_of kind xs b)
    by_place (inl q) before = before q
    by_place (inr q) before =
        let same : n ≡ b = omega (arith, q, l) in
        subst (λ k. part_of (front ++ (here ++ ys)) (start_of kind k) (size_of kind k) ≡ unit_of (pos 32768) (band_of kind xs k)) same last

-- ---- what stands there

pub unit_small : (xs : List ℤ) → length xs ≤ 176 → All (λ x. unsigned_abs x < 2 ^ 38) xs → All (λ x. unsigned_abs x ≤ 2 ^ 14) (unit_of (pos 32768) xs)
unit_small xs l h = by_energy (cases_lt 0 (energy xs))
  where
    wide : energy xs < 2 ^ 88
    wide = energy_wide xs l (All-weaker (λ x. unsigned_abs x < 2 ^ 38) (λ x. unsigned_abs x < 2 ^ 40) (λ x p. omega (arith, p)) xs h)

    by_energy : (0 < energy xs) ⊎ (energy xs ≤ 0) → All (λ x. unsigned_abs x ≤ 2 ^ 14) (unit_of (pos 32768) xs)
    by_energy (inl some) = All-weaker (λ y. 2 * unsigned_abs y ≤ 32768) (λ x. unsigned_abs x ≤ 2 ^ 14) (λ x p. omega (arith, p)) (unit_of (pos 32768) xs) (unit_size (pos 32768) xs (omega (arith, ints)) some wide)
    by_energy (inr none) =
        let e : energy xs ≡ 0 = omega (arith, none) in
        subst (All (λ x. unsigned_abs x ≤ 2 ^ 14)) (sym (zeros_from_energy xs e) ∙ unit-zero (pos 32768) xs e) (All-map (λ x. unsigned_abs x ≤ 2 ^ 14) (λ x. pos 0) xs (λ k d q. omega arith))

pub item-map : (f : ℤ → ℤ) (xs : List ℤ) (p : ℕ) → f (pos 0) ≡ pos 0 → item (map f xs) p ≡ f (item xs p)
item-map f [] p z = sym z
item-map f (x ∷ xs) zero z = refl
item-map f (x ∷ xs) (suc p) z = item-map f xs p z

pub unit_zero : (xs : List ℤ) (p : ℕ) → item xs p ≡ pos 0 → item (unit_of (pos 32768) xs) p ≡ pos 0
unfolding unit_of
unit_zero xs p e = by_test (nat_eq (energy xs) 0)
  where
    none : over (pos 32768) (norm xs) (pos 0) ≡ pos 0
    none = ap pos (zero-div (norm xs))

    by_test : (b : Bool) → item (if b then map (λ x. pos 0) xs else map (over (pos 32768) (norm xs)) xs) p ≡ pos 0
    by_test true = item-map (λ x. pos 0) xs p refl
    by_test false = item-map (over (pos 32768) (norm xs)) xs p none ∙ ap (over (pos 32768) (norm xs)) e ∙ none

-- the vector of a band that is coded
pub unit_found : (f : Outset) (a : Analysis) (c b : ℕ) → c < 2 → b < f.kind.end → length (spectrum_of a c) ≡ frame_size f.kind → unit_in (settled f a) c b ≡ unit_of (pos 32768) (band_of f.kind (spectrum_of a c) b)
unfolding unit_in units_for unit_row
unit_found f a zero b two l e =
    let few : f.kind.end ≤ 21 = end_most f.kind in
    let inside : nat_lt b 21 ≡ true = grind (arith, nat_tests, l, few) in
    ap (λ t. if t then part_of (unit_row f.kind a.left) (start_of f.kind b) (size_of f.kind b) else []) inside
    ∙ part_is f.kind a.left (replicate (800 - length (units_below f.kind a.left f.kind.end)) (pos 0)) f.kind.end b l few e
unit_found f a (suc zero) b two l e =
    let few : f.kind.end ≤ 21 = end_most f.kind in
    let inside : nat_lt b 21 ≡ true = grind (arith, nat_tests, l, few) in
    ap (λ t. if t then part_of (unit_row f.kind a.right) (start_of f.kind b) (size_of f.kind b) else []) inside
    ∙ part_is f.kind a.right (replicate (800 - length (units_below f.kind a.right f.kind.end)) (pos 0)) f.kind.end b l few e
unit_found f a (suc (suc c)) b two l e = absurd (omega (arith, two))

pub band_small : (kind : Kind) (xs : List ℤ) (b : ℕ) → b < 21 → All (λ x. unsigned_abs x < 2 ^ 38) xs → All (λ x. unsigned_abs x ≤ 2 ^ 14) (unit_of (pos 32768) (band_of kind xs b))
band_small kind xs b l h =
    let room : size_of kind b ≤ 176 = (band_room kind b l).count in
    unit_small (band_of kind xs b) (omega (arith, length-take (size_of kind b) (drop (start_of kind b) xs), room))
    (All-take (λ x. unsigned_abs x < 2 ^ 38) (size_of kind b) (drop (start_of kind b) xs) (All-drop (λ x. unsigned_abs x < 2 ^ 38) (start_of kind b) xs h))

-- ---- answers that are wanted

pub spread_most : (all small : ℕ) → spread_by all small ≤ 3
unfolding spread_by
spread_most all small = grind (arith, nat_tests)

pub within-least : (q : ℤ) → pos 3 ≤ℤ (pos 5 -ℤ within_two q)
within-least q = let s : unsigned_abs (within_two q) ≤ 2 = within-size q in least (within_two q) s
  where
    least : (z : ℤ) → unsigned_abs z ≤ 2 → pos 3 ≤ℤ (pos 5 -ℤ z)
    least z h = omega (arith, ints, h)

pub within-most : (q : ℤ) → (pos 5 -ℤ within_two q) ≤ℤ pos 7
within-most q = let s : unsigned_abs (within_two q) ≤ 2 = within-size q in most (within_two q) s
  where
    most : (z : ℤ) → unsigned_abs z ≤ 2 → (pos 5 -ℤ z) ≤ℤ pos 7
    most z h = omega (arith, ints, h)

-- a band that stands out is between others
pub between : (end : ℕ) (h : ℕ → ℤ) (b : ℕ) → get_or (map (stands_out end h) (range_with_len 0 21)) b false ≡ true → (0 < b) × (b + 1 < end)
unfolding stands_out
between end h b e = elim (cases_lt b 21) [
  | inl l ↦
      let o : stands_out end h b ≡ true = sym (get_or-map-range_with_len (stands_out end h) 0 21 b b false l (omega arith)) ∙ e in
      let p = and_parts (nat_lt 0 b) _ o in
      let q = and_parts (nat_lt b (end - 1)) _ p.1 in
      let low : 0 < b = less 0 b p.0 in
      let high : b < end - 1 = less b (end - 1) q.0 in
      (low, omega (arith, high))
  | inr l ↦
      let long : length (map (stands_out end h) (range_with_len 0 21)) ≡ 21 = length-map-range_with_len (stands_out end h) 0 21 in
      absurd (true≢false (sym e ∙ get_or_past (map (stands_out end h) (range_with_len 0 21)) b false (omega (arith, long, l))))
]
