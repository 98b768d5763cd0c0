-- What a band's split gives: no more than it had, pulses up to the greatest amount, at most 8 bits of fine energy.
use Rattle.std.proofs.Common.{◌≡◌, ◌≢◌, ℕ, ◌+◌, ◌-◌, ◌*◌, ◌/◌, ◌<◌, ◌≤◌, Bool, true, false, nat_le, nat_lt, nat_eq, if◌then◌else◌, ◌⊎◌, inl, inr, refl, sym, subst, arith}
use Rattle.std.specs.Prelude.{min}
use Rattle.std.proofs.lemmas.Bool.{cases_eq}
use Rattle.std.proofs.lemmas.Bool.Decides.{nat_tests}
use Rattle.std.proofs.lemmas.Nat.{mul-le}
use Rattle.std.proofs.Math.Nat.{div-mul-le_self}
use Rattle.bit_allocation.specs.declared.splitting.Split.{Split}
use Rattle.bit_allocation.specs.declared.stereo.Stereo.{Stereo}
use Rattle.bit_allocation.specs.Amounts.{bit_each}
use Rattle.bit_allocation.specs.Shares.{even_of, share_of, fine_of, wide_split, single_split, topped, split_of}
use Rattle.bit_allocation.proofs.CountLemmas.{rises_to}
use Rattle.celt_base.specs.declared.kind.Kind.{Kind}
use Rattle.celt_tables.proofs.Entries.{edges_rise}
use Rattle.celt_tables.specs.Tables.{edge_of, width_of, size_of}

-- the edges rise
pub edges_to : (j k : ℕ) → j ≤ k → k ≤ 21 → edge_of j ≤ edge_of k
edges_to j k low high =
    let e : j + (k - j) ≡ k = omega arith in
    subst (λ i. edge_of j ≤ edge_of i) e (rises_to edge_of 21 (λ i below. let r = edges_rise i below in omega (arith, r)) j (k - j) (omega arith))

pub width_within : (band coded : ℕ) → band < coded → coded ≤ 21 → width_of band ≤ edge_of coded
width_within band coded below inside = let e = edges_to (band + 1) coded (omega arith) inside in omega (arith, e)

-- a band's share of what is left is within it
pub even_within : (left coded band : ℕ) → band < coded → coded ≤ 21 → even_of left coded * width_of band + (left - even_of left coded * edge_of coded) ≤ left
even_within left coded band below inside =
    let w = width_within band coded below inside in
    let p = mul-le (left / edge_of coded) (width_of band) (left / edge_of coded) (edge_of coded) (omega arith) w in
    let q = div-mul-le_self left (edge_of coded) in
    omega (arith, p, q)

pub share_within : (bits left coded band : ℕ) → band < coded → coded ≤ 21 → share_of bits left coded band ≤ bits + left
unfolding share_of
share_within bits left coded band below inside = let e = even_within left coded band below inside in omega (arith, e)

-- fine energy
pub fine_then : (channels numbers raised b : ℕ) → b / 8 < channels * ((raised - 17 * numbers) / (8 * numbers)) → min (b / channels / 8) 8 ≡ fine_of channels numbers raised b
unfolding fine_of
fine_then channels numbers raised b over =
    let t : nat_lt (b / 8) (channels * ((raised - 17 * numbers) / (8 * numbers))) ≡ true = grind (arith, nat_tests) in rw t refl

pub fine_else : (channels numbers raised b : ℕ) → channels * ((raised - 17 * numbers) / (8 * numbers)) ≤ b / 8 → min ((raised - 17 * numbers) / (8 * numbers)) 8 ≡ fine_of channels numbers raised b
unfolding fine_of
fine_else channels numbers raised b fits =
    let t : nat_lt (b / 8) (channels * ((raised - 17 * numbers) / (8 * numbers))) ≡ false = grind (arith, nat_tests) in rw t refl

pub fine_most : (channels numbers raised b : ℕ) → fine_of channels numbers raised b ≤ 8
unfolding fine_of
fine_most channels numbers raised b = omega arith

fine_one : (fine b : ℕ) (test : Bool) → nat_lt (b / 8) (1 * fine) ≡ test → 8 * 1 * min (if test then b / 1 / 8 else fine) 8 ≤ b
fine_one fine b true t = omega arith
fine_one fine b false t = grind (arith, nat_tests)

fine_two : (fine b : ℕ) (test : Bool) → nat_lt (b / 8) (2 * fine) ≡ test → 8 * 2 * min (if test then b / 2 / 8 else fine) 8 ≤ b
fine_two fine b true t = omega arith
fine_two fine b false t = grind (arith, nat_tests)

pub one_or_two : (kind : Kind) → (kind.channels ≡ 1) ⊎ (kind.channels ≡ 2)
one_or_two kind = elim (cases_eq kind.channels 1) [
  | inl e ↦ inl e
  | inr ne ↦ let some = kind.some_channel in let two = kind.two_channels in inr (omega (arith, some, two, ne))
]

pub fine_within : (kind : Kind) (numbers raised b : ℕ) → bit_each kind * fine_of kind.channels numbers raised b ≤ b
unfolding fine_of
fine_within kind numbers raised b =
    let fine : ℕ = (raised - 17 * numbers) / (8 * numbers) in
    elim (one_or_two kind) [
      | inl e ↦ subst (λ n. 8 * n * min (if nat_lt (b / 8) (n * fine) then b / n / 8 else fine) 8 ≤ b) (sym e) (fine_one fine b (nat_lt (b / 8) (1 * fine)) refl)
      | inr e ↦ subst (λ n. 8 * n * min (if nat_lt (b / 8) (n * fine) then b / n / 8 else fine) 8 ≤ b) (sym e) (fine_two fine b (nat_lt (b / 8) (2 * fine)) refl)
    ]

-- ---- the records of the code, with what was computed for each part

abbrev pub single_with : ℕ → ℕ → Split
single_with kept over = record { pulses = kept; fine = 0; priority = true; balance = over }

abbrev pub wide_with : ℕ → ℕ → ℕ → ℕ → ℕ → ℕ → Split
wide_with bit kept numbers raised fine over = record {
  pulses = kept - bit * fine;
  fine = fine;
  priority = nat_le raised (8 * numbers * fine + 21 * numbers);
  balance = over;
}

abbrev pub topped_with : ℕ → ℕ → Split → ℕ → Split
topped_with bit before s more = record {
  pulses = s.pulses;
  fine = s.fine + more;
  priority = nat_le s.balance (bit * more + before);
  balance = s.balance - bit * more;
}

abbrev pub skipped_with : ℕ → ℕ → Split
skipped_with fine before = record { pulses = 0; fine = fine; priority = nat_lt fine 1; balance = before }

pub topped_none : (kind : Kind) (before : ℕ) (s : Split) → s.balance ≡ 0 → s ≡ topped kind before s
unfolding topped
topped_none kind before s e = let t : nat_eq s.balance 0 ≡ true = grind (arith, nat_tests) in rw t refl

pub topped_some : (kind : Kind) (before : ℕ) (s : Split) → s.balance ≢ 0
    → topped_with (bit_each kind) before s (min (s.balance / bit_each kind) (8 - s.fine)) ≡ topped kind before s
unfolding topped
topped_some kind before s ne = let t : nat_eq s.balance 0 ≡ false = grind (arith, nat_tests) in rw t refl

pub one_split : (kind : Kind) (t : Stereo) (band bits before : ℕ) → size_of kind band ≡ 1 → topped kind before (single_split kind (bits + before)) ≡ split_of kind t band bits before
unfolding split_of
one_split kind t band bits before e = let test : nat_eq (size_of kind band) 1 ≡ true = grind (arith, nat_tests) in rw test refl

pub many_split : (kind : Kind) (t : Stereo) (band bits before : ℕ) → size_of kind band ≢ 1 → topped kind before (wide_split kind t band (bits + before)) ≡ split_of kind t band bits before
unfolding split_of
many_split kind t band bits before ne = let test : nat_eq (size_of kind band) 1 ≡ false = grind (arith, nat_tests) in rw test refl
