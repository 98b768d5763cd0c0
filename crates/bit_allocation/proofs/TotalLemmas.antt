-- What an allocation gives is no more than the total.
use Rattle.std.proofs.Common.{◌≡◌, ℕ, zero, suc, ◌+◌, ◌-◌, ◌*◌, ◌/◌, ◌<◌, ◌≤◌, Bool, true, false, nat_le, nat_lt, nat_eq, if◌then◌else◌, inl, inr, refl, sym, ◌∙◌, ap, subst, arith}
use Rattle.std.specs.Prelude.{min, slice_index}
use Rattle.std.proofs.lemmas.Bool.{cases_eq, cases_lt}
use Rattle.std.proofs.lemmas.Bool.Decides.{nat_tests}
use Rattle.std.proofs.lemmas.Nat.{mul-le}
use Rattle.std.proofs.Math.Nat.{div-mul-le_self}
use Rattle.bit_allocation.specs.declared.plan.Plan.{Plan}
use Rattle.bit_allocation.specs.declared.splitting.Split.{Split}
use Rattle.bit_allocation.specs.declared.stereo.Stereo.{Stereo}
use Rattle.bit_allocation.specs.declared.turns.Skipped.{Skipped}
use Rattle.bit_allocation.specs.Amounts.{bit_each, most_of}
use Rattle.bit_allocation.specs.Counts.{sum_below}
use Rattle.bit_allocation.specs.Facts.{IsSkipped, whole_of}
use Rattle.bit_allocation.specs.Shares.{even_of, beyond_of, share_of, numbers_of, raised_bits, wide_split, single_split, topped, split_of, skipped_split, left_after, band_split, balance_of, split_at}
use Rattle.bit_allocation.specs.Totals.{shared_of, taken_of}
use Rattle.bit_allocation.proofs.AmountLemmas.{most_of_least}
use Rattle.celt_base.proofs.BandEnds.{end_most}
use Rattle.bit_allocation.proofs.CountLemmas.{sum_same, sum_next, sum_start, rises_to, below_end, from_end}
use Rattle.bit_allocation.proofs.SplitLemmas.{one_or_two, fine_within, fine_most, edges_to, one_split, many_split}
use Rattle.celt_base.specs.declared.kind.Kind.{Kind}
use Rattle.celt_tables.proofs.Entries.{edges_rise}
use Rattle.celt_tables.specs.Tables.{edge_of, width_of, size_of}

-- what a split gives to pulses and fine energy and leaves over
abbrev pub given : Kind → Split → ℕ
given kind s = s.pulses + bit_each kind * s.fine + s.balance

topped_one : (pulses fine balance more : ℕ) → more ≤ balance / (8 * 1) → pulses + 8 * 1 * (fine + more) + (balance - 8 * 1 * more) ≡ pulses + 8 * 1 * fine + balance
topped_one pulses fine balance more few = omega (arith, few)

topped_two : (pulses fine balance more : ℕ) → more ≤ balance / (8 * 2) → pulses + 8 * 2 * (fine + more) + (balance - 8 * 2 * more) ≡ pulses + 8 * 2 * fine + balance
topped_two pulses fine balance more few = omega (arith, few)

topped_more : (kind : Kind) (pulses fine balance more : ℕ) → more ≤ balance / bit_each kind
    → pulses + bit_each kind * (fine + more) + (balance - bit_each kind * more) ≡ pulses + bit_each kind * fine + balance
topped_more kind pulses fine balance more few = elim (one_or_two kind) [
  | inl e ↦
      subst (λ n. pulses + 8 * n * (fine + more) + (balance - 8 * n * more) ≡ pulses + 8 * n * fine + balance) (sym e)
      (topped_one pulses fine balance more (subst (λ n. more ≤ balance / (8 * n)) e few))
  | inr e ↦
      subst (λ n. pulses + 8 * n * (fine + more) + (balance - 8 * n * more) ≡ pulses + 8 * n * fine + balance) (sym e)
      (topped_two pulses fine balance more (subst (λ n. more ≤ balance / (8 * n)) e few))
]

-- what holds of a split of so many bits
pub record IsSplit (kind : Kind) (most bits : ℕ) (s : Split) : Type 0 where
  pub all : given kind s ≡ bits
  pub pulses : s.pulses ≤ most
  pub fine : s.fine ≤ 8

topped_is : (kind : Kind) (most bits before : ℕ) (s : Split) → IsSplit kind most bits s → IsSplit kind most bits (topped kind before s)
unfolding topped
topped_is kind most bits before s is = by_test (nat_eq s.balance 0)
  where
    by_test : (b : Bool) → IsSplit kind most bits (if b then s else record {
      pulses = s.pulses;
      fine = s.fine + min (s.balance / bit_each kind) (8 - s.fine);
      priority = nat_le s.balance (bit_each kind * min (s.balance / bit_each kind) (8 - s.fine) + before);
      balance = s.balance - bit_each kind * min (s.balance / bit_each kind) (8 - s.fine);
    })
    by_test true = is
    by_test false = record {
      all = topped_more kind s.pulses s.fine s.balance (min (s.balance / bit_each kind) (8 - s.fine)) (omega arith) ∙ is.all;
      pulses = is.pulses;
      fine = let f = is.fine in omega (arith, f);
    }

wide_is : (kind : Kind) (t : Stereo) (band bits : ℕ) → IsSplit kind (most_of kind band) bits (wide_split kind t band bits)
unfolding wide_split
wide_is kind t band bits =
    let b : ℕ = min bits (most_of kind band) in
    let numbers : ℕ = numbers_of kind t band in
    let raised : ℕ = raised_bits kind numbers band b in
    let w = fine_within kind numbers raised b in
    record {
      all = omega (arith, w);
      pulses = omega arith;
      fine = fine_most kind.channels numbers raised b;
    }

single_is : (kind : Kind) (band bits : ℕ) → band < 21 → IsSplit kind (most_of kind band) bits (single_split kind bits)
unfolding single_split
single_is kind band bits inside =
    let m = most_of_least kind band inside in
    record {
      all = omega arith;
      pulses = omega (arith, m);
      fine = omega arith;
    }

pub split_is : (kind : Kind) (t : Stereo) (band bits before : ℕ) → band < 21 → IsSplit kind (most_of kind band) (bits + before) (split_of kind t band bits before)
split_is kind t band bits before inside = elim (cases_eq (size_of kind band) 1) [
  | inl e ↦ subst (IsSplit kind (most_of kind band) (bits + before)) (one_split kind t band bits before e) (topped_is kind (most_of kind band) (bits + before) before (single_split kind (bits + before)) (single_is kind band (bits + before) inside))
  | inr ne ↦ subst (IsSplit kind (most_of kind band) (bits + before)) (many_split kind t band bits before ne) (topped_is kind (most_of kind band) (bits + before) before (wide_split kind t band (bits + before)) (wide_is kind t band (bits + before)))
]

-- ---- the shares of what is left

mul_over : (a b c d : ℕ) → d ≡ b + c → a * d ≡ a * b + a * c
mul_over zero b c d e = omega arith
mul_over (suc a) b c d e = let i = mul_over a b c d e in omega (arith, i, e)

abbrev pub extra_of : ℕ → ℕ → ℕ → ℕ
extra_of left coded band = even_of left coded * width_of band + min (beyond_of left coded band) (width_of band)

extra_step : (q r s low wide high : ℕ) → s ≡ q * low + min r low → high ≡ low + wide → s + (q * wide + min (r - low) wide) ≡ q * high + min r high
extra_step q r s low wide high before next = let m = mul_over q low wide high next in omega (arith, before, next, m)

next_edge : (n : ℕ) → n < 21 → edge_of (suc n) ≡ edge_of n + width_of n
next_edge n inside =
    let rise = edges_rise n inside in
    let same : edge_of (n + 1) ≡ edge_of (suc n) = ap edge_of (add_one n) in
    omega (arith, rise, same)
  where
    add_one : (n : ℕ) → n + 1 ≡ suc n
    add_one n = omega arith

extra_sum : (left coded n : ℕ) → n ≤ 21
    → sum_below (extra_of left coded) n ≡ even_of left coded * edge_of n + min (left - even_of left coded * edge_of coded) (edge_of n)
unfolding sum_below
extra_sum left coded zero inside = omega arith
extra_sum left coded (suc n) inside =
    extra_step (even_of left coded) (left - even_of left coded * edge_of coded) (sum_below (extra_of left coded) n) (edge_of n) (width_of n) (edge_of (suc n))
    (extra_sum left coded n (omega (arith, inside))) (next_edge n (omega (arith, inside)))

-- the shares of the bands below a coded one are within what is left
extra_within : (left coded n : ℕ) → n ≤ coded → coded ≤ 21 → sum_below (extra_of left coded) n ≤ left
extra_within left coded n below inside =
    let s = extra_sum left coded n (omega (arith, below, inside)) in
    let p = mul-le (even_of left coded) (edge_of n) (even_of left coded) (edge_of coded) (omega arith) (edges_to n coded below inside) in
    let q = div-mul-le_self left (edge_of coded) in
    bounded left (even_of left coded * edge_of n) (even_of left coded * edge_of coded) (edge_of n) (sum_below (extra_of left coded) n) s p q
  where
    bounded : (left low high edge s : ℕ) → s ≡ low + min (left - high) edge → low ≤ high → high ≤ left → s ≤ left
    bounded left low high edge s e p q = omega (arith, e, p, q)

-- a sum that stops at a band
cut_low : (f : ℕ → ℕ) (coded n : ℕ) → n ≤ coded → sum_below (λ b. if nat_lt b coded then f b else 0) n ≡ sum_below f n
cut_low f coded n below = sum_same (λ b. if nat_lt b coded then f b else 0) f n (λ b inside. below_end b coded (f b) 0 (omega (arith, inside, below)))

cut_high : (f : ℕ → ℕ) (coded n : ℕ) → coded ≤ n → sum_below (λ b. if nat_lt b coded then f b else 0) n ≡ sum_below f coded
unfolding sum_below
cut_high f coded zero above = let e : 0 ≡ coded = omega (arith, above) in cut_low f coded zero (omega arith) ∙ ap (sum_below f) e
cut_high f coded (suc n) above = elim (cases_eq coded (suc n)) [
  | inl e ↦ cut_low f coded (suc n) (omega (arith, e)) ∙ ap (sum_below f) (sym e)
  | inr ne ↦
      let low = cut_high f coded n (omega (arith, above, ne)) in
      let z : (if nat_lt n coded then f n else 0) ≡ 0 = from_end n coded (f n) 0 (omega (arith, above, ne)) in
      omega (arith, low, z)
]

cut_within : (left coded n : ℕ) → coded ≤ 21 → sum_below (λ b. if nat_lt b coded then extra_of left coded b else 0) n ≤ left
cut_within left coded n inside = elim (cases_lt coded n) [
  | inl above ↦ let e = cut_high (extra_of left coded) coded n (omega (arith, above)) in let w = extra_within left coded coded (omega arith) inside in omega (arith, e, w)
  | inr below ↦ let e = cut_low (extra_of left coded) coded n below in let w = extra_within left coded n below inside in omega (arith, e, w)
]

-- sums of sums, and of a list that ends
sum_plus : (f g h : ℕ → ℕ) (n : ℕ) → ((b : ℕ) → h b ≡ f b + g b) → sum_below h n ≡ sum_below f n + sum_below g n
unfolding sum_below
sum_plus f g h zero plus = refl
sum_plus f g h (suc n) plus = let i = sum_plus f g h n plus in let e = plus n in omega (arith, i, e)

sum_step : (f : ℕ → ℕ) (n : ℕ) → sum_below f n ≤ sum_below f (n + 1)
sum_step f n = let e = sum_next f (n + 1) n (omega arith) in omega (arith, e)

sum_to : (f : ℕ → ℕ) (m n : ℕ) → ((b : ℕ) → m ≤ b → f b ≡ 0) → sum_below f n ≤ sum_below f m
sum_to f m zero none = let z = sum_start f in omega (arith, z)
sum_to f m (suc n) none = elim (cases_lt n m) [
  | inl below ↦
      let e : suc n + (m - suc n) ≡ m = omega (arith, below) in
      subst (λ k. sum_below f (suc n) ≤ sum_below f k) e (rises_to (sum_below f) m (λ k inside. sum_step f k) (suc n) (m - suc n) (omega (arith, below)))
  | inr past ↦
      let low = sum_to f m n none in
      let z = none n past in
      let e = sum_next f (suc n) n refl in
      omega (arith, low, z, e)
]

-- ---- what the bands have, and what they give

abbrev pub got_of : Plan → Skipped → Stereo → ℕ → ℕ
got_of p s t band =
    if nat_lt band s.coded then share_of (slice_index s.bits band) (left_after p s t) s.coded band else slice_index s.bits band

got_is : (p : Plan) (s : Skipped) (t : Stereo) (band : ℕ)
    → got_of p s t band ≡ slice_index s.bits band + (if nat_lt band s.coded then extra_of (left_after p s t) s.coded band else 0)
unfolding share_of
got_is p s t band = by_test (nat_lt band s.coded)
  where
    by_test : (b : Bool)
        → (if b then slice_index s.bits band + even_of (left_after p s t) s.coded * width_of band + min (beyond_of (left_after p s t) s.coded band) (width_of band) else slice_index s.bits band)
        ≡ slice_index s.bits band + (if b then extra_of (left_after p s t) s.coded band else 0)
    by_test true = omega arith
    by_test false = omega arith

pub left_whole : (p : Plan) (s : Skipped) (t : Stereo) → IsSkipped p s → sum_below (slice_index s.bits) p.kind.end + left_after p s t ≤ whole_of p.reserves
left_whole p s t is = let f = is.fits in let b = back (nat_eq t.intensity 0) in omega (arith, f, b)
  where
    back : (b : Bool) → (if b then p.reserves.dual else 0) ≤ p.reserves.dual
    back true = omega arith
    back false = omega arith

got_within : (p : Plan) (s : Skipped) (t : Stereo) (n : ℕ) → IsSkipped p s → sum_below (got_of p s t) n ≤ whole_of p.reserves
got_within p s t n is =
    let end = end_most p.kind in
    let most = is.most in
    let e = sum_plus (slice_index s.bits) (λ b. if nat_lt b s.coded then extra_of (left_after p s t) s.coded b else 0) (got_of p s t) n (got_is p s t) in
    let bits = sum_to (slice_index s.bits) p.kind.end n is.beyond in
    let cut = cut_within (left_after p s t) s.coded n (omega (arith, most, end)) in
    let whole = left_whole p s t is in
    omega (arith, e, bits, cut, whole)

-- what holds of the split of each band
pub record IsBand (kind : Kind) (most got : ℕ) (s : Split) : Type 0 where
  pub all : given kind s ≤ got
  pub pulses : s.pulses ≤ most
  pub fine : s.fine ≤ 8

skipped_one : (bits : ℕ) → 8 * 1 * (bits / (8 * 1)) ≤ bits
skipped_one bits = omega arith

skipped_two : (bits : ℕ) → 8 * 2 * (bits / (8 * 2)) ≤ bits
skipped_two bits = omega arith

skipped_few : (kind : Kind) (bits : ℕ) → bits ≤ 16 → (bit_each kind * (bits / bit_each kind) ≤ bits) × (bits / bit_each kind ≤ 8)
skipped_few kind bits few = elim (one_or_two kind) [
  | inl e ↦ subst (λ n. (8 * n * (bits / (8 * n)) ≤ bits) × (bits / (8 * n) ≤ 8)) (sym e) (skipped_one bits, omega (arith, few))
  | inr e ↦ subst (λ n. (8 * n * (bits / (8 * n)) ≤ bits) × (bits / (8 * n) ≤ 8)) (sym e) (skipped_two bits, omega (arith, few))
]

skipped_is : (kind : Kind) (most bits before : ℕ) → bits ≤ 16 → IsBand kind most (bits + before) (skipped_split kind bits before)
unfolding skipped_split
skipped_is kind most bits before few =
    let f = skipped_few kind bits few in
    let w = f.0 in
    record { all = omega (arith, w); pulses = omega arith; fine = f.1 }

pub band_is : (p : Plan) (s : Skipped) (t : Stereo) (band before : ℕ) → band < 21 → IsSkipped p s
    → IsBand p.kind (most_of p.kind band) (got_of p s t band + before) (band_split p s t band before)
unfolding band_split
band_is p s t band before inside is = by_test (nat_lt band s.coded) refl
  where
    share : ℕ
    share = share_of (slice_index s.bits band) (left_after p s t) s.coded band

    by_test : (b : Bool) → nat_lt band s.coded ≡ b
        → IsBand p.kind (most_of p.kind band) ((if b then share_of (slice_index s.bits band) (left_after p s t) s.coded band else slice_index s.bits band) + before)
        (if b then split_of p.kind t band (share_of (slice_index s.bits band) (left_after p s t) s.coded band) before else skipped_split p.kind (slice_index s.bits band) before)
    by_test true e =
        let i = split_is p.kind t band (share_of (slice_index s.bits band) (left_after p s t) s.coded band) before inside in
        let a = i.all in
        record { all = omega (arith, a); pulses = i.pulses; fine = i.fine }
    by_test false e =
        let high : s.coded ≤ band = grind (arith, nat_tests) in
        skipped_is p.kind (most_of p.kind band) (slice_index s.bits band) before (is.few band high)

totals : (p : Plan) (s : Skipped) (t : Stereo) (n : ℕ) → n ≤ 21 → IsSkipped p s
    → sum_below (taken_of p s t) n + balance_of p s t n ≤ sum_below (got_of p s t) n
unfolding sum_below balance_of split_at
totals p s t zero inside is = omega arith
totals p s t (suc n) inside is =
    let i = totals p s t n (omega (arith, inside)) is in
    let b = (band_is p s t n (balance_of p s t n) (omega (arith, inside)) is).all in
    omega (arith, i, b)

pub total_within : (p : Plan) (s : Skipped) (t : Stereo) (n : ℕ) → n ≤ 21 → IsSkipped p s
    → sum_below (taken_of p s t) n + balance_of p s t n ≤ whole_of p.reserves
total_within p s t n inside is = let a = totals p s t n inside is in let b = got_within p s t n is in omega (arith, a, b)

-- below the end of the coded bands nothing is lost
coded_all : (p : Plan) (s : Skipped) (t : Stereo) (band before : ℕ) → band < 21 → band < s.coded
    → given p.kind (band_split p s t band before) ≡ shared_of p s t band + before
unfolding band_split
coded_all p s t band before inside below =
    ap (given p.kind) (below_end band s.coded (split_of p.kind t band (shared_of p s t band) before) (skipped_split p.kind (slice_index s.bits band) before) below)
    ∙ (split_is p.kind t band (shared_of p s t band) before inside).all

pub balance_all : (p : Plan) (s : Skipped) (t : Stereo) (n : ℕ) → n ≤ s.coded → s.coded ≤ 21
    → sum_below (taken_of p s t) n + balance_of p s t n ≡ sum_below (shared_of p s t) n
unfolding sum_below balance_of split_at
balance_all p s t zero inside most = refl
balance_all p s t (suc n) inside most =
    let i = balance_all p s t n (omega (arith, inside)) most in
    let b = coded_all p s t n (balance_of p s t n) (omega (arith, inside, most)) (omega (arith, inside)) in
    omega (arith, i, b)
