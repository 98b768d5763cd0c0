-- The boosts and the trim of a frame are such that its fine energies have 8 bits at most.
use Rattle.std.proofs.Common.{◌≡◌, ℕ, zero, suc, ◌+◌, ◌-◌, ◌*◌, ◌^◌, ◌<◌, ◌≤◌, List, length, Bool, true, false, nat_lt, nat_le, if◌then◌else◌, inl, inr, refl, sym, ◌∙◌, subst, replicate, arith}
use Rattle.std.specs.Prelude.{ℤ, pos, negsuc, ◌-ℤ◌, ◌≤ℤ◌, slice_index, slice_index_or, slice_set, unsigned_abs}
use Rattle.std.proofs.lemmas.Bool.{cases_eq, false≢true}
use Rattle.std.proofs.lemmas.Int.{ints}
use Rattle.std.proofs.lemmas.List.{get_or-set_same, get_or-set_other, length-set, length-replicate}
use Rattle.band_plan.proofs.ShapeLaws.{gave}
use Rattle.bit_allocation.specs.Requests.{quantum_of, IsBoost, AreBoosts, IsTrim}
use Rattle.bit_allocation.specs.Scripts.{allocation_script}
use Rattle.bit_allocation.proofs.LawLemmas.{valid_law}
use Rattle.celt_base.proofs.Below.{all_below, at_each, less}
use Rattle.celt_base.proofs.BandEnds.{end_most}
use Rattle.celt_base.specs.declared.coder.Place.TheVariants.{Boost, Trim}
use Rattle.celt_base.specs.declared.kind.Kind.{Kind}
use Rattle.celt_base.specs.declared.question.Question.TheVariants.{Table}
use Rattle.celt_base.specs.declared.question.TableId.TheVariants.{Trim as TrimTable}
use Rattle.celt_base.specs.Paces.{tell_frac_of}
use Rattle.celt_base.specs.Questions.{IsAnswer}
use Rattle.celt_base.specs.WalkOrders.{MayGive}
use Rattle.celt_base.specs.WalkScripts.{Done, and_then, asks_at, asks_bit, asks_number}
use Rattle.celt_tables.specs.Tables.{width_of, coefficients_of, cap_of}
use Rattle.frame_symbols.specs.declared.boosts.Band.{Band}
use Rattle.frame_symbols.specs.declared.fields.Amounts.{Amounts}
use Rattle.frame_symbols.specs.declared.fields.Shaping.{Shaping}
use Rattle.frame_symbols.specs.Askings.{number_within_eighths}
use Rattle.frame_symbols.specs.Boosts.{band_of, may_boost, weight_of, taken_below, turn_script, turns_script, boosts_from, boosts_script, trim_script}
use Rattle.frame_symbols.specs.Frames.{amounts_by, amounts_script, rest_of, reserve_of}
use Rattle.frame_symbols.proofs.BoostSteps.{below_cap}

-- a band's boosts end by its cap
turn_below : (b : Band) (turn : ℕ) → MayGive (turn_script b turn) true → turn * b.quantum < b.cap
unfolding turn_script
turn_below b turn m = by_test (may_boost b turn (tell_frac_of m.0)) refl m.1
  where
    by_test : (t : Bool) → may_boost b turn (tell_frac_of m.0) ≡ t → MayGive (if t then asks_bit (Boost b.band turn) (weight_of b turn) else Done false) true → turn * b.quantum < b.cap
    by_test true e g = below_cap b turn (tell_frac_of m.0) e
    by_test false e g = absurd (false≢true (sym g))

turns_may : (b : Band) (left turn last : ℕ) → turn * b.quantum < b.cap + b.quantum → MayGive (turns_script b left turn) last → last * b.quantum < b.cap + b.quantum
unfolding turns_script
turns_may b zero turn last below m = subst (λ n. n * b.quantum < b.cap + b.quantum) (sym m) below
turns_may b (suc left) turn last below m =
    let g = gave (turn_script b turn) (λ more. if more then turns_script b left (turn + 1) else Done turn) last m in
    by_more (λ below. turns_may b left (turn + 1) last below) g.value g.first g.second
  where
    by_more : ((turn + 1) * b.quantum < b.cap + b.quantum → MayGive (turns_script b left (turn + 1)) last → last * b.quantum < b.cap + b.quantum)
        → (more : Bool) → MayGive (turn_script b turn) more → MayGive (if more then turns_script b left (turn + 1) else Done turn) last
        → last * b.quantum < b.cap + b.quantum
    by_more follow true asked rest =
        let h = turn_below b turn asked in
        let e : (turn + 1) * b.quantum ≡ turn * b.quantum + b.quantum = omega arith in
        follow (omega (arith, e, h)) rest
    by_more follow false asked rest = subst (λ n. n * b.quantum < b.cap + b.quantum) (sym rest) below

-- each band has some coefficients
unfoldable some_test : ℕ → Bool
some_test band = all_below (λ lm. all_below (λ more. nat_lt 0 (quantum_of ((more + 1) * (width_of band * 2 ^ lm)))) 2) 4

all_some : all_below some_test 21 ≡ true
unfolding some_test
all_some = refl

quantum_some : (kind : Kind) (band : ℕ) → band < 21 → 0 < quantum_of (coefficients_of kind band)
unfolding some_test
quantum_some kind band below =
    let most = kind.two_channels in
    let some = kind.some_channel in
    let sized = kind.sized in
    let e : (kind.channels - 1) + 1 ≡ kind.channels = omega (arith, some) in
    let t = at_each (λ more. nat_lt 0 (quantum_of ((more + 1) * (width_of band * 2 ^ kind.lm)))) 2 (kind.channels - 1)
    (at_each (λ lm. all_below (λ more. nat_lt 0 (quantum_of ((more + 1) * (width_of band * 2 ^ lm)))) 2) 4 kind.lm (at_each some_test 21 band all_some below) (omega (arith, sized)))
    (omega (arith, most, some)) in
    subst (λ n. 0 < quantum_of (n * (width_of band * 2 ^ kind.lm))) e (less 0 (quantum_of (((kind.channels - 1) + 1) * (width_of band * 2 ^ kind.lm))) t)

boost_is : (kind : Kind) (band boost : ℕ) → boost < cap_of kind.lm kind.channels band + quantum_of (coefficients_of kind band) → IsBoost kind band (pos boost)
boost_is kind band boost below = record { least = omega (arith, ints); most = omega (arith, ints, below) }

boosts_more : (kind : Kind) (boosts : List ℤ) (band boost : ℕ) → band < length boosts → IsBoost kind band (pos boost)
    → ((i : ℕ) → i < band → IsBoost kind i (slice_index_or boosts i (pos 0)))
    → (i : ℕ) → i < band + 1 → IsBoost kind i (slice_index_or (slice_set boosts band (pos boost)) i (pos 0))
boosts_more kind boosts band boost inside here are i below =
    elim (cases_eq i band) [
      | inl same ↦
          subst (λ n. IsBoost kind n (slice_index_or (slice_set boosts band (pos boost)) n (pos 0))) (sym same)
          (subst (λ z. IsBoost kind band z) (sym (get_or-set_same boosts band (pos boost) (pos 0) inside)) here)
      | inr apart ↦ subst (λ z. IsBoost kind i z) (sym (get_or-set_other boosts band i (pos boost) (pos 0) apart)) (are i (omega (arith, below, apart)))
    ]

boosts_may : (kind : Kind) (eighths left band : ℕ) (boosts last : List ℤ) → left + band ≡ kind.end → length boosts ≡ 21
    → ((i : ℕ) → i < band → IsBoost kind i (slice_index_or boosts i (pos 0)))
    → MayGive (boosts_from kind eighths left band boosts) last
    → AreBoosts kind last
unfolding boosts_from
boosts_may kind eighths zero band boosts last all room are m = subst (AreBoosts kind) (sym m) (λ i below. are i (omega (arith, all, below)))
boosts_may kind eighths (suc left) band boosts last all room are m =
    let quantum : ℕ = quantum_of (coefficients_of kind band) in
    let b : Band = band_of kind eighths boosts band in
    let e = end_most kind in
    let inside : band < 21 = omega (arith, all, e) in
    let g = gave (turns_script b 76 0) (λ turns. boosts_from kind eighths left (band + 1) (slice_set boosts band (pos (turns * quantum)))) last m in
    let some = quantum_some kind band inside in
    let below = turns_may b 76 0 g.value (omega (arith, some)) g.first in
    boosts_may kind eighths left (band + 1) (slice_set boosts band (pos (g.value * quantum))) last (omega (arith, all))
    (length-set boosts band (pos (g.value * quantum)) ∙ room)
    (boosts_more kind boosts band (g.value * quantum) (omega (arith, room, inside)) (boost_is kind band (g.value * quantum) below) are)
    g.second

pub all_boosts : (kind : Kind) (eighths : ℕ) (boosts : List ℤ) → MayGive (boosts_script kind eighths) boosts → AreBoosts kind boosts
unfolding boosts_script
all_boosts kind eighths boosts m =
    boosts_may kind eighths kind.end 0 (replicate 21 (pos 0)) boosts (omega arith) (length-replicate 21 (pos 0)) (λ i below. absurd (omega (arith, below))) m

pub trim_may : (eighths : ℕ) (boosts : List ℤ) (trim : ℕ) → MayGive (trim_script eighths boosts) trim → trim ≤ 10
unfolding trim_script number_within_eighths asks_number asks_at
trim_may eighths boosts trim m = by_test (nat_le (tell_frac_of m.0 + (48 + taken_below boosts 21)) eighths) m.1
  where
    by_answer : (answer : ℤ) → IsAnswer (Table TrimTable) answer → trim ≡ unsigned_abs answer → trim ≤ 10
    by_answer (pos n) below e = omega (arith, below, e)
    by_answer (negsuc n) below e = absurd below

    by_test : (b : Bool) → MayGive (if b then and_then (asks_at Trim (Table TrimTable)) (λ answer. Done (unsigned_abs answer)) else Done 5) trim → trim ≤ 10
    by_test true m = by_answer m.0 m.1 m.2
    by_test false m = omega (arith, m)

-- the bits of a fine energy
pub amounts_fine : (kind : Kind) (len : ℕ) (s : Shaping) (x : Amounts) → len ≤ 1275 → AreBoosts kind s.boosts → s.trim ≤ 10
    → MayGive (amounts_script kind len s) x
    → (band : ℕ) → band < kind.end → slice_index x.allocation.fine band ≤ 8
unfolding amounts_script amounts_by
amounts_fine kind len s x short boosts trim m band below =
    let rest : ℤ = rest_of len (tell_frac_of m.0) in
    let reserve : ℕ = reserve_of kind s.settings.transient rest in
    let g = gave (allocation_script kind (rest -ℤ pos reserve) s.boosts (pos s.trim)) (λ a. Done (record { allocation = a; reserve = reserve })) x m.1 in
    let most : (rest -ℤ pos reserve) ≤ℤ pos 81600 = omega (arith, ints, short) in
    let are : IsTrim (pos s.trim) = record { least = omega (arith, ints); most = omega (arith, ints, trim) } in
    let v = valid_law kind (rest -ℤ pos reserve) s.boosts (pos s.trim) g.value most boosts are g.first in
    subst (λ (y : Amounts). slice_index y.allocation.fine band ≤ 8) (sym g.second) (v.fine band below)
