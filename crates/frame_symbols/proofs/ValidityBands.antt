-- Each question of the bands is valid.
use Rattle.std.proofs.Common.{◌≡◌, ◌≢◌, ℕ, zero, suc, ◌+◌, ◌/◌, ◌<◌, ◌≤◌, Bool, true, false, not, ◌&&◌, List, [], refl, sym, subst, arith, nat_eq, nat_le, nat_lt, if◌then◌else◌}
use Rattle.std.specs.Prelude.{ℤ, pos, ◌-ℤ◌, int_le, int_lt, min}
use Rattle.std.proofs.lemmas.Bool.Decides.{nat_tests}
use Rattle.band_plan.specs.declared.channels.Band.{Band}
use Rattle.band_plan.specs.declared.orders.Order.{Order}
use Rattle.band_plan.specs.declared.orders.Share.{Share}
use Rattle.band_plan.specs.declared.orders.Theta.{Theta}
use Rattle.band_plan.specs.declared.pieces.Piece.{Piece}
use Rattle.band_plan.specs.declared.symbols.BandSettings.{BandSettings}
use Rattle.band_plan.specs.Angles.{steps_of}
use Rattle.band_plan.specs.Channels.{whole_of, asks_flag, sign_script, channel_script, two_script, stereo_steps, stereo_question, inversion_script, stereo_theta_of, stereo_theta, side_cost, side_sign, pair_script, side_of, mid_side_script, stereo_script}
use Rattle.band_plan.specs.Orders.{split_order, stereo_order}
use Rattle.band_plan.specs.Parts.{splits, fitting, vector_script, leaf_script, sides, part_script, Halves}
use Rattle.band_plan.specs.Pieces.{half_of}
use Rattle.band_plan.specs.Plans.{Planned, band_of, is_two, band_script, planned_at, one_band, share_of, bands_script}
use Rattle.band_plan.specs.Thetas.{asks_timed, split_question, split_theta_of, split_theta}
use Rattle.band_plan.specs.Trees.{Tree}
use Rattle.band_plan.proofs.LeafSteps.{two_vectors}
use Rattle.band_plan.proofs.PartBounds.{divided_by, halves_range}
use Rattle.band_plan.proofs.PlanSteps.{size_is}
use Rattle.band_plan.proofs.ShapeLaws.{steps_of_even}
use Rattle.celt_base.proofs.BandEnds.{end_most}
use Rattle.celt_base.specs.declared.coder.Place.{Place}
use Rattle.celt_base.specs.declared.kind.Kind.{Kind}
use Rattle.celt_base.specs.declared.question.Question.{Question}
use Rattle.celt_base.specs.declared.question.Question.TheVariants.{Bit, Uniform, Step, Triangle, Raw}
use Rattle.celt_base.specs.declared.state.Allocation.{Allocation}
use Rattle.celt_base.specs.Paces.{tell_frac_of}
use Rattle.celt_base.specs.Questions.{IsValid, IsEven}
use Rattle.celt_base.specs.WalkScripts.{Script}
use Rattle.frame_symbols.specs.Validity.{IsAllValid}
use Rattle.frame_symbols.proofs.ValiditySteps.{valid_done, valid_look, valid_begin, valid_then, valid_if, valid_by, valid_answer, valid_each}
use Rattle.pulse_vectors.specs.Costs.{pulses_at, last_of, cost_at, index_below, index_near}
use Rattle.pulse_vectors.specs.Vectors.{count_of}
use Rattle.pulse_vectors.proofs.CostSteps.{pulses-least, index-fits, last-most}
use Rattle.pulse_vectors.proofs.Logs.{greatest-within}
use Rattle.range_coder.specs.Codes.{FitsType}

-- one question, timed or of a bit
timed_valid : (at : Place) (question : Question) → IsValid question → FitsType question → IsAllValid (asks_timed at question)
unfolding asks_timed
timed_valid at question valid fits =
    valid_look (λ before. valid_then (valid_answer at question valid fits) (λ answer. valid_look (λ after. valid_done)))

flag_valid : (at : Place) → IsAllValid (asks_flag at (Raw 1))
unfolding asks_flag
flag_valid at = valid_then (valid_answer at (Raw 1) (omega arith, omega arith) tt) (λ answer. valid_done)

-- which index a vector may have
fitting_most : (n : ℕ) (left : ℤ) (q : ℕ) → fitting n left q ≤ q
unfolding fitting
fitting_most n left zero = omega arith
fitting_most n left (suc q) = by_test (int_le (pos (cost_at n (suc q))) left) (fitting_most n left q)
  where
    by_test : (b : Bool) → fitting n left q ≤ q → (if b then suc q else fitting n left q) ≤ suc q
    by_test true m = omega arith
    by_test false m = omega (arith, m)

near_most : (n : ℕ) (b : ℤ) → index_near n b ≤ last_of n
unfolding index_near index_below
near_most n b = by_test _ (greatest-within _ (last_of n))
  where
    by_test : {low : ℕ} (t : Bool) → low ≤ last_of n → (if t then low else min (low + 1) (last_of n)) ≤ last_of n
    by_test true m = m
    by_test false m = omega arith

vector_valid : (p : Piece) (q : ℕ) → 2 ≤ p.n → q ≤ last_of p.n → IsAllValid (vector_script p q)
unfolding vector_script
vector_valid p zero two most = valid_done
vector_valid p (suc q) two most =
    let l = last-most p.n in
    let some = pulses-least (suc q) (omega (arith, most, l)) in
    valid_then (valid_answer _ (Uniform (count_of p.n (pulses_at (suc q)))) (two_vectors p.n (pulses_at (suc q)) two (omega (arith, some))) (index-fits p.n (suc q) (omega (arith, two)) most))
    (λ answer. valid_done)

leaf_valid : (p : Piece) (s : Share) → 2 ≤ p.n → IsAllValid (leaf_script p s)
unfolding leaf_script
leaf_valid p s two =
    let a = fitting_most p.n s.left (index_near p.n s.bits) in
    let b = near_most p.n s.bits in
    vector_valid p (fitting p.n s.left (index_near p.n s.bits)) two (omega (arith, a, b))

-- angles
angle_valid : (steps : ℕ) (test : Bool) (other : Question) → IsEven steps → IsValid other → FitsType other
    → IsValid (if test then Uniform (steps + 1) else other) × FitsType (if test then Uniform (steps + 1) else other)
angle_valid steps true other even valid fits = let a = even.1 in let b = even.2 in (omega (arith, a), omega (arith, b))
angle_valid steps false other even valid fits = (valid, fits)

split_fits : (blocks steps : ℕ) → IsEven steps → IsValid (split_question blocks steps) × FitsType (split_question blocks steps)
unfolding split_question
split_fits blocks steps even = angle_valid steps (nat_lt 1 blocks) (Triangle steps) even even tt

stereo_fits : (n steps : ℕ) → IsEven steps → IsValid (stereo_question n steps) × FitsType (stereo_question n steps)
unfolding stereo_question
stereo_fits n steps even = angle_valid steps (nat_eq n 2) (Step steps) even even tt

many : (steps : ℕ) → nat_le steps 1 ≡ false → 1 < steps
many steps e = grind (arith, nat_tests, e)

split_of_valid : (p : Piece) (steps : ℕ) → (1 < steps → IsEven steps) → IsAllValid (split_theta_of p steps)
split_of_valid p steps even =
    valid_by (nat_le steps 1) (λ few. valid_done) (λ more.
    let f = split_fits p.blocks steps (even (many steps more)) in
    valid_then (timed_valid _ (split_question p.blocks steps) f.0 f.1) (λ timed. valid_done))

split_valid : (level : ℕ) (p : Piece) (bits : ℤ) → IsAllValid (split_theta level p bits)
unfolding split_theta
split_valid level p bits = split_of_valid p (steps_of false p.band level (p.n / 2) bits) (steps_of_even false p.band level (p.n / 2) bits)

-- a part of a band
sides_valid : (code : Bool → Share → Script Tree) (t : Theta) (o : Order) (left : ℤ) → ((second : Bool) (s : Share) → IsAllValid (code second s))
    → IsAllValid (sides code t o left)
unfolding sides
sides_valid code t o left valid = valid_then (valid o.second_first _) (λ x. valid_then (valid (not o.second_first) _) (λ y. valid_done))

half_size : (p : Piece) (second : Bool) → (half_of p second).n ≡ p.n / 2
unfolding half_of
half_size p second = refl

part_valid : (level : ℕ) (p : Piece) (s : Share) → Halves level p.n → IsAllValid (part_script level p s)
unfolding part_script
part_valid zero p s h = leaf_valid p s (halves_range zero p.n h).0
part_valid (suc level) p s h =
    valid_by (splits p.n s.bits)
    (λ apart. valid_then (split_valid level p s.bits) (λ t.
    sides_valid (λ second share. part_script level (half_of p second) share) t (split_order level p s t) (s.left -ℤ t.spent)
    (λ second share. part_valid level (half_of p second) share (subst (Halves level) (sym (half_size p second)) (divided_by level p.n s.bits h apart).halves))))
    (λ whole. leaf_valid p s (halves_range (suc level) p.n h).0)

-- a band
CanHalve : Band → Type 0
CanHalve b = b.n ≢ 1 → Halves b.level b.n

sign_valid : (b : Band) (channel : ℕ) (left : ℤ) → IsAllValid (sign_script b channel left)
unfolding sign_script
sign_valid b channel left = valid_if (int_le (pos 8) left) (valid_then (flag_valid _) (λ negative. valid_done)) valid_done

channel_valid : (b : Band) (channel : ℕ) (s : Share) → CanHalve b → IsAllValid (channel_script b channel s)
unfolding channel_script CanHalve
channel_valid b channel s h =
    valid_by (nat_eq b.n 1) (λ one. sign_valid b channel s.left) (λ more. valid_begin (part_valid b.level (whole_of b channel) s (h (grind (arith, nat_tests, more)))))

two_valid : (b : Band) (bits left : ℤ) → CanHalve b → IsAllValid (two_script b bits left)
unfolding two_script
two_valid b bits left h = valid_then (channel_valid b 0 _ h) (λ x. valid_then (channel_valid b 1 _ h) (λ y. valid_done))

stereo_steps_even : (b : Band) (bits : ℤ) → 1 < stereo_steps b bits → IsEven (stereo_steps b bits)
unfolding stereo_steps
stereo_steps_even b bits some = by_test (nat_le b.intensity b.band) some
  where
    by_test : (x : Bool) → 1 < (if x then 1 else steps_of (nat_eq b.n 2) b.band b.level b.n bits) → IsEven (if x then 1 else steps_of (nat_eq b.n 2) b.band b.level b.n bits)
    by_test true more = absurd (omega (arith, more))
    by_test false more = steps_of_even (nat_eq b.n 2) b.band b.level b.n bits more

inversion_valid : (b : Band) (s : Share) → IsAllValid (inversion_script b s)
unfolding inversion_script
inversion_valid b s =
    valid_if (int_lt (pos 16) s.bits && int_lt (pos 16) s.left) (valid_then (timed_valid _ (Bit 2) (omega arith, omega arith) tt) (λ timed. valid_done)) valid_done

stereo_of_valid : (b : Band) (s : Share) (steps : ℕ) → (1 < steps → IsEven steps) → IsAllValid (stereo_theta_of b s steps)
unfolding stereo_theta_of
stereo_of_valid b s steps even =
    valid_by (nat_le steps 1) (λ few. inversion_valid b s) (λ more.
    let f = stereo_fits b.n steps (even (many steps more)) in
    valid_then (timed_valid _ (stereo_question b.n steps) f.0 f.1) (λ timed. valid_done))

stereo_theta_valid : (b : Band) (s : Share) → IsAllValid (stereo_theta b s)
unfolding stereo_theta
stereo_theta_valid b s = stereo_of_valid b s (stereo_steps b s.bits) (stereo_steps_even b s.bits)

pair_valid : (b : Band) (s : Share) (t : Theta) → CanHalve b → IsAllValid (pair_script b s t)
unfolding pair_script side_sign
pair_valid b s t h =
    valid_then (valid_if (nat_eq (side_cost t) 0) valid_done (flag_valid _)) (λ negative. valid_then (channel_valid b 0 _ h) (λ x. valid_done))

mid_side_valid : (b : Band) (s : Share) (t : Theta) → CanHalve b → IsAllValid (mid_side_script b s t)
unfolding mid_side_script
mid_side_valid b s t h =
    sides_valid (λ second share. channel_script b (side_of second) share) t (stereo_order b.n s t) (s.left -ℤ t.spent) (λ second share. channel_valid b (side_of second) share h)

stereo_valid : (b : Band) (s : Share) → CanHalve b → IsAllValid (stereo_script b s)
unfolding stereo_script
stereo_valid b s h = valid_then (stereo_theta_valid b s) (λ t. valid_if (nat_eq b.n 2) (pair_valid b s t h) (mid_side_valid b s t h))

band_valid : (b : Band) (dual : Bool) (channels : ℕ) (s : Share) → CanHalve b → IsAllValid (band_script b dual channels s)
unfolding band_script
band_valid b dual channels s h =
    valid_if (is_two b dual channels) (two_valid b _ _ h) (valid_if (nat_eq channels 2) (stereo_valid b s h) (channel_valid b 0 s h))

can_halve : (kind : Kind) (settings : BandSettings) (a : Allocation) (band : ℕ) → band ≤ 20 → CanHalve (band_of kind settings a.intensity band)
unfolding band_of CanHalve
can_halve kind settings a band small = (size_is kind.lm band kind.sized small).halves

one_valid : (kind : Kind) (settings : BandSettings) (a : Allocation) (total : ℤ) (first band : ℕ) (before : List Planned) → band ≤ 20
    → IsAllValid (one_band kind settings a total first band before)
unfolding one_band planned_at
one_valid kind settings a total first band before small =
    valid_look (λ pace.
    valid_then (band_valid (band_of kind settings a.intensity band) a.dual kind.channels (share_of a total first band (tell_frac_of pace)) (can_halve kind settings a band small)) (λ tree. valid_done))

pub bands_valid : (kind : Kind) (settings : BandSettings) (a : Allocation) (total : ℤ) → IsAllValid (bands_script kind settings a total)
unfolding bands_script
bands_valid kind settings a total =
    let end = end_most kind in
    valid_look (λ pace.
    valid_each (one_band kind settings a total (tell_frac_of pace)) kind.end (λ band before inside. one_valid kind settings a total (tell_frac_of pace) band before (omega (arith, end, inside))) kind.end 0 [] (omega arith))
