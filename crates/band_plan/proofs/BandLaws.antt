-- Whatever is answered, a band's tree has its shape.
use Rattle.std.proofs.Common.{◌≡◌, ◌≢◌, ℕ, zero, suc, ◌+◌, ◌<◌, ◌≤◌, Bool, true, false, not, ◌&&◌, List, [], ◌∷◌, ◌++◌, length, refl, sym, ◌∙◌, subst, append_assoc, arith, nat_eq, if◌then◌else◌}
use Rattle.std.specs.Prelude.{ℤ, pos, ◌-ℤ◌, int_le, int_lt, int_div, nat_le}
use Rattle.std.proofs.lemmas.List.{append-nil}
use Rattle.std.proofs.lemmas.Bool.Decides.{nat_tests}
use Rattle.band_plan.specs.declared.channels.Band.{Band}
use Rattle.band_plan.specs.declared.orders.Order.{Order}
use Rattle.band_plan.specs.declared.orders.Share.{Share}
use Rattle.band_plan.specs.declared.orders.Theta.{Theta}
use Rattle.band_plan.specs.declared.symbols.BandSettings.{BandSettings}
use Rattle.band_plan.specs.declared.thetas.Timed.{Timed}
use Rattle.band_plan.specs.Angles.{steps_of, IsTheta}
use Rattle.band_plan.specs.Channels.{whole_of, entered_of, asks_flag, sign_script, channel_script, two_script, stereo_steps, stereo_question, inverted_of, inversion_script, stereo_theta_of, stereo_theta, side_cost, side_sign, pair_share, pair_script, side_of, mid_side_script, stereo_script}
use Rattle.band_plan.specs.Orders.{stereo_order}
use Rattle.band_plan.specs.Parts.{part_script, Halves}
use Rattle.band_plan.specs.Plans.{Planned, band_of, is_two, band_script, planned_at, one_band, share_of, bands_script}
use Rattle.band_plan.specs.Shapes.{IsPart, ByTest, IsSign, IsChannel, IsStereo, IsPair, IsBandTree, AreBandTrees}
use Rattle.band_plan.specs.Thetas.{asks_timed, no_angle, angle_of}
use Rattle.band_plan.specs.Trees.{Tree, Signed, Paired, Both, used}
use Rattle.celt_base.specs.declared.coder.Place.TheVariants.{Theta as AtTheta, Inversion, Sign}
use Rattle.celt_base.specs.declared.kind.Kind.{Kind}
use Rattle.celt_base.specs.declared.question.Question.TheVariants.{Bit, Uniform, Step, Raw}
use Rattle.celt_base.specs.declared.state.Allocation.{Allocation}
use Rattle.celt_base.specs.Paces.{tell_frac_of}
use Rattle.celt_base.specs.Questions.{IsBelow, IsAnswer, IsEven}
use Rattle.celt_base.specs.WalkOrders.{MayGive}
use Rattle.celt_base.specs.WalkScripts.{Script, Done, Begin, and_then, each}
use Rattle.band_plan.proofs.PlanSteps.{size_is, end_most}
use Rattle.band_plan.proofs.ShapeLaws.{gave, none_plain, angle_plain, timed_may, steps_of_even, sides_may, part_may}

abbrev pub share_as : ℤ → ℤ → Share
share_as bits left = record { bits = bits; left = left }

abbrev pub planned_as : ℤ → Tree → Planned
planned_as amount tree = record { amount = amount; tree = tree }

sign_may : (b : Band) (channel : ℕ) (left : ℤ) (tree : Tree) → MayGive (sign_script b channel left) tree → IsSign tree
unfolding sign_script IsSign
sign_may b channel left tree m = by_test (int_le (pos 8) left) m
  where
    by_test : (t : Bool) → MayGive (if t then and_then (asks_flag (Sign b.band channel) (Raw 1)) (λ negative. Done (Signed negative (pos 8))) else Done (Signed false (pos 0))) tree → IsSign tree
    by_test true m = let g = gave (asks_flag (Sign b.band channel) (Raw 1)) (λ negative. Done (Signed negative (pos 8))) tree m in subst IsSign (sym g.second) tt
    by_test false m = subst IsSign (sym m) tt

-- the band's size may be halved as its level says
pub CanHalve : Band → Type 0
CanHalve b = b.n ≢ 1 → Halves b.level b.n

channel_may : (b : Band) (channel : ℕ) (s : Share) (tree : Tree) → CanHalve b → MayGive (channel_script b channel s) tree → IsChannel b tree
unfolding channel_script IsChannel CanHalve
channel_may b channel s tree h m = by_test (nat_eq b.n 1) refl m
  where
    by_test : (t : Bool) → nat_eq b.n 1 ≡ t → MayGive (if t then sign_script b channel s.left else Begin (entered_of b channel) (part_script b.level (whole_of b channel) s)) tree
        → ByTest t (IsSign tree) (IsPart tree b.level b.n)
    by_test true e m = sign_may b channel s.left tree m
    by_test false e m = part_may b.level (whole_of b channel) s tree (h (grind (arith, nat_tests, e))) m

two_may : (b : Band) (bits left : ℤ) (tree : Tree) → CanHalve b → MayGive (two_script b bits left) tree → IsPair b tree
unfolding two_script IsPair
two_may b bits left tree h m =
    let rest : Tree → Script Tree = λ x. and_then (channel_script b 1 (share_as bits (left -ℤ used x))) (λ y. Done (Both x y)) in
    let g = gave (channel_script b 0 (share_as bits left)) rest tree m in
    let k = gave (channel_script b 1 (share_as bits (left -ℤ used g.value))) (λ y. Done (Both g.value y)) tree g.second in
    subst (IsPair b) (sym k.second) (channel_may b 0 (share_as bits left) g.value h g.first, channel_may b 1 (share_as bits (left -ℤ used g.value)) k.value h k.first)

theta_zero_is : IsTheta 0
theta_zero_is = none_plain.theta

inverted_theta : (timed : Timed) → IsTheta (inverted_of timed).theta
unfolding inverted_of
inverted_theta timed = theta_zero_is

inversion_may : (b : Band) (s : Share) (t : Theta) → MayGive (inversion_script b s) t → IsTheta t.theta
unfolding inversion_script
inversion_may b s t m = by_test (int_lt (pos 16) s.bits && int_lt (pos 16) s.left) m
  where
    by_test : (x : Bool) → MayGive (if x then and_then (asks_timed (Inversion b.band) (Bit 2)) (λ timed. Done (inverted_of timed)) else Done no_angle) t → IsTheta t.theta
    by_test true m = let g = gave (asks_timed (Inversion b.band) (Bit 2)) (λ timed. Done (inverted_of timed)) t m in subst (λ (t : Theta). IsTheta t.theta) (sym g.second) (inverted_theta g.value)
    by_test false m = subst (λ (t : Theta). IsTheta t.theta) (sym m) theta_zero_is

stereo_steps_even : (b : Band) (bits : ℤ) → 1 < stereo_steps b bits → IsEven (stereo_steps b bits)
unfolding stereo_steps
stereo_steps_even b bits some = by_test (nat_le b.intensity b.band) some
  where
    by_test : (x : Bool) → 1 < (if x then 1 else steps_of (nat_eq b.n 2) b.band b.level b.n bits) → IsEven (if x then 1 else steps_of (nat_eq b.n 2) b.band b.level b.n bits)
    by_test true more = absurd (omega (arith, more))
    by_test false more = steps_of_even (nat_eq b.n 2) b.band b.level b.n bits more

stereo_below : (n steps : ℕ) (answer : ℤ) → IsAnswer (stereo_question n steps) answer → IsBelow (steps + 1) answer
unfolding stereo_question
stereo_below n steps answer is = by_test (nat_eq n 2) is
  where
    by_test : (b : Bool) → IsAnswer (if b then Uniform (steps + 1) else Step steps) answer → IsBelow (steps + 1) answer
    by_test true is = is
    by_test false is = is

stereo_theta_may : (b : Band) (s : Share) (t : Theta) → MayGive (stereo_theta b s) t → IsTheta t.theta
unfolding stereo_theta stereo_theta_of
stereo_theta_may b s t m = by_steps (stereo_steps b s.bits) (stereo_steps_even b s.bits) m
  where
    by_steps : (steps : ℕ) → (1 < steps → IsEven steps)
        → MayGive (if nat_le steps 1 then inversion_script b s else and_then (asks_timed (AtTheta b.band 0 0 b.n steps true) (stereo_question b.n steps)) (λ timed. Done (angle_of steps timed))) t
        → IsTheta t.theta
    by_steps steps even m = by_test (nat_le steps 1) refl m
      where
        by_test : (x : Bool) → nat_le steps 1 ≡ x
            → MayGive (if x then inversion_script b s else and_then (asks_timed (AtTheta b.band 0 0 b.n steps true) (stereo_question b.n steps)) (λ timed. Done (angle_of steps timed))) t
            → IsTheta t.theta
        by_test true e m = inversion_may b s t m
        by_test false e m =
            let g = gave (asks_timed (AtTheta b.band 0 0 b.n steps true) (stereo_question b.n steps)) (λ timed. Done (angle_of steps timed)) t m in
            subst (λ (t : Theta). IsTheta t.theta) (sym g.second)
            (angle_plain steps g.value (even (grind (arith, nat_tests, e))) (stereo_below b.n steps g.value.answer (timed_may (AtTheta b.band 0 0 b.n steps true) (stereo_question b.n steps) g.value g.first))).theta

pair_may : (b : Band) (s : Share) (t : Theta) (tree : Tree) → CanHalve b → b.n ≡ 2 → IsTheta t.theta → MayGive (pair_script b s t) tree → IsStereo b tree
unfolding pair_script IsStereo
pair_may b s t tree h two is m =
    let rest : Bool → Script Tree = λ negative. and_then (channel_script b 0 (pair_share s t)) (λ x. Done (Paired t negative (pos (side_cost t)) x)) in
    let g = gave (side_sign b t) rest tree m in
    let k = gave (channel_script b 0 (pair_share s t)) (λ x. Done (Paired t g.value (pos (side_cost t)) x)) tree g.second in
    subst (IsStereo b) (sym k.second) (two, is, channel_may b 0 (pair_share s t) k.value h k.first)

mid_side_may : (b : Band) (s : Share) (t : Theta) (tree : Tree) → CanHalve b → b.n ≢ 2 → IsTheta t.theta → MayGive (mid_side_script b s t) tree → IsStereo b tree
unfolding mid_side_script IsStereo
mid_side_may b s t tree h more is m =
    let code : Bool → Share → Script Tree = λ second share. channel_script b (side_of second) share in
    let o : Order = stereo_order b.n s t in
    let a = sides_may code t o (s.left -ℤ t.spent) tree m in
    subst (IsStereo b) (sym a.tree_is) (more, is, channel_may b (side_of o.second_first) a.first a.x h a.gives, channel_may b (side_of (not o.second_first)) a.later a.y h a.gives_later)

stereo_may : (b : Band) (s : Share) (tree : Tree) → CanHalve b → MayGive (stereo_script b s) tree → IsStereo b tree
unfolding stereo_script
stereo_may b s tree h m =
    let rest : Theta → Script Tree = λ t. if nat_eq b.n 2 then pair_script b s t else mid_side_script b s t in
    let g = gave (stereo_theta b s) rest tree m in
    by_test g.value (stereo_theta_may b s g.value g.first) (nat_eq b.n 2) refl g.second
  where
    by_test : (t : Theta) → IsTheta t.theta → (x : Bool) → nat_eq b.n 2 ≡ x → MayGive (if x then pair_script b s t else mid_side_script b s t) tree → IsStereo b tree
    by_test t is true e m = pair_may b s t tree h (grind (arith, nat_tests, e)) is m
    by_test t is false e m = mid_side_may b s t tree h (grind (arith, nat_tests, e)) is m

pub band_may : (b : Band) (dual : Bool) (channels : ℕ) (s : Share) (tree : Tree) → CanHalve b → MayGive (band_script b dual channels s) tree → IsBandTree b dual channels tree
unfolding band_script IsBandTree
band_may b dual channels s tree h m = by_two (is_two b dual channels) m
  where
    by_two : (x : Bool) → MayGive (if x then two_script b (int_div s.bits (pos 2)) s.left else (if nat_eq channels 2 then stereo_script b s else channel_script b 0 s)) tree
        → ByTest x (IsPair b tree) (ByTest (nat_eq channels 2) (IsStereo b tree) (IsChannel b tree))
    by_two true m = two_may b (int_div s.bits (pos 2)) s.left tree h m
    by_two false m = by_channels (nat_eq channels 2) m
      where
        by_channels : (x : Bool) → MayGive (if x then stereo_script b s else channel_script b 0 s) tree → ByTest x (IsStereo b tree) (IsChannel b tree)
        by_channels true m = stereo_may b s tree h m
        by_channels false m = channel_may b 0 s tree h m

can_halve_of : (kind : Kind) (settings : BandSettings) (a : Allocation) (band : ℕ) → band ≤ 20 → CanHalve (band_of kind settings a.intensity band)
unfolding band_of CanHalve
can_halve_of kind settings a band small = (size_is kind.lm band kind.sized small).halves

one_may : (kind : Kind) (settings : BandSettings) (a : Allocation) (total : ℤ) (first band : ℕ) (before : List Planned) (plan : Planned) → band ≤ 20
    → MayGive (one_band kind settings a total first band before) plan → IsBandTree (band_of kind settings a.intensity band) a.dual kind.channels plan.tree
unfolding one_band planned_at
one_may kind settings a total first band before plan small m =
    let now : ℕ = tell_frac_of m.0 in
    let b : Band = band_of kind settings a.intensity band in
    let s : Share = share_of a total first band now in
    let g = gave (band_script b a.dual kind.channels s) (λ tree. Done (planned_as s.bits tree)) plan m.1 in
    subst (λ (p : Planned). IsBandTree b a.dual kind.channels p.tree) (sym g.second) (band_may b a.dual kind.channels s g.value (can_halve_of kind settings a band small) g.first)

-- what follows so many bands
record AreLater (kind : Kind) (settings : BandSettings) (a : Allocation) (left band : ℕ) (values last : List Planned) : Type 0 where
  rest : List Planned
  last_is : last ≡ values ++ rest
  length_is : length rest ≡ left
  trees : AreBandTrees kind settings a.intensity a.dual band rest

each_may : (kind : Kind) (settings : BandSettings) (a : Allocation) (total : ℤ) (first left band : ℕ) (values last : List Planned) → left + band ≤ 21
    → MayGive (each (one_band kind settings a total first) left band values) last → AreLater kind settings a left band values last
unfolding AreBandTrees
each_may kind settings a total first zero band values last few m = record { rest = []; last_is = m ∙ sym (append-nil values); length_is = refl; trees = tt }
each_may kind settings a total first (suc left) band values last few m =
    let rest : Planned → Script (List Planned) = λ value. each (one_band kind settings a total first) left (band + 1) (values ++ value ∷ []) in
    let g = gave (one_band kind settings a total first band values) rest last m in
    let k = each_may kind settings a total first left (band + 1) (values ++ g.value ∷ []) last (omega (arith, few)) g.second in
    let l = k.length_is in
    record {
      rest = g.value ∷ k.rest;
      last_is = k.last_is ∙ append_assoc values (g.value ∷ []) k.rest;
      length_is = omega (arith, l);
      trees = (one_may kind settings a total first band values g.value (omega (arith, few)) g.first, k.trees);
    }

pub record AreTrees (kind : Kind) (settings : BandSettings) (a : Allocation) (plans : List Planned) : Type 0 where
  pub bands : length plans ≡ kind.end
  pub trees : AreBandTrees kind settings a.intensity a.dual 0 plans

pub bands_may : (kind : Kind) (settings : BandSettings) (a : Allocation) (total : ℤ) (plans : List Planned) → MayGive (bands_script kind settings a total) plans → AreTrees kind settings a plans
unfolding bands_script
bands_may kind settings a total plans m =
    let k = each_may kind settings a total (tell_frac_of m.0) kind.end 0 [] plans (let e = end_most kind in omega (arith, e)) m.1 in
    subst (AreTrees kind settings a) (sym k.last_is) (record { bands = k.length_is; trees = k.trees })
