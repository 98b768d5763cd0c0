-- The walks of an angle's questions.
use Rattle.std.proofs.Common.{◌≡◌, ◌≢◌, ℕ, ◌+◌, ◌*◌, ◌/◌, ◌<◌, ◌≤◌, Bool, true, false, nat_eq, refl, sym, ◌∙◌, ap, subst, arith, nat_lt}
use Rattle.std.specs.Prelude.{ℤ, pos, negsuc, ◌-ℤ◌, unsigned_abs, nat_le, FitsSigned}
use Rattle.std.specs.Int.{w64}
use Rattle.std.proofs.lemmas.Bool.Decides.{nat_tests}
use Rattle.std.proofs.lemmas.Int.{ints, fits_signed_from_abs}
use Rattle.band_plan.specs.declared.orders.Theta.{Theta}
use Rattle.band_plan.specs.declared.pieces.Piece.{Piece}
use Rattle.band_plan.specs.declared.thetas.Timed.{Timed}
use Rattle.band_plan.specs.Angles.{steps_of, theta_of, IsTheta}
use Rattle.band_plan.specs.Thetas.{growth, asks_timed, IsSpent, IsAngle, no_angle, angle_of, split_question, split_theta_of, split_theta}
use Rattle.celt_base.specs.declared.coder.Place.{Place}
use Rattle.celt_base.specs.declared.coder.Place.TheVariants.{Theta as AtTheta}
use Rattle.celt_base.specs.declared.question.Question.{Question}
use Rattle.celt_base.specs.declared.question.Question.TheVariants.{Uniform, Triangle}
use Rattle.std.proofs.lemmas.Nat.{le-div, div_below}
use Rattle.celt_base.specs.Paces.{tell_frac_of}
use Rattle.celt_base.specs.Questions.{IsBelow, IsEven}
use Rattle.celt_base.specs.WalkCalls.{CoderCalls, ChooserCalls}
use Rattle.celt_base.specs.WalkScripts.{asks_at}
use Rattle.celt_base.specs.Walks.{Walked}
use Rattle.celt_base.proofs.WalkSteps.{start, look, walk, end, no_walk, when_true, when_false}

abbrev timed_as : ℤ → ℤ → Timed
timed_as answer spent = record { answer = answer; spent = spent }

pub spent_small : (before after m n : ℕ) (spent : ℤ) → before ≤ 8 * (9 + 40 * m) → after ≤ 8 * (9 + 40 * n) → m < 4096 → n ≡ m + 1 → spent ≡ pos after -ℤ pos before → IsSpent spent
spent_small before after m n spent b a small one e = omega (arith, ints, b, a, small, one, e)

module _ {C H : Type 0} {coder : CoderCalls C} {chooser : ChooserCalls H} where
  pub timed : {c d : C} {h k : H} (at : Place) (question : Question) (answer : ℤ) (before after : ℕ) (spent : ℤ)
      → before ≡ tell_frac_of (coder.pace c)
      → after ≡ tell_frac_of (coder.pace d)
      → spent ≡ pos after -ℤ pos before
      → Walked coder chooser (asks_at at question) answer c h d k
      → Walked coder chooser (asks_timed at question) (record { answer = answer; spent = spent }) c h d k
  unfolding asks_timed
  timed {c = c} {d = d} {h = h} {k = k} at question answer before after spent b a e w =
      let same : growth (coder.pace c) (coder.pace d) ≡ spent = ap (λ n. pos (tell_frac_of (coder.pace d)) -ℤ pos n) (sym b) ∙ ap (λ n. pos n -ℤ pos before) (sym a) ∙ sym e in
      subst (λ z. Walked coder chooser (asks_timed at question) (timed_as answer z) c h d k) same
      (end (look (walk _ (look start) w)))

  split_theta_none : {c : C} {h : H} (p : Piece) (steps : ℕ) → steps ≤ 1 → Walked coder chooser (split_theta_of p steps) no_angle c h c h
  split_theta_none p steps few =
      let t : nat_le steps 1 ≡ true = grind (arith, nat_tests) in when_true (nat_le steps 1) _ _ t no_walk

  split_theta_some : {c d : C} {h k : H} (p : Piece) (steps : ℕ) (timed : Timed) → 1 < steps
      → Walked coder chooser (asks_timed (AtTheta p.band p.channel p.offset (p.n / 2) steps false) (split_question p.blocks steps)) timed c h d k
      → Walked coder chooser (split_theta_of p steps) (angle_of steps timed) c h d k
  split_theta_some p steps timed some w =
      let t : nat_le steps 1 ≡ false = grind (arith, nat_tests) in when_false (nat_le steps 1) _ _ t (end (walk _ start w))

  pub theta_unasked : {c : C} {h : H} (level : ℕ) (p : Piece) (bits : ℤ) (n steps : ℕ) → n ≡ p.n / 2 → steps ≡ steps_of false p.band level n bits → steps ≤ 1
      → Walked coder chooser (split_theta level p bits) no_angle c h c h
  unfolding split_theta
  theta_unasked {c = c} {h = h} level p bits n steps half is few =
      subst (λ s. Walked coder chooser (split_theta_of p s) no_angle c h c h) (is ∙ ap (λ m. steps_of false p.band level m bits) half) (split_theta_none p steps few)

  pub theta_asked : {c d : C} {h k : H} (level : ℕ) (p : Piece) (bits : ℤ) (n steps : ℕ) (question : Question) (timed : Timed) (t : Theta)
      → n ≡ p.n / 2
      → steps ≡ steps_of false p.band level n bits
      → 1 < steps
      → question ≡ split_question p.blocks steps
      → t ≡ angle_of steps timed
      → Walked coder chooser (asks_timed (AtTheta p.band p.channel p.offset n steps false) question) timed c h d k
      → Walked coder chooser (split_theta level p bits) t c h d k
  unfolding split_theta
  theta_asked {c = c} {d = d} {h = h} {k = k} level p bits n steps question timed t half is some q angle w =
      let w2 : Walked coder chooser (asks_timed (AtTheta p.band p.channel p.offset (p.n / 2) steps false) (split_question p.blocks steps)) timed c h d k =
      subst (λ m. Walked coder chooser (asks_timed (AtTheta p.band p.channel p.offset m steps false) (split_question p.blocks steps)) timed c h d k) half
      (subst (λ x. Walked coder chooser (asks_timed (AtTheta p.band p.channel p.offset n steps false) x) timed c h d k) q w) in
      subst (λ s. Walked coder chooser (split_theta_of p s) t c h d k) (is ∙ ap (λ m. steps_of false p.band level m bits) half)
      (subst (λ x. Walked coder chooser (split_theta_of p steps) x c h d k) (sym angle) (split_theta_some p steps timed some w2))

pub question_short : (blocks steps : ℕ) → 1 < blocks → Uniform (steps + 1) ≡ split_question blocks steps
unfolding split_question
question_short blocks steps more = let t : nat_lt 1 blocks ≡ true = grind (arith, nat_tests) in rw t refl

pub question_long : (blocks steps : ℕ) → blocks ≤ 1 → Triangle steps ≡ split_question blocks steps
unfolding split_question
question_long blocks steps one = let t : nat_lt 1 blocks ≡ false = grind (arith, nat_tests) in rw t refl

-- an answer as a number
pub raised_answer : (steps : ℕ) (answer : ℤ) → IsBelow (steps + 1) answer → unsigned_abs answer ≤ steps
raised_answer steps (pos n) below = omega (arith, below)
raised_answer steps (negsuc n) below = absurd below

theta_low : (steps a : ℕ) → 1 ≤ a → 2 ≤ steps → steps ≤ 256 → 64 ≤ a * 16384 / steps
theta_low steps a some two most = le-div 64 (a * 16384) steps (omega (arith, two)) (omega (arith, some, most))

theta_high : (steps a : ℕ) → a < steps → 2 ≤ steps → steps ≤ 256 → a * 16384 / steps ≤ 16320
theta_high steps a less two most = let d = div_below (a * 16384) steps 16321 (omega (arith, two)) (omega (arith, less, most)) in omega (arith, d)

theta_most : (steps a : ℕ) → a ≤ steps → 2 ≤ steps → a * 16384 / steps ≤ 16384
theta_most steps a within two = let d = div_below (a * 16384) steps 16385 (omega (arith, two)) (omega (arith, within, two)) in omega (arith, d)

theta_full : (steps a : ℕ) → a ≡ steps → 2 ≤ steps → a * 16384 / steps ≡ 16384
theta_full steps a e two =
    let h = theta_most steps a (omega (arith, e)) two in
    let l = le-div 16384 (a * 16384) steps (omega (arith, two)) (omega (arith, e)) in
    omega (arith, h, l)

theta_zero : (steps a : ℕ) → a ≡ 0 → 2 ≤ steps → a * 16384 / steps ≡ 0
theta_zero steps a e two = let d = div_below (a * 16384) steps 1 (omega (arith, two)) (omega (arith, e, two)) in omega (arith, d)

pub theta_is : (steps a : ℕ) → a ≤ steps → 2 ≤ steps → steps ≤ 256 → IsTheta (theta_of steps a)
unfolding theta_of
theta_is steps a within two most = record {
  most = theta_most steps a within two;
  some = by_zero (nat_eq a 0) refl;
  less = by_full (nat_eq a steps) refl;
}
  where
    by_zero : (b : Bool) → nat_eq a 0 ≡ b → a * 16384 / steps ≢ 0 → 64 ≤ a * 16384 / steps
    by_zero true e = λ some. absurd (some (theta_zero steps a (grind (arith, nat_tests, e)) two))
    by_zero false e = λ some. theta_low steps a (grind (arith, nat_tests, e)) two most

    by_full : (b : Bool) → nat_eq a steps ≡ b → a * 16384 / steps ≢ 16384 → a * 16384 / steps ≤ 16320
    by_full true e = λ less. absurd (less (theta_full steps a (grind (arith, nat_tests, e)) two))
    by_full false e = λ less. theta_high steps a (grind (arith, nat_tests, e, within)) two most

pub angle_is : (steps : ℕ) (timed : Timed) → IsEven steps → IsBelow (steps + 1) timed.answer → IsSpent timed.spent → IsAngle (angle_of steps timed)
unfolding angle_of
angle_is steps timed even below spent = record {
  theta = theta_is steps (unsigned_abs timed.answer) (raised_answer steps timed.answer below) even.1 even.2;
  spent = spent;
}

abbrev angle_as : ℕ → ℤ → Theta
angle_as theta spent = record { theta = theta; inversion = false; spent = spent }

pub angle-is : (steps theta : ℕ) (timed : Timed) → theta ≡ unsigned_abs timed.answer → record { theta = theta * 16384 / steps; inversion = false; spent = timed.spent } ≡ angle_of steps timed
unfolding angle_of theta_of
angle-is steps theta timed e = ap (λ n. angle_as (n * 16384 / steps) timed.spent) e

pub below_fits : (steps : ℕ) (answer : ℤ) → IsBelow (steps + 1) answer → steps ≤ 256 → FitsSigned w64 answer
below_fits steps answer below most = let r = raised_answer steps answer below in fits_signed_from_abs w64 answer (omega (arith, r, most))
