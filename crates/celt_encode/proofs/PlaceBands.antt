-- The places of the bands' shapes.
use Rattle.std.proofs.Common.{◌≡◌, ◌≢◌, ℕ, zero, suc, ◌+◌, ◌/◌, ◌<◌, ◌≤◌, List, [], length, Bool, true, false, not, ◌&&◌, ◌||◌, nat_eq, nat_le, if◌then◌else◌, inl, inr, refl, sym, ◌∙◌, ap, subst, arith}
use Rattle.std.specs.Prelude.{ℤ, pos, ◌-ℤ◌, int_le, int_lt, nat_lt, min, unsigned_abs, negsuc, slice_index_or}
use Rattle.std.proofs.lemmas.Bool.{false≢true, cases_eq, and_parts, eqb-true}
use Rattle.std.proofs.lemmas.Bool.Decides.{nat_tests}
use Rattle.band_plan.specs.declared.channels.Band.{Band}
use Rattle.band_plan.specs.declared.orders.Order.{Order}
use Rattle.band_plan.specs.declared.orders.Share.{Share}
use Rattle.band_plan.specs.declared.orders.Theta.{Theta}
use Rattle.band_plan.specs.declared.pieces.Piece.{Piece}
use Rattle.band_plan.specs.declared.symbols.BandSettings.{BandSettings}
use Rattle.band_plan.specs.Angles.{steps_of}
use Rattle.band_plan.specs.Channels.{whole_of, entered_of, asks_flag, sign_script, channel_script, two_script, stereo_steps, inversion_script, stereo_question, stereo_theta_of, stereo_theta, side_cost, side_sign, pair_script, side_of, mid_side_script, stereo_script}
use Rattle.band_plan.specs.Orders.{split_order, stereo_order}
use Rattle.band_plan.specs.Parts.{splits, fitting, vector_script, leaf_script, sides, part_script}
use Rattle.band_plan.specs.Pieces.{half_of}
use Rattle.band_plan.specs.Plans.{Planned, IsChange, band_of, is_two, band_script, planned_at, one_band, share_of, bands_script}
use Rattle.band_plan.specs.Thetas.{asks_timed, split_theta_of, split_theta}
use Rattle.band_plan.specs.Trees.{Tree}
use Rattle.celt_base.specs.declared.coder.Enter.{Enter}
use Rattle.celt_base.specs.declared.coder.Place.{Place}
use Rattle.celt_base.specs.declared.coder.Place.TheVariants.{Theta as AtTheta, Inversion, SideSign, Sign, Pulses}
use Rattle.celt_base.specs.declared.question.Question.{Question}
use Rattle.celt_base.specs.declared.question.Question.TheVariants.{Uniform, Step}
use Rattle.celt_base.specs.Questions.{IsAnswer, IsBelow}
use Rattle.celt_base.specs.WalkCalls.{heard}
use Rattle.band_plan.proofs.ShapeLaws.{steps_of_even}
use Rattle.celt_base.specs.declared.state.Allocation.{Allocation}
use Rattle.celt_base.specs.Paces.{tell_frac_of}
use Rattle.celt_base.specs.WalkScripts.{Script, Begin}
use Rattle.celt_tables.specs.Tables.{size_of}
use Rattle.pulse_vectors.specs.Costs.{pulses_at, last_of, cost_at, index_below, index_near}
use Rattle.pulse_vectors.proofs.CostFacts.{pulses-least, pulses_rise}
use Rattle.pulse_vectors.proofs.Logs.{greatest-within}
use Rattle.pulse_vectors.proofs.CostSteps.{last-most}
use Rattle.celt_encode.specs.Leaves.{may_have}
use Rattle.celt_encode.specs.Outsets.{Outset}
use Rattle.celt_encode.specs.declared.answers.Answers.{Answers}
use Rattle.celt_encode.specs.Places.{HasRows, HasBand, IsOpen, IsPlace, IsTold, IsEntered, CanChange}
use Rattle.celt_encode.specs.Standing.{Standing, entered_in}
use Rattle.celt_encode.specs.Vectors.{entered_vector}
use Rattle.celt_encode.proofs.PlaceRules.{goes_weaker, Stands, whatever, Keeps, Fits, keep_none, keep_then, keep_look, keep_if, keep_test, keep_ask, keep_each}
use Rattle.celt_encode.proofs.PlaceVectors.{length_entered, parts_fit, IsWhole, part_is, part_splits, FitsBand, fits_at}

-- The vector that was entered last in a channel is the band's, by what was answered then.
pub record Opened (f : Outset) (channel band : ℕ) (first second : List ℤ) : Type 0 where
  pub answers : Answers
  pub at : Enter
  pub channel_is : at.channel ≡ channel
  pub band_is : at.band ≡ band
  pub vector_is : (if nat_eq channel 0 then first else second) ≡ entered_vector f answers at

opened_length : {f : Outset} {channel band : ℕ} {first second : List ℤ} → HasRows f → HasBand f.kind channel band → Opened f channel band first second
    → length (if nat_eq channel 0 then first else second) ≡ size_of f.kind band
opened_length {f} {channel} {band} rows has o =
    let at : HasBand f.kind o.at.channel o.at.band =
    subst (λ c. HasBand f.kind c o.at.band) (sym o.channel_is) (subst (HasBand f.kind channel) (sym o.band_is) has) in
    ap length o.vector_is ∙ length_entered f o.answers o.at rows at ∙ ap (size_of f.kind) o.band_is

is_open : {f : Outset} {channel band : ℕ} (s : Standing) → Stands f (Opened f channel band) s → IsOpen s channel band
is_open s i =
    let o = i.held_is in
    record {
      answers = o.answers;
      at = o.at;
      channel_is = o.channel_is;
      band_is = o.band_is;
      vector_is = o.vector_is ∙ ap (λ g. entered_vector g o.answers o.at) (sym i.frame_is);
    }

-- ---- a part

stereo_few : (b : Band) (bits : ℤ) → 1 < stereo_steps b bits → stereo_steps b bits ≤ 256
unfolding stereo_steps
stereo_few b bits some = by_test (nat_le b.intensity b.band) some
  where
    by_test : (x : Bool) → 1 < (if x then 1 else steps_of (nat_eq b.n 2) b.band b.level b.n bits) → (if x then 1 else steps_of (nat_eq b.n 2) b.band b.level b.n bits) ≤ 256
    by_test true more = omega arith
    by_test false more = (steps_of_even (nat_eq b.n 2) b.band b.level b.n bits more).2

angle_told : (n steps : ℕ) (answer : ℤ) → steps ≤ 256 → IsAnswer (stereo_question n steps) answer → unsigned_abs answer ≤ 256
unfolding stereo_question
angle_told n steps answer few is = by_test (nat_eq n 2) is
  where
    by_sign : (answer : ℤ) → IsBelow (steps + 1) answer → unsigned_abs answer ≤ 256
    by_sign (pos m) below = omega (arith, below, few)
    by_sign (negsuc m) below = absurd below

    by_test : (b : Bool) → IsAnswer (if b then Uniform (steps + 1) else Step steps) answer → unsigned_abs answer ≤ 256
    by_test true is = by_sign answer is
    by_test false is = by_sign answer is

fitting_most : (n : ℕ) (left : ℤ) (q : ℕ) → fitting n left q ≤ q
unfolding fitting
fitting_most n left zero = omega arith
fitting_most n left (suc q) = by_test (int_le (pos (cost_at n (suc q))) left) (fitting_most n left q)
  where
    by_test : (b : Bool) → fitting n left q ≤ q → (if b then suc q else fitting n left q) ≤ suc q
    by_test true m = omega arith
    by_test false m = omega (arith, m)

near_most : (n : ℕ) (b : ℤ) → index_near n b ≤ last_of n
unfolding index_near index_below
near_most n b = by_test _ (greatest-within _ (last_of n))
  where
    by_test : {low : ℕ} (t : Bool) → low ≤ last_of n → (if t then low else min (low + 1) (last_of n)) ≤ last_of n
    by_test true m = m
    by_test false m = omega arith

has_pulses : (n q : ℕ) → 2 ≤ n → n ≤ 176 → suc q ≤ last_of n → may_have n (pulses_at (suc q)) ≡ true
unfolding may_have
has_pulses n q two most inside =
    let l = last-most n in
    let some : suc q ≤ pulses_at (suc q) = pulses-least (suc q) (omega (arith, inside, l)) in
    let rise : pulses_at (suc q) ≤ pulses_at (last_of n) = pulses_rise (suc q) (last_of n) inside l in
    by_numbers (pulses_at (suc q)) (pulses_at (last_of n)) (omega (arith, some)) rise
  where
    by_numbers : (k most_pulses : ℕ) → 1 ≤ k → k ≤ most_pulses → (nat_le 2 n && (nat_le n 176 && (nat_le 1 k && nat_le k most_pulses))) ≡ true
    by_numbers k most_pulses some rise = grind (arith, nat_tests, two, most, some, rise)

keep_timed : {f : Outset} {held : List ℤ → List ℤ → Type 0} (at : Place) (question : Question) → Fits f held at question → Keeps f held (asks_timed at question)
unfolding asks_timed
keep_timed at question fits = keep_look (λ before. keep_then (keep_ask at question fits) (λ answer m. keep_look (λ after. keep_none)))

keep_flag : {f : Outset} {held : List ℤ → List ℤ → Type 0} (at : Place) (question : Question) → Fits f held at question → Keeps f held (asks_flag at question)
unfolding asks_flag
keep_flag at question fits = keep_then (keep_ask at question fits) (λ answer m. keep_none)

module _ {f : Outset} (rows : HasRows f) where
  vector_keeps : (p : Piece) (q : ℕ) → HasBand f.kind p.channel p.band → p.offset + p.n ≤ size_of f.kind p.band → IsWhole p.n p.blocks → q ≤ last_of p.n
      → Keeps f (Opened f p.channel p.band) (vector_script p q)
  unfolding vector_script IsPlace IsTold
  vector_keeps p zero has inside whole most = keep_none
  vector_keeps p (suc q) has inside whole most =
      let two = whole.least in
      keep_then (keep_ask (Pulses p.band p.channel p.offset p.n (pulses_at (suc q)) p.blocks) _ (
        λ s i.
            let e = opened_length rows has i.held_is in
            (has, is_open s i, record { some = omega (arith, two); inside = omega (arith, e, inside) }, has_pulses p.n q two whole.most most, whole.are),
        λ answer is. tt,
      ))
      (λ answer m. keep_none)

  leaf_keeps : (p : Piece) (s : Share) → HasBand f.kind p.channel p.band → p.offset + p.n ≤ size_of f.kind p.band → IsWhole p.n p.blocks → Keeps f (Opened f p.channel p.band) (leaf_script p s)
  unfolding leaf_script
  leaf_keeps p s has inside whole =
      let a = fitting_most p.n s.left (index_near p.n s.bits) in
      let b = near_most p.n s.bits in
      vector_keeps p (fitting p.n s.left (index_near p.n s.bits)) has inside whole (omega (arith, a, b))

  split_keeps : (level : ℕ) (p : Piece) (bits : ℤ) → HasBand f.kind p.channel p.band → p.offset + p.n ≤ size_of f.kind p.band → 2 < p.n
      → Keeps f (Opened f p.channel p.band) (split_theta level p bits)
  unfolding split_theta IsPlace IsTold
  split_keeps level p bits has inside more = by_steps (steps_of false p.band level (p.n / 2) bits)
    where
      by_steps : (steps : ℕ) → Keeps f (Opened f p.channel p.band) (split_theta_of p steps)
      by_steps steps = keep_test (nat_le steps 1) (λ few. keep_none) (λ many.
          keep_then (keep_timed (AtTheta p.band p.channel p.offset (p.n / 2) steps false) _ (
            λ s i.
                let e = opened_length rows has i.held_is in
                (has, is_open s i, record { some = omega (arith, more); inside = omega (arith, e, inside) }, grind (arith, nat_tests, many)),
            λ answer is. tt,
          ))
          (λ timed m. keep_none))

sides_keeps : {f : Outset} {held : List ℤ → List ℤ → Type 0} (code : Bool → Share → Script Tree) (t : Theta) (o : Order) (left : ℤ)
    → ((second : Bool) (s : Share) → Keeps f held (code second s))
    → Keeps f held (sides code t o left)
unfolding sides
sides_keeps code t o left each = keep_then (each o.second_first _) (λ x m. keep_then (each (not o.second_first) _) (λ y n. keep_none))

half_inside : (second : Bool) (offset n size : ℕ) → offset + n ≤ size → (if second then offset + n / 2 else offset) + n / 2 ≤ size
half_inside true offset n size inside = omega (arith, inside)
half_inside false offset n size inside = omega (arith, inside)

splits_more : (n : ℕ) (bits : ℤ) → splits n bits ≡ true → 2 < n
unfolding splits
splits_more n bits e = let a = (and_parts (nat_lt 2 n) _ e).0 in grind (arith, nat_tests, a)

pub part_keeps : {f : Outset} → HasRows f → (level : ℕ) (p : Piece) (s : Share) → HasBand f.kind p.channel p.band → p.offset + p.n ≤ size_of f.kind p.band
    → parts_fit level p.n p.blocks ≡ true
    → Keeps f (Opened f p.channel p.band) (part_script level p s)
unfolding part_script half_of
part_keeps rows zero p s has inside fits = leaf_keeps rows p s has inside (part_is zero p.n p.blocks fits)
part_keeps {f} rows (suc level) p s has inside fits =
    keep_test (splits p.n s.bits)
    (λ is.
    let more = splits_more p.n s.bits is in
    keep_then (split_keeps rows level p s.bits has inside more) (λ t m.
    sides_keeps (λ second share. part_script level (half_of p second) share) t (split_order level p s t) (s.left -ℤ t.spent)
    (λ second share. part_keeps rows level (half_of p second) share has (half_inside second p.offset p.n (size_of f.kind p.band) inside) (part_splits level p.n p.blocks fits more))))
    (λ none. leaf_keeps rows p s has inside (part_is (suc level) p.n p.blocks fits))

-- ---- a band

-- the outset stays, whatever is entered, and the vector that is entered is the band's
entered_stands : {f : Outset} (s : Standing) (at : Enter) → Stands f whatever s → Stands f (Opened f at.channel at.band) (entered_in s at)
unfolding entered_in
entered_stands {f} s at is = by_test (nat_eq at.channel 0) refl
  where
    vector_is : entered_vector s.frame s.answers at ≡ entered_vector f s.answers at
    vector_is = ap (λ g. entered_vector g s.answers at) is.frame_is

    opened_by : (first second : List ℤ) → (if nat_eq at.channel 0 then first else second) ≡ entered_vector s.frame s.answers at → Opened f at.channel at.band first second
    opened_by first second e = record { answers = s.answers; at = at; channel_is = refl; band_is = refl; vector_is = e ∙ vector_is }

    first_is : (b : Bool) (first second : List ℤ) → b ≡ true → (if b then first else second) ≡ first
    first_is true first second e = refl
    first_is false first second e = absurd (false≢true e)

    second_is : (b : Bool) (first second : List ℤ) → b ≡ false → (if b then first else second) ≡ second
    second_is true first second e = absurd (false≢true (sym e))
    second_is false first second e = refl

    by_test : (b : Bool) → nat_eq at.channel 0 ≡ b
        → Stands f (Opened f at.channel at.band) (if b then record s { first = entered_vector s.frame s.answers at } else record s { second = entered_vector s.frame s.answers at })
    by_test true e = record {
      frame_is = is.frame_is;
      known = is.known;
      held_is = opened_by (entered_vector s.frame s.answers at) s.second (first_is (nat_eq at.channel 0) (entered_vector s.frame s.answers at) s.second e);
    }
    by_test false e = record {
      frame_is = is.frame_is;
      known = is.known;
      held_is = opened_by s.first (entered_vector s.frame s.answers at) (second_is (nat_eq at.channel 0) s.first (entered_vector s.frame s.answers at) e);
    }

side_below : (channels : ℕ) (second : Bool) → 1 < channels → side_of second < channels
unfolding side_of
side_below channels true two = two
side_below channels false two = omega (arith, two)

-- a frame of one channel has no bands of dual stereo, since intensity begins at the first
two_channels : (channels band intensity n : ℕ) (dual : Bool) → 1 ≤ channels → (channels ≡ 1 → intensity ≡ 0)
    → ((dual && nat_lt band intensity) || (nat_eq channels 2 && nat_eq n 1)) ≡ true → 1 < channels
two_channels channels band intensity n dual some mono is =
    elim (cases_eq channels 1) [
      | inl one ↦ let none = mono one in absurd (grind (arith, nat_tests, none, one, is))
      | inr more ↦ omega (arith, some, more)
    ]

module _ {f : Outset} (rows : HasRows f) where
  keep_begin : {A : Type 0} {script : Script A} (at : Enter) → HasBand f.kind at.channel at.band → CanChange at.tf at.blocks (size_of f.kind at.band)
      → Keeps f (Opened f at.channel at.band) script
      → Keeps f whatever (Begin at script)
  unfolding IsEntered
  keep_begin {script = script} at has changes a = record {
    is = λ s i. (
      i.known,
      (has, changes),
      goes_weaker f.kind (λ t value. Stands f (Opened f at.channel at.band) t) (λ t value. Stands f whatever t) script (entered_in s at)
          (λ t value j. record { frame_is = j.frame_is; known = j.known; held_is = tt })
          (a.is (entered_in s at) (entered_stands s at i)),
    );
  }

  sign_keeps : (b : Band) (channel : ℕ) (left : ℤ) → HasBand f.kind channel b.band → size_of f.kind b.band ≡ 1 → Keeps f whatever (sign_script b channel left)
  unfolding sign_script IsPlace IsTold
  sign_keeps b channel left has one =
      keep_if (int_le (pos 8) left) (keep_then (keep_flag (Sign b.band channel) _ (λ s i. (has, one), λ answer is. tt)) (λ negative m. keep_none)) keep_none

  channel_keeps : (b : Band) (channel : ℕ) (s : Share) → FitsBand f b → channel < f.kind.channels → Keeps f whatever (channel_script b channel s)
  unfolding channel_script
  channel_keeps b channel s fits inside =
      let has : HasBand f.kind channel b.band = record { channel_is = inside; band_is = fits.below } in
      let same = fits.size in
      keep_test (nat_eq b.n 1)
      (λ one. sign_keeps b channel s.left has (sym same ∙ eqb-true b.n 1 one))
      (λ more.
      let ne : b.n ≢ 1 = grind (arith, nat_tests, more) in
      keep_begin (entered_of b channel) has (subst (CanChange b.tf b.blocks) same (fits.changes ne))
      (part_keeps rows b.level (whole_of b channel) s has (omega (arith, same)) (fits.parts ne)))

  -- ---- two channels

  two_keeps : (b : Band) (bits left : ℤ) → FitsBand f b → 1 < f.kind.channels → Keeps f whatever (two_script b bits left)
  unfolding two_script
  two_keeps b bits left fits two =
      keep_then (channel_keeps b 0 _ fits (omega (arith, two))) (λ x m. keep_then (channel_keeps b 1 _ fits two) (λ y n. keep_none))

  both_have : (b : Band) → FitsBand f b → 1 < f.kind.channels → HasBand f.kind 1 b.band
  both_have b fits two = record { channel_is = two; band_is = fits.below }

  inversion_keeps : (b : Band) (s : Share) → FitsBand f b → 1 < f.kind.channels → Keeps f whatever (inversion_script b s)
  unfolding inversion_script IsPlace IsTold
  inversion_keeps b s fits two =
      keep_if (int_lt (pos 16) s.bits && int_lt (pos 16) s.left)
      (keep_then (keep_timed (Inversion b.band) _ (λ t i. both_have b fits two, λ answer is. tt)) (λ timed m. keep_none))
      keep_none

  stereo_theta_keeps : (b : Band) (s : Share) → FitsBand f b → 1 < f.kind.channels → Keeps f whatever (stereo_theta b s)
  unfolding stereo_theta stereo_theta_of IsPlace IsTold heard
  stereo_theta_keeps b s fits two = by_steps (stereo_steps b s.bits) (stereo_few b s.bits)
    where
      by_steps : (steps : ℕ) → (1 < steps → steps ≤ 256) → Keeps f whatever (stereo_theta_of b s steps)
      by_steps steps few_steps = keep_test (nat_le steps 1) (λ few. inversion_keeps b s fits two) (λ many.
          keep_then (keep_timed (AtTheta b.band 0 0 b.n steps true) (stereo_question b.n steps)
          (λ t i. (both_have b fits two, fits.size, grind (arith, nat_tests, many)), λ answer is. angle_told b.n steps answer (few_steps (grind (arith, nat_tests, many))) is)) (λ timed m. keep_none))

  side_sign_keeps : (b : Band) (t : Theta) → FitsBand f b → 1 < f.kind.channels → b.n ≡ 2 → Keeps f whatever (side_sign b t)
  unfolding side_sign IsPlace IsTold
  side_sign_keeps b t fits two pair =
      keep_if (nat_eq (side_cost t) 0) keep_none
      (keep_flag (SideSign b.band (pos t.theta)) _ (λ s i. (both_have b fits two, sym fits.size ∙ pair), λ answer is. tt))

  pair_keeps : (b : Band) (s : Share) (t : Theta) → FitsBand f b → 1 < f.kind.channels → b.n ≡ 2 → Keeps f whatever (pair_script b s t)
  unfolding pair_script
  pair_keeps b s t fits two pair =
      keep_then (side_sign_keeps b t fits two pair) (λ negative m. keep_then (channel_keeps b 0 _ fits (omega (arith, two))) (λ x n. keep_none))

  stereo_keeps : (b : Band) (s : Share) → FitsBand f b → 1 < f.kind.channels → Keeps f whatever (stereo_script b s)
  unfolding stereo_script mid_side_script
  stereo_keeps b s fits two =
      keep_then (stereo_theta_keeps b s fits two) (λ t m.
      keep_test (nat_eq b.n 2) (λ pair. pair_keeps b s t fits two (eqb-true b.n 2 pair)) (λ more.
      sides_keeps (λ second share. channel_script b (side_of second) share) t (stereo_order b.n s t) (s.left -ℤ t.spent)
      (λ second share. channel_keeps b (side_of second) share fits (side_below f.kind.channels second two))))

  -- ---- all bands

  band_keeps : (b : Band) (dual : Bool) (s : Share) → FitsBand f b → (f.kind.channels ≡ 1 → b.intensity ≡ 0)
      → Keeps f whatever (band_script b dual f.kind.channels s)
  unfolding band_script is_two
  band_keeps b dual s fits mono =
      keep_test (is_two b dual f.kind.channels)
      (λ e. two_keeps b _ s.left fits (two_channels f.kind.channels b.band b.intensity b.n dual f.kind.some_channel mono e))
      (λ none. keep_test (nat_eq f.kind.channels 2)
      (λ e. let t : f.kind.channels ≡ 2 = eqb-true _ _ e in stereo_keeps b s fits (omega (arith, t)))
      (λ one. channel_keeps b 0 s fits f.kind.some_channel))

  one_keeps : (settings : BandSettings) (a : Allocation) (total : ℤ) (first band : ℕ) (before : List Planned) → band < f.kind.end
      → (f.kind.lm ≡ 0 → settings.transient ≡ false)
      → IsChange f.kind.lm settings.transient (slice_index_or settings.tf band (pos 0))
      → (f.kind.channels ≡ 1 → a.intensity ≡ 0)
      → Keeps f whatever (one_band f.kind settings a total first band before)
  unfolding one_band planned_at band_of
  one_keeps settings a total first band before below long change mono = keep_look (λ pace.
      keep_then (band_keeps (band_of f.kind settings a.intensity band) a.dual (share_of a total first band (tell_frac_of pace))
      (fits_at f settings a.intensity band below long change) mono)
      (λ tree m. keep_none))

  pub bands_keeps : (settings : BandSettings) (a : Allocation) (total : ℤ)
      → (f.kind.lm ≡ 0 → settings.transient ≡ false)
      → ((band : ℕ) → band < f.kind.end → IsChange f.kind.lm settings.transient (slice_index_or settings.tf band (pos 0)))
      → (f.kind.channels ≡ 1 → a.intensity ≡ 0)
      → Keeps f whatever (bands_script f.kind settings a total)
  unfolding bands_script
  bands_keeps settings a total long changes mono = keep_look (λ pace.
      keep_each (one_band f.kind settings a total (tell_frac_of pace)) f.kind.end (λ band before below. one_keeps settings a total (tell_frac_of pace) band before below long (changes band below) mono) f.kind.end 0 [] (omega arith))
