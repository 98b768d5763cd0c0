-- What is measured in spectra, and what is found in a frame.
use Rattle.std.proofs.Common.{◌≡◌, ℕ, ◌*◌, Bool, true, false, nat_lt, if◌then◌else◌, refl, sym, arith, ap, ◌∙◌, List, [], ◌∷◌, length}
use Rattle.std.specs.Prelude.{◌&&◌, ℤ, Some, replicate}
use Rattle.std.proofs.lemmas.Bool.Decides.{nat_tests}
use Rattle.celt_base.specs.declared.kind.Kind.{Kind}
use Rattle.celt_base.specs.declared.state.Setting.{Setting}
use Rattle.celt_tables.specs.Tables.{edge_of}
use Rattle.fixed_math.specs.Items.{listed}
use Rattle.fixed_math.proofs.ItemLemmas.{length-listed}
use Rattle.celt_analysis.specs.Analyses.{Analysis, found, spectrum_in, spectrum_size, transient_of}
use Rattle.celt_analysis.specs.Energies.{are_zero, floor, height_of, heights_of, is_silent, row_of, row_target, targets_of}
use Rattle.celt_analysis.specs.Signals.{blocks_of, frame_size, is_stereo}
use Rattle.celt_analysis.specs.Spectra.{spectrum}

-- ---- the rows, the heights and silence

pub row_is : (end end2 m m2 : ℕ) (xs row : List ℤ) → end ≡ end2 → m ≡ m2 → row ≡ listed 21 (row_target end m xs) → row ≡ row_of end2 m2 xs
unfolding row_of
row_is end end2 m m2 xs row e f h = h ∙ (λ k. listed 21 (row_target (e k) (f k) xs))

pub targets_are : (stereo : Bool) (end m : ℕ) (xs ys a b : List ℤ) → a ≡ row_of end m xs → b ≡ (if stereo then row_of end m ys else replicate 21 floor) → ◌≡◌ {A = List (List ℤ)} (a ∷ b ∷ []) (targets_of stereo end m xs ys)
unfolding targets_of
targets_are stereo end m xs ys a b p q = λ k. p k ∷ q k ∷ []

pub heights_are : (stereo : Bool) (end m : ℕ) (xs ys a b r : List ℤ) → a ≡ row_of end m xs → b ≡ (if stereo then row_of end m ys else replicate 21 floor) → r ≡ (if stereo then listed 21 (height_of a b) else a) → r ≡ heights_of stereo end m xs ys
unfolding heights_of
heights_are true end m xs ys a b r p q h = h ∙ (λ k. listed 21 (height_of (p k) (q k)))
heights_are false end m xs ys a b r p q h = h ∙ p

pub silent_mono : (stereo : Bool) (n n2 : ℕ) (xs ys : List ℤ) (r : Bool) → stereo ≡ false → n ≡ n2 → r ≡ are_zero n xs → r ≡ is_silent stereo n2 xs ys
unfolding is_silent
silent_mono stereo n n2 xs ys r s e h = h ∙ ap (λ k. are_zero k xs) e ∙ ap (λ t. if t then are_zero n2 xs && are_zero n2 ys else are_zero n2 xs) (sym s)

pub silent_left : (stereo : Bool) (n n2 : ℕ) (xs ys : List ℤ) (a r : Bool) → stereo ≡ true → n ≡ n2 → a ≡ are_zero n xs → a ≡ true → r ≡ are_zero n ys → r ≡ is_silent stereo n2 xs ys
unfolding is_silent
silent_left stereo n n2 xs ys a r s e h t g =
    g ∙ ap (λ k. are_zero k ys) e ∙ ap (λ b. b && are_zero n2 ys) (sym t ∙ h ∙ ap (λ k. are_zero k xs) e) ∙ ap (λ t. if t then are_zero n2 xs && are_zero n2 ys else are_zero n2 xs) (sym s)

pub sounds_left : (stereo : Bool) (n n2 : ℕ) (xs ys : List ℤ) (a : Bool) → stereo ≡ true → n ≡ n2 → a ≡ are_zero n xs → a ≡ false → a ≡ is_silent stereo n2 xs ys
unfolding is_silent
sounds_left stereo n n2 xs ys a s e h t =
    t ∙ ap (λ b. b && are_zero n2 ys) (sym t ∙ h ∙ ap (λ k. are_zero k xs) e) ∙ ap (λ t. if t then are_zero n2 xs && are_zero n2 ys else are_zero n2 xs) (sym s)

pub is_mono : (kind : Kind) → kind.channels ≡ 1 → is_stereo kind ≡ false
is_mono kind e = grind (arith, nat_tests, e)

pub is_two : (kind : Kind) → (kind.channels ≡ 1 → ⊥) → is_stereo kind ≡ true
is_two kind h =
    let some = kind.some_channel in
    let most = kind.two_channels in
    let two : kind.channels ≡ 2 = grind (arith, h, some, most) in
    grind (arith, nat_tests, two)

-- ---- lengths

pub spectrum_length : (m : ℕ) (transient : Bool) (vs : List ℤ) → length (spectrum m transient vs) ≡ 120 * m
unfolding spectrum
spectrum_length m true vs = length-listed (120 * m) _
spectrum_length m false vs = length-listed (120 * m) _

pub spectrum_in_length : (kind : Kind) (values : ℕ → List ℤ) (c : ℕ) → length (spectrum_in kind values c) ≡ frame_size kind
unfolding spectrum_in
spectrum_in_length kind values c = spectrum_length (blocks_of kind) (transient_of kind values) (values c)

pub right_length : (kind : Kind) (xs ys : List ℤ) → ys ≡ (if is_stereo kind then xs else []) → length xs ≡ frame_size kind → kind.channels ≡ 2 → length ys ≡ frame_size kind
right_length kind xs ys e l two =
    let t : is_stereo kind ≡ true = grind (arith, nat_tests, two) in
    ap length (e ∙ ap (λ s. if s then xs else []) t) ∙ l

pub left_size : (kind : Kind) (xs : List ℤ) → length xs ≡ frame_size kind → length xs ≡ spectrum_size (Some kind) 0
unfolding spectrum_size
left_size kind xs l =
    let some = kind.some_channel in
    let t : nat_lt 0 kind.channels ≡ true = grind (arith, nat_tests, some) in
    l ∙ ap (λ s. if s then frame_size kind else 0) (sym t)

pub right_size : (kind : Kind) (xs ys : List ℤ) → ys ≡ (if is_stereo kind then xs else []) → length xs ≡ frame_size kind → length ys ≡ spectrum_size (Some kind) 1
unfolding spectrum_size
right_size kind xs ys e l = ap length e ∙ by_channels (is_stereo kind) (nat_lt 1 kind.channels) same ∙ refl
  where
    same : is_stereo kind ≡ nat_lt 1 kind.channels
    same = let some = kind.some_channel in let most = kind.two_channels in grind (arith, nat_tests, some, most)

    sized : (t : Bool) → length (if t then xs else []) ≡ (if t then frame_size kind else 0)
    sized true = l
    sized false = refl

    by_channels : (s t : Bool) → s ≡ t → length (if s then xs else []) ≡ (if t then frame_size kind else 0)
    by_channels s t p = ap (λ b. length (if b then xs else [])) p ∙ sized t

-- ---- a frame from its spectra

pub found_is : (kind : Kind) (setting setting2 : Setting) (t t2 : Bool) (xs ys us vs : List ℤ) (silent : Bool) (targets : List (List ℤ)) (heights : List ℤ)
    → setting ≡ setting2 → t ≡ t2 → xs ≡ us → ys ≡ vs
    → silent ≡ is_silent (is_stereo kind) (blocks_of kind * edge_of kind.end) xs ys
    → targets ≡ targets_of (is_stereo kind) kind.end (blocks_of kind) xs ys
    → heights ≡ heights_of (is_stereo kind) kind.end (blocks_of kind) xs ys
    → ◌≡◌ {A = Analysis} (record { kind = Some kind; silent = silent; transient = t; setting = setting; left = xs; right = ys; targets = targets; heights = heights }) (found kind setting2 t2 us vs)
unfolding found
found_is kind setting setting2 t t2 xs ys us vs silent targets heights es et ex ey hs ht hh =
    let s : silent ≡ is_silent (is_stereo kind) (blocks_of kind * edge_of kind.end) us vs = hs ∙ (λ k. is_silent (is_stereo kind) (blocks_of kind * edge_of kind.end) (ex k) (ey k)) in
    let g : targets ≡ targets_of (is_stereo kind) kind.end (blocks_of kind) us vs = ht ∙ (λ k. targets_of (is_stereo kind) kind.end (blocks_of kind) (ex k) (ey k)) in
    let h : heights ≡ heights_of (is_stereo kind) kind.end (blocks_of kind) us vs = hh ∙ (λ k. heights_of (is_stereo kind) kind.end (blocks_of kind) (ex k) (ey k)) in
    λ k. record {
      kind = Some kind;
      silent = s k;
      transient = et k;
      setting = es k;
      left = ex k;
      right = ey k;
      targets = g k;
      heights = h k;
    }
