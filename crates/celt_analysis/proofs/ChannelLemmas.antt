-- The channels of a frame: its size, and what comes of the values of a window.
use Rattle.std.proofs.Common.{◌≡◌, ℕ, zero, suc, ◌*◌, ◌^◌, ◌≤◌, Bool, true, false, if◌then◌else◌, refl, inl, inr, arith, ap, ◌∙◌, List, []}
use Rattle.std.specs.Prelude.{ℤ}
use Rattle.std.proofs.lemmas.Bool.Decides.{nat_tests}
use Rattle.celt_base.specs.declared.kind.Kind.{Kind}
use Rattle.mdct_fixed.specs.Mdct.{IsSize}
use Rattle.celt_analysis.specs.Analyses.{spectrum_in, transient_of}
use Rattle.celt_analysis.specs.Signals.{blocks_of, is_stereo}
use Rattle.celt_analysis.specs.Spectra.{spectrum}
use Rattle.celt_analysis.specs.Transients.{energies_in, is_transient}
use Rattle.celt_analysis.proofs.TransientLemmas.{energies_same}

-- a frame has 1, 2, 4 or 8 blocks
pub blocks_size : (kind : Kind) → IsSize (120 * blocks_of kind)
blocks_size kind = by_size kind.lm kind.sized
  where
    by_size : (lm : ℕ) → lm ≤ 3 → IsSize (120 * 2 ^ lm)
    by_size zero l = inl refl
    by_size (suc zero) l = inr (inl refl)
    by_size (suc (suc zero)) l = inr (inr (inl refl))
    by_size (suc (suc (suc zero))) l = inr (inr (inr refl))
    by_size (suc (suc (suc (suc n)))) l = absurd (omega (arith, l))

pub two_channels : (kind : Kind) → is_stereo kind ≡ true → kind.channels ≡ 2
two_channels kind e = grind (arith, nat_tests, e)

pub transient_heard : (kind : Kind) (values : ℕ → List ℤ) (xs ys : List ℤ) → xs ≡ values 0 → (is_stereo kind ≡ true → ys ≡ values 1) → is_transient kind.lm (energies_in (is_stereo kind) xs ys) ≡ transient_of kind values
unfolding transient_of
transient_heard kind values xs ys e h = ap (is_transient kind.lm) (energies_same (is_stereo kind) xs ys (values 0) (values 1) e h)

pub spectrum_heard : (kind : Kind) (values : ℕ → List ℤ) (c : ℕ) (transient : Bool) (xs : List ℤ) → transient ≡ transient_of kind values → xs ≡ values c → spectrum (blocks_of kind) transient xs ≡ spectrum_in kind values c
unfolding spectrum_in
spectrum_heard kind values c transient xs e h = ap (λ t. spectrum (blocks_of kind) t xs) e ∙ ap (spectrum (blocks_of kind) (transient_of kind values)) h

pub if_stereo : (s : Bool) (xs ys : List ℤ) → (s ≡ true → xs ≡ ys) → (if s then xs else []) ≡ (if s then ys else [])
if_stereo true xs ys h = h refl
if_stereo false xs ys h = refl
