-- The encoder after a frame.
use Rattle.std.proofs.Common.{◌≡◌, ℕ, true, false, ℤ, pos, List, ap, ◌∙◌}
use Rattle.std.specs.Prelude.{Option, None, replicate}
use Rattle.celt_base.specs.declared.state.Setting.{Setting}
use Rattle.celt_synth.specs.States.{start, off}
use Rattle.celt_base.specs.declared.kind.Kind.{Kind}
use Rattle.celt_base.specs.Questions.{Answered}
use Rattle.celt_analysis.specs.Analyses.{Analysis}
use Rattle.celt_synth.specs.Readings.{share_by}
use Rattle.celt_synth.specs.Shared.{SharedState}
use Rattle.celt_encode.specs.Encoders.{EncoderState, new_encoder, outset_for, kept, after_frame}
use Rattle.celt_encode.specs.Frames.{fell_of}

pub new_is : (kind : Kind) (range seed : ℕ) (energies : List (List ℤ)) (before now : Setting)
    → range ≡ 0
    → energies ≡ replicate 2 (replicate 21 (pos 0))
    → seed ≡ 0
    → before ≡ off
    → now ≡ off
    → record { kind = kind; shared = record { range = range; energies = energies; seed = seed; before = before; now = now }; made = false; fell = None }
    ≡ new_encoder kind
unfolding new_encoder start
new_is kind range seed energies before now ranges rows seeds befores nows =
    ap (λ r. record { kind = kind; shared = record { range = r; energies = energies; seed = seed; before = before; now = now }; made = false; fell = None }) ranges
    ∙ ap (λ e. record { kind = kind; shared = record { range = 0; energies = e; seed = seed; before = before; now = now }; made = false; fell = None }) rows
    ∙ ap (λ n. record { kind = kind; shared = record { range = 0; energies = replicate 2 (replicate 21 (pos 0)); seed = n; before = before; now = now }; made = false; fell = None }) seeds
    ∙ ap (λ s. record { kind = kind; shared = record { range = 0; energies = replicate 2 (replicate 21 (pos 0)); seed = 0; before = s; now = now }; made = false; fell = None }) befores
    ∙ ap (λ s. record { kind = kind; shared = record { range = 0; energies = replicate 2 (replicate 21 (pos 0)); seed = 0; before = off; now = s }; made = false; fell = None }) nows

pub after_is : (e : EncoderState) (a : Analysis) (n : ℕ) (shared : SharedState) (list : List Answered) (fell : Option ℕ)
    → list ≡ kept e a n
    → shared ≡ share_by e.kind n list e.shared
    → fell ≡ fell_of (outset_for e a n)
    → record { kind = e.kind; shared = shared; made = true; fell = fell } ≡ after_frame e a n
unfolding after_frame
after_is e a n shared list fell lists shares falls =
    ap (λ s. record { kind = e.kind; shared = s; made = true; fell = fell }) (shares ∙ ap (λ l. share_by e.kind n l e.shared) lists)
    ∙ ap (λ t. record { kind = e.kind; shared = share_by e.kind n (kept e a n) e.shared; made = true; fell = t }) falls
