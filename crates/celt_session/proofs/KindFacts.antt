-- Kinds with the same numbers are the same.
use Rattle.std.proofs.Common.{◌≡◌, ℕ, ◌≤◌, ◌∙◌, ap, subst}
use Rattle.std.specs.Prelude.{IsTrue, true}
use Rattle.std.proofs.Math.Bridge.{le_prop}
use Rattle.std.proofs.Math.Bool.{Bool-set}
use Rattle.celt_base.specs.declared.kind.Kind.{Kind}
use Rattle.celt_base.specs.Ends.{is_band_end}

abbrev made : (lm channels end : ℕ) → lm ≤ 3 → 1 ≤ channels → channels ≤ 2 → IsTrue (is_band_end end) → Kind
made lm channels end sized some two ended = record { lm = lm; channels = channels; end = end; sized = sized; some_channel = some; two_channels = two; ended = ended }

facts_same : (lm channels end : ℕ) (p q : lm ≤ 3) (r s : 1 ≤ channels) (t u : channels ≤ 2) (v w : IsTrue (is_band_end end)) → made lm channels end p r t v ≡ made lm channels end q s u w
facts_same lm channels end p q r s t u v w =
    ap (λ x. made lm channels end x r t v) (le_prop p q) ∙ ap (λ x. made lm channels end q x t v) (le_prop r s) ∙ ap (λ x. made lm channels end q s x v) (le_prop t u)
    ∙ ap (λ x. made lm channels end q s u x) (Bool-set (is_band_end end) true v w)

pub kinds_same : (a b : Kind) → a.lm ≡ b.lm → a.channels ≡ b.channels → a.end ≡ b.end → a ≡ b
kinds_same a b e f g =
    subst (λ n. (p : n ≤ 3) → made a.lm a.channels a.end a.sized a.some_channel a.two_channels a.ended ≡ made n b.channels b.end p b.some_channel b.two_channels b.ended) e
    (subst (λ n. (r : 1 ≤ n) (t : n ≤ 2) (p : a.lm ≤ 3) → made a.lm a.channels a.end a.sized a.some_channel a.two_channels a.ended ≡ made a.lm n b.end p r t b.ended) f
    (subst (λ n. (v : IsTrue (is_band_end n)) (r : 1 ≤ a.channels) (t : a.channels ≤ 2) (p : a.lm ≤ 3) → made a.lm a.channels a.end a.sized a.some_channel a.two_channels a.ended ≡ made a.lm a.channels n p r t v) g
    (λ v r t p. facts_same a.lm a.channels a.end a.sized p a.some_channel r a.two_channels t a.ended v) b.ended) b.some_channel b.two_channels) b.sized
