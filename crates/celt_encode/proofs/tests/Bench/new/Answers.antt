use Rattle.std.proofs.Common.{◌≡◌, ◌∙◌, ap}
use Rattle.celt_encode.specs.Encoders.{new_encoder}
use Rattle.celt_encode.proofs.tests.Bench.new.Goals as goal

pub invariant_of-result : goal.invariant_of-result
unfolding new_encoder
invariant_of-result c = record { kinds = ap (λ e. e.kind) c.in_ok-encoder.ensures; whole = c.in_ok-window.ensures ∙ c.window_len.ensures }
