-- The kind that the first byte of a packet names (RFC 6716, section 3.1): the configuration in the upper five bits,
-- then the stereo bit, then the two bits of the frame count code.
use Rattle.std.specs.Prelude.{◌≡◌, ℕ, ◌+◌, ◌/◌, ◌%◌, ◌<◌, ◌≤◌, Option, None, Some}
use Rattle.celt_base.specs.declared.kind.Kind.{Kind}
use Rattle.celt_base.specs.Ends.{end_of_config}

abbrev pub config_of_toc : ℕ → ℕ
config_of_toc toc = toc / 8

abbrev pub stereo_of_toc : ℕ → ℕ
stereo_of_toc toc = toc / 4 % 2

pub record HasKind (toc : ℕ) (kind : Kind) : Type 0 where
  pub celt : 16 ≤ config_of_toc toc
  pub lm : kind.lm ≡ config_of_toc toc % 4
  pub channels : kind.channels ≡ 1 + stereo_of_toc toc
  pub end : kind.end ≡ end_of_config (config_of_toc toc)

abbrev pub IsKindOf : ℕ → Option Kind → Type 0
IsKindOf toc None = config_of_toc toc < 16
IsKindOf toc (Some kind) = HasKind toc kind
