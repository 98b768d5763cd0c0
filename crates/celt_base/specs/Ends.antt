-- The numbers of coded bands of the four bandwidths of the CELT-only mode (RFC 6716, section 4.3).
use Rattle.std.specs.Prelude.{ℕ, Bool, ◌||◌, ◌==◌, if◌then◌else◌, nat_lt}

abbrev pub is_band_end : ℕ → Bool
is_band_end n = n == 13 || n == 17 || n == 19 || n == 21

-- Configurations 16 to 31, in fours: narrowband, wideband, super-wideband, fullband (RFC 6716, section 3.1).
abbrev pub end_of_config : ℕ → ℕ
end_of_config config =
    if nat_lt config 20 then 13 else (if nat_lt config 24 then 17 else (if nat_lt config 28 then 19 else 21))
