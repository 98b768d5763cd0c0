-- The lengths that are transformed. The order by reversed digits is in Transform.
use Rattle.std.specs.Prelude.{◌≡◌, ◌⊎◌, ℕ}

abbrev pub IsLength : ℕ → Type 0
IsLength n = (n ≡ 60) ⊎ ((n ≡ 120) ⊎ ((n ≡ 240) ⊎ (n ≡ 480)))
