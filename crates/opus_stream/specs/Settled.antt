-- What the tests of a granule position answer, said of its numbers.
use Rattle.std.specs.Prelude.{◌≡◌, ℕ, ℤ, pos, ◌+◌, ◌-ℤ◌, Bool, true, false, min, if◌then◌else◌, Option, None, Some}
use Rattle.std.specs.Int.Signed.{lt_z}
use Rattle.ogg_pages.specs.Fields.{Page}
use Rattle.opus_stream.specs.Packets.{ends_packet}
use Rattle.opus_stream.specs.Granules.{is_last}
use Rattle.opus_stream.specs.declared.granules.Settled.{Settled}

-- the number of the start, where it is known and where it is not
abbrev pub start_by : Option ℕ → ℤ → ℕ → ℤ
start_by None granule samples = granule -ℤ pos samples
start_by (Some base) granule samples = pos base

-- a start that is not below 0
abbrev pub IsNumber : ℤ → Option ℕ → Type 0
IsNumber start None = lt_z start (pos 0) ≡ true
IsNumber start (Some base) = start ≡ pos base

abbrev pub IsStart : Option ℕ → ℤ → ℕ → Option ℕ → Type 0
IsStart base granule samples answer = IsNumber (start_by base granule samples) answer

abbrev pub IsKept : ℤ → ℕ → ℕ → Option ℕ → Type 0
IsKept granule base before None = lt_z (granule -ℤ pos base) (pos before) ≡ true
IsKept granule base before (Some kept) = granule -ℤ pos base ≡ pos (before + kept)

abbrev pub lifted : ℤ → ℤ
lifted start = if lt_z start (pos 0) then pos 0 else start

-- of a page that is not the last, and of the last
abbrev pub IsSettledBy : Bool → ℤ → ℕ → ℕ → ℤ → Option Settled → Type 0
IsSettledBy false start before samples granule None = lt_z start (pos 0) ≡ true
IsSettledBy false start before samples granule (Some settled) = IsNumber start settled.base × (lt_z start (pos 0) ≡ false) × (settled.given ≡ samples)
IsSettledBy true start before samples granule None = lt_z (granule -ℤ lifted start) (pos before) ≡ true
IsSettledBy true start before samples granule (Some settled) =
    IsNumber start settled.base × ((kept : ℕ) × (granule -ℤ lifted start ≡ pos (before + kept)) × (settled.given ≡ min samples kept))

abbrev pub IsSettled : Option ℕ → ℕ → ℕ → ℤ → Bool → Option Settled → Type 0
IsSettled base before samples granule last answer = IsSettledBy last (start_by base granule samples) before samples granule answer

-- of a page, on which a packet ends or not
abbrev pub IsSettledIf : Bool → Option ℕ → ℕ → ℕ → Page → Option Settled → Type 0
IsSettledIf true base before samples page answer = IsSettled base before samples page.granule (is_last page) answer
IsSettledIf false base before samples page answer = answer ≡ Some (record { base = base; given = samples })

abbrev pub IsSettledOn : Option ℕ → ℕ → ℕ → Page → Option Settled → Type 0
IsSettledOn base before samples page answer = IsSettledIf (ends_packet page) base before samples page answer
