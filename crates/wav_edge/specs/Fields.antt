-- The fields of a RIFF WAVE file: words of four letters and numbers, the lowest byte first.
use Rattle.std.specs.Prelude.{ℕ, Bool, List, nat_eq, codes}
use Rattle.std.specs.List.{starts_with}
use Rattle.byteorder.specs.Endian.{little_from}

-- the number in the n bytes from place k
unfoldable pub number_at : ℕ → ℕ → List ℕ → ℕ
number_at n k bytes = little_from k n bytes

-- what is there of a field is a beginning of the word
unfoldable pub fits : List ℕ → List ℕ → Bool
fits word field = starts_with nat_eq word field

abbrev pub riff : List ℕ
riff = codes "RIFF"

abbrev pub wave : List ℕ
wave = codes "WAVE"

abbrev pub format_letters : List ℕ
format_letters = codes "fmt "

abbrev pub data_letters : List ℕ
data_letters = codes "data"
