-- What a verdict says of the bytes, test by test.
use Rattle.std.specs.Prelude.{◌≡◌, ℕ, ◌≤◌, ◌<◌, true, List, length, take, slice_index}
use Rattle.ogg_pages.specs.Bounds.{page_len}
use Rattle.ogg_pages.specs.Verdicts.{captures, summed}

-- a sound page of n bytes begins here
pub record IsSound (bytes : List ℕ) (n : ℕ) : Type 0 where
  pub captured : captures bytes ≡ true
  pub version : slice_index bytes 4 ≡ 0
  pub length_is : n ≡ page_len bytes
  pub inside : n ≤ length bytes
  pub sum_is : summed (take n bytes) ≡ true

-- the bytes are less than a page by its own lengths, and break no test of capture and version
pub record IsCut (bytes : List ℕ) : Type 0 where
  pub captured : captures bytes ≡ true
  pub version : slice_index bytes 4 ≡ 0
  pub short : length bytes < page_len bytes
