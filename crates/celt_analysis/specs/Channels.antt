-- What the channels of an analysis hold.
use Rattle.std.specs.Prelude.{◌≡◌, ℕ, ◌^◌, ◌<◌, ◌≤◌, ℤ, unsigned_abs, List, length, All}

-- The values that are transformed stand first; behind them are others. The spectrum is empty in a channel that is not there.
pub record Channel : Type 0 where
  pub values : List ℤ
  pub spectrum : List ℤ

-- a room for 1080 values and one for 960 items, of which the first so many are the spectrum
pub record IsChannel (values items : List ℤ) (count : ℕ) : Type 0 where
  pub values_room : length values ≡ 1080
  pub values_sizes : All (λ v. unsigned_abs v < 2 ^ 29) values
  pub items_room : length items ≡ 960
  pub items_sizes : All (λ x. unsigned_abs x < 2 ^ 38) items
  pub within : count ≤ 960

-- of both; in mono the right one is not heard
pub record Channels : Type 0 where
  pub left : Channel
  pub right : Channel

-- a room for the samples of a window, and one for a transform
pub record AreChannels (samples parts : List ℤ) : Type 0 where
  pub samples_room : length samples ≡ 2105
  pub parts_room : length parts ≡ 960
