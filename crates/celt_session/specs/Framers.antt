-- What is held of the samples.
use Rattle.std.specs.Prelude.{◌≡◌, ◌≤◌, length, vec_capacity}
use Rattle.celt_session.specs.declared.framer.Framer.{Framer}

-- the rooms of a framer: the windows of 16 frames of the longest kind as bytes and as samples, and 16 frames
pub record HasFramerRooms (f : Framer) : Type 0 where
  pub held : 66020 ≤ vec_capacity f.held
  pub samples : length f.samples.items ≡ 33010
  pub frames : length f.frames.items ≡ 20400
