-- Where a stream ends among bytes that follow it: the first link of a chain (RFC 7845, section 3).
use Rattle.std.specs.Prelude.{◌≡◌, ℕ, ◌≤◌, List, length, take, None}
use Rattle.opus_stream.specs.Acceptance.{fault_of}

-- the shortest front of the bytes that has no fault
pub record IsLink (bytes : List ℕ) (len : ℕ) : Type 0 where
  pub inside : len ≤ length bytes
  pub sound : fault_of (take len bytes) ≡ None
  pub least : (k : ℕ) → fault_of (take k bytes) ≡ None → len ≤ k
