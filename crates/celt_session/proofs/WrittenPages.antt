-- Pages that are written one behind the other.
use Rattle.std.proofs.Common.{ℕ, List, ◌++◌, Option, Result, Ok, Err}
use Rattle.std.specs.Io.KnownBytes.{Appends}
use Rattle.std.proofs.KnownBytes.{Appends-trans}
use Rattle.celt_base.specs.Outside.{WritesAll}
use Rattle.celt_base.proofs.Causes.{then_front}

-- one list of bytes and then another
pub writes_then : {A E : Type 0} (a b c : Option (List ℕ)) (bytes more : List ℕ) (r : Result A E) → Appends a b bytes → WritesAll b c r more → WritesAll a c r (bytes ++ more)
writes_then a b c bytes more (Ok v) p q = Appends-trans a b c bytes more p q
writes_then a b c bytes more (Err e) p q = then_front a b c bytes more p q
