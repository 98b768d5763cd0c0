use Rattle.std.proofs.Common.{◌≡◌, take}
use Rattle.ogg_pages.specs.Checksum.{remainder_from}
use Rattle.ogg_pages.proofs.checksum.register_over.Given as goal

abbrev pub invariant-loop-byte : goal.invariant-loop-byte
invariant-loop-byte l = l.register ≡ remainder_from l.fn.register (take l.byte-index l.bytes)
