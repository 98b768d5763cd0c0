use Rattle.std.proofs.Common.{vec_capacity}
use Rattle.celt_base.proofs.Halving.{half_front}
use Rattle.celt_base.proofs.memory.MemSinkSink.write_all.Goals as goal

pub returns-in_default-clause-bytes : goal.returns-in_default-clause-bytes
returns-in_default-clause-bytes c =
    half_front (vec_capacity c.args.self.now.bytes) c.args.self.now.bytes.items c.append_half.new.held.items c.args.bytes.now c.append_half.ensures
