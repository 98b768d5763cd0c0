use Rattle.std.proofs.Common.{◌≡◌, length, take, sym, subst, ◌∙◌}
use Rattle.frame_symbols.specs.Batches.{PartsInside, ReadsSlots}
use Rattle.celt_session.proofs.Gathering.{slots_left}
use Rattle.celt_session.proofs.frame_batch.read_slots.Goals as goal

pub read_batch-requires : goal.read_batch-requires
read_batch-requires g c = (c.type_bounds.sync-G, subst (PartsInside c.args.bytes.now) (sym c.split_at_mut-front.ensures.front) c.requires.parts)

pub returns-clause-reads : goal.returns-clause-reads
returns-clause-reads g c =
    let now = c.read_batch.new.slots in
    let some : length now ≡ c.args.count = c.read_batch.auto.slots ∙ c.split_at_mut-front.ensures.front_len in
    subst (ReadsSlots c.args.bytes.now (take c.args.count c.args.slots.now)) (sym (slots_left now c.split_at_mut-front.result.1.now c.args.count some))
    (subst (λ l. ReadsSlots c.args.bytes.now l now) c.split_at_mut-front.ensures.front c.read_batch.ensures)
