-- Makers: a batch of frames, and more bytes of samples.
use Rattle.std.proofs.Common.{◌≡◌, ℕ, ◌+◌, ◌*◌, ◌/◌, ◌≤◌, ◌<◌, List, [], ◌++◌, length, take, drop, Option, Result, Ok, Err, refl, sym, ◌∙◌, ap, subst, arith, length-append, append-nil, Vec, append_assoc}
use Rattle.std.specs.declared.alloc.Global.{Global}
use Rattle.std.specs.List.{concat}
use Rattle.celt_base.specs.declared.outside.Failed.{Failed}
use Rattle.wav_edge.specs.Samples.{samples_of}
use Rattle.celt_session.specs.declared.batch.Batch.{Batch}
use Rattle.celt_session.specs.declared.plan.Plan.{Plan}
use Rattle.celt_session.specs.declared.maker.Maker.{Maker}
use Rattle.celt_session.specs.declared.packer.Packer.{Packer}
use Rattle.celt_session.specs.Frames.{duration}
use Rattle.celt_session.specs.FrameFunctions.{FrameFunction, state_before, frames_from}
use Rattle.celt_session.specs.Windows.{lead, window_of}
use Rattle.celt_session.specs.FrameWorks.{FrameWorks, Framed, batch_len, batch_row}
use Rattle.celt_session.specs.Packers.{Packs, AreLong, WritesFull, WritesSome, Packed}
use Rattle.celt_session.specs.Makers.{group_bytes, held_of, plan_row, plan_frame, HasMade, MakesMore, Made, TakesAll, TakesSome}
use Rattle.std.proofs.Common.{◌^◌}
use Rattle.std.proofs.Math.Nat.{pow-le-pow_right}
use Rattle.std.proofs.lemmas.Nat.{mul-le}
use Rattle.celt_session.proofs.Sampling.{samples-longer, samples-len}
use Rattle.celt_session.proofs.PacketLemmas.{packs-same, full-same, some-same, wrote_on, wrote_none}
use Rattle.celt_session.proofs.Rows.{Follows, state-none, state-follows, frame-follows, frames-follow, frame-len}
use Rattle.celt_session.proofs.WindowLemmas.{batch-window, window-longer, held-next, held-longer, held-within}

pub plan_long : (f : FrameFunction) (plan : Plan) (heard : List ℕ) → AreLong plan (plan_frame f plan heard)
plan_long f plan heard = frame-len f (plan_row f plan heard) plan.bytes plan.least (λ t. refl)

module _ {W : Type 0} (w : FrameWorks W) (plan : Plan) where
  -- the windows of a batch are those of the frames that come next
  pub batch_follows : (heard held : List ℕ) (done : ℕ) (batch : Batch) → batch.kind ≡ plan.kind → batch.bytes ≡ plan.bytes → held ≡ held_of plan.kind.channels plan.samples done heard
      → 2 * batch_len plan.kind batch.count ≤ length held
      → Follows w.function (plan_row w.function plan heard) (batch_row w.function (state_before w.function (plan_row w.function plan heard) done) batch (samples_of (take (2 * batch_len plan.kind batch.count) held))) done batch.count
  batch_follows heard held done batch kind bytes is room = record {
    kind = kind;
    from = refl;
    window = λ t less.
        let samples = samples_of (take (2 * batch_len plan.kind batch.count) held) in
        ap (λ k. take (batch_len k 1) (drop (k.channels * (t * duration k)) samples)) kind
        ∙ batch-window plan.kind.channels (duration plan.kind) done batch.count t heard held plan.kind.some_channel less (is ∙ ap (λ n. held_of plan.kind.channels n done heard) plan.samples_is) room
        ∙ ap (λ n. window_of plan.kind.channels n (samples_of heard) (done + t)) (sym plan.samples_is);
    bytes = λ t less. bytes;
  }

  -- what a batch gives
  pub batch_frames : (heard held : List ℕ) (done : ℕ) (batch : Batch) (now : W) (out : List ℕ) → batch.kind ≡ plan.kind → batch.bytes ≡ plan.bytes → held ≡ held_of plan.kind.channels plan.samples done heard
      → 2 * batch_len plan.kind batch.count ≤ length held
      → Framed w (state_before w.function (plan_row w.function plan heard) done) batch (samples_of (take (2 * batch_len plan.kind batch.count) held)) now out
      → out ≡ concat (frames_from (plan_frame w.function plan heard) done batch.count)
  batch_frames heard held done batch now out kind bytes is room h =
      let none : done + 0 ≡ done = omega arith in
      let row = plan_row w.function plan heard in
      let behind = batch_row w.function (state_before w.function row done) batch (samples_of (take (2 * batch_len plan.kind batch.count) held)) in
      h.frames ∙ ap concat (frames-follow w.function row behind done batch.count (batch_follows heard held done batch kind bytes is room) 0 batch.count (omega arith))
      ∙ ap (λ n. concat (frames_from (plan_frame w.function plan heard) n batch.count)) none

  pub batch_shows : (heard held : List ℕ) (done : ℕ) (batch : Batch) (now : W) (out : List ℕ) → batch.kind ≡ plan.kind → batch.bytes ≡ plan.bytes → held ≡ held_of plan.kind.channels plan.samples done heard
      → 2 * batch_len plan.kind batch.count ≤ length held
      → Framed w (state_before w.function (plan_row w.function plan heard) done) batch (samples_of (take (2 * batch_len plan.kind batch.count) held)) now out
      → w.Shows now (state_before w.function (plan_row w.function plan heard) (done + batch.count))
  batch_shows heard held done batch now out kind bytes is room h =
      let row = plan_row w.function plan heard in
      let behind = batch_row w.function (state_before w.function row done) batch (samples_of (take (2 * batch_len plan.kind batch.count) held)) in
      subst (w.Shows now) (state-follows w.function row behind done batch.count (batch_follows heard held done batch kind bytes is room) batch.count (omega arith)) h.shows

  -- the outcome of a batch, once its frames were put into packets
  pub batch_made : (heard held : List ℕ) (done count packets : ℕ) (now : Maker W) (old new : Option (List ℕ)) (result : Result (Unit {0}) Failed) → held ≡ held_of plan.kind.channels plan.samples done heard
      → group_bytes plan.kind.channels (done * plan.samples) ≤ length heard → 2 * batch_len plan.kind count ≤ length held → now.framer.held.items ≡ drop (group_bytes plan.kind.channels (count * plan.samples)) held
      → w.Shows now.work (state_before w.function (plan_row w.function plan heard) (done + count)) → Packed plan (plan_frame w.function plan heard) (done + count) packets now.packer old new result
      → Made w plan heard (done + count) packets now old new result
  batch_made heard held done count packets now old new (Ok written) is within room left shows packed = record {
    made = record {
      held = left ∙ held-next plan.kind.channels plan.samples done count heard held is;
      within =
          let long : 2 * (plan.kind.channels * (lead + count * plan.samples)) ≤ length held = subst (λ n. 2 * (plan.kind.channels * (lead + count * n)) ≤ length held) (sym plan.samples_is) room in
          held-within plan.kind.channels plan.samples done count heard held is within long;
      shows = shows;
      packs = packed.packs;
    };
    wrote = packed;
  }
  batch_made heard held done count packets now old new (Err failure) is within room left shows packed = packed

-- ---- more bytes of samples

pub plan_sizes : (plan : Plan) → (120 ≤ plan.samples) × (plan.samples ≤ 960)
plan_sizes plan =
    let some : 0 ≤ plan.kind.lm = omega arith in
    let low : 2 ^ 0 ≤ 2 ^ plan.kind.lm = pow-le-pow_right (omega arith) some in
    let high : 2 ^ plan.kind.lm ≤ 2 ^ 3 = pow-le-pow_right (omega arith) plan.kind.sized in
    let is = plan.samples_is in
    (omega arith, omega arith)

-- the windows of frames whose samples are all there stay
pub row_longer : (f : FrameFunction) (plan : Plan) (heard more : List ℕ) (done : ℕ) → group_bytes plan.kind.channels (done * plan.samples) ≤ length heard
    → Follows f (plan_row f plan heard) (plan_row f plan (heard ++ more)) 0 done
row_longer f plan heard more done within = record {
  kind = refl;
  from = sym (state-none f (plan_row f plan heard));
  window = λ t less.
      let channels = plan.kind.channels in
      let none : t ≡ 0 + t = omega arith in
      let few = mul-le (t + 1) plan.samples done plan.samples (omega arith) (omega arith) in
      let scaled = mul-le channels ((t + 1) * plan.samples) channels (done * plan.samples) (omega arith) few in
      let len = samples-len heard in
      ap (λ l. window_of channels plan.samples l t) (samples-longer heard more)
      ∙ window-longer channels plan.samples t (samples_of heard) (samples_of (drop (2 * (length heard / 2)) heard ++ more)) (omega arith)
      ∙ ap (window_of channels plan.samples (samples_of heard)) none;
  bytes = λ t less. refl;
}

pub frame_longer : (f : FrameFunction) (plan : Plan) (heard more : List ℕ) (done : ℕ) → group_bytes plan.kind.channels (done * plan.samples) ≤ length heard → (t : ℕ) → t < done
    → plan_frame f plan (heard ++ more) t ≡ plan_frame f plan heard t
frame_longer f plan heard more done within t less =
    let none : 0 + t ≡ t = omega arith in
    frame-follows f (plan_row f plan heard) (plan_row f plan (heard ++ more)) 0 done (row_longer f plan heard more done within) t less ∙ ap (plan_frame f plan heard) none

pub state_longer : (f : FrameFunction) (plan : Plan) (heard more : List ℕ) (done : ℕ) → group_bytes plan.kind.channels (done * plan.samples) ≤ length heard
    → state_before f (plan_row f plan (heard ++ more)) done ≡ state_before f (plan_row f plan heard) done
state_longer f plan heard more done within =
    let none : 0 + done ≡ done = omega arith in
    state-follows f (plan_row f plan heard) (plan_row f plan (heard ++ more)) 0 done (row_longer f plan heard more done within) done (omega arith) ∙ ap (state_before f (plan_row f plan heard)) none

module _ {W : Type 0} (w : FrameWorks W) (plan : Plan) where
  -- a maker that takes in more bytes
  pub has_longer : (heard more : List ℕ) (done : ℕ) (m now : Maker W) → HasMade w plan heard done m → now.framer.held.items ≡ m.framer.held.items ++ more → now.work ≡ m.work → now.packer ≡ m.packer
      → HasMade w plan (heard ++ more) done now
  has_longer heard more done m now h held work packer = record {
    held = held ∙ held-longer plan.kind.channels plan.samples done heard more m.framer.held.items h.held h.within;
    within = let e = length-append heard more in let x = h.within in omega arith;
    shows = subst (λ x. w.Shows x (state_before w.function (plan_row w.function plan (heard ++ more)) done)) (sym work) (subst (w.Shows m.work) (sym (state_longer w.function plan heard more done h.within)) h.shows);
    packs = subst (Packs plan (plan_frame w.function plan (heard ++ more)) done) (sym packer)
        (packs-same plan (plan_frame w.function plan heard) (plan_frame w.function plan (heard ++ more)) done (frame_longer w.function plan heard more done h.within) m.packer h.packs);
  }

  pub makes_longer : (heard more : List ℕ) (done packets : ℕ) (m now : Maker W) (old new : Option (List ℕ)) → MakesMore w plan heard done packets m old new → now.framer.held.items ≡ m.framer.held.items ++ more → now.work ≡ m.work
      → now.packer ≡ m.packer → MakesMore w plan (heard ++ more) done packets now old new
  makes_longer heard more done packets m now old new h held work packer = record {
    made = has_longer heard more done m now h.made held work packer;
    wrote = subst (λ p. WritesFull plan (plan_frame w.function plan (heard ++ more)) done packets p old new) (sym packer)
        (full-same plan (plan_frame w.function plan heard) (plan_frame w.function plan (heard ++ more)) done (frame_longer w.function plan heard more done h.made.within) packets m.packer old new h.wrote);
  }

  -- the page of a packet that got full, behind what was made
  pub then_full : (heard : List ℕ) (done packets : ℕ) (mid : Maker W) (now : Packer) (old between new : Option (List ℕ)) (result : Result (Unit {0}) Failed) → MakesMore w plan heard done packets mid old between
      → Packed plan (plan_frame w.function plan heard) done mid.packer.packets now between new result → Made w plan heard done packets (record { work = mid.work; framer = mid.framer; packer = now }) old new result
  then_full heard done packets mid now old between new (Ok written) h p = record {
    made = record { held = h.made.held; within = h.made.within; shows = h.made.shows; packs = p.packs };
    wrote = wrote_on plan (plan_frame w.function plan heard) old done done packets mid.packer now between new (Ok written) h.wrote p;
  }
  then_full heard done packets mid now old between new (Err failure) h p = wrote_on plan (plan_frame w.function plan heard) old done done packets mid.packer now between new (Err failure) h.wrote p

  -- ---- a loop over the bytes of samples

  -- before any were taken in
  pub takes_none : (heard : List ℕ) (batches : ℕ) (m : Maker W) (old : Option (List ℕ)) → HasMade w plan heard (16 * batches) m → TakesAll w plan (heard ++ []) m.packer.packets m old old
  takes_none heard batches m old h = record {
    batches = batches;
    makes = subst (λ l. MakesMore w plan l (16 * batches) m.packer.packets m old old) (sym (append-nil heard)) (record { made = h; wrote = wrote_none plan (plan_frame w.function plan heard) old (16 * batches) m.packer h.packs });
  }

  -- more of them were
  pub takes_longer : (heard more : List ℕ) (packets : ℕ) (m now : Maker W) (old new : Option (List ℕ)) → TakesAll w plan heard packets m old new → now.framer.held.items ≡ m.framer.held.items ++ more → now.work ≡ m.work
      → now.packer ≡ m.packer → TakesAll w plan (heard ++ more) packets now old new
  takes_longer heard more packets m now old new t held work packer = record { batches = t.batches; makes = makes_longer heard more (16 * t.batches) packets m now old new t.makes held work packer }

  -- a batch was made
  pub takes_batch : (heard : List ℕ) (packets : ℕ) (m now : Maker W) (old between new : Option (List ℕ)) (t : TakesAll w plan heard packets m old between) → MakesMore w plan heard (16 * t.batches + 16) m.packer.packets now between new
      → TakesAll w plan heard packets now old new
  takes_batch heard packets m now old between new t h =
      let e : 16 * t.batches + 16 ≡ 16 * (t.batches + 1) = omega arith in
      record {
        batches = t.batches + 1;
        makes = subst (λ n. MakesMore w plan heard n packets now old new) e (record {
          made = h.made;
          wrote = wrote_on plan (plan_frame w.function plan heard) old (16 * t.batches) (16 * t.batches + 16) packets m.packer now.packer between new (Ok tt) t.makes.wrote h.wrote;
        });
      }

  -- a batch failed, once its windows were held; of all bytes some are still to be taken in
  pub takes_failed : (heard more : List ℕ) (packets : ℕ) (m : Maker W) (old between new : Option (List ℕ)) (t : TakesAll w plan heard packets m old between) → 2 * batch_len plan.kind 16 ≤ length m.framer.held.items
      → WritesSome plan (plan_frame w.function plan heard) (16 * t.batches + 16) m.packer.packets between new → TakesSome w.function plan (heard ++ more) packets old new
  takes_failed heard more packets m old between new t room h =
      let e : 16 * t.batches + 16 ≡ 16 * (t.batches + 1) = omega arith in
      let done = 16 * (t.batches + 1) in
      let long : 2 * (plan.kind.channels * (lead + 16 * plan.samples)) ≤ length m.framer.held.items = subst (λ n. 2 * (plan.kind.channels * (lead + 16 * n)) ≤ length m.framer.held.items) (sym plan.samples_is) room in
      let within : group_bytes plan.kind.channels (done * plan.samples) ≤ length heard =
      subst (λ n. group_bytes plan.kind.channels (n * plan.samples) ≤ length heard) e
      (held-within plan.kind.channels plan.samples (16 * t.batches) 16 heard m.framer.held.items t.makes.made.held t.makes.made.within long) in
      record {
        batches = t.batches + 1;
        within = let n = length-append heard more in omega arith;
        wrote = some-same plan (plan_frame w.function plan heard) (plan_frame w.function plan (heard ++ more)) done (frame_longer w.function plan heard more done within) packets old new
            (subst (λ n. WritesSome plan (plan_frame w.function plan heard) n packets old new) e
            (wrote_on plan (plan_frame w.function plan heard) old (16 * t.batches) (16 * t.batches + 16) packets m.packer m.packer between new (Err (record {})) t.makes.wrote h));
      }

  -- more bytes were taken in, with those before them
  abbrev pub with_held : Maker W → Vec ℕ Global → Maker W
  with_held m held = record { work = m.work; framer = record { held = held; samples = m.framer.samples; frames = m.framer.frames }; packer = m.packer }

  pub takes_in : (heard consumed more : List ℕ) (packets : ℕ) (m : Maker W) (held : Vec ℕ Global) (old new : Option (List ℕ)) → TakesAll w plan (heard ++ consumed) packets m old new → held.items ≡ m.framer.held.items ++ more
      → TakesAll w plan (heard ++ (consumed ++ more)) packets (with_held m held) old new
  takes_in heard consumed more packets m held old new t is =
      subst (λ l. TakesAll w plan l packets (with_held m held) old new) (append_assoc heard consumed more) (takes_longer (heard ++ consumed) more packets m (with_held m held) old new t is refl refl)
