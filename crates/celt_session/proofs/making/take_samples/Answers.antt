use Rattle.celt_session.specs.EncoderPairs.{pair_work}
use Rattle.std.proofs.Common.{◌≡◌, ℕ, ◌-◌, ◌*◌, ◌≤◌, ◌++◌, [], List, length, take, drop, min, ap, sym, subst, ◌∙◌, refl, arith, append_assoc, length-append, length-take}
use Rattle.std.proofs.lemmas.List.{take-append-drop}
use Rattle.std.proofs.lemmas.Nat.{mul-le}
use Rattle.celt_session.specs.FrameWorks.{batch_len}
use Rattle.celt_session.specs.Makers.{group_bytes, TakesSome}
use Rattle.celt_session.proofs.MakerLemmas.{plan_sizes, takes_none, takes_in, with_held, takes_batch, takes_failed}
use Rattle.celt_session.proofs.making.take_samples.Goals as goal

-- the bytes that were taken in, and those behind them
split_on : (piece consumed rest behind : List ℕ) (count : ℕ) → piece ≡ consumed ++ rest → behind ≡ drop count rest → piece ≡ (consumed ++ take count rest) ++ behind
split_on piece consumed rest behind count e back =
    e ∙ ap (λ l. consumed ++ l) (sym (take-append-drop count rest)) ∙ sym (append_assoc consumed (take count rest) (drop count rest)) ∙ ap (λ l. (consumed ++ take count rest) ++ l) (sym back)

-- the bytes of a batch of 16
batch_bytes : (channels samples : ℕ) → 1 ≤ channels → 1 ≤ samples → 16 ≤ group_bytes channels (16 * samples)
batch_bytes channels samples some more = let m = mul-le 1 16 channels (16 * samples) some (omega arith) in omega arith

pub loop-rest-init : goal.loop-rest-init
loop-rest-init g c = record {
  consumed = [];
  split = refl;
  maker = c.requires.maker;
  going = c.requires.going;
  sum = omega arith;
  taken = λ heard batches h. takes_none pair_work c.args.plan heard batches c.args.maker.now (g.K.Sink.held c.args.output.now) h;
  kept = omega arith;
}

pub loop-rest-preserved : goal.loop-rest-preserved
loop-rest-preserved g c =
    let w = pair_work in
    let i = c.loop-rest.invariant in
    let e = c.take_in-count.ensures in
    let rest = c.loop-rest.rest.now in
    let count : c.take_in-count.result ≡ min (length rest) (c.held_len-limit.result - length c.loop-rest.maker.framer.held.items) = e.count in
    let part : length (take c.take_in-count.result rest) ≡ min c.take_in-count.result (length rest) = length-take c.take_in-count.result rest in
    let joined = length-append i.consumed (take c.take_in-count.result rest) in
    let len = c.len.ensures ∙ c.take_in-count.new.held.ok.0 in
    let not_full = c.if-len-limit.false in
    let more = e.len in
    record {
      consumed = i.consumed ++ take c.take_in-count.result rest;
      split = split_on c.args.piece.now i.consumed rest c.split_at.result.1.now c.take_in-count.result i.split c.split_at.ensures.back;
      maker = record {
        makes = i.maker.makes;
        framer = record { held = let a = i.maker.framer.held in let b = e.capacity in omega (arith, a, b); samples = i.maker.framer.samples; frames = i.maker.framer.frames };
        packer = i.maker.packer;
        few = i.maker.few;
      };
      going = record { held = let a = c.held_len-limit.ensures.value in let b = i.going.held in omega arith; less = i.going.less };
      sum = let a = i.sum in omega arith;
      taken = λ heard batches h.
          takes_in w c.args.plan heard i.consumed (take c.take_in-count.result rest) c.args.maker.now.packer.packets c.loop-rest.maker c.take_in-count.new.held (g.K.Sink.held c.args.output.now) (g.K.Sink.held c.loop-rest.output) (i.taken heard batches h) e.held;
      kept = i.kept;
    }

pub loop-rest-preserved-in-Ok-1 : goal.loop-rest-preserved-in-Ok-1
loop-rest-preserved-in-Ok-1 g c =
    let w = pair_work in
    let i = c.loop-rest.invariant in
    let e = c.take_in-count.ensures in
    let m = c.in-Ok.ensures in
    let rest = c.loop-rest.rest.now in
    let count : c.take_in-count.result ≡ min (length rest) (c.held_len-limit.result - length c.loop-rest.maker.framer.held.items) = e.count in
    let part : length (take c.take_in-count.result rest) ≡ min c.take_in-count.result (length rest) = length-take c.take_in-count.result rest in
    let joined = length-append i.consumed (take c.take_in-count.result rest) in
    let len = c.len.ensures ∙ c.take_in-count.new.held.ok.0 in
    let full = c.if-len-limit.true in
    let more = e.len in
    let left = m.held in
    let size = batch_bytes c.args.plan.kind.channels c.args.plan.samples c.args.plan.kind.some_channel (let s = plan_sizes c.args.plan in let t = s.0 in omega arith) in
    record {
      consumed = i.consumed ++ take c.take_in-count.result rest;
      split = split_on c.args.piece.now i.consumed rest c.split_at.result.1.now c.take_in-count.result i.split c.split_at.ensures.back;
      maker = m.maker;
      going = record { held = let a = c.held_len-limit.ensures.value in omega arith; less = m.less };
      sum = let a = i.sum in let b = m.sum in omega arith;
      taken = λ heard batches h.
          let t =
          takes_in w c.args.plan heard i.consumed (take c.take_in-count.result rest) c.args.maker.now.packer.packets c.loop-rest.maker c.take_in-count.new.held (g.K.Sink.held c.args.output.now) (g.K.Sink.held c.loop-rest.output) (i.taken heard batches h) e.held in
          takes_batch w c.args.plan (heard ++ (i.consumed ++ take c.take_in-count.result rest)) c.args.maker.now.packer.packets (with_held w c.args.plan c.loop-rest.maker c.take_in-count.new.held) c.make_whole.new.maker (g.K.Sink.held c.args.output.now) (g.K.Sink.held c.loop-rest.output)
          (g.K.Sink.held c.make_whole.new.output) t (m.made _ _ t.makes.made);
      kept = let a = i.kept in let b = m.cause in omega arith;
    }

pub returns-in_default-clause-taken : goal.returns-in_default-clause-taken
returns-in_default-clause-taken g c = λ heard batches h.
    let w = pair_work in
    let i = c.loop-rest.invariant in
    let e = c.take_in-count.ensures in
    let m = c.in_default.ensures in
    let rest = c.loop-rest.rest.now in
    let part = i.consumed ++ take c.take_in-count.result rest in
    let behind = c.split_at.result.1.now in
    let t =
    takes_in w c.args.plan heard i.consumed (take c.take_in-count.result rest) c.args.maker.now.packer.packets c.loop-rest.maker c.take_in-count.new.held (g.K.Sink.held c.args.output.now) (g.K.Sink.held c.loop-rest.output) (i.taken heard batches h) e.held in
    let room : 2 * batch_len c.args.plan.kind 16 ≤ length c.take_in-count.new.held.items = let len = c.len.ensures ∙ c.take_in-count.new.held.ok.0 in let full = c.if-len-limit.true in let a = c.held_len-limit.ensures.value in omega arith in
    subst (λ l. TakesSome w.function c.args.plan l c.args.maker.now.packer.packets (g.K.Sink.held c.args.output.now) (g.K.Sink.held c.make_whole.new.output))
    (append_assoc heard part behind ∙ ap (λ l. heard ++ l) (sym (split_on c.args.piece.now i.consumed rest behind c.take_in-count.result i.split c.split_at.ensures.back)))
    (takes_failed w c.args.plan (heard ++ part) behind c.args.maker.now.packer.packets (with_held w c.args.plan c.loop-rest.maker c.take_in-count.new.held) (g.K.Sink.held c.args.output.now) (g.K.Sink.held c.loop-rest.output) (g.K.Sink.held c.make_whole.new.output) t room (m.made _ _ t.makes.made))
