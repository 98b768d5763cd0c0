use Rattle.std.proofs.Common.{◌≡◌, ◌*◌, ◌+◌, ◌^◌, ◌<◌, ◌++◌, ℕ, ℤ, List, arith, ap, sym, subst, ◌∙◌, take, drop, length, w64, FitsSigned}
use Rattle.std.specs.Prelude.{unsigned_abs}
use Rattle.std.proofs.lemmas.Int.{to_z-of_z, fits_signed_from_abs}
use Rattle.fixed_math.specs.Items.{item}
use Rattle.post_filter.specs.Deemphasis.{output_before}
use Rattle.celt_synth.specs.Filters.{AreEmitted, frame_of}
use Rattle.celt_synth.specs.Signals.{Kept, outputs_of, memory_before, kept_after, kept_in, IsBuffer}
use Rattle.celt_synth.proofs.FilterLemmas.{output_agree, emitted_agree}
use Rattle.celt_synth.proofs.SignalLemmas.{kept_is, frame_is, moved_history, moved_overlap, written_back, frame_sizes}
use Rattle.celt_synth.proofs.BlockLemmas.{size_most}
use Rattle.celt_synth.proofs.channels.ChannelBuffer.sound.Goals as goal

pub invariant_of-self : goal.invariant_of-self
invariant_of-self c =
    let n : ℕ = 120 * c.args.form.blocks in
    let a = c.advance.ensures.length in
    let p = c.play.ensures.length in
    let l = c.as_mut_slice-values.ensures.len in
    let v = ap length c.as_mut_slice-values.ensures.value in
    let r = c.self.invariant.room in
    let fr : FitsSigned w64 c.emit-memory.result = record { sfits = c.emit-memory.type_inv } in
    let back : take c.self.inside.values.len (c.advance.new.buf ++ drop (length c.advance.new.buf) c.self.inside.values.items) ≡ c.advance.new.buf =
    written_back c.self.inside.values.len c.advance.new.buf _ (omega (arith, a, p, l, v, r)) in
    simp to_z-of_z
    (subst (λ xs. IsBuffer xs c.emit-memory.result) (sym back)
    (record {
      room = omega (arith, a, p);
      history = moved_history n c.play.new.buf c.advance.new.buf c.play.ensures.sizes c.advance.ensures.moved;
      overlap = moved_overlap n c.play.new.buf c.advance.new.buf c.play.ensures.overlap_sizes c.advance.ensures.moved;
      memory_size = c.emit-memory.ensures.size;
    }))

pub returns-clause-channel : goal.returns-clause-channel
unfolding memory_before
returns-clause-channel c =
    let f = c.args.form in
    let n : ℕ = 120 * f.blocks in
    let xs : List ℤ = c.args.spectrum.now in
    let items : List ℤ = c.self.inside.values.items in
    let memory : ℤ = c.self.inside.memory in
    let part : List ℤ = c.split_at-2.result.0.now in
    let a = c.advance.ensures.length in
    let p = c.play.ensures.length in
    let l = c.as_mut_slice-values.ensures.len in
    let v = c.as_mut_slice-values.ensures.value in
    let vl = ap length v in
    let r = c.self.invariant.room in
    let few = size_most f.blocks c.requires.size in
    let fr : FitsSigned w64 c.emit-memory.result = record { sfits = c.emit-memory.type_inv } in
    let fm : FitsSigned w64 c.self.inside.memory = fits_signed_from_abs w64 _ (let g = c.self.invariant.memory_size in omega (arith, g)) in
    let back : take c.self.inside.values.len (c.advance.new.buf ++ drop (length c.advance.new.buf) items) ≡ c.advance.new.buf = written_back c.self.inside.values.len c.advance.new.buf _ (omega (arith, a, p, l, vl, r)) in
    let out : (q : ℕ) → q < 1024 + n → item c.play.new.buf q ≡ item (outputs_of f (kept_in items) xs) q = λ q b. c.play.ensures.outputs q b ∙ ap (λ ys. item (outputs_of f (kept_in ys) xs) q) v in
    let same = frame_is f (kept_in items) xs c.play.new.buf part (omega (arith, p, few)) (c.split_at-2.ensures.front ∙ ap (take n) c.split_at.ensures.back) out in
    let kept : kept_in (take c.self.inside.values.len (c.advance.new.buf ++ drop (length c.advance.new.buf) items)) ≡ kept_after f (kept_in items) xs =
    ap kept_in back ∙ kept_is f xs c.as_mut_slice-values.result.now c.play.new.buf c.advance.new.buf c.play.ensures.outputs c.play.ensures.overlap c.advance.ensures.moved ∙ ap (λ ys. kept_after f (kept_in ys) xs) v in
    let e : c.emit-memory.result ≡ output_before memory (item part) (length part) = simp to_z-of_z at c.emit-memory.ensures.memory in
    let m : c.emit-memory.result ≡ output_before memory (frame_of (outputs_of f (kept_in items) xs)) n =
    e ∙ ap (output_before memory (item part)) c.split_at-2.ensures.front_len ∙ output_agree memory (item part) (frame_of (outputs_of f (kept_in items) xs)) n same n (omega arith) in
    let whole = to_z-of_z w64 c.emit-memory.result fr ∙ m in
    rw (← c.self.view_is) (λ k. record { kept = kept k; memory = whole k })

pub returns-clause-samples : goal.returns-clause-samples
returns-clause-samples c =
    let f = c.args.form in
    let n : ℕ = 120 * f.blocks in
    let xs : List ℤ = c.args.spectrum.now in
    let items : List ℤ = c.self.inside.values.items in
    let memory : ℤ = c.self.inside.memory in
    let part : List ℤ = c.split_at-2.result.0.now in
    let p = c.play.ensures.length in
    let v = c.as_mut_slice-values.ensures.value in
    let few = size_most f.blocks c.requires.size in
    let fm : FitsSigned w64 c.self.inside.memory = fits_signed_from_abs w64 _ (let g = c.self.invariant.memory_size in omega (arith, g)) in
    let out : (q : ℕ) → q < 1024 + n → item c.play.new.buf q ≡ item (outputs_of f (kept_in items) xs) q = λ q b. c.play.ensures.outputs q b ∙ ap (λ ys. item (outputs_of f (kept_in ys) xs) q) v in
    let same = frame_is f (kept_in items) xs c.play.new.buf part (omega (arith, p, few)) (c.split_at-2.ensures.front ∙ ap (take n) c.split_at.ensures.back) out in
    let g = c.args.place in
    let r : AreEmitted g.gain memory (item part) g.start g.stride (length part) c.args.out.now c.emit-memory.new.out = simp to_z-of_z at c.emit-memory.ensures.samples in
    let t : AreEmitted g.gain memory (item part) g.start g.stride n c.args.out.now c.emit-memory.new.out =
    subst (λ j. AreEmitted g.gain memory (item part) g.start g.stride j c.args.out.now c.emit-memory.new.out) c.split_at-2.ensures.front_len r in
    rw (← c.self.view_is) (emitted_agree g.gain memory (item part) (frame_of (outputs_of f (kept_in items) xs)) g.start g.stride n c.args.out.now c.emit-memory.new.out same t)

pub emit-memory-requires-clause-values : goal.emit-memory-requires-clause-values
emit-memory-requires-clause-values c =
    let n : ℕ = 120 * c.args.form.blocks in
    frame_sizes n c.play.new.buf c.split_at-2.result.0.now (c.split_at-2.ensures.front ∙ ap (take n) c.split_at.ensures.back) c.split_at-2.ensures.front_len c.play.ensures.sizes
