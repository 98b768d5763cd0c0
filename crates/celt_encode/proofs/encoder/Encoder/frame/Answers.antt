use Rattle.std.proofs.Common.{◌≡◌, ℕ, length, ap, subst, ◌∙◌, arith}
use Rattle.celt_encode.specs.Encoders.{outset_for, encoded, kept, after_frame}
use Rattle.celt_encode.specs.Frames.{frame_of, kept_of, fell_of}
use Rattle.celt_encode.specs.Outsets.{outset_of}
use Rattle.celt_encode.specs.contracts.encoder.Encoder.{the_view}
use Rattle.celt_synth.specs.Readings.{share_by}
use Rattle.frame_symbols.specs.Held.{HoldsFrame}
use Rattle.frame_symbols.specs.HeldSymbols.{answers_in, AreOf}
use Rattle.frame_symbols.specs.Readings.{IsReading}
use Rattle.celt_encode.proofs.EncoderSteps.{after_is}
use Rattle.celt_encode.proofs.encoder.Encoder.frame.Goals as goal

pub write-self-inside-requires-clause-len : goal.write-self-inside-requires-clause-len
write-self-inside-requires-clause-len c = let e = c.hear.ensures.len in let most = c.requires.most in omega (arith, e, most)

pub share-self-inside-requires : goal.share-self-inside-requires
share-self-inside-requires c =
    let f = c.write-self-inside.ensures.are.fields in
    record { held = (f.value, subst (λ k. HoldsFrame k c.write-self-inside.new.out.fields f.value) c.hear.ensures.kind f.holds) }

pub returns-clause-bytes : goal.returns-clause-bytes
unfolding encoded
returns-clause-bytes c =
    let n : ℕ = length c.args.room.now in
    let i = c.self.inside in
    c.write-self-inside.ensures.bytes
    ∙ ap frame_of (c.hear.ensures.outset
    ∙ ap (λ e. outset_for e c.args.a.now n) c.self.view_is)

pub returns-clause-kept : goal.returns-clause-kept
unfolding kept
returns-clause-kept c =
    let n : ℕ = length c.args.room.now in
    let i = c.self.inside in
    c.write-self-inside.ensures.kept
    ∙ ap kept_of (c.hear.ensures.outset
    ∙ ap (λ e. outset_for e c.args.a.now n) c.self.view_is)

pub returns-clause-symbols : goal.returns-clause-symbols
returns-clause-symbols c =
    subst (λ k. AreOf k (length c.args.room.now) c.write-self-inside.new.out) (c.hear.ensures.kind ∙ ap (λ e. e.kind) c.self.view_is) c.write-self-inside.ensures.are

pub returns-clause-read : goal.returns-clause-read
returns-clause-read c =
    subst (λ k. IsReading k c.write-self-inside.new.room (answers_in c.write-self-inside.new.out)) (c.hear.ensures.kind ∙ ap (λ e. e.kind) c.self.view_is)
    c.write-self-inside.ensures.read

pub returns-clause-state : goal.returns-clause-state
unfolding kept
returns-clause-state c =
    let n : ℕ = length c.args.room.now in
    let i = c.self.inside in
    let outset : outset_of c.hear.new.frame ≡ outset_for (the_view i) c.args.a.now n =
    c.hear.ensures.outset in
    let are = subst (λ k. AreOf k n c.write-self-inside.new.out) c.hear.ensures.kind c.write-self-inside.ensures.are in
    after_is (the_view i) c.args.a.now n _ (answers_in c.write-self-inside.new.out) _ (c.write-self-inside.ensures.kept ∙ ap kept_of outset)
    (c.share-self-inside.ensures.of n are) (c.write-self-inside.ensures.fell ∙ ap fell_of outset)
    ∙ ap (λ e. after_frame e c.args.a.now n) c.self.view_is

pub returns-clause-shares : goal.returns-clause-shares
returns-clause-shares c =
    let n : ℕ = length c.args.room.now in
    let are = subst (λ k. AreOf k n c.write-self-inside.new.out) c.hear.ensures.kind c.write-self-inside.ensures.are in
    c.share-self-inside.ensures.of n are ∙ ap (λ e. share_by e.kind n (answers_in c.write-self-inside.new.out) e.shared) c.self.view_is

pub returns-clause-kind : goal.returns-clause-kind
returns-clause-kind c = ap (λ e. e.kind) c.self.view_is
