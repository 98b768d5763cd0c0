use Rattle.std.proofs.Common.{ℕ, ◌+◌, ◌-◌, ◌≤◌, ◌<◌, List, ◌++◌, length, take, sym, ap, subst, ◌∙◌, arith}
use Rattle.wav_edge.specs.declared.parts.Part.{Part}
use Rattle.wav_edge.specs.declared.parts.Part.TheVariants.{Passed, Samples}
use Rattle.wav_edge.specs.Parts.{part_at, is_more}
use Rattle.wav_edge.specs.Cursors.{resumed}
use Rattle.wav_edge.specs.Reading.{read}
use Rattle.wav_edge.proofs.PartLemmas.{part_told, IsTold, Beyond}
use Rattle.wav_edge.proofs.ReadLemmas.{Grown, put_behind, grown, grown_beyond, read_passed, read_samples, read_broken}
use Rattle.wav_edge.proofs.cursor.Cursor.take.Goals as goal

pub overflow_sub-length : goal.overflow_sub-length
overflow_sub-length c =
    let s = c.args.self in
    let ys = c.split_at.result.0.now in
    let there : s.len < length s.held = omega arith in
    let g : Grown s.held s.len c.args.byte ys = put_behind s.held s.len c.args.byte ys there c.split_at.ensures.front in
    let far : Beyond (length (take s.len s.held)) (Passed c.in-Passed.seen c.in-Passed.length) =
    grown_beyond (take s.len s.held) ys c.args.byte s.seen s.at (Passed c.in-Passed.seen c.in-Passed.length) g.joined s.untold c.in-Passed.ensures in
    omega (arith, g.before, far)

pub between-requires : goal.between-requires
between-requires c =
    let s = c.args.self in
    subst (IsTold (length c.split_at.result.0.now)) (sym c.in-Passed.ensures) (part_told s.seen s.at c.split_at.result.0.now s.readable)

pub invariant_of-result : goal.invariant_of-result
invariant_of-result c =
    let s = c.args.self in
    let ys = c.split_at.result.0.now in
    let there : s.len < length s.held = omega arith in
    let g : Grown s.held s.len c.args.byte ys = put_behind s.held s.len c.args.byte ys there c.split_at.ensures.front in
    let few : length ys < 34 = subst (IsTold (length ys)) (sym c.in-More.ensures) (part_told s.seen s.at ys s.readable) in
    record {
      readable = s.readable;
      room = omega (arith, few, g.after);
      apart = omega arith;
      untold = ap (λ (bytes : List ℕ). is_more (part_at s.seen s.at bytes)) (sym c.split_at.ensures.front) ∙ ap is_more (sym c.in-More.ensures);
    }

pub returns-in-More-clause-resumes : goal.returns-in-More-clause-resumes
unfolding resumed
returns-in-More-clause-resumes c = λ more.
    let s = c.args.self in
    let ys = c.split_at.result.0.now in
    let there : s.len < length s.held = omega arith in
    let g : Grown s.held s.len c.args.byte ys = put_behind s.held s.len c.args.byte ys there c.split_at.ensures.front in
    grown (take s.len s.held) ys more c.args.byte s.left s.seen s.at g.joined c.requires.inside
    ∙ ap (λ (bytes : List ℕ). read (bytes ++ more) 0 s.seen s.at) c.split_at.ensures.front

pub returns-in-Passed-clause-resumes : goal.returns-in-Passed-clause-resumes
unfolding resumed
returns-in-Passed-clause-resumes c = λ more.
    let s = c.args.self in
    let ys = c.split_at.result.0.now in
    let there : s.len < length s.held = omega arith in
    let g : Grown s.held s.len c.args.byte ys = put_behind s.held s.len c.args.byte ys there c.split_at.ensures.front in
    let far : Beyond (length (take s.len s.held)) (Passed c.in-Passed.seen c.in-Passed.length) =
    grown_beyond (take s.len s.held) ys c.args.byte s.seen s.at (Passed c.in-Passed.seen c.in-Passed.length) g.joined s.untold c.in-Passed.ensures in
    grown (take s.len s.held) ys more c.args.byte s.left s.seen s.at g.joined c.requires.inside
    ∙ read_passed ys more s.seen c.in-Passed.seen s.at c.in-Passed.length (sym c.in-Passed.ensures) (omega (arith, g.after)) (omega (arith, g.before, g.after, far))
    ∙ ap (λ (n : ℕ). read more (c.in-Passed.length - n) c.in-Passed.seen (s.at + n)) g.after
    ∙ sym (c.between.ensures.resumes more)

pub returns-in-Samples-clause-moved : goal.returns-in-Samples-clause-moved
returns-in-Samples-clause-moved c =
    let s = c.args.self in
    let ys = c.split_at.result.0.now in
    let there : s.len < length s.held = omega arith in
    let g : Grown s.held s.len c.args.byte ys = put_behind s.held s.len c.args.byte ys there c.split_at.ensures.front in
    let p : Part = Samples c.in-Samples.channels c.in-Samples.rate c.in-Samples.size in
    let far : Beyond (length (take s.len s.held)) p = grown_beyond (take s.len s.held) ys c.args.byte s.seen s.at p g.joined s.untold c.in-Samples.ensures in
    let told : IsTold (length ys) p = subst (IsTold (length ys)) (sym c.in-Samples.ensures) (part_told s.seen s.at ys s.readable) in
    let eight : 8 ≤ length ys = told.0 in
    (omega (arith, g.before, far), omega (arith, g.after, eight), told.1)

pub returns-in-Samples-clause-resumes : goal.returns-in-Samples-clause-resumes
unfolding resumed
returns-in-Samples-clause-resumes c = λ more.
    let s = c.args.self in
    let ys = c.split_at.result.0.now in
    let there : s.len < length s.held = omega arith in
    let g : Grown s.held s.len c.args.byte ys = put_behind s.held s.len c.args.byte ys there c.split_at.ensures.front in
    grown (take s.len s.held) ys more c.args.byte s.left s.seen s.at g.joined c.requires.inside
    ∙ read_samples ys more s.seen s.at c.in-Samples.channels c.in-Samples.rate c.in-Samples.size (sym c.in-Samples.ensures) (omega (arith, g.after))

pub returns-in-Broken-clause-resumes : goal.returns-in-Broken-clause-resumes
unfolding resumed
returns-in-Broken-clause-resumes c = λ more.
    let s = c.args.self in
    let ys = c.split_at.result.0.now in
    let there : s.len < length s.held = omega arith in
    let g : Grown s.held s.len c.args.byte ys = put_behind s.held s.len c.args.byte ys there c.split_at.ensures.front in
    grown (take s.len s.held) ys more c.args.byte s.left s.seen s.at g.joined c.requires.inside
    ∙ read_broken ys more s.seen s.at c.in-Broken.fault (sym c.in-Broken.ensures) (omega (arith, g.after))
