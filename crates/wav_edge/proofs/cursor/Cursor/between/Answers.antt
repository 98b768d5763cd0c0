use Rattle.std.proofs.Common.{refl, arith}
use Rattle.wav_edge.specs.Cursors.{resumed}
use Rattle.wav_edge.proofs.PartLemmas.{nothing_told}
use Rattle.wav_edge.proofs.cursor.Cursor.between.Goals as goal

pub invariant_of-result : goal.invariant_of-result
invariant_of-result c = record {
  readable = c.requires;
  room = omega arith;
  apart = omega arith;
  untold = rw (nothing_told c.args.seen c.args.at) refl;
}

pub returns-clause-resumes : goal.returns-clause-resumes
unfolding resumed
returns-clause-resumes c = λ more. refl
