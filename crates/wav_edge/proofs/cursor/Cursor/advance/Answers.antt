use Rattle.std.proofs.Common.{◌≡◌, ℕ, ◌+◌, ◌≤◌, List, ◌++◌, length, take, drop, ap, ◌∙◌, arith}
use Rattle.std.proofs.lemmas.List.{append_assoc, length-take-le, length-drop}
use Rattle.wav_edge.specs.Cursors.{resumed}
use Rattle.wav_edge.proofs.ReadLemmas.{drop_parts}
use Rattle.wav_edge.proofs.cursor.Cursor.advance.Goals as goal

pub loop-next-preserved-then-cursor-gt0 : goal.loop-next-preserved-then-cursor-gt0
loop-next-preserved-then-cursor-gt0 c =
    let piece = c.args.piece.now in
    let i = c.loop-next.next in
    let n = c.min-count.result in
    let within : i + n ≤ length piece = omega arith in
    record {
      within = within;
      place = c.skip-cursor.ensures.moved ∙ omega arith;
      resumes = λ more.
          let some : length (take n (drop i piece)) ≡ n = length-take-le n (drop i piece) (omega (arith, length-drop i piece)) in
          c.loop-next.invariant.resumes more
          ∙ ap (λ (xs : List ℕ). resumed c.loop-next.cursor (xs ++ more)) (drop_parts i n piece)
          ∙ ap (resumed c.loop-next.cursor) (append_assoc (take n (drop i piece)) (drop (i + n) piece) more)
          ∙ c.skip-cursor.ensures.resumes (take n (drop i piece)) (drop (i + n) piece ++ more) some;
    }
