-- The events of a choice are those that a frame has.
use Rattle.std.proofs.Common.{◌≤◌}
use Rattle.std.specs.Prelude.{ℤ}
use Rattle.celt_base.specs.declared.kind.Kind.{Kind}
use Rattle.celt_base.specs.Paces.{Pace, paced}
use Rattle.celt_base.specs.WalkCalls.{meant}
use Rattle.celt_base.specs.WalkScripts.{Script, Done, Look, Ask, Begin}
use Rattle.celt_base.specs.Walks.{Asked}
use Rattle.frame_symbols.specs.Frames.{frame_script, first_pace}
use Rattle.frame_symbols.specs.Validity.{AllValid}
use Rattle.frame_symbols.proofs.ValidityFrames.{frame_valid}
use Rattle.range_coder.specs.Nearest.{IsNearest}
use Rattle.celt_encode.specs.Choices.{choose, answer_at}
use Rattle.celt_encode.specs.Frames.{choice_of}
use Rattle.celt_encode.specs.Outsets.{Outset}
use Rattle.celt_encode.specs.Places.{HasRows, AllPlaces, AreMet}
use Rattle.celt_encode.specs.Standing.{Standing, entered_in, noted, begun}
use Rattle.celt_encode.specs.Wanted.{wanted}
use Rattle.celt_encode.proofs.NearestSteps.{is_nearest}
use Rattle.celt_encode.proofs.PlaceFrames.{frame_places}

choice_met : {A : Type 0} (kind : Kind) (script : Script A) (s : Standing) (pace : Pace) → AllPlaces kind s script → AllValid script
    → AreMet kind s (choose noted wanted s script pace).events
choice_met kind (Done value) s pace g v = tt
choice_met kind (Look look) s pace g v = choice_met kind (look pace) s pace (g pace) (v pace)
choice_met kind (Begin at script) s pace g v = (g.0, g.1, choice_met kind script (entered_in s at) pace g.2 v)
choice_met kind (Ask at question follow) s pace g v =
    let answer : ℤ = answer_at at question (wanted s at) in
    let near : IsNearest question (meant at question (wanted s at)) answer = is_nearest question (meant at question (wanted s at)) v.0 in
    let next = g.2 answer near in
    (g.0, g.1, next.0, choice_met kind (follow answer) (noted s (Asked at question answer)) (paced question answer pace) next.1 (v.2 answer near.is_answer))

pub all_met : (f : Outset) → HasRows f → f.len ≤ 1275 → AreMet f.kind (begun f) (choice_of f).events
unfolding choice_of
all_met f rows short = choice_met f.kind (frame_script f.kind f.len) (begun f) first_pace (frame_places f rows short) (frame_valid f.kind f.len).is
