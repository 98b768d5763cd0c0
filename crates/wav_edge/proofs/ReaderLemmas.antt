-- A reading under way, seen as an answer.
use Rattle.std.proofs.Common.{◌≡◌, ℕ, Bool, List, [], ◌++◌, length, take, refl, ap, sym, ◌∙◌, true, false, Option, None, ◌≤◌, ◌<◌, ◌⊎◌, inl, inr, nat_eq, arith}
use Rattle.std.proofs.lemmas.Bool.Decides.{nat_tests}
use Rattle.wav_edge.specs.Parts.{is_readable}
use Rattle.std.proofs.lemmas.List.{append-nil}
use Rattle.wav_edge.specs.declared.cursor.Cursor.{Cursor}
use Rattle.wav_edge.specs.declared.cursor.State.{State}
use Rattle.wav_edge.specs.declared.cursor.State.TheVariants.{Reading, Started, Stopped}
use Rattle.wav_edge.specs.declared.reader.Header.TheVariants.{Need}
use Rattle.wav_edge.specs.declared.reader.HeaderReader.{HeaderReader}
use Rattle.wav_edge.specs.Cursors.{resumed, resumed_state, is_started, stopped_by, EndsBetween, IsStep, next_place}
use Rattle.wav_edge.specs.Readers.{StandsFor, answered, has_started, fault_of}
use Rattle.wav_edge.specs.Reading.{Outcome, outcome, end_fault, fault_at_end}
use Rattle.wav_edge.specs.Reading.Outcome.{Unfinished}
use Rattle.wav_edge.proofs.ReadLemmas.{unfinished, apart_taken}

-- a reading under way has neither samples nor a fault
pub waits : (cursor : Cursor) (before : ℕ) → answered before (resumed cursor []) ≡ Need
unfolding resumed
waits cursor before =
    ap (answered before) (unfinished (take cursor.len cursor.held) cursor.left cursor.seen cursor.at cursor.untold (apart_taken cursor.held cursor.len cursor.left cursor.apart))

-- what a reader's bytes and a piece give is what its state after the piece gives
pub comes_to : (reader : HeaderReader) (bytes piece : List ℕ) (after : Outcome) → StandsFor reader bytes →
    resumed_state reader.state (piece ++ []) ≡ after → outcome (bytes ++ piece) ≡ after
comes_to reader bytes piece after stands e =
    stands.resumes piece ∙ ap (resumed_state reader.state) (sym (append-nil piece)) ∙ e

unstarted : (state : State) (between : Bool) → is_started state ≡ false → stopped_by state ≡ None → EndsBetween state between → resumed_state state [] ≡ Unfinished between
unstarted (Reading cursor) between e f ends = ends
unstarted (Started channels rate size place) between e f ends = cc
unstarted (Stopped fault) between e f ends = cc

-- the end of the bytes that a reader under way was fed
pub ends_at : (reader : HeaderReader) (bytes : List ℕ) (between : Bool) → has_started reader ≡ false → fault_of reader ≡ None → StandsFor reader bytes → EndsBetween reader.state between →
    end_fault bytes ≡ fault_at_end (Unfinished between) reader.fed
unfolding end_fault
ends_at reader bytes between e f stands ends =
    let given : outcome bytes ≡ Unfinished between = ap outcome (sym (append-nil bytes)) ∙ stands.resumes [] ∙ unstarted reader.state between e f ends in
    ap (λ (o : Outcome). fault_at_end o (length bytes)) given ∙ ap (fault_at_end (Unfinished between)) (sym stands.count)

-- what a reader's state after a piece gives is what its state before gave for the piece
pub said_by : (reader : HeaderReader) (piece : List ℕ) (after : Outcome) → resumed_state reader.state (piece ++ []) ≡ after → resumed_state reader.state piece ≡ after
said_by reader piece after e = ap (resumed_state reader.state) (sym (append-nil piece)) ∙ e

-- samples that a step found can be read
pub step_readable : (state : State) (n channels rate : ℕ) (size : Option ℕ) (place : ℕ) → is_started state ≡ false → IsStep state n (Started channels rate size place) → is_readable channels rate ≡ true
step_readable (Reading cursor) n channels rate size place e step = step.2
step_readable (Started c r s p) n channels rate size place e step = cc
step_readable (Stopped fault) n channels rate size place e step = cc

-- samples that a step found begin behind the bytes before it
pub step_begins : (state : State) (fed n channels rate : ℕ) (size : Option ℕ) (place : ℕ) → is_started state ≡ false → next_place state fed ≡ fed →
    IsStep state n (Started channels rate size place) → fed < place
step_begins (Reading cursor) fed n channels rate size place e placed step = omega (arith, placed, step.0)
step_begins (Started c r s p) fed n channels rate size place e placed step = cc
step_begins (Stopped fault) fed n channels rate size place e placed step = cc

pub readable_bounds : (channels rate : ℕ) → is_readable channels rate ≡ true → (1 ≤ channels) × (channels ≤ 2) × (rate ≡ 48000)
unfolding is_readable
readable_bounds channels rate h = (grind (arith, nat_tests), grind (arith, nat_tests), grind (arith, nat_tests))

pub readable_cases : (channels rate : ℕ) → is_readable channels rate ≡ true → (channels ≡ 1) ⊎ (channels ≡ 2)
readable_cases channels rate h =
    let bounds = readable_bounds channels rate h in
    elim (nat_eq channels 1) as (λ t. nat_eq channels 1 ≡ t → (channels ≡ 1) ⊎ (channels ≡ 2)) [
      | true ↦ λ e. inl (grind (arith, nat_tests))
      | false ↦ λ e. inr (grind (arith, nat_tests))
    ] refl
