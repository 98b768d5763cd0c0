-- The work on pages: the function of a page that it computes, and what a call of it does.
use Rattle.std.specs.Prelude.{ℕ, List, Option, Result, Ok, Err}
use Rattle.std.specs.Io.KnownBytes.{Appends}
use Rattle.celt_base.specs.declared.outside.Failed.{Failed}
use Rattle.celt_base.specs.Outside.{AppendsFront}
use Rattle.celt_session.specs.Pages.{Heard}
use Rattle.celt_session.specs.PageFunctions.{PageFunction}

-- The function of a page, the states that an object shows (what else it holds does not matter), and how many pages it worked on,
-- at most.
pub record Works (W : Type 0) : Type 1 where
  pub function : PageFunction
  pub Shows : W → function.State → Type 0
  pub count : W → ℕ

-- what a call of the work on a page does
abbrev pub Worked : {W : Type 0} (w : Works W) → w.function.State → Heard → W → Option (List ℕ) → Option (List ℕ) → Result (Unit {0}) Failed → Type 0
Worked w s page now old new (Ok done) = w.Shows now (w.function.next s page) × Appends old new (w.function.says s page)
Worked w s page now old new (Err failure) = AppendsFront old new (w.function.says s page)
