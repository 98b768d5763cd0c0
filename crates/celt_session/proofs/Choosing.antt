-- One of two works, on a page.
use Rattle.std.proofs.Common.{◌≡◌, ℕ, List, subst, Option, Result, Ok, Err, ◌⊎◌, inl, inr}
use Rattle.celt_base.specs.declared.outside.Failed.{Failed}
use Rattle.celt_session.specs.declared.samples.Samples.{Samples}
use Rattle.celt_session.specs.declared.lines.Lines.{Lines}
use Rattle.celt_session.specs.declared.work.PageWork.{PageWork}
use Rattle.celt_session.specs.declared.work.PageWork.TheVariants as works
use Rattle.celt_session.specs.Pages.{Heard}
use Rattle.celt_session.specs.Decoding.{samples, lines}
use Rattle.celt_session.specs.Works.{Worked}
use Rattle.celt_session.specs.PageWorks.{samples_work, lines_work, page_work, ShowsSamples, ShowsLines, ShowsPages}

samples_by : (x y : Samples) (heard : Heard) (old new : Option (List ℕ)) (result : Result (Unit {0}) Failed) (s : samples.State ⊎ lines.State)
    → ((s : samples.State) → ShowsSamples x s → Worked samples_work s heard y old new result) → ShowsPages (works.Samples x) s → Worked page_work s heard (works.Samples y) old new result
samples_by x y heard old new (Ok done) (inl s) works shows = works s shows
samples_by x y heard old new (Err e) (inl s) works shows = works s shows
samples_by x y heard old new result (inr s) works shows = absurd shows

lines_by : (x y : Lines) (heard : Heard) (old new : Option (List ℕ)) (result : Result (Unit {0}) Failed) (s : samples.State ⊎ lines.State)
    → ((s : lines.State) → ShowsLines x s → Worked lines_work s heard y old new result) → ShowsPages (works.Lines x) s → Worked page_work s heard (works.Lines y) old new result
lines_by x y heard old new (Ok done) (inr s) works shows = works s shows
lines_by x y heard old new (Err e) (inr s) works shows = works s shows
lines_by x y heard old new result (inl s) works shows = absurd shows

pub samples_works : (self : PageWork) (x y : Samples) (heard : Heard) (old new : Option (List ℕ)) (result : Result (Unit {0}) Failed) (s : samples.State ⊎ lines.State) → self ≡ works.Samples x
    → ((s : samples.State) → ShowsSamples x s → Worked samples_work s heard y old new result) → ShowsPages self s → Worked page_work s heard (works.Samples y) old new result
samples_works self x y heard old new result s is works shows = samples_by x y heard old new result s works (subst (λ t. ShowsPages t s) is shows)

pub lines_works : (self : PageWork) (x y : Lines) (heard : Heard) (old new : Option (List ℕ)) (result : Result (Unit {0}) Failed) (s : samples.State ⊎ lines.State) → self ≡ works.Lines x
    → ((s : lines.State) → ShowsLines x s → Worked lines_work s heard y old new result) → ShowsPages self s → Worked page_work s heard (works.Lines y) old new result
lines_works self x y heard old new result s is works shows = lines_by x y heard old new result s works (subst (λ t. ShowsPages t s) is shows)
