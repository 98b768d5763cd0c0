-- What a page reader answers over the bytes that it holds, and what it holds afterwards.
use Rattle.std.specs.Prelude.{◌≡◌, ℕ, List, length, take, drop}
use Rattle.ogg_pages.specs.declared.reader.Step.{Step}
use Rattle.ogg_pages.specs.declared.reader.Step.TheVariants as steps
use Rattle.ogg_pages.specs.declared.page.Verdict.{Verdict}
use Rattle.ogg_pages.specs.declared.page.Verdict.TheVariants.{Whole, Need, Fault}
use Rattle.ogg_pages.specs.Verdicts.{verdict}
use Rattle.ogg_pages.specs.Views.{bytes_in}

-- the verdict on what is held; a page is the bytes that the verdict names
abbrev pub IsStep : List ℕ → Step → Type 0
IsStep held (steps.Page view) = (verdict held ≡ Whole (length (bytes_in view))) × (bytes_in view ≡ take (length (bytes_in view)) held)
IsStep held steps.Need = verdict held ≡ Need
IsStep held (steps.Fault fault) = verdict held ≡ Fault fault

abbrev pub rest_by : Verdict → List ℕ → List ℕ
rest_by (Whole n) held = drop n held
rest_by Need held = held
rest_by (Fault fault) held = held

-- a page that was given is held no longer
abbrev pub after_step : List ℕ → List ℕ
after_step held = rest_by (verdict held) held
