-- One of two functions of a page: its state is a state of the one or of the other.
use Rattle.std.specs.Prelude.{ℕ, List, ◌⊎◌}
use Rattle.std.proofs.Common.{inl, inr}
use Rattle.celt_session.specs.Pages.{Heard}
use Rattle.celt_session.specs.PageFunctions.{PageFunction}

abbrev pub next_by : (f g : PageFunction) → f.State ⊎ g.State → Heard → f.State ⊎ g.State
next_by f g (inl s) heard = inl (f.next s heard)
next_by f g (inr s) heard = inr (g.next s heard)

abbrev pub says_by : (f g : PageFunction) → f.State ⊎ g.State → Heard → List ℕ
says_by f g (inl s) heard = f.says s heard
says_by f g (inr s) heard = g.says s heard

abbrev pub either_function : PageFunction → PageFunction → PageFunction
either_function f g = record { State = f.State ⊎ g.State; next = next_by f g; says = says_by f g }
