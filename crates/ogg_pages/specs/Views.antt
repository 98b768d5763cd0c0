-- The page that a view shows.
use Rattle.std.specs.Prelude.{List, ℕ}
use Rattle.ogg_pages.specs.declared.view.PageView.{PageView}
use Rattle.ogg_pages.specs.Fields.{Page, page_of}

abbrev pub bytes_in : PageView → List ℕ
bytes_in view = view.bytes.now

abbrev pub page_in : PageView → Page
page_in view = page_of (bytes_in view)
