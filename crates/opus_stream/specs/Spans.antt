-- The samples that pages give, said of all of them.
use Rattle.std.specs.Prelude.{ℕ, ℤ, ◌+◌, ◌-◌, List, [], ◌∷◌, ◌++◌, sum_by}
use Rattle.std.specs.List.{flat_map, slice_range}
use Rattle.ogg_pages.specs.Fields.{Page}
use Rattle.opus_stream.specs.declared.answers.Span.{Span}
use Rattle.opus_stream.specs.Granules.{samples_on}
use Rattle.opus_stream.specs.Acceptance.{audio_in, last_span}

abbrev pub span_len : Span → ℕ
span_len s = s.to - s.from

-- what is written of each page, behind the pages before
unfoldable pub spans_after : List Page → List Page → List Span
spans_after before [] = []
spans_after before (page ∷ pages) = last_span (before ++ page ∷ []) ∷ spans_after (before ++ page ∷ []) pages

-- how many samples are written in all
unfoldable pub written_in : List Page → ℕ
written_in pages = sum_by span_len (spans_after [] pages)

-- a span of a page, counted among the samples of all packets, of which so many stand before the page
abbrev pub placed : ℕ → Span → Span
placed before s = record { from = before + s.from; to = before + s.to }

-- where what is written of each page stands among the samples of all packets
unfoldable pub places_after : List Page → List Page → List Span
places_after before [] = []
places_after before (page ∷ pages) = placed (samples_on (audio_in before)) (last_span (before ++ page ∷ [])) ∷ places_after (before ++ page ∷ []) pages

-- of samples in order those of a span
abbrev pub cut_out : List ℤ → Span → List ℤ
cut_out samples s = slice_range samples s.from s.to

-- of the samples of all packets, in order, those that are written
abbrev pub written_of : List ℤ → List Page → List ℤ
written_of samples pages = flat_map (cut_out samples) (places_after [] pages)
