-- A session that was fed nothing, one that stopped, and the end of one.
use Rattle.std.proofs.Common.{◌≡◌, ℕ, List, [], ◌∷◌, ◌++◌, false, refl, sym, ◌∙◌, ap, subst, append-nil, append_assoc, None}
use Rattle.std.specs.List.{concat}
use Rattle.ogg_pages.specs.Stream.{Stream, no_page, stream}
use Rattle.opus_stream.specs.Acceptance.{accepted_after, fault_after, accepted, fault_of, end_fault_of}
use Rattle.opus_stream.specs.Readers.{Reader, StandsFor as ReadsTo}
use Rattle.celt_session.specs.Pages.{heard_after}
use Rattle.celt_session.specs.PageFunctions.{PageFunction, state_after, said, running, added_by, added_in_pieces, fault_now, lasting, end_fault}
use Rattle.celt_session.specs.Works.{Works}
use Rattle.celt_session.specs.Sessions.{Along, IsFed, Held, StandsFor, StandsBy}
use Rattle.celt_session.proofs.Folding.{none-said, running-is, running-front}

nothing : stream [] ≡ no_page []
unfolding stream Rattle.ogg_pages.specs.Stream.stream_in
nothing = refl

pub no_pages : accepted [] ≡ []
unfolding accepted accepted_after
no_pages = ap (λ (s : Stream). accepted_after [] s.pages) nothing

pub no_fault : fault_now [] ≡ None
unfolding fault_of fault_after
no_fault = ap (λ (s : Stream). lasting (fault_after [] s.pages s.ending)) nothing

pub fed_nothing : {W : Type 0} (w : Works W) (start : w.function.State) (reader : Reader) (work : W) → ReadsTo reader [] 0 → w.Shows work start → IsFed w start reader work []
unfolding state_after heard_after
fed_nothing w start reader work reads shows = record {
  along = subst (Along w start reader work []) (sym no_pages) (record { given = refl; reads = reads; shows = shows });
  sound = no_fault;
}

pub going : {W : Type 0} (w : Works W) (start : w.function.State) (s : Held W) (bytes : List ℕ) → s.is_ended ≡ false → StandsFor w start s bytes → IsFed w start s.reader s.work bytes
going w start s bytes is stands = subst (StandsBy w start s bytes) is stands

-- the fault of its end is the stream's
pub end_is : {W : Type 0} (w : Works W) (start : w.function.State) (reader : Reader) (work : W) (bytes : List ℕ) → IsFed w start reader work bytes → end_fault_of bytes ≡ end_fault bytes
unfolding end_fault_of
end_is w start reader work bytes f = refl

-- ---- pieces

-- what was added of the bytes before, and of the pieces
pieces_behind : (f : PageFunction) (start : f.State) (bytes : List ℕ) (pieces : List (List ℕ)) → running f start bytes ++ added_in_pieces f start bytes pieces ≡ running f start (bytes ++ concat pieces)
unfolding added_in_pieces
pieces_behind f start bytes [] = append-nil (running f start bytes) ∙ ap (running f start) (sym (append-nil bytes))
pieces_behind f start bytes (piece ∷ pieces) =
    sym (append_assoc (running f start bytes) (added_by f start bytes (bytes ++ piece)) (added_in_pieces f start (bytes ++ piece) pieces))
    ∙ ap (λ l. l ++ added_in_pieces f start (bytes ++ piece) pieces) (sym (running-front f start bytes piece))
    ∙ pieces_behind f start (bytes ++ piece) pieces ∙ ap (running f start) (append_assoc bytes piece (concat pieces))

pub all_pieces : (f : PageFunction) (start : f.State) (pieces : List (List ℕ)) → added_in_pieces f start [] pieces ≡ running f start (concat pieces)
all_pieces f start pieces =
    ap (λ l. l ++ added_in_pieces f start [] pieces) (sym (running-is f start [] ∙ ap (said f start) no_pages ∙ none-said f start)) ∙ pieces_behind f start [] pieces
