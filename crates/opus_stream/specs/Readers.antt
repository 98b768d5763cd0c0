-- What a reader of streams holds, the bytes and the number of given pages that it stands for, and its answers.
use Rattle.std.specs.Prelude.{◌≡◌, ℕ, ◌+◌, ◌-◌, ◌≤◌, Bool, true, false, List, [], ◌++◌, length, drop, slice_get, Option, None, Some}
use Rattle.celt_base.specs.declared.status.Fault.{Fault}
use Rattle.ogg_pages.specs.declared.page.Verdict.TheVariants as verdicts
use Rattle.ogg_pages.specs.Verdicts.{verdict}
use Rattle.ogg_pages.specs.Fields.{Page, page_of}
use Rattle.ogg_pages.specs.Spelling.{AreBytes}
use Rattle.ogg_pages.specs.Stream.{Stream, Ending, stream}
use Rattle.opus_stream.specs.declared.answers.Accept.{Accept}
use Rattle.opus_stream.specs.declared.answers.Accept.TheVariants as answers
use Rattle.opus_stream.specs.declared.progress.Progress.{Progress}
use Rattle.opus_stream.specs.declared.accepting.Given.{Given}
use Rattle.opus_stream.specs.Rooms.{Kept}
use Rattle.opus_stream.specs.Tests.{is_ended}
use Rattle.opus_stream.specs.Acceptance.{accepted_after, fault_after, accepted, fault_of, is_end_name, answer_of, end_fault_of, given_pages, size_of, last_bytes, last_packets}
use Rattle.opus_stream.specs.Progressing.{StandsAfter}
use Rattle.opus_stream.specs.Accepted.{left_in, Gives}

pub record Reader : Type 0 where
  -- the bytes that are held and were not given as pages
  pub pages : List ℕ
  -- the page that was given last, what it gives, and the room with its packets
  pub page : List ℕ
  pub given : Given
  pub room : Kept
  -- what is kept of the pages that were given
  pub progress : Progress
  -- how many bytes were fed
  pub fed : ℕ
  -- the fault of a page that was taken out and not accepted
  pub fault : Option Fault
  -- whether nothing was fed, or no page was left when it was asked last
  pub is_settled : Bool

abbrev pub is_ended_in : Reader → Bool
is_ended_in r = r.progress.is_ended

abbrev pub packets_of : Reader → ℕ
packets_of r = r.given.packets

-- how many bytes were fed, and how many of them can be fed now
abbrev pub bytes_fed : Reader → ℕ
bytes_fed r = r.fed

abbrev pub bytes_held : Reader → ℕ
bytes_held r = length r.pages

abbrev pub free_room : Reader → ℕ
free_room r = 65307 - length r.pages

-- ---- THE PAGES THAT WERE GIVEN

-- these pages before what else a list of bytes gives
abbrev pub onto : List Page → Stream → Stream
onto front s = record { pages = front ++ s.pages; ending = s.ending }

-- they are accepted, whatever follows them
pub record ArePassed (front : List Page) : Type 0 where
  pub pages : (more : List Page) → accepted_after [] (front ++ more) ≡ front ++ accepted_after front more
  pub fault : (more : List Page) (ending : Ending) → fault_after [] (front ++ more) ending ≡ fault_after front more ending

-- while no page was refused: what is held follows the pages that were given
pub record Resumes (r : Reader) (bytes : List ℕ) (front : List Page) : Type 0 where
  pub behind : drop (size_of front) bytes ≡ r.pages
  pub resumes : (more : List ℕ) → stream (bytes ++ more) ≡ onto front (stream (r.pages ++ more))

-- a page was refused
pub record Stopped (fault : Fault) (bytes : List ℕ) (front : List Page) : Type 0 where
  pub going : is_ended front ≡ false
  pub lasting : is_end_name fault.name ≡ false
  pub pages : (more : List ℕ) → accepted (bytes ++ more) ≡ front
  pub fault_is : (more : List ℕ) → fault_of (bytes ++ more) ≡ Some fault

abbrev pub GoesOn : Option Fault → Reader → List ℕ → List Page → Type 0
GoesOn None r bytes front = Resumes r bytes front
GoesOn (Some fault) r bytes front = Stopped fault bytes front

-- no page is left in what is held
pub record IsDrained (r : Reader) : Type 0 where
  pub sound : r.fault ≡ None
  pub need : verdict r.pages ≡ verdicts.Need
  pub none : r.progress.is_ended ≡ true → r.pages ≡ []

-- the reader was fed these bytes, and these are the pages that it gave
pub record Holds (r : Reader) (bytes : List ℕ) (front : List Page) : Type 0 where
  pub fed : r.fed ≡ length bytes
  pub small : AreBytes bytes
  pub inside : size_of front ≤ length bytes
  pub passed : ArePassed front
  pub progress : StandsAfter r.progress (left_in r.room) front
  pub page : r.page ≡ last_bytes bytes front
  pub gives : Gives r.given r.room (page_of r.page) front
  pub goes_on : GoesOn r.fault r bytes front
  pub drained : r.is_settled ≡ true → IsDrained r

-- the reader was fed these bytes and gave so many pages of them
pub record StandsFor (r : Reader) (bytes : List ℕ) (given : ℕ) : Type 0 where
  pub front : List Page
  pub count : length front ≡ given
  pub holds : Holds r bytes front

-- ---- ANSWERS

-- how many pages were given after an answer
abbrev pub given_after : Accept → ℕ → ℕ
given_after answers.Page given = given + 1
given_after answers.Need given = given
given_after (answers.Fault fault) given = given

-- an answer that is the one over the bytes, whatever bytes the reader stands for
abbrev pub IsAnswer : Reader → Accept → Type 0
IsAnswer r answer = (bytes : List ℕ) (given : ℕ) → StandsFor r bytes given → answer ≡ answer_of bytes given

-- a packet of the page that was given last, by its number; a number of bytes that belong to no given page; and a fault, or
-- none, of a stream that ends here
abbrev pub IsPacket : Reader → ℕ → List ℕ → Type 0
IsPacket r i packet = (bytes : List ℕ) (given : ℕ) → StandsFor r bytes given → slice_get (last_packets (given_pages bytes given)) i ≡ Some packet

abbrev pub IsHeld : Reader → ℕ → Type 0
IsHeld r count = (bytes : List ℕ) (given : ℕ) → StandsFor r bytes given → count ≡ length bytes - size_of (given_pages bytes given)

abbrev pub IsEnd : Reader → Option Fault → Type 0
IsEnd r fault = (bytes : List ℕ) (given : ℕ) → StandsFor r bytes given → fault ≡ end_fault_of bytes
