-- Joined spellings of pages as streams.
use Rattle.std.proofs.Common.{◌≡◌, ℕ, List, [], ◌∙◌, ap, None}
use Rattle.std.specs.List.{All, flat_map}
use Rattle.ogg_pages.specs.Fields.{Page}
use Rattle.ogg_pages.specs.Spelling.{IsPage, spelling}
use Rattle.ogg_pages.specs.Stream.{Stream}
use Rattle.ogg_pages.proofs.Joined.{joined_stream}
use Rattle.opus_stream.specs.Acceptance.{accepted_after, fault_after, accepted, fault_of, audio_packets}
use Rattle.opus_stream.specs.Carrying.{Carries, AreSound}
use Rattle.opus_stream.proofs.Carried.{pages_full, carried}

pub record Read (pages : List Page) (packets : List (List ℕ)) : Type 0 where
  pub none : fault_of (flat_map spelling pages) ≡ None
  pub accepted_are : accepted (flat_map spelling pages) ≡ pages
  pub packets_are : audio_packets (accepted (flat_map spelling pages)) ≡ packets

pub streams_read : (pages : List Page) (head tags : List ℕ) (packets : List (List ℕ)) → All IsPage pages → Carries pages head tags packets → AreSound head tags packets → Read pages packets
unfolding accepted fault_of
streams_read pages head tags packets all carries sound =
    let r = carried pages head tags packets carries sound (pages_full pages all) in
    let s = joined_stream pages all in
    let there : accepted (flat_map spelling pages) ≡ pages = ap (λ (t : Stream). accepted_after [] t.pages) s ∙ r.accepted_are in
    record {
      none = ap (λ (t : Stream). fault_after [] t.pages t.ending) s ∙ r.none;
      accepted_are = there;
      packets_are = ap audio_packets there ∙ r.packets_are;
    }
