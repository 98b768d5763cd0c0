-- What an encoded stream is made of: the first byte of its packets, its pages, and how many frames it has (RFC 7845, sections 3 to 5;
-- RFC 6716, section 3.1).
use Rattle.std.specs.Prelude.{◌==◌, if◌then◌else◌, ℕ, pos, ◌+◌, ◌-◌, ◌*◌, ◌/◌, ◌%◌, ◌^◌, List}
use Rattle.opus_packets.specs.Header.{written_head, written_tags}
use Rattle.ogg_pages.specs.Fields.{Page}
use Rattle.ogg_pages.specs.Spelling.{packet_page}
use Rattle.celt_session.specs.declared.coding.FrameSize.{FrameSize}
use Rattle.celt_session.specs.declared.coding.FrameSize.TheVariants as sizes
use Rattle.celt_session.specs.declared.coding.Bandwidth.{Bandwidth}
use Rattle.celt_session.specs.declared.coding.Bandwidth.TheVariants as bands
use Rattle.celt_session.specs.declared.coding.Coding.{Coding}
use Rattle.celt_session.specs.declared.settings.Settings.{Settings}

-- The place of a frame's size among the four, and of a bandwidth.
abbrev pub size_number : FrameSize → ℕ
size_number sizes.Samples120 = 0
size_number sizes.Samples240 = 1
size_number sizes.Samples480 = 2
size_number sizes.Samples960 = 3

abbrev pub band_number : Bandwidth → ℕ
band_number bands.Narrow = 0
band_number bands.Wide = 1
band_number bands.SuperWide = 2
band_number bands.Full = 3

-- The first byte of a packet: the configuration from 16 on, the stereo bit, and code 0, which is one frame.
abbrev pub toc_of : Coding → ℕ → ℕ
toc_of settings channels = 8 * (16 + 4 * band_number settings.band + size_number settings.frame) + 4 * (channels - 1)

-- Page 0 and page 1: the identification header and the comment header, on pages of their own.
abbrev pub head_page : ℕ → Page
head_page channels = packet_page 2 (pos 0) 0 (written_head channels 48000)

abbrev pub tags_page : Page
tags_page = packet_page 0 (pos 0) 1 written_tags

-- The page of the packet with this number, counted from 0.
abbrev pub audio_page : List ℕ → ℕ → ℕ → ℕ → Page
audio_page packet flags granule number = packet_page flags (pos granule) ((number + 2) % 2 ^ 32) packet

-- Frames of so many samples for so many groups: as many as hold the groups and the 120 samples that the decoder drops.
abbrev pub frames_of : ℕ → ℕ → ℕ
frames_of samples groups = (120 + groups + samples - 1) / samples

-- ---- THE SETTINGS, AS NUMBERS

-- the size of a frame by its samples, and the bandwidth by its number, narrow first
abbrev pub size_of : ℕ → FrameSize
size_of frame =
    if frame == 120 then sizes.Samples120 else (if frame == 240 then sizes.Samples240 else (if frame == 480 then sizes.Samples480 else sizes.Samples960))

abbrev pub band_of : ℕ → Bandwidth
band_of band = if band == 0 then bands.Narrow else (if band == 1 then bands.Wide else (if band == 2 then bands.SuperWide else bands.Full))

abbrev pub coding_of : Settings → Coding
coding_of settings = record { bytes = settings.bytes; frame = size_of settings.frame; band = band_of settings.band }
