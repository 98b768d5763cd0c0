-- The notes: one line where the words are not accepted or the input is refused.
use Rattle.std.specs.Prelude.{ℕ, List, [], ◌∷◌, ◌++◌, codes}
use Rattle.std.specs.Fmt.{decimal}
use Rattle.celt_base.specs.declared.status.Fault.{Fault}
use Rattle.celt_base.specs.declared.status.FaultName.{FaultName}
use Rattle.celt_base.specs.declared.status.FaultName.TheVariants.{BadCapture, BadPageVersion, BadChecksum, OtherStream, PageGap, BadContinuation, BadHead, UnsupportedFamily, BadTags, PacketTooLong, BadPacket, NotCelt, BadGranule, AfterEnd, Truncated, BadRiff, UnsupportedFormat, NoData, DataTruncated, ChannelChange, NoLink, BadText, TextOverrun, TextTruncated}
use Rattle.celt_cli.specs.declared.notes.Place.{Place}
use Rattle.celt_cli.specs.declared.notes.Place.TheVariants.{Page, Packet, Byte, Line}

abbrev pub number_of : FaultName → ℕ
number_of BadCapture = 1
number_of BadPageVersion = 2
number_of BadChecksum = 3
number_of OtherStream = 4
number_of PageGap = 5
number_of BadContinuation = 6
number_of BadHead = 7
number_of UnsupportedFamily = 8
number_of BadTags = 9
number_of PacketTooLong = 10
number_of (BadPacket rule) = 11
number_of (NotCelt config) = 12
number_of BadGranule = 13
number_of AfterEnd = 14
number_of Truncated = 15
number_of BadRiff = 20
number_of (UnsupportedFormat codec bits channels rate) = 21
number_of NoData = 22
number_of DataTruncated = 23
number_of ChannelChange = 24
number_of NoLink = 25
number_of BadText = 26
number_of TextOverrun = 27
number_of TextTruncated = 28

abbrev pub word_of : FaultName → List ℕ
word_of BadCapture = codes "BadCapture"
word_of BadPageVersion = codes "BadPageVersion"
word_of BadChecksum = codes "BadChecksum"
word_of OtherStream = codes "OtherStream"
word_of PageGap = codes "PageGap"
word_of BadContinuation = codes "BadContinuation"
word_of BadHead = codes "BadHead"
word_of UnsupportedFamily = codes "UnsupportedFamily"
word_of BadTags = codes "BadTags"
word_of PacketTooLong = codes "PacketTooLong"
word_of (BadPacket rule) = codes "BadPacket"
word_of (NotCelt config) = codes "NotCelt"
word_of BadGranule = codes "BadGranule"
word_of AfterEnd = codes "AfterEnd"
word_of Truncated = codes "Truncated"
word_of BadRiff = codes "BadRiff"
word_of (UnsupportedFormat codec bits channels rate) = codes "UnsupportedFormat"
word_of NoData = codes "NoData"
word_of DataTruncated = codes "DataTruncated"
word_of ChannelChange = codes "ChannelChange"
word_of NoLink = codes "NoLink"
word_of BadText = codes "BadText"
word_of TextOverrun = codes "TextOverrun"
word_of TextTruncated = codes "TextTruncated"

-- what the place of a fault counts
abbrev pub place_of : FaultName → Place
place_of BadCapture = Page
place_of BadPageVersion = Page
place_of BadChecksum = Page
place_of OtherStream = Page
place_of PageGap = Page
place_of BadContinuation = Page
place_of BadHead = Page
place_of UnsupportedFamily = Page
place_of BadTags = Page
place_of PacketTooLong = Packet
place_of (BadPacket rule) = Packet
place_of (NotCelt config) = Packet
place_of BadGranule = Page
place_of AfterEnd = Page
place_of Truncated = Page
place_of BadRiff = Byte
place_of (UnsupportedFormat codec bits channels rate) = Byte
place_of NoData = Byte
place_of DataTruncated = Byte
place_of ChannelChange = Page
place_of NoLink = Page
place_of BadText = Line
place_of TextOverrun = Line
place_of TextTruncated = Line

abbrev pub place_word : Place → List ℕ
place_word Page = codes "page"
place_word Packet = codes "packet"
place_word Byte = codes "byte"
place_word Line = codes "line"

-- a space, a label, a space and a number
abbrev pub labelled_of : List ℕ → ℕ → List ℕ
labelled_of label number = codes " " ++ (label ++ (codes " " ++ decimal number))

-- what a fault says besides its place
abbrev pub details_of : FaultName → List ℕ
details_of BadCapture = []
details_of BadPageVersion = []
details_of BadChecksum = []
details_of OtherStream = []
details_of PageGap = []
details_of BadContinuation = []
details_of BadHead = []
details_of UnsupportedFamily = []
details_of BadTags = []
details_of PacketTooLong = []
details_of (BadPacket rule) = labelled_of (codes "rule") rule
details_of (NotCelt config) = labelled_of (codes "config") config
details_of BadGranule = []
details_of AfterEnd = []
details_of Truncated = []
details_of BadRiff = []
details_of (UnsupportedFormat codec bits channels rate) =
    (labelled_of (codes "codec") codec ++ labelled_of (codes "bits") bits) ++ (labelled_of (codes "channels") channels ++ labelled_of (codes "rate") rate)
details_of NoData = []
details_of DataTruncated = []
details_of ChannelChange = []
details_of NoLink = []
details_of BadText = []
details_of TextOverrun = []
details_of TextTruncated = []

-- "celt: ", a number, a space and a word
abbrev pub opening_of : ℕ → List ℕ → List ℕ
opening_of number word = codes "celt: " ++ (decimal number ++ (codes " " ++ word))

-- the line of a fault: its number, its name, its place and what else it says
unfoldable pub refusal_of : Fault → List ℕ
refusal_of fault =
    (opening_of (number_of fault.name) (word_of fault.name) ++ labelled_of (place_word (place_of fault.name)) fault.at) ++ (details_of fault.name ++ 10 ∷ [])

-- the line where the words are not accepted
abbrev pub usage : List ℕ
usage = codes "celt: usage" ++ 10 ∷ []
