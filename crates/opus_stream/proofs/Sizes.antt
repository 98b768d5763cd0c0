-- The sizes of a page's parts.
use Rattle.std.proofs.Common.{◌≡◌, ℕ, ◌+◌, ◌-◌, ◌<◌, ◌≤◌, List, length, drop, sum, min, arith, length-take, length-drop}
use Rattle.std.specs.Prelude.{slice_index}
use Rattle.ogg_pages.specs.Bounds.{segments_of, lacing_of, page_len}
use Rattle.ogg_pages.specs.Fields.{page_of, body_of}
use Rattle.ogg_pages.proofs.Lengths.{lacing-sum}
use Rattle.opus_stream.specs.Acceptance.{page_size}

pub few : (bytes : List ℕ) → ((k : ℕ) → slice_index bytes k < 256) → length (lacing_of bytes) ≤ 255
few bytes small =
    let s = small 26 in
    let l : length (lacing_of bytes) ≡ min (segments_of bytes) (length (drop 27 bytes)) = length-take (segments_of bytes) (drop 27 bytes) in
    omega arith

pub lacing_len : (bytes : List ℕ) → page_len bytes ≡ length bytes → length (lacing_of bytes) ≡ segments_of bytes
lacing_len bytes whole =
    let l : length (lacing_of bytes) ≡ min (segments_of bytes) (length (drop 27 bytes)) = length-take (segments_of bytes) (drop 27 bytes) in
    let d : length (drop 27 bytes) ≡ length bytes - 27 = length-drop 27 bytes in
    omega arith

pub body_len : (bytes : List ℕ) → page_len bytes ≡ length bytes → length (body_of bytes) ≡ sum (lacing_of bytes)
body_len bytes whole =
    let n = 27 + segments_of bytes in
    let l : length (body_of bytes) ≡ min (sum (lacing_of bytes)) (length (drop n bytes)) = length-take (sum (lacing_of bytes)) (drop n bytes) in
    let d : length (drop n bytes) ≡ length bytes - n = length-drop n bytes in
    omega arith

pub size : (bytes : List ℕ) → page_len bytes ≡ length bytes → length bytes ≡ page_size (page_of bytes)
size bytes whole =
    let l = lacing_len bytes whole in
    let b = body_len bytes whole in
    omega arith

pub short : (bytes : List ℕ) → ((k : ℕ) → slice_index bytes k < 256) → length (body_of bytes) ≤ 65025
short bytes small =
    let n = 27 + segments_of bytes in
    let l : length (body_of bytes) ≡ min (sum (lacing_of bytes)) (length (drop n bytes)) = length-take (sum (lacing_of bytes)) (drop n bytes) in
    let s = lacing-sum bytes small in
    omega arith
