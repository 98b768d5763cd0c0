-- Lists of bytes, put together and taken apart.
use Rattle.std.proofs.Common.{ℕ, zero, suc, ◌+◌, ◌<◌, List, [], ◌∷◌, ◌++◌, take, drop, replicate, arith, get_or-drop}
use Rattle.std.specs.Int.{byte_at, bytes_low_first}
use Rattle.ogg_pages.specs.Checksum.{blanked}
use Rattle.ogg_pages.specs.Spelling.{AreBytes}

pub bytes-cons : (x : ℕ) (xs : List ℕ) → x < 256 → AreBytes xs → AreBytes (x ∷ xs)
bytes-cons x xs h g zero = h
bytes-cons x xs h g (suc k) = g k

pub bytes-nil : AreBytes []
bytes-nil k = omega arith

pub bytes-append : (xs ys : List ℕ) → AreBytes xs → AreBytes ys → AreBytes (xs ++ ys)
bytes-append [] ys h g k = g k
bytes-append (x ∷ xs) ys h g zero = h zero
bytes-append (x ∷ xs) ys h g (suc k) = bytes-append xs ys (λ j. h (suc j)) g k

pub bytes-take : (n : ℕ) (xs : List ℕ) → AreBytes xs → AreBytes (take n xs)
bytes-take zero xs h k = omega arith
bytes-take (suc n) [] h k = omega arith
bytes-take (suc n) (x ∷ xs) h zero = h zero
bytes-take (suc n) (x ∷ xs) h (suc k) = bytes-take n xs (λ j. h (suc j)) k

pub bytes-drop : (n : ℕ) (xs : List ℕ) → AreBytes xs → AreBytes (drop n xs)
bytes-drop n xs h k = rw get_or-drop (h (n + k))

zeros-are-bytes : (n : ℕ) → AreBytes (replicate n 0)
zeros-are-bytes zero k = omega arith
zeros-are-bytes (suc n) zero = omega arith
zeros-are-bytes (suc n) (suc k) = zeros-are-bytes n k

pub bytes-blanked : (page : List ℕ) → AreBytes page → AreBytes (blanked page)
bytes-blanked page h =
    bytes-append (take 22 page ++ replicate 4 0) (drop 26 page) (bytes-append (take 22 page) (replicate 4 0) (bytes-take 22 page h) (zeros-are-bytes 4))
    (bytes-drop 26 page h)

byte_at-lt : (i n : ℕ) → byte_at i n < 256
byte_at-lt zero n = omega arith
byte_at-lt (suc i) n = omega arith

pub bytes-low_first : (i k n : ℕ) → AreBytes (bytes_low_first i k n)
bytes-low_first i zero n = bytes-nil
bytes-low_first i (suc k) n = bytes-cons (byte_at i n) (bytes_low_first (suc i) k n) (byte_at-lt i n) (bytes-low_first (suc i) k n)
