-- The Fourier transform of the MDCT (RFC 6716, 4.3.7), over signals: functions from places to complex numbers.
use Rattle.std.specs.Prelude.{◌≡◌, ℕ, zero, suc, ◌+◌, ◌-◌, ◌*◌, ◌/◌, ◌%◌, nat_eq, nat_le, if◌then◌else◌, List, [], ◌∷◌, ⊤}
use Rattle.mdct_fixed.specs.declared.complex.Complex.{Complex}
use Rattle.mdct_fixed.specs.Numbers.{plus, turned}

-- g 0, and the g j for j from 1 to n, each turned by j times a
unfoldable pub turned_sum : (ℕ → Complex) → ℕ → ℕ → Complex
turned_sum g a zero = g 0
turned_sum g a (suc n) = plus (turned_sum g a n) (turned (g (suc n)) (a * suc n % 15360))

-- the radix that is chosen for a length: 4 where it divides, else 2, 3 or 5
unfoldable pub radix : ℕ → ℕ
radix len = if nat_eq (len % 4) 0 then 4 else if nat_eq (len % 2) 0 then 2 else if nat_eq (len % 3) 0 then 3 else 5

-- the length that a list of radices makes
unfoldable pub size : List ℕ → ℕ
size [] = 1
size (r ∷ rs) = r * size rs

-- each radix is the one that is chosen for the length from it on
unfoldable pub IsPlan : List ℕ → Type 0
IsPlan [] = ⊤
IsPlan (r ∷ rs) = (r ≡ radix (r * size rs)) × IsPlan rs

-- The transform of one item is itself. Of r * m items it is made of the transforms G_j of every r-th item from j on, for
-- j from 0 to r - 1: item k is G_0 at k mod m, and the G_j at k mod m, each turned by 15360 / (r m) * j k.
unfoldable pub transform : List ℕ → (ℕ → Complex) → ℕ → Complex
transform [] s k = s 0
transform (r ∷ rs) s k = turned_sum (λ j. transform rs (λ i. s (r * i + j)) (k % size rs)) (15360 / (r * size rs) * k) (r - 1)

-- the radices of a length, and the transform of that many items
unfoldable pub radices_by : ℕ → ℕ → List ℕ
radices_by zero len = []
radices_by (suc n) len = if nat_le len 1 then [] else radix len ∷ radices_by n (len / radix len)

abbrev pub radices : ℕ → List ℕ
radices len = radices_by len len

abbrev pub fourier : ℕ → (ℕ → Complex) → ℕ → Complex
fourier len s k = transform (radices len) s k

-- The order by reversed digits: first the places of every r-th item from 0 on, then from 1 on, and so forth, each in
-- their own reversed order.
unfoldable pub reversed : List ℕ → ℕ → ℕ
reversed [] k = 0
reversed (r ∷ rs) k = k / size rs + r * reversed rs (k % size rs)

-- item k of r runs of m items each, from a place on, joined
abbrev pub joined : ℕ → ℕ → ℕ → (ℕ → Complex) → ℕ → Complex
joined r m from s k = turned_sum (λ j. s (from + k % m + j * m)) (15360 / (r * m) * k) (r - 1)

-- all runs of the last radix joined, then all of those joined by the radix before it, and so forth
unfoldable pub joined_all : List ℕ → (ℕ → Complex) → ℕ → Complex
joined_all [] s i = s i
joined_all (r ∷ rs) s i = joined r (size rs) (i / (r * size rs) * (r * size rs)) (joined_all rs s) (i % (r * size rs))

-- how many times larger parts can be after joins by all these radices
unfoldable pub growth : List ℕ → ℕ
growth [] = 1
growth (r ∷ rs) = (2 * (r - 1) + 1) * growth rs
