-- The encoder's search for the vector of whole numbers that is near in direction to a band's part (RFC 6716,
-- 5.3.8.1). Pulses are added one at a time, each where the vector's correlation with the part, squared, over
-- the vector's energy then becomes greatest.
use Rattle.std.specs.Prelude.{◌≡◌, ℕ, zero, suc, ◌+◌, ◌*◌, ◌<◌, ◌≤◌, nat_lt, Bool, true, false, not, ◌||◌, ℤ, pos, negsuc, neg_ℤ, ◌≤ℤ◌, ◌<ℤ◌, unsigned_abs, List, [], ◌∷◌, length, map, slice_index, slice_set, replicate}
use Rattle.fixed_math.specs.Search.{least}

-- the sum of the products of two lists, place by place
unfoldable pub dot : List ℕ → List ℕ → ℕ
dot [] ys = 0
dot (x ∷ xs) [] = 0
dot (x ∷ xs) (y ∷ ys) = x * y + dot xs ys

abbrev pub squared : ℕ → ℕ
squared n = n * n

-- with one more pulse at place j: the correlation's square, and the energy
abbrev pub match_with : List ℕ → List ℕ → ℕ → ℕ
match_with xs ys j = squared (dot xs ys + slice_index xs j)

abbrev pub energy_with : List ℕ → ℕ → ℕ
energy_with ys j = dot ys ys + (2 * slice_index ys j + 1)

-- a pulse at place i is better than one at place j: its fraction of the two is greater
abbrev pub is_better : List ℕ → List ℕ → ℕ → ℕ → Bool
is_better xs ys i j = nat_lt (match_with xs ys j * energy_with ys i) (match_with xs ys i * energy_with ys j)

-- some place below n is better than place j
unfoldable pub is_beaten : List ℕ → List ℕ → ℕ → ℕ → Bool
is_beaten xs ys zero j = false
is_beaten xs ys (suc n) j = is_better xs ys n j || is_beaten xs ys n j

-- the first place that none is better than
unfoldable pub best_place : List ℕ → List ℕ → ℕ
best_place xs ys = least (λ j. not (is_beaten xs ys (length xs) j)) (length xs)

-- of the first n places none is better than place j, which is better than each before it
pub record IsBest (xs ys : List ℕ) (n j : ℕ) : Type 0 where
  pub within : j < n
  pub greatest : (i : ℕ) → i < n → match_with xs ys i * energy_with ys j ≤ match_with xs ys j * energy_with ys i
  pub first : (i : ℕ) → i < j → match_with xs ys i * energy_with ys j < match_with xs ys j * energy_with ys i

-- n is the first place behind j that is better, or the number of places where none is
pub record IsNext (xs ys : List ℕ) (j n : ℕ) : Type 0 where
  pub low : j < n
  pub high : n ≤ length xs
  pub passed : (i : ℕ) → j < i → i < n → is_better xs ys i j ≡ false
  pub better : n < length xs → is_better xs ys n j ≡ true

-- one more pulse at place j
abbrev pub one_more : List ℕ → ℕ → List ℕ
one_more ys j = slice_set ys j (slice_index ys j + 1)

-- how many pulses each place holds after k
unfoldable pub pulses_by : List ℕ → ℕ → List ℕ
pulses_by xs zero = replicate (length xs) 0
pulses_by xs (suc k) = let ys = pulses_by xs k in one_more ys (best_place xs ys)

-- so many pulses with a sign
abbrev pub signed : ℤ → ℕ → ℤ
signed (pos n) y = pos y
signed (negsuc n) y = neg_ℤ (pos y)

-- where an item is below 0 its number is not above 0, and else it is not below 0
pub record AgreesInSign (x y : ℤ) : Type 0 where
  pub above : pos 0 ≤ℤ x → pos 0 ≤ℤ y
  pub below : x <ℤ pos 0 → y ≤ℤ pos 0

unfoldable pub signed_all : List ℤ → List ℕ → List ℤ
signed_all [] ys = []
signed_all (x ∷ xs) [] = []
signed_all (x ∷ xs) (y ∷ ys) = signed x y ∷ signed_all xs ys

-- the vector of k pulses for a part: searched for among the sizes, with the part's signs
unfoldable pub vector_of : List ℤ → ℕ → List ℤ
vector_of xs k = signed_all xs (pulses_by (map unsigned_abs xs) k)
