-- The parts of a question's answers, and the interval of a list of questions with answers (RFC 6716, section 4.1).
use Rattle.std.specs.Prelude.{ℕ, zero, suc, ◌+◌, ◌-◌, ◌*◌, ◌/◌, ◌%◌, ◌^◌, ◌<◌, ◌≤◌, ◌≡◌, min, nat_le, if◌then◌else◌, ⊤, List, [], ◌∷◌, slice_index, ℤ, pos, negsuc}
use Rattle.std.specs.List.{fold}
use Rattle.std.specs.Int.{leading_zeros, w32}
use Rattle.celt_base.specs.declared.question.Question.{Question}
use Rattle.celt_base.specs.declared.question.Question.TheVariants.{Bit, Table, Uniform, Laplace, Step, Triangle, Raw}
use Rattle.celt_base.specs.declared.question.TableId.{TableId}
use Rattle.celt_base.specs.declared.question.TableId.TheVariants.{Tapset, Small, Spread, Trim}
use Rattle.celt_base.specs.Intervals.{Part, Symbol, InPart, InBits, Interval, after, whole}

-- The number of bits that a number below 2^32 needs (RFC 6716, section 1.1.10).
abbrev pub bit_length : ℕ → ℕ
bit_length n = 32 - leading_zeros w32 n

-- Parts that follow each other from 0: the length of each, and the total at which they are cut.
pub record Row : Type 0 where
  pub total : ℕ
  pub len : ℕ → ℕ

-- Where part n begins.
abbrev pub start : Row → ℕ → ℕ
start row zero = 0
start row (suc n) = min row.total (start row n + row.len n)

abbrev pub part_of : Row → ℕ → Part
part_of row n = record { from = start row n; to = start row (suc n); total = row.total }

-- The first `count` parts are not empty and fill 0 to the total. As each begins where the one before ends, they do not
-- overlap.
pub record Fills (row : Row) (count : ℕ) : Type 0 where
  pub some : (n : ℕ) → n < count → start row n < start row (suc n)
  pub all : start row count ≡ row.total

-- 1 has one part of 2^p, the upper one; 0 has the others.
abbrev pub bit_len : ℕ → ℕ → ℕ
bit_len p zero = 2 ^ p - 1
bit_len p (suc n) = 1

abbrev pub bit_row : ℕ → Row
bit_row p = record { total = 2 ^ p; len = bit_len p }

-- The lengths of a table's answers and their total (RFC 6716, section 4.3).
abbrev pub lengths_of : TableId → List ℕ
lengths_of Tapset = 2 ∷ 1 ∷ 1 ∷ []
lengths_of Small = 2 ∷ 1 ∷ 1 ∷ []
lengths_of Spread = 7 ∷ 2 ∷ 21 ∷ 2 ∷ []
lengths_of Trim = 2 ∷ 2 ∷ 5 ∷ 10 ∷ 22 ∷ 46 ∷ 22 ∷ 10 ∷ 5 ∷ 2 ∷ 2 ∷ []

abbrev pub total_of : TableId → ℕ
total_of Tapset = 4
total_of Small = 4
total_of Spread = 32
total_of Trim = 128

abbrev pub answers_of : TableId → ℕ
answers_of Tapset = 3
answers_of Small = 3
answers_of Spread = 4
answers_of Trim = 11

abbrev pub table_row : TableId → Row
table_row table = record { total = total_of table; len = slice_index (lengths_of table) }

-- The range coder takes at most eight bits of a number below `limit`; those below them are raw (RFC 6716, section
-- 4.1.5).
abbrev pub low_bits : ℕ → ℕ
low_bits limit = bit_length (limit - 1) - 8

abbrev pub uniform_row : ℕ → Row
uniform_row limit = record { total = (limit - 1) / 2 ^ low_bits limit + 1; len = λ n. 1 }

-- The lengths of 0, -1, 1, -2, 2 and so on, of 32768 (RFC 6716, section 4.3.2.1): those of m and -m are one above
-- `spread_of` of m - 1, which falls by the decay.
abbrev pub spread_of : ℕ → ℕ → ℕ → ℕ
spread_of fs decay zero = (2 ^ 15 - 32 - fs) * (2 ^ 14 - decay) / 2 ^ 15
spread_of fs decay (suc m) = 2 * spread_of fs decay m * decay / 2 ^ 15

abbrev pub laplace_len : ℕ → ℕ → ℕ → ℕ
laplace_len fs decay zero = fs
laplace_len fs decay (suc n) = spread_of fs decay (n / 2) + 1

abbrev pub laplace_row : ℕ → ℕ → Row
laplace_row fs decay = record { total = 2 ^ 15; len = laplace_len fs decay }

abbrev pub place_of : ℤ → ℕ
place_of (pos m) = 2 * m
place_of (negsuc m) = 2 * m + 1

-- The lower half of 0 to `most` is three times as likely as the upper one (RFC 6716, section 4.3.4.3).
abbrev pub step_row : ℕ → Row
step_row most =
    record { total = 3 * (most / 2 + 1) + most / 2; len = λ n. if nat_le n (most / 2) then 3 else 1 }

-- The middle of 0 to `most` is the most likely (RFC 6716, section 4.3.4.3).
abbrev pub triangle_row : ℕ → Row
triangle_row most =
    record { total = (most / 2 + 1) * (most / 2 + 1); len = λ n. if nat_le n (most / 2) then n + 1 else most + 1 - n }

-- The questions that may be asked.
abbrev pub IsEven : ℕ → Type 0
IsEven most = (most % 2 ≡ 0) × (2 ≤ most) × (most ≤ 256)

-- The length of 0 leaves one for each of 32 more, and from -1 on no length is above the one before.
abbrev pub IsLaplace : ℕ → ℕ → Type 0
IsLaplace fs decay = (1 ≤ fs) × (fs ≤ 2 ^ 15 - 32) × (decay ≤ 2 ^ 14)

abbrev pub IsValid : Question → Type 0
IsValid (Bit p) = (1 ≤ p) × (p ≤ 15)
IsValid (Table table) = ⊤
IsValid (Uniform limit) = 2 ≤ limit
IsValid (Laplace fs decay) = IsLaplace fs decay
IsValid (Step most) = IsEven most
IsValid (Triangle most) = IsEven most
IsValid (Raw count) = (1 ≤ count) × (count ≤ 24)

-- The answer is one of the first `count` numbers.
abbrev pub IsBelow : ℕ → ℤ → Type 0
IsBelow count (pos n) = n < count
IsBelow count (negsuc n) = ⊥

-- The answers that a question has. Those of Laplace are cut at 32768.
abbrev pub IsAnswer : Question → ℤ → Type 0
IsAnswer (Bit p) answer = IsBelow 2 answer
IsAnswer (Table table) answer = IsBelow (answers_of table) answer
IsAnswer (Uniform limit) answer = IsBelow limit answer
IsAnswer (Laplace fs decay) answer = start (laplace_row fs decay) (place_of answer) < 2 ^ 15
IsAnswer (Step most) answer = IsBelow (most + 1) answer
IsAnswer (Triangle most) answer = IsBelow (most + 1) answer
IsAnswer (Raw count) answer = IsBelow (2 ^ count) answer

-- How many answers a question has, where they are the numbers from 0 on. Those of Laplace are signed.
abbrev pub limit_of : Question → ℕ
limit_of (Bit p) = 2
limit_of (Table table) = answers_of table
limit_of (Uniform limit) = limit
limit_of (Laplace fs decay) = 0
limit_of (Step most) = most + 1
limit_of (Triangle most) = most + 1
limit_of (Raw count) = 2 ^ count

abbrev pub IsCounted : Question → Type 0
IsCounted (Laplace fs decay) = ⊥
IsCounted question = ⊤

-- The part of a row's answer.
abbrev pub part_steps : Row → ℤ → List Symbol
part_steps row (pos n) = InPart (part_of row n) ∷ []
part_steps row (negsuc n) = []

abbrev pub raw_steps : ℕ → ℤ → List Symbol
raw_steps count (pos n) = InBits count n ∷ []
raw_steps count (negsuc n) = []

-- The lower bits of a number, where there are any.
abbrev pub low_steps : ℕ → ℕ → List Symbol
low_steps zero n = []
low_steps (suc k) n = InBits (suc k) (n % 2 ^ suc k) ∷ []

abbrev pub uniform_steps : ℕ → ℤ → List Symbol
uniform_steps limit (pos n) = InPart (part_of (uniform_row limit) (n / 2 ^ low_bits limit)) ∷ low_steps (low_bits limit) n
uniform_steps limit (negsuc n) = []

-- What an answer of a question codes.
abbrev pub steps : Question → ℤ → List Symbol
steps (Bit p) answer = part_steps (bit_row p) answer
steps (Table table) answer = part_steps (table_row table) answer
steps (Uniform limit) answer = uniform_steps limit answer
steps (Laplace fs decay) answer = InPart (part_of (laplace_row fs decay) (place_of answer)) ∷ []
steps (Step most) answer = part_steps (step_row most) answer
steps (Triangle most) answer = part_steps (triangle_row most) answer
steps (Raw count) answer = raw_steps count answer

-- A question with its answer.
pub record Answered : Type 0 where
  pub question : Question
  pub answer : ℤ

-- The interval after the answer of a question, and after a list of them.
unfoldable pub after_answer : Interval → Answered → Interval
after_answer i a = fold after i (steps a.question a.answer)

unfoldable pub interval_of : List Answered → Interval
interval_of list = fold after_answer whole list
