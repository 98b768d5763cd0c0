-- A number read digit by digit.
use Rattle.std.proofs.Common.{◌≡◌, ℕ, ◌+◌, ◌-◌, ◌*◌, ◌^◌, ◌<◌, ◌≤◌, true, false, List, ◌∷◌, length, drop, refl, sym, ◌∙◌, ap, arith, slice_index, Some, None, ◌⊎◌, inl, inr, nat_le}
use Rattle.std.specs.Prelude.{if◌then◌else◌, Bool, ◌&&◌, []}
use Rattle.std.specs.List.{fold, list_all}
use Rattle.std.proofs.lemmas.Bool.{and_from, and_left, and_right, le-leb, lt-leb, leb-true}
use Rattle.std.proofs.Math.Nat.{pow-le-pow_right}
use Rattle.std.proofs.lemmas.Nat.{pow-add}
use Rattle.std.proofs.lemmas.List.{drop_more, drop_all}
use Rattle.celt_cli.specs.Words.{is_digit, number_from, number_in}
use Rattle.celt_cli.specs.Spellings.{with_digit, digits_value}

-- the first digits of at most ten were read
pub record Counted (text : List ℕ) (next number : ℕ) : Type 0 where
  pub short : length text ≤ 10
  pub within : next ≤ length text
  pub small : number < 10 ^ next
  pub same : number_from number (drop next text) ≡ number_from 0 text

pub none_counted : (text : List ℕ) → length text ≤ 10 → Counted text 0 0
none_counted text h = record { short = h; within = omega arith; small = omega arith; same = refl }

-- one digit more stays below 10 ^ 10
pub next_small : (next number : ℕ) → number < 10 ^ next → next ≤ 9 → 10 * number + 9 < 10 ^ 10
next_small next number small most = let power : 10 ^ next ≤ 10 ^ 9 = pow-le-pow_right {n = 10} (omega arith) most in omega arith

from_digit : (number code : ℕ) (text : List ℕ) → is_digit code ≡ true → number_from number (code ∷ text) ≡ number_from (10 * number + (code - 48)) text
unfolding number_from
from_digit number code text h = ap (λ t. if t then number_from (10 * number + (code - 48)) text else None) h

from_other : (number code : ℕ) (text : List ℕ) → is_digit code ≡ false → number_from number (code ∷ text) ≡ None
unfolding number_from
from_other number code text h = ap (λ t. if t then number_from (10 * number + (code - 48)) text else None) h

pub is_digit_between : (code : ℕ) → 48 ≤ code → code ≤ 57 → is_digit code ≡ true
is_digit_between code low high = and_from (nat_le 48 code) (nat_le code 57) (le-leb 48 code low) (le-leb code 57 high)

pub not_digit : (code : ℕ) → (code < 48) ⊎ (57 < code) → is_digit code ≡ false
not_digit code (inl low) = and_left (nat_le 48 code) (nat_le code 57) (lt-leb 48 code low)
not_digit code (inr high) = and_right (nat_le 48 code) (nat_le code 57) (lt-leb code 57 high)

pub one_counted : (text : List ℕ) (next number : ℕ) → Counted text next number → next < length text → 48 ≤ slice_index text next → slice_index text next ≤ 57
    → Counted text (next + 1) (10 * number + (slice_index text next - 48))
one_counted text next number c less low high =
    let small = c.small in
    let power : 10 ^ (next + 1) ≡ 10 ^ next * 10 = pow-add 10 next 1 in
    let digit = is_digit_between (slice_index text next) low high in
    record {
      short = c.short;
      within = omega arith;
      small = omega arith;
      same = sym (from_digit number (slice_index text next) (drop (next + 1) text) digit)
          ∙ ap (number_from number) (sym (drop_more text next 0 less)) ∙ c.same;
    }

pub other_found : (text : List ℕ) (next number : ℕ) → Counted text next number → next < length text → is_digit (slice_index text next) ≡ false → number_from 0 text ≡ None
other_found text next number c less other =
    sym c.same ∙ ap (number_from number) (drop_more text next 0 less) ∙ from_other number (slice_index text next) (drop (next + 1) text) other

pub all_counted : (text : List ℕ) (next number : ℕ) → Counted text next number → length text ≤ next → number_from 0 text ≡ Some number
unfolding number_from
all_counted text next number c h = sym c.same ∙ ap (number_from number) (drop_all next text h)

-- one to ten codes
pub in_length : (text : List ℕ) → 1 ≤ length text → length text ≤ 10 → number_in text ≡ number_from 0 text
unfolding number_in
in_length text some short =
    ap (λ t. if t then number_from 0 text else None) (and_from (nat_le 1 (length text)) (nat_le (length text) 10) (le-leb 1 (length text) some) (le-leb (length text) 10 short))

-- ---- ALL DIGITS

all_read : (number : ℕ) (text : List ℕ) → list_all is_digit text ≡ true → number_from number text ≡ Some (fold with_digit number text)
unfolding number_from
all_read number [] h = refl
all_read number (code ∷ text) h = by (is_digit code) refl (λ n g. all_read n text g) h where
  by : (b : Bool) → is_digit code ≡ b → ((n : ℕ) → list_all is_digit text ≡ true → number_from n text ≡ Some (fold with_digit n text)) → (b && list_all is_digit text) ≡ true
      → (if is_digit code then number_from (10 * number + (code - 48)) text else None) ≡ Some (fold with_digit number (code ∷ text))
  by true e again g = ap (λ t. if t then number_from (10 * number + (code - 48)) text else None) e ∙ again (10 * number + (code - 48)) g
  by false e again g = cc

all_digits : (number : ℕ) (text : List ℕ) (n : ℕ) → number_from number text ≡ Some n → list_all is_digit text ≡ true
unfolding number_from
all_digits number [] n h = refl
all_digits number (code ∷ text) n h = by (is_digit code) refl (λ m g. all_digits m text n g) h where
  by : (b : Bool) → is_digit code ≡ b → ((m : ℕ) → number_from m text ≡ Some n → list_all is_digit text ≡ true) → (if b then number_from (10 * number + (code - 48)) text else None) ≡ Some n
      → (is_digit code && list_all is_digit text) ≡ true
  by true e again g = ap (λ t. t && list_all is_digit text) e ∙ again (10 * number + (code - 48)) g
  by false e again g = cc

pub digits_read : (text : List ℕ) → 1 ≤ length text → length text ≤ 10 → list_all is_digit text ≡ true → number_in text ≡ Some (digits_value text)
digits_read text some short h = in_length text some short ∙ all_read 0 text h

pub only_digits : (text : List ℕ) (n : ℕ) → number_in text ≡ Some n → (1 ≤ length text) × (length text ≤ 10) × (list_all is_digit text ≡ true)
unfolding number_in
only_digits text n h = by (nat_le 1 (length text)) refl (nat_le (length text) 10) refl h where
  by : (a : Bool) → nat_le 1 (length text) ≡ a → (b : Bool) → nat_le (length text) 10 ≡ b → (if a && b then number_from 0 text else None) ≡ Some n
      → (1 ≤ length text) × (length text ≤ 10) × (list_all is_digit text ≡ true)
  by true e true f g = (leb-true 1 (length text) e, leb-true (length text) 10 f, all_digits 0 text n g)
  by true e false f g = cc
  by false e b f g = cc
