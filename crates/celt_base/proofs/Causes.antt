-- Counts of faults over several calls, and bytes that are added over several writes.
use Rattle.std.proofs.Common.{ℕ, ◌≤◌, List, [], ◌++◌, refl, sym, ◌∙◌, ap, arith, append_assoc, append-nil, Option, Some, None}
use Rattle.std.specs.Io.KnownBytes.{Appends}
use Rattle.celt_base.specs.Outside.{Rose, AppendsFront}

-- a count that rose goes on having risen
pub rose_before : (a b c : ℕ) → Rose a b → b ≤ c → Rose a c
rose_before a b c p q = let kept = p.kept in let risen = p.risen in record { kept = omega arith; risen = omega arith }

pub rose_after : (a b c : ℕ) → a ≤ b → Rose b c → Rose a c
rose_after a b c p q = let kept = q.kept in let risen = q.risen in record { kept = omega arith; risen = omega arith }

-- all of the bytes are a front of them, and so is nothing
pub all_front : (a b : Option (List ℕ)) (bytes more : List ℕ) → Appends a b bytes → AppendsFront a b (bytes ++ more)
all_front None b bytes more p = tt
all_front (Some x) None bytes more p = absurd p
all_front (Some x) (Some y) bytes more p = record { front = bytes; rest = more; is_front = refl; grew = p }

pub whole_front : (a b : Option (List ℕ)) (bytes : List ℕ) → Appends a b bytes → AppendsFront a b bytes
whole_front None b bytes p = tt
whole_front (Some x) None bytes p = absurd p
whole_front (Some x) (Some y) bytes p = record { front = bytes; rest = []; is_front = sym (append-nil bytes); grew = p }

pub no_front : (a : Option (List ℕ)) (bytes : List ℕ) → AppendsFront a a bytes
no_front None bytes = tt
no_front (Some x) bytes = record { front = []; rest = bytes; is_front = refl; grew = sym (append-nil x) }

-- some bytes and then a front of more are a front of both
pub then_front : (a b c : Option (List ℕ)) (bytes more : List ℕ) → Appends a b bytes → AppendsFront b c more → AppendsFront a c (bytes ++ more)
then_front None b c bytes more p q = tt
then_front (Some x) None c bytes more p q = absurd p
then_front (Some x) (Some y) None bytes more p q = absurd q
then_front (Some x) (Some y) (Some z) bytes more p q =
    record {
      front = bytes ++ q.front;
      rest = q.rest;
      is_front = ap (λ l. bytes ++ l) q.is_front ∙ sym (append_assoc bytes q.front q.rest);
      grew = q.grew ∙ ap (λ l. l ++ q.front) p ∙ append_assoc x bytes q.front;
    }

-- a front of a front
pub longer_front : (a b : Option (List ℕ)) (bytes more : List ℕ) → AppendsFront a b bytes → AppendsFront a b (bytes ++ more)
longer_front None b bytes more p = tt
longer_front (Some x) None bytes more p = absurd p
longer_front (Some x) (Some y) bytes more p =
    record {
      front = p.front;
      rest = p.rest ++ more;
      is_front = ap (λ l. l ++ more) p.is_front ∙ append_assoc p.front p.rest more;
      grew = p.grew;
    }
