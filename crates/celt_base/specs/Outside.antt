-- What a source's read and a sink's write do to the bytes and to the count of faults.
use Rattle.std.specs.Prelude.{◌≡◌, ℕ, ◌+◌, ◌-◌, ◌^◌, ◌≤◌, min, List, ◌++◌, Option, None, Some, Result, Ok, Err, ⊤}
use Rattle.std.specs.Io.KnownBytes.{Appends}

-- The count rose. It stops at its last value, and counts as risen there.
pub record Rose (before now : ℕ) : Type 0 where
  pub kept : before ≤ now
  pub risen : min (before + 1) (2 ^ 64 - 1) ≤ now

-- The count never falls, and a failure comes only where it rose.
abbrev pub HasCause : {A E : Type 0} → ℕ → ℕ → Result A E → Type 0
HasCause before now (Ok answer) = before ≤ now
HasCause before now (Err failure) = Rose before now

-- The list grew by a front of the bytes.
pub record GrewByFront (old new bytes : List ℕ) : Type 0 where
  pub front : List ℕ
  pub rest : List ℕ
  pub is_front : bytes ≡ front ++ rest
  pub grew : new ≡ old ++ front

-- Known bytes grow by a front of the bytes.
abbrev pub AppendsFront : Option (List ℕ) → Option (List ℕ) → List ℕ → Type 0
AppendsFront None new bytes = ⊤
AppendsFront (Some xs) None bytes = ⊥
AppendsFront (Some xs) (Some ys) bytes = GrewByFront xs ys bytes

-- A write appends all the bytes, or fails and appends a front of them.
abbrev pub WritesAll : {A E : Type 0} → Option (List ℕ) → Option (List ℕ) → Result A E → List ℕ → Type 0
WritesAll old new (Ok answer) bytes = Appends old new bytes
WritesAll old new (Err failure) bytes = AppendsFront old new bytes
