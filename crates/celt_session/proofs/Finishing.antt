-- From the bytes that were taken of an input to the whole input.
use Rattle.std.proofs.Common.{◌≡◌, ℕ, ◌+◌, ◌-◌, ◌<◌, ◌≤◌, Bool, true, false, List, [], ◌++◌, length, take, drop, refl, sym, ◌∙◌, ap, subst, arith, append_assoc, append-nil, length-append, length-drop, Option, Some, None, nat_lt, IfSome}
use Rattle.std.specs.Prelude.{if◌then◌else◌}
use Rattle.std.specs.Io.KnownBytes.{Appends, Consumes, IsAtEnd, Keeps}
use Rattle.std.proofs.KnownBytes.{Appends-trans, Appends-nil}
use Rattle.std.proofs.Math.Seq.{take-append_seam, take-append-add}
use Rattle.std.proofs.lemmas.Bool.{lt-ltb, le-ltb}
use Rattle.std.proofs.lemmas.List.{take-append-drop, take_all, length-take-le}
use Rattle.celt_base.specs.declared.status.Fault.{Fault}
use Rattle.celt_base.specs.declared.status.Status.{Status}
use Rattle.celt_base.specs.declared.status.Status.TheVariants as statuses
use Rattle.celt_base.specs.Outside.{AppendsFront}
use Rattle.celt_base.proofs.Causes.{then_front, longer_front}
use Rattle.opus_stream.specs.Acceptance.{fault_of, is_end_name, end_by}
use Rattle.celt_session.specs.PageFunctions.{PageFunction, said, running, full, added_by, lasting, fault_now, end_fault}
use Rattle.celt_session.specs.Outcomes.{meaning, ended_status, cut_status_by, cut_status, status_by, wanted, Answers, Writes, AddsTaken}
use Rattle.celt_session.proofs.Starting.{no_pages}
use Rattle.celt_session.proofs.Folding.{none-said, running-front, running-is, full-is, lasting_is, lasts, fault_stays}

-- ---- the status

ends_by : (o : Option Fault) → lasting o ≡ None → end_by o ≡ o
ends_by None h = refl
ends_by (Some fault) h = by (is_end_name fault.name) h where
  by : (b : Bool) → (if b then None else Some fault) ≡ None → (if b then Some fault else None) ≡ Some fault
  by true e = refl
  by false e = cc

pub wanted_end : (f : PageFunction) (start : f.State) (limit : ℕ) (xs : List ℕ) (fault : Option Fault) → length xs ≤ limit → fault_now xs ≡ None → fault ≡ end_fault xs
    → wanted (meaning f start) limit xs ≡ ended_status fault
unfolding wanted
wanted_end f start limit xs fault few sound is =
    ap (λ b. status_by is_end_name b (fault_of (take limit xs))) (le-ltb limit (length xs) few)
    ∙ ap (λ l. ended_status (fault_of l)) (take_all limit xs few)
    ∙ ap ended_status (sym (is ∙ ends_by (fault_of xs) sound))

pub front_taken : (limit : ℕ) (now zs : List ℕ) → length now ≤ limit → take limit (now ++ zs) ≡ now ++ take (limit - length now) zs
front_taken limit now zs h =
    let e : limit ≡ length now + (limit - length now) = omega arith in
    ap (λ n. take n (now ++ zs)) e ∙ take-append-add now zs (limit - length now)

refused_by : (b : Bool) (o : Option Fault) (fault : Fault) → lasting o ≡ Some fault → status_by is_end_name b o ≡ statuses.Refused fault
refused_by b o fault h = by b (lasting_is o fault h) where
  by : (b : Bool) → (o ≡ Some fault) × (is_end_name fault.name ≡ false) → status_by is_end_name b o ≡ statuses.Refused fault
  by false l = ap ended_status l.0
  by true l = ap (cut_status is_end_name) l.0 ∙ ap (λ t. cut_status_by t fault) l.1

pub wanted_fault : (f : PageFunction) (start : f.State) (limit : ℕ) (now zs : List ℕ) (fault : Fault) → length now ≤ limit → fault_now now ≡ Some fault
    → wanted (meaning f start) limit (now ++ zs) ≡ statuses.Refused fault
unfolding wanted
wanted_fault f start limit now zs fault few h =
    refused_by (nat_lt limit (length (now ++ zs))) (fault_of (take limit (now ++ zs))) fault (ap (fault_now) (front_taken limit now zs few) ∙ fault_stays now (take (limit - length now) zs) fault h)

long_by : (o : Option Fault) → lasting o ≡ None → cut_status is_end_name o ≡ statuses.InputTooLong
long_by None h = refl
long_by (Some fault) h = by (is_end_name fault.name) h where
  by : (b : Bool) → (if b then None else Some fault) ≡ None → cut_status_by b fault ≡ statuses.InputTooLong
  by true e = refl
  by false e = cc

pub first_is : (limit : ℕ) (now zs : List ℕ) → length now ≡ limit → take limit (now ++ zs) ≡ now
first_is limit now zs e = ap (λ n. take n (now ++ zs)) (sym e) ∙ take-append_seam now zs

pub wanted_long : (f : PageFunction) (start : f.State) (limit : ℕ) (now zs : List ℕ) → length now ≡ limit → 0 < length zs → fault_now now ≡ None
    → wanted (meaning f start) limit (now ++ zs) ≡ statuses.InputTooLong
unfolding wanted
wanted_long f start limit now zs e more h =
    let len = length-append now zs in
    ap (λ b. status_by is_end_name b (fault_of (take limit (now ++ zs)))) (lt-ltb limit (length (now ++ zs)) (omega arith))
    ∙ ap (λ l. cut_status is_end_name (fault_of l)) (first_is limit now zs e) ∙ long_by (fault_of now) h

-- an answer as it stands
pub answers_end : (want : Status) (fault : Option Fault) (status : Status) → want ≡ ended_status fault → status ≡ ended_status fault → Answers want status
answers_end want None status e h = subst (Answers want) (sym h) e
answers_end want (Some fault) status e h = subst (Answers want) (sym h) e

-- ---- what was added

pub writes_end : (f : PageFunction) (start : f.State) (limit : ℕ) (xs : List ℕ) (left old new : Option (List ℕ)) (fault : Option Fault) (status : Status) → Appends old new (running f start xs) → status ≡ ended_status fault
    → Writes (meaning f start) limit xs left old new status
writes_end f start limit xs left old new None status a h = subst (Writes (meaning f start) limit xs left old new) (sym h) (subst (Appends old new) (sym (full-is f start xs)) a)
writes_end f start limit xs left old new (Some fault) status a h = subst (Writes (meaning f start) limit xs left old new) (sym h) (subst (Appends old new) (sym (full-is f start xs)) a)

-- what was added by several pieces
pub added_twice : (f : PageFunction) (start : f.State) (taken piece : List ℕ) (old mid new : Option (List ℕ)) → Appends old mid (running f start taken) → Appends mid new (added_by f start taken (taken ++ piece))
    → Appends old new (running f start (taken ++ piece))
added_twice f start taken piece old mid new a b = subst (Appends old new) (sym (running-front f start taken piece)) (Appends-trans old mid new (running f start taken) (added_by f start taken (taken ++ piece)) a b)

pub writes_fault : (f : PageFunction) (start : f.State) (now zs : List ℕ) (fault : Fault) (old new : Option (List ℕ)) → fault_now now ≡ Some fault → Appends old new (running f start now)
    → Appends old new (full f start (now ++ zs))
writes_fault f start now zs fault old new h a = subst (Appends old new) (sym (full-is f start (now ++ zs) ∙ (lasts f start now zs fault h).text)) a

pub writes_long : (f : PageFunction) (start : f.State) (limit : ℕ) (now zs : List ℕ) (old new : Option (List ℕ)) → length now ≡ limit → Appends old new (running f start now)
    → Appends old new (running f start (take limit (now ++ zs)))
writes_long f start limit now zs old new e a = subst (λ l. Appends old new (running f start l)) (sym (first_is limit now zs e)) a

pub writes_failed : (f : PageFunction) (start : f.State) (taken piece zs : List ℕ) (old mid new : Option (List ℕ)) → Appends old mid (running f start taken)
    → AppendsFront mid new (added_by f start taken (taken ++ piece)) → AppendsFront old new (full f start ((taken ++ piece) ++ zs))
writes_failed f start taken piece zs old mid new a b =
    subst (AppendsFront old new) (sym (full-is f start ((taken ++ piece) ++ zs) ∙ running-front f start (taken ++ piece) zs))
    (longer_front old new (running f start (taken ++ piece)) (added_by f start (taken ++ piece) ((taken ++ piece) ++ zs))
    (subst (AppendsFront old new) (sym (running-front f start taken piece)) (then_front old mid new (running f start taken) (added_by f start taken (taken ++ piece)) a b)))

-- ---- the bytes of an input that tells them

-- some of them were taken, of the last read those within the limit
pub known : (old mid new : Option (List ℕ)) (taken read : List ℕ) (left : ℕ) (P : List ℕ → Type 0) → Consumes old mid taken → Consumes mid new read
    → ((zs : List ℕ) → P ((taken ++ take left read) ++ (drop left read ++ zs))) → IfSome old P
known None mid new taken read left P a b p = tt
known (Some xs) None new taken read left P a b p = absurd a
known (Some xs) (Some ys) None taken read left P a b p = absurd b
known (Some xs) (Some ys) (Some zs) taken read left P a b p =
    let e : xs ≡ (taken ++ take left read) ++ (drop left read ++ zs) =
    a ∙ ap (λ l. taken ++ l) (b ∙ ap (λ l. l ++ zs) (sym (take-append-drop left read)) ∙ append_assoc (take left read) (drop left read) zs)
    ∙ sym (append_assoc taken (take left read) (drop left read ++ zs)) in
    subst P (sym e) (p zs)

-- all of them were taken
pub known_end : (old mid new : Option (List ℕ)) (taken none : List ℕ) (P : List ℕ → Type 0) → Consumes old mid taken → Consumes mid new none → none ≡ [] → IsAtEnd new → P taken → IfSome old P
known_end None mid new taken none P a b e end p = tt
known_end (Some xs) None new taken none P a b e end p = absurd a
known_end (Some xs) (Some ys) None taken none P a b e end p = absurd b
known_end (Some xs) (Some ys) (Some zs) taken none P a b e end p =
    let no : ys ≡ [] = b ∙ ap (λ l. l ++ zs) e ∙ end in
    subst P (sym (a ∙ ap (λ l. taken ++ l) no ∙ append-nil taken)) p

-- a read failed
pub known_failed : (f : PageFunction) (start : f.State) (old mid new : Option (List ℕ)) (taken : List ℕ) (before now : Option (List ℕ)) → Consumes old mid taken → Keeps mid new → Appends before now (running f start taken)
    → IfSome old (λ xs. AddsTaken (meaning f start) xs new before now)
known_failed f start None mid new taken before now a k p = tt
known_failed f start (Some xs) None new taken before now a k p = absurd a
known_failed f start (Some xs) (Some ys) None taken before now a k p = absurd k
known_failed f start (Some xs) (Some ys) (Some zs) taken before now a k p = record { taken = taken; rest = zs; left_is = refl; split = a ∙ ap (λ l. taken ++ l) (sym k); added = p }

-- ---- a read and the limit

pub read_len : (count : ℕ) (buf : List ℕ) → count ≤ length buf → length (take count buf) ≡ count
read_len count buf h = length-take-le count buf h

-- of a read past the limit, what is within it and what is not
pub cut_len : (taken read : List ℕ) (left limit : ℕ) → length taken + left ≡ limit → left < length read → length (taken ++ take left read) ≡ limit
cut_len taken read left limit e h =
    let a = length-append taken (take left read) in
    let b = length-take-le left read (omega arith) in
    omega arith

pub over_len : (read zs : List ℕ) (left : ℕ) → left < length read → 0 < length (drop left read ++ zs)
over_len read zs left h =
    let a = length-append (drop left read) zs in
    let b = length-drop left read in
    omega arith

pub within_len : (taken read : List ℕ) (left limit : ℕ) → length taken + left ≡ limit → length (taken ++ take left read) ≤ limit
within_len taken read left limit e =
    let a = length-append taken (take left read) in
    let b = Rattle.std.proofs.Common.length-take left read in
    omega arith

-- ---- call by call; `piece` is what of the bytes that were read is within the limit

module _ (f : PageFunction) (start : f.State) (limit left : ℕ) (old mid new : Option (List ℕ)) (taken read piece : List ℕ) (before between after : Option (List ℕ))
    (first : Consumes old mid taken) (second : Consumes mid new read) (piece_is : piece ≡ take left read) (all : length taken + left ≡ limit) where
  pub fault_answers : (fault : Fault) → fault_now (taken ++ piece) ≡ Some fault → IfSome old (λ xs. wanted (meaning f start) limit xs ≡ statuses.Refused fault)
  fault_answers fault h =
      known old mid new taken read left (λ xs. wanted (meaning f start) limit xs ≡ statuses.Refused fault) first second
      (λ zs. wanted_fault f start limit (taken ++ take left read) (drop left read ++ zs) fault (within_len taken read left limit all) (subst (λ l. fault_now (taken ++ l) ≡ Some fault) piece_is h))

  pub fault_writes : (fault : Fault) → fault_now (taken ++ piece) ≡ Some fault → Appends before between (running f start taken) → Appends between after (added_by f start taken (taken ++ piece))
      → IfSome old (λ xs. Appends before after (full f start xs))
  fault_writes fault h a b =
      known old mid new taken read left (λ xs. Appends before after (full f start xs)) first second
      (λ zs. writes_fault f start (taken ++ take left read) (drop left read ++ zs) fault before after (subst (λ l. fault_now (taken ++ l) ≡ Some fault) piece_is h)
      (subst (λ l. Appends before after (running f start (taken ++ l))) piece_is (added_twice f start taken piece before between after a b)))

  pub long_answers : left < length read → fault_now (taken ++ piece) ≡ None → IfSome old (λ xs. wanted (meaning f start) limit xs ≡ statuses.InputTooLong)
  long_answers more h =
      known old mid new taken read left (λ xs. wanted (meaning f start) limit xs ≡ statuses.InputTooLong) first second
      (λ zs. wanted_long f start limit (taken ++ take left read) (drop left read ++ zs) (cut_len taken read left limit all more) (over_len read zs left more)
      (subst (λ l. fault_now (taken ++ l) ≡ None) piece_is h))

  pub long_writes : left < length read → Appends before between (running f start taken) → Appends between after (added_by f start taken (taken ++ piece))
      → IfSome old (λ xs. Appends before after (running f start (take limit xs)))
  long_writes more a b =
      known old mid new taken read left (λ xs. Appends before after (running f start (take limit xs))) first second
      (λ zs. writes_long f start limit (taken ++ take left read) (drop left read ++ zs) before after (cut_len taken read left limit all more)
      (subst (λ l. Appends before after (running f start (taken ++ l))) piece_is (added_twice f start taken piece before between after a b)))

  pub failed_writes : Appends before between (running f start taken) → AppendsFront between after (added_by f start taken (taken ++ piece)) → IfSome old (λ xs. AppendsFront before after (full f start xs))
  failed_writes a b =
      known old mid new taken read left (λ xs. AppendsFront before after (full f start xs)) first second
      (λ zs. writes_failed f start taken (take left read) (drop left read ++ zs) before between after a
      (subst (λ l. AppendsFront between after (added_by f start taken (taken ++ l))) piece_is b))

pub start_nothing : (f : PageFunction) (start : f.State) (held : Option (List ℕ)) → Appends held held (running f start [])
start_nothing f start held = subst (Appends held held) (sym (running-is f start [] ∙ ap (said f start) no_pages ∙ none-said f start)) (Appends-nil held)
