-- The packets of a page, one lacing value after the other.
use Rattle.std.proofs.Common.{◌≡◌, ℕ, zero, suc, ◌+◌, ◌*◌, ◌-◌, ◌<◌, ◌≤◌, true, false, List, [], ◌∷◌, length, take, drop, sum, nat_lt, get_or, refl, ◌∙◌, ap, subst, arith, length-drop, drop-drop, drop-cons, add-one, Some, None}
use Rattle.std.specs.Prelude.{slice_get}
use Rattle.std.specs.List.{slice_range}
use Rattle.std.proofs.lemmas.Bool.{lt-ltb, le-ltb}
use Rattle.std.proofs.lemmas.List.Sums.{sum_by-cons}
use Rattle.celt_base.specs.declared.status.Fault.{Fault}
use Rattle.opus_packets.specs.Cut.{parts}
use Rattle.opus_stream.specs.Packets.{ends, lengths_from}
use Rattle.opus_stream.specs.Audio.{first_fault, packet_fault, packet_samples, samples_in, open_fault, packets_fault, longest}
use Rattle.opus_stream.specs.Tallies.{packets_on, open_behind, fault_on}

-- a value that ends no packet, and one that ends one
pub lengths-longer : (before value : ℕ) (values : List ℕ) → ends value ≡ false → lengths_from before (value ∷ values) ≡ lengths_from (before + value) values
unfolding lengths_from
lengths-longer before value values e = rw e refl

pub lengths-ended : (before value : ℕ) (values : List ℕ) → ends value ≡ true → lengths_from before (value ∷ values) ≡ (before + value) ∷ lengths_from 0 values
unfolding lengths_from
lengths-ended before value values e = rw e refl

pub lengths-none : (before : ℕ) → lengths_from before [] ≡ []
unfolding lengths_from
lengths-none before = refl

sum-cons : (x : ℕ) (xs : List ℕ) → sum (x ∷ xs) ≡ x + sum xs
sum-cons x xs = sum_by-cons (λ n. n) x xs

-- where the tests of the packets stand: what is left of the lacing values, behind so many bytes of the next packet
pub record Tallying (lacing bytes : List ℕ) (before number packets samples len end : ℕ) (rest : List ℕ) : Type 0 where
  pub ahead : ℕ
  pub apart : end ≡ len + ahead
  pub fault : fault_on lacing bytes before number ≡ packets_fault (number + packets) (parts (lengths_from ahead rest) (drop len bytes)) (open_behind lacing bytes before)
  pub packets_are : length (lengths_from before lacing) ≡ packets + length (lengths_from ahead rest)
  pub samples_are : samples_in (packets_on lacing bytes before) ≡ samples + samples_in (parts (lengths_from ahead rest) (drop len bytes))
  pub len_is : sum (lengths_from before lacing) ≡ len + sum (lengths_from ahead rest)
  pub inside : end + sum rest ≡ length bytes
  pub few : packets + length rest ≤ length lacing
  pub short : samples ≤ 5760 * packets

pub start : (lacing bytes : List ℕ) (before number : ℕ) → length bytes ≡ before + sum lacing → Tallying lacing bytes before number 0 0 0 before lacing
start lacing bytes before number all = record {
  ahead = before;
  apart = omega arith;
  fault = ap (λ n. packets_fault n (packets_on lacing bytes before) (open_behind lacing bytes before)) (omega arith);
  packets_are = omega arith;
  samples_are = omega arith;
  len_is = omega arith;
  inside = omega arith;
  few = omega arith;
  short = omega arith;
}

pub longer : (lacing bytes : List ℕ) (before number packets samples len end value : ℕ) (values : List ℕ) → ends value ≡ false
    → Tallying lacing bytes before number packets samples len end (value ∷ values) → Tallying lacing bytes before number packets samples len (end + value) values
longer lacing bytes before number packets samples len end value values e t =
    let more = lengths-longer t.ahead value values e in
    let apart = t.apart in
    let inside = t.inside in
    let few = t.few in
    let s = sum-cons value values in
    record {
      ahead = t.ahead + value;
      apart = omega arith;
      fault = t.fault ∙ ap (λ l. packets_fault (number + packets) (parts l (drop len bytes)) (open_behind lacing bytes before)) more;
      packets_are = t.packets_are ∙ ap (λ l. packets + length l) more;
      samples_are = t.samples_are ∙ ap (λ l. samples + samples_in (parts l (drop len bytes))) more;
      len_is = t.len_is ∙ ap (λ l. len + sum l) more;
      inside = omega arith;
      few = omega arith;
      short = t.short;
    }

-- the packet that a value ends
abbrev pub packet_in : List ℕ → ℕ → ℕ → List ℕ
packet_in bytes from to = slice_range bytes from to

-- the packets of the rest are this one and those behind it
rest_is : (bytes : List ℕ) (len end ahead value : ℕ) (values : List ℕ) → ends value ≡ true → end ≡ len + ahead
    → parts (lengths_from ahead (value ∷ values)) (drop len bytes) ≡ packet_in bytes len (end + value) ∷ parts (lengths_from 0 values) (drop (end + value) bytes)
rest_is bytes len end ahead value values e apart =
    let size : ahead + value ≡ (end + value) - len = omega arith in
    let behind : drop (ahead + value) (drop len bytes) ≡ drop (end + value) bytes = drop-drop (ahead + value) len bytes ∙ ap (λ n. drop n bytes) (omega arith) in
    ap (λ l. parts l (drop len bytes)) (lengths-ended ahead value values e)
    ∙ ap (λ l. take (ahead + value) (drop len bytes) ∷ parts (lengths_from 0 values) l) behind
    ∙ ap (λ n. take n (drop len bytes) ∷ parts (lengths_from 0 values) (drop (end + value) bytes)) size

fault-cons : (number : ℕ) (packet : List ℕ) (packets : List (List ℕ)) (left : List ℕ)
    → packets_fault number (packet ∷ packets) left ≡ first_fault (packet_fault number packet) (packets_fault (number + 1) packets left)
unfolding packets_fault
fault-cons number packet packets left = refl

pub ended : (lacing bytes : List ℕ) (before number packets samples len end value more : ℕ) (values : List ℕ) → ends value ≡ true
    → packet_fault (number + packets) (packet_in bytes len (end + value)) ≡ None → more ≡ packet_samples (packet_in bytes len (end + value)) → more ≤ 5760
    → Tallying lacing bytes before number packets samples len end (value ∷ values)
    → Tallying lacing bytes before number (packets + 1) (samples + more) (end + value) (end + value) values
ended lacing bytes before number packets samples len end value more values e sound is bound t =
    let rest = rest_is bytes len end t.ahead value values e t.apart in
    let packet = packet_in bytes len (end + value) in
    let packets_behind = parts (lengths_from 0 values) (drop (end + value) bytes) in
    let left = open_behind lacing bytes before in
    let lens = lengths-ended t.ahead value values e in
    let apart = t.apart in
    let inside = t.inside in
    let few = t.few in
    let short = t.short in
    let s = sum-cons value values in
    let count : length (lengths_from t.ahead (value ∷ values)) ≡ 1 + length (lengths_from 0 values) = ap length lens ∙ omega arith in
    let total : sum (lengths_from t.ahead (value ∷ values)) ≡ (t.ahead + value) + sum (lengths_from 0 values) = ap sum lens ∙ sum-cons (t.ahead + value) (lengths_from 0 values) in
    let packets_are = t.packets_are in
    let len_is = t.len_is in
    let these : samples_in (parts (lengths_from t.ahead (value ∷ values)) (drop len bytes)) ≡ packet_samples packet + samples_in packets_behind =
    ap samples_in rest ∙ sum_by-cons packet_samples packet packets_behind in
    let samples_are = t.samples_are in
    record {
      ahead = 0;
      apart = omega arith;
      fault = t.fault ∙ ap (λ l. packets_fault (number + packets) l left) rest ∙ fault-cons (number + packets) packet packets_behind left
          ∙ ap (λ f. first_fault f (packets_fault (number + packets + 1) packets_behind left)) sound
          ∙ ap (λ n. packets_fault n packets_behind left) (omega arith);
      packets_are = omega arith;
      samples_are = omega arith;
      len_is = omega arith;
      inside = omega arith;
      few = omega arith;
      short = omega arith;
    }

-- the fault of a packet is that of all
pub refused : (lacing bytes : List ℕ) (before number packets samples len end value : ℕ) (values : List ℕ) (fault : Fault) → ends value ≡ true
    → packet_fault (number + packets) (packet_in bytes len (end + value)) ≡ Some fault
    → Tallying lacing bytes before number packets samples len end (value ∷ values) → fault_on lacing bytes before number ≡ Some fault
refused lacing bytes before number packets samples len end value values fault e broken t =
    let packet = packet_in bytes len (end + value) in
    let packets_behind = parts (lengths_from 0 values) (drop (end + value) bytes) in
    let left = open_behind lacing bytes before in
    t.fault ∙ ap (λ l. packets_fault (number + packets) l left) (rest_is bytes len end t.ahead value values e t.apart)
    ∙ fault-cons (number + packets) packet packets_behind left
    ∙ ap (λ f. first_fault f (packets_fault (number + packets + 1) packets_behind left)) broken

fault-none : (number : ℕ) (left : List ℕ) → packets_fault number [] left ≡ open_fault number left
unfolding packets_fault
fault-none number left = refl

-- ---- behind the last value

-- what is left then
pub record Done (lacing bytes : List ℕ) (before number packets samples len end : ℕ) : Type 0 where
  pub fault : fault_on lacing bytes before number ≡ open_fault (number + packets) (drop len bytes)
  pub packets_are : packets ≡ length (lengths_from before lacing)
  pub samples_are : samples ≡ samples_in (packets_on lacing bytes before)
  pub len_is : len ≡ sum (lengths_from before lacing)
  pub all : end ≡ length bytes
  pub ahead : len ≤ end

pub done : (lacing bytes : List ℕ) (before number packets samples len end : ℕ) → Tallying lacing bytes before number packets samples len end []
    → Done lacing bytes before number packets samples len end
done lacing bytes before number packets samples len end t =
    let none = lengths-none t.ahead in
    let apart = t.apart in
    let inside = t.inside in
    let packets_are : length (lengths_from before lacing) ≡ packets + 0 = t.packets_are ∙ ap (λ l. packets + length l) none in
    let len_is : sum (lengths_from before lacing) ≡ len + 0 = t.len_is ∙ ap (λ l. len + sum l) none in
    let samples_are : samples_in (packets_on lacing bytes before) ≡ samples + 0 = t.samples_are ∙ ap (λ l. samples + samples_in (parts l (drop len bytes))) none in
    let len_same : sum (lengths_from before lacing) ≡ len = omega arith in
    record {
      fault = t.fault ∙ ap (λ l. packets_fault (number + packets) (parts l (drop len bytes)) (open_behind lacing bytes before)) none
          ∙ fault-none (number + packets) (open_behind lacing bytes before)
          ∙ ap (λ n. open_fault (number + packets) (drop n bytes)) len_same;
      packets_are = omega arith;
      samples_are = omega arith;
      len_is = omega arith;
      all = omega arith;
      ahead = omega arith;
    }

pub too_long : (number : ℕ) (bytes : List ℕ) (len end : ℕ) → end ≡ length bytes → 61440 < end - len → open_fault number (drop len bytes) ≡ Some (record { name = Rattle.celt_base.specs.declared.status.FaultName.TheVariants.PacketTooLong; at = number })
too_long number bytes len end all h =
    let long : nat_lt longest (length (drop len bytes)) ≡ true = lt-ltb longest (length (drop len bytes)) (simp length-drop (omega arith)) in
    rw long refl

pub not_too_long : (number : ℕ) (bytes : List ℕ) (len end : ℕ) → end ≡ length bytes → end - len ≤ 61440 → open_fault number (drop len bytes) ≡ None
not_too_long number bytes len end all h =
    let long : nat_lt longest (length (drop len bytes)) ≡ false = le-ltb longest (length (drop len bytes)) (simp length-drop (omega arith)) in
    rw long refl

-- ---- one packet of them

-- the packet with a number, among what is left
pub record Seeking (lacing bytes : List ℕ) (before i count start end : ℕ) (rest : List ℕ) : Type 0 where
  pub ahead : ℕ
  pub apart : end ≡ start + ahead
  pub same : slice_get (packets_on lacing bytes before) i ≡ slice_get (parts (lengths_from ahead rest) (drop start bytes)) (i - count)
  pub there : i < count + length (lengths_from ahead rest)
  pub not_past : count ≤ i
  pub inside : end + sum rest ≡ length bytes

pub seek : (lacing bytes : List ℕ) (before i : ℕ) → length bytes ≡ before + sum lacing → i < length (lengths_from before lacing) → Seeking lacing bytes before i 0 0 before lacing
seek lacing bytes before i all h = record {
  ahead = before;
  apart = omega arith;
  same = ap (λ n. slice_get (packets_on lacing bytes before) n) (omega arith);
  there = omega arith;
  not_past = omega arith;
  inside = omega arith;
}

pub seek_longer : (lacing bytes : List ℕ) (before i count start end value : ℕ) (values : List ℕ) → ends value ≡ false
    → Seeking lacing bytes before i count start end (value ∷ values) → Seeking lacing bytes before i count start (end + value) values
seek_longer lacing bytes before i count start end value values e s =
    let more = lengths-longer s.ahead value values e in
    let apart = s.apart in
    let inside = s.inside in
    let u = sum-cons value values in
    record {
      ahead = s.ahead + value;
      apart = omega arith;
      same = s.same ∙ ap (λ l. slice_get (parts l (drop start bytes)) (i - count)) more;
      there = subst (λ l. i < count + length l) more s.there;
      not_past = s.not_past;
      inside = omega arith;
    }

pub seek_next : (lacing bytes : List ℕ) (before i count start end value : ℕ) (values : List ℕ) → ends value ≡ true → (count ≡ i → ⊥)
    → Seeking lacing bytes before i count start end (value ∷ values) → Seeking lacing bytes before i (count + 1) (end + value) (end + value) values
seek_next lacing bytes before i count start end value values e other s =
    let rest = rest_is bytes start end s.ahead value values e s.apart in
    let inside = s.inside in
    let u = sum-cons value values in
    let past = s.not_past in
    let further : count < i = omega arith in
    let place : i - count ≡ suc (i - (count + 1)) = omega arith in
    let there : i < count + length ((s.ahead + value) ∷ lengths_from 0 values) = subst (λ l. i < count + length l) (lengths-ended s.ahead value values e) s.there in
    record {
      ahead = 0;
      apart = omega arith;
      same = s.same ∙ ap (λ l. slice_get l (i - count)) rest ∙ ap (λ n. slice_get (packet_in bytes start (end + value) ∷ parts (lengths_from 0 values) (drop (end + value) bytes)) n) place;
      there = omega arith;
      not_past = omega arith;
      inside = omega arith;
    }

pub found : (lacing bytes : List ℕ) (before i count start end value : ℕ) (values : List ℕ) → ends value ≡ true → count ≡ i
    → Seeking lacing bytes before i count start end (value ∷ values) → slice_get (packets_on lacing bytes before) i ≡ Some (packet_in bytes start (end + value))
found lacing bytes before i count start end value values e this s =
    let rest = rest_is bytes start end s.ahead value values e s.apart in
    let place : i - count ≡ 0 = omega arith in
    s.same ∙ ap (λ l. slice_get l (i - count)) rest
    ∙ ap (λ n. slice_get (packet_in bytes start (end + value) ∷ parts (lengths_from 0 values) (drop (end + value) bytes)) n) place

pub not_there : (lacing bytes : List ℕ) (before i count start end : ℕ) → Seeking lacing bytes before i count start end [] → ⊥
not_there lacing bytes before i count start end s =
    let h : i < count + 0 = subst (λ l. i < count + length l) (lengths-none s.ahead) s.there in
    let past = s.not_past in
    omega arith

-- ---- the lacing values by their places

pub rest_cons : (xs : List ℕ) (k v : ℕ) → k < length xs → v ≡ get_or xs k 0 → drop k xs ≡ v ∷ drop (k + 1) xs
rest_cons xs k v h e = rw e (rw add-one (drop-cons xs k 0 h))

pub rest_none : (xs : List ℕ) (k : ℕ) → length xs ≤ k → drop k xs ≡ []
rest_none [] zero h = refl
rest_none [] (suc k) h = refl
rest_none (x ∷ xs) zero h = absurd (omega arith)
rest_none (x ∷ xs) (suc k) h = rest_none xs k (omega arith)

pub is_255 : (v w : ℕ) → v ≡ w → w ≡ 255 → ends v ≡ false
is_255 v w e f = le-ltb v 255 (omega arith)

pub is_below : (v w : ℕ) → v ≡ w → w < 256 → (w ≡ 255 → ⊥) → ends v ≡ true
is_below v w e small other = lt-ltb v 255 (omega arith)

-- ---- one packet, where the lacing values fit the bytes

pub record Looking (lacing bytes : List ℕ) (before i count start end k : ℕ) : Type 0 where
  pub order : start ≤ end
  pub bound : end ≤ before + 255 * k
  pub few : count ≤ k
  pub seeks : length bytes ≡ before + sum lacing → i < length (lengths_from before lacing) → Seeking lacing bytes before i count start end (drop k lacing)

pub look : (lacing bytes : List ℕ) (before i : ℕ) → Looking lacing bytes before i 0 0 before 0
look lacing bytes before i = record { order = omega arith; bound = omega arith; few = omega arith; seeks = λ all there. seek lacing bytes before i all there }

pub look_longer : (lacing bytes : List ℕ) (before i count start end k v : ℕ) → k < length lacing → v ≡ get_or lacing k 0 → get_or lacing k 0 ≡ 255
    → Looking lacing bytes before i count start end k → Looking lacing bytes before i count start (end + v) (k + 1)
look_longer lacing bytes before i count start end k v inside is full l =
    let order = l.order in
    let bound = l.bound in
    let few = l.few in
    record {
      order = omega arith;
      bound = omega arith;
      few = omega arith;
      seeks = λ all there. seek_longer lacing bytes before i count start end v (drop (k + 1) lacing) (is_255 v (get_or lacing k 0) is full)
          (subst (λ r. Seeking lacing bytes before i count start end r) (rest_cons lacing k v inside is) (l.seeks all there));
    }

pub look_next : (lacing bytes : List ℕ) (before i count start end k v : ℕ) → k < length lacing → v ≡ get_or lacing k 0 → get_or lacing k 0 < 256 → (get_or lacing k 0 ≡ 255 → ⊥)
    → (count ≡ i → ⊥) → Looking lacing bytes before i count start end k → Looking lacing bytes before i (count + 1) (end + v) (end + v) (k + 1)
look_next lacing bytes before i count start end k v inside is small short other l =
    let bound = l.bound in
    let few = l.few in
    record {
      order = omega arith;
      bound = omega arith;
      few = omega arith;
      seeks = λ all there. seek_next lacing bytes before i count start end v (drop (k + 1) lacing) (is_below v (get_or lacing k 0) is small short) other
          (subst (λ r. Seeking lacing bytes before i count start end r) (rest_cons lacing k v inside is) (l.seeks all there));
    }

pub look_found : (lacing bytes : List ℕ) (before i count start end k v : ℕ) → k < length lacing → v ≡ get_or lacing k 0 → get_or lacing k 0 < 256 → (get_or lacing k 0 ≡ 255 → ⊥)
    → count ≡ i → Looking lacing bytes before i count start end k → length bytes ≡ before + sum lacing → i < length (lengths_from before lacing)
    → (end + v ≤ length bytes) × (slice_get (packets_on lacing bytes before) i ≡ Some (packet_in bytes start (end + v)))
look_found lacing bytes before i count start end k v inside is small short this l all there =
    let s = subst (λ r. Seeking lacing bytes before i count start end r) (rest_cons lacing k v inside is) (l.seeks all there) in
    let fits = s.inside in
    let u = sum-cons v (drop (k + 1) lacing) in (
      omega arith,
      found lacing bytes before i count start end v (drop (k + 1) lacing) (is_below v (get_or lacing k 0) is small short) this s,
    )

pub look_none : (lacing bytes : List ℕ) (before i count start end k : ℕ) → length lacing ≤ k → Looking lacing bytes before i count start end k
    → length bytes ≡ before + sum lacing → i < length (lengths_from before lacing) → ⊥
look_none lacing bytes before i count start end k past l all there =
    not_there lacing bytes before i count start end (subst (λ r. Seeking lacing bytes before i count start end r) (rest_none lacing k past) (l.seeks all there))
