-- Turns of pairs: what each keeps of all items, and the angle and distance.
use Rattle.std.proofs.Common.{◌≡◌, ◌≢◌, ◌⊎◌, ℕ, zero, suc, ◌+◌, ◌-◌, ◌*◌, ◌/◌, ◌%◌, ◌^◌, ◌<◌, ◌≤◌, sym, subst, inl, inr, arith, refl, ap, ◌∙◌, add-one, List, [], ◌++◌, length, take, drop, Bool, true, false}
use Rattle.std.specs.Prelude.{ℤ, neg_ℤ, unsigned_abs, slice_set, All, nat_eq, nat_lt, nat_le, ◌||◌, if◌then◌else◌}
use Rattle.std.proofs.lemmas.Int.{ints, clamps}
use Rattle.std.proofs.lemmas.Nat.{mul-le}
use Rattle.std.proofs.lemmas.List.{append-nil, append_assoc, length-append, length-take, length-drop, length-set, take_all, drop_all, take-append-le, drop-append-le, drop-drop}
use Rattle.std.proofs.lemmas.List.Elements.{All-set, All-append, All-take, All-drop}
use borrow.Rule.Slice.PartMut.{put_mid}
use Rattle.std.proofs.Math.Nat.{div-add-mod}
use Rattle.std.proofs.lemmas.Bool.{lt-ltb, le-ltb, le-leb, lt-leb, ne_eqb}
use Rattle.fixed_math.specs.Circle.{cosine, sine}
use Rattle.fixed_math.specs.Items.{item}
use Rattle.fixed_math.specs.Search.{first_from}
use Rattle.spread_fold.specs.Spreading.{clamped, turned_first, turned_second, pair_turned, turned_up, turned_down, turned, turned_far, spread_run, spread_runs, is_far, distance, spread_angle, spread_by}

pub clamped_size : (z : ℤ) → unsigned_abs (clamped z) ≤ 2 ^ 17
unfolding clamped
clamped_size z = omega (arith, ints, clamps)

-- what holds of each number up to 2^17 in size and of each item holds of each item afterwards
abbrev pub OfSmall : (ℤ → Type 0) → Type 0
OfSmall P = (v : ℤ) → unsigned_abs v ≤ 2 ^ 17 → P v

pub keeps_pair : (P : ℤ → Type 0) → OfSmall P → (t : ℕ) (c s : ℤ) (p : ℕ) (xs : List ℤ) → All P xs → All P (pair_turned t c s p xs)
unfolding pair_turned
keeps_pair P q t c s p xs h =
    let a : ℤ = turned_first c s (item xs p) (item xs (p + t)) in
    let b : ℤ = turned_second c s (item xs p) (item xs (p + t)) in
    All-set P (slice_set xs p a) (p + t) b (q b (clamped_size _)) (All-set P xs p a (q a (clamped_size _)) h)

pub keeps_up : (P : ℤ → Type 0) → OfSmall P → (t : ℕ) (c s : ℤ) (k : ℕ) (xs : List ℤ) → All P xs → All P (turned_up t c s k xs)
unfolding turned_up
keeps_up P q t c s zero xs h = h
keeps_up P q t c s (suc k) xs h = keeps_pair P q t c s k (turned_up t c s k xs) (keeps_up P q t c s k xs h)

pub keeps_down : (P : ℤ → Type 0) → OfSmall P → (t : ℕ) (c s : ℤ) (k : ℕ) (xs : List ℤ) → All P xs → All P (turned_down t c s k xs)
unfolding turned_down
keeps_down P q t c s zero xs h = h
keeps_down P q t c s (suc k) xs h = keeps_down P q t c s k (pair_turned t c s k xs) (keeps_pair P q t c s k xs h)

pub keeps_turned : (P : ℤ → Type 0) → OfSmall P → (t : ℕ) (c s : ℤ) (xs : List ℤ) → All P xs → All P (turned t c s xs)
unfolding turned
keeps_turned P q t c s xs h =
    keeps_down P q t c s (length xs - 2 * t) (turned_up t c s (length xs - t) xs) (keeps_up P q t c s (length xs - t) xs h)

keeps_either : (P : ℤ → Type 0) (b : Bool) (xs ys : List ℤ) → All P xs → All P ys → All P (if b then xs else ys)
keeps_either P true xs ys h g = h
keeps_either P false xs ys h g = g

pub keeps_far : (P : ℤ → Type 0) → OfSmall P → (t : ℕ) (c s : ℤ) (xs : List ℤ) → All P xs → All P (turned_far t c s xs)
unfolding turned_far
keeps_far P q t c s xs h = keeps_either P (nat_eq t 0) xs (turned t c s xs) h (keeps_turned P q t c s xs h)

pub keeps_run : (P : ℤ → Type 0) → OfSmall P → (forward : Bool) (t : ℕ) (c s : ℤ) (xs : List ℤ) → All P xs → All P (spread_run forward t c s xs)
unfolding spread_run
keeps_run P q forward t c s xs h =
    keeps_either P forward (turned_far t s (neg_ℤ c) (turned 1 c (neg_ℤ s) xs)) (turned 1 c s (turned_far t s c xs))
    (keeps_far P q t s (neg_ℤ c) (turned 1 c (neg_ℤ s) xs) (keeps_turned P q 1 c (neg_ℤ s) xs h))
    (keeps_turned P q 1 c s (turned_far t s c xs) (keeps_far P q t s c xs h))

-- what holds of all items holds of those of a run
pub all_run : (P : ℤ → Type 0) (n i : ℕ) (xs : List ℤ) → All P xs → All P (take n (drop i xs))
all_run P n i xs h = All-take P n (drop i xs) (All-drop P i xs h)

pub keeps_runs : (P : ℤ → Type 0) → OfSmall P → (forward : Bool) (t : ℕ) (c s : ℤ) (n b : ℕ) (xs : List ℤ) → All P xs → All P (spread_runs forward t c s n b xs)
unfolding spread_runs
keeps_runs P q forward t c s n zero xs h = λ k d l. absurd (omega arith)
keeps_runs P q forward t c s n (suc b) xs h =
    All-append P (spread_runs forward t c s n b xs) (spread_run forward t c s (take n (drop (b * n) xs))) (keeps_runs P q forward t c s n b xs h)
    (keeps_run P q forward t c s (take n (drop (b * n) xs)) (all_run P n (b * n) xs h))

pub keeps_by : (P : ℤ → Type 0) → OfSmall P → (blocks k spread : ℕ) (forward : Bool) (xs : List ℤ) → All P xs → All P (spread_by blocks k spread forward xs)
unfolding spread_by
keeps_by P q blocks k spread forward xs h =
    let n : ℕ = length xs in
    let c : ℤ = cosine (spread_angle n k spread) in
    let s : ℤ = sine (spread_angle n k spread) in
    keeps_either P (nat_eq spread 0 || nat_le n (2 * k)) xs (spread_runs forward (distance n blocks) c s (n / blocks) blocks xs) h
    (keeps_runs P q forward (distance n blocks) c s (n / blocks) blocks xs h)

-- no turn changes how many items there are
length-pair : (t : ℕ) (c s : ℤ) (p : ℕ) (xs : List ℤ) → length (pair_turned t c s p xs) ≡ length xs
unfolding pair_turned
length-pair t c s p xs = length-set (slice_set xs p _) (p + t) _ ∙ length-set xs p _

pub length-take_part : (n i : ℕ) (xs : List ℤ) → i + n ≤ length xs → length (take n (drop i xs)) ≡ n
length-take_part n i xs h = omega (arith, length-take n (drop i xs), length-drop i xs)

pub length-up : (t : ℕ) (c s : ℤ) (k : ℕ) (xs : List ℤ) → length (turned_up t c s k xs) ≡ length xs
unfolding turned_up
length-up t c s zero xs = refl
length-up t c s (suc k) xs = length-pair t c s k (turned_up t c s k xs) ∙ length-up t c s k xs

pub length-down : (t : ℕ) (c s : ℤ) (k : ℕ) (xs : List ℤ) → length (turned_down t c s k xs) ≡ length xs
unfolding turned_down
length-down t c s zero xs = refl
length-down t c s (suc k) xs = length-down t c s k (pair_turned t c s k xs) ∙ length-pair t c s k xs

pub length-turned : (t : ℕ) (c s : ℤ) (xs : List ℤ) → length (turned t c s xs) ≡ length xs
unfolding turned
length-turned t c s xs = length-down t c s (length xs - 2 * t) (turned_up t c s (length xs - t) xs) ∙ length-up t c s (length xs - t) xs

length-either : (b : Bool) (xs ys : List ℤ) (n : ℕ) → length xs ≡ n → length ys ≡ n → length (if b then xs else ys) ≡ n
length-either true xs ys n e f = e
length-either false xs ys n e f = f

pub length-far : (t : ℕ) (c s : ℤ) (xs : List ℤ) → length (turned_far t c s xs) ≡ length xs
unfolding turned_far
length-far t c s xs = length-either (nat_eq t 0) xs (turned t c s xs) (length xs) refl (length-turned t c s xs)

pub length-run : (forward : Bool) (t : ℕ) (c s : ℤ) (xs : List ℤ) → length (spread_run forward t c s xs) ≡ length xs
unfolding spread_run
length-run forward t c s xs =
    length-either forward (turned_far t s (neg_ℤ c) (turned 1 c (neg_ℤ s) xs)) (turned 1 c s (turned_far t s c xs)) (length xs)
    (length-far t s (neg_ℤ c) (turned 1 c (neg_ℤ s) xs) ∙ length-turned 1 c (neg_ℤ s) xs) (length-turned 1 c s (turned_far t s c xs) ∙ length-far t s c xs)

pub length-runs : (forward : Bool) (t : ℕ) (c s : ℤ) (n b : ℕ) (xs : List ℤ) → b * n ≤ length xs → length (spread_runs forward t c s n b xs) ≡ b * n
unfolding spread_runs
length-runs forward t c s n zero xs h = let e : 0 ≡ 0 * n = omega arith in e
length-runs forward t c s n (suc b) xs h =
    let front : List ℤ = spread_runs forward t c s n b xs in
    let part : List ℤ = take n (drop (b * n) xs) in
    let e : length part ≡ n = length-take_part n (b * n) xs (omega arith) in
    let f : length (spread_run forward t c s part) ≡ length part = length-run forward t c s part in
    let g : length front ≡ b * n = length-runs forward t c s n b xs (omega arith) in
    let l : length (front ++ spread_run forward t c s part) ≡ length front + length (spread_run forward t c s part) = length-append front (spread_run forward t c s part) in
    omega (arith, e, f, g, l)

-- one pair more
pub up_more : (t : ℕ) (c s : ℤ) (k : ℕ) (old mid new : List ℤ) → mid ≡ turned_up t c s k old → new ≡ pair_turned t c s k mid → new ≡ turned_up t c s (k + 1) old
unfolding turned_up
up_more t c s k old mid new e f = rw add-one (f ∙ ap (pair_turned t c s k) e)

pub down_more : (t : ℕ) (c s : ℤ) (k : ℕ) (old mid new : List ℤ) → turned_down t c s (k + 1) mid ≡ old → new ≡ pair_turned t c s k mid → turned_down t c s k new ≡ old
unfolding turned_down
down_more t c s k old mid new e f =
    let g : turned_down t c s (suc k) mid ≡ old = rw add-one at e in
    ap (turned_down t c s k) f ∙ g

-- both passes
pub passes_are : (t : ℕ) (c s : ℤ) (k l : ℕ) (xs : List ℤ) → k ≡ length xs - t → l ≡ length xs - 2 * t → turned_down t c s l (turned_up t c s k xs) ≡ turned t c s xs
unfolding turned
passes_are t c s k l xs e f = ap (λ m. turned_down t c s m (turned_up t c s k xs)) f ∙ ap (λ m. turned_down t c s (length xs - 2 * t) (turned_up t c s m xs)) e

pub far_some : (t : ℕ) (c s : ℤ) (xs : List ℤ) → 0 < t → turned t c s xs ≡ turned_far t c s xs
unfolding turned_far
far_some t c s xs h =
    let z : t ≢ 0 = omega arith in
    let e : nat_eq t 0 ≡ false = ne_eqb t 0 z in
    rw e refl

pub far_none : (t : ℕ) (c s : ℤ) (xs : List ℤ) → t ≡ 0 → xs ≡ turned_far t c s xs
unfolding turned_far
far_none t c s xs e = rw e refl

pub far_near : (t : ℕ) (c s : ℤ) (xs : List ℤ) → t ≡ 1 → turned 1 c s xs ≡ turned_far t c s xs
far_near t c s xs e = rw e (far_some 1 c s xs (omega arith))

-- a run
pub run_forward : (t : ℕ) (c s : ℤ) (old mid new : List ℤ) (forward : Bool) → forward ≡ true → mid ≡ turned 1 c (neg_ℤ s) old → new ≡ turned_far t s (neg_ℤ c) mid → new ≡ spread_run forward t c s old
unfolding spread_run
run_forward t c s old mid new forward w e f = rw w (f ∙ ap (turned_far t s (neg_ℤ c)) e)

pub run_back : (t : ℕ) (c s : ℤ) (old mid new : List ℤ) (forward : Bool) → forward ≡ false → mid ≡ turned_far t s c old → new ≡ turned 1 c s mid → new ≡ spread_run forward t c s old
unfolding spread_run
run_back t c s old mid new forward w e f = rw w (f ∙ ap (turned 1 c s) e)

-- one run more, behind those that are spread, and before the rest
pub runs_begun : (forward : Bool) (t : ℕ) (c s : ℤ) (n : ℕ) (xs : List ℤ) → xs ≡ spread_runs forward t c s n 0 xs ++ drop (0 * n) xs
unfolding spread_runs
runs_begun forward t c s n xs = let e : 0 ≡ 0 * n = omega arith in ap (λ k. drop k xs) e

run_put : (a n : ℕ) (front part xs mid : List ℤ) → length front ≡ a → mid ≡ front ++ drop a xs → put_mid a n mid part ≡ front ++ part ++ drop (a + n) xs
run_put a n front part xs mid l e =
    let f : take a mid ≡ front = ap (take a) e ∙ take-append-le a front (drop a xs) (omega arith) ∙ take_all a front (omega arith) in
    let g : drop a mid ≡ drop a xs = ap (drop a) e ∙ drop-append-le a front (drop a xs) (omega arith) ∙ ap (λ zs. zs ++ drop a xs) (drop_all a front (omega arith)) in
    let r : drop n (drop a mid) ≡ drop (a + n) xs = ap (drop n) g ∙ drop-drop n a xs in
    ap (λ zs. zs ++ (part ++ drop n (drop a mid))) f ∙ ap (λ zs. front ++ (part ++ zs)) r ∙ sym (append_assoc front part (drop (a + n) xs))

run_taken : (a n : ℕ) (front xs mid : List ℤ) → length front ≡ a → mid ≡ front ++ drop a xs → take n (drop a mid) ≡ take n (drop a xs)
run_taken a n front xs mid l e =
    ap (λ zs. take n (drop a zs)) e ∙ ap (take n) (drop-append-le a front (drop a xs) (omega arith) ∙ ap (λ zs. zs ++ drop a xs) (drop_all a front (omega arith)))

runs_next : (forward : Bool) (t : ℕ) (c s : ℤ) (n b : ℕ) (xs mid part : List ℤ) → (b + 1) * n ≤ length xs → mid ≡ spread_runs forward t c s n b xs ++ drop (b * n) xs
    → part ≡ spread_run forward t c s (take n (drop (b * n) mid)) → put_mid (b * n) n mid part ≡ spread_runs forward t c s n (b + 1) xs ++ drop ((b + 1) * n) xs
unfolding spread_runs
runs_next forward t c s n b xs mid part h e f =
    let front : List ℤ = spread_runs forward t c s n b xs in
    let l : length front ≡ b * n = length-runs forward t c s n b xs (omega arith) in
    let p : part ≡ spread_run forward t c s (take n (drop (b * n) xs)) = f ∙ ap (spread_run forward t c s) (run_taken (b * n) n front xs mid l e) in
    let w : b * n + n ≡ (b + 1) * n = omega arith in
    let r : put_mid (b * n) n mid part ≡ spread_runs forward t c s n (suc b) xs ++ drop ((b + 1) * n) xs =
    run_put (b * n) n front part xs mid l e ∙ ap (λ ys. front ++ ys ++ drop (b * n + n) xs) p ∙ ap (λ k. front ++ spread_run forward t c s (take n (drop (b * n) xs)) ++ drop k xs) w in
    let d : suc b ≡ b + 1 = omega arith in
    r ∙ ap (λ k. spread_runs forward t c s n k xs ++ drop ((b + 1) * n) xs) d

-- the same with the run's length as the code has it
pub runs_more : (forward : Bool) (t : ℕ) (c s : ℤ) (n b k : ℕ) (xs mid part : List ℤ) → k ≡ n → (b + 1) * n ≤ length xs → mid ≡ spread_runs forward t c s n b xs ++ drop (b * n) xs
    → part ≡ spread_run forward t c s (take k (drop (b * n) mid)) → put_mid (b * n) k mid part ≡ spread_runs forward t c s n (b + 1) xs ++ drop ((b + 1) * n) xs
runs_more forward t c s n b k xs mid part w h e f =
    ap (λ j. put_mid (b * n) j mid part) w ∙ runs_next forward t c s n b xs mid part h e (f ∙ ap (λ j. spread_run forward t c s (take j (drop (b * n) mid))) w)

-- what holds of all items holds of them while the runs are spread
pub keeps_going : (P : ℤ → Type 0) → OfSmall P → (forward : Bool) (t : ℕ) (c s : ℤ) (n b : ℕ) (xs ys : List ℤ) → ys ≡ spread_runs forward t c s n b xs ++ drop (b * n) xs → All P xs → All P ys
keeps_going P q forward t c s n b xs ys e h = subst (All P) (sym e) (All-append P (spread_runs forward t c s n b xs) (drop (b * n) xs) (keeps_runs P q forward t c s n b xs h) (All-drop P (b * n) xs h))

-- all runs are within the list
pub runs_within : (n b blocks : ℕ) → 1 ≤ blocks → b < blocks → (b + 1) * (n / blocks) ≤ n
runs_within n b blocks h l = omega (arith, mul-le (b + 1) (n / blocks) blocks (n / blocks) (omega arith) (omega arith), div-add-mod n blocks)

pub runs_whole : (n blocks : ℕ) → 1 ≤ blocks → n % blocks ≡ 0 → n ≤ blocks * (n / blocks)
runs_whole n blocks h e = omega (arith, div-add-mod n blocks)

pub runs_ended : (forward : Bool) (t : ℕ) (c s : ℤ) (n b blocks : ℕ) (xs ys : List ℤ) → b ≡ blocks → length xs ≤ blocks * n → ys ≡ spread_runs forward t c s n b xs ++ drop (b * n) xs → ys ≡ spread_runs forward t c s n blocks xs
runs_ended forward t c s n b blocks xs ys d h e =
    let f : drop (b * n) xs ≡ [] = drop_all (b * n) xs (omega (arith, ap (λ k. k * n) d)) in
    e ∙ ap (λ zs. spread_runs forward t c s n b xs ++ zs) f ∙ append-nil (spread_runs forward t c s n b xs) ∙ ap (λ k. spread_runs forward t c s n k xs) d

-- the divisor is small
pub divisor_size : (n k spread : ℕ) → n ≤ 176 → k ≤ 4096 → n + (20 - 5 * spread) * k ≤ 131072
divisor_size n k spread h g =
    let f : 20 - 5 * spread ≤ 20 = omega arith in
    omega (arith, mul-le (20 - 5 * spread) k 20 4096 f g)

pub small_below : OfSmall (λ v. unsigned_abs v < 2 ^ 20)
small_below v h = omega arith

-- the first number that passes
pub first_here : (passes : ℕ → Bool) (m t : ℕ) → 0 < m → passes t ≡ true → first_from passes m t ≡ t
unfolding first_from
first_here passes zero t h e = absurd (omega arith)
first_here passes (suc m) t h e = rw e refl

pub first_next : (passes : ℕ → Bool) (m t : ℕ) → passes t ≡ false → first_from passes (suc m) t ≡ first_from passes m (suc t)
unfolding first_from
first_next passes m t e = rw e refl

pub distance_more : (n blocks t : ℕ) → t ≤ 176 → (t * t + t) * blocks + blocks / 4 < n → first_from (is_far n blocks) (177 - t) t ≡ first_from (is_far n blocks) 176 1 → first_from (is_far n blocks) (177 - (t + 1)) (t + 1) ≡ first_from (is_far n blocks) 176 1
distance_more n blocks t few h e =
    let f : is_far n blocks t ≡ false = lt-leb n ((t * t + t) * blocks + blocks / 4) h in
    let k : 177 - t ≡ suc (177 - (t + 1)) = omega arith in
    let g : first_from (is_far n blocks) (suc (177 - (t + 1))) t ≡ first_from (is_far n blocks) 176 1 = ap (λ m. first_from (is_far n blocks) m t) (sym k) ∙ e in
    rw add-one (sym (first_next (is_far n blocks) (177 - suc t) t f) ∙ (rw add-one at g))

pub distance_few : (n blocks t : ℕ) → n ≤ 176 → 1 ≤ blocks → (t * t + t) * blocks + blocks / 4 < n → t + 1 ≤ 176
distance_few n blocks t h b l = omega (arith, mul-le (t * t + t) 1 (t * t + t) blocks (omega arith) b)

pub distance_none : (n blocks : ℕ) → n < 8 * blocks → 0 ≡ distance n blocks
unfolding distance
distance_none n blocks h = let e : nat_lt n (8 * blocks) ≡ true = lt-ltb n (8 * blocks) h in rw e refl

pub distance_end : (n blocks t : ℕ) → 8 * blocks ≤ n → t ≤ 176 → n ≤ (t * t + t) * blocks + blocks / 4 → first_from (is_far n blocks) (177 - t) t ≡ first_from (is_far n blocks) 176 1 → t ≡ distance n blocks
unfolding distance
distance_end n blocks t h few p e =
    let f : is_far n blocks t ≡ true = le-leb n ((t * t + t) * blocks + blocks / 4) p in
    let g : nat_lt n (8 * blocks) ≡ false = le-ltb n (8 * blocks) h in
    rw g (sym (first_here (is_far n blocks) (177 - t) t (omega arith) f) ∙ e)

-- where there is nothing to do, and where there is
or_right : (a : Bool) {b : Bool} → b ≡ true → (a || b) ≡ true
or_right true e = refl
or_right false e = e

pub by_none : (blocks k spread : ℕ) (forward : Bool) (xs : List ℤ) → (spread ≡ 0) ⊎ (length xs ≤ 2 * k) → xs ≡ spread_by blocks k spread forward xs
unfolding spread_by
by_none blocks k spread forward xs h = elim h [
  | inl e ↦ rw e refl
  | inr l ↦ let e : (nat_eq spread 0 || nat_le (length xs) (2 * k)) ≡ true = or_right (nat_eq spread 0) (le-leb (length xs) (2 * k) l) in rw e refl
]

pub by_some : (blocks k spread : ℕ) (forward : Bool) (xs : List ℤ) → (spread ≡ 0 → ⊥) → 2 * k < length xs → spread_runs forward (distance (length xs) blocks) (cosine (spread_angle (length xs) k spread)) (sine (spread_angle (length xs) k spread)) (length xs / blocks) blocks xs ≡ spread_by blocks k spread forward xs
unfolding spread_by
by_some blocks k spread forward xs n l =
    let e : nat_eq spread 0 ≡ false = ne_eqb spread 0 n in
    let f : nat_le (length xs) (2 * k) ≡ false = lt-leb (length xs) (2 * k) l in
    rw (e, f) refl

pub down_end : (t : ℕ) (c s : ℤ) (i : ℕ) (xs ys : List ℤ) → i ≡ 0 → turned_down t c s i xs ≡ ys → xs ≡ ys
unfolding turned_down
down_end t c s zero xs ys h e = e
down_end t c s (suc i) xs ys h e = absurd (omega arith)
