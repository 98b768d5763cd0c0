-- Joins: rows of a column, and columns of runs, over plain numbers.
use Rattle.std.proofs.Common.{◌≡◌, ◌≢◌, ◌⊎◌, ℕ, zero, suc, ◌+◌, ◌-◌, ◌*◌, ◌/◌, ◌%◌, ◌<◌, ◌≤◌, refl, sym, subst, inl, inr, arith, ap, ◌∙◌}
use Rattle.std.proofs.lemmas.Nat.{mul-le, div-mul-add, mod-mul-add, mod_below, div_below, div-add-mod'}
use Rattle.std.proofs.lemmas.Bool.{cases_lt, cases_eq}
use Rattle.mdct_fixed.specs.declared.complex.Complex.{Complex}
use Rattle.mdct_fixed.specs.Numbers.{plus, turned, IsWithin}
use Rattle.mdct_fixed.specs.Rows.{IsRowJoined}
use Rattle.mdct_fixed.specs.Joins.{IsColumnJoined, AreJoined}
use Rattle.mdct_fixed.specs.Transform.{turned_sum, joined}

-- sums of the same items are the same
pub same_sum : (g h : ℕ → Complex) (a n : ℕ) → ((j : ℕ) → j ≤ n → g j ≡ h j) → turned_sum g a n ≡ turned_sum h a n
unfolding turned_sum
same_sum g h a zero e = e 0 (omega arith)
same_sum g h a (suc n) e =
    ap (λ v. plus v (turned (g (suc n)) (a * suc n % 15360))) (same_sum g h a n (λ j l. e j (omega arith)))
    ∙ ap (λ v. plus (turned_sum h a n) (turned v (a * suc n % 15360))) (e (suc n) (omega arith))

-- ---- places

smaller : (b n : ℕ) → b < n + 1 → (b ≡ n → ⊥) → b < n
smaller b n h ne = omega arith

-- rows of two runs have no place in common
rows_apart : (r m start len a b q t : ℕ) → len ≡ r * m → 0 < m → a < b → q < r → start + a * len + q * m ≢ start + b * len + t * m
rows_apart r m start len a b q t e z h l f =
    let u : (a + 1) * len ≤ b * len = mul-le (a + 1) len b len (omega arith) (omega arith) in
    let v : (q + 1) * m ≤ r * m = mul-le (q + 1) m r m (omega arith) (omega arith) in
    omega arith

-- rows of two columns have no place in common
columns_apart : (r m from len c d a b q t : ℕ) → len ≡ r * m → c < m → d < m → (c ≡ d → ⊥) → from + c + a * len + q * m ≢ from + d + b * len + t * m
columns_apart r m from len c d a b q t e h l n f =
    let u : a * len ≡ a * (r * m) = ap (λ x. a * x) e in
    let v : b * len ≡ b * (r * m) = ap (λ x. b * x) e in
    let w : (a * r + q) * m + c ≡ (b * r + t) * m + d = omega arith in
    n (sym (mod-mul-add (a * r + q) m c h) ∙ ap (λ x. x % m) w ∙ mod-mul-add (b * r + t) m d l)

-- ---- rows of a column

column_start : (r m start len a : ℕ) (old : ℕ → Complex) → IsColumnJoined r m start len 0 a old old
column_start r m start len a old = record { sums = λ b q h l. absurd (omega arith); others = λ i g. refl }

column_next : (r m start len a b p : ℕ) (old mid new : ℕ → Complex) → len ≡ r * m → 0 < m → p ≡ start + b * len → IsColumnJoined r m start len b a old mid → IsRowJoined r m p a mid new → IsColumnJoined r m start len (b + 1) a old new
column_next r m start len a b p old mid new e z ep s t = record { sums = sums; others = others }
  where
    untouched : (j : ℕ) → mid (p + j * m) ≡ old (start + b * len + j * m)
    untouched j =
        ap (λ n. mid (n + j * m)) ep ∙ s.others (start + b * len + j * m) (λ d q h l f. rows_apart r m start len d b q j e z h l (sym f))

    here : (q : ℕ) → q < r → new (start + b * len + q * m) ≡ turned_sum (λ j. old (start + b * len + j * m)) (a + 15360 / r * q) (r - 1)
    here q l =
        ap (λ n. new (n + q * m)) (sym ep) ∙ t.sums q l
        ∙ same_sum (λ j. mid (p + j * m)) (λ j. old (start + b * len + j * m)) (a + 15360 / r * q) (r - 1) (λ j k. untouched j)

    before : (d q : ℕ) → d < b → q < r → new (start + d * len + q * m) ≡ turned_sum (λ j. old (start + d * len + j * m)) (a + 15360 / r * q) (r - 1)
    before d q h l =
        t.others (start + d * len + q * m) (λ u v f. rows_apart r m start len d b q u e z h l (f ∙ ap (λ n. n + u * m) ep)) ∙ s.sums d q h l

    sums : (d q : ℕ) → d < b + 1 → q < r → new (start + d * len + q * m) ≡ turned_sum (λ j. old (start + d * len + j * m)) (a + 15360 / r * q) (r - 1)
    sums d q h l = elim (cases_eq d b) [
      | inl w ↦ rw w (here q l)
      | inr w ↦ before d q (smaller d b h w) l
    ]

    others : (i : ℕ) → ((d q : ℕ) → d < b + 1 → q < r → i ≢ start + d * len + q * m) → new i ≡ old i
    others i g =
        t.others i (λ q l f. g b q (omega arith) l (f ∙ ap (λ n. n + q * m) ep)) ∙ s.others i (λ d q h l. g d q (omega arith) l)

-- the loop over the runs has come to place p
pub record IsGoing (r m start len count a p : ℕ) (old new : ℕ → Complex) : Type 0 where
  pub low : start ≤ p
  pub whole : p ≡ start + (p - start) / len * len
  pub most : (p - start) / len ≤ count
  pub joined : IsColumnJoined r m start len ((p - start) / len) a old new

going_at : (r m start len count a p b : ℕ) (old new : ℕ → Complex) → 0 < len → p ≡ start + b * len → b ≤ count → IsColumnJoined r m start len b a old new → IsGoing r m start len count a p old new
going_at r m start len count a p b old new z e h s =
    let d : p - start ≡ b * len + 0 = omega arith in
    let f : (p - start) / len ≡ b = ap (λ n. n / len) d ∙ div-mul-add b len 0 z in
    record {
      low = omega arith;
      whole = e ∙ ap (λ n. start + n * len) (sym f);
      most = subst (λ n. n ≤ count) (sym f) h;
      joined = subst (λ n. IsColumnJoined r m start len n a old new) (sym f) s;
    }

pub going_start : (r m start len count a : ℕ) (old : ℕ → Complex) → 0 < len → IsGoing r m start len count a start old old
going_start r m start len count a old z =
    going_at r m start len count a start 0 old old z (omega arith) (omega arith) (column_start r m start len a old)

-- the runs that are left
still_inside : (from c m len r count p b : ℕ) → len ≡ r * m → c < m → p ≡ from + c + b * len → p < from + count * len → b < count
still_inside from c m len r count p b e h ep l = elim (cases_lt b count) [
  | inl w ↦ w
  | inr w ↦ let u : count * len ≤ b * len = mul-le count len b len w (omega arith) in absurd (omega arith)
]

none_left : (from c m len r count p b : ℕ) → len ≡ r * m → 0 < r → c < m → p ≡ from + c + b * len → from + count * len ≤ p → b ≤ count → b ≡ count
none_left from c m len r count p b e z h ep l k = elim (cases_lt b count) [
  | inl w ↦
      let u : (b + 1) * len ≤ count * len = mul-le (b + 1) len count len (omega arith) (omega arith) in
      let v : 1 * m ≤ r * m = mul-le 1 m r m z (omega arith) in
      absurd (omega arith)
  | inr w ↦ omega arith
]

pub going_next : (r m from c len count a p : ℕ) (old mid new : ℕ → Complex) → len ≡ r * m → 0 < len → c < m → p < from + count * len → IsGoing r m (from + c) len count a p old mid → IsRowJoined r m p a mid new → IsGoing r m (from + c) len count a (p + len) old new
going_next r m from c len count a p old mid new e z h l g t =
    let b : ℕ = (p - (from + c)) / len in
    let w : p ≡ from + c + b * len = g.whole in
    let k : b < count = still_inside from c m len r count p b e h w l in
    going_at r m (from + c) len count a (p + len) (b + 1) old new z (omega arith) (omega arith)
    (column_next r m (from + c) len a b p old mid new e (omega arith) w g.joined t)

pub going_end : (r m from c len count a p : ℕ) (old new : ℕ → Complex) → len ≡ r * m → 0 < r → c < m → from + count * len ≤ p → IsGoing r m (from + c) len count a p old new → IsColumnJoined r m (from + c) len count a old new
going_end r m from c len count a p old new e z h l g =
    let b : ℕ = (p - (from + c)) / len in
    subst (λ n. IsColumnJoined r m (from + c) len n a old new) (none_left from c m len r count p b e z h g.whole l g.most) g.joined

-- the row at p is inside, and its items are as they were
pub going_room : (r m from c len count a p n : ℕ) (old new : ℕ → Complex) → len ≡ r * m → 0 < len → c < m → p < from + count * len → from + count * len ≤ n → IsGoing r m (from + c) len count a p old new → (q : ℕ) → q < r → p + q * m < n
going_room r m from c len count a p n old new e z h l k g q lq =
    let b : ℕ = (p - (from + c)) / len in
    let w : p ≡ from + c + b * len = g.whole in
    let i : b < count = still_inside from c m len r count p b e h w l in
    let u : (b + 1) * len ≤ count * len = mul-le (b + 1) len count len (omega arith) (omega arith) in
    let v : (q + 1) * m ≤ r * m = mul-le (q + 1) m r m (omega arith) (omega arith) in
    omega arith

pub going_within : (r m from c len count a p n : ℕ) (old new : ℕ → Complex) → len ≡ r * m → 0 < len → c < m → p < from + count * len → IsGoing r m (from + c) len count a p old new → ((b q : ℕ) → b < count → q < r → IsWithin n (old (from + c + b * len + q * m))) → (q : ℕ) → q < r → IsWithin n (new (p + q * m))
going_within r m from c len count a p n old new e z h l g t q lq =
    let b : ℕ = (p - (from + c)) / len in
    let w : p ≡ from + c + b * len = g.whole in
    let i : b < count = still_inside from c m len r count p b e h w l in
    let same : new (p + q * m) ≡ old (from + c + b * len + q * m) = ap (λ k. new (k + q * m)) w ∙ g.joined.others (from + c + b * len + q * m) (λ d u f k o. rows_apart r m (from + c) len d b u q e (omega arith) f k (sym o)) in
    subst (IsWithin n) (sym same) (t b q i lq)

-- ---- columns of runs

pub record IsPartJoined (r m from len count cols : ℕ) (old new : ℕ → Complex) : Type 0 where
  pub sums : (c b q : ℕ) → c < cols → b < count → q < r → new (from + c + b * len + q * m) ≡ turned_sum (λ j. old (from + c + b * len + j * m)) (15360 / len * c + 15360 / r * q) (r - 1)
  pub others : (i : ℕ) → ((c b q : ℕ) → c < cols → b < count → q < r → i ≢ from + c + b * len + q * m) → new i ≡ old i

pub part_start : (r m from len count : ℕ) (old : ℕ → Complex) → IsPartJoined r m from len count 0 old old
part_start r m from len count old = record { sums = λ c b q h l k. absurd (omega arith); others = λ i g. refl }

pub part_next : (r m from len count c : ℕ) (old mid new : ℕ → Complex) → len ≡ r * m → c < m → IsPartJoined r m from len count c old mid → IsColumnJoined r m (from + c) len count (15360 / len * c) mid new → IsPartJoined r m from len count (c + 1) old new
part_next r m from len count c old mid new e z s t = record { sums = sums; others = others }
  where
    untouched : (b j : ℕ) → mid (from + c + b * len + j * m) ≡ old (from + c + b * len + j * m)
    untouched b j = s.others (from + c + b * len + j * m) (λ d f q h l k o. columns_apart r m from len c d b f j q e z (omega arith) (omega arith) o)

    here : (b q : ℕ) → b < count → q < r → new (from + c + b * len + q * m) ≡ turned_sum (λ j. old (from + c + b * len + j * m)) (15360 / len * c + 15360 / r * q) (r - 1)
    here b q h l =
        t.sums b q h l
        ∙ same_sum (λ j. mid (from + c + b * len + j * m)) (λ j. old (from + c + b * len + j * m)) (15360 / len * c + 15360 / r * q) (r - 1) (λ j k. untouched b j)

    before : (d b q : ℕ) → d < c → b < count → q < r → new (from + d + b * len + q * m) ≡ turned_sum (λ j. old (from + d + b * len + j * m)) (15360 / len * d + 15360 / r * q) (r - 1)
    before d b q k h l =
        t.others (from + d + b * len + q * m) (λ f u v w o. columns_apart r m from len d c b f q u e (omega arith) z (omega arith) o) ∙ s.sums d b q k h l

    sums : (d b q : ℕ) → d < c + 1 → b < count → q < r → new (from + d + b * len + q * m) ≡ turned_sum (λ j. old (from + d + b * len + j * m)) (15360 / len * d + 15360 / r * q) (r - 1)
    sums d b q k h l = elim (cases_eq d c) [
      | inl w ↦ rw w (here b q h l)
      | inr w ↦ before d b q (smaller d c k w) h l
    ]

    others : (i : ℕ) → ((d b q : ℕ) → d < c + 1 → b < count → q < r → i ≢ from + d + b * len + q * m) → new i ≡ old i
    others i g = t.others i (λ b q h l. g c b q (omega arith) h l) ∙ s.others i (λ d b q k h l. g d b q (omega arith) h l)

pub part_within : (r m from len count c n : ℕ) (old new : ℕ → Complex) → len ≡ r * m → c < m → IsPartJoined r m from len count c old new → ((i : ℕ) → from ≤ i → i < from + count * len → IsWithin n (old i)) → (b q : ℕ) → b < count → q < r → IsWithin n (new (from + c + b * len + q * m))
part_within r m from len count c n old new e z s t b q h l =
    let same : new (from + c + b * len + q * m) ≡ old (from + c + b * len + q * m) = s.others (from + c + b * len + q * m) (λ d f u k v w o. columns_apart r m from len c d b f q u e z (omega arith) (omega arith) o) in
    let u : (b + 1) * len ≤ count * len = mul-le (b + 1) len count len (omega arith) (omega arith) in
    let v : (q + 1) * m ≤ r * m = mul-le (q + 1) m r m (omega arith) (omega arith) in
    subst (IsWithin n) (sym same) (t (from + c + b * len + q * m) (omega arith) (omega arith))

-- ---- whole runs

-- the step of the angles, by which a run's length divides the circle
steps : (r m len t : ℕ) → 0 < r → 0 < len → len ≡ r * m → 480 ≡ t * len → (15360 / len ≡ 32 * t) × (15360 / r ≡ 32 * t * m)
steps r m len t zr zl e d =
    let u : 15360 ≡ 32 * t * len + 0 = omega arith in
    let w : t * len ≡ t * (r * m) = ap (λ n. t * n) e in
    let v : 15360 ≡ 32 * t * m * r + 0 = omega arith in
    (ap (λ n. n / len) u ∙ div-mul-add (32 * t) len 0 zl, ap (λ n. n / r) v ∙ div-mul-add (32 * t * m) r 0 zr)

-- the angle of item k of a run, by its column and quotient
item_angle : (r m len t k : ℕ) → 0 < r → 0 < len → len ≡ r * m → 480 ≡ t * len → 15360 / len * (k % m) + 15360 / r * (k / m) ≡ 15360 / (r * m) * k
item_angle r m len t k zr zl e d =
    let s = steps r m len t zr zl e d in
    let f : 15360 / (r * m) ≡ 32 * t = ap (λ n. 15360 / n) (sym e) ∙ s.0 in
    let g : k / m * m + k % m ≡ k = div-add-mod' k m in
    ap (λ n. n * (k % m) + 15360 / r * (k / m)) s.0 ∙ ap (λ n. 32 * t * (k % m) + n * (k / m)) s.1
    ∙ spread (32 * t) (k / m) m (k % m) ∙ ap (λ n. 32 * t * n) g ∙ ap (λ n. n * k) (sym f)
  where
    spread : (s q m c : ℕ) → s * c + s * m * q ≡ s * (q * m + c)
    spread s q m c = omega arith

pub part_end : (r m from len count t : ℕ) (old new : ℕ → Complex) → 0 < r → 0 < len → len ≡ r * m → 480 ≡ t * len → IsPartJoined r m from len count m old new → AreJoined r m from count old new
part_end r m from len count t old new zr zl e d s = record { each = each; others = others }
  where
    room : (r m len : ℕ) → 0 < len → len ≡ r * m → 0 < m
    room r zero len z e = absurd (omega arith)
    room r (suc m) len z e = omega arith

    each : (b k : ℕ) → b < count → k < r * m → new (from + b * (r * m) + k) ≡ joined r m (from + b * (r * m)) old k
    each b k h l =
        let zm : 0 < m = room r m len zl e in
        let c : k % m < m = mod_below k m zm in
        let q : k / m < r = div_below k m r zm l in
        let w : b * len ≡ b * (r * m) = ap (λ n. b * n) e in
        let g : k / m * m + k % m ≡ k = div-add-mod' k m in
        let place : from + b * (r * m) + k ≡ from + k % m + b * len + k / m * m = omega arith in
        ap new place ∙ s.sums (k % m) b (k / m) c h q
        ∙ same_sum (λ j. old (from + k % m + b * len + j * m)) (λ j. old (from + b * (r * m) + k % m + j * m)) (15360 / len * (k % m) + 15360 / r * (k / m)) (r - 1)
        (λ j x. let p : from + k % m + b * len + j * m ≡ from + b * (r * m) + k % m + j * m = omega arith in ap old p)
        ∙ ap (λ n. turned_sum (λ j. old (from + b * (r * m) + k % m + j * m)) n (r - 1)) (item_angle r m len t k zr zl e d)

    apart : (i c b q : ℕ) → (i < from) ⊎ (from + count * (r * m) ≤ i) → c < m → b < count → q < r → i ≢ from + c + b * len + q * m
    apart i c b q o h k l f =
        let u : (b + 1) * len ≤ count * len = mul-le (b + 1) len count len (omega arith) (omega arith) in
        let v : (q + 1) * m ≤ r * m = mul-le (q + 1) m r m (omega arith) (omega arith) in
        let w : count * len ≡ count * (r * m) = ap (λ n. count * n) e in
        elim o [
          | inl x ↦ omega arith
          | inr x ↦ omega arith
        ]

    others : (i : ℕ) → (i < from) ⊎ (from + count * (r * m) ≤ i) → new i ≡ old i
    others i o = s.others i (λ c b q h k l. apart i c b q o h k l)

-- a length's quotient, and the angles of its columns
pub quotient_of : (len : ℕ) → 480 % len ≡ 0 → 480 ≡ 480 / len * len
quotient_of len h = sym (div-add-mod' 480 len) ∙ ap (λ n. 480 / len * len + n) h ∙ plain (480 / len * len)
  where
    plain : (n : ℕ) → n + 0 ≡ n
    plain n = omega arith

pub angle_below : (r m len c : ℕ) → 0 < r → 0 < len → len ≡ r * m → 480 % len ≡ 0 → c < m → 15360 / len * c < 15360 / r
angle_below r m len c zr zl e h l =
    let t : ℕ = 480 / len in
    let w : 480 ≡ t * len = quotient_of len h in
    let s = steps r m len t zr zl e w in
    let some : 0 < t = some_times t len w in
    let u : (c + 1) * (32 * t) ≤ m * (32 * t) = mul-le (c + 1) (32 * t) m (32 * t) (omega arith) (omega arith) in
    let v : 32 * t * c < 32 * t * m = omega arith in
    subst (λ n. n * c < 15360 / r) (sym s.0) (subst (λ n. 32 * t * c < n) (sym s.1) v)
  where
    some_times : (t len : ℕ) → 480 ≡ t * len → 0 < t
    some_times zero len w = absurd (omega arith)
    some_times (suc t) len w = omega arith
