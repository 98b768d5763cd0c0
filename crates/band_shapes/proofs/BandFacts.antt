-- Each change that a frame's settings allow is one that the band can take: looked at for every band, size and change.
use Rattle.std.proofs.Common.{◌≡◌, ◌⊎◌, inl, inr, ℕ, zero, suc, ◌*◌, ◌/◌, ◌%◌, ◌^◌, ◌<◌, ◌≤◌, sym, arith, refl, ◌∙◌, Bool, true, false}
use Rattle.std.specs.Prelude.{ℤ, unsigned_abs, nat_eq, nat_le, ◌&&◌, ◌||◌, if◌then◌else◌}
use Rattle.std.proofs.lemmas.Bool.{eqb-true, leb-true, false≢true, cases_lt}
use Rattle.tf_change.proofs.OrderLemmas.{holds_below}
use Rattle.band_shapes.specs.declared.change.Change.{Change}
use Rattle.celt_tables.specs.Tables.{width_of, change_of as tf_of}
use Rattle.band_shapes.specs.Tree.{IsBlocks}
use Rattle.band_shapes.specs.Channels.{change_of, halvings, raised, lowered, IsChange}

unfoldable pub is_blocks : ℕ → Bool
is_blocks b = nat_eq b 1 || (nat_eq b 2 || (nat_eq b 4 || (nat_eq b 8 || nat_eq b 16)))

unfoldable pub is_change : ℕ → ℕ → Change → Bool
is_change n b c =
    is_blocks b && (nat_le b 8 && (nat_eq c.stride (b * 2 ^ c.down) && (is_blocks c.stride && (is_blocks c.blocks && (nat_eq (c.blocks * 2 ^ c.up) c.stride
    && (nat_le c.up 3 && (nat_le c.down 3 && ((nat_eq c.up 0 || nat_eq c.down 0) && (nat_eq (n % 2 ^ c.up) 0 && (nat_eq (n / b % 2 ^ c.down) 0
    && (nat_eq (n % b) 0 && (nat_eq (n % c.stride) 0 && nat_eq (n % c.blocks) 0))))))))))))

-- the items of band i in a frame of this size
unfoldable pub width : ℕ → ℕ → ℕ
width i lm = width_of i * 2 ^ lm

-- for each setting that the tables have, with short blocks only from the second size on
abbrev pub blocks_for : ℕ → Bool → ℕ
blocks_for lm transient = if transient then 2 ^ lm else 1

unfoldable pub tf_test : ℕ → ℕ → Bool → Bool → Bool → Bool
tf_test i lm transient select flag =
    (nat_eq lm 0 && transient)
    || (nat_le (unsigned_abs (tf_of lm transient select flag)) 3 && is_change (width i lm) (blocks_for lm transient) (change_of (width i lm) (blocks_for lm transient) (tf_of lm transient select flag)))

abbrev pub both_ways : (Bool → Bool) → Bool
both_ways p = p true && p false

unfoldable pub band_test : ℕ → Bool
band_test i = holds_below (λ lm. both_ways (λ t. both_ways (λ s. both_ways (tf_test i lm t s)))) 4

all_bands : holds_below band_test 21 ≡ true
unfolding is_blocks is_change width tf_test band_test holds_below change_of halvings raised lowered
all_bands = refl

pub both_true : (a b : Bool) → (a && b) ≡ true → (a ≡ true) × (b ≡ true)
both_true true b e = (refl, e)
both_true false b e = absurd (false≢true e)

pub one_true : (a b : Bool) → (a || b) ≡ true → (a ≡ true) ⊎ (b ≡ true)
one_true true b e = inl refl
one_true false b e = inr e

pub holds_at : (p : ℕ → Bool) (n k : ℕ) → holds_below p n ≡ true → k < n → p k ≡ true
unfolding holds_below
holds_at p zero k e h = absurd (omega arith)
holds_at p (suc n) k e h = elim (cases_lt k n) [
  | inl less ↦ holds_at p n k (both_true (p n) (holds_below p n) e).1 less
  | inr last ↦ let same : k ≡ n = omega arith in rw same (both_true (p n) (holds_below p n) e).0
]

blocks_are : (b : ℕ) → is_blocks b ≡ true → IsBlocks b
unfolding is_blocks
blocks_are b h = elim (one_true (nat_eq b 1) _ h) [
  | inl e ↦ inl (eqb-true b 1 e)
  | inr e ↦ elim (one_true (nat_eq b 2) _ e) [
    | inl f ↦ inr (inl (eqb-true b 2 f))
    | inr f ↦ elim (one_true (nat_eq b 4) _ f) [
      | inl g ↦ inr (inr (inl (eqb-true b 4 g)))
      | inr g ↦ elim (one_true (nat_eq b 8) _ g) [
        | inl k ↦ inr (inr (inr (inl (eqb-true b 8 k))))
        | inr k ↦ inr (inr (inr (inr (eqb-true b 16 k))))
      ]
    ]
  ]
]

one_none : (a b : ℕ) → (nat_eq a 0 || nat_eq b 0) ≡ true → (a ≡ 0) ⊎ (b ≡ 0)
one_none a b h = elim (one_true (nat_eq a 0) (nat_eq b 0) h) [
  | inl e ↦ inl (eqb-true a 0 e)
  | inr e ↦ inr (eqb-true b 0 e)
]

change_is : (n b : ℕ) (c : Change) → is_change n b c ≡ true → IsChange n b c
unfolding is_change
change_is n b c h =
    let h1 = both_true _ _ h in
    let h2 = both_true _ _ h1.1 in
    let h3 = both_true _ _ h2.1 in
    let h4 = both_true _ _ h3.1 in
    let h5 = both_true _ _ h4.1 in
    let h6 = both_true _ _ h5.1 in
    let h7 = both_true _ _ h6.1 in
    let h8 = both_true _ _ h7.1 in
    let h9 = both_true _ _ h8.1 in
    let h10 = both_true _ _ h9.1 in
    let h11 = both_true _ _ h10.1 in
    let h12 = both_true _ _ h11.1 in
    let h13 = both_true _ _ h12.1 in
    record {
      band = blocks_are b h1.0;
      least = leb-true b 8 h2.0;
      stride = eqb-true _ _ h3.0;
      strides = blocks_are c.stride h4.0;
      blocks = blocks_are c.blocks h5.0;
      joined = eqb-true _ _ h6.0;
      up = leb-true c.up 3 h7.0;
      down = leb-true c.down 3 h8.0;
      one = one_none c.up c.down h9.0;
      upper = eqb-true _ _ h10.0;
      lower = eqb-true _ _ h11.0;
      runs = eqb-true _ _ h12.0;
      whole = eqb-true _ _ h13.0;
      parts = eqb-true _ _ h13.1;
    }

at_bool : (p : Bool → Bool) (b : Bool) → both_ways p ≡ true → p b ≡ true
at_bool p true h = (both_true (p true) (p false) h).0
at_bool p false h = (both_true (p true) (p false) h).1

test_at : (i lm : ℕ) (t s f : Bool) → i < 21 → lm < 4 → tf_test i lm t s f ≡ true
unfolding band_test
test_at i lm t s f h l =
    at_bool (tf_test i lm t s) f (at_bool (λ z. both_ways (tf_test i lm t z)) s (at_bool (λ y. both_ways (λ z. both_ways (tf_test i lm y z))) t
    (holds_at (λ lm. both_ways (λ t. both_ways (λ s. both_ways (tf_test i lm t s)))) 4 lm (holds_at band_test 21 i all_bands h) l)))

pub record IsTf (i lm : ℕ) (transient : Bool) (tf : ℤ) : Type 0 where
  pub most : unsigned_abs tf ≤ 3
  pub change : IsChange (width i lm) (blocks_for lm transient) (change_of (width i lm) (blocks_for lm transient) tf)

pub tf_is : (i lm : ℕ) (t s f : Bool) → i < 21 → lm < 4 → (lm ≡ 0 → t ≡ false) → IsTf i lm t (tf_of lm t s f)
unfolding tf_test
tf_is i lm t s f h l long =
    elim (one_true _ _ (test_at i lm t s f h l)) [
      | inl e ↦
          let p = both_true (nat_eq lm 0) t e in
          let q : t ≡ false = long (eqb-true lm 0 p.0) in
          absurd (false≢true (sym q ∙ p.1))
      | inr e ↦
          let p = both_true _ _ e in
          record { most = leb-true _ 3 p.0; change = change_is _ _ _ p.1 }
    ]
