-- A channel of a band: its sign, or its parts.
use Rattle.std.proofs.Common.{◌≡◌, ◌≢◌, inl, inr, ℕ, zero, suc, ◌^◌, ◌<◌, ◌≤◌, sym, subst, arith, refl, ap, nat_eq, List, [], ◌∷◌, length, drop, Bool, true, false}
use Rattle.std.specs.Prelude.{ℤ, unsigned_abs, All, slice_set, if◌then◌else◌}
use Rattle.std.proofs.lemmas.Int.{ints}
use Rattle.std.proofs.lemmas.Bool.Decides.{nat_tests}
use Rattle.std.proofs.Math.Nat.{pow-le-pow_right}
use Rattle.band_plan.specs.declared.symbols.Node.{Node}
use Rattle.band_shapes.specs.declared.node.Layout.{Layout}
use Rattle.band_shapes.specs.declared.node.Wish.{Wish}
use Rattle.band_shapes.specs.Bands.{sign_of, side_shape}
use Rattle.band_shapes.specs.Channels.{channel_by, IsChannel}
use Rattle.band_shapes.specs.Forms.{One, Many, ReadSide, read_side, sign_in, many, IsSide}
use Rattle.band_shapes.specs.Tree.{front, read_part, IsPart, IsBlocks}
use Rattle.band_shapes.proofs.FormLemmas.{many_read}

-- one coefficient
pub one_read : (n level : ℕ) (ns : List Node) → n ≡ 1 → read_side n level ns ≡ record { side = One (sign_in (front ns)); rest = drop 1 ns }
unfolding read_side
one_read n level ns h =
    let t : nat_eq n 1 ≡ true = grind (arith, nat_tests, h) in
    ap (λ b. if b then record { side = One (sign_in (front ns)); rest = drop 1 ns } else many (read_part level ns)) t

-- more
pub side_part : (n level : ℕ) (ns : List Node) → n ≢ 1 → IsSide n (read_side n level ns).side → IsPart n (read_part level ns).part
unfolding IsSide
side_part n level ns h s =
    let t : IsSide n (Many (read_part level ns).part) = subst (λ (z : ReadSide). IsSide n z.side) (many_read n level ns h) s in
    t.1

pub side_channel : (e : Layout) (ns : List Node) (xs out : List ℤ) (w : Wish) (k seed m s : ℕ) → k ≡ e.count → e.count ≢ 1
    → IsChannel w.blocks (channel_by e.spread k (read_part e.level ns).part xs w e.change seed) out m s
    → IsChannel w.blocks (side_shape e (read_side e.count e.level ns).side xs w seed) out m s
unfolding side_shape
side_channel e ns xs out w k seed m s n h p =
    let q = subst (λ z. IsChannel w.blocks (channel_by e.spread z (read_part e.level ns).part xs w e.change seed) out m s) n p in
    subst (λ (z : ReadSide). IsChannel w.blocks (side_shape e z.side xs w seed) out m s) (sym (many_read e.count e.level ns h)) q

sign_size : (b : Bool) → unsigned_abs (sign_of b) < 2 ^ 19
unfolding sign_of
sign_size true = omega (arith, ints)
sign_size false = omega (arith, ints)

blocks_some : (b : ℕ) → IsBlocks b → 1 ≤ b
blocks_some b h = elim h [
  | inl e ↦ omega (arith, e)
  | inr e ↦ elim e [
    | inl f ↦ omega (arith, f)
    | inr f ↦ elim f [
      | inl g ↦ omega (arith, g)
      | inr g ↦ elim g [
        | inl k ↦ omega (arith, k)
        | inr k ↦ omega (arith, k)
      ]
    ]
  ]
]

pub one_below : (b : ℕ) → IsBlocks b → 1 < 2 ^ b
one_below b h =
    let p : 2 ^ 1 ≤ 2 ^ b = pow-le-pow_right {n = 2} (omega arith) {i = 1} {j = b} (blocks_some b h) in
    omega (arith, p)

pub side_sign : (e : Layout) (ns : List Node) (xs out : List ℤ) (w : Wish) (seed m s : ℕ) → e.count ≡ 1 → IsBlocks w.blocks
    → out ≡ sign_of (sign_in (front ns)) ∷ [] → m ≡ 1 → s ≡ seed
    → IsChannel w.blocks (side_shape e (read_side e.count e.level ns).side xs w seed) out m s
unfolding side_shape
side_sign e ns xs out w seed m s n b eo em es =
    let b1 : Bool = sign_in (front ns) in
    subst (λ (z : ReadSide). IsChannel w.blocks (side_shape e z.side xs w seed) out m s) (sym (one_read e.count e.level ns n)) (record {
      vector = eo;
      mask = em;
      seed = es;
      size = subst (All (λ v. unsigned_abs v < 2 ^ 19)) (sym eo) (single_small b1);
      small = subst (λ z. z < 2 ^ w.blocks) (sym em) (one_below w.blocks b);
    })
  where
    single_small : (b : Bool) → All (λ v. unsigned_abs v < 2 ^ 19) (sign_of b ∷ [])
    single_small b zero d l = sign_size b
    single_small b (suc k) d l = absurd (omega (arith, l))

pub one_set : (xs : List ℤ) (v : ℤ) → length xs ≡ 1 → slice_set xs 0 v ≡ v ∷ []
one_set [] v e = absurd (omega (arith, e))
one_set (x ∷ []) v e = refl
one_set (x ∷ (y ∷ ys)) v e = absurd (omega (arith, e))
