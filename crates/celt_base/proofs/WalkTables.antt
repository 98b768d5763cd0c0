-- A walk over bands and channels on its way: at a band, and at an entry of a band.
use Rattle.std.proofs.Common.{◌≡◌, ◌≢◌, ℕ, zero, suc, ◌+◌, ◌<◌, ◌≤◌, List, [], ◌∷◌, ◌++◌, length, get_or, set, replicate, inl, inr, refl, sym, ◌∙◌, ap, subst, length-append, arith}
use Rattle.std.specs.List.{All}
use Rattle.std.proofs.lemmas.Bool.{cases_eq}
use Rattle.std.proofs.lemmas.List.{get_or-set_same, get_or-set_other, get_or-replicate, length-set, length-replicate}
use Rattle.std.proofs.lemmas.List.Elements.{All-append, All-cons, All-nil}
use Rattle.celt_base.specs.WalkCalls.{CoderCalls, ChooserCalls}
use Rattle.celt_base.specs.WalkScripts.{Script, and_then, each, row_of, rows_of, table}
use Rattle.celt_base.specs.Walks.{Walked}
use Rattle.celt_base.specs.WalkTables.{HoldsRows, WalkedTable}
use Rattle.celt_base.proofs.WalkSteps.{Going, start, walk_in, end}

-- one item more
at_end : {T : Type 0} (xs : List T) (x blank : T) → get_or (xs ++ x ∷ []) (length xs) blank ≡ x
at_end [] x blank = refl
at_end (y ∷ xs) x blank = at_end xs x blank

before_end : {T : Type 0} (xs : List T) (x blank : T) (i : ℕ) → i ≢ length xs → get_or (xs ++ x ∷ []) i blank ≡ get_or xs i blank
before_end [] x blank zero ne = absurd (ne refl)
before_end [] x blank (suc i) ne = refl
before_end (y ∷ xs) x blank zero ne = refl
before_end (y ∷ xs) x blank (suc i) ne = before_end xs x blank i (λ e. ne (ap suc e))

-- a blank item more
blank_end : {T : Type 0} (xs : List T) (blank : T) (i : ℕ) → get_or (xs ++ blank ∷ []) i blank ≡ get_or xs i blank
blank_end [] blank zero = refl
blank_end [] blank (suc i) = refl
blank_end (y ∷ xs) blank zero = refl
blank_end (y ∷ xs) blank (suc i) = blank_end xs blank i

-- the last item apart, two lists are the same
same_elsewhere : {T : Type 0} (xs : List T) (x y blank : T) (i : ℕ) → i ≢ length xs → get_or (xs ++ x ∷ []) i blank ≡ get_or (xs ++ y ∷ []) i blank
same_elsewhere xs x y blank i ne = before_end xs x blank i ne ∙ sym (before_end xs y blank i ne)

-- an item more in the last row
row_longer : {T : Type 0} (rows : List (List T)) (row : List T) (value blank : T) (i at : ℕ)
    → i ≢ length row
    → get_or (get_or (rows ++ (row ++ value ∷ []) ∷ []) at []) i blank ≡ get_or (get_or (rows ++ row ∷ []) at []) i blank
row_longer [] row value blank i zero ne = before_end row value blank i ne
row_longer [] row value blank i (suc at) ne = refl
row_longer (r ∷ rows) row value blank i zero ne = refl
row_longer (r ∷ rows) row value blank i (suc at) ne = row_longer rows row value blank i at ne

repeated : {T : Type 0} (n i : ℕ) (blank : T) → get_or (replicate n blank) i blank ≡ blank
repeated zero i blank = refl
repeated (suc n) zero blank = refl
repeated (suc n) (suc i) blank = repeated n i blank

blank_entry : {T : Type 0} (n m i at : ℕ) (blank : T) → get_or (get_or (replicate n (replicate m blank)) i []) at blank ≡ blank
blank_entry zero m i at blank = refl
blank_entry (suc n) m zero at blank = repeated m at blank
blank_entry (suc n) m (suc i) at blank = blank_entry n m i at blank

-- nothing is held yet
pub blank_array : {T : Type 0} (n m : ℕ) (blank : T) → HoldsRows blank (replicate n (replicate m blank)) []
blank_array n m blank channel band = blank_entry n m channel band blank

-- The array has room for these channels and bands.
pub record IsRoom {T : Type 0} (channels bands : ℕ) (array : List (List T)) : Type 0 where
  pub channels_fit : channels ≤ length array
  pub bands_fit : (channel : ℕ) → channel < channels → bands ≤ length (get_or array channel [])

pub room_array : {T : Type 0} (n m channels bands : ℕ) (blank : T) → channels ≤ n → bands ≤ m → IsRoom channels bands (replicate n (replicate m blank))
room_array n m channels bands blank fit wide = record {
  channels_fit = rw (length-replicate n (replicate m blank)) fit;
  bands_fit = λ channel below.
      rw (get_or-replicate n channel (replicate m blank) [] (omega arith), length-replicate m blank) wide;
}

room_kept : {T : Type 0} (channels bands channel band : ℕ) (value : T) (array : List (List T))
    → channel < channels
    → IsRoom channels bands array
    → IsRoom channels bands (set array channel (set (get_or array channel []) band value))
room_kept channels bands channel band value array below room = record {
  channels_fit = rw (length-set array channel (set (get_or array channel []) band value)) room.channels_fit;
  bands_fit = λ other inside.
      elim (cases_eq other channel) [
        | inl same ↦
            let fit = room.channels_fit in
            let e : length (get_or (set array channel (set (get_or array channel []) band value)) channel []) ≡ length (get_or array channel []) =
            ap length (get_or-set_same array channel (set (get_or array channel []) band value) [] (omega (arith, fit)))
            ∙ length-set (get_or array channel []) band value in
            subst (λ o. bands ≤ length (get_or (set array channel (set (get_or array channel []) band value)) o [])) (sym same)
            (subst (λ n. bands ≤ n) (sym e) (room.bands_fit channel below))
        | inr apart ↦
            subst (λ list. bands ≤ length list) (sym (get_or-set_other array channel other (set (get_or array channel []) band value) [] apart))
            (room.bands_fit other inside)
      ];
}

module _ {T : Type 0} where
  -- an entry of the last row is written
  entry_written : (blank value : T) (array rows : List (List T)) (row : List T) (channel band : ℕ)
      → channel < length array
      → band < length (get_or array channel [])
      → length rows ≡ band
      → length row ≡ channel
      → HoldsRows blank array (rows ++ row ∷ [])
      → HoldsRows blank (set array channel (set (get_or array channel []) band value)) (rows ++ (row ++ value ∷ []) ∷ [])
  entry_written blank value array rows row channel band in_array in_band rows_are row_are holds other at =
      elim (cases_eq other channel) [
        | inl same ↦ elim (cases_eq at band) [
          | inl here ↦
              let e : get_or (get_or (set array channel (set (get_or array channel []) band value)) channel []) band blank ≡ value =
              ap (λ list. get_or list band blank) (get_or-set_same array channel (set (get_or array channel []) band value) [] in_array)
              ∙ get_or-set_same (get_or array channel []) band value blank in_band in
              let f : get_or (get_or (rows ++ (row ++ value ∷ []) ∷ []) band []) channel blank ≡ value =
              ap (λ list. get_or list channel blank)
              (ap (λ n. get_or (rows ++ (row ++ value ∷ []) ∷ []) n []) (sym rows_are) ∙ at_end rows (row ++ value ∷ []) [])
              ∙ (ap (λ n. get_or (row ++ value ∷ []) n blank) (sym row_are) ∙ at_end row value blank) in
              subst
              (λ o. get_or (get_or (set array channel (set (get_or array channel []) band value)) o []) at blank
              ≡ get_or (get_or (rows ++ (row ++ value ∷ []) ∷ []) at []) o blank)
              (sym same)
              (subst
              (λ b. get_or (get_or (set array channel (set (get_or array channel []) band value)) channel []) b blank
              ≡ get_or (get_or (rows ++ (row ++ value ∷ []) ∷ []) b []) channel blank)
              (sym here)
              (e ∙ sym f))
          | inr away ↦
              let kept : get_or (get_or (set array channel (set (get_or array channel []) band value)) channel []) at blank
              ≡ get_or (get_or array channel []) at blank =
              ap (λ list. get_or list at blank) (get_or-set_same array channel (set (get_or array channel []) band value) [] in_array)
              ∙ get_or-set_other (get_or array channel []) band at value blank away in
              subst
              (λ o. get_or (get_or (set array channel (set (get_or array channel []) band value)) o []) at blank
              ≡ get_or (get_or (rows ++ (row ++ value ∷ []) ∷ []) at []) o blank)
              (sym same)
              (kept ∙ holds channel at ∙ ap (λ list. get_or list channel blank) (same_elsewhere rows row (row ++ value ∷ []) [] at (λ e. away (e ∙ rows_are))))
        ]
        | inr apart ↦
            let kept : get_or (get_or (set array channel (set (get_or array channel []) band value)) other []) at blank
            ≡ get_or (get_or array other []) at blank =
            ap (λ list. get_or list at blank) (get_or-set_other array channel other (set (get_or array channel []) band value) [] apart) in
            kept ∙ holds other at ∙ sym (row_longer rows row value blank other at (λ e. apart (e ∙ row_are)))
      ]

module _ {C H T : Type 0} (coder : CoderCalls C) (chooser : ChooserCalls H) (script : ℕ → ℕ → Script T) (channels bands : ℕ) (blank : T) where
  -- At a band, the ones before it being walked.
  pub record AtBand (array : List (List T)) (c : C) (h : H) (d : C) (k : H) (band : ℕ) : Type 0 where
    pub rows : List (List T)
    pub left : ℕ
    pub left_is : left + band ≡ bands
    pub going : Going coder chooser (table script channels bands) (rows_of script channels left band rows) c h d k
    pub room : IsRoom channels bands array
    pub holds : HoldsRows blank array rows
    pub bands_are : length rows ≡ band
    pub channels_are : All (λ row. length row ≡ channels) rows

  -- At an entry of a band, the ones before it being walked.
  pub record AtEntry (array : List (List T)) (c : C) (h : H) (d : C) (k : H) (band channel : ℕ) : Type 0 where
    pub rows : List (List T)
    pub row : List T
    pub bands_left : ℕ
    pub bands_left_is : suc bands_left + band ≡ bands
    pub left : ℕ
    pub left_is : left + channel ≡ channels
    pub going : Going coder chooser (table script channels bands)
        (and_then (row_of script band left channel row) (λ all. rows_of script channels bands_left (band + 1) (rows ++ all ∷ []))) c h d k
    pub room : IsRoom channels bands array
    pub holds : HoldsRows blank array (rows ++ row ∷ [])
    pub bands_are : length rows ≡ band
    pub row_is : length row ≡ channel
    pub channels_are : All (λ row. length row ≡ channels) rows

module _ {C H T : Type 0} {coder : CoderCalls C} {chooser : ChooserCalls H} {script : ℕ → ℕ → Script T} {channels bands : ℕ} {blank : T} where
  -- at the first band
  pub first_band : {array : List (List T)} {c : C} {h : H}
      → IsRoom channels bands array
      → HoldsRows blank array []
      → AtBand coder chooser script channels bands blank array c h c h 0
  first_band room holds = record {
    rows = [];
    left = bands;
    left_is = omega arith;
    going = start;
    room = room;
    holds = holds;
    bands_are = refl;
    channels_are = All-nil (λ row. length row ≡ channels);
  }

  -- at the first entry of a band
  pub first_entry : {array : List (List T)} {c d : C} {h k : H} {band : ℕ}
      → AtBand coder chooser script channels bands blank array c h d k band
      → band < bands
      → AtEntry coder chooser script channels bands blank array c h d k band 0
  first_entry {array} {c} {d} {h} {k} {band} b below =
      entered b.left b.left_is b.going
    where
      entered : (left : ℕ) → left + band ≡ bands → Going coder chooser (table script channels bands) (rows_of script channels left band b.rows) c h d k
          → AtEntry coder chooser script channels bands blank array c h d k band 0
      entered zero left_is going = absurd (omega arith)
      entered (suc left) left_is going = record {
        rows = b.rows;
        row = [];
        bands_left = left;
        bands_left_is = left_is;
        left = channels;
        left_is = omega arith;
        going = going;
        room = b.room;
        holds = λ channel at. b.holds channel at ∙ sym (ap (λ list. get_or list channel blank) (blank_end b.rows [] at));
        bands_are = b.bands_are;
        row_is = refl;
        channels_are = b.channels_are;
      }

  -- an entry is walked and written
  pub next_entry : {array : List (List T)} {c d e : C} {h k m : H} {band channel : ℕ} (value : T)
      → AtEntry coder chooser script channels bands blank array c h d k band channel
      → channel < channels
      → Walked coder chooser (script band channel) value d k e m
      → AtEntry coder chooser script channels bands blank (set array channel (set (get_or array channel []) band value)) c h e m band (channel + 1)
  next_entry {array} {c} {d} {e} {h} {k} {m} {band} {channel} value a below w =
      walked_on a.left a.left_is a.going
    where
      walked_on : (left : ℕ) → left + channel ≡ channels
          → Going coder chooser (table script channels bands)
          (and_then (row_of script band left channel a.row) (λ all. rows_of script channels a.bands_left (band + 1) (a.rows ++ all ∷ []))) c h d k
          → AtEntry coder chooser script channels bands blank (set array channel (set (get_or array channel []) band value)) c h e m band (channel + 1)
      walked_on zero left_is going = absurd (omega arith)
      walked_on (suc left) left_is going = record {
        rows = a.rows;
        row = a.row ++ value ∷ [];
        bands_left = a.bands_left;
        bands_left_is = a.bands_left_is;
        left = left;
        left_is = omega arith;
        going =
            walk_in (λ value. each (λ channel before. script band channel) left (channel + 1) (a.row ++ value ∷ []))
            (λ all. rows_of script channels a.bands_left (band + 1) (a.rows ++ all ∷ [])) going w;
        room = room_kept channels bands channel band value array below a.room;
        holds =
            let fit = a.room.channels_fit in
            let wide = a.room.bands_fit channel below in
            let last = a.bands_left_is in
            entry_written blank value array a.rows a.row channel band (omega (arith, fit)) (omega (arith, wide, last)) a.bands_are a.row_is a.holds;
        bands_are = a.bands_are;
        row_is = let n = length-append a.row (value ∷ []) in let r = a.row_is in omega (arith, n, r);
        channels_are = a.channels_are;
      }

  -- the band is walked
  pub next_band : {array : List (List T)} {c d : C} {h k : H} {band channel : ℕ}
      → AtEntry coder chooser script channels bands blank array c h d k band channel
      → channels ≤ channel
      → AtBand coder chooser script channels bands blank array c h d k (band + 1)
  next_band {array} {c} {d} {h} {k} {band} {channel} a all =
      walked_on a.left a.left_is a.going
    where
      walked_on : (left : ℕ) → left + channel ≡ channels
          → Going coder chooser (table script channels bands)
          (and_then (row_of script band left channel a.row) (λ all. rows_of script channels a.bands_left (band + 1) (a.rows ++ all ∷ []))) c h d k
          → AtBand coder chooser script channels bands blank array c h d k (band + 1)
      walked_on zero left_is going = record {
        rows = a.rows ++ a.row ∷ [];
        left = a.bands_left;
        left_is = let e = a.bands_left_is in omega (arith, e);
        going = going;
        room = a.room;
        holds = a.holds;
        bands_are = let n = length-append a.rows (a.row ∷ []) in let r = a.bands_are in omega (arith, n, r);
        channels_are =
            let r : length a.row ≡ channels = let i = a.row_is in omega (arith, i) in
            All-append (λ row. length row ≡ channels) a.rows (a.row ∷ []) a.channels_are
            (All-cons (λ row. length row ≡ channels) a.row [] r (All-nil (λ row. length row ≡ channels)));
      }
      walked_on (suc left) left_is going = absurd (omega arith)

  -- all bands are walked
  pub last_band : {array : List (List T)} {c d : C} {h k : H} {band : ℕ}
      → AtBand coder chooser script channels bands blank array c h d k band
      → bands ≤ band
      → WalkedTable coder chooser script channels bands blank array c h d k
  last_band {array} {c} {d} {h} {k} {band} b all =
      walked_on b.left b.left_is b.going
    where
      walked_on : (left : ℕ) → left + band ≡ bands → Going coder chooser (table script channels bands) (rows_of script channels left band b.rows) c h d k
          → WalkedTable coder chooser script channels bands blank array c h d k
      walked_on zero left_is going = record {
        rows = b.rows;
        walked = end going;
        holds = b.holds;
        bands_are = let r = b.bands_are in omega (arith, r);
        channels_are = b.channels_are;
      }
      walked_on (suc left) left_is going = absurd (omega arith)
