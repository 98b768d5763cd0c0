-- Granule positions over one page more.
use Rattle.std.proofs.Common.{◌≡◌, ℕ, ℤ, pos, ◌+◌, ◌-◌, ◌-ℤ◌, Bool, true, false, List, [], ◌∷◌, ◌++◌, min, refl, sym, ◌∙◌, ap, subst, arith, ◌⊎◌, inl, inr, Option, Some, None}
use Rattle.std.specs.Prelude.{◌&&◌, ◌||◌, if◌then◌else◌}
use Rattle.std.specs.Int.Signed.{lt_z}
use Rattle.std.specs.List.{list_any}
use Rattle.std.proofs.lemmas.Bool.{cases_Bool, le-ltb}
use Rattle.ogg_pages.specs.Fields.{Page}
use Rattle.opus_packets.specs.Cut.{parts}
use Rattle.opus_stream.specs.declared.granules.Settled.{Settled}
use Rattle.opus_stream.specs.Packets.{ends, ends_packet, packets_in, lacing_in, body_in}
use Rattle.opus_stream.specs.Audio.{samples_in}
use Rattle.opus_stream.specs.Granules.{is_last, samples_on, up_to_first, first_granule, start_in, base_in, end_granule, bad_granule, at_most, given_on}
use Rattle.opus_stream.specs.Tests.{is_ended}
use Rattle.opus_stream.specs.Progressing.{IsBase}
use Rattle.opus_stream.specs.Settled.{start_by, IsNumber, lifted, IsSettledBy, IsSettledIf}
use Rattle.opus_stream.proofs.Joining.{lengths-open}
use Rattle.opus_stream.proofs.Placing.{any-next}

-- ---- the first page on which a packet ends

any-cons : (page : Page) (pages : List Page) → list_any ends_packet (page ∷ pages) ≡ (ends_packet page || list_any ends_packet pages)
any-cons page pages = Rattle.std.proofs.lemmas.List.Folds.list_any-append ends_packet (page ∷ []) pages ∙ ap (λ t. t || list_any ends_packet pages) (one (ends_packet page)) where
  one : (b : Bool) → (b || false) ≡ b
  one true = refl
  one false = refl

-- it stays behind more pages
first-kept : (before : List Page) (page : Page) → list_any ends_packet before ≡ true
    → (up_to_first (before ++ page ∷ []) ≡ up_to_first before) × (first_granule (before ++ page ∷ []) ≡ first_granule before)
unfolding up_to_first first_granule
first-kept [] page h = let f : ⊥ = cc in absurd f
first-kept (p ∷ ps) page h = by_test (cases_Bool (ends_packet p)) (first-kept ps page) where
  by_test : (ends_packet p ≡ true) ⊎ (ends_packet p ≡ false)
      → (list_any ends_packet ps ≡ true → (up_to_first (ps ++ page ∷ []) ≡ up_to_first ps) × (first_granule (ps ++ page ∷ []) ≡ first_granule ps))
      → (up_to_first (p ∷ (ps ++ page ∷ [])) ≡ up_to_first (p ∷ ps)) × (first_granule (p ∷ (ps ++ page ∷ [])) ≡ first_granule (p ∷ ps))
  by_test (inl e) again = rw e (refl, refl)
  by_test (inr e) again =
      let rest : list_any ends_packet ps ≡ true = sym (any-cons p ps ∙ ap (λ t. t || list_any ends_packet ps) e) ∙ h in
      let r = again rest in
      rw e (ap (λ l. p ∷ l) r.0, r.1)

pub start-kept : (before : List Page) (page : Page) → list_any ends_packet before ≡ true → start_in (before ++ page ∷ []) ≡ start_in before
unfolding start_in
start-kept before page h =
    let k = first-kept before page h in
    ap (λ g. g -ℤ pos (samples_on (up_to_first (before ++ page ∷ [])))) k.1 ∙ ap (λ l. first_granule before -ℤ pos (samples_on l)) k.0

-- it is the page, where none ended before
first-new : (before : List Page) (page : Page) → list_any ends_packet before ≡ false → ends_packet page ≡ true
    → (up_to_first (before ++ page ∷ []) ≡ before ++ page ∷ []) × (first_granule (before ++ page ∷ []) ≡ page.granule)
unfolding up_to_first first_granule
first-new [] page h e = rw e (refl, refl)
first-new (p ∷ ps) page h e = by_test (cases_Bool (ends_packet p)) (λ n. first-new ps page n e) where
  by_test : (ends_packet p ≡ true) ⊎ (ends_packet p ≡ false)
      → (list_any ends_packet ps ≡ false → (up_to_first (ps ++ page ∷ []) ≡ ps ++ page ∷ []) × (first_granule (ps ++ page ∷ []) ≡ page.granule))
      → (up_to_first (p ∷ (ps ++ page ∷ [])) ≡ p ∷ (ps ++ page ∷ [])) × (first_granule (p ∷ (ps ++ page ∷ [])) ≡ page.granule)
  by_test (inl t) again = let f : true ≡ false = sym (any-cons p ps ∙ ap (λ b. b || list_any ends_packet ps) t) ∙ h in let g : ⊥ = cc in absurd g
  by_test (inr t) again =
      let rest : list_any ends_packet ps ≡ false = sym (any-cons p ps ∙ ap (λ b. b || list_any ends_packet ps) t) ∙ h in
      let r = again rest in
      rw t (ap (λ l. p ∷ l) r.0, r.1)

-- where no packet ends, no value ends one
pub values-open : (pages : List Page) → list_any ends_packet pages ≡ false → list_any ends (lacing_in pages) ≡ false
values-open [] h = refl
values-open (p ∷ ps) h =
    let parts_of = Rattle.std.proofs.lemmas.List.Folds.list_any-append ends p.lacing (lacing_in ps) in
    by_test (cases_Bool (ends_packet p)) (values-open ps) parts_of
  where
    by_test : (ends_packet p ≡ true) ⊎ (ends_packet p ≡ false) → (list_any ends_packet ps ≡ false → list_any ends (lacing_in ps) ≡ false)
        → list_any ends (p.lacing ++ lacing_in ps) ≡ (list_any ends p.lacing || list_any ends (lacing_in ps)) → list_any ends (p.lacing ++ lacing_in ps) ≡ false
    by_test (inl t) again split = let f : true ≡ false = sym (any-cons p ps ∙ ap (λ b. b || list_any ends_packet ps) t) ∙ h in let g : ⊥ = cc in absurd g
    by_test (inr t) again split =
        let rest : list_any ends_packet ps ≡ false = sym (any-cons p ps ∙ ap (λ b. b || list_any ends_packet ps) t) ∙ h in
        split ∙ ap (λ b. b || list_any ends (lacing_in ps)) t ∙ again rest

pub none-ended : (pages : List Page) → list_any ends_packet pages ≡ false → samples_on pages ≡ 0
unfolding packets_in
none-ended pages h = ap (λ l. samples_in (parts l (body_in pages))) (lengths-open 0 (lacing_in pages) (values-open pages h))

pub start-new : (before : List Page) (page : Page) (samples : ℕ) → list_any ends_packet before ≡ false → ends_packet page ≡ true
    → samples_on (before ++ page ∷ []) ≡ samples_on before + samples → start_in (before ++ page ∷ []) ≡ page.granule -ℤ pos samples
unfolding start_in
start-new before page samples h e s =
    let n = first-new before page h e in
    let none = none-ended before h in
    let all : samples_on (before ++ page ∷ []) ≡ samples = omega arith in
    ap (λ g. g -ℤ pos (samples_on (up_to_first (before ++ page ∷ [])))) n.1 ∙ ap (λ l. page.granule -ℤ pos (samples_on l)) n.0
    ∙ ap (λ k. page.granule -ℤ pos k) all

-- the start by what is kept
pub start-by : (before : List Page) (page : Page) (base : Option ℕ) (samples : ℕ) → ends_packet page ≡ true → IsBase base before
    → samples_on (before ++ page ∷ []) ≡ samples_on before + samples → start_by base page.granule samples ≡ start_in (before ++ page ∷ [])
start-by before page None samples e is s = sym (start-new before page samples is e s)
start-by before page (Some base) samples e is s = sym is.1 ∙ sym (start-kept before page is.0)

-- ---- the last page

no-end : (before : List Page) → is_ended before ≡ false → end_granule before ≡ None
unfolding end_granule
no-end [] h = refl
no-end (p ∷ ps) h = by_test (cases_Bool (is_last p)) (no-end ps) where
  any : list_any is_last (p ∷ ps) ≡ (is_last p || list_any is_last ps)
  any = Rattle.std.proofs.lemmas.List.Folds.list_any-append is_last (p ∷ []) ps ∙ ap (λ t. t || list_any is_last ps) (one (is_last p)) where
    one : (b : Bool) → (b || false) ≡ b
    one true = refl
    one false = refl

  by_test : (is_last p ≡ true) ⊎ (is_last p ≡ false) → (is_ended ps ≡ false → end_granule ps ≡ None) → end_granule (p ∷ ps) ≡ None
  by_test (inl t) again = let f : true ≡ false = sym (any ∙ ap (λ b. b || list_any is_last ps) t) ∙ h in let g : ⊥ = cc in absurd g
  by_test (inr t) again =
      let rest : is_ended ps ≡ false = sym (any ∙ ap (λ b. b || list_any is_last ps) t) ∙ h in
      rw t (again rest)

pub end-next : (before : List Page) (page : Page) → is_ended before ≡ false → end_granule (before ++ page ∷ []) ≡ (if is_last page && ends_packet page then Some page.granule else None)
unfolding end_granule
end-next [] page h = refl
end-next (p ∷ ps) page h = by_test (cases_Bool (is_last p)) (end-next ps page) where
  any : list_any is_last (p ∷ ps) ≡ (is_last p || list_any is_last ps)
  any = Rattle.std.proofs.lemmas.List.Folds.list_any-append is_last (p ∷ []) ps ∙ ap (λ t. t || list_any is_last ps) (one (is_last p)) where
    one : (b : Bool) → (b || false) ≡ b
    one true = refl
    one false = refl

  by_test : (is_last p ≡ true) ⊎ (is_last p ≡ false)
      → (is_ended ps ≡ false → end_granule (ps ++ page ∷ []) ≡ (if is_last page && ends_packet page then Some page.granule else None))
      → end_granule (p ∷ (ps ++ page ∷ [])) ≡ (if is_last page && ends_packet page then Some page.granule else None)
  by_test (inl t) again = let f : true ≡ false = sym (any ∙ ap (λ b. b || list_any is_last ps) t) ∙ h in let g : ⊥ = cc in absurd g
  by_test (inr t) again =
      let rest : is_ended ps ≡ false = sym (any ∙ ap (λ b. b || list_any is_last ps) t) ∙ h in
      rw t (again rest)

-- before a last page all samples are given
pub given-open : (before : List Page) → is_ended before ≡ false → given_on before ≡ samples_on before
unfolding given_on
given-open before h = ap (λ g. at_most g (base_in before) (samples_on before)) (no-end before h)

given-next : (before : List Page) (page : Page) → is_ended before ≡ false
    → given_on (before ++ page ∷ []) ≡ at_most (if is_last page && ends_packet page then Some page.granule else None) (base_in (before ++ page ∷ [])) (samples_on (before ++ page ∷ []))
unfolding given_on
given-next before page h = ap (λ g. at_most g (base_in (before ++ page ∷ [])) (samples_on (before ++ page ∷ []))) (end-next before page h)

-- ---- what is answered of a granule position

pub record Grants (before : List Page) (page : Page) (settled : Settled) : Type 0 where
  pub sound : bad_granule before (before ++ page ∷ []) page ≡ false
  pub given : given_on (before ++ page ∷ []) - samples_on before ≡ settled.given
  pub base : is_ended (before ++ page ∷ []) ≡ false → IsBase settled.base (before ++ page ∷ [])

lifted_same : (z : ℤ) (now : List Page) → z ≡ start_in now → lifted z ≡ base_in now
lifted_same z now e = ap lifted e

not_under : (g b : ℤ) (d k : ℕ) → g -ℤ b ≡ pos (d + k) → lt_z (g -ℤ b) (pos d) ≡ false
not_under g b d k e = rw e (le-ltb (d + k) d (omega arith))

kept_min : (g b : ℤ) (d s k n : ℕ) → g -ℤ b ≡ pos (d + k) → n ≡ min s k → at_most (Some g) b (d + s) - d ≡ n
kept_min g b d s k n e h = rw (e, h) (omega arith)

-- a packet ends on the page
pub granted : (before : List Page) (page : Page) (base : Option ℕ) (samples : ℕ) (settled : Settled) → is_ended before ≡ false → IsBase base before
    → samples_on (before ++ page ∷ []) ≡ samples_on before + samples
    → IsSettledIf (ends_packet page) base (samples_on before) samples page (Some settled) → Grants before page settled
unfolding bad_granule
granted before page base samples settled going is s h = by_end (ends_packet page) (is_last page) refl refl h where
  now : List Page
  now = before ++ page ∷ []

  open_base : (b : Option ℕ) → IsBase b before → ends_packet page ≡ false → IsBase b now
  open_base None is e = any-next ends_packet before page ∙ ap (λ t. t || ends_packet page) is ∙ e
  open_base (Some b) is e = (any-next ends_packet before page ∙ ap (λ t. t || ends_packet page) is.0, start-kept before page is.0 ∙ is.1)

  any_now : ends_packet page ≡ true → list_any ends_packet now ≡ true
  any_now e = any-next ends_packet before page ∙ ap (λ t. list_any ends_packet before || t) e ∙ or_true (list_any ends_packet before) where
    or_true : (b : Bool) → (b || true) ≡ true
    or_true true = refl
    or_true false = refl

  ended_now : is_last page ≡ true → is_ended now ≡ false → ⊥
  ended_now l e = let f : true ≡ false = sym (any-next is_last before page ∙ ap (λ t. t || is_last page) going ∙ l) ∙ e in cc

  new_base : (b : Option ℕ) (z : ℤ) → z ≡ start_in now → IsNumber z b → lt_z z (pos 0) ≡ false → ends_packet page ≡ true → IsBase b now
  new_base None z e n l t = let f : ⊥ = cc in absurd f
  new_base (Some b) z e n l t = (any_now t, sym e ∙ n)

  by_end : (e l : Bool) → ends_packet page ≡ e → is_last page ≡ l → IsSettledIf e base (samples_on before) samples page (Some settled) → Grants before page settled
  by_end false l ee el h =
      let none : (if is_last page && ends_packet page then Some page.granule else None) ≡ None = ap (λ t. if is_last page && t then Some page.granule else None) ee ∙ both (is_last page) in
      let b : settled.base ≡ base = cc in
      let g : settled.given ≡ samples = cc in
      record {
        sound = ap (λ t. t && (if is_last page then lt_z (page.granule -ℤ base_in now) (pos (samples_on before)) else lt_z (start_in now) (pos 0))) ee;
        given = ap (λ n. n - samples_on before) (given-next before page going ∙ ap (λ o. at_most o (base_in now) (samples_on now)) none ∙ s) ∙ omega arith;
        base = λ not_ended. subst (λ o. IsBase o now) (sym b) (open_base base is ee);
      }
    where
      both : (t : Bool) → (if t && false then Some page.granule else None) ≡ None
      both true = refl
      both false = refl
  by_end true l ee el h = by_last l el (subst (λ t. IsSettledBy t (start_by base page.granule samples) (samples_on before) samples page.granule (Some settled)) el h) where
    z : ℤ
    z = start_by base page.granule samples

    same : z ≡ start_in now
    same = start-by before page base samples ee is s

    by_last : (l : Bool) → is_last page ≡ l → IsSettledBy l z (samples_on before) samples page.granule (Some settled) → Grants before page settled
    by_last true e h =
        let kept = h.1.0 in
        let at : page.granule -ℤ base_in now ≡ pos (samples_on before + kept) = ap (λ b. page.granule -ℤ b) (sym (lifted_same z now same)) ∙ h.1.1 in
        record {
          sound = ap (λ t. t && (if is_last page then lt_z (page.granule -ℤ base_in now) (pos (samples_on before)) else lt_z (start_in now) (pos 0))) ee
              ∙ ap (λ t. if t then lt_z (page.granule -ℤ base_in now) (pos (samples_on before)) else lt_z (start_in now) (pos 0)) e
              ∙ not_under page.granule (base_in now) (samples_on before) kept at;
          given = ap (λ n. n - samples_on before) (given-next before page going
              ∙ ap (λ t. at_most (if t && ends_packet page then Some page.granule else None) (base_in now) (samples_on now)) e
              ∙ ap (λ t. at_most (if t then Some page.granule else None) (base_in now) (samples_on now)) ee
              ∙ ap (λ n. at_most (Some page.granule) (base_in now) n) s)
              ∙ kept_min page.granule (base_in now) (samples_on before) samples kept settled.given at h.1.2;
          base = λ not_ended. absurd (ended_now e not_ended);
        }
    by_last false e h =
        let start : lt_z (start_in now) (pos 0) ≡ false = ap (λ t. lt_z t (pos 0)) (sym same) ∙ h.1 in
        record {
          sound = ap (λ t. t && (if is_last page then lt_z (page.granule -ℤ base_in now) (pos (samples_on before)) else lt_z (start_in now) (pos 0))) ee
              ∙ ap (λ t. if t then lt_z (page.granule -ℤ base_in now) (pos (samples_on before)) else lt_z (start_in now) (pos 0)) e
              ∙ start;
          given = ap (λ n. n - samples_on before) (given-next before page going
              ∙ ap (λ t. at_most (if t && ends_packet page then Some page.granule else None) (base_in now) (samples_on now)) e ∙ s)
              ∙ (let g = h.2 in omega arith);
          base = λ not_ended. new_base settled.base z same h.0 h.1 ee;
        }

pub denied : (before : List Page) (page : Page) (base : Option ℕ) (samples : ℕ) → is_ended before ≡ false → IsBase base before
    → samples_on (before ++ page ∷ []) ≡ samples_on before + samples
    → IsSettledIf (ends_packet page) base (samples_on before) samples page None → bad_granule before (before ++ page ∷ []) page ≡ true
unfolding bad_granule
denied before page base samples going is s h = by_end (ends_packet page) refl h where
  now : List Page
  now = before ++ page ∷ []

  by_end : (e : Bool) → ends_packet page ≡ e → IsSettledIf e base (samples_on before) samples page None → bad_granule before now page ≡ true
  by_end false ee h = let f : ⊥ = cc in absurd f
  by_end true ee h = by_last (is_last page) refl h where
    z : ℤ
    z = start_by base page.granule samples

    same : z ≡ start_in now
    same = start-by before page base samples ee is s

    by_last : (l : Bool) → is_last page ≡ l → IsSettledBy l z (samples_on before) samples page.granule None → bad_granule before now page ≡ true
    by_last true e h =
        ap (λ t. t && (if is_last page then lt_z (page.granule -ℤ base_in now) (pos (samples_on before)) else lt_z (start_in now) (pos 0))) ee
        ∙ ap (λ t. if t then lt_z (page.granule -ℤ base_in now) (pos (samples_on before)) else lt_z (start_in now) (pos 0)) e
        ∙ ap (λ b. lt_z (page.granule -ℤ b) (pos (samples_on before))) (sym (lifted_same z now same)) ∙ h
    by_last false e h =
        ap (λ t. t && (if is_last page then lt_z (page.granule -ℤ base_in now) (pos (samples_on before)) else lt_z (start_in now) (pos 0))) ee
        ∙ ap (λ t. if t then lt_z (page.granule -ℤ base_in now) (pos (samples_on before)) else lt_z (start_in now) (pos 0)) e
        ∙ ap (λ t. lt_z t (pos 0)) (sym same) ∙ h
