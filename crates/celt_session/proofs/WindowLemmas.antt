-- Windows: what stands in them where the samples go on, and where they are held without those before.
use Rattle.std.proofs.Common.{◌≡◌, ℕ, ℤ, pos, ◌+◌, ◌-◌, ◌*◌, ◌≤◌, ◌<◌, ◌⊎◌, inl, inr, List, [], ◌++◌, length, take, drop, replicate, sym, ◌∙◌, ap, arith, append_assoc, append-nil, length-append, length-drop}
use Rattle.std.proofs.Math.Nat.{mul-add, mul_assoc, add-mul}
use Rattle.std.proofs.lemmas.Nat.{mul-le}
use Rattle.std.proofs.lemmas.Bool.{cases_lt}
use Rattle.std.proofs.lemmas.List.{take-append-le, drop-append-le, take_all, drop_all, length-replicate, replicate-append-replicate, take-replicate, drop-drop, drop-take, take-take}
use Rattle.wav_edge.specs.Samples.{samples_of}
use Rattle.celt_session.specs.Windows.{items_from, lead, window_of}
use Rattle.celt_session.specs.Makers.{group_bytes, held_of}
use Rattle.celt_session.proofs.Sampling.{samples-join, samples-drop, samples-take, samples-zeros, samples-len}

-- ---- items from a place on

module _ {A : Type 0} (filling : A) where
  pub items-within : (place count : ℕ) (items : List A) → place + count ≤ length items → items_from filling place count items ≡ take count (drop place items)
  items-within place count items h = take-append-le count (drop place items) (replicate count filling) (let e = length-drop place items in omega arith)

  pub items-longer : (place count : ℕ) (items more : List A) → place + count ≤ length items → items_from filling place count (items ++ more) ≡ items_from filling place count items
  items-longer place count items more h =
      let all = length-append items more in
      items-within place count (items ++ more) (omega arith) ∙ ap (take count) (drop-append-le place items more (omega arith))
      ∙ take-append-le count (drop place items) more (let e = length-drop place items in omega arith) ∙ sym (items-within place count items h)

  -- more filling behind the items is no change
  fill_take : (count more : ℕ) (items : List A) → take count (items ++ (replicate more filling ++ replicate count filling)) ≡ take count (items ++ replicate count filling)
  fill_take count more items =
      ap (λ l. take count (items ++ l)) (replicate-append-replicate more count filling ∙ ap (λ n. replicate n filling) (Rattle.std.proofs.Math.Nat.add_comm more count) ∙ sym (replicate-append-replicate count more filling))
      ∙ ap (take count) (sym (append_assoc items (replicate count filling) (replicate more filling)))
      ∙ take-append-le count (items ++ replicate count filling) (replicate more filling)
      (let a = length-append items (replicate count filling) in let b = length-replicate {A = A} count filling in omega arith)

  pub items-filled : (place count more : ℕ) (items : List A) → items_from filling place count (items ++ replicate more filling) ≡ items_from filling place count items
  items-filled place count more items = by_place (cases_lt (length items) place) where
    by_place : (length items < place) ⊎ (place ≤ length items) → items_from filling place count (items ++ replicate more filling) ≡ items_from filling place count items
    by_place (inr within) =
        ap (λ l. take count (l ++ replicate count filling)) (drop-append-le place items (replicate more filling) within)
        ∙ ap (take count) (append_assoc (drop place items) (replicate more filling) (replicate count filling))
        ∙ fill_take count more (drop place items)
    by_place (inl past) =
        let e : place ≡ length items + (place - length items) = omega arith in
        ap (λ n. take count (drop n (items ++ replicate more filling) ++ replicate count filling)) e
        ∙ ap (λ l. take count (l ++ replicate count filling)) (Rattle.std.proofs.Math.Seq.drop-append-add items (replicate more filling) (place - length items) ∙ Rattle.std.proofs.lemmas.List.drop-replicate (place - length items) more filling)
        ∙ fill_take count (more - (place - length items)) []
        ∙ ap (λ l. take count (l ++ replicate count filling)) (sym (drop_all place items (omega arith)))

-- ---- windows

-- a frame's window does not reach behind its own samples
window_reach : (channels samples t : ℕ) (input : List ℤ) → channels * ((t + 1) * samples) ≤ length input
    → channels * (t * samples) + channels * (lead + samples) ≤ length (replicate (channels * lead) (pos 0) ++ input)
window_reach channels samples t input h =
    let joined = length-append (replicate (channels * lead) (pos 0)) input in
    let zeros = length-replicate {A = ℤ} (channels * lead) (pos 0) in
    let a = mul-add channels lead samples in
    let b = mul-add channels (t * samples) samples in
    let c = ap (λ n. channels * n) (add-mul t 1 samples) in
    let d = Rattle.std.proofs.Math.Nat.one-mul samples in
    let e = ap (λ n. channels * (t * samples + n)) d in
    omega arith

-- more samples do not change it
pub window-longer : (channels samples t : ℕ) (input more : List ℤ) → channels * ((t + 1) * samples) ≤ length input → window_of channels samples (input ++ more) t ≡ window_of channels samples input t
unfolding window_of
window-longer channels samples t input more h =
    let zeros = replicate (channels * lead) (pos 0) in
    ap (items_from (pos 0) (channels * (t * samples)) (channels * (lead + samples))) (sym (append_assoc zeros input more))
    ∙ items-longer (pos 0) (channels * (t * samples)) (channels * (lead + samples)) (zeros ++ input) more (window_reach channels samples t input h)

-- nor do samples of 0
pub window-filled : (channels samples t : ℕ) (input : List ℤ) (more : ℕ) → window_of channels samples (input ++ replicate more (pos 0)) t ≡ window_of channels samples input t
unfolding window_of
window-filled channels samples t input more =
    let zeros = replicate (channels * lead) (pos 0) in
    ap (items_from (pos 0) (channels * (t * samples)) (channels * (lead + samples))) (sym (append_assoc zeros input (replicate more (pos 0))))
    ∙ items-filled (pos 0) (channels * (t * samples)) (channels * (lead + samples)) more (zeros ++ input)

-- the samples of bytes that are held
held_samples : (channels samples done : ℕ) (heard : List ℕ)
    → samples_of (held_of channels samples done heard) ≡ drop (channels * (done * samples)) (replicate (channels * lead) (pos 0) ++ samples_of heard)
held_samples channels samples done heard =
    samples-drop (channels * (done * samples)) (replicate (group_bytes channels lead) 0 ++ heard)
    ∙ ap (drop (channels * (done * samples)))
    (samples-join (channels * lead) (replicate (group_bytes channels lead) 0) heard (length-replicate {A = ℕ} (group_bytes channels lead) 0)
    ∙ ap (λ l. l ++ samples_of heard) (samples-zeros (channels * lead)))

-- the sizes of a batch
record Sizes (channels samples done count t : ℕ) : Type 0 where
  pub window : channels * (lead + 1 * samples) ≡ channels * lead + channels * samples
  pub other : channels * (lead + samples) ≡ channels * lead + channels * samples
  pub batch : channels * (lead + count * samples) ≡ channels * lead + channels * (count * samples)
  pub place : channels * ((done + t) * samples) ≡ channels * (done * samples) + channels * (t * samples)
  pub within : channels * (t * samples) + channels * samples ≤ channels * (count * samples)

sizes : (channels samples done count t : ℕ) → t < count → Sizes channels samples done count t
sizes channels samples done count t less =
    let one = Rattle.std.proofs.Math.Nat.one-mul samples in
    let next : (t + 1) * samples ≡ t * samples + samples = add-mul t 1 samples ∙ ap (λ n. t * samples + n) one in
    let bound = mul-le (t + 1) samples count samples (omega arith) (omega arith) in
    let scaled = mul-le channels ((t + 1) * samples) channels (count * samples) (omega arith) bound in
    let parts : channels * ((t + 1) * samples) ≡ channels * (t * samples) + channels * samples = ap (λ n. channels * n) next ∙ mul-add channels (t * samples) samples in
    record {
      window = mul-add channels lead (1 * samples) ∙ ap (λ n. channels * lead + channels * n) one;
      other = mul-add channels lead samples;
      batch = mul-add channels lead (count * samples);
      place = ap (λ n. channels * n) (add-mul done t samples) ∙ mul-add channels (done * samples) (t * samples);
      within = omega arith;
    }

-- the windows of a batch
pub batch-window : (channels samples done count t : ℕ) (heard held : List ℕ) → 1 ≤ channels → t < count → held ≡ held_of channels samples done heard → 2 * (channels * (lead + count * samples)) ≤ length held
    → take (channels * (lead + 1 * samples)) (drop (channels * (t * samples)) (samples_of (take (2 * (channels * (lead + count * samples))) held))) ≡ window_of channels samples (samples_of heard) (done + t)
unfolding window_of
batch-window channels samples done count t heard held some less is room =
    let zeros = replicate (channels * lead) (pos 0) in
    let all = zeros ++ samples_of heard in
    let z = sizes channels samples done count t less in
    let front = channels * (done * samples) in
    let step = channels * (t * samples) in
    let size = channels * (lead + count * samples) in
    let width = channels * (lead + 1 * samples) in
    let last = size - step in
    let split : size ≡ step + last = let a = z.window in let b = z.batch in let c = z.within in omega arith in
    let wide : width ≤ last = let a = z.window in let b = z.batch in let c = z.within in omega arith in
    let same : width ≡ channels * (lead + samples) = z.window ∙ sym z.other in
    let many : size ≤ length (drop front all) =
    let e = ap length (sym (ap samples_of is ∙ held_samples channels samples done heard)) in
    let l = samples-len held in
    omega arith in
    let l : length (drop front all) ≡ length all - front = length-drop front all in
    let led : 1 ≤ channels * lead = mul-le 1 1 channels lead some (omega arith) in
    let whole : channels * ((done + t) * samples) + channels * (lead + samples) ≤ length all = let a = z.other in let b = z.batch in let c = z.within in let d = z.place in omega arith in
    ap (λ x. take width (drop step x)) (samples-take size held ∙ ap (take size) (ap samples_of is ∙ held_samples channels samples done heard))
    ∙ ap (λ n. take width (drop step (take n (drop front all)))) split
    ∙ ap (take width) (drop-take step last (drop front all))
    ∙ take-take width last (drop step (drop front all)) wide
    ∙ ap (take width) (drop-drop step front all)
    ∙ ap (λ n. take width (drop n all)) (sym z.place)
    ∙ ap (λ n. take n (drop (channels * ((done + t) * samples)) all)) same
    ∙ sym (items-within (pos 0) (channels * ((done + t) * samples)) (channels * (lead + samples)) all whole)

-- what is held once so many frames more are done
pub held-next : (channels samples done count : ℕ) (heard held : List ℕ) → held ≡ held_of channels samples done heard → drop (group_bytes channels (count * samples)) held ≡ held_of channels samples (done + count) heard
held-next channels samples done count heard held is =
    let all = replicate (group_bytes channels lead) 0 ++ heard in
    let place : group_bytes channels (done * samples) + group_bytes channels (count * samples) ≡ group_bytes channels ((done + count) * samples) =
    let a = add-mul done count samples in let b = mul-add channels (done * samples) (count * samples) in let c = ap (λ n. channels * n) a in omega arith in
    ap (drop (group_bytes channels (count * samples))) is ∙ drop-drop (group_bytes channels (count * samples)) (group_bytes channels (done * samples)) all ∙ ap (λ n. drop n all) place

-- and once more bytes came
pub held-longer : (channels samples done : ℕ) (heard more held : List ℕ) → held ≡ held_of channels samples done heard → group_bytes channels (done * samples) ≤ length heard → held ++ more ≡ held_of channels samples done (heard ++ more)
held-longer channels samples done heard more held is within =
    let zeros = replicate (group_bytes channels lead) 0 in
    let joined = length-append zeros heard in
    ap (λ l. l ++ more) is ∙ sym (drop-append-le (group_bytes channels (done * samples)) (zeros ++ heard) more (omega arith))
    ∙ ap (drop (group_bytes channels (done * samples))) (append_assoc zeros heard more)

pub held-start : (channels samples : ℕ) → replicate (group_bytes channels lead) 0 ≡ held_of channels samples 0 []
held-start channels samples =
    let none : group_bytes channels (0 * samples) ≡ 0 = let a = Rattle.std.proofs.Math.Nat.zero-mul samples in let b = ap (λ n. channels * n) a in omega arith in
    sym (ap (λ n. drop n (replicate (group_bytes channels lead) 0 ++ [])) none ∙ append-nil (replicate (group_bytes channels lead) 0))

pub held-len : (channels samples done : ℕ) (heard held : List ℕ) → held ≡ held_of channels samples done heard → group_bytes channels (done * samples) ≤ length heard
    → length held + group_bytes channels (done * samples) ≡ group_bytes channels lead + length heard
held-len channels samples done heard held is within =
    let zeros = replicate {A = ℕ} (group_bytes channels lead) 0 in
    let joined : length (zeros ++ heard) ≡ length zeros + length heard = length-append zeros heard in
    let z : length zeros ≡ group_bytes channels lead = length-replicate {A = ℕ} (group_bytes channels lead) 0 in
    let e : length held ≡ length (zeros ++ heard) - group_bytes channels (done * samples) = ap length is ∙ length-drop (group_bytes channels (done * samples)) (zeros ++ heard) in
    omega arith

pub held-within : (channels samples done count : ℕ) (heard held : List ℕ) → held ≡ held_of channels samples done heard → group_bytes channels (done * samples) ≤ length heard
    → 2 * (channels * (lead + count * samples)) ≤ length held → group_bytes channels ((done + count) * samples) ≤ length heard
held-within channels samples done count heard held is within room =
    let len = held-len channels samples done heard held is within in
    let a = mul-add channels lead (count * samples) in
    let b : channels * ((done + count) * samples) ≡ channels * (done * samples) + channels * (count * samples) = ap (λ n. channels * n) (add-mul done count samples) ∙ mul-add channels (done * samples) (count * samples) in
    omega arith

pub used-is : (channels count samples : ℕ) → 2 * channels * count * samples ≡ group_bytes channels (count * samples)
used-is channels count samples = ap (λ n. n * samples) (mul_assoc 2 channels count) ∙ mul_assoc 2 (channels * count) samples ∙ ap (λ n. 2 * n) (mul_assoc channels count samples)
