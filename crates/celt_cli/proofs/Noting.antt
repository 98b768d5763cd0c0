-- The line of a fault, put part by part.
use Rattle.std.proofs.Common.{ℕ, List, ◌++◌, codes}
use Rattle.std.specs.Fmt.{decimal}
use Rattle.celt_session.specs.Texts.{IsPut}
use Rattle.celt_session.proofs.Putting.{put_then}
use Rattle.celt_cli.specs.Notes.{labelled_of, opening_of}

pub labelled_put : (o0 o1 o2 o3 o4 : List ℕ) (at a1 a2 a3 end : ℕ) (label : List ℕ) (number : ℕ)
    → IsPut o0 o1 at a1 (codes " ") → IsPut o1 o2 a1 a2 label → IsPut o2 o3 a2 a3 (codes " ") → IsPut o3 o4 a3 end (decimal number)
    → IsPut o0 o4 at end (labelled_of label number)
labelled_put o0 o1 o2 o3 o4 at a1 a2 a3 end label number p q r s =
    put_then o0 o1 o4 at a1 end (codes " ") (label ++ (codes " " ++ decimal number)) p
    (put_then o1 o2 o4 a1 a2 end label (codes " " ++ decimal number) q (put_then o2 o3 o4 a2 a3 end (codes " ") (decimal number) r s))

pub opening_put : (o0 o1 o2 o3 o4 : List ℕ) (at a1 a2 a3 end : ℕ) (number : ℕ) (word : List ℕ)
    → IsPut o0 o1 at a1 (codes "celt: ") → IsPut o1 o2 a1 a2 (decimal number) → IsPut o2 o3 a2 a3 (codes " ") → IsPut o3 o4 a3 end word
    → IsPut o0 o4 at end (opening_of number word)
opening_put o0 o1 o2 o3 o4 at a1 a2 a3 end number word p q r s =
    put_then o0 o1 o4 at a1 end (codes "celt: ") (decimal number ++ (codes " " ++ word)) p
    (put_then o1 o2 o4 a1 a2 end (decimal number) (codes " " ++ word) q (put_then o2 o3 o4 a2 a3 end (codes " ") word r s))

pub four_put : (o0 o1 o2 o3 o4 : List ℕ) (at a1 a2 a3 end : ℕ) (a b c d : List ℕ)
    → IsPut o0 o1 at a1 a → IsPut o1 o2 a1 a2 b → IsPut o2 o3 a2 a3 c → IsPut o3 o4 a3 end d → IsPut o0 o4 at end ((a ++ b) ++ (c ++ d))
four_put o0 o1 o2 o3 o4 at a1 a2 a3 end a b c d p q r s =
    put_then o0 o2 o4 at a2 end (a ++ b) (c ++ d) (put_then o0 o1 o2 at a1 a2 a b p q) (put_then o2 o3 o4 a2 a3 end c d r s)
