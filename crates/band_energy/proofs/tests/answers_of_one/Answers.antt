use Rattle.std.proofs.Common.{◌≤◌, ◌<◌, ◌^◌, w32, to_z, of_z, sym, subst, IfSome, None, pos, unsigned_abs, slice_index, replicate, arith}
use Rattle.std.proofs.lemmas.Int.{to_z-of_z, fits_signed_from_abs}
use Rattle.std.proofs.lemmas.Nat.{pow_pos}
use Rattle.celt_base.proofs.WalkEntries.{blank_kept, entry_kept}
use Rattle.band_energy.proofs.tests.answers_of_one.Goals as goal

pub returns-clause-coarse : goal.returns-clause-coarse
returns-clause-coarse c =
    let passed = to_z-of_z w32 c.args.first (fits_signed_from_abs w32 c.args.first (let r = c.requires in omega (arith, r))) in
    entry_kept (λ b v. unsigned_abs v ≤ 2 ^ 14) (pos 0) (to_z w32 (of_z w32 c.args.first)) (replicate 2 (replicate 21 (pos 0))) 0 0 (omega arith) (omega arith)
    (subst (λ v. unsigned_abs v ≤ 2 ^ 14) (sym passed) c.requires)
    (blank_kept (λ b v. unsigned_abs v ≤ 2 ^ 14) (pos 0) (λ b. omega arith))

pub returns-clause-fine : goal.returns-clause-fine
returns-clause-fine c = λ bits. blank_kept (λ b v. v < 2 ^ slice_index bits b) 0 (λ b. pow_pos (slice_index bits b))

pub returns-clause-last : goal.returns-clause-last
returns-clause-last c = blank_kept (λ b v. IfSome v (λ bit. bit < 2)) None (λ b. tt)
