use Rattle.std.proofs.Common.{◌+◌, arith, get_or, sym, ◌∙◌}
use Rattle.std.specs.Prelude.{pos, FitsSigned}
use Rattle.std.specs.Int.{w16}
use Rattle.std.proofs.lemmas.Int.{to_z-of_z}
use Rattle.celt_analysis.proofs.LaneLemmas.{row-is, pair-is, four-lanes, pairs-row, wider}
use Rattle.celt_analysis.proofs.lanes.pairs.Goals as goal

pub overflow_cast-products : goal.overflow_cast-products
overflow_cast-products c =
    let f0 : FitsSigned w16 (get_or c.args.s.now (c.args.i) (pos 0)) = c.requires.fits (c.args.i) (omega (arith, c.requires.first, c.requires.second)) in
    let f1 : FitsSigned w16 (get_or c.args.s.now (c.args.i + 1) (pos 0)) = c.requires.fits (c.args.i + 1) (omega (arith, c.requires.first, c.requires.second)) in
    let f2 : FitsSigned w16 (get_or c.args.s.now (c.args.i + 1 + 1) (pos 0)) = c.requires.fits (c.args.i + 1 + 1) (omega (arith, c.requires.first, c.requires.second)) in
    let f3 : FitsSigned w16 (get_or c.args.s.now (c.args.i + 1 + 1 + 1) (pos 0)) = c.requires.fits (c.args.i + 1 + 1 + 1) (omega (arith, c.requires.first, c.requires.second)) in
    let f4 : FitsSigned w16 (get_or c.args.s.now (c.args.i + 1 + 1 + 1 + 1) (pos 0)) = c.requires.fits (c.args.i + 1 + 1 + 1 + 1) (omega (arith, c.requires.first, c.requires.second)) in
    let f5 : FitsSigned w16 (get_or c.args.s.now (c.args.i + 1 + 1 + 1 + 1 + 1) (pos 0)) = c.requires.fits (c.args.i + 1 + 1 + 1 + 1 + 1) (omega (arith, c.requires.first, c.requires.second)) in
    let f6 : FitsSigned w16 (get_or c.args.s.now (c.args.i + 1 + 1 + 1 + 1 + 1 + 1) (pos 0)) = c.requires.fits (c.args.i + 1 + 1 + 1 + 1 + 1 + 1) (omega (arith, c.requires.first, c.requires.second)) in
    let f7 : FitsSigned w16 (get_or c.args.s.now (c.args.i + 1 + 1 + 1 + 1 + 1 + 1 + 1) (pos 0)) = c.requires.fits (c.args.i + 1 + 1 + 1 + 1 + 1 + 1 + 1) (omega (arith, c.requires.first, c.requires.second)) in
    rw (row-is c.args.s.now c.args.i 8 (omega (arith, c.requires.first, c.requires.free))) (simp to_z-of_z (wider _ f0, (wider _ f1, (wider _ f2, (wider _ f3, (wider _ f4, (wider _ f5, (wider _ f6, (wider _ f7, tt)))))))))

pub overflow_cast-products-2 : goal.overflow_cast-products-2
overflow_cast-products-2 c =
    let g0 : FitsSigned w16 (get_or c.args.s.now (c.args.j) (pos 0)) = c.requires.fits (c.args.j) (omega (arith, c.requires.first, c.requires.second)) in
    let g1 : FitsSigned w16 (get_or c.args.s.now (c.args.j + 1) (pos 0)) = c.requires.fits (c.args.j + 1) (omega (arith, c.requires.first, c.requires.second)) in
    let g2 : FitsSigned w16 (get_or c.args.s.now (c.args.j + 1 + 1) (pos 0)) = c.requires.fits (c.args.j + 1 + 1) (omega (arith, c.requires.first, c.requires.second)) in
    let g3 : FitsSigned w16 (get_or c.args.s.now (c.args.j + 1 + 1 + 1) (pos 0)) = c.requires.fits (c.args.j + 1 + 1 + 1) (omega (arith, c.requires.first, c.requires.second)) in
    let g4 : FitsSigned w16 (get_or c.args.s.now (c.args.j + 1 + 1 + 1 + 1) (pos 0)) = c.requires.fits (c.args.j + 1 + 1 + 1 + 1) (omega (arith, c.requires.first, c.requires.second)) in
    let g5 : FitsSigned w16 (get_or c.args.s.now (c.args.j + 1 + 1 + 1 + 1 + 1) (pos 0)) = c.requires.fits (c.args.j + 1 + 1 + 1 + 1 + 1) (omega (arith, c.requires.first, c.requires.second)) in
    let g6 : FitsSigned w16 (get_or c.args.s.now (c.args.j + 1 + 1 + 1 + 1 + 1 + 1) (pos 0)) = c.requires.fits (c.args.j + 1 + 1 + 1 + 1 + 1 + 1) (omega (arith, c.requires.first, c.requires.second)) in
    let g7 : FitsSigned w16 (get_or c.args.s.now (c.args.j + 1 + 1 + 1 + 1 + 1 + 1 + 1) (pos 0)) = c.requires.fits (c.args.j + 1 + 1 + 1 + 1 + 1 + 1 + 1) (omega (arith, c.requires.first, c.requires.second)) in
    rw (row-is c.args.s.now c.args.j 8 (omega (arith, c.requires.second, c.requires.free))) (simp to_z-of_z (wider _ g0, (wider _ g1, (wider _ g2, (wider _ g3, (wider _ g4, (wider _ g5, (wider _ g6, (wider _ g7, tt)))))))))

pub returns : goal.returns
returns c =
    let f0 : FitsSigned w16 (get_or c.args.s.now (c.args.i) (pos 0)) = c.requires.fits (c.args.i) (omega (arith, c.requires.first, c.requires.second)) in
    let f1 : FitsSigned w16 (get_or c.args.s.now (c.args.i + 1) (pos 0)) = c.requires.fits (c.args.i + 1) (omega (arith, c.requires.first, c.requires.second)) in
    let f2 : FitsSigned w16 (get_or c.args.s.now (c.args.i + 1 + 1) (pos 0)) = c.requires.fits (c.args.i + 1 + 1) (omega (arith, c.requires.first, c.requires.second)) in
    let f3 : FitsSigned w16 (get_or c.args.s.now (c.args.i + 1 + 1 + 1) (pos 0)) = c.requires.fits (c.args.i + 1 + 1 + 1) (omega (arith, c.requires.first, c.requires.second)) in
    let f4 : FitsSigned w16 (get_or c.args.s.now (c.args.i + 1 + 1 + 1 + 1) (pos 0)) = c.requires.fits (c.args.i + 1 + 1 + 1 + 1) (omega (arith, c.requires.first, c.requires.second)) in
    let f5 : FitsSigned w16 (get_or c.args.s.now (c.args.i + 1 + 1 + 1 + 1 + 1) (pos 0)) = c.requires.fits (c.args.i + 1 + 1 + 1 + 1 + 1) (omega (arith, c.requires.first, c.requires.second)) in
    let f6 : FitsSigned w16 (get_or c.args.s.now (c.args.i + 1 + 1 + 1 + 1 + 1 + 1) (pos 0)) = c.requires.fits (c.args.i + 1 + 1 + 1 + 1 + 1 + 1) (omega (arith, c.requires.first, c.requires.second)) in
    let f7 : FitsSigned w16 (get_or c.args.s.now (c.args.i + 1 + 1 + 1 + 1 + 1 + 1 + 1) (pos 0)) = c.requires.fits (c.args.i + 1 + 1 + 1 + 1 + 1 + 1 + 1) (omega (arith, c.requires.first, c.requires.second)) in
    let g0 : FitsSigned w16 (get_or c.args.s.now (c.args.j) (pos 0)) = c.requires.fits (c.args.j) (omega (arith, c.requires.first, c.requires.second)) in
    let g1 : FitsSigned w16 (get_or c.args.s.now (c.args.j + 1) (pos 0)) = c.requires.fits (c.args.j + 1) (omega (arith, c.requires.first, c.requires.second)) in
    let g2 : FitsSigned w16 (get_or c.args.s.now (c.args.j + 1 + 1) (pos 0)) = c.requires.fits (c.args.j + 1 + 1) (omega (arith, c.requires.first, c.requires.second)) in
    let g3 : FitsSigned w16 (get_or c.args.s.now (c.args.j + 1 + 1 + 1) (pos 0)) = c.requires.fits (c.args.j + 1 + 1 + 1) (omega (arith, c.requires.first, c.requires.second)) in
    let g4 : FitsSigned w16 (get_or c.args.s.now (c.args.j + 1 + 1 + 1 + 1) (pos 0)) = c.requires.fits (c.args.j + 1 + 1 + 1 + 1) (omega (arith, c.requires.first, c.requires.second)) in
    let g5 : FitsSigned w16 (get_or c.args.s.now (c.args.j + 1 + 1 + 1 + 1 + 1) (pos 0)) = c.requires.fits (c.args.j + 1 + 1 + 1 + 1 + 1) (omega (arith, c.requires.first, c.requires.second)) in
    let g6 : FitsSigned w16 (get_or c.args.s.now (c.args.j + 1 + 1 + 1 + 1 + 1 + 1) (pos 0)) = c.requires.fits (c.args.j + 1 + 1 + 1 + 1 + 1 + 1) (omega (arith, c.requires.first, c.requires.second)) in
    let g7 : FitsSigned w16 (get_or c.args.s.now (c.args.j + 1 + 1 + 1 + 1 + 1 + 1 + 1) (pos 0)) = c.requires.fits (c.args.j + 1 + 1 + 1 + 1 + 1 + 1 + 1) (omega (arith, c.requires.first, c.requires.second)) in
    rw (row-is c.args.s.now c.args.i 8 (omega (arith, c.requires.first, c.requires.free))) (rw (row-is c.args.s.now c.args.j 8 (omega (arith, c.requires.second, c.requires.free))) (simp to_z-of_z (four-lanes (pair-is _ _ _ _ (wider _ f0) (wider _ g0) (wider _ f1) (wider _ g1)) (pair-is _ _ _ _ (wider _ f2) (wider _ g2) (wider _ f3) (wider _ g3)) (pair-is _ _ _ _ (wider _ f4) (wider _ g4) (wider _ f5) (wider _ g5)) (pair-is _ _ _ _ (wider _ f6) (wider _ g6) (wider _ f7) (wider _ g7)) ∙ sym (pairs-row c.args.s.now c.args.i c.args.j))))
