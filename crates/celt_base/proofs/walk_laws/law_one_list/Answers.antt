use Rattle.std.proofs.Common.{◌≡◌, sym, ◌∙◌}
use Rattle.celt_base.proofs.WalkOrders.{one_list}
use Rattle.celt_base.proofs.walk_laws.law_one_list.Goals as goal

pub returns : goal.returns
returns g c = λ decide after state script pace xs ys ix ex dx iy ey dy.
    one_list (λ before question answer. answer ≡ decide before question) after (λ before question x y ex ey. ex ∙ sym ey)
    script pace state xs ys ix ex dx iy ey dy
