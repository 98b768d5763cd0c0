use Rattle.celt_base.proofs.WalkOrders.{in_order, next_after, outcome_after}
use Rattle.celt_base.proofs.walk_laws.law_script_order.Goals as goal

pub returns : goal.returns
returns g c = record {
  order = λ script pace events value x. in_order x;
  ends = λ script pace events value x. next_after x;
  value = λ script pace events value x. outcome_after x;
}
