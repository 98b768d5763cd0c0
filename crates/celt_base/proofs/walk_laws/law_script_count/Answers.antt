use Rattle.celt_base.proofs.WalkOrders.{at_most, most_then, most_table}
use Rattle.celt_base.proofs.CountSteps.{list_most}
use Rattle.celt_base.proofs.walk_laws.law_script_count.Goals as goal

pub returns : goal.returns
returns g c = record {
  most = λ n script pace events value most x. at_most n most x;
  list = λ n script pace list most order. list_most n script pace list most order;
  sum = λ m n script follow most later. most_then script follow m n most later;
  product = λ n channels bands script most. most_table script n channels bands most;
}
