-- A valid model breaks no rule.
use Rattle.std.proofs.Common.{ℕ}
use Rattle.std.specs.Cmp.{nat_cmp_total}
use Rattle.flow_model.specs.Graph.{Graph}
use Rattle.flow_model.specs.Rules.{HasNoRepeats, IsInOrder, IsValid, IsLeastBroken}
use Rattle.flow_model.specs.Rules.IsLeastBroken.{entries as broken_entries, exits as broken_exits, names as broken_names, edges as broken_edges, functions as broken_functions, repeats as broken_repeats, patterns as broken_patterns}
use Rattle.flow_model.proofs.OrderLemmas.{silent_order_total, sys_order_total}
use Rattle.flow_model.proofs.ApartLemmas.{rises_apart}

pub no_repeats : (g : Graph) → IsInOrder g → HasNoRepeats g
no_repeats g order = record {
  silent = λ i j d before within same. rises_apart silent_order_total _ _ (order.silent i j d before within) same;
  sys = λ i j d before within same. rises_apart sys_order_total _ _ (order.sys i j d before within) same;
  sites = λ i j d before within same. rises_apart nat_cmp_total _ _ (order.calls i j d before within) same;
  candidates = λ k d within i j e before inside same. rises_apart nat_cmp_total _ _ (order.candidates k d within i j e before inside) same;
}

pub none_broken : (g : Graph) (k : ℕ) → IsValid g → IsLeastBroken g k → ⊥
none_broken g k valid (broken_entries is not_so) = not_so valid.entries
none_broken g k valid (broken_exits is entries not_so) = not_so valid.exits
none_broken g k valid (broken_names is entries exits not_so) = not_so valid.names
none_broken g k valid (broken_edges is entries exits names not_so) = not_so valid.edges
none_broken g k valid (broken_functions is entries exits names edges not_so) = not_so valid.functions
none_broken g k valid (broken_repeats is entries exits names edges functions not_so) = not_so (no_repeats g valid.order)
none_broken g k valid (broken_patterns is entries exits names edges functions repeats not_so) = not_so valid.patterns
