use Rattle.std.proofs.Common.{◌≡◌, ◌+◌, length}
use Rattle.c_check_initialisers.proofs.stores.stores_of.Given as goal
use Rattle.c_check_initialisers.specs.CellView.{typed_expressions_of}
use Rattle.c_check_initialisers.specs.Left.{stores_before}
use Rattle.c_rules.specs.Initialisers.{stores_from}

abbrev pub invariant-loop-g : goal.invariant-loop-g
invariant-loop-g l = record {
  counted : l.g-iterator.rest.len ≡ length l.g-iterator.rest.items;
  fits : length l.stores.items + length l.g-iterator.rest.items ≡ length l.fn.cells.items;
  told : stores_before l.stores.items (stores_from (length l.stores.items) (typed_expressions_of l.g-iterator.rest.items)) ≡ stores_from 0 (typed_expressions_of l.fn.cells.items);
}
