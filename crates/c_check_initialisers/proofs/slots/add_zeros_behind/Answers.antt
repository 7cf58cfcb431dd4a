use Rattle.std.proofs.Common.{ap}
use Rattle.c_check_initialisers.proofs.SlotLemmas.{each_behind}
use Rattle.c_check_initialisers.proofs.slots.add_zeros_behind.Goals as goal
use Rattle.c_check_initialisers.specs.CellView.{typed_expressions_of, slots_of}
use Rattle.c_rules.specs.Scopes.{layout_of}
use Rattle.c_check_values.specs.View.{env_of}

pub returns-in-Some : goal.returns-in-Some
returns-in-Some c =
    each_behind c.add_each.result (layout_of (env_of c.args.env.now)) (slots_of c.args.slots.now) c.in-Each.types.items c.deref.result.now c.in-Some.left.now c.args.place (typed_expressions_of c.args.cells.now.items) (typed_expressions_of c.add_each.new.cells.items)
    (ap slots_of c.in-Each.is) c.deref.ensures.value c.in-Some.ensures.lookup.0.2 c.add_each.ensures
