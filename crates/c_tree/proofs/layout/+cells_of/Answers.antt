use Rattle.std.proofs.Common.{ap}
use Rattle.c_tree.specs.View.{ctype_of}
use Rattle.c_tree.proofs.CountLemmas.{array_count, struct_count}
use Rattle.c_tree.proofs.layout.+cells_of.Goals as goal

-- src/layout.rt:23:1
pub returns-in-Array : goal.returns-in-Array
returns-in-Array t c = λ structs counts object. array_count structs (ctype_of c.in-Array.element.value) (ctype_of c.deref.result.now) (ctype_of c.args.t.now) c.in-Array.n c.cells_of-each.result (ap ctype_of c.in-Array.is) (ap ctype_of c.deref.ensures) object (c.cells_of-each.ensures structs counts)

-- src/layout.rt:23:1
pub returns-in-Struct : goal.returns-in-Struct
returns-in-Struct t c = λ structs counts object. struct_count structs c.args.counts.now (ctype_of c.args.t.now) c.in-Struct.s c.count_at.result (ap ctype_of c.in-Struct.is) counts object c.count_at.ensures
