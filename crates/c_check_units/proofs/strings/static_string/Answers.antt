use Rattle.c_tree.specs.View.{ctype_of}
use Rattle.c_check_units.proofs.StringLemmas.{static_as}
use Rattle.c_check_units.proofs.strings.static_string.Goals as goal

pub returns : goal.returns
returns c = static_as (ctype_of c.in_ok-ctype.ctype) c.in_ok-cells.cells.items c.args.bytes.now c.in_ok-ctype.ensures c.in_ok-cells.ensures
