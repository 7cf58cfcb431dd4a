use Rattle.std.proofs.Common.{◌∙◌}
use Rattle.c_tree.specs.View.{ctype_of}
use Rattle.c_check_values.proofs.SameLemmas.{integer_same}
use Rattle.c_check_values.proofs.integers.has_integer.Goals as goal

pub returns : goal.returns
returns c = c.same_type.ensures ∙ integer_same c.args.i (ctype_of c.args.t.now)
