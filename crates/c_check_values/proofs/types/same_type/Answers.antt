use Rattle.c_tree.specs.View.{ctype_of}
use Rattle.c_check_values.proofs.SameLemmas.{same_told}
use Rattle.c_check_values.proofs.types.same_type.Goals as goal

pub returns : goal.returns
returns c = same_told c.is_same.result (ctype_of c.args.a.now) (ctype_of c.args.b.now) c.is_same.ensures
