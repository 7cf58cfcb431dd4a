use Rattle.std.proofs.Common.{◌<◌, arith}
use Rattle.c_rules.specs.Scopes.{layout_of}
use Rattle.c_check_values.specs.View.{env_of}
use Rattle.c_tree.specs.Layout.{cells}
use Rattle.c_tree.specs.View.{ctype_of}
use Rattle.c_check_assignments.proofs.SizeLemmas.{complete_and_many}
use Rattle.c_check_assignments.proofs.operators.size_of.Goals as goal

pub returns-then-cells-gt65536 : goal.returns-then-cells-gt65536
returns-then-cells-gt65536 c =
    let env = env_of c.args.env.now in
    let h : 65536 < cells (layout_of env) (ctype_of c.args.t.now) = omega (arith, c.in-Some.ensures.1, c.if-cells-gt65536.true) in
    complete_and_many env c.args.at c.args.place (ctype_of c.args.t.now) c.in_ok-complete.ensures h
