use Rattle.c_check_values.proofs.Parts.{raised}
use Rattle.c_check_declarations.specs.ObjectView.{object_seen}
use Rattle.c_check_declarations.proofs.ObjectLemmas.{name_fails}
use Rattle.c_check_declarations.proofs.globals.global_object.Goals as goal
use Rattle.c_rules.specs.Items.{object_name, few_static, global_object}
use Rattle.c_check_values.specs.View.{before_of, env_of}
use Rattle.c_syntax.specs.View.{ident_of}
use Rattle.c_tree.specs.View.{ctype_of}

pub returns-in_err-object_name : goal.returns-in_err-object_name
returns-in_err-object_name c =
    raised (λ _. object_seen c.args.o.now) (global_object (env_of c.args.env.now) c.args.defined (before_of c.args.before.now) (ident_of c.args.x.now) (object_seen c.args.o.now)) c.from_residual.result c.in_err-object_name.field-0.0 c.from_residual.ensures
    (name_fails c.in_err-object_name.field-0.0 (object_name (env_of c.args.env.now) c.args.defined (ident_of c.args.x.now) (ctype_of c.args.o.now.whole))
    (few_static (env_of c.args.env.now) c.args.defined (before_of c.args.before.now) (ident_of c.args.x.now) (ctype_of c.args.o.now.whole)) (object_seen c.args.o.now) c.in_err-object_name.ensures)
