use Rattle.std.specs.Prelude.{is_none}
use Rattle.c_check_values.proofs.Parts.{raised, names_first}
use Rattle.c_rules.specs.Checked.{fine, demand, met}
use Rattle.c_rules.specs.Declarators.{free_name, new_name}
use Rattle.c_rules.specs.Scopes.{declared_here}
use Rattle.c_check_values.specs.View.{env_of}
use Rattle.c_syntax.specs.View.{ident_of}
use Rattle.c_check_types.proofs.names.new_name.Goals as goal

pub returns-in_err-free_name : goal.returns-in_err-free_name
returns-in_err-free_name c =
    let env = env_of c.args.env.now in
    let x = ident_of c.args.x.now in
    raised (λ _. met) (new_name env x) c.from_residual.result c.in_err-free_name.field-0.0 c.from_residual.ensures
    (names_first c.in_err-free_name.field-0.0 (free_name env x) (demand (is_none (declared_here env x.name)) 2 x.at met) (λ _ _. fine met) c.in_err-free_name.ensures)
