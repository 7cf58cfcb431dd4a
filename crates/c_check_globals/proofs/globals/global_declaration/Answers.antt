use Rattle.std.proofs.Common.{sym, ◌∙◌}
use Rattle.std.specs.Prelude.{false}
use Rattle.c_check_units.proofs.Parts.{names_on, raised}
use Rattle.c_rules.specs.Checked.{Checked, fine, gives}
use Rattle.c_rules.specs.Items.{behind_global, global_declared, no_output}
use Rattle.c_rules.specs.Objects.{Object}
use Rattle.c_check_scopes.specs.View.{before_of, env_of}
use Rattle.c_syntax.specs.UnitView.{maybe_init_of}
use Rattle.c_syntax.specs.View.{declarator_of, ident_of, spec_of}
use Rattle.c_check_globals.proofs.globals.global_declaration.Goals as goal

pub returns-in_err-object-clause-judged : goal.returns-in_err-object-clause-judged
returns-in_err-object-clause-judged c =
    let r : Checked Object = global_declared (env_of c.args.env.now) false (before_of c.args.before.now) c.args.at (spec_of c.args.s.now) (declarator_of c.args.d.now) (ident_of c.args.x.now) (maybe_init_of c.args.m.now) in
    raised (λ _. no_output) (gives r (λ _. no_output)) c.from_residual.result c.in_err-object.field-0.0 c.from_residual.ensures (names_on c.in_err-object.field-0.0 r (λ _. fine no_output) c.in_err-object.ensures.judged)

pub returns-clause-behind : goal.returns-clause-behind
returns-clause-behind c =
    c.in_ok-declare_behind.ensures ∙ (λ i. behind_global (env_of (c.in_ok-object.ensures.kept i)) false (ident_of c.args.x.now) (sym c.in_ok-object.ensures.judged i))
