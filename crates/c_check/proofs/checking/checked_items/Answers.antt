use Rattle.std.proofs.Common.{ap, sym, subst, ◌∙◌}
use Rattle.c_rules.specs.Checked.{demand, on}
use Rattle.c_rules.specs.Codes.{C9}
use Rattle.c_rules.specs.Items.{items}
use Rattle.c_rules.specs.Scopes.{nothing_before}
use Rattle.c_rules.specs.Units.{IsTyped, checked, env_before, few_names, has_main, program_of as typed_program}
use Rattle.c_check_values.specs.View.{before_of}
use Rattle.c_check_values.proofs.Parts.{raised}
use Rattle.c_syntax.specs.UnitView.{items_of}
use Rattle.c_tree.specs.Program.{IsProgram}
use Rattle.c_tree.specs.View.{program_of}
use Rattle.c_check.proofs.Answered.{names_within}
use Rattle.c_check.proofs.checking.checked_items.Goals as goal

pub returns-in_err-env : goal.returns-in_err-env
returns-in_err-env c =
    let u = items_of c.args.listed.now in
    raised program_of (checked u c.args.mode) c.from_residual.result c.in_err-env.field-0.0 c.from_residual.ensures
    (names_within c.in_err-env.field-0.0 (few_names u) (items (env_before c.args.mode u) nothing_before u) (λ p. demand (has_main c.args.mode u) C9 0 (typed_program c.args.mode u p)) c.in_err-env.ensures.judged)

pub typed_program-requires-clause-given : goal.typed_program-requires-clause-given
typed_program-requires-clause-given c =
    let u = items_of c.args.listed.now in
    sym (ap (λ q. on q (λ _. items (env_before c.args.mode u) nothing_before u)) c.in_ok-env.ensures.few) ∙ c.in_ok-env.ensures.judged

-- what is typed is well-typed
pub typed_program-requires-clause-right : goal.typed_program-requires-clause-right
typed_program-requires-clause-right c p typed =
    let u = items_of c.args.listed.now in
    subst (IsProgram p) (sym (ap (λ b. b.sites) c.in_ok-env.ensures.counted)) (c.a_typed_unit_is_a_program.ensures u c.args.mode p c.requires typed)
