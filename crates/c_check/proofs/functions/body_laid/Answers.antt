use Rattle.std.proofs.Common.{◌≡◌, ap, sym, ◌∙◌}
use Rattle.std.specs.Prelude.{false}
use Rattle.c_check_units.specs.Numbered.{next_of}
use Rattle.c_check_units.proofs.Parts.{raised}
use Rattle.c_check_globals.proofs.Moves.{same_within, same_named}
use Rattle.c_check.proofs.Within.{body_within, few_parameters}
use Rattle.c_check_statements.specs.StatementTreeView.{statement_trees_of}
use Rattle.c_check_units.specs.Scoped.{IsWithin}
use Rattle.c_rules.specs.Blocks.{StatementTree, held_by_block}
use Rattle.c_rules.specs.Checked.{Checked}
use Rattle.c_rules.specs.Counts.{past}
use Rattle.c_rules.specs.Functions.{body_env, body_numbers, body_of, items_of_body}
use Rattle.c_rules.specs.Scopes.{Env}
use Rattle.c_rules.specs.Statements.{Around, items_of_block}
use Rattle.c_rules.specs.Variables.{calls_of_block, names_of_block}
use Rattle.c_check_statements.specs.View.{before_of, env_of}
use Rattle.c_syntax.specs.Tree.{BlockItems}
use Rattle.c_syntax.specs.UnitView.{stmt_of}
use Rattle.c_syntax.specs.View.{declarator_of}
use Rattle.c_tree.specs.Tree.{CType, Stmts}
use Rattle.c_tree.specs.View.{ctype_of, types_of}
use Rattle.c_check.proofs.functions.body_laid.Goals as goal

abbrev around : CType → Around
around t = record { breaks = false; continues = false; returns = t }

pub enter_body-requires : goal.enter_body-requires
enter_body-requires c =
    let is : BlockItems = items_of_body (stmt_of c.args.body.now) in
    few_parameters (declarator_of c.args.d.now) is (next_of c.args.numbers) (names_of_block is) c.requires.numbered c.requires.left

pub returns-in_err-laid-clause-judged : goal.returns-in_err-laid-clause-judged
returns-in_err-laid-clause-judged c =
    let env : Env = env_of c.args.env.now in
    let is : BlockItems = items_of_body (stmt_of c.args.body.now) in
    let inner : Env = body_env env (declarator_of c.args.d.now) (types_of c.args.types.now) in
    let into : env_of c.enter_body.new.env ≡ inner = c.in_ok-enter_body.ensures in
    let numbered : next_of c.args.numbers ≡ body_numbers (declarator_of c.args.d.now) is = c.requires.numbered in
    let found : Checked (StatementTree Stmts) = body_of env (before_of c.args.before.now) (ctype_of c.args.returns.now) (declarator_of c.args.d.now) (types_of c.args.types.now) is in
    raised statement_trees_of found c.from_residual-in_err-laid.result c.in_err-laid.field-0.0 c.from_residual-in_err-laid.ensures
    (same_named c.in_err-laid.field-0.0 (items_of_block (env_of c.enter_body.new.env) (around (ctype_of c.args.returns.now)) (before_of c.args.before.now) (next_of c.args.numbers) is) found
    (λ i. items_of_block (into i) (around (ctype_of c.args.returns.now)) (before_of c.args.before.now) (numbered i) is) c.in_err-laid.ensures.judged)

pub returns-clause-judged : goal.returns-clause-judged
returns-clause-judged c =
    let env : Env = env_of c.args.env.now in
    let is : BlockItems = items_of_body (stmt_of c.args.body.now) in
    let inner : Env = body_env env (declarator_of c.args.d.now) (types_of c.args.types.now) in
    let into : env_of c.enter_body.new.env ≡ inner = c.in_ok-enter_body.ensures in
    let numbered : next_of c.args.numbers ≡ body_numbers (declarator_of c.args.d.now) is = c.requires.numbered in
    (λ i. items_of_block (sym into i) (around (ctype_of c.args.returns.now)) (before_of c.args.before.now) (sym numbered i) is) ∙ c.in_ok-laid.ensures.judged

pub returns-clause-kept : goal.returns-clause-kept
returns-clause-kept c =
    let env : Env = env_of c.args.env.now in
    let inner : IsWithin (env_of c.enter_body.new.env) env = same_within (env_of c.enter_body.new.env) (body_env env (declarator_of c.args.d.now) (types_of c.args.types.now)) env c.in_ok-enter_body.ensures (body_within env (declarator_of c.args.d.now) (types_of c.args.types.now)) in
    c.leave.ensures env (same_within (env_of c.body_of.new.env) (env_of c.enter_body.new.env) env (ap env_of c.in_ok-laid.ensures.kept) inner) c.count_names-count.ensures (sym c.in_ok-depth.ensures)

pub returns-clause-counted : goal.returns-clause-counted
returns-clause-counted c =
    let env : Env = env_of c.args.env.now in
    let is : BlockItems = items_of_body (stmt_of c.args.body.now) in
    let inner : Env = body_env env (declarator_of c.args.d.now) (types_of c.args.types.now) in
    let into : env_of c.enter_body.new.env ≡ inner = c.in_ok-enter_body.ensures in
    let numbered : next_of c.args.numbers ≡ body_numbers (declarator_of c.args.d.now) is = c.requires.numbered in
    c.in_ok-laid.ensures.counted ∙ (λ i. past (before_of c.args.before.now) (calls_of_block is) (held_by_block (into i) (numbered i) is))
