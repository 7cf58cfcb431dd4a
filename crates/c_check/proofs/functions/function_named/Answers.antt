use Rattle.std.proofs.Common.{◌≡◌, sym, ◌∙◌}
use Rattle.std.specs.Prelude.{true}
use Rattle.c_check_units.proofs.Parts.{raised}
use Rattle.c_check_globals.proofs.Moves.{IsFine, first_fine, on_is, on_more, same_judged, viewed_ends, wider_fails}
use Rattle.c_rules.specs.Checked.{Checked, both, fine, on}
use Rattle.c_rules.specs.Counts.{past}
use Rattle.c_rules.specs.Declarators.{place_or}
use Rattle.c_rules.specs.Expressions.{type_declared}
use Rattle.c_rules.specs.Functions.{defined_as, function_declared, held_by_type, held_by_typed, items_of_body}
use Rattle.c_rules.specs.Items.{Output, behind_defined, output_of_function}
use Rattle.c_rules.specs.Scopes.{Env, Before, Meaning}
use Rattle.c_rules.specs.Variables.{calls_of_block}
use Rattle.c_check_statements.specs.View.{before_of, env_of}
use Rattle.c_syntax.specs.Tree.{BlockItems}
use Rattle.c_syntax.specs.UnitView.{stmt_of}
use Rattle.c_syntax.specs.View.{declarator_of, ident_of, spec_of}
use Rattle.c_tree.specs.Tree.{CType, Function}
use Rattle.c_tree.specs.View.{ctype_of, function_of}
use Rattle.c_check.proofs.functions.function_named.Goals as goal

pub returns-in_err-ctype-clause-judged : goal.returns-in_err-ctype-clause-judged
returns-in_err-ctype-clause-judged c =
    let env : Env = env_of c.args.env.now in
    let d = declarator_of c.args.d.now in
    let x = ident_of c.args.x.now in
    let p : Checked Meaning = function_declared env true c.args.at (spec_of c.args.s.now) d x in
    let q : Checked CType = type_declared env c.args.at (spec_of c.args.s.now) d in
    let k : CType → Checked Function = defined_as (behind_defined env c.args.at (spec_of c.args.s.now) d x) (before_of c.args.before.now) (place_or c.args.at d) d x (items_of_body (stmt_of c.args.body.now)) in
    let n : Meaning → Function → Checked Output = λ _ f. fine (output_of_function f) in
    raised (λ f. output_of_function (function_of f)) (both p (on q k) n) c.from_residual.result c.in_err-ctype.field-0.0 c.from_residual.ensures (wider_fails c.in_err-ctype.field-0.0 p q k n c.in_err-ctype.ensures.judged)

pub returns-clause-judged : goal.returns-clause-judged
returns-clause-judged c =
    let env : Env = env_of c.args.env.now in
    let d = declarator_of c.args.d.now in
    let x = ident_of c.args.x.now in
    let is : BlockItems = items_of_body (stmt_of c.args.body.now) in
    let p : Checked Meaning = function_declared env true c.args.at (spec_of c.args.s.now) d x in
    let q : Checked CType = type_declared env c.args.at (spec_of c.args.s.now) d in
    let k : CType → Checked Function = defined_as (behind_defined env c.args.at (spec_of c.args.s.now) d x) (before_of c.args.before.now) (place_or c.args.at d) d x is in
    let t : CType = ctype_of c.in_ok-ctype.ctype in
    let r : Checked Function = defined_as (env_of c.declare_definition.new.env) (before_of c.args.before.now) c.place_of_declarator.result d x is t in
    let node : r ≡ k t = λ i. defined_as (c.in_ok-ctype.ensures.behind i) (before_of c.args.before.now) (c.place_of_declarator.ensures c.args.at i) d x is t in
    let m : IsFine p = first_fine p q t c.in_ok-ctype.ensures.judged in
    viewed_ends function_of output_of_function c.defined_as.result p (on q k) m.value m.is (same_judged function_of c.defined_as.result r (on q k) (sym (on_is q k t r c.in_ok-ctype.ensures.declared node)) c.defined_as.ensures.judged)

pub returns-clause-behind : goal.returns-clause-behind
returns-clause-behind c =
    on_more c.defined_as.result (env_of c.defined_as.new.env ≡ env_of c.declare_definition.new.env) (env_of c.defined_as.new.env ≡ behind_defined (env_of c.args.env.now) c.args.at (spec_of c.args.s.now) (declarator_of c.args.d.now) (ident_of c.args.x.now))
    (λ h. h ∙ c.in_ok-ctype.ensures.behind) c.defined_as.ensures.kept

pub returns-clause-counted : goal.returns-clause-counted
returns-clause-counted c =
    let env : Env = env_of c.args.env.now in
    let d = declarator_of c.args.d.now in
    let is : BlockItems = items_of_body (stmt_of c.args.body.now) in
    let b : Before = before_of c.args.before.now in
    let behind : Env = behind_defined env c.args.at (spec_of c.args.s.now) d (ident_of c.args.x.now) in
    on_more c.defined_as.result (before_of c.defined_as.new.before ≡ past b (calls_of_block is) (held_by_type (env_of c.declare_definition.new.env) d is (ctype_of c.in_ok-ctype.ctype)))
    (before_of c.defined_as.new.before ≡ past b (calls_of_block is) (held_by_typed behind d is (type_declared env c.args.at (spec_of c.args.s.now) d)))
    (λ h. h ∙ (λ i. past b (calls_of_block is) (held_by_typed (c.in_ok-ctype.ensures.behind i) d is (sym c.in_ok-ctype.ensures.declared i)))) c.defined_as.ensures.counted
