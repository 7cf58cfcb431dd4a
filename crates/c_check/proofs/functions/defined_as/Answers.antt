use Rattle.std.proofs.Common.{◌≡◌, ap, sym, subst, OnOk}
use Rattle.c_check.proofs.FunctionTypes.{function_parts}
use Rattle.c_check_globals.proofs.Moves.{same_judged}
use Rattle.c_rules.specs.Checked.{Checked}
use Rattle.c_rules.specs.Counts.{past}
use Rattle.c_rules.specs.Functions.{defined_as, held_by_type, items_of_body}
use Rattle.c_rules.specs.Variables.{calls_of_block}
use Rattle.c_check_statements.specs.View.{before_of, env_of}
use Rattle.c_syntax.specs.UnitView.{stmt_of}
use Rattle.c_syntax.specs.View.{declarator_of, ident_of}
use Rattle.c_tree.specs.Tree.{CType, Function, function}
use Rattle.c_tree.specs.View.{ctype_of, function_of, types_of}
use Rattle.c_check.proofs.functions.defined_as.Goals as goal

pub returns-in-Function-clause-judged : goal.returns-in-Function-clause-judged
returns-in-Function-clause-judged c =
    let t : CType = function (ctype_of c.deref.result.now) (types_of c.deref-in-Function.result.now) in
    let is : ctype_of c.args.t.now ≡ t = function_parts c.args.t.now c.in-Function.returns c.in-Function.types c.deref.result.now c.deref-in-Function.result.now c.in-Function.is c.deref.ensures c.deref-in-Function.ensures.value in
    let k : CType → Checked Function = defined_as (env_of c.args.env.now) (before_of c.args.before.now) c.args.place (declarator_of c.args.d.now) (ident_of c.args.x.now) (items_of_body (stmt_of c.args.body.now)) in
    same_judged function_of c.defined_with.result (k t) (k (ctype_of c.args.t.now)) (ap k (sym is)) c.defined_with.ensures.judged

pub returns-in-Function-clause-counted : goal.returns-in-Function-clause-counted
returns-in-Function-clause-counted c =
    let t : CType = function (ctype_of c.deref.result.now) (types_of c.deref-in-Function.result.now) in
    let is : ctype_of c.args.t.now ≡ t = function_parts c.args.t.now c.in-Function.returns c.in-Function.types c.deref.result.now c.deref-in-Function.result.now c.in-Function.is c.deref.ensures c.deref-in-Function.ensures.value in
    subst (λ (u : CType). OnOk c.defined_with.result (before_of c.defined_with.new.before ≡ past (before_of c.args.before.now) (calls_of_block (items_of_body (stmt_of c.args.body.now))) (held_by_type (env_of c.args.env.now) (declarator_of c.args.d.now) (items_of_body (stmt_of c.args.body.now)) u))) (sym is) c.defined_with.ensures.counted
