use Rattle.std.proofs.Common.{◌≡◌, refl, sym, ◌∙◌}
use Rattle.c_check_units.proofs.Parts.{names_first, names_node, names_on, names_parts, parts_judged, raised}
use Rattle.c_check_globals.proofs.Moves.{both_is, node_fails, on_is, on_ok, same_judged}
use Rattle.c_check_statements.specs.StatementTreeView.{statement_trees_of}
use Rattle.c_rules.specs.Blocks.{StatementTree}
use Rattle.c_rules.specs.Checked.{Checked, fine, faulty, Met, met, both, demand, on, parts_first}
use Rattle.c_rules.specs.Functions.{are_named, body_of, few_variables, function_laid, items_of_body, parameters_of}
use Rattle.c_check_statements.specs.View.{before_of, env_of}
use Rattle.c_syntax.specs.UnitView.{stmt_of}
use Rattle.c_syntax.specs.View.{declarator_of, ident_of}
use Rattle.c_tree.specs.Tree.{Function, Stmts}
use Rattle.c_tree.specs.View.{ctype_of, function_of, types_of}
use Rattle.c_check.proofs.functions.defined_with.Goals as goal

-- the parts of what is fine are fine
first_fine : {A B C : Type 0} (p : Checked A) (q : Checked B) (k : A → B → Checked C) (c : C) → both p q k ≡ fine c → (a : A) × (b : B) × (p ≡ fine a) × (q ≡ fine b) × (k a b ≡ fine c)
first_fine (fine a) (fine b) k c e = (a, b, refl, refl, e)
first_fine (fine a) (faulty f fs) k c e = cc
first_fine (faulty f fs) q k c e = cc

pub returns-in_err-numbers-clause-judged : goal.returns-in_err-numbers-clause-judged
returns-in_err-numbers-clause-judged c =
    let env = env_of c.args.env.now in
    let d = declarator_of c.args.d.now in
    let p : Checked Met = demand (are_named (parameters_of d)) 3 c.args.place met in
    let q : Checked (StatementTree Stmts) = body_of env (before_of c.args.before.now) (ctype_of c.args.returns.now) d (types_of c.args.types.now) (items_of_body (stmt_of c.args.body.now)) in
    let k : Met → StatementTree Stmts → Checked Function = λ _ l. function_laid env (ident_of c.args.x.now) (ctype_of c.args.returns.now) (types_of c.args.types.now) l in
    let few : Checked Met = few_variables env (ident_of c.args.x.now) d (items_of_body (stmt_of c.args.body.now)) in
    let node : Met → Checked Function = λ _. parts_first q (both p q k) in
    raised function_of (on few node) c.from_residual.result c.in_err-numbers.field-0.0 c.from_residual.ensures (names_on c.in_err-numbers.field-0.0 few node c.in_err-numbers.ensures.judged)

pub returns-in_err-laid-clause-judged : goal.returns-in_err-laid-clause-judged
returns-in_err-laid-clause-judged c =
    let env = env_of c.args.env.now in
    let d = declarator_of c.args.d.now in
    let p : Checked Met = demand (are_named (parameters_of d)) 3 c.args.place met in
    let q : Checked (StatementTree Stmts) = body_of env (before_of c.args.before.now) (ctype_of c.args.returns.now) d (types_of c.args.types.now) (items_of_body (stmt_of c.args.body.now)) in
    let k : Met → StatementTree Stmts → Checked Function = λ _ l. function_laid env (ident_of c.args.x.now) (ctype_of c.args.returns.now) (types_of c.args.types.now) l in
    let few : Checked Met = few_variables env (ident_of c.args.x.now) d (items_of_body (stmt_of c.args.body.now)) in
    let node : Met → Checked Function = λ _. parts_first q (both p q k) in
    raised function_of (on few node) c.from_residual-in_err-laid.result c.in_err-laid.field-0.0 c.from_residual-in_err-laid.ensures
    (node_fails c.in_err-laid.field-0.0 few node met (node met) c.in_ok-numbers.ensures.judged refl (names_parts c.in_err-laid.field-0.0 q (both p q k) (λ f h. (let i = first_fine p q k f h in (i.1, i.3))) c.in_err-laid.ensures.judged))

pub returns-in_err-named_parameters-clause-judged : goal.returns-in_err-named_parameters-clause-judged
returns-in_err-named_parameters-clause-judged c =
    let env = env_of c.args.env.now in
    let d = declarator_of c.args.d.now in
    let p : Checked Met = demand (are_named (parameters_of d)) 3 c.args.place met in
    let q : Checked (StatementTree Stmts) = body_of env (before_of c.args.before.now) (ctype_of c.args.returns.now) d (types_of c.args.types.now) (items_of_body (stmt_of c.args.body.now)) in
    let k : Met → StatementTree Stmts → Checked Function = λ _ l. function_laid env (ident_of c.args.x.now) (ctype_of c.args.returns.now) (types_of c.args.types.now) l in
    let few : Checked Met = few_variables env (ident_of c.args.x.now) d (items_of_body (stmt_of c.args.body.now)) in
    let node : Met → Checked Function = λ _. parts_first q (both p q k) in
    raised function_of (on few node) c.from_residual-in_err-named_parameters.result c.in_err-named_parameters.field-0.0 c.from_residual-in_err-named_parameters.ensures
    (node_fails c.in_err-named_parameters.field-0.0 few node met (node met) c.in_ok-numbers.ensures.judged refl (names_node c.in_err-named_parameters.field-0.0 q (both p q k) (statement_trees_of c.in_ok-laid.laid) c.in_ok-laid.ensures.judged (names_first c.in_err-named_parameters.field-0.0 p q k c.in_err-named_parameters.ensures)))

pub returns-clause-judged : goal.returns-clause-judged
returns-clause-judged c =
    let env = env_of c.args.env.now in
    let d = declarator_of c.args.d.now in
    let p : Checked Met = demand (are_named (parameters_of d)) 3 c.args.place met in
    let q : Checked (StatementTree Stmts) = body_of env (before_of c.args.before.now) (ctype_of c.args.returns.now) d (types_of c.args.types.now) (items_of_body (stmt_of c.args.body.now)) in
    let k : Met → StatementTree Stmts → Checked Function = λ _ l. function_laid env (ident_of c.args.x.now) (ctype_of c.args.returns.now) (types_of c.args.types.now) l in
    let few : Checked Met = few_variables env (ident_of c.args.x.now) d (items_of_body (stmt_of c.args.body.now)) in
    let node : Met → Checked Function = λ _. parts_first q (both p q k) in
    let l : StatementTree Stmts = statement_trees_of c.in_ok-laid.laid in
    let r : Checked Function = function_laid (env_of c.body_laid.new.env) (ident_of c.args.x.now) (ctype_of c.args.returns.now) (types_of c.args.types.now) l in
    let made : r ≡ k met l = λ i. function_laid (c.in_ok-laid.ensures.kept i) (ident_of c.args.x.now) (ctype_of c.args.returns.now) (types_of c.args.types.now) l in
    same_judged function_of c.function_laid.result (node met) (on few node) (sym (on_is few node met (node met) c.in_ok-numbers.ensures.judged refl))
    (parts_judged function_of c.function_laid.result q (both p q k) l c.in_ok-laid.ensures.judged
    (same_judged function_of c.function_laid.result r (both p q k) (made ∙ sym (both_is p q k met l q c.in_ok-named_parameters.ensures refl c.in_ok-laid.ensures.judged)) c.function_laid.ensures))

pub returns-clause-kept : goal.returns-clause-kept
returns-clause-kept c = on_ok c.function_laid.result (env_of c.body_laid.new.env ≡ env_of c.args.env.now) c.in_ok-laid.ensures.kept

pub returns-clause-counted : goal.returns-clause-counted
returns-clause-counted c = on_ok c.function_laid.result _ c.in_ok-laid.ensures.counted
