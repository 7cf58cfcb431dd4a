use Rattle.std.proofs.Common.{◌≡◌, drop, map}
use Rattle.c_check_types.specs.TypedExpressionView.{typed_expression_of}
use Rattle.c_rules.specs.Counts.{calls_of_all, strings_of_all, past}
use Rattle.c_rules.specs.Expressions.{trees, parameters}
use Rattle.c_check_counts.specs.View.{before_of, env_of}
use Rattle.c_syntax.specs.Writes.{exprs_of, params_of}
use Rattle.c_check_expressions.specs.Parts.{Declares, onto_givens, onto_types}
use Rattle.c_check_expressions.proofs.expressions.+expression.Given as goal

abbrev pub invariant-values-loop-e : goal.invariant-values-loop-e
invariant-values-loop-e l = record {
  found : trees (env_of l.fn.env) (before_of l.fn.before) (exprs_of l.es) ≡ onto_givens (map typed_expression_of l.given.items) (trees (env_of l.env) (before_of l.before) (exprs_of (drop l.e-index l.es)));
  counted : past (before_of l.fn.before) (calls_of_all (exprs_of l.es)) (strings_of_all (exprs_of l.es)) ≡ past (before_of l.before) (calls_of_all (exprs_of (drop l.e-index l.es))) (strings_of_all (exprs_of (drop l.e-index l.es)));
  kept : l.env ≡ l.fn.env;
}

abbrev pub invariant-parameters-loop-p : goal.invariant-parameters-loop-p
invariant-parameters-loop-p l = record {
  found : parameters (env_of l.fn.env) 0 (params_of l.params) ≡ onto_types l.types.items (parameters (env_of l.env) 0 (params_of (drop l.p-index l.params)));
  kept : Declares l.fn.env l.env;
}
