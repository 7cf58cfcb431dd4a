use Rattle.std.proofs.Common.{◌≡◌, ◌++◌, take}
use Rattle.std.specs.Prelude.{flat_map}
use Rattle.c_check_counts.specs.HeldTags.{tags_of_param}
use Rattle.c_rules.specs.Tags.{tags_of_expr}
use Rattle.c_syntax.specs.View.{expr_of}
use Rattle.c_syntax.specs.SeenNames.{seen}
use Rattle.c_check_counts.proofs.tags.+tags_in.Given as goal

abbrev pub invariant-add_exprs-loop-e : goal.invariant-add_exprs-loop-e
invariant-add_exprs-loop-e l = seen l.into.items ≡ seen l.fn.into.items ++ flat_map (λ e. tags_of_expr (expr_of e)) (take l.e-index l.es)

abbrev pub invariant-add_params-loop-p : goal.invariant-add_params-loop-p
invariant-add_params-loop-p l = seen l.into.items ≡ seen l.fn.into.items ++ flat_map tags_of_param (take l.p-index l.ps)
