-- What is called, in Rust and in the rules.
use Rattle.c_tree.specs.View.{ctype_of, types_of, expr_of}
use Rattle.c_check_primary.specs.declared.callee.Callee.{Callee as CalleeTree}
use Rattle.c_check_primary.specs.declared.callee.Designator.{Designator as DesignatorTree}
use Rattle.c_check_primary.specs.declared.callee.Designator.TheVariants as r
use Rattle.c_rules.specs.PostfixExpressions.{Callee, Designator, direct, through}

abbrev pub designator_of : DesignatorTree → Designator
designator_of (r.Direct f) = direct f
designator_of (r.Through e) = through (expr_of e)

abbrev pub callee_of : CalleeTree → Callee
callee_of c = record { designator = designator_of c.designator; returns = ctype_of c.returns; parameters = types_of c.parameters.items }
