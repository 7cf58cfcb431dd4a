-- The calls of an expression that is fine are within the limit.
use Rattle.std.proofs.Common.{ℕ, arith}
use Rattle.c_rules.specs.Limits.{most_calls}
use Rattle.c_rules.specs.Counts.{calls, strings}
use Rattle.c_rules.specs.Expressions.{tree}
use Rattle.c_rules_laws.proofs.Holding.{held}
use Rattle.c_rules_laws.proofs.SitesOfExpressions.{Counted, tree_counted}
use Rattle.null_calls_laws.specs.MostCalls.{CallsAreWithin}

pub calls_are_within : CallsAreWithin
calls_are_within env b x g runs e l =
    let most : ℕ = most_calls env.whole.mode in
    let h : Counted most b (calls x) (strings x) g = held (Counted most b (calls x) (strings x)) (tree env b x) g (tree_counted most x env (runs, omega arith) b) e in
    h.1.sites_fit l
