-- The laws on what is fine, from what holds of it.
use Rattle.c_syntax.specs.Limits.{most_pairs}
use Rattle.c_rules.specs.Counts.{calls, strings}
use Rattle.c_rules.specs.Expressions.{value}
use Rattle.c_rules.specs.Variables.{names_of_stmt, calls_of_stmt}
use Rattle.c_rules.specs.Blocks.{held_by_stmt}
use Rattle.c_rules.specs.Statements.{stmt}
use Rattle.c_rules_laws.specs.WellTyped.{ExpressionsAreWellTyped, StatementsAreWellTyped, ExpressionsHaveSites, StatementsHaveSites, SpelledUnitsAreLexical}
use Rattle.c_rules_laws.proofs.Holding.{held}
use Rattle.c_rules_laws.proofs.RightExpressions.{ValueBoth, value_right}
use Rattle.c_rules_laws.proofs.SitesOfExpressions.{Counted, value_counted}
use Rattle.c_rules_laws.proofs.SitesOfStatements.{StmtSpan, stmt_span}
use Rattle.c_rules_laws.proofs.RightStatements.{StmtRight, stmt_right}
use Rattle.c_rules_laws.proofs.LexicalUnits.{unit_lexical}

pub expressions_well_typed : ExpressionsAreWellTyped
expressions_well_typed p vars env w b x l s g e = (let h : ValueBoth p vars env g = held (ValueBoth p vars env) (value env b x) g (value_right p vars x env w l b s) e in record { type = h.1.0; value = h.1.1; result = h.1.2 })

pub statements_well_typed : StatementsAreWellTyped
statements_well_typed p vars env w a b next s l t q e f g = (let h : StmtRight p vars env a next (names_of_stmt s) q = held (StmtRight p vars env a next (names_of_stmt s)) (stmt env a b next s) q (stmt_right p vars s env a b next l t) e in (h.right w (f, g)).0)

pub expressions_sites : ExpressionsHaveSites
expressions_sites env c b x g e = (let h : Counted 30000 b (calls x) (strings x) g = held (Counted 30000 b (calls x) (strings x)) (value env b x) g (value_counted x env c b) e in h.0.0)

pub statements_sites : StatementsHaveSites
statements_sites env c a b next s q e = (let h : StmtSpan b (calls_of_stmt s) (held_by_stmt env next s) q = held (StmtSpan b (calls_of_stmt s) (held_by_stmt env next s)) (stmt env a b next s) q (stmt_span s env c a b next) e in h.0)

pub spelled_lexical : SpelledUnitsAreLexical
spelled_lexical text m tokens u h k = unit_lexical text m tokens most_pairs u h k.reads
