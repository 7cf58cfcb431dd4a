use Rattle.c_syntax_printing.proofs.MorePairs.{wide, wide_declarator}
use Rattle.c_syntax_printing.proofs.MorePairsOfUnits.{wide_unit}
use Rattle.c_syntax_printing.proofs.grammar_laws.more_pairs_read_as_much.Goals as goal

pub returns-clause-expressions : goal.returns-clause-expressions
returns-clause-expressions c = λ d x l e i j w r. wide r w

pub returns-clause-declarators : goal.returns-clause-declarators
returns-clause-declarators c = λ d x e i j w r. wide_declarator r w

pub returns-clause-units : goal.returns-clause-units
returns-clause-units c = λ d x u i j w r. wide_unit r w
