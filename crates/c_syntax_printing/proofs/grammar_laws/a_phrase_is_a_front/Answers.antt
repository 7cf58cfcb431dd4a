use Rattle.c_syntax_printing.proofs.FrontLemmas.{front_of_all, front_of_each}
use Rattle.c_syntax_printing.proofs.FrameSpecifiers.{spec_on}
use Rattle.c_syntax_printing.proofs.FrameGrammar.{reads_on, declares_on}
use Rattle.c_syntax_printing.proofs.FrameStatements.{decl_on, stmt_on, item_on}
use Rattle.c_syntax_printing.proofs.grammar_laws.a_phrase_is_a_front.Goals as goal

pub returns-clause-specifiers : goal.returns-clause-specifiers
returns-clause-specifiers c = λ s i j r. front_of_each (spec_on r)

pub returns-clause-expressions : goal.returns-clause-expressions
returns-clause-expressions c = λ d l e i j r. front_of_each (reads_on r)

pub returns-clause-declarators : goal.returns-clause-declarators
returns-clause-declarators c = λ d e i j r. front_of_all (declares_on r)

pub returns-clause-declarations : goal.returns-clause-declarations
returns-clause-declarations c = λ d x i j r. front_of_each (decl_on r)

pub returns-clause-statements : goal.returns-clause-statements
returns-clause-statements c = λ d s i j r. front_of_all (stmt_on r)

pub returns-clause-items : goal.returns-clause-items
returns-clause-items c = λ d a i j r. front_of_all (item_on r)
