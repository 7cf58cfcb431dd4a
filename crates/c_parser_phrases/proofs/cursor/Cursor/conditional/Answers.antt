use Rattle.c_parser_phrases.proofs.Made.{expression_has}
use Rattle.std.proofs.lemmas.Result.{err_from_is_err_and}
use Rattle.c_syntax.specs.Grammar.{conditional_level}
use Rattle.c_syntax_printing.specs.Phrases.{AnExpr}
use Rattle.c_parser_phrases.proofs.Raising.{told, told_deep}
use Rattle.c_syntax_printing.specs.Opens.{DeepExpr}
use Rattle.c_parser_phrases.proofs.cursor.Cursor.conditional.Goals as goal

pub returns-clause-parses : goal.returns-clause-parses
returns-clause-parses c = expression_has c.in_ok-whole.whole c.into_inner.result c.in_ok-whole.ensures.parses c.in_ok-whole.ensures.shorter c.in_ok-whole.ensures.fits c.into_inner.ensures

pub returns-in_err-whole-clause-stops : goal.returns-in_err-whole-clause-stops
returns-in_err-whole-clause-stops c = let w = err_from_is_err_and c.from_residual.result c.from_residual.ensures.1 in rw (w.1, w.2) (told {A = λ b. AnExpr b conditional_level} _ c.in_err-whole.ensures.parses)

pub returns-in_err-whole-clause-nests : goal.returns-in_err-whole-clause-nests
returns-in_err-whole-clause-nests c = let w = err_from_is_err_and c.from_residual.result c.from_residual.ensures.1 in rw (w.1, w.2) (told_deep {A = λ b. AnExpr b conditional_level} {D = λ at p n. DeepExpr at p n conditional_level} _ c.in_err-whole.ensures.parses)
