-- For private contracts and proofs alone: the errors of the lexer, the parser and the checker as errors of a text.
use Rattle.c_check.specs.CheckError.{CheckError}
use Rattle.c_check.specs.CheckError.TheVariants as checks
use Rattle.c_lexer.specs.declared.error.LexError.{LexError}
use Rattle.c_lexer.specs.declared.error.LexError.TheVariants as lexes
use Rattle.c_parser.specs.declared.error.ParseError.{ParseError}
use Rattle.c_parser.specs.declared.error.ParseError.TheVariants as parses
use Rattle.tool_steps.specs.declared.error.SourceError.{SourceError}
use Rattle.tool_steps.specs.declared.error.SourceError.TheVariants.{OutOfMemory, Lexical, Syntax, Nesting, Rule}

abbrev pub of_lexer : LexError → SourceError
of_lexer lexes.OutOfMemory = OutOfMemory
of_lexer (lexes.At code place) = Lexical code place

abbrev pub of_parser : ParseError → SourceError
of_parser parses.OutOfMemory = OutOfMemory
of_parser (parses.Syntax place) = Syntax place
of_parser (parses.Nesting place) = Nesting place

abbrev pub of_checker : CheckError → SourceError
of_checker checks.OutOfMemory = OutOfMemory
of_checker (checks.At code place) = Rule code place
