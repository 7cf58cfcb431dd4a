-- For private contracts and proofs alone: phrases that are read in parts, and how an error of nesting takes the place of another.
use Rattle.std.specs.Prelude.{◌≡◌, ℕ, List, [], ◌∷◌}
use Rattle.c_lexer.specs.declared.token.Token.{Token}
use Rattle.c_lexer.specs.declared.punctuator.TheConstants.{LEFT_PARENTHESIS, RIGHT_PARENTHESIS, SEMICOLON}
use Rattle.c_syntax.specs.Grammar.{expression_level}
use Rattle.c_parser_phrases.specs.declared.error.PhraseError.{PhraseError}
use Rattle.c_parser_phrases.specs.declared.error.PhraseError.TheVariants.{OutOfMemory, Syntax, Nesting}
use Rattle.c_syntax_printing.specs.Fails.{Then}
use Rattle.c_syntax_printing.specs.Phrases.{Bound, AnExpr, AFirst, MaybeExpr, Punctuator, ASpec, ADeclarator}
use Rattle.c_syntax_printing.specs.Items.{OtherRest}
use Rattle.c_parser.specs.Refused.{end_of}

-- an error is left as it is, or becomes one of nesting
abbrev pub KeepsOrNests : PhraseError → PhraseError → Type 0
KeepsOrNests e OutOfMemory = e ≡ OutOfMemory
KeepsOrNests e Syntax = e ≡ Syntax
KeepsOrNests e (Nesting at) = Unit {0}

-- an expression in parentheses
abbrev pub ACondition : Bound → List Token → List Token → Type 0
ACondition b = Then (Punctuator LEFT_PARENTHESIS) (Then (AnExpr b expression_level) (Punctuator RIGHT_PARENTHESIS))

-- an expression or nothing, and then the punctuator
abbrev pub ABefore : ℕ → Bound → List Token → List Token → Type 0
ABefore end b = Then (MaybeExpr b) (Punctuator end)

-- what stands in the parentheses after for, with them
abbrev pub AHead : Bound → List Token → List Token → Type 0
AHead b = Then (Punctuator LEFT_PARENTHESIS) (Then (AFirst b) (Then (MaybeExpr b) (Then (Punctuator SEMICOLON) (ABefore RIGHT_PARENTHESIS b))))

-- a declaration or a function, from its specifiers on
abbrev pub AfterStorage : Bound → List Token → List Token → Type 0
AfterStorage b = Then ASpec (Then (ADeclarator b) (OtherRest b))

-- the place of the first token that is left, or the end of the last of all
abbrev pub place_left : List Token → List Token → ℕ
place_left tokens [] = end_of 0 tokens
place_left tokens (token ∷ rest) = token.from
