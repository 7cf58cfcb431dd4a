-- Parts of initialisers as relations between lists of tokens, within a bound.
use Rattle.std.specs.Prelude.{List, ◌∷◌, ℕ}
use Rattle.c_lexer.specs.declared.token.Token.{Token}
use Rattle.c_lexer.specs.declared.punctuator.TheConstants.{RIGHT_BRACE, COMMA}
use Rattle.c_syntax.specs.Tree.{Inits}
use Rattle.c_syntax.specs.Tokens.{Is}
use Rattle.c_syntax.specs.Statements.{ReadsInits}
use Rattle.c_syntax.specs.Limits.{height_of_inits}
use Rattle.c_syntax_printing.specs.Fails.{Then, Or}
use Rattle.c_syntax_printing.specs.Phrases.{Bound, Fits, Punctuator}

-- initialisers, perhaps a comma, and the brace after them
pub data InList (b : Bound) : List Token → List Token → Type 0 where
  brace_ends : {d : ℕ} {is : Inits} {u : Token} {i j : List Token} → ReadsInits d is i (u ∷ j) → Is RIGHT_BRACE u → Fits b d (height_of_inits is) → InList b i j
  comma_ends : {d : ℕ} {is : Inits} {c u : Token} {i j : List Token} → ReadsInits d is i (c ∷ u ∷ j) → Is COMMA c → Is RIGHT_BRACE u → Fits b d (height_of_inits is) → InList b i j

-- what stands after an initialiser of a list
abbrev pub ListEnd : Bound → List Token → List Token → Type 0
ListEnd b = Or (Punctuator RIGHT_BRACE) (Then (Punctuator COMMA) (Or (Punctuator RIGHT_BRACE) (InList b)))
