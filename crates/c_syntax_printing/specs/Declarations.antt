-- Parts of declarations as relations between lists of tokens, within a bound.
use Rattle.std.specs.Prelude.{ℕ, max, List, ◌∷◌}
use Rattle.c_lexer.specs.declared.token.Token.{Token}
use Rattle.c_lexer.specs.declared.punctuator.TheConstants.{COMMA, SEMICOLON}
use Rattle.c_syntax.specs.Tree.{MaybeInit, Parts}
use Rattle.c_syntax.specs.Tokens.{Is}
use Rattle.c_syntax.specs.Statements.{ReadsMaybeInit, ReadsParts}
use Rattle.c_syntax.specs.Limits.{height_of_maybe_init, height_of_parts}
use Rattle.c_syntax_printing.specs.Fails.{Then, Or}
use Rattle.c_syntax_printing.specs.Phrases.{Bound, Fits, ADeclarator, Punctuator}

-- what stands after a declarator, through the semicolon of the declaration
pub data PartsTail (b : Bound) : List Token → List Token → Type 0 where
  last_stands : {d : ℕ} {v : MaybeInit} {t : Token} {i j : List Token} → ReadsMaybeInit d v i (t ∷ j) → Is SEMICOLON t → Fits b d (height_of_maybe_init v) → PartsTail b i j
  more_stand : {d : ℕ} {v : MaybeInit} {ps : Parts} {t u : Token} {i j k : List Token} → ReadsMaybeInit d v i (t ∷ j) → Is COMMA t → ReadsParts d ps j (u ∷ k) → Is SEMICOLON u → Fits b d (max (height_of_maybe_init v) (height_of_parts ps)) → PartsTail b i k

-- one or more declarators with their initialisers, and the semicolon
abbrev pub SomeParts : Bound → List Token → List Token → Type 0
SomeParts b = Then (ADeclarator b) (PartsTail b)

-- what stands after a declarator and its initialiser
abbrev pub PartsEnd : Bound → List Token → List Token → Type 0
PartsEnd b = Or (Punctuator SEMICOLON) (Then (Punctuator COMMA) (SomeParts b))
