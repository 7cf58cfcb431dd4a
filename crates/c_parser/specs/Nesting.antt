-- For private contracts and proofs alone: where tokens go on past the limits of nesting in a part of a statement, so that they do in
-- the statement.
use Rattle.std.specs.Prelude.{◌≡◌, ◌<◌, ℕ, suc, List, ◌∷◌, length, Result, Ok, Err}
use Rattle.c_lexer.specs.declared.token.Token.{Token}
use Rattle.c_lexer.specs.declared.punctuator.TheConstants.{ASSIGN, LEFT_PARENTHESIS}
use Rattle.c_lexer.specs.declared.keyword.TheConstants.{FOR}
use Rattle.c_syntax.specs.Tokens.{Is, IsKeyword}
use Rattle.c_syntax.specs.Tree.{Declarator}
use Rattle.c_syntax.specs.Grammar.{Level, expression_level, conditional_level}
use Rattle.c_parser_phrases.specs.declared.room.Room.{Room}
use Rattle.c_parser_phrases.specs.declared.error.PhraseError.{PhraseError}
use Rattle.c_parser_phrases.specs.declared.error.PhraseError.TheVariants.{OutOfMemory, Syntax, Nesting}
use Rattle.c_parser_phrases.specs.Phrases.{HasDeclarator}
use Rattle.c_parser_phrases.specs.Refusing.{bound_of}
use Rattle.c_syntax_printing.specs.Fails.{Fails}
use Rattle.c_syntax_printing.specs.Phrases.{Bound}
use Rattle.c_syntax_printing.specs.Opens.{Opens, DeepExpr, DeepInit, DeepParts, DeepStmt, DeepBlock}

-- in the phrase itself
abbrev pub OpensAs : (ℕ → ℕ → ℕ → List Token → List Token → Type 0) → (at p n : ℕ) → List Token → List Token → Type 0
OpensAs D at p n i q = Opens (D at p n) i q

abbrev pub OpensExpr : Level → (at p n : ℕ) → List Token → List Token → Type 0
OpensExpr l at p n i q = Opens (DeepExpr at p n l) i q

-- behind the brace of a block
abbrev pub OpensInBlock : (at p n : ℕ) → List Token → List Token → Type 0
OpensInBlock at p n i q = (m : ℕ) → n ≡ suc m → Opens (DeepBlock at p m) i q

-- behind the first declarator of a declaration
abbrev pub OpensParts : Room → Declarator → (at p n : ℕ) → List Token → List Token → Type 0
OpensParts room first at p n i q = (start : List Token) → HasDeclarator room first start i → Opens (DeepParts at p n) start q

-- in an initialiser behind its sign
pub record OpensInitialiser (at p n : ℕ) (i q : List Token) : Type 0 where
  pub token : Token
  pub rest : List Token
  pub stood : i ≡ token ∷ rest
  pub assigns : Is ASSIGN token
  pub deep : Opens (DeepInit at p n) rest q

-- in the value of an enumerator behind its sign
pub record OpensValue (at p n : ℕ) (i q : List Token) : Type 0 where
  pub token : Token
  pub rest : List Token
  pub stood : i ≡ token ∷ rest
  pub assigns : Is ASSIGN token
  pub deep : Opens (DeepExpr at p n conditional_level) rest q

-- behind the keyword of a statement
abbrev pub OpensAfter : (word at p n : ℕ) → List Token → List Token → Type 0
OpensAfter word at p n i q = (t : Token) → IsKeyword word t → Opens (DeepStmt at p (suc n)) (t ∷ i) q

-- in an expression in parentheses
pub record OpensInside (at p n : ℕ) (i q : List Token) : Type 0 where
  pub left : Token
  pub inside : List Token
  pub stood : i ≡ left ∷ inside
  pub opens : Is LEFT_PARENTHESIS left
  pub deep : Opens (DeepExpr at p n expression_level) inside q

-- in what stands first in the head of a for
abbrev pub OpensInHead : (at p n : ℕ) → List Token → List Token → Type 0
OpensInHead at p n i q = (t o : Token) → IsKeyword FOR t → Is LEFT_PARENTHESIS o → Opens (DeepStmt at p (suc n)) (t ∷ o ∷ i) q

-- Within the limits the phrase fails at some token, and past them tokens go on through it: O says how.
pub record PastAt (A : Bound → List Token → List Token → Type 0) (O : ℕ → ℕ → ℕ → List Token → List Token → Type 0) (room : Room) (at : ℕ) (i : List Token) : Type 0 where
  pub token : List Token
  pub fails : Fails (A (bound_of room)) i token
  pub deep : O at room.pairs room.nodes i token
  pub some : 0 < length token

abbrev pub RefusesPast : (Bound → List Token → List Token → Type 0) → (ℕ → ℕ → ℕ → List Token → List Token → Type 0) → Room → PhraseError → List Token → Type 0
RefusesPast A O room OutOfMemory i = Unit {0}
RefusesPast A O room Syntax i = Unit {0}
RefusesPast A O room (Nesting at) i = PastAt A O room at i

-- what a reader of a part answers
abbrev pub Passes : {T : Type 0} → (Bound → List Token → List Token → Type 0) → (ℕ → ℕ → ℕ → List Token → List Token → Type 0) → Room → Result T PhraseError → List Token → Type 0
Passes A O room (Ok x) i = Unit {0}
Passes A O room (Err e) i = RefusesPast A O room e i
