-- For private contracts and proofs alone: what the readers of lists of initialisers answer.
use Rattle.std.specs.Prelude.{◌≡◌, ◌≤◌, ◌⊎◌, ℕ, Bool, true, false, List, ◌∷◌, Result, Ok, Err, Vec}
use Rattle.std.specs.Global.{Global}
use Rattle.c_lexer.specs.declared.token.Token.{Token}
use Rattle.c_lexer.specs.declared.punctuator.TheConstants.{COMMA, LEFT_BRACE, RIGHT_BRACE}
use Rattle.c_syntax.specs.declared.tree.Init.{Init as InitTree}
use Rattle.c_syntax.specs.Tree.{Inits, list}
use Rattle.c_syntax.specs.Tokens.{Is}
use Rattle.c_syntax.specs.Statements.{ReadsInit}
use Rattle.c_syntax.specs.Limits.{height_of_inits}
use Rattle.c_syntax.specs.WritesUnit.{inits_of}
use Rattle.c_parser_phrases.specs.declared.error.PhraseError.{PhraseError}
use Rattle.c_parser_phrases.specs.declared.error.PhraseError.TheVariants.{Syntax, Nesting}
use Rattle.c_parser_phrases.specs.declared.room.Room.{Room}
use Rattle.c_syntax_printing.specs.Initialisers.{InList}
use Rattle.c_parser_phrases.specs.Standing.{IsAt}
use Rattle.c_parser_phrases.specs.Reading.{Refused, Lacks, OpensInits}

-- the list stands after the brace t, with the brace at its end
pub record HasList (room : Room) (is : Inits) (t : Token) (i j : List Token) : Type 0 where
  pub reads : ReadsInit room.pairs (list t.from is) (t ∷ i) j
  pub nested : height_of_inits is ≤ room.nodes

abbrev pub ListsInits : Room → Result (Vec InitTree Global) PhraseError → List Token → List Token → Type 0
ListsInits room (Ok v) i j = (t : Token) → Is LEFT_BRACE t → HasList room (inits_of v.items) t i j
ListsInits room (Err e) i j = Refused (Lacks InList) OpensInits room e i j

-- neither a comma nor a brace stands there
pub record IsUnclosed (e : PhraseError) (i j : List Token) : Type 0 where
  pub wrong : e ≡ Syntax → (IsAt COMMA i → ⊥) × (IsAt RIGHT_BRACE i → ⊥) × (j ≡ i)
  pub deep : (at : ℕ) → e ≡ Nesting at → ⊥

-- a comma was taken, or the brace at the end of a list, perhaps with a comma before it
abbrev pub GoesOn : Result Bool PhraseError → List Token → List Token → Type 0
GoesOn (Ok true) i j = (c : Token) × Is COMMA c × (i ≡ c ∷ j) × (IsAt RIGHT_BRACE j → ⊥)
GoesOn (Ok false) i j = (u : Token) × Is RIGHT_BRACE u × ((i ≡ u ∷ j) ⊎ ((c : Token) × Is COMMA c × (i ≡ c ∷ u ∷ j)))
GoesOn (Err e) i j = IsUnclosed e i j
