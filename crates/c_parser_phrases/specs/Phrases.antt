-- What is read of a phrase: it stands between what was left before and what is left now, it is within the room, and what is
-- left doesn't go on with it.
use Rattle.std.specs.Prelude.{◌≤◌, ◌<◌, List, length, Result, Ok, Err}
use Rattle.c_lexer.specs.declared.token.Token.{Token}
use Rattle.c_syntax.specs.declared.tree.Ident.{Ident as IdentTree}
use Rattle.c_syntax.specs.declared.tree.Spec.{Spec as SpecTree}
use Rattle.c_syntax.specs.declared.tree.Expr.{Expr as ExprTree}
use Rattle.c_syntax.specs.declared.tree.Declarator.{Declarator as DeclaratorTree}
use Rattle.c_syntax.specs.declared.tree.Init.{Init as InitTree}
use Rattle.c_syntax.specs.Tree.{Spec, Expr, Declarator, Init}
use Rattle.c_syntax.specs.Specifiers.{ReadsSpec}
use Rattle.c_syntax.specs.Grammar.{Level, assignment_level, Reads, Declares, HasName}
use Rattle.c_syntax.specs.Statements.{ReadsInit}
use Rattle.c_syntax.specs.Limits.{height, height_of_declarator, height_of_init}
use Rattle.c_syntax.specs.View.{spec_of, expr_of, declarator_of}
use Rattle.c_syntax.specs.UnitView.{init_of}
use Rattle.c_syntax_printing.specs.Ranks.{Stops}
use Rattle.c_syntax_printing.specs.Starts.{EndsSpec, EndsDeclarator}
use Rattle.c_parser_phrases.specs.declared.room.Room.{Room}
use Rattle.c_parser_phrases.specs.declared.error.PhraseError.{PhraseError}
use Rattle.c_parser_phrases.specs.declared.error.PhraseError.TheVariants.{OutOfMemory, Syntax, Nesting}
use Rattle.c_parser_phrases.specs.Standing.{TookName}

-- an expression of the level
pub record HasRead (room : Room) (l : Level) (e : Expr) (i j : List Token) : Type 0 where
  pub reads : Reads room.pairs l e i j
  pub nested : height e ≤ room.nodes
  pub stops : Stops l j
  pub shorter : length j < length i

-- specifiers
pub record HasSpec (s : Spec) (i j : List Token) : Type 0 where
  pub reads : ReadsSpec s i j
  pub ends : EndsSpec j
  pub shorter : length j < length i

-- a declarator with a name
pub record HasDeclarator (room : Room) (e : Declarator) (i j : List Token) : Type 0 where
  pub reads : Declares room.pairs e i j
  pub nested : height_of_declarator e ≤ room.nodes
  pub named : HasName e
  pub ends : EndsDeclarator j
  pub shorter : length j < length i

-- an initialiser
pub record HasInit (room : Room) (v : Init) (i j : List Token) : Type 0 where
  pub reads : ReadsInit room.pairs v i j
  pub nested : height_of_init v ≤ room.nodes
  pub stops : Stops assignment_level j
  pub shorter : length j < length i

-- what a reader of expressions of the level answers
abbrev pub Parses : Room → Level → Result ExprTree PhraseError → List Token → List Token → Type 0
Parses room l (Ok e) i j = HasRead room l (expr_of e) i j
Parses room l (Err OutOfMemory) i j = Unit {0}
Parses room l (Err Syntax) i j = Unit {0}
Parses room l (Err (Nesting at)) i j = Unit {0}

abbrev pub ParsesSpec : Result SpecTree PhraseError → List Token → List Token → Type 0
ParsesSpec (Ok s) i j = HasSpec (spec_of s) i j
ParsesSpec (Err OutOfMemory) i j = Unit {0}
ParsesSpec (Err Syntax) i j = Unit {0}
ParsesSpec (Err (Nesting at)) i j = Unit {0}

abbrev pub ParsesDeclarator : Room → Result DeclaratorTree PhraseError → List Token → List Token → Type 0
ParsesDeclarator room (Ok e) i j = HasDeclarator room (declarator_of e) i j
ParsesDeclarator room (Err OutOfMemory) i j = Unit {0}
ParsesDeclarator room (Err Syntax) i j = Unit {0}
ParsesDeclarator room (Err (Nesting at)) i j = Unit {0}

abbrev pub ParsesInit : Room → Result InitTree PhraseError → List Token → List Token → Type 0
ParsesInit room (Ok v) i j = HasInit room (init_of v) i j
ParsesInit room (Err OutOfMemory) i j = Unit {0}
ParsesInit room (Err Syntax) i j = Unit {0}
ParsesInit room (Err (Nesting at)) i j = Unit {0}

abbrev pub ParsesName : Result IdentTree PhraseError → List Token → List Token → Type 0
ParsesName (Ok x) i j = TookName x i j
ParsesName (Err OutOfMemory) i j = Unit {0}
ParsesName (Err Syntax) i j = Unit {0}
ParsesName (Err (Nesting at)) i j = Unit {0}
