-- For private contracts and proofs alone: what the constructors of statements answer.
use Rattle.std.specs.Prelude.{◌≡◌, List, [], ◌∷◌, ◌++◌, Result, Ok, Err, Box}
use Rattle.std.specs.Global.{Global}
use Rattle.c_syntax.specs.declared.tree.Stmt.{Stmt as StmtTree}
use Rattle.c_syntax.specs.Tree.{Stmt}
use Rattle.c_syntax.specs.UnitView.{stmt_of}
use Rattle.c_parser_phrases.specs.declared.error.PhraseError.{PhraseError}
use Rattle.c_parser_phrases.specs.declared.error.PhraseError.TheVariants.{OutOfMemory, Syntax, Nesting}

-- the statement in a box, or want of memory
abbrev pub Makes : Result (Box StmtTree Global) PhraseError → Stmt → Type 0
Makes (Ok b) s = stmt_of b.value ≡ s
Makes (Err OutOfMemory) s = Unit {0}
Makes (Err Syntax) s = ⊥
Makes (Err (Nesting at)) s = ⊥

-- the item stands behind those that stood in the list, or there was no memory
abbrev pub Adds : {X : Type 0} → Result (Unit {0}) PhraseError → List X → List X → X → Type 0
Adds (Ok u) old new x = new ≡ old ++ x ∷ []
Adds (Err OutOfMemory) old new x = Unit {0}
Adds (Err Syntax) old new x = ⊥
Adds (Err (Nesting at)) old new x = ⊥
