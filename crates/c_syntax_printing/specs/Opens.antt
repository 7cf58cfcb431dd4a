-- Where tokens go on past the limits: with a node or a pair of parentheses too many at the place.
use Rattle.std.specs.Prelude.{◌⊎◌, suc, List, ◌≡◌, ℕ, [], ◌++◌}
use Rattle.c_lexer.specs.declared.token.Token.{Token}
use Rattle.c_syntax.specs.Tree.{Expr, Exprs, TypeName, Declarator, Init, Inits, Decl, Stmt, BlockItems, Items, pointer, array, function, Maybe, Params, Parts, Item}
use Rattle.c_syntax.specs.Grammar.{Level, Reads, ReadsList, ReadsType, Declares, Suffixes, ReadsCore, Lengthens, ReadsEach}
use Rattle.c_syntax.specs.Statements.{ReadsInit, ReadsInits, ReadsDecl, IsPlainDecl, ReadsStmt, ReadsBlockItems, ReadsItems, ReadsParts, ReadsItem}
use Rattle.c_syntax_printing.specs.Twins.{Twin}
use Rattle.c_syntax_printing.specs.Fails.{Meets}
use Rattle.c_syntax_printing.specs.Nodes.{InExpr, InExprs, InType, InDeclarator, InInit, InInits, InDecl, InStmt, InBlockItems, InUnit, InParams, InParts, InItem}
use Rattle.c_syntax_printing.specs.Pairs.{PairIn, PairInList, PairInType, PairInDeclarator, PairInInit, PairInInits, PairInDecl, PairInStmt, PairInBlockItems, PairInUnit, PairInSuffixes, PairInLengthens, PairInEach, PairInParts, PairInItem}
use Rattle.c_syntax.specs.Tokens.{place}

-- Some tokens that begin with those of i through the first one of r are the phrase, with the tokens m behind it.
pub record Opening (A : List Token → List Token → Type 0) (i r m : List Token) : Type 0 where
  pub other : List Token
  pub meets : Meets r other
  pub tokens : List Token
  pub twin : Twin r other i tokens
  pub reads : A tokens m

-- the same, whatever is to follow
pub record Opens (A : List Token → List Token → Type 0) (i r : List Token) : Type 0 where
  pub before : (m : List Token) → Opening A i r m

-- A phrase with a node at the place that is one too deep where n are allowed in each other, or with a pair that opens at the place
-- inside p others. No token stands in more than p + 1 pairs.

pub record DeepExpr (at p n : ℕ) (l : Level) (i j : List Token) : Type 0 where
  pub tree : Expr
  pub reads : Reads (suc p) l tree i j
  pub deep : InExpr at (suc n) tree ⊎ PairIn at reads p

pub record DeepExprs (at p n : ℕ) (i j : List Token) : Type 0 where
  pub trees : Exprs
  pub reads : ReadsList (suc p) trees i j
  pub deep : InExprs at (suc n) trees ⊎ PairInList at reads p

pub record DeepType (at p n : ℕ) (i j : List Token) : Type 0 where
  pub tree : TypeName
  pub reads : ReadsType (suc p) tree i j
  pub deep : InType at (suc n) tree ⊎ PairInType at reads p

pub record DeepDeclarator (N : Declarator → Type 0) (at p n : ℕ) (i j : List Token) : Type 0 where
  pub tree : Declarator
  pub reads : Declares (suc p) tree i j
  pub suits : N tree
  pub deep : InDeclarator at (suc n) tree ⊎ PairInDeclarator at reads p

pub record DeepInit (at p n : ℕ) (i j : List Token) : Type 0 where
  pub tree : Init
  pub reads : ReadsInit (suc p) tree i j
  pub deep : InInit at (suc n) tree ⊎ PairInInit at reads p

pub record DeepInits (at p n : ℕ) (i j : List Token) : Type 0 where
  pub trees : Inits
  pub reads : ReadsInits (suc p) trees i j
  pub deep : InInits at (suc n) trees ⊎ PairInInits at reads p

pub record DeepDecl (at p n : ℕ) (i j : List Token) : Type 0 where
  pub tree : Decl
  pub reads : ReadsDecl (suc p) tree i j
  pub plain : IsPlainDecl tree
  pub deep : InDecl at (suc n) tree ⊎ PairInDecl at reads p

pub record DeepStmt (at p n : ℕ) (i j : List Token) : Type 0 where
  pub tree : Stmt
  pub reads : ReadsStmt (suc p) tree i j
  pub deep : InStmt at (suc n) tree ⊎ PairInStmt at reads p

pub record DeepBlock (at p n : ℕ) (i j : List Token) : Type 0 where
  pub trees : BlockItems
  pub reads : ReadsBlockItems (suc p) trees i j
  pub deep : InBlockItems at (suc n) trees ⊎ PairInBlockItems at reads p

pub record DeepUnit (at p n : ℕ) (i j : List Token) : Type 0 where
  pub tree : Items
  pub reads : ReadsItems (suc p) tree i j
  pub deep : InUnit at (suc n) tree ⊎ PairInUnit at reads p

-- some tokens are the phrase, before any others
pub record Filled (A : List Token → List Token → Type 0) (m : List Token) : Type 0 where
  pub tokens : List Token
  pub reads : A tokens m

-- suffixes of an operand that is there, with a node or a pair too many
pub record DeepSuffixes (at p n q : ℕ) (a : Expr) (i j : List Token) : Type 0 where
  pub tree : Expr
  pub reads : Suffixes (suc p) q a tree i j
  pub deep : InExpr at (suc n) tree ⊎ PairInSuffixes at reads p

-- what a property of declarators is to be kept by
pub record Builds (N : Declarator → Type 0) : Type 0 where
  pub pointers : (at : ℕ) (e : Declarator) → N e → N (pointer at e)
  pub arrays : (at : ℕ) (e : Declarator) (size : Maybe) → N e → N (array at e size)
  pub functions : (at : ℕ) (e : Declarator) (ps : Params) → N e → N (function at e ps)

-- some declarator with the property can be written
pub record Writes (N : Declarator → Type 0) : Type 0 where
  pub declarator : Declarator
  pub suits : N declarator
  pub filled : (d : ℕ) (m : List Token) → Filled (Declares d declarator) m

pub record DeepLengthens (N : Declarator → Type 0) (at p n q : ℕ) (a : Declarator) (i j : List Token) : Type 0 where
  pub tree : Declarator
  pub reads : Lengthens (suc p) q a tree i j
  pub suits : N a → N tree
  pub deep : InDeclarator at (suc n) tree ⊎ PairInLengthens at reads p

-- a name, a declarator in parentheses or nothing, with what was read of it so far
pub record Direct (d q : ℕ) (e : Declarator) (i j : List Token) : Type 0 where
  pub core : Declarator
  pub after : List Token
  pub begins : q ≡ place i
  pub stands : ReadsCore d core i after
  pub lengthens : Lengthens d q core e after j

pub record DeepEach (at p n : ℕ) (i j : List Token) : Type 0 where
  pub trees : Params
  pub reads : ReadsEach (suc p) trees i j
  pub deep : InParams at (suc n) trees ⊎ PairInEach at reads p

pub record DeepParts (at p n : ℕ) (i j : List Token) : Type 0 where
  pub trees : Parts
  pub reads : ReadsParts (suc p) trees i j
  pub deep : InParts at (suc n) trees ⊎ PairInParts at reads p

pub record DeepItem (at p n : ℕ) (i j : List Token) : Type 0 where
  pub tree : Item
  pub reads : ReadsItem (suc p) tree i j
  pub deep : InItem at (suc n) tree ⊎ PairInItem at reads p

-- Some unit past the limits is spelled by tokens that begin with those before r and the first one of r: at the place it has a node
-- one too deep where n are allowed in each other, or a pair that makes no node and opens inside p others.
pub record GoesOn (at p n : ℕ) (front r : List Token) : Type 0 where
  pub other : List Token
  pub meets : Meets r other
  pub tree : Items
  pub reads : ReadsItems (suc p) tree (front ++ other) []
  pub deep : InUnit at (suc n) tree ⊎ PairInUnit at reads p
