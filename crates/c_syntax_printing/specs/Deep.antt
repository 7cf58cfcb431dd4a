-- Labels, statements and groups of a switch, declarators, members and enumerators with a node
-- at the place that is one too deep where n are allowed in each other, or with a pair that opens at the place inside p others.
use Rattle.std.specs.Prelude.{◌⊎◌, ℕ, suc, List}
use Rattle.c_lexer.specs.declared.token.Token.{Token}
use Rattle.c_syntax.specs.Tree.{Labels, Stmts, Groups, Declarators, Members, Enumerators}
use Rattle.c_syntax.specs.Statements.{ReadsLabels, ReadsStmts, ReadsGroups, ReadsDeclarators, ReadsMembers, ReadsEnumerators}
use Rattle.c_syntax_printing.specs.Nodes.{InLabels, InStmts, InGroups, InDeclarators, InMembers, InEnumerators}
use Rattle.c_syntax_printing.specs.Pairs.{PairInLabels, PairInStmts, PairInGroups, PairInDeclarators, PairInMembers, PairInEnumerators}

pub record DeepLabels (at p n : ℕ) (i j : List Token) : Type 0 where
  pub trees : Labels
  pub reads : ReadsLabels (suc p) trees i j
  pub deep : InLabels at (suc n) trees ⊎ PairInLabels at reads p

pub record DeepStmts (at p n : ℕ) (i j : List Token) : Type 0 where
  pub trees : Stmts
  pub reads : ReadsStmts (suc p) trees i j
  pub deep : InStmts at (suc n) trees ⊎ PairInStmts at reads p

pub record DeepGroups (at p n : ℕ) (i j : List Token) : Type 0 where
  pub trees : Groups
  pub reads : ReadsGroups (suc p) trees i j
  pub deep : InGroups at (suc n) trees ⊎ PairInGroups at reads p

pub record DeepDeclarators (at p n : ℕ) (i j : List Token) : Type 0 where
  pub trees : Declarators
  pub reads : ReadsDeclarators (suc p) trees i j
  pub deep : InDeclarators at (suc n) trees ⊎ PairInDeclarators at reads p

pub record DeepMembers (at p n : ℕ) (i j : List Token) : Type 0 where
  pub trees : Members
  pub reads : ReadsMembers (suc p) trees i j
  pub deep : InMembers at (suc n) trees ⊎ PairInMembers at reads p

pub record DeepEnumerators (at p n : ℕ) (i j : List Token) : Type 0 where
  pub trees : Enumerators
  pub reads : ReadsEnumerators (suc p) trees i j
  pub deep : InEnumerators at (suc n) trees ⊎ PairInEnumerators at reads p
