-- That a reading is the only one: each other reading of the tokens that ends where no more could be read gives the same tree
-- and leaves the same tokens.
use Rattle.std.proofs.Common.{◌≡◌, ◌≤◌, ℕ, suc, List}
use Rattle.c_lexer.specs.declared.token.Token.{Token}
use Rattle.c_syntax_printing.specs.Ranks.{rank, Stops}
use Rattle.c_syntax.specs.Tree.{Expr, Exprs, Maybe, TypeName, Declarator, Params}
use Rattle.c_syntax.specs.Grammar.{Level, postfix_level, binary_level, expression_level, Reads, ReadsList, Suffixes, Chain, ReadsSize, ReadsType, Declares, ReadsCore, Lengthens, ReadsParams, ReadsEach}
use Rattle.c_syntax_printing.specs.Starts.{start, EndsDeclarator}

-- a bracket, a brace or a semicolon that closes: nothing goes on with it and nothing begins with it
pub record Closes (ts : List Token) : Type 0 where
  pub none : start ts ≡ 0
  pub high : 15 ≤ rank ts

pub record Only (l : Level) (e : Expr) (i j : List Token) : Type 0 where
  pub is : (x : ℕ) (f : Expr) (k : List Token) → Reads x l f i k → Stops l k → (e ≡ f) × (j ≡ k)

pub record OnlyList (es : Exprs) (i j : List Token) : Type 0 where
  pub is : (x : ℕ) (fs : Exprs) (k : List Token) → ReadsList x fs i k → Stops expression_level k → (es ≡ fs) × (j ≡ k)

-- the suffixes are a part of those that any other reading has, which goes on from where they end
pub record PassesSuffixes (at : ℕ) (a e : Expr) (i j : List Token) : Type 0 where
  pub is : (x : ℕ) (f : Expr) (k : List Token) → Suffixes x at a f i k → Stops postfix_level k → Suffixes x at e f j k

pub record PassesChain (n at : ℕ) (a e : Expr) (i j : List Token) : Type 0 where
  pub is : (x : ℕ) (f : Expr) (k : List Token) → Chain x n at a f i k → Stops (binary_level (suc n)) k → Chain x n at e f j k

pub record OnlySize (m : Maybe) (i j : List Token) : Type 0 where
  pub is : (x : ℕ) (n : Maybe) (k : List Token) → ReadsSize x n i k → Closes k → (m ≡ n) × (j ≡ k)

pub record OnlyType (n : TypeName) (i j : List Token) : Type 0 where
  pub is : (x : ℕ) (m : TypeName) (k : List Token) → ReadsType x m i k → EndsDeclarator k → (n ≡ m) × (j ≡ k)

pub record OnlyDeclarator (e : Declarator) (i j : List Token) : Type 0 where
  pub is : (x : ℕ) (f : Declarator) (k : List Token) → Declares x f i k → EndsDeclarator k → (e ≡ f) × (j ≡ k)

pub record OnlyCore (a : Declarator) (i j : List Token) : Type 0 where
  pub is : (x at : ℕ) (b f : Declarator) (k m : List Token) → ReadsCore x b i k → Lengthens x at b f k m → EndsDeclarator m → (a ≡ b) × (j ≡ k)

pub record PassesLengthens (at : ℕ) (a e : Declarator) (i j : List Token) : Type 0 where
  pub is : (x : ℕ) (f : Declarator) (k : List Token) → Lengthens x at a f i k → EndsDeclarator k → Lengthens x at e f j k

pub record OnlyParams (ps : Params) (i j : List Token) : Type 0 where
  pub is : (x : ℕ) (qs : Params) (k : List Token) → ReadsParams x qs i k → Closes k → (ps ≡ qs) × (j ≡ k)

pub record OnlyEach (ps : Params) (i j : List Token) : Type 0 where
  pub is : (x : ℕ) (qs : Params) (k : List Token) → ReadsEach x qs i k → Closes k → (ps ≡ qs) × (j ≡ k)
