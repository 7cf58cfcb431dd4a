-- The phrases of the grammar as relations between lists of tokens, within a bound, and with what may follow them.
use Rattle.std.specs.Prelude.{◌≡◌, ◌≤◌, ◌-◌, List, ◌∷◌, ℕ}
use Rattle.c_lexer.specs.declared.token.Token.{Token}
use Rattle.c_lexer.specs.declared.punctuator.TheConstants.{LEFT_PARENTHESIS, RIGHT_PARENTHESIS, LEFT_BRACE, RIGHT_BRACE, SEMICOLON}
use Rattle.c_lexer.specs.declared.keyword.TheConstants.{ELSE, WHILE}
use Rattle.c_syntax_printing.specs.Ranks.{Stops}
use Rattle.c_syntax_printing.specs.Starts.{EndsDeclarator, EndsSpec}
use Rattle.c_syntax_printing.specs.Heads.{head}
use Rattle.c_syntax.specs.Tree.{Spec, Expr, Declarator, Init, Decl, First, Labels, Stmt, BlockItems, Groups}
use Rattle.c_syntax.specs.Tokens.{Is, IsKeyword}
use Rattle.c_syntax.specs.Specifiers.{ReadsSpec}
use Rattle.c_syntax.specs.Grammar.{Level, assignment_level, expression_level, Reads, Declares, HasName}
use Rattle.c_syntax.specs.Statements.{ReadsInit, ReadsDecl, IsPlainDecl, ReadsFirst, ReadsLabels, ReadsStmt, IsClosed, ReadsBlockItems, ReadsGroups}
use Rattle.c_syntax.specs.Limits.{height, height_of_declarator, height_of_init, height_of_decl, height_of_first, height_of_labels, height_of_stmt, height_of_block_items, height_of_groups}
use Rattle.c_syntax_printing.specs.Fails.{Then, Or, One}

-- how many pairs of parentheses that make no node may stand round a token, and how deep nodes may stand
pub data Bound : Type 0 where
  any : Bound
  within : (pairs nodes : ℕ) → Bound

-- a reading within so many pairs, of a tree of such a height
pub data Fits : Bound → ℕ → ℕ → Type 0 where
  fits_any : {d h : ℕ} → Fits any d h
  fits_within : {p n d h : ℕ} → d ≤ p → h ≤ n → Fits (within p n) d h

-- inside one more node
abbrev pub inner : Bound → Bound
inner any = any
inner (within p n) = within p (n - 1)

-- an expression of the level, and nothing after it that would continue it
pub record AnExpr (b : Bound) (l : Level) (i j : List Token) : Type 0 where
  pub depth : ℕ
  pub tree : Expr
  pub reads : Reads depth l tree i j
  pub stops : Stops l j
  pub fits : Fits b depth (height tree)

-- specifiers
pub record ASpec (i j : List Token) : Type 0 where
  pub tree : Spec
  pub reads : ReadsSpec tree i j
  pub ends : EndsSpec j

-- a declarator with a name
pub record ADeclarator (b : Bound) (i j : List Token) : Type 0 where
  pub depth : ℕ
  pub tree : Declarator
  pub reads : Declares depth tree i j
  pub named : HasName tree
  pub ends : EndsDeclarator j
  pub fits : Fits b depth (height_of_declarator tree)

-- an initialiser
pub record AnInit (b : Bound) (i j : List Token) : Type 0 where
  pub depth : ℕ
  pub tree : Init
  pub reads : ReadsInit depth tree i j
  pub stops : Stops assignment_level j
  pub fits : Fits b depth (height_of_init tree)

-- a declaration without a storage class
pub record APlainDecl (b : Bound) (i j : List Token) : Type 0 where
  pub depth : ℕ
  pub tree : Decl
  pub reads : ReadsDecl depth tree i j
  pub plain : IsPlainDecl tree
  pub fits : Fits b depth (height_of_decl tree)

-- A statement. Where an else follows, it ends in no if without else.
pub record AStmt (b : Bound) (i j : List Token) : Type 0 where
  pub depth : ℕ
  pub tree : Stmt
  pub reads : ReadsStmt depth tree i j
  pub closed : head j ≡ 13 → IsClosed tree
  pub fits : Fits b depth (height_of_stmt tree)

-- nothing, where no else stands
pub data NoElse : List Token → List Token → Type 0 where
  no_else : {i : List Token} → (head i ≡ 13 → ⊥) → NoElse i i

-- nothing, where no expression begins
pub data NoExpr : List Token → List Token → Type 0 where
  no_expr : {i : List Token} → (head i ≡ 20 → ⊥) → NoExpr i i

-- an expression, if one stands there
abbrev pub MaybeExpr : Bound → List Token → List Token → Type 0
MaybeExpr b = Or NoExpr (AnExpr b expression_level)

abbrev pub Punctuator : ℕ → List Token → List Token → Type 0
Punctuator code = One (Is code)

abbrev pub Word : ℕ → List Token → List Token → Type 0
Word code = One (IsKeyword code)

-- an expression in parentheses, and then the rest
abbrev pub InCondition : Bound → (List Token → List Token → Type 0) → List Token → List Token → Type 0
InCondition b R = Then (Punctuator LEFT_PARENTHESIS) (Then (AnExpr b expression_level) (Then (Punctuator RIGHT_PARENTHESIS) R))

-- labels before a statement
pub record SomeLabels (b : Bound) (i j : List Token) : Type 0 where
  pub depth : ℕ
  pub tree : Labels
  pub reads : ReadsLabels depth tree i j
  pub ends : 20 ≤ head j
  pub fits : Fits b depth (height_of_labels tree)

-- what stands first in the head of a for, with the semicolon after it
pub record AFirst (b : Bound) (i j : List Token) : Type 0 where
  pub depth : ℕ
  pub tree : First
  pub reads : ReadsFirst depth tree i j
  pub fits : Fits b depth (height_of_first tree)

-- the items of a block, and the brace after them
pub data InBlock (b : Bound) : List Token → List Token → Type 0 where
  in_block : {d : ℕ} {items : BlockItems} {u : Token} {i j : List Token} → ReadsBlockItems d items i (u ∷ j) → Is RIGHT_BRACE u → Fits b d (height_of_block_items items) → InBlock b i j

-- the groups of a switch, and the brace after them
pub data InSwitch (b : Bound) : List Token → List Token → Type 0 where
  in_switch : {d : ℕ} {groups : Groups} {u : Token} {i j : List Token} → ReadsGroups d groups i (u ∷ j) → Is RIGHT_BRACE u → Fits b d (height_of_groups groups) → InSwitch b i j

-- what follows the first token of a statement

abbrev pub IfTail : Bound → List Token → List Token → Type 0
IfTail b = InCondition b (Then (AStmt b) (Or NoElse (Then (Word ELSE) (AStmt b))))

abbrev pub WhileTail : Bound → List Token → List Token → Type 0
WhileTail b = InCondition b (AStmt b)

abbrev pub DoTail : Bound → List Token → List Token → Type 0
DoTail b = Then (AStmt b) (Then (Word WHILE) (InCondition b (Punctuator SEMICOLON)))

abbrev pub ForTail : Bound → List Token → List Token → Type 0
ForTail b = Then (Punctuator LEFT_PARENTHESIS) (Then (AFirst b) (Then (MaybeExpr b) (Then (Punctuator SEMICOLON) (Then (MaybeExpr b) (Then (Punctuator RIGHT_PARENTHESIS) (AStmt b))))))

abbrev pub SwitchTail : Bound → List Token → List Token → Type 0
SwitchTail b = InCondition b (Then (Punctuator LEFT_BRACE) (InSwitch b))

abbrev pub ReturnTail : Bound → List Token → List Token → Type 0
ReturnTail b = Then (MaybeExpr b) (Punctuator SEMICOLON)

abbrev pub EvaluationTail : Bound → List Token → List Token → Type 0
EvaluationTail b = Then (AnExpr b expression_level) (Punctuator SEMICOLON)

-- an item of a block
abbrev pub ABlockItem : Bound → List Token → List Token → Type 0
ABlockItem b = Or (APlainDecl b) (AStmt b)
