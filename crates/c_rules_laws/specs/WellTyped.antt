-- Laws on what the rules type: the parts of a unit give well-typed parts of a program.
use Rattle.std.specs.Prelude.{◌≡◌, ℕ, false, List, All}
use Rattle.std.specs.List.{range_with_len}
use Rattle.dm_base.specs.Name.{IsName}
use Rattle.dm_base.specs.declared.mode.Mode.{Mode}
use Rattle.c_lexer.specs.declared.token.Token.{Token}
use Rattle.c_lexer.specs.TokenSpelling.{SpellsTokens}
use Rattle.c_tree.specs.Tree.{CType, Static, Program, type_of}
use Rattle.c_tree.specs.Tree as typed
use Rattle.c_tree.specs.Operands.{IsResult}
use Rattle.c_tree.specs.Kinds.{Lies}
use Rattle.c_tree.specs.Typed.{IsValue, IsStmt}
use Rattle.c_tree.specs.Sites.{sites_of, sites_of_stmt}
use Rattle.c_tree.specs.Program.{AreStructs, IsFunction, IsStatic}
use Rattle.c_syntax.specs.Tree.{Expr, Stmt, Items}
use Rattle.c_syntax.specs.Spelling.{SpellsUnit}
use Rattle.c_rules.specs.Checked.{fine}
use Rattle.c_rules.specs.Scopes.{Env, evaluated, Before}
use Rattle.c_rules.specs.Counts.{calls, strings}
use Rattle.c_rules.specs.TypedExpression.{TypedExpression, tree_of}
use Rattle.c_rules.specs.PrimaryExpressions.{string_number}
use Rattle.c_rules.specs.Expressions.{value}
use Rattle.c_rules.specs.Variables.{Next, calls_of_stmt}
use Rattle.c_rules.specs.Blocks.{StatementTree, held_by_stmt}
use Rattle.c_rules.specs.Statements.{Around, stmt}
use Rattle.c_rules.specs.Units.{IsTyped}
use Rattle.c_rules_laws.specs.Lexical.{IsLexical, IsStmtLexical, IsUnitLexical}
use Rattle.c_rules_laws.specs.RightScopes.{IsRight, StringsIn}

-- the tree of an expression has the type that the rules give it
pub record IsWellTyped (p : Program) (vars : List CType) (g : TypedExpression) : Type 0 where
  pub type : type_of (tree_of g) ≡ g.ctype
  pub value : IsValue p vars (tree_of g)
  pub result : IsResult g.ctype

-- where each name is right in a program, the value of an expression is well-typed in it
abbrev pub ExpressionsAreWellTyped : Type 0
ExpressionsAreWellTyped =
    (p : Program) (vars : List CType) (env : Env) → IsRight p vars env → (b : Before) (x : Expr) → IsLexical x → StringsIn p vars (string_number env b) (strings x) → (g : TypedExpression) → value env b x ≡ fine g → IsWellTyped p vars g

-- and a statement is well-typed in a function whose variables from the next numbers on are those that it declares
abbrev pub StatementsAreWellTyped : Type 0
StatementsAreWellTyped =
    (p : Program) (vars : List CType) (env : Env) → IsRight p vars env → (a : Around) (b : Before) (next : Next) (s : Stmt) → IsStmtLexical s → StringsIn p vars (string_number env b) (held_by_stmt env next s)
    → (q : StatementTree typed.Stmt) → stmt env a b next s ≡ fine q → Lies vars next.plain q.plain → Lies vars next.added q.added → IsStmt p vars a.returns a.breaks a.continues q.tree

-- the sites of calls are numbered in the order of their opening parentheses, from the number of the calls before on
abbrev pub ExpressionsHaveSites : Type 0
ExpressionsHaveSites = (env : Env) → env.context ≡ evaluated → (b : Before) (x : Expr) (g : TypedExpression) → value env b x ≡ fine g → sites_of (tree_of g) ≡ range_with_len b.sites (calls x)

abbrev pub StatementsHaveSites : Type 0
StatementsHaveSites =
    (env : Env) → env.context ≡ evaluated → (a : Around) (b : Before) (next : Next) (s : Stmt) (q : StatementTree typed.Stmt) → stmt env a b next s ≡ fine q → sites_of_stmt q.tree ≡ range_with_len b.sites (calls_of_stmt s)

-- a static object that is no string has values of its types in its cells
abbrev pub IsRightObject : Program → Static → Type 0
IsRightObject p s = s.string ≡ false → IsStatic p s

-- the structs, the functions and the objects that have names are those of a well-typed program
pub record PartsAreRight (p : Program) : Type 0 where
  pub structs : AreStructs p.structs
  pub functions : All (IsFunction p) p.functions
  pub names : All (λ f. IsName f.name) p.functions
  pub objects : All (IsRightObject p) p.statics

abbrev pub UnitsAreWellTyped : Type 0
UnitsAreWellTyped = (u : Items) (m : Mode) (p : Program) → IsUnitLexical u → IsTyped u m p → PartsAreRight p

-- a unit that a text spells is lexical
abbrev pub SpelledUnitsAreLexical : Type 0
SpelledUnitsAreLexical = (text : List ℕ) (m : Mode) (tokens : List Token) (u : Items) → SpellsTokens text m tokens → SpellsUnit u tokens m → IsUnitLexical u
