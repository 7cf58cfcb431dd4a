-- Trees that tokens spell: their operators are operators, a comma has two members at least, the names of types have no names.
use Rattle.std.specs.Prelude.{ℕ, suc, ◌≤◌}
use Rattle.c_syntax.specs.Tree.{Expr, comma, sizeof_type, cast, call, member, postfix, prefix, unary, index, binary, assign, conditional}
use Rattle.c_syntax.specs.Tree.{Infix, Exprs, no_exprs, more_exprs, Maybe, absent, there, TypeName, type_name, Declarator, pointer, array, function, Params, no_params, more_params}
use Rattle.c_syntax.specs.Tokens.{IsInfix, IsUnary, IsAssignment}
use Rattle.c_syntax.specs.Grammar.{HasNoName, AreSome}

-- two or more
abbrev pub AreSeveral : Exprs → Type 0
AreSeveral (more_exprs a (more_exprs b rest)) = Unit {0}
AreSeveral a = ⊥

-- an operator of one of the ten levels
pub record IsOperator (o : Infix) : Type 0 where
  pub level : ℕ
  pub low : level ≤ 9
  pub is : IsInfix o (suc level)

-- no parameters, or some that aren't void alone
abbrev pub IsParameterList : Params → Type 0
IsParameterList no_params = Unit {0}
IsParameterList (more_params at s e rest) = AreSome (more_params at s e rest)

abbrev mutual
  pub IsFine : Expr → Type 0
  IsFine (comma at es) = AreSeveral es × AreFine es
  IsFine (sizeof_type at n) = IsFineType n
  IsFine (cast at n a) = IsFineType n × IsFine a
  IsFine (call at a es) = IsFine a × AreFine es
  IsFine (member at access a x) = IsFine a
  IsFine (postfix at p a) = IsFine a
  IsFine (prefix at p a) = IsFine a
  IsFine (unary at op a) = IsUnary op × IsFine a
  IsFine (index at a b) = IsFine a × IsFine b
  IsFine (binary at o a b) = IsOperator o × IsFine a × IsFine b
  IsFine (assign at op a b) = IsAssignment op × IsFine a × IsFine b
  IsFine (conditional at a b c) = IsFine a × IsFine b × IsFine c
  IsFine a = Unit {0}

  pub AreFine : Exprs → Type 0
  AreFine no_exprs = Unit {0}
  AreFine (more_exprs a rest) = IsFine a × AreFine rest

  pub IsFineMaybe : Maybe → Type 0
  IsFineMaybe absent = Unit {0}
  IsFineMaybe (there e) = IsFine e

  pub IsFineType : TypeName → Type 0
  IsFineType (type_name at s e) = HasNoName e × IsFineDeclarator e

  pub IsFineDeclarator : Declarator → Type 0
  IsFineDeclarator (pointer at e) = IsFineDeclarator e
  IsFineDeclarator (array at e size) = IsFineDeclarator e × IsFineMaybe size
  IsFineDeclarator (function at e ps) = IsFineDeclarator e × IsParameterList ps × AreFineParams ps
  IsFineDeclarator a = Unit {0}

  pub AreFineParams : Params → Type 0
  AreFineParams no_params = Unit {0}
  AreFineParams (more_params at s e rest) = IsFineDeclarator e × AreFineParams rest
