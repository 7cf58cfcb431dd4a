-- Where a break, a continue and a return may stand in a shape.
use Rattle.std.specs.Prelude.{◌≡◌, Bool, true, false}
use Rattle.c_meaning.specs.Shape.{Shape, Skip, Sys, Exit, Call, Seq, Alt, Loop, Do, Cases, Break, Continue, Return, Parts, End, Part}

-- the shape of an expression, which is never left but at its end (C99 6.5)
abbrev mutual
  pub IsExpression : Shape → Type 0
  IsExpression Skip = Unit {0}
  IsExpression (Sys x q) = Unit {0}
  IsExpression (Exit q) = Unit {0}
  IsExpression (Call s) = Unit {0}
  IsExpression (Seq S ps) = IsExpression S × AreExpressions ps
  IsExpression (Alt S T) = IsExpression S × IsExpression T
  IsExpression (Loop C B P) = ⊥
  IsExpression (Do B C) = ⊥
  IsExpression (Cases ps d) = ⊥
  IsExpression Break = ⊥
  IsExpression Continue = ⊥
  IsExpression Return = ⊥

  pub AreExpressions : Parts → Type 0
  AreExpressions End = Unit {0}
  AreExpressions (Part S ps) = IsExpression S × AreExpressions ps

-- the shape of a statement: tests and steps of loops are expressions; the flags say whether a break and a continue may lead out of it (C99 6.8.6.2, 6.8.6.3)
abbrev mutual
  pub IsStatement : Shape → Bool → Bool → Type 0
  IsStatement Skip b c = Unit {0}
  IsStatement (Sys x q) b c = Unit {0}
  IsStatement (Exit q) b c = Unit {0}
  IsStatement (Call s) b c = Unit {0}
  IsStatement (Seq S ps) b c = IsStatement S b c × AreStatements ps b c
  IsStatement (Alt S T) b c = IsStatement S b c × IsStatement T b c
  IsStatement (Loop C B P) b c = IsExpression C × IsStatement B true true × IsExpression P
  IsStatement (Do B C) b c = IsStatement B true true × IsExpression C
  IsStatement (Cases ps d) b c = AreStatements ps true c
  IsStatement Break b c = b ≡ true
  IsStatement Continue b c = c ≡ true
  IsStatement Return b c = Unit {0}

  pub AreStatements : Parts → Bool → Bool → Type 0
  AreStatements End b c = Unit {0}
  AreStatements (Part S ps) b c = IsStatement S b c × AreStatements ps b c

-- the shape of a function's body: no break and no continue leads out of it
abbrev pub IsBody : Shape → Type 0
IsBody S = IsStatement S false false
