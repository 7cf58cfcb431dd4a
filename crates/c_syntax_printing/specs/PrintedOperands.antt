-- For private contracts and proofs alone: the tokens of an operand beside a punctuator, and of the name of a type in parentheses.
use Rattle.std.specs.Prelude.{ℕ, ◌∷◌}
use Rattle.c_lexer.specs.declared.token.TokenKind.TheVariants.{Punct}
use Rattle.c_lexer.specs.declared.punctuator.TheConstants.{LEFT_PARENTHESIS, RIGHT_PARENTHESIS}
use Rattle.c_syntax.specs.Tree.{Expr, TypeName}
use Rattle.c_syntax.specs.Print.{Kinds, operand_kinds, type_kinds}

abbrev pub before_kinds : ℕ → Expr → Kinds → Kinds
before_kinds number e k = operand_kinds e (Punct number ∷ k)

abbrev pub after_kinds : ℕ → Expr → Kinds → Kinds
after_kinds number e k = Punct number ∷ operand_kinds e k

abbrev pub enclosed_type_kinds : TypeName → Kinds → Kinds
enclosed_type_kinds n k = Punct LEFT_PARENTHESIS ∷ type_kinds n (Punct RIGHT_PARENTHESIS ∷ k)
