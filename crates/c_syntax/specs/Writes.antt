-- For private contracts and proofs alone: how the text grows while it is written.
use Rattle.std.specs.Prelude.{◌≡◌, ℕ, ◌+◌, ◌/◌, ◌%◌, Bool, true, false, Option, Some, None, List, [], ◌∷◌, ◌++◌, Box}
use Rattle.std.specs.Global.{Global}
use Rattle.c_lexer.specs.declared.token.TokenKind.{TokenKind}
use Rattle.c_lexer.specs.declared.token.TokenKind.TheVariants.{Punct}
use Rattle.c_lexer.specs.declared.punctuator.TheConstants.{COMMA}
use Rattle.c_syntax.specs.declared.tree.Expr.{Expr as Tree}
use Rattle.c_syntax.specs.declared.tree.Declarator.{Declarator as DeclaratorTree}
use Rattle.c_syntax.specs.declared.tree.Param.{Param as ParamTree}
use Rattle.c_syntax.specs.Tree.{Spec, Exprs, no_exprs, more_exprs, Declarator, nothing, Params, no_params, more_params}
use Rattle.c_syntax.specs.View.{expr_of, declarator_of, param_before}
use Rattle.c_syntax.specs.Print.{Kinds, spec_kinds, declarator_kinds, wrapped, is_direct, list_kinds, next_kinds, next_params}
use Rattle.c_syntax.specs.Text.{kinds_text}
pub use Rattle.c_syntax.specs.View.{expr_behind}

-- After the text `before` the tokens of f were to come, and after the text `after` those of g are to come: whatever
-- follows, the whole text is the same.
pub record Leaves (before : List ℕ) (f : Kinds → Kinds) (after : List ℕ) (g : Kinds → Kinds) : Type 0 where
  pub same : (k : Kinds) → after ++ kinds_text (g k) ≡ before ++ kinds_text (f k)

-- the tokens of f were written after the text `before`, which gave the text `after`
abbrev pub Writes : List ℕ → List ℕ → (Kinds → Kinds) → Type 0
Writes before after f = Leaves before f after (λ k. k)

-- one token was written
abbrev pub WritesToken : List ℕ → List ℕ → TokenKind → Type 0
WritesToken before after kind = Writes before after (λ k. kind ∷ k)

-- a backslash and three octal digits
abbrev pub octal_text : ℕ → List ℕ
octal_text b = 92 ∷ (b / 64 + 48) ∷ (b / 8 % 8 + 48) ∷ (b % 8 + 48) ∷ []

-- a comma, but before the first of several
abbrev pub separator : Bool → Kinds → Kinds
separator true k = k
separator false k = Punct COMMA ∷ k

-- a list of trees of Rust as a term
abbrev pub exprs_of : List Tree → Exprs
exprs_of [] = no_exprs
exprs_of (e ∷ es) = more_exprs (expr_of e) (exprs_of es)

abbrev pub params_of : List ParamTree → Params
params_of [] = no_params
params_of (p ∷ ps) = param_before p (params_of ps)

abbrev pub declarator_in : Option DeclaratorTree → Declarator
declarator_in None = nothing
declarator_in (Some e) = declarator_of e

abbrev pub declarator_behind : Option (Box DeclaratorTree Global) → Declarator
declarator_behind None = nothing
declarator_behind (Some b) = declarator_of b.value

-- specifiers and the declarator after them
abbrev pub typed_kinds : Spec → Declarator → Kinds → Kinds
typed_kinds s e k = spec_kinds s (declarator_kinds e k)

-- what is an array or a function
abbrev pub direct_kinds : Declarator → Kinds → Kinds
direct_kinds e k = wrapped (is_direct e) (declarator_kinds e) k

-- what is left of a list, at its beginning or after others
abbrev pub left_kinds : Bool → Exprs → Kinds → Kinds
left_kinds true es k = list_kinds es k
left_kinds false es k = next_kinds es k

abbrev pub head_params : Params → Kinds → Kinds
head_params no_params k = k
head_params (more_params at s e rest) k = spec_kinds s (declarator_kinds e (next_params rest k))

abbrev pub left_params : Bool → Params → Kinds → Kinds
left_params true ps k = head_params ps k
left_params false ps k = next_params ps k
