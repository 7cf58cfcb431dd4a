-- Groups of labels and statements as relations between lists of tokens, within a bound.
use Rattle.std.specs.Prelude.{ℕ, max, List, ◌∷◌}
use Rattle.c_lexer.specs.declared.token.Token.{Token}
use Rattle.c_lexer.specs.declared.punctuator.TheConstants.{RIGHT_BRACE}
use Rattle.c_syntax.specs.Tree.{Stmts, Groups}
use Rattle.c_syntax.specs.Tokens.{Is}
use Rattle.c_syntax.specs.Statements.{ReadsStmts, ReadsGroups}
use Rattle.c_syntax.specs.Limits.{height_of_stmts, height_of_groups}
use Rattle.c_syntax_printing.specs.Fails.{Or}
use Rattle.c_syntax_printing.specs.Phrases.{Bound, Fits, InSwitch}

-- the statements of a group, the groups after it, and the brace
pub data InGroup (b : Bound) : List Token → List Token → Type 0 where
  in_group : {d : ℕ} {ss : Stmts} {groups : Groups} {u : Token} {i j k : List Token} → ReadsStmts d ss i j → ReadsGroups d groups j (u ∷ k) → Is RIGHT_BRACE u → Fits b d (max (height_of_stmts ss) (height_of_groups groups)) → InGroup b i k

-- what stands after a statement of a group
abbrev pub GroupRest : Bound → List Token → List Token → Type 0
GroupRest b = Or (InSwitch b) (InGroup b)
