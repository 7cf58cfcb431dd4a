-- For private contracts and proofs alone: the arguments of which a trace records something, as trees of Rust.
use Rattle.std.specs.Prelude.{ℕ, zero, suc, ℤ, List, [], ◌∷◌, Option, Some, None}
use Rattle.sys_table.specs.declared.kinds.ArgKind.{ArgKind}
use Rattle.c_tree.specs.declared.tree.TExpr.{TExpr}
use Rattle.c_tree.specs.View.{expr_of}
use Rattle.c_tree.specs.Constants.{entry}

-- the second of read, number 0, is not recorded
abbrev pub recorded : ℕ → List TExpr → List TExpr
recorded zero [] = []
recorded zero (descriptor ∷ []) = descriptor ∷ []
recorded zero (descriptor ∷ (buffer ∷ es)) = descriptor ∷ es
recorded (suc name) es = es

-- the entry of an argument that may be missing
abbrev pub entry_where : ArgKind → Option TExpr → Option ℤ
entry_where kind None = None
entry_where kind (Some e) = entry kind (expr_of e)
