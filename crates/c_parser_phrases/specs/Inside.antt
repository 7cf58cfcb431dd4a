-- For private contracts and proofs alone: what stands inside a node that is made.
use Rattle.std.specs.Prelude.{◌≡◌, ◌⊎◌, suc}
use Rattle.c_syntax.specs.Tree.{Expr, Declarator}
use Rattle.c_syntax_printing.specs.Nodes.{InExpr, InDeclarator}
use Rattle.c_parser_phrases.specs.declared.depth.Depth.{Depth}

-- the deepest node of what has the depth, where it has a node
abbrev pub IsInside : Depth → Expr → Type 0
IsInside d e = (d.height ≡ 0) ⊎ InExpr d.deepest (suc d.height) e

abbrev pub IsInsideDeclarator : Depth → Declarator → Type 0
IsInsideDeclarator d e = (d.height ≡ 0) ⊎ InDeclarator d.deepest (suc d.height) e
