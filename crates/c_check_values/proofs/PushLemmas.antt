-- Lemmas that several crates above use.
use Rattle.c_tree.specs.Tree.{Expr, Exprs, more_exprs, no_exprs}

-- an expression behind others
abbrev pub push : Exprs → Expr → Exprs
push no_exprs e = more_exprs e no_exprs
push (more_exprs d ds) e = more_exprs d (push ds e)
