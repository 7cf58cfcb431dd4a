-- For private contracts and proofs alone: what is made of a part of a tree, with the calls and the temporaries before it and behind it.
use Rattle.std.specs.Prelude.{◌≡◌, ℕ, ◌+◌, Bool, List, ◌++◌}
use Rattle.c_syntax.specs.Tree.{Expr, Exprs, Maybe, Init, Inits, MaybeInit, Parts, Decl, First, Stmt, BlockItems, Stmts, Groups}
use Rattle.c_rules.specs.Counts.{calls, calls_of_all, calls_of_maybe}
use Rattle.c_rules.specs.Initialisers.{calls_of_init, calls_of_inits, calls_of_maybe_init}
use Rattle.c_rules.specs.Variables.{calls_of_parts, calls_of_decl, calls_of_first, calls_of_stmt, calls_of_block, calls_of_stmts, calls_of_groups}
use Rattle.null_calls_temporaries.specs.MarkedCalls.{Sites}
use Rattle.null_calls_temporaries.specs.Temporaries as term
use Rattle.null_calls_temporaries.specs.InstrumentedExpressions as marked
use Rattle.null_calls_temporaries.specs.InstrumentedStatements as marks
use Rattle.null_calls_temporaries.specs.Kept.{temporaries_of}
use Rattle.null_calls_temporaries.specs.declared.temporaries.Temporary.{Temporary}

-- what is made of a part of one kind where so many calls stand before it, its temporaries then, and how many calls are in it
pub record Marking (D : Type 0) : Type 0 where
  pub mark : ℕ → D → D
  pub kept : ℕ → D → List term.Temporary
  pub count : D → ℕ

-- so many calls, and these temporaries
abbrev pub Reached : Type 0
Reached = ℕ × List term.Temporary

abbrev pub reached : ℕ → List Temporary → Reached
reached n ts = (n, temporaries_of ts)

-- what is made of a part behind the first calls and temporaries, and the others are reached with it
pub record IsMarked {D : Type 0} (m : Marking D) (s t : Reached) (d made : D) : Type 0 where
  pub tree : made ≡ m.mark s.0 d
  pub keeps : t.1 ≡ s.1 ++ m.kept s.0 d
  pub counts : t.0 ≡ s.0 + m.count d

-- the same of a part of a list, whatever stands behind it
pub record IsMarkedBefore {L : Type 0} (m : Marking L) (s t : Reached) (before made : L → L) : Type 0 where
  pub on : (u : Reached) (rest others : L) → IsMarked m t u rest others → IsMarked m s u (before rest) (made others)

module _ (sites : Sites) where
  abbrev pub of_expr : (wanted : Bool) → Marking Expr
  of_expr w = record { mark = λ b. marked.expr sites b w; kept = λ b. marked.kept sites b w; count = calls }

  abbrev pub of_arguments : Marking Exprs
  of_arguments = record { mark = marked.arguments sites; kept = marked.kept_of_arguments sites; count = calls_of_all }

  abbrev pub of_members : (wanted : Bool) → Marking Exprs
  of_members w = record { mark = λ b. marked.members sites b w; kept = λ b. marked.kept_of_members sites b w; count = calls_of_all }

  abbrev pub of_maybe : (wanted : Bool) → Marking Maybe
  of_maybe w = record { mark = λ b. marked.maybe sites b w; kept = λ b. marked.kept_of_maybe sites b w; count = calls_of_maybe }

  abbrev pub of_init : Marking Init
  of_init = record { mark = marks.init sites; kept = marks.kept_of_init sites; count = calls_of_init }

  abbrev pub of_inits : Marking Inits
  of_inits = record { mark = marks.inits sites; kept = marks.kept_of_inits sites; count = calls_of_inits }

  abbrev pub of_maybe_init : Marking MaybeInit
  of_maybe_init = record { mark = marks.maybe_init sites; kept = marks.kept_of_maybe_init sites; count = calls_of_maybe_init }

  abbrev pub of_parts : Marking Parts
  of_parts = record { mark = marks.parts sites; kept = marks.kept_of_parts sites; count = calls_of_parts }

  abbrev pub of_decl : Marking Decl
  of_decl = record { mark = marks.declaration sites; kept = marks.kept_of_decl sites; count = calls_of_decl }

  abbrev pub of_first : Marking First
  of_first = record { mark = marks.first sites; kept = marks.kept_of_first sites; count = calls_of_first }

  abbrev pub of_stmt : Marking Stmt
  of_stmt = record { mark = marks.stmt sites; kept = marks.kept_of_stmt sites; count = calls_of_stmt }

  abbrev pub of_block : Marking BlockItems
  of_block = record { mark = marks.items_of_block sites; kept = marks.kept_of_block sites; count = calls_of_block }

  abbrev pub of_stmts : Marking Stmts
  of_stmts = record { mark = marks.stmts sites; kept = marks.kept_of_stmts sites; count = calls_of_stmts }

  abbrev pub of_groups : Marking Groups
  of_groups = record { mark = marks.groups sites; kept = marks.kept_of_groups sites; count = calls_of_groups }
