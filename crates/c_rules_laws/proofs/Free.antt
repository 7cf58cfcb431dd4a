-- Programs that call functions with numbers below those of the null calls make no null call.
use Rattle.std.proofs.Common.{◌≡◌, ℕ, zero, suc, ◌+◌, List, [], ◌∷◌, length, Some, None, slice_get, subst, arith}
use Rattle.c_tree.specs.Tree.{Expr, dereference, load, address_of, decay, discard, field, unary_operation, conversion, arithmetic, comparison, pointer_add, pointer_diff, and, or, assign, update, conditional, comma, call, call_through}
use Rattle.c_tree.specs.Tree.{Exprs, no_exprs, more_exprs, Maybe, absent, there, Inits, no_inits, more_inits}
use Rattle.c_tree.specs.Tree.{Stmt, block, evaluate, declare, if_else, while_loop, do_loop, for_loop, switch_on, return_value, Stmts, no_stmts, more_stmts, Groups, no_groups, more_groups}
use Rattle.c_tree.specs.Tree.{Function, Program}
use Rattle.c_rules.specs.NullCalls.{CallsBelow, AllBelow, MaybeBelow, InitsBelow, StmtBelow, StmtsBelow, GroupsBelow, FunctionsBelow, CallsNoNullCall}
use Rattle.c_meaning.specs.WithoutNullCalls.{IsFree, AreFree, IsFreeMaybe, AreFreeInits, IsFreeStmt, AreFreeStmts, AreFreeGroups, MakesNoNullCall}

module _ (n : ℕ) where
  mutual
    free : (e : Expr) → CallsBelow (n + 24) e → IsFree n e
    free (dereference t a) h = free a h
    free (load t a) h = free a h
    free (address_of t a) h = free a h
    free (decay t a) h = free a h
    free (discard t a) h = free a h
    free (field t first a) h = free a h
    free (unary_operation t op a) h = free a h
    free (conversion t to a) h = free a h
    free (arithmetic t op a b) h = (free a h.0, free b h.1)
    free (comparison t op a b) h = (free a h.0, free b h.1)
    free (pointer_add t first subtracted a b) h = (free a h.0, free b h.1)
    free (pointer_diff t a b) h = (free a h.0, free b h.1)
    free (and t a b) h = (free a h.0, free b h.1)
    free (or t a b) h = (free a h.0, free b h.1)
    free (assign t a b) h = (free a h.0, free b h.1)
    free (update t op old a b) h = (free a h.0, free b h.1)
    free (conditional t c a b) h = (free c h.0, free a h.1, free b h.2)
    free (comma t es) h = all_free es h
    free (call t site f es) h = (let l = h.0 in (λ e. omega (arith, l, e), λ e. omega (arith, l, e), all_free es h.1))
    free (call_through t site a es) h = (free a h.0, all_free es h.1)
    free e h = tt

    all_free : (es : Exprs) → AllBelow (n + 24) es → AreFree n es
    all_free no_exprs h = tt
    all_free (more_exprs e es) h = (free e h.0, all_free es h.1)

  free_maybe : (m : Maybe) → MaybeBelow (n + 24) m → IsFreeMaybe n m
  free_maybe absent h = tt
  free_maybe (there e) h = free e h

  free_inits : (is : Inits) → InitsBelow (n + 24) is → AreFreeInits n is
  free_inits no_inits h = tt
  free_inits (more_inits cell e is) h = (free e h.0, free_inits is h.1)

  mutual
    free_stmt : (s : Stmt) → StmtBelow (n + 24) s → IsFreeStmt n s
    free_stmt (block ss) h = free_stmts ss h
    free_stmt (evaluate e) h = free e h
    free_stmt (declare x is) h = free_inits is h
    free_stmt (if_else e s t) h = (free e h.0, free_stmt s h.1, free_stmt t h.2)
    free_stmt (while_loop e s) h = (free e h.0, free_stmt s h.1)
    free_stmt (do_loop s e) h = (free_stmt s h.0, free e h.1)
    free_stmt (for_loop first test step s) h = (free_stmts first h.0, free_maybe test h.1, free_maybe step h.2, free_stmt s h.3)
    free_stmt (switch_on e gs) h = (free e h.0, free_groups gs h.1)
    free_stmt (return_value e) h = free e h
    free_stmt s h = tt

    free_stmts : (ss : Stmts) → StmtsBelow (n + 24) ss → AreFreeStmts n ss
    free_stmts no_stmts h = tt
    free_stmts (more_stmts s ss) h = (free_stmt s h.0, free_stmts ss h.1)

    free_groups : (gs : Groups) → GroupsBelow (n + 24) gs → AreFreeGroups n gs
    free_groups no_groups h = tt
    free_groups (more_groups ls ss gs) h = (free_stmts ss h.0, free_groups gs h.1)

  free_functions : (fs : List Function) → FunctionsBelow (n + 24) fs → (f : ℕ) (g : Function) → slice_get fs f ≡ Some g → IsFreeStmt n g.body
  free_functions [] h f g e = absurd (let q : None ≡ Some g = e in cc)
  free_functions (x ∷ fs) h zero g e = (let q : x ≡ g = (let r : Some x ≡ Some g = e in cc) in subst (λ y. IsFreeStmt n y.body) q (free_stmt x.body h.0))
  free_functions (x ∷ fs) h (suc f) g e = free_functions fs h.1 f g e

pub makes_none : (p : Program) → CallsNoNullCall p → MakesNoNullCall p
makes_none p h = free_functions (length p.functions) p.functions h
