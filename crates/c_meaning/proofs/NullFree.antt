-- A program that makes no null call mentions none.
use Rattle.std.proofs.Common.{◌≡◌, ◌≢◌, inl, inr, ℕ, suc, ◌+◌, List, [], ◌∷◌, ◌++◌, flat_map, Contains, Some, slice_get, refl, subst}
use Rattle.std.proofs.lemmas.List.Elements.{Contains-append_cases}
use Rattle.c_tree.specs.declared.value.Value.{Value}
use Rattle.c_tree.specs.declared.value.Value.TheVariants as v
use Rattle.c_tree.specs.Tree.{Expr, function_name, dereference, load, address_of, decay, discard, field, unary_operation, conversion, arithmetic, comparison, pointer_add, pointer_diff, and, or, assign, update, conditional, comma, call, call_through, type_of}
use Rattle.c_tree.specs.Tree.{Exprs, no_exprs, more_exprs, Maybe, absent, there, Inits, no_inits, more_inits}
use Rattle.c_tree.specs.Tree.{Stmt, block, evaluate, declare, if_else, while_loop, do_loop, for_loop, switch_on, return_value, Stmts, no_stmts, more_stmts, Groups, no_groups, more_groups}
use Rattle.c_tree.specs.Tree.{Static, Program}
use Rattle.c_tree.specs.Functions.{defined}
use Rattle.c_meaning.specs.Mentions.{Direct, Through, Mention, Named, Calls, mentions, mentions_of_all, mentions_of_maybe, mentions_of_inits, mentions_of_stmt, mentions_of_stmts, mentions_of_groups, mentions_of_function, mention_of_cell, mentions_of_static, mentions_of_program}
use Rattle.c_meaning.specs.WithoutNullCalls.{IsFree, AreFree, IsFreeMaybe, AreFreeInits, IsFreeStmt, AreFreeStmts, AreFreeGroups, MakesNoNullCall}
use Rattle.c_meaning.proofs.Lists.{cases, none_in}

module _ (n : ℕ) where
  -- no call of one of the two null calls by its name
  abbrev pub IsOther : Mention → Type 0
  IsOther (Calls s (Direct f)) = (f ≢ n + 24) × (f ≢ n + 25)
  IsOther a = Unit {0}

  abbrev AreOther : List Mention → Type 0
  AreOther ms = (x : Mention) → Contains ms x → IsOther x

  none : AreOther []
  none x h = absurd (none_in x h)

  join : (xs ys : List Mention) → AreOther xs → AreOther ys → AreOther (xs ++ ys)
  join xs ys h k x q = elim (Contains-append_cases xs ys x q) as (λ r. IsOther x) [ inl r ↦ h x r | inr r ↦ k x r ]

  more : (x : Mention) (xs : List Mention) → IsOther x → AreOther xs → AreOther (x ∷ xs)
  more x xs h k y q = elim (cases x xs y q) as (λ r. IsOther y) [ inl r ↦ subst IsOther r h | inr r ↦ k y r ]

  mutual
    free_expr : (e : Expr) → IsFree n e → AreOther (mentions e)
    free_expr (function_name t f) h = more (Named f) [] tt none
    free_expr (dereference t a) h = free_expr a h
    free_expr (load t a) h = free_expr a h
    free_expr (address_of t a) h = free_expr a h
    free_expr (decay t a) h = free_expr a h
    free_expr (discard t a) h = free_expr a h
    free_expr (field t first a) h = free_expr a h
    free_expr (unary_operation t op a) h = free_expr a h
    free_expr (conversion t to a) h = free_expr a h
    free_expr (arithmetic t op a b) h = join (mentions a) (mentions b) (free_expr a h.0) (free_expr b h.1)
    free_expr (comparison t op a b) h = join (mentions a) (mentions b) (free_expr a h.0) (free_expr b h.1)
    free_expr (pointer_add t first subtracted a b) h = join (mentions a) (mentions b) (free_expr a h.0) (free_expr b h.1)
    free_expr (pointer_diff t a b) h = join (mentions a) (mentions b) (free_expr a h.0) (free_expr b h.1)
    free_expr (and t a b) h = join (mentions a) (mentions b) (free_expr a h.0) (free_expr b h.1)
    free_expr (or t a b) h = join (mentions a) (mentions b) (free_expr a h.0) (free_expr b h.1)
    free_expr (assign t a b) h = join (mentions a) (mentions b) (free_expr a h.0) (free_expr b h.1)
    free_expr (update t op old a b) h = join (mentions a) (mentions b) (free_expr a h.0) (free_expr b h.1)
    free_expr (conditional t c a b) h = join (mentions c) (mentions a ++ mentions b) (free_expr c h.0) (join (mentions a) (mentions b) (free_expr a h.1) (free_expr b h.2))
    free_expr (comma t es) h = free_exprs es h
    free_expr (call t s f es) h = more (Calls s (Direct f)) (mentions_of_all es) (h.0, h.1) (free_exprs es h.2)
    free_expr (call_through t s a es) h = join (mentions a) (Calls s (Through (type_of a)) ∷ mentions_of_all es) (free_expr a h.0) (more (Calls s (Through (type_of a))) (mentions_of_all es) tt (free_exprs es h.1))
    free_expr e h = none

    free_exprs : (es : Exprs) → AreFree n es → AreOther (mentions_of_all es)
    free_exprs no_exprs h = none
    free_exprs (more_exprs e es) h = join (mentions e) (mentions_of_all es) (free_expr e h.0) (free_exprs es h.1)

  free_maybe : (e : Maybe) → IsFreeMaybe n e → AreOther (mentions_of_maybe e)
  free_maybe absent h = none
  free_maybe (there e) h = free_expr e h

  free_inits : (is : Inits) → AreFreeInits n is → AreOther (mentions_of_inits is)
  free_inits no_inits h = none
  free_inits (more_inits cell e is) h = join (mentions e) (mentions_of_inits is) (free_expr e h.0) (free_inits is h.1)

  mutual
    free_stmt : (s : Stmt) → IsFreeStmt n s → AreOther (mentions_of_stmt s)
    free_stmt (block ss) h = free_stmts ss h
    free_stmt (evaluate e) h = free_expr e h
    free_stmt (declare x is) h = free_inits is h
    free_stmt (if_else e s u) h = join (mentions e) (mentions_of_stmt s ++ mentions_of_stmt u) (free_expr e h.0) (join (mentions_of_stmt s) (mentions_of_stmt u) (free_stmt s h.1) (free_stmt u h.2))
    free_stmt (while_loop e s) h = join (mentions e) (mentions_of_stmt s) (free_expr e h.0) (free_stmt s h.1)
    free_stmt (do_loop s e) h = join (mentions_of_stmt s) (mentions e) (free_stmt s h.0) (free_expr e h.1)
    free_stmt (for_loop first test step s) h = join (mentions_of_stmts first) (mentions_of_maybe test ++ (mentions_of_maybe step ++ mentions_of_stmt s)) (free_stmts first h.0) (join (mentions_of_maybe test) (mentions_of_maybe step ++ mentions_of_stmt s) (free_maybe test h.1) (join (mentions_of_maybe step) (mentions_of_stmt s) (free_maybe step h.2) (free_stmt s h.3)))
    free_stmt (switch_on e gs) h = join (mentions e) (mentions_of_groups gs) (free_expr e h.0) (free_groups gs h.1)
    free_stmt (return_value e) h = free_expr e h
    free_stmt s h = none

    free_stmts : (ss : Stmts) → AreFreeStmts n ss → AreOther (mentions_of_stmts ss)
    free_stmts no_stmts h = none
    free_stmts (more_stmts s ss) h = join (mentions_of_stmt s) (mentions_of_stmts ss) (free_stmt s h.0) (free_stmts ss h.1)

    free_groups : (gs : Groups) → AreFreeGroups n gs → AreOther (mentions_of_groups gs)
    free_groups no_groups h = none
    free_groups (more_groups ls ss gs) h = join (mentions_of_stmts ss) (mentions_of_groups gs) (free_stmts ss h.0) (free_groups gs h.1)

  other_cell : (x : Value) → AreOther (mention_of_cell x)
  other_cell (v.Func f) = more (Named f) [] tt none
  other_cell _ = none

  each_other : {X : Type 0} (f : X → List Mention) (xs : List X) → ((k : ℕ) (x : X) → slice_get xs k ≡ Some x → AreOther (f x)) → AreOther (flat_map f xs)
  each_other f [] h = none
  each_other f (x ∷ xs) h = join (f x) (flat_map f xs) (h 0 x refl) (each_other f xs (λ k y e. h (suc k) y e))

-- no call of the program is a null call
pub calls_others : (p : Program) → MakesNoNullCall p → (x : Mention) → Contains (mentions_of_program p) x → IsOther (defined p) x
calls_others p h =
    join (defined p) (flat_map mentions_of_function p.functions) (flat_map mentions_of_static p.statics) (each_other (defined p) mentions_of_function p.functions (λ f g e. free_stmt (defined p) g.body (h f g e))) (each_other (defined p) mentions_of_static p.statics (λ k (s : Static) e. each_other (defined p) mention_of_cell s.cells (λ j x d. other_cell (defined p) x)))
