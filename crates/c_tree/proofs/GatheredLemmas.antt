-- Where what one gathering gives becomes what another gives, node by node, so does what is gathered from a tree.
use Rattle.std.proofs.Common.{◌≡◌, ℕ, List, [], ◌∷◌, ◌++◌, ap₂, ◌∙◌}
use Rattle.c_tree.specs.Tree.{CType, type_of}
use Rattle.c_tree.specs.Tree.{Expr, function_name, dereference, load, address_of, decay, discard, field, unary_operation, conversion, arithmetic, comparison, pointer_add, pointer_diff, and, or, assign, update, conditional, comma, call, call_through}
use Rattle.c_tree.specs.Tree.{Exprs, no_exprs, more_exprs, Maybe, absent, there, Inits, no_inits, more_inits}
use Rattle.c_tree.specs.Tree.{Stmt, block, evaluate, declare, if_else, while_loop, do_loop, for_loop, switch_on, return_value, Stmts, no_stmts, more_stmts, Groups, no_groups, more_groups}
use Rattle.c_tree.specs.Gathered.{Gathering, gathered, gathered_all, gathered_maybe, gathered_inits, gathered_stmt, gathered_stmts, gathered_groups}

-- each part becomes what it is to become, and lists are joined as before
pub record Becomes {X Y : Type 0} (g : Gathering X) (h : Gathering Y) (f : List X → List Y) : Type 0 where
  pub none : f [] ≡ []
  pub joined : (xs ys : List X) → f (xs ++ ys) ≡ f xs ++ f ys
  pub named : (n : ℕ) → f (g.named n) ≡ h.named n
  pub direct : (site n : ℕ) (xs : List X) (ys : List Y) → f xs ≡ ys → f (g.direct site n ∷ xs) ≡ h.direct site n ∷ ys
  pub through : (site : ℕ) (t : CType) (xs : List X) (ys : List Y) → f xs ≡ ys → f (g.through site t ∷ xs) ≡ h.through site t ∷ ys

module _ {X Y : Type 0} (g : Gathering X) (h : Gathering Y) (f : List X → List Y) (b : Becomes g h f) where
  both : (xs ys : List X) (us vs : List Y) → f xs ≡ us → f ys ≡ vs → f (xs ++ ys) ≡ us ++ vs
  both xs ys us vs e k = b.joined xs ys ∙ ap₂ (λ x y. x ++ y) e k

  three : (xs ys zs : List X) (us vs ws : List Y) → f xs ≡ us → f ys ≡ vs → f zs ≡ ws → f (xs ++ (ys ++ zs)) ≡ us ++ (vs ++ ws)
  three xs ys zs us vs ws e k l = both xs (ys ++ zs) us (vs ++ ws) e (both ys zs vs ws k l)

  pair : (a c : Expr) → f (gathered g a) ≡ gathered h a → f (gathered g c) ≡ gathered h c → f (gathered g a ++ gathered g c) ≡ gathered h a ++ gathered h c
  pair a c e k = both (gathered g a) (gathered g c) (gathered h a) (gathered h c) e k

  mutual
    pub becomes : (e : Expr) → f (gathered g e) ≡ gathered h e
    becomes (function_name t n) = b.named n
    becomes (dereference t a) = becomes a
    becomes (load t a) = becomes a
    becomes (address_of t a) = becomes a
    becomes (decay t a) = becomes a
    becomes (discard t a) = becomes a
    becomes (field t first a) = becomes a
    becomes (unary_operation t op a) = becomes a
    becomes (conversion t to a) = becomes a
    becomes (arithmetic t op a c) = pair a c (becomes a) (becomes c)
    becomes (comparison t op a c) = pair a c (becomes a) (becomes c)
    becomes (pointer_add t first subtracted a c) = pair a c (becomes a) (becomes c)
    becomes (pointer_diff t a c) = pair a c (becomes a) (becomes c)
    becomes (and t a c) = pair a c (becomes a) (becomes c)
    becomes (or t a c) = pair a c (becomes a) (becomes c)
    becomes (assign t a c) = pair a c (becomes a) (becomes c)
    becomes (update t op old a c) = pair a c (becomes a) (becomes c)
    becomes (conditional t x a c) = three (gathered g x) (gathered g a) (gathered g c) (gathered h x) (gathered h a) (gathered h c) (becomes x) (becomes a) (becomes c)
    becomes (comma t es) = all_become es
    becomes (call t site n es) = b.direct site n (gathered_all g es) (gathered_all h es) (all_become es)
    becomes (call_through t site a es) =
        both (gathered g a) (g.through site (type_of a) ∷ gathered_all g es) (gathered h a) (h.through site (type_of a) ∷ gathered_all h es) (becomes a) (b.through site (type_of a) (gathered_all g es) (gathered_all h es) (all_become es))
    becomes e = b.none

    pub all_become : (es : Exprs) → f (gathered_all g es) ≡ gathered_all h es
    all_become no_exprs = b.none
    all_become (more_exprs e es) = both (gathered g e) (gathered_all g es) (gathered h e) (gathered_all h es) (becomes e) (all_become es)

  maybe_becomes : (e : Maybe) → f (gathered_maybe g e) ≡ gathered_maybe h e
  maybe_becomes absent = b.none
  maybe_becomes (there e) = becomes e

  inits_become : (is : Inits) → f (gathered_inits g is) ≡ gathered_inits h is
  inits_become no_inits = b.none
  inits_become (more_inits cell e is) = both (gathered g e) (gathered_inits g is) (gathered h e) (gathered_inits h is) (becomes e) (inits_become is)

  mutual
    pub stmt_becomes : (s : Stmt) → f (gathered_stmt g s) ≡ gathered_stmt h s
    stmt_becomes (block ss) = stmts_become ss
    stmt_becomes (evaluate e) = becomes e
    stmt_becomes (declare x is) = inits_become is
    stmt_becomes (if_else e s u) = three (gathered g e) (gathered_stmt g s) (gathered_stmt g u) (gathered h e) (gathered_stmt h s) (gathered_stmt h u) (becomes e) (stmt_becomes s) (stmt_becomes u)
    stmt_becomes (while_loop e s) = both (gathered g e) (gathered_stmt g s) (gathered h e) (gathered_stmt h s) (becomes e) (stmt_becomes s)
    stmt_becomes (do_loop s e) = both (gathered_stmt g s) (gathered g e) (gathered_stmt h s) (gathered h e) (stmt_becomes s) (becomes e)
    stmt_becomes (for_loop first test step s) =
        both (gathered_stmts g first) (gathered_maybe g test ++ (gathered_maybe g step ++ gathered_stmt g s)) (gathered_stmts h first) (gathered_maybe h test ++ (gathered_maybe h step ++ gathered_stmt h s)) (stmts_become first)
        (three (gathered_maybe g test) (gathered_maybe g step) (gathered_stmt g s) (gathered_maybe h test) (gathered_maybe h step) (gathered_stmt h s) (maybe_becomes test) (maybe_becomes step) (stmt_becomes s))
    stmt_becomes (switch_on e gs) = both (gathered g e) (gathered_groups g gs) (gathered h e) (gathered_groups h gs) (becomes e) (groups_become gs)
    stmt_becomes (return_value e) = becomes e
    stmt_becomes s = b.none

    stmts_become : (ss : Stmts) → f (gathered_stmts g ss) ≡ gathered_stmts h ss
    stmts_become no_stmts = b.none
    stmts_become (more_stmts s ss) = both (gathered_stmt g s) (gathered_stmts g ss) (gathered_stmt h s) (gathered_stmts h ss) (stmt_becomes s) (stmts_become ss)

    groups_become : (gs : Groups) → f (gathered_groups g gs) ≡ gathered_groups h gs
    groups_become no_groups = b.none
    groups_become (more_groups ls ss gs) = both (gathered_stmts g ss) (gathered_groups g gs) (gathered_stmts h ss) (gathered_groups h gs) (stmts_become ss) (groups_become gs)
