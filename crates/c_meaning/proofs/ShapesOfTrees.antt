-- What holds of the parts of a tree's shape holds of the whole.
use Rattle.std.proofs.Common.{◌≡◌, ℕ, ◌+◌, ◌-◌, ◌≤◌, Bool, true, false, nat_eq, nat_lt, if◌then◌else◌, List, [], ◌∷◌, ◌++◌, map, Option, None, ℤ, sym, subst, refl, arith}
use Rattle.sys_table.specs.Table.{IsRight, recorded_of, FitsEntry}
use Rattle.sys_table.specs.declared.kinds.ArgKind.{ArgKind}
use Rattle.std.specs.List.{AllZip}
use Rattle.c_meaning.specs.Tree.{CType, Expr, dereference, load, address_of, decay, discard, field, unary_operation, conversion, arithmetic, comparison, pointer_add, pointer_diff, and, or, assign, update, conditional, comma, call, call_through, type_of}
use Rattle.c_meaning.specs.Tree.{Exprs, no_exprs, more_exprs, Maybe, absent, there, Inits, no_inits, more_inits}
use Rattle.c_meaning.specs.Tree.{Stmt, block, empty, evaluate, declare, if_else, while_loop, do_loop, for_loop, switch_on, break_off, continue_on, return_void, return_value, Stmts, no_stmts, more_stmts, Groups, no_groups, more_groups}
use Rattle.c_meaning.specs.Tree.{Program}
use Rattle.c_meaning.specs.Functions.{defined}
use Rattle.c_meaning.specs.Constants.{pattern_of}
use Rattle.c_meaning.specs.Typed.{IsStmt, AreStmts, AreGroups, AreFirst, IsFirst}
use Rattle.c_meaning.specs.IntType.{IntType}
use Rattle.c_meaning.proofs.Lists.{same_number, if_has}
use Rattle.c_tree.specs.Gathered.{Gathering, gathered, gathered_all, gathered_maybe, gathered_inits, gathered_stmt, gathered_stmts, gathered_groups}
use Rattle.c_meaning.specs.Sites.{all_sites}
use Rattle.c_meaning.proofs.PatternLemmas.{patterns_right}
use Rattle.c_meaning.specs.Shape.{Shape, Skip, Sys, Exit, Call, Seq, Alt, Loop, Do, Cases, Break, Continue, Return, Parts, End, Part, exit_call}
use Rattle.c_meaning.specs.Bodies.{IsExpression, AreExpressions, IsStatement, AreStatements, IsBody}
use Rattle.c_meaning.specs.Mentions.{Callee, Direct, Through}
use Rattle.c_meaning.specs.CallGraph.{is_marked}
use Rattle.c_meaning.specs.ShapeOf.{before_parts, without_skips, in_turn, seq, seq_two, alt, system_call, marked_call, direct_call, shape, shapes_before, shape_of_maybe, shapes_of_inits, shape_of_stmt, shapes_of_stmts, shapes_of_groups, any_call, has_default}
use Rattle.c_meaning.specs.Premises.{HasRightCalls, HaveRightCalls}
use Rattle.c_meaning.proofs.Owns.{statement}

-- a fact on shapes, each with a number, that the whole has with the sum where its parts have it; it stays where the number grows
pub record Spreads (P : Shape → ℕ → Type 0) (Ps : Parts → ℕ → Type 0) : Type 0 where
  pub skip : (n : ℕ) → P Skip n
  pub none : (n : ℕ) → Ps End n
  pub some : (S : Shape) (ps : Parts) (m n : ℕ) → P S m → Ps ps n → Ps (Part S ps) (m + n)
  pub split : (S : Shape) (ps : Parts) (n : ℕ) → Ps (Part S ps) n → (m : ℕ) × (k : ℕ) × (m + k ≤ n) × P S m × Ps ps k
  pub row : (S : Shape) (ps : Parts) (n : ℕ) → Ps (Part S ps) n → P (Seq S ps) n
  pub either : (S T : Shape) (m n : ℕ) → P S m → P T n → P (Alt S T) (m + n)
  pub more : (S : Shape) (m n : ℕ) → P S m → m ≤ n → P S n
  pub parts_more : (ps : Parts) (m n : ℕ) → Ps ps m → m ≤ n → Ps ps n

-- the same for the shapes of statements
pub record Stands (P : Shape → ℕ → Type 0) (Ps : Parts → ℕ → Type 0) : Type 0 where
  pub loop : (C B T : Shape) (l m n : ℕ) → P C l → P B m → P T n → P (Loop C B T) (l + m + n)
  pub until : (B C : Shape) (m n : ℕ) → P B m → P C n → P (Do B C) (m + n)
  pub cases : (ps : Parts) (d : Bool) (n : ℕ) → Ps ps n → P (Cases ps d) n
  pub breaks : (n : ℕ) → P Break n
  pub continues : (n : ℕ) → P Continue n
  pub returns : (n : ℕ) → P Return n

module _ (P : Shape → ℕ → Type 0) (Ps : Parts → ℕ → Type 0) (w : Spreads P Ps) where
  before_has : (S : Shape) (ps : Parts) (m n : ℕ) → P S m → Ps ps n → Ps (before_parts S ps) (m + n)
  before_has Skip ps m n h k = w.parts_more ps n (m + n) k (omega arith)
  before_has S ps m n h k = w.some S ps m n h k

  skips_have : (ps : Parts) (n : ℕ) → Ps ps n → Ps (without_skips ps) n
  skips_have End n h = h
  skips_have (Part S ps) n h = let (m, k, le, one, others) = w.split S ps n h in w.parts_more (before_parts S (without_skips ps)) (m + k) n (before_has S (without_skips ps) m k one (skips_have ps k others)) le

  turn_has : (ps : Parts) (n : ℕ) → Ps ps n → P (in_turn ps) n
  turn_has End n h = w.skip n
  turn_has (Part S End) n h = let (m, k, le, one, others) = w.split S End n h in w.more S m n one (omega (arith, le))
  turn_has (Part S (Part T ps)) n h = w.row S (Part T ps) n h

  pub seq_has : (ps : Parts) (n : ℕ) → Ps ps n → P (seq ps) n
  seq_has ps n h = turn_has (without_skips ps) n (skips_have ps n h)

  last_has : (S : Shape) (n : ℕ) → P S n → Ps (Part S End) n
  last_has S n h = w.parts_more (Part S End) (n + 0) n (w.some S End n 0 h (w.none 0)) (omega arith)

  pub seq_two_has : (S T : Shape) (m n : ℕ) → P S m → P T n → P (seq_two S T) (m + n)
  seq_two_has S T m n h k = seq_has (Part S (Part T End)) (m + n) (w.some S (Part T End) m n h (last_has T n k))

  pub alt_has : (S T : Shape) (m n : ℕ) → P S m → P T n → P (alt S T) (m + n)
  alt_has Skip Skip m n h k = w.skip (m + n)
  alt_has S T m n h k = w.either S T m n h k

  or_skip : (S : Shape) (n : ℕ) → P S n → P (alt S Skip) n
  or_skip S n h = w.more (alt S Skip) (n + 0) n (alt_has S Skip n 0 h (w.skip 0)) (omega arith)

  -- a call at a site, which may be Skip
  marked_has : (p : Program) (s : ℕ) (callee : Callee) (n : ℕ) → (is_marked p callee ≡ true → P (Call s) n) → P (marked_call p s callee) n
  marked_has p s callee n h = if_has (λ S. P S n) (is_marked p callee) (Call s) Skip h (λ no. w.skip n)

  -- the number of a tree is that of what is gathered from it
  module _ {X : Type 0} (g : Gathering X) (c : List X → ℕ) (joins : (xs ys : List X) → c (xs ++ ys) ≡ c xs + c ys) (p : Program) (called : (s f : ℕ) → is_marked p (Direct f) ≡ true → P (Call s) (c (g.direct s f ∷ []))) (called_through : (s : ℕ) (t : CType) → is_marked p (Through t) ≡ true → P (Call s) (c (g.through s t ∷ []))) (system : (s f : ℕ) (es : Exprs) → nat_lt f (defined p) ≡ false → nat_lt (f - defined p) 24 ≡ true → P (system_call (f - defined p) (pattern_of (f - defined p) es)) (c (g.direct s f ∷ []))) where
    direct : (s f : ℕ) (es : Exprs) → P (direct_call p s f es) (c (g.direct s f ∷ []))
    direct s f es =
        let x = f - defined p in
        let n = c (g.direct s f ∷ []) in
        if_has (λ S. P S n) (nat_lt f (defined p)) (marked_call p s (Direct f)) (if nat_lt x 24 then system_call x (pattern_of x es) else Skip) (λ h. marked_has p s (Direct f) n (called s f)) (λ h. if_has (λ S. P S n) (nat_lt x 24) (system_call x (pattern_of x es)) Skip (λ k. system s f es h k) (λ k. w.skip n))

    two : (S T : Shape) (xs ys : List X) → P S (c xs) → P T (c ys) → P (seq_two S T) (c (xs ++ ys))
    two S T xs ys h k = subst (λ n. P (seq_two S T) n) (sym (joins xs ys)) (seq_two_has S T (c xs) (c ys) h k)

    one_of : (S T : Shape) (xs ys : List X) → P S (c xs) → P T (c ys) → P (alt S T) (c (xs ++ ys))
    one_of S T xs ys h k = subst (λ n. P (alt S T) n) (sym (joins xs ys)) (alt_has S T (c xs) (c ys) h k)

    part : (S : Shape) (ps : Parts) (xs ys : List X) → P S (c xs) → Ps ps (c ys) → Ps (Part S ps) (c (xs ++ ys))
    part S ps xs ys h k = subst (λ n. Ps (Part S ps) n) (sym (joins xs ys)) (w.some S ps (c xs) (c ys) h k)

    mutual
      pub expression_has : (e : Expr) → P (shape p e) (c (gathered g e))
      expression_has (dereference t a) = expression_has a
      expression_has (load t a) = expression_has a
      expression_has (address_of t a) = expression_has a
      expression_has (decay t a) = expression_has a
      expression_has (discard t a) = expression_has a
      expression_has (field t first a) = expression_has a
      expression_has (unary_operation t op a) = expression_has a
      expression_has (conversion t to a) = expression_has a
      expression_has (arithmetic t op a b) = two (shape p a) (shape p b) (gathered g a) (gathered g b) (expression_has a) (expression_has b)
      expression_has (comparison t op a b) = two (shape p a) (shape p b) (gathered g a) (gathered g b) (expression_has a) (expression_has b)
      expression_has (pointer_add t first subtracted a b) = two (shape p a) (shape p b) (gathered g a) (gathered g b) (expression_has a) (expression_has b)
      expression_has (pointer_diff t a b) = two (shape p a) (shape p b) (gathered g a) (gathered g b) (expression_has a) (expression_has b)
      expression_has (and t a b) = two (shape p a) (alt (shape p b) Skip) (gathered g a) (gathered g b) (expression_has a) (or_skip (shape p b) (c (gathered g b)) (expression_has b))
      expression_has (or t a b) = two (shape p a) (alt (shape p b) Skip) (gathered g a) (gathered g b) (expression_has a) (or_skip (shape p b) (c (gathered g b)) (expression_has b))
      expression_has (assign t a b) = two (shape p a) (shape p b) (gathered g a) (gathered g b) (expression_has a) (expression_has b)
      expression_has (update t op old a b) = two (shape p a) (shape p b) (gathered g a) (gathered g b) (expression_has a) (expression_has b)
      expression_has (conditional t e a b) = two (shape p e) (alt (shape p a) (shape p b)) (gathered g e) (gathered g a ++ gathered g b) (expression_has e) (one_of (shape p a) (shape p b) (gathered g a) (gathered g b) (expression_has a) (expression_has b))
      expression_has (comma t es) = seq_has (shapes_before p es End) (c (gathered_all g es)) (w.parts_more (shapes_before p es End) (c (gathered_all g es) + 0) (c (gathered_all g es)) (expressions_have es End 0 (w.none 0)) (omega arith))
      expression_has (call t s f es) =
          let d = direct_call p s f es in
          let x = g.direct s f in
          let k = joins (x ∷ []) (gathered_all g es) in
          seq_has (shapes_before p es (Part d End)) (c (x ∷ gathered_all g es)) (w.parts_more (shapes_before p es (Part d End)) (c (gathered_all g es) + c (x ∷ [])) (c (x ∷ gathered_all g es)) (expressions_have es (Part d End) (c (x ∷ [])) (last_has d (c (x ∷ [])) (direct s f es))) (omega (arith, k)))
      expression_has (call_through t s a es) =
          let d = marked_call p s (Through (type_of a)) in
          let x = g.through s (type_of a) in
          let k = joins (x ∷ []) (gathered_all g es) in
          seq_has (Part (shape p a) (shapes_before p es (Part d End))) (c (gathered g a ++ (x ∷ gathered_all g es))) (part (shape p a) (shapes_before p es (Part d End)) (gathered g a) (x ∷ gathered_all g es) (expression_has a) (w.parts_more (shapes_before p es (Part d End)) (c (gathered_all g es) + c (x ∷ [])) (c (x ∷ gathered_all g es)) (expressions_have es (Part d End) (c (x ∷ [])) (last_has d (c (x ∷ [])) (marked_has p s (Through (type_of a)) (c (x ∷ [])) (called_through s (type_of a))))) (omega (arith, k))))
      expression_has e = w.skip (c (gathered g e))

      expressions_have : (es : Exprs) (ps : Parts) (n : ℕ) → Ps ps n → Ps (shapes_before p es ps) (c (gathered_all g es) + n)
      expressions_have no_exprs ps n h = w.parts_more ps n (c [] + n) h (omega arith)
      expressions_have (more_exprs e es) ps n h =
          let k = joins (gathered g e) (gathered_all g es) in
          w.parts_more (Part (shape p e) (shapes_before p es ps)) (c (gathered g e) + (c (gathered_all g es) + n)) (c (gathered g e ++ gathered_all g es) + n) (w.some (shape p e) (shapes_before p es ps) (c (gathered g e)) (c (gathered_all g es) + n) (expression_has e) (expressions_have es ps n h)) (omega (arith, k))

    pub maybe_has : (m : Maybe) → P (shape_of_maybe p m) (c (gathered_maybe g m))
    maybe_has absent = w.skip (c [])
    maybe_has (there e) = expression_has e

    pub inits_have : (is : Inits) → Ps (shapes_of_inits p is) (c (gathered_inits g is))
    inits_have no_inits = w.none (c [])
    inits_have (more_inits cell e is) = part (shape p e) (shapes_of_inits p is) (gathered g e) (gathered_inits g is) (expression_has e) (inits_have is)

    module _ (v : Stands P Ps) where
      mutual
        pub tree_has : (s : Stmt) → P (shape_of_stmt p s) (c (gathered_stmt g s))
        tree_has (block ss) = seq_has (shapes_of_stmts p ss) (c (gathered_stmts g ss)) (trees_have ss)
        tree_has empty = w.skip (c [])
        tree_has (evaluate e) = expression_has e
        tree_has (declare x is) = seq_has (shapes_of_inits p is) (c (gathered_inits g is)) (inits_have is)
        tree_has (if_else e s u) = two (shape p e) (alt (shape_of_stmt p s) (shape_of_stmt p u)) (gathered g e) (gathered_stmt g s ++ gathered_stmt g u) (expression_has e) (one_of (shape_of_stmt p s) (shape_of_stmt p u) (gathered_stmt g s) (gathered_stmt g u) (tree_has s) (tree_has u))
        tree_has (while_loop e s) =
            let k = joins (gathered g e) (gathered_stmt g s) in
            w.more (Loop (shape p e) (shape_of_stmt p s) Skip) (c (gathered g e) + c (gathered_stmt g s) + 0) (c (gathered g e ++ gathered_stmt g s)) (v.loop (shape p e) (shape_of_stmt p s) Skip (c (gathered g e)) (c (gathered_stmt g s)) 0 (expression_has e) (tree_has s) (w.skip 0)) (omega (arith, k))
        tree_has (do_loop s e) = subst (λ n. P (Do (shape_of_stmt p s) (shape p e)) n) (sym (joins (gathered_stmt g s) (gathered g e))) (v.until (shape_of_stmt p s) (shape p e) (c (gathered_stmt g s)) (c (gathered g e)) (tree_has s) (expression_has e))
        tree_has (for_loop first test step s) =
            let l = Loop (shape_of_maybe p test) (shape_of_stmt p s) (shape_of_maybe p step) in
            let k = joins (gathered_maybe g test) (gathered_maybe g step ++ gathered_stmt g s) in
            let i = joins (gathered_maybe g step) (gathered_stmt g s) in
            two (seq (shapes_of_stmts p first)) l (gathered_stmts g first) (gathered_maybe g test ++ (gathered_maybe g step ++ gathered_stmt g s)) (seq_has (shapes_of_stmts p first) (c (gathered_stmts g first)) (trees_have first)) (w.more l (c (gathered_maybe g test) + c (gathered_stmt g s) + c (gathered_maybe g step)) (c (gathered_maybe g test ++ (gathered_maybe g step ++ gathered_stmt g s))) (v.loop (shape_of_maybe p test) (shape_of_stmt p s) (shape_of_maybe p step) (c (gathered_maybe g test)) (c (gathered_stmt g s)) (c (gathered_maybe g step)) (maybe_has test) (tree_has s) (maybe_has step)) (omega (arith, k, i)))
        tree_has (switch_on e gs) = two (shape p e) (Cases (shapes_of_groups p gs) (has_default gs)) (gathered g e) (gathered_groups g gs) (expression_has e) (v.cases (shapes_of_groups p gs) (has_default gs) (c (gathered_groups g gs)) (groups_of_trees gs))
        tree_has break_off = v.breaks (c [])
        tree_has continue_on = v.continues (c [])
        tree_has return_void = v.returns (c [])
        tree_has (return_value e) = w.more (seq_two (shape p e) Return) (c (gathered g e) + 0) (c (gathered g e)) (seq_two_has (shape p e) Return (c (gathered g e)) 0 (expression_has e) (v.returns 0)) (omega arith)

        trees_have : (ss : Stmts) → Ps (shapes_of_stmts p ss) (c (gathered_stmts g ss))
        trees_have no_stmts = w.none (c [])
        trees_have (more_stmts s ss) = part (shape_of_stmt p s) (shapes_of_stmts p ss) (gathered_stmt g s) (gathered_stmts g ss) (tree_has s) (trees_have ss)

        groups_of_trees : (gs : Groups) → Ps (shapes_of_groups p gs) (c (gathered_groups g gs))
        groups_of_trees no_groups = w.none (c [])
        groups_of_trees (more_groups ls ss gs) = part (seq (shapes_of_stmts p ss)) (shapes_of_groups p gs) (gathered_stmts g ss) (gathered_groups g gs) (seq_has (shapes_of_stmts p ss) (c (gathered_stmts g ss)) (trees_have ss)) (groups_of_trees gs)

-- expressions are never left but at their end
expressions_spread : Spreads (λ S n. IsExpression S) (λ ps n. AreExpressions ps)
expressions_spread = record { skip = λ n. tt; none = λ n. tt; some = λ S ps m n h k. (h, k); split = λ S ps n h. (0, n, omega arith, h.0, h.1); row = λ S ps n h. h; either = λ S T m n h k. (h, k); more = λ S m n h le. h; parts_more = λ ps m n h le. h }

system_expression : (x : ℕ) (q : List (Option ℤ)) (b : Bool) → IsExpression (if b then Exit q else Sys x q)
system_expression x q b = if_has IsExpression b (Exit q) (Sys x q) (λ h. tt) (λ h. tt)

pub expression : (p : Program) (e : Expr) → IsExpression (shape p e)
expression p e = expression_has (λ S n. IsExpression S) (λ ps n. AreExpressions ps) expressions_spread all_sites (λ xs. 0) (λ xs ys. refl) p (λ s f h. tt) (λ s t h. tt) (λ s f es h k. system_expression (f - defined p) (pattern_of (f - defined p) es) (nat_eq (f - defined p) exit_call)) e

pub expression_of_maybe : (p : Program) (m : Maybe) → IsExpression (shape_of_maybe p m)
expression_of_maybe p m = maybe_has (λ S n. IsExpression S) (λ ps n. AreExpressions ps) expressions_spread all_sites (λ xs. 0) (λ xs ys. refl) p (λ s f h. tt) (λ s t h. tt) (λ s f es h k. system_expression (f - defined p) (pattern_of (f - defined p) es) (nat_eq (f - defined p) exit_call)) m

expressions_of_inits : (p : Program) (is : Inits) → AreExpressions (shapes_of_inits p is)
expressions_of_inits p is = inits_have (λ S n. IsExpression S) (λ ps n. AreExpressions ps) expressions_spread all_sites (λ xs. 0) (λ xs ys. refl) p (λ s f h. tt) (λ s t h. tt) (λ s f es h k. system_expression (f - defined p) (pattern_of (f - defined p) es) (nat_eq (f - defined p) exit_call)) is

-- statements that are well-typed have their breaks and continues in loops and switches
statements_spread : (b c : Bool) → Spreads (λ S n. IsStatement S b c) (λ ps n. AreStatements ps b c)
statements_spread b c = record { skip = λ n. tt; none = λ n. tt; some = λ S ps m n h k. (h, k); split = λ S ps n h. (0, n, omega arith, h.0, h.1); row = λ S ps n h. h; either = λ S T m n h k. (h, k); more = λ S m n h le. h; parts_more = λ ps m n h le. h }

module _ (p : Program) (vars : List CType) (r : CType) where
  abbrev of_two : (b c : Bool) (S T : Shape) → IsStatement S b c → IsStatement T b c → IsStatement (seq_two S T) b c
  of_two b c S T h k = seq_two_has (λ S n. IsStatement S b c) (λ ps n. AreStatements ps b c) (statements_spread b c) S T 0 0 h k

  abbrev of_seq : (b c : Bool) (ps : Parts) → AreStatements ps b c → IsStatement (seq ps) b c
  of_seq b c ps h = seq_has (λ S n. IsStatement S b c) (λ ps n. AreStatements ps b c) (statements_spread b c) ps 0 h

  of_expression : (b c : Bool) (e : Expr) → IsStatement (shape p e) b c
  of_expression b c e = statement (shape p e) b c (expression p e)

  of_declare : (b c : Bool) (is : Inits) → IsStatement (seq (shapes_of_inits p is)) b c
  of_declare b c is = statement (seq (shapes_of_inits p is)) b c (seq_has (λ S n. IsExpression S) (λ ps n. AreExpressions ps) expressions_spread (shapes_of_inits p is) 0 (expressions_of_inits p is))

  first_has : (b c : Bool) (s : Stmt) → IsFirst p vars s → IsStatement (shape_of_stmt p s) b c
  first_has b c (evaluate e) h = of_expression b c e
  first_has b c (declare x is) h = of_declare b c is
  first_has b c _ h = absurd h

  firsts_have : (b c : Bool) (ss : Stmts) → AreFirst p vars ss → AreStatements (shapes_of_stmts p ss) b c
  firsts_have b c no_stmts h = tt
  firsts_have b c (more_stmts s ss) h = (first_has b c s h.0, firsts_have b c ss h.1)

  mutual
    pub statement_has : (s : Stmt) (b c : Bool) → IsStmt p vars r b c s → IsStatement (shape_of_stmt p s) b c
    statement_has (block ss) b c h = of_seq b c (shapes_of_stmts p ss) (statements_have ss b c h)
    statement_has (evaluate e) b c h = of_expression b c e
    statement_has (declare x is) b c h = of_declare b c is
    statement_has (if_else e s u) b c h = of_two b c (shape p e) (alt (shape_of_stmt p s) (shape_of_stmt p u)) (of_expression b c e) (alt_has (λ S n. IsStatement S b c) (λ ps n. AreStatements ps b c) (statements_spread b c) (shape_of_stmt p s) (shape_of_stmt p u) 0 0 (statement_has s b c h.1) (statement_has u b c h.2))
    statement_has (while_loop e s) b c h = (expression p e, statement_has s true true h.1, tt)
    statement_has (do_loop s e) b c h = (statement_has s true true h.0, expression p e)
    statement_has (for_loop first test step s) b c h = of_two b c (seq (shapes_of_stmts p first)) (Loop (shape_of_maybe p test) (shape_of_stmt p s) (shape_of_maybe p step)) (of_seq b c (shapes_of_stmts p first) (firsts_have b c first h.0)) (expression_of_maybe p test, statement_has s true true h.3, expression_of_maybe p step)
    statement_has (switch_on e gs) b c (i, t, u, k, few, h) = of_two b c (shape p e) (Cases (shapes_of_groups p gs) (has_default gs)) (of_expression b c e) (groups_have gs c i h)
    statement_has break_off b c h = h
    statement_has continue_on b c h = h
    statement_has (return_value e) b c h = of_two b c (shape p e) Return (of_expression b c e) tt
    statement_has s b c h = tt

    statements_have : (ss : Stmts) (b c : Bool) → AreStmts p vars r b c ss → AreStatements (shapes_of_stmts p ss) b c
    statements_have no_stmts b c h = tt
    statements_have (more_stmts s ss) b c h = (statement_has s b c h.0, statements_have ss b c h.1)

    groups_have : (gs : Groups) (c : Bool) (i : IntType) → AreGroups p vars r c i gs → AreStatements (shapes_of_groups p gs) true c
    groups_have no_groups c i h = tt
    groups_have (more_groups ls ss gs) c i h = (of_seq true c (shapes_of_stmts p ss) (statements_have ss true c h.1), groups_have gs c i h.2)

-- patterns are right
calls_spread : Spreads (λ S n. HasRightCalls S) (λ ps n. HaveRightCalls ps)
calls_spread = record { skip = λ n. tt; none = λ n. tt; some = λ S ps m n h k. (h, k); split = λ S ps n h. (0, n, omega arith, h.0, h.1); row = λ S ps n h. h; either = λ S T m n h k. (h, k); more = λ S m n h le. h; parts_more = λ ps m n h le. h }

right_system : (x : ℕ) (q : List (Option ℤ)) → IsRight x q → HasRightCalls (system_call x q)
right_system x q h = if_has HasRightCalls (nat_eq x exit_call) (Exit q) (Sys x q) (λ e. subst (λ y. IsRight y q) (same_number x exit_call e) h) (λ e. h)

calls_stand : Stands (λ S n. HasRightCalls S) (λ ps n. HaveRightCalls ps)
calls_stand = record { loop = λ C B T l m n h i k. (h, i, k); until = λ B C m n h k. (h, k); cases = λ ps d n h. h; breaks = λ n. tt; continues = λ n. tt; returns = λ n. tt }

pub right_stmt : (p : Program) (s : Stmt) → HasRightCalls (shape_of_stmt p s)
right_stmt p s = tree_has (λ S n. HasRightCalls S) (λ ps n. HaveRightCalls ps) calls_spread all_sites (λ xs. 0) (λ xs ys. refl) p (λ s f h. tt) (λ s t h. tt) (λ s f es h k. right_system (f - defined p) (pattern_of (f - defined p) es) (patterns_right (f - defined p) es)) calls_stand s

-- a system call as a function
any_right : (kinds : List ArgKind) → AllZip FitsEntry kinds (map (λ kind. None) kinds)
any_right [] = record {}
any_right (kind ∷ kinds) = (tt, any_right kinds)

pub right_any : (x : ℕ) → HasRightCalls (any_call x)
right_any x = right_system x (map (λ kind. None) (recorded_of x)) (any_right (recorded_of x))

pub any_body : (x : ℕ) → IsBody (any_call x)
any_body x = statement (any_call x) false false (system_expression x (map (λ kind. None) (recorded_of x)) (nat_eq x exit_call))
