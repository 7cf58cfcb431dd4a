-- Where the sites tell which calls are marked, the shapes are those of the program.
use Rattle.std.proofs.Common.{◌≡◌, ℕ, zero, suc, ◌+◌, ◌-◌, Bool, false, nat_lt, if◌then◌else◌, List, [], ◌∷◌, ◌++◌, map, flat_map, Contains, slice_index_or, refl, ap, ap₂, ◌∙◌, arith}
use Rattle.c_tree.specs.Tree.{Expr, constant, function_name, string_place, variable, dereference, load, address_of, decay, discard, field, unary_operation, conversion, arithmetic, comparison, pointer_add, pointer_diff, and, or, assign, update, conditional, comma, call, call_through, type_of}
use Rattle.c_tree.specs.Tree.{Exprs, no_exprs, more_exprs, Maybe, absent, there, Inits, no_inits, more_inits}
use Rattle.c_tree.specs.Tree.{Stmt, block, empty, evaluate, declare, if_else, while_loop, do_loop, for_loop, switch_on, break_off, continue_on, return_void, return_value, Stmts, no_stmts, more_stmts, Groups, no_groups, more_groups}
use Rattle.c_tree.specs.Tree.{Function, Program}
use Rattle.c_tree.specs.Functions.{defined}
use Rattle.c_tree.specs.Constants.{pattern_of}
use Rattle.c_tree.specs.Program.{IsProgram}
use Rattle.c_meaning.specs.Shape.{Skip, Call, Loop, Do, Cases, Return, Parts, End, Part}
use Rattle.c_meaning.specs.Mentions.{Callee, Direct, Through, Mention, Calls, mentions, mentions_of_all, mentions_of_maybe, mentions_of_inits, mentions_of_stmt, mentions_of_stmts, mentions_of_groups, mentions_of_function, mentions_of_static, mentions_of_program}
use Rattle.c_meaning.specs.CallGraph.{is_marked, marked, marked_where}
use Rattle.c_meaning.specs.ShapeOf.{seq, seq_two, alt, system_call, marked_call, direct_call, has_default, shape, shapes_before, shape_of_maybe, shapes_of_inits, shape_of_stmt, shapes_of_stmts, shapes_of_groups, shape_of_function}
use Rattle.flow_graph.specs.Sited.{call_at, direct_at, expr_at, exprs_at, maybe_at, inits_at, stmt_at, stmts_at, groups_at}
use Rattle.c_meaning.proofs.SitesSaid.{callee_found}
use Rattle.c_meaning.proofs.Members.{is_first, is_later}

in_left : {X : Type 0} (xs ys : List X) (z : X) → Contains xs z → Contains (xs ++ ys) z
in_left [] ys z (k, lt, is) = absurd (omega (arith, lt))
in_left (x ∷ xs) ys z (zero, lt, is) = (0, omega arith, is)
in_left (x ∷ xs) ys z (suc k, lt, is) = is_later x (xs ++ ys) z (in_left xs ys z (k, omega (arith, lt), is))

in_right : {X : Type 0} (xs ys : List X) (z : X) → Contains ys z → Contains (xs ++ ys) z
in_right [] ys z h = h
in_right (x ∷ xs) ys z h = is_later x (xs ++ ys) z (in_right xs ys z h)

module _ (p : Program) (ms : List Bool) where
  abbrev n : ℕ
  n = defined p

  -- the site of each of these calls tells whether it is marked
  pub record AreTold (said : List Mention) : Type 0 where
    pub told : (s : ℕ) (c : Callee) → Contains said (Calls s c) → slice_index_or ms s false ≡ is_marked p c

  left : (xs ys : List Mention) → AreTold (xs ++ ys) → AreTold xs
  left xs ys h = record { told = λ s c k. h.told s c (in_left xs ys (Calls s c) k) }

  right : (xs ys : List Mention) → AreTold (xs ++ ys) → AreTold ys
  right xs ys h = record { told = λ s c k. h.told s c (in_right xs ys (Calls s c) k) }

  later : (m : Mention) (ys : List Mention) → AreTold (m ∷ ys) → AreTold ys
  later m ys h = record { told = λ s c k. h.told s c (is_later m ys (Calls s c) k) }

  call_told : (s : ℕ) (c : Callee) (ys : List Mention) → AreTold (Calls s c ∷ ys) → call_at ms s ≡ marked_call p s c
  call_told s c ys h = ap (λ b. if b then Call s else Skip) (h.told s c (is_first (Calls s c) ys))

  direct_told : (s f : ℕ) (es : Exprs) (ys : List Mention) → AreTold (Calls s (Direct f) ∷ ys) → direct_at n ms s f es ≡ direct_call p s f es
  direct_told s f es ys h =
      ap (λ S. if nat_lt f (defined p) then S else (if nat_lt (f - defined p) 24 then system_call (f - defined p) (pattern_of (f - defined p) es) else Skip)) (call_told s (Direct f) ys h)

  mutual
    expr_told : (e : Expr) → AreTold (mentions e) → expr_at n ms e ≡ shape p e
    expr_told (dereference t a) h = expr_told a h
    expr_told (load t a) h = expr_told a h
    expr_told (address_of t a) h = expr_told a h
    expr_told (decay t a) h = expr_told a h
    expr_told (discard t a) h = expr_told a h
    expr_told (field t first a) h = expr_told a h
    expr_told (unary_operation t op a) h = expr_told a h
    expr_told (conversion t to a) h = expr_told a h
    expr_told (arithmetic t op a b) h = ap₂ seq_two (expr_told a (left (mentions a) (mentions b) h)) (expr_told b (right (mentions a) (mentions b) h))
    expr_told (comparison t op a b) h = ap₂ seq_two (expr_told a (left (mentions a) (mentions b) h)) (expr_told b (right (mentions a) (mentions b) h))
    expr_told (pointer_add t first subtracted a b) h = ap₂ seq_two (expr_told a (left (mentions a) (mentions b) h)) (expr_told b (right (mentions a) (mentions b) h))
    expr_told (pointer_diff t a b) h = ap₂ seq_two (expr_told a (left (mentions a) (mentions b) h)) (expr_told b (right (mentions a) (mentions b) h))
    expr_told (and t a b) h = ap₂ (λ S T. seq_two S (alt T Skip)) (expr_told a (left (mentions a) (mentions b) h)) (expr_told b (right (mentions a) (mentions b) h))
    expr_told (or t a b) h = ap₂ (λ S T. seq_two S (alt T Skip)) (expr_told a (left (mentions a) (mentions b) h)) (expr_told b (right (mentions a) (mentions b) h))
    expr_told (assign t a b) h = ap₂ seq_two (expr_told a (left (mentions a) (mentions b) h)) (expr_told b (right (mentions a) (mentions b) h))
    expr_told (update t op old a b) h = ap₂ seq_two (expr_told a (left (mentions a) (mentions b) h)) (expr_told b (right (mentions a) (mentions b) h))
    expr_told (conditional t c a b) h =
        let k = right (mentions c) (mentions a ++ mentions b) h in
        ap₂ seq_two (expr_told c (left (mentions c) (mentions a ++ mentions b) h)) (ap₂ alt (expr_told a (left (mentions a) (mentions b) k)) (expr_told b (right (mentions a) (mentions b) k)))
    expr_told (comma t es) h = ap seq (exprs_told es End h)
    expr_told (call t s f es) h =
        ap seq (ap (λ S. exprs_at n ms es (Part S End)) (direct_told s f es (mentions_of_all es) h) ∙ exprs_told es (Part (direct_call p s f es) End) (later (Calls s (Direct f)) (mentions_of_all es) h))
    expr_told (call_through t s a es) h =
        let c = Through (type_of a) in
        let k = right (mentions a) (Calls s c ∷ mentions_of_all es) h in
        ap seq (ap₂ Part (expr_told a (left (mentions a) (Calls s c ∷ mentions_of_all es) h)) (ap (λ S. exprs_at n ms es (Part S End)) (call_told s c (mentions_of_all es) k) ∙ exprs_told es (Part (marked_call p s c) End) (later (Calls s c) (mentions_of_all es) k)))
    expr_told e h = refl

    exprs_told : (es : Exprs) (ps : Parts) → AreTold (mentions_of_all es) → exprs_at n ms es ps ≡ shapes_before p es ps
    exprs_told no_exprs ps h = refl
    exprs_told (more_exprs e es) ps h = ap₂ Part (expr_told e (left (mentions e) (mentions_of_all es) h)) (exprs_told es ps (right (mentions e) (mentions_of_all es) h))

  maybe_told : (e : Maybe) → AreTold (mentions_of_maybe e) → maybe_at n ms e ≡ shape_of_maybe p e
  maybe_told absent h = refl
  maybe_told (there e) h = expr_told e h

  inits_told : (is : Inits) → AreTold (mentions_of_inits is) → inits_at n ms is ≡ shapes_of_inits p is
  inits_told no_inits h = refl
  inits_told (more_inits cell e is) h = ap₂ Part (expr_told e (left (mentions e) (mentions_of_inits is) h)) (inits_told is (right (mentions e) (mentions_of_inits is) h))

  mutual
    stmt_told : (s : Stmt) → AreTold (mentions_of_stmt s) → stmt_at n ms s ≡ shape_of_stmt p s
    stmt_told (block ss) h = ap seq (stmts_told ss h)
    stmt_told (evaluate e) h = expr_told e h
    stmt_told (declare x is) h = ap seq (inits_told is h)
    stmt_told (if_else e s u) h =
        let k = right (mentions e) (mentions_of_stmt s ++ mentions_of_stmt u) h in
        ap₂ seq_two (expr_told e (left (mentions e) (mentions_of_stmt s ++ mentions_of_stmt u) h)) (ap₂ alt (stmt_told s (left (mentions_of_stmt s) (mentions_of_stmt u) k)) (stmt_told u (right (mentions_of_stmt s) (mentions_of_stmt u) k)))
    stmt_told (while_loop e s) h = ap₂ (λ C B. Loop C B Skip) (expr_told e (left (mentions e) (mentions_of_stmt s) h)) (stmt_told s (right (mentions e) (mentions_of_stmt s) h))
    stmt_told (do_loop s e) h = ap₂ Do (stmt_told s (left (mentions_of_stmt s) (mentions e) h)) (expr_told e (right (mentions_of_stmt s) (mentions e) h))
    stmt_told (for_loop first test step s) h =
        let a = mentions_of_stmts first in
        let b = mentions_of_maybe test in
        let c = mentions_of_maybe step in
        let d = mentions_of_stmt s in
        let k = right a (b ++ (c ++ d)) h in
        let l = right b (c ++ d) k in
        ap₂ seq_two (ap seq (stmts_told first (left a (b ++ (c ++ d)) h)))
        (ap (λ C. Loop C (stmt_at n ms s) (maybe_at n ms step)) (maybe_told test (left b (c ++ d) k)) ∙ ap₂ (Loop (shape_of_maybe p test)) (stmt_told s (right c d l)) (maybe_told step (left c d l)))
    stmt_told (switch_on e gs) h =
        ap₂ (λ S ps. seq_two S (Cases ps (has_default gs))) (expr_told e (left (mentions e) (mentions_of_groups gs) h)) (groups_told gs (right (mentions e) (mentions_of_groups gs) h))
    stmt_told (return_value e) h = ap (λ S. seq_two S Return) (expr_told e h)
    stmt_told s h = refl

    stmts_told : (ss : Stmts) → AreTold (mentions_of_stmts ss) → stmts_at n ms ss ≡ shapes_of_stmts p ss
    stmts_told no_stmts h = refl
    stmts_told (more_stmts s ss) h = ap₂ Part (stmt_told s (left (mentions_of_stmt s) (mentions_of_stmts ss) h)) (stmts_told ss (right (mentions_of_stmt s) (mentions_of_stmts ss) h))

    groups_told : (gs : Groups) → AreTold (mentions_of_groups gs) → groups_at n ms gs ≡ shapes_of_groups p gs
    groups_told no_groups h = refl
    groups_told (more_groups ls ss gs) h = ap₂ Part (ap seq (stmts_told ss (left (mentions_of_stmts ss) (mentions_of_groups gs) h))) (groups_told gs (right (mentions_of_stmts ss) (mentions_of_groups gs) h))

  functions_told : (fs : List Function) → AreTold (flat_map mentions_of_function fs) → map (λ (f : Function). stmt_at n ms f.body) fs ≡ map (shape_of_function p) fs
  functions_told [] h = refl
  functions_told (f ∷ fs) h =
      ap₂ (λ S Ss. S ∷ Ss) (stmt_told f.body (left (mentions_of_function f) (flat_map mentions_of_function fs) h)) (functions_told fs (right (mentions_of_function f) (flat_map mentions_of_function fs) h))

-- the defined functions of a well-typed program
pub defined_told : (p : Program) (k : ℕ) → IsProgram p k → (ms : List Bool) → ((s : ℕ) → slice_index_or ms s false ≡ marked p s) → map (λ (f : Function). stmt_at (defined p) ms f.body) p.functions ≡ map (shape_of_function p) p.functions
defined_told p k h ms are =
    let all : AreTold p ms (mentions_of_program p) = record { told = λ s c i. are s ∙ ap (marked_where p) (callee_found p k h s c i) } in
    functions_told p ms p.functions (left p ms (flat_map mentions_of_function p.functions) (flat_map mentions_of_static p.statics) all)
