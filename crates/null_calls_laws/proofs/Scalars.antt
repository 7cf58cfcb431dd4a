-- The temporaries of a well-typed program's marked calls have scalar types: each is one cell.
use Rattle.std.proofs.Common.{◌≡◌, ℕ, Bool, true, false, List, [], ◌∷◌, ◌++◌, map, All, Some, slice_get, sym, ap, ◌∙◌, subst, refl, ◌-◌, nat_lt, append_assoc}
use Rattle.std.proofs.lemmas.Bool.{false≢true}
use Rattle.std.specs.List.{list_all}
use Rattle.std.proofs.lemmas.List.Elements.{All-nil, All-cons, All-append, All-contains}
use Rattle.std.proofs.lemmas.List.Sums.{AllPass-from_list_all}
use Rattle.c_tree.specs.declared.value.IntType.{IntType}
use Rattle.c_tree.specs.Tree.{CType, void, pointer, function, CTypes, no_types, more_types, list_of, Program, type_of}
use Rattle.c_tree.specs.Tree.{Expr, constant, function_name, string_place, variable, dereference, load, address_of, decay, discard, field, unary_operation, conversion, arithmetic, comparison, pointer_add, pointer_diff, and, or, assign, update, conditional, comma, call, call_through}
use Rattle.c_tree.specs.Tree.{Exprs, no_exprs, more_exprs, Maybe, absent, there, Inits, no_inits, more_inits}
use Rattle.c_tree.specs.Tree.{Stmt, block, evaluate, declare, if_else, while_loop, do_loop, for_loop, switch_on, return_value, Stmts, no_stmts, more_stmts, Groups, no_groups, more_groups}
use Rattle.c_tree.specs.Functions.{defined, sys_types, null_types, type_of_defined, value_types, called_type}
use Rattle.c_tree.specs.Operands.{IsScalar, IsResult}
use Rattle.c_tree.specs.Program.{IsFunction, IsProgram}
use Rattle.c_tree.specs.Typed.{IsValue, IsPlace, AreMembers, AreArguments, IsTest, IsStep, AreInits, AreFirst, IsStmt, AreStmts, AreGroups}
use Rattle.c_meaning.specs.Mentions.{Direct, Through}
use Rattle.c_meaning.specs.CallGraph.{callees, reaches, is_marked}
use Rattle.c_meaning.proofs.Places.{get_left}
use Rattle.c_meaning.proofs.Steps.{scalars_of}
use Rattle.c_meaning.proofs.Keeps.{defined_at, undefined_at}
use Rattle.c_rules.specs.Types.{is_result}
use Rattle.c_rules_laws.proofs.MadeTypes.{result_is}
use Rattle.null_calls_laws.proofs.Lists.{below, not_below, if_has, got_in, one_passes}
use Rattle.null_calls_laws.proofs.FunctionPlaces.{through_type}
use Rattle.null_calls_laws.specs.Temporaries.{is_kept}
use Rattle.null_calls_laws.specs.InstrumentedPrograms.{parameters_where, of_result, of_direct, of_through, kept, kept_of_all, kept_of_members, kept_of_maybe, kept_of_inits, kept_of_stmt, kept_of_stmts, kept_of_groups}

-- a function that gives a scalar or nothing
abbrev gives_result : CType → Bool
gives_result (function r ts) = is_result r
gives_result _ = false

others_give : list_all gives_result (sys_types ++ null_types) ≡ true
unfolding sys_types
others_give = refl

-- a result that is kept is a scalar
pub kept_scalar : (wanted : Bool) (t : CType) → IsResult t → is_kept wanted t ≡ true → IsScalar t
kept_scalar wanted void h k = absurd (false≢true k)
kept_scalar wanted t h k = h

result_scalars : (wanted : Bool) (t : CType) → IsResult t → All IsScalar (of_result wanted t)
result_scalars wanted t h = if_has (All IsScalar) (is_kept wanted t) (t ∷ []) [] (λ e. All-cons IsScalar t [] (kept_scalar wanted t h e) (All-nil IsScalar)) (λ e. All-nil IsScalar)

module _ (p : Program) (n : ℕ) (typed : IsProgram p n) where
  -- what a call gives is a scalar or nothing
  pub result_of_call : (f : ℕ) (t : CType) (ts : CTypes) → called_type p f ≡ Some (function t ts) → IsResult t
  result_of_call f t ts e =
      let others = sys_types ++ null_types in
      let all : slice_get (map type_of_defined p.functions ++ others) f ≡ Some (function t ts) = ap (λ xs. slice_get xs f) (sym (append_assoc (map type_of_defined p.functions) sys_types null_types)) ∙ e in
      if_has {A = Bool} (λ b. IsResult t) (nat_lt f (defined p)) true false (λ b.
      let g = defined_at p.functions others f (function t ts) (below f (defined p) b) all in
      let is = All-contains (IsFunction p) p.functions g.0 typed.functions (got_in p.functions f g.0 g.1) in
      let same : is.gives ≡ t = cc (is.type, g.2) in
      subst IsResult same is.result_type) (λ b.
      let c = got_in others (f - defined p) (function t ts) (undefined_at p.functions others f (function t ts) (not_below f (defined p) b) all) in
      result_is t (subst (λ t. gives_result t ≡ true) c.2 (AllPass-from_list_all gives_result others others_give c.0 (function t ts) c.1)))

  -- some function of the type may be called where a call through a pointer is marked
  pub some_callee : (w : CType) → is_marked p (Through (pointer w)) ≡ true → (f : ℕ) × (called_type p f ≡ Some w)
  some_callee w e =
      let one = one_passes (λ f. reaches p f) (callees p (Through (pointer w))) e in
      (one.0, get_left (value_types p) null_types one.0 w (through_type p w one.0 one.1))

  direct_scalars : (wanted : Bool) (t : CType) (f : ℕ) (ts : CTypes) → called_type p f ≡ Some (function t ts) → All IsScalar (of_direct p wanted t f)
  direct_scalars wanted t f ts e =
      if_has (All IsScalar) (is_marked p (Direct f)) (parameters_where (called_type p f) ++ of_result wanted t) [] (λ m. All-append IsScalar (parameters_where (called_type p f)) (of_result wanted t) (subst (λ c. All IsScalar (parameters_where c)) (sym e) (scalars_of p n typed f t ts e)) (result_scalars wanted t (result_of_call f t ts e))) (λ m. All-nil IsScalar)

  through_scalars : (wanted : Bool) (t u : CType) (ts : CTypes) → u ≡ pointer (function t ts) → All IsScalar (of_through p wanted t u)
  through_scalars wanted t u ts e = subst (λ u. All IsScalar (of_through p wanted t u)) (sym e) (if_has (All IsScalar) (is_marked p (Through (pointer (function t ts)))) _ [] (λ m.
      let c = some_callee (function t ts) m in
      All-cons IsScalar (pointer (function t ts)) (list_of ts ++ of_result wanted t) tt (All-append IsScalar (list_of ts) (of_result wanted t) (scalars_of p n typed c.0 t ts c.1) (result_scalars wanted t (result_of_call c.0 t ts c.1)))) (λ m. All-nil IsScalar))

  two : (a b : Expr) → All IsScalar (kept p true a) → All IsScalar (kept p true b) → All IsScalar (kept p true a ++ kept p true b)
  two a b h k = All-append IsScalar (kept p true a) (kept p true b) h k

  module _ (vars : List CType) where
    mutual
      value_scalars : (wanted : Bool) (e : Expr) → IsValue p vars e → All IsScalar (kept p wanted e)
      value_scalars wanted (constant t x) h = All-nil IsScalar
      value_scalars wanted (load t a) h = place_scalars true a h.2
      value_scalars wanted (address_of t a) h = place_scalars true a h.1
      value_scalars wanted (decay t a) h = place_scalars true a h.1
      value_scalars wanted (discard t a) h = value_scalars false a h.1
      value_scalars wanted (unary_operation t op a) h = value_scalars true a h.1
      value_scalars wanted (conversion t to a) h = value_scalars true a h.2
      value_scalars wanted (arithmetic t op a b) h = two a b (value_scalars true a h.1) (value_scalars true b h.2)
      value_scalars wanted (comparison t op a b) h = two a b (value_scalars true a h.1) (value_scalars true b h.2)
      value_scalars wanted (pointer_add t first subtracted a b) h = two a b (value_scalars true a h.1) (value_scalars true b h.2)
      value_scalars wanted (pointer_diff t a b) h = two a b (value_scalars true a h.3) (value_scalars true b h.4)
      value_scalars wanted (and t a b) h = two a b (value_scalars true a h.1.1) (value_scalars true b h.2.1)
      value_scalars wanted (or t a b) h = two a b (value_scalars true a h.1.1) (value_scalars true b h.2.1)
      value_scalars wanted (assign t a b) h = two a b (place_scalars true a h.3) (value_scalars true b h.4)
      value_scalars wanted (update t op old a b) h = two a b (place_scalars true a h.2) (value_scalars true b h.3)
      value_scalars wanted (conditional t c a b) h =
          All-append IsScalar (kept p true c) (kept p true a ++ kept p true b) (value_scalars true c h.0.1) (two a b (value_scalars true a h.3) (value_scalars true b h.4))
      value_scalars wanted (comma t es) h = members_scalars wanted t es h
      value_scalars wanted (call t site f es) h =
          All-append IsScalar (of_direct p wanted t f) (kept_of_all p es) (direct_scalars wanted t f h.0 h.1) (all_scalars h.0 es h.2)
      value_scalars wanted (call_through t site a es) h =
          All-append IsScalar (kept p true a) (of_through p wanted t (type_of a) ++ kept_of_all p es) (value_scalars true a h.2) (All-append IsScalar (of_through p wanted t (type_of a)) (kept_of_all p es) (through_scalars wanted t (type_of a) h.0 h.1) (all_scalars h.0 es h.3))
      value_scalars wanted _ h = absurd h

      place_scalars : (wanted : Bool) (e : Expr) → IsPlace p vars e → All IsScalar (kept p wanted e)
      place_scalars wanted (dereference t a) h = value_scalars true a h.2
      place_scalars wanted (field t first a) h = place_scalars true a h.1
      place_scalars wanted (function_name t f) h = All-nil IsScalar
      place_scalars wanted (string_place t x) h = All-nil IsScalar
      place_scalars wanted (variable t s x) h = All-nil IsScalar
      place_scalars wanted _ h = absurd h

      members_scalars : (wanted : Bool) (t : CType) (es : Exprs) → AreMembers p vars t es → All IsScalar (kept_of_members p wanted es)
      members_scalars wanted t no_exprs h = absurd h
      members_scalars wanted t (more_exprs e no_exprs) h = value_scalars wanted e h.0
      members_scalars wanted t (more_exprs e (more_exprs f es)) h =
          All-append IsScalar (kept p false e) (kept_of_members p wanted (more_exprs f es)) (value_scalars false e h.0) (members_scalars wanted t (more_exprs f es) h.1)

      all_scalars : (ts : CTypes) (es : Exprs) → AreArguments p vars ts es → All IsScalar (kept_of_all p es)
      all_scalars no_types no_exprs h = All-nil IsScalar
      all_scalars (more_types t ts) (more_exprs e es) h = All-append IsScalar (kept p true e) (kept_of_all p es) (value_scalars true e h.1) (all_scalars ts es h.2)
      all_scalars ts es h = absurd h

    test_scalars : (e : Maybe) → IsTest p vars e → All IsScalar (kept_of_maybe p true e)
    test_scalars absent h = All-nil IsScalar
    test_scalars (there e) h = value_scalars true e h.1

    step_scalars : (e : Maybe) → IsStep p vars e → All IsScalar (kept_of_maybe p false e)
    step_scalars absent h = All-nil IsScalar
    step_scalars (there e) h = value_scalars false e h

    inits_scalars : (ts : List CType) (is : Inits) → AreInits p vars ts is → All IsScalar (kept_of_inits p is)
    inits_scalars ts no_inits h = All-nil IsScalar
    inits_scalars ts (more_inits cell e is) h = All-append IsScalar (kept p true e) (kept_of_inits p is) (value_scalars true e h.1) (inits_scalars ts is h.2)

    -- what stands first in the head of a for is statements
    pub first_stmts : (r : CType) (ss : Stmts) → AreFirst p vars ss → AreStmts p vars r false false ss
    first_stmts r no_stmts h = tt
    first_stmts r (more_stmts (evaluate e) ss) h = (h.0, first_stmts r ss h.1)
    first_stmts r (more_stmts (declare x is) ss) h = (h.0, first_stmts r ss h.1)
    first_stmts r (more_stmts _ ss) h = absurd h.0

    mutual
      stmt_scalars : (r : CType) (breaks continues : Bool) (s : Stmt) → IsStmt p vars r breaks continues s → All IsScalar (kept_of_stmt p s)
      stmt_scalars r breaks continues (block ss) h = stmts_scalars r breaks continues ss h
      stmt_scalars r breaks continues (evaluate e) h = value_scalars false e h
      stmt_scalars r breaks continues (declare x is) h = inits_scalars _ is h.2
      stmt_scalars r breaks continues (if_else e s t) h =
          All-append IsScalar (kept p true e) (kept_of_stmt p s ++ kept_of_stmt p t) (value_scalars true e h.0.1) (All-append IsScalar (kept_of_stmt p s) (kept_of_stmt p t) (stmt_scalars r breaks continues s h.1) (stmt_scalars r breaks continues t h.2))
      stmt_scalars r breaks continues (while_loop e s) h =
          All-append IsScalar (kept p true e) (kept_of_stmt p s) (value_scalars true e h.0.1) (stmt_scalars r true true s h.1)
      stmt_scalars r breaks continues (do_loop s e) h =
          All-append IsScalar (kept_of_stmt p s) (kept p true e) (stmt_scalars r true true s h.0) (value_scalars true e h.1.1)
      stmt_scalars r breaks continues (for_loop first test step s) h =
          All-append IsScalar (kept_of_stmts p first) (kept_of_maybe p true test ++ (kept_of_maybe p false step ++ kept_of_stmt p s)) (stmts_scalars r false false first (first_stmts r first h.0)) (All-append IsScalar (kept_of_maybe p true test) (kept_of_maybe p false step ++ kept_of_stmt p s) (test_scalars test h.1) (All-append IsScalar (kept_of_maybe p false step) (kept_of_stmt p s) (step_scalars step h.2) (stmt_scalars r true true s h.3)))
      stmt_scalars r breaks continues (switch_on e gs) h =
          All-append IsScalar (kept p true e) (kept_of_groups p gs) (value_scalars true e h.3) (groups_scalars r continues h.0 gs h.5)
      stmt_scalars r breaks continues (return_value e) h = value_scalars true e h.2
      stmt_scalars r breaks continues s h = All-nil IsScalar

      pub stmts_scalars : (r : CType) (breaks continues : Bool) (ss : Stmts) → AreStmts p vars r breaks continues ss → All IsScalar (kept_of_stmts p ss)
      stmts_scalars r breaks continues no_stmts h = All-nil IsScalar
      stmts_scalars r breaks continues (more_stmts s ss) h =
          All-append IsScalar (kept_of_stmt p s) (kept_of_stmts p ss) (stmt_scalars r breaks continues s h.0) (stmts_scalars r breaks continues ss h.1)

      groups_scalars : (r : CType) (continues : Bool) (i : IntType) (gs : Groups) → AreGroups p vars r continues i gs → All IsScalar (kept_of_groups p gs)
      groups_scalars r continues i no_groups h = All-nil IsScalar
      groups_scalars r continues i (more_groups ls ss gs) h =
          All-append IsScalar (kept_of_stmts p ss) (kept_of_groups p gs) (stmts_scalars r true continues ss h.1) (groups_scalars r continues i gs h.2)
