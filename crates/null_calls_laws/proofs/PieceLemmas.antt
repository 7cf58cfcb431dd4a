-- What the pieces of a marked call do.
use Rattle.std.proofs.Common.{◌≡◌, ℕ, suc, ◌+◌, ◌*◌, ◌-◌, if◌then◌else◌, Bool, true, false, List, [], ◌∷◌, ◌++◌, Some, option_map, slice_get, length, append-nil, ap, ◌∙◌, subst, refl, arith}
use Rattle.std.specs.List.{list_any}
use Rattle.std.proofs.lemmas.List.{length-map}
use Rattle.std.proofs.lemmas.Option.{slice_get-map}
use Rattle.c_tree.specs.declared.value.Pointer.{Pointer}
use Rattle.c_tree.specs.declared.value.Value.{Value}
use Rattle.c_tree.specs.declared.value.Value.TheVariants.{Indeterminate, Uint, At}
use Rattle.c_tree.specs.declared.tree.TLabel.{TLabel}
use Rattle.c_tree.specs.Tree.{CType, void, Function, Program, type_of}
use Rattle.c_tree.specs.Tree.{Expr, comma, call, call_through}
use Rattle.c_tree.specs.Tree.{Exprs, no_exprs, more_exprs, no_inits}
use Rattle.c_tree.specs.Tree.{Stmt, block, Stmts, no_stmts, more_stmts, Groups, no_groups, more_groups}
use Rattle.c_tree.specs.Layout.{cells}
use Rattle.c_tree.specs.Functions.{defined}
use Rattle.c_tree.specs.Typed.{IsValue, IsPlace, AreMembers}
use Rattle.c_values.specs.Answers.{gives, and_then}
use Rattle.c_values.specs.Memory.{there, element, cell_value, writable, set_cell, changed, declared}
use Rattle.c_meaning.specs.Mentions.{Direct, Through}
use Rattle.c_meaning.specs.CallGraph.{is_marked}
use Rattle.c_meaning.specs.Meaning.{Frame, World, name_in, wants, call_undefined, called, eval_all, fresh, initialise, exec_all, declared_by, declared_in, is_case, is_default, group_with, count_groups, selected}
use Rattle.c_meaning.specs.Pointers.{store_place}
use Rattle.c_meaning.specs.Results.{State, with_memory, Go, after, then_do, answered, remembered, Exit, on_exit}
use Rattle.null_calls_laws.proofs.Lists.{isnt_below, if_has}
use Rattle.null_calls_laws.specs.Temporaries.{is_kept}
use Rattle.null_calls_laws.specs.InstrumentedPrograms.{kept_values, marked_type, type_of_members, kept_of_stmt, kept_of_stmts, expr, stmt, stmts, groups, declared_from, instrumented_function, instrumented_program}
use Rattle.null_calls_laws.specs.Pieces.{IsSet, NullCallsAreEvents, KeepingSets, KeptIsGiven, KeptAreGiven, DeclarationsDeclare, TypesStay, ShapesStay}
use Rattle.null_calls_laws.proofs.Beside.{after_none}

-- ## Shapes

module _ (p : Program) where
  same_declared : (k : ℕ) (s : Stmt) → declared_by (stmt p k s) ≡ declared_by s
  same_declared k (block ss) = refl
  same_declared k s = refl

  same_variables : (k : ℕ) (ss : Stmts) → declared_in (stmts p k ss) ≡ declared_in ss
  same_variables k no_stmts = refl
  same_variables k (more_stmts s ss) =
      let next = k + length (kept_of_stmt p s) in
      ap (λ xs. xs ++ declared_in (stmts p next ss)) (same_declared k s) ∙ ap (λ xs. declared_by s ++ xs) (same_variables next ss)

  same_group : (is : TLabel → Bool) (k : ℕ) (gs : Groups) → group_with is (groups p k gs) ≡ group_with is gs
  same_group is k no_groups = refl
  same_group is k (more_groups ls ss gs) = ap (λ g. if list_any is ls then Some 0 else option_map suc g) (same_group is (k + length (kept_of_stmts p ss)) gs)

  same_count : (k : ℕ) (gs : Groups) → count_groups (groups p k gs) ≡ count_groups gs
  same_count k no_groups = refl
  same_count k (more_groups ls ss gs) = ap suc (same_count (k + length (kept_of_stmts p ss)) gs)

  same_selected : (k : ℕ) (v : Value) (gs : Groups) → selected v (groups p k gs) ≡ selected v gs
  same_selected k v gs = rw (same_group (is_case v) k gs, same_group is_default k gs, same_count k gs) refl

  -- ## Types

  kept_type : (t : CType) → marked_type (is_kept true t) t ≡ t
  kept_type void = refl
  kept_type t = refl

  mutual
    same_type : (vars : List CType) (k : ℕ) (e : Expr) → IsValue p vars e → type_of (expr p k true e) ≡ type_of e
    same_type vars k (comma t es) h = same_members vars t es h
    same_type vars k (call t site f es) h = if_has (λ e. type_of e ≡ t) (is_marked p (Direct f)) _ _ (λ b. kept_type t) (λ b. refl)
    same_type vars k (call_through t site a es) h = if_has (λ e. type_of e ≡ t) (is_marked p (Through (type_of a))) _ _ (λ b. kept_type t) (λ b. refl)
    same_type vars k e h = refl

    same_members : (vars : List CType) (t : CType) (es : Exprs) → AreMembers p vars t es → type_of_members p true t es ≡ t
    same_members vars t no_exprs h = absurd h
    same_members vars t (more_exprs e no_exprs) h = same_type vars 0 e h.0 ∙ h.1
    same_members vars t (more_exprs e (more_exprs f es)) h = same_members vars t (more_exprs f es) h.1

  same_place : (vars : List CType) (k : ℕ) (wanted : Bool) (e : Expr) → IsPlace p vars e → type_of (expr p k wanted e) ≡ type_of e
  same_place vars k wanted (comma t es) h = absurd h
  same_place vars k wanted (call t site f es) h = absurd h
  same_place vars k wanted (call_through t site a es) h = absurd h
  same_place vars k wanted e h = refl

  -- ## Null calls

  many : defined (instrumented_program p) ≡ defined p
  many = length-map p.functions (instrumented_function p)

  null_called : (w : World) (wanted : Bool) (x : ℕ) (vs : List Value) (st : State) → called (instrumented_program p) w wanted (defined p + x) vs st ≡ call_undefined x vs st
  null_called w wanted x vs st =
      let e = many in
      let number : defined p + x - defined (instrumented_program p) ≡ x = omega (arith, e) in
      rw (isnt_below (defined p + x) (defined (instrumented_program p)) (omega (arith, e)), number) refl

pub null_calls_are_events : NullCallsAreEvents
null_calls_are_events p w fr wanted site st =
    (ap (λ r. after [] (after [] (then_do r (λ v st. Go v st [])))) (null_called p w (wants wanted void) 24 (Uint site ∷ []) st), ap (λ r. after [] (after [] (then_do r (λ v st. Go v st [])))) (null_called p w (wants wanted void) 25 (Uint site ∷ []) st))

-- ## Temporaries

first_cell : (width : ℕ) → 0 + 0 * width + 0 ≡ 0
first_cell width = omega arith

abbrev the_place : Program → Frame → CType → ℕ → Pointer
the_place p fr t k = record { name = name_in fr false k; first = 0; width = cells p.structs t; elements = 1; index = 0 }

pub keeping_sets : KeepingSets
keeping_sets p w marks fr wanted t k e v old st later events h kept =
    ap (λ r. after [] (then_do r (λ v st. remembered (store_place st.memory (At (the_place p fr t k)) v) v st))) h ∙ (ap (λ c. after [] (after events (remembered (and_then (there c) (λ o. and_then (element (the_place p fr t k)) (λ first. and_then (writable o) (λ cells. and_then (set_cell cells (first + 0) v (slice_get cells (first + 0))) (λ new. gives (changed later.memory (name_in fr false k) (Some new))))))) v later))) kept ∙ (ap (λ i. after [] (after events (remembered (and_then (set_cell (old ∷ []) i v (slice_get (old ∷ []) i)) (λ new. gives (changed later.memory (name_in fr false k) (Some new)))) v later))) (first_cell (cells p.structs t)) ∙ ap (λ u. Go v (with_memory later (changed later.memory (name_in fr false k) (Some (record { cells = v ∷ []; string = false })))) u) (append-nil events)))

pub kept_is_given : KeptIsGiven
kept_is_given p w marks fr wanted t k v st kept set =
    ap (λ c. after [] (answered (and_then (there c) (λ o. and_then (element (the_place p fr t k)) (λ first. cell_value (slice_get o.cells (first + 0))))) st)) kept ∙ (ap (λ i. after [] (answered (cell_value (slice_get (v ∷ []) i)) st)) (first_cell (cells p.structs t)) ∙ at v set)
  where
    at : (v : Value) → IsSet v → after [] (answered (cell_value (Some v)) st) ≡ Go v st []
    at Indeterminate h = absurd h
    at v h = refl

pub kept_are_given : KeptAreGiven
kept_are_given p w marks fr k [] [] st h = refl
kept_are_given p w marks fr k (t ∷ ts) (v ∷ vs) st h =
    ap (λ r. then_do r (λ v st. then_do (eval_all p w marks fr (kept_values (suc k) ts) st) (λ vs st. Go (v ∷ vs) st []))) (kept_is_given p w marks fr true t k v st h.0 h.1) ∙ ap (λ r. after [] (then_do r (λ vs st. Go (v ∷ vs) st []))) (kept_are_given p w marks fr (suc k) ts vs st h.2)
kept_are_given p w marks fr k ts vs st h = absurd h

pub declarations_declare : DeclarationsDeclare
declarations_declare o p w marks fr k [] ss st h = refl
declarations_declare o p w marks fr k (t ∷ ts) ss st h =
    let here : k + 0 ≡ k = omega arith in
    let now = with_memory st (declared st.memory (name_in fr false k) (cells p.structs t)) in
    let is = subst (λ j. slice_get fr.types j ≡ Some t) here (h 0 t refl) in
    ap (λ c. then_do (then_do (fresh p.structs fr k c st) (λ y st. initialise p w marks fr k no_inits st)) (λ x st. on_exit x st (exec_all p w marks fr (declared_from o (suc k) ts ss)))) is ∙ (after_none {A = Exit} (exec_all p w marks fr (declared_from o (suc k) ts ss) now) ∙ declarations_declare o p w marks fr (suc k) ts ss now (λ i u e. let next : k + suc i ≡ suc k + i = omega arith in subst (λ j. slice_get fr.types j ≡ Some u) next (h (suc i) u e)))

pub types_stay : TypesStay
types_stay p vars k e = (λ h. same_type p vars k e h, λ h wanted. same_place p vars k wanted e h)

pub shapes_stay : ShapesStay
shapes_stay p = record {
  many = many p;
  functions = λ f. slice_get-map {A = Function} {B = Function} (instrumented_function p) p.functions f;
  variables = same_variables p;
  selection = same_selected p;
}
