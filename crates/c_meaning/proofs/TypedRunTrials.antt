-- A well-typed program with a struct, a pointer into it and a function pointer: the laws hold of it, and its run is what they say.
use Rattle.std.proofs.Common.{◌≡◌, ◌≢◌, ℕ, zero, suc, ◌<◌, ◌≤◌, pos, false, true, List, [], ◌∷◌, codes, length, All, Some, slice_get, refl, subst, arith}
use Rattle.std.proofs.lemmas.Option.{none-some}
use Rattle.std.proofs.lemmas.List.Elements.{All-nil, All-cons}
use Rattle.std.proofs.lemmas.List.Kept.{AllPairs-cons}
use Rattle.dm_base.specs.Name.{IsName}
use Rattle.dm_base.specs.declared.outcome.Outcome.TheVariants as outcomes
use Rattle.c_meaning.specs.Table.{IsRecorded, table, name_of}
use Rattle.c_tree.specs.declared.value.IntType.TheVariants.{Int}
use Rattle.c_tree.specs.declared.value.Value.TheVariants as v
use Rattle.c_tree.specs.Tree.{CType, pointer, array, struct, no_types, more_types, Function, Static, Program}
use Rattle.c_tree.specs.Tree.{Expr, constant, variable, dereference, load, decay, field, pointer_add, assign, call_through, no_exprs, more_exprs}
use Rattle.c_tree.specs.Tree.{Stmt, block, evaluate, declare, return_value, no_stmts, more_stmts, no_inits}
use Rattle.c_tree.specs.Functions.{int, of_none, of_one, sys_types}
use Rattle.c_tree.specs.Layout.{Structs}
use Rattle.c_tree.specs.Operands.{IsScalar, IsComplete, IsObject}
use Rattle.c_tree.specs.Typed.{IsValue, IsStmt}
use Rattle.c_tree.specs.Program.{IsProgram, IsFunction, IsStatic, HaveNames, AreStructs, IsBelow}
use Rattle.c_tree.proofs.TrialNames.{apart, named, no_twin}
use Rattle.c_tree.proofs.TypedTrials.{function_with}
use Rattle.c_meaning.specs.CallGraph.{candidates}
use Rattle.c_meaning.specs.Runs.{no_marks, run}
use Rattle.c_meaning.specs.TypedResults.{AreRecorded}
use Rattle.c_meaning.specs.Laws.{IsTypedRun}
use Rattle.c_meaning.proofs.Worlds.{runs_are_typed}
use Rattle.c_tree.proofs.TypedTrials.{int_of_int}

-- struct s { int a[2]; int *q; };
-- int f(int x) { return x; }
-- int (*t)(int) = f;
-- int main(void) { struct s v; v.q = v.a + 1; *v.q = 5; return t(*v.q); }
abbrev members : List CType
members = array int 2 ∷ pointer int ∷ []

abbrev whole : Expr
whole = variable (struct 0) false 0

abbrev q_of_v : Expr
q_of_v = field (pointer int) 2 whole

abbrev next : Expr
next = pointer_add (pointer int) true false (decay (pointer int) (field (array int 2) 0 whole)) (constant int (v.Int (pos 1)))

abbrev behind_q : Expr
behind_q = dereference int (load (pointer int) q_of_v)

abbrev body_of_main : Stmt
body_of_main =
    block (more_stmts (declare 0 no_inits) (more_stmts (evaluate (assign (pointer int) q_of_v next)) (more_stmts (evaluate (assign int behind_q (constant int (v.Int (pos 5))))) (more_stmts (return_value (call_through int 0 (load int_of_int (variable int_of_int true 0)) (more_exprs (load int behind_q) no_exprs))) no_stmts))))

abbrev f : Function
f = function_with (codes "f") (of_one int int) (int ∷ []) (block (more_stmts (return_value (load int (variable int false 0))) no_stmts))

abbrev main : Function
main = function_with (codes "main") (of_none int) (struct 0 ∷ []) body_of_main

abbrev t_static : Static
t_static = record { ctype = int_of_int; cells = v.Func 0 ∷ []; string = false }

abbrev structs_of : Structs
structs_of = Some members ∷ []

abbrev trial : Program
trial = record { structs = structs_of; functions = f ∷ main ∷ []; main = 1; statics = t_static ∷ [] }

one : {A : Type 0} (P : A → Type 0) (x : A) → P x → All P (x ∷ [])
one P x h = All-cons P x [] h (All-nil P)

both : {A : Type 0} (P : A → Type 0) (x y : A) → P x → P y → All P (x ∷ y ∷ [])
both P x y h k = All-cons P x (y ∷ []) h (one P y k)

-- what holds of the one struct
only : (P : ℕ → List CType → Type 0) → P 0 members → (s : ℕ) (ts : List CType) → slice_get structs_of s ≡ Some (Some ts) → P s ts
only P h zero ts e = let same : members ≡ ts = cc in subst (P 0) same h
only P h (suc s) ts e = absurd (none-some (Some ts) e)

are_structs : AreStructs structs_of
are_structs = record {
  rank = λ s. 0;
  ranked = λ s ts e. omega arith;
  below = only (λ s ts. All (IsBelow (λ s. 0) 0) ts) (both (IsBelow (λ s. 0) 0) (array int 2) (pointer int) tt tt);
  complete = only (λ s ts. All (IsComplete structs_of) ts) (both (IsComplete structs_of) (array int 2) (pointer int) (omega arith, tt) tt);
  members = only (λ s ts. 1 ≤ length ts) (omega arith);
}

int_object : IsObject structs_of int
int_object = record { complete = tt; few = omega arith }

pointer_object : (t : CType) → IsObject structs_of (pointer t)
pointer_object t = record { complete = tt; few = omega arith }

struct_object : IsObject structs_of (struct 0)
struct_object = record { complete = (members, refl); few = omega arith }

f_fits : IsFunction trial f
f_fits = record {
  gives = int;
  takes = more_types int no_types;
  others = [];
  type = refl;
  result_type = tt;
  scalars = one IsScalar int tt;
  few_parameters = omega arith;
  parameters = refl;
  objects = one (IsObject structs_of) int int_object;
  few = omega arith;
  body = tt;
  typed = ((tt, refl, (tt, refl, refl)), tt);
}

behind_fits : IsValue trial (struct 0 ∷ []) (load (pointer int) q_of_v)
behind_fits = (tt, refl, ((0, members, 1, refl, refl, refl, refl), refl))

next_fits : IsValue trial (struct 0 ∷ []) next
next_fits =
    ((refl, (int, refl, int_object), (Int, refl)), (refl, ((0, members, 0, refl, refl, refl, refl), refl)), (refl, search arith))

body_fits : IsStmt trial (struct 0 ∷ []) int false false body_of_main
unfolding sys_types
body_fits =
    ((struct 0, refl, tt), ((tt, refl, refl, ((0, members, 1, refl, refl, refl, refl), refl), next_fits), ((tt, refl, refl, (tt, refl, behind_fits), (refl, search arith)), ((tt, refl, (more_types int no_types, refl, (tt, refl, (t_static, refl, refl, refl)), (refl, (tt, refl, (tt, refl, behind_fits)), tt))), tt))))

main_fits : IsFunction trial main
main_fits = record {
  gives = int;
  takes = no_types;
  others = struct 0 ∷ [];
  type = refl;
  result_type = tt;
  scalars = All-nil _;
  few_parameters = omega arith;
  parameters = refl;
  objects = one (IsObject structs_of) (struct 0) struct_object;
  few = omega arith;
  body = tt;
  typed = body_fits;
}

names_fit : HaveNames (f ∷ main ∷ [])
unfolding table
names_fit = record {
  names = both (λ g. IsName g.name) f main (named 102 [] refl (omega arith) refl) (named 109 (97 ∷ 105 ∷ 110 ∷ []) refl (omega arith) refl);
  differ = AllPairs-cons (λ g h. g.name ≢ h.name) f (main ∷ []) (one (λ g. f.name ≢ g.name) main (no_twin (codes "f") (codes "main") refl)) (λ i j d h k. absurd (omega (arith, h, k)));
  apart = both (λ g. (x : ℕ) → x < 24 → g.name ≢ name_of x) f main (apart (codes "f") refl) (apart (codes "main") refl);
}

static_fits : IsStatic trial t_static
static_fits = record { object = pointer_object (of_one int int); typed = ((of_one int int, refl, refl), tt) }

trial_fits : IsProgram trial 1
trial_fits = record {
  structs = are_structs;
  functions = both (IsFunction trial) f main f_fits main_fits;
  names = names_fit;
  statics = one (IsStatic trial) t_static static_fits;
  main = (main, refl, refl);
  sites = refl;
  few_functions = omega arith;
  few_statics = omega arith;
  few_sites = omega arith;
}

nothing_recorded : AreRecorded no_marks
nothing_recorded site = (All-nil IsRecorded, All-nil IsRecorded)

-- the law on its runs
trial_runs : (turns : ℕ) → IsTypedRun (run trial [] turns)
trial_runs turns = runs_are_typed trial 1 trial_fits no_marks nothing_recorded [] turns

-- and what one is
trial_exits : (run trial [] 10).outcome ≡ outcomes.Exit (pos 5)
trial_exits = refl

-- its call may call f alone
trial_calls : candidates trial 0 ≡ 0 ∷ []
unfolding sys_types
trial_calls = refl
