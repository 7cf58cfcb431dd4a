-- Small programs, written by hand as terms, that are well-typed.
use Rattle.std.proofs.Common.{◌≡◌, pos, ℕ, true, false, List, [], ◌∷◌, codes, length, All, AllPairs, refl, ap, sym, subst, ◌∙◌, arith, Some, ◌≤◌, ◌<◌, ◌≢◌}
use Rattle.std.proofs.lemmas.Option.{none-some}
use Rattle.std.proofs.lemmas.List.Elements.{All-nil, All-cons}
use Rattle.std.proofs.lemmas.List.Kept.{AllPairs-cons}
use Rattle.c_tree.specs.declared.value.IntType.TheVariants.{Int}
use Rattle.c_tree.specs.declared.value.Value.TheVariants as v
use Rattle.c_tree.specs.Tree.{CType, pointer, array, no_types, more_types, Function, Static, Program}
use Rattle.c_tree.specs.Tree.{Expr, constant, variable, dereference, load, decay, pointer_add, call, call_through, no_exprs, more_exprs}
use Rattle.c_tree.specs.Tree.{Stmt, block, empty, evaluate, if_else, return_value, no_stmts, more_stmts}
use Rattle.c_tree.specs.Functions.{int, unsigned_int, char_pointer, of_none, of_one, sys_types}
use Rattle.dm_base.specs.Name.{IsName}
use Rattle.sys_table.specs.Table.{table, name_of}
use Rattle.c_tree.specs.Layout.{Structs, cells_of_all}
use Rattle.c_tree.specs.Operands.{IsScalar, IsObject}
use Rattle.c_tree.specs.Typed.{IsValue, IsStmt}
use Rattle.c_tree.specs.Program.{IsProgram, IsBlock, IsFunction, IsStatic, HaveNames, AreStructs}
use Rattle.c_tree.proofs.TrialNames.{apart, named, no_twin}

-- a block of two statements
abbrev pub two : Stmt → Stmt → Stmt
two a b = block (more_stmts a (more_stmts b no_stmts))

abbrev pub zero_of_int : Expr
zero_of_int = constant int (v.Int (pos 0))

no_structs : AreStructs []
no_structs = record {
  rank = λ s. 0;
  ranked = λ s ts h. absurd (none-some (Some ts) h);
  below = λ s ts h. absurd (none-some (Some ts) h);
  complete = λ s ts h. absurd (none-some (Some ts) h);
  members = λ s ts h. absurd (none-some (Some ts) h);
}

alone : {A : Type 0} (R : A → A → Type 0) (x : A) → AllPairs R (x ∷ [])
alone R x = λ i j d h k. absurd (omega (arith, h, k))

only : {A : Type 0} (P : A → Type 0) (x : A) → P x → All P (x ∷ [])
only P x h = All-cons P x [] h (All-nil P)

both : {A : Type 0} (P : A → Type 0) (x y : A) → P x → P y → All P (x ∷ y ∷ [])
both P x y h k = All-cons P x (y ∷ []) h (only P y k)

all_three : {A : Type 0} (P : A → Type 0) (x y z : A) → P x → P y → P z → All P (x ∷ y ∷ z ∷ [])
all_three P x y z h k l = All-cons P x (y ∷ z ∷ []) h (both P y z k l)

all_four : {A : Type 0} (P : A → Type 0) (w x y z : A) → P w → P x → P y → P z → All P (w ∷ x ∷ y ∷ z ∷ [])
all_four P w x y z h k l m = All-cons P w (x ∷ y ∷ z ∷ []) h (all_three P x y z k l m)

abbrev pub function_with : List ℕ → CType → List CType → Stmt → Function
function_with name ctype variables body = record { name = name; ctype = ctype; variables = variables; body = body }

-- a function without variables whose body is right
no_variables : (p : Program) (name : List ℕ) (body : Stmt) → IsBlock body → IsStmt p [] int false false body → IsFunction p (function_with name (of_none int) [] body)
no_variables p name body is_block h = record {
  gives = int;
  takes = no_types;
  others = [];
  type = refl;
  result_type = tt;
  scalars = All-nil _;
  few_parameters = omega arith;
  parameters = refl;
  objects = All-nil _;
  few = omega arith;
  body = is_block;
  typed = h;
}

-- a function of one parameter whose body is right
one_parameter : (p : Program) (name : List ℕ) (t : CType) (body : Stmt) → IsBlock body → IsScalar t → IsObject p.structs t → cells_of_all p.structs (t ∷ []) ≤ 262144 → IsStmt p (t ∷ []) int false false body → IsFunction p (function_with name (of_one int t) (t ∷ []) body)
one_parameter p name t body is_block scalar object few h = record {
  gives = int;
  takes = more_types t no_types;
  others = [];
  type = refl;
  result_type = tt;
  scalars = All-cons IsScalar t [] scalar (All-nil _);
  few_parameters = omega arith;
  parameters = refl;
  objects = All-cons (IsObject p.structs) t [] object (All-nil _);
  few = few;
  body = is_block;
  typed = h;
}

-- int getpid(void); unsigned getuid(void); int f(void) { return getpid(); } int main(void) { f(); getuid(); f(); return 0; }
abbrev pub f_of_b : Stmt
f_of_b = block (more_stmts (return_value (call int 0 16 no_exprs)) no_stmts)

abbrev pub main_of_b : Stmt
main_of_b =
    block (more_stmts (evaluate (call int 1 0 no_exprs)) (more_stmts (evaluate (call unsigned_int 2 18 no_exprs)) (more_stmts (evaluate (call int 3 0 no_exprs)) (more_stmts (return_value zero_of_int) no_stmts))))

-- f and main, without parameters
abbrev pub f_with : Stmt → Function
f_with body = function_with (codes "f") (of_none int) [] body

abbrev pub main_with : Stmt → Function
main_with body = function_with (codes "main") (of_none int) [] body

abbrev pub of_f_and_main : Stmt → Stmt → List Static → Program
of_f_and_main f m statics =
    record { structs = []; functions = f_with f ∷ main_with m ∷ []; main = 1; statics = statics }

f_and_main : (f m : Function) → f.name ≡ codes "f" → m.name ≡ codes "main" → HaveNames (f ∷ m ∷ [])
unfolding table
f_and_main f m q r = record {
  names = All-cons (λ g. IsName g.name) f (m ∷ []) (subst IsName (sym q) (named 102 [] refl (omega arith) refl)) (All-cons (λ g. IsName g.name) m [] (subst IsName (sym r) (named 109 (97 ∷ 105 ∷ 110 ∷ []) refl (omega arith) refl)) (All-nil _));
  differ = AllPairs-cons (λ g h. g.name ≢ h.name) f (m ∷ []) (All-cons (λ g. f.name ≢ g.name) m [] (λ e. let k : 1 ≡ 4 = ap length (sym q ∙ (e ∙ r)) in absurd (omega (arith, k))) (All-nil _)) (alone (λ g h. g.name ≢ h.name) m);
  apart = All-cons (λ g. (x : ℕ) → x < 24 → g.name ≢ name_of x) f (m ∷ []) (λ x within e. apart (codes "f") refl x within (sym q ∙ e)) (All-cons (λ g. (x : ℕ) → x < 24 → g.name ≢ name_of x) m [] (λ x within e. apart (codes "main") refl x within (sym r ∙ e)) (All-nil _));
}

abbrev pub source_b : Program
source_b = of_f_and_main f_of_b main_of_b []

f_of_b_fits : IsFunction source_b (f_with f_of_b)
unfolding sys_types
f_of_b_fits = no_variables source_b (codes "f") f_of_b tt ((tt, refl, (no_types, refl, tt)), tt)

main_of_b_fits : IsFunction source_b (main_with main_of_b)
unfolding sys_types
main_of_b_fits =
    no_variables source_b (codes "main") main_of_b tt ((no_types, refl, tt), ((no_types, refl, tt), ((no_types, refl, tt), ((tt, refl, (refl, search arith)), tt))))

source_b_fits : IsProgram source_b 4
source_b_fits = record {
  structs = no_structs;
  functions = both (IsFunction source_b) (f_with f_of_b) (main_with main_of_b) f_of_b_fits main_of_b_fits;
  names = f_and_main _ _ refl refl;
  statics = All-nil _;
  main = (main_with main_of_b, refl, refl);
  sites = refl;
  few_functions = omega arith;
  few_statics = omega arith;
  few_sites = omega arith;
}

-- int g; int getpid(void); int f(void) { if (g) f(); getpid(); return 0; } int main(void) { f(); return 0; }
abbrev pub f_of_d : Stmt
f_of_d =
    block (more_stmts (if_else (load int (variable int true 0)) (evaluate (call int 0 0 no_exprs)) empty) (more_stmts (evaluate (call int 1 16 no_exprs)) (more_stmts (return_value zero_of_int) no_stmts)))

abbrev pub main_of_d : Stmt
main_of_d = two (evaluate (call int 2 0 no_exprs)) (return_value zero_of_int)

abbrev pub g_of_d : Static
g_of_d = record { ctype = int; cells = v.Int (pos 0) ∷ []; string = false }

abbrev pub source_d : Program
source_d = of_f_and_main f_of_d main_of_d (g_of_d ∷ [])

int_object : (structs : Structs) → IsObject structs int
int_object structs = record { complete = tt; few = omega arith }

g_fits : (p : Program) → IsStatic p g_of_d
g_fits p = record { object = int_object p.structs; typed = ((refl, search arith), tt) }

f_of_d_fits : IsFunction source_d (f_with f_of_d)
unfolding sys_types
f_of_d_fits =
    no_variables source_d (codes "f") f_of_d tt (((tt, (tt, refl, (g_of_d, refl, refl, refl))), (no_types, refl, tt), tt), ((no_types, refl, tt), ((tt, refl, (refl, search arith)), tt)))

main_of_d_fits : IsFunction source_d (main_with main_of_d)
unfolding sys_types
main_of_d_fits =
    no_variables source_d (codes "main") main_of_d tt ((no_types, refl, tt), ((tt, refl, (refl, search arith)), tt))

source_d_fits : IsProgram source_d 3
source_d_fits = record {
  structs = no_structs;
  functions = both (IsFunction source_d) (f_with f_of_d) (main_with main_of_d) f_of_d_fits main_of_d_fits;
  names = f_and_main _ _ refl refl;
  statics = only (IsStatic source_d) g_of_d (g_fits source_d);
  main = (main_with main_of_d, refl, refl);
  sites = refl;
  few_functions = omega arith;
  few_statics = omega arith;
  few_sites = omega arith;
}

-- int close(int fd); int getpid(void); int a(int x) { getpid(); return x; } int b(int x) { return x; } int c(char *s) { getpid(); return 0; }
-- int (*t[3])(int) = { a, b, close }; int (*u)(char *) = c; int main(void) { return t[1](5); }
abbrev pub x_of_parameter : Stmt
x_of_parameter = return_value (load int (variable int false 0))

abbrev pub int_of_int : CType
int_of_int = pointer (of_one int int)

abbrev pub t_of_one : Expr
t_of_one =
    load int_of_int (dereference int_of_int (pointer_add (pointer int_of_int) true false (decay (pointer int_of_int) (variable (array int_of_int 3) true 0)) (constant int (v.Int (pos 1)))))

abbrev a_of_i : Stmt
a_of_i = two (evaluate (call int 0 18 no_exprs)) x_of_parameter

abbrev b_of_i : Stmt
b_of_i = block (more_stmts x_of_parameter no_stmts)

abbrev c_of_i : Stmt
c_of_i = two (evaluate (call int 1 18 no_exprs)) (return_value zero_of_int)

abbrev main_of_i : Stmt
main_of_i = block (more_stmts (return_value (call_through int 2 t_of_one (more_exprs (constant int (v.Int (pos 5))) no_exprs))) no_stmts)

abbrev a_function : Function
a_function = function_with (codes "a") (of_one int int) (int ∷ []) a_of_i

abbrev b_function : Function
b_function = function_with (codes "b") (of_one int int) (int ∷ []) b_of_i

abbrev c_function : Function
c_function = function_with (codes "c") (of_one int char_pointer) (char_pointer ∷ []) c_of_i

abbrev t_of_i : Static
t_of_i = record { ctype = array int_of_int 3; cells = v.Func 0 ∷ v.Func 1 ∷ v.Func 7 ∷ []; string = false }

abbrev u_of_i : Static
u_of_i = record { ctype = pointer (of_one int char_pointer); cells = v.Func 2 ∷ []; string = false }

abbrev indirect : Program
indirect =
    record { structs = []; functions = a_function ∷ b_function ∷ c_function ∷ main_with main_of_i ∷ []; main = 3; statics = t_of_i ∷ u_of_i ∷ [] }

pointer_object : (structs : Structs) (t : CType) → IsObject structs (pointer t)
pointer_object structs t = record { complete = tt; few = omega arith }

parameter_fits : (p : Program) → IsStmt p (int ∷ []) int false false x_of_parameter
parameter_fits p = (tt, refl, (tt, refl, refl))

designator_fits : IsValue indirect [] t_of_one
designator_fits =
    (tt, refl, (tt, refl, ((refl, (int_of_int, refl, pointer_object [] _), (Int, refl)), (refl, (t_of_i, refl, refl, refl)), (refl, search arith))))

abbrev Apart : Function → Type 0
Apart f = (x : ℕ) → x < 24 → f.name ≢ name_of x

abbrev Named : Function → Type 0
Named f = IsName f.name

abbrev Differ : Function → Function → Type 0
Differ f g = f.name ≢ g.name

indirect_differ : AllPairs Differ (a_function ∷ b_function ∷ c_function ∷ main_with main_of_i ∷ [])
indirect_differ =
    let cd : AllPairs Differ (c_function ∷ main_with main_of_i ∷ []) = AllPairs-cons Differ c_function (main_with main_of_i ∷ []) (only (Differ c_function) (main_with main_of_i) (no_twin (codes "c") (codes "main") refl)) (alone Differ (main_with main_of_i)) in
    let bcd : AllPairs Differ (b_function ∷ c_function ∷ main_with main_of_i ∷ []) = AllPairs-cons Differ b_function (c_function ∷ main_with main_of_i ∷ []) (both (Differ b_function) c_function (main_with main_of_i) (no_twin (codes "b") (codes "c") refl) (no_twin (codes "b") (codes "main") refl)) cd in
    AllPairs-cons Differ a_function (b_function ∷ c_function ∷ main_with main_of_i ∷ []) (all_three (Differ a_function) b_function c_function (main_with main_of_i) (no_twin (codes "a") (codes "b") refl) (no_twin (codes "a") (codes "c") refl) (no_twin (codes "a") (codes "main") refl)) bcd

indirect_names : HaveNames indirect.functions
unfolding table
indirect_names = record {
  names = all_four Named a_function b_function c_function (main_with main_of_i) (named 97 [] refl (omega arith) refl) (named 98 [] refl (omega arith) refl) (named 99 [] refl (omega arith) refl) (named 109 (97 ∷ 105 ∷ 110 ∷ []) refl (omega arith) refl);
  differ = indirect_differ;
  apart = all_four Apart a_function b_function c_function (main_with main_of_i) (apart (codes "a") refl) (apart (codes "b") refl) (apart (codes "c") refl) (apart (codes "main") refl);
}

a_fits : IsFunction indirect a_function
unfolding sys_types
a_fits =
    one_parameter indirect (codes "a") int a_of_i tt tt (int_object []) (omega arith) ((no_types, refl, tt), (parameter_fits indirect, tt))

b_fits : IsFunction indirect b_function
b_fits =
    one_parameter indirect (codes "b") int b_of_i tt tt (int_object []) (omega arith) (parameter_fits indirect, tt)

c_fits : IsFunction indirect c_function
unfolding sys_types
c_fits =
    one_parameter indirect (codes "c") char_pointer c_of_i tt tt (pointer_object [] _) (omega arith) ((no_types, refl, tt), ((tt, refl, (refl, search arith)), tt))

main_of_i_fits : IsFunction indirect (main_with main_of_i)
main_of_i_fits =
    no_variables indirect (codes "main") main_of_i tt ((tt, refl, (more_types int no_types, refl, designator_fits, (refl, (refl, search arith), tt))), tt)

t_fits : IsStatic indirect t_of_i
unfolding sys_types
t_fits = record {
  object = record { complete = (omega arith, tt); few = omega arith };
  typed = ((of_one int int, refl, refl), ((of_one int int, refl, refl), ((of_one int int, refl, refl), tt)));
}

u_fits : IsStatic indirect u_of_i
u_fits = record {
  object = pointer_object [] _;
  typed = ((of_one int char_pointer, refl, refl), tt);
}

indirect_fits : IsProgram indirect 3
indirect_fits = record {
  structs = no_structs;
  functions = all_four (IsFunction indirect) a_function b_function c_function (main_with main_of_i) a_fits b_fits c_fits main_of_i_fits;
  names = indirect_names;
  statics = both (IsStatic indirect) t_of_i u_of_i t_fits u_fits;
  main = (main_with main_of_i, refl, refl);
  sites = refl;
  few_functions = omega arith;
  few_statics = omega arith;
  few_sites = omega arith;
}
