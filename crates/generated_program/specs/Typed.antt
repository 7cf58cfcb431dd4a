-- The generated program as a typed tree, in closed form: the functions f0 to f`last` have the numbers 0 to `last`, main the number after them,
-- and the system calls the numbers after main's. A call's site is its number in the order of the text.
use Rattle.std.specs.Prelude.{ℕ, zero, suc, ◌+◌, ◌/◌, ◌%◌, pos, true, false, List, [], ◌∷◌, if◌then◌else◌, nat_eq, codes}
use Rattle.c_tree.specs.declared.value.BinOp.TheVariants.{Add, Less}
use Rattle.c_tree.specs.declared.value.Value.TheVariants.{Int}
use Rattle.c_tree.specs.Tree.{Expr, constant, variable, load, comparison, assign, update, call, no_exprs, there, no_inits, Stmt, block, evaluate, declare, for_loop, return_value, Stmts, no_stmts, more_stmts, Function, Program}
use Rattle.c_tree.specs.Functions.{int, of_none}
use Rattle.generated_program.specs.Generator.{drawn, called_by, function_name}

-- how many functions are defined: f0 to f`last`, and main
abbrev pub count_defined : (last : ℕ) → ℕ
count_defined last = last + 2

-- the numbers of getpid and getppid
abbrev pub getpid_number : (last : ℕ) → ℕ
getpid_number last = count_defined last + 14

abbrev pub getppid_number : (last : ℕ) → ℕ
getppid_number last = count_defined last + 15

-- by the number x: the number of the system call that it chooses
abbrev pub system_number_by : (last x : ℕ) → ℕ
system_number_by last x = if nat_eq (x / 16 % 2) 0 then getpid_number last else getppid_number last

-- a call without arguments of the function with this number, at this site
abbrev pub typed_call : (site f : ℕ) → Stmt
typed_call site f = evaluate (call int site f no_exprs)

-- the constant n
abbrev pub typed_int : ℕ → Expr
typed_int n = constant int (Int (pos n))

-- return 0;
abbrev pub typed_return : Stmts
typed_return = more_stmts (return_value (typed_int 0)) no_stmts

-- int NAME(void) { BODY } without variables
abbrev pub typed_definition : List ℕ → Stmts → Function
typed_definition x body = record { name = x; ctype = of_none int; variables = []; body = block body }

-- int f0(void) { getpid(); return 0; }
abbrev pub typed_first : (last : ℕ) → Function
typed_first last = typed_definition (function_name 0) (more_stmts (typed_call 0 (getpid_number last)) typed_return)

-- the sites of the two calls in the function after the one with the number i
abbrev pub call_site : (i : ℕ) → ℕ
call_site i = i + i + 1

abbrev pub system_site : (i : ℕ) → ℕ
system_site i = i + i + 2

-- by the number x: the function after the one with the number i
abbrev pub typed_later : (last x i : ℕ) → Function
typed_later last x i =
    typed_definition (function_name (suc i))
    (more_stmts (typed_call (call_site i) (called_by x (suc i))) (more_stmts (typed_call (system_site i) (system_number_by last x)) typed_return))

-- the variable of main
abbrev pub typed_counter : Expr
typed_counter = variable int false 0

-- for (i = 0; i < COUNT; i++) { NAME(); }, where the call stands at the site and NAME has the number f
abbrev pub typed_loop : (count site f : ℕ) → Stmt
typed_loop count site f =
    for_loop (more_stmts (evaluate (assign int typed_counter (typed_int 0))) no_stmts) (there (comparison int Less (load int typed_counter) (typed_int count)))
    (there (update int Add true typed_counter (typed_int 1))) (block (more_stmts (typed_call site f) no_stmts))

abbrev pub typed_main : (last : ℕ) → Function
typed_main last = record {
  name = codes "main";
  ctype = of_none int;
  variables = int ∷ [];
  body = block (more_stmts (declare 0 no_inits) (more_stmts (typed_loop (last + 1) (call_site last) last) typed_return));
}

-- so many functions behind the one with the number i, and then other functions
abbrev pub typed_behind : (number last i count : ℕ) → List Function → List Function
typed_behind number last i zero rest = rest
typed_behind number last i (suc count) rest = typed_later last (drawn number (suc i)) i ∷ typed_behind number last (suc i) count rest

abbrev pub generated_functions : (number last : ℕ) → List Function
generated_functions number last = typed_first last ∷ typed_behind number last 0 last (typed_main last ∷ [])

-- the whole program
abbrev pub generated_program : (number last : ℕ) → Program
generated_program number last = record { structs = []; functions = generated_functions number last; main = last + 1; statics = [] }
