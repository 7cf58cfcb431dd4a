-- The generated program: the numbers that it is drawn by, its syntax tree, and the results that are recorded for its run. It has the
-- functions f0 to f`last`, each of which but the first calls one before it and makes a system call, and a main that calls the last one
-- as many times as there are functions before main.
use Rattle.std.specs.Prelude.{ℕ, zero, suc, ◌+◌, ◌*◌, ◌/◌, ◌%◌, pos, false, List, [], ◌∷◌, ◌++◌, if◌then◌else◌, nat_eq, codes, decimal}
use Rattle.sys_table.specs.declared.sys_result.SysResult.{SysResult}
use Rattle.c_lexer.specs.declared.punctuator.TheConstants.{ASSIGN, LESS}
use Rattle.c_syntax.specs.Tree.{Ident, no_storage, int, Expr, a_name, an_int, call, postfix, post_increment, binary, operator, assign, no_exprs, there, Declarator, named, function, no_params}
use Rattle.c_syntax.specs.Tree.{no_init, more_parts, no_parts, Decl, decl, first_expr, Stmt, block, evaluate, for_loop, return_from, BlockItems, no_block_items, block_decl, block_stmt, Item, decl_item, function_item, Items, no_items, more_items}
use Rattle.c_syntax.specs.Text.{unit_text}

-- ## Numbers

-- the next number that is drawn, from 0 to 2^32 − 1 (the generator of C99 7.20.2.2 paragraph 5, modulo 2^32)
abbrev pub next_drawn : ℕ → ℕ
next_drawn x = (x * 1103515245 + 12345) % 4294967296

-- the i-th number that is drawn behind a first one
abbrev pub drawn : (number i : ℕ) → ℕ
drawn number zero = number
drawn number (suc i) = next_drawn (drawn number i)

-- by the number x: which function the i-th one calls, one before it
abbrev pub called_by : (x i : ℕ) → ℕ
called_by x i = x / 65536 % i

-- by the number x: which system call it makes
abbrev pub system_call_by : ℕ → List ℕ
system_call_by x = if nat_eq (x / 16 % 2) 0 then codes "getpid" else codes "getppid"

-- ## Syntax; all places are 0

abbrev pub ident : List ℕ → Ident
ident x = record { name = x; at = 0 }

-- NAME(void)
abbrev pub of_void : List ℕ → Declarator
of_void x = function 0 (named 0 (ident x)) no_params

-- int NAME(void);
abbrev pub prototype : List ℕ → Item
prototype x = decl_item 0 (decl 0 no_storage int (more_parts (of_void x) no_init no_parts))

-- NAME()
abbrev pub call_of : List ℕ → Expr
call_of x = call 0 (a_name 0 x) no_exprs

-- NAME(); and then other statements
abbrev pub and_call : List ℕ → BlockItems → BlockItems
and_call x rest = block_stmt (evaluate 0 (call_of x)) rest

-- return 0;
abbrev pub return_zero : BlockItems
return_zero = block_stmt (return_from 0 (there (an_int 0 0 false))) no_block_items

-- int NAME(void) { BODY }
abbrev pub definition : List ℕ → BlockItems → Item
definition x body = function_item 0 no_storage int (of_void x) (block 0 body)

abbrev pub function_name : ℕ → List ℕ
function_name i = codes "f" ++ decimal i

-- int f0(void) { getpid(); return 0; }
abbrev pub first_function : Item
first_function = definition (function_name 0) (and_call (codes "getpid") return_zero)

-- by the number x: int fI(void) { fJ(); NAME(); return 0; }
abbrev pub later_function : (x i : ℕ) → Item
later_function x i =
    definition (function_name i) (and_call (function_name (called_by x i)) (and_call (system_call_by x) return_zero))

-- for (i = 0; i < COUNT; i++) { NAME(); }
abbrev pub counted_loop : (count : ℕ) → List ℕ → Stmt
counted_loop count x =
    for_loop 0 (first_expr (assign 0 ASSIGN (a_name 0 (codes "i")) (an_int 0 0 false))) (there (binary 0 (operator LESS) (a_name 0 (codes "i")) (an_int 0 count false)))
    (there (postfix 0 post_increment (a_name 0 (codes "i")))) (block 0 (and_call x no_block_items))

-- int i;
abbrev pub counter : Decl
counter = decl 0 no_storage int (more_parts (named 0 (ident (codes "i"))) no_init no_parts)

-- int main(void) { int i; for (i = 0; i < COUNT; i++) { fLAST(); } return 0; }, where COUNT is LAST + 1
abbrev pub main_function : (last : ℕ) → Item
main_function last =
    definition (codes "main") (block_decl counter (block_stmt (counted_loop (last + 1) (function_name last)) return_zero))

-- so many functions behind the one with the number i, and then other items
abbrev pub functions_behind : (number i count : ℕ) → Items → Items
functions_behind number i zero rest = rest
functions_behind number i (suc count) rest =
    more_items (later_function (drawn number (suc i)) (suc i)) (functions_behind number (suc i) count rest)

abbrev pub main_items : (last : ℕ) → Items
main_items last = more_items (main_function last) no_items

-- the whole unit
abbrev pub generated_unit : (number last : ℕ) → Items
generated_unit number last =
    more_items (prototype (codes "getpid"))
    (more_items (prototype (codes "getppid")) (more_items first_function (functions_behind number 0 last (main_items last))))

-- its printed text
abbrev pub generated_source : (number last : ℕ) → List ℕ
generated_source number last = unit_text (generated_unit number last)

-- ## Recorded results

abbrev pub result_of : ℕ → SysResult
result_of value = record { value = pos value; bytes = [] }

-- so many results with the values behind a value
abbrev pub results_behind : (value count : ℕ) → List SysResult
results_behind value zero = []
results_behind value (suc count) = result_of (suc value) ∷ results_behind (suc value) count

-- as many as the square of the number of functions before main, the k-th with the value k
abbrev pub generated_results : (last : ℕ) → List SysResult
generated_results last = results_behind 0 ((last + 1) * (last + 1))
