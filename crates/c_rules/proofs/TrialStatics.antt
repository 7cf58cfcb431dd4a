-- Units with structs, static objects, strings and the variables of the instrumenter, with their typed programs.
use Rattle.std.proofs.Common.{ℕ, ◌+◌, pos, true, false, List, [], ◌∷◌, codes, Some, None, refl}
use Rattle.std.specs.Int.{int_wrap}
use Rattle.c_tree.specs.Mode.TheVariants.{Plain, Instrumented}
use Rattle.c_tree.specs.Table.{table}
use Rattle.c_tree.specs.declared.value.IntType.TheVariants.{Char, Uchar}
use Rattle.c_tree.specs.declared.value.BinOp.TheVariants.{Add}
use Rattle.c_tree.specs.declared.value.Value.{Value}
use Rattle.c_tree.specs.declared.value.Value.TheVariants as values
use Rattle.c_tree.specs.Functions.{int, unsigned_int, char_pointer, of_none, of_one, sys_types}
use Rattle.c_tree.specs.Tree as typed
use Rattle.c_syntax.specs.Tree.{Items}
use Rattle.c_syntax.specs.Tree as s
use Rattle.c_rules.specs.Units.{IsTyped}
use Rattle.c_rules.proofs.Terms.{ident}

abbrev number : ℕ → typed.Expr
number n = typed.constant int (values.Int (pos n))

-- a static object or a string at one of its cells, in an array of scalars
abbrev address : (object first elements : ℕ) → Value
address object first elements = values.At (record { name = record { activation = 0; variable = object }; first = first; width = 1; elements = elements; index = 0 })

abbrev function_with : List ℕ → typed.CType → List typed.CType → typed.Stmts → typed.Function
function_with x t ts ss = record { name = x; ctype = t; variables = ts; body = typed.block ss }

abbrev returns : typed.Expr → typed.Stmts
returns e = typed.more_stmts (typed.return_value e) typed.no_stmts

-- the first variable of a function
abbrev first_variable : typed.Expr
first_variable = typed.load int (typed.variable int false 0)

abbrev main_of_zero : typed.Function
main_of_zero = function_with (codes "main") (of_none int) [] (returns (number 0))

-- struct s { char a[2]; char *p; int n; }; static struct s x = { "ab", "c", sizeof(int) }; int *q[2] = { &x.n }; int f(int v) { return v; } int (*g)(int) = f; unsigned char u = 300; int main(void) { return 0; }
abbrev with_statics : Items
with_statics = (s.more_items (s.struct_item 0 (ident 7 (codes "s")) (s.more_members 11 s.char (s.more_declarators (s.array 16 (s.named 16 (ident 16 (codes "a"))) (s.there (s.an_int 18 2 false))) s.no_declarators) (s.more_members 22 s.char (s.more_declarators (s.pointer 27 (s.named 28 (ident 28 (codes "p")))) s.no_declarators) (s.more_members 31 s.int (s.more_declarators (s.named 35 (ident 35 (codes "n"))) s.no_declarators) s.no_members)))) (s.more_items (s.decl_item 41 (s.decl 41 s.static (s.struct (ident 55 (codes "s"))) (s.more_parts (s.named 57 (ident 57 (codes "x"))) (s.an_init (s.list 61 (s.more_inits (s.one 63 (s.a_str 63 (97 ∷ 98 ∷ []))) (s.more_inits (s.one 69 (s.a_str 69 (99 ∷ []))) (s.more_inits (s.one 74 (s.sizeof_type 74 (s.type_name 81 s.int s.nothing))) s.no_inits))))) s.no_parts))) (s.more_items (s.decl_item 89 (s.decl 89 s.no_storage s.int (s.more_parts (s.pointer 93 (s.array 94 (s.named 94 (ident 94 (codes "q"))) (s.there (s.an_int 96 2 false)))) (s.an_init (s.list 101 (s.more_inits (s.one 103 (s.unary 103 10 (s.member 104 s.dot (s.a_name 104 (codes "x")) (ident 106 (codes "n"))))) s.no_inits))) s.no_parts))) (s.more_items (s.function_item 111 s.no_storage s.int (s.function 115 (s.named 115 (ident 115 (codes "f"))) (s.more_params 117 s.int (s.named 121 (ident 121 (codes "v"))) s.no_params)) (s.block 124 (s.block_stmt (s.return_from 126 (s.there (s.a_name 133 (codes "v")))) s.no_block_items))) (s.more_items (s.decl_item 138 (s.decl 138 s.no_storage s.int (s.more_parts (s.function 142 (s.pointer 143 (s.named 144 (ident 144 (codes "g")))) (s.more_params 147 s.int s.nothing s.no_params)) (s.an_init (s.one 154 (s.a_name 154 (codes "f")))) s.no_parts))) (s.more_items (s.decl_item 157 (s.decl 157 s.no_storage s.unsigned_char (s.more_parts (s.named 171 (ident 171 (codes "u"))) (s.an_init (s.one 175 (s.an_int 175 300 false))) s.no_parts))) (s.more_items (s.function_item 180 s.no_storage s.int (s.function 184 (s.named 184 (ident 184 (codes "main"))) s.no_params) (s.block 195 (s.block_stmt (s.return_from 197 (s.there (s.an_int 204 0 false))) s.no_block_items))) s.no_items)))))))

abbrev chars_of : ℕ → typed.CType
chars_of n = typed.array (typed.integer Char) n

abbrev program_with_statics : typed.Program
program_with_statics = record {
  structs = Some (chars_of 2 ∷ char_pointer ∷ int ∷ []) ∷ [];
  functions = function_with (codes "f") (of_one int int) (int ∷ []) (returns first_variable) ∷ main_of_zero ∷ [];
  main = 1;
  statics =
      record { ctype = typed.struct 0; cells = values.Char (pos 97) ∷ values.Char (pos 98) ∷ address 4 0 2 ∷ values.Int (pos 4) ∷ []; string = false }
      ∷ record { ctype = typed.array (typed.pointer int) 2; cells = address 0 3 1 ∷ values.Null ∷ []; string = false }
      ∷ record { ctype = typed.pointer (of_one int int); cells = values.Func 0 ∷ []; string = false }
      ∷ record { ctype = typed.integer Uchar; cells = values.Uchar 44 ∷ []; string = false }
      ∷ record { ctype = chars_of 2; cells = values.Char (pos 99) ∷ values.Char (pos 0) ∷ []; string = true }
      ∷ [];
}

with_statics_typed : IsTyped with_statics Plain program_with_statics
unfolding table sys_types int_wrap
with_statics_typed = refl

-- The text of an instrumented unit:
-- void __dyck_pre ( unsigned int ) ;
-- void __dyck_post ( unsigned int ) ;
-- int getpid ( void ) ;
-- int g ( int x ) {
-- return x ;
-- }
-- int f ( int x ) {
-- getpid ( ) ;
-- return x ;
-- }
-- int main ( void ) {
-- int __dyck_a1_0 ;
-- int __dyck_r1 ;
-- int __dyck_a3_0 ;
-- int __dyck_r3 ;
-- return ( ( __dyck_a1_0 = g ( 1 ) ) , __dyck_pre ( 1u ) , ( __dyck_r1 = f ( __dyck_a1_0 ) ) , __dyck_post ( 1u ) , __dyck_r1 ) + ( ( __dyck_a3_0 = 2 ) , __dyck_pre ( 3u ) , ( __dyck_r3 = f ( __dyck_a3_0 ) ) , __dyck_post ( 3u ) , __dyck_r3 ) ;
-- }
abbrev instrumented : Items
instrumented = (s.more_items (s.decl_item 0 (s.decl 0 s.no_storage s.void (s.more_parts (s.function 5 (s.named 5 (ident 5 (codes "__dyck_pre"))) (s.more_params 18 s.unsigned_int s.nothing s.no_params)) s.no_init s.no_parts))) (s.more_items (s.decl_item 35 (s.decl 35 s.no_storage s.void (s.more_parts (s.function 40 (s.named 40 (ident 40 (codes "__dyck_post"))) (s.more_params 54 s.unsigned_int s.nothing s.no_params)) s.no_init s.no_parts))) (s.more_items (s.decl_item 71 (s.decl 71 s.no_storage s.int (s.more_parts (s.function 75 (s.named 75 (ident 75 (codes "getpid"))) s.no_params) s.no_init s.no_parts))) (s.more_items (s.function_item 93 s.no_storage s.int (s.function 97 (s.named 97 (ident 97 (codes "g"))) (s.more_params 101 s.int (s.named 105 (ident 105 (codes "x"))) s.no_params)) (s.block 109 (s.block_stmt (s.return_from 111 (s.there (s.a_name 118 (codes "x")))) s.no_block_items))) (s.more_items (s.function_item 124 s.no_storage s.int (s.function 128 (s.named 128 (ident 128 (codes "f"))) (s.more_params 132 s.int (s.named 136 (ident 136 (codes "x"))) s.no_params)) (s.block 140 (s.block_stmt (s.evaluate 142 (s.call 142 (s.a_name 142 (codes "getpid")) s.no_exprs)) (s.block_stmt (s.return_from 155 (s.there (s.a_name 162 (codes "x")))) s.no_block_items)))) (s.more_items (s.function_item 168 s.no_storage s.int (s.function 172 (s.named 172 (ident 172 (codes "main"))) s.no_params) (s.block 186 (s.block_decl (s.decl 188 s.no_storage s.int (s.more_parts (s.named 192 (ident 192 (codes "__dyck_a1_0"))) s.no_init s.no_parts)) (s.block_decl (s.decl 206 s.no_storage s.int (s.more_parts (s.named 210 (ident 210 (codes "__dyck_r1"))) s.no_init s.no_parts)) (s.block_decl (s.decl 222 s.no_storage s.int (s.more_parts (s.named 226 (ident 226 (codes "__dyck_a3_0"))) s.no_init s.no_parts)) (s.block_decl (s.decl 240 s.no_storage s.int (s.more_parts (s.named 244 (ident 244 (codes "__dyck_r3"))) s.no_init s.no_parts)) (s.block_stmt (s.return_from 256 (s.there (s.binary 267 (s.operator 12) (s.comma 267 (s.more_exprs (s.assign 267 33 (s.a_name 267 (codes "__dyck_a1_0")) (s.call 281 (s.a_name 281 (codes "g")) (s.more_exprs (s.an_int 285 1 false) s.no_exprs))) (s.more_exprs (s.call 293 (s.a_name 293 (codes "__dyck_pre")) (s.more_exprs (s.an_int 306 1 true) s.no_exprs)) (s.more_exprs (s.assign 315 33 (s.a_name 315 (codes "__dyck_r1")) (s.call 327 (s.a_name 327 (codes "f")) (s.more_exprs (s.a_name 331 (codes "__dyck_a1_0")) s.no_exprs))) (s.more_exprs (s.call 349 (s.a_name 349 (codes "__dyck_post")) (s.more_exprs (s.an_int 363 1 true) s.no_exprs)) (s.more_exprs (s.a_name 370 (codes "__dyck_r1")) s.no_exprs)))))) (s.comma 388 (s.more_exprs (s.assign 388 33 (s.a_name 388 (codes "__dyck_a3_0")) (s.an_int 402 2 false)) (s.more_exprs (s.call 408 (s.a_name 408 (codes "__dyck_pre")) (s.more_exprs (s.an_int 421 3 true) s.no_exprs)) (s.more_exprs (s.assign 430 33 (s.a_name 430 (codes "__dyck_r3")) (s.call 442 (s.a_name 442 (codes "f")) (s.more_exprs (s.a_name 446 (codes "__dyck_a3_0")) s.no_exprs))) (s.more_exprs (s.call 464 (s.a_name 464 (codes "__dyck_post")) (s.more_exprs (s.an_int 478 3 true) s.no_exprs)) (s.more_exprs (s.a_name 485 (codes "__dyck_r3")) s.no_exprs))))))))) s.no_block_items))))))) s.no_items))))))

abbrev one : typed.Expr → typed.Exprs
one e = typed.more_exprs e typed.no_exprs

abbrev and_then : typed.Expr → typed.Exprs → typed.Exprs
and_then e es = typed.more_exprs e es

abbrev null_call : (site function marked : ℕ) → typed.Expr
null_call site function marked = typed.call typed.void site function (one (typed.constant unsigned_int (values.Uint marked)))

abbrev local : ℕ → typed.Expr
local n = typed.variable int false n

-- a marked call of f: its argument and its result stand in these variables, and its null calls and itself have the sites from this one on
abbrev marked_call : (argument outcome site marked : ℕ) → typed.Expr → typed.Expr
marked_call argument outcome site marked e =
    typed.comma int (and_then (typed.assign int (local argument) e) (and_then (null_call site 27 marked) (and_then (typed.assign int (local outcome) (typed.call int (site + 1) 1 (one (typed.load int (local argument))))) (and_then (null_call (site + 2) 28 marked) (one (typed.load int (local outcome)))))))

abbrev declarations : typed.Stmts → typed.Stmts
declarations ss = typed.more_stmts (typed.declare 0 typed.no_inits) (typed.more_stmts (typed.declare 1 typed.no_inits) (typed.more_stmts (typed.declare 2 typed.no_inits) (typed.more_stmts (typed.declare 3 typed.no_inits) ss)))

abbrev instrumented_program : typed.Program
instrumented_program = record {
  structs = [];
  functions =
      function_with (codes "g") (of_one int int) (int ∷ []) (returns first_variable)
      ∷ function_with (codes "f") (of_one int int) (int ∷ []) (typed.more_stmts (typed.evaluate (typed.call int 0 17 typed.no_exprs)) (returns first_variable))
      ∷ function_with (codes "main") (of_none int) (int ∷ int ∷ int ∷ int ∷ [])
      (declarations (returns (typed.arithmetic int Add (marked_call 0 1 2 1 (typed.call int 1 0 (one (number 1)))) (marked_call 2 3 5 3 (number 2)))))
      ∷ [];
  main = 2;
  statics = [];
}

instrumented_typed : IsTyped instrumented Instrumented instrumented_program
unfolding table sys_types int_wrap
instrumented_typed = refl

-- int main(void) { struct b *__dyck_f1; struct a *p; p = 0; return 0; }
abbrev with_temporary : Items
with_temporary = (s.more_items (s.function_item 0 s.no_storage s.int (s.function 4 (s.named 4 (ident 4 (codes "main"))) s.no_params) (s.block 15 (s.block_decl (s.decl 17 s.no_storage (s.struct (ident 24 (codes "b"))) (s.more_parts (s.pointer 26 (s.named 27 (ident 27 (codes "__dyck_f1")))) s.no_init s.no_parts)) (s.block_decl (s.decl 38 s.no_storage (s.struct (ident 45 (codes "a"))) (s.more_parts (s.pointer 47 (s.named 48 (ident 48 (codes "p")))) s.no_init s.no_parts)) (s.block_stmt (s.evaluate 51 (s.assign 51 33 (s.a_name 51 (codes "p")) (s.an_int 55 0 false))) (s.block_stmt (s.return_from 58 (s.there (s.an_int 65 0 false))) s.no_block_items)))))) s.no_items)

-- the variable p and the tag a have the numbers that they have without the temporary
with_temporary_typed : IsTyped with_temporary Instrumented (record {
  structs = None ∷ None ∷ [];
  functions = function_with (codes "main") (of_none int) (typed.pointer (typed.struct 0) ∷ typed.pointer (typed.struct 1) ∷ [])
      (typed.more_stmts (typed.declare 1 typed.no_inits) (typed.more_stmts (typed.declare 0 typed.no_inits) (typed.more_stmts (typed.evaluate (typed.assign (typed.pointer (typed.struct 0)) (typed.variable (typed.pointer (typed.struct 0)) false 0) (typed.constant (typed.pointer (typed.struct 0)) values.Null))) (returns (number 0))))) ∷ [];
  main = 0;
  statics = [];
})
unfolding table sys_types int_wrap
with_temporary_typed = refl
