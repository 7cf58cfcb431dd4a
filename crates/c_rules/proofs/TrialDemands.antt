-- The demands that fail: each unit beside its text, and the demands on it that fail.
use Rattle.std.proofs.Common.{true, false, [], ◌∷◌, codes, refl}
use Rattle.std.specs.Int.{int_wrap}
use Rattle.c_tree.specs.Mode.TheVariants.{Plain, Instrumented}
use Rattle.c_tree.specs.Table.{table}
use Rattle.c_tree.specs.Functions.{sys_types}
use Rattle.c_syntax.specs.Tree as s
use Rattle.c_rules.proofs.Terms.{ident, main_that_returns, failing, AllFail}

-- Names that are not declared, or twice, or not defined (C1, C2, C9 to C12)
names_fail : AllFail Plain (
    -- int main(void) { return x; }
    (s.more_items (s.function_item 0 s.no_storage s.int (s.function 4 (s.named 4 (ident 4 (codes "main"))) s.no_params) (s.block 15 (s.block_stmt (s.return_from 17 (s.there (s.a_name 24 (codes "x")))) s.no_block_items))) s.no_items, failing 1 24 [])
    -- struct s; int f(struct s *p) { return p->m; } int main(void) { return 0; }
    ∷ (s.more_items (s.tag_item 0 (ident 7 (codes "s"))) (s.more_items (s.function_item 10 s.no_storage s.int (s.function 14 (s.named 14 (ident 14 (codes "f"))) (s.more_params 16 (s.struct (ident 23 (codes "s"))) (s.pointer 25 (s.named 26 (ident 26 (codes "p")))) s.no_params)) (s.block 29 (s.block_stmt (s.return_from 31 (s.there (s.member 38 s.arrow (s.a_name 38 (codes "p")) (ident 41 (codes "m"))))) s.no_block_items))) (s.more_items (main_that_returns 46) s.no_items)), failing 1 38 [])
    -- struct s { int a; }; struct s x; int main(void) { return x.b; }
    ∷ (s.more_items (s.struct_item 0 (ident 7 (codes "s")) (s.more_members 11 s.int (s.more_declarators (s.named 15 (ident 15 (codes "a"))) s.no_declarators) s.no_members)) (s.more_items (s.decl_item 21 (s.decl 21 s.no_storage (s.struct (ident 28 (codes "s"))) (s.more_parts (s.named 30 (ident 30 (codes "x"))) s.no_init s.no_parts))) (s.more_items (s.function_item 33 s.no_storage s.int (s.function 37 (s.named 37 (ident 37 (codes "main"))) s.no_params) (s.block 48 (s.block_stmt (s.return_from 50 (s.there (s.member 57 s.dot (s.a_name 57 (codes "x")) (ident 59 (codes "b"))))) s.no_block_items))) s.no_items)), failing 1 57 [])
    -- enum e x; int main(void) { return 0; }
    ∷ (s.more_items (s.decl_item 0 (s.decl 0 s.no_storage (s.enum (ident 5 (codes "e"))) (s.more_parts (s.named 7 (ident 7 (codes "x"))) s.no_init s.no_parts))) (s.more_items (main_that_returns 10) s.no_items), failing 1 0 [])
    -- int main(void) { { int x; } return x; }
    ∷ (s.more_items (s.function_item 0 s.no_storage s.int (s.function 4 (s.named 4 (ident 4 (codes "main"))) s.no_params) (s.block 15 (s.block_stmt (s.block 17 (s.block_decl (s.decl 19 s.no_storage s.int (s.more_parts (s.named 23 (ident 23 (codes "x"))) s.no_init s.no_parts)) s.no_block_items)) (s.block_stmt (s.return_from 28 (s.there (s.a_name 35 (codes "x")))) s.no_block_items)))) s.no_items, failing 1 35 [])
    -- int x; int x; int main(void) { return 0; }
    ∷ (s.more_items (s.decl_item 0 (s.decl 0 s.no_storage s.int (s.more_parts (s.named 4 (ident 4 (codes "x"))) s.no_init s.no_parts))) (s.more_items (s.decl_item 7 (s.decl 7 s.no_storage s.int (s.more_parts (s.named 11 (ident 11 (codes "x"))) s.no_init s.no_parts))) (s.more_items (main_that_returns 14) s.no_items)), failing 2 11 [])
    -- int f(int a, int a); int main(void) { return 0; }
    ∷ (s.more_items (s.decl_item 0 (s.decl 0 s.no_storage s.int (s.more_parts (s.function 4 (s.named 4 (ident 4 (codes "f"))) (s.more_params 6 s.int (s.named 10 (ident 10 (codes "a"))) (s.more_params 13 s.int (s.named 17 (ident 17 (codes "a"))) s.no_params))) s.no_init s.no_parts))) (s.more_items (main_that_returns 21) s.no_items), failing 2 17 [])
    -- int f(int a) { int a; return 0; } int main(void) { return 0; }
    ∷ (s.more_items (s.function_item 0 s.no_storage s.int (s.function 4 (s.named 4 (ident 4 (codes "f"))) (s.more_params 6 s.int (s.named 10 (ident 10 (codes "a"))) s.no_params)) (s.block 13 (s.block_decl (s.decl 15 s.no_storage s.int (s.more_parts (s.named 19 (ident 19 (codes "a"))) s.no_init s.no_parts)) (s.block_stmt (s.return_from 22 (s.there (s.an_int 29 0 false))) s.no_block_items)))) (s.more_items (main_that_returns 34) s.no_items), failing 2 19 [])
    -- int f(void); int f(int); int main(void) { return 0; }
    ∷ (s.more_items (s.decl_item 0 (s.decl 0 s.no_storage s.int (s.more_parts (s.function 4 (s.named 4 (ident 4 (codes "f"))) s.no_params) s.no_init s.no_parts))) (s.more_items (s.decl_item 13 (s.decl 13 s.no_storage s.int (s.more_parts (s.function 17 (s.named 17 (ident 17 (codes "f"))) (s.more_params 19 s.int s.nothing s.no_params)) s.no_init s.no_parts))) (s.more_items (main_that_returns 25) s.no_items)), failing 2 17 [])
    -- int f(void) { return 0; } int f(void) { return 0; } int main(void) { return 0; }
    ∷ (s.more_items (s.function_item 0 s.no_storage s.int (s.function 4 (s.named 4 (ident 4 (codes "f"))) s.no_params) (s.block 12 (s.block_stmt (s.return_from 14 (s.there (s.an_int 21 0 false))) s.no_block_items))) (s.more_items (s.function_item 26 s.no_storage s.int (s.function 30 (s.named 30 (ident 30 (codes "f"))) s.no_params) (s.block 38 (s.block_stmt (s.return_from 40 (s.there (s.an_int 47 0 false))) s.no_block_items))) (s.more_items (main_that_returns 52) s.no_items)), failing 2 30 [])
    -- int x; int main(void) { int x; { char x; } return 0; }
    ∷ (s.more_items (s.decl_item 0 (s.decl 0 s.no_storage s.int (s.more_parts (s.named 4 (ident 4 (codes "x"))) s.no_init s.no_parts))) (s.more_items (s.function_item 7 s.no_storage s.int (s.function 11 (s.named 11 (ident 11 (codes "main"))) s.no_params) (s.block 22 (s.block_decl (s.decl 24 s.no_storage s.int (s.more_parts (s.named 28 (ident 28 (codes "x"))) s.no_init s.no_parts)) (s.block_stmt (s.block 31 (s.block_decl (s.decl 33 s.no_storage s.char (s.more_parts (s.named 38 (ident 38 (codes "x"))) s.no_init s.no_parts)) s.no_block_items)) (s.block_stmt (s.return_from 43 (s.there (s.an_int 50 0 false))) s.no_block_items))))) s.no_items), [])
    -- int f(void); static int f(void) { return 0; } int f(void); extern int x; int x; extern int x; int main(void) { return 0; }
    ∷ (s.more_items (s.decl_item 0 (s.decl 0 s.no_storage s.int (s.more_parts (s.function 4 (s.named 4 (ident 4 (codes "f"))) s.no_params) s.no_init s.no_parts))) (s.more_items (s.function_item 13 s.static s.int (s.function 24 (s.named 24 (ident 24 (codes "f"))) s.no_params) (s.block 32 (s.block_stmt (s.return_from 34 (s.there (s.an_int 41 0 false))) s.no_block_items))) (s.more_items (s.decl_item 46 (s.decl 46 s.no_storage s.int (s.more_parts (s.function 50 (s.named 50 (ident 50 (codes "f"))) s.no_params) s.no_init s.no_parts))) (s.more_items (s.decl_item 59 (s.decl 59 s.extern s.int (s.more_parts (s.named 70 (ident 70 (codes "x"))) s.no_init s.no_parts))) (s.more_items (s.decl_item 73 (s.decl 73 s.no_storage s.int (s.more_parts (s.named 77 (ident 77 (codes "x"))) s.no_init s.no_parts))) (s.more_items (s.decl_item 80 (s.decl 80 s.extern s.int (s.more_parts (s.named 91 (ident 91 (codes "x"))) s.no_init s.no_parts))) (s.more_items (main_that_returns 94) s.no_items)))))), [])
    -- int x;
    ∷ (s.more_items (s.decl_item 0 (s.decl 0 s.no_storage s.int (s.more_parts (s.named 4 (ident 4 (codes "x"))) s.no_init s.no_parts))) s.no_items, failing 9 0 [])
    -- int main(int x) { return x; }
    ∷ (s.more_items (s.function_item 0 s.no_storage s.int (s.function 4 (s.named 4 (ident 4 (codes "main"))) (s.more_params 9 s.int (s.named 13 (ident 13 (codes "x"))) s.no_params)) (s.block 16 (s.block_stmt (s.return_from 18 (s.there (s.a_name 25 (codes "x")))) s.no_block_items))) s.no_items, failing 9 0 [])
    -- int h(void); int main(void) { return h(); }
    ∷ (s.more_items (s.decl_item 0 (s.decl 0 s.no_storage s.int (s.more_parts (s.function 4 (s.named 4 (ident 4 (codes "h"))) s.no_params) s.no_init s.no_parts))) (s.more_items (s.function_item 13 s.no_storage s.int (s.function 17 (s.named 17 (ident 17 (codes "main"))) s.no_params) (s.block 28 (s.block_stmt (s.return_from 30 (s.there (s.call 37 (s.a_name 37 (codes "h")) s.no_exprs))) s.no_block_items))) s.no_items), failing 10 37 [])
    -- extern int x; int h(void); int main(void) { return sizeof x; }
    ∷ (s.more_items (s.decl_item 0 (s.decl 0 s.extern s.int (s.more_parts (s.named 11 (ident 11 (codes "x"))) s.no_init s.no_parts))) (s.more_items (s.decl_item 14 (s.decl 14 s.no_storage s.int (s.more_parts (s.function 18 (s.named 18 (ident 18 (codes "h"))) s.no_params) s.no_init s.no_parts))) (s.more_items (s.function_item 27 s.no_storage s.int (s.function 31 (s.named 31 (ident 31 (codes "main"))) s.no_params) (s.block 42 (s.block_stmt (s.return_from 44 (s.there (s.prefix 51 s.sizeof (s.a_name 58 (codes "x"))))) s.no_block_items))) s.no_items)), [])
    -- int read(void); int main(void) { return 0; }
    ∷ (s.more_items (s.decl_item 0 (s.decl 0 s.no_storage s.int (s.more_parts (s.function 4 (s.named 4 (ident 4 (codes "read"))) s.no_params) s.no_init s.no_parts))) (s.more_items (main_that_returns 16) s.no_items), failing 11 4 [])
    -- int main(void) { int read; return 0; }
    ∷ (s.more_items (s.function_item 0 s.no_storage s.int (s.function 4 (s.named 4 (ident 4 (codes "main"))) s.no_params) (s.block 15 (s.block_decl (s.decl 17 s.no_storage s.int (s.more_parts (s.named 21 (ident 21 (codes "read"))) s.no_init s.no_parts)) (s.block_stmt (s.return_from 27 (s.there (s.an_int 34 0 false))) s.no_block_items)))) s.no_items, failing 11 21 [])
    -- int getpid(void) { return 0; } int main(void) { return 0; }
    ∷ (s.more_items (s.function_item 0 s.no_storage s.int (s.function 4 (s.named 4 (ident 4 (codes "getpid"))) s.no_params) (s.block 17 (s.block_stmt (s.return_from 19 (s.there (s.an_int 26 0 false))) s.no_block_items))) (s.more_items (main_that_returns 31) s.no_items), failing 11 4 [])
    -- int __dyck_x; int main(void) { return 0; }
    ∷ (s.more_items (s.decl_item 0 (s.decl 0 s.no_storage s.int (s.more_parts (s.named 4 (ident 4 (codes "__dyck_x"))) s.no_init s.no_parts))) (s.more_items (main_that_returns 14) s.no_items), failing 12 4 [])
    -- void __dyck_pre(unsigned int); int main(void) { return 0; }
    ∷ (s.more_items (s.decl_item 0 (s.decl 0 s.no_storage s.void (s.more_parts (s.function 5 (s.named 5 (ident 5 (codes "__dyck_pre"))) (s.more_params 16 s.unsigned_int s.nothing s.no_params)) s.no_init s.no_parts))) (s.more_items (main_that_returns 31) s.no_items), failing 12 5 [])
    ∷ [])
unfolding table sys_types int_wrap
names_fail = refl

names_fail_instrumented : AllFail Instrumented (
    -- void __dyck_pre(unsigned int); int main(void) { __dyck_pre(1u); return 0; }
    (s.more_items (s.decl_item 0 (s.decl 0 s.no_storage s.void (s.more_parts (s.function 5 (s.named 5 (ident 5 (codes "__dyck_pre"))) (s.more_params 16 s.unsigned_int s.nothing s.no_params)) s.no_init s.no_parts))) (s.more_items (s.function_item 31 s.no_storage s.int (s.function 35 (s.named 35 (ident 35 (codes "main"))) s.no_params) (s.block 46 (s.block_stmt (s.evaluate 48 (s.call 48 (s.a_name 48 (codes "__dyck_pre")) (s.more_exprs (s.an_int 59 1 true) s.no_exprs))) (s.block_stmt (s.return_from 64 (s.there (s.an_int 71 0 false))) s.no_block_items)))) s.no_items), [])
    -- void __dyck_pre(unsigned int); int main(void) { *__dyck_pre; return 0; }
    ∷ (s.more_items (s.decl_item 0 (s.decl 0 s.no_storage s.void (s.more_parts (s.function 5 (s.named 5 (ident 5 (codes "__dyck_pre"))) (s.more_params 16 s.unsigned_int s.nothing s.no_params)) s.no_init s.no_parts))) (s.more_items (s.function_item 31 s.no_storage s.int (s.function 35 (s.named 35 (ident 35 (codes "main"))) s.no_params) (s.block 46 (s.block_stmt (s.evaluate 48 (s.unary 48 11 (s.a_name 49 (codes "__dyck_pre")))) (s.block_stmt (s.return_from 61 (s.there (s.an_int 68 0 false))) s.no_block_items)))) s.no_items), failing 12 49 [])
    -- int __dyck_pre(unsigned int); int main(void) { return 0; }
    ∷ (s.more_items (s.decl_item 0 (s.decl 0 s.no_storage s.int (s.more_parts (s.function 4 (s.named 4 (ident 4 (codes "__dyck_pre"))) (s.more_params 15 s.unsigned_int s.nothing s.no_params)) s.no_init s.no_parts))) (s.more_items (main_that_returns 30) s.no_items), failing 11 4 [])
    -- int main(void) { int __dyck_a1_0, __dyck_r1; return 0; }
    ∷ (s.more_items (s.function_item 0 s.no_storage s.int (s.function 4 (s.named 4 (ident 4 (codes "main"))) s.no_params) (s.block 15 (s.block_decl (s.decl 17 s.no_storage s.int (s.more_parts (s.named 21 (ident 21 (codes "__dyck_a1_0"))) s.no_init (s.more_parts (s.named 34 (ident 34 (codes "__dyck_r1"))) s.no_init s.no_parts))) (s.block_stmt (s.return_from 45 (s.there (s.an_int 52 0 false))) s.no_block_items)))) s.no_items, [])
    -- int main(void) { int __dyck_a1; return 0; }
    ∷ (s.more_items (s.function_item 0 s.no_storage s.int (s.function 4 (s.named 4 (ident 4 (codes "main"))) s.no_params) (s.block 15 (s.block_decl (s.decl 17 s.no_storage s.int (s.more_parts (s.named 21 (ident 21 (codes "__dyck_a1"))) s.no_init s.no_parts)) (s.block_stmt (s.return_from 32 (s.there (s.an_int 39 0 false))) s.no_block_items)))) s.no_items, failing 12 21 [])
    ∷ [])
unfolding table sys_types int_wrap
names_fail_instrumented = refl

-- Types, places and arguments (C3 to C5, C8, C13)
types_fail : AllFail Plain (
    -- int main(void) { int *p; p = 1; return 0; }
    (s.more_items (s.function_item 0 s.no_storage s.int (s.function 4 (s.named 4 (ident 4 (codes "main"))) s.no_params) (s.block 15 (s.block_decl (s.decl 17 s.no_storage s.int (s.more_parts (s.pointer 21 (s.named 22 (ident 22 (codes "p")))) s.no_init s.no_parts)) (s.block_stmt (s.evaluate 25 (s.assign 25 33 (s.a_name 25 (codes "p")) (s.an_int 29 1 false))) (s.block_stmt (s.return_from 32 (s.there (s.an_int 39 0 false))) s.no_block_items))))) s.no_items, failing 3 25 [])
    -- int main(void) { int *p; p = 0; p = (void *) 0; return p == 0; }
    ∷ (s.more_items (s.function_item 0 s.no_storage s.int (s.function 4 (s.named 4 (ident 4 (codes "main"))) s.no_params) (s.block 15 (s.block_decl (s.decl 17 s.no_storage s.int (s.more_parts (s.pointer 21 (s.named 22 (ident 22 (codes "p")))) s.no_init s.no_parts)) (s.block_stmt (s.evaluate 25 (s.assign 25 33 (s.a_name 25 (codes "p")) (s.an_int 29 0 false))) (s.block_stmt (s.evaluate 32 (s.assign 32 33 (s.a_name 32 (codes "p")) (s.cast 36 (s.type_name 37 s.void (s.pointer 42 s.nothing)) (s.an_int 45 0 false)))) (s.block_stmt (s.return_from 48 (s.there (s.binary 55 (s.operator 24) (s.a_name 55 (codes "p")) (s.an_int 60 0 false)))) s.no_block_items)))))) s.no_items, [])
    -- int a[2][2]; int main(void) { return 0; }
    ∷ (s.more_items (s.decl_item 0 (s.decl 0 s.no_storage s.int (s.more_parts (s.array 4 (s.array 4 (s.named 4 (ident 4 (codes "a"))) (s.there (s.an_int 6 2 false))) (s.there (s.an_int 9 2 false))) s.no_init s.no_parts))) (s.more_items (main_that_returns 13) s.no_items), failing 3 4 [])
    -- int (*a)[2]; int main(void) { return 0; }
    ∷ (s.more_items (s.decl_item 0 (s.decl 0 s.no_storage s.int (s.more_parts (s.array 4 (s.pointer 5 (s.named 6 (ident 6 (codes "a")))) (s.there (s.an_int 9 2 false))) s.no_init s.no_parts))) (s.more_items (main_that_returns 13) s.no_items), failing 3 5 [])
    -- int main(void) { void *p; return 0; }
    ∷ (s.more_items (s.function_item 0 s.no_storage s.int (s.function 4 (s.named 4 (ident 4 (codes "main"))) s.no_params) (s.block 15 (s.block_decl (s.decl 17 s.no_storage s.void (s.more_parts (s.pointer 22 (s.named 23 (ident 23 (codes "p")))) s.no_init s.no_parts)) (s.block_stmt (s.return_from 26 (s.there (s.an_int 33 0 false))) s.no_block_items)))) s.no_items, failing 3 22 [])
    -- struct s x; int main(void) { return 0; }
    ∷ (s.more_items (s.decl_item 0 (s.decl 0 s.no_storage (s.struct (ident 7 (codes "s"))) (s.more_parts (s.named 9 (ident 9 (codes "x"))) s.no_init s.no_parts))) (s.more_items (main_that_returns 12) s.no_items), failing 3 9 [])
    -- int main(void) { int f(void); return 0; }
    ∷ (s.more_items (s.function_item 0 s.no_storage s.int (s.function 4 (s.named 4 (ident 4 (codes "main"))) s.no_params) (s.block 15 (s.block_decl (s.decl 17 s.no_storage s.int (s.more_parts (s.function 21 (s.named 21 (ident 21 (codes "f"))) s.no_params) s.no_init s.no_parts)) (s.block_stmt (s.return_from 30 (s.there (s.an_int 37 0 false))) s.no_block_items)))) s.no_items, failing 3 21 [])
    -- struct s { int a; }; struct s x; int main(void) { x; return 0; }
    ∷ (s.more_items (s.struct_item 0 (ident 7 (codes "s")) (s.more_members 11 s.int (s.more_declarators (s.named 15 (ident 15 (codes "a"))) s.no_declarators) s.no_members)) (s.more_items (s.decl_item 21 (s.decl 21 s.no_storage (s.struct (ident 28 (codes "s"))) (s.more_parts (s.named 30 (ident 30 (codes "x"))) s.no_init s.no_parts))) (s.more_items (s.function_item 33 s.no_storage s.int (s.function 37 (s.named 37 (ident 37 (codes "main"))) s.no_params) (s.block 48 (s.block_stmt (s.evaluate 50 (s.a_name 50 (codes "x"))) (s.block_stmt (s.return_from 53 (s.there (s.an_int 60 0 false))) s.no_block_items)))) s.no_items)), failing 3 50 [])
    -- int f(int) { return 0; } int main(void) { return 0; }
    ∷ (s.more_items (s.function_item 0 s.no_storage s.int (s.function 4 (s.named 4 (ident 4 (codes "f"))) (s.more_params 6 s.int s.nothing s.no_params)) (s.block 11 (s.block_stmt (s.return_from 13 (s.there (s.an_int 20 0 false))) s.no_block_items))) (s.more_items (main_that_returns 25) s.no_items), failing 3 4 [])
    -- int main(void) { return; }
    ∷ (s.more_items (s.function_item 0 s.no_storage s.int (s.function 4 (s.named 4 (ident 4 (codes "main"))) s.no_params) (s.block 15 (s.block_stmt (s.return_from 17 s.absent) s.no_block_items))) s.no_items, failing 3 17 [])
    -- int main(void) { int *p; switch (p) { default: ; } return 0; }
    ∷ (s.more_items (s.function_item 0 s.no_storage s.int (s.function 4 (s.named 4 (ident 4 (codes "main"))) s.no_params) (s.block 15 (s.block_decl (s.decl 17 s.no_storage s.int (s.more_parts (s.pointer 21 (s.named 22 (ident 22 (codes "p")))) s.no_init s.no_parts)) (s.block_stmt (s.switch_on 25 (s.a_name 33 (codes "p")) (s.more_groups (s.default_label 38 s.no_labels) (s.more_stmts (s.empty 47) s.no_stmts) s.no_groups)) (s.block_stmt (s.return_from 51 (s.there (s.an_int 58 0 false))) s.no_block_items))))) s.no_items, failing 3 25 [])
    -- int main(void) { 1 = 2; return 0; }
    ∷ (s.more_items (s.function_item 0 s.no_storage s.int (s.function 4 (s.named 4 (ident 4 (codes "main"))) s.no_params) (s.block 15 (s.block_stmt (s.evaluate 17 (s.assign 17 33 (s.an_int 17 1 false) (s.an_int 21 2 false))) (s.block_stmt (s.return_from 24 (s.there (s.an_int 31 0 false))) s.no_block_items)))) s.no_items, failing 4 17 [])
    -- int main(void) { &1; return 0; }
    ∷ (s.more_items (s.function_item 0 s.no_storage s.int (s.function 4 (s.named 4 (ident 4 (codes "main"))) s.no_params) (s.block 15 (s.block_stmt (s.evaluate 17 (s.unary 17 10 (s.an_int 18 1 false))) (s.block_stmt (s.return_from 21 (s.there (s.an_int 28 0 false))) s.no_block_items)))) s.no_items, failing 4 18 [])
    -- int main(void) { (1 + 1)++; return 0; }
    ∷ (s.more_items (s.function_item 0 s.no_storage s.int (s.function 4 (s.named 4 (ident 4 (codes "main"))) s.no_params) (s.block 15 (s.block_stmt (s.evaluate 17 (s.postfix 17 s.post_increment (s.binary 18 (s.operator 12) (s.an_int 18 1 false) (s.an_int 22 1 false)))) (s.block_stmt (s.return_from 28 (s.there (s.an_int 35 0 false))) s.no_block_items)))) s.no_items, failing 4 18 [])
    -- int f(int x) { return x; } int main(void) { return f(); }
    ∷ (s.more_items (s.function_item 0 s.no_storage s.int (s.function 4 (s.named 4 (ident 4 (codes "f"))) (s.more_params 6 s.int (s.named 10 (ident 10 (codes "x"))) s.no_params)) (s.block 13 (s.block_stmt (s.return_from 15 (s.there (s.a_name 22 (codes "x")))) s.no_block_items))) (s.more_items (s.function_item 27 s.no_storage s.int (s.function 31 (s.named 31 (ident 31 (codes "main"))) s.no_params) (s.block 42 (s.block_stmt (s.return_from 44 (s.there (s.call 51 (s.a_name 51 (codes "f")) s.no_exprs))) s.no_block_items))) s.no_items), failing 5 51 [])
    -- int main(void) { break; }
    ∷ (s.more_items (s.function_item 0 s.no_storage s.int (s.function 4 (s.named 4 (ident 4 (codes "main"))) s.no_params) (s.block 15 (s.block_stmt (s.break_off 17) s.no_block_items))) s.no_items, failing 8 17 [])
    -- int main(void) { switch (1) { case 1: continue; } return 0; }
    ∷ (s.more_items (s.function_item 0 s.no_storage s.int (s.function 4 (s.named 4 (ident 4 (codes "main"))) s.no_params) (s.block 15 (s.block_stmt (s.switch_on 17 (s.an_int 25 1 false) (s.more_groups (s.case_label 30 (s.an_int 35 1 false) s.no_labels) (s.more_stmts (s.continue_on 38) s.no_stmts) s.no_groups)) (s.block_stmt (s.return_from 50 (s.there (s.an_int 57 0 false))) s.no_block_items)))) s.no_items, failing 8 38 [])
    -- int f(int, int, int, int, int, int, int, int, int, int, int, int, int, int, int, int, int); int main(void) { return 0; }
    ∷ (s.more_items (s.decl_item 0 (s.decl 0 s.no_storage s.int (s.more_parts (s.function 4 (s.named 4 (ident 4 (codes "f"))) (s.more_params 6 s.int s.nothing (s.more_params 11 s.int s.nothing (s.more_params 16 s.int s.nothing (s.more_params 21 s.int s.nothing (s.more_params 26 s.int s.nothing (s.more_params 31 s.int s.nothing (s.more_params 36 s.int s.nothing (s.more_params 41 s.int s.nothing (s.more_params 46 s.int s.nothing (s.more_params 51 s.int s.nothing (s.more_params 56 s.int s.nothing (s.more_params 61 s.int s.nothing (s.more_params 66 s.int s.nothing (s.more_params 71 s.int s.nothing (s.more_params 76 s.int s.nothing (s.more_params 81 s.int s.nothing (s.more_params 86 s.int s.nothing s.no_params)))))))))))))))))) s.no_init s.no_parts))) (s.more_items (main_that_returns 92) s.no_items), failing 13 4 [])
    -- int *****************************************************************x; int main(void) { return 0; }
    ∷ (s.more_items (s.decl_item 0 (s.decl 0 s.no_storage s.int (s.more_parts (s.pointer 4 (s.pointer 5 (s.pointer 6 (s.pointer 7 (s.pointer 8 (s.pointer 9 (s.pointer 10 (s.pointer 11 (s.pointer 12 (s.pointer 13 (s.pointer 14 (s.pointer 15 (s.pointer 16 (s.pointer 17 (s.pointer 18 (s.pointer 19 (s.pointer 20 (s.pointer 21 (s.pointer 22 (s.pointer 23 (s.pointer 24 (s.pointer 25 (s.pointer 26 (s.pointer 27 (s.pointer 28 (s.pointer 29 (s.pointer 30 (s.pointer 31 (s.pointer 32 (s.pointer 33 (s.pointer 34 (s.pointer 35 (s.pointer 36 (s.pointer 37 (s.pointer 38 (s.pointer 39 (s.pointer 40 (s.pointer 41 (s.pointer 42 (s.pointer 43 (s.pointer 44 (s.pointer 45 (s.pointer 46 (s.pointer 47 (s.pointer 48 (s.pointer 49 (s.pointer 50 (s.pointer 51 (s.pointer 52 (s.pointer 53 (s.pointer 54 (s.pointer 55 (s.pointer 56 (s.pointer 57 (s.pointer 58 (s.pointer 59 (s.pointer 60 (s.pointer 61 (s.pointer 62 (s.pointer 63 (s.pointer 64 (s.pointer 65 (s.pointer 66 (s.pointer 67 (s.pointer 68 (s.named 69 (ident 69 (codes "x")))))))))))))))))))))))))))))))))))))))))))))))))))))))))))))))))))) s.no_init s.no_parts))) (s.more_items (main_that_returns 72) s.no_items), failing 13 68 [])
    -- int ****************************************************************x; int main(void) { &x; return 0; }
    ∷ (s.more_items (s.decl_item 0 (s.decl 0 s.no_storage s.int (s.more_parts (s.pointer 4 (s.pointer 5 (s.pointer 6 (s.pointer 7 (s.pointer 8 (s.pointer 9 (s.pointer 10 (s.pointer 11 (s.pointer 12 (s.pointer 13 (s.pointer 14 (s.pointer 15 (s.pointer 16 (s.pointer 17 (s.pointer 18 (s.pointer 19 (s.pointer 20 (s.pointer 21 (s.pointer 22 (s.pointer 23 (s.pointer 24 (s.pointer 25 (s.pointer 26 (s.pointer 27 (s.pointer 28 (s.pointer 29 (s.pointer 30 (s.pointer 31 (s.pointer 32 (s.pointer 33 (s.pointer 34 (s.pointer 35 (s.pointer 36 (s.pointer 37 (s.pointer 38 (s.pointer 39 (s.pointer 40 (s.pointer 41 (s.pointer 42 (s.pointer 43 (s.pointer 44 (s.pointer 45 (s.pointer 46 (s.pointer 47 (s.pointer 48 (s.pointer 49 (s.pointer 50 (s.pointer 51 (s.pointer 52 (s.pointer 53 (s.pointer 54 (s.pointer 55 (s.pointer 56 (s.pointer 57 (s.pointer 58 (s.pointer 59 (s.pointer 60 (s.pointer 61 (s.pointer 62 (s.pointer 63 (s.pointer 64 (s.pointer 65 (s.pointer 66 (s.pointer 67 (s.named 68 (ident 68 (codes "x"))))))))))))))))))))))))))))))))))))))))))))))))))))))))))))))))))) s.no_init s.no_parts))) (s.more_items (s.function_item 71 s.no_storage s.int (s.function 75 (s.named 75 (ident 75 (codes "main"))) s.no_params) (s.block 86 (s.block_stmt (s.evaluate 88 (s.unary 88 10 (s.a_name 89 (codes "x")))) (s.block_stmt (s.return_from 92 (s.there (s.an_int 99 0 false))) s.no_block_items)))) s.no_items), failing 13 88 [])
    ∷ [])
unfolding table sys_types int_wrap
types_fail = refl

-- Constants, switches and initialisers (C6, C7, C14)
constants_fail : AllFail Plain (
    -- int a[0]; int main(void) { return 0; }
    (s.more_items (s.decl_item 0 (s.decl 0 s.no_storage s.int (s.more_parts (s.array 4 (s.named 4 (ident 4 (codes "a"))) (s.there (s.an_int 6 0 false))) s.no_init s.no_parts))) (s.more_items (main_that_returns 10) s.no_items), failing 6 6 [])
    -- int x; int a[x]; int main(void) { return 0; }
    ∷ (s.more_items (s.decl_item 0 (s.decl 0 s.no_storage s.int (s.more_parts (s.named 4 (ident 4 (codes "x"))) s.no_init s.no_parts))) (s.more_items (s.decl_item 7 (s.decl 7 s.no_storage s.int (s.more_parts (s.array 11 (s.named 11 (ident 11 (codes "a"))) (s.there (s.a_name 13 (codes "x")))) s.no_init s.no_parts))) (s.more_items (main_that_returns 17) s.no_items)), failing 6 13 [])
    -- int x = 1 / 0; int main(void) { return 0; }
    ∷ (s.more_items (s.decl_item 0 (s.decl 0 s.no_storage s.int (s.more_parts (s.named 4 (ident 4 (codes "x"))) (s.an_init (s.one 8 (s.binary 8 (s.operator 16) (s.an_int 8 1 false) (s.an_int 12 0 false)))) s.no_parts))) (s.more_items (main_that_returns 15) s.no_items), failing 6 8 [])
    -- int x = 1 || 1 / 0; int main(void) { return 0; }
    ∷ (s.more_items (s.decl_item 0 (s.decl 0 s.no_storage s.int (s.more_parts (s.named 4 (ident 4 (codes "x"))) (s.an_init (s.one 8 (s.binary 8 s.or (s.an_int 8 1 false) (s.binary 13 (s.operator 16) (s.an_int 13 1 false) (s.an_int 17 0 false))))) s.no_parts))) (s.more_items (main_that_returns 20) s.no_items), [])
    -- int x; int y = x; int main(void) { return 0; }
    ∷ (s.more_items (s.decl_item 0 (s.decl 0 s.no_storage s.int (s.more_parts (s.named 4 (ident 4 (codes "x"))) s.no_init s.no_parts))) (s.more_items (s.decl_item 7 (s.decl 7 s.no_storage s.int (s.more_parts (s.named 11 (ident 11 (codes "y"))) (s.an_init (s.one 15 (s.a_name 15 (codes "x")))) s.no_parts))) (s.more_items (main_that_returns 18) s.no_items)), failing 6 15 [])
    -- int a[2]; int *p = a + 3; int main(void) { return 0; }
    ∷ (s.more_items (s.decl_item 0 (s.decl 0 s.no_storage s.int (s.more_parts (s.array 4 (s.named 4 (ident 4 (codes "a"))) (s.there (s.an_int 6 2 false))) s.no_init s.no_parts))) (s.more_items (s.decl_item 10 (s.decl 10 s.no_storage s.int (s.more_parts (s.pointer 14 (s.named 15 (ident 15 (codes "p")))) (s.an_init (s.one 19 (s.binary 19 (s.operator 12) (s.a_name 19 (codes "a")) (s.an_int 23 3 false)))) s.no_parts))) (s.more_items (main_that_returns 26) s.no_items)), failing 6 19 [])
    -- int a[2]; int *p = &a[1] + 1; int main(void) { return 0; }
    ∷ (s.more_items (s.decl_item 0 (s.decl 0 s.no_storage s.int (s.more_parts (s.array 4 (s.named 4 (ident 4 (codes "a"))) (s.there (s.an_int 6 2 false))) s.no_init s.no_parts))) (s.more_items (s.decl_item 10 (s.decl 10 s.no_storage s.int (s.more_parts (s.pointer 14 (s.named 15 (ident 15 (codes "p")))) (s.an_init (s.one 19 (s.binary 19 (s.operator 12) (s.unary 19 10 (s.index 20 (s.a_name 20 (codes "a")) (s.an_int 22 1 false))) (s.an_int 27 1 false)))) s.no_parts))) (s.more_items (main_that_returns 30) s.no_items)), [])
    -- int x; int *p = 1 ? &x : 0; int main(void) { return 0; }
    ∷ (s.more_items (s.decl_item 0 (s.decl 0 s.no_storage s.int (s.more_parts (s.named 4 (ident 4 (codes "x"))) s.no_init s.no_parts))) (s.more_items (s.decl_item 7 (s.decl 7 s.no_storage s.int (s.more_parts (s.pointer 11 (s.named 12 (ident 12 (codes "p")))) (s.an_init (s.one 16 (s.conditional 16 (s.an_int 16 1 false) (s.unary 20 10 (s.a_name 21 (codes "x"))) (s.an_int 25 0 false)))) s.no_parts))) (s.more_items (main_that_returns 28) s.no_items)), failing 6 16 [])
    -- int f(void) { return 0; } int main(void) { return sizeof f(); }
    ∷ (s.more_items (s.function_item 0 s.no_storage s.int (s.function 4 (s.named 4 (ident 4 (codes "f"))) s.no_params) (s.block 12 (s.block_stmt (s.return_from 14 (s.there (s.an_int 21 0 false))) s.no_block_items))) (s.more_items (s.function_item 26 s.no_storage s.int (s.function 30 (s.named 30 (ident 30 (codes "main"))) s.no_params) (s.block 41 (s.block_stmt (s.return_from 43 (s.there (s.prefix 50 s.sizeof (s.call 57 (s.a_name 57 (codes "f")) s.no_exprs)))) s.no_block_items))) s.no_items), failing 6 57 [])
    -- enum { A = 2147483647, B }; int main(void) { return 0; }
    ∷ (s.more_items (s.enum_item 0 s.no_tag (s.more_enumerators (ident 7 (codes "A")) (s.there (s.an_int 11 2147483647 false)) (s.more_enumerators (ident 23 (codes "B")) s.absent s.no_enumerators))) (s.more_items (main_that_returns 28) s.no_items), failing 6 23 [])
    -- int main(void) { switch (1u) { case 4294967295u: case -1: ; } return 0; }
    ∷ (s.more_items (s.function_item 0 s.no_storage s.int (s.function 4 (s.named 4 (ident 4 (codes "main"))) s.no_params) (s.block 15 (s.block_stmt (s.switch_on 17 (s.an_int 25 1 true) (s.more_groups (s.case_label 31 (s.an_int 36 4294967295 true) (s.case_label 49 (s.unary 54 13 (s.an_int 55 1 false)) s.no_labels)) (s.more_stmts (s.empty 58) s.no_stmts) s.no_groups)) (s.block_stmt (s.return_from 62 (s.there (s.an_int 69 0 false))) s.no_block_items)))) s.no_items, failing 7 17 [])
    -- int main(void) { switch (1) { default: default: ; } return 0; }
    ∷ (s.more_items (s.function_item 0 s.no_storage s.int (s.function 4 (s.named 4 (ident 4 (codes "main"))) s.no_params) (s.block 15 (s.block_stmt (s.switch_on 17 (s.an_int 25 1 false) (s.more_groups (s.default_label 30 (s.default_label 39 s.no_labels)) (s.more_stmts (s.empty 48) s.no_stmts) s.no_groups)) (s.block_stmt (s.return_from 52 (s.there (s.an_int 59 0 false))) s.no_block_items)))) s.no_items, failing 7 17 [])
    -- int main(void) { switch (1) { case 1: case 2: default: ; } return 0; }
    ∷ (s.more_items (s.function_item 0 s.no_storage s.int (s.function 4 (s.named 4 (ident 4 (codes "main"))) s.no_params) (s.block 15 (s.block_stmt (s.switch_on 17 (s.an_int 25 1 false) (s.more_groups (s.case_label 30 (s.an_int 35 1 false) (s.case_label 38 (s.an_int 43 2 false) (s.default_label 46 s.no_labels))) (s.more_stmts (s.empty 55) s.no_stmts) s.no_groups)) (s.block_stmt (s.return_from 59 (s.there (s.an_int 66 0 false))) s.no_block_items)))) s.no_items, [])
    -- int main(void) { switch (1) { case 1: case 1: x; } return 0; }
    ∷ (s.more_items (s.function_item 0 s.no_storage s.int (s.function 4 (s.named 4 (ident 4 (codes "main"))) s.no_params) (s.block 15 (s.block_stmt (s.switch_on 17 (s.an_int 25 1 false) (s.more_groups (s.case_label 30 (s.an_int 35 1 false) (s.case_label 38 (s.an_int 43 1 false) s.no_labels)) (s.more_stmts (s.evaluate 46 (s.a_name 46 (codes "x"))) s.no_stmts) s.no_groups)) (s.block_stmt (s.return_from 51 (s.there (s.an_int 58 0 false))) s.no_block_items)))) s.no_items, failing 1 46 [])
    -- int a[1] = { 1, 2 }; int main(void) { return 0; }
    ∷ (s.more_items (s.decl_item 0 (s.decl 0 s.no_storage s.int (s.more_parts (s.array 4 (s.named 4 (ident 4 (codes "a"))) (s.there (s.an_int 6 1 false))) (s.an_init (s.list 11 (s.more_inits (s.one 13 (s.an_int 13 1 false)) (s.more_inits (s.one 16 (s.an_int 16 2 false)) s.no_inits)))) s.no_parts))) (s.more_items (main_that_returns 21) s.no_items), failing 14 11 [])
    -- extern int a[]; int main(void) { return 0; }
    ∷ (s.more_items (s.decl_item 0 (s.decl 0 s.extern s.int (s.more_parts (s.array 11 (s.named 11 (ident 11 (codes "a"))) s.absent) s.no_init s.no_parts))) (s.more_items (main_that_returns 16) s.no_items), failing 14 11 [])
    -- int x = { 1 }; int main(void) { return 0; }
    ∷ (s.more_items (s.decl_item 0 (s.decl 0 s.no_storage s.int (s.more_parts (s.named 4 (ident 4 (codes "x"))) (s.an_init (s.list 8 (s.more_inits (s.one 10 (s.an_int 10 1 false)) s.no_inits))) s.no_parts))) (s.more_items (main_that_returns 15) s.no_items), failing 14 8 [])
    -- char s[3] = "abc"; int main(void) { return 0; }
    ∷ (s.more_items (s.decl_item 0 (s.decl 0 s.no_storage s.char (s.more_parts (s.array 5 (s.named 5 (ident 5 (codes "s"))) (s.there (s.an_int 7 3 false))) (s.an_init (s.one 12 (s.a_str 12 (97 ∷ 98 ∷ 99 ∷ [])))) s.no_parts))) (s.more_items (main_that_returns 19) s.no_items), [])
    -- char s[2] = "abc"; int main(void) { return 0; }
    ∷ (s.more_items (s.decl_item 0 (s.decl 0 s.no_storage s.char (s.more_parts (s.array 5 (s.named 5 (ident 5 (codes "s"))) (s.there (s.an_int 7 2 false))) (s.an_init (s.one 12 (s.a_str 12 (97 ∷ 98 ∷ 99 ∷ [])))) s.no_parts))) (s.more_items (main_that_returns 19) s.no_items), failing 14 12 [])
    -- unsigned char s[4] = "abc"; int main(void) { return 0; }
    ∷ (s.more_items (s.decl_item 0 (s.decl 0 s.no_storage s.unsigned_char (s.more_parts (s.array 14 (s.named 14 (ident 14 (codes "s"))) (s.there (s.an_int 16 4 false))) (s.an_init (s.one 21 (s.a_str 21 (97 ∷ 98 ∷ 99 ∷ [])))) s.no_parts))) (s.more_items (main_that_returns 28) s.no_items), failing 14 21 [])
    -- char s[4] = { "abc" }; int main(void) { return 0; }
    ∷ (s.more_items (s.decl_item 0 (s.decl 0 s.no_storage s.char (s.more_parts (s.array 5 (s.named 5 (ident 5 (codes "s"))) (s.there (s.an_int 7 4 false))) (s.an_init (s.list 12 (s.more_inits (s.one 14 (s.a_str 14 (97 ∷ 98 ∷ 99 ∷ []))) s.no_inits))) s.no_parts))) (s.more_items (main_that_returns 23) s.no_items), failing 3 14 [])
    -- int f(void) = 1; int main(void) { return 0; }
    ∷ (s.more_items (s.decl_item 0 (s.decl 0 s.no_storage s.int (s.more_parts (s.function 4 (s.named 4 (ident 4 (codes "f"))) s.no_params) (s.an_init (s.one 14 (s.an_int 14 1 false))) s.no_parts))) (s.more_items (main_that_returns 17) s.no_items), failing 14 14 [])
    -- int a[] = { sizeof a }; int main(void) { return 0; }
    ∷ (s.more_items (s.decl_item 0 (s.decl 0 s.no_storage s.int (s.more_parts (s.array 4 (s.named 4 (ident 4 (codes "a"))) s.absent) (s.an_init (s.list 10 (s.more_inits (s.one 12 (s.prefix 12 s.sizeof (s.a_name 19 (codes "a")))) s.no_inits))) s.no_parts))) (s.more_items (main_that_returns 24) s.no_items), failing 3 12 [])
    -- int a[0]; int main(void) { return a[1] + b; }
    ∷ (s.more_items (s.decl_item 0 (s.decl 0 s.no_storage s.int (s.more_parts (s.array 4 (s.named 4 (ident 4 (codes "a"))) (s.there (s.an_int 6 0 false))) s.no_init s.no_parts))) (s.more_items (s.function_item 10 s.no_storage s.int (s.function 14 (s.named 14 (ident 14 (codes "main"))) s.no_params) (s.block 25 (s.block_stmt (s.return_from 27 (s.there (s.binary 34 (s.operator 12) (s.index 34 (s.a_name 34 (codes "a")) (s.an_int 36 1 false)) (s.a_name 41 (codes "b"))))) s.no_block_items))) s.no_items), failing 6 6 (failing 6 6 (failing 1 41 [])))
    ∷ [])
unfolding table sys_types int_wrap
constants_fail = refl
