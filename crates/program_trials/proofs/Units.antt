-- Units of the programs that are run, as terms; their places are all 0.
use Rattle.std.proofs.Common.{ℕ, pos, false, List, [], ◌∷◌, codes}
use Rattle.c_lexer.specs.declared.punctuator.TheConstants as punctuators
use Rattle.c_syntax.specs.Tree.{Ident, Items}
use Rattle.c_syntax.specs.Tree as s

abbrev ident : List ℕ → Ident
ident x = record { name = x; at = 0 }

-- int getpid(void); int main(void) { int x; getpid(); x = 2147483647; x = x + 1; return 0; }
abbrev pub overflow_unit : Items
overflow_unit =
    s.more_items (s.decl_item 0 (s.decl 0 s.no_storage s.int (s.more_parts (s.function 0 (s.named 0 (ident (codes "getpid"))) s.no_params) s.no_init s.no_parts))) (
    s.more_items (s.function_item 0 s.no_storage s.int (s.function 0 (s.named 0 (ident (codes "main"))) s.no_params) (s.block 0 (s.block_decl (s.decl 0 s.no_storage s.int (s.more_parts (s.named 0 (ident (codes "x"))) s.no_init s.no_parts)) (s.block_stmt (s.evaluate 0 (s.call 0 (s.a_name 0 (codes "getpid")) s.no_exprs)) (s.block_stmt (s.evaluate 0 (s.assign 0 punctuators.ASSIGN (s.a_name 0 (codes "x")) (s.an_int 0 2147483647 false))) (s.block_stmt (s.evaluate 0 (s.assign 0 punctuators.ASSIGN (s.a_name 0 (codes "x")) (s.binary 0 (s.operator punctuators.PLUS) (s.a_name 0 (codes "x")) (s.an_int 0 1 false)))) (s.block_stmt (s.return_from 0 (s.there (s.an_int 0 0 false))) s.no_block_items))))))) (
    s.no_items))

-- int main(void) { int x = 0; return 1 / x; }
abbrev pub by_zero_unit : Items
by_zero_unit =
    s.more_items (s.function_item 0 s.no_storage s.int (s.function 0 (s.named 0 (ident (codes "main"))) s.no_params) (s.block 0 (s.block_decl (s.decl 0 s.no_storage s.int (s.more_parts (s.named 0 (ident (codes "x"))) (s.an_init (s.one 0 (s.an_int 0 0 false))) s.no_parts)) (s.block_stmt (s.return_from 0 (s.there (s.binary 0 (s.operator punctuators.SLASH) (s.an_int 0 1 false) (s.a_name 0 (codes "x"))))) s.no_block_items)))) (
    s.no_items)

-- int main(void) { int x = 32; return 1 << x; }
abbrev pub far_shift_unit : Items
far_shift_unit =
    s.more_items (s.function_item 0 s.no_storage s.int (s.function 0 (s.named 0 (ident (codes "main"))) s.no_params) (s.block 0 (s.block_decl (s.decl 0 s.no_storage s.int (s.more_parts (s.named 0 (ident (codes "x"))) (s.an_init (s.one 0 (s.an_int 0 32 false))) s.no_parts)) (s.block_stmt (s.return_from 0 (s.there (s.binary 0 (s.operator punctuators.LEFT_SHIFT) (s.an_int 0 1 false) (s.a_name 0 (codes "x"))))) s.no_block_items)))) (
    s.no_items)

-- struct s { int a; int b; }; struct s v; int main(void) { int *p = &v.a; return *(p + 1); }
abbrev pub past_member_unit : Items
past_member_unit =
    s.more_items (s.struct_item 0 (ident (codes "s")) (s.more_members 0 s.int (s.more_declarators (s.named 0 (ident (codes "a"))) s.no_declarators) (s.more_members 0 s.int (s.more_declarators (s.named 0 (ident (codes "b"))) s.no_declarators) s.no_members))) (
    s.more_items (s.decl_item 0 (s.decl 0 s.no_storage (s.struct (ident (codes "s"))) (s.more_parts (s.named 0 (ident (codes "v"))) s.no_init s.no_parts))) (
    s.more_items (s.function_item 0 s.no_storage s.int (s.function 0 (s.named 0 (ident (codes "main"))) s.no_params) (s.block 0 (s.block_decl (s.decl 0 s.no_storage s.int (s.more_parts (s.pointer 0 (s.named 0 (ident (codes "p")))) (s.an_init (s.one 0 (s.unary 0 punctuators.AMPERSAND (s.member 0 s.dot (s.a_name 0 (codes "v")) (ident (codes "a")))))) s.no_parts)) (s.block_stmt (s.return_from 0 (s.there (s.unary 0 punctuators.ASTERISK (s.binary 0 (s.operator punctuators.PLUS) (s.a_name 0 (codes "p")) (s.an_int 0 1 false))))) s.no_block_items)))) (
    s.no_items)))

-- int a[2]; int b[2]; int main(void) { return &a[1] - &b[0]; }
abbrev pub two_arrays_unit : Items
two_arrays_unit =
    s.more_items (s.decl_item 0 (s.decl 0 s.no_storage s.int (s.more_parts (s.array 0 (s.named 0 (ident (codes "a"))) (s.there (s.an_int 0 2 false))) s.no_init s.no_parts))) (
    s.more_items (s.decl_item 0 (s.decl 0 s.no_storage s.int (s.more_parts (s.array 0 (s.named 0 (ident (codes "b"))) (s.there (s.an_int 0 2 false))) s.no_init s.no_parts))) (
    s.more_items (s.function_item 0 s.no_storage s.int (s.function 0 (s.named 0 (ident (codes "main"))) s.no_params) (s.block 0 (s.block_stmt (s.return_from 0 (s.there (s.binary 0 (s.operator punctuators.MINUS) (s.unary 0 punctuators.AMPERSAND (s.index 0 (s.a_name 0 (codes "a")) (s.an_int 0 1 false))) (s.unary 0 punctuators.AMPERSAND (s.index 0 (s.a_name 0 (codes "b")) (s.an_int 0 0 false)))))) s.no_block_items))) (
    s.no_items)))

-- struct s { int a; }; struct s *p; int main(void) { return p->a; }
abbrev pub null_member_unit : Items
null_member_unit =
    s.more_items (s.struct_item 0 (ident (codes "s")) (s.more_members 0 s.int (s.more_declarators (s.named 0 (ident (codes "a"))) s.no_declarators) s.no_members)) (
    s.more_items (s.decl_item 0 (s.decl 0 s.no_storage (s.struct (ident (codes "s"))) (s.more_parts (s.pointer 0 (s.named 0 (ident (codes "p")))) s.no_init s.no_parts))) (
    s.more_items (s.function_item 0 s.no_storage s.int (s.function 0 (s.named 0 (ident (codes "main"))) s.no_params) (s.block 0 (s.block_stmt (s.return_from 0 (s.there (s.member 0 s.arrow (s.a_name 0 (codes "p")) (ident (codes "a"))))) s.no_block_items))) (
    s.no_items)))

-- int *p; int f(int x) { p = &x; return x; } int main(void) { f(3); return *p; }
abbrev pub ended_parameter_unit : Items
ended_parameter_unit =
    s.more_items (s.decl_item 0 (s.decl 0 s.no_storage s.int (s.more_parts (s.pointer 0 (s.named 0 (ident (codes "p")))) s.no_init s.no_parts))) (
    s.more_items (s.function_item 0 s.no_storage s.int (s.function 0 (s.named 0 (ident (codes "f"))) (s.more_params 0 s.int (s.named 0 (ident (codes "x"))) s.no_params)) (s.block 0 (s.block_stmt (s.evaluate 0 (s.assign 0 punctuators.ASSIGN (s.a_name 0 (codes "p")) (s.unary 0 punctuators.AMPERSAND (s.a_name 0 (codes "x"))))) (s.block_stmt (s.return_from 0 (s.there (s.a_name 0 (codes "x")))) s.no_block_items)))) (
    s.more_items (s.function_item 0 s.no_storage s.int (s.function 0 (s.named 0 (ident (codes "main"))) s.no_params) (s.block 0 (s.block_stmt (s.evaluate 0 (s.call 0 (s.a_name 0 (codes "f")) (s.more_exprs (s.an_int 0 3 false) s.no_exprs))) (s.block_stmt (s.return_from 0 (s.there (s.unary 0 punctuators.ASTERISK (s.a_name 0 (codes "p"))))) s.no_block_items)))) (
    s.no_items)))

-- int a[2]; int main(void) { int *p = a; p = p - 1; return 0; }
abbrev pub before_array_unit : Items
before_array_unit =
    s.more_items (s.decl_item 0 (s.decl 0 s.no_storage s.int (s.more_parts (s.array 0 (s.named 0 (ident (codes "a"))) (s.there (s.an_int 0 2 false))) s.no_init s.no_parts))) (
    s.more_items (s.function_item 0 s.no_storage s.int (s.function 0 (s.named 0 (ident (codes "main"))) s.no_params) (s.block 0 (s.block_decl (s.decl 0 s.no_storage s.int (s.more_parts (s.pointer 0 (s.named 0 (ident (codes "p")))) (s.an_init (s.one 0 (s.a_name 0 (codes "a")))) s.no_parts)) (s.block_stmt (s.evaluate 0 (s.assign 0 punctuators.ASSIGN (s.a_name 0 (codes "p")) (s.binary 0 (s.operator punctuators.MINUS) (s.a_name 0 (codes "p")) (s.an_int 0 1 false)))) (s.block_stmt (s.return_from 0 (s.there (s.an_int 0 0 false))) s.no_block_items))))) (
    s.no_items))

-- int x = 1; int main(void) { int y = x; int x = 2; { int x = 3; y = y * 10 + x; } return y * 10 + x; }
abbrev pub shadowed_unit : Items
shadowed_unit =
    s.more_items (s.decl_item 0 (s.decl 0 s.no_storage s.int (s.more_parts (s.named 0 (ident (codes "x"))) (s.an_init (s.one 0 (s.an_int 0 1 false))) s.no_parts))) (
    s.more_items (s.function_item 0 s.no_storage s.int (s.function 0 (s.named 0 (ident (codes "main"))) s.no_params) (s.block 0 (s.block_decl (s.decl 0 s.no_storage s.int (s.more_parts (s.named 0 (ident (codes "y"))) (s.an_init (s.one 0 (s.a_name 0 (codes "x")))) s.no_parts)) (s.block_decl (s.decl 0 s.no_storage s.int (s.more_parts (s.named 0 (ident (codes "x"))) (s.an_init (s.one 0 (s.an_int 0 2 false))) s.no_parts)) (s.block_stmt (s.block 0 (s.block_decl (s.decl 0 s.no_storage s.int (s.more_parts (s.named 0 (ident (codes "x"))) (s.an_init (s.one 0 (s.an_int 0 3 false))) s.no_parts)) (s.block_stmt (s.evaluate 0 (s.assign 0 punctuators.ASSIGN (s.a_name 0 (codes "y")) (s.binary 0 (s.operator punctuators.PLUS) (s.binary 0 (s.operator punctuators.ASTERISK) (s.a_name 0 (codes "y")) (s.an_int 0 10 false)) (s.a_name 0 (codes "x"))))) s.no_block_items))) (s.block_stmt (s.return_from 0 (s.there (s.binary 0 (s.operator punctuators.PLUS) (s.binary 0 (s.operator punctuators.ASTERISK) (s.a_name 0 (codes "y")) (s.an_int 0 10 false)) (s.a_name 0 (codes "x"))))) s.no_block_items)))))) (
    s.no_items))

-- int main(void) { char *s = "ab"; return s[0] * 1 + s[1] - s[2] + sizeof "ab"; }
abbrev pub string_cells_unit : Items
string_cells_unit =
    s.more_items (s.function_item 0 s.no_storage s.int (s.function 0 (s.named 0 (ident (codes "main"))) s.no_params) (s.block 0 (s.block_decl (s.decl 0 s.no_storage s.char (s.more_parts (s.pointer 0 (s.named 0 (ident (codes "s")))) (s.an_init (s.one 0 (s.a_str 0 (97 ∷ 98 ∷ [])))) s.no_parts)) (s.block_stmt (s.return_from 0 (s.there (s.binary 0 (s.operator punctuators.PLUS) (s.binary 0 (s.operator punctuators.MINUS) (s.binary 0 (s.operator punctuators.PLUS) (s.binary 0 (s.operator punctuators.ASTERISK) (s.index 0 (s.a_name 0 (codes "s")) (s.an_int 0 0 false)) (s.an_int 0 1 false)) (s.index 0 (s.a_name 0 (codes "s")) (s.an_int 0 1 false))) (s.index 0 (s.a_name 0 (codes "s")) (s.an_int 0 2 false))) (s.prefix 0 s.sizeof (s.a_str 0 (97 ∷ 98 ∷ [])))))) s.no_block_items)))) (
    s.no_items)

-- int f(int a[3], int i) { a[i] = a[i] + 5; return sizeof a; } int main(void) { int b[3] = { 1, 2 }; f(b, 1); return f(b, 1) * 0 + b[1] * 10 + b[2]; }
abbrev pub array_parameter_unit : Items
array_parameter_unit =
    s.more_items (s.function_item 0 s.no_storage s.int (s.function 0 (s.named 0 (ident (codes "f"))) (s.more_params 0 s.int (s.array 0 (s.named 0 (ident (codes "a"))) (s.there (s.an_int 0 3 false))) (s.more_params 0 s.int (s.named 0 (ident (codes "i"))) s.no_params))) (s.block 0 (s.block_stmt (s.evaluate 0 (s.assign 0 punctuators.ASSIGN (s.index 0 (s.a_name 0 (codes "a")) (s.a_name 0 (codes "i"))) (s.binary 0 (s.operator punctuators.PLUS) (s.index 0 (s.a_name 0 (codes "a")) (s.a_name 0 (codes "i"))) (s.an_int 0 5 false)))) (s.block_stmt (s.return_from 0 (s.there (s.prefix 0 s.sizeof (s.a_name 0 (codes "a"))))) s.no_block_items)))) (
    s.more_items (s.function_item 0 s.no_storage s.int (s.function 0 (s.named 0 (ident (codes "main"))) s.no_params) (s.block 0 (s.block_decl (s.decl 0 s.no_storage s.int (s.more_parts (s.array 0 (s.named 0 (ident (codes "b"))) (s.there (s.an_int 0 3 false))) (s.an_init (s.list 0 (s.more_inits (s.one 0 (s.an_int 0 1 false)) (s.more_inits (s.one 0 (s.an_int 0 2 false)) s.no_inits)))) s.no_parts)) (s.block_stmt (s.evaluate 0 (s.call 0 (s.a_name 0 (codes "f")) (s.more_exprs (s.a_name 0 (codes "b")) (s.more_exprs (s.an_int 0 1 false) s.no_exprs)))) (s.block_stmt (s.return_from 0 (s.there (s.binary 0 (s.operator punctuators.PLUS) (s.binary 0 (s.operator punctuators.PLUS) (s.binary 0 (s.operator punctuators.ASTERISK) (s.call 0 (s.a_name 0 (codes "f")) (s.more_exprs (s.a_name 0 (codes "b")) (s.more_exprs (s.an_int 0 1 false) s.no_exprs))) (s.an_int 0 0 false)) (s.binary 0 (s.operator punctuators.ASTERISK) (s.index 0 (s.a_name 0 (codes "b")) (s.an_int 0 1 false)) (s.an_int 0 10 false))) (s.index 0 (s.a_name 0 (codes "b")) (s.an_int 0 2 false))))) s.no_block_items))))) (
    s.no_items))

-- struct in { char c; int d[2]; }; struct s { int a; struct in b; }; struct s v; int main(void) { struct s *p = &v; p->a = 4; v.b.d[1] = 7; p->b.c = 1; return v.a * 100 + p->b.d[1] * 10 + v.b.c; }
abbrev pub members_unit : Items
members_unit =
    s.more_items (s.struct_item 0 (ident (codes "in")) (s.more_members 0 s.char (s.more_declarators (s.named 0 (ident (codes "c"))) s.no_declarators) (s.more_members 0 s.int (s.more_declarators (s.array 0 (s.named 0 (ident (codes "d"))) (s.there (s.an_int 0 2 false))) s.no_declarators) s.no_members))) (
    s.more_items (s.struct_item 0 (ident (codes "s")) (s.more_members 0 s.int (s.more_declarators (s.named 0 (ident (codes "a"))) s.no_declarators) (s.more_members 0 (s.struct (ident (codes "in"))) (s.more_declarators (s.named 0 (ident (codes "b"))) s.no_declarators) s.no_members))) (
    s.more_items (s.decl_item 0 (s.decl 0 s.no_storage (s.struct (ident (codes "s"))) (s.more_parts (s.named 0 (ident (codes "v"))) s.no_init s.no_parts))) (
    s.more_items (s.function_item 0 s.no_storage s.int (s.function 0 (s.named 0 (ident (codes "main"))) s.no_params) (s.block 0 (s.block_decl (s.decl 0 s.no_storage (s.struct (ident (codes "s"))) (s.more_parts (s.pointer 0 (s.named 0 (ident (codes "p")))) (s.an_init (s.one 0 (s.unary 0 punctuators.AMPERSAND (s.a_name 0 (codes "v"))))) s.no_parts)) (s.block_stmt (s.evaluate 0 (s.assign 0 punctuators.ASSIGN (s.member 0 s.arrow (s.a_name 0 (codes "p")) (ident (codes "a"))) (s.an_int 0 4 false))) (s.block_stmt (s.evaluate 0 (s.assign 0 punctuators.ASSIGN (s.index 0 (s.member 0 s.dot (s.member 0 s.dot (s.a_name 0 (codes "v")) (ident (codes "b"))) (ident (codes "d"))) (s.an_int 0 1 false)) (s.an_int 0 7 false))) (s.block_stmt (s.evaluate 0 (s.assign 0 punctuators.ASSIGN (s.member 0 s.dot (s.member 0 s.arrow (s.a_name 0 (codes "p")) (ident (codes "b"))) (ident (codes "c"))) (s.an_int 0 1 false))) (s.block_stmt (s.return_from 0 (s.there (s.binary 0 (s.operator punctuators.PLUS) (s.binary 0 (s.operator punctuators.PLUS) (s.binary 0 (s.operator punctuators.ASTERISK) (s.member 0 s.dot (s.a_name 0 (codes "v")) (ident (codes "a"))) (s.an_int 0 100 false)) (s.binary 0 (s.operator punctuators.ASTERISK) (s.index 0 (s.member 0 s.dot (s.member 0 s.arrow (s.a_name 0 (codes "p")) (ident (codes "b"))) (ident (codes "d"))) (s.an_int 0 1 false)) (s.an_int 0 10 false))) (s.member 0 s.dot (s.member 0 s.dot (s.a_name 0 (codes "v")) (ident (codes "b"))) (ident (codes "c")))))) s.no_block_items))))))) (
    s.no_items))))

-- int main(void) { int x = 0; switch (2) { case 1: x += 1; case 2: x += 2; case 3: x += 4; break; default: x += 8; } return x; }
abbrev pub falls_through_unit : Items
falls_through_unit =
    s.more_items (s.function_item 0 s.no_storage s.int (s.function 0 (s.named 0 (ident (codes "main"))) s.no_params) (s.block 0 (s.block_decl (s.decl 0 s.no_storage s.int (s.more_parts (s.named 0 (ident (codes "x"))) (s.an_init (s.one 0 (s.an_int 0 0 false))) s.no_parts)) (s.block_stmt (s.switch_on 0 (s.an_int 0 2 false) (s.more_groups (s.case_label 0 (s.an_int 0 1 false) s.no_labels) (s.more_stmts (s.evaluate 0 (s.assign 0 punctuators.ASSIGN_ADD (s.a_name 0 (codes "x")) (s.an_int 0 1 false))) s.no_stmts) (s.more_groups (s.case_label 0 (s.an_int 0 2 false) s.no_labels) (s.more_stmts (s.evaluate 0 (s.assign 0 punctuators.ASSIGN_ADD (s.a_name 0 (codes "x")) (s.an_int 0 2 false))) s.no_stmts) (s.more_groups (s.case_label 0 (s.an_int 0 3 false) s.no_labels) (s.more_stmts (s.evaluate 0 (s.assign 0 punctuators.ASSIGN_ADD (s.a_name 0 (codes "x")) (s.an_int 0 4 false))) (s.more_stmts (s.break_off 0) s.no_stmts)) (s.more_groups (s.default_label 0 s.no_labels) (s.more_stmts (s.evaluate 0 (s.assign 0 punctuators.ASSIGN_ADD (s.a_name 0 (codes "x")) (s.an_int 0 8 false))) s.no_stmts) s.no_groups))))) (s.block_stmt (s.return_from 0 (s.there (s.a_name 0 (codes "x")))) s.no_block_items))))) (
    s.no_items)

-- int getpid(void); int main(void) { int x = (getpid(), 3); return (x++, x), x + 1; }
abbrev pub commas_unit : Items
commas_unit =
    s.more_items (s.decl_item 0 (s.decl 0 s.no_storage s.int (s.more_parts (s.function 0 (s.named 0 (ident (codes "getpid"))) s.no_params) s.no_init s.no_parts))) (
    s.more_items (s.function_item 0 s.no_storage s.int (s.function 0 (s.named 0 (ident (codes "main"))) s.no_params) (s.block 0 (s.block_decl (s.decl 0 s.no_storage s.int (s.more_parts (s.named 0 (ident (codes "x"))) (s.an_init (s.one 0 (s.comma 0 (s.more_exprs (s.call 0 (s.a_name 0 (codes "getpid")) s.no_exprs) (s.more_exprs (s.an_int 0 3 false) s.no_exprs))))) s.no_parts)) (s.block_stmt (s.return_from 0 (s.there (s.comma 0 (s.more_exprs (s.comma 0 (s.more_exprs (s.postfix 0 s.post_increment (s.a_name 0 (codes "x"))) (s.more_exprs (s.a_name 0 (codes "x")) s.no_exprs))) (s.more_exprs (s.binary 0 (s.operator punctuators.PLUS) (s.a_name 0 (codes "x")) (s.an_int 0 1 false)) s.no_exprs))))) s.no_block_items)))) (
    s.no_items))

-- int getpid(void); int getppid(void); int main(void) { return 0 ? getpid() : getppid(); }
abbrev pub chooses_unit : Items
chooses_unit =
    s.more_items (s.decl_item 0 (s.decl 0 s.no_storage s.int (s.more_parts (s.function 0 (s.named 0 (ident (codes "getpid"))) s.no_params) s.no_init s.no_parts))) (
    s.more_items (s.decl_item 0 (s.decl 0 s.no_storage s.int (s.more_parts (s.function 0 (s.named 0 (ident (codes "getppid"))) s.no_params) s.no_init s.no_parts))) (
    s.more_items (s.function_item 0 s.no_storage s.int (s.function 0 (s.named 0 (ident (codes "main"))) s.no_params) (s.block 0 (s.block_stmt (s.return_from 0 (s.there (s.conditional 0 (s.an_int 0 0 false) (s.call 0 (s.a_name 0 (codes "getpid")) s.no_exprs) (s.call 0 (s.a_name 0 (codes "getppid")) s.no_exprs)))) s.no_block_items))) (
    s.no_items)))

-- int main(void) { char c = 100; unsigned char u = 200; c += 100; u += 100; return c * 1000 + u; }
abbrev pub compound_char_unit : Items
compound_char_unit =
    s.more_items (s.function_item 0 s.no_storage s.int (s.function 0 (s.named 0 (ident (codes "main"))) s.no_params) (s.block 0 (s.block_decl (s.decl 0 s.no_storage s.char (s.more_parts (s.named 0 (ident (codes "c"))) (s.an_init (s.one 0 (s.an_int 0 100 false))) s.no_parts)) (s.block_decl (s.decl 0 s.no_storage s.unsigned_char (s.more_parts (s.named 0 (ident (codes "u"))) (s.an_init (s.one 0 (s.an_int 0 200 false))) s.no_parts)) (s.block_stmt (s.evaluate 0 (s.assign 0 punctuators.ASSIGN_ADD (s.a_name 0 (codes "c")) (s.an_int 0 100 false))) (s.block_stmt (s.evaluate 0 (s.assign 0 punctuators.ASSIGN_ADD (s.a_name 0 (codes "u")) (s.an_int 0 100 false))) (s.block_stmt (s.return_from 0 (s.there (s.binary 0 (s.operator punctuators.PLUS) (s.binary 0 (s.operator punctuators.ASTERISK) (s.a_name 0 (codes "c")) (s.an_int 0 1000 false)) (s.a_name 0 (codes "u"))))) s.no_block_items))))))) (
    s.no_items)

-- int f(int n) { int x = n; return n < 1 ? 0 : f(n - 1) * 10 + x; } int main(void) { return f(3); }
abbrev pub recursion_unit : Items
recursion_unit =
    s.more_items (s.function_item 0 s.no_storage s.int (s.function 0 (s.named 0 (ident (codes "f"))) (s.more_params 0 s.int (s.named 0 (ident (codes "n"))) s.no_params)) (s.block 0 (s.block_decl (s.decl 0 s.no_storage s.int (s.more_parts (s.named 0 (ident (codes "x"))) (s.an_init (s.one 0 (s.a_name 0 (codes "n")))) s.no_parts)) (s.block_stmt (s.return_from 0 (s.there (s.conditional 0 (s.binary 0 (s.operator punctuators.LESS) (s.a_name 0 (codes "n")) (s.an_int 0 1 false)) (s.an_int 0 0 false) (s.binary 0 (s.operator punctuators.PLUS) (s.binary 0 (s.operator punctuators.ASTERISK) (s.call 0 (s.a_name 0 (codes "f")) (s.more_exprs (s.binary 0 (s.operator punctuators.MINUS) (s.a_name 0 (codes "n")) (s.an_int 0 1 false)) s.no_exprs)) (s.an_int 0 10 false)) (s.a_name 0 (codes "x")))))) s.no_block_items)))) (
    s.more_items (s.function_item 0 s.no_storage s.int (s.function 0 (s.named 0 (ident (codes "main"))) s.no_params) (s.block 0 (s.block_stmt (s.return_from 0 (s.there (s.call 0 (s.a_name 0 (codes "f")) (s.more_exprs (s.an_int 0 3 false) s.no_exprs)))) s.no_block_items))) (
    s.no_items))

-- int f(int n) { int x = n; return n < 1 ? 0 : f(n - 1) * 10 + x; } int main(void) { return f(3); }
abbrev pub recursion_short_unit : Items
recursion_short_unit =
    s.more_items (s.function_item 0 s.no_storage s.int (s.function 0 (s.named 0 (ident (codes "f"))) (s.more_params 0 s.int (s.named 0 (ident (codes "n"))) s.no_params)) (s.block 0 (s.block_decl (s.decl 0 s.no_storage s.int (s.more_parts (s.named 0 (ident (codes "x"))) (s.an_init (s.one 0 (s.a_name 0 (codes "n")))) s.no_parts)) (s.block_stmt (s.return_from 0 (s.there (s.conditional 0 (s.binary 0 (s.operator punctuators.LESS) (s.a_name 0 (codes "n")) (s.an_int 0 1 false)) (s.an_int 0 0 false) (s.binary 0 (s.operator punctuators.PLUS) (s.binary 0 (s.operator punctuators.ASTERISK) (s.call 0 (s.a_name 0 (codes "f")) (s.more_exprs (s.binary 0 (s.operator punctuators.MINUS) (s.a_name 0 (codes "n")) (s.an_int 0 1 false)) s.no_exprs)) (s.an_int 0 10 false)) (s.a_name 0 (codes "x")))))) s.no_block_items)))) (
    s.more_items (s.function_item 0 s.no_storage s.int (s.function 0 (s.named 0 (ident (codes "main"))) s.no_params) (s.block 0 (s.block_stmt (s.return_from 0 (s.there (s.call 0 (s.a_name 0 (codes "f")) (s.more_exprs (s.an_int 0 3 false) s.no_exprs)))) s.no_block_items))) (
    s.no_items))

-- int getpid(void); unsigned getuid(void); int f(void) { return getpid(); } int main(void) { f(); getuid(); f(); return 0; }
abbrev pub two_callers_unit : Items
two_callers_unit =
    s.more_items (s.decl_item 0 (s.decl 0 s.no_storage s.int (s.more_parts (s.function 0 (s.named 0 (ident (codes "getpid"))) s.no_params) s.no_init s.no_parts))) (
    s.more_items (s.decl_item 0 (s.decl 0 s.no_storage s.unsigned_int (s.more_parts (s.function 0 (s.named 0 (ident (codes "getuid"))) s.no_params) s.no_init s.no_parts))) (
    s.more_items (s.function_item 0 s.no_storage s.int (s.function 0 (s.named 0 (ident (codes "f"))) s.no_params) (s.block 0 (s.block_stmt (s.return_from 0 (s.there (s.call 0 (s.a_name 0 (codes "getpid")) s.no_exprs))) s.no_block_items))) (
    s.more_items (s.function_item 0 s.no_storage s.int (s.function 0 (s.named 0 (ident (codes "main"))) s.no_params) (s.block 0 (s.block_stmt (s.evaluate 0 (s.call 0 (s.a_name 0 (codes "f")) s.no_exprs)) (s.block_stmt (s.evaluate 0 (s.call 0 (s.a_name 0 (codes "getuid")) s.no_exprs)) (s.block_stmt (s.evaluate 0 (s.call 0 (s.a_name 0 (codes "f")) s.no_exprs)) (s.block_stmt (s.return_from 0 (s.there (s.an_int 0 0 false))) s.no_block_items)))))) (
    s.no_items))))

-- a server that echoes the lines of a terminal, in a child
abbrev pub echo_unit : Items
echo_unit =
    s.more_items (s.decl_item 0 (s.decl 0 s.no_storage s.int (s.more_parts (s.function 0 (s.named 0 (ident (codes "read"))) (s.more_params 0 s.int (s.named 0 (ident (codes "fd"))) (s.more_params 0 s.char (s.pointer 0 (s.named 0 (ident (codes "buf")))) (s.more_params 0 s.unsigned_int (s.named 0 (ident (codes "n"))) s.no_params)))) s.no_init s.no_parts))) (
    s.more_items (s.decl_item 0 (s.decl 0 s.no_storage s.int (s.more_parts (s.function 0 (s.named 0 (ident (codes "write"))) (s.more_params 0 s.int (s.named 0 (ident (codes "fd"))) (s.more_params 0 s.char (s.pointer 0 (s.named 0 (ident (codes "buf")))) (s.more_params 0 s.unsigned_int (s.named 0 (ident (codes "n"))) s.no_params)))) s.no_init s.no_parts))) (
    s.more_items (s.decl_item 0 (s.decl 0 s.no_storage s.int (s.more_parts (s.function 0 (s.named 0 (ident (codes "open"))) (s.more_params 0 s.char (s.pointer 0 (s.named 0 (ident (codes "path")))) (s.more_params 0 s.int (s.named 0 (ident (codes "flags"))) (s.more_params 0 s.unsigned_int (s.named 0 (ident (codes "mode"))) s.no_params)))) s.no_init s.no_parts))) (
    s.more_items (s.decl_item 0 (s.decl 0 s.no_storage s.int (s.more_parts (s.function 0 (s.named 0 (ident (codes "dup2"))) (s.more_params 0 s.int (s.named 0 (ident (codes "from"))) (s.more_params 0 s.int (s.named 0 (ident (codes "to"))) s.no_params))) s.no_init s.no_parts))) (
    s.more_items (s.decl_item 0 (s.decl 0 s.no_storage s.int (s.more_parts (s.function 0 (s.named 0 (ident (codes "close"))) (s.more_params 0 s.int (s.named 0 (ident (codes "fd"))) s.no_params)) s.no_init s.no_parts))) (
    s.more_items (s.decl_item 0 (s.decl 0 s.no_storage s.int (s.more_parts (s.function 0 (s.named 0 (ident (codes "getpid"))) s.no_params) s.no_init s.no_parts))) (
    s.more_items (s.decl_item 0 (s.decl 0 s.no_storage s.int (s.more_parts (s.function 0 (s.named 0 (ident (codes "fork"))) s.no_params) s.no_init s.no_parts))) (
    s.more_items (s.decl_item 0 (s.decl 0 s.no_storage s.void (s.more_parts (s.function 0 (s.named 0 (ident (codes "_exit"))) (s.more_params 0 s.int (s.named 0 (ident (codes "status"))) s.no_params)) s.no_init s.no_parts))) (
    s.more_items (s.enum_item 0 s.no_tag (s.more_enumerators (ident (codes "LINE")) (s.there (s.an_int 0 8 false)) (s.more_enumerators (ident (codes "OPS")) (s.there (s.an_int 0 2 false)) s.no_enumerators))) (
    s.more_items (s.struct_item 0 (ident (codes "session")) (s.more_members 0 s.int (s.more_declarators (s.named 0 (ident (codes "fd"))) s.no_declarators) (s.more_members 0 s.int (s.more_declarators (s.named 0 (ident (codes "lines"))) s.no_declarators) (s.more_members 0 s.char (s.more_declarators (s.array 0 (s.named 0 (ident (codes "buf"))) (s.there (s.a_name 0 (codes "LINE")))) s.no_declarators) s.no_members)))) (
    s.more_items (s.decl_item 0 (s.decl 0 s.static (s.struct (ident (codes "session"))) (s.more_parts (s.named 0 (ident (codes "s"))) s.no_init s.no_parts))) (
    s.more_items (s.function_item 0 s.static s.int (s.function 0 (s.named 0 (ident (codes "op_echo"))) (s.more_params 0 (s.struct (ident (codes "session"))) (s.pointer 0 (s.named 0 (ident (codes "p")))) (s.more_params 0 s.int (s.named 0 (ident (codes "n"))) s.no_params))) (s.block 0 (s.block_stmt (s.return_from 0 (s.there (s.call 0 (s.a_name 0 (codes "write")) (s.more_exprs (s.member 0 s.arrow (s.a_name 0 (codes "p")) (ident (codes "fd"))) (s.more_exprs (s.member 0 s.arrow (s.a_name 0 (codes "p")) (ident (codes "buf"))) (s.more_exprs (s.cast 0 (s.type_name 0 s.unsigned_int s.nothing) (s.a_name 0 (codes "n"))) s.no_exprs)))))) s.no_block_items))) (
    s.more_items (s.function_item 0 s.static s.int (s.function 0 (s.named 0 (ident (codes "op_pid"))) (s.more_params 0 (s.struct (ident (codes "session"))) (s.pointer 0 (s.named 0 (ident (codes "p")))) (s.more_params 0 s.int (s.named 0 (ident (codes "n"))) s.no_params))) (s.block 0 (s.block_decl (s.decl 0 s.no_storage s.char (s.more_parts (s.named 0 (ident (codes "d"))) s.no_init s.no_parts)) (s.block_stmt (s.evaluate 0 (s.assign 0 punctuators.ASSIGN (s.a_name 0 (codes "d")) (s.binary 0 (s.operator punctuators.PLUS) (s.a_char 0 (pos 48)) (s.binary 0 (s.operator punctuators.PERCENT) (s.call 0 (s.a_name 0 (codes "getpid")) s.no_exprs) (s.an_int 0 10 false))))) (s.block_stmt (s.return_from 0 (s.there (s.conditional 0 (s.binary 0 (s.operator punctuators.GREATER) (s.a_name 0 (codes "n")) (s.an_int 0 0 false)) (s.call 0 (s.a_name 0 (codes "write")) (s.more_exprs (s.member 0 s.arrow (s.a_name 0 (codes "p")) (ident (codes "fd"))) (s.more_exprs (s.unary 0 punctuators.AMPERSAND (s.a_name 0 (codes "d"))) (s.more_exprs (s.an_int 0 1 false) s.no_exprs)))) (s.an_int 0 0 false)))) s.no_block_items))))) (
    s.more_items (s.decl_item 0 (s.decl 0 s.static s.int (s.more_parts (s.function 0 (s.pointer 0 (s.array 0 (s.named 0 (ident (codes "ops"))) (s.there (s.a_name 0 (codes "OPS"))))) (s.more_params 0 (s.struct (ident (codes "session"))) (s.pointer 0 s.nothing) (s.more_params 0 s.int s.nothing s.no_params))) (s.an_init (s.list 0 (s.more_inits (s.one 0 (s.a_name 0 (codes "op_echo"))) (s.more_inits (s.one 0 (s.a_name 0 (codes "op_pid"))) s.no_inits)))) s.no_parts))) (
    s.more_items (s.function_item 0 s.static s.int (s.function 0 (s.named 0 (ident (codes "serve"))) (s.more_params 0 (s.struct (ident (codes "session"))) (s.pointer 0 (s.named 0 (ident (codes "p")))) s.no_params)) (s.block 0 (s.block_decl (s.decl 0 s.no_storage s.int (s.more_parts (s.named 0 (ident (codes "n"))) s.no_init s.no_parts)) (s.block_stmt (s.while_loop 0 (s.binary 0 (s.operator punctuators.GREATER) (s.assign 0 punctuators.ASSIGN (s.a_name 0 (codes "n")) (s.call 0 (s.a_name 0 (codes "read")) (s.more_exprs (s.member 0 s.arrow (s.a_name 0 (codes "p")) (ident (codes "fd"))) (s.more_exprs (s.member 0 s.arrow (s.a_name 0 (codes "p")) (ident (codes "buf"))) (s.more_exprs (s.prefix 0 s.sizeof (s.member 0 s.arrow (s.a_name 0 (codes "p")) (ident (codes "buf")))) s.no_exprs))))) (s.an_int 0 0 false)) (s.block 0 (s.block_stmt (s.evaluate 0 (s.postfix 0 s.post_increment (s.member 0 s.arrow (s.a_name 0 (codes "p")) (ident (codes "lines"))))) (s.block_stmt (s.switch_on 0 (s.index 0 (s.member 0 s.arrow (s.a_name 0 (codes "p")) (ident (codes "buf"))) (s.an_int 0 0 false)) (s.more_groups (s.case_label 0 (s.a_char 0 (pos 113)) s.no_labels) (s.more_stmts (s.return_from 0 (s.there (s.member 0 s.arrow (s.a_name 0 (codes "p")) (ident (codes "lines"))))) s.no_stmts) (s.more_groups (s.case_label 0 (s.a_char 0 (pos 112)) s.no_labels) (s.more_stmts (s.evaluate 0 (s.call 0 (s.index 0 (s.a_name 0 (codes "ops")) (s.an_int 0 1 false)) (s.more_exprs (s.a_name 0 (codes "p")) (s.more_exprs (s.a_name 0 (codes "n")) s.no_exprs)))) (s.more_stmts (s.break_off 0) s.no_stmts)) (s.more_groups (s.default_label 0 s.no_labels) (s.more_stmts (s.evaluate 0 (s.call 0 (s.index 0 (s.a_name 0 (codes "ops")) (s.an_int 0 0 false)) (s.more_exprs (s.a_name 0 (codes "p")) (s.more_exprs (s.a_name 0 (codes "n")) s.no_exprs)))) s.no_stmts) s.no_groups)))) s.no_block_items)))) (s.block_stmt (s.return_from 0 (s.there (s.a_name 0 (codes "n")))) s.no_block_items))))) (
    s.more_items (s.function_item 0 s.no_storage s.int (s.function 0 (s.named 0 (ident (codes "main"))) s.no_params) (s.block 0 (s.block_decl (s.decl 0 s.no_storage s.int (s.more_parts (s.named 0 (ident (codes "child"))) s.no_init s.no_parts)) (s.block_stmt (s.evaluate 0 (s.assign 0 punctuators.ASSIGN (s.member 0 s.dot (s.a_name 0 (codes "s")) (ident (codes "fd"))) (s.call 0 (s.a_name 0 (codes "open")) (s.more_exprs (s.a_str 0 (47 ∷ 100 ∷ 101 ∷ 118 ∷ 47 ∷ 116 ∷ 116 ∷ 121 ∷ 83 ∷ 48 ∷ [])) (s.more_exprs (s.an_int 0 2 false) (s.more_exprs (s.an_int 0 0 false) s.no_exprs)))))) (s.block_stmt (s.only_if 0 (s.binary 0 s.or (s.binary 0 (s.operator punctuators.LESS) (s.member 0 s.dot (s.a_name 0 (codes "s")) (ident (codes "fd"))) (s.an_int 0 0 false)) (s.binary 0 (s.operator punctuators.LESS) (s.call 0 (s.a_name 0 (codes "dup2")) (s.more_exprs (s.member 0 s.dot (s.a_name 0 (codes "s")) (ident (codes "fd"))) (s.more_exprs (s.an_int 0 2 false) s.no_exprs))) (s.an_int 0 0 false))) (s.return_from 0 (s.there (s.an_int 0 1 false)))) (s.block_stmt (s.evaluate 0 (s.assign 0 punctuators.ASSIGN (s.a_name 0 (codes "child")) (s.call 0 (s.a_name 0 (codes "fork")) s.no_exprs))) (s.block_stmt (s.only_if 0 (s.binary 0 (s.operator punctuators.EQUAL_EQUAL) (s.a_name 0 (codes "child")) (s.an_int 0 0 false)) (s.evaluate 0 (s.call 0 (s.a_name 0 (codes "_exit")) (s.more_exprs (s.call 0 (s.a_name 0 (codes "serve")) (s.more_exprs (s.unary 0 punctuators.AMPERSAND (s.a_name 0 (codes "s"))) s.no_exprs)) s.no_exprs)))) (s.block_stmt (s.evaluate 0 (s.call 0 (s.a_name 0 (codes "close")) (s.more_exprs (s.member 0 s.dot (s.a_name 0 (codes "s")) (ident (codes "fd"))) s.no_exprs))) (s.block_stmt (s.return_from 0 (s.there (s.an_int 0 0 false))) s.no_block_items))))))))) (
    s.no_items))))))))))))))))
