-- Units written as terms, for trials; their places are all 0.
use Rattle.std.proofs.Common.{ℕ, false, List, [], ◌∷◌, codes}
use Rattle.c_lexer.specs.declared.punctuator.TheConstants as punctuators
use Rattle.c_rules.specs.Tree.{Ident, no_storage, Spec, Expr, a_name, an_int, comma, cast, call, unary, binary, and, operator, assign, conditional, member, arrow, Exprs, no_exprs, more_exprs, there}
use Rattle.c_rules.specs.Tree.{type_name, Declarator, nothing, named, pointer, function, Params, no_params, more_params, one, MaybeInit, no_init, an_init, no_parts, more_parts, Decl, decl}
use Rattle.c_rules.specs.Tree.{first_expr, no_labels, case_label, default_label, Stmt, block, empty, evaluate, while_loop, for_loop, switch_on, break_off, continue_on, return_from, BlockItems, no_block_items, block_decl, block_stmt, Stmts, no_stmts, more_stmts, no_groups, more_groups}
use Rattle.c_rules.specs.Tree.{no_members, more_members, no_declarators, more_declarators, Item, struct_item, decl_item, function_item, Items, no_items, more_items}
use Rattle.c_rules.specs.Tree as syntax

abbrev pub ident : List ℕ → Ident
ident x = record { name = x; at = 0 }

abbrev pub declared : List ℕ → Declarator
declared x = named 0 (ident x)

abbrev pub name : List ℕ → Expr
name x = a_name 0 x

abbrev pub int : ℕ → Expr
int n = an_int 0 n false

abbrev pub exprs : List Expr → Exprs
exprs [] = no_exprs
exprs (e ∷ es) = more_exprs e (exprs es)

abbrev pub call_of : List ℕ → List Expr → Expr
call_of x es = call 0 (name x) (exprs es)

abbrev pub commas : List Expr → Expr
commas es = comma 0 (exprs es)

abbrev pub becomes : Expr → Expr → Expr
becomes a b = assign 0 punctuators.ASSIGN a b

abbrev pub plus : Expr → Expr → Expr
plus a b = binary 0 (operator punctuators.PLUS) a b

abbrev pub less : Expr → Expr → Expr
less a b = binary 0 (operator punctuators.LESS) a b

abbrev pub address : Expr → Expr
address a = unary 0 punctuators.AMPERSAND a

abbrev pub doing : Expr → Stmt
doing e = evaluate 0 e

abbrev pub returns : Expr → Stmt
returns e = return_from 0 (there e)

abbrev pub block_of : List Stmt → BlockItems
block_of [] = no_block_items
block_of (s ∷ ss) = block_stmt s (block_of ss)

abbrev pub stmts_of : List Stmt → Stmts
stmts_of [] = no_stmts
stmts_of (s ∷ ss) = more_stmts s (stmts_of ss)

abbrev pub a_decl : Spec → Declarator → MaybeInit → Decl
a_decl s d m = decl 0 no_storage s (more_parts d m no_parts)

abbrev pub prototype : Spec → Declarator → Item
prototype s d = decl_item 0 (a_decl s d no_init)

-- one parameter
abbrev pub param : Spec → Declarator → Params
param s d = more_params 0 s d no_params

abbrev pub of_params : Declarator → Params → Declarator
of_params d ps = function 0 d ps

abbrev pub of_void : Declarator → Declarator
of_void d = of_params d no_params

abbrev pub of_int : Declarator → List ℕ → Declarator
of_int d x = of_params d (param syntax.int (declared x))

abbrev pub define : Spec → Declarator → BlockItems → Item
define s d is = function_item 0 no_storage s d (block 0 is)

abbrev pub items_of : List Item → Items
items_of [] = no_items
items_of (i ∷ is) = more_items i (items_of is)

-- `int f ( int x ) { getpid ( ) ; return x ; }`
abbrev pub f_that_asks : Item
f_that_asks =
    define syntax.int (of_int (declared (codes "f")) (codes "x")) (block_of (doing (call_of (codes "getpid") []) ∷ returns (name (codes "x")) ∷ []))

abbrev pub getpid_declared : Item
getpid_declared = prototype syntax.int (of_void (declared (codes "getpid")))

-- int getpid(void); int g(int x) { return x; } int f(int x) { getpid(); return x; } int main(void) { return f(g(1)) + f(2); }
abbrev pub two_calls : Items
two_calls = items_of (
    getpid_declared
    ∷ define syntax.int (of_int (declared (codes "g")) (codes "x")) (block_of (returns (name (codes "x")) ∷ []))
    ∷ f_that_asks
    ∷ define syntax.int (of_void (declared (codes "main"))) (block_of (returns (plus (call_of (codes "f") (call_of (codes "g") (int 1 ∷ []) ∷ [])) (call_of (codes "f") (int 2 ∷ []))) ∷ []))
    ∷ [])

-- ## Marked calls at every place of the language

abbrev struct_s : Spec
struct_s = syntax.struct (ident (codes "s"))

abbrev pointer_to : Declarator → Declarator
pointer_to d = pointer 0 d

-- `v ( & a ) ;`
abbrev v_of_a : Expr
v_of_a = call_of (codes "v") (address (name (codes "a")) ∷ [])

abbrev f_of : Expr → Expr
f_of e = call_of (codes "f") (e ∷ [])

abbrev i : Expr
i = name (codes "i")

-- struct s { int x; };
-- int getpid(void);
-- int f(int x) { getpid(); return x; }
-- void v(struct s *p) { getpid(); p->x = 1; }
-- int (*pick(void))(int) { getpid(); return f; }
-- int main(void) {
--   struct s a; int i = f(0); int (*g)(int) = pick();
--   v(&a);
--   for (f(1); f(i) < 2; i = i + f(1)) { continue; }
--   switch (f(3)) { case 3: f(f(1)); break; default: v(&a); }
--   while (f(0) && f(1)) ;
--   i = (v(&a), g(f(2)));
--   (void) f(1);
--   g(g(1)) ? f(0) : f(1);
--   &*pick();
--   return pick()(i);
-- }
abbrev pub every_place : Items
every_place = items_of (
    struct_item 0 (ident (codes "s")) (more_members 0 syntax.int (more_declarators (declared (codes "x")) no_declarators) no_members)
    ∷ getpid_declared
    ∷ f_that_asks
    ∷ define syntax.void (of_params (declared (codes "v")) (param struct_s (pointer_to (declared (codes "p")))))
    (block_of (doing (call_of (codes "getpid") []) ∷ doing (becomes (member 0 arrow (name (codes "p")) (ident (codes "x"))) (int 1)) ∷ []))
    ∷ define syntax.int (of_params (pointer_to (of_void (declared (codes "pick")))) (param syntax.int nothing))
    (block_of (doing (call_of (codes "getpid") []) ∷ returns (name (codes "f")) ∷ []))
    ∷ define syntax.int (of_void (declared (codes "main")))
    (block_decl (a_decl struct_s (declared (codes "a")) no_init)
    (block_decl (a_decl syntax.int (declared (codes "i")) (an_init (one 0 (f_of (int 0)))))
    (block_decl (a_decl syntax.int (of_params (pointer_to (declared (codes "g"))) (param syntax.int nothing)) (an_init (one 0 (call_of (codes "pick") []))))
    (block_of (
    doing v_of_a
    ∷ for_loop 0 (first_expr (f_of (int 1))) (there (less (f_of i) (int 2))) (there (becomes i (plus i (f_of (int 1))))) (block 0 (block_of (continue_on 0 ∷ [])))
    ∷ switch_on 0 (f_of (int 3)) (more_groups (case_label 0 (int 3) no_labels) (stmts_of (doing (f_of (f_of (int 1))) ∷ break_off 0 ∷ [])) (more_groups (default_label 0 no_labels) (stmts_of (doing v_of_a ∷ [])) no_groups))
    ∷ while_loop 0 (binary 0 and (f_of (int 0)) (f_of (int 1))) (empty 0)
    ∷ doing (becomes i (commas (v_of_a ∷ call_of (codes "g") (f_of (int 2) ∷ []) ∷ [])))
    ∷ doing (cast 0 (type_name 0 syntax.void nothing) (f_of (int 1)))
    ∷ doing (conditional 0 (call_of (codes "g") (call_of (codes "g") (int 1 ∷ []) ∷ [])) (f_of (int 0)) (f_of (int 1)))
    ∷ doing (address (unary 0 punctuators.ASTERISK (call_of (codes "pick") [])))
    ∷ returns (call 0 (call_of (codes "pick") []) (exprs (i ∷ [])))
    ∷ [])))))
    ∷ [])
