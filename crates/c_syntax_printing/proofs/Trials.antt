-- The grammar tried on small phrases: what their tokens spell. The tokens are any that have these kinds.
use Rattle.std.proofs.Common.{ℕ, suc, ◌+◌, List, [], ◌∷◌, ◌++◌, refl, false}
use Rattle.c_lexer.specs.declared.token.Token.{Token}
use Rattle.c_lexer.specs.declared.keyword.TheConstants as w
use Rattle.c_syntax.specs.Tree.{Infix, no_storage, static, unsigned_char, int, struct}
use Rattle.c_syntax.specs.Tree.{post_increment, dot, and, or, operator}
use Rattle.c_syntax.specs.Tree.{Expr, a_name, an_int, a_str, comma, sizeof_type, cast, call, member, postfix, unary, index, binary, assign, conditional}
use Rattle.c_syntax.specs.Tree.{no_exprs, more_exprs, absent, there, type_name, nothing, named, pointer, array, function, no_params, more_params}
use Rattle.c_syntax.specs.Tree.{one, list, no_inits, more_inits, an_init, no_parts, more_parts, decl, first_decl, no_labels, case_label, default_label}
use Rattle.c_syntax.specs.Tree.{block, empty, only_if, if_else, for_loop, switch_on, break_off, no_block_items, no_stmts, more_stmts, no_groups, more_groups}
use Rattle.c_syntax.specs.Tree.{no_enumerators, more_enumerators, tag, enum_item, function_item, return_from, block_stmt}
use Rattle.c_syntax.specs.Tokens.{Is, IsKeyword, IsNameToken, IsInt, IsStr, place, changes_sign, assigns, assigns_sum, IsInfix, multiplies, adds, subtracts, shifts_left, is_less, is_equal, ands_bits, xors_bits, ors_bits, ands, ors, code_of_infix}
use Rattle.c_syntax.specs.Specifiers.{no_const, a_const, no_storage_stands, static_stands, ReadsSpec, is_void, is_unsigned_char, is_int, is_struct}
use Rattle.c_syntax.specs.Grammar.{primary_level, unary_level, binary_level, conditional_level, assignment_level, expression_level, last_string, next_string}
use Rattle.c_syntax.specs.Grammar.{Reads, is_name, is_int, are_strings, in_parentheses, with_suffixes, no_prefix, a_unary, a_sizeof_type, no_cast, a_cast, a_chain, a_choice, no_assignment, an_assignment, no_comma, a_comma}
use Rattle.c_syntax.specs.Grammar.{last_expr, next_expr, no_suffix, an_index, a_call, a_member, a_postfix, no_operator, an_operator}
use Rattle.c_syntax.specs.Grammar.{a_size, a_type, Declares, a_pointer, a_direct, a_declared, declarator_in_parentheses, no_core, no_more, an_array, a_function, are_none, are_some, last_param, next_param}
use Rattle.c_syntax.specs.Statements.{ReadsInit, an_expression, a_list_with_comma, last_init, next_init, an_initialiser, last_part, a_declaration, an_expression_stands, first_declaration, last_case, last_default, next_case}
use Rattle.c_syntax.specs.Statements.{no_expression_stands}
use Rattle.c_syntax.specs.Statements.{ReadsStmt, an_empty, an_if, an_if_else, a_for, a_switch, a_break, a_return, no_block_item, a_block_stmt, last_stmt, no_group, a_group}
use Rattle.c_syntax.specs.Statements.{no_enumerator_value, an_enumerator_value, last_enumerator, next_enumerator, a_tag, ReadsItem, an_enum_with_comma, a_definition}
use Rattle.c_syntax.proofs.BackTokens.{chained_up, raised, as_choosing}

as_prefixed : {d : ℕ} {e : Expr} {i j : List Token} → Reads d primary_level e i j → Reads d unary_level e i j
as_prefixed r = no_prefix (with_suffixes refl r no_suffix)

from_choosing : {d : ℕ} {e : Expr} {i j : List Token} → Reads d conditional_level e i j → Reads d expression_level e i j
from_choosing r = no_comma (no_assignment r)

from_primary : {d : ℕ} {e : Expr} {i j : List Token} → Reads d primary_level e i j → Reads d conditional_level e i j
from_primary r = as_choosing (no_cast (as_prefixed r))

assigned : {d : ℕ} {e : Expr} {i j : List Token} → Reads d primary_level e i j → Reads d assignment_level e i j
assigned r = no_assignment (from_primary r)

pub whole : {d : ℕ} {e : Expr} {i j : List Token} → Reads d primary_level e i j → Reads d expression_level e i j
whole r = from_choosing (from_primary r)

infix_of : (n : ℕ) {d : ℕ} {o : Infix} {a b : Expr} {t : Token} {i j k : List Token} → IsInfix o (suc n) → Reads d primary_level a i (t ∷ j) → Is (code_of_infix o) t → Reads d primary_level b j k → Reads d (binary_level (suc n)) (binary (place i) o a b) i k
infix_of n q r h s = a_chain refl (chained_up n (no_cast (as_prefixed r))) (an_operator q h (chained_up n (no_cast (as_prefixed s))) no_operator)

-- One expression of each level of precedence.

-- a
a_name_alone : {a : List ℕ} {t : Token} → IsNameToken a t → Reads 0 expression_level (a_name t.from a) (t ∷ []) []
a_name_alone h = whole (is_name h)

-- "a" "b"
two_strings : {a b : List ℕ} {t u : Token} → IsStr a t → IsStr b u → Reads 0 expression_level (a_str t.from (a ++ b)) (t ∷ u ∷ []) []
two_strings h g = whole (are_strings refl (next_string h (last_string g) refl))

-- ( ( a ) )
in_two_pairs : {a : List ℕ} {o q t r s : Token} → Is 2 o → Is 2 q → IsNameToken a t → Is 3 r → Is 3 s → Reads 2 expression_level (a_name t.from a) (o ∷ q ∷ t ∷ r ∷ s ∷ []) []
in_two_pairs o q h r s = whole (in_parentheses o (whole (in_parentheses q (whole (is_name h)) r)) s)

-- a [ b ] ( c ) . m ++
suffixes : {a b c m : List ℕ} {t o u r q v s x y z : Token} → IsNameToken a t → Is 0 o → IsNameToken b u → Is 1 r → Is 2 q → IsNameToken c v → Is 3 s → Is 6 x → IsNameToken m y → Is 8 z →
    Reads 0 expression_level (postfix t.from post_increment (member t.from dot (call t.from (index t.from (a_name t.from a) (a_name u.from b)) (more_exprs (a_name v.from c) no_exprs)) (record { name = m; at = y.from }))) (t ∷ o ∷ u ∷ r ∷ q ∷ v ∷ s ∷ x ∷ y ∷ z ∷ []) []
suffixes h o g r q f s x y z =
    from_choosing
    (as_choosing
    (no_cast
    (no_prefix
    (with_suffixes refl (is_name h) (an_index o (whole (is_name g)) r (a_call q (last_expr (assigned (is_name f))) s (a_member x (record { name = y; at = refl }) (a_postfix z no_suffix))))))))

-- - ( int ) a
minus_of_cast : {a : List ℕ} {t o g c u : Token} → Is 13 t → Is 2 o → IsKeyword w.INT g → Is 3 c → IsNameToken a u → Reads 0 expression_level (unary t.from 13 (cast o.from (type_name g.from int nothing) (a_name u.from a))) (t ∷ o ∷ g ∷ c ∷ u ∷ []) []
minus_of_cast h o w c g =
    from_choosing
    (as_choosing
    (no_cast
    (a_unary h changes_sign (a_cast o (a_type refl (is_int no_const w no_const) (a_direct refl no_core no_more) tt) c (no_cast (as_prefixed (is_name g)))))))

-- sizeof ( int * )
size_of_pointer : {t o g s c : Token} → IsKeyword w.SIZEOF t → Is 2 o → IsKeyword w.INT g → Is 11 s → Is 3 c → Reads 0 expression_level (sizeof_type t.from (type_name g.from int (pointer s.from nothing))) (t ∷ o ∷ g ∷ s ∷ c ∷ []) []
size_of_pointer h o w s c = from_choosing (as_choosing (no_cast (a_sizeof_type h o (a_type refl (is_int no_const w no_const) (a_pointer s no_const (a_direct refl no_core no_more)) tt) c)))

-- the ten levels of operators between two operands: a * b, a + b, a << b, a < b, a == b, a & b, a ^ b, a | b, a && b, a || b
each_level : {a b : List ℕ} {t u v : Token} → IsNameToken a t → IsNameToken b v → {o : Infix} → (n m : ℕ) → IsInfix o (suc n) → Is (code_of_infix o) u → Reads 0 (binary_level (m + suc n)) (binary t.from o (a_name t.from a) (a_name v.from b)) (t ∷ u ∷ v ∷ []) []
each_level h g n m q s = raised m (suc n) (infix_of n q (is_name h) s (is_name g))

product : {a b : List ℕ} {t u v : Token} → IsNameToken a t → Is 11 u → IsNameToken b v → Reads 0 (binary_level 10) (binary t.from (operator 11) (a_name t.from a) (a_name v.from b)) (t ∷ u ∷ v ∷ []) []
product h s g = each_level h g 0 9 multiplies s

sum : {a b : List ℕ} {t u v : Token} → IsNameToken a t → Is 12 u → IsNameToken b v → Reads 0 (binary_level 10) (binary t.from (operator 12) (a_name t.from a) (a_name v.from b)) (t ∷ u ∷ v ∷ []) []
sum h s g = each_level h g 1 8 adds s

shift : {a b : List ℕ} {t u v : Token} → IsNameToken a t → Is 18 u → IsNameToken b v → Reads 0 (binary_level 10) (binary t.from (operator 18) (a_name t.from a) (a_name v.from b)) (t ∷ u ∷ v ∷ []) []
shift h s g = each_level h g 2 7 shifts_left s

less : {a b : List ℕ} {t u v : Token} → IsNameToken a t → Is 20 u → IsNameToken b v → Reads 0 (binary_level 10) (binary t.from (operator 20) (a_name t.from a) (a_name v.from b)) (t ∷ u ∷ v ∷ []) []
less h s g = each_level h g 3 6 is_less s

equal : {a b : List ℕ} {t u v : Token} → IsNameToken a t → Is 24 u → IsNameToken b v → Reads 0 (binary_level 10) (binary t.from (operator 24) (a_name t.from a) (a_name v.from b)) (t ∷ u ∷ v ∷ []) []
equal h s g = each_level h g 4 5 is_equal s

bits : {a b : List ℕ} {t u v : Token} → IsNameToken a t → Is 10 u → IsNameToken b v → Reads 0 (binary_level 10) (binary t.from (operator 10) (a_name t.from a) (a_name v.from b)) (t ∷ u ∷ v ∷ []) []
bits h s g = each_level h g 5 4 ands_bits s

differ : {a b : List ℕ} {t u v : Token} → IsNameToken a t → Is 26 u → IsNameToken b v → Reads 0 (binary_level 10) (binary t.from (operator 26) (a_name t.from a) (a_name v.from b)) (t ∷ u ∷ v ∷ []) []
differ h s g = each_level h g 6 3 xors_bits s

any_bit : {a b : List ℕ} {t u v : Token} → IsNameToken a t → Is 27 u → IsNameToken b v → Reads 0 (binary_level 10) (binary t.from (operator 27) (a_name t.from a) (a_name v.from b)) (t ∷ u ∷ v ∷ []) []
any_bit h s g = each_level h g 7 2 ors_bits s

both : {a b : List ℕ} {t u v : Token} → IsNameToken a t → Is 28 u → IsNameToken b v → Reads 0 (binary_level 10) (binary t.from and (a_name t.from a) (a_name v.from b)) (t ∷ u ∷ v ∷ []) []
both h s g = each_level h g 8 1 ands s

either : {a b : List ℕ} {t u v : Token} → IsNameToken a t → Is 29 u → IsNameToken b v → Reads 0 (binary_level 10) (binary t.from or (a_name t.from a) (a_name v.from b)) (t ∷ u ∷ v ∷ []) []
either h s g = each_level h g 9 0 ors s

-- a + b * c: the product is the right operand
sum_of_product : {a b c : List ℕ} {t u v x y : Token} → IsNameToken a t → Is 12 u → IsNameToken b v → Is 11 x → IsNameToken c y → Reads 0 (binary_level 2) (binary t.from (operator 12) (a_name t.from a) (binary v.from (operator 11) (a_name v.from b) (a_name y.from c))) (t ∷ u ∷ v ∷ x ∷ y ∷ []) []
sum_of_product h s g q f = a_chain refl (chained_up 1 (no_cast (as_prefixed (is_name h)))) (an_operator adds s (infix_of 0 multiplies (is_name g) q (is_name f)) no_operator)

-- a - b - c: the left difference is the left operand
two_differences : {a b c : List ℕ} {t u v x y : Token} → IsNameToken a t → Is 13 u → IsNameToken b v → Is 13 x → IsNameToken c y → Reads 0 (binary_level 2) (binary t.from (operator 13) (binary t.from (operator 13) (a_name t.from a) (a_name v.from b)) (a_name y.from c)) (t ∷ u ∷ v ∷ x ∷ y ∷ []) []
two_differences h s g q f =
    a_chain refl (chained_up 1 (no_cast (as_prefixed (is_name h))))
    (an_operator subtracts s (chained_up 1 (no_cast (as_prefixed (is_name g)))) (an_operator subtracts q (chained_up 1 (no_cast (as_prefixed (is_name f)))) no_operator))

-- a ? b : c
choice : {a b c : List ℕ} {t u v x y : Token} → IsNameToken a t → Is 30 u → IsNameToken b v → Is 31 x → IsNameToken c y → Reads 0 expression_level (conditional t.from (a_name t.from a) (a_name v.from b) (a_name y.from c)) (t ∷ u ∷ v ∷ x ∷ y ∷ []) []
choice h s g q f = from_choosing (a_choice refl (chained_up 10 (no_cast (as_prefixed (is_name h)))) s (whole (is_name g)) q (from_primary (is_name f)))

-- a = b += c: the right side is an assignment
two_assignments : {a b c : List ℕ} {t u v x y : Token} → IsNameToken a t → Is 33 u → IsNameToken b v → Is 37 x → IsNameToken c y → Reads 0 expression_level (assign t.from 33 (a_name t.from a) (assign v.from 37 (a_name v.from b) (a_name y.from c))) (t ∷ u ∷ v ∷ x ∷ y ∷ []) []
two_assignments h s g q f =
    no_comma
    (an_assignment refl (as_prefixed (is_name h)) s assigns (an_assignment refl (as_prefixed (is_name g)) q assigns_sum (assigned (is_name f))))

-- a , b , c: one node with three members
three_members : {a b c : List ℕ} {t u v x y : Token} → IsNameToken a t → Is 44 u → IsNameToken b v → Is 44 x → IsNameToken c y → Reads 0 expression_level (comma t.from (more_exprs (a_name t.from a) (more_exprs (a_name v.from b) (more_exprs (a_name y.from c) no_exprs)))) (t ∷ u ∷ v ∷ x ∷ y ∷ []) []
three_members h s g q f = a_comma refl (assigned (is_name h)) s (next_expr (assigned (is_name g)) q (last_expr (assigned (is_name f))))

-- const unsigned const char const
unsigned_char_with_consts : {a t b u c : Token} → IsKeyword w.CONST a → IsKeyword w.UNSIGNED t → IsKeyword w.CONST b → IsKeyword w.CHAR u → IsKeyword w.CONST c → ReadsSpec unsigned_char (a ∷ t ∷ b ∷ u ∷ c ∷ []) []
unsigned_char_with_consts a t b u c = is_unsigned_char (a_const a no_const) t (a_const b no_const) u (a_const c no_const)

-- ( * const ops [ 2 ] ) ( struct request * , int )
table_of_functions : {ops request : List ℕ} {o s k n l m r c q x y v z e f : Token} → Is 2 o → Is 11 s → IsKeyword w.CONST k → IsNameToken ops n → Is 0 l → IsInt 2 false m → Is 1 r → Is 3 c → Is 2 q → IsKeyword w.STRUCT x → IsNameToken request y → Is 11 v → Is 44 z → IsKeyword w.INT e → Is 3 f →
    Declares 1 (function o.from (pointer s.from (array n.from (named n.from (record { name = ops; at = n.from })) (there (an_int m.from 2 false)))) (more_params x.from (struct (record { name = request; at = y.from })) (pointer v.from nothing) (more_params e.from int nothing no_params)))
    (o ∷ s ∷ k ∷ n ∷ l ∷ m ∷ r ∷ c ∷ q ∷ x ∷ y ∷ v ∷ z ∷ e ∷ f ∷ []) []
table_of_functions o s k n l m r c q x y v z e f =
    a_direct refl
    (declarator_in_parentheses o (a_pointer s (a_const k no_const) (a_direct refl (a_declared (record { name = n; at = refl })) (an_array l (a_size (from_primary (is_int m))) r no_more))) tt c)
    (a_function q
    (are_some
    (next_param refl (is_struct no_const x (record { name = y; at = refl }) no_const) (a_pointer v no_const (a_direct refl no_core no_more)) z (last_param refl (is_int no_const e no_const) (a_direct refl no_core no_more)))
    tt)
    f
    no_more)

-- ( ( f ) ) ( void )
function_in_pairs : {f : List ℕ} {o q n r s l v m : Token} → Is 2 o → Is 2 q → IsNameToken f n → Is 3 r → Is 3 s → Is 2 l → IsKeyword w.VOID v → Is 3 m → Declares 2 (function o.from (named n.from (record { name = f; at = n.from })) no_params) (o ∷ q ∷ n ∷ r ∷ s ∷ l ∷ v ∷ m ∷ []) []
function_in_pairs o q n r s l v m =
    a_direct refl
    (declarator_in_parentheses o (a_direct refl (declarator_in_parentheses q (a_direct refl (a_declared (record { name = n; at = refl })) no_more) tt r) no_more) tt s)
    (a_function l (are_none (is_void no_const v no_const)) m no_more)

-- if ( a ) if ( b ) ; else ; : the else belongs to the second if
nearest_if : {a b : List ℕ} {t o n c u q m r x e y : Token} → IsKeyword w.IF t → Is 2 o → IsNameToken a n → Is 3 c → IsKeyword w.IF u → Is 2 q → IsNameToken b m → Is 3 r → Is 32 x → IsKeyword w.ELSE e → Is 32 y →
    ReadsStmt 0 (only_if t.from (a_name n.from a) (if_else u.from (a_name m.from b) (empty x.from) (empty y.from))) (t ∷ o ∷ n ∷ c ∷ u ∷ q ∷ m ∷ r ∷ x ∷ e ∷ y ∷ []) []
nearest_if t o n c u q m r x e y = an_if t o (whole (is_name n)) c (an_if_else u q (whole (is_name m)) r (an_empty x) tt e (an_empty y))

-- switch ( a ) { case 1 : default : break ; case 2 : ; }
two_groups : {a : List ℕ} {t o n c l x i d e f b g y j k z r : Token} → IsKeyword w.SWITCH t → Is 2 o → IsNameToken a n → Is 3 c → Is 4 l → IsKeyword w.CASE x → IsInt 1 false i → Is 31 d → IsKeyword w.DEFAULT e → Is 31 f → IsKeyword w.BREAK b → Is 32 g → IsKeyword w.CASE y → IsInt 2 false j → Is 31 k → Is 32 z → Is 5 r →
    ReadsStmt 0 (switch_on t.from (a_name n.from a) (more_groups (case_label x.from (an_int i.from 1 false) (default_label e.from no_labels)) (more_stmts (break_off b.from) no_stmts) (more_groups (case_label y.from (an_int j.from 2 false) no_labels) (more_stmts (empty z.from) no_stmts) no_groups)))
    (t ∷ o ∷ n ∷ c ∷ l ∷ x ∷ i ∷ d ∷ e ∷ f ∷ b ∷ g ∷ y ∷ j ∷ k ∷ z ∷ r ∷ []) []
two_groups t o n c l x i d e f b g y j k z r =
    a_switch t o (whole (is_name n)) c l
    (a_group (next_case x (from_primary (is_int i)) d (last_default e f)) (last_stmt (a_break b g)) (a_group (last_case y (from_primary (is_int j)) k) (last_stmt (an_empty z)) no_group))
    r

-- for ( int i = 0 ; i ; ) ;
for_with_declaration : {i : List ℕ} {t o x n s z e v f c y : Token} → IsKeyword w.FOR t → Is 2 o → IsKeyword w.INT x → IsNameToken i n → Is 33 s → IsInt 0 false z → Is 32 e → IsNameToken i v → Is 32 f → Is 3 c → Is 32 y →
    ReadsStmt 0 (for_loop t.from (first_decl (decl x.from no_storage int (more_parts (named n.from (record { name = i; at = n.from })) (an_init (one z.from (an_int z.from 0 false))) no_parts))) (there (a_name v.from i)) absent (empty y.from))
    (t ∷ o ∷ x ∷ n ∷ s ∷ z ∷ e ∷ v ∷ f ∷ c ∷ y ∷ []) []
for_with_declaration t o x n s z e v f c y =
    a_for t o
    (first_declaration
    (a_declaration refl no_storage_stands (is_int no_const x no_const) (last_part (a_direct refl (a_declared (record { name = n; at = refl })) no_more) tt (an_initialiser s (an_expression (assigned (is_int z)) refl))) e)
    refl)
    (an_expression_stands (whole (is_name v)))
    f
    no_expression_stands
    c
    (an_empty y)

-- { 1 , { 2 , } , }
nested_lists : {o a b l c d r e q : Token} → Is 4 o → IsInt 1 false a → Is 44 b → Is 4 l → IsInt 2 false c → Is 44 d → Is 5 r → Is 44 e → Is 5 q →
    ReadsInit 0 (list o.from (more_inits (one a.from (an_int a.from 1 false)) (more_inits (list l.from (more_inits (one c.from (an_int c.from 2 false)) no_inits)) no_inits))) (o ∷ a ∷ b ∷ l ∷ c ∷ d ∷ r ∷ e ∷ q ∷ []) []
nested_lists o a b l c d r e q =
    a_list_with_comma o
    (next_init (an_expression (assigned (is_int a)) refl) b (last_init (a_list_with_comma l (last_init (an_expression (assigned (is_int c)) refl)) d r)))
    e
    q

-- enum e { A , B = 2 , } ;
enum_with_comma : {e a b : List ℕ} {t n l x c y s z d r u : Token} → IsKeyword w.ENUM t → IsNameToken e n → Is 4 l → IsNameToken a x → Is 44 c → IsNameToken b y → Is 33 s → IsInt 2 false z → Is 44 d → Is 5 r → Is 32 u →
    ReadsItem 0 (enum_item t.from (tag (record { name = e; at = n.from })) (more_enumerators (record { name = a; at = x.from }) absent (more_enumerators (record { name = b; at = y.from }) (there (an_int z.from 2 false)) no_enumerators)))
    (t ∷ n ∷ l ∷ x ∷ c ∷ y ∷ s ∷ z ∷ d ∷ r ∷ u ∷ []) []
enum_with_comma t n l x c y s z d r u =
    an_enum_with_comma t (a_tag (record { name = n; at = refl })) l
    (next_enumerator (record { name = x; at = refl }) no_enumerator_value c (last_enumerator (record { name = y; at = refl }) (an_enumerator_value s (from_primary (is_int z)))))
    d
    r
    u

-- static int f ( void ) { return 0 ; }
definition : {f : List ℕ} {g t n l v m b x z e r : Token} → IsKeyword w.STATIC g → IsKeyword w.INT t → IsNameToken f n → Is 2 l → IsKeyword w.VOID v → Is 3 m → Is 4 b → IsKeyword w.RETURN x → IsInt 0 false z → Is 32 e → Is 5 r →
    ReadsItem 0 (function_item g.from static int (function n.from (named n.from (record { name = f; at = n.from })) no_params) (block b.from (block_stmt (return_from x.from (there (an_int z.from 0 false))) no_block_items)))
    (g ∷ t ∷ n ∷ l ∷ v ∷ m ∷ b ∷ x ∷ z ∷ e ∷ r ∷ []) []
definition g t n l v m b x z e r =
    a_definition refl (static_stands g) (is_int no_const t no_const)
    (a_direct refl (a_declared (record { name = n; at = refl })) (a_function l (are_none (is_void no_const v no_const)) m no_more))
    tt
    b
    (a_block_stmt (a_return x (an_expression_stands (whole (is_int z))) e) no_block_item)
    r
