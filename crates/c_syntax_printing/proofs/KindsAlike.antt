-- The tokens that a unit is printed with are seen without places.
use Rattle.std.proofs.Common.{◌≡◌, Bool, true, false, ◌∷◌, refl, ap, sym, subst, ◌∙◌}
use Rattle.c_lexer.specs.declared.token.TokenKind.{TokenKind}
use Rattle.c_lexer.specs.declared.token.TokenKind.TheVariants.{Name, Keyword, Punct}
use Rattle.c_lexer.specs.declared.punctuator.TheConstants as p
use Rattle.c_lexer.specs.declared.keyword.TheConstants as w
use Rattle.c_syntax.specs.Tree.{Spec, struct}
use Rattle.c_syntax.specs.Tree.{Expr, a_name, comma, sizeof_type, cast, call, member, postfix, prefix, unary, index, binary, assign, conditional}
use Rattle.c_syntax.specs.Tree.{Exprs, no_exprs, more_exprs, Maybe, absent, there, TypeName, type_name, Declarator, named, pointer, array, function, Params, no_params, more_params}
use Rattle.c_syntax.specs.Tree.{Init, one, list, Inits, no_inits, more_inits, MaybeInit, no_init, an_init, Parts, no_parts, more_parts, Decl, decl}
use Rattle.c_syntax.specs.Tree.{First, first_absent, first_expr, first_decl, Labels, no_labels, case_label, default_label}
use Rattle.c_syntax.specs.Tree.{Stmt, block, evaluate, only_if, if_else, while_loop, do_loop, for_loop, switch_on, return_from, BlockItems, no_block_items, block_decl, block_stmt, Stmts, no_stmts, more_stmts, Groups, no_groups, more_groups}
use Rattle.c_syntax.specs.Tree.{Declarators, no_declarators, more_declarators, Members, no_members, more_members, Enumerators, no_enumerators, more_enumerators, Tag, no_tag, tag, Item, struct_item, enum_item, tag_item, decl_item, function_item, Items, no_items, more_items}
use Rattle.c_syntax.specs.Tokens.{code_of_infix}
use Rattle.c_syntax.specs.Print.{Kinds, storage_kinds, spec_kinds, prefix_kind, postfix_kind, access_kind, is_bare, wrapped, is_direct, expr_kinds, list_kinds, next_kinds, size_kinds, type_kinds, declarator_kinds, params_kinds, next_params, operand_kinds, maybe_kinds}
use Rattle.c_syntax.specs.Print.{init_kinds, inits_kinds, next_inits, maybe_init_kinds, next_parts, parts_kinds, decl_kinds, first_kinds, labels_kinds, stmt_kinds, block_items_kinds, stmts_kinds, groups_kinds}
use Rattle.c_syntax.specs.Print.{next_declarators, declarators_kinds, members_kinds, enumerator_value_kinds, next_enumerators, enumerators_kinds, tag_kinds, item_kinds, unit_kinds}
use Rattle.c_syntax.specs.Same.{unplaced_spec, unplaced, unplaced_exprs, unplaced_maybe, unplaced_type, unplaced_declarator, unplaced_params, unplaced_init, unplaced_inits, unplaced_maybe_init, unplaced_parts, unplaced_decl, unplaced_first, unplaced_labels, unplaced_stmt, unplaced_block_items, unplaced_stmts, unplaced_groups, unplaced_declarators, unplaced_members, unplaced_enumerators, unplaced_tag, unplaced_item, unplaced_unit, AreSame}

-- both write the same, whatever follows
abbrev Alike : (Kinds → Kinds) → (Kinds → Kinds) → Type 0
Alike f g = (k : Kinds) → f k ≡ g k

wrapped_alike : (a : Bool) (f g : Kinds → Kinds) → Alike f g → Alike (wrapped a f) (wrapped a g)
wrapped_alike true f g h k = h k
wrapped_alike false f g h k = ap (λ (x : Kinds). Punct p.LEFT_PARENTHESIS ∷ x) (h (Punct p.RIGHT_PARENTHESIS ∷ k))

wrapped_as : (a b : Bool) (f g : Kinds → Kinds) → a ≡ b → Alike f g → Alike (wrapped a f) (wrapped b g)
wrapped_as a b f g q h = subst (λ (c : Bool). Alike (wrapped a f) (wrapped c g)) q (wrapped_alike a f g h)

spec_alike : (s : Spec) → Alike (spec_kinds (unplaced_spec s)) (spec_kinds s)
spec_alike (struct x) k = refl
spec_alike s k = refl

bare_alike : (e : Expr) → is_bare (unplaced e) ≡ is_bare e
bare_alike (a_name at n) = refl
bare_alike e = refl

direct_alike : (e : Declarator) → is_direct (unplaced_declarator e) ≡ is_direct e
direct_alike (named at x) = refl
direct_alike e = refl

operand_of : (e : Expr) → Alike (expr_kinds (unplaced e)) (expr_kinds e) → Alike (operand_kinds (unplaced e)) (operand_kinds e)
operand_of e h = wrapped_as (is_bare (unplaced e)) (is_bare e) (expr_kinds (unplaced e)) (expr_kinds e) (bare_alike e) h

inner_of : (e : Declarator) → Alike (declarator_kinds (unplaced_declarator e)) (declarator_kinds e)
    → Alike (wrapped (is_direct (unplaced_declarator e)) (declarator_kinds (unplaced_declarator e))) (wrapped (is_direct e) (declarator_kinds e))
inner_of e h = wrapped_as (is_direct (unplaced_declarator e)) (is_direct e) (declarator_kinds (unplaced_declarator e)) (declarator_kinds e) (direct_alike e) h

-- one after the other
then : (f g : Kinds → Kinds) {a b : Kinds} → Alike f g → a ≡ b → f a ≡ g b
then f g {a} {b} h q = ap f q ∙ h b

mutual
  expr_alike : (e : Expr) → Alike (expr_kinds (unplaced e)) (expr_kinds e)
  expr_alike (comma at es) k = list_alike es k
  expr_alike (sizeof_type at n) k = ap (λ (x : Kinds). Keyword w.SIZEOF ∷ Punct p.LEFT_PARENTHESIS ∷ x) (type_alike n (Punct p.RIGHT_PARENTHESIS ∷ k))
  expr_alike (cast at n a) k =
      ap (λ (x : Kinds). Punct p.LEFT_PARENTHESIS ∷ x)
      (then (type_kinds (unplaced_type n)) (type_kinds n) (type_alike n) (ap (λ (x : Kinds). Punct p.RIGHT_PARENTHESIS ∷ x) (operand_of a (expr_alike a) k)))
  expr_alike (call at a es) k =
      then (operand_kinds (unplaced a)) (operand_kinds a) (operand_of a (expr_alike a)) (ap (λ (x : Kinds). Punct p.LEFT_PARENTHESIS ∷ x) (list_alike es (Punct p.RIGHT_PARENTHESIS ∷ k)))
  expr_alike (member at access a x) k = operand_of a (expr_alike a) (access_kind access ∷ Name x.name ∷ k)
  expr_alike (postfix at o a) k = operand_of a (expr_alike a) (postfix_kind o ∷ k)
  expr_alike (prefix at o a) k = ap (λ (x : Kinds). prefix_kind o ∷ x) (operand_of a (expr_alike a) k)
  expr_alike (unary at op a) k = ap (λ (x : Kinds). Punct op ∷ x) (operand_of a (expr_alike a) k)
  expr_alike (index at a b) k =
      then (operand_kinds (unplaced a)) (operand_kinds a) (operand_of a (expr_alike a)) (ap (λ (x : Kinds). Punct p.LEFT_BRACKET ∷ x) (expr_alike b (Punct p.RIGHT_BRACKET ∷ k)))
  expr_alike (binary at o a b) k =
      then (operand_kinds (unplaced a)) (operand_kinds a) (operand_of a (expr_alike a)) (ap (λ (x : Kinds). Punct (code_of_infix o) ∷ x) (operand_of b (expr_alike b) k))
  expr_alike (assign at op a b) k =
      then (operand_kinds (unplaced a)) (operand_kinds a) (operand_of a (expr_alike a)) (ap (λ (x : Kinds). Punct op ∷ x) (operand_of b (expr_alike b) k))
  expr_alike (conditional at a b c) k =
      then (operand_kinds (unplaced a)) (operand_kinds a) (operand_of a (expr_alike a))
      (ap (λ (x : Kinds). Punct p.QUESTION ∷ x)
      (then (operand_kinds (unplaced b)) (operand_kinds b) (operand_of b (expr_alike b)) (ap (λ (x : Kinds). Punct p.COLON ∷ x) (operand_of c (expr_alike c) k))))
  expr_alike e k = refl

  list_alike : (es : Exprs) → Alike (list_kinds (unplaced_exprs es)) (list_kinds es)
  list_alike no_exprs k = refl
  list_alike (more_exprs a es) k = then (operand_kinds (unplaced a)) (operand_kinds a) (operand_of a (expr_alike a)) (next_alike es k)

  next_alike : (es : Exprs) → Alike (next_kinds (unplaced_exprs es)) (next_kinds es)
  next_alike no_exprs k = refl
  next_alike (more_exprs a es) k = ap (λ (x : Kinds). Punct p.COMMA ∷ x) (then (operand_kinds (unplaced a)) (operand_kinds a) (operand_of a (expr_alike a)) (next_alike es k))

  size_alike : (e : Maybe) → Alike (size_kinds (unplaced_maybe e)) (size_kinds e)
  size_alike absent k = refl
  size_alike (there e) k = operand_of e (expr_alike e) k

  type_alike : (n : TypeName) → Alike (type_kinds (unplaced_type n)) (type_kinds n)
  type_alike (type_name at s e) k = then (spec_kinds (unplaced_spec s)) (spec_kinds s) (spec_alike s) (declarator_alike e k)

  declarator_alike : (e : Declarator) → Alike (declarator_kinds (unplaced_declarator e)) (declarator_kinds e)
  declarator_alike (pointer at e) k = ap (λ (x : Kinds). Punct p.ASTERISK ∷ x) (declarator_alike e k)
  declarator_alike (array at e size) k =
      then (wrapped (is_direct (unplaced_declarator e)) (declarator_kinds (unplaced_declarator e))) (wrapped (is_direct e) (declarator_kinds e)) (inner_of e (declarator_alike e))
      (ap (λ (x : Kinds). Punct p.LEFT_BRACKET ∷ x) (size_alike size (Punct p.RIGHT_BRACKET ∷ k)))
  declarator_alike (function at e ps) k =
      then (wrapped (is_direct (unplaced_declarator e)) (declarator_kinds (unplaced_declarator e))) (wrapped (is_direct e) (declarator_kinds e)) (inner_of e (declarator_alike e))
      (ap (λ (x : Kinds). Punct p.LEFT_PARENTHESIS ∷ x) (params_alike ps (Punct p.RIGHT_PARENTHESIS ∷ k)))
  declarator_alike e k = refl

  params_alike : (ps : Params) → Alike (params_kinds (unplaced_params ps)) (params_kinds ps)
  params_alike no_params k = refl
  params_alike (more_params at s e ps) k =
      then (spec_kinds (unplaced_spec s)) (spec_kinds s) (spec_alike s) (then (declarator_kinds (unplaced_declarator e)) (declarator_kinds e) (declarator_alike e) (next_params_alike ps k))

  next_params_alike : (ps : Params) → Alike (next_params (unplaced_params ps)) (next_params ps)
  next_params_alike no_params k = refl
  next_params_alike (more_params at s e ps) k =
      ap (λ (x : Kinds). Punct p.COMMA ∷ x)
      (then (spec_kinds (unplaced_spec s)) (spec_kinds s) (spec_alike s) (then (declarator_kinds (unplaced_declarator e)) (declarator_kinds e) (declarator_alike e) (next_params_alike ps k)))

maybe_alike : (e : Maybe) → Alike (maybe_kinds (unplaced_maybe e)) (maybe_kinds e)
maybe_alike absent k = refl
maybe_alike (there e) k = expr_alike e k

mutual
  init_alike : (a : Init) → Alike (init_kinds (unplaced_init a)) (init_kinds a)
  init_alike (one at e) k = operand_of e (expr_alike e) k
  init_alike (list at is) k = ap (λ (x : Kinds). Punct p.LEFT_BRACE ∷ x) (inits_alike is (Punct p.RIGHT_BRACE ∷ k))

  inits_alike : (is : Inits) → Alike (inits_kinds (unplaced_inits is)) (inits_kinds is)
  inits_alike no_inits k = refl
  inits_alike (more_inits a is) k = then (init_kinds (unplaced_init a)) (init_kinds a) (init_alike a) (next_inits_alike is k)

  next_inits_alike : (is : Inits) → Alike (next_inits (unplaced_inits is)) (next_inits is)
  next_inits_alike no_inits k = refl
  next_inits_alike (more_inits a is) k = ap (λ (x : Kinds). Punct p.COMMA ∷ x) (then (init_kinds (unplaced_init a)) (init_kinds a) (init_alike a) (next_inits_alike is k))

maybe_init_alike : (v : MaybeInit) → Alike (maybe_init_kinds (unplaced_maybe_init v)) (maybe_init_kinds v)
maybe_init_alike no_init k = refl
maybe_init_alike (an_init a) k = ap (λ (x : Kinds). Punct p.ASSIGN ∷ x) (init_alike a k)

next_parts_alike : (ps : Parts) → Alike (next_parts (unplaced_parts ps)) (next_parts ps)
next_parts_alike no_parts k = refl
next_parts_alike (more_parts e v ps) k =
    ap (λ (x : Kinds). Punct p.COMMA ∷ x)
    (then (declarator_kinds (unplaced_declarator e)) (declarator_kinds e) (declarator_alike e)
    (then (maybe_init_kinds (unplaced_maybe_init v)) (maybe_init_kinds v) (maybe_init_alike v) (next_parts_alike ps k)))

parts_alike : (ps : Parts) → Alike (parts_kinds (unplaced_parts ps)) (parts_kinds ps)
parts_alike no_parts k = refl
parts_alike (more_parts e v ps) k =
    then (declarator_kinds (unplaced_declarator e)) (declarator_kinds e) (declarator_alike e)
    (then (maybe_init_kinds (unplaced_maybe_init v)) (maybe_init_kinds v) (maybe_init_alike v) (next_parts_alike ps k))

decl_alike : (x : Decl) → Alike (decl_kinds (unplaced_decl x)) (decl_kinds x)
decl_alike (decl at st s ps) k =
    ap (storage_kinds st) (then (spec_kinds (unplaced_spec s)) (spec_kinds s) (spec_alike s) (parts_alike ps (Punct p.SEMICOLON ∷ k)))

first_alike : (f : First) → Alike (first_kinds (unplaced_first f)) (first_kinds f)
first_alike first_absent k = refl
first_alike (first_expr e) k = expr_alike e (Punct p.SEMICOLON ∷ k)
first_alike (first_decl x) k = decl_alike x k

labels_alike : (ls : Labels) → Alike (labels_kinds (unplaced_labels ls)) (labels_kinds ls)
labels_alike no_labels k = refl
labels_alike (case_label at e ls) k =
    ap (λ (x : Kinds). Keyword w.CASE ∷ x) (then (operand_kinds (unplaced e)) (operand_kinds e) (operand_of e (expr_alike e)) (ap (λ (x : Kinds). Punct p.COLON ∷ x) (labels_alike ls k)))
labels_alike (default_label at ls) k = ap (λ (x : Kinds). Keyword w.DEFAULT ∷ Punct p.COLON ∷ x) (labels_alike ls k)

-- an expression in parentheses after a keyword
headed_alike : (e : Expr) (word : TokenKind) {a b : Kinds} → a ≡ b
    → word ∷ Punct p.LEFT_PARENTHESIS ∷ expr_kinds (unplaced e) (Punct p.RIGHT_PARENTHESIS ∷ a) ≡ word ∷ Punct p.LEFT_PARENTHESIS ∷ expr_kinds e (Punct p.RIGHT_PARENTHESIS ∷ b)
headed_alike e word q =
    ap (λ (x : Kinds). word ∷ Punct p.LEFT_PARENTHESIS ∷ x) (then (expr_kinds (unplaced e)) (expr_kinds e) (expr_alike e) (ap (λ (x : Kinds). Punct p.RIGHT_PARENTHESIS ∷ x) q))

mutual
  stmt_alike : (s : Stmt) → Alike (stmt_kinds (unplaced_stmt s)) (stmt_kinds s)
  stmt_alike (block at is) k = ap (λ (x : Kinds). Punct p.LEFT_BRACE ∷ x) (block_items_alike is (Punct p.RIGHT_BRACE ∷ k))
  stmt_alike (evaluate at e) k = expr_alike e (Punct p.SEMICOLON ∷ k)
  stmt_alike (only_if at e s) k = headed_alike e (Keyword w.IF) (stmt_alike s k)
  stmt_alike (if_else at e s r) k =
      headed_alike e (Keyword w.IF) (then (stmt_kinds (unplaced_stmt s)) (stmt_kinds s) (stmt_alike s) (ap (λ (x : Kinds). Keyword w.ELSE ∷ x) (stmt_alike r k)))
  stmt_alike (while_loop at e s) k = headed_alike e (Keyword w.WHILE) (stmt_alike s k)
  stmt_alike (do_loop at s e) k =
      ap (λ (x : Kinds). Keyword w.DO ∷ x) (then (stmt_kinds (unplaced_stmt s)) (stmt_kinds s) (stmt_alike s) (headed_alike e (Keyword w.WHILE) refl))
  stmt_alike (for_loop at f a b s) k =
      ap (λ (x : Kinds). Keyword w.FOR ∷ Punct p.LEFT_PARENTHESIS ∷ x)
      (then (first_kinds (unplaced_first f)) (first_kinds f) (first_alike f)
      (then (maybe_kinds (unplaced_maybe a)) (maybe_kinds a) (maybe_alike a)
      (ap (λ (x : Kinds). Punct p.SEMICOLON ∷ x)
      (then (maybe_kinds (unplaced_maybe b)) (maybe_kinds b) (maybe_alike b) (ap (λ (x : Kinds). Punct p.RIGHT_PARENTHESIS ∷ x) (stmt_alike s k))))))
  stmt_alike (switch_on at e gs) k = headed_alike e (Keyword w.SWITCH) (ap (λ (x : Kinds). Punct p.LEFT_BRACE ∷ x) (groups_alike gs (Punct p.RIGHT_BRACE ∷ k)))
  stmt_alike (return_from at e) k = ap (λ (x : Kinds). Keyword w.RETURN ∷ x) (maybe_alike e (Punct p.SEMICOLON ∷ k))
  stmt_alike s k = refl

  block_items_alike : (is : BlockItems) → Alike (block_items_kinds (unplaced_block_items is)) (block_items_kinds is)
  block_items_alike no_block_items k = refl
  block_items_alike (block_decl x is) k = then (decl_kinds (unplaced_decl x)) (decl_kinds x) (decl_alike x) (block_items_alike is k)
  block_items_alike (block_stmt s is) k = then (stmt_kinds (unplaced_stmt s)) (stmt_kinds s) (stmt_alike s) (block_items_alike is k)

  stmts_alike : (ss : Stmts) → Alike (stmts_kinds (unplaced_stmts ss)) (stmts_kinds ss)
  stmts_alike no_stmts k = refl
  stmts_alike (more_stmts s ss) k = then (stmt_kinds (unplaced_stmt s)) (stmt_kinds s) (stmt_alike s) (stmts_alike ss k)

  groups_alike : (gs : Groups) → Alike (groups_kinds (unplaced_groups gs)) (groups_kinds gs)
  groups_alike no_groups k = refl
  groups_alike (more_groups ls ss gs) k =
      then (labels_kinds (unplaced_labels ls)) (labels_kinds ls) (labels_alike ls) (then (stmts_kinds (unplaced_stmts ss)) (stmts_kinds ss) (stmts_alike ss) (groups_alike gs k))

next_declarators_alike : (es : Declarators) → Alike (next_declarators (unplaced_declarators es)) (next_declarators es)
next_declarators_alike no_declarators k = refl
next_declarators_alike (more_declarators e es) k =
    ap (λ (x : Kinds). Punct p.COMMA ∷ x) (then (declarator_kinds (unplaced_declarator e)) (declarator_kinds e) (declarator_alike e) (next_declarators_alike es k))

declarators_alike : (es : Declarators) → Alike (declarators_kinds (unplaced_declarators es)) (declarators_kinds es)
declarators_alike no_declarators k = refl
declarators_alike (more_declarators e es) k = then (declarator_kinds (unplaced_declarator e)) (declarator_kinds e) (declarator_alike e) (next_declarators_alike es k)

members_alike : (ms : Members) → Alike (members_kinds (unplaced_members ms)) (members_kinds ms)
members_alike no_members k = refl
members_alike (more_members at s es ms) k =
    then (spec_kinds (unplaced_spec s)) (spec_kinds s) (spec_alike s)
    (then (declarators_kinds (unplaced_declarators es)) (declarators_kinds es) (declarators_alike es) (ap (λ (x : Kinds). Punct p.SEMICOLON ∷ x) (members_alike ms k)))

enumerator_value_alike : (e : Maybe) → Alike (enumerator_value_kinds (unplaced_maybe e)) (enumerator_value_kinds e)
enumerator_value_alike absent k = refl
enumerator_value_alike (there e) k = ap (λ (x : Kinds). Punct p.ASSIGN ∷ x) (operand_of e (expr_alike e) k)

next_enumerators_alike : (es : Enumerators) → Alike (next_enumerators (unplaced_enumerators es)) (next_enumerators es)
next_enumerators_alike no_enumerators k = refl
next_enumerators_alike (more_enumerators x e es) k =
    ap (λ (ks : Kinds). Punct p.COMMA ∷ Name x.name ∷ ks) (then (enumerator_value_kinds (unplaced_maybe e)) (enumerator_value_kinds e) (enumerator_value_alike e) (next_enumerators_alike es k))

enumerators_alike : (es : Enumerators) → Alike (enumerators_kinds (unplaced_enumerators es)) (enumerators_kinds es)
enumerators_alike no_enumerators k = refl
enumerators_alike (more_enumerators x e es) k =
    ap (λ (ks : Kinds). Name x.name ∷ ks) (then (enumerator_value_kinds (unplaced_maybe e)) (enumerator_value_kinds e) (enumerator_value_alike e) (next_enumerators_alike es k))

tag_alike : (g : Tag) → Alike (tag_kinds (unplaced_tag g)) (tag_kinds g)
tag_alike no_tag k = refl
tag_alike (tag x) k = refl

item_alike : (a : Item) → Alike (item_kinds (unplaced_item a)) (item_kinds a)
item_alike (struct_item at x ms) k =
    ap (λ (ks : Kinds). Keyword w.STRUCT ∷ Name x.name ∷ Punct p.LEFT_BRACE ∷ ks) (members_alike ms (Punct p.RIGHT_BRACE ∷ Punct p.SEMICOLON ∷ k))
item_alike (enum_item at g es) k =
    ap (λ (ks : Kinds). Keyword w.ENUM ∷ ks)
    (then (tag_kinds (unplaced_tag g)) (tag_kinds g) (tag_alike g) (ap (λ (ks : Kinds). Punct p.LEFT_BRACE ∷ ks) (enumerators_alike es (Punct p.RIGHT_BRACE ∷ Punct p.SEMICOLON ∷ k))))
item_alike (tag_item at x) k = refl
item_alike (decl_item at x) k = decl_alike x k
item_alike (function_item at st s e b) k =
    ap (storage_kinds st)
    (then (spec_kinds (unplaced_spec s)) (spec_kinds s) (spec_alike s) (then (declarator_kinds (unplaced_declarator e)) (declarator_kinds e) (declarator_alike e) (stmt_alike b k)))

unit_alike : (u : Items) → Alike (unit_kinds (unplaced_unit u)) (unit_kinds u)
unit_alike no_items k = refl
unit_alike (more_items a u) k = then (item_kinds (unplaced_item a)) (item_kinds a) (item_alike a) (unit_alike u k)

-- units that are the same apart from places are printed with the same tokens
pub same_kinds : (u v : Items) → AreSame u v → (k : Kinds) → unit_kinds u k ≡ unit_kinds v k
same_kinds u v q k = sym (unit_alike u k) ∙ ap (λ (x : Items). unit_kinds x k) q ∙ unit_alike v k
