-- The tokens that print writes, by their kinds: each function gives those of a tree, and then k.
use Rattle.std.specs.Prelude.{Bool, true, false, List, ◌∷◌}
use Rattle.c_lexer.specs.declared.token.TokenKind.{TokenKind}
use Rattle.c_lexer.specs.declared.token.TokenKind.TheVariants.{Name, Keyword, Int, Char, Str, Punct}
use Rattle.c_lexer.specs.declared.punctuator.TheConstants as p
use Rattle.c_lexer.specs.declared.keyword.TheConstants as w
use Rattle.c_syntax.specs.Tree.{Storage, no_storage, static, extern, Spec, void, char, unsigned_char, int, unsigned_int, struct, enum}
use Rattle.c_syntax.specs.Tree.{Postfix, post_increment, post_decrement, Prefix, pre_increment, pre_decrement, sizeof, Access, dot, arrow}
use Rattle.c_syntax.specs.Tree.{Expr, a_name, an_int, a_char, a_str, comma, sizeof_type, cast, call, member, postfix, prefix, unary, index, binary, assign, conditional}
use Rattle.c_syntax.specs.Tree.{Exprs, no_exprs, more_exprs, Maybe, absent, there, TypeName, type_name, Declarator, nothing, named, pointer, array, function, Params, no_params, more_params}
use Rattle.c_syntax.specs.Tree.{Init, one, list, Inits, no_inits, more_inits, MaybeInit, no_init, an_init, Parts, no_parts, more_parts, Decl, decl}
use Rattle.c_syntax.specs.Tree.{First, first_absent, first_expr, first_decl, Labels, no_labels, case_label, default_label}
use Rattle.c_syntax.specs.Tree.{Stmt, block, empty, evaluate, only_if, if_else, while_loop, do_loop, for_loop, switch_on, break_off, continue_on, return_from, BlockItems, no_block_items, block_decl, block_stmt, Stmts, no_stmts, more_stmts, Groups, no_groups, more_groups}
use Rattle.c_syntax.specs.Tree.{Declarators, no_declarators, more_declarators, Members, no_members, more_members, Enumerators, no_enumerators, more_enumerators, Tag, no_tag, tag, Item, struct_item, enum_item, tag_item, decl_item, function_item, Items, no_items, more_items}
use Rattle.c_syntax.specs.Tokens.{code_of_infix}

-- kinds, and then others
abbrev pub Kinds : Type 0
Kinds = List TokenKind

abbrev pub storage_kinds : Storage → Kinds → Kinds
storage_kinds no_storage k = k
storage_kinds static k = Keyword w.STATIC ∷ k
storage_kinds extern k = Keyword w.EXTERN ∷ k

abbrev pub spec_kinds : Spec → Kinds → Kinds
spec_kinds void k = Keyword w.VOID ∷ k
spec_kinds char k = Keyword w.CHAR ∷ k
spec_kinds unsigned_char k = Keyword w.UNSIGNED ∷ Keyword w.CHAR ∷ k
spec_kinds int k = Keyword w.INT ∷ k
spec_kinds unsigned_int k = Keyword w.UNSIGNED ∷ Keyword w.INT ∷ k
spec_kinds (struct x) k = Keyword w.STRUCT ∷ Name x.name ∷ k
spec_kinds (enum x) k = Keyword w.ENUM ∷ Name x.name ∷ k

abbrev pub prefix_kind : Prefix → TokenKind
prefix_kind pre_increment = Punct p.INCREMENT
prefix_kind pre_decrement = Punct p.DECREMENT
prefix_kind sizeof = Keyword w.SIZEOF

abbrev pub postfix_kind : Postfix → TokenKind
postfix_kind post_increment = Punct p.INCREMENT
postfix_kind post_decrement = Punct p.DECREMENT

abbrev pub access_kind : Access → TokenKind
access_kind dot = Punct p.DOT
access_kind arrow = Punct p.ARROW

-- a name, a constant, a string, a call, an index or a member stands bare as an operand
abbrev pub is_bare : Expr → Bool
is_bare (a_name at name) = true
is_bare (an_int at number unsigned) = true
is_bare (a_char at c) = true
is_bare (a_str at bytes) = true
is_bare (comma at es) = false
is_bare (sizeof_type at n) = false
is_bare (cast at n a) = false
is_bare (call at a es) = true
is_bare (member at access a x) = true
is_bare (postfix at o a) = false
is_bare (prefix at o a) = false
is_bare (unary at op a) = false
is_bare (index at a b) = true
is_bare (binary at o a b) = false
is_bare (assign at op a b) = false
is_bare (conditional at a b c) = false

-- bare, or in parentheses
abbrev pub wrapped : Bool → (Kinds → Kinds) → Kinds → Kinds
wrapped true f k = f k
wrapped false f k = Punct p.LEFT_PARENTHESIS ∷ f (Punct p.RIGHT_PARENTHESIS ∷ k)

-- a pointer inside an array or a function stands in parentheses
abbrev pub is_direct : Declarator → Bool
is_direct nothing = true
is_direct (named at x) = true
is_direct (pointer at e) = false
is_direct (array at e size) = true
is_direct (function at e ps) = true

abbrev mutual
  pub expr_kinds : Expr → Kinds → Kinds
  expr_kinds (a_name at name) k = Name name ∷ k
  expr_kinds (an_int at number unsigned) k = Int number unsigned ∷ k
  expr_kinds (a_char at c) k = Char c ∷ k
  expr_kinds (a_str at bytes) k = Str bytes ∷ k
  expr_kinds (comma at es) k = list_kinds es k
  expr_kinds (sizeof_type at n) k = Keyword w.SIZEOF ∷ Punct p.LEFT_PARENTHESIS ∷ type_kinds n (Punct p.RIGHT_PARENTHESIS ∷ k)
  expr_kinds (cast at n a) k = Punct p.LEFT_PARENTHESIS ∷ type_kinds n (Punct p.RIGHT_PARENTHESIS ∷ wrapped (is_bare a) (expr_kinds a) k)
  expr_kinds (call at a es) k = wrapped (is_bare a) (expr_kinds a) (Punct p.LEFT_PARENTHESIS ∷ list_kinds es (Punct p.RIGHT_PARENTHESIS ∷ k))
  expr_kinds (member at access a x) k = wrapped (is_bare a) (expr_kinds a) (access_kind access ∷ Name x.name ∷ k)
  expr_kinds (postfix at o a) k = wrapped (is_bare a) (expr_kinds a) (postfix_kind o ∷ k)
  expr_kinds (prefix at o a) k = prefix_kind o ∷ wrapped (is_bare a) (expr_kinds a) k
  expr_kinds (unary at op a) k = Punct op ∷ wrapped (is_bare a) (expr_kinds a) k
  expr_kinds (index at a b) k = wrapped (is_bare a) (expr_kinds a) (Punct p.LEFT_BRACKET ∷ expr_kinds b (Punct p.RIGHT_BRACKET ∷ k))
  expr_kinds (binary at o a b) k = wrapped (is_bare a) (expr_kinds a) (Punct (code_of_infix o) ∷ wrapped (is_bare b) (expr_kinds b) k)
  expr_kinds (assign at op a b) k = wrapped (is_bare a) (expr_kinds a) (Punct op ∷ wrapped (is_bare b) (expr_kinds b) k)
  expr_kinds (conditional at a b c) k = wrapped (is_bare a) (expr_kinds a) (Punct p.QUESTION ∷ wrapped (is_bare b) (expr_kinds b) (Punct p.COLON ∷ wrapped (is_bare c) (expr_kinds c) k))

  -- operands with commas between
  pub list_kinds : Exprs → Kinds → Kinds
  list_kinds no_exprs k = k
  list_kinds (more_exprs a rest) k = wrapped (is_bare a) (expr_kinds a) (next_kinds rest k)

  pub next_kinds : Exprs → Kinds → Kinds
  next_kinds no_exprs k = k
  next_kinds (more_exprs a rest) k = Punct p.COMMA ∷ wrapped (is_bare a) (expr_kinds a) (next_kinds rest k)

  -- an operand, where one stands
  pub size_kinds : Maybe → Kinds → Kinds
  size_kinds absent k = k
  size_kinds (there e) k = wrapped (is_bare e) (expr_kinds e) k

  pub type_kinds : TypeName → Kinds → Kinds
  type_kinds (type_name at s e) k = spec_kinds s (declarator_kinds e k)

  pub declarator_kinds : Declarator → Kinds → Kinds
  declarator_kinds nothing k = k
  declarator_kinds (named at x) k = Name x.name ∷ k
  declarator_kinds (pointer at e) k = Punct p.ASTERISK ∷ declarator_kinds e k
  declarator_kinds (array at e size) k = wrapped (is_direct e) (declarator_kinds e) (Punct p.LEFT_BRACKET ∷ size_kinds size (Punct p.RIGHT_BRACKET ∷ k))
  declarator_kinds (function at e ps) k = wrapped (is_direct e) (declarator_kinds e) (Punct p.LEFT_PARENTHESIS ∷ params_kinds ps (Punct p.RIGHT_PARENTHESIS ∷ k))

  pub params_kinds : Params → Kinds → Kinds
  params_kinds no_params k = Keyword w.VOID ∷ k
  params_kinds (more_params at s e rest) k = spec_kinds s (declarator_kinds e (next_params rest k))

  pub next_params : Params → Kinds → Kinds
  next_params no_params k = k
  next_params (more_params at s e rest) k = Punct p.COMMA ∷ spec_kinds s (declarator_kinds e (next_params rest k))

-- an operand
abbrev pub operand_kinds : Expr → Kinds → Kinds
operand_kinds a k = wrapped (is_bare a) (expr_kinds a) k

-- an expression, where one stands
abbrev pub maybe_kinds : Maybe → Kinds → Kinds
maybe_kinds absent k = k
maybe_kinds (there e) k = expr_kinds e k

abbrev mutual
  pub init_kinds : Init → Kinds → Kinds
  init_kinds (one at e) k = operand_kinds e k
  init_kinds (list at is) k = Punct p.LEFT_BRACE ∷ inits_kinds is (Punct p.RIGHT_BRACE ∷ k)

  pub inits_kinds : Inits → Kinds → Kinds
  inits_kinds no_inits k = k
  inits_kinds (more_inits a rest) k = init_kinds a (next_inits rest k)

  pub next_inits : Inits → Kinds → Kinds
  next_inits no_inits k = k
  next_inits (more_inits a rest) k = Punct p.COMMA ∷ init_kinds a (next_inits rest k)

abbrev pub maybe_init_kinds : MaybeInit → Kinds → Kinds
maybe_init_kinds no_init k = k
maybe_init_kinds (an_init a) k = Punct p.ASSIGN ∷ init_kinds a k

abbrev pub part_kinds : Declarator → MaybeInit → Kinds → Kinds
part_kinds e v k = declarator_kinds e (maybe_init_kinds v k)

abbrev pub next_parts : Parts → Kinds → Kinds
next_parts no_parts k = k
next_parts (more_parts e v rest) k = Punct p.COMMA ∷ part_kinds e v (next_parts rest k)

abbrev pub parts_kinds : Parts → Kinds → Kinds
parts_kinds no_parts k = k
parts_kinds (more_parts e v rest) k = part_kinds e v (next_parts rest k)

abbrev pub decl_kinds : Decl → Kinds → Kinds
decl_kinds (decl at st s ps) k = storage_kinds st (spec_kinds s (parts_kinds ps (Punct p.SEMICOLON ∷ k)))

-- with the semicolon after it
abbrev pub first_kinds : First → Kinds → Kinds
first_kinds first_absent k = Punct p.SEMICOLON ∷ k
first_kinds (first_expr e) k = expr_kinds e (Punct p.SEMICOLON ∷ k)
first_kinds (first_decl x) k = decl_kinds x k

abbrev pub labels_kinds : Labels → Kinds → Kinds
labels_kinds no_labels k = k
labels_kinds (case_label at e rest) k = Keyword w.CASE ∷ operand_kinds e (Punct p.COLON ∷ labels_kinds rest k)
labels_kinds (default_label at rest) k = Keyword w.DEFAULT ∷ Punct p.COLON ∷ labels_kinds rest k

-- in the head of a statement
abbrev pub head_kinds : Expr → Kinds → Kinds
head_kinds e k = Punct p.LEFT_PARENTHESIS ∷ expr_kinds e (Punct p.RIGHT_PARENTHESIS ∷ k)

abbrev mutual
  pub stmt_kinds : Stmt → Kinds → Kinds
  stmt_kinds (block at items) k = Punct p.LEFT_BRACE ∷ block_items_kinds items (Punct p.RIGHT_BRACE ∷ k)
  stmt_kinds (empty at) k = Punct p.SEMICOLON ∷ k
  stmt_kinds (evaluate at e) k = expr_kinds e (Punct p.SEMICOLON ∷ k)
  stmt_kinds (only_if at e s) k = Keyword w.IF ∷ head_kinds e (stmt_kinds s k)
  stmt_kinds (if_else at e s r) k = Keyword w.IF ∷ head_kinds e (stmt_kinds s (Keyword w.ELSE ∷ stmt_kinds r k))
  stmt_kinds (while_loop at e s) k = Keyword w.WHILE ∷ head_kinds e (stmt_kinds s k)
  stmt_kinds (do_loop at s e) k = Keyword w.DO ∷ stmt_kinds s (Keyword w.WHILE ∷ head_kinds e (Punct p.SEMICOLON ∷ k))
  stmt_kinds (for_loop at first test step s) k = Keyword w.FOR ∷ Punct p.LEFT_PARENTHESIS ∷ first_kinds first (maybe_kinds test (Punct p.SEMICOLON ∷ maybe_kinds step (Punct p.RIGHT_PARENTHESIS ∷ stmt_kinds s k)))
  stmt_kinds (switch_on at e gs) k = Keyword w.SWITCH ∷ head_kinds e (Punct p.LEFT_BRACE ∷ groups_kinds gs (Punct p.RIGHT_BRACE ∷ k))
  stmt_kinds (break_off at) k = Keyword w.BREAK ∷ Punct p.SEMICOLON ∷ k
  stmt_kinds (continue_on at) k = Keyword w.CONTINUE ∷ Punct p.SEMICOLON ∷ k
  stmt_kinds (return_from at e) k = Keyword w.RETURN ∷ maybe_kinds e (Punct p.SEMICOLON ∷ k)

  pub block_items_kinds : BlockItems → Kinds → Kinds
  block_items_kinds no_block_items k = k
  block_items_kinds (block_decl x rest) k = decl_kinds x (block_items_kinds rest k)
  block_items_kinds (block_stmt s rest) k = stmt_kinds s (block_items_kinds rest k)

  pub stmts_kinds : Stmts → Kinds → Kinds
  stmts_kinds no_stmts k = k
  stmts_kinds (more_stmts s rest) k = stmt_kinds s (stmts_kinds rest k)

  pub groups_kinds : Groups → Kinds → Kinds
  groups_kinds no_groups k = k
  groups_kinds (more_groups ls ss rest) k = labels_kinds ls (stmts_kinds ss (groups_kinds rest k))

abbrev pub next_declarators : Declarators → Kinds → Kinds
next_declarators no_declarators k = k
next_declarators (more_declarators e rest) k = Punct p.COMMA ∷ declarator_kinds e (next_declarators rest k)

abbrev pub declarators_kinds : Declarators → Kinds → Kinds
declarators_kinds no_declarators k = k
declarators_kinds (more_declarators e rest) k = declarator_kinds e (next_declarators rest k)

abbrev pub members_kinds : Members → Kinds → Kinds
members_kinds no_members k = k
members_kinds (more_members at s es rest) k = spec_kinds s (declarators_kinds es (Punct p.SEMICOLON ∷ members_kinds rest k))

-- the value of an enumerator, where one stands
abbrev pub enumerator_value_kinds : Maybe → Kinds → Kinds
enumerator_value_kinds absent k = k
enumerator_value_kinds (there e) k = Punct p.ASSIGN ∷ operand_kinds e k

abbrev pub next_enumerators : Enumerators → Kinds → Kinds
next_enumerators no_enumerators k = k
next_enumerators (more_enumerators x e rest) k = Punct p.COMMA ∷ Name x.name ∷ enumerator_value_kinds e (next_enumerators rest k)

abbrev pub enumerators_kinds : Enumerators → Kinds → Kinds
enumerators_kinds no_enumerators k = k
enumerators_kinds (more_enumerators x e rest) k = Name x.name ∷ enumerator_value_kinds e (next_enumerators rest k)

abbrev pub tag_kinds : Tag → Kinds → Kinds
tag_kinds no_tag k = k
tag_kinds (tag x) k = Name x.name ∷ k

abbrev pub item_kinds : Item → Kinds → Kinds
item_kinds (struct_item at x ms) k = Keyword w.STRUCT ∷ Name x.name ∷ Punct p.LEFT_BRACE ∷ members_kinds ms (Punct p.RIGHT_BRACE ∷ Punct p.SEMICOLON ∷ k)
item_kinds (enum_item at g es) k = Keyword w.ENUM ∷ tag_kinds g (Punct p.LEFT_BRACE ∷ enumerators_kinds es (Punct p.RIGHT_BRACE ∷ Punct p.SEMICOLON ∷ k))
item_kinds (tag_item at x) k = Keyword w.STRUCT ∷ Name x.name ∷ Punct p.SEMICOLON ∷ k
item_kinds (decl_item at x) k = decl_kinds x k
item_kinds (function_item at st s e b) k = storage_kinds st (spec_kinds s (declarator_kinds e (stmt_kinds b k)))

abbrev pub unit_kinds : Items → Kinds → Kinds
unit_kinds no_items k = k
unit_kinds (more_items a rest) k = item_kinds a (unit_kinds rest k)
