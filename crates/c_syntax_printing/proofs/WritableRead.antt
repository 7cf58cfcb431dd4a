-- What tokens spell is writable.
use Rattle.std.proofs.Common.{ℕ, List}
use Rattle.c_lexer.specs.declared.token.Token.{Token}
use Rattle.c_syntax.specs.Tree.{Spec, Expr, Exprs, Maybe, TypeName, Declarator, Params, Init, Inits, MaybeInit, Parts, Decl, First, Labels, Stmt, BlockItems, Stmts, Groups, Declarators, Members, Enumerators, Tag, Item, Items}
use Rattle.c_syntax.specs.Specifiers.{ReadsSpec, is_void, is_char, is_unsigned_char, is_int, is_signed, is_signed_int, is_unsigned, is_unsigned_int, is_struct, is_enum}
use Rattle.c_syntax.specs.Grammar.{Level}
use Rattle.c_syntax.specs.Grammar.{Reads, is_name, is_int, is_char, are_strings, in_parentheses, with_suffixes, no_prefix, a_prefix, a_unary, a_sizeof_type, no_cast, a_cast, no_chain, a_chain, no_choice, a_choice, no_assignment, an_assignment, no_comma, a_comma}
use Rattle.c_syntax.specs.Grammar.{ReadsList, last_expr, next_expr, Suffixes, no_suffix, an_index, an_empty_call, a_call, a_member, a_postfix, Chain, no_operator, an_operator}
use Rattle.c_syntax.specs.Grammar.{ReadsSize, no_size, a_size, ReadsType, a_type, Declares, a_pointer, a_direct, ReadsCore, a_declared, declarator_in_parentheses, no_core, Lengthens, no_more, an_array, a_function, ReadsParams, are_none, are_some, ReadsEach, last_param, next_param}
use Rattle.c_syntax.specs.Statements.{ReadsInit, an_expression, a_list, a_list_with_comma, ReadsInits, last_init, next_init, ReadsMaybeInit, no_initialiser, an_initialiser, ReadsParts, last_part, next_part, ReadsDecl, a_declaration}
use Rattle.c_syntax.specs.Statements.{ReadsMaybe, no_expression_stands, an_expression_stands, ReadsFirst, first_nothing, first_expression, first_declaration, ReadsLabels, last_case, last_default, next_case, next_default}
use Rattle.c_syntax.specs.Statements.{ReadsStmt, a_block, an_empty, an_evaluation, an_if, an_if_else, a_while, a_do, a_for, a_switch, a_break, a_continue, a_return}
use Rattle.c_syntax.specs.Statements.{ReadsBlockItems, no_block_item, a_block_decl, a_block_stmt, ReadsStmts, last_stmt, next_stmt, ReadsGroups, no_group, a_group}
use Rattle.c_syntax.specs.Statements.{ReadsDeclarators, last_declarator, next_declarator, ReadsMembers, last_member, next_member, ReadsEnumeratorValue, no_enumerator_value, an_enumerator_value, ReadsEnumerators, last_enumerator, next_enumerator, ReadsTag, no_name, a_tag}
use Rattle.c_syntax.specs.Statements.{ReadsItem, a_struct, an_enum, an_enum_with_comma, a_tag_alone, an_item_declaration, a_definition, ReadsItems, last_item, next_item}
use Rattle.c_syntax_printing.proofs.KindsPrinted.{mark_kind, name_kind}
use Rattle.c_syntax_printing.specs.Writable.{IsWritableSpec, IsWritable, AreWritable, IsWritableMaybe, IsWritableType, IsWritableDeclarator, AreWritableParams, IsWritableInit, AreWritableInits, IsWritableMaybeInit, AreWritableParts, IsWritableDecl, IsWritableFirst, AreWritableLabels, IsWritableStmt, AreWritableBlockItems, AreWritableStmts, AreWritableGroups, AreWritableDeclarators, AreWritableMembers, AreWritableEnumerators, IsWritableTag, IsWritableItem, AreWritableItems}
use Rattle.c_syntax_printing.proofs.KindsPrinted.{named_kind, int_kind, char_kind, strings_kind}

spec : {s : Spec} {i j : List Token} → ReadsSpec s i j → IsWritableSpec s
spec (is_void a g b) = tt
spec (is_char a g b) = tt
spec (is_unsigned_char a g b x c) = tt
spec (is_int a g b) = tt
spec (is_signed a g b) = tt
spec (is_signed_int a g b x c) = tt
spec (is_unsigned a g b) = tt
spec (is_unsigned_int a g b x c) = tt
spec (is_struct a g n b) = name_kind n
spec (is_enum a g n b) = name_kind n

mutual
  expr : {d : ℕ} {l : Level} {e : Expr} {i j : List Token} → Reads d l e i j → IsWritable e
  expr (is_name g) = named_kind g
  expr (is_int g) = int_kind g
  expr (is_char g) = char_kind g
  expr (are_strings q r) = strings_kind r
  expr (in_parentheses o r c) = expr r
  expr (with_suffixes q r c) = suffixes c (expr r)
  expr (no_prefix r) = expr r
  expr (a_prefix g r) = expr r
  expr (a_unary g q r) = (mark_kind g, expr r)
  expr (a_sizeof_type g q r c) = type_is r
  expr (no_cast r) = expr r
  expr (a_cast o r c f) = (type_is r, expr f)
  expr (no_chain r) = expr r
  expr (a_chain q r c) = chain c (expr r)
  expr (no_choice r) = expr r
  expr (a_choice q r o f x g) = (expr r, expr f, expr g)
  expr (no_assignment r) = expr r
  expr (an_assignment q r g x f) = (mark_kind g, expr r, expr f)
  expr (no_comma r) = expr r
  expr (a_comma q r g f) = (expr r, exprs f)

  exprs : {d : ℕ} {es : Exprs} {i j : List Token} → ReadsList d es i j → AreWritable es
  exprs (last_expr r) = (expr r, tt)
  exprs (next_expr r g f) = (expr r, exprs f)

  suffixes : {d at : ℕ} {a e : Expr} {i j : List Token} → Suffixes d at a e i j → IsWritable a → IsWritable e
  suffixes no_suffix x = x
  suffixes (an_index g r c f) x = suffixes f (x, expr r)
  suffixes (an_empty_call g c f) x = suffixes f (x, tt)
  suffixes (a_call g r c f) x = suffixes f (x, exprs r)
  suffixes (a_member g n f) x = suffixes f (x, name_kind n)
  suffixes (a_postfix g f) x = suffixes f x

  chain : {d n at : ℕ} {a e : Expr} {i j : List Token} → Chain d n at a e i j → IsWritable a → IsWritable e
  chain no_operator x = x
  chain (an_operator q g r f) x = chain f (mark_kind g, x, expr r)

  size : {d : ℕ} {e : Maybe} {i j : List Token} → ReadsSize d e i j → IsWritableMaybe e
  size no_size = tt
  size (a_size r) = expr r

  type_is : {d : ℕ} {n : TypeName} {i j : List Token} → ReadsType d n i j → IsWritableType n
  type_is (a_type q s e g) = (spec s, declarator e)

  declarator : {d : ℕ} {e : Declarator} {i j : List Token} → Declares d e i j → IsWritableDeclarator e
  declarator (a_pointer g c r) = declarator r
  declarator (a_direct q r f) = lengthens f (core r)

  core : {d : ℕ} {e : Declarator} {i j : List Token} → ReadsCore d e i j → IsWritableDeclarator e
  core (a_declared n) = name_kind n
  core (declarator_in_parentheses o r g c) = declarator r
  core no_core = tt

  lengthens : {d at : ℕ} {a e : Declarator} {i j : List Token} → Lengthens d at a e i j → IsWritableDeclarator a → IsWritableDeclarator e
  lengthens no_more x = x
  lengthens (an_array g r c f) x = lengthens f (x, size r)
  lengthens (a_function g r c f) x = lengthens f (x, params r)

  params : {d : ℕ} {ps : Params} {i j : List Token} → ReadsParams d ps i j → AreWritableParams ps
  params (are_none s) = tt
  params (are_some r g) = each r

  each : {d : ℕ} {ps : Params} {i j : List Token} → ReadsEach d ps i j → AreWritableParams ps
  each (last_param q s e) = (spec s, declarator e, tt)
  each (next_param q s e c f) = (spec s, declarator e, each f)

mutual
  init : {d : ℕ} {a : Init} {i j : List Token} → ReadsInit d a i j → IsWritableInit a
  init (an_expression r q) = expr r
  init (a_list o r c) = inits r
  init (a_list_with_comma o r m c) = inits r

  inits : {d : ℕ} {is : Inits} {i j : List Token} → ReadsInits d is i j → AreWritableInits is
  inits (last_init r) = (init r, tt)
  inits (next_init r g f) = (init r, inits f)

maybe_init : {d : ℕ} {v : MaybeInit} {i j : List Token} → ReadsMaybeInit d v i j → IsWritableMaybeInit v
maybe_init no_initialiser = tt
maybe_init (an_initialiser g r) = init r

parts : {d : ℕ} {ps : Parts} {i j : List Token} → ReadsParts d ps i j → AreWritableParts ps
parts (last_part e g v) = (declarator e, maybe_init v, tt)
parts (next_part e g v c f) = (declarator e, maybe_init v, parts f)

declaration : {d : ℕ} {x : Decl} {i j : List Token} → ReadsDecl d x i j → IsWritableDecl x
declaration (a_declaration q g s r c) = (spec s, parts r)

maybe : {d : ℕ} {e : Maybe} {i j : List Token} → ReadsMaybe d e i j → IsWritableMaybe e
maybe no_expression_stands = tt
maybe (an_expression_stands r) = expr r

first_is : {d : ℕ} {f : First} {i j : List Token} → ReadsFirst d f i j → IsWritableFirst f
first_is (first_nothing g) = tt
first_is (first_expression r g) = expr r
first_is (first_declaration r g) = declaration r

labels : {d : ℕ} {ls : Labels} {i j : List Token} → ReadsLabels d ls i j → AreWritableLabels ls
labels (last_case g r c) = (expr r, tt)
labels (last_default g c) = tt
labels (next_case g r c f) = (expr r, labels f)
labels (next_default g c f) = labels f

mutual
  stmt : {d : ℕ} {s : Stmt} {i j : List Token} → ReadsStmt d s i j → IsWritableStmt s
  stmt (a_block o r c) = block_items r
  stmt (an_empty g) = tt
  stmt (an_evaluation q r g) = expr r
  stmt (an_if g o r c f) = (expr r, stmt f)
  stmt (an_if_else g o r c f z e b) = (expr r, stmt f, stmt b)
  stmt (a_while g o r c f) = (expr r, stmt f)
  stmt (a_do g f v o r c e) = (stmt f, expr r)
  stmt (a_for g o f a m b c s) = (first_is f, maybe a, maybe b, stmt s)
  stmt (a_switch g o r c l f e) = (expr r, groups f)
  stmt (a_break g c) = tt
  stmt (a_continue g c) = tt
  stmt (a_return g r c) = maybe r

  block_items : {d : ℕ} {is : BlockItems} {i j : List Token} → ReadsBlockItems d is i j → AreWritableBlockItems is
  block_items no_block_item = tt
  block_items (a_block_decl r g f) = (declaration r, block_items f)
  block_items (a_block_stmt r f) = (stmt r, block_items f)

  stmts : {d : ℕ} {ss : Stmts} {i j : List Token} → ReadsStmts d ss i j → AreWritableStmts ss
  stmts (last_stmt r) = (stmt r, tt)
  stmts (next_stmt r f) = (stmt r, stmts f)

  groups : {d : ℕ} {gs : Groups} {i j : List Token} → ReadsGroups d gs i j → AreWritableGroups gs
  groups no_group = tt
  groups (a_group l r f) = (labels l, stmts r, groups f)

declarators : {d : ℕ} {es : Declarators} {i j : List Token} → ReadsDeclarators d es i j → AreWritableDeclarators es
declarators (last_declarator e g) = (declarator e, tt)
declarators (next_declarator e g c f) = (declarator e, declarators f)

members : {d : ℕ} {ms : Members} {i j : List Token} → ReadsMembers d ms i j → AreWritableMembers ms
members (last_member q s e g) = (spec s, declarators e, tt)
members (next_member q s e g f) = (spec s, declarators e, members f)

enumerator_value : {d : ℕ} {e : Maybe} {i j : List Token} → ReadsEnumeratorValue d e i j → IsWritableMaybe e
enumerator_value no_enumerator_value = tt
enumerator_value (an_enumerator_value g r) = expr r

enumerators : {d : ℕ} {es : Enumerators} {i j : List Token} → ReadsEnumerators d es i j → AreWritableEnumerators es
enumerators (last_enumerator n r) = (name_kind n, enumerator_value r, tt)
enumerators (next_enumerator n r c f) = (name_kind n, enumerator_value r, enumerators f)

tag_is : {x : Tag} {i j : List Token} → ReadsTag x i j → IsWritableTag x
tag_is no_name = tt
tag_is (a_tag n) = name_kind n

item : {d : ℕ} {a : Item} {i j : List Token} → ReadsItem d a i j → IsWritableItem a
item (a_struct g n o f c e) = (name_kind n, members f)
item (an_enum g t o f c e) = (tag_is t, enumerators f)
item (an_enum_with_comma g t o f m c e) = (tag_is t, enumerators f)
item (a_tag_alone g n e) = name_kind n
item (an_item_declaration q r) = declaration r
item (a_definition q g s e x o f c) = (spec s, declarator e, block_items f)

pub unit : {d : ℕ} {u : Items} {i j : List Token} → ReadsItems d u i j → AreWritableItems u
unit (last_item r) = (item r, tt)
unit (next_item r f) = (item r, unit f)
