-- The same for initialisers, declarations, statements and units.
use Rattle.std.proofs.Common.{ℕ, ◌≤◌, List}
use Rattle.c_lexer.specs.declared.token.Token.{Token}
use Rattle.c_syntax.specs.Tree.{Maybe, Init, Inits, MaybeInit, Parts, Decl, First, Labels, Stmt, BlockItems, Stmts, Groups, Declarators, Members, Enumerators, Item, Items}
use Rattle.c_syntax.specs.Statements.{ReadsInit, an_expression, a_list, a_list_with_comma, ReadsInits, last_init, next_init, ReadsMaybeInit, no_initialiser, an_initialiser, ReadsParts, last_part, next_part, ReadsDecl, a_declaration}
use Rattle.c_syntax.specs.Statements.{ReadsMaybe, no_expression_stands, an_expression_stands, ReadsFirst, first_nothing, first_expression, first_declaration, ReadsLabels, last_case, last_default, next_case, next_default}
use Rattle.c_syntax.specs.Statements.{ReadsStmt, a_block, an_empty, an_evaluation, an_if, an_if_else, a_while, a_do, a_for, a_switch, a_break, a_continue, a_return}
use Rattle.c_syntax.specs.Statements.{ReadsBlockItems, no_block_item, a_block_decl, a_block_stmt, ReadsStmts, last_stmt, next_stmt, ReadsGroups, no_group, a_group}
use Rattle.c_syntax.specs.Statements.{ReadsDeclarators, last_declarator, next_declarator, ReadsMembers, last_member, next_member, ReadsEnumeratorValue, no_enumerator_value, an_enumerator_value, ReadsEnumerators, last_enumerator, next_enumerator}
use Rattle.c_syntax.specs.Statements.{ReadsItem, a_struct, an_enum, an_enum_with_comma, a_tag_alone, an_item_declaration, a_definition, ReadsItems, last_item, next_item}
use Rattle.c_syntax_printing.proofs.MorePairs.{wide, wide_declarator}

mutual
  pub wide_init : {d x : ℕ} {a : Init} {i j : List Token} → ReadsInit d a i j → d ≤ x → ReadsInit x a i j
  wide_init (an_expression r p) w = an_expression (wide r w) p
  wide_init (a_list o r c) w = a_list o (wide_inits r w) c
  wide_init (a_list_with_comma o r m q) w = a_list_with_comma o (wide_inits r w) m q

  pub wide_inits : {d x : ℕ} {a : Inits} {i j : List Token} → ReadsInits d a i j → d ≤ x → ReadsInits x a i j
  wide_inits (last_init r) w = last_init (wide_init r w)
  wide_inits (next_init r h f) w = next_init (wide_init r w) h (wide_inits f w)

pub wide_maybe_init : {d x : ℕ} {v : MaybeInit} {i j : List Token} → ReadsMaybeInit d v i j → d ≤ x → ReadsMaybeInit x v i j
wide_maybe_init no_initialiser w = no_initialiser
wide_maybe_init (an_initialiser h r) w = an_initialiser h (wide_init r w)

wide_parts : {d x : ℕ} {ps : Parts} {i j : List Token} → ReadsParts d ps i j → d ≤ x → ReadsParts x ps i j
wide_parts (last_part e h v) w = last_part (wide_declarator e w) h (wide_maybe_init v w)
wide_parts (next_part e h v c f) w = next_part (wide_declarator e w) h (wide_maybe_init v w) c (wide_parts f w)

pub wide_decl : {d x : ℕ} {y : Decl} {i j : List Token} → ReadsDecl d y i j → d ≤ x → ReadsDecl x y i j
wide_decl (a_declaration p g s r h) w = a_declaration p g s (wide_parts r w) h

pub wide_maybe : {d x : ℕ} {e : Maybe} {i j : List Token} → ReadsMaybe d e i j → d ≤ x → ReadsMaybe x e i j
wide_maybe no_expression_stands w = no_expression_stands
wide_maybe (an_expression_stands r) w = an_expression_stands (wide r w)

pub wide_first : {d x : ℕ} {f : First} {i j : List Token} → ReadsFirst d f i j → d ≤ x → ReadsFirst x f i j
wide_first (first_nothing h) w = first_nothing h
wide_first (first_expression r h) w = first_expression (wide r w) h
wide_first (first_declaration r h) w = first_declaration (wide_decl r w) h

pub wide_labels : {d x : ℕ} {ls : Labels} {i j : List Token} → ReadsLabels d ls i j → d ≤ x → ReadsLabels x ls i j
wide_labels (last_case h r c) w = last_case h (wide r w) c
wide_labels (last_default h c) w = last_default h c
wide_labels (next_case h r c f) w = next_case h (wide r w) c (wide_labels f w)
wide_labels (next_default h c f) w = next_default h c (wide_labels f w)

mutual
  pub wide_stmt : {d x : ℕ} {s : Stmt} {i j : List Token} → ReadsStmt d s i j → d ≤ x → ReadsStmt x s i j
  wide_stmt (a_block o r c) w = a_block o (wide_block_items r w) c
  wide_stmt (an_empty h) w = an_empty h
  wide_stmt (an_evaluation p r h) w = an_evaluation p (wide r w) h
  wide_stmt (an_if h g r q f) w = an_if h g (wide r w) q (wide_stmt f w)
  wide_stmt (an_if_else h g r q f z e b) w = an_if_else h g (wide r w) q (wide_stmt f w) z e (wide_stmt b w)
  wide_stmt (a_while h g r q f) w = a_while h g (wide r w) q (wide_stmt f w)
  wide_stmt (a_do h f v g r q e) w = a_do h (wide_stmt f w) v g (wide r w) q e
  wide_stmt (a_for h g f a m b q s) w = a_for h g (wide_first f w) (wide_maybe a w) m (wide_maybe b w) q (wide_stmt s w)
  wide_stmt (a_switch h g e q m f b) w = a_switch h g (wide e w) q m (wide_groups f w) b
  wide_stmt (a_break h g) w = a_break h g
  wide_stmt (a_continue h g) w = a_continue h g
  wide_stmt (a_return h r g) w = a_return h (wide_maybe r w) g

  pub wide_block_items : {d x : ℕ} {s : BlockItems} {i j : List Token} → ReadsBlockItems d s i j → d ≤ x → ReadsBlockItems x s i j
  wide_block_items no_block_item w = no_block_item
  wide_block_items (a_block_decl r h f) w = a_block_decl (wide_decl r w) h (wide_block_items f w)
  wide_block_items (a_block_stmt r f) w = a_block_stmt (wide_stmt r w) (wide_block_items f w)

  pub wide_stmts : {d x : ℕ} {s : Stmts} {i j : List Token} → ReadsStmts d s i j → d ≤ x → ReadsStmts x s i j
  wide_stmts (last_stmt r) w = last_stmt (wide_stmt r w)
  wide_stmts (next_stmt r f) w = next_stmt (wide_stmt r w) (wide_stmts f w)

  wide_groups : {d x : ℕ} {s : Groups} {i j : List Token} → ReadsGroups d s i j → d ≤ x → ReadsGroups x s i j
  wide_groups no_group w = no_group
  wide_groups (a_group l r f) w = a_group (wide_labels l w) (wide_stmts r w) (wide_groups f w)

pub wide_declarators : {d x : ℕ} {es : Declarators} {i j : List Token} → ReadsDeclarators d es i j → d ≤ x → ReadsDeclarators x es i j
wide_declarators (last_declarator e h) w = last_declarator (wide_declarator e w) h
wide_declarators (next_declarator e h c f) w = next_declarator (wide_declarator e w) h c (wide_declarators f w)

wide_members : {d x : ℕ} {ms : Members} {i j : List Token} → ReadsMembers d ms i j → d ≤ x → ReadsMembers x ms i j
wide_members (last_member p s e h) w = last_member p s (wide_declarators e w) h
wide_members (next_member p s e h f) w = next_member p s (wide_declarators e w) h (wide_members f w)

pub wide_enumerator_value : {d x : ℕ} {e : Maybe} {i j : List Token} → ReadsEnumeratorValue d e i j → d ≤ x → ReadsEnumeratorValue x e i j
wide_enumerator_value no_enumerator_value w = no_enumerator_value
wide_enumerator_value (an_enumerator_value h r) w = an_enumerator_value h (wide r w)

wide_enumerators : {d x : ℕ} {es : Enumerators} {i j : List Token} → ReadsEnumerators d es i j → d ≤ x → ReadsEnumerators x es i j
wide_enumerators (last_enumerator n r) w = last_enumerator n (wide_enumerator_value r w)
wide_enumerators (next_enumerator n r c f) w = next_enumerator n (wide_enumerator_value r w) c (wide_enumerators f w)

pub wide_item : {d x : ℕ} {a : Item} {i j : List Token} → ReadsItem d a i j → d ≤ x → ReadsItem x a i j
wide_item (a_struct h m o f c e) w = a_struct h m o (wide_members f w) c e
wide_item (an_enum h g o f c e) w = an_enum h g o (wide_enumerators f w) c e
wide_item (an_enum_with_comma h g o f q c e) w = an_enum_with_comma h g o (wide_enumerators f w) q c e
wide_item (a_tag_alone h m e) w = a_tag_alone h m e
wide_item (an_item_declaration p r) w = an_item_declaration p (wide_decl r w)
wide_item (a_definition p g s e h o f c) w = a_definition p g s (wide_declarator e w) h o (wide_block_items f w) c

pub wide_unit : {d x : ℕ} {u : Items} {i j : List Token} → ReadsItems d u i j → d ≤ x → ReadsItems x u i j
wide_unit (last_item r) w = last_item (wide_item r w)
wide_unit (next_item r f) w = next_item (wide_item r w) (wide_unit f w)
