-- What tokens spell has the forms of the grammar: statements and units.
use Rattle.std.proofs.Common.{ℕ, List}
use Rattle.c_lexer.specs.declared.token.Token.{Token}
use Rattle.c_syntax.specs.Tree.{Maybe, Init, Inits, MaybeInit, Parts, Decl}
use Rattle.c_syntax.specs.Tree.{First, Labels, no_labels}
use Rattle.c_syntax.specs.Tree.{Stmt, BlockItems, Stmts, no_stmts, Groups}
use Rattle.c_syntax.specs.Tree.{Declarators, Members, no_members, Enumerators, Item, Items}
use Rattle.c_syntax.specs.Statements.{ReadsInit, an_expression, a_list, a_list_with_comma, ReadsInits, last_init, next_init, ReadsMaybeInit, no_initialiser, an_initialiser, ReadsParts, last_part, next_part, ReadsDecl, a_declaration}
use Rattle.c_syntax.specs.Statements.{ReadsMaybe, no_expression_stands, an_expression_stands, ReadsFirst, first_nothing, first_expression, first_declaration, ReadsLabels, last_case, last_default, next_case, next_default}
use Rattle.c_syntax.specs.Statements.{ReadsStmt, a_block, an_evaluation, an_if, an_if_else, a_while, a_do, a_for, a_switch, a_return}
use Rattle.c_syntax.specs.Statements.{ReadsBlockItems, no_block_item, a_block_decl, a_block_stmt, ReadsStmts, last_stmt, next_stmt, ReadsGroups, no_group, a_group}
use Rattle.c_syntax.specs.Statements.{ReadsDeclarators, last_declarator, next_declarator, ReadsMembers, last_member, next_member, ReadsEnumeratorValue, no_enumerator_value, an_enumerator_value, ReadsEnumerators, last_enumerator, next_enumerator}
use Rattle.c_syntax.specs.Statements.{ReadsItem, a_struct, an_enum, an_enum_with_comma, a_tag_alone, an_item_declaration, a_definition, ReadsItems, last_item, next_item}
use Rattle.c_syntax_printing.specs.Fine.{IsFineMaybe}
use Rattle.c_syntax_printing.proofs.FineLemmas.{fine, fine_declarator}
use Rattle.c_syntax_printing.specs.FineUnits.{IsFineInit, AreSomeInits, AreFineInits, IsFineMaybeInit, AreFineParts, AreSomeParts, IsFineDecl, IsFineFirst, AreFineLabels, AreSomeLabels, IsFineStmt, AreFineBlockItems, AreFineStmts, AreSomeStmts, AreFineGroups, AreFineDeclarators, AreSomeDeclarators, AreFineMembers, AreSomeMembers, AreFineEnumerators, AreSomeEnumerators, IsFineItem, AreFineItems, AreSomeItems}

-- lists that stand are lists
pub are_fine : (ls : Labels) → AreSomeLabels ls → AreFineLabels ls
are_fine no_labels f = absurd f
are_fine ls f = f

pub some_are_fine : (ss : Stmts) → AreSomeStmts ss → AreFineStmts ss
some_are_fine no_stmts f = absurd f
some_are_fine ss f = f

pub members_are_fine : (ms : Members) → AreSomeMembers ms → AreFineMembers ms
members_are_fine no_members f = absurd f
members_are_fine ms f = f

mutual
  fine_init : {d : ℕ} {a : Init} {i j : List Token} → ReadsInit d a i j → IsFineInit a
  fine_init (an_expression r p) = fine r tt
  fine_init (a_list o r c) = some_inits r
  fine_init (a_list_with_comma o r m q) = some_inits r

  some_inits : {d : ℕ} {a : Inits} {i j : List Token} → ReadsInits d a i j → AreSomeInits a
  some_inits (last_init r) = (fine_init r, tt)
  some_inits (next_init r h f) = (fine_init r, fine_inits f)

  fine_inits : {d : ℕ} {a : Inits} {i j : List Token} → ReadsInits d a i j → AreFineInits a
  fine_inits (last_init r) = (fine_init r, tt)
  fine_inits (next_init r h f) = (fine_init r, fine_inits f)

fine_maybe_init : {d : ℕ} {v : MaybeInit} {i j : List Token} → ReadsMaybeInit d v i j → IsFineMaybeInit v
fine_maybe_init no_initialiser = tt
fine_maybe_init (an_initialiser h r) = fine_init r

fine_parts : {d : ℕ} {ps : Parts} {i j : List Token} → ReadsParts d ps i j → AreFineParts ps
fine_parts (last_part e h v) = (fine_declarator e, h, fine_maybe_init v, tt)
fine_parts (next_part e h v c f) = (fine_declarator e, h, fine_maybe_init v, fine_parts f)

some_parts : {d : ℕ} {ps : Parts} {i j : List Token} → ReadsParts d ps i j → AreSomeParts ps
some_parts (last_part e h v) = (fine_declarator e, h, fine_maybe_init v, tt)
some_parts (next_part e h v c f) = (fine_declarator e, h, fine_maybe_init v, fine_parts f)

fine_decl : {d : ℕ} {x : Decl} {i j : List Token} → ReadsDecl d x i j → IsFineDecl x
fine_decl (a_declaration p g s r h) = some_parts r

fine_maybe : {d : ℕ} {e : Maybe} {i j : List Token} → ReadsMaybe d e i j → IsFineMaybe e
fine_maybe no_expression_stands = tt
fine_maybe (an_expression_stands r) = fine r tt

fine_first : {d : ℕ} {f : First} {i j : List Token} → ReadsFirst d f i j → IsFineFirst f
fine_first (first_nothing h) = tt
fine_first (first_expression r h) = fine r tt
fine_first (first_declaration r h) = (fine_decl r, h)

some_labels : {d : ℕ} {ls : Labels} {i j : List Token} → ReadsLabels d ls i j → AreSomeLabels ls
some_labels (last_case h r c) = (fine r tt, tt)
some_labels (last_default h c) = tt
some_labels (next_case {rest = rest} h r c f) = (fine r tt, are_fine rest (some_labels f))
some_labels (next_default {rest = rest} h c f) = are_fine rest (some_labels f)

mutual
  fine_stmt : {d : ℕ} {s : Stmt} {i j : List Token} → ReadsStmt d s i j → IsFineStmt s
  fine_stmt (a_block o r c) = fine_block_items r
  fine_stmt (an_evaluation p r h) = fine r tt
  fine_stmt (an_if h g r q f) = (fine r tt, fine_stmt f)
  fine_stmt (an_if_else h g r q f z e b) = (fine r tt, fine_stmt f, z, fine_stmt b)
  fine_stmt (a_while h g r q f) = (fine r tt, fine_stmt f)
  fine_stmt (a_do h f v g r q e) = (fine_stmt f, fine r tt)
  fine_stmt (a_for h g f a m b q s) = (fine_first f, fine_maybe a, fine_maybe b, fine_stmt s)
  fine_stmt (a_switch h g e q m f b) = (fine e tt, fine_groups f)
  fine_stmt (a_return h r g) = fine_maybe r
  fine_stmt a = tt

  fine_block_items : {d : ℕ} {s : BlockItems} {i j : List Token} → ReadsBlockItems d s i j → AreFineBlockItems s
  fine_block_items no_block_item = tt
  fine_block_items (a_block_decl r h f) = (fine_decl r, h, fine_block_items f)
  fine_block_items (a_block_stmt r f) = (fine_stmt r, fine_block_items f)

  some_stmts : {d : ℕ} {s : Stmts} {i j : List Token} → ReadsStmts d s i j → AreSomeStmts s
  some_stmts (last_stmt r) = (fine_stmt r, tt)
  some_stmts (next_stmt {rest = rest} r f) = (fine_stmt r, some_are_fine rest (some_stmts f))

  fine_groups : {d : ℕ} {s : Groups} {i j : List Token} → ReadsGroups d s i j → AreFineGroups s
  fine_groups no_group = tt
  fine_groups (a_group l r f) = (some_labels l, some_stmts r, fine_groups f)

fine_declarators : {d : ℕ} {es : Declarators} {i j : List Token} → ReadsDeclarators d es i j → AreFineDeclarators es
fine_declarators (last_declarator e h) = (fine_declarator e, h, tt)
fine_declarators (next_declarator e h c f) = (fine_declarator e, h, fine_declarators f)

some_declarators : {d : ℕ} {es : Declarators} {i j : List Token} → ReadsDeclarators d es i j → AreSomeDeclarators es
some_declarators (last_declarator e h) = (fine_declarator e, h, tt)
some_declarators (next_declarator e h c f) = (fine_declarator e, h, fine_declarators f)

some_members : {d : ℕ} {ms : Members} {i j : List Token} → ReadsMembers d ms i j → AreSomeMembers ms
some_members (last_member p s e h) = (some_declarators e, tt)
some_members (next_member {rest = rest} p s e h f) = (some_declarators e, members_are_fine rest (some_members f))

fine_enumerator_value : {d : ℕ} {e : Maybe} {i j : List Token} → ReadsEnumeratorValue d e i j → IsFineMaybe e
fine_enumerator_value no_enumerator_value = tt
fine_enumerator_value (an_enumerator_value h r) = fine r tt

fine_enumerators : {d : ℕ} {es : Enumerators} {i j : List Token} → ReadsEnumerators d es i j → AreFineEnumerators es
fine_enumerators (last_enumerator n r) = (fine_enumerator_value r, tt)
fine_enumerators (next_enumerator n r c f) = (fine_enumerator_value r, fine_enumerators f)

some_enumerators : {d : ℕ} {es : Enumerators} {i j : List Token} → ReadsEnumerators d es i j → AreSomeEnumerators es
some_enumerators (last_enumerator n r) = (fine_enumerator_value r, tt)
some_enumerators (next_enumerator n r c f) = (fine_enumerator_value r, fine_enumerators f)

fine_item : {d : ℕ} {a : Item} {i j : List Token} → ReadsItem d a i j → IsFineItem a
fine_item (a_struct h m o f c e) = some_members f
fine_item (an_enum h g o f c e) = some_enumerators f
fine_item (an_enum_with_comma h g o f q c e) = some_enumerators f
fine_item (a_tag_alone h m e) = tt
fine_item (an_item_declaration p r) = fine_decl r
fine_item (a_definition p g s e h o f c) = (fine_declarator e, h, fine_block_items f)

fine_items : {d : ℕ} {u : Items} {i j : List Token} → ReadsItems d u i j → AreFineItems u
fine_items (last_item r) = (fine_item r, tt)
fine_items (next_item r f) = (fine_item r, fine_items f)

pub fine_unit : {d : ℕ} {u : Items} {i j : List Token} → ReadsItems d u i j → AreSomeItems u
fine_unit (last_item r) = (fine_item r, tt)
fine_unit (next_item r f) = (fine_item r, fine_items f)
