-- Initialisers, declarations, statements and units are read whatever follows them.
use Rattle.std.proofs.Common.{ℕ, List, ◌∷◌, ◌∙◌}
use Rattle.c_lexer.specs.declared.token.Token.{Token}
use Rattle.c_syntax.specs.Tree.{Maybe, Init, Inits, MaybeInit, Parts, Decl, First, Labels, Stmt, BlockItems, Stmts, Groups, Declarators, Members, Enumerators, Tag, Item}
use Rattle.c_syntax.specs.Statements.{ReadsInit, an_expression, a_list, a_list_with_comma, ReadsInits, last_init, next_init, ReadsMaybeInit, no_initialiser, an_initialiser, ReadsParts, last_part, next_part, ReadsDecl, a_declaration}
use Rattle.c_syntax.specs.Statements.{ReadsMaybe, no_expression_stands, an_expression_stands, ReadsFirst, first_nothing, first_expression, first_declaration, ReadsLabels, last_case, last_default, next_case, next_default}
use Rattle.c_syntax.specs.Statements.{ReadsStmt, a_block, an_empty, an_evaluation, an_if, an_if_else, a_while, a_do, a_for, a_switch, a_break, a_continue, a_return}
use Rattle.c_syntax.specs.Statements.{ReadsBlockItems, no_block_item, a_block_decl, a_block_stmt, ReadsStmts, last_stmt, next_stmt, ReadsGroups, no_group, a_group}
use Rattle.c_syntax.specs.Statements.{ReadsDeclarators, last_declarator, next_declarator, ReadsMembers, last_member, next_member, ReadsEnumeratorValue, no_enumerator_value, an_enumerator_value, ReadsEnumerators, last_enumerator, next_enumerator, ReadsTag, no_name, a_tag}
use Rattle.c_syntax.specs.Statements.{ReadsItem, a_struct, an_enum, an_enum_with_comma, a_tag_alone, an_item_declaration, a_definition}
use Rattle.c_syntax_printing.specs.Twins.{here, along, On, OnAt}
use Rattle.c_syntax_printing.proofs.Twins.{glue, after, after_two, after_three}
use Rattle.c_syntax_printing.proofs.FrameSpecifiers.{spec_on, storage_at}
use Rattle.c_syntax_printing.proofs.FrameGrammar.{reads_on, declares_on}

mutual
  pub init_on : {d : ℕ} {a : Init} {i j : List Token} → ReadsInit d a i j → (k : List Token) → On (ReadsInit d a) i j k
  init_on (an_expression r p) k = let x = reads_on r k in record { tokens = x.tokens; twin = x.twin; reads = an_expression x.reads p }
  init_on (a_list {t = t} {u = u} o r c) k =
      let x = inits_on r (u ∷ k) in record { tokens = t ∷ x.tokens; twin = along (after x.twin); reads = a_list o x.reads c }
  init_on (a_list_with_comma {t = t} {c = c} {u = u} o r m q) k =
      let x = inits_on r (c ∷ u ∷ k) in record { tokens = t ∷ x.tokens; twin = along (after_two x.twin); reads = a_list_with_comma o x.reads m q }

  pub inits_on : {d : ℕ} {a : Inits} {i j : List Token} → ReadsInits d a i j → (k : List Token) → On (ReadsInits d a) i j k
  inits_on (last_init r) k = let x = init_on r k in record { tokens = x.tokens; twin = x.twin; reads = last_init x.reads }
  inits_on (next_init {t = t} r h f) k =
      let y = inits_on f k in let x = init_on r (t ∷ y.tokens) in record { tokens = x.tokens; twin = glue y.twin (after x.twin); reads = next_init x.reads h y.reads }

pub maybe_init_on : {d : ℕ} {v : MaybeInit} {i j : List Token} → ReadsMaybeInit d v i j → (k : List Token) → On (ReadsMaybeInit d v) i j k
maybe_init_on no_initialiser k = record { tokens = k; twin = here; reads = no_initialiser }
maybe_init_on (an_initialiser {t = t} h r) k = let x = init_on r k in record { tokens = t ∷ x.tokens; twin = along x.twin; reads = an_initialiser h x.reads }

pub parts_on : {d : ℕ} {ps : Parts} {i j : List Token} → ReadsParts d ps i j → (k : List Token) → On (ReadsParts d ps) i j k
parts_on (last_part e h v) k =
    let y = maybe_init_on v k in let x = declares_on e y.tokens in record { tokens = x.tokens; twin = glue y.twin x.twin; reads = last_part x.reads h y.reads }
parts_on (next_part {t = t} e h v c f) k =
    let z = parts_on f k in let y = maybe_init_on v (t ∷ z.tokens) in let x = declares_on e y.tokens in
    record { tokens = x.tokens; twin = glue z.twin (glue (after y.twin) x.twin); reads = next_part x.reads h y.reads c z.reads }

pub decl_on : {d : ℕ} {x : Decl} {i j : List Token} → ReadsDecl d x i j → (k : List Token) → OnAt (ReadsDecl d x) i j k
decl_on (a_declaration {t = t} p g s r h) k =
    let y = parts_on r (t ∷ k) in let x = spec_on s y.tokens in let v = storage_at g x.tokens x.same in
    record { tokens = v.tokens; twin = glue (glue (after y.twin) x.twin) v.twin; reads = a_declaration (p ∙ v.same) v.reads x.reads y.reads h; same = v.same }

pub maybe_on : {d : ℕ} {e : Maybe} {i j : List Token} → ReadsMaybe d e i j → (k : List Token) → On (ReadsMaybe d e) i j k
maybe_on no_expression_stands k = record { tokens = k; twin = here; reads = no_expression_stands }
maybe_on (an_expression_stands r) k = let x = reads_on r k in record { tokens = x.tokens; twin = x.twin; reads = an_expression_stands x.reads }

pub first_on : {d : ℕ} {f : First} {i j : List Token} → ReadsFirst d f i j → (k : List Token) → On (ReadsFirst d f) i j k
first_on (first_nothing {t = t} h) k = record { tokens = t ∷ k; twin = along here; reads = first_nothing h }
first_on (first_expression {t = t} r h) k =
    let x = reads_on r (t ∷ k) in record { tokens = x.tokens; twin = after x.twin; reads = first_expression x.reads h }
first_on (first_declaration r h) k = let x = decl_on r k in record { tokens = x.tokens; twin = x.twin; reads = first_declaration x.reads h }

pub labels_on : {d : ℕ} {ls : Labels} {i j : List Token} → ReadsLabels d ls i j → (k : List Token) → On (ReadsLabels d ls) i j k
labels_on (last_case {t = t} {u = u} h r c) k =
    let x = reads_on r (u ∷ k) in record { tokens = t ∷ x.tokens; twin = along (after x.twin); reads = last_case h x.reads c }
labels_on (last_default {t = t} {u = u} h c) k = record { tokens = t ∷ u ∷ k; twin = along (along here); reads = last_default h c }
labels_on (next_case {t = t} {u = u} h r c f) k =
    let y = labels_on f k in let x = reads_on r (u ∷ y.tokens) in
    record { tokens = t ∷ x.tokens; twin = along (glue y.twin (after x.twin)); reads = next_case h x.reads c y.reads }
labels_on (next_default {t = t} {u = u} h c f) k =
    let y = labels_on f k in record { tokens = t ∷ u ∷ y.tokens; twin = along (along y.twin); reads = next_default h c y.reads }

mutual
  pub stmt_on : {d : ℕ} {s : Stmt} {i j : List Token} → ReadsStmt d s i j → (k : List Token) → On (ReadsStmt d s) i j k
  stmt_on (a_block {t = t} {u = u} o r c) k =
      let x = block_items_on r (u ∷ k) in record { tokens = t ∷ x.tokens; twin = along (after x.twin); reads = a_block o x.reads c }
  stmt_on (an_empty {t = t} h) k = record { tokens = t ∷ k; twin = along here; reads = an_empty h }
  stmt_on (an_evaluation {t = t} p r h) k =
      let x = reads_on r (t ∷ k) in record { tokens = x.tokens; twin = after x.twin; reads = an_evaluation (p ∙ x.same) x.reads h }
  stmt_on (an_if {t = t} {o = o} {c = c} h g r q f) k =
      let y = stmt_on f k in let x = reads_on r (c ∷ y.tokens) in
      record { tokens = t ∷ o ∷ x.tokens; twin = along (along (glue y.twin (after x.twin))); reads = an_if h g x.reads q y.reads }
  stmt_on (an_if_else {t = t} {o = o} {c = c} {u = u} h g r q f w e b) k =
      let z = stmt_on b k in let y = stmt_on f (u ∷ z.tokens) in let x = reads_on r (c ∷ y.tokens) in
      record { tokens = t ∷ o ∷ x.tokens; twin = along (along (glue (glue z.twin (after y.twin)) (after x.twin))); reads = an_if_else h g x.reads q y.reads w e z.reads }
  stmt_on (a_while {t = t} {o = o} {c = c} h g r q f) k =
      let y = stmt_on f k in let x = reads_on r (c ∷ y.tokens) in
      record { tokens = t ∷ o ∷ x.tokens; twin = along (along (glue y.twin (after x.twin))); reads = a_while h g x.reads q y.reads }
  stmt_on (a_do {t = t} {w = w} {o = o} {c = c} {u = u} h f v g r q e) k =
      let y = reads_on r (c ∷ u ∷ k) in let x = stmt_on f (w ∷ o ∷ y.tokens) in
      record { tokens = t ∷ x.tokens; twin = along (glue (after_two y.twin) (after_two x.twin)); reads = a_do h x.reads v g y.reads q e }
  stmt_on (a_for {t = t} {o = o} {u = u} {c = c} h g f a m b q s) k =
      let z = stmt_on s k in let y = maybe_on b (c ∷ z.tokens) in let x = maybe_on a (u ∷ y.tokens) in let w = first_on f x.tokens in
      record { tokens = t ∷ o ∷ w.tokens; twin = along (along (glue (glue (glue z.twin (after y.twin)) (after x.twin)) w.twin)); reads = a_for h g w.reads x.reads m y.reads q z.reads }
  stmt_on (a_switch {t = t} {o = o} {c = c} {l = l} {r = r} h g e q m f b) k =
      let y = groups_on f (r ∷ k) in let x = reads_on e (c ∷ l ∷ y.tokens) in
      record { tokens = t ∷ o ∷ x.tokens; twin = along (along (glue (after y.twin) (after_two x.twin))); reads = a_switch h g x.reads q m y.reads b }
  stmt_on (a_break {t = t} {u = u} h g) k = record { tokens = t ∷ u ∷ k; twin = along (along here); reads = a_break h g }
  stmt_on (a_continue {t = t} {u = u} h g) k = record { tokens = t ∷ u ∷ k; twin = along (along here); reads = a_continue h g }
  stmt_on (a_return {t = t} {u = u} h r g) k =
      let x = maybe_on r (u ∷ k) in record { tokens = t ∷ x.tokens; twin = along (after x.twin); reads = a_return h x.reads g }

  pub block_items_on : {d : ℕ} {s : BlockItems} {i j : List Token} → ReadsBlockItems d s i j → (k : List Token) → On (ReadsBlockItems d s) i j k
  block_items_on no_block_item k = record { tokens = k; twin = here; reads = no_block_item }
  block_items_on (a_block_decl r h f) k =
      let y = block_items_on f k in let x = decl_on r y.tokens in record { tokens = x.tokens; twin = glue y.twin x.twin; reads = a_block_decl x.reads h y.reads }
  block_items_on (a_block_stmt r f) k =
      let y = block_items_on f k in let x = stmt_on r y.tokens in record { tokens = x.tokens; twin = glue y.twin x.twin; reads = a_block_stmt x.reads y.reads }

  pub stmts_on : {d : ℕ} {s : Stmts} {i j : List Token} → ReadsStmts d s i j → (k : List Token) → On (ReadsStmts d s) i j k
  stmts_on (last_stmt r) k = let x = stmt_on r k in record { tokens = x.tokens; twin = x.twin; reads = last_stmt x.reads }
  stmts_on (next_stmt r f) k =
      let y = stmts_on f k in let x = stmt_on r y.tokens in record { tokens = x.tokens; twin = glue y.twin x.twin; reads = next_stmt x.reads y.reads }

  pub groups_on : {d : ℕ} {s : Groups} {i j : List Token} → ReadsGroups d s i j → (k : List Token) → On (ReadsGroups d s) i j k
  groups_on no_group k = record { tokens = k; twin = here; reads = no_group }
  groups_on (a_group l r f) k =
      let z = groups_on f k in let y = stmts_on r z.tokens in let x = labels_on l y.tokens in
      record { tokens = x.tokens; twin = glue (glue z.twin y.twin) x.twin; reads = a_group x.reads y.reads z.reads }

pub declarators_on : {d : ℕ} {es : Declarators} {i j : List Token} → ReadsDeclarators d es i j → (k : List Token) → On (ReadsDeclarators d es) i j k
declarators_on (last_declarator e h) k = let x = declares_on e k in record { tokens = x.tokens; twin = x.twin; reads = last_declarator x.reads h }
declarators_on (next_declarator {t = t} e h c f) k =
    let y = declarators_on f k in let x = declares_on e (t ∷ y.tokens) in
    record { tokens = x.tokens; twin = glue y.twin (after x.twin); reads = next_declarator x.reads h c y.reads }

pub members_on : {d : ℕ} {ms : Members} {i j : List Token} → ReadsMembers d ms i j → (k : List Token) → On (ReadsMembers d ms) i j k
members_on (last_member {t = t} p s e h) k =
    let y = declarators_on e (t ∷ k) in let x = spec_on s y.tokens in
    record { tokens = x.tokens; twin = glue (after y.twin) x.twin; reads = last_member (p ∙ x.same) x.reads y.reads h }
members_on (next_member {t = t} p s e h f) k =
    let z = members_on f k in let y = declarators_on e (t ∷ z.tokens) in let x = spec_on s y.tokens in
    record { tokens = x.tokens; twin = glue z.twin (glue (after y.twin) x.twin); reads = next_member (p ∙ x.same) x.reads y.reads h z.reads }

pub enumerator_value_on : {d : ℕ} {e : Maybe} {i j : List Token} → ReadsEnumeratorValue d e i j → (k : List Token) → On (ReadsEnumeratorValue d e) i j k
enumerator_value_on no_enumerator_value k = record { tokens = k; twin = here; reads = no_enumerator_value }
enumerator_value_on (an_enumerator_value {t = t} h r) k = let x = reads_on r k in record { tokens = t ∷ x.tokens; twin = along x.twin; reads = an_enumerator_value h x.reads }

pub enumerators_on : {d : ℕ} {es : Enumerators} {i j : List Token} → ReadsEnumerators d es i j → (k : List Token) → On (ReadsEnumerators d es) i j k
enumerators_on (last_enumerator {t = t} n r) k =
    let x = enumerator_value_on r k in record { tokens = t ∷ x.tokens; twin = along x.twin; reads = last_enumerator n x.reads }
enumerators_on (next_enumerator {t = t} {u = u} n r c f) k =
    let y = enumerators_on f k in let x = enumerator_value_on r (u ∷ y.tokens) in
    record { tokens = t ∷ x.tokens; twin = along (glue y.twin (after x.twin)); reads = next_enumerator n x.reads c y.reads }

pub tag_on : {g : Tag} {i j : List Token} → ReadsTag g i j → (k : List Token) → On (ReadsTag g) i j k
tag_on no_name k = record { tokens = k; twin = here; reads = no_name }
tag_on (a_tag {t = t} n) k = record { tokens = t ∷ k; twin = along here; reads = a_tag n }

pub item_on : {d : ℕ} {a : Item} {i j : List Token} → ReadsItem d a i j → (k : List Token) → On (ReadsItem d a) i j k
item_on (a_struct {t = t} {n = n} {l = l} {r = r} {u = u} h m o f c e) k =
    let x = members_on f (r ∷ u ∷ k) in record { tokens = t ∷ n ∷ l ∷ x.tokens; twin = along (along (along (after_two x.twin))); reads = a_struct h m o x.reads c e }
item_on (an_enum {t = t} {l = l} {r = r} {u = u} h g o f c e) k =
    let y = enumerators_on f (r ∷ u ∷ k) in let x = tag_on g (l ∷ y.tokens) in
    record { tokens = t ∷ x.tokens; twin = along (glue (after_two y.twin) (after x.twin)); reads = an_enum h x.reads o y.reads c e }
item_on (an_enum_with_comma {t = t} {l = l} {c = m} {r = r} {u = u} h g o f q c e) k =
    let y = enumerators_on f (m ∷ r ∷ u ∷ k) in let x = tag_on g (l ∷ y.tokens) in
    record { tokens = t ∷ x.tokens; twin = along (glue (after_three y.twin) (after x.twin)); reads = an_enum_with_comma h x.reads o y.reads q c e }
item_on (a_tag_alone {t = t} {n = n} {u = u} h m e) k = record { tokens = t ∷ n ∷ u ∷ k; twin = along (along (along here)); reads = a_tag_alone h m e }
item_on (an_item_declaration p r) k = let x = decl_on r k in record { tokens = x.tokens; twin = x.twin; reads = an_item_declaration (p ∙ x.same) x.reads }
item_on (a_definition {t = t} {u = u} p g s e h o f c) k =
    let z = block_items_on f (u ∷ k) in let y = declares_on e (t ∷ z.tokens) in let x = spec_on s y.tokens in let v = storage_at g x.tokens x.same in
    record { tokens = v.tokens; twin = glue (glue (glue (after z.twin) (after y.twin)) x.twin) v.twin; reads = a_definition (p ∙ v.same) v.reads x.reads y.reads h o z.reads c }
