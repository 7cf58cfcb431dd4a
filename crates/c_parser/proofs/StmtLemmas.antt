-- Statements, put together of their parts.
use Rattle.std.proofs.Common.{◌≡◌, ◌<◌, ℕ, Box, Global, Result, Ok, Err, IfOk, OnOk, List, [], ◌∷◌, refl, sym, ap, ◌∙◌, subst, drop, arith}
use Rattle.c_lexer.specs.declared.token.Token.{Token}
use Rattle.c_lexer.specs.declared.punctuator.TheConstants.{LEFT_PARENTHESIS, RIGHT_PARENTHESIS, LEFT_BRACE, RIGHT_BRACE, COLON, SEMICOLON}
use Rattle.c_lexer.specs.declared.keyword.TheConstants.{BREAK, CASE, CONTINUE, DEFAULT, DO, ELSE, FOR, IF, RETURN, SWITCH, WHILE}
use Rattle.c_syntax.specs.declared.tree.Decl.{Decl as DeclTree}
use Rattle.c_syntax.specs.declared.tree.Expr.{Expr as Tree}
use Rattle.c_syntax.specs.declared.tree.Label.{Label}
use Rattle.c_syntax.specs.declared.tree.LabelKind.TheVariants.{Case, Default}
use Rattle.c_syntax.specs.declared.tree.Stmt.{Stmt as StmtTree}
use Rattle.c_syntax.specs.declared.tree.Group.{Group}
use Rattle.c_syntax.specs.declared.tree.BlockItem.{BlockItem}
use Rattle.c_syntax.specs.declared.tree.BlockItem.TheVariants.{Declaration, Statement}
use Rattle.c_syntax.specs.Statements.{ReadsMaybe, no_expression_stands, an_expression_stands, ReadsStmt}
use Rattle.c_syntax.specs.Tree.{Expr, Maybe, absent, there, First, first_absent, first_expr, first_decl, Decl, Groups, more_groups}
use Rattle.c_syntax.specs.Tree.{Stmt, block, empty, evaluate, only_if, if_else, while_loop, do_loop, for_loop, switch_on, break_off, continue_on, return_from}
use Rattle.c_syntax.specs.Tokens.{Is, IsKeyword, place}
use Rattle.c_syntax.specs.Grammar.{conditional_level, expression_level}
use Rattle.c_syntax.specs.Statements.{first_nothing, first_expression, first_declaration, last_case, last_default, next_case, next_default}
use Rattle.c_syntax.specs.Statements.{a_block, an_empty, an_evaluation, an_if, an_if_else, a_while, a_do, a_for, a_switch, a_break, a_continue, a_return}
use Rattle.c_syntax.specs.Statements.{no_block_item, no_group, a_block_decl, a_block_stmt, last_stmt, next_stmt, a_group}
use Rattle.c_syntax.specs.View.{expr_behind, expr_of}
use Rattle.c_parser.specs.declared.nodes.ForHead.{ForHead}
use Rattle.c_syntax.specs.UnitView.{decl_of, first_of_head, stmt_of, group_before, labels_of}
use Rattle.c_syntax.specs.WritesUnit.{block_items_of, stmts_of, groups_of}
use Rattle.c_parser_phrases.specs.declared.room.Room.{Room}
use Rattle.c_parser_phrases.specs.Phrases.{HasRead}
use Rattle.c_parser_phrases.specs.Standing.{IsAt, IsAtKeyword}
use Rattle.c_parser.specs.Lists.{Goes, Rest, ends, goes_on}
use Rattle.c_parser.specs.Parsed.{HasCondition, HasMaybe, HasPlainDecl, HasFirst, HasHead, AreLabels, HasStmt, HasNode, HasBlock, HasBlockItem, AddsBlockItem, AreBlockItems, AreStmts, AreGroups, HasGroups}
use Rattle.c_parser.proofs.ListLemmas.{goes_until}
use Rattle.c_parser.proofs.Ended.{reads_to, after_token, ends_at}
use Rattle.c_parser_phrases.specs.declared.error.PhraseError.{PhraseError}
use Rattle.c_parser.specs.Making.{Makes, Adds}
use Rattle.c_parser.proofs.RoomLemmas.{IsInside, out_of, stmt_from_word}

pub condition_of : {room : Room} {e : Expr} {t u : Token} {i j k m : List Token} → i ≡ t ∷ j → Is LEFT_PARENTHESIS t → HasRead room expression_level e j k → k ≡ u ∷ m → Is RIGHT_PARENTHESIS u → HasCondition room e i m
condition_of q o r p c = record { left = _; right = _; inside = _; stood = q; opens = o; reads = reads_to p r.reads; closes = c; nested = r.nested }

-- the same behind a box
pub boxed_condition : {room : Room} {b e : Tree} {i j : List Token} → b ≡ e → HasCondition room (expr_of e) i j → HasCondition room (expr_of b) i j
boxed_condition {room} {i = i} {j = j} q w = subst (λ z. HasCondition room (expr_of z) i j) (sym q) w

-- an expression that may be left out, and what follows it
pub maybe_none : {room : Room} {end : ℕ} {t : Token} {i j : List Token} → i ≡ t ∷ j → Is end t → HasMaybe room end absent i j
maybe_none {room} {i = i} q c = record { right = _; reads = subst (λ z. ReadsMaybe room.pairs absent i z) q no_expression_stands; closes = c; nested = omega arith }

pub maybe_some : {room : Room} {end : ℕ} {e : Expr} {t : Token} {i j k : List Token} → HasRead room expression_level e i j → j ≡ t ∷ k → Is end t → HasMaybe room end (there e) i k
maybe_some r q c = record { right = _; reads = an_expression_stands (reads_to q r.reads); closes = c; nested = r.nested }

pub boxed_maybe : {room : Room} {end : ℕ} {b e : Tree} {i j : List Token} → b ≡ e → HasMaybe room end (there (expr_of e)) i j → HasMaybe room end (there (expr_of b)) i j
boxed_maybe {room} {end = end} {i = i} {j = j} q w = subst (λ z. HasMaybe room end (there (expr_of z)) i j) (sym q) w

-- simple statements

pub is_empty : {room : Room} {at : ℕ} {t : Token} {i j : List Token} → 0 < room.nodes → at ≡ place i → i ≡ t ∷ j → Is SEMICOLON t → HasStmt room (empty at) i j
is_empty n p q h = record { reads = rw (p ∙ ap place q, q) (an_empty h); nested = omega (arith, n); closed = λ e. tt }

pub is_break : {room : Room} {at : ℕ} {t u : Token} {i j k : List Token} → 0 < room.nodes → at ≡ place i → i ≡ t ∷ j → IsKeyword BREAK t → j ≡ u ∷ k → Is SEMICOLON u → HasStmt room (break_off at) i k
is_break n p q w r h = record { reads = rw (p ∙ ap place q, q, r) (a_break w h); nested = omega (arith, n); closed = λ e. tt }

pub is_continue : {room : Room} {at : ℕ} {t u : Token} {i j k : List Token} → 0 < room.nodes → at ≡ place i → i ≡ t ∷ j → IsKeyword CONTINUE t → j ≡ u ∷ k → Is SEMICOLON u → HasStmt room (continue_on at) i k
is_continue n p q w r h = record { reads = rw (p ∙ ap place q, q, r) (a_continue w h); nested = omega (arith, n); closed = λ e. tt }

pub is_return : {room inside : Room} {at : ℕ} {e : Maybe} {t : Token} {i j k : List Token} → IsInside room inside → at ≡ place i → i ≡ t ∷ j → IsKeyword RETURN t → HasMaybe inside SEMICOLON e j k → HasStmt room (return_from at e) i k
is_return {e = e} {j = j} {k = k} h p q w f =
    let m = out_of (λ r. HasMaybe r SEMICOLON e j k) h f in
    record { reads = rw (p ∙ ap place q, q) (a_return w m.reads m.closes); nested = omega (arith, h.some, m.nested); closed = λ e. tt }

pub is_evaluation : {room inside : Room} {at : ℕ} {e : Expr} {t : Token} {i j k : List Token} → IsInside room inside → at ≡ place i → HasRead inside expression_level e i j → j ≡ t ∷ k → Is SEMICOLON t → HasStmt room (evaluate at e) i k
is_evaluation {e = e} {i = i} {j = j} h p r q c =
    let m = out_of (λ r. HasRead r expression_level e i j) h r in
    record { reads = an_evaluation p (reads_to q m.reads) c; nested = omega (arith, h.some, m.nested); closed = λ e. tt }

pub block_stmt : {room : Room} {s : Stmt} {i j : List Token} → HasBlock room s i j → HasStmt room s i j
block_stmt {s = s} b = record { reads = rw (b.is, b.stood) (a_block b.opens b.reads b.closes); nested = rw b.is (omega (arith, b.nested)); closed = λ e. rw b.is tt }

pub stmt_is : {room : Room} {a b : Stmt} {i j : List Token} → a ≡ b → HasStmt room b i j → HasStmt room a i j
stmt_is q n = record { reads = rw q n.reads; nested = rw q n.nested; closed = λ e. rw q (n.closed e) }

-- statements with others inside

pub node_is : {room : Room} {a b : Stmt} {i j : List Token} → a ≡ b → HasNode room b i j → HasNode room a i j
node_is q n = record { reads = rw q n.reads; nested = rw q n.nested; closed = λ e. rw q (n.closed e) }

pub is_if : {room : Room} {at : ℕ} {e : Expr} {s : Stmt} {t : Token} {i j k : List Token} → IsKeyword IF t → at ≡ t.from → HasCondition room e i j → HasStmt room s j k → (IsAtKeyword ELSE k → ⊥) → HasNode room (only_if at e s) (t ∷ i) k
is_if w p c s f = record { reads = rw (p, c.stood) (an_if w c.opens c.reads c.closes s.reads); nested = omega (arith, c.nested, s.nested); closed = λ h. absurd (f h) }

pub is_if_else : {room : Room} {at : ℕ} {e : Expr} {s r : Stmt} {t u : Token} {i j k m n : List Token} → IsKeyword IF t → at ≡ t.from → HasCondition room e i j → HasStmt room s j k → k ≡ u ∷ m → IsKeyword ELSE u → HasStmt room r m n → HasNode room (if_else at e s r) (t ∷ i) n
is_if_else w p c s q h r = record {
  reads = rw (p, c.stood) (an_if_else w c.opens c.reads c.closes (ends_at (ReadsStmt _ _) q s.reads) (s.closed (rw q h)) h r.reads);
  nested = omega (arith, c.nested, s.nested, r.nested);
  closed = r.closed;
}

pub is_while : {room : Room} {at : ℕ} {e : Expr} {s : Stmt} {t : Token} {i j k : List Token} → IsKeyword WHILE t → at ≡ t.from → HasCondition room e i j → HasStmt room s j k → HasNode room (while_loop at e s) (t ∷ i) k
is_while w p c s = record { reads = rw (p, c.stood) (a_while w c.opens c.reads c.closes s.reads); nested = omega (arith, c.nested, s.nested); closed = s.closed }

pub is_do : {room : Room} {at : ℕ} {e : Expr} {s : Stmt} {t u v : Token} {i j k m n : List Token} → IsKeyword DO t → at ≡ t.from → HasStmt room s i j → j ≡ u ∷ k → IsKeyword WHILE u → HasCondition room e k m → m ≡ v ∷ n → Is SEMICOLON v → HasNode room (do_loop at s e) (t ∷ i) n
is_do w p s q h c r v = record {
  reads = rw p (a_do w (ends_at (ReadsStmt _ _) (after_token q c.stood) s.reads) h c.opens (reads_to (ap (λ x. c.right ∷ x) r) c.reads) c.closes v);
  nested = omega (arith, c.nested, s.nested);
  closed = λ e. tt;
}

pub head_is : {room : Room} {b h : ForHead} {i j : List Token} → b ≡ h → HasHead room h i j → HasHead room b i j
head_is {room} {i = i} {j = j} q w = subst (λ z. HasHead room z i j) (sym q) w

pub is_for : {room : Room} {at : ℕ} (h : ForHead) {s : Stmt} {t : Token} {i n o : List Token} → IsKeyword FOR t → at ≡ t.from → HasHead room h i n → HasStmt room s n o → HasNode room (for_loop at (first_of_head h.first) (expr_behind h.test) (expr_behind h.step) s) (t ∷ i) o
is_for h w p f s = record {
  reads = rw (p, f.stood) (a_for w f.opens f.first.reads f.test.reads f.test.closes f.step.reads f.step.closes s.reads);
  nested = omega (arith, f.first.nested, f.test.nested, f.step.nested, s.nested);
  closed = s.closed;
}

pub is_switch : {room : Room} {at : ℕ} {e : Expr} {xs : List Group} {t l : Token} {i j k m : List Token} → IsKeyword SWITCH t → at ≡ t.from → HasCondition room e i j → j ≡ l ∷ k → Is LEFT_BRACE l → HasGroups room xs k m → HasNode room (switch_on at e (groups_of xs)) (t ∷ i) m
is_switch w p c q h g = record {
  reads = rw (p, c.stood) (a_switch w c.opens (reads_to (ap (λ x. c.right ∷ x) q) c.reads) c.closes h g.groups.reads g.closes);
  nested = omega (arith, c.nested, g.groups.nested);
  closed = λ e. tt;
}

-- what stands first in the head of a for

pub first_none : {room : Room} {t : Token} {i j : List Token} → i ≡ t ∷ j → Is SEMICOLON t → HasFirst room first_absent i j
first_none q h = record { reads = rw q (first_nothing h); nested = omega arith }

pub first_is : {room : Room} {e : Expr} {t : Token} {i j k : List Token} → HasRead room expression_level e i j → j ≡ t ∷ k → Is SEMICOLON t → HasFirst room (first_expr e) i k
first_is r q h = record { reads = first_expression (reads_to q r.reads) h; nested = r.nested }

pub boxed_first : {room : Room} {b e : Tree} {i j : List Token} → b ≡ e → HasFirst room (first_expr (expr_of e)) i j → HasFirst room (first_expr (expr_of b)) i j
boxed_first {room} {i = i} {j = j} q w = subst (λ z. HasFirst room (first_expr (expr_of z)) i j) (sym q) w

pub first_declares : {room : Room} {x : Decl} {i j : List Token} → HasPlainDecl room x i j → HasFirst room (first_decl x) i j
first_declares d = record { reads = first_declaration d.reads d.plain; nested = d.nested }

-- lists

pub stmt_before : {room : Room} (x : StmtTree) {i j : List Token} → HasStmt room (stmt_of x) i j → (more : List StmtTree) (k : List Token) → Rest (AreStmts room) more j k → AreStmts room (x ∷ more) i k
stmt_before x s _ _ ends = record { reads = last_stmt s.reads; nested = omega (arith, s.nested) }
stmt_before x s _ _ (goes_on r) = record { reads = next_stmt s.reads r.reads; nested = omega (arith, s.nested, r.nested) }

pub decl_before : {room : Room} (x : DeclTree) {i j : List Token} → HasPlainDecl room (decl_of x) i j → (more : List BlockItem) (k : List Token) → AreBlockItems room more j k → AreBlockItems room (Declaration x ∷ more) i k
decl_before x d more k r = record { reads = a_block_decl d.reads d.plain r.reads; nested = omega (arith, d.nested, r.nested) }

pub block_stmt_before : {room : Room} (x : StmtTree) {i j : List Token} → HasStmt room (stmt_of x) i j → (more : List BlockItem) (k : List Token) → AreBlockItems room more j k → AreBlockItems room (Statement x ∷ more) i k
block_stmt_before x s more k r = record { reads = a_block_stmt s.reads r.reads; nested = omega (arith, s.nested, r.nested) }

pub group_stands : {room : Room} (g : Group) (ls : List Label) (ss : List StmtTree) {i j k : List Token} → ((rest : Groups) → group_before g rest ≡ more_groups (labels_of ls) (stmts_of ss) rest) → AreLabels room ls i j → AreStmts room ss j k → (more : List Group) (m : List Token) → AreGroups room more k m → AreGroups room (g ∷ more) i m
group_stands g ls ss q l s more m r = record {
  reads = rw (q (groups_of more)) (a_group l.reads s.reads r.reads);
  nested = rw (q (groups_of more)) (omega (arith, l.nested, s.nested, r.nested));
}

pub default_before : {room : Room} {t u : Token} {i j k : List Token} (x : Label) → x.at ≡ place i → x.kind ≡ Default → i ≡ t ∷ j → IsKeyword DEFAULT t → j ≡ u ∷ k → Is COLON u → (more : List Label) (m : List Token) → Rest (AreLabels room) more k m → AreLabels room (x ∷ more) i m
default_before x p e q w r c _ _ ends = record { reads = rw (e, p ∙ ap place q, q, r) (last_default w c); nested = rw e (omega arith) }
default_before x p e q w r c _ _ (goes_on f) = record { reads = rw (e, p ∙ ap place q, q, r) (next_default w c f.reads); nested = rw e f.nested }

pub case_before : {room : Room} {t u : Token} {i j k m : List Token} (x : Label) (v : Tree) → x.at ≡ place i → x.kind ≡ Case v → i ≡ t ∷ j → IsKeyword CASE t → HasRead room conditional_level (expr_of v) j k → k ≡ u ∷ m → Is COLON u → (more : List Label) (n : List Token) → Rest (AreLabels room) more m n → AreLabels room (x ∷ more) i n
case_before x v p e q w g r c _ _ ends = record { reads = rw (e, p ∙ ap place q, q) (last_case w (reads_to r g.reads) c); nested = rw e (omega (arith, g.nested)) }
case_before x v p e q w g r c _ _ (goes_on f) = record { reads = rw (e, p ∙ ap place q, q) (next_case w (reads_to r g.reads) c f.reads); nested = rw e (omega (arith, g.nested, f.nested)) }

-- a block whose items were read
pub block_done : {room inside : Room} {at : ℕ} {s : Stmt} (xs : List BlockItem) {u : Token} {i k m : List Token} → IsInside room inside → at ≡ place i → IsAt LEFT_BRACE i
    → Goes (AreBlockItems inside) (AreBlockItems inside) xs (drop 1 i) k → k ≡ u ∷ m → Is RIGHT_BRACE u → s ≡ block at (block_items_of xs) → HasBlock room s i m
block_done xs {i = []} h p o g r c e = absurd o
block_done {room} {at = at} xs {u = u} {i = t ∷ j} {k = k} {m = m} h p o g r c e =
    let f = goes_until xs g (record { reads = no_block_item; nested = omega arith }) r in
    let w = out_of (λ y. AreBlockItems y xs j (u ∷ m)) h f in
    record {
      items = block_items_of xs;
      left = t;
      right = u;
      inside = j;
      is = e ∙ ap (λ x. block x (block_items_of xs)) p;
      stood = refl;
      opens = o;
      reads = w.reads;
      closes = c;
      nested = omega (arith, w.nested, h.some);
    }

pub groups_done : {room : Room} (xs : List Group) {u : Token} {i k m : List Token} → Goes (AreGroups room) (AreGroups room) xs i k → k ≡ u ∷ m → Is RIGHT_BRACE u → HasGroups room xs i m
groups_done xs g r c = record { right = _; groups = goes_until xs g (record { reads = no_group; nested = omega arith }) r; closes = c }

-- what a last call answers, where it is returned as it is

pub when_read : {T E P : Type 0} (result : Result T E) → P → OnOk result P
when_read (Ok x) p = p
when_read (Err e) p = tt

pub stmt_made : {room : Room} (result : Result (Box StmtTree Global) PhraseError) {s : Stmt} {i j : List Token} → Makes result s → HasStmt room s i j → IfOk result (λ b. HasStmt room (stmt_of b.value) i j)
stmt_made (Ok b) q h = stmt_is q h
stmt_made (Err e) q h = tt

pub node_made : {room : Room} (result : Result (Box StmtTree Global) PhraseError) {s : Stmt} {i j : List Token} → Makes result s → HasNode room s i j → IfOk result (λ b. HasNode room (stmt_of b.value) i j)
node_made (Ok b) q h = node_is q h
node_made (Err e) q h = tt

pub block_made : {room inside : Room} {at : ℕ} (result : Result (Box StmtTree Global) PhraseError) (xs : List BlockItem) {u : Token} (i : List Token) {k m : List Token} → IsInside room inside → at ≡ place i → IsAt LEFT_BRACE i
    → Goes (AreBlockItems inside) (AreBlockItems inside) xs (drop 1 i) k → k ≡ u ∷ m → Is RIGHT_BRACE u → Makes result (block at (block_items_of xs)) → IfOk result (λ b. HasBlock room (stmt_of b.value) i m)
block_made (Ok b) xs i h p o g r c q = block_done xs {i = i} h p o g r c q
block_made (Err e) xs i h p o g r c q = tt

pub word_read : {word at : ℕ} {room inside : Room} (result : Result (Box StmtTree Global) PhraseError) (i : List Token) {j : List Token} (k : List Token) → IsInside room inside → IsAtKeyword word i → j ≡ drop 1 i → at ≡ place i
    → ((t : Token) → IsKeyword word t → at ≡ t.from → IfOk result (λ b. HasNode inside (stmt_of b.value) (t ∷ j) k)) → IfOk result (λ b. HasStmt room (stmt_of b.value) i k)
word_read (Ok b) i k h w q p f = stmt_from_word {i = i} h w q p f
word_read (Err e) i k h w q p f = tt

pub item_added : {room : Room} (result : Result (Unit {0}) PhraseError) (old new : List BlockItem) {item : BlockItem} {i j : List Token} → Adds result old new item → HasBlockItem room item i j → IfOk result (λ _. AddsBlockItem room old new i j)
item_added (Ok u) old new q h = record { item = _; added = q; stands = h }
item_added (Err e) old new q h = tt

-- what begins at an equal list

pub stmt_from : {room : Room} {s : Stmt} {i j k : List Token} → i ≡ j → HasStmt room s i k → HasStmt room s j k
stmt_from {room} {s} {k = k} q r = subst (λ z. HasStmt room s z k) q r

pub first_from : {room : Room} {x : First} {i j k : List Token} → i ≡ j → HasFirst room x i k → HasFirst room x j k
first_from {room} {x} {k = k} q r = subst (λ z. HasFirst room x z k) q r

pub maybe_from : {room : Room} {end : ℕ} {e : Maybe} {i j k : List Token} → i ≡ j → HasMaybe room end e i k → HasMaybe room end e j k
maybe_from {room} {end} {e} {k = k} q r = subst (λ z. HasMaybe room end e z k) q r

pub stmt_until : {room : Room} {s : Stmt} {i j k : List Token} → j ≡ k → HasStmt room s i j → HasStmt room s i k
stmt_until {room} {s} {i} q r = subst (λ z. HasStmt room s i z) q r

pub at_else : {j k : List Token} → k ≡ j → IsAtKeyword ELSE k → IsAtKeyword ELSE j
at_else q h = subst (λ z. IsAtKeyword ELSE z) q h
