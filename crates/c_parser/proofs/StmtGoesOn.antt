-- Where statements go on past the limits, part by part.
use Rattle.std.proofs.Common.{◌≡◌, ℕ, suc, List, [], ◌∷◌, sym, ap, ◌∙◌, subst, drop, arith}
use Rattle.c_lexer.specs.declared.token.Token.{Token}
use Rattle.c_lexer.specs.declared.punctuator.TheConstants.{LEFT_PARENTHESIS, LEFT_BRACE, COLON, SEMICOLON}
use Rattle.c_lexer.specs.declared.keyword.TheConstants.{CASE, DEFAULT, DO, ELSE, FOR, IF, RETURN, SWITCH, WHILE}
use Rattle.c_syntax.specs.declared.tree.Label.{Label}
use Rattle.c_syntax.specs.declared.tree.Stmt.{Stmt as StmtTree}
use Rattle.c_syntax.specs.Tree.{Expr, Maybe, First, Stmt, Decl}
use Rattle.c_syntax.specs.Tokens.{Is, IsKeyword}
use Rattle.c_syntax.specs.Grammar.{conditional_level, expression_level}
use Rattle.c_parser_phrases.specs.declared.room.Room.{Room}
use Rattle.c_parser_phrases.specs.Phrases.{HasRead}
use Rattle.c_parser_phrases.specs.Standing.{IsAt, IsAtKeyword}
use Rattle.c_syntax_printing.specs.Opens.{Opens, DeepExpr, DeepStmt, DeepBlock}
use Rattle.c_syntax_printing.proofs.StmtOpens.{if_test_opens, while_test_opens, evaluation_opens, return_opens, block_opens, after_stmt_opens, after_decl_opens, if_is_deep, while_is_deep, switch_is_deep}
use Rattle.c_syntax_printing.specs.Deep.{DeepLabels, DeepStmts, DeepGroups}
use Rattle.c_parser.specs.Nesting.{OpensAfter, OpensInside, OpensInHead}
use Rattle.c_parser.specs.declared.nodes.ForHead.{ForHead}
use Rattle.c_parser.specs.declared.starts.Compound.{Compound}
use Rattle.c_parser.specs.declared.starts.Compound.TheVariants as c
use Rattle.c_parser.specs.Starting.{BeginsCompound}
use Rattle.c_parser.specs.Parsed.{HasCondition, HasMaybe, HasFirst, HasHead, HasStmt, HasPlainDecl, AreLabels, AreStmts}
use Rattle.c_parser.proofs.Ended.{reads_to, after_token, ends_at}
use Rattle.c_syntax_printing.proofs.BodyOpens.{if_body_opens, while_body_opens, else_opens, do_body_opens, do_test_opens, for_test_opens, for_step_opens, for_body_opens, switch_test_opens, switch_groups_open}
use Rattle.c_syntax_printing.proofs.BodyOpens.{case_opens, after_case_opens, after_default_opens, later_stmt_opens, group_labels_open, group_stmts_open, later_group_opens, do_is_deep, for_is_deep}
use Rattle.c_syntax.specs.Statements.{ReadsStmt}
pub use Rattle.c_parser_phrases.proofs.Opened.{moved_open as opens_at}

-- conditions

pub test_goes_on : {at p n : ℕ} {t : Token} {i j q : List Token} → i ≡ t ∷ j → Is LEFT_PARENTHESIS t → Opens (DeepExpr at p n expression_level) j q → OpensInside at p n i q
test_goes_on e h o = record { left = _; inside = _; stood = e; opens = h; deep = o }

pub if_test : {at p n : ℕ} {i q : List Token} → OpensInside at p n i q → OpensAfter IF at p n i q
if_test o t w = opens_at (ap (λ z. t ∷ z) o.stood) (if_test_opens w o.opens o.deep)

pub if_body : {room : Room} {at n : ℕ} {e : Expr} {i j q : List Token} → HasCondition room e i j → Opens (DeepStmt at room.pairs n) j q → OpensAfter IF at room.pairs n i q
if_body f o t w = opens_at (ap (λ z. t ∷ z) f.stood) (if_body_opens (omega arith) w f.opens f.reads f.closes o)

pub if_else : {room : Room} {at n : ℕ} {e : Expr} {s : Stmt} {u : Token} {i j k m q : List Token} → HasCondition room e i j → HasStmt room s j k → k ≡ u ∷ m → IsKeyword ELSE u → Opens (DeepStmt at room.pairs n) m q → OpensAfter IF at room.pairs n i q
if_else f s e v o t w = opens_at (ap (λ z. t ∷ z) f.stood) (else_opens (omega arith) w f.opens f.reads f.closes (ends_at (ReadsStmt _ _) e s.reads) (s.closed (at_word e v)) v o)
  where
    at_word : {k m : List Token} {u : Token} → k ≡ u ∷ m → IsKeyword ELSE u → IsAtKeyword ELSE k
    at_word q h = subst (λ z. IsAtKeyword ELSE z) (sym q) h

pub while_test : {at p n : ℕ} {i q : List Token} → OpensInside at p n i q → OpensAfter WHILE at p n i q
while_test o t w = opens_at (ap (λ z. t ∷ z) o.stood) (while_test_opens w o.opens o.deep)

pub while_body : {room : Room} {at n : ℕ} {e : Expr} {i j q : List Token} → HasCondition room e i j → Opens (DeepStmt at room.pairs n) j q → OpensAfter WHILE at room.pairs n i q
while_body f o t w = opens_at (ap (λ z. t ∷ z) f.stood) (while_body_opens (omega arith) w f.opens f.reads f.closes o)

pub do_body : {at p n : ℕ} {i q : List Token} → Opens (DeepStmt at p n) i q → OpensAfter DO at p n i q
do_body o t w = do_body_opens w o

pub do_test : {room : Room} {at n : ℕ} {s : Stmt} {u : Token} {i j k q : List Token} → HasStmt room s i j → j ≡ u ∷ k → IsKeyword WHILE u → OpensInside at room.pairs n k q → OpensAfter DO at room.pairs n i q
do_test s e v o t w = do_test_opens (omega arith) w (ends_at (ReadsStmt _ _) (after_token e o.stood) s.reads) v o.opens o.deep

pub switch_test : {at p n : ℕ} {i q : List Token} → OpensInside at p n i q → OpensAfter SWITCH at p n i q
switch_test o t w = opens_at (ap (λ z. t ∷ z) o.stood) (switch_test_opens w o.opens o.deep)

pub switch_groups : {room : Room} {at n : ℕ} {e : Expr} {l : Token} {i j k q : List Token} → HasCondition room e i j → j ≡ l ∷ k → Is LEFT_BRACE l → Opens (DeepGroups at room.pairs n) k q → OpensAfter SWITCH at room.pairs n i q
switch_groups f e h o t w = opens_at (ap (λ z. t ∷ z) f.stood) (switch_groups_open (omega arith) w f.opens (reads_to (ap (λ z. f.right ∷ z) e) f.reads) f.closes h o)

-- the head of a for

pub head_first : {at p n : ℕ} {o : Token} {i j q : List Token} → i ≡ o ∷ j → Is LEFT_PARENTHESIS o → OpensInHead at p n j q → OpensAfter FOR at p n i q
head_first e h f t w = opens_at (ap (λ z. t ∷ z) e) (f t _ w h)

pub head_test : {room : Room} {at n : ℕ} {v : First} {o : Token} {i j k q : List Token} → i ≡ o ∷ j → Is LEFT_PARENTHESIS o → HasFirst room v j k → Opens (DeepExpr at room.pairs n expression_level) k q → OpensAfter FOR at room.pairs n i q
head_test e h f d t w = opens_at (ap (λ z. t ∷ z) e) (for_test_opens (omega arith) w h f.reads d)

pub head_step : {room : Room} {at n : ℕ} {v : First} {x : Maybe} {o : Token} {i j k m q : List Token} → i ≡ o ∷ j → Is LEFT_PARENTHESIS o → HasFirst room v j k → HasMaybe room SEMICOLON x k m → Opens (DeepExpr at room.pairs n expression_level) m q → OpensAfter FOR at room.pairs n i q
head_step e h f x d t w = opens_at (ap (λ z. t ∷ z) e) (for_step_opens (omega arith) w h f.reads x.reads x.closes d)

pub for_body : {room : Room} {at n : ℕ} (h : ForHead) {i j q : List Token} → HasHead room h i j → Opens (DeepStmt at room.pairs n) j q → OpensAfter FOR at room.pairs n i q
for_body h v d t w = opens_at (ap (λ z. t ∷ z) v.stood) (for_body_opens (omega arith) w v.opens v.first.reads v.test.reads v.test.closes v.step.reads v.step.closes d)

-- statements by their first tokens

pub after_word : {word at p n : ℕ} {i j q : List Token} → IsAtKeyword word i → j ≡ drop 1 i → OpensAfter word at p n j q → Opens (DeepStmt at p (suc n)) i q
after_word {i = []} w e o = absurd w
after_word {i = t ∷ i} w e o = opens_at (ap (λ z. t ∷ z) (sym e)) (o t w)

pub block_goes_on : {at p n : ℕ} {i q : List Token} → IsAt LEFT_BRACE i → Opens (DeepBlock at p n) (drop 1 i) q → Opens (DeepStmt at p (suc n)) i q
block_goes_on {i = []} h o = absurd h
block_goes_on {i = t ∷ i} h o = block_opens h o

pub return_goes_on : {at p n : ℕ} {t : Token} {i j q : List Token} → i ≡ t ∷ j → IsKeyword RETURN t → Opens (DeepExpr at p n expression_level) j q → Opens (DeepStmt at p (suc n)) i q
return_goes_on e w o = opens_at e (return_opens w o)

pub evaluation_goes_on : {at p n : ℕ} {i j q : List Token} → j ≡ i → Opens (DeepExpr at p n expression_level) j q → Opens (DeepStmt at p (suc n)) i q
evaluation_goes_on e o = opens_at (sym e) (evaluation_opens o)

pub compound_goes_on : {at p : ℕ} {i : List Token} (form : Compound) → BeginsCompound form i → Opens (DeepStmt at p 1) i i
compound_goes_on {i = t ∷ i} c.If h = if_is_deep h
compound_goes_on {i = t ∷ i} c.While h = while_is_deep h
compound_goes_on {i = t ∷ i} c.Do h = do_is_deep h
compound_goes_on {i = t ∷ i} c.For h = for_is_deep h
compound_goes_on {i = t ∷ i} c.Switch h = switch_is_deep h
compound_goes_on {i = []} c.If h = absurd h
compound_goes_on form h = absurd h

-- items of blocks

pub stmt_then : {room : Room} {at n : ℕ} {s : Stmt} {i j q : List Token} → HasStmt room s i j → Opens (DeepBlock at room.pairs n) j q → Opens (DeepBlock at room.pairs n) i q
stmt_then s o = after_stmt_opens (omega arith) s.reads o

pub decl_then : {room : Room} {at n : ℕ} {x : Decl} {i j q : List Token} → HasPlainDecl room x i j → Opens (DeepBlock at room.pairs n) j q → Opens (DeepBlock at room.pairs n) i q
decl_then d o = after_decl_opens (omega arith) d.plain d.reads o

-- labels and groups

pub value_goes_on : {at p n : ℕ} {t : Token} {i j q : List Token} → i ≡ t ∷ j → IsKeyword CASE t → Opens (DeepExpr at p n conditional_level) j q → Opens (DeepLabels at p n) i q
value_goes_on e w o = opens_at e (case_opens w o)

pub case_then : {room : Room} {at n : ℕ} {x : Expr} {t u : Token} {i j k m q : List Token} → i ≡ t ∷ j → IsKeyword CASE t → HasRead room conditional_level x j k → k ≡ u ∷ m → Is COLON u → Opens (DeepLabels at room.pairs n) m q → Opens (DeepLabels at room.pairs n) i q
case_then e w x f h o = opens_at e (after_case_opens (omega arith) w (reads_to f x.reads) h o)

pub default_then : {at p n : ℕ} {t u : Token} {i j k q : List Token} → i ≡ t ∷ j → IsKeyword DEFAULT t → j ≡ u ∷ k → Is COLON u → Opens (DeepLabels at p n) k q → Opens (DeepLabels at p n) i q
default_then {t = t} e w f h o = opens_at (e ∙ ap (λ z. t ∷ z) f) (after_default_opens w h o)

pub labels_go_on : {at p n : ℕ} {i j q : List Token} → j ≡ i → Opens (DeepLabels at p n) j q → Opens (DeepGroups at p n) i q
labels_go_on e o = opens_at (sym e) (group_labels_open o)

pub body_goes_on : {room : Room} {xs : List Label} {at n : ℕ} {i j k q : List Token} → j ≡ i → AreLabels room xs j k → Opens (DeepStmts at room.pairs n) k q → Opens (DeepGroups at room.pairs n) i q
body_goes_on e l o = opens_at (sym e) (group_stmts_open (omega arith) l.reads o)

pub group_then : {room : Room} {xs : List Label} {ss : List StmtTree} {at n : ℕ} {i j k m q : List Token} → j ≡ i → AreLabels room xs j k → AreStmts room ss k m → Opens (DeepGroups at room.pairs n) m q → Opens (DeepGroups at room.pairs n) i q
group_then e l s o = opens_at (sym e) (later_group_opens (omega arith) l.reads s.reads o)

pub stmts_then : {room : Room} {s : Stmt} {at n : ℕ} {i j q : List Token} → HasStmt room s i j → Opens (DeepStmts at room.pairs n) j q → Opens (DeepStmts at room.pairs n) i q
stmts_then s o = later_stmt_opens (omega arith) s.reads o
