-- Where blocks, groups of a switch and the forms of statements stop.
use Rattle.std.proofs.Common.{◌≡◌, ◌≤◌, ◌<◌, ℕ, List, [], ◌∷◌, sym, ◌∙◌, subst, drop, arith, ◌⊎◌, inl, inr}
use Rattle.std.proofs.lemmas.Bool.{cases_lt}
use Rattle.c_lexer.specs.declared.token.Token.{Token}
use Rattle.c_lexer.specs.declared.punctuator.TheConstants.{LEFT_BRACE, RIGHT_BRACE, COLON, SEMICOLON}
use Rattle.c_lexer.specs.declared.keyword.TheConstants.{BREAK, CASE, CONTINUE, DEFAULT, DO, FOR, IF, RETURN, SWITCH, WHILE}
use Rattle.c_syntax.specs.declared.tree.Label.{Label}
use Rattle.c_syntax.specs.Tree.{Expr, Decl, Stmt}
use Rattle.c_syntax.specs.Tokens.{IsKeyword}
use Rattle.c_syntax.specs.Grammar.{conditional_level, expression_level}
use Rattle.c_syntax.specs.Statements.{ReadsStmt, a_block, an_empty, an_evaluation, an_if, an_if_else, a_while, a_do, a_for, a_switch, a_break, a_continue, a_return}
use Rattle.c_syntax.specs.Limits.{height_of_stmt}
use Rattle.c_syntax_printing.proofs.Ranks.{ranked}
use Rattle.c_syntax_printing.specs.Heads.{head}
use Rattle.c_syntax_printing.proofs.Heads.{headed, worded}
use Rattle.c_syntax_printing.proofs.OneDecl.{labels_head}
use Rattle.c_parser_phrases.specs.declared.room.Room.{Room}
use Rattle.c_parser_phrases.specs.Phrases.{HasRead}
use Rattle.c_parser_phrases.specs.Standing.{IsAt, IsAtKeyword}
use Rattle.c_parser_phrases.specs.Looking.{IsAtSpecifier}
use Rattle.c_syntax_printing.specs.Fails.{Meets, at_end, at_token, Fails, Then, then, first, second, one}
use Rattle.c_syntax_printing.specs.Phrases.{Bound, any, within, Fits, inner, fits_any, AnExpr, APlainDecl, AStmt, AFirst, ABlockItem, SomeLabels, InBlock, InSwitch, IfTail, WhileTail, DoTail, ForTail, SwitchTail, EvaluationTail}
use Rattle.c_syntax_printing.specs.Groups.{InGroup, GroupRest}
use Rattle.c_syntax_printing.specs.Labels.{LabelsRest}
use Rattle.c_syntax_printing.proofs.Combine.{fails_at, fails_as, fails_first, fails_after, fails_later, fails_second, fails_under, fails_missing, missing, fails_further}
use Rattle.c_syntax_printing.proofs.Fixed.{head_alike, expr_fixes}
use Rattle.c_syntax_printing.proofs.StmtForms.{fits_part, if_form, while_form, do_form, for_form, switch_form, return_form, block_form, break_form, continue_form}
use Rattle.c_syntax_printing.proofs.BlockForms.{fails_item, fails_items}
use Rattle.c_syntax_printing.proofs.GroupForms.{switch_goes, labels_fail, group_fails, rest_fails, ended_fails}
use Rattle.c_syntax_printing.proofs.PartFails.{default_fails, case_fails, no_labels_begin, labels_end_fails, first_decl_fails, first_expr_fails, item_decl_fails, item_stmt_fails, if_needs_two, while_needs_two, do_needs_two, for_needs_two, switch_needs_two}
use Rattle.c_parser_phrases.specs.Refusing.{bound_of}
use Rattle.c_parser.specs.Refusing.{ABefore}
use Rattle.c_parser.specs.declared.starts.Compound.{Compound}
use Rattle.c_parser.specs.declared.starts.Compound.TheVariants as c
use Rattle.c_parser.specs.Starting.{BeginsCompound, BeginsNoCompound, IsAtLabel, EndsGroup}
use Rattle.c_parser.specs.Parsed.{AreLabels, HasPlainDecl, HasStmt}
use Rattle.c_parser.proofs.Firsts.{not_at, no_brace, no_label_at, spec_at, no_spec_at}
use Rattle.c_parser.proofs.StmtStops.{an_expr, a_stmt}

-- blocks

pub item_fails : (x : Bound) {i r : List Token} → (IsAt RIGHT_BRACE i → ⊥) → Fails (ABlockItem x) i r → Fails (InBlock x) i r
item_fails x f g = fails_item x (no_brace _ f) g

pub item_leads : (x : Bound) {i j r : List Token} → (IsAt RIGHT_BRACE i → ⊥) → ABlockItem any i j → Fails (InBlock x) j r → Fails (InBlock x) i r
item_leads x f a g = fails_items x any (no_brace _ f) a g

pub declaration_fails : (x : Bound) {i r : List Token} → IsAtSpecifier i → Fails (APlainDecl x) i r → Fails (ABlockItem x) i r
declaration_fails x h f = item_decl_fails (spec_at h) f

pub statement_fails : (x : Bound) {i r : List Token} → (IsAtSpecifier i → ⊥) → Fails (AStmt x) i r → Fails (ABlockItem x) i r
statement_fails x h f = item_stmt_fails (no_spec_at h) f

pub plain_item : {room : Room} {d : Decl} {i j : List Token} → HasPlainDecl room d i j → ABlockItem any i j
plain_item h = first (record { depth = _; tree = _; reads = h.reads; plain = h.plain; fits = fits_any })

pub stmt_item : {room : Room} {s : Stmt} {i j : List Token} → HasStmt room s i j → ABlockItem any i j
stmt_item h = second (a_stmt h)

pub item_from : {i j k : List Token} → j ≡ i → ABlockItem any j k → ABlockItem any i k
item_from {k = k} q a = subst (λ z. ABlockItem any z k) q a

-- the forms of statements, by their first tokens

pub block_fails : (x : Bound) {i r : List Token} → IsAt LEFT_BRACE i → Fails (InBlock (inner x)) (drop 1 i) r → Fails (AStmt x) i r
block_fails x {i = []} h f = absurd h
block_fails x {i = t ∷ i} h f = fails_under (λ k j a. block_form x h a) f

pub if_fails : (x : Bound) {i j r : List Token} → IsAtKeyword IF i → j ≡ drop 1 i → Fails (IfTail (inner x)) j r → Fails (AStmt x) i r
if_fails x {i = []} h q f = absurd h
if_fails x {i = t ∷ i} h q f = fails_under (λ k j a. if_form x h a) (fails_at (sym q) f)

pub while_fails : (x : Bound) {i j r : List Token} → IsAtKeyword WHILE i → j ≡ drop 1 i → Fails (WhileTail (inner x)) j r → Fails (AStmt x) i r
while_fails x {i = []} h q f = absurd h
while_fails x {i = t ∷ i} h q f = fails_under (λ k j a. while_form x h a) (fails_at (sym q) f)

pub do_fails : (x : Bound) {i j r : List Token} → IsAtKeyword DO i → j ≡ drop 1 i → Fails (DoTail (inner x)) j r → Fails (AStmt x) i r
do_fails x {i = []} h q f = absurd h
do_fails x {i = t ∷ i} h q f = fails_under (λ k j a. do_form x h a) (fails_at (sym q) f)

pub for_fails : (x : Bound) {i j r : List Token} → IsAtKeyword FOR i → j ≡ drop 1 i → Fails (ForTail (inner x)) j r → Fails (AStmt x) i r
for_fails x {i = []} h q f = absurd h
for_fails x {i = t ∷ i} h q f = fails_under (λ k j a. for_form x h a) (fails_at (sym q) f)

pub switch_fails : (x : Bound) {i j r : List Token} → IsAtKeyword SWITCH i → j ≡ drop 1 i → Fails (SwitchTail (inner x)) j r → Fails (AStmt x) i r
switch_fails x {i = []} h q f = absurd h
switch_fails x {i = t ∷ i} h q f = fails_under (λ k j a. switch_form x h a) (fails_at (sym q) f)

pub return_fails : (x : Bound) {t : Token} {i j r : List Token} → i ≡ t ∷ j → IsKeyword RETURN t → Fails (ABefore SEMICOLON (inner x)) j r → Fails (AStmt x) i r
return_fails x q w f = fails_at q (fails_under (λ k j a. return_form x w a) f)

pub break_fails : (x : Bound) {t : Token} {i j : List Token} → i ≡ t ∷ j → IsKeyword BREAK t → (IsAt SEMICOLON j → ⊥) → Fails (AStmt x) i j
break_fails x q w f = fails_at q (fails_under (λ k j a. break_form x w a) (missing _ (not_at f)))

pub continue_fails : (x : Bound) {t : Token} {i j : List Token} → i ≡ t ∷ j → IsKeyword CONTINUE t → (IsAt SEMICOLON j → ⊥) → Fails (AStmt x) i j
continue_fails x q w f = fails_at q (fails_under (λ k j a. continue_form x w a) (missing _ (not_at f)))

-- no token of another statement than an expression and a semicolon stands first
pub record IsNoOther (i : List Token) : Type 0 where
  pub no_block : IsAt LEFT_BRACE i → ⊥
  pub no_empty : IsAt SEMICOLON i → ⊥
  pub no_break : IsAtKeyword BREAK i → ⊥
  pub no_continue : IsAtKeyword CONTINUE i → ⊥
  pub no_return : IsAtKeyword RETURN i → ⊥
  pub no_compound : BeginsNoCompound i

-- each was looked for in turn
pub no_other : {i j k m : List Token} → (IsAt LEFT_BRACE i → ⊥) → BeginsNoCompound i → (IsAt SEMICOLON i → ⊥) → j ≡ i → (IsAtKeyword BREAK j → ⊥) → k ≡ j → (IsAtKeyword CONTINUE k → ⊥) → m ≡ k → (IsAtKeyword RETURN m → ⊥) → IsNoOther i
no_other b c e p f q g r h = record {
  no_block = b;
  no_empty = e;
  no_break = λ w. f (subst (λ z. IsAtKeyword BREAK z) (sym p) w);
  no_continue = λ w. g (subst (λ z. IsAtKeyword CONTINUE z) (sym (q ∙ p)) w);
  no_return = λ w. h (subst (λ z. IsAtKeyword RETURN z) (sym (r ∙ q ∙ p)) w);
  no_compound = c;
}

pub other_from : {i j : List Token} → j ≡ i → IsNoOther i → IsNoOther j
other_from q n = subst (λ z. IsNoOther z) (sym q) n

still_no_other : {i k : List Token} → Meets i k → IsNoOther i → IsNoOther k
still_no_other at_end h = h
still_no_other at_token h = record {
  no_block = h.no_block;
  no_empty = h.no_empty;
  no_break = h.no_break;
  no_continue = h.no_continue;
  no_return = h.no_return;
  no_compound = record { no_if = h.no_compound.no_if; no_while = h.no_compound.no_while; no_do = h.no_compound.no_do; no_for = h.no_compound.no_for; no_switch = h.no_compound.no_switch };
}

other_reads : (x : Bound) {d : ℕ} {s : Stmt} {i j : List Token} → IsNoOther i → ReadsStmt d s i j → Fits x d (height_of_stmt s) → EvaluationTail (inner x) i j
other_reads x n (an_evaluation p r e) f = then (record { depth = _; tree = _; reads = r; stops = omega (arith, ranked e); fits = fits_part x f (omega arith) }) (one e)
other_reads x n (a_block h r c) f = absurd (n.no_block h)
other_reads x n (an_empty h) f = absurd (n.no_empty h)
other_reads x n (an_if w o r c s) f = absurd (n.no_compound.no_if w)
other_reads x n (an_if_else w o r c s l e q) f = absurd (n.no_compound.no_if w)
other_reads x n (a_while w o r c s) f = absurd (n.no_compound.no_while w)
other_reads x n (a_do w s h o r c e) f = absurd (n.no_compound.no_do w)
other_reads x n (a_for w o h v e y c s) f = absurd (n.no_compound.no_for w)
other_reads x n (a_switch w o r c l q e) f = absurd (n.no_compound.no_switch w)
other_reads x n (a_break w e) f = absurd (n.no_break w)
other_reads x n (a_continue w e) f = absurd (n.no_continue w)
other_reads x n (a_return w r e) f = absurd (n.no_return w)

other_fails : (x : Bound) {i r : List Token} → IsNoOther i → Fails (EvaluationTail (inner x)) i r → Fails (AStmt x) i r
other_fails x n f = fails_as (λ k j m a. other_reads x (still_no_other m n) a.reads a.fits) f

pub evaluation_fails : (x : Bound) {i r : List Token} → IsNoOther i → Fails (AnExpr (inner x) expression_level) i r → Fails (AStmt x) i r
evaluation_fails x n f = other_fails x n (fails_first f)

pub evaluation_unclosed : (x : Bound) {room : Room} {e : Expr} {i j : List Token} → IsNoOther i → HasRead room expression_level e i j → (IsAt SEMICOLON j → ⊥) → Fails (AStmt x) i j
evaluation_unclosed x n h f = other_fails x n (fails_later (expr_fixes any (inner x) expression_level) (an_expr h) (missing _ (not_at f)))

-- what stands first in the head of a for

pub first_declaration_fails : (x : Bound) {i r : List Token} → IsAtSpecifier i → Fails (APlainDecl x) i r → Fails (AFirst x) i r
first_declaration_fails x h f = first_decl_fails (spec_at h) f

no_semicolon : {i j : List Token} → j ≡ i → (IsAt SEMICOLON i → ⊥) → IsAt SEMICOLON j → ⊥
no_semicolon q f h = f (subst (λ z. IsAt SEMICOLON z) q h)

pub first_expression_fails : (x : Bound) {i j r : List Token} → j ≡ i → (IsAt SEMICOLON i → ⊥) → (IsAtSpecifier j → ⊥) → Fails (AnExpr x expression_level) j r → Fails (AFirst x) j r
first_expression_fails x q f g w = first_expr_fails (not_at (no_semicolon q f)) (no_spec_at g) (fails_first w)

pub first_unclosed : (x : Bound) {room : Room} {e : Expr} {i j k : List Token} → j ≡ i → (IsAt SEMICOLON i → ⊥) → (IsAtSpecifier j → ⊥) → HasRead room expression_level e j k → (IsAt SEMICOLON k → ⊥) → Fails (AFirst x) j k
first_unclosed x q f g h n = first_expr_fails (not_at (no_semicolon q f)) (no_spec_at g) (fails_later (expr_fixes any x expression_level) (an_expr h) (missing _ (not_at n)))

-- labels

pub default_unclosed : (x : Bound) {t : Token} {i j : List Token} → i ≡ t ∷ j → IsKeyword DEFAULT t → (IsAt COLON j → ⊥) → Fails (SomeLabels x) i j
default_unclosed x q w f = fails_at q (default_fails w (fails_missing _ (not_at f)))

pub default_leads : (x : Bound) {t u : Token} {i j k r : List Token} → i ≡ t ∷ j → IsKeyword DEFAULT t → j ≡ u ∷ k → Fails (LabelsRest x) k r → Fails (SomeLabels x) i r
default_leads x q w p f = fails_at q (default_fails w (fails_at p (fails_after f)))

pub value_fails : (x : Bound) {t : Token} {i j r : List Token} → i ≡ t ∷ j → IsKeyword CASE t → Fails (AnExpr x conditional_level) j r → Fails (SomeLabels x) i r
value_fails x q w f = fails_at q (case_fails w (fails_first f))

pub case_unclosed : (x : Bound) {room : Room} {e : Expr} {t : Token} {i j k : List Token} → i ≡ t ∷ j → IsKeyword CASE t → HasRead room conditional_level e j k → (IsAt COLON k → ⊥) → Fails (SomeLabels x) i k
case_unclosed x q w h f = fails_at q (case_fails w (fails_later (expr_fixes any x conditional_level) (an_expr h) (fails_missing _ (not_at f))))

pub case_leads : (x : Bound) {room : Room} {e : Expr} {t u : Token} {i j k m r : List Token} → i ≡ t ∷ j → IsKeyword CASE t → HasRead room conditional_level e j k → k ≡ u ∷ m → Fails (LabelsRest x) m r → Fails (SomeLabels x) i r
case_leads x q w h p f = fails_at q (case_fails w (fails_later (expr_fixes any x conditional_level) (an_expr h) (fails_at p (fails_after f))))

pub no_label : (x : Bound) (i : List Token) → (IsAtKeyword CASE i → ⊥) → (IsAtKeyword DEFAULT i → ⊥) → Fails (SomeLabels x) i i
no_label x i f g = no_labels_begin i (no_label_at _ f g)

pub no_label_from : (x : Bound) {i j : List Token} → j ≡ i → (IsAtKeyword CASE j → ⊥) → (IsAtKeyword DEFAULT i → ⊥) → Fails (SomeLabels x) i i
no_label_from x {i} q f g = no_label x i (λ h. f (subst (λ z. IsAtKeyword CASE z) (sym q) h)) g

-- a further label stands
pub case_next : (i : List Token) → IsAtKeyword CASE i → head i ≤ 12
case_next [] w = absurd w
case_next (t ∷ i) w = omega (arith, worded w)

pub default_next : (i : List Token) → IsAtKeyword DEFAULT i → head i ≤ 12
default_next [] w = absurd w
default_next (t ∷ i) w = omega (arith, worded w)

pub brace_next : (i : List Token) → IsAt RIGHT_BRACE i → head i ≤ 12
brace_next [] w = absurd w
brace_next (t ∷ i) w = omega (arith, headed w)

pub label_next : (i : List Token) → IsAtLabel i → head i ≤ 12
label_next i (inl w) = case_next i w
label_next i (inr w) = default_next i w

pub group_ends : (i : List Token) → EndsGroup i → head i ≤ 12
group_ends i (inl b) = brace_next i b
group_ends i (inr w) = label_next i w

-- groups

pub group_labels_fail : (x : Bound) {i r : List Token} → (IsAt RIGHT_BRACE i → ⊥) → Fails (SomeLabels x) i r → Fails (InSwitch x) i r
group_labels_fail x f g = labels_fail x (no_brace _ f) g

some_labels : {room : Room} {xs : List Label} {i j : List Token} → AreLabels room xs i j → 20 ≤ head j → SomeLabels any i j
some_labels r l = record { depth = _; tree = _; reads = r.reads; ends = l; fits = fits_any }

pub labels_from : {room : Room} {xs : List Label} {i j k : List Token} → j ≡ i → AreLabels room xs j k → AreLabels room xs i k
labels_from {room} {xs} {k = k} q r = subst (λ z. AreLabels room xs z k) q r

-- labels stand, no further one follows them, and the group fails
pub group_body_fails : (x : Bound) {room : Room} {xs : List Label} {i j r : List Token} → (IsAt RIGHT_BRACE i → ⊥) → AreLabels room xs i j → (IsAtLabel j → ⊥) → (Fails (LabelsRest x) j j → Fails (SomeLabels x) i j) → Fails (InGroup x) j r → Fails (InSwitch x) i r
group_body_fails x {i = i} {j = j} {r = r} f ls g carry w = by_head (cases_lt (head j) 20)
  where
    by_head : (head j < 20) ⊎ (20 ≤ head j) → Fails (InSwitch x) i r
    by_head (inl l) = fails_further w.front w.is (labels_fail x (no_brace _ f) (carry (labels_end_fails j (no_label_at _ (λ w. g (inl w)) (λ w. g (inr w))) (λ u. omega (arith, l, u)))))
    by_head (inr l) = group_fails x any (no_brace _ f) (some_labels ls l) w

-- a group stands, and what follows it fails
pub group_leads : (x : Bound) {room : Room} {xs : List Label} {i j k r : List Token} → (IsAt RIGHT_BRACE i → ⊥) → AreLabels room xs i j → 20 ≤ head j → (Fails (GroupRest x) k r → Fails (InGroup x) j r) → head k ≤ 12 → Fails (InSwitch x) k r → Fails (InSwitch x) i r
group_leads x f ls l carry q g = group_fails x any (no_brace _ f) (some_labels ls l) (carry (ended_fails x q g))

-- the first statement of a group

pub first_statement_leads : (x : Bound) {room : Room} {s : Stmt} {i j r : List Token} → HasStmt room s i j → Fails (GroupRest x) j r → Fails (InGroup x) i r
first_statement_leads x s f = rest_fails x any (a_stmt s) f

-- where the group doesn't end, another statement is to stand
pub group_goes : (x : Bound) {i r : List Token} → (EndsGroup i → ⊥) → Fails (InGroup x) i r → Fails (GroupRest x) i r
group_goes x {i = i} f w = fails_second (λ k j m a. none m (switch_goes x (λ q. no_brace _ (λ b. f (inl b)) (head_alike m ∙ q)) a)) w
  where
    none : {k j : List Token} → Meets i k → Then (SomeLabels x) (InGroup x) k j → ⊥
    none m (then l b) = let v = labels_head l.reads in no_label_at _ (λ w. f (inr (inl w))) (λ w. f (inr (inr w))) (omega (arith, head_alike m, v.0)) (omega (arith, head_alike m, v.1))

-- a statement that holds others or a condition, where there is room for one node alone
pub compound_is_deep : {p : ℕ} {i : List Token} (form : Compound) → BeginsCompound form i → Fails (AStmt (within p 1)) i i
compound_is_deep {i = t ∷ i} c.If h = if_needs_two h
compound_is_deep {i = t ∷ i} c.While h = while_needs_two h
compound_is_deep {i = t ∷ i} c.Do h = do_needs_two h
compound_is_deep {i = t ∷ i} c.For h = for_needs_two h
compound_is_deep {i = t ∷ i} c.Switch h = switch_needs_two h
compound_is_deep {i = []} c.If h = absurd h
compound_is_deep form h = absurd h

pub deep_compound : {room : Room} {i : List Token} (form : Compound) → room.nodes ≡ 1 → BeginsCompound form i → Fails (AStmt (bound_of room)) i i
deep_compound {room} {i} form q h = subst (λ n. Fails (AStmt (within room.pairs n)) i i) (sym q) (compound_is_deep form h)
