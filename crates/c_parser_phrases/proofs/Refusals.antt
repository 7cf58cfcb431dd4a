-- Where expressions are refused: what fails at a part, with what was read before it, is the failure of the whole.
use Rattle.std.proofs.Common.{◌≡◌, ◌≤◌, ◌<◌, ◌+◌, ◌-◌, ℕ, List, [], ◌∷◌, ◌++◌, drop, length, append_assoc, refl, sym, ap, ◌∙◌, subst, arith, ◌⊎◌, inl, inr}
use Rattle.std.specs.Prelude.{Some, None}
use Rattle.c_lexer.specs.declared.token.Token.{Token}
use Rattle.c_lexer.specs.declared.keyword.TheConstants.{SIZEOF}
use Rattle.c_lexer.specs.declared.punctuator.TheConstants.{LEFT_BRACKET, RIGHT_BRACKET, LEFT_PARENTHESIS, RIGHT_PARENTHESIS, QUESTION, COLON, COMMA}
use Rattle.c_syntax.specs.Tree.{Access, pre_increment, pre_decrement, sizeof, Expr, Exprs, TypeName}
use Rattle.c_syntax.specs.Tokens.{Is, IsKeyword, IsAccess, place}
use Rattle.c_syntax.specs.Grammar.{Level, primary_level, postfix_level, unary_level, cast_level, binary_level, conditional_level, assignment_level, expression_level, Reads, with_suffixes, ReadsList, ReadsType, Suffixes, no_suffix}
use Rattle.c_syntax.specs.Limits.{height}
use Rattle.c_syntax_printing.specs.Ranks.{rank, rank_of_kind, Stops}
use Rattle.c_syntax_printing.proofs.Precedence.{infix_rank, assignment_rank}
use Rattle.c_syntax_printing.proofs.Ranks.{ranked, heads, not_word}
use Rattle.c_syntax_printing.specs.Starts.{start, EndsDeclarator}
use Rattle.c_syntax_printing.proofs.Ends.{started, started_prefix, started_unary, started_word}
use Rattle.c_syntax_printing.proofs.Begins.{expression_begins}
use Rattle.c_syntax_printing.proofs.FrontLemmas.{front_of_each}
use Rattle.c_syntax_printing.proofs.FrameGrammar.{reads_on, list_on}
use Rattle.c_syntax_printing.proofs.One.{only_list}
use Rattle.c_syntax_printing.specs.Fails.{Fails, One}
use Rattle.c_syntax_printing.specs.Phrases.{Bound, any, within, inner, fits_any, AnExpr}
use Rattle.c_syntax_printing.specs.Operands.{enclosed, AType, IsSomeName, SomeExprs, SomeSuffixes, SomeArguments, ExprsRest, NotCast, Past, Postfixed}
use Rattle.c_syntax_printing.proofs.Combine.{Fixes, fails_at, fails_here, fails_first, fails_later, fails_after, fails_missing, fails_on, fails_under, missing}
use Rattle.c_syntax_printing.proofs.Fixed.{start_alike, stops_alike, expr_fixes}
use Rattle.c_syntax_printing.proofs.OperandFails.{postfix_fails, cast_fails}
use Rattle.c_syntax_printing.proofs.PrefixFails.{no_node_left, no_operand, string_follows, no_pair_left, unary_bare, step_fails, unary_fails, sizeof_fails, type_fixes, sizeof_operand, sizeof_type_fails, suffix_after_type, cast_bare}
use Rattle.c_syntax_printing.proofs.LevelFails.{first_operand, operator_fails, operator_too_high, choice_fails, choice_too_high, assigned_value_fails, assigned_too_high, assigned_after_operators, assigned_cast, comma_fails, comma_too_high, exprs_first, exprs_fail, next_fails, next_leads}
use Rattle.c_syntax_printing.proofs.SuffixFails.{postfixed_fails, postfixed_too_high, string_after_suffixes, arguments_fail}
use Rattle.c_syntax_printing.proofs.ExprForms.{paren_form, index_form, member_form}
use Rattle.c_parser_phrases.specs.declared.room.Room.{Room}
use Rattle.c_parser_phrases.specs.declared.error.PhraseError.{PhraseError}
use Rattle.c_parser_phrases.specs.declared.looking.Operator.{Operator}
use Rattle.c_parser_phrases.specs.declared.looking.Suffix.{Suffix}
use Rattle.c_parser_phrases.specs.declared.looking.Suffix.TheVariants as sv
use Rattle.c_parser_phrases.specs.declared.looking.Step.{Step}
use Rattle.c_parser_phrases.specs.declared.looking.Step.TheVariants as pv
use Rattle.c_parser_phrases.specs.declared.looking.Prefix.{Prefix as Before}
use Rattle.c_parser_phrases.specs.declared.looking.Prefix.TheVariants as qv
use Rattle.c_parser_phrases.specs.Looking.{infix_of, step_of, IsAtCast, IsSuffix, StandsOperator, StandsSuffix, StandsAssignment, StandsStep, StandsUnary, StandsPrefix}
use Rattle.c_parser_phrases.specs.Standing.{IsAt, IsAtKeyword}
use Rattle.c_parser_phrases.specs.Reading.{Refused, Lacks, LacksExpr, IsNoLeaf}
use Rattle.c_parser_phrases.proofs.Made.{Stands, Chained}
use Rattle.c_parser_phrases.proofs.Growing.{lifted}
use Rattle.c_parser_phrases.proofs.Exits.{taken, taken_at, cast_taken, parentheses_read}
use Rattle.c_parser_phrases.proofs.Raising.{not_at, ends_at}
use Rattle.c_parser_phrases.proofs.Starts.{opening_there}

-- what was read, whatever its depth
pub an_expr : {d : ℕ} {l : Level} {e : Expr} {i j : List Token} → Stands d l e i j → AnExpr any l i j
an_expr s = record { depth = _; tree = _; reads = s.0; stops = s.1; fits = fits_any }

pub a_type_name : {d : ℕ} {n : TypeName} {i j : List Token} → ReadsType d n i j × EndsDeclarator j → AType any i j
a_type_name s = record { depth = _; tree = _; reads = s.0; ends = s.1; fits = fits_any }

pub some_exprs : {d : ℕ} {es : Exprs} {i j : List Token} → ReadsList d es i j × Stops expression_level j → SomeExprs any i j
some_exprs s = record { depth = _; trees = _; reads = s.0; stops = s.1; fits = fits_any }

-- where a parenthesis stands first, it is past it

pub past_bare : {i r : List Token} → (IsAt LEFT_PARENTHESIS i → ⊥) → Past i r
past_bare f = record { behind = λ t j q h. absurd (f (subst (λ z. IsAt LEFT_PARENTHESIS z) (sym q) h)) }

pub past_front : {i j r : List Token} (front g : List Token) → i ≡ front ++ j → length j < length i → j ≡ g ++ r → Past i r
past_front [] g q l e = absurd (omega (arith, ap length q, l))
past_front {r = r} (t ∷ front) g q l e = record { behind = λ u k p h. (front ++ g, (heads (sym p ∙ q)).1 ∙ ap (λ z. front ++ z) e ∙ sym (append_assoc front g r)) }

pub past_reads : {d : ℕ} {l : Level} {e : Expr} {i j r : List Token} (g : List Token) → Reads d l e i j → length j < length i → j ≡ g ++ r → Past i r
past_reads g r h e = let f = front_of_each (reads_on r) in past_front f.front g f.is h e

pub past_after : {t : Token} {i j r : List Token} (g : List Token) → i ≡ t ∷ j → j ≡ g ++ r → Past i r
past_after g q e = record { behind = λ u k p h. (g, (heads (sym p ∙ q)).1 ∙ e) }

-- no node is left
pub no_nodes : {pairs nodes : ℕ} (l : Level) (i : List Token) → nodes ≡ 0 → Fails (AnExpr (within pairs nodes) l) i i
no_nodes {pairs} {nodes} l i q = subst (λ n. Fails (AnExpr (within pairs n) l) i i) (sym q) (no_node_left i)

-- the height is that of the tree, as high as nodes may be
pub high : {n h : ℕ} (e : Expr) → n ≤ h → h ≡ height e → n ≤ height e
high e l q = omega (arith, l, q)

-- several expressions with commas between

pub comma_high : {pairs nodes : ℕ} {d h : ℕ} {a : Expr} {i j : List Token} → IsAt COMMA j → Stands d assignment_level a i j → nodes ≤ h → h ≡ height a → Fails (AnExpr (within pairs nodes) expression_level) i j
comma_high {j = []} c s l q = absurd c
comma_high {a = a} {j = t ∷ j} c s l q = comma_too_high c s.0 (high a l q)

pub comma_rest : {d : ℕ} {a : Expr} {i j : List Token} → IsAt COMMA j → Stands d assignment_level a i j → (b : Bound) (r : List Token) → Lacks ExprsRest (inner b) j r → Fails (AnExpr b expression_level) i r
comma_rest {j = []} c s b r f = absurd c
comma_rest {j = t ∷ j} c s b r f = comma_fails c s.0 f

-- a comma and what follows it
pub rest_fails : {t : Token} {i j : List Token} → i ≡ t ∷ j → Is COMMA t → (b : Bound) (r : List Token) → Fails (AnExpr b assignment_level) j r → Fails (ExprsRest b) i r
rest_fails q c b r f = fails_at q (next_fails c f)

pub rest_leads : {d : ℕ} {e : Expr} {t : Token} {i j k : List Token} → i ≡ t ∷ j → Is COMMA t → Stands d assignment_level e j k → (b : Bound) (r : List Token) → Fails (ExprsRest b) k r → Fails (ExprsRest b) i r
rest_leads q c s b r f = fails_at q (next_leads c (an_expr s) f)

-- assignments

assigned_at : {op : ℕ} {i : List Token} → StandsAssignment (Some op) i → rank i ≡ 13
assigned_at h = ap rank h.2 ∙ ranked h.3 ∙ assignment_rank h.4

pub assigned_after : {d m : ℕ} {a e : Expr} {i h j : List Token} → Stands d cast_level a i h → StandsAssignment None h → Stands m conditional_level e i j → rank j ≡ 13 → Fails (AnExpr any assignment_level) i j
assigned_after s f c q = assigned_after_operators (an_expr s) (λ z. let w = f (omega (arith, z)) in omega (arith, z, w)) c.0 q

pub assigned_to_cast : {d op : ℕ} {e : Expr} {i j : List Token} → IsAtCast i → Stands d cast_level e i j → StandsAssignment (Some op) j → Fails (AnExpr any assignment_level) i j
assigned_to_cast {i = []} c s h = absurd c
assigned_to_cast {i = t ∷ i} c s h = assigned_cast c.0 c.1 s.0 (assigned_at h)

pub assigned_high : {pairs nodes : ℕ} {d h op : ℕ} {a : Expr} {i j : List Token} → StandsAssignment (Some op) j → Reads d unary_level a i j → nodes ≤ h → h ≡ height a → Fails (AnExpr (within pairs nodes) assignment_level) i j
assigned_high {pairs} {nodes} {d} {a = a} {i} {j} o s l q =
    let P : List Token → Type 0 = λ z. Reads d unary_level a i z in
    ends_at o.2 (assigned_too_high o.3 o.4 (subst P o.2 s) (high a l q))

pub assigned_rest : {d op : ℕ} {a : Expr} {i j k : List Token} → StandsAssignment (Some op) j → k ≡ drop 1 j → Reads d unary_level a i j → (b : Bound) (r : List Token) → Fails (AnExpr (inner b) assignment_level) k r → Fails (AnExpr b assignment_level) i r
assigned_rest {d} {a = a} {i} {j} o e s b r f =
    let P : List Token → Type 0 = λ z. Reads d unary_level a i z in
    assigned_value_fails o.3 o.4 (subst P (taken o.2 e) s) f

-- conditional expressions

pub choice_high : {pairs nodes : ℕ} {d h : ℕ} {a : Expr} {i j : List Token} → IsAt QUESTION j → Stands d (binary_level 10) a i j → nodes ≤ h → h ≡ height a → Fails (AnExpr (within pairs nodes) conditional_level) i j
choice_high {j = []} c s l q = absurd c
choice_high {a = a} {j = t ∷ j} c s l q = choice_too_high c s.0 (high a l q)

pub yes_fails : {d : ℕ} {a : Expr} {i j k : List Token} → IsAt QUESTION j → k ≡ drop 1 j → Stands d (binary_level 10) a i j → (b : Bound) (r : List Token) → Fails (AnExpr (inner b) expression_level) k r → Fails (AnExpr b conditional_level) i r
yes_fails {i = i} {j = j} {k = k} c e s b r f =
    let t = taken_at QUESTION j k c e in
    let P : List Token → Type 0 = λ z. AnExpr any (binary_level 10) i z in choice_fails (subst P t.2 (an_expr s)) t.1 (fails_first f)

pub colon_fails : {d x : ℕ} {a y : Expr} {i j k m : List Token} → IsAt QUESTION j → k ≡ drop 1 j → Stands d (binary_level 10) a i j → Stands x expression_level y k m → (IsAt COLON m → ⊥) → (b : Bound) → Fails (AnExpr b conditional_level) i m
colon_fails {i = i} {j = j} {k = k} {m = m} c e s y n b =
    let t = taken_at QUESTION j k c e in
    let P : List Token → Type 0 = λ z. AnExpr any (binary_level 10) i z in
    choice_fails (subst P t.2 (an_expr s)) t.1 (fails_later (expr_fixes any (inner b) expression_level) (an_expr y) (fails_missing m (not_at n)))

pub no_fails : {d x : ℕ} {a y : Expr} {u : Token} {i j k m z : List Token} → IsAt QUESTION j → k ≡ drop 1 j → Stands d (binary_level 10) a i j → Stands x expression_level y k m → Is COLON u → m ≡ u ∷ z → (b : Bound) (r : List Token) → Fails (AnExpr (inner b) conditional_level) z r → Fails (AnExpr b conditional_level) i r
no_fails {i = i} {j = j} {k = k} c e s y h q b r f =
    let t = taken_at QUESTION j k c e in
    let P : List Token → Type 0 = λ z. AnExpr any (binary_level 10) i z in
    choice_fails (subst P t.2 (an_expr s)) t.1 (fails_later (expr_fixes any (inner b) expression_level) (an_expr y) (fails_at q (fails_after f)))

-- binary operators

operator_ranks : {most : ℕ} (o : Operator) {j : List Token} → StandsOperator most (Some o) j → rank j ≡ o.level + 1
operator_ranks o h = ap rank h.2 ∙ ranked h.3 ∙ infix_rank h.4

pub left_of : {d most at : ℕ} {e : Expr} {i j k : List Token} (o : Operator) → at ≡ place i → Chained d most e i j → j ≡ k → StandsOperator most (Some o) j → Reads d (binary_level o.level) e i k
left_of {d} {e = e} {i = i} o p c q h =
    let P : List Token → Type 0 = λ z. Reads d (binary_level o.level) e i z in
    subst P q (lifted o.level p (omega (arith, c.3, operator_ranks o h)) c.2)

pub operator_high : {pairs nodes : ℕ} {d h most at : ℕ} {a : Expr} {i j : List Token} (o : Operator) → at ≡ place i → Chained d most a i j → StandsOperator most (Some o) j → 0 < o.level → nodes ≤ h → h ≡ height a → Fails (AnExpr (within pairs nodes) (binary_level most)) i j
operator_high {most = most} {a = a} o p c h l n q = ends_at h.2 (operator_too_high (infix_of o.between) o.level most h.4 (omega (arith, l)) h.5 h.3 (left_of o p c h.2 h) (high a n q))

operator_rest : {d most at : ℕ} {a : Expr} {i j k : List Token} (o : Operator) → at ≡ place i → Chained d most a i j → StandsOperator most (Some o) j → 0 < o.level → k ≡ drop 1 j → (b : Bound) (r : List Token) → Fails (AnExpr (inner b) (binary_level (o.level - 1))) k r → Fails (AnExpr b (binary_level most)) i r
operator_rest {most = most} o p c h l e b r f =
    operator_fails b (infix_of o.between) o.level most h.4 (omega (arith, l)) h.5 h.3 (left_of o p c (taken h.2 e) h) (fails_first f)

-- the first operand at the right of an operator
pub right_first : {d most at : ℕ} {a : Expr} {i j k : List Token} (o : Operator) → at ≡ place i → Chained d most a i j → StandsOperator most (Some o) j → 0 < o.level → k ≡ drop 1 j → (b : Bound) (r : List Token) → Fails (AnExpr (inner b) cast_level) k r → Fails (AnExpr b (binary_level most)) i r
right_first o p c h l e b r f = operator_rest o p c h l e b r (first_operand (o.level - 1) f)

-- what stands at the right of an operator
pub right_fails : {d most at level : ℕ} {a : Expr} {i j k : List Token} (o : Operator) → at ≡ place i → Chained d most a i j → StandsOperator most (Some o) j → 0 < o.level → k ≡ drop 1 j → level ≡ o.level - 1 → (b : Bound) (r : List Token) → Fails (AnExpr (inner b) (binary_level level)) k r → Fails (AnExpr b (binary_level most)) i r
right_fails {k = k} o p c h l e q b r f = operator_rest o p c h l e b r (subst (λ z. Fails (AnExpr (inner b) (binary_level z)) k r) q f)

-- casts

not_cast : {i : List Token} → (IsAtCast i → ⊥) → NotCast i
not_cast f t j q h l = f (subst IsAtCast (sym q) (h, l))

pub bare_cast : {i : List Token} → (IsAtCast i → ⊥) → (b : Bound) (r : List Token) → LacksExpr unary_level b i r → Fails (AnExpr b cast_level) i r
bare_cast n b r f = cast_bare (not_cast n) f.past f.fails

pub cast_type_fails : {i k : List Token} → IsAtCast i → k ≡ drop 1 i → (b : Bound) (r : List Token) → Fails (AType (inner b)) k r → Fails (AnExpr b cast_level) i r
cast_type_fails {i} {k} h e b r f = let t = cast_taken i k h e in fails_at t.2 (cast_fails b t.1 t.3 (fails_first f))

pub cast_unclosed : {d : ℕ} {n : TypeName} {i k m : List Token} → IsAtCast i → k ≡ drop 1 i → ReadsType d n k m × EndsDeclarator m → (IsAt RIGHT_PARENTHESIS m → ⊥) → (b : Bound) → Fails (AnExpr b cast_level) i m
cast_unclosed {i = i} {k = k} {m = m} h e s n b =
    let t = cast_taken i k h e in fails_at t.2 (cast_fails b t.1 t.3 (fails_later (type_fixes any (inner b)) (a_type_name s) (fails_missing m (not_at n))))

pub cast_operand_fails : {d : ℕ} {n : TypeName} {u : Token} {i k m z : List Token} → IsAtCast i → k ≡ drop 1 i → ReadsType d n k m × EndsDeclarator m → Is RIGHT_PARENTHESIS u → m ≡ u ∷ z → (b : Bound) (r : List Token) → Fails (AnExpr (inner b) cast_level) z r → Fails (AnExpr b cast_level) i r
cast_operand_fails {i = i} {k = k} h e s c q b r f =
    let t = cast_taken i k h e in fails_at t.2 (cast_fails b t.1 t.3 (fails_later (type_fixes any (inner b)) (a_type_name s) (fails_at q (fails_after f))))

-- prefix operators

pub bare_unary : {i : List Token} → (1 ≤ start i → 3 ≤ start i) → (b : Bound) (r : List Token) → LacksExpr postfix_level b i r → LacksExpr unary_level b i r
bare_unary n b r f = record { fails = unary_bare n f.fails; past = f.past }

word_starts : (i : List Token) → IsAtKeyword SIZEOF i → start i ≡ 1
word_starts [] h = absurd h
word_starts (t ∷ i) h = started_word h

prefix_starts : (x : Before) (i : List Token) → StandsPrefix (Some x) i → start i ≤ 2
prefix_starts qv.Sizeof i h = omega (arith, word_starts i h)
prefix_starts (qv.Step s) i h = omega (arith, ap start h.2, started_prefix h.0 (step_of s) h.3)
prefix_starts (qv.Operator code) i h = omega (arith, ap start h.2, (started_unary h.3 h.4).1)

opening_starts : (i : List Token) → IsAt LEFT_PARENTHESIS i → start i ≡ 4
opening_starts [] h = absurd h
opening_starts (t ∷ i) h = started h

low_past : {i r : List Token} → (start i ≡ 4 → ⊥) → Past i r
low_past {i} f = past_bare (λ h. f (opening_starts i h))

pub prefix_past : (x : Before) {i r : List Token} → StandsPrefix (Some x) i → Past i r
prefix_past x {i} h = low_past (λ q. omega (arith, prefix_starts x i h, q))

pub prefix_is : {x y : Before} (i : List Token) → x ≡ y → StandsPrefix (Some x) i → StandsPrefix (Some y) i
prefix_is i q h = subst (λ z. StandsPrefix (Some z) i) q h

pub prefix_deep : {pairs nodes : ℕ} (x : Before) {i : List Token} → StandsPrefix (Some x) i → nodes ≡ 0 → LacksExpr unary_level (within pairs nodes) i i
prefix_deep x {i} h q = record { fails = no_nodes unary_level i q; past = prefix_past x h }

step_no_sizeof : (s : Step) → step_of s ≡ sizeof → ⊥
step_no_sizeof pv.Increment e = let q : pre_increment ≡ sizeof = e in cc
step_no_sizeof pv.Decrement e = let q : pre_decrement ≡ sizeof = e in cc

pub step_operand_fails : {i k : List Token} (s : Step) → StandsStep (Some s) i → k ≡ drop 1 i → (b : Bound) (r : List Token) → LacksExpr unary_level (inner b) k r → LacksExpr unary_level b i r
step_operand_fails s h e b r f = record { fails = fails_at (taken h.2 e) (step_fails (step_of s) h.3 (step_no_sizeof s) f.fails); past = prefix_past (qv.Step s) h }

pub operand_fails : {code : ℕ} {i k : List Token} → StandsUnary (Some code) i → k ≡ drop 1 i → (b : Bound) (r : List Token) → Fails (AnExpr (inner b) cast_level) k r → LacksExpr unary_level b i r
operand_fails {code} h e b r f = record { fails = fails_at (taken h.2 e) (unary_fails h.3 h.4 f); past = prefix_past (qv.Operator code) h }

word_past : {t : Token} {i r : List Token} → IsKeyword SIZEOF t → Past (t ∷ i) r
word_past w = past_bare (λ h. not_word h w)

pub sizeof_operand_fails : {t : Token} {i : List Token} → IsKeyword SIZEOF t → (IsAtCast i → ⊥) → (b : Bound) (r : List Token) → LacksExpr unary_level (inner b) i r → LacksExpr unary_level b (t ∷ i) r
sizeof_operand_fails w n b r f = record { fails = sizeof_fails w (sizeof_operand (not_cast n) f.past f.fails); past = word_past w }

pub sizeof_type_name_fails : {t : Token} {i k : List Token} → IsKeyword SIZEOF t → IsAtCast i → k ≡ drop 1 i → (b : Bound) (r : List Token) → Fails (AType (inner b)) k r → LacksExpr unary_level b (t ∷ i) r
sizeof_type_name_fails {i = i} {k = k} w h e b r f =
    let o = cast_taken i k h e in record { fails = sizeof_fails w (fails_at o.2 (sizeof_type_fails o.1 o.3 (fails_first f))); past = word_past w }

pub sizeof_unclosed : {d : ℕ} {n : TypeName} {t : Token} {i k m : List Token} → IsKeyword SIZEOF t → IsAtCast i → k ≡ drop 1 i → ReadsType d n k m × EndsDeclarator m → (IsAt RIGHT_PARENTHESIS m → ⊥) → (b : Bound) → LacksExpr unary_level b (t ∷ i) m
sizeof_unclosed {i = i} {k = k} {m = m} w h e s n b =
    let o = cast_taken i k h e in
    record { fails = sizeof_fails w (fails_at o.2 (sizeof_type_fails o.1 o.3 (fails_later (type_fixes any (inner b)) (a_type_name s) (fails_missing m (not_at n))))); past = word_past w }

pub sizeof_suffixed : {d : ℕ} {n : TypeName} {t u : Token} {i k m z : List Token} → IsKeyword SIZEOF t → IsAtCast i → k ≡ drop 1 i → ReadsType d n k m × EndsDeclarator m → Is RIGHT_PARENTHESIS u → m ≡ u ∷ z → rank z ≤ 1 → (b : Bound) → LacksExpr unary_level b (t ∷ i) z
sizeof_suffixed {i = i} {k = k} {z = z} w h e s c q l b =
    let o = cast_taken i k h e in
    record { fails = sizeof_fails w (fails_at o.2 (sizeof_type_fails o.1 o.3 (fails_later (type_fixes any (inner b)) (a_type_name s) (fails_at q (fails_after (suffix_after_type z l)))))); past = word_past w }

-- postfix expressions

pub bare_postfix : {i : List Token} → (b : Bound) (r : List Token) → LacksExpr primary_level b i r → LacksExpr postfix_level b i r
bare_postfix b r f = record { fails = postfix_fails b f.fails; past = f.past }

-- an operand, and suffixes that were read of it so far
abbrev pub Suffixed : ℕ → ℕ → Expr → List Token → List Token → Type 0
Suffixed d at left i h = (a : Expr) × (j : List Token) × Reads d primary_level a i j × Stops primary_level j × ((e : Expr) (k : List Token) → Suffixes d at left e h k → Suffixes d at a e j k)

postfixed : {d at : ℕ} {left : Expr} {i h : List Token} → at ≡ place i → Suffixed d at left i h → Postfixed d left i h
postfixed {at = at} {left = left} {h = h} p s = record { at = at; operand = s.0; after = s.1; begins = p; reads = s.2; stops = s.3; suffixes = s.4 left h no_suffix }

past_suffixed : {d at : ℕ} {left : Expr} {i h r : List Token} (g : List Token) → at ≡ place i → Suffixed d at left i h → length h < length i → h ≡ g ++ r → Past i r
past_suffixed {left = left} {h = h} g p s l e = past_reads g (with_suffixes p s.2 (s.4 left h no_suffix)) l e

pub suffix_fails : {d at : ℕ} {left : Expr} {t : Token} {i h j : List Token} → at ≡ place i → Suffixed d at left i h → length h < length i → h ≡ t ∷ j → (b : Bound) (r : List Token) → Fails (SomeSuffixes b) (t ∷ j) r → LacksExpr postfix_level b i r
suffix_fails p s l q b r f = let g = fails_at q f in record { fails = postfixed_fails (postfixed p s) g; past = past_suffixed g.front p s l g.is }

suffix_ranks : (x : Suffix) (t : Token) → IsSuffix x t → rank_of_kind t.kind ≡ 1
suffix_ranks sv.Index t h = ranked h
suffix_ranks sv.Call t h = ranked h
suffix_ranks sv.Dot t h = ranked h
suffix_ranks sv.Arrow t h = ranked h
suffix_ranks sv.Increment t h = ranked h
suffix_ranks sv.Decrement t h = ranked h

pub suffix_high : {pairs nodes : ℕ} {d at height_is : ℕ} {left : Expr} {i h : List Token} (x : Suffix) → at ≡ place i → Suffixed d at left i h → length h < length i → StandsSuffix (Some x) h → nodes ≤ height_is → height_is ≡ height left → LacksExpr postfix_level (within pairs nodes) i h
suffix_high {left = left} x p s l o n q = record { fails = postfixed_too_high (postfixed p s) (ap rank o.2 ∙ suffix_ranks x o.0 o.3) (high left n q); past = past_suffixed [] p s l refl }

pub string_fails : {d at : ℕ} {left : Expr} {i h : List Token} → at ≡ place i → Suffixed d at left i h → length h < length i → rank h ≡ 0 → (b : Bound) → LacksExpr postfix_level b i h
string_fails p s l q b = record { fails = string_after_suffixes (postfixed p s) q; past = past_suffixed [] p s l refl }

-- what follows the first token of a suffix

pub index_fails : {t : Token} {i : List Token} → Is LEFT_BRACKET t → (b : Bound) (r : List Token) → Fails (AnExpr (inner b) expression_level) i r → Fails (SomeSuffixes b) (t ∷ i) r
index_fails h b r f = fails_under (λ k j a. index_form b h a) (fails_first f)

pub index_unclosed : {d : ℕ} {e : Expr} {t : Token} {i j : List Token} → Is LEFT_BRACKET t → Stands d expression_level e i j → (IsAt RIGHT_BRACKET j → ⊥) → (b : Bound) → Fails (SomeSuffixes b) (t ∷ i) j
index_unclosed {j = j} h s n b = fails_under (λ k j a. index_form b h a) (fails_later (expr_fixes any (inner b) expression_level) (an_expr s) (fails_missing j (not_at n)))

pub member_fails : {t : Token} {i : List Token} (x : Access) → IsAccess x t → (b : Bound) (r : List Token) → Fails (One IsSomeName) i r → Fails (SomeSuffixes b) (t ∷ i) r
member_fails x h b r f = fails_under (λ k j a. member_form b x h a) (fails_first f)

-- arguments

pub first_argument_fails : {i j : List Token} → (IsAt RIGHT_PARENTHESIS i → ⊥) → j ≡ i → (b : Bound) (r : List Token) → Fails (AnExpr b assignment_level) j r → Fails (SomeArguments b) i r
first_argument_fails n q b r f = arguments_fail (not_at n) (fails_first (exprs_first (fails_at (sym q) f)))

pub later_argument_fails : {d : ℕ} {e : Expr} {i j k : List Token} → (IsAt RIGHT_PARENTHESIS i → ⊥) → j ≡ i → Stands d assignment_level e j k → (b : Bound) (r : List Token) → Fails (ExprsRest b) k r → Fails (SomeArguments b) i r
later_argument_fails n q s b r f = arguments_fail (not_at n) (fails_first (fails_at (sym q) (exprs_fail (an_expr s) f)))

exprs_fix : (b c : Bound) → Fixes (SomeExprs b) (SomeExprs c)
exprs_fix b c = record {
  moves = λ i j a k m.
      let x = list_on a.reads k in
      record { tokens = x.tokens; twin = x.twin; reads = record { depth = a.depth; trees = a.trees; reads = x.reads; stops = stops_alike expression_level m a.stops; fits = a.fits } };
  once = λ i j k a e. ((only_list a.reads a.stops).is _ _ _ e.reads e.stops).1;
}

pub arguments_unclosed : {d : ℕ} {es : Exprs} {i j k : List Token} → (IsAt RIGHT_PARENTHESIS i → ⊥) → j ≡ i → ReadsList d es j k × Stops expression_level k → (IsAt RIGHT_PARENTHESIS k → ⊥) → (b : Bound) → Fails (SomeArguments b) i k
arguments_unclosed {k = k} n q s f b = arguments_fail (not_at n) (fails_at (sym q) (fails_later (exprs_fix any b) (some_exprs s) (missing k (not_at f))))

-- primary expressions

abbrev IsLeafAt : List Token → Type 0
IsLeafAt i = (start i ≡ 3) ⊎ (start i ≡ 5)

leaf_apart : (i : List Token) → IsLeafAt i → start i ≡ 4 → ⊥
leaf_apart i (inl h) q = omega (arith, h, q)
leaf_apart i (inr h) q = omega (arith, h, q)

pub leaf_deep : {pairs nodes : ℕ} {i : List Token} → (start i ≡ 3) ⊎ (start i ≡ 5) → nodes ≡ 0 → LacksExpr primary_level (within pairs nodes) i i
leaf_deep {i = i} n q = record { fails = no_nodes primary_level i q; past = low_past (leaf_apart i n) }

pub leaf_refused : {Q : Bound → List Token → List Token → Type 0} {O : ℕ → ℕ → ℕ → List Token → List Token → Type 0} {room : Room} {e : PhraseError} {i j : List Token} → (start i ≡ 3) ⊎ (start i ≡ 5) → IsNoLeaf e i → Refused Q O room e i j
leaf_refused {i = i} n h = record { wrong = λ q. absurd (none n (h.wrong q)); deep = λ at q. absurd (h.deep at q) }
  where
    none : (start i ≡ 3) ⊎ (start i ≡ 5) → (start i ≡ 3 → ⊥) × (start i ≡ 5 → ⊥) → ⊥
    none (inl p) f = f.0 p
    none (inr p) f = f.1 p

operand_starts : (n : ℕ) → 3 ≤ n → n ≤ 5 → ((n ≡ 3) ⊎ (n ≡ 5) → ⊥) → (n ≡ 4 → ⊥) → ⊥
operand_starts n l u f g = let x : n ≡ 3 → ⊥ = λ q. f (inl q) in let y : n ≡ 5 → ⊥ = λ q. f (inr q) in omega (arith, l, u, x, g, y)

pub no_leaf : {i : List Token} → ((start i ≡ 3) ⊎ (start i ≡ 5) → ⊥) → (IsAt LEFT_PARENTHESIS i → ⊥) → (b : Bound) → LacksExpr primary_level b i i
no_leaf {i} n f b = record { fails = no_operand i (λ l u. operand_starts (start i) l u n (λ q. f (opening_there i q))); past = past_bare f }

pub leaf_strings : {d : ℕ} {e : Expr} {i j : List Token} → (start i ≡ 3) ⊎ (start i ≡ 5) → (rank i ≡ 0 → 1 ≤ rank j) → Reads d primary_level e i j → rank j ≡ 0 → (b : Bound) → LacksExpr primary_level b i j
leaf_strings {i = i} n f s q b = record { fails = string_follows (λ z. let w = f z in omega (arith, w, q)) s q; past = low_past (leaf_apart i n) }

no_expression_here : (b : Bound) (i : List Token) → (1 ≤ start i → 6 ≤ start i) → Fails (AnExpr b expression_level) i i
no_expression_here b i f = fails_here (λ s m j a. let v = expression_begins a.reads in let w = f (omega (arith, v.0, start_alike m)) in omega (arith, w, v.1, start_alike m))

-- a parenthesis for which no pair is left

pub pair_wrong : {i k : List Token} → IsAt LEFT_PARENTHESIS i → k ≡ drop 1 i → (1 ≤ start k → 6 ≤ start k) → (b : Bound) → LacksExpr primary_level b i k
pair_wrong {i} {k} h e f b =
    let t = taken_at LEFT_PARENTHESIS i k h e in
    record { fails = fails_at t.2 (fails_under (λ k j a. paren_form b t.1 a) (fails_first (no_expression_here (enclosed b) k f))); past = past_after [] t.2 refl }

pub pair_deep : {pairs nodes : ℕ} {i k : List Token} → IsAt LEFT_PARENTHESIS i → k ≡ drop 1 i → pairs ≡ 0 → LacksExpr primary_level (within pairs nodes) i k
pair_deep {pairs} {nodes} {i} {k} h e q =
    let t = taken_at LEFT_PARENTHESIS i k h e in
    record { fails = fails_at t.2 (fails_on (subst (λ n. Fails (AnExpr (within n nodes) primary_level) (t.0 ∷ k) (t.0 ∷ k)) (sym q) (no_pair_left t.1))); past = past_after [] t.2 refl }

-- in parentheses

pub inside_fails : {i k : List Token} → IsAt LEFT_PARENTHESIS i → k ≡ drop 1 i → (b : Bound) (r : List Token) → Fails (AnExpr (enclosed b) expression_level) k r → LacksExpr primary_level b i r
inside_fails {i} {k} h e b r f =
    let t = taken_at LEFT_PARENTHESIS i k h e in record { fails = fails_at t.2 (fails_under (λ k j a. paren_form b t.1 a) (fails_first f)); past = past_after f.front t.2 f.is }

pub inside_unclosed : {d : ℕ} {x : Expr} {i k m : List Token} → IsAt LEFT_PARENTHESIS i → k ≡ drop 1 i → Stands d expression_level x k m → (IsAt RIGHT_PARENTHESIS m → ⊥) → (b : Bound) → LacksExpr primary_level b i m
inside_unclosed {i = i} {k = k} {m = m} h e s n b =
    let t = taken_at LEFT_PARENTHESIS i k h e in
    let f = fails_later (expr_fixes any (enclosed b) expression_level) (an_expr s) (missing m (not_at n)) in
    record { fails = fails_at t.2 (fails_under (λ k j a. paren_form b t.1 a) f); past = past_after f.front t.2 f.is }

pub parenthesis_ranks : (i : List Token) → IsAt LEFT_PARENTHESIS i → rank i ≡ 0 → ⊥
parenthesis_ranks [] h q = absurd h
parenthesis_ranks (t ∷ i) h q = omega (arith, ranked h, q)

pub inside_strings : {d : ℕ} {x : Expr} {i j : List Token} → IsAt LEFT_PARENTHESIS i → Reads d primary_level x i j → length j < length i → rank j ≡ 0 → (b : Bound) → LacksExpr primary_level b i j
inside_strings {i = i} h s l q b = record { fails = string_follows (parenthesis_ranks i h) s q; past = past_reads [] s l refl }

pub parentheses_stand : {d x : ℕ} {e : Expr} {i j k m : List Token} → x ≡ d - 1 → (d ≡ 0 → ⊥) → IsAt LEFT_PARENTHESIS i → j ≡ drop 1 i → Stands x expression_level e j k → ((u : Token) × Is RIGHT_PARENTHESIS u × (k ≡ u ∷ m)) → Reads d primary_level e i m
parentheses_stand {i = i} {j = j} q l h r s u = let t = taken_at LEFT_PARENTHESIS i j h r in parentheses_read q (omega (arith, l)) t.1 t.2 s.0 u.1 u.2
