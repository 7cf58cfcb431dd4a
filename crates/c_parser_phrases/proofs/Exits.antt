-- What each reader of an expression or a declarator answers, from the answers of what it calls.
use Rattle.std.proofs.Common.{◌≡◌, ◌≤◌, ◌+◌, ◌-◌, ℕ, suc, List, [], ◌∷◌, drop, refl, sym, ap, ◌∙◌, subst, arith}
use Rattle.c_lexer.specs.declared.token.Token.{Token}
use Rattle.c_lexer.specs.declared.keyword.TheConstants.{SIZEOF}
use Rattle.c_lexer.specs.declared.punctuator.TheConstants.{LEFT_PARENTHESIS, RIGHT_PARENTHESIS, ASTERISK, QUESTION, COLON, COMMA}
use Rattle.c_syntax.specs.Tree.{Infix, Prefix, Ident, Expr, Exprs, sizeof_type, comma, cast, unary, prefix, sizeof, binary, assign, conditional, Maybe, TypeName, Declarator, nothing, named, pointer, array, function, Params}
use Rattle.c_syntax.specs.Tokens.{Is, IsKeyword, IsUnary, IsAssignment, IsPrefix, IsInfix, code_of_infix, place}
use Rattle.c_syntax.specs.Specifiers.{Names, Consts}
use Rattle.c_syntax.specs.Grammar.{Level, primary_level, unary_level, cast_level, binary_level, conditional_level, assignment_level, expression_level, IsThere}
use Rattle.c_syntax.specs.Grammar.{Reads, in_parentheses, a_prefix, a_unary, a_sizeof_type, no_cast, a_cast, a_choice, an_assignment, a_comma, ReadsList, last_expr, next_expr, ReadsType, Declares, a_pointer, ReadsCore, a_declared, declarator_in_parentheses}
use Rattle.c_syntax.proofs.BackTokens.{ends}
use Rattle.c_syntax_printing.specs.Ranks.{rank, rank_of_kind, Stops}
use Rattle.c_syntax_printing.specs.Starts.{start}
use Rattle.c_syntax_printing.proofs.Ranks.{ranked, ranked_infix}
use Rattle.c_syntax_printing.proofs.Begins.{type_begins}
use Rattle.c_syntax_printing.proofs.One.{same}
use Rattle.c_parser_phrases.specs.declared.form.Form.{Form}
use Rattle.c_parser_phrases.specs.declared.form.Form.TheVariants.{Named, Abstract, Either}
use Rattle.c_parser_phrases.specs.Looking.{IsAtCast}
use Rattle.c_parser_phrases.specs.Standing.{IsAt, IsAtKeyword}
use Rattle.c_parser_phrases.specs.Reading.{Suits}
use Rattle.c_parser_phrases.proofs.Growing.{lifted, chained_more}

-- the token that stood first was taken
pub taken : {t : Token} {i j k : List Token} → i ≡ t ∷ j → k ≡ drop 1 i → i ≡ t ∷ k
taken {t} {j = j} q r = q ∙ ap (λ x. t ∷ x) (sym (r ∙ ap (drop 1) q))

pub taken_at : (code : ℕ) (i k : List Token) → IsAt code i → k ≡ drop 1 i → (t : Token) × Is code t × (i ≡ t ∷ k)
taken_at code [] k h r = absurd h
taken_at code (t ∷ j) k h r = (t, h, ap (λ x. t ∷ x) (sym r))

pub taken_word : (code : ℕ) (i k : List Token) → IsAtKeyword code i → k ≡ drop 1 i → (t : Token) × IsKeyword code t × (i ≡ t ∷ k)
taken_word code [] k h r = absurd h
taken_word code (t ∷ j) k h r = (t, h, ap (λ x. t ∷ x) (sym r))

pub cast_taken : (i k : List Token) → IsAtCast i → k ≡ drop 1 i → (t : Token) × Is LEFT_PARENTHESIS t × (i ≡ t ∷ k) × (7 ≤ start k)
cast_taken [] k h e = absurd h
cast_taken (t ∷ j) k h e = (t, h.0, ap (λ z. t ∷ z) (sym e), omega (arith, h.1, ap start e))

pub over : (n m : ℕ) → m ≤ n → (n ≡ m → ⊥) → m + 1 ≤ n
over n m l f = omega (arith, l, f)

-- the readings with another number of pairs that is the same
pub paired : {x d : ℕ} {l : Level} {e : Expr} {i j : List Token} → x ≡ d → Reads x l e i j → Reads d l e i j
paired q r = rw (sym q) r

pub paired_list : {x d : ℕ} {e : Exprs} {i j : List Token} → x ≡ d → ReadsList x e i j → ReadsList d e i j
paired_list q r = rw (sym q) r

pub paired_type : {x d : ℕ} {e : TypeName} {i j : List Token} → x ≡ d → ReadsType x e i j → ReadsType d e i j
paired_type q r = rw (sym q) r

pub paired_declarator : {x d : ℕ} {e : Declarator} {i j : List Token} → x ≡ d → Declares x e i j → Declares d e i j
paired_declarator q r = rw (sym q) r

pub ended_type : {d : ℕ} {e : TypeName} {i j k : List Token} → j ≡ k → ReadsType d e i j → ReadsType d e i k
ended_type q r = rw (sym q) r

-- several expressions with commas between
pub comma_read : {d at : ℕ} {a : Expr} {es : Exprs} {i h j : List Token} → at ≡ place i → Reads d assignment_level a i h → Stops assignment_level h → IsAt COMMA h → ReadsList d es i j → Stops expression_level j → Reads d expression_level (comma at es) i j
comma_read p r s h (last_expr w) z = absurd (no_comma_left _ h (same r w s (omega (arith, z))).1 z)
  where
    no_comma_left : {j : List Token} (h : List Token) → IsAt COMMA h → h ≡ j → Stops expression_level j → ⊥
    no_comma_left [] f q z = f
    no_comma_left (t ∷ h) f q z = omega (arith, ranked f, ap rank q, z)
comma_read p r s h (next_expr w c b) z = a_comma p w c b

-- what is no cast is a unary expression
pub uncast : {d : ℕ} {e : Expr} {i j : List Token} → Reads d cast_level e i j → (IsAtCast i → ⊥) → Reads d unary_level e i j
uncast (no_cast r) f = r
uncast (a_cast o n c r) f = absurd (f (o, (type_begins n).0))

pub assign_read : {d x at op : ℕ} {a b : Expr} {t : Token} {i j k m : List Token} → x ≡ d → at ≡ place i → Reads d cast_level a i j → (IsAtCast i → ⊥) → j ≡ t ∷ k → Is op t → IsAssignment op → Reads x assignment_level b k m → Reads d assignment_level (assign at op a b) i m
assign_read x p r f q o h v = an_assignment p (uncast (ends q r) f) o h (paired x v)

pub choice_read : {d x y at : ℕ} {a b c : Expr} {t u : Token} {i j k m n z : List Token} → x ≡ d → y ≡ d → at ≡ place i → Reads d (binary_level 10) a i j → Is QUESTION t → j ≡ t ∷ k → Reads x expression_level b k m → Is COLON u → m ≡ u ∷ n → Reads y conditional_level c n z → Reads d conditional_level (conditional at a b c) i z
choice_read x y p a o q b c w e = a_choice p (ends q a) o (ends w (paired x b)) c (paired y e)

binary_grown : {d x n at : ℕ} {o : Infix} {a b : Expr} {t : Token} {i k m : List Token} → at ≡ place i → Reads d (binary_level n) a i (t ∷ k) → n + 1 ≤ rank_of_kind t.kind → IsInfix o (suc x) → Is (code_of_infix o) t → Reads d (binary_level x) b k m → Reads d (binary_level (suc x)) (binary at o a b) i m
binary_grown {x = x} {o = o} p r l h c s = chained_more p (lifted (suc x) p (omega (arith, l, ranked_infix x o h c)) r) h c s

-- one operator and its right operand more
pub binary_read : {d y x n at level : ℕ} {o : Infix} {a b : Expr} {t : Token} {i j k m : List Token} → y ≡ d → at ≡ place i → Reads d (binary_level n) a i j → n + 1 ≤ rank j → j ≡ t ∷ k → IsInfix o level → Is (code_of_infix o) t → suc x ≡ level → Reads y (binary_level x) b k m → Reads d (binary_level level) (binary at o a b) i m
binary_read {d} {y} {x} {n} {at} {level} {o} {a} {b} {t} {i} {j} {k} {m} v p r l q h c e s =
    let P : ℕ → Type 0 = λ z. Reads d (binary_level z) (binary at o a b) i m in
    let Q : ℕ → Type 0 = λ z. IsInfix o z in
    subst P e (binary_grown p (ends q r) (omega (arith, l, ap rank q)) (subst Q (sym e) h) c (paired v s))

pub cast_read : {d x y at : ℕ} {n : TypeName} {e : Expr} {t u : Token} {i j k m z : List Token} → x ≡ d → y ≡ d → at ≡ place i → Is LEFT_PARENTHESIS t → i ≡ t ∷ j → ReadsType x n j k → Is RIGHT_PARENTHESIS u → k ≡ u ∷ m → Reads y cast_level e m z → Reads d cast_level (cast at n e) i z
cast_read x y p o q n c w r = rw (p ∙ ap place q, q) (a_cast o (ended_type w (paired_type x n)) c (paired y r))

pub sizeof_type_read : {d x at : ℕ} {n : TypeName} {s t u : Token} {i j k m : List Token} → x ≡ d → IsKeyword SIZEOF s → at ≡ s.from → Is LEFT_PARENTHESIS t → i ≡ t ∷ j → ReadsType x n j k → Is RIGHT_PARENTHESIS u → k ≡ u ∷ m → Reads d unary_level (sizeof_type at n) (s ∷ i) m
sizeof_type_read x h p o q n c w = rw (p, q) (a_sizeof_type h o (ended_type w (paired_type x n)) c)

pub sizeof_read : {d x at : ℕ} {e : Expr} {s : Token} {i j : List Token} → x ≡ d → IsKeyword SIZEOF s → at ≡ s.from → Reads x unary_level e i j → Reads d unary_level (prefix at sizeof e) (s ∷ i) j
sizeof_read x h p r = rw p (a_prefix h (paired x r))

pub prefix_read : {d x at : ℕ} {p : Prefix} {e : Expr} {t : Token} {i j k : List Token} → x ≡ d → at ≡ place i → i ≡ t ∷ j → IsPrefix p t → Reads x unary_level e j k → Reads d unary_level (prefix at p e) i k
prefix_read x p q h r = rw (p ∙ ap place q, q) (a_prefix h (paired x r))

pub unary_read : {d x at op : ℕ} {e : Expr} {t : Token} {i j k : List Token} → x ≡ d → at ≡ place i → i ≡ t ∷ j → Is op t → IsUnary op → Reads x cast_level e j k → Reads d unary_level (unary at op e) i k
unary_read x p q h u r = rw (p ∙ ap place q, q) (a_unary h u (paired x r))

pub parentheses_read : {d x : ℕ} {e : Expr} {t u : Token} {i j k m : List Token} → x ≡ d - 1 → 1 ≤ d → Is LEFT_PARENTHESIS t → i ≡ t ∷ j → Reads x expression_level e j k → Is RIGHT_PARENTHESIS u → k ≡ u ∷ m → Reads d primary_level e i m
parentheses_read {d} {x} {e} {i = i} {m = m} y l o q r c w =
    let one : suc x ≡ d = omega (arith, y, l) in
    let P : ℕ → Type 0 = λ n. Reads n primary_level e i m in
    subst P one (rw q (in_parentheses o (ends w r) c))

-- whether a declarator has a name
pub suits_pointer : (form : Form) (at : ℕ) (e : Declarator) → Suits form e → Suits form (pointer at e)
suits_pointer Named at e h = h
suits_pointer Abstract at e h = h
suits_pointer Either at e h = tt

pub suits_array : (form : Form) (at : ℕ) (e : Declarator) (m : Maybe) → Suits form e → Suits form (array at e m)
suits_array Named at e m h = h
suits_array Abstract at e m h = h
suits_array Either at e m h = tt

pub suits_function : (form : Form) (at : ℕ) (e : Declarator) (ps : Params) → Suits form e → Suits form (function at e ps)
suits_function Named at e ps h = h
suits_function Abstract at e ps h = h
suits_function Either at e ps h = tt

pub suits_name : (form : Form) (at : ℕ) (x : Ident) → (form ≡ Abstract → ⊥) → Suits form (named at x)
suits_name Named at x f = tt
suits_name Abstract at x f = absurd (f refl)
suits_name Either at x f = tt

pub suits_nothing : (form : Form) → (form ≡ Named → ⊥) → Suits form nothing
suits_nothing Named f = absurd (f refl)
suits_nothing Abstract f = tt
suits_nothing Either f = tt

pub suits_made : (form : Form) (a b : Declarator) → a ≡ b → Suits form b → Suits form a
suits_made form a b q s = rw q s

pub pointer_read : {d x at : ℕ} {e : Declarator} {t : Token} {i j k m : List Token} → x ≡ d → at ≡ place i → Is ASTERISK t → i ≡ t ∷ j → Consts j k → Declares x e k m → Declares d (pointer at e) i m
pointer_read x p o q c r = rw (p ∙ ap place q, q) (a_pointer o c (paired_declarator x r))

pub named_read : {d at : ℕ} {x : Ident} {t : Token} {i j : List Token} → at ≡ place i → Names x t → i ≡ t ∷ j → ReadsCore d (named at x) i j
named_read p n q = rw (p ∙ ap place q, q) (a_declared n)

pub brackets_read : {d x : ℕ} {e : Declarator} {t u : Token} {i j k m : List Token} → x ≡ d - 1 → 1 ≤ d → Is LEFT_PARENTHESIS t → i ≡ t ∷ j → Declares x e j k → IsThere e → Is RIGHT_PARENTHESIS u → k ≡ u ∷ m → ReadsCore d e i m
brackets_read {d} {x} {e} {t} {u} {i} {j} {k} {m} y l o q r h c w =
    let one : suc x ≡ d = omega (arith, y, l) in
    let P : ℕ → Type 0 = λ n. ReadsCore n e i m in
    let Q : List Token → Type 0 = λ z. Declares x e j z in
    subst P one (rw q (declarator_in_parentheses o (subst Q w r) h c))
