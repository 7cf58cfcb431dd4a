-- Where expressions go on past the limits: what opens at a part opens at the whole.
use Rattle.std.proofs.Common.{◌≡◌, ◌≤◌, ◌<◌, ◌-◌, ◌⊎◌, inl, inr, ℕ, suc, List, [], ◌∷◌, drop, length, refl, sym, ap, ◌∙◌, subst, arith}
use Rattle.std.specs.Prelude.{Some}
use Rattle.c_lexer.specs.declared.token.Token.{Token}
use Rattle.c_lexer.specs.declared.token.TokenKind.{TokenKind}
use Rattle.c_lexer.specs.declared.token.TokenKind.TheVariants.{Name, Keyword, Int, Char, Str, Punct}
use Rattle.c_lexer.specs.declared.keyword.TheConstants.{SIZEOF}
use Rattle.c_lexer.specs.declared.punctuator.TheConstants.{LEFT_PARENTHESIS, RIGHT_PARENTHESIS, QUESTION, COLON, COMMA}
use Rattle.c_syntax.specs.Tree.{Expr, TypeName, dot, arrow, post_increment, post_decrement}
use Rattle.c_syntax.specs.Tokens.{Is, IsKeyword, place}
use Rattle.c_syntax.specs.Grammar.{primary_level, postfix_level, unary_level, cast_level, binary_level, conditional_level, assignment_level, expression_level, Reads, with_suffixes, ReadsType, no_suffix}
use Rattle.c_syntax_printing.specs.Starts.{start, start_of_kind, EndsDeclarator}
use Rattle.c_syntax_printing.specs.Nodes.{InExpr}
use Rattle.c_syntax_printing.specs.Opens.{Opens, DeepExpr, DeepExprs, DeepType, DeepSuffixes}
use Rattle.c_syntax_printing.proofs.Begun.{expression_begins}
use Rattle.c_syntax_printing.proofs.ExprOpens.{name_too_deep, int_too_deep, string_too_deep, parentheses_open, pair_too_deep, step_opens, operator_opens, step_too_deep, operator_too_deep, cast_too_deep, sizeof_too_deep, cast_type_opens, sizeof_type_opens, cast_operand_opens, suffixes_open, index_too_high, call_too_high, member_too_high, postfix_too_high, operator_opens_right, operator_opens_left, yes_opens, test_too_high, assigned_value_opens, assigned_too_deep, first_of_list_opens, later_of_list_opens, comma_opens, comma_too_deep}
use Rattle.c_parser_phrases.specs.declared.looking.Operator.{Operator}
use Rattle.c_parser_phrases.specs.declared.looking.Suffix.{Suffix}
use Rattle.c_parser_phrases.specs.declared.looking.Suffix.TheVariants as sv
use Rattle.c_parser_phrases.specs.declared.looking.Step.{Step}
use Rattle.c_parser_phrases.specs.declared.looking.Prefix.{Prefix as Before}
use Rattle.c_parser_phrases.specs.declared.looking.Prefix.TheVariants as qv
use Rattle.c_parser_phrases.specs.Looking.{infix_of, step_of, IsAtCast, IsSuffix, StandsOperator, StandsSuffix, StandsAssignment, StandsStep, StandsUnary, StandsPrefix}
use Rattle.c_parser_phrases.specs.Standing.{IsAt, IsAtKeyword}
use Rattle.c_parser_phrases.specs.Reading.{OpensMore}
use Rattle.c_parser_phrases.proofs.Made.{Stands, Chained}
use Rattle.c_parser_phrases.proofs.Exits.{taken, taken_at, cast_taken}
use Rattle.c_parser_phrases.proofs.Refusals.{left_of, Suffixed}
use Rattle.c_parser_phrases.proofs.Starts.{leaf_code, leaf_word}
use Rattle.c_syntax_printing.proofs.ThirdPartOpens.{char_too_deep, no_opens}

-- the height is the limit
pub at_limit : {at n h : ℕ} {e : Expr} → n ≤ h → h ≤ n → InExpr at h e → InExpr at n e
at_limit {at} {n} {h} {e} l u d = let q : h ≡ n = omega (arith, l, u) in subst (λ z. InExpr at z e) q d

-- a token is left

pub some_at : (code : ℕ) (i : List Token) → IsAt code i → 0 < length i
some_at code [] h = absurd h
some_at code (t ∷ i) h = omega arith

pub some_is : {t : Token} {i j : List Token} → i ≡ t ∷ j → 0 < length i
some_is q = omega (arith, ap length q)

pub some_starts : (i : List Token) → 1 ≤ start i → 0 < length i
some_starts [] h = absurd (omega (arith, h))
some_starts (t ∷ i) h = omega arith

pub some_cast : (i : List Token) → IsAtCast i → 0 < length i
some_cast [] h = absurd h
some_cast (t ∷ i) h = omega arith

-- several expressions with commas between

pub comma_rest_opens : {at p n : ℕ} {a : Expr} {i j r : List Token} → Stands p assignment_level a i j → OpensMore at p n j r → Opens (DeepExpr at p (suc n) expression_level) i r
comma_rest_opens {p = p} {a = a} {i = i} s o = let P : List Token → Type 0 = λ z. Reads p assignment_level a i z in comma_opens (omega arith) o.comma (subst P o.is s.0) o.opens

pub comma_deep : {at p n h : ℕ} {a : Expr} {i : List Token} (j : List Token) → IsAt COMMA j → Stands p assignment_level a i j → n ≤ h → h ≤ n → InExpr at h a → Opens (DeepExpr at p n expression_level) i j
comma_deep [] c s l u d = absurd c
comma_deep (t ∷ j) c s l u d = comma_too_deep (omega arith) c s.0 (at_limit l u d)

pub rest_opens : {at p n : ℕ} {t : Token} {i j r : List Token} → i ≡ t ∷ j → Is COMMA t → Opens (DeepExpr at p n assignment_level) j r → OpensMore at p n i r
rest_opens q c o = record { token = _; after = _; is = q; comma = c; opens = first_of_list_opens o }

pub rest_leads_open : {at p n : ℕ} {e : Expr} {t : Token} {i j k r : List Token} → i ≡ t ∷ j → Is COMMA t → Stands p assignment_level e j k → OpensMore at p n k r → OpensMore at p n i r
rest_leads_open {p = p} {e = e} {j = j} q c s o =
    let P : List Token → Type 0 = λ z. Reads p assignment_level e j z in
    record { token = _; after = _; is = q; comma = c; opens = later_of_list_opens (omega arith) o.comma (subst P o.is s.0) o.opens }

-- assignments

pub assigned_deep : {at p n h op : ℕ} {a : Expr} {i j : List Token} → StandsAssignment (Some op) j → Reads p unary_level a i j → n ≤ h → h ≤ n → InExpr at h a → Opens (DeepExpr at p n assignment_level) i j
assigned_deep {at} {p} {n} {a = a} {i} o s l u d =
    let P : List Token → Type 0 = λ z. Reads p unary_level a i z in
    let R : List Token → Type 0 = λ z. Opens (DeepExpr at p n assignment_level) i z in
    subst R (sym o.2) (assigned_too_deep (omega arith) o.3 o.4 (subst P o.2 s) (at_limit l u d))

pub assigned_rest_opens : {at p n op : ℕ} {a : Expr} {i j k r : List Token} → StandsAssignment (Some op) j → k ≡ drop 1 j → Reads p unary_level a i j → Opens (DeepExpr at p n assignment_level) k r → Opens (DeepExpr at p (suc n) assignment_level) i r
assigned_rest_opens {p = p} {a = a} {i} o e s w = let P : List Token → Type 0 = λ z. Reads p unary_level a i z in assigned_value_opens (omega arith) o.3 o.4 (subst P (taken o.2 e) s) w

-- conditional expressions

pub choice_deep : {at p n h : ℕ} {a : Expr} {i : List Token} (j : List Token) → IsAt QUESTION j → Stands p (binary_level 10) a i j → n ≤ h → h ≤ n → InExpr at h a → Opens (DeepExpr at p n conditional_level) i j
choice_deep [] c s l u d = absurd c
choice_deep (t ∷ j) c s l u d = test_too_high (omega arith) c s.0 (at_limit l u d)

pub yes_part_opens : {at p n : ℕ} {a : Expr} {i k r : List Token} (j : List Token) → IsAt QUESTION j → k ≡ drop 1 j → Stands p (binary_level 10) a i j → Opens (DeepExpr at p n expression_level) k r → Opens (DeepExpr at p (suc n) conditional_level) i r
yes_part_opens {p = p} {a = a} {i = i} {k = k} j c e s o =
    let t = taken_at QUESTION j k c e in
    let P : List Token → Type 0 = λ z. Reads p (binary_level 10) a i z in yes_opens (omega arith) t.1 (subst P t.2 s.0) o

pub no_part_opens : {at p n : ℕ} {a y : Expr} {u : Token} {i k m z r : List Token} (j : List Token) → IsAt QUESTION j → k ≡ drop 1 j → Stands p (binary_level 10) a i j → Stands p expression_level y k m → Is COLON u → m ≡ u ∷ z → Opens (DeepExpr at p n conditional_level) z r → Opens (DeepExpr at p (suc n) conditional_level) i r
no_part_opens {p = p} {a = a} {y = y} {i = i} {k = k} j c e s v h q o =
    let t = taken_at QUESTION j k c e in
    let P : List Token → Type 0 = λ z. Reads p (binary_level 10) a i z in
    let R : List Token → Type 0 = λ z. Reads p expression_level y k z in no_opens (omega arith) t.1 (subst P t.2 s.0) (subst R q v.0) h o

-- binary operators

pub operator_deep : {at p n h most place_of : ℕ} {a : Expr} {i j : List Token} (o : Operator) → place_of ≡ place i → Chained p most a i j → StandsOperator most (Some o) j → 0 < o.level → n ≤ h → h ≤ n → InExpr at h a → Opens (DeepExpr at p n (binary_level most)) i j
operator_deep {at} {p} {n} {most = most} {i = i} o b c s l f g d =
    let R : List Token → Type 0 = λ z. Opens (DeepExpr at p n (binary_level most)) i z in
    subst R (sym s.2) (operator_opens_left (infix_of o.between) o.level most (omega arith) s.4 (omega (arith, l)) s.5 s.3 (left_of o b c s.2 s) (at_limit f g d))

pub right_opens : {at p n most level place_of : ℕ} {a : Expr} {i j k r : List Token} (o : Operator) → place_of ≡ place i → Chained p most a i j → StandsOperator most (Some o) j → 0 < o.level → k ≡ drop 1 j → level ≡ o.level - 1 → Opens (DeepExpr at p n (binary_level level)) k r → Opens (DeepExpr at p (suc n) (binary_level most)) i r
right_opens {at} {p} {n} {most} {k = k} {r = r} o b c s l e q w =
    operator_opens_right (infix_of o.between) o.level most (omega arith) s.4 (omega (arith, l)) s.5 s.3 (left_of o b c (taken s.2 e) s) (subst (λ z. Opens (DeepExpr at p n (binary_level z)) k r) q w)

-- casts

pub cast_deep : {at p n : ℕ} {i : List Token} → IsAtCast i → at ≡ place i → n ≡ 0 → Opens (DeepExpr at p n cast_level) i i
cast_deep {i = []} h q z = absurd h
cast_deep {at} {p} {i = t ∷ i} h q z = subst (λ m. Opens (DeepExpr at p m cast_level) (t ∷ i) (t ∷ i)) (sym z) (subst (λ m. Opens (DeepExpr m p 0 cast_level) (t ∷ i) (t ∷ i)) (sym q) (cast_too_deep h.0))

pub moved_open : {A : List Token → List Token → Type 0} {i j r : List Token} → i ≡ j → Opens A j r → Opens A i r
moved_open {A} {r = r} q o = subst (λ z. Opens A z r) (sym q) o

pub cast_name_opens : {at p n : ℕ} {k r : List Token} (i : List Token) → IsAtCast i → k ≡ drop 1 i → Opens (DeepType at p n) k r → Opens (DeepExpr at p (suc n) cast_level) i r
cast_name_opens {k = k} i h e o = let t = cast_taken i k h e in moved_open t.2 (cast_type_opens t.1 o)

pub cast_part_opens : {at p n : ℕ} {y : TypeName} {u : Token} {k m z r : List Token} (i : List Token) → IsAtCast i → k ≡ drop 1 i → ReadsType p y k m × EndsDeclarator m → Is RIGHT_PARENTHESIS u → m ≡ u ∷ z → Opens (DeepExpr at p n cast_level) z r → Opens (DeepExpr at p (suc n) cast_level) i r
cast_part_opens {p = p} {y = y} {k = k} i h e s c q o =
    let t = cast_taken i k h e in
    let P : List Token → Type 0 = λ z. ReadsType p y k z in moved_open t.2 (cast_operand_opens (omega arith) t.1 (subst P q s.0) c o)

-- prefix operators

word_deep : {at p n : ℕ} (i : List Token) → IsAtKeyword SIZEOF i → at ≡ place i → n ≡ 0 → Opens (DeepExpr at p n unary_level) i i
word_deep [] h q z = absurd h
word_deep {at} {p} (t ∷ i) h q z = subst (λ m. Opens (DeepExpr at p m unary_level) (t ∷ i) (t ∷ i)) (sym z) (subst (λ m. Opens (DeepExpr m p 0 unary_level) (t ∷ i) (t ∷ i)) (sym q) (sizeof_too_deep h))

here_deep : {at p n : ℕ} {t : Token} {i j : List Token} → i ≡ t ∷ j → at ≡ place i → n ≡ 0 → Opens (DeepExpr t.from p 0 unary_level) (t ∷ j) (t ∷ j) → Opens (DeepExpr at p n unary_level) i i
here_deep {at} {p} {t = t} {i = i} {j = j} e q z o =
    let f : t.from ≡ at = sym (q ∙ ap place e) in
    subst (λ m. Opens (DeepExpr at p m unary_level) i i) (sym z) (subst (λ m. Opens (DeepExpr m p 0 unary_level) i i) f (subst (λ y. Opens (DeepExpr t.from p 0 unary_level) y y) (sym e) o))

pub prefix_opens : {at p n : ℕ} (x : Before) (i : List Token) → StandsPrefix (Some x) i → at ≡ place i → n ≡ 0 → Opens (DeepExpr at p n unary_level) i i
prefix_opens qv.Sizeof i h q z = word_deep i h q z
prefix_opens (qv.Step s) i h q z = here_deep h.2 q z (step_too_deep (step_of s) h.3)
prefix_opens (qv.Operator code) i h q z = here_deep h.2 q z (operator_too_deep h.3 h.4)

pub prefix_some : (x : Before) (i : List Token) → StandsPrefix (Some x) i → 0 < length i
prefix_some qv.Sizeof [] h = absurd h
prefix_some qv.Sizeof (t ∷ i) h = omega arith
prefix_some (qv.Step s) i h = some_is h.2
prefix_some (qv.Operator code) i h = some_is h.2

pub step_operand_opens : {at p n : ℕ} {i k r : List Token} (s : Step) → StandsStep (Some s) i → k ≡ drop 1 i → Opens (DeepExpr at p n unary_level) k r → Opens (DeepExpr at p (suc n) unary_level) i r
step_operand_opens s h e o = moved_open (taken h.2 e) (step_opens (step_of s) h.3 o)

pub unary_operand_opens : {at p n code : ℕ} {i k r : List Token} → StandsUnary (Some code) i → k ≡ drop 1 i → Opens (DeepExpr at p n cast_level) k r → Opens (DeepExpr at p (suc n) unary_level) i r
unary_operand_opens h e o = moved_open (taken h.2 e) (operator_opens h.3 h.4 o)

pub sizeof_name_opens : {at p n : ℕ} {t : Token} {k r : List Token} (i : List Token) → IsKeyword SIZEOF t → IsAtCast i → k ≡ drop 1 i → Opens (DeepType at p n) k r → Opens (DeepExpr at p (suc n) unary_level) (t ∷ i) r
sizeof_name_opens {t = t} {k = k} i w h e o = let u = cast_taken i k h e in moved_open (ap (λ z. t ∷ z) u.2) (sizeof_type_opens w u.1 o)

-- postfix expressions

suffixed_reads : {d at : ℕ} {left : Expr} {i h : List Token} → at ≡ place i → Suffixed d at left i h → Reads d postfix_level left i h
suffixed_reads {left = left} {h = h} p s = with_suffixes p s.2 (s.4 left h no_suffix)

pub suffix_opens : {at p n begins : ℕ} {left : Expr} {t : Token} {i h j r : List Token} → begins ≡ place i → Suffixed p begins left i h → h ≡ t ∷ j → Opens (DeepSuffixes at p n begins left) (t ∷ j) r → Opens (DeepExpr at p n postfix_level) i r
suffix_opens {at} {p} {n} {left = left} {t = t} {j = j} {r = r} b s q o =
    suffixes_open (omega arith) (suffixed_reads b s) (moved_open q (subst (λ z. Opens (DeepSuffixes at p n z left) (t ∷ j) r) b o))

suffix_too_deep : {at p n begins : ℕ} {left : Expr} {t : Token} {j : List Token} (x : Suffix) → IsSuffix x t → InExpr at n left → Opens (DeepSuffixes at p n begins left) (t ∷ j) (t ∷ j)
suffix_too_deep sv.Index h d = index_too_high h d
suffix_too_deep sv.Call h d = call_too_high h d
suffix_too_deep sv.Dot h d = member_too_high dot h d
suffix_too_deep sv.Arrow h d = member_too_high arrow h d
suffix_too_deep sv.Increment h d = postfix_too_high post_increment h d
suffix_too_deep sv.Decrement h d = postfix_too_high post_decrement h d

pub suffix_deep : {at p n begins high : ℕ} {left : Expr} {i h : List Token} (x : Suffix) → begins ≡ place i → Suffixed p begins left i h → StandsSuffix (Some x) h → n ≤ high → high ≤ n → InExpr at high left → Opens (DeepExpr at p n postfix_level) i h
suffix_deep {at} {p} {n} {i = i} x b s o l u d =
    let R : List Token → Type 0 = λ z. Opens (DeepExpr at p n postfix_level) i z in subst R (sym o.2) (suffix_opens b s o.2 (suffix_too_deep x o.3 (at_limit l u d)))

-- arguments

pub later_argument_opens : {at p n : ℕ} {e : Expr} {i j k r : List Token} → j ≡ i → Stands p assignment_level e j k → OpensMore at p n k r → Opens (DeepExprs at p n) i r
later_argument_opens {p = p} {e = e} {j = j} q s o =
    let P : List Token → Type 0 = λ z. Reads p assignment_level e j z in moved_open (sym q) (later_of_list_opens (omega arith) o.comma (subst P o.is s.0) o.opens)

pub first_argument_opens : {at p n : ℕ} {i j r : List Token} → j ≡ i → Opens (DeepExpr at p n assignment_level) j r → Opens (DeepExprs at p n) i r
first_argument_opens q o = moved_open (sym q) (first_of_list_opens o)

-- primary expressions

kind_deep : {p : ℕ} {t : Token} {i : List Token} (k : TokenKind) → t.kind ≡ k → (start_of_kind k ≡ 3) ⊎ (start_of_kind k ≡ 5) → ((code : ℕ) → (start_of_kind (Punct code) ≡ 3 → ⊥) × (start_of_kind (Punct code) ≡ 5 → ⊥)) → ((word : ℕ) → (start_of_kind (Keyword word) ≡ 3 → ⊥) × (start_of_kind (Keyword word) ≡ 5 → ⊥)) → Opens (DeepExpr t.from p 0 primary_level) (t ∷ i) (t ∷ i)
kind_deep (Name name) q s f g = name_too_deep {name = name} (record { kind = q })
kind_deep (Int n unsigned) q s f g = int_too_deep {n = n} {u = unsigned} (record { kind = q })
kind_deep (Char c) q s f g = char_too_deep {c = c} (record { kind = q })
kind_deep (Str bytes) q s f g = string_too_deep {bytes = bytes} (record { kind = q })
kind_deep (Punct code) q (inl z) f g = absurd ((f code).0 z)
kind_deep (Punct code) q (inr z) f g = absurd ((f code).1 z)
kind_deep (Keyword word) q (inl z) f g = absurd ((g word).0 z)
kind_deep (Keyword word) q (inr z) f g = absurd ((g word).1 z)

pub leaf_opens : {at p n : ℕ} (i : List Token) → (start i ≡ 3) ⊎ (start i ≡ 5) → at ≡ place i → n ≡ 0 → Opens (DeepExpr at p n primary_level) i i
leaf_opens [] (inl s) q z = absurd (omega (arith, s))
leaf_opens [] (inr s) q z = absurd (omega (arith, s))
leaf_opens {at} {p} (t ∷ i) s q z =
    subst (λ m. Opens (DeepExpr at p m primary_level) (t ∷ i) (t ∷ i)) (sym z) (subst (λ m. Opens (DeepExpr m p 0 primary_level) (t ∷ i) (t ∷ i)) (sym q) (kind_deep t.kind refl s leaf_code leaf_word))

pub leaf_some : (i : List Token) → (start i ≡ 3) ⊎ (start i ≡ 5) → 0 < length i
leaf_some i (inl s) = some_starts i (omega (arith, s))
leaf_some i (inr s) = some_starts i (omega (arith, s))

pub pair_opens : {at p n : ℕ} {i : List Token} (k : List Token) → IsAt LEFT_PARENTHESIS i → k ≡ drop 1 i → at ≡ place i → p ≡ 0 → 1 ≤ start k → start k ≤ 5 → Opens (DeepExpr at p n primary_level) i k
pair_opens [] h e q z l u = absurd (omega (arith, l))
pair_opens {at} {p} {n} {i} (v ∷ k) h e q z l u =
    let t = taken_at LEFT_PARENTHESIS i (v ∷ k) h e in
    let f : t.0.from ≡ at = sym (q ∙ ap place t.2) in
    moved_open t.2 (subst (λ m. Opens (DeepExpr at m n primary_level) (t.0 ∷ v ∷ k) (v ∷ k)) (sym z) (subst (λ m. Opens (DeepExpr m 0 n primary_level) (t.0 ∷ v ∷ k) (v ∷ k)) f (pair_too_deep t.1 (expression_begins v l u))))

pub inside_opens : {at p n : ℕ} {k r : List Token} (i : List Token) → IsAt LEFT_PARENTHESIS i → k ≡ drop 1 i → Opens (DeepExpr at p n expression_level) k r → Opens (DeepExpr at (suc p) n primary_level) i r
inside_opens {k = k} i h e o = let t = taken_at LEFT_PARENTHESIS i k h e in moved_open t.2 (parentheses_open t.1 o)
