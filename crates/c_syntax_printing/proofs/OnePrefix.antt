-- One reading of unary and cast expressions, each from those of its parts: at_F goes through the other readings where one has
-- the form F.
use Rattle.std.proofs.Common.{◌≡◌, ◌≤◌, ℕ, List, ◌∷◌, refl, ap, ap₂, arith}
use Rattle.c_lexer.specs.declared.token.Token.{Token}
use Rattle.c_lexer.specs.declared.punctuator.TheConstants.{LEFT_PARENTHESIS}
use Rattle.c_lexer.specs.declared.keyword.TheConstants.{SIZEOF}
use Rattle.c_syntax.proofs.BackTokens.{begins}
use Rattle.c_syntax_printing.specs.Ranks.{Stops}
use Rattle.c_syntax_printing.proofs.Precedence.{unary_low}
use Rattle.c_syntax.specs.Tree.{Prefix, pre_increment, pre_decrement, sizeof, Expr, sizeof_type, cast, prefix, unary, TypeName}
use Rattle.c_syntax.specs.Tokens.{Is, IsKeyword, IsUnary, IsPrefix}
use Rattle.c_syntax.specs.Grammar.{postfix_level, unary_level, cast_level}
use Rattle.c_syntax.specs.Grammar.{Reads, no_prefix, a_prefix, a_unary, a_sizeof_type, no_cast, a_cast, ReadsType}
use Rattle.c_syntax_printing.proofs.Ranks.{apart, not_word, heads}
use Rattle.c_syntax_printing.specs.Starts.{start}
use Rattle.c_syntax_printing.proofs.Ends.{started_word, started_unary, started_prefix, parenthesis_ends_declarator}
use Rattle.c_syntax_printing.proofs.Begins.{suffixed_begins, prefixed_inside, type_begins}
use Rattle.c_syntax_printing.proofs.Only.{Only, OnlyType}

-- a prefix operator is fixed by its token
one_prefix : (t : Token) (p q : Prefix) → IsPrefix p t → IsPrefix q t → p ≡ q
one_prefix t pre_increment pre_decrement h k = absurd (omega (arith, apart h k))
one_prefix t pre_increment sizeof h k = absurd (not_word h k)
one_prefix t pre_decrement pre_increment h k = absurd (omega (arith, apart h k))
one_prefix t pre_decrement sizeof h k = absurd (not_word h k)
one_prefix t sizeof pre_increment h k = absurd (not_word k h)
one_prefix t sizeof pre_decrement h k = absurd (not_word k h)
one_prefix t p q h k = refl

-- ++, -- and sizeof are no unary operators
prefix_apart : {op : ℕ} {t : Token} (p : Prefix) → IsPrefix p t → Is op t → IsUnary op → ⊥
prefix_apart sizeof h k u = not_word k h
prefix_apart p h k u = omega (arith, apart h k, unary_low u)

-- sizeof before a parenthesis with a type in it is no prefix operator
prefix_of_type : {d x : ℕ} {e : Expr} {n : TypeName} {o : Token} {i j k : List Token} → Reads d unary_level e (o ∷ i) j → Is LEFT_PARENTHESIS o → ReadsType x n i k → ⊥
prefix_of_type r o n = omega (arith, prefixed_inside r o, (type_begins n).0)

-- unary expressions: one without a prefix operator
pub at_no_prefix : {x : ℕ} {e f : Expr} {i j k : List Token} → 3 ≤ start i → Only postfix_level e i j → Reads x unary_level f i k → Stops unary_level k → (e ≡ f) × (j ≡ k)
at_no_prefix l h (no_prefix r) z = h.is _ _ _ r z
at_no_prefix l h (a_prefix {p = p} o r) z = absurd (omega (arith, started_prefix _ p o))
at_no_prefix l h (a_unary o u r) z = absurd (omega (arith, (started_unary o u).1))
at_no_prefix l h (a_sizeof_type o q r c) z = absurd (omega (arith, started_word o))

at_prefix : {x : ℕ} {p : Prefix} {e f : Expr} {t : Token} {i j k : List Token} → IsPrefix p t → Only unary_level e i j → Reads x unary_level f (t ∷ i) k → Stops unary_level k → ((o : Token) (m : List Token) → i ≡ o ∷ m → Is LEFT_PARENTHESIS o → start m ≤ 5) → (prefix t.from p e ≡ f) × (j ≡ k)
at_prefix {p = p} o h (no_prefix r) z n = absurd (omega (arith, (suffixed_begins r).0, started_prefix _ p o))
at_prefix {p = p} {t = t} o h (a_prefix {p = q} k r) z n = let v = h.is _ _ _ r z in (ap₂ (prefix t.from) (one_prefix _ p q o k) v.0, v.1)
at_prefix {p = p} o h (a_unary k u r) z n = absurd (prefix_apart p o k u)
at_prefix {p = p} o h (a_sizeof_type k q r c) z n = absurd (omega (arith, n _ _ refl q, (type_begins r).0))

pub only_prefix : {d : ℕ} {p : Prefix} {e : Expr} {t : Token} {i j : List Token} → IsPrefix p t → Reads d unary_level e i j → Only unary_level e i j → Only unary_level (prefix t.from p e) (t ∷ i) j
only_prefix o b h = record { is = λ x f k r z. at_prefix o h r z (λ o m q c. inside q b c) }
  where
    inside : {d : ℕ} {e : Expr} {o : Token} {i j m : List Token} → i ≡ o ∷ m → Reads d unary_level e i j → Is LEFT_PARENTHESIS o → start m ≤ 5
    inside q b c = prefixed_inside (rw q at b) c

pub at_unary : {x op : ℕ} {e f : Expr} {t : Token} {i j k : List Token} → Is op t → IsUnary op → Only cast_level e i j → Reads x unary_level f (t ∷ i) k → Stops unary_level k → (unary t.from op e ≡ f) × (j ≡ k)
at_unary o u h (no_prefix r) z = absurd (omega (arith, (suffixed_begins r).0, (started_unary o u).1))
at_unary o u h (a_prefix {p = p} k r) z = absurd (prefix_apart p k o u)
at_unary {t = t} o u h (a_unary k w r) z = let v = h.is _ _ _ r z in (ap₂ (unary t.from) (apart o k) v.0, v.1)
at_unary o u h (a_sizeof_type k q r c) z = absurd (not_word o k)

pub at_sizeof_type : {d x : ℕ} {n : TypeName} {f : Expr} {t o c : Token} {i j k : List Token} → IsKeyword SIZEOF t → Is LEFT_PARENTHESIS o → ReadsType d n i (c ∷ j) → OnlyType n i (c ∷ j) → Reads x unary_level f (t ∷ o ∷ i) k → (sizeof_type t.from n ≡ f) × (j ≡ k)
at_sizeof_type s o b h (no_prefix r) = absurd (omega (arith, (suffixed_begins r).0, started_word s))
at_sizeof_type s o b h (a_prefix k r) = absurd (prefix_of_type r o b)
at_sizeof_type s o b h (a_unary k u r) = absurd (not_word k s)
at_sizeof_type {t = t} s o b h (a_sizeof_type k q r c) = let v = h.is _ _ _ r (parenthesis_ends_declarator c) in (ap (λ n. sizeof_type t.from n) v.0, (heads v.1).1)

-- cast expressions
pub at_no_cast : {d x : ℕ} {e f : Expr} {i j k : List Token} → Reads d unary_level e i j → Only unary_level e i j → Reads x cast_level f i k → Stops cast_level k → (e ≡ f) × (j ≡ k)
at_no_cast b h (no_cast r) z = h.is _ _ _ r z
at_no_cast b h (a_cast o n c r) z = absurd (prefix_of_type b o n)

pub at_cast : {d x : ℕ} {n : TypeName} {e f : Expr} {t u : Token} {i j k m : List Token} → Is LEFT_PARENTHESIS t → ReadsType d n i (u ∷ j) → OnlyType n i (u ∷ j) → Only cast_level e j k → Reads x cast_level f (t ∷ i) m → Stops cast_level m → (cast t.from n e ≡ f) × (k ≡ m)
at_cast o b h g (no_cast r) z = absurd (prefix_of_type r o b)
at_cast {t = t} o b h g (a_cast q n c r) z =
    let v = h.is _ _ _ n (parenthesis_ends_declarator c) in
    let w = g.is _ _ _ (begins (heads v.1).1 r) z in (ap₂ (cast t.from) v.0 w.0, w.1)
