-- Where operands fail before their suffixes, and where operators and what stands between them fail (C99 6.5).
use Rattle.std.proofs.Common.{◌≡◌, ◌≤◌, List, ◌∷◌, ◌++◌, length, refl, sym, ap, ◌∙◌, subst, arith, ℕ, []}
use Rattle.std.proofs.lemmas.List.{length-append}
use Rattle.c_lexer.specs.declared.token.Token.{Token}
use Rattle.c_lexer.specs.declared.punctuator.TheConstants.{LEFT_PARENTHESIS, RIGHT_PARENTHESIS}
use Rattle.c_lexer.specs.declared.keyword.TheConstants.{SIZEOF}
use Rattle.c_syntax.specs.Tree.{Prefix, pre_increment, pre_decrement, sizeof, Expr, a_name}
use Rattle.c_syntax.specs.Tokens.{Is, IsKeyword, IsUnary, IsPrefix}
use Rattle.c_syntax.specs.Grammar.{Level, primary_level, postfix_level, unary_level, cast_level}
use Rattle.c_syntax.specs.Grammar.{Reads, is_name, is_int, is_char, are_strings, in_parentheses, with_suffixes, no_suffix, no_prefix, a_prefix, a_unary, a_sizeof_type, no_cast, a_cast, no_comma}
use Rattle.c_syntax.specs.Limits.{height}
use Rattle.c_syntax_printing.specs.Ranks.{rank, Stops}
use Rattle.c_syntax_printing.proofs.Precedence.{unary_low}
use Rattle.c_syntax_printing.proofs.Ranks.{ranked, heads, apart, not_word, not_name}
use Rattle.c_syntax_printing.specs.Starts.{start}
use Rattle.c_syntax_printing.proofs.Ends.{started, started_word, started_int, started_char, started_prefix, started_unary, parenthesis_ends_declarator}
use Rattle.c_syntax_printing.proofs.Begins.{strings_begin, strings_rank, primary_begins, suffixed_begins, prefixed_inside, type_begins}
use Rattle.c_syntax_printing.proofs.FrameGrammar.{reads_on, type_on}
use Rattle.c_syntax_printing.proofs.One.{same, same_type}
use Rattle.c_syntax_printing.specs.Fails.{Meets, at_end, at_token, Fails, then, first, second, one}
use Rattle.c_syntax_printing.specs.Phrases.{Bound, within, Fits, fits_within, inner, AnExpr}
use Rattle.c_syntax_printing.specs.Operands.{AType, NoSuffix, no_suffix_stands, SizeofType, SizeofTail, NotCast, Past}
use Rattle.c_syntax_printing.proofs.Combine.{Fixes, on_as, fails_here, fails_as, fails_under, fails_under_alike, fails_beside, alike, twin_alike}
use Rattle.c_syntax_printing.proofs.Fills.{name_token, punctuator, name_reads}
use Rattle.c_syntax_printing.proofs.Fixed.{rank_alike, start_alike, ends_declarator_alike}
use Rattle.c_syntax_printing.proofs.StmtForms.{fits_part}

-- limits

pub fits_low : {p n d h : ℕ} → Fits (within p n) d h → (d ≤ p) × (h ≤ n)
fits_low (fits_within f g) = (f, g)

pub tall : (e : Expr) → 1 ≤ height e
tall (a_name at name) = omega arith
tall e = omega arith

-- no expression stands without a node
pub no_node_left : {p : ℕ} {l : Level} (i : List Token) → Fails (AnExpr (within p 0) l) i i
no_node_left i = fails_here (λ s m j a. omega (arith, tall a.tree, (fits_low a.fits).1))

-- primary expressions (C99 6.5.1)

-- nothing that begins an operand stands first
pub no_operand : {b : Bound} (i : List Token) → (3 ≤ start i → start i ≤ 5 → ⊥) → Fails (AnExpr b primary_level) i i
no_operand i f = fails_here (λ s m j a. let v = primary_begins a.reads in f (omega (arith, start_alike m, v.0)) (omega (arith, start_alike m, v.1)))

-- what is no string ends in one place
primary_once : {d x : ℕ} {e f : Expr} {i j k : List Token} → (rank i ≡ 0 → ⊥) → Reads d primary_level e i j → Reads x primary_level f i k → j ≡ k
primary_once n (are_strings p r) w = absurd (n (strings_rank r))
primary_once n a (are_strings p r) = absurd (n (strings_rank r))
primary_once n (is_name h) (in_parentheses o r c) = absurd (not_name o h)
primary_once n (is_int h) (in_parentheses o r c) = absurd (omega (arith, started o, started_int h))
primary_once n (is_char h) (in_parentheses o r c) = absurd (omega (arith, started o, started_char h))
primary_once n (in_parentheses o r c) (is_name h) = absurd (not_name o h)
primary_once n (in_parentheses o r c) (is_int h) = absurd (omega (arith, started o, started_int h))
primary_once n (in_parentheses o r c) (is_char h) = absurd (omega (arith, started o, started_char h))
primary_once n (in_parentheses o r c) (in_parentheses q w u) = (heads (same r w (omega (arith, ranked c)) (omega (arith, ranked u))).1).1
primary_once n a w = refl

record Stands (d : ℕ) (e : Expr) (i j : List Token) : Type 0 where
  no_string : rank i ≡ 0 → ⊥
  reads : Reads d primary_level e i j

-- a string stands after an operand that is none
pub string_follows : {b : Bound} {d : ℕ} {e : Expr} {i j : List Token} → (rank i ≡ 0 → ⊥) → Reads d primary_level e i j → rank j ≡ 0 → Fails (AnExpr b primary_level) i j
string_follows {b} {d} {e} {i} {j} n r z =
    fails_beside {R = Stands d e}
    (λ k m. let x = reads_on r k in record { tokens = x.tokens; twin = x.twin; reads = record { no_string = λ q. n (rank_alike (twin_alike x.twin m) ∙ q); reads = x.reads } })
    (λ h k l m w a. omega (arith, a.stops, rank_alike m, z, ap rank (primary_once w.no_string w.reads a.reads)))

-- a parenthesis for which no pair is left
pub no_pair_left : {n : ℕ} {t : Token} {i : List Token} → Is LEFT_PARENTHESIS t → Fails (AnExpr (within 0 n) primary_level) (t ∷ i) (t ∷ i)
no_pair_left h = fails_here (λ s m j a. none h m (fits_low a.fits).0 a.reads)
  where
    none : {t : Token} {i s j : List Token} {d : ℕ} {e : Expr} → Is LEFT_PARENTHESIS t → Meets (t ∷ i) s → d ≤ 0 → Reads d primary_level e s j → ⊥
    none h at_token l (is_name n) = not_name h n
    none h at_token l (is_int n) = omega (arith, started h, started_int n)
    none h at_token l (is_char n) = omega (arith, started h, started_char n)
    none h at_token l (are_strings p r) = omega (arith, started h, strings_begin r)
    none h at_token l (in_parentheses o r c) = omega arith

-- unary expressions (C99 6.5.3)

unary_bare_reads : {b : Bound} {d : ℕ} {e : Expr} {i j : List Token} → (1 ≤ start i → 3 ≤ start i) → Reads d unary_level e i j → Stops unary_level j → Fits b d (height e) → AnExpr b postfix_level i j
unary_bare_reads h (no_prefix r) s f = record { depth = _; tree = _; reads = r; stops = s; fits = f }
unary_bare_reads h (a_prefix {p = p} {t = t} o r) s f = absurd (omega (arith, started_prefix t p o, h (omega (arith, started_prefix t p o))))
unary_bare_reads h (a_unary o u r) s f = absurd (let v = started_unary o u in omega (arith, v.1, h v.0))
unary_bare_reads h (a_sizeof_type o l r c) s f = absurd (omega (arith, started_word o, h (omega (arith, started_word o))))

-- no prefix operator stands first
pub unary_bare : {b : Bound} {i r : List Token} → (1 ≤ start i → 3 ≤ start i) → Fails (AnExpr b postfix_level) i r → Fails (AnExpr b unary_level) i r
unary_bare h f = fails_as (λ k j m a. unary_bare_reads (λ l. omega (arith, start_alike m, h (omega (arith, start_alike m)))) a.reads a.stops a.fits) f

prefix_code : {code : ℕ} {t : Token} (p : Prefix) → IsPrefix p t → Is code t → code ≤ 9
prefix_code sizeof h k = absurd (not_word k h)
prefix_code p h k = omega (arith, apart h k)

step_reads : (b : Bound) (p : Prefix) {d : ℕ} {e : Expr} {t : Token} {i j : List Token} → IsPrefix p t → (p ≡ sizeof → ⊥) → Reads d unary_level e (t ∷ i) j → Stops unary_level j → Fits b d (height e) → AnExpr (inner b) unary_level i j
step_reads b p {t = t} h n (no_prefix r) s f = absurd (omega (arith, started_prefix t p h, (suffixed_begins r).0))
step_reads b p h n (a_prefix o r) s f = record { depth = _; tree = _; reads = r; stops = s; fits = fits_part b f (omega arith) }
step_reads b p h n (a_unary o u r) s f = absurd (omega (arith, prefix_code p h o, unary_low u))
step_reads b pre_increment h n (a_sizeof_type o l r c) s f = absurd (not_word h o)
step_reads b pre_decrement h n (a_sizeof_type o l r c) s f = absurd (not_word h o)
step_reads b sizeof h n (a_sizeof_type o l r c) s f = absurd (n refl)

-- what follows ++ or --
pub step_fails : {b : Bound} {t : Token} {i r : List Token} (p : Prefix) → IsPrefix p t → (p ≡ sizeof → ⊥) → Fails (AnExpr (inner b) unary_level) i r → Fails (AnExpr b unary_level) (t ∷ i) r
step_fails {b} p h n f = fails_under (λ k j a. step_reads b p h n a.reads a.stops a.fits) f

unary_reads : (b : Bound) {d op : ℕ} {e : Expr} {t : Token} {i j : List Token} → Is op t → IsUnary op → Reads d unary_level e (t ∷ i) j → Stops unary_level j → Fits b d (height e) → AnExpr (inner b) cast_level i j
unary_reads b h u (no_prefix r) s f = absurd (omega (arith, (started_unary h u).1, (suffixed_begins r).0))
unary_reads b h u (a_prefix {p = p} o r) s f = absurd (omega (arith, prefix_code p o h, unary_low u))
unary_reads b h u (a_unary o v r) s f = record { depth = _; tree = _; reads = r; stops = s; fits = fits_part b f (omega arith) }
unary_reads b h u (a_sizeof_type o l r c) s f = absurd (not_word h o)

-- what follows another unary operator
pub unary_fails : {b : Bound} {op : ℕ} {t : Token} {i r : List Token} → Is op t → IsUnary op → Fails (AnExpr (inner b) cast_level) i r → Fails (AnExpr b unary_level) (t ∷ i) r
unary_fails {b} h u f = fails_under (λ k j a. unary_reads b h u a.reads a.stops a.fits) f

sizeof_reads : (b : Bound) {d : ℕ} {e : Expr} {t : Token} {i j : List Token} → IsKeyword SIZEOF t → Reads d unary_level e (t ∷ i) j → Stops unary_level j → Fits b d (height e) → SizeofTail (inner b) i j
sizeof_reads b h (no_prefix r) s f = absurd (omega (arith, started_word h, (suffixed_begins r).0))
sizeof_reads b h (a_prefix o r) s f = first (record { depth = _; tree = _; reads = r; stops = s; fits = fits_part b f (omega arith) })
sizeof_reads b h (a_unary o u r) s f = absurd (not_word o h)
sizeof_reads b h (a_sizeof_type w o r c) s f =
    second (then (one o) (then (record { depth = _; tree = _; reads = r; ends = parenthesis_ends_declarator c; fits = fits_part b f (omega arith) }) (then (one c) (no_suffix_stands s))))

-- what follows `sizeof`
pub sizeof_fails : {b : Bound} {t : Token} {i r : List Token} → IsKeyword SIZEOF t → Fails (SizeofTail (inner b)) i r → Fails (AnExpr b unary_level) (t ∷ i) r
sizeof_fails {b} h f = fails_under (λ k j a. sizeof_reads b h a.reads a.stops a.fits) f

-- where a cast can stand

-- what is told by the token behind the first parenthesis stays
pub behind_alike : {i r s : List Token} (Q : ℕ → Type 0) (front : List Token) → i ≡ front ++ r → Meets r s → Past i r → ((t : Token) (j : List Token) → i ≡ t ∷ j → Is LEFT_PARENTHESIS t → Q (start j)) → (t : Token) (j : List Token) → front ++ s ≡ t ∷ j → Is LEFT_PARENTHESIS t → Q (start j)
behind_alike Q [] q at_end p n t j e h = absurd (cc)
behind_alike {r = t ∷ r} Q [] q at_token p n u j e h = let x = p.behind t r q (subst (Is LEFT_PARENTHESIS) (sym (heads e).0) h) in absurd (omega (arith, ap length x.1, length-append x.0 (t ∷ r)))
behind_alike {r = r} Q (t ∷ front) q m p n u j e h = let v = heads e in subst Q (start_alike (alike front m) ∙ ap start v.1) (n t (front ++ r) q (subst (Is LEFT_PARENTHESIS) (sym v.0) h))

-- `( x )` stands after a parenthesis that is left
pub past_there : {b : Bound} {i r : List Token} → Fits b 1 1 → Fails (AnExpr b unary_level) i r → Past i r
past_there {b} {i} {r} g f = record { behind = λ t j q h. behind f.front f.is f.none q h }
  where
    stands : {t : Token} → Is LEFT_PARENTHESIS t → AnExpr b unary_level (t ∷ name_token 0 ∷ punctuator RIGHT_PARENTHESIS (omega arith) ∷ []) []
    stands h = record {
      depth = 1;
      tree = _;
      reads = no_prefix (with_suffixes refl (in_parentheses h (no_comma (name_reads 0)) (record { kind = refl })) no_suffix);
      stops = omega arith;
      fits = g;
    }

    meets : {t : Token} {j k : List Token} → r ≡ t ∷ j → Meets r (t ∷ k)
    meets {t} {j} {k} q = subst (λ z. Meets z (t ∷ k)) (sym q) at_token

    behind : {t : Token} {j : List Token} (front : List Token) → i ≡ front ++ r → ((s : List Token) → Meets r s → (j : List Token) → AnExpr b unary_level (front ++ s) j → ⊥) → i ≡ t ∷ j → Is LEFT_PARENTHESIS t → (front : List Token) × (j ≡ front ++ r)
    behind [] e n q h = absurd (n _ (meets (sym e ∙ q)) [] (stands h))
    behind (u ∷ front) e n q h = (front, (heads (sym q ∙ e)).1)

pub type_fixes : (b c : Bound) → Fixes (AType b) (AType c)
type_fixes b c = record {
  moves = λ i j a k m. on_as (type_on a.reads k) (λ h r. record { depth = a.depth; tree = a.tree; reads = r; ends = ends_declarator_alike m a.ends; fits = a.fits });
  once = λ i j k a e. (same_type a.reads e.reads a.ends e.ends).1;
}

sizeof_uncast : {b : Bound} {k j : List Token} → NotCast k → SizeofTail b k j → AnExpr b unary_level k j
sizeof_uncast n (first a) = a
sizeof_uncast n (second (then (one o) (then a c))) = absurd (n _ _ refl o (type_begins a.reads).0)

-- after `sizeof`, where no cast stands
pub sizeof_operand : {b : Bound} {i r : List Token} → NotCast i → Past i r → Fails (AnExpr b unary_level) i r → Fails (SizeofTail b) i r
sizeof_operand {b} n p f = record { front = f.front; is = f.is; none = λ s m j a. f.none s m j (sizeof_uncast (behind_alike (λ z. 7 ≤ z → ⊥) f.front f.is m p n) a) }

sizeof_typed : {b : Bound} {t : Token} {i j : List Token} → Is LEFT_PARENTHESIS t → 7 ≤ start i → SizeofTail b (t ∷ i) j → SizeofType b i j
sizeof_typed h l (first a) = absurd (omega (arith, prefixed_inside a.reads h))
sizeof_typed h l (second (then (one o) w)) = w

-- after `sizeof`, in the parentheses round the name of a type
pub sizeof_type_fails : {b : Bound} {t : Token} {i r : List Token} → Is LEFT_PARENTHESIS t → 7 ≤ start i → Fails (SizeofType b) i r → Fails (SizeofTail b) (t ∷ i) r
sizeof_type_fails h l f = fails_under_alike (λ k j m a. sizeof_typed h (omega (arith, start_alike m, l)) a) f

-- after the name of a type in parentheses something goes on with an operand
pub suffix_after_type : (i : List Token) → rank i ≤ 1 → Fails NoSuffix i i
suffix_after_type i l = fails_here (λ s m j a. none m l a)
  where
    none : {i s j : List Token} → Meets i s → rank i ≤ 1 → NoSuffix s j → ⊥
    none m l (no_suffix_stands s) = omega (arith, rank_alike m)

-- cast expressions (C99 6.5.4)

cast_uncast : {b : Bound} {d : ℕ} {e : Expr} {k j : List Token} → NotCast k → Reads d cast_level e k j → Stops cast_level j → Fits b d (height e) → AnExpr b unary_level k j
cast_uncast n (no_cast r) s f = record { depth = _; tree = _; reads = r; stops = s; fits = f }
cast_uncast n (a_cast o t c r) s f = absurd (n _ _ refl o (type_begins t).0)

-- where no cast stands
pub cast_bare : {b : Bound} {i r : List Token} → NotCast i → Past i r → Fails (AnExpr b unary_level) i r → Fails (AnExpr b cast_level) i r
cast_bare {b} n p f = record { front = f.front; is = f.is; none = λ s m j a. f.none s m j (cast_uncast (behind_alike (λ z. 7 ≤ z → ⊥) f.front f.is m p n) a.reads a.stops a.fits) }
