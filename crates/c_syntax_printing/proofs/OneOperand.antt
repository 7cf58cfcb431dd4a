-- One reading of operands, which are primary and postfix expressions, each from those of its parts: at_F goes through the other
-- readings where one has the form F.
use Rattle.std.proofs.Common.{◌≡◌, ◌≤◌, ℕ, ℤ, Bool, List, ◌∷◌, ◌++◌, refl, sym, ap, ap₂, ◌∙◌, arith}
use Rattle.c_lexer.specs.declared.token.Token.{Token}
use Rattle.c_lexer.specs.declared.punctuator.TheConstants.{LEFT_BRACKET, LEFT_PARENTHESIS, RIGHT_PARENTHESIS}
use Rattle.c_syntax_printing.specs.Ranks.{rank, Stops}
use Rattle.c_syntax.specs.Tree.{Ident, Postfix, Access}
use Rattle.c_syntax.specs.Tree.{Expr, a_name, an_int, a_char, a_str, call, member, postfix, index, Exprs, no_exprs}
use Rattle.c_syntax.specs.Tokens.{Is, IsNameToken, IsInt, IsChar, place, IsPostfix, IsAccess}
use Rattle.c_syntax.specs.Specifiers.{Names}
use Rattle.c_syntax.specs.Grammar.{primary_level, postfix_level, expression_level}
use Rattle.c_syntax.specs.Grammar.{ReadsStrings, last_string, next_string, Reads, is_name, is_int, is_char, are_strings, in_parentheses, with_suffixes}
use Rattle.c_syntax.specs.Grammar.{Suffixes, no_suffix, an_index, an_empty_call, a_call, a_member, a_postfix}
use Rattle.c_syntax_printing.proofs.Ranks.{ranked, ranked_name, ranked_int, ranked_char, apart, one_name, one_int, one_char, one_str, not_name, one_ident, heads, ranked_postfix, ranked_access, one_postfix, one_access, postfix_apart, access_apart, step_apart}
use Rattle.c_syntax_printing.specs.Starts.{start}
use Rattle.c_syntax_printing.proofs.Ends.{started}
use Rattle.c_syntax_printing.proofs.Begins.{strings_rank, list_begins}
use Rattle.c_syntax_printing.proofs.Only.{Only, OnlyList, PassesSuffixes}

-- strings end in one place
pub same_strings : {a b : List ℕ} {i j k : List Token} → ReadsStrings a i j → ReadsStrings b i k → 1 ≤ rank j → 1 ≤ rank k → (a ≡ b) × (j ≡ k)
same_strings (last_string h) (last_string k) s z = (one_str h k, refl)
same_strings (last_string h) (next_string k r e) s z = absurd (omega (arith, strings_rank r))
same_strings (next_string h r e) (last_string k) s z = absurd (omega (arith, strings_rank r))
same_strings (next_string h r e) (next_string k w f) s z = let v = same_strings r w s z in (joined (one_str h k) v.0 e f, v.1)
  where
    joined : {a b c d x y : List ℕ} → a ≡ b → c ≡ d → x ≡ a ++ c → y ≡ b ++ d → x ≡ y
    joined p q e f = cc

-- primary expressions: one that is a name
pub at_name : {name : List ℕ} {x : ℕ} {f : Expr} {t : Token} {i k : List Token} → IsNameToken name t → Reads x primary_level f (t ∷ i) k → (a_name t.from name ≡ f) × (i ≡ k)
at_name {t = t} h (is_name k) = (ap (λ n. a_name t.from n) (one_name h k), refl)
at_name h (is_int k) = absurd (cc (h.kind, k.kind))
at_name h (is_char k) = absurd (cc (h.kind, k.kind))
at_name h (are_strings p r) = absurd (omega (arith, ranked_name h, strings_rank r))
at_name h (in_parentheses o r c) = absurd (not_name o h)

pub at_int : {n x : ℕ} {unsigned : Bool} {f : Expr} {t : Token} {i k : List Token} → IsInt n unsigned t → Reads x primary_level f (t ∷ i) k → (an_int t.from n unsigned ≡ f) × (i ≡ k)
at_int h (is_name k) = absurd (cc (h.kind, k.kind))
at_int h (is_int k) = let v = one_int h k in (cc, refl)
at_int h (is_char k) = absurd (cc (h.kind, k.kind))
at_int h (are_strings p r) = absurd (omega (arith, ranked_int h, strings_rank r))
at_int h (in_parentheses o r c) = absurd (omega (arith, ranked_int h, ranked o))

pub at_char : {c : ℤ} {x : ℕ} {f : Expr} {t : Token} {i k : List Token} → IsChar c t → Reads x primary_level f (t ∷ i) k → (a_char t.from c ≡ f) × (i ≡ k)
at_char h (is_name k) = absurd (cc (h.kind, k.kind))
at_char h (is_int k) = absurd (cc (h.kind, k.kind))
at_char {t = t} h (is_char k) = (ap (λ c. a_char t.from c) (one_char h k), refl)
at_char h (are_strings p r) = absurd (omega (arith, ranked_char h, strings_rank r))
at_char h (in_parentheses o r c) = absurd (omega (arith, ranked_char h, ranked o))

pub at_strings : {at x : ℕ} {bytes : List ℕ} {f : Expr} {i j k : List Token} → at ≡ place i → ReadsStrings bytes i j → 1 ≤ rank j → Reads x primary_level f i k → 1 ≤ rank k → (a_str at bytes ≡ f) × (j ≡ k)
at_strings p r s (is_name k) z = absurd (omega (arith, ranked_name k, strings_rank r))
at_strings p r s (is_int k) z = absurd (omega (arith, ranked_int k, strings_rank r))
at_strings p r s (is_char k) z = absurd (omega (arith, ranked_char k, strings_rank r))
at_strings p r s (are_strings q w) z = let v = same_strings r w s z in let o = p ∙ sym q in (cc, v.1)
at_strings p r s (in_parentheses o w c) z = absurd (omega (arith, ranked o, strings_rank r))

pub at_parentheses : {x : ℕ} {e f : Expr} {t u : Token} {i j k : List Token} → Is LEFT_PARENTHESIS t → Only expression_level e i (u ∷ j) → Reads x primary_level f (t ∷ i) k → (e ≡ f) × (j ≡ k)
at_parentheses o h (is_name k) = absurd (not_name o k)
at_parentheses o h (is_int k) = absurd (omega (arith, ranked_int k, ranked o))
at_parentheses o h (is_char k) = absurd (omega (arith, ranked_char k, ranked o))
at_parentheses o h (are_strings p r) = absurd (omega (arith, ranked o, strings_rank r))
at_parentheses o h (in_parentheses q r c) = let v = h.is _ _ _ r (omega (arith, ranked c)) in (v.0, (heads v.1).1)

-- what stands after an operand goes on with it
pub suffix_stops : {d at : ℕ} {a e : Expr} {j k : List Token} → Suffixes d at a e j k → Stops postfix_level k → Stops primary_level j
suffix_stops no_suffix s = omega arith
suffix_stops (an_index h r k c) s = omega (arith, ranked h)
suffix_stops (an_empty_call h k c) s = omega (arith, ranked h)
suffix_stops (a_call h r k c) s = omega (arith, ranked h)
suffix_stops (a_member {access = a} h n c) s = omega (arith, ranked_access _ a h)
suffix_stops (a_postfix {p = p} h c) s = omega (arith, ranked_postfix _ p h)

pub moved_suffixes : {d at it : ℕ} {a b e : Expr} {i j k : List Token} → at ≡ it → a ≡ b → i ≡ j → Suffixes d it b e j k → Suffixes d at a e i k
moved_suffixes o p q r = rw (o, p, q) r

-- suffixes: none
at_no_suffix : {x at : ℕ} {a f : Expr} {j k : List Token} → Stops postfix_level j → Suffixes x at a f j k → (a ≡ f) × (j ≡ k)
at_no_suffix s no_suffix = (refl, refl)
at_no_suffix s (an_index h r k c) = absurd (omega (arith, ranked h))
at_no_suffix s (an_empty_call h k c) = absurd (omega (arith, ranked h))
at_no_suffix s (a_call h r k c) = absurd (omega (arith, ranked h))
at_no_suffix s (a_member {access = a} h n c) = absurd (omega (arith, ranked_access _ a h))
at_no_suffix s (a_postfix {p = p} h c) = absurd (omega (arith, ranked_postfix _ p h))

pub at_suffixed : {at x : ℕ} {a e f : Expr} {i j k m : List Token} → at ≡ place i → Only primary_level a i j → PassesSuffixes at a e j k → Stops postfix_level k → Reads x postfix_level f i m → Stops postfix_level m → (e ≡ f) × (k ≡ m)
at_suffixed p h c s (with_suffixes q r w) z = let u = h.is _ _ _ r (suffix_stops w z) in at_no_suffix s (c.is _ _ _ (moved_suffixes (p ∙ sym q) u.0 u.1 w) z)

pub at_index : {x at : ℕ} {a b e f : Expr} {t u : Token} {i j k m : List Token} → Is LEFT_BRACKET t → Only expression_level b i (u ∷ j) → PassesSuffixes at (index at a b) e j k → Suffixes x at a f (t ∷ i) m → Stops postfix_level m → Suffixes x at e f k m
at_index o h c no_suffix z = absurd (omega (arith, ranked o))
at_index {at = at} {a = a} o h c (an_index q r p w) z =
    let v = h.is _ _ _ r (omega (arith, ranked p)) in c.is _ _ _ (moved_suffixes refl (ap (λ b. index at a b) v.0) (heads v.1).1 w) z
at_index o h c (an_empty_call q p w) z = absurd (omega (arith, apart o q))
at_index o h c (a_call q r p w) z = absurd (omega (arith, apart o q))
at_index o h c (a_member {access = a} q n w) z = absurd (omega (arith, (access_apart a q o).0))
at_index o h c (a_postfix {p = p} q w) z = absurd (omega (arith, (postfix_apart p q o).0))

pub at_empty_call : {x at : ℕ} {a e f : Expr} {t u : Token} {i k m : List Token} → Is LEFT_PARENTHESIS t → Is RIGHT_PARENTHESIS u → PassesSuffixes at (call at a no_exprs) e i k → Suffixes x at a f (t ∷ u ∷ i) m → Stops postfix_level m → Suffixes x at e f k m
at_empty_call o h c no_suffix z = absurd (omega (arith, ranked o))
at_empty_call o h c (an_index q r p w) z = absurd (omega (arith, apart o q))
at_empty_call o h c (an_empty_call q p w) z = c.is _ _ _ w z
at_empty_call o h c (a_call q r p w) z = absurd (omega (arith, (list_begins r).0, started h))
at_empty_call o h c (a_member {access = a} q n w) z = absurd (omega (arith, (access_apart a q o).0))
at_empty_call o h c (a_postfix {p = p} q w) z = absurd (omega (arith, (postfix_apart p q o).0))

pub at_call : {x at : ℕ} {a e f : Expr} {bs : Exprs} {t u : Token} {i j k m : List Token} → Is LEFT_PARENTHESIS t → 1 ≤ start i → OnlyList bs i (u ∷ j) → PassesSuffixes at (call at a bs) e j k → Suffixes x at a f (t ∷ i) m → Stops postfix_level m → Suffixes x at e f k m
at_call o l h c no_suffix z = absurd (omega (arith, ranked o))
at_call o l h c (an_index q r p w) z = absurd (omega (arith, apart o q))
at_call o l h c (an_empty_call q p w) z = absurd (omega (arith, started p))
at_call {at = at} {a = a} o l h c (a_call q r p w) z =
    let v = h.is _ _ _ r (omega (arith, ranked p)) in c.is _ _ _ (moved_suffixes refl (ap (λ bs. call at a bs) v.0) (heads v.1).1 w) z
at_call o l h c (a_member {access = a} q n w) z = absurd (omega (arith, (access_apart a q o).0))
at_call o l h c (a_postfix {p = p} q w) z = absurd (omega (arith, (postfix_apart p q o).0))

pub at_member : {x at : ℕ} {access : Access} {ident : Ident} {a e f : Expr} {t u : Token} {i k m : List Token} → IsAccess access t → Names ident u → PassesSuffixes at (member at access a ident) e i k → Suffixes x at a f (t ∷ u ∷ i) m → Stops postfix_level m → Suffixes x at e f k m
at_member {access = b} h n c no_suffix z = absurd (omega (arith, ranked_access _ b h))
at_member {access = b} h n c (an_index q r p w) z = absurd (omega (arith, (access_apart b h q).0))
at_member {access = b} h n c (an_empty_call q p w) z = absurd (omega (arith, (access_apart b h q).0))
at_member {access = b} h n c (a_call q r p w) z = absurd (omega (arith, (access_apart b h q).0))
at_member {at = at} {access = b} {a = a} h n c (a_member {access = y} q p w) z = c.is _ _ _ (moved_suffixes refl (ap₂ (λ (i : Access) (m : Ident). member at i a m) (one_access _ b y h q) (one_ident n p)) refl w) z
at_member {access = b} h n c (a_postfix {p = p} q w) z = absurd (step_apart _ p b q h)

pub at_postfix : {x at : ℕ} {p : Postfix} {a e f : Expr} {t : Token} {i k m : List Token} → IsPostfix p t → PassesSuffixes at (postfix at p a) e i k → Suffixes x at a f (t ∷ i) m → Stops postfix_level m → Suffixes x at e f k m
at_postfix {p = p} h c no_suffix z = absurd (omega (arith, ranked_postfix _ p h))
at_postfix {p = p} h c (an_index q r o w) z = absurd (omega (arith, (postfix_apart p h q).0))
at_postfix {p = p} h c (an_empty_call q o w) z = absurd (omega (arith, (postfix_apart p h q).0))
at_postfix {p = p} h c (a_call q r o w) z = absurd (omega (arith, (postfix_apart p h q).0))
at_postfix {p = p} h c (a_member {access = b} q n w) z = absurd (step_apart _ p b h q)
at_postfix {at = at} {p = p} {a = a} h c (a_postfix {p = y} q w) z = c.is _ _ _ (moved_suffixes refl (ap (λ p. postfix at p a) (one_postfix _ p y h q)) refl w) z
