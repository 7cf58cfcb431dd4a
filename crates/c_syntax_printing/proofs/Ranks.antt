-- Facts on single tokens: what rank they have, and that no token is of two kinds.
use Rattle.std.proofs.Common.{◌≡◌, ◌≤◌, ℕ, ℤ, Bool, suc, ◌+◌, List, ◌∷◌, refl, sym, ap, ◌∙◌, arith}
use Rattle.c_lexer.specs.declared.token.Token.{Token}
use Rattle.c_lexer.specs.declared.token.TokenKind.TheVariants.{Name, Keyword, Int, Char, Str, Punct}
use Rattle.c_syntax_printing.specs.Ranks.{rank_of_code, rank_of_kind, rank}
use Rattle.c_syntax_printing.proofs.Precedence.{infix_rank, operator_low, and_level, or_level}
use Rattle.c_syntax.specs.Tree.{Ident, Infix, and, or, operator}
use Rattle.c_syntax.specs.Tokens.{Is, IsKeyword, IsNameToken, IsInt, IsChar, IsStr, IsInfix, code_of_infix, IsPostfix, IsAccess}
use Rattle.c_syntax.specs.Tree.{Postfix, post_increment, post_decrement, Access, dot, arrow}
use Rattle.c_syntax.specs.Specifiers.{Names}

-- the rank of a punctuator
pub ranked : {code : ℕ} {t : Token} → Is code t → rank_of_kind t.kind ≡ rank_of_code code
unfolding rank_of_kind
ranked h = ap rank_of_kind h.kind

-- the rank of a name
pub ranked_name : {name : List ℕ} {t : Token} → IsNameToken name t → rank_of_kind t.kind ≡ 100
unfolding rank_of_kind
ranked_name h = ap rank_of_kind h.kind

-- the rank of an integer
pub ranked_int : {n : ℕ} {unsigned : Bool} {t : Token} → IsInt n unsigned t → rank_of_kind t.kind ≡ 100
unfolding rank_of_kind
ranked_int h = ap rank_of_kind h.kind

-- the rank of a character
pub ranked_char : {c : ℤ} {t : Token} → IsChar c t → rank_of_kind t.kind ≡ 100
unfolding rank_of_kind
ranked_char h = ap rank_of_kind h.kind

-- the rank of a string
pub ranked_str : {bytes : List ℕ} {t : Token} → IsStr bytes t → rank_of_kind t.kind ≡ 0
unfolding rank_of_kind
ranked_str h = ap rank_of_kind h.kind

-- the ranks of what is one list
pub ranks : {i j : List Token} → i ≡ j → rank i ≡ rank j
ranks e = ap rank e

-- no token is two punctuators
pub apart : {code other : ℕ} {t : Token} → Is code t → Is other t → code ≡ other
apart {code} {other} h k = let e : Punct code ≡ Punct other = sym h.kind ∙ k.kind in cc

-- no token is two keywords
pub words_apart : {code other : ℕ} {t : Token} → IsKeyword code t → IsKeyword other t → code ≡ other
words_apart {code} {other} h k = let e : Keyword code ≡ Keyword other = sym h.kind ∙ k.kind in cc

-- no token is two names
pub one_name : {name other : List ℕ} {t : Token} → IsNameToken name t → IsNameToken other t → name ≡ other
one_name {name} {other} h k = let e : Name name ≡ Name other = sym h.kind ∙ k.kind in cc

-- no token is two integers
pub one_int : {n m : ℕ} {s z : Bool} {t : Token} → IsInt n s t → IsInt m z t → (n ≡ m) × (s ≡ z)
one_int {n} {m} {s} {z} h k = let e : Int n s ≡ Int m z = sym h.kind ∙ k.kind in (cc, cc)

-- no token is two characters
pub one_char : {a b : ℤ} {t : Token} → IsChar a t → IsChar b t → a ≡ b
one_char {a} {b} h k = let e : Char a ≡ Char b = sym h.kind ∙ k.kind in cc

-- no token is two strings
pub one_str : {a b : List ℕ} {t : Token} → IsStr a t → IsStr b t → a ≡ b
one_str {a} {b} h k = let e : Str a ≡ Str b = sym h.kind ∙ k.kind in cc

-- a punctuator is no keyword
pub not_word : {code word : ℕ} {t : Token} → Is code t → IsKeyword word t → ⊥
not_word {code} {word} h k = let e : Punct code ≡ Keyword word = sym h.kind ∙ k.kind in cc

-- a punctuator is no name
pub not_name : {code : ℕ} {name : List ℕ} {t : Token} → Is code t → IsNameToken name t → ⊥
not_name {code} {name} h k = let e : Punct code ≡ Name name = sym h.kind ∙ k.kind in cc

-- no token is two names with their places
pub one_ident : {a b : Ident} {t : Token} → Names a t → Names b t → a ≡ b
one_ident h k = λ i. record { name = one_name h.name k.name i; at = (h.at ∙ sym k.at) i }

-- two lists that are one have the same head and the same tail
pub heads : {t u : Token} {i j : List Token} → t ∷ i ≡ u ∷ j → (t ≡ u) × (i ≡ j)
heads e = (cc, cc)

-- an operator of the level n + 1 has the rank n + 2
pub ranked_infix : {t : Token} (n : ℕ) (o : Infix) → IsInfix o (suc n) → Is (code_of_infix o) t → rank_of_kind t.kind ≡ n + 2
ranked_infix n (operator code) h k = omega (arith, ranked k, infix_rank h)
ranked_infix n o h k = omega (arith, ranked k, infix_rank h)

-- the operator of a level is fixed by its token
pub one_infix : {t : Token} (n : ℕ) (o p : Infix) → IsInfix o (suc n) → IsInfix p (suc n) → Is (code_of_infix o) t → Is (code_of_infix p) t → o ≡ p
one_infix n and or h k l m = absurd (omega (arith, and_level h, or_level k))
one_infix n and (operator code) h k l m = absurd (omega (arith, and_level h, operator_low k))
one_infix n or and h k l m = absurd (omega (arith, or_level h, and_level k))
one_infix n or (operator code) h k l m = absurd (omega (arith, or_level h, operator_low k))
one_infix n (operator code) and h k l m = absurd (omega (arith, operator_low h, and_level k))
one_infix n (operator code) or h k l m = absurd (omega (arith, operator_low h, or_level k))
one_infix n (operator code) (operator other) h k l m = ap operator (apart l m)
one_infix n o p h k l m = refl

-- a step after an operand has the rank 1
pub ranked_postfix : (t : Token) (p : Postfix) → IsPostfix p t → rank_of_kind t.kind ≡ 1
ranked_postfix t post_increment h = ranked h
ranked_postfix t post_decrement h = ranked h

-- a point or an arrow has the rank 1
pub ranked_access : (t : Token) (a : Access) → IsAccess a t → rank_of_kind t.kind ≡ 1
ranked_access t dot h = ranked h
ranked_access t arrow h = ranked h

-- the step is fixed by its token
pub one_postfix : (t : Token) (p q : Postfix) → IsPostfix p t → IsPostfix q t → p ≡ q
one_postfix t post_increment post_decrement h k = absurd (omega (arith, apart h k))
one_postfix t post_decrement post_increment h k = absurd (omega (arith, apart h k))
one_postfix t p q h k = refl

-- the access is fixed by its token
pub one_access : (t : Token) (a b : Access) → IsAccess a t → IsAccess b t → a ≡ b
one_access t dot arrow h k = absurd (omega (arith, apart h k))
one_access t arrow dot h k = absurd (omega (arith, apart h k))
one_access t a b h k = refl

-- the numbers of ++ and --, and of . and ->
pub postfix_apart : {code : ℕ} {t : Token} (p : Postfix) → IsPostfix p t → Is code t → (8 ≤ code) × (code ≤ 9)
postfix_apart post_increment h k = (omega (arith, apart h k), omega (arith, apart h k))
postfix_apart post_decrement h k = (omega (arith, apart h k), omega (arith, apart h k))

pub access_apart : {code : ℕ} {t : Token} (a : Access) → IsAccess a t → Is code t → (6 ≤ code) × (code ≤ 7)
access_apart dot h k = (omega (arith, apart h k), omega (arith, apart h k))
access_apart arrow h k = (omega (arith, apart h k), omega (arith, apart h k))

-- a step is neither a point nor an arrow
pub step_apart : (t : Token) (p : Postfix) (a : Access) → IsPostfix p t → IsAccess a t → ⊥
step_apart t post_increment a h k = absurd (omega (arith, (access_apart a k h).1))
step_apart t post_decrement a h k = absurd (omega (arith, (access_apart a k h).1))
