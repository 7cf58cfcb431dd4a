-- A text spells one kind.
use Rattle.std.proofs.Common.{◌≡◌, ℕ, List, ap, sym, ◌∙◌, arith}
use Rattle.c_lexer.specs.declared.token.TokenKind.{TokenKind}
use Rattle.c_lexer.specs.declared.token.TokenKind.TheVariants.{Name, Keyword, Int, Char, Str, Punct}
use Rattle.c_lexer.specs.Literals.{char_value}
use Rattle.c_lexer.specs.Kinds.{Spells}
use Rattle.c_lexer.specs.Words.{keywords}
use Rattle.c_lexer.proofs.KindsBegin.{first_apart, FirstOf, begins}
use Rattle.c_lexer.proofs.OneTokenNumbers.{one_type}
use Rattle.c_lexer.proofs.LiteralOne.{one_string, one_character}
use Rattle.c_lexer.proofs.OneTokenTables.{one_keyword, one_punctuator}
use Rattle.c_lexer.proofs.WordTables.{number_Contains, keyword_is_c99}

-- texts with other first bytes are others
clash : (kind other : TokenKind) (w : List ℕ) → ((b : ℕ) → FirstOf kind b → FirstOf other b → ⊥) → Spells kind w → Spells other w → ⊥
clash kind other w apart p q = first_apart (FirstOf kind) (FirstOf other) w apart (begins kind w p) (begins other w q)

-- what a punctuator spells no other kind does
mark_kind : (kind : TokenKind) (p : ℕ) (w : List ℕ) → Spells (Punct p) w → Spells kind w → Punct p ≡ kind
mark_kind (Int n u) p w h k = absurd (clash (Punct p) (Int n u) w (λ b m d. m.other.no_digit d) h k)
mark_kind (Char c) p w h k = absurd (clash (Punct p) (Char c) w (λ b m e. m.other.no_single e) h k)
mark_kind (Str s) p w h k = absurd (clash (Punct p) (Str s) w (λ b m e. m.other.no_double e) h k)
mark_kind (Punct n) p w h k = ap Punct (one_punctuator p n w h k)
mark_kind kind p w h k = absurd (clash (Punct p) kind w (λ b m l. m.other.no_letter l) h k)

-- names and keywords
no_keyword : (name : List ℕ) (k : ℕ) (w : List ℕ) → Spells (Name name) w → Spells (Keyword k) w → ⊥
no_keyword name k w (is, named) at = named.free (keyword_is_c99 w (number_Contains keywords k w at))

-- a text spells one kind
pub one_kind : (kind other : TokenKind) (w : List ℕ) → Spells kind w → Spells other w → kind ≡ other
one_kind (Punct m) other w p q = mark_kind other m w p q
one_kind kind (Punct m) w p q = sym (mark_kind kind m w q p)
one_kind (Name a) (Name b) w p q = ap Name (p.0 ∙ sym q.0)
one_kind (Name a) (Keyword k) w p q = absurd (no_keyword a k w p q)
one_kind (Keyword k) (Name a) w p q = absurd (no_keyword a k w q p)
one_kind (Keyword k) (Keyword l) w p q = ap Keyword (one_keyword k l w p q)
one_kind (Int n u) (Int m v) w (a, b, constant, typed) (c, d, constant', typed') =
    let one = one_type w n m a b c d u v constant typed constant' typed' in
    let number : n ≡ m = one.0 in
    let unsigned : u ≡ v = one.1 in
    cc
one_kind (Char c) (Char d) w (v, character, byte, value) (u, character', byte', value') = ap Char (value ∙ ap char_value (one_character character character') ∙ sym value')
one_kind (Str s) (Str t) w p q = ap Str (one_string p.0 q.0)
one_kind kind other w p q = absurd (clash kind other w (λ b x y. grind arith) p q)
