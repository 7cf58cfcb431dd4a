-- What a phrase begins with, by a number for each token, and what a phrase of which more could be read does not end at.
use Rattle.std.proofs.Common.{◌≡◌, ◌≤◌, ℕ, ℤ, Bool, List, ap, arith}
use Rattle.c_lexer.specs.declared.token.Token.{Token}
use Rattle.c_lexer.specs.declared.punctuator.TheConstants.{COMMA, SEMICOLON, RIGHT_PARENTHESIS, LEFT_BRACE}
use Rattle.c_syntax.specs.Tree.{Prefix, sizeof}
use Rattle.c_syntax.specs.Tokens.{Is, IsKeyword, IsNameToken, IsInt, IsChar, IsStr, IsUnary, takes_address, IsPrefix}
use Rattle.c_syntax_printing.specs.Starts.{start_of_code, start_of_word, start_of_kind, start, EndsDeclarator}

pub started : {code : ℕ} {t : Token} → Is code t → start_of_kind t.kind ≡ start_of_code code
unfolding start_of_kind
started h = ap start_of_kind h.kind

pub started_word : {code : ℕ} {t : Token} → IsKeyword code t → start_of_kind t.kind ≡ start_of_word code
unfolding start_of_kind
started_word h = ap start_of_kind h.kind

pub started_name : {name : List ℕ} {t : Token} → IsNameToken name t → start_of_kind t.kind ≡ 5
unfolding start_of_kind
started_name h = ap start_of_kind h.kind

pub started_int : {n : ℕ} {unsigned : Bool} {t : Token} → IsInt n unsigned t → start_of_kind t.kind ≡ 3
unfolding start_of_kind
started_int h = ap start_of_kind h.kind

pub started_char : {c : ℤ} {t : Token} → IsChar c t → start_of_kind t.kind ≡ 3
unfolding start_of_kind
started_char h = ap start_of_kind h.kind

pub started_str : {bytes : List ℕ} {t : Token} → IsStr bytes t → start_of_kind t.kind ≡ 3
unfolding start_of_kind
started_str h = ap start_of_kind h.kind

-- the numbers of what is one list
pub starts : {i j : List Token} → i ≡ j → start i ≡ start j
starts e = ap start e

unary_code : {op : ℕ} → IsUnary op → (1 ≤ start_of_code op) × (start_of_code op ≤ 2)
unary_code takes_address = (omega arith, omega arith)
unary_code u = (omega arith, omega arith)

-- a unary operator has the number 1 or 2
pub started_unary : {op : ℕ} {t : Token} → Is op t → IsUnary op → (1 ≤ start_of_kind t.kind) × (start_of_kind t.kind ≤ 2)
started_unary h u = rw (started h) (unary_code u)

-- ++, -- and sizeof have the number 1
pub started_prefix : (t : Token) (p : Prefix) → IsPrefix p t → start_of_kind t.kind ≡ 1
started_prefix t sizeof h = started_word h
started_prefix t p h = started h

pub name_ends_spec : {name : List ℕ} {t : Token} → IsNameToken name t → start_of_kind t.kind ≤ 6
name_ends_spec h = omega (arith, started_name h)

-- what a declarator ends at: EndsDeclarator of a list that begins so
pub comma_ends_declarator : {t : Token} → Is COMMA t → start_of_kind t.kind ≤ 1
comma_ends_declarator h = omega (arith, started h)

pub semicolon_ends_declarator : {t : Token} → Is SEMICOLON t → start_of_kind t.kind ≤ 1
semicolon_ends_declarator h = omega (arith, started h)

pub parenthesis_ends_declarator : {t : Token} → Is RIGHT_PARENTHESIS t → start_of_kind t.kind ≤ 1
parenthesis_ends_declarator h = omega (arith, started h)

pub brace_ends_declarator : {t : Token} → Is LEFT_BRACE t → start_of_kind t.kind ≤ 1
brace_ends_declarator h = omega (arith, started h)
