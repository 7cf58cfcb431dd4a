-- Which kinds of token can stand first in a phrase. Each kind has a number: a phrase is told by the number of its first token.
use Rattle.std.proofs.Common.{◌≡◌, ℕ, List, ◌∷◌, refl, ap, ◌∙◌, arith}
use Rattle.c_lexer.specs.declared.token.Token.{Token}
use Rattle.c_lexer.specs.declared.keyword.TheConstants.{ENUM}
use Rattle.c_syntax.specs.Tree.{Ident, Storage, Spec, Expr, Declarator, Prefix, sizeof}
use Rattle.c_syntax.specs.Tokens.{Is, IsKeyword, IsNameToken, IsUnary, takes_address, IsPrefix}
use Rattle.c_syntax.specs.Specifiers.{Names, Consts, no_const, a_const, ReadsStorage, no_storage_stands, static_stands, extern_stands}
use Rattle.c_syntax.specs.Specifiers.{ReadsSpec, is_void, is_char, is_unsigned_char, is_int, is_signed, is_signed_int, is_unsigned, is_unsigned_int, is_struct, is_enum}
use Rattle.c_syntax.specs.Grammar.{Level, HasName, ReadsStrings, last_string, next_string, Reads, is_name, are_strings, in_parentheses, with_suffixes, no_prefix, a_prefix, a_unary, a_sizeof_type, no_cast, a_cast, no_chain, a_chain, no_choice, a_choice, no_assignment, an_assignment, no_comma, a_comma}
use Rattle.c_syntax.specs.Grammar.Reads.{is_int as int_stands, is_char as char_stands}
use Rattle.c_syntax.specs.Grammar.{Declares, a_pointer, a_direct, ReadsCore, a_declared, declarator_in_parentheses, no_core, Lengthens, no_more, an_array, a_function}
use Rattle.c_syntax_printing.proofs.Ranks.{words_apart}
use Rattle.c_syntax_printing.specs.Heads.{head_of_code, head_of_word, head_of_kind, head}

pub headed : {code : ℕ} {t : Token} → Is code t → head_of_kind t.kind ≡ head_of_code code
unfolding head_of_kind
headed h = ap head_of_kind h.kind

pub worded : {word : ℕ} {t : Token} → IsKeyword word t → head_of_kind t.kind ≡ head_of_word word
unfolding head_of_kind
worded h = ap head_of_kind h.kind

pub named : {name : List ℕ} {t : Token} → IsNameToken name t → head_of_kind t.kind ≡ 20
unfolding head_of_kind
named h = ap head_of_kind h.kind

unary_code : {op : ℕ} → IsUnary op → head_of_code op ≡ 20
unary_code takes_address = refl
unary_code u = refl

prefix_heads : (p : Prefix) (t : Token) → IsPrefix p t → head_of_kind t.kind ≡ 20
prefix_heads sizeof t h = worded h
prefix_heads p t h = headed h

strings_head : {bytes : List ℕ} {i j : List Token} → ReadsStrings bytes i j → head i ≡ 20
unfolding head_of_kind
strings_head (last_string h) = ap head_of_kind h.kind
strings_head (next_string h r p) = ap head_of_kind h.kind

-- what an expression begins with
pub expression_head : {d : ℕ} {l : Level} {e : Expr} {i j : List Token} → Reads d l e i j → head i ≡ 20
unfolding head_of_kind
expression_head (is_name h) = named h
expression_head (int_stands h) = ap head_of_kind h.kind
expression_head (char_stands h) = ap head_of_kind h.kind
expression_head (are_strings p r) = strings_head r
expression_head (in_parentheses o r c) = headed o
expression_head (with_suffixes p r c) = expression_head r
expression_head (no_prefix r) = expression_head r
expression_head (a_prefix {p = p} {t = t} h r) = prefix_heads p t h
expression_head (a_unary h p r) = headed h ∙ unary_code p
expression_head (a_sizeof_type w o r c) = worded w
expression_head (no_cast r) = expression_head r
expression_head (a_cast o n c r) = headed o
expression_head (no_chain r) = expression_head r
expression_head (a_chain p r c) = expression_head r
expression_head (no_choice r) = expression_head r
expression_head (a_choice p r q b c e) = expression_head r
expression_head (no_assignment r) = expression_head r
expression_head (an_assignment p r o q b) = expression_head r
expression_head (no_comma r) = expression_head r
expression_head (a_comma p r c b) = expression_head r

consts_head : {t : Token} {i j : List Token} → Consts i (t ∷ j) → head_of_kind t.kind ≡ 2 → head i ≡ 2
consts_head no_const h = h
consts_head (a_const w c) h = worded w

-- what the specifiers begin with
pub spec_head : {s : Spec} {i j : List Token} → ReadsSpec s i j → head i ≡ 2
spec_head (is_void c w a) = consts_head c (worded w)
spec_head (is_char c w a) = consts_head c (worded w)
spec_head (is_unsigned_char c w a v b) = consts_head c (worded w)
spec_head (is_int c w a) = consts_head c (worded w)
spec_head (is_signed c w a) = consts_head c (worded w)
spec_head (is_signed_int c w a v b) = consts_head c (worded w)
spec_head (is_unsigned c w a) = consts_head c (worded w)
spec_head (is_unsigned_int c w a v b) = consts_head c (worded w)
spec_head (is_struct c w n a) = consts_head c (worded w)
spec_head (is_enum c w n a) = consts_head c (worded w)

pub lengthened_name : {d at : ℕ} {a e : Declarator} {j k : List Token} → Lengthens d at a e j k → HasName e → HasName a
lengthened_name no_more h = h
lengthened_name (an_array o s c r) h = lengthened_name r h
lengthened_name (a_function o s c r) h = lengthened_name r h

-- what a declarator with a name begins with
pub declarator_head : {d : ℕ} {e : Declarator} {i j : List Token} → Declares d e i j → HasName e → head i ≡ 20
declarator_head (a_pointer o c r) h = headed o
declarator_head (a_direct p c r) h = core_head c (lengthened_name r h)
  where
    core_head : {d : ℕ} {e : Declarator} {i j : List Token} → ReadsCore d e i j → HasName e → head i ≡ 20
    core_head (a_declared n) h = named n.name
    core_head (declarator_in_parentheses o r f c) h = headed o
    core_head no_core h = absurd h

pub name_head : {ident : Ident} {t : Token} → Names ident t → head_of_kind t.kind ≡ 20
name_head n = named n.name

-- a storage class where none stands
pub no_storage_at : {st : Storage} {i j : List Token} → ReadsStorage st i j → head i ≡ 2 → i ≡ j
no_storage_at no_storage_stands h = refl
no_storage_at (static_stands w) h = absurd (omega (arith, worded w))
no_storage_at (extern_stands w) h = absurd (omega (arith, worded w))

pub consts_enum : {t v : Token} {i j : List Token} → Consts (t ∷ i) (v ∷ j) → IsKeyword ENUM t → v ∷ j ≡ t ∷ i
consts_enum no_const h = refl
consts_enum (a_const w c) h = absurd (omega (arith, words_apart h w))
