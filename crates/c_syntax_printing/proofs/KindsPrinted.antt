-- Kinds of tokens that there are, and printers of such kinds.
use Rattle.std.proofs.Common.{ℕ, ℤ, Bool, true, false, List, [], ◌∷◌, subst, sym, lit<}
use Rattle.std.proofs.lemmas.List.Elements.{All-append}
use Rattle.c_lexer.specs.declared.token.Token.{Token}
use Rattle.c_lexer.specs.declared.token.TokenKind.{TokenKind}
use Rattle.c_lexer.specs.declared.token.TokenKind.TheVariants.{Name, Int, Char, Str, Punct}
use Rattle.c_lexer.specs.Kinds.{IsKind, IsByte}
use Rattle.c_syntax.specs.Tree.{Ident, Postfix, post_increment, post_decrement, Prefix, pre_increment, Access, dot, arrow}
use Rattle.c_syntax.specs.Tokens.{Is, IsNameToken, IsInt, IsChar, IsStr}
use Rattle.c_syntax.specs.Specifiers.{Names}
use Rattle.c_syntax.specs.Grammar.{ReadsStrings, last_string, next_string}
use Rattle.c_syntax.specs.Print.{prefix_kind, postfix_kind, access_kind, wrapped}

-- some text spells each of the kinds
abbrev pub AreKinds : List TokenKind → Type 0
AreKinds [] = Unit {0}
AreKinds (kind ∷ kinds) = IsKind kind × AreKinds kinds

-- a printer of such kinds
pub record Prints (f : List TokenKind → List TokenKind) : Type 0 where
  pub put : (k : List TokenKind) → AreKinds k → AreKinds (f k)

-- the kind of a token
pub mark_kind : {op : ℕ} {t : Token} → Is op t → IsKind (Punct op)
mark_kind {op} {t} g = subst IsKind g.kind t.given

pub named_kind : {n : List ℕ} {t : Token} → IsNameToken n t → IsKind (Name n)
named_kind {n} {t} g = subst IsKind g.kind t.given

pub int_kind : {n : ℕ} {u : Bool} {t : Token} → IsInt n u t → IsKind (Int n u)
int_kind {n} {u} {t} g = subst IsKind g.kind t.given

pub char_kind : {c : ℤ} {t : Token} → IsChar c t → IsKind (Char c)
char_kind {c} {t} g = subst IsKind g.kind t.given

pub str_kind : {bytes : List ℕ} {t : Token} → IsStr bytes t → IsKind (Str bytes)
str_kind {bytes} {t} g = subst IsKind g.kind t.given

pub name_kind : {x : Ident} {t : Token} → Names x t → IsKind (Name x.name)
name_kind n = named_kind n.name

pub wraps : (b : Bool) {f : List TokenKind → List TokenKind} → Prints f → Prints (wrapped b f)
wraps true x = record { put = λ k h. x.put k h }
wraps false x = record { put = λ k h. (lit< tt, x.put _ (lit< tt, h)) }

pub strings_kind : {bytes : List ℕ} {i j : List Token} → ReadsStrings bytes i j → IsKind (Str bytes)
strings_kind (last_string h) = str_kind h
strings_kind (next_string {front = a} {rest = b} h r q) = subst (λ (x : List ℕ). IsKind (Str x)) (sym q) (All-append IsByte a b (str_kind h) (strings_kind r))

pub prefix_is : (o : Prefix) → IsKind (prefix_kind o)
prefix_is pre_increment = lit< tt
prefix_is o = lit< tt

pub postfix_is : (o : Postfix) → IsKind (postfix_kind o)
postfix_is post_increment = lit< tt
postfix_is post_decrement = lit< tt

pub access_is : (o : Access) → IsKind (access_kind o)
access_is dot = lit< tt
access_is arrow = lit< tt
