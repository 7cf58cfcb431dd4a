-- Storage classes and type specifiers (C99 6.7.1, 6.7.2). The tokens from i to j spell what the relations say.
use Rattle.std.specs.Prelude.{◌≡◌, List, ◌∷◌}
use Rattle.c_lexer.specs.declared.token.Token.{Token}
use Rattle.c_lexer.specs.declared.keyword.TheConstants.{CHAR, CONST, ENUM, EXTERN, INT, SIGNED, STATIC, STRUCT, UNSIGNED, VOID}
use Rattle.c_syntax.specs.Tree.{Ident, Storage, no_storage, static, extern, Spec, void, char, unsigned_char, int, unsigned_int, struct, enum}
use Rattle.c_syntax.specs.Tokens.{IsKeyword, IsNameToken}

-- the name that the token is
pub record Names (ident : Ident) (t : Token) : Type 0 where
  pub name : IsNameToken ident.name t
  pub at : ident.at ≡ t.from

pub data ReadsStorage : Storage → List Token → List Token → Type 0 where
  no_storage_stands : {i : List Token} → ReadsStorage no_storage i i
  static_stands : {t : Token} {i : List Token} → IsKeyword STATIC t → ReadsStorage static (t ∷ i) i
  extern_stands : {t : Token} {i : List Token} → IsKeyword EXTERN t → ReadsStorage extern (t ∷ i) i

-- any number of const (6.7.3); they are not kept
pub data Consts : List Token → List Token → Type 0 where
  no_const : {i : List Token} → Consts i i
  a_const : {t : Token} {i j : List Token} → IsKeyword CONST t → Consts i j → Consts (t ∷ i) j

-- the words of the specifiers, with const before, between and after them
pub data ReadsSpec : Spec → List Token → List Token → Type 0 where
  is_void : {t : Token} {i j k : List Token} → Consts i (t ∷ j) → IsKeyword VOID t → Consts j k → ReadsSpec void i k
  is_char : {t : Token} {i j k : List Token} → Consts i (t ∷ j) → IsKeyword CHAR t → Consts j k → ReadsSpec char i k
  is_unsigned_char : {t u : Token} {i j k m : List Token} → Consts i (t ∷ j) → IsKeyword UNSIGNED t → Consts j (u ∷ k) → IsKeyword CHAR u → Consts k m → ReadsSpec unsigned_char i m
  is_int : {t : Token} {i j k : List Token} → Consts i (t ∷ j) → IsKeyword INT t → Consts j k → ReadsSpec int i k
  is_signed : {t : Token} {i j k : List Token} → Consts i (t ∷ j) → IsKeyword SIGNED t → Consts j k → ReadsSpec int i k
  is_signed_int : {t u : Token} {i j k m : List Token} → Consts i (t ∷ j) → IsKeyword SIGNED t → Consts j (u ∷ k) → IsKeyword INT u → Consts k m → ReadsSpec int i m
  is_unsigned : {t : Token} {i j k : List Token} → Consts i (t ∷ j) → IsKeyword UNSIGNED t → Consts j k → ReadsSpec unsigned_int i k
  is_unsigned_int : {t u : Token} {i j k m : List Token} → Consts i (t ∷ j) → IsKeyword UNSIGNED t → Consts j (u ∷ k) → IsKeyword INT u → Consts k m → ReadsSpec unsigned_int i m
  is_struct : {ident : Ident} {t u : Token} {i j k : List Token} → Consts i (t ∷ u ∷ j) → IsKeyword STRUCT t → Names ident u → Consts j k → ReadsSpec (struct ident) i k
  is_enum : {ident : Ident} {t u : Token} {i j k : List Token} → Consts i (t ∷ u ∷ j) → IsKeyword ENUM t → Names ident u → Consts j k → ReadsSpec (enum ident) i k
