-- The words of specifiers, and strings side by side: what is taken one by one.
use Rattle.std.proofs.Common.{◌≡◌, ℕ, Bool, true, false, List, ◌∷◌, ap, sym, length, ◌<◌, ◌≤◌, arith}
use Rattle.std.specs.Prelude.{Ok}
use Rattle.c_lexer.specs.declared.token.Token.{Token}
use Rattle.c_lexer.specs.declared.keyword.TheConstants.{CONST, ENUM, INT, SIGNED, STRUCT, UNSIGNED}
use Rattle.c_syntax.specs.declared.tree.Ident.{Ident as Named}
use Rattle.c_syntax.specs.Tree.{int, unsigned_int, struct, enum}
use Rattle.c_syntax.specs.Tokens.{IsKeyword, IsStr}
use Rattle.c_syntax.specs.Specifiers.{Consts, a_const, ReadsSpec, is_signed, is_signed_int, is_unsigned, is_unsigned_int, is_struct, is_enum}
use Rattle.c_syntax.specs.Grammar.{ReadsStrings}
use Rattle.c_syntax.specs.View.{ident_of}
use Rattle.c_syntax_printing.specs.Ranks.{rank}
use Rattle.c_parser_phrases.specs.Standing.{TookKeyword, TookName, TookString}
use Rattle.c_parser_phrases.proofs.Growing.{consts_join, strings_more}

pub const_taken : {t : Token} {i j k : List Token} → IsKeyword CONST t → i ≡ t ∷ j → Consts j k → Consts i k
const_taken h q r = rw q (a_const h r)

pub consts_end : {i j k : List Token} → k ≡ j → Consts i j → Consts i k
consts_end q r = rw q r

pub consts_at : {h i j : List Token} → i ≡ j → Consts h i → Consts h j
consts_at q r = rw (sym q) r

consts_from : {i j k : List Token} → i ≡ j → Consts i k → Consts j k
consts_from q r = rw (sym q) r

pub signed_read : {t : Token} {h i j k m : List Token} (b : Bool) → Consts h (t ∷ i) → IsKeyword SIGNED t → Consts i j → TookKeyword INT b j m → Consts m k → ReadsSpec int h k
signed_read true a w c took d = is_signed_int a w (consts_at took.2 c) took.1 d
signed_read false a w c took d = is_signed a w (consts_join c (consts_from took.1 d))

pub unsigned_read : {t : Token} {h i j k m : List Token} (b : Bool) → Consts h (t ∷ i) → IsKeyword UNSIGNED t → Consts i j → TookKeyword INT b j m → Consts m k → ReadsSpec unsigned_int h k
unsigned_read true a w c took d = is_unsigned_int a w (consts_at took.2 c) took.1 d
unsigned_read false a w c took d = is_unsigned a w (consts_join c (consts_from took.1 d))

tagged : {t u : Token} {h i j : List Token} → i ≡ u ∷ j → Consts h (t ∷ i) → Consts h (t ∷ u ∷ j)
tagged q r = rw (sym q) r

pub struct_read : {x : Named} {t : Token} {h i k m : List Token} → Consts h (t ∷ i) → IsKeyword STRUCT t → TookName x i m → Consts m k → ReadsSpec (struct (ident_of x)) h k
struct_read a w n d = is_struct (tagged n.stood a) w n.names d

pub enum_read : {x : Named} {t : Token} {h i k m : List Token} → Consts h (t ∷ i) → IsKeyword ENUM t → TookName x i m → Consts m k → ReadsSpec (enum (ident_of x)) h k
enum_read a w n d = is_enum (tagged n.stood a) w n.names d

ended_strings : {bytes : List ℕ} {i j k : List Token} → j ≡ k → ReadsStrings bytes i j → ReadsStrings bytes i k
ended_strings q r = rw (sym q) r

pub string_added : {x a b : List ℕ} {s i j : List Token} (taken : Bool) → taken ≡ true → TookString (Ok taken) a b i j → ((t : Token) → IsStr x t → ReadsStrings a (t ∷ s) i) → (t : Token) → IsStr x t → ReadsStrings b (t ∷ s) j
string_added true e took r t h = rw took.4 (strings_more (ended_strings took.3 (r t h)) took.2)
string_added false e took r t h = absurd (let q : false ≡ true = e in cc)

pub string_shorter : (a b : List ℕ) (i j : List Token) (taken : Bool) → taken ≡ true → TookString (Ok taken) a b i j → length j < length i
string_shorter a b i j true e took = omega (arith, ap length took.3)
string_shorter a b i j false e took = absurd (let q : false ≡ true = e in cc)

-- no string is left
pub string_ended : (a b : List ℕ) (i j : List Token) (taken : Bool) → taken ≡ false → TookString (Ok taken) a b i j → 1 ≤ rank j
string_ended a b i j true e took = absurd (let q : true ≡ false = e in cc)
string_ended a b i j false e took = omega (arith, took.2, ap rank took.1)
