-- The kinds that a token may have are those that some text spells.
use Rattle.std.proofs.Common.{◌≡◌, ◌<◌, ◌^◌, ℕ, zero, suc, Bool, true, false, cond, List, [], ◌∷◌, ◌++◌, get_or, Some, None, refl, ap, sym, subst, inl, arith}
use Rattle.std.specs.Fmt.{decimal}
use Rattle.std.specs.Str.Parse.{IsNumeral, digits_value}
use Rattle.std.proofs.lemmas.Fmt.{decimal_is_IsNumeral, first_decimal}
use Rattle.std.proofs.lemmas.Bool.{lt-ltb}
use Rattle.std.proofs.lemmas.Bool.Decides.{nat_tests}
use Rattle.dm_base.specs.Name.{IsName}
use Rattle.c_lexer.specs.declared.token.TokenKind.{TokenKind}
use Rattle.c_lexer.specs.declared.token.TokenKind.TheVariants.{Name, Keyword, Int, Char, Str, Punct}
use Rattle.std.proofs.lemmas.Option.{slice_get-get_or}
use Rattle.c_lexer.specs.Words.{keywords, punctuators}
use Rattle.c_lexer.specs.Literals.{IsDecimal, IsSuffix, type_of}
use Rattle.c_lexer.specs.Kinds.{Spells, SpellsSome, IsKind}
use Rattle.c_lexer.proofs.KindsBegin.{zero_spelled}
use Rattle.c_lexer.proofs.WordTables.{keyword_number_below, punctuator_number_below}
use Rattle.c_lexer.proofs.LiteralKinds.{char_kind, str_kind, char_spelled, str_spelled}

pub type_unsigned : (decimal suffixed : Bool) (n : ℕ) → type_of decimal suffixed n ≡ Some true → n < 2 ^ 32
type_unsigned true true n h = grind (arith, nat_tests)
type_unsigned decimal suffixed n h = grind (arith, nat_tests)

pub type_signed : (decimal suffixed : Bool) (n : ℕ) → type_of decimal suffixed n ≡ Some false → n < 2 ^ 31
type_signed true true n h = grind (arith, nat_tests)
type_signed decimal suffixed n h = grind (arith, nat_tests)

pub kind_of_spelled : (kind : TokenKind) (w : List ℕ) → Spells kind w → IsKind kind
kind_of_spelled (Name name) w h = subst IsName (sym h.0) h.1
kind_of_spelled (Keyword k) w h = keyword_number_below k w h
kind_of_spelled (Int value true) w h = type_unsigned h.0 h.1 value h.3
kind_of_spelled (Int value false) w h = type_signed h.0 h.1 value h.3
kind_of_spelled (Char c) w h = char_kind c w h
kind_of_spelled (Str bytes) w h = str_kind bytes w h
kind_of_spelled (Punct p) w h = punctuator_number_below p w h

decimal_from_numeral : (w : List ℕ) (n : ℕ) → IsNumeral 10 w → n ≡ digits_value 10 w → 48 < get_or w 0 0 → IsDecimal w n
decimal_from_numeral [] n numeral is first = absurd (omega (arith, numeral.0))
decimal_from_numeral (d ∷ w) n numeral is first = (λ e. omega arith, numeral.1, is)

decimal_constant : (n : ℕ) → 0 < n → n < 2 ^ 64 → IsDecimal (decimal n) n
decimal_constant n some small = let numeral = decimal_is_IsNumeral n small in decimal_from_numeral (decimal n) n numeral.0 (sym numeral.1) (first_decimal n some small)

some_int : (n : ℕ) (unsigned : Bool) (suffix : List ℕ) → IsSuffix unsigned suffix → 0 < n → n < 2 ^ 64 → type_of true unsigned n ≡ Some unsigned → SpellsSome (Int n unsigned)
some_int n unsigned suffix ended some small typed =
    (decimal n ++ suffix, (true, unsigned, record { digits = decimal n; suffix = suffix; is = refl; number = decimal_constant n some small; ended = ended }, typed))

zero_unsigned : SpellsSome (Int 0 true)
zero_unsigned = (48 ∷ 117 ∷ [], (false, true, record { digits = 48 ∷ []; suffix = 117 ∷ []; is = refl; number = inl ([], refl, tt, refl); ended = inl refl }, refl))

pub kind_is_spelled : (kind : TokenKind) → IsKind kind → SpellsSome kind
unfolding keywords punctuators
kind_is_spelled (Name name) h = (name, (refl, h))
kind_is_spelled (Keyword k) h = (get_or keywords k [], slice_get-get_or keywords k [] h)
kind_is_spelled (Int zero true) h = zero_unsigned
kind_is_spelled (Int (suc n) true) h = some_int (suc n) true (117 ∷ []) (inl refl) (omega arith) (omega arith) (ap (λ t. cond t (Some true) None) (lt-ltb (suc n) (2 ^ 32) h))
kind_is_spelled (Int zero false) h = (48 ∷ [], zero_spelled)
kind_is_spelled (Int (suc n) false) h = some_int (suc n) false [] refl (omega arith) (omega arith) (ap (λ t. cond t (Some false) None) (lt-ltb (suc n) (2 ^ 31) h))
kind_is_spelled (Char c) h = char_spelled c h
kind_is_spelled (Str bytes) h = str_spelled bytes h
kind_is_spelled (Punct p) h = (get_or punctuators p [], slice_get-get_or punctuators p [] h)
