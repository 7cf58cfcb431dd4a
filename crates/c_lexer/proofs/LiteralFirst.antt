-- Only a literal begins with a quote.
use Rattle.std.proofs.Common.{◌≡◌, ℕ, ℤ, List, ◌∷◌, ◌++◌, refl, inl, inr, arith}
use Rattle.std.specs.Prelude.{All}
use Rattle.c_lexer.specs.declared.token.TokenKind.{TokenKind}
use Rattle.c_lexer.specs.declared.token.TokenKind.TheVariants.{Char, Str, Punct}
use Rattle.c_lexer.specs.Literals.{IsCharacter, IsString, char_value}
use Rattle.c_lexer.specs.Kinds.{IsByte, Spells, IsLexeme}
use Rattle.dm_base.specs.Name.{IsLetter, IsDigit}
use Rattle.c_lexer.specs.Words.{IsWordByte, IsNumberByte}
use Rattle.c_lexer.specs.Parts.{IsOther}
use Rattle.c_lexer.proofs.KindsBegin.{front_has, run_begins, character_begins, string_begins, FirstOf, spelled_first}
use Rattle.c_lexer.proofs.KindsRuns.{letter_no_quote, digit_no_quote}
use Rattle.c_lexer.proofs.WordTables.{punctuator_begins}

-- what begins with a single quote is a character constant
single_kind : (kind : TokenKind) (w : List ℕ) → FirstOf kind 39 → Spells kind w → (c : ℤ) × (v : ℕ) × (kind ≡ Char c) × IsCharacter w v × IsByte v × (c ≡ char_value v)
single_kind (Char c) w first (v, is, byte, value) = (c, v, refl, is, byte, value)
single_kind (Punct p) w first _ = absurd (first.other.no_single refl)
single_kind kind w first _ = absurd (grind arith)

pub single_quoted : (kind : TokenKind) (w r i : List ℕ) → Spells kind w → w ++ r ≡ 39 ∷ i → (c : ℤ) × (v : ℕ) × (kind ≡ Char c) × IsCharacter w v × IsByte v × (c ≡ char_value v)
single_quoted kind w r i h e = single_kind kind w (spelled_first kind w r i 39 h e) h

-- what begins with a double quote is a string literal
double_kind : (kind : TokenKind) (w : List ℕ) → FirstOf kind 34 → Spells kind w → (bytes : List ℕ) × (kind ≡ Str bytes) × IsString w bytes × All IsByte bytes
double_kind (Str bytes) w first h = (bytes, refl, h.0, h.1)
double_kind (Punct p) w first _ = absurd (first.other.no_double refl)
double_kind kind w first _ = absurd (grind arith)

pub double_quoted : (kind : TokenKind) (w r i : List ℕ) → Spells kind w → w ++ r ≡ 34 ∷ i → (bytes : List ℕ) × (kind ≡ Str bytes) × IsString w bytes × All IsByte bytes
double_quoted kind w r i h e = double_kind kind w (spelled_first kind w r i 34 h e) h

-- the same of what is taken whole
pub single_lexeme : (w r i : List ℕ) → IsLexeme w → w ++ r ≡ 39 ∷ i → (v : ℕ) × IsCharacter w v
single_lexeme w r i (inl h) e = absurd (letter_no_quote 39 (front_has IsLetter w r i 39 (run_begins IsLetter IsWordByte w h) e) (inl refl))
single_lexeme w r i (inr (inl h)) e = absurd (digit_no_quote 39 (front_has IsDigit w r i 39 (run_begins IsDigit IsNumberByte w h) e) (inl refl))
single_lexeme w r i (inr (inr (inl h))) e = h
single_lexeme w r i (inr (inr (inr (inl (vs, h))))) e = absurd (let q : 39 ≡ 34 = front_has (λ b. b ≡ 34) w r i 39 (string_begins w vs h) e in omega arith)
single_lexeme w r i (inr (inr (inr (inr h)))) e = absurd ((front_has IsOther w r i 39 (punctuator_begins w h) e).no_single refl)

pub double_lexeme : (w r i : List ℕ) → IsLexeme w → w ++ r ≡ 34 ∷ i → (vs : List ℕ) × IsString w vs
double_lexeme w r i (inl h) e = absurd (letter_no_quote 34 (front_has IsLetter w r i 34 (run_begins IsLetter IsWordByte w h) e) (inr refl))
double_lexeme w r i (inr (inl h)) e = absurd (digit_no_quote 34 (front_has IsDigit w r i 34 (run_begins IsDigit IsNumberByte w h) e) (inr refl))
double_lexeme w r i (inr (inr (inl (v, h)))) e = absurd (let q : 34 ≡ 39 = front_has (λ b. b ≡ 39) w r i 34 (character_begins w v h) e in omega arith)
double_lexeme w r i (inr (inr (inr (inl h)))) e = h
double_lexeme w r i (inr (inr (inr (inr h)))) e = absurd ((front_has IsOther w r i 34 (punctuator_begins w h) e).no_double refl)
