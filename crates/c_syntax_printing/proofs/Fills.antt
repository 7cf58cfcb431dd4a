-- Tokens with which phrases can go on.
use Rattle.std.proofs.Common.{◌<◌, List, ◌∷◌, refl, ℕ, []}
use Rattle.c_lexer.specs.declared.token.Token.{Token}
use Rattle.c_lexer.specs.declared.token.TokenKind.TheVariants.{Name, Keyword, Punct}
use Rattle.c_syntax.specs.Tree.{a_name}
use Rattle.c_syntax.specs.Grammar.{unary_level, binary_level, conditional_level, assignment_level, Reads, is_name, with_suffixes, no_suffix, no_prefix, no_cast, no_choice, no_assignment}
use Rattle.c_syntax.proofs.BackTokens.{chained_up}
pub use Rattle.c_syntax_printing.proofs.LetterNames.{s_is_name}

-- a name at the place
abbrev pub name_token : ℕ → Token
name_token at = record { kind = Name (115 ∷ []); from = at; to = at; given = s_is_name }

abbrev pub punctuator : (code : ℕ) → code < 45 → Token
punctuator code l = record { kind = Punct code; from = 0; to = 0; given = l }

abbrev pub word : (code : ℕ) → code < 22 → Token
word code l = record { kind = Keyword code; from = 0; to = 0; given = l }

pub name_unary : {d : ℕ} (at : ℕ) {m : List Token} → Reads d unary_level (a_name at (115 ∷ [])) (name_token at ∷ m) m
name_unary at = no_prefix (with_suffixes refl (is_name (record { kind = refl })) no_suffix)

pub name_chain : {d : ℕ} (at n : ℕ) {m : List Token} → Reads d (binary_level n) (a_name at (115 ∷ [])) (name_token at ∷ m) m
name_chain at n = chained_up n (no_cast (name_unary at))

pub name_chooses : {d : ℕ} (at : ℕ) {m : List Token} → Reads d conditional_level (a_name at (115 ∷ [])) (name_token at ∷ m) m
name_chooses at = no_choice (name_chain at 10)

pub name_reads : {d : ℕ} (at : ℕ) {m : List Token} → Reads d assignment_level (a_name at (115 ∷ [])) (name_token at ∷ m) m
name_reads at = no_assignment (name_chooses at)
