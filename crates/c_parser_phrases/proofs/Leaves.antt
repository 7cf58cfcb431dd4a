-- Names, constants and strings: what is read of them.
use Rattle.std.proofs.Common.{◌≡◌, ℕ, Bool, List, ◌∷◌, refl, sym, ap, ◌∙◌, subst}
use Rattle.std.specs.Prelude.{ℤ}
use Rattle.c_lexer.specs.declared.token.Token.{Token}
use Rattle.c_lexer.specs.declared.token.TokenKind.TheVariants.{Name, Int, Char, Str}
use Rattle.c_syntax.specs.Tree.{Expr, a_name, an_int, a_char, a_str}
use Rattle.c_syntax.specs.Tokens.{IsStr}
use Rattle.c_syntax.specs.Grammar.{primary_level, Reads, is_name, are_strings, ReadsStrings}
use Rattle.c_syntax.specs.Grammar.Reads.{is_int as int_stands, is_char as char_stands}
use Rattle.c_parser_phrases.specs.declared.depth.MeasuredExpr.{MeasuredExpr}
use Rattle.std.specs.Prelude.{Result, Ok, Err}
use Rattle.c_parser_phrases.specs.declared.error.PhraseError.{PhraseError}
use Rattle.c_parser_phrases.specs.Making.{tree_of, Makes}
use Rattle.c_parser_phrases.specs.Reading.{ParsesLeaf, RefusesLeaf, IsNoLeaf}
use Rattle.c_parser_phrases.proofs.RefusalsOfSpecifiers.{leaf_no_memory}

pub leaf_made : {tree : Expr} {i j : List Token} (r : Result MeasuredExpr PhraseError) → Makes r tree → ((d : ℕ) → Reads d primary_level tree i j) → ParsesLeaf r i j
leaf_made {i = i} {j = j} (Ok m) h f = λ d. let P : Expr → Type 0 = λ z. Reads d primary_level z i j in subst P (sym h) (f d)
leaf_made (Err e) h f = tt

pub leaf_refuses : (i : List Token) (tree : Expr) (r : Result MeasuredExpr PhraseError) → Makes r tree → RefusesLeaf r i
leaf_refuses i tree (Ok m) h = tt
leaf_refuses i tree (Err e) h = subst (λ z. IsNoLeaf z i) (sym h) leaf_no_memory

pub name_read : {name : List ℕ} {t : Token} {i j : List Token} → i ≡ t ∷ j → t.kind ≡ Name name → (d : ℕ) → Reads d primary_level (a_name t.from name) i j
name_read q k d = rw q (is_name (record { kind = k }))

pub int_read : {value : ℕ} {unsigned : Bool} {t : Token} {i j : List Token} → i ≡ t ∷ j → t.kind ≡ Int value unsigned → (d : ℕ) → Reads d primary_level (an_int t.from value unsigned) i j
int_read q k d = rw q (int_stands (record { kind = k }))

pub char_read : {c : ℤ} {t : Token} {i j : List Token} → i ≡ t ∷ j → t.kind ≡ Char c → (d : ℕ) → Reads d primary_level (a_char t.from c) i j
char_read q k d = rw q (char_stands (record { kind = k }))

pub strings_read : {part first bytes : List ℕ} {t : Token} {i j k : List Token} → i ≡ t ∷ j → t.kind ≡ Str part → first ≡ part → ((u : Token) → IsStr first u → ReadsStrings bytes (u ∷ j) k) → (d : ℕ) → Reads d primary_level (a_str t.from bytes) i k
strings_read {t = t} q k e f d = rw q (are_strings refl (f t (record { kind = k ∙ ap Str (sym e) })))
