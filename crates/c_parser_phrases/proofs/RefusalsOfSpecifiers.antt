-- Where names, leaves and specifiers are refused.
use Rattle.std.proofs.Common.{◌≡◌, ◌≤◌, ℕ, Bool, true, false, List, [], ◌∷◌, length, refl, sym, ap, ◌∙◌, subst, arith}
use Rattle.std.specs.Prelude.{ℤ}
use Rattle.c_lexer.specs.declared.token.Token.{Token}
use Rattle.c_lexer.specs.declared.token.TokenKind.{TokenKind}
use Rattle.c_lexer.specs.declared.token.TokenKind.TheVariants.{Name, Keyword, Int, Char, Str, Punct}
use Rattle.c_lexer.specs.declared.keyword.TheConstants.{CHAR, CONST, ENUM, INT, SIGNED, STRUCT, UNSIGNED, VOID}
use Rattle.c_syntax.specs.declared.tree.Ident.{Ident as IdentTree}
use Rattle.c_syntax.specs.Tokens.{IsKeyword}
use Rattle.c_syntax.specs.Specifiers.{Consts}
use Rattle.c_syntax_printing.specs.Ranks.{rank, rank_of_kind}
use Rattle.c_syntax_printing.proofs.Ranks.{heads, ranked_name, ranked_int, ranked_char}
use Rattle.c_syntax_printing.specs.Starts.{start, start_of_kind, EndsSpec}
use Rattle.c_syntax_printing.specs.Fails.{Fails, One}
use Rattle.c_syntax_printing.specs.Phrases.{ASpec}
use Rattle.c_syntax_printing.specs.Operands.{IsSomeName}
use Rattle.c_syntax_printing.specs.Specs.{AConsts, are_consts}
use Rattle.c_syntax_printing.proofs.Combine.{fails_at, fails_first, fails_after, missing}
use Rattle.c_syntax_printing.proofs.SpecFails.{consts_fail, void_fails, char_fails, int_fails, signed_fails, unsigned_fails, struct_fails, enum_fails, signed_bare, unsigned_bare, signed_int, unsigned_int_fails, unsigned_char_fails, end_fails, no_words}
use Rattle.c_parser_phrases.specs.declared.error.PhraseError.TheVariants.{OutOfMemory, Syntax, Nesting}
use Rattle.c_parser_phrases.specs.Standing.{IsAtKeyword, TookKeyword, TookName}
use Rattle.c_parser_phrases.specs.Reading.{LeadsSpec, IsNoLeaf}
use Rattle.c_parser_phrases.proofs.Known.{empty_rank, code_ranks}
use Rattle.c_parser_phrases.proofs.Raising.{not_at_word, ends_at}
use Rattle.c_parser_phrases.proofs.Starts.{leaf_word, leaf_code}

-- names

pub no_name_left : (i : List Token) → length i ≡ 0 → Fails (One IsSomeName) i i
no_name_left [] q = missing [] (λ t j e h. absurd (let p : [] ≡ t ∷ j = e in cc))
no_name_left (t ∷ i) q = absurd (omega (arith, q))

pub no_name_stands : {t : Token} {i j : List Token} → i ≡ t ∷ j → ((name : List ℕ) → t.kind ≡ Name name → ⊥) → Fails (One IsSomeName) i i
no_name_stands {t} {i} {j} q f = missing i (λ u k e h. let p = heads (sym q ∙ e) in f h.ident.name (ap (λ z. z.kind) p.0 ∙ h.names.name.kind))

-- leaves

pub empty_ranks : (i : List Token) → length i ≡ 0 → 1 ≤ rank i
empty_ranks i q = omega (arith, empty_rank i q)

kind_ranks : (k : TokenKind) → ((part : List ℕ) → k ≡ Str part → ⊥) → 1 ≤ rank_of_kind k
unfolding rank_of_kind
kind_ranks (Punct code) f = code_ranks code
kind_ranks (Keyword word) f = omega arith
kind_ranks (Name name) f = omega arith
kind_ranks (Int n unsigned) f = omega arith
kind_ranks (Char c) f = omega arith
kind_ranks (Str part) f = absurd (f part refl)

pub no_string_ranks : {t : Token} {i j : List Token} → i ≡ t ∷ j → ((part : List ℕ) → t.kind ≡ Str part → ⊥) → 1 ≤ rank i
no_string_ranks {t} q f = omega (arith, ap rank q, kind_ranks t.kind f)

pub leaf_no_memory : {i : List Token} → IsNoLeaf OutOfMemory i
leaf_no_memory = record { wrong = λ q. absurd (let p : OutOfMemory ≡ Syntax = q in cc); deep = λ at q. let p : OutOfMemory ≡ Nesting at = q in cc }

no_leaf_here : {i : List Token} → (start i ≡ 3 → ⊥) → (start i ≡ 5 → ⊥) → IsNoLeaf Syntax i
no_leaf_here f g = record { wrong = λ q. (f, g); deep = λ at q. let p : Syntax ≡ Nesting at = q in cc }

pub no_leaf_left : (i : List Token) → length i ≡ 0 → IsNoLeaf Syntax i
no_leaf_left [] q = no_leaf_here (λ h. omega (arith, h)) (λ h. omega (arith, h))
no_leaf_left (t ∷ i) q = absurd (omega (arith, q))

pub mark_no_leaf : {code : ℕ} {t : Token} {i j : List Token} → i ≡ t ∷ j → t.kind ≡ Punct code → IsNoLeaf Syntax i
mark_no_leaf {code} {t} q k =
    no_leaf_here (λ h. (leaf_code code).0 (sym (ap start_of_kind k) ∙ sym (ap start q) ∙ h)) (λ h. (leaf_code code).1 (sym (ap start_of_kind k) ∙ sym (ap start q) ∙ h))

pub word_no_leaf : {word : ℕ} {t : Token} {i j : List Token} → i ≡ t ∷ j → t.kind ≡ Keyword word → IsNoLeaf Syntax i
word_no_leaf {word} {t} q k =
    no_leaf_here (λ h. (leaf_word word).0 (sym (ap start_of_kind k) ∙ sym (ap start q) ∙ h)) (λ h. (leaf_word word).1 (sym (ap start_of_kind k) ∙ sym (ap start q) ∙ h))

pub name_no_string : {name : List ℕ} {t : Token} {n : ℕ} {i j : List Token} → i ≡ t ∷ j → t.kind ≡ Name name → rank i ≡ 0 → 1 ≤ n
name_no_string {name} {t} q k z = let h = ranked_name {name = name} {t = t} (record { kind = k }) in absurd (omega (arith, z, ap rank q, h))

pub int_no_string : {value : ℕ} {unsigned : Bool} {t : Token} {n : ℕ} {i j : List Token} → i ≡ t ∷ j → t.kind ≡ Int value unsigned → rank i ≡ 0 → 1 ≤ n
int_no_string {value} {unsigned} {t} q k z = let h = ranked_int {n = value} {unsigned = unsigned} {t = t} (record { kind = k }) in absurd (omega (arith, z, ap rank q, h))

pub char_no_string : {c : ℤ} {t : Token} {n : ℕ} {i j : List Token} → i ≡ t ∷ j → t.kind ≡ Char c → rank i ≡ 0 → 1 ≤ n
char_no_string {c} {t} q k z = let h = ranked_char {c = c} {t = t} (record { kind = k }) in absurd (omega (arith, z, ap rank q, h))

-- words of specifiers

consts_to : {i j m : List Token} → Consts i j → (IsAtKeyword CONST j → ⊥) → j ≡ m → AConsts i m
consts_to {i} c n q = subst (λ z. AConsts i z) q (are_consts c (not_at_word n))

pub signed_leads : (b : Bool) {t : Token} {h i j m : List Token} → h ≡ t ∷ i → IsKeyword SIGNED t → Consts i j → (IsAtKeyword CONST j → ⊥) → TookKeyword INT b j m → LeadsSpec h m
signed_leads true q w c n took r f = fails_at q (signed_fails w (signed_int (consts_to c n took.2) took.1 f))
signed_leads false q w c n took r f = fails_at q (signed_fails w (signed_bare (are_consts c (not_at_word n)) (not_at_word took.0) (fails_at (sym took.1) f)))

pub unsigned_leads : (b : Bool) {t : Token} {h i j k m : List Token} → h ≡ t ∷ i → IsKeyword UNSIGNED t → Consts i j → (IsAtKeyword CONST j → ⊥) → (IsAtKeyword CHAR j → ⊥) → k ≡ j → TookKeyword INT b k m → LeadsSpec h m
unsigned_leads true q w c n x e took r f = fails_at q (unsigned_fails w (unsigned_int_fails (consts_to c n (sym e ∙ took.2)) took.1 f))
unsigned_leads false {j = j} {k = k} q w c n x e took r f =
    let P : List Token → Type 0 = λ z. IsAtKeyword INT z → ⊥ in
    fails_at q (unsigned_fails w (unsigned_bare (are_consts c (not_at_word n)) (not_at_word (subst P e took.0)) (not_at_word x) (fails_at (sym (took.1 ∙ e)) f)))

pub unsigned_char_leads : {t u : Token} {h i j m : List Token} → h ≡ t ∷ i → IsKeyword UNSIGNED t → Consts i j → (IsAtKeyword CONST j → ⊥) → j ≡ u ∷ m → IsKeyword CHAR u → LeadsSpec h m
unsigned_char_leads q w c n e x r f = fails_at q (unsigned_fails w (unsigned_char_fails (consts_to c n e) x f))

pub void_leads : {t : Token} {h m : List Token} → h ≡ t ∷ m → IsKeyword VOID t → LeadsSpec h m
void_leads q w r f = fails_at q (void_fails w f)

pub char_leads : {t : Token} {h m : List Token} → h ≡ t ∷ m → IsKeyword CHAR t → LeadsSpec h m
char_leads q w r f = fails_at q (char_fails w f)

pub int_leads : {t : Token} {h m : List Token} → h ≡ t ∷ m → IsKeyword INT t → LeadsSpec h m
int_leads q w r f = fails_at q (int_fails w f)

pub struct_leads : {x : IdentTree} {t : Token} {h i m : List Token} → h ≡ t ∷ i → IsKeyword STRUCT t → TookName x i m → LeadsSpec h m
struct_leads q w n r f = fails_at q (struct_fails w (fails_at n.stood (fails_after f)))

pub enum_leads : {x : IdentTree} {t : Token} {h i m : List Token} → h ≡ t ∷ i → IsKeyword ENUM t → TookName x i m → LeadsSpec h m
enum_leads q w n r f = fails_at q (enum_fails w (fails_at n.stood (fails_after f)))

pub struct_nameless : {t : Token} {h i : List Token} → h ≡ t ∷ i → IsKeyword STRUCT t → (r : List Token) → Fails (One IsSomeName) i r → Fails ASpec h r
struct_nameless q w r f = fails_at q (struct_fails w (fails_first f))

pub enum_nameless : {t : Token} {h i : List Token} → h ≡ t ∷ i → IsKeyword ENUM t → (r : List Token) → Fails (One IsSomeName) i r → Fails ASpec h r
enum_nameless q w r f = fails_at q (enum_fails w (fails_first f))

pub word_from : (word : ℕ) {i j : List Token} → i ≡ j → (IsAtKeyword word i → ⊥) → IsAtKeyword word j → ⊥
word_from word q f = subst (λ z. IsAtKeyword word z → ⊥) q f

-- no word of specifiers stands there
pub no_words_stand : {i j : List Token} → j ≡ i → (IsAtKeyword CONST i → ⊥) → (IsAtKeyword VOID i → ⊥) → (IsAtKeyword CHAR i → ⊥) → (IsAtKeyword INT i → ⊥) → (IsAtKeyword SIGNED i → ⊥) → (IsAtKeyword UNSIGNED i → ⊥) → (IsAtKeyword STRUCT i → ⊥) → (IsAtKeyword ENUM i → ⊥) → Fails ASpec i j
no_words_stand {i} q a b c d e f g h =
    ends_at q
    (no_words
    i
    (record {
      no_const = not_at_word a;
      no_void = not_at_word b;
      no_char = not_at_word c;
      no_int = not_at_word d;
      no_signed = not_at_word e;
      no_unsigned = not_at_word f;
      no_struct = not_at_word g;
      no_enum = not_at_word h;
    }))

-- what stands behind the words is wrong
pub spec_unended : {h i j k : List Token} → Consts h i → LeadsSpec i j → Consts j k → (IsAtKeyword CONST k → ⊥) → (EndsSpec k → ⊥) → Fails ASpec h k
spec_unended c l d n e = consts_fail c (l _ (end_fails (are_consts d (not_at_word n)) (omega (arith, e))))
