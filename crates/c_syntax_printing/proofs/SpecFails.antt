-- Where specifiers fail (C99 6.7.2, 6.7.3).
use Rattle.std.proofs.Common.{◌≡◌, ◌≤◌, List, ◌∷◌, refl, subst, arith, ℕ}
use Rattle.c_lexer.specs.declared.token.Token.{Token}
use Rattle.c_lexer.specs.declared.keyword.TheConstants.{CHAR, CONST, ENUM, INT, SIGNED, STRUCT, UNSIGNED, VOID}
use Rattle.c_syntax.specs.Tree.{Spec}
use Rattle.c_syntax.specs.Tokens.{IsKeyword}
use Rattle.c_syntax.specs.Specifiers.{Consts, no_const, a_const, ReadsSpec, is_void, is_char, is_unsigned_char, is_int, is_signed, is_signed_int, is_unsigned, is_unsigned_int, is_struct, is_enum}
use Rattle.c_syntax_printing.proofs.Ranks.{words_apart, heads}
use Rattle.c_syntax_printing.specs.Starts.{start, EndsSpec}
use Rattle.c_syntax_printing.proofs.Ends.{started_word}
use Rattle.c_syntax_printing.specs.Twins.{On}
use Rattle.c_syntax_printing.proofs.FrameSpecifiers.{consts_on}
use Rattle.c_syntax_printing.specs.Fails.{Fails, Meets, then, Or, first, second, one, NotAt}
use Rattle.c_syntax_printing.specs.Phrases.{ASpec}
use Rattle.c_syntax_printing.specs.Operands.{IsSomeName}
use Rattle.c_syntax_printing.specs.Specs.{AConsts, are_consts, NoSpec, no_spec, SpecEnd, SignedTail, UnsignedTail, TagTail, NoTypeWord}
use Rattle.c_syntax_printing.proofs.Combine.{Fixes, fails_both, fails_not_or, fails_or_not, fails_after, other_token, at_same, fails_here, fails_as, fails_later, fails_under, fails_missing, not_at_alike}
use Rattle.c_syntax_printing.proofs.Fixed.{start_alike}

-- const words end in one place

same_consts : {i j k : List Token} → Consts i j → Consts i k → NotAt (IsKeyword CONST) j → NotAt (IsKeyword CONST) k → j ≡ k
same_consts no_const no_const s z = refl
same_consts no_const (a_const h c) s z = absurd (s _ _ refl h)
same_consts (a_const h c) no_const s z = absurd (z _ _ refl h)
same_consts (a_const h c) (a_const k b) s z = same_consts c b s z

same_run : {i j k : List Token} → AConsts i j → AConsts i k → j ≡ k
same_run (are_consts c f) (are_consts b g) = same_consts c b f g

pub consts_fixes : Fixes AConsts AConsts
consts_fixes = record { moves = λ i j a k m. moved m a; once = λ i j k a e. same_run a e }
  where
    moved : {i j k : List Token} → Meets j k → AConsts i j → On AConsts i j k
    moved {k = k} m (are_consts c f) = let x = consts_on c k in record { tokens = x.tokens; twin = x.twin; reads = are_consts x.reads (not_at_alike m f) }

-- another word than const stands first, or nothing that specifiers go on with

pub other_word : {w v : ℕ} {t : Token} {j : List Token} → IsKeyword w t → (w ≡ v → ⊥) → NotAt (IsKeyword v) (t ∷ j)
other_word {w} h f = other_token {P = IsKeyword w} h (λ u x y. f (words_apart x y))

pub ends_no_const : {i : List Token} → EndsSpec i → NotAt (IsKeyword CONST) i
ends_no_const s = λ t j q h. starts_low q s h
  where
    starts_low : {i j : List Token} {t : Token} → i ≡ t ∷ j → EndsSpec i → IsKeyword CONST t → ⊥
    starts_low {i} {j} {t} q s h = let e : start (t ∷ j) ≤ 6 = subst (λ z. start z ≤ 6) q s in omega (arith, started_word h)

end_reads : {j k : List Token} → Consts j k → EndsSpec k → SpecEnd j k
end_reads c s = then (are_consts c (ends_no_const s)) (no_spec s)

first_word : {t u : Token} {w : ℕ} {i j : List Token} → Consts (t ∷ i) (u ∷ j) → IsKeyword w t → (w ≡ CONST → ⊥) → u ∷ j ≡ t ∷ i
first_word no_const h f = refl
first_word (a_const k c) h f = absurd (f (words_apart h k))

stands_first : {t u : Token} {w v : ℕ} {i j : List Token} → Consts (t ∷ i) (u ∷ j) → IsKeyword w t → (w ≡ CONST → ⊥) → IsKeyword v u → w ≡ v
stands_first {v = v} c h f k = words_apart h (subst (IsKeyword v) (heads (first_word c h f)).0 k)

-- the word that specifiers begin with behind each const, with its number
abbrev leading : {s : Spec} {i j : List Token} → ReadsSpec s i j → (word : ℕ) × (t : Token) × (k : List Token) × Consts i (t ∷ k) × IsKeyword word t
leading (is_void c w a) = (VOID, _, _, c, w)
leading (is_char c w a) = (CHAR, _, _, c, w)
leading (is_unsigned_char c w a v b) = (UNSIGNED, _, _, c, w)
leading (is_int c w a) = (INT, _, _, c, w)
leading (is_signed c w a) = (SIGNED, _, _, c, w)
leading (is_signed_int c w a v b) = (SIGNED, _, _, c, w)
leading (is_unsigned c w a) = (UNSIGNED, _, _, c, w)
leading (is_unsigned_int c w a v b) = (UNSIGNED, _, _, c, w)
leading (is_struct c w n a) = (STRUCT, _, _, c, w)
leading (is_enum c w n a) = (ENUM, _, _, c, w)

-- the word that stands first is that of the specifiers
decided : {w : ℕ} {s : Spec} {t : Token} {i j : List Token} → IsKeyword w t → (w ≡ CONST → ⊥) → (r : ReadsSpec s (t ∷ i) j) → w ≡ (leading r).0
decided h f r = let v = leading r in stands_first v.3 h f v.4

void_reads : {s : Spec} {t : Token} {i j : List Token} → IsKeyword VOID t → ReadsSpec s (t ∷ i) j → EndsSpec j → SpecEnd i j
void_reads h (is_void c w a) e = end_reads (at_same Consts _ (heads (first_word c h (λ q. omega arith))).1 a) e
void_reads h r e = absurd (omega (arith, decided h (λ q. omega arith) r))

char_reads : {s : Spec} {t : Token} {i j : List Token} → IsKeyword CHAR t → ReadsSpec s (t ∷ i) j → EndsSpec j → SpecEnd i j
char_reads h (is_char c w a) e = end_reads (at_same Consts _ (heads (first_word c h (λ q. omega arith))).1 a) e
char_reads h r e = absurd (omega (arith, decided h (λ q. omega arith) r))

int_reads : {s : Spec} {t : Token} {i j : List Token} → IsKeyword INT t → ReadsSpec s (t ∷ i) j → EndsSpec j → SpecEnd i j
int_reads h (is_int c w a) e = end_reads (at_same Consts _ (heads (first_word c h (λ q. omega arith))).1 a) e
int_reads h r e = absurd (omega (arith, decided h (λ q. omega arith) r))

signed_reads : {s : Spec} {t : Token} {i j : List Token} → IsKeyword SIGNED t → ReadsSpec s (t ∷ i) j → EndsSpec j → SignedTail i j
signed_reads h (is_signed c w a) e = then (are_consts (at_same Consts _ (heads (first_word c h (λ q. omega arith))).1 a) (ends_no_const e)) (first (no_spec e))
signed_reads h (is_signed_int c w a v b) e =
    then (are_consts (at_same Consts _ (heads (first_word c h (λ q. omega arith))).1 a) (other_word v (λ q. omega arith))) (second (then (one v) (end_reads b e)))
signed_reads h r e = absurd (omega (arith, decided h (λ q. omega arith) r))

unsigned_reads : {s : Spec} {t : Token} {i j : List Token} → IsKeyword UNSIGNED t → ReadsSpec s (t ∷ i) j → EndsSpec j → UnsignedTail i j
unsigned_reads h (is_unsigned c w a) e = then (are_consts (at_same Consts _ (heads (first_word c h (λ q. omega arith))).1 a) (ends_no_const e)) (first (no_spec e))
unsigned_reads h (is_unsigned_int c w a v b) e =
    then (are_consts (at_same Consts _ (heads (first_word c h (λ q. omega arith))).1 a) (other_word v (λ q. omega arith))) (second (first (then (one v) (end_reads b e))))
unsigned_reads h (is_unsigned_char c w a v b) e =
    then (are_consts (at_same Consts _ (heads (first_word c h (λ q. omega arith))).1 a) (other_word v (λ q. omega arith))) (second (second (then (one v) (end_reads b e))))
unsigned_reads h r e = absurd (omega (arith, decided h (λ q. omega arith) r))

pub struct_tail : {s : Spec} {t : Token} {i j : List Token} → IsKeyword STRUCT t → ReadsSpec s (t ∷ i) j → EndsSpec j → TagTail i j
struct_tail h (is_struct c w n a) e = at_same TagTail _ (heads (first_word c h (λ q. omega arith))).1 (then (one (record { ident = _; names = n })) (end_reads a e))
struct_tail h r e = absurd (omega (arith, decided h (λ q. omega arith) r))

pub enum_tail : {s : Spec} {t : Token} {i j : List Token} → IsKeyword ENUM t → ReadsSpec s (t ∷ i) j → EndsSpec j → TagTail i j
enum_tail h (is_enum c w n a) e = at_same TagTail _ (heads (first_word c h (λ q. omega arith))).1 (then (one (record { ident = _; names = n })) (end_reads a e))
enum_tail h r e = absurd (omega (arith, decided h (λ q. omega arith) r))

-- behind const the same specifiers stand
behind_const : {t u : Token} {i j : List Token} → IsKeyword CONST t → Consts (t ∷ i) (u ∷ j) → {w : ℕ} → IsKeyword w u → (w ≡ CONST → ⊥) → Consts i (u ∷ j)
behind_const h no_const k f = absurd (f (words_apart k h))
behind_const h (a_const o c) k f = c

const_reads : {s : Spec} {t : Token} {i j : List Token} → IsKeyword CONST t → ReadsSpec s (t ∷ i) j → ReadsSpec s i j
const_reads h (is_void c w a) = is_void (behind_const h c w (λ q. omega arith)) w a
const_reads h (is_char c w a) = is_char (behind_const h c w (λ q. omega arith)) w a
const_reads h (is_unsigned_char c w a v b) = is_unsigned_char (behind_const h c w (λ q. omega arith)) w a v b
const_reads h (is_int c w a) = is_int (behind_const h c w (λ q. omega arith)) w a
const_reads h (is_signed c w a) = is_signed (behind_const h c w (λ q. omega arith)) w a
const_reads h (is_signed_int c w a v b) = is_signed_int (behind_const h c w (λ q. omega arith)) w a v b
const_reads h (is_unsigned c w a) = is_unsigned (behind_const h c w (λ q. omega arith)) w a
const_reads h (is_unsigned_int c w a v b) = is_unsigned_int (behind_const h c w (λ q. omega arith)) w a v b
const_reads h (is_struct c w n a) = is_struct (behind_const h c w (λ q. omega arith)) w n a
const_reads h (is_enum c w n a) = is_enum (behind_const h c w (λ q. omega arith)) w n a

-- failures

pub consts_fail : {h i r : List Token} → Consts h i → Fails ASpec i r → Fails ASpec h r
consts_fail no_const f = f
consts_fail (a_const h c) f = fails_under (λ k j a. record { tree = a.tree; reads = const_reads h a.reads; ends = a.ends }) (consts_fail c f)

pub void_fails : {t : Token} {i r : List Token} → IsKeyword VOID t → Fails SpecEnd i r → Fails ASpec (t ∷ i) r
void_fails h f = fails_under (λ k j a. void_reads h a.reads a.ends) f

pub char_fails : {t : Token} {i r : List Token} → IsKeyword CHAR t → Fails SpecEnd i r → Fails ASpec (t ∷ i) r
char_fails h f = fails_under (λ k j a. char_reads h a.reads a.ends) f

pub int_fails : {t : Token} {i r : List Token} → IsKeyword INT t → Fails SpecEnd i r → Fails ASpec (t ∷ i) r
int_fails h f = fails_under (λ k j a. int_reads h a.reads a.ends) f

pub signed_fails : {t : Token} {i r : List Token} → IsKeyword SIGNED t → Fails SignedTail i r → Fails ASpec (t ∷ i) r
signed_fails h f = fails_under (λ k j a. signed_reads h a.reads a.ends) f

pub unsigned_fails : {t : Token} {i r : List Token} → IsKeyword UNSIGNED t → Fails UnsignedTail i r → Fails ASpec (t ∷ i) r
unsigned_fails h f = fails_under (λ k j a. unsigned_reads h a.reads a.ends) f

pub struct_fails : {t : Token} {i r : List Token} → IsKeyword STRUCT t → Fails TagTail i r → Fails ASpec (t ∷ i) r
struct_fails h f = fails_under (λ k j a. struct_tail h a.reads a.ends) f

pub enum_fails : {t : Token} {i r : List Token} → IsKeyword ENUM t → Fails TagTail i r → Fails ASpec (t ∷ i) r
enum_fails h f = fails_under (λ k j a. enum_tail h a.reads a.ends) f

-- what follows `signed` and `unsigned`

run_ends : {i j : List Token} → AConsts i j → NotAt (IsKeyword CONST) j
run_ends (are_consts c f) = f

no_run : {j k : List Token} → NotAt (IsKeyword CONST) j → NoSpec j k → SpecEnd j k
no_run f (no_spec s) = then (are_consts no_const f) (no_spec s)

-- a word stands that specifiers go on with
goes_on : (j : List Token) → 7 ≤ start j → Fails NoSpec j j
goes_on j l = fails_here (λ s m k x. none m l x)
  where
    none : {j s k : List Token} → Meets j s → 7 ≤ start j → NoSpec s k → ⊥
    none m l (no_spec s) = omega (arith, start_alike m)

bare_fails : {X : List Token → List Token → Type 0} {j r : List Token} → NotAt (IsKeyword CONST) j → Fails X j j → Fails SpecEnd j r → Fails (Or NoSpec X) j r
bare_fails f x e = fails_or_not (fails_as (λ k l m n. no_run (not_at_alike m f) n) e) x

pub signed_bare : {i j r : List Token} → AConsts i j → NotAt (IsKeyword INT) j → Fails SpecEnd j r → Fails SignedTail i r
signed_bare a f e = fails_later consts_fixes a (bare_fails (run_ends a) (fails_missing _ f) e)

pub unsigned_bare : {i j r : List Token} → AConsts i j → NotAt (IsKeyword INT) j → NotAt (IsKeyword CHAR) j → Fails SpecEnd j r → Fails UnsignedTail i r
unsigned_bare a f g e = fails_later consts_fixes a (bare_fails (run_ends a) (fails_both (fails_missing _ f) (fails_missing _ g)) e)

pub signed_int : {t : Token} {i j r : List Token} → AConsts i (t ∷ j) → IsKeyword INT t → Fails SpecEnd j r → Fails SignedTail i r
signed_int a h f = fails_later consts_fixes a (fails_not_or (goes_on _ (omega (arith, started_word h))) (fails_after f))

pub unsigned_int_fails : {t : Token} {i j r : List Token} → AConsts i (t ∷ j) → IsKeyword INT t → Fails SpecEnd j r → Fails UnsignedTail i r
unsigned_int_fails a h f =
    fails_later consts_fixes a (fails_not_or (goes_on _ (omega (arith, started_word h))) (fails_or_not (fails_after f) (fails_missing _ (other_word h (λ q. omega arith)))))

pub unsigned_char_fails : {t : Token} {i j r : List Token} → AConsts i (t ∷ j) → IsKeyword CHAR t → Fails SpecEnd j r → Fails UnsignedTail i r
unsigned_char_fails a h f =
    fails_later consts_fixes a (fails_not_or (goes_on _ (omega (arith, started_word h))) (fails_not_or (fails_missing _ (other_word h (λ q. omega arith))) (fails_after f)))

-- a word stands where specifiers end
pub end_fails : {i j : List Token} → AConsts i j → 7 ≤ start j → Fails SpecEnd i j
end_fails a l = fails_later consts_fixes a (goes_on _ l)

-- no name follows `struct` or `enum`
pub no_tag_follows : (i : List Token) → NotAt IsSomeName i → Fails TagTail i i
no_tag_follows i f = fails_missing i f

-- no word of specifiers stands first
word_at : {w : ℕ} {t : Token} {s j : List Token} → NotAt (IsKeyword CONST) s → NotAt (IsKeyword w) s → Consts s (t ∷ j) → IsKeyword w t → ⊥
word_at f g no_const h = g _ _ refl h
word_at f g (a_const o c) h = f _ _ refl o

no_such_word : {s : Spec} {i k j : List Token} → NoTypeWord i → (r : ReadsSpec s k j) → NotAt (IsKeyword (leading r).0) i
no_such_word n (is_void c w a) = n.no_void
no_such_word n r = assumption n

no_word_read : {s : Spec} {i k j : List Token} → Meets i k → NoTypeWord i → ReadsSpec s k j → ⊥
no_word_read m n r = let v = leading r in word_at (not_at_alike m n.no_const) (not_at_alike m (no_such_word n r)) v.3 v.4

pub no_words : (i : List Token) → NoTypeWord i → Fails ASpec i i
no_words i n = fails_here (λ s m j a. no_word_read m n a.reads)
