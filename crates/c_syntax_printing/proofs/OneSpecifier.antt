-- No tokens spell two storage classes or two specifiers.
use Rattle.std.proofs.Common.{◌≡◌, ◌≤◌, ℕ, ◌+◌, ◌-◌, List, [], ◌∷◌, refl, sym, ◌∙◌, arith, slice_index_or}
use Rattle.c_lexer.specs.declared.token.Token.{Token}
use Rattle.c_lexer.specs.declared.keyword.TheConstants.{ENUM}
use Rattle.c_lexer.specs.declared.punctuator.TheConstants.{LEFT_BRACE}
use Rattle.c_syntax.specs.Tree.{Ident, Storage, Spec, void, char, unsigned_char, int, unsigned_int, struct, enum}
use Rattle.c_syntax.specs.Tokens.{Is, IsKeyword}
use Rattle.c_syntax.specs.Specifiers.{Names, ReadsStorage, no_storage_stands, static_stands, extern_stands, Consts, no_const, a_const}
use Rattle.c_syntax.specs.Specifiers.{ReadsSpec, is_void, is_char, is_unsigned_char, is_int, is_signed, is_signed_int, is_unsigned, is_unsigned_int, is_struct, is_enum}
use Rattle.c_syntax_printing.proofs.Ranks.{words_apart, one_ident, heads}
use Rattle.c_syntax_printing.proofs.Heads.{headed, name_head, consts_enum}
use Rattle.c_syntax_printing.specs.Starts.{start, start_of_kind, start_of_word, EndsSpec, EndsStorage}
use Rattle.c_syntax_printing.proofs.Ends.{starts, started_word}

-- no tokens spell two storage classes
pub same_storage : {s z : Storage} {i j k : List Token} → ReadsStorage s i j → ReadsStorage z i k → EndsStorage j → EndsStorage k → (s ≡ z) × (j ≡ k)
same_storage no_storage_stands (static_stands h) s z = absurd (omega (arith, started_word h))
same_storage no_storage_stands (extern_stands h) s z = absurd (omega (arith, started_word h))
same_storage (static_stands h) no_storage_stands s z = absurd (omega (arith, started_word h))
same_storage (static_stands h) (extern_stands k) s z = absurd (omega (arith, words_apart h k))
same_storage (extern_stands h) no_storage_stands s z = absurd (omega (arith, started_word h))
same_storage (extern_stands h) (static_stands k) s z = absurd (omega (arith, words_apart h k))
same_storage r w s z = (refl, refl)

-- const words end in one place
pub same_consts : {i j k : List Token} → Consts i j → Consts i k → (start j ≡ 9 → ⊥) → (start k ≡ 9 → ⊥) → j ≡ k
same_consts no_const no_const s z = refl
same_consts no_const (a_const h c) s z = absurd (s (started_word h))
same_consts (a_const h c) no_const s z = absurd (z (started_word h))
same_consts (a_const h c) (a_const k b) s z = same_consts c b s z

moved_consts : {i j k : List Token} → i ≡ j → Consts j k → Consts i k
moved_consts q c = rw q c

-- the specifiers of one word, of two, and of a word and a tag, by the numbers of the words
alone_by : ℕ → Spec
alone_by p = slice_index_or (int ∷ char ∷ void ∷ void ∷ unsigned_int ∷ int ∷ []) (p - 7) void

double_by : ℕ → ℕ → Spec
double_by p q = slice_index_or (unsigned_int ∷ unsigned_char ∷ int ∷ []) (p + p + q - 29) void

tagged_by : ℕ → Ident → Spec
tagged_by p ident = slice_index_or (struct ident ∷ enum ident ∷ []) (p - 13) void

-- what stands after the first word of specifiers, which has the number p
data Tail : ℕ → Spec → List Token → List Token → Type 0 where
  alone : {p : ℕ} {s : Spec} {j k : List Token} → s ≡ alone_by p → p ≤ 12 → Consts j k → Tail p s j k
  double : {p : ℕ} {s : Spec} {u : Token} {j k m : List Token} → s ≡ double_by p (start_of_kind u.kind) → p ≤ 12 → 7 ≤ start_of_kind u.kind → start_of_kind u.kind ≤ 8 → Consts j (u ∷ k) → Consts k m → Tail p s j m
  tagged : {p : ℕ} {s : Spec} {ident : Ident} {u : Token} {j k : List Token} → s ≡ tagged_by p ident → 13 ≤ p → Names ident u → Consts j k → Tail p s (u ∷ j) k

one_double : {s z : Spec} {t u : Token} (p : ℕ) → t ≡ u → s ≡ double_by p (start_of_kind t.kind) → z ≡ double_by p (start_of_kind u.kind) → s ≡ z
one_double p q e f = cc

one_tagged : {s z : Spec} {a b : Ident} (p : ℕ) → a ≡ b → s ≡ tagged_by p a → z ≡ tagged_by p b → s ≡ z
one_tagged p q e f = cc

same_tail : {p : ℕ} {s z : Spec} {j k m : List Token} → Tail p s j k → Tail p z j m → EndsSpec k → EndsSpec m → (s ≡ z) × (k ≡ m)
same_tail (alone e l c) (alone f o b) s z = (e ∙ sym f, same_consts c b (λ q. omega arith) (λ q. omega arith))
same_tail (alone e l c) (double f o g n b a) s z = absurd (let v = same_consts c b (λ q. omega arith) (λ q. omega arith) in omega (arith, starts v))
same_tail (alone e l c) (tagged f o n b) s z = absurd (omega arith)
same_tail (double e l h n c d) (alone f o b) s z = absurd (let v = same_consts b c (λ q. omega arith) (λ q. omega arith) in omega (arith, starts v))
same_tail (double e l h n c d) (double f o g w b a) s z =
    let v = heads (same_consts c b (λ q. omega arith) (λ q. omega arith)) in
    (one_double _ v.0 e f, same_consts d (moved_consts v.1 a) (λ q. omega arith) (λ q. omega arith))
same_tail (double e l h n c d) (tagged f o w b) s z = absurd (omega arith)
same_tail (tagged e l n c) (alone f o b) s z = absurd (omega arith)
same_tail (tagged e l n c) (double f o g w b a) s z = absurd (omega arith)
same_tail (tagged e l n c) (tagged f o w b) s z = (one_tagged _ (one_ident n w) e f, same_consts c b (λ q. omega arith) (λ q. omega arith))

-- specifiers, taken apart at their first word other than const
record Parted (s : Spec) (i k : List Token) : Type 0 where
  pub first : Token
  pub after : List Token
  pub consts : Consts i (first ∷ after)
  pub low : 7 ≤ start_of_kind first.kind
  pub high : start_of_kind first.kind ≤ 14
  pub no_const : start_of_kind first.kind ≡ 9 → ⊥
  pub tail : Tail (start_of_kind first.kind) s after k

by_number : {s : Spec} (p n : ℕ) → p ≡ n → s ≡ alone_by n → s ≡ alone_by p
by_number p n e h = rw e h

one_word : {code : ℕ} {s : Spec} {t : Token} {i j k : List Token} → Consts i (t ∷ j) → IsKeyword code t → 7 ≤ start_of_word code → start_of_word code ≤ 12 → (start_of_word code ≡ 9 → ⊥) → s ≡ alone_by (start_of_word code) → Consts j k → Parted s i k
one_word {t = t} {j = j} c h l u o e b = record {
  first = t;
  after = j;
  consts = c;
  low = omega (arith, started_word h);
  high = omega (arith, started_word h);
  no_const = λ q. o (sym (started_word h) ∙ q);
  tail = alone (rw (started_word h) e) (omega (arith, started_word h)) b;
}

two_words : {code other : ℕ} {s : Spec} {t u : Token} {i j k m : List Token} → Consts i (t ∷ j) → IsKeyword code t → Consts j (u ∷ k) → IsKeyword other u → 10 ≤ start_of_word code → start_of_word code ≤ 12 → 7 ≤ start_of_word other → start_of_word other ≤ 8 → s ≡ double_by (start_of_word code) (start_of_word other) → Consts k m → Parted s i m
two_words {t = t} {j = j} c h b k l u m v e a = record {
  first = t;
  after = j;
  consts = c;
  low = omega (arith, started_word h);
  high = omega (arith, started_word h);
  no_const = λ q. omega (arith, started_word h);
  tail = double (rw (started_word h, started_word k) e) (omega (arith, started_word h)) (omega (arith, started_word k)) (omega (arith, started_word k)) b a;
}

a_tag : {code : ℕ} {s : Spec} {ident : Ident} {t u : Token} {i j k : List Token} → Consts i (t ∷ u ∷ j) → IsKeyword code t → Names ident u → 13 ≤ start_of_word code → start_of_word code ≤ 14 → s ≡ tagged_by (start_of_word code) ident → Consts j k → Parted s i k
a_tag {t = t} {u = u} {j = j} c h n l o e b = record {
  first = t;
  after = u ∷ j;
  consts = c;
  low = omega (arith, started_word h);
  high = omega (arith, started_word h);
  no_const = λ q. omega (arith, started_word h);
  tail = tagged (rw (started_word h) e) (omega (arith, started_word h)) n b;
}

parted : {s : Spec} {i k : List Token} → ReadsSpec s i k → Parted s i k
unfolding alone_by double_by tagged_by
parted (is_void c h b) = one_word c h (omega arith) (omega arith) (λ q. omega arith) refl b
parted (is_char c h b) = one_word c h (omega arith) (omega arith) (λ q. omega arith) refl b
parted (is_unsigned_char c h b k a) = two_words c h b k (omega arith) (omega arith) (omega arith) (omega arith) refl a
parted (is_int c h b) = one_word c h (omega arith) (omega arith) (λ q. omega arith) refl b
parted (is_signed c h b) = one_word c h (omega arith) (omega arith) (λ q. omega arith) refl b
parted (is_signed_int c h b k a) = two_words c h b k (omega arith) (omega arith) (omega arith) (omega arith) refl a
parted (is_unsigned c h b) = one_word c h (omega arith) (omega arith) (λ q. omega arith) refl b
parted (is_unsigned_int c h b k a) = two_words c h b k (omega arith) (omega arith) (omega arith) (omega arith) refl a
parted (is_struct c h n b) = a_tag c h n (omega arith) (omega arith) refl b
parted (is_enum c h n b) = a_tag c h n (omega arith) (omega arith) refl b

moved_tail : {s : Spec} {t u : Token} {i j k : List Token} → t ≡ u → i ≡ j → Tail (start_of_kind u.kind) s j k → Tail (start_of_kind t.kind) s i k
moved_tail o q r = rw (o, q) r

-- the word enum with a brace after it is no type
no_bare_tail : {p : ℕ} {s : Spec} {u : Token} {i k : List Token} → Tail p s (u ∷ i) k → p ≡ 14 → Is LEFT_BRACE u → ⊥
no_bare_tail (alone e l c) q o = omega arith
no_bare_tail (double e l h n c d) q o = omega arith
no_bare_tail (tagged e l n c) q o = omega (arith, name_head n, headed o)

pub no_bare_enum : {s : Spec} {t u : Token} {i j : List Token} → ReadsSpec s (t ∷ u ∷ i) j → IsKeyword ENUM t → Is LEFT_BRACE u → ⊥
no_bare_enum r h o =
    let p = parted r in
    let v = heads (consts_enum p.consts h) in no_bare_tail (moved_tail (sym v.0) (sym v.1) p.tail) (started_word h) o

same_parts : {s z : Spec} {i j k : List Token} → Parted s i j → Parted z i k → EndsSpec j → EndsSpec k → (s ≡ z) × (j ≡ k)
same_parts r w s z =
    let v = heads (same_consts r.consts w.consts r.no_const w.no_const) in
    same_tail r.tail (moved_tail v.0 v.1 w.tail) s z

-- no tokens spell two specifiers
pub same_spec : {s z : Spec} {i j k : List Token} → ReadsSpec s i j → ReadsSpec z i k → EndsSpec j → EndsSpec k → (s ≡ z) × (j ≡ k)
same_spec r w s z = same_parts (parted r) (parted w) s z

-- const words before a word of specifiers begin as it does
consts_begin : {i j : List Token} → Consts i j → 7 ≤ start j → start j ≤ 14 → (7 ≤ start i) × (start i ≤ 14)
consts_begin no_const l u = (l, u)
consts_begin (a_const h c) l u = (omega (arith, started_word h), omega (arith, started_word h))

-- specifiers begin with a word of theirs
pub spec_begins : {s : Spec} {i j : List Token} → ReadsSpec s i j → (7 ≤ start i) × (start i ≤ 14)
spec_begins r = let p = parted r in consts_begin p.consts p.low p.high

-- so no storage class stands there
pub spec_ends_storage : {s : Spec} {i j : List Token} → ReadsSpec s i j → EndsStorage i
spec_ends_storage r = (spec_begins r).1
