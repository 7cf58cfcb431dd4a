-- How the text grows by one part after another, and over a list.
use Rattle.std.proofs.Common.{◌≡◌, ℕ, ◌+◌, ◌<◌, ◌≤◌, List, [], ◌∷◌, ◌++◌, length, drop, get_or, refl, sym, ap, ◌∙◌, append_assoc, OnOk, subst}
use Rattle.std.specs.Prelude.{Result}
use Rattle.std.proofs.lemmas.Result.{on_ok_weaker}
use Rattle.std.proofs.lemmas.List.{drop_more, drop_all}
use Rattle.c_lexer.specs.declared.token.TokenKind.{TokenKind}
use Rattle.c_lexer.specs.declared.token.TokenKind.TheVariants.{Name}
use Rattle.c_syntax.specs.Print.{Kinds}
use Rattle.c_syntax.specs.Text.{kinds_text, kind_text, space_after}
use Rattle.c_syntax.specs.Writes.{Leaves, Writes, WritesToken}

-- a token's text and the byte after it write the token
pub token_written : (before after w : List ℕ) (space : ℕ) (kind : TokenKind) → w ≡ kind_text kind → space ≡ space_after kind → after ≡ (before ++ w) ++ (space ∷ []) → WritesToken before after kind
token_written before after w space kind text ends e = record {
  same = λ k.
      ap (λ x. x ++ kinds_text k) e
      ∙ append_assoc (before ++ w) (space ∷ []) (kinds_text k)
      ∙ append_assoc before w (space ∷ kinds_text k)
      ∙ ap (λ x. before ++ (x ++ (space ∷ kinds_text k))) text
      ∙ ap (λ s. before ++ (kind_text kind ++ (s ∷ kinds_text k))) ends;
}

-- the same where the last part's result is the result
pub word_last : {T E : Type 0} (r : Result T E) (before after w : List ℕ) (space : ℕ) (kind : TokenKind) → w ≡ kind_text kind → space ≡ space_after kind → OnOk r (after ≡ (before ++ w) ++ (space ∷ [])) → OnOk r (WritesToken before after kind)
word_last r before after w space kind text ends = on_ok_weaker r (token_written before after w space kind text ends)

-- two parts after each other
pub and_then : {a b c : List ℕ} {f g : Kinds → Kinds} → Writes a b f → Writes b c g → Writes a c (λ k. f (g k))
and_then {g = g} x y = record { same = λ k. y.same k ∙ x.same (g k) }

-- the last part's result is the result
pub and_last : {T E : Type 0} (r : Result T E) {a b : List ℕ} (c : List ℕ) {f : Kinds → Kinds} (g : Kinds → Kinds) → Writes a b f → OnOk r (Writes b c g) → OnOk r (Writes a c (λ k. f (g k)))
and_last r c g x y = on_ok_weaker r (λ z. and_then x z) y

-- equal tokens
pub written_as : {a b : List ℕ} {f : Kinds → Kinds} (g : Kinds → Kinds) → ((k : Kinds) → f k ≡ g k) → Writes a b f → Writes a b g
written_as {a = a} g e x = record { same = λ k. x.same k ∙ ap (λ w. a ++ kinds_text w) (e k) }

pub on_ok_as : {T E : Type 0} (r : Result T E) (a b : List ℕ) (f g : Kinds → Kinds) → ((k : Kinds) → f k ≡ g k) → OnOk r (Writes a b f) → OnOk r (Writes a b g)
on_ok_as r a b f g e = on_ok_weaker r (written_as g e)

-- Lists. The whole list is to come before its first item.
pub all_left : {X : Type 0} (left : List X → Kinds → Kinds) (xs : List X) (a : List ℕ) → Leaves a (left xs) a (left (drop 0 xs))
all_left left xs a = record { same = λ k. refl }

-- one item was written: what is left before it is the item, and then what is left after it
pub one_written :
    {X : Type 0} (left next : List X → Kinds → Kinds) (item : X → Kinds → Kinds)
    → ((x : X) (xs : List X) (k : Kinds) → left (x ∷ xs) k ≡ item x (next xs k))
    → (xs : List X) (i : ℕ) (x : X) → i < length xs → x ≡ get_or xs i x
    → {a b c : List ℕ} {f : Kinds → Kinds} → Leaves a f b (left (drop i xs)) → Writes b c (item x)
    → Leaves a f c (next (drop (i + 1) xs))
one_written left next item step xs i x below is {b = b} before now = record {
  same = λ k.
      now.same (next (drop (i + 1) xs) k)
      ∙ ap (λ w. b ++ kinds_text w) (sym (step x (drop (i + 1) xs) k) ∙ ap (λ w. left w k) (sym (drop_more xs i x below ∙ ap (λ y. y ∷ drop (i + 1) xs) (sym is))))
      ∙ before.same k;
}

-- nothing is left after the last item
pub all_written :
    {X : Type 0} (left : List X → Kinds → Kinds) → ((k : Kinds) → left [] k ≡ k) → (xs : List X) (i : ℕ) → length xs ≤ i
    → {a b : List ℕ} {f : Kinds → Kinds} → Leaves a f b (left (drop i xs)) → Writes a b f
all_written left ends xs i past {b = b} x = record {
  same = λ k. ap (λ w. b ++ kinds_text w) (sym (ends k) ∙ ap (λ w. left w k) (sym (drop_all i xs past))) ∙ x.same k;
}

-- the same name
pub name_last : {T E : Type 0} (r : Result T E) (a b x y : List ℕ) → x ≡ y → OnOk r (WritesToken a b (Name x)) → OnOk r (WritesToken a b (Name y))
name_last r a b x y e = subst (λ w. OnOk r (WritesToken a b (Name w))) e

pub name_is : {a b : List ℕ} (x y : List ℕ) → x ≡ y → WritesToken a b (Name x) → WritesToken a b (Name y)
name_is {a = a} {b = b} x y e = subst (λ w. WritesToken a b (Name w)) e

-- equal lists
pub of_same : {X : Type 0} (f : List X → Kinds → Kinds) {a b : List ℕ} (x y : List X) → x ≡ y → Writes a b (f x) → Writes a b (f y)
of_same f {a = a} {b = b} x y e = subst (λ z. Writes a b (f z)) e
