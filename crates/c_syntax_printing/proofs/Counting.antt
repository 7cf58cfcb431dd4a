-- How the total grows by one part after another, and over a list.
use Rattle.std.proofs.Common.{◌≡◌, ℕ, ◌+◌, ◌-◌, ◌^◌, ◌<◌, ◌≤◌, List, [], ◌∷◌, length, drop, get_or, sym, ap, ◌∙◌, arith, subst}
use Rattle.std.specs.Prelude.{min}
use Rattle.std.proofs.lemmas.List.{drop_more, drop_all, length-append}
use Rattle.c_lexer.specs.declared.token.TokenKind.{TokenKind}
use Rattle.c_lexer.specs.declared.token.TokenKind.TheVariants.{Name}
use Rattle.c_syntax.specs.Print.{Kinds}
use Rattle.c_syntax.specs.Text.{kinds_text, kind_text, space_after}
use Rattle.c_syntax_printing.specs.Counted.{capped, reached, Rises, Leaves, Counts, CountsToken}

-- what is added after a sum that stops at a bound
sum_bounded : (a n m most : ℕ) → min (a + (n + m)) most ≡ min (min (a + n) most + m) most
sum_bounded a n m most = omega arith

-- a sum that stops at the greatest number
pub rises : (old n new : ℕ) → new ≡ min (old + n) (2 ^ 64 - 1) → Rises old n new
unfolding capped
rises old n new is = record { same = λ m. sum_bounded old n m (2 ^ 64 - 1) ∙ ap (λ x. min (x + m) (2 ^ 64 - 1)) (sym is) }

-- one sum after another
pub rises_then : (a n b m c : ℕ) → Rises a n b → Rises b m c → Rises a (n + m) c
rises_then a n b m c x y = record {
  same = λ k.
      let e : a + ((n + m) + k) ≡ a + (n + (m + k)) = omega arith in
      ap capped e ∙ x.same (m + k) ∙ y.same k;
}

-- the text of a token and others
with_token : (kind : TokenKind) (k : Kinds) → length (kinds_text (kind ∷ k)) ≡ (length (kind_text kind) + 1) + length (kinds_text k)
with_token kind k = length-append (kind_text kind) (space_after kind ∷ kinds_text k) ∙ omega arith

-- the bytes of a token and the one after it were added
pub token_counted : (old n new : ℕ) (kind : TokenKind) → n ≡ length (kind_text kind) + 1 → Rises old n new → CountsToken old kind new
unfolding reached
token_counted old n new kind is x = record {
  same = λ k. sym (x.same (length (kinds_text k))) ∙ ap (λ w. capped (old + w)) (ap (λ m. m + length (kinds_text k)) is ∙ sym (with_token kind k));
}

-- two parts after each other
pub and_then : {a b c : ℕ} {f g : Kinds → Kinds} → Counts a f b → Counts b g c → Counts a (λ k. f (g k)) c
and_then {g = g} x y = record { same = λ k. y.same k ∙ x.same (g k) }

-- equal tokens
pub counted_as : {a b : ℕ} {f : Kinds → Kinds} (g : Kinds → Kinds) → ((k : Kinds) → f k ≡ g k) → Counts a f b → Counts a g b
counted_as {a = a} g e x = record { same = λ k. x.same k ∙ ap (reached a) (e k) }

-- Lists. One item was counted: what is left before it is the item, and then what is left after it.
pub one_counted :
    {X : Type 0} (left next : List X → Kinds → Kinds) (item : X → Kinds → Kinds)
    → ((x : X) (xs : List X) (k : Kinds) → left (x ∷ xs) k ≡ item x (next xs k))
    → (xs : List X) (i : ℕ) (x : X) → i < length xs → x ≡ get_or xs i x
    → {a b c : ℕ} {f : Kinds → Kinds} → Leaves a f b (left (drop i xs)) → Counts b (item x) c
    → Leaves a f c (next (drop (i + 1) xs))
one_counted left next item step xs i x below is {b = b} before now = record {
  same = λ k.
      now.same (next (drop (i + 1) xs) k)
      ∙ ap (reached b) (sym (step x (drop (i + 1) xs) k) ∙ ap (λ w. left w k) (sym (drop_more xs i x below ∙ ap (λ y. y ∷ drop (i + 1) xs) (sym is))))
      ∙ before.same k;
}

-- nothing is left after the last item
pub all_counted :
    {X : Type 0} (left : List X → Kinds → Kinds) → ((k : Kinds) → left [] k ≡ k) → (xs : List X) (i : ℕ) → length xs ≤ i
    → {a b : ℕ} {f : Kinds → Kinds} → Leaves a f b (left (drop i xs)) → Counts a f b
all_counted left ends xs i past {b = b} x = record {
  same = λ k. ap (reached b) (sym (ends k) ∙ ap (λ w. left w k) (sym (drop_all i xs past))) ∙ x.same k;
}

-- the same name
pub name_is : {a b : ℕ} (x y : List ℕ) → x ≡ y → CountsToken a (Name x) b → CountsToken a (Name y) b
name_is {a = a} {b = b} x y e = subst (λ w. CountsToken a (Name w) b) e

-- equal lists
pub of_same : {X : Type 0} (f : List X → Kinds → Kinds) {a b : ℕ} (x y : List X) → x ≡ y → Counts a (f x) b → Counts a (f y) b
of_same f {a = a} {b = b} x y e = subst (λ z. Counts a (f z) b) e
