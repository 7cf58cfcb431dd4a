-- The texts of punctuators and keywords by number, and of characters.
use Rattle.std.proofs.Common.{◌≡◌, ℕ, ◌≤◌, List, [], ◌∷◌, ◌++◌, refl, ap, ◌∙◌, arith, append_assoc, OnOk, ℤ}
use Rattle.std.specs.Prelude.{slice_get, unwrap_or, Result}
use Rattle.std.proofs.lemmas.Option.{slice_get_past}
use Rattle.std.proofs.lemmas.Result.{on_ok_weaker}
use Rattle.std.proofs.lemmas.Bool.Decides.{nat_tests}
use Rattle.c_lexer.specs.declared.token.TokenKind.TheVariants.{Char, Punct}
use Rattle.c_lexer.specs.Words.{punctuators}
use Rattle.c_syntax.specs.Text.{byte_of, element_text, space_after}
use Rattle.c_syntax.specs.Writes.{WritesToken}
use Rattle.c_syntax.proofs.Writing.{token_written}

-- a number past the last punctuator has no text
pub no_punctuator : (k : ℕ) → 45 ≤ k → unwrap_or (slice_get punctuators k) [] ≡ []
unfolding punctuators
no_punctuator k past = ap (λ o. unwrap_or o []) (slice_get_past punctuators k past)

-- other punctuators have a space after them
pub space_after_punctuator : (k : ℕ) → 45 ≤ k → 32 ≡ space_after (Punct k)
space_after_punctuator k past = grind (arith, nat_tests)

-- the quote, the element and the quote write the character
pub char_written : {T E : Type 0} (r : Result T E) (a b d after : List ℕ) (byte : ℕ) (c : ℤ) → byte ≡ byte_of c → b ≡ a ++ (39 ∷ []) → d ≡ b ++ element_text 39 byte → OnOk r (after ≡ (d ++ (39 ∷ [])) ++ (32 ∷ [])) → OnOk r (WritesToken a after (Char c))
char_written r a b d after byte c is first second =
    on_ok_weaker r (λ e.
    token_written a after (39 ∷ element_text 39 byte ++ 39 ∷ []) 32 (Char c) (ap (λ n. 39 ∷ element_text 39 n ++ 39 ∷ []) is) refl
    (e ∙ ap (λ x. (x ++ (39 ∷ [])) ++ (32 ∷ [])) (second ∙ ap (λ x. x ++ element_text 39 byte) first ∙ append_assoc a (39 ∷ []) (element_text 39 byte)) ∙ ap (λ x. x ++ (32 ∷ [])) (append_assoc a (39 ∷ element_text 39 byte) (39 ∷ []))))
