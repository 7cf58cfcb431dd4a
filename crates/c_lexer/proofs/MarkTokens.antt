-- What the longest punctuator at the front makes of the text.
use Rattle.std.proofs.Common.{◌≡◌, ◌≤◌, ◌<◌, ℕ, List, [], ◌∷◌, ◌++◌, length, take, drop, Contains, Some, slice_get, refl, ap, ◌∙◌, arith}
use Rattle.c_lexer.specs.declared.token.TokenKind.TheVariants.{Punct}
use Rattle.c_lexer.specs.declared.error.Cause.{Cause}
use Rattle.c_lexer.specs.declared.error.Cause.TheVariants.{ForeignByte}
use Rattle.c_lexer.specs.Codes.{code_of}
use Rattle.c_lexer.specs.Words.{punctuators}
use Rattle.c_lexer.specs.Kinds.{IsLexeme}
use Rattle.c_lexer.specs.TokenSpelling.{IsToken}
use Rattle.c_lexer.specs.Reading.{IsClear, IsMisfit}
use Rattle.c_lexer.specs.Refusals.{Holds}
use Rattle.c_lexer.specs.Parts.{BeginsWith, IsOther, HasNoFront, IsLongestFront}
use Rattle.c_lexer.proofs.KindsBegin.{token_at, front_begins, other_lexeme, lexeme_some, spelled_is_lexeme}
use Rattle.c_lexer.proofs.WordTables.{punctuator_first}

-- a text taken whole at the front is a punctuator
mark_at : (i x y : List ℕ) → BeginsWith IsOther i → i ≡ x ++ y → IsLexeme x → Contains punctuators x
mark_at i x y first stands lexeme =
    let some = lexeme_some x lexeme in
    other_lexeme x lexeme (front_begins IsOther i x y some.0 some.1 stands some.2 first)

mark_is_token : (i w : List ℕ) (p : ℕ) → IsClear i → BeginsWith IsOther i → slice_get punctuators p ≡ Some w → (front : IsLongestFront punctuators w i) → IsToken (Punct p) w front.rest
mark_is_token i w p clear first at front = record {
  spells = at;
  longest = λ x y e lexeme. front.longest x y (front.stands ∙ e) (mark_at i x y first (front.stands ∙ e) lexeme);
  no_line_comment = λ (rest, e). clear.no_line_comment (rest, front.stands ∙ e);
  no_block_comment = λ (rest, e). clear.no_block_comment (rest, front.stands ∙ e);
}

pub mark_token : (i w v : List ℕ) (p : ℕ) → IsClear i → BeginsWith IsOther i → slice_get punctuators p ≡ Some w → IsLongestFront punctuators w i → slice_get punctuators p ≡ Some v → (length v ≤ length i) × IsToken (Punct p) (take (length v) i) (drop (length v) i)
mark_token i w v p clear first at front read =
    let same : w ≡ v = cc in
    token_at (Punct p) (length v) i w front.rest front.stands (ap length same) (mark_is_token i w p clear first at front)

foreign_least : (i : List ℕ) (other : Cause) → code_of other < 1 → Holds other i → ⊥
foreign_least i ForeignByte low h = omega arith
foreign_least i other low h = omega arith

pub mark_misfit : (i : List ℕ) → IsClear i → BeginsWith IsOther i → HasNoFront punctuators i → IsMisfit ForeignByte i
mark_misfit i clear (b, rest, is, other) none = record {
  holds = (
    b,
    rest,
    is,
    λ sharp. clear.no_marker rest (is ∙ ap (λ c. c ∷ rest) sharp),
    λ kind w spells.
        none (b ∷ []) rest is (punctuator_first b w (other_lexeme (b ∷ w) (spelled_is_lexeme kind (b ∷ w) spells) (b, w, refl, other))),
  );
  least = λ cause low holds. foreign_least i cause low holds;
  no_token = λ kind w r stands token. none w r stands (mark_at i w r (b, rest, is, other) stands (spelled_is_lexeme kind w token.spells));
}
