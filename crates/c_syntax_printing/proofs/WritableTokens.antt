-- Tokens of given kinds, and the unit that they spell.
use Rattle.std.proofs.Common.{◌≡◌, ◌≤◌, ℕ, List, [], ◌∷◌, refl, ap, sym, subst}
use Rattle.c_lexer.specs.declared.token.Token.{Token}
use Rattle.c_lexer.specs.declared.token.TokenKind.{TokenKind}
use Rattle.c_syntax.specs.Print.{unit_kinds}
use Rattle.c_syntax.proofs.BackTokens.{kinds}
use Rattle.c_syntax_printing.proofs.BackUnits.{BackUnit, back_unit}
use Rattle.c_syntax_printing.proofs.KindsPrinted.{AreKinds}
use Rattle.c_syntax.proofs.HeightLemmas.{same_height}
use Rattle.c_syntax_printing.specs.Laws.{WritableUnitsAreUnits}
use Rattle.c_syntax_printing.proofs.WritablePrinted as written

-- tokens of the kinds
record HasTokens (ks : List TokenKind) : Type 0 where
  tokens : List Token
  are : kinds tokens ≡ ks

has_tokens : (ks : List TokenKind) → AreKinds ks → HasTokens ks
has_tokens [] h = record { tokens = []; are = refl }
has_tokens (kind ∷ ks) h =
    let rest : HasTokens ks = has_tokens ks h.1 in
    record { tokens = record { kind = kind; from = 0; to = 0; given = h.0 } ∷ rest.tokens; are = ap (λ (x : List TokenKind). kind ∷ x) rest.are }

pub writable_are_units : WritableUnitsAreUnits
writable_are_units u fine writes deep =
    let x : HasTokens (unit_kinds u []) = has_tokens (unit_kinds u []) ((written.unit u writes).put [] tt) in
    let y : BackUnit 500 u x.tokens = back_unit u fine 500 deep x.tokens x.are in
    record {
      tokens = x.tokens;
      other = y.other;
      spelled = record { reads = y.reads; nested = subst (λ (n : ℕ). n ≤ 500) (sym (same_height y.other u y.same)) deep };
      same = y.same;
    }
