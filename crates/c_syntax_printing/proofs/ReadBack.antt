-- The printed text of a unit is read back as a unit that is the same.
use Rattle.std.proofs.Common.{◌≡◌, ◌≤◌, ℕ, List, [], length, ap, sym, subst, ◌∙◌}
use Rattle.std.proofs.Math.Logic.{∥∥₁_map}
use Rattle.c_lexer.specs.Mode.TheVariants.{Instrumented}
use Rattle.c_lexer.specs.TokenSpelling.{SpellsTokens}
use Rattle.c_syntax.specs.Tree.{Items}
use Rattle.c_syntax.specs.Text.{kinds_text, unit_text}
use Rattle.c_syntax.specs.Spelling.{IsUnit, IsReadAs}
use Rattle.c_syntax_printing.proofs.FineUnitLemmas.{fine_unit}
use Rattle.c_syntax_printing.proofs.KindsAlike.{same_kinds}
use Rattle.c_syntax_printing.proofs.WritableRead as read
use Rattle.c_syntax_printing.proofs.WritableReadBack.{writable_read_back}

-- a unit that tokens spell is writable, and so its text is read back
read_as : (u : Items) → IsUnit u → length (unit_text u) ≤ 16777216 → IsReadAs (unit_text u) u
read_as u unit short =
    let q : unit_text unit.other ≡ unit_text u = ap kinds_text (same_kinds unit.other u unit.same []) in
    let near : length (unit_text unit.other) ≤ 16777216 = subst (λ (t : List ℕ). length t ≤ 16777216) (sym q) short in
    let x : IsReadAs (unit_text unit.other) unit.other = writable_read_back unit.other (fine_unit unit.spelled.reads) (read.unit unit.spelled.reads) unit.spelled.nested near in
    record { tokens = x.tokens; other = x.other; lexed = subst (λ (t : List ℕ). SpellsTokens t Instrumented x.tokens) q x.lexed; spelled = x.spelled; same = x.same ∙ unit.same }

-- a text that is the unit's is read back
pub read_back : (u : Items) (text : List ℕ) → text ≡ unit_text u → ∥ IsUnit u ∥₁ → length text ≤ 16777216 → ∥ IsReadAs text u ∥₁
read_back u text q unit short =
    ∥∥₁_map unit (λ (here : IsUnit u). subst (λ (t : List ℕ). IsReadAs t u) (sym q) (read_as u here (subst (λ (t : List ℕ). length t ≤ 16777216) q short)))
