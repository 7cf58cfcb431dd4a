-- The text of the generated unit is read back within the limits of a plain text, and so it is accepted as the program.
use Rattle.std.proofs.Common.{ℕ, ◌≤◌, ◌<◌, sym, subst, arith}
use Rattle.dm_base.specs.declared.mode.Mode.TheVariants.{Plain}
use Rattle.c_syntax.specs.Spelling.{IsReadAs}
use Rattle.c_syntax.specs.Text.{unit_text}
use Rattle.c_syntax.specs.Tree.{Items}
use Rattle.c_syntax.proofs.HeightLemmas.{same_height}
use Rattle.c_syntax_printing.specs.Laws.{WritableUnitsAreReadBack}
use Rattle.c_rules.specs.Accepted.{IsAcceptedAs}
use Rattle.c_rules_laws.specs.PlaceLaws.{UnitsAreTypedAlike}
use Rattle.generated_program.specs.Generator.{generated_unit, generated_source}
use Rattle.generated_program.specs.Typed.{generated_program}
use Rattle.generated_program.proofs.Typed.{generated_typed}
use Rattle.generated_program.proofs.Written.{unit_fine, unit_writable, unit_low, unit_short}

pub accepted : WritableUnitsAreReadBack → UnitsAreTypedAlike → (number last : ℕ) → last < 500 → IsAcceptedAs (generated_source number last) Plain (generated_program number last)
accepted read_back alike number last small =
    let u : Items = generated_unit number last in
    let low = unit_low number last in
    let short = unit_short number last small in
    let read : IsReadAs (unit_text u) u = read_back u (unit_fine number last) (unit_writable number last small) (omega (arith, low)) (omega (arith, short)) in
    record {
      tokens = read.tokens;
      unit = read.other;
      lexed = record { short = short; whole = read.lexed.whole };
      spelled = record { reads = read.spelled.reads; nested = subst (λ n. n ≤ 200) (sym (same_height read.other u read.same)) low };
      typed = alike u read.other Plain (generated_program number last) (sym read.same) (generated_typed number last small);
    }
