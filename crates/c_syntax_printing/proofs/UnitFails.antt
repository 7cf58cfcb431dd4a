-- Where units fail at a token, no unit is spelled.
use Rattle.std.proofs.Common.{◌≡◌, ◌≤◌, List, ◌++◌, refl, arith, ℕ, []}
use Rattle.c_lexer.specs.declared.token.Token.{Token}
use Rattle.c_syntax.specs.Tree.{Items}
use Rattle.c_syntax.specs.Statements.{ReadsItems}
use Rattle.c_syntax.specs.Limits.{height_of_unit}
use Rattle.c_syntax.specs.Spelling.{SpellsAnyDepth}
use Rattle.c_syntax_printing.specs.Fails.{Meets, Fails}
use Rattle.c_syntax_printing.specs.Units.{AUnit}
use Rattle.c_syntax_printing.proofs.Combine.{none_behind}
use Rattle.c_syntax_printing.specs.Phrases.{any, within, fits_any, fits_within}

pub none_spelled : (tokens front r : List Token) → Fails (AUnit any) tokens r → tokens ≡ front ++ r → (s : List Token) → Meets r s → (u : Items) → SpellsAnyDepth u (front ++ s) → ⊥
none_spelled tokens front r f q s m u w = none_behind front f q s m [] (record { depth = w.0; tree = u; reads = w.1; ends = refl; fits = fits_any })

pub none_within : (p n : ℕ) (tokens front r : List Token) → Fails (AUnit (within p n)) tokens r → tokens ≡ front ++ r → (s : List Token) → Meets r s → (u : Items) → ReadsItems p u (front ++ s) [] → height_of_unit u ≤ n → ⊥
none_within p n tokens front r f q s m u w h = none_behind front f q s m [] (record { depth = p; tree = u; reads = w; ends = refl; fits = fits_within (omega arith) h })
