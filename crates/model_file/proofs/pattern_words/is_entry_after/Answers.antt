use Rattle.std.proofs.Common.{refl, arith}
use Rattle.std.proofs.lemmas.Int.{ints}
use Rattle.std.specs.Prelude.{Some, ◌≤ℤ◌}
use Rattle.model_file.proofs.pattern_words.is_entry_after.Goals as goal

pub returns-in-Some : goal.returns-in-Some
returns-in-Some c =
    let first = c.in-Some.field-0.first in
    let itself : first ≤ℤ first = omega (arith, ints) in
    let fits = (c.in-Some.ensures.range first).0 (itself, c.in-Some.ensures.some) in
    (λ is. (Some first, fits.0, (c.next_entry.ensures c.args.kind (Some first) fits.0).0 fits.1), λ has. refl)
