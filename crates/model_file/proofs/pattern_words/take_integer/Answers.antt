use Rattle.std.proofs.Common.{refl, sym, subst, arith}
use Rattle.std.specs.Prelude.{◌≤ℤ◌}
use Rattle.std.specs.Int.{w64}
use Rattle.std.proofs.lemmas.Int.{ints, to_z-of_z}
use Rattle.model_file.proofs.Narrowing.{reads_same}
use Rattle.model_file.proofs.PatternLemmas.{wide}
use Rattle.model_file.proofs.pattern_words.take_integer.Goals as goal

pub returns : goal.returns
returns c =
    let first = c.in-Some.numbers.first in
    let last = c.in-Some.numbers.last in
    let first_itself : first ≤ℤ first = omega (arith, ints) in
    let last_itself : last ≤ℤ last = omega (arith, ints) in
    let first_is = to_z-of_z w64 first (wide c.args.kind first ((c.in-Some.ensures.range first).0 (first_itself, c.in-Some.ensures.some)).0) in
    let last_is = to_z-of_z w64 last (wide c.args.kind last ((c.in-Some.ensures.range last).0 (c.in-Some.ensures.some, last_itself)).0) in
    reads_same c.args.cursor.now.rest.now c.integer.new.self.rest.now c.integer.result
    (λ z fits. (c.in-Some.ensures.range z).0 (subst (λ a. a ≤ℤ z) first_is fits.0, subst (λ b. z ≤ℤ b) last_is fits.1))
    (λ z fits. let within = (c.in-Some.ensures.range z).1 fits in (subst (λ a. a ≤ℤ z) (sym first_is) within.0, subst (λ b. z ≤ℤ b) (sym last_is) within.1))
    (λ z fits. refl) c.integer.ensures.reads
