use Rattle.std.proofs.Common.{ℤ, ◌≤ℤ◌, sym, ◌∙◌}
use Rattle.std.specs.Prelude.{FitsSigned}
use Rattle.std.specs.Int.{w64}
use Rattle.std.specs.Fmt.{signed_decimal}
use Rattle.std.proofs.lemmas.Bool.{false≢true}
use Rattle.std.proofs.lemmas.Int.{to_z-of_z}
use Rattle.line_text.proofs.WordLemmas.{value_is_missed, no_value_missed}
use Rattle.line_text.proofs.IntegerLemmas.{fits_between, integer_stands, no_integer_stands, signed-IsPlain}
use Rattle.line_text.proofs.cursor.Cursor.integer.Goals as goal

pub returns-in-Some-clause-reads : goal.returns-in-Some-clause-reads
returns-in-Some-clause-reads c =
    let low : FitsSigned w64 c.args.least = c.ranges.least in
    let high : FitsSigned w64 c.args.most = c.ranges.most in
    let is = simp to_z-of_z at c.in-Some.ensures.some in
    let fits : FitsSigned w64 c.in-Some.integer = fits_between c.args.least c.args.most c.in-Some.integer low high is.0 is.1 in
    simp to_z-of_z (integer_stands c.args.least c.args.most c.args.end c.args.self.now.rest.now c.word.new.self.rest.now c.in-Ok.digits.now c.in-Some.integer low high c.in-Ok.ensures.reads is)

pub returns-in-None-clause-reads : goal.returns-in-None-clause-reads
returns-in-None-clause-reads c =
    let low : FitsSigned w64 c.args.least = c.ranges.least in
    let high : FitsSigned w64 c.args.most = c.ranges.most in
    let none = simp to_z-of_z at c.in-None.ensures.none in
    no_integer_stands c.args.least c.args.most c.args.end c.args.self.now.rest.now c.word.new.self.rest.now c.in-Ok.digits.now low high c.in-Ok.ensures.reads none

pub returns-then-begins_integer-clause-reads : goal.returns-then-begins_integer-clause-reads
returns-then-begins_integer-clause-reads c =
    let low : FitsSigned w64 c.args.least = c.ranges.least in
    let high : FitsSigned w64 c.args.most = c.ranges.most in
    let tells = simp to_z-of_z at c.begins_integer.ensures in
    value_is_missed (λ (z : ℤ). (c.args.least ≤ℤ z) × (z ≤ℤ c.args.most)) signed_decimal c.args.end c.args.self.now.rest.now c.word.new.self.rest.now c.in-Err.miss (λ z within. signed-IsPlain z (fits_between c.args.least c.args.most z low high within.0 within.1)) c.in-Err.ensures.reads (tells.0 c.if-begins_integer.true)

pub returns-else-begins_integer-clause-reads : goal.returns-else-begins_integer-clause-reads
returns-else-begins_integer-clause-reads c =
    let low : FitsSigned w64 c.args.least = c.ranges.least in
    let high : FitsSigned w64 c.args.most = c.ranges.most in
    let tells = simp to_z-of_z at c.begins_integer.ensures in
    no_value_missed (λ (z : ℤ). (c.args.least ≤ℤ z) × (z ≤ℤ c.args.most)) signed_decimal c.args.end c.args.self.now.rest.now c.word.new.self.rest.now c.in-Err.miss c.requires.end (λ z within. signed-IsPlain z (fits_between c.args.least c.args.most z low high within.0 within.1)) c.in-Err.ensures.memory c.in-Err.ensures.reads (λ begun. false≢true (sym c.if-begins_integer.false ∙ tells.1 begun))
