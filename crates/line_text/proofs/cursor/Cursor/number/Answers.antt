use Rattle.std.proofs.Common.{◌≤◌, ◌<◌, ◌^◌, decimal, ℕ, sym, ◌∙◌, arith, rules}
use Rattle.std.proofs.lemmas.Bool.{false≢true}
use Rattle.line_text.proofs.WordLemmas.{value_is_missed, no_value_missed}
use Rattle.line_text.proofs.NumberLemmas.{number_stands, no_number_stands, decimal-IsPlain}
use Rattle.line_text.proofs.cursor.Cursor.number.Goals as goal

pub returns-in-Some-clause-reads : goal.returns-in-Some-clause-reads
returns-in-Some-clause-reads c =
    let small : c.args.most < 2 ^ 64 = search rules in
    number_stands c.args.least c.args.most c.args.end c.args.self.now.rest.now c.word.new.self.rest.now c.in-Ok.digits.now c.in-Some.number small c.in-Ok.ensures.reads c.in-Some.ensures.some

pub returns-in-None-clause-reads : goal.returns-in-None-clause-reads
returns-in-None-clause-reads c =
    let small : c.args.most < 2 ^ 64 = search rules in
    no_number_stands c.args.least c.args.most c.args.end c.args.self.now.rest.now c.word.new.self.rest.now c.in-Ok.digits.now small c.in-Ok.ensures.reads c.in-None.ensures.none

pub returns-then-begins_number-clause-reads : goal.returns-then-begins_number-clause-reads
returns-then-begins_number-clause-reads c =
    let small : c.args.most < 2 ^ 64 = search rules in
    value_is_missed (λ (n : ℕ). (c.args.least ≤ n) × (n ≤ c.args.most)) decimal c.args.end c.args.self.now.rest.now c.word.new.self.rest.now c.in-Err.miss (λ n within. decimal-IsPlain n (omega (arith, within.1))) c.in-Err.ensures.reads (c.begins_number.ensures.0 c.if-begins_number.true)

pub returns-else-begins_number-clause-reads : goal.returns-else-begins_number-clause-reads
returns-else-begins_number-clause-reads c =
    let small : c.args.most < 2 ^ 64 = search rules in
    no_value_missed (λ (n : ℕ). (c.args.least ≤ n) × (n ≤ c.args.most)) decimal c.args.end c.args.self.now.rest.now c.word.new.self.rest.now c.in-Err.miss c.requires.end (λ n within. decimal-IsPlain n (omega (arith, within.1))) c.in-Err.ensures.memory c.in-Err.ensures.reads (λ begun. false≢true (sym c.if-begins_number.false ∙ c.begins_number.ensures.1 begun))
