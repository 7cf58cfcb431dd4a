use Rattle.std.proofs.Common.{ℕ, List, ◌++◌, ◌∙◌, sym, ap}
use Rattle.line_text.proofs.VersionLemmas.{first_part, no_first_part}
use Rattle.line_text.proofs.version.after.Goals as goal

pub returns-in-Some-clause-some : goal.returns-in-Some-clause-some
returns-in-Some-clause-some c =
    first_part c.args.word.now c.args.text.now c.in-Some.ensures.cases.0 ∙ ap (λ (w : List ℕ). c.args.word.now ++ w) (sym c.in-Some.ensures.cases.1)

pub returns-in-None-clause-none : goal.returns-in-None-clause-none
returns-in-None-clause-none c = λ rest is. no_first_part c.args.word.now c.args.text.now rest c.in-None.ensures.cases is
