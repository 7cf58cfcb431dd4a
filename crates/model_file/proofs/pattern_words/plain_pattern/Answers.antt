use Rattle.std.proofs.Common.{sym, ◌∙◌, ap, replicate, length}
use Rattle.std.specs.Prelude.{None, Some}
use Rattle.model_file.proofs.PatternLemmas.{plain_taken, plain_missed, lt_tells}
use Rattle.model_file.proofs.pattern_words.plain_pattern.Goals as goal

pub returns-then-lt : goal.returns-then-lt
returns-then-lt c rest =
    let plain = c.any-plain.ensures ∙ ap (λ kinds. replicate (length kinds) None) c.argument_kinds.ensures.kinds in
    rw c.in-Some.is (plain_taken c.args.name (Some c.in-Some.edge) c.any-plain.result rest plain (lt_tells _ (sym c.lt.ensures ∙ c.if-lt.true)))

pub returns-else-lt : goal.returns-else-lt
returns-else-lt c rest =
    let plain = c.any-plain.ensures ∙ ap (λ kinds. replicate (length kinds) None) c.argument_kinds.ensures.kinds in
    rw c.in-Some.is (plain_missed c.args.name c.in-Some.edge c.any-plain.result rest plain (sym c.lt.ensures ∙ c.if-lt.false))

pub returns-in-None : goal.returns-in-None
returns-in-None c rest =
    let plain = c.any-plain.ensures ∙ ap (λ kinds. replicate (length kinds) None) c.argument_kinds.ensures.kinds in
    rw c.in-None.is (plain_taken c.args.name None c.any-plain.result rest plain (tt {0}))
