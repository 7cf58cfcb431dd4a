use Rattle.std.proofs.Common.{sym, ◌∙◌, ap, replicate, length}
use Rattle.std.specs.Prelude.{None}
use Rattle.std.specs.Ordering.{is_lt}
use Rattle.model_file.proofs.PatternLemmas.{plain_after, after_plain, lt_tells}
use Rattle.model_file.proofs.pattern_words.has_pattern_after.Goals as goal

pub returns-in-One : goal.returns-in-One
returns-in-One c =
    let any = c.any.ensures ∙ ap (λ kinds. replicate (length kinds) None) c.argument_kinds-kinds.ensures.kinds in
    rw c.in-One.is (λ is. plain_after c.args.name c.args.args.now c.any.result any (lt_tells _ (sym c.lt.ensures ∙ is)), λ has. c.lt.ensures ∙ ap is_lt (after_plain c.args.name c.args.args.now c.any.result any has))
