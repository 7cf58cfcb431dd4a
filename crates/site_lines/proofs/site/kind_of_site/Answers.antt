use Rattle.std.proofs.Common.{◌∙◌, ap, sym, slice_get, arith}
use Rattle.site_lines.proofs.KindLemmas.{first_call_kind}
use Rattle.site_lines.proofs.site.kind_of_site.Goals as goal

pub returns-then-f-count : goal.returns-then-f-count
returns-then-f-count c = λ p h e.
    sym
    (first_call_kind p c.args.site c.in-Some.f.now (sym (c.if-marked.ensures p h))
    (ap (λ xs. slice_get xs 0) (sym (c.candidates.ensures p h)) ∙ sym c.in-Some.ensures.value)
    (let t = c.if-f-count.true in omega (arith, t, e)))
