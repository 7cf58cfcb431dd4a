use Rattle.std.proofs.Common.{◌≡◌, ◌++◌, ◌∙◌, None, Some, ap, sym, subst}
use Rattle.std.proofs.lemmas.List.{append-nil}
use Rattle.std.proofs.lemmas.Result.{IfOk-equal}
use Rattle.null_calls_temporaries.specs.Sited.{IsCallAt}
use Rattle.null_calls_temporaries.specs.Temporaries.{temporaries_where}
use Rattle.null_calls_temporaries.specs.Kept.{temporaries_of}
use Rattle.null_calls_expressions.proofs.marked.add_where.Goals as goal

pub returns-in-None : goal.returns-in-None
returns-in-None c = λ site called is.
    let none : called ≡ None = subst (λ m. IsCallAt m site called) c.in-None.is is in
    let old = temporaries_of c.args.into.now.items in
    sym (append-nil old) ∙ ap (λ o. old ++ temporaries_where site c.args.wanted o) (sym none)

pub returns-in-Some : goal.returns-in-Some
returns-in-Some c = λ site called is.
    let there : IsCallAt (Some c.in-Some.one) site called = subst (λ m. IsCallAt m site called) c.in-Some.is is in
    let old = temporaries_of c.args.into.now.items in
    IfOk-equal c.add_temporaries.result _ _ _ c.add_temporaries.ensures (λ i. old ++ temporaries_where (there.0 i) c.args.wanted (sym there.1 i))
