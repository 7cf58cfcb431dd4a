use Rattle.std.proofs.Common.{ℕ, ◌<◌, Option, IfSome, length, sym, ◌∙◌, ap, subst}
use Rattle.std.proofs.lemmas.List.{take_all}
use Rattle.text_places.specs.Markers.{last_quote}
use Rattle.text_places.proofs.MarkerLemmas.{quote_within}
use Rattle.text_places.proofs.marker.last_quote.Goals as goal

pub returns-clause-within : goal.returns-clause-within
returns-clause-within c =
    subst (λ (o : Option ℕ). IfSome o (λ i. i < length c.args.bytes.now)) (sym (c.loop-i.invariant ∙ ap last_quote (take_all c.loop-i.i c.args.bytes.now c.loop-i-test.false))) (quote_within c.args.bytes.now)
