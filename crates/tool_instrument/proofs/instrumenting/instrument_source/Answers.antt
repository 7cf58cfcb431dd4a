use Rattle.std.proofs.Common.{refl, ap, ◌∙◌}
use Rattle.std.proofs.Math.Nat.{lt_of_not-le}
use Rattle.std.proofs.lemmas.Bool.{iff_false}
use Rattle.c_syntax.specs.UnitView.{items_of}
use Rattle.tool_instrument.proofs.TextLemmas.{instruments, stops_at_length}
use Rattle.tool_instrument.proofs.instrumenting.instrument_source.Goals as goal

pub returns-then-not-is_within-clause-stop : goal.returns-then-not-is_within-clause-stop
returns-then-not-is_within-clause-stop g c =
    stops_at_length (g.S.Store.files c.args.store.now) c.args.name.now c.in_ok-source.source (items_of c.deref.result.now) c.stop_with.result _ _ c.in_ok-source.ensures.read
    (ap items_of c.deref.ensures.value ∙ c.in_ok-items.ensures)
    (lt_of_not-le (iff_false c.is_within.ensures c.if-not-is_within.true)) c.stop_with.ensures

pub returns-clause-made : goal.returns-clause-made
returns-clause-made g c =
    (refl, instruments (g.S.Store.files c.args.store.now) c.args.name.now c.in_ok-text.text.items c.in_ok-source.source c.in_ok-source.ensures.read c.in_ok-text.ensures)
