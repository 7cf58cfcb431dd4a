use Rattle.std.proofs.Common.{sym, ◌∙◌}
use Rattle.std.proofs.lemmas.Slice.Eq.{bytes_eq-Decides}
use Rattle.tool_fleet.proofs.MemberLemmas.{at_place}
use Rattle.tool_fleet.proofs.reading.group_with.Goals as goal

pub returns-then-eq : goal.returns-then-eq
returns-then-eq c = (
  c.index-groups-place.result,
  at_place c.args.groups.now c.loop-place.place c.index-groups-place.result c.loop-place-test.true c.index-groups-place.is,
  sym c.as_slice.ensures ∙ (bytes_eq-Decides _ _).0 (sym c.eq.ensures ∙ c.if-eq.true),
  c.if-group-bound.true,
)
