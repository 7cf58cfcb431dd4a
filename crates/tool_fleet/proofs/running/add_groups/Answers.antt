use Rattle.std.proofs.Common.{◌≡◌, List, [], map, take, ◌∙◌, subst, arith}
use Rattle.std.proofs.lemmas.List.{take_all}
use Rattle.fleet.specs.Fleets.{StandsFor}
use Rattle.tool_fleet.specs.declared.inputs.GroupModel.{GroupModel}
use Rattle.tool_fleet.specs.Inputs.{group_of}
use Rattle.tool_fleet.proofs.MemberLemmas.{at_place, few_taken, group_more}
use Rattle.tool_fleet.proofs.running.add_groups.Goals as goal

pub group-requires-clause-bound : goal.group-requires-clause-bound
group-requires-clause-bound g c =
    let bounds = c.requires.bounds c.loop-one.one-index c.one-item.result (at_place c.args.groups.now c.loop-one.one-index c.one-item.result c.loop-one-test.true c.one-item.is) in
    let greatest = bounds.1 in
    (bounds.0, omega arith)

pub group-requires-clause-room : goal.group-requires-clause-room
group-requires-clause-room g c = (
  map group_of (take c.loop-one.one-index c.args.groups.now),
  [],
  c.loop-one.invariant.stands,
  few_taken group_of c.args.groups.now c.loop-one.one-index c.loop-one-test.true c.requires.few,
)

pub loop-one-preserved : goal.loop-one-preserved
loop-one-preserved g c = record {
  stands = group_more g.M.Monitor c.group.new.self c.args.groups.now c.loop-one.one-index c.one-item.result c.in_ok-model.model c.loop-one-test.true c.one-item.is c.in_ok-model.ensures (c.in_ok-group.ensures.stands (map group_of (take c.loop-one.one-index c.args.groups.now)) [] c.loop-one.invariant.stands);
  counted = c.in_ok-group.ensures.counted ∙ c.loop-one.invariant.counted;
}

pub returns-clause-stands : goal.returns-clause-stands
returns-clause-stands g c =
    let whole : take c.loop-one.one-index c.args.groups.now ≡ c.args.groups.now = take_all c.loop-one.one-index c.args.groups.now (omega arith) in
    subst (λ (gs : List GroupModel). StandsFor g.M.Monitor c.loop-one.fleet (map group_of gs) []) whole c.loop-one.invariant.stands
