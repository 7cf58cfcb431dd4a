use Rattle.std.proofs.Common.{rules, ◌≡◌, ◌≤◌, [], length, refl, arith}
use Rattle.std.proofs.lemmas.List.{length-take}
use Rattle.trace_file.specs.Trace.{longest}
use Rattle.tool_files.proofs.ReadingLemmas.{piece_more, no_piece_more, front_nil, too_long}
use Rattle.tool_files.proofs.reading.read_to_end.Goals as goal

pub returns-then-count-eq0-clause-whole : goal.returns-then-count-eq0-clause-whole
returns-then-count-eq0-clause-whole g c = λ k followed.
    let before = c.loop-given.invariant.read k followed in
    let few : c.loop-given.given ≤ longest = omega (arith, c.loop-given-test.true) in
    let short = before.3 (omega (arith, before.1, few)) in
    no_piece_more (g.S.Store.files c.args.store.now) (g.S.Store.files c.loop-given.store) c.args.name.now before.0 c.read_piece.new.room c.loop-given.given c.in_ok-count.count (λ text. g.F.Follower.followed c.read_piece.new.follower c.args.model.now k text)
    c.loop-given.invariant.same few c.if-count-eq0.true before.1 before.2 c.in_ok-count.ensures.part (c.in_ok-count.ensures.followed k before.0 short)

pub loop-given-preserved : goal.loop-given-preserved
loop-given-preserved g c = record {
  given = omega (arith, c.in_ok-count.ensures.within, length-take c.min-wanted.result c.deref_mut.result.now, c.min-wanted.ensures, c.loop-given-test.true);
  room = search rules;
  same = search rules;
  faults = omega (arith, c.in_ok-count.ensures.never_falls, c.loop-given.invariant.faults);
  read = λ k followed.
      let before = c.loop-given.invariant.read k followed in
      let few : c.loop-given.given ≤ longest = omega (arith, c.loop-given-test.true) in
      let short = before.3 (omega (arith, before.1, few)) in
      piece_more (g.S.Store.files c.args.store.now) (g.S.Store.files c.loop-given.store) c.args.name.now before.0 c.read_piece.new.room c.loop-given.given c.in_ok-count.count (λ text. g.F.Follower.followed c.read_piece.new.follower c.args.model.now k text)
      c.loop-given.invariant.same before.1 before.2 c.in_ok-count.ensures.fits c.in_ok-count.ensures.part (c.in_ok-count.ensures.followed k before.0 short);
}

pub loop-given-init : goal.loop-given-init
loop-given-init g c = record {
  given = omega arith;
  room = search rules;
  same = search rules;
  faults = omega arith;
  read = λ k followed. ([], refl, front_nil (g.S.Store.files c.args.store.now) c.args.name.now, λ short. followed);
}

pub returns-clause-stop : goal.returns-clause-stop
returns-clause-stop g c =
    let read = c.loop-given.invariant.read c.requires.0 c.requires.1 in
    let long : length read.0 ≡ 67108865 = omega (arith, read.1, c.loop-given.invariant.given, c.loop-given-test.false) in
    (c.in_ok-trace_line.ensures, too_long (g.S.Store.files c.args.store.now) c.args.name.now read.0 long read.2)
