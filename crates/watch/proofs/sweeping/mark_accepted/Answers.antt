use Rattle.std.proofs.Common.{[], ◌∷◌, ◌++◌, ap, ◌∙◌}
use Rattle.std.proofs.lemmas.List.Elements.{All-same}
use Rattle.indexmap.specs.IndexMap.{values}
use Rattle.watch.specs.Keeping.{accepted_of}
use Rattle.watch.proofs.MarkLemmas.{StandsIn, stands_next, stands_later, notes_more, notes_same}
use Rattle.watch.proofs.sweeping.mark_accepted.Goals as goal

pub loop-process-init : goal.loop-process-init
loop-process-init g c =
    let same = c.into_iter-process-iterator.ensures.into_iter_gives ∙ c.values-process-items.ensures.rest in
    record {
      standing = (c.requires.0, c.requires.1, c.requires.2, All-same (StandsIn g.M.Monitor c.requires.0 c.requires.1 c.args.pool.now) c.into_iter-process-iterator.result (values c.args.table.now) same (c.requires.3 c.len-distinct.ensures.unique));
      pool = λ a is. is;
      notes = ([], ap accepted_of same, λ a noted. noted);
      others = λ m a k h stands. stands;
    }

pub mark-requires : goal.mark-requires
mark-requires g c =
    let s = c.loop-process.invariant.standing in
    let at = stands_next g.M.Monitor s.0 s.1 c.loop-process.pool c.in-Some.process.now c.next.new.self c.loop-process.process-iterator c.in-Some.ensures.steps s.3 in
    record { stands = (s.0, s.1, at.0, s.2, at.1) }

pub loop-process-preserved-in-Continue-1 : goal.loop-process-preserved-in-Continue-1
loop-process-preserved-in-Continue-1 g c =
    let inv = c.loop-process.invariant in
    let s = inv.standing in
    record {
      standing = (s.0, s.1, c.mark.ensures.pool s.0 s.2, stands_later g.M.Monitor s.0 s.1 c.loop-process.pool c.mark.new.pool c.in-Some.process.now c.next.new.self c.loop-process.process-iterator c.in-Some.ensures.steps (λ m h. c.mark.ensures.others m s.0 s.1 h) s.3);
      pool = λ a is. c.mark.ensures.pool a (inv.pool a is);
      notes = (inv.notes.0 ++ c.in-Some.process.now.monitor ∷ [], notes_more c.in-Some.process.now c.next.new.self c.loop-process.process-iterator inv.notes.0 (accepted_of (values c.args.table.now)) c.in-Some.ensures.steps inv.notes.1 c.in-None-refusal.is, λ a noted. c.in_ok-mark-in-None-refusal.ensures.ok a inv.notes.0 (inv.notes.2 a noted));
      others = λ m a k h stands. c.mark.ensures.others m a k h (inv.others m a k h stands);
    }

pub loop-process-preserved : goal.loop-process-preserved
loop-process-preserved g c =
    let inv = c.loop-process.invariant in
    let s = inv.standing in
    record {
      standing = (s.0, s.1, s.2, stands_later g.M.Monitor s.0 s.1 c.loop-process.pool c.loop-process.pool c.in-Some.process.now c.next.new.self c.loop-process.process-iterator c.in-Some.ensures.steps (λ m h stands. stands) s.3);
      pool = inv.pool;
      notes = (inv.notes.0, notes_same c.in-Some.process.now c.next.new.self c.loop-process.process-iterator inv.notes.0 (accepted_of (values c.args.table.now)) c.in-Some.ensures.steps inv.notes.1 c.in-Some-refusal.field-0 c.in-Some-refusal.is, inv.notes.2);
      others = inv.others;
    }
