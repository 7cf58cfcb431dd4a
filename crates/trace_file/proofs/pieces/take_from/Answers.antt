use Rattle.std.proofs.Common.{ℕ, List, ◌++◌, sym, subst}
use Rattle.std.specs.Prelude.{Contains}
use Rattle.std.proofs.lemmas.Result.{err_from_is_err_and}
use Rattle.trace_file.specs.declared.error.TraceError.TheVariants.{OutOfMemory}
use Rattle.trace_file.proofs.PiecesLemmas.{shows_on, shows_next, shows_always, taken_from}
use Rattle.trace_file.proofs.pieces.take_from.Goals as goal

pub returns-in_err-take_first-clause-shows : goal.returns-in_err-take_first-clause-shows
returns-in_err-take_first-clause-shows g c =
    let p = err_from_is_err_and c.from_residual.result c.from_residual.ensures.1 in
    rw (p.1, p.2) (shows_on g.P.Place.reaches (g.P.Place.refuses c.take_first.new.place) c.args.place.now (c.args.tail.now ++ c.args.first.now) c.args.after.now c.in_err-take_first.field-0.0 c.in_err-take_first.ensures.shows)

pub returns-in_err-left-clause-shows : goal.returns-in_err-left-clause-shows
returns-in_err-left-clause-shows g c =
    let p = err_from_is_err_and c.from_residual-in_err-left.result c.from_residual-in_err-left.ensures.1 in
    rw (p.1, p.2) (shows_next g.P.Place.reaches (g.P.Place.refuses c.take_lines.new.place) c.args.place.now c.take_first.new.place (c.args.tail.now ++ c.args.first.now) c.args.after.now c.new-items.result.items c.take_first.new.items.items c.in_err-left.field-0.0 c.in_ok-take_first.ensures.takes c.in_err-left.ensures.shows)

pub returns-in_err-tail-clause-shows : goal.returns-in_err-tail-clause-shows
returns-in_err-tail-clause-shows g c =
    let p = err_from_is_err_and c.from_residual-in_err-tail.result c.from_residual-in_err-tail.ensures.1 in
    rw (p.1, p.2) (shows_always g.P.Place.reaches (g.P.Place.refuses c.take_lines.new.place) c.args.place.now (c.args.tail.now ++ c.args.first.now ++ c.args.after.now) OutOfMemory (g.met.P.Place.memory c.take_lines.new.place))

pub returns-clause-takes : goal.returns-clause-takes
returns-clause-takes g c =
    taken_from g.P.Place.reaches c.args.place.now c.take_first.new.place c.take_lines.new.place (c.args.tail.now ++ c.args.first.now) c.args.after.now c.in_ok-left.left.now c.in_ok-tail.tail.items c.new-items.result.items c.take_first.new.items.items c.take_lines.new.items.items c.in_ok-take_first.ensures.takes c.in_ok-left.ensures.takes c.new-items.ensures.items c.in_ok-tail.ensures.items

pub returns-clause-plain : goal.returns-clause-plain
returns-clause-plain g c = subst (λ (t : List ℕ). Contains t 10 → ⊥) (sym c.in_ok-tail.ensures.items) c.in_ok-left.ensures.plain

pub returns-clause-marks : goal.returns-clause-marks
returns-clause-marks g c = λ mark first marked. c.take_lines.ensures.marks mark first (c.take_first.ensures.marks mark first marked)

pub returns-in_err-left-clause-marks : goal.returns-in_err-left-clause-marks
returns-in_err-left-clause-marks g c = λ mark first marked. c.take_lines.ensures.marks mark first (c.take_first.ensures.marks mark first marked)

pub returns-in_err-tail-clause-marks : goal.returns-in_err-tail-clause-marks
returns-in_err-tail-clause-marks g c = λ mark first marked. c.take_lines.ensures.marks mark first (c.take_first.ensures.marks mark first marked)
