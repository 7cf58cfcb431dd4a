use Rattle.std.proofs.lemmas.Result.{err_from_is_err_and}
use Rattle.trace_file.proofs.PiecesLemmas.{none_taken, cut_taken, shows_later, cut_shorter}
use Rattle.trace_file.proofs.pieces.take_lines.Goals as goal

pub loop-line-init : goal.loop-line-init
loop-line-init g c = record {
  taken = none_taken g.P.Place.reaches c.args.place.now c.args.text.now c.args.items.now.items;
  marks = λ mark first marked. marked;
}

pub loop-line-preserved : goal.loop-line-preserved
loop-line-preserved g c = record {
  taken = cut_taken g.P.Place.reaches c.args.place.now c.loop-line.place c.take_line.new.place c.args.text.now c.loop-line.rest.now c.in-Some.line.now c.in-Some.after.now c.args.items.now.items c.loop-line.items.items c.take_line.new.items.items c.loop-line.invariant.taken c.in-Some.ensures c.in_ok-take_line.ensures.takes;
  marks = λ mark first marked. c.take_line.ensures.marks mark first (c.loop-line.invariant.marks mark first marked);
}

pub loop-line-smaller : goal.loop-line-smaller
loop-line-smaller g c = cut_shorter c.loop-line.rest.now c.in-Some.line.now c.in-Some.after.now c.in-Some.ensures

pub returns-in_err-take_line-clause-shows : goal.returns-in_err-take_line-clause-shows
returns-in_err-take_line-clause-shows g c =
    let p = err_from_is_err_and c.from_residual.result c.from_residual.ensures.1 in
    rw (p.1, p.2) (shows_later g.P.Place.reaches (g.P.Place.refuses c.take_line.new.place) c.args.place.now c.loop-line.place c.args.text.now c.loop-line.rest.now c.in-Some.line.now c.in-Some.after.now c.args.items.now.items c.loop-line.items.items c.in_err-take_line.field-0.0 c.loop-line.invariant.taken c.in-Some.ensures.parts c.in_err-take_line.ensures.shows)

pub returns-in_err-take_line-clause-marks : goal.returns-in_err-take_line-clause-marks
returns-in_err-take_line-clause-marks g c = λ mark first marked. c.take_line.ensures.marks mark first (c.loop-line.invariant.marks mark first marked)
