use Rattle.std.proofs.lemmas.Result.{err_from_is_err_and}
use Rattle.model_file.proofs.DraftLemmas.{edge_found, edge_stopped, last_found}
use Rattle.model_file.proofs.draft.read_edge.Goals as goal

pub returns-in_err-line-clause-stopped : goal.returns-in_err-line-clause-stopped
returns-in_err-line-clause-stopped c n told =
    let p = err_from_is_err_and c.from_residual.result c.from_residual.ensures.1 in
    rw (p.1, p.2) (edge_stopped c.args.version c.args.text.now c.args.place.now c.take_line.new.place c.args.builder.now n c.args.section.now _ c.requires.last told c.in_err-line.ensures.taken)

pub returns-clause-last : goal.returns-clause-last
returns-clause-last c =
    last_found c.args.version c.args.builder.now c.args.section.now c.in_ok-line.line c.add_line.new.builder c.section_after.result c.in_ok-found.found c.requires.last c.in_ok-line.ensures.taken.first.fits c.in_ok-found.ensures.added c.section_after.ensures c.in_ok-found.ensures.start

pub returns-clause-read : goal.returns-clause-read
returns-clause-read c n told =
    edge_found c.args.version c.args.text.now c.args.place.now c.take_line.new.place c.args.builder.now n c.args.section.now c.in_ok-line.line c.add_line.new.builder c.section_after.result c.in_ok-found.found c.requires.last told c.in_ok-line.ensures.taken c.in_ok-found.ensures.added c.section_after.ensures c.in_ok-found.ensures.start
