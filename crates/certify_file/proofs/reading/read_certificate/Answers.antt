use Rattle.certify_file.proofs.HeadLemmas.{refused_at_head, not_refused, found_read, found_refused, found_complete, found_same}
use Rattle.certify_file.proofs.reading.read_certificate.Goals as goal

pub returns-in-Err-clause-refused : goal.returns-in-Err-clause-refused
returns-in-Err-clause-refused c = refused_at_head c.in-Err.error c.args.text.now c.first_line.result.0.now c.first_line.result.1.now c.if-text-gt-LONGEST.false c.first_line.ensures c.in-Err.ensures

pub returns-in-Err-clause-complete : goal.returns-in-Err-clause-complete
returns-in-Err-clause-complete c certificate read = not_refused c.in-Err.error c.args.text.now certificate read (refused_at_head c.in-Err.error c.args.text.now c.first_line.result.0.now c.first_line.result.1.now c.if-text-gt-LONGEST.false c.first_line.ensures c.in-Err.ensures)

pub returns-in-Ok-clause-read : goal.returns-in-Ok-clause-read
returns-in-Ok-clause-read c =
    found_read c.read_judged.result c.args.text.now c.first_line.result.0.now c.first_line.result.1.now c.if-text-gt-LONGEST.false c.first_line.ensures c.in-Ok.ensures c.read_judged.ensures

pub returns-in-Ok-clause-refused : goal.returns-in-Ok-clause-refused
returns-in-Ok-clause-refused c =
    found_refused c.read_judged.result c.args.text.now c.first_line.result.0.now c.first_line.result.1.now c.if-text-gt-LONGEST.false c.first_line.ensures c.in-Ok.ensures c.read_judged.ensures

pub returns-in-Ok-clause-complete : goal.returns-in-Ok-clause-complete
returns-in-Ok-clause-complete c certificate read =
    found_complete c.read_judged.result c.args.text.now certificate read
    (found_refused c.read_judged.result c.args.text.now c.first_line.result.0.now c.first_line.result.1.now c.if-text-gt-LONGEST.false c.first_line.ensures c.in-Ok.ensures c.read_judged.ensures)

pub returns-in-Ok-clause-same : goal.returns-in-Ok-clause-same
returns-in-Ok-clause-same c certificate read =
    found_same c.read_judged.result c.args.text.now certificate read
    (found_read c.read_judged.result c.args.text.now c.first_line.result.0.now c.first_line.result.1.now c.if-text-gt-LONGEST.false c.first_line.ensures c.in-Ok.ensures c.read_judged.ensures)
