use Rattle.trace_file.specs.LineParts.{trace_line, IsTraceLine}
use Rattle.line_text.proofs.Narrowing.{whole_line}
use Rattle.trace_file.proofs.WholeLines.{trace_line_ends}
use Rattle.trace_file.proofs.lines.read_trace_line.Goals as goal

pub returns : goal.returns
returns c = whole_line IsTraceLine trace_line c.args.line.now _ c.requires trace_line_ends _ c.take_trace_line.ensures
