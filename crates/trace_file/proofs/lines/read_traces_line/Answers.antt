use Rattle.trace_file.specs.LineParts.{traces_line, IsTracesLine}
use Rattle.line_text.proofs.Narrowing.{whole_line}
use Rattle.trace_file.proofs.WholeLines.{traces_line_ends}
use Rattle.trace_file.proofs.lines.read_traces_line.Goals as goal

pub returns : goal.returns
returns c = whole_line IsTracesLine traces_line c.args.line.now _ c.requires traces_line_ends _ c.take_traces_line.ensures
