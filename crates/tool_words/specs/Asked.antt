-- What a command of the program stands for.
use Rattle.tool_words.specs.declared.command.Command.{Command as ReadCommand}
use Rattle.tool_words.specs.declared.command.Command.TheVariants as read
use Rattle.tool_words.specs.Command.{Command}
use Rattle.tool_words.specs.Command.FileCommand.{Check, Depth, Explain, Inline, Instrument, Model, Picture, Sites, Upgrade}
use Rattle.tool_words.specs.Command.Command.{Version, OfWord, OfFile, OfTrace, Measure, Fleet, Run, Audit, Confirm, Certify, Selftest}
use Rattle.tool_words.specs.Command.WordCommand.{Help, Codes}
use Rattle.tool_words.specs.Command.TraceCommand.{Expected, Judge, Watch}

abbrev pub asked_by : ReadCommand → Command
asked_by read.Version = Version
asked_by read.Help = OfWord Help
asked_by read.Codes = OfWord Codes
asked_by (read.Check source) = OfFile Check source.now
asked_by (read.Depth model) = OfFile Depth model.now
asked_by (read.Explain source) = OfFile Explain source.now
asked_by (read.Inline model) = OfFile Inline model.now
asked_by (read.Instrument source) = OfFile Instrument source.now
asked_by (read.Model source) = OfFile Model source.now
asked_by (read.Picture model) = OfFile Picture model.now
asked_by (read.Sites source) = OfFile Sites source.now
asked_by (read.Upgrade model) = OfFile Upgrade model.now
asked_by (read.Expected model trace which bound) = OfTrace Expected model.now trace.now which bound
asked_by (read.Judge model trace which bound) = OfTrace Judge model.now trace.now which bound
asked_by (read.Watch model traces which bound) = OfTrace Watch model.now traces.now which bound
asked_by (read.Measure model trace which) = Measure model.now trace.now which
asked_by (read.Fleet schedule which) = Fleet schedule.now which
asked_by (read.Run source results turns) = Run source.now results.now turns
asked_by (read.Audit source results turns bound) = Audit source.now results.now turns bound
asked_by (read.Confirm model trace certificate) = Confirm model.now trace.now certificate.now
asked_by (read.Certify model trace which) = Certify model.now trace.now which
asked_by (read.Selftest number size) = Selftest number size
