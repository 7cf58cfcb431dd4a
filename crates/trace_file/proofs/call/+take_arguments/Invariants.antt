use Rattle.std.proofs.Common.{length}
use Rattle.trace_file.proofs.call.+take_arguments.Given as goal

abbrev pub decreases-take_arguments : goal.decreases-take_arguments
decreases-take_arguments l = length l.kinds.now
