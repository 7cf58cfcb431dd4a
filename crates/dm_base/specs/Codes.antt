-- How a run of the program ends.
use Rattle.std.specs.Prelude.{ℕ}
use Rattle.dm_base.specs.declared.verdict.Status.{Status}
use Rattle.dm_base.specs.declared.verdict.Status.TheVariants.{Done, Rejected, Usage, SourceRefused, ModelRefused, RecordRefused, ReadFault, WriteFault, OutOfMemory, Bound}

-- the number with which the program ends
abbrev pub code_of : Status → ℕ
code_of Done = 0
code_of Rejected = 1
code_of Usage = 2
code_of SourceRefused = 3
code_of ModelRefused = 4
code_of RecordRefused = 5
code_of ReadFault = 6
code_of WriteFault = 7
code_of OutOfMemory = 8
code_of Bound = 9
