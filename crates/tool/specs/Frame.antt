-- When each status comes, and what is written then, over what the commands make of their files.
use Rattle.std.specs.Prelude.{◌≡◌, ◌⊎◌, ℕ, List, take, Option, codes}
use Rattle.dm_base.specs.declared.verdict.Status.{Status}
use Rattle.dm_base.specs.declared.verdict.Status.TheVariants.{Done, Rejected, Usage, SourceRefused, ModelRefused, RecordRefused, ReadFault, WriteFault, OutOfMemory, Bound}
use Rattle.dm_io.specs.Faults.{Rose}
use Rattle.dm_io.specs.Sink.{Takes}
use Rattle.dm_io.specs.Store.{Files}
use Rattle.tool_frame.specs.Report.{TakesLine}
use Rattle.tool_words.specs.Command.{Command, IsCommandLine}
use Rattle.tool_words.specs.Command.Command.{Audit, Selftest}
use Rattle.tool.specs.Commands.{Makes, Refuses, ReadsFiles, Lacks, IsReady}

-- what a call finds: its words, the told files, and the counts of faults of the store and of out, before it and after it
pub record Call : Type 0 where
  pub words : List (List ℕ)
  pub files : Option Files
  pub store_before : ℕ
  pub store_after : ℕ
  pub out_before : ℕ
  pub out_after : ℕ

abbrev pub call_of : List (List ℕ) → Option Files → ℕ → ℕ → ℕ → ℕ → Call
call_of words files store_before store_after out_before out_after =
    record { words = words; files = files; store_before = store_before; store_after = store_after; out_before = out_before; out_after = out_after }

-- the words are those of a command
abbrev pub IsAsked : Call → Type 0
IsAsked call = (c : Command) × IsCommandLine c call.words

-- the command of the words makes this text with this status
abbrev pub IsMade : Call → Status → List ℕ → Type 0
IsMade call status text = (c : Command) × IsCommandLine c call.words × Makes c call.files status text

-- the command of the words refuses a file, with this status and this line
abbrev pub IsRefused : Call → Status → List ℕ → Type 0
IsRefused call status line = (c : Command) × IsCommandLine c call.words × Refuses c call.files status line

-- a file that the command of the words asks for isn't there
abbrev pub IsLacking : Call → Type 0
IsLacking call = (c : Command) × IsCommandLine c call.words × Lacks c call.files

-- the words are those of `audit`
abbrev pub AsksToAudit : Call → Type 0
AsksToAudit call = (source : List ℕ) × (results : List ℕ) × (turns : ℕ) × (bound : ℕ) × IsCommandLine (Audit source results turns bound) call.words

-- the words are those of `selftest`
abbrev pub AsksToTest : Call → Type 0
AsksToTest call = (number : ℕ) × (size : ℕ) × IsCommandLine (Selftest number size) call.words

-- the words are those of a command that reads files
abbrev pub AsksForFiles : Call → Type 0
AsksForFiles call = (c : Command) × IsCommandLine c call.words × ReadsFiles c

-- the cause of each status
abbrev pub HasCause : Status → Call → Type 0
HasCause Done call = (text : List ℕ) × IsMade call Done text
HasCause Rejected call = (text : List ℕ) × IsMade call Rejected text
HasCause Usage call = IsAsked call → ⊥
HasCause SourceRefused call = (line : List ℕ) × IsRefused call SourceRefused line
HasCause ModelRefused call = (line : List ℕ) × IsRefused call ModelRefused line
HasCause RecordRefused call = (line : List ℕ) × IsRefused call RecordRefused line
HasCause ReadFault call = (AsksForFiles call × Rose call.store_before call.store_after) ⊎ IsLacking call
HasCause WriteFault call = Rose call.out_before call.out_after × ((status : Status) × (text : List ℕ) × IsMade call status text)
HasCause OutOfMemory call = IsAsked call
HasCause Bound call = (text : List ℕ) × IsMade call Bound text

-- what out has got: the text, a part of it from its front where a write failed, or nothing
abbrev pub Writes : Status → Call → Option (List ℕ) → Option (List ℕ) → Type 0
Writes Done call old new = (text : List ℕ) × IsMade call Done text × Takes old new text
Writes Rejected call old new = (text : List ℕ) × IsMade call Rejected text × Takes old new text
Writes Usage call old new = new ≡ old
Writes SourceRefused call old new = new ≡ old
Writes ModelRefused call old new = new ≡ old
Writes RecordRefused call old new = new ≡ old
Writes ReadFault call old new = new ≡ old
Writes WriteFault call old new = (status : Status) × (text : List ℕ) × (n : ℕ) × IsMade call status text × Takes old new (take n text)
Writes OutOfMemory call old new = new ≡ old
Writes Bound call old new = (text : List ℕ) × IsMade call Bound text × Takes old new text

-- what err has got: the line of the status, or nothing where the text was written
abbrev pub Reports : Status → Call → ℕ → ℕ → Option (List ℕ) → Option (List ℕ) → Type 0
Reports Done call before after old new = new ≡ old
Reports Rejected call before after old new = new ≡ old
Reports Usage call before after old new = TakesLine before after old new (codes "usage\n")
Reports SourceRefused call before after old new = (line : List ℕ) × IsRefused call SourceRefused line × TakesLine before after old new line
Reports ModelRefused call before after old new = (line : List ℕ) × IsRefused call ModelRefused line × TakesLine before after old new line
Reports RecordRefused call before after old new = (line : List ℕ) × IsRefused call RecordRefused line × TakesLine before after old new line
Reports ReadFault call before after old new = TakesLine before after old new (codes "read fault\n")
Reports WriteFault call before after old new = TakesLine before after old new (codes "write fault\n")
Reports OutOfMemory call before after old new = TakesLine before after old new (codes "out of memory\n")
Reports Bound call before after old new = new ≡ old

-- no count of faults rose, and no file that is asked for is lacking
pub record IsUndisturbed (call : Call) : Type 0 where
  pub store : Rose call.store_before call.store_after → ⊥
  pub out : Rose call.out_before call.out_after → ⊥
  pub there : IsLacking call → ⊥

-- the words are those of a command, and its files are such that it refuses none
abbrev pub IsSound : Call → Type 0
IsSound call = (c : Command) × IsCommandLine c call.words × IsReady c call.files
