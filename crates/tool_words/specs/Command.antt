-- The command lines.
use Rattle.std.specs.Prelude.{◌≡◌, ◌⊎◌, ℕ, ◌≤◌, List, [], ◌∷◌, codes, decimal}
use Rattle.certify_facts.specs.declared.fact.Judge.{Judge as CertifiedModel}
use Rattle.certify_facts.specs.declared.fact.Judge.TheVariants as judges
use Rattle.flow_model.specs.declared.which.Which.{Which}
use Rattle.report.specs.VerdictLine.{word_of}
use Rattle.tool_monitors.specs.declared.asked.Asked.{Asked}
use Rattle.tool_monitors.specs.Monitors.{asked_word}

-- the words that ask for monitors up to a bound, which is 1 to 65,535, and 1,000 where none is given
abbrev pub IsAskedBy : Asked → ℕ → List (List ℕ) → Type 0
IsAskedBy which bound words =
    ((words ≡ asked_word which ∷ []) × (bound ≡ 1000))
    ⊎ ((words ≡ asked_word which ∷ decimal bound ∷ []) × (1 ≤ bound) × (bound ≤ 65535))

-- The commands of one word, which read no file.
pub data WordCommand : Type 0 where
  Help : WordCommand
  Codes : WordCommand

-- the word of such a command
abbrev pub command_word : WordCommand → List ℕ
command_word Help = codes "--help"
command_word Codes = codes "codes"

-- The commands that read one file and write one text.
pub data FileCommand : Type 0 where
  Check : FileCommand
  Depth : FileCommand
  Explain : FileCommand
  Inline : FileCommand
  Instrument : FileCommand
  Model : FileCommand
  Picture : FileCommand
  Sites : FileCommand
  Upgrade : FileCommand

-- the word of such a command
abbrev pub file_word : FileCommand → List ℕ
file_word Check = codes "check"
file_word Depth = codes "depth"
file_word Explain = codes "explain"
file_word Inline = codes "inline"
file_word Instrument = codes "instrument"
file_word Model = codes "model"
file_word Picture = codes "picture"
file_word Sites = codes "sites"
file_word Upgrade = codes "upgrade"

-- The commands that read a model and a trace, or interleaved traces, and write the verdicts of monitors up to a bound.
pub data TraceCommand : Type 0 where
  Expected : TraceCommand
  Judge : TraceCommand
  Watch : TraceCommand

-- the word of such a command
abbrev pub trace_word : TraceCommand → List ℕ
trace_word Expected = codes "expected"
trace_word Judge = codes "judge"
trace_word Watch = codes "watch"

-- the word for a model whose verdicts are certified
abbrev pub judge_word : CertifiedModel → List ℕ
judge_word judges.Callgraph = codes "callgraph"
judge_word judges.Stack = codes "stack"

-- What the words ask for. File names are bytes.
pub data Command : Type 0 where
  Version : Command
  OfWord : WordCommand → Command
  OfFile : FileCommand → List ℕ → Command
  OfTrace : TraceCommand → List ℕ → List ℕ → Asked → ℕ → Command
  Measure : List ℕ → List ℕ → Asked → Command
  Fleet : List ℕ → Which → Command
  Run : List ℕ → List ℕ → ℕ → Command
  Audit : List ℕ → List ℕ → ℕ → ℕ → Command
  Confirm : List ℕ → List ℕ → List ℕ → Command
  Certify : List ℕ → List ℕ → CertifiedModel → Command
  Selftest : ℕ → ℕ → Command

-- the words of each command
abbrev pub IsCommandLine : Command → List (List ℕ) → Type 0
IsCommandLine Version words = (words ≡ []) ⊎ (words ≡ codes "--version" ∷ [])
IsCommandLine (OfWord which) words = words ≡ command_word which ∷ []
IsCommandLine (OfFile which file) words = words ≡ file_word which ∷ file ∷ []
IsCommandLine (OfTrace command model trace which bound) words =
    (rest : List (List ℕ)) × (words ≡ trace_word command ∷ model ∷ trace ∷ rest) × IsAskedBy which bound rest
IsCommandLine (Measure model trace which) words = words ≡ codes "measure" ∷ model ∷ trace ∷ asked_word which ∷ []
IsCommandLine (Fleet schedule which) words = words ≡ codes "fleet" ∷ schedule ∷ word_of which ∷ []
IsCommandLine (Run source results turns) words = (words ≡ codes "run" ∷ source ∷ results ∷ decimal turns ∷ []) × (turns ≤ 1000000)
IsCommandLine (Audit source results turns bound) words =
    (words ≡ codes "audit" ∷ source ∷ results ∷ decimal turns ∷ decimal bound ∷ []) × (turns ≤ 1000000) × (1 ≤ bound) × (bound ≤ 65535)
IsCommandLine (Confirm model trace certificate) words = words ≡ codes "confirm" ∷ model ∷ trace ∷ certificate ∷ []
IsCommandLine (Certify model trace which) words = words ≡ codes "certify" ∷ model ∷ trace ∷ judge_word which ∷ []
IsCommandLine (Selftest number size) words = (words ≡ codes "selftest" ∷ decimal number ∷ decimal size ∷ []) × (number ≤ 4294967295) × (1 ≤ size) × (size ≤ 500)
