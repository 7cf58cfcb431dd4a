-- What is written of the processes of interleaved traces: the events before a rejection, and the sum of all verdicts.
use Rattle.std.specs.Prelude.{ℕ, ◌+◌, ◌-◌, Bool, true, false, List, [], ◌∷◌, ◌++◌, filter, length, codes, decimal}
use Rattle.dm_base.specs.declared.event.Event.{Event}
use Rattle.dm_base.specs.declared.verdict.Step.{Step}
use Rattle.dm_base.specs.declared.verdict.Step.TheVariants as steps
use Rattle.dm_base.specs.declared.verdict.Verdict.{Verdict}
use Rattle.dm_base.specs.declared.verdict.Verdict.TheVariants.{Accepted, Rejected, Bound}
use Rattle.trace_file.specs.EventText.{event_text}

-- an event of a history and its number, which counts from 1: `- N EVENT`, and a line feed
abbrev pub kept_line : ℕ → Event → List ℕ
kept_line n event = codes "- " ++ decimal n ++ codes " " ++ event_text event ++ codes "\n"

-- the lines of events that follow one another, of which the first has this number
abbrev pub kept_lines : ℕ → List Event → List ℕ
kept_lines n [] = []
kept_lines n (e ∷ es) = kept_line n e ++ kept_lines (n + 1) es

-- the lines of these events, which stand right before the k-th
abbrev pub window_lines : ℕ → List Event → List ℕ
window_lines k window = kept_lines (k - length window) window

-- the verdict is one of these: Kept stands for Accepted
abbrev pub is_of : Step → Verdict → Bool
is_of steps.Kept (Accepted n) = true
is_of steps.Rejected (Rejected k) = true
is_of steps.Bound (Bound k) = true
is_of other verdict = false

-- how many of the verdicts are of this kind
abbrev pub how_many : Step → List Verdict → ℕ
how_many kind verdicts = length (filter (is_of kind) verdicts)

-- `verdicts V accepted A rejected R bound B` with the number of all verdicts and of those of each kind, and a line feed
abbrev pub sum_text : List Verdict → List ℕ
sum_text verdicts =
    codes "verdicts " ++ decimal (length verdicts) ++ codes " accepted " ++ decimal (how_many steps.Kept verdicts) ++ codes " rejected "
    ++ decimal (how_many steps.Rejected verdicts) ++ codes " bound " ++ decimal (how_many steps.Bound verdicts) ++ codes "\n"
