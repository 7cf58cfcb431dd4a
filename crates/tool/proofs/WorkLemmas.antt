-- What the work of one command comes to is what the work of the words comes to.
use Rattle.std.proofs.Common.{◌≡◌, ◌⊎◌, inl, inr, ℕ, List, Option, Some, None, Result, Ok, Err, IfOk, IfErr}
use Rattle.std.specs.Prelude.{IfSome}
use Rattle.dm_base.specs.declared.verdict.Status.{Status}
use Rattle.dm_base.specs.declared.verdict.Status.TheVariants as statuses
use Rattle.dm_io.specs.Store.{Files}
use Rattle.tool_frame.specs.declared.finished.Finished.{Finished}
use Rattle.tool_frame.specs.declared.stop.Stop.{Stop}
use Rattle.tool_frame.specs.declared.stop.Stop.TheVariants as stops
use Rattle.tool_frame.specs.Stop.{IsFinished, Stops}
use Rattle.tool_words.specs.Command.{Command, IsCommandLine}
use Rattle.tool.specs.Commands.{Makes, Refuses, ReadsFiles, Lacks}
use Rattle.tool.specs.Stop.{IsWorked, HasStop}

module _ (c : Command) (words : List (List ℕ)) (files : Option Files) (r : Result Finished Stop) (line : IsCommandLine c words) where
  -- why it stopped, for a command that reads files
  pub stopped : (before after : ℕ) (Refused : Status → List ℕ → Type 0) (Lacking : Type 0) → ReadsFiles c
      → ((status : Status) (text : List ℕ) → Refused status text → Refuses c files status text) → (Lacking → Lacks c files)
      → IfErr r (λ stop. Stops stop Refused Lacking before after) → IfErr r (λ stop. HasStop stop words files before after)
  stopped before after Refused Lacking reads refuses lacks is = by r is
    where
      why : (stop : Stop) → Stops stop Refused Lacking before after → HasStop stop words files before after
      why stops.Usage told = absurd told
      why (stops.Source l) told = (c, line, refuses statuses.SourceRefused l.items told)
      why (stops.Model l) told = (c, line, refuses statuses.ModelRefused l.items told)
      why (stops.Record l) told = (c, line, refuses statuses.RecordRefused l.items told)
      why stops.Read (inl rose) = inl ((c, line, reads), rose)
      why stops.Read (inr lacking) = inr (c, line, lacks lacking)
      why stops.Write told = absurd told
      why stops.OutOfMemory told = (c, line)

      by : (r : Result Finished Stop) → IfErr r (λ stop. Stops stop Refused Lacking before after) → IfErr r (λ stop. HasStop stop words files before after)
      by (Ok done) is = is
      by (Err stop) is = why stop is

  -- what was made, with a status that is one of these
  pub made_so : (F : Status → Type 0) (Q : Files → Status → List ℕ → Type 0) → ((status : Status) → F status → IsFinished status)
      → ((status : Status) (text : List ℕ) → F status → Makes c None status text)
      → ((told : Files) (status : Status) (text : List ℕ) → F status → Q told status text → Makes c (Some told) status text)
      → IfOk r (λ done. F done.status) → IfOk r (λ done. IfSome files (λ told. Q told done.status done.text.items))
      → IfOk r (λ done. IsFinished done.status × IsWorked words files done.status done.text.items)
  made_so F Q finished without with ended told = by r files ended told
    where
      by : (r : Result Finished Stop) (fs : Option Files) → IfOk r (λ done. F done.status) → IfOk r (λ done. IfSome fs (λ told. Q told done.status done.text.items))
          → IfOk r (λ done. IsFinished done.status × IsWorked words fs done.status done.text.items)
      by (Ok done) None ended told = (finished done.status ended, (c, line, without done.status done.text.items ended))
      by (Ok done) (Some fs) ended told = (finished done.status ended, (c, line, with fs done.status done.text.items ended told))
      by (Err stop) fs ended told = ended

  -- what was made, where the status is that the work is done
  pub made_done : (P : Files → List ℕ → Type 0) → ((status : Status) (text : List ℕ) → status ≡ statuses.Done → Makes c None status text)
      → ((told : Files) (status : Status) (text : List ℕ) → status ≡ statuses.Done → P told text → Makes c (Some told) status text)
      → IfOk r (λ done. (done.status ≡ statuses.Done) × IfSome files (λ told. P told done.text.items))
      → IfOk r (λ done. IsFinished done.status × IsWorked words files done.status done.text.items)
  made_done P without with is = by r files is
    where
      by : (r : Result Finished Stop) (fs : Option Files) → IfOk r (λ done. (done.status ≡ statuses.Done) × IfSome fs (λ told. P told done.text.items))
          → IfOk r (λ done. IsFinished done.status × IsWorked words fs done.status done.text.items)
      by (Ok done) None is = (inl is.0, (c, line, without done.status done.text.items is.0))
      by (Ok done) (Some fs) is = (inl is.0, (c, line, with fs done.status done.text.items is.0 is.1))
      by (Err stop) fs is = is
