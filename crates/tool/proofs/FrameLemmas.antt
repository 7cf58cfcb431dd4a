-- What follows where nothing was disturbed.
use Rattle.std.proofs.Common.{◌≡◌, ℕ, ◌<◌, List, length, take, true, Option, Result, Ok, Err, inl, inr, refl, sym, subst}
use Rattle.std.proofs.lemmas.Bool.{true≢false}
use Rattle.std.specs.Prelude.{◌⊎◌, IsSome, OnErr, is_err}
use Rattle.dm_base.specs.declared.verdict.Status.{Status}
use Rattle.dm_base.specs.declared.verdict.Status.TheVariants as statuses
use Rattle.dm_io.specs.Faults.{Rose}
use Rattle.dm_io.specs.Sink.{Takes}
use Rattle.dm_io.specs.Store.{Files}
use Rattle.tool_frame.specs.declared.stop.Stop.{Stop}
use Rattle.tool_frame.specs.declared.stop.Stop.TheVariants as stops
use Rattle.tool_frame.specs.Stop.{IsFinished, status_of_stop}
use Rattle.tool_words.specs.Command.{Command}
use Rattle.tool_words.specs.Command.Command.{Selftest}
use Rattle.tool.specs.Commands.{Makes, Refuses, ReadsFiles, Lacks}
use Rattle.tool.specs.Frame.{call_of, AsksToAudit, AsksToTest, HasCause, IsSound, IsRefused, IsUndisturbed, Writes}
use Rattle.tool.specs.Stop.{HasStop, IsWorked}
use Rattle.tool.proofs.CommandLemmas.{ready_not_refused, made_not_refused, refused_once, audit_never_rejects, of_test}

module _ (words : List (List ℕ)) (files : Option Files) (before after out_before out_after : ℕ) where
  -- a sound call stops for want of memory alone
  pub sound_stop : (stop : Stop) → HasStop stop words files before after → IsSound (call_of words files before after out_before out_after) → IsUndisturbed (call_of words files before after out_before out_after) → IsFinished (status_of_stop stop) ⊎ (status_of_stop stop ≡ statuses.OutOfMemory)
  sound_stop stops.Usage has sound undisturbed = absurd (has (sound.0, sound.1))
  sound_stop (stops.Source line) has sound undisturbed = absurd (ready_not_refused sound.0 has.0 words files statuses.SourceRefused line.items sound.1 has.1 sound.2 has.2)
  sound_stop (stops.Model line) has sound undisturbed = absurd (ready_not_refused sound.0 has.0 words files statuses.ModelRefused line.items sound.1 has.1 sound.2 has.2)
  sound_stop (stops.Record line) has sound undisturbed = absurd (ready_not_refused sound.0 has.0 words files statuses.RecordRefused line.items sound.1 has.1 sound.2 has.2)
  sound_stop stops.Read (inl rose) sound undisturbed = absurd (undisturbed.store rose.1)
  sound_stop stops.Read (inr lacking) sound undisturbed = absurd (undisturbed.there lacking)
  sound_stop stops.Write has sound undisturbed = absurd has
  sound_stop stops.OutOfMemory has sound undisturbed = inr refl

  -- a refusal that is due is given
  pub refused_stop : (stop : Stop) (status : Status) (line : List ℕ) → HasStop stop words files before after → IsSome files → IsRefused (call_of words files before after out_before out_after) status line → IsUndisturbed (call_of words files before after out_before out_after) → (status_of_stop stop ≡ status) ⊎ (status_of_stop stop ≡ statuses.OutOfMemory)
  refused_stop stops.Usage status line has told refused undisturbed = absurd (has (refused.0, refused.1))
  refused_stop (stops.Source own) status line has told refused undisturbed = inl (refused_once has.0 refused.0 words files statuses.SourceRefused status own.items line told has.1 refused.1 has.2 refused.2)
  refused_stop (stops.Model own) status line has told refused undisturbed = inl (refused_once has.0 refused.0 words files statuses.ModelRefused status own.items line told has.1 refused.1 has.2 refused.2)
  refused_stop (stops.Record own) status line has told refused undisturbed = inl (refused_once has.0 refused.0 words files statuses.RecordRefused status own.items line told has.1 refused.1 has.2 refused.2)
  refused_stop stops.Read status line (inl rose) told refused undisturbed = absurd (undisturbed.store rose.1)
  refused_stop stops.Read status line (inr lacking) told refused undisturbed = absurd (undisturbed.there lacking)
  refused_stop stops.Write status line has told refused undisturbed = absurd has
  refused_stop stops.OutOfMemory status line has told refused undisturbed = inr refl

  -- work that is done refuses no file
  pub done_not_refused : (status later : Status) (text line : List ℕ) → IsWorked words files status text → IsSome files → IsRefused (call_of words files before after out_before out_after) later line → ⊥
  done_not_refused status later text line worked told refused = made_not_refused worked.0 refused.0 words files status later text line told worked.1 refused.1 worked.2 refused.2

  -- a test of the tool stops for want of memory alone
  pub test_stop : (stop : Stop) → HasStop stop words files before after → AsksToTest (call_of words files before after out_before out_after)
      → (status_of_stop stop ≡ statuses.Done) ⊎ ((status_of_stop stop ≡ statuses.WriteFault) ⊎ (status_of_stop stop ≡ statuses.OutOfMemory))
  test_stop stops.Usage has asks = absurd (has (Selftest asks.0 asks.1, asks.2))
  test_stop (stops.Source line) has asks = absurd (of_test (λ (c : Command). Refuses c files statuses.SourceRefused line.items) has.0 asks.0 asks.1 words has.1 asks.2 has.2)
  test_stop (stops.Model line) has asks = absurd (of_test (λ (c : Command). Refuses c files statuses.ModelRefused line.items) has.0 asks.0 asks.1 words has.1 asks.2 has.2)
  test_stop (stops.Record line) has asks = absurd (of_test (λ (c : Command). Refuses c files statuses.RecordRefused line.items) has.0 asks.0 asks.1 words has.1 asks.2 has.2)
  test_stop stops.Read (inl rose) asks = absurd (of_test ReadsFiles rose.0.0 asks.0 asks.1 words rose.0.1 asks.2 rose.0.2)
  test_stop stops.Read (inr lacking) asks = absurd (of_test (λ (c : Command). Lacks c files) lacking.0 asks.0 asks.1 words lacking.1 asks.2 lacking.2)
  test_stop stops.Write has asks = absurd has
  test_stop stops.OutOfMemory has asks = inr (inr refl)

  -- the work of one is done
  pub test_done : (status : Status) (text : List ℕ) → IsWorked words files status text → AsksToTest (call_of words files before after out_before out_after) → status ≡ statuses.Done
  test_done status text worked asks = (of_test (λ (c : Command). Makes c files status text) worked.0 asks.0 asks.1 words worked.1 asks.2 worked.2).0

-- where no count of out rises, no write fails
pub no_write_fault : (words : List (List ℕ)) (files : Option Files) (before after : ℕ) (status : Status) → (Rose 0 0 → ⊥) → status ≡ statuses.WriteFault → HasCause status (call_of words files before after 0 0) → ⊥
no_write_fault words files before after status never same cause = never (subst (λ (s : Status). HasCause s (call_of words files before after 0 0)) same cause).0

-- what was written of a text before a write failed
pub written_in_part : {A E : Type 0} (r : Result A E) (words : List (List ℕ)) (files : Option Files) (before after out_before out_after : ℕ) (status : Status) (text shown : List ℕ) (old new : Option (List ℕ))
    → is_err r ≡ true → shown ≡ text → OnErr r ((n : ℕ) × (n < length shown) × Takes old new (take n shown)) → IsWorked words files status text
    → Writes statuses.WriteFault (call_of words files before after out_before out_after) old new
written_in_part (Ok a) words files before after out_before out_after status text shown old new failed same part worked = absurd (true≢false (sym failed))
written_in_part (Err e) words files before after out_before out_after status text shown old new failed same part worked =
    (status, text, part.0, worked, subst (λ (w : List ℕ). Takes old new (take part.0 w)) same part.2)

-- no stop is a rejection
pub stop_not_rejected : (stop : Stop) → status_of_stop stop ≡ statuses.Rejected → ⊥
stop_not_rejected stops.Usage same = cc same
stop_not_rejected (stops.Source line) same = cc same
stop_not_rejected (stops.Model line) same = cc same
stop_not_rejected (stops.Record line) same = cc same
stop_not_rejected stops.Read same = cc same
stop_not_rejected stops.Write same = cc same
stop_not_rejected stops.OutOfMemory same = cc same

-- nor is an audit
pub audit_not_rejected : (words : List (List ℕ)) (files : Option Files) (before after out_before out_after : ℕ) (status : Status) (text : List ℕ) → IsWorked words files status text → AsksToAudit (call_of words files before after out_before out_after) → status ≡ statuses.Rejected → ⊥
audit_not_rejected words files before after out_before out_after status text worked asks rejected =
    audit_never_rejects worked.0 words files status text asks.0 asks.1 asks.2 asks.3 worked.1 asks.4 worked.2 rejected
