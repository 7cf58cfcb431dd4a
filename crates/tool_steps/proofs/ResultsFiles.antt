-- A file of recorded results that was read up to one byte past its limit.
use Rattle.std.proofs.Common.{◌≡◌, ℕ, ◌<◌, ◌≤◌, nat_le, Bool, true, false, List, length, take, Option, Some, None, IfSome, inl, inr, refl, subst, ap, ◌∙◌, arith}
use Rattle.std.proofs.lemmas.Bool.Decides.{nat_tests}
use Rattle.std.proofs.lemmas.List.{take_all, length-take}
use Rattle.dm_io.specs.Store.{Files, file_at, ReadsWhole}
use Rattle.sys_table.specs.declared.results_error.ResultsError.{ResultsError}
use Rattle.sys_table.specs.declared.results_error.ResultsError.TheVariants.{OutOfMemory, BadLine, NoEnd, TooLong, Version}
use Rattle.sys_table.specs.declared.sys_result.SysResult.{SysResult}
use Rattle.sys_table.specs.ResultsText.{longest, HasTooManyResults, AreResultsWithin, IsResultsRefusal}
use Rattle.tool_frame.specs.declared.stop.Stop.{Stop}
use Rattle.tool_frame.specs.declared.stop.Stop.TheVariants as stops
use Rattle.tool_frame.specs.Stop.{Stops}
use Rattle.tool_steps.specs.ResultsStops.{IsStopOfResults, RefusesResultsAlone}

module _ (file text : List ℕ) (is : text ≡ take 67108865 file) where
  -- what is read is the file where it is within the limit
  text_is_file : length text ≤ longest → text ≡ file
  text_is_file short =
      let long : length file ≤ 67108865 = omega (arith, length-take 67108865 file, ap length is, short) in
      is ∙ take_all 67108865 file long

  longer : longest < length text → longest < length file
  longer long = omega (arith, long, length-take 67108865 file, ap length is)

  many_of_file : HasTooManyResults text → IsResultsRefusal TooLong file
  many_of_file many = at (nat_le (length text) longest) refl
    where
      at : (b : Bool) → nat_le (length text) longest ≡ b → IsResultsRefusal TooLong file
      at true e = let short : length text ≤ longest = grind (arith, nat_tests) in inr (subst HasTooManyResults (text_is_file short) many)
      at false e = let long : longest < length text = grind (arith, nat_tests) in inl (longer long)

  pub refusal_of_file : (error : ResultsError) → IsResultsRefusal error text → IsResultsRefusal error file
  refusal_of_file OutOfMemory refusal = tt
  refusal_of_file TooLong (inl long) = inl (longer long)
  refusal_of_file TooLong (inr many) = many_of_file many
  refusal_of_file Version refusal = subst (IsResultsRefusal Version) (text_is_file refusal.0) refusal
  refusal_of_file (BadLine k) refusal = subst (IsResultsRefusal (BadLine k)) (text_is_file refusal.0) refusal
  refusal_of_file NoEnd refusal = subst (IsResultsRefusal NoEnd) (text_is_file refusal.0) refusal

pub results_of_file : (told : Option Files) (name text : List ℕ) (records : List SysResult) → ReadsWhole told name 67108865 text → AreResultsWithin text records → IfSome told (λ files. AreResultsWithin (file_at files name) records)
results_of_file None name text records reads read = tt
results_of_file (Some files) name text records reads read = subst (λ (w : List ℕ). AreResultsWithin w records) (text_is_file (file_at files name) text reads read.short) read

refusal_told : (told : Option Files) (name text : List ℕ) (error : ResultsError) → ReadsWhole told name 67108865 text → IsResultsRefusal error text → IfSome told (λ files. IsResultsRefusal error (file_at files name))
refusal_told None name text error reads refusal = tt
refusal_told (Some files) name text error reads refusal = refusal_of_file (file_at files name) text reads error refusal

pub stops_results : (told : Option Files) (name text : List ℕ) (error : ResultsError) (stop : Stop) (Lacking : Type 0) (before after : ℕ) → ReadsWhole told name 67108865 text → IsResultsRefusal error text → IsStopOfResults stop error → Stops stop (RefusesResultsAlone told name) Lacking before after
stops_results told name text error stops.Usage Lacking before after reads refusal why = why
stops_results told name text error (stops.Source line) Lacking before after reads refusal why = absurd why
stops_results told name text error (stops.Model line) Lacking before after reads refusal why = absurd why
stops_results told name text error (stops.Record line) Lacking before after reads refusal why = (error, why.0, refl, why.1, refusal_told told name text error reads refusal)
stops_results told name text error stops.Read Lacking before after reads refusal why = absurd why
stops_results told name text error stops.Write Lacking before after reads refusal why = why
stops_results told name text error stops.OutOfMemory Lacking before after reads refusal why = tt
