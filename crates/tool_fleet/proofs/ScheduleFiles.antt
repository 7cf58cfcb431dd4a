-- A schedule that was read up to one byte past its limit.
use Rattle.std.proofs.Common.{◌≡◌, ℕ, ◌<◌, ◌≤◌, nat_le, Bool, true, false, List, length, take, Option, Some, None, IfSome, inl, inr, refl, subst, ap, ◌∙◌, arith}
use Rattle.std.proofs.lemmas.Bool.Decides.{nat_tests}
use Rattle.std.proofs.lemmas.List.{take_all, length-take}
use Rattle.dm_io.specs.Store.{Files, file_at, ReadsWhole}
use Rattle.fleet_schedule.specs.declared.error.ScheduleError.{ScheduleError}
use Rattle.fleet_schedule.specs.declared.error.ScheduleError.TheVariants.{OutOfMemory, BadLine, NoEnd, TooLong, Version}
use Rattle.fleet_schedule.specs.Plan.{Plan}
use Rattle.fleet_schedule.specs.ScheduleText.{longest, HasTooMany, IsScheduleWithin, IsScheduleRefusal}
use Rattle.tool_fleet.specs.Fleet.{RefusesSchedule}
use Rattle.tool_fleet.specs.Inputs.{IsStopOfSchedule}
use Rattle.tool_frame.specs.declared.stop.Stop.{Stop}
use Rattle.tool_frame.specs.declared.stop.Stop.TheVariants as stops
use Rattle.tool_frame.specs.Stop.{Stops}

module _ (file text : List ℕ) (is : text ≡ take 16777217 file) where
  -- what is read is the file where it is within the limit
  text_is_file : length text ≤ longest → text ≡ file
  text_is_file short =
      let long : length file ≤ 16777217 = omega (arith, length-take 16777217 file, ap length is, short) in
      is ∙ take_all 16777217 file long

  longer : longest < length text → longest < length file
  longer long = omega (arith, long, length-take 16777217 file, ap length is)

  many_of_file : HasTooMany text → IsScheduleRefusal TooLong file
  many_of_file many = at (nat_le (length text) longest) refl
    where
      at : (b : Bool) → nat_le (length text) longest ≡ b → IsScheduleRefusal TooLong file
      at true e = let short : length text ≤ longest = grind (arith, nat_tests) in inr (subst HasTooMany (text_is_file short) many)
      at false e = let long : longest < length text = grind (arith, nat_tests) in inl (longer long)

  refusal_of_file : (error : ScheduleError) → IsScheduleRefusal error text → IsScheduleRefusal error file
  refusal_of_file OutOfMemory refusal = tt
  refusal_of_file TooLong (inl long) = inl (longer long)
  refusal_of_file TooLong (inr many) = many_of_file many
  refusal_of_file Version refusal = subst (IsScheduleRefusal Version) (text_is_file refusal.0) refusal
  refusal_of_file (BadLine k) refusal = subst (IsScheduleRefusal (BadLine k)) (text_is_file refusal.0) refusal
  refusal_of_file NoEnd refusal = subst (IsScheduleRefusal NoEnd) (text_is_file refusal.0) refusal

pub schedule_of_file : (told : Option Files) (name text : List ℕ) (plan : Plan) → ReadsWhole told name 16777217 text → IsScheduleWithin text plan → IfSome told (λ files. IsScheduleWithin (file_at files name) plan)
schedule_of_file None name text plan reads read = tt
schedule_of_file (Some files) name text plan reads read = subst (λ (w : List ℕ). IsScheduleWithin w plan) (text_is_file (file_at files name) text reads read.short) read

refusal_told : (told : Option Files) (name text : List ℕ) (error : ScheduleError) → ReadsWhole told name 16777217 text → IsScheduleRefusal error text → IfSome told (λ files. IsScheduleRefusal error (file_at files name))
refusal_told None name text error reads refusal = tt
refusal_told (Some files) name text error reads refusal = refusal_of_file (file_at files name) text reads error refusal

pub stops_schedule : (told : Option Files) (name text : List ℕ) (error : ScheduleError) (stop : Stop) (Lacking : Type 0) (before after : ℕ) → ReadsWhole told name 16777217 text → IsScheduleRefusal error text → IsStopOfSchedule stop error → Stops stop (RefusesSchedule told name) Lacking before after
stops_schedule told name text error stops.Usage Lacking before after reads refusal why = why
stops_schedule told name text error (stops.Source line) Lacking before after reads refusal why = absurd why
stops_schedule told name text error (stops.Model line) Lacking before after reads refusal why = absurd why
stops_schedule told name text error (stops.Record line) Lacking before after reads refusal why = (error, why.0, refl, why.1, refusal_told told name text error reads refusal)
stops_schedule told name text error stops.Read Lacking before after reads refusal why = absurd why
stops_schedule told name text error stops.Write Lacking before after reads refusal why = why
stops_schedule told name text error stops.OutOfMemory Lacking before after reads refusal why = tt
