-- What `inline` makes of its file and why it refuses it never hold both, and it is refused with one status.
use Rattle.std.proofs.Common.{◌≡◌, ℕ, ◌<◌, ◌≤◌, List, length, Option, Some, None, IfSome, inl, inr, refl, subst, arith}
use Rattle.dm_base.specs.declared.verdict.Status.{Status}
use Rattle.dm_base.specs.declared.verdict.Status.TheVariants as statuses
use Rattle.dm_io.specs.Store.{Files, file_at, IsMissing}
use Rattle.flow_model.specs.Graph.{Graph}
use Rattle.inline_model.specs.declared.failure.InlineError.{InlineError}
use Rattle.inline_model.specs.declared.failure.InlineError.TheVariants.{Recursive, TooManyNodes}
use Rattle.inline_model.specs.Cause.{IsBounded, HasCause}
use Rattle.inline_model.specs.Chains.{HasNoGreatest}
use Rattle.inline_model.specs.Inlined.{HasTooManyNodes}
use Rattle.inline_model.proofs.ChainLemmas.{greatest_excludes}
use Rattle.inline_model.proofs.OneInlined.{one_inlined}
use Rattle.model_file.specs.declared.version.ModelVersion.TheVariants.{Two}
use Rattle.model_file.specs.ModelText.{model_text}
use Rattle.model_file.specs.Refusal.{longest, IsModel}
use Rattle.model_file.proofs.UniqueLemmas.{one_graph}
use Rattle.tool_files.proofs.InputLemmas.{model_or_refused}
use Rattle.tool_frame.specs.declared.stop.Stop.{Stop}
use Rattle.tool_frame.specs.declared.stop.Stop.TheVariants as stops
use Rattle.tool_frame.specs.Stop.{Stops}
use Rattle.tool_reading.specs.Inline.{HasInlined, IsInlinedText, Inlines, IsNoInlinedLine, IsNotInlined, RefusesToInline, IsReadyToInline, recursive_line, many_line, long_line}
use Rattle.tool_reading.specs.Inline.IsNotInlined.{recursive, many, long}
use Rattle.tool_reading.specs.InlineStops.{IsStopBy, IsStopWith, StopsInlining}

pub stop_by : (P Q : List ℕ → Type 0) (stop : Stop) → ((line : List ℕ) → P line → Q line) → IsStopBy P stop → IsStopBy Q stop
stop_by P Q stops.Usage on why = why
stop_by P Q (stops.Source line) on why = why
stop_by P Q (stops.Model line) on why = on line.items why
stop_by P Q (stops.Record line) on why = why
stop_by P Q stops.Read on why = why
stop_by P Q stops.Write on why = why
stop_by P Q stops.OutOfMemory on why = tt

-- the stops of each reason
pub stops_recursive : (g : Graph) (error : InlineError) (stop : Stop) → error ≡ Recursive → HasCause g error → IsStopWith stop recursive_line → StopsInlining stop g
stops_recursive g error stop is cause =
    let why : HasNoGreatest g = subst (HasCause g) is cause in
    stop_by (λ (line : List ℕ). line ≡ recursive_line) (IsNotInlined g) stop (λ line same. recursive same why)

pub stops_many : (g : Graph) (error : InlineError) (stop : Stop) → error ≡ TooManyNodes → HasCause g error → IsStopWith stop many_line → StopsInlining stop g
stops_many g error stop is cause =
    let why : IsBounded g × HasTooManyNodes g = subst (HasCause g) is cause in
    stop_by (λ (line : List ℕ). line ≡ many_line) (IsNotInlined g) stop (λ line same. many same why.0 why.1)

pub stops_long : (g h : Graph) (stop : Stop) → HasInlined g h → longest < length (model_text Two h) → IsStopWith stop long_line → StopsInlining stop g
stops_long g h stop has more = stop_by (λ (line : List ℕ). line ≡ long_line) (IsNotInlined g) stop (λ line same. long same h has more)

pub inlines : (told : Option Files) (name text : List ℕ) (g : Graph) → IfSome told (λ files. IsModel (file_at files name) g) → IsInlinedText g text → IfSome told (λ files. Inlines files name text)
inlines None name text g is_model is = tt
inlines (Some files) name text g is_model is = (g, is_model, is)

-- why a model that was read is not inlined
no_inlined_line : {g : Graph} {line : List ℕ} → IsNotInlined g line → IsNoInlinedLine line
no_inlined_line (recursive is why) = inl is
no_inlined_line (many is bounded more) = inr (inl is)
no_inlined_line (long is h has more) = inr (inr is)

with_model : (told : Option Files) (name line : List ℕ) (g : Graph) → IfSome told (λ files. IsModel (file_at files name) g) → IsNotInlined g line → IfSome told (λ files. (h : Graph) × IsModel (file_at files name) h × IsNotInlined h line)
with_model None name line g is_model why = tt
with_model (Some files) name line g is_model why = (g, is_model, why)

pub stops_inlining : (told : Option Files) (name : List ℕ) (g : Graph) (stop : Stop) (before after : ℕ) → IfSome told (λ files. IsModel (file_at files name) g) → StopsInlining stop g → Stops stop (RefusesToInline told name) (IsMissing told name) before after
stops_inlining told name g stops.Usage before after is_model why = why
stops_inlining told name g (stops.Source line) before after is_model why = absurd why
stops_inlining told name g (stops.Model line) before after is_model why = inr (refl, no_inlined_line why, with_model told name line.items g is_model why)
stops_inlining told name g (stops.Record line) before after is_model why = absurd why
stops_inlining told name g stops.Read before after is_model why = absurd why
stops_inlining told name g stops.Write before after is_model why = why
stops_inlining told name g stops.OutOfMemory before after is_model why = tt

-- a model has an inlined one within the limits, or it is not inlined
inlined_apart : (g h : Graph) (line : List ℕ) → HasInlined g h → length (model_text Two h) ≤ longest → IsNotInlined g line → ⊥
inlined_apart g h line has short (recursive is why) = greatest_excludes g has.bounded.0 has.bounded.1 why
inlined_apart g h line has short (many is bounded more) = has.few more
inlined_apart g h line has short (long is k other more) =
    let same : k ≡ h = one_inlined g k h other.inlined has.inlined in
    let more_here : longest < length (model_text Two h) = subst (λ (m : Graph). longest < length (model_text Two m)) same more in
    omega (arith, more_here, short)

model_apart : (told : Files) (name line : List ℕ) (status : Status) (g h : Graph) → IsModel (file_at told name) g → HasInlined g h → length (model_text Two h) ≤ longest → RefusesToInline (Some told) name status line → ⊥
model_apart told name line status g h is_model has short (inl refuses) = model_or_refused told name refuses.0 (g, is_model) refuses.1 refuses.4
model_apart told name line status g h is_model has short (inr refuses) =
    let there = refuses.2 in
    let same : there.0 ≡ g = one_graph (file_at told name) (there.1).version is_model.version there.0 g (there.1).is is_model.is in
    inlined_apart g h line has short (subst (λ (m : Graph). IsNotInlined m line) same there.2)

pub inline_ready : (told : Option Files) (name line : List ℕ) (status : Status) → IsReadyToInline told name → RefusesToInline told name status line → ⊥
inline_ready None name line status ready refuses = ready
inline_ready (Some told) name line status ready refuses = model_apart told name line status ready.0 ready.1 ready.2 ready.3 ready.4 refuses

pub inline_apart : (told : Files) (name text line : List ℕ) (status : Status) → Inlines told name text → RefusesToInline (Some told) name status line → ⊥
inline_apart told name text line status makes refuses =
    let text_is = makes.2 in
    let short : length (model_text Two text_is.inlined) ≤ longest = subst (λ (w : List ℕ). length w ≤ longest) text_is.is (text_is.read_back).short in
    model_apart told name line status makes.0 text_is.inlined makes.1 text_is.has short refuses

pub inline_status : (told : Option Files) (name line : List ℕ) (status : Status) → RefusesToInline told name status line → status ≡ statuses.ModelRefused
inline_status told name line status (inl refuses) = refuses.2
inline_status told name line status (inr refuses) = refuses.0
