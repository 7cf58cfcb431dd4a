-- Why a model is not inlined.
use Rattle.std.specs.Prelude.{ℕ}
use Rattle.flow_model.specs.Graph.{Graph}
use Rattle.inline_model.specs.declared.failure.InlineError.{InlineError}
use Rattle.inline_model.specs.declared.failure.InlineError.TheVariants.{OutOfMemory, Recursive, TooManyNodes}
use Rattle.inline_model.specs.Chains.{IsGreatest, HasNoGreatest}
use Rattle.inline_model.specs.Inlined.{HasTooManyNodes}

-- the longest chains have a length
abbrev pub IsBounded : Graph → Type 0
IsBounded g = (n : ℕ) × IsGreatest g n

-- what stands where this error is answered; nothing is said of memory
abbrev pub HasCause : Graph → InlineError → Type 0
HasCause g OutOfMemory = Unit {0}
HasCause g Recursive = HasNoGreatest g
HasCause g TooManyNodes = IsBounded g × HasTooManyNodes g
