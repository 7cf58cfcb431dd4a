-- What a step gives as the next thing of a machine.
use Rattle.std.proofs.Common.{◌≡◌, ℕ, sym, ap, ◌∙◌}
use Rattle.dm_base.specs.declared.outcome.Outcome.TheVariants.{Undefined}
use Rattle.c_tree.specs.declared.value.Value.{Value}
use Rattle.c_values.specs.Answers.{Answer, gives, undefined, U13}
use Rattle.c_meaning.specs.Results.{then_do, answered}
use Rattle.ref_machine_frames.specs.declared.frames.Now.{Now}
use Rattle.ref_machine_frames.specs.declared.frames.Now.TheVariants as nows
use Rattle.ref_machine_frames.specs.Frames.{after_value}
use Rattle.ref_machine_frames.specs.Parts.{IsAnswer}
use Rattle.ref_machine_frames.proofs.Joining.{after_none}

-- there is a value
pub typed_value : (v : Value) (answer : Answer Value) → gives v ≡ answer → IsAnswer answer (nows.Have v)
typed_value v answer e p w fr todo st =
    sym (after_none (after_value p w fr todo v st)) ∙ ap (λ a. then_do (answered a st) (after_value p w fr todo)) e

-- there is none
pub none_given : (kind : ℕ) (answer : Answer Value) → undefined kind ≡ answer → IsAnswer answer (nows.Stopped (Undefined kind))
none_given kind answer e p w fr todo st = ap (λ a. then_do (answered a st) (after_value p w fr todo)) e

-- a value of another kind than its place
pub mistyped : (answer : Answer Value) → undefined U13 ≡ answer → IsAnswer answer nows.Mistyped
mistyped answer e p w fr todo st = ap (λ a. then_do (answered a st) (after_value p w fr todo)) e

-- an answer that is the same
pub same_answer : (a b : Answer Value) (now : Now) → a ≡ b → IsAnswer a now → IsAnswer b now
same_answer a b now e h p w fr todo st = h p w fr todo st ∙ ap (λ a. then_do (answered a st) (after_value p w fr todo)) e
