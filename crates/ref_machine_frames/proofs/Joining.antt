-- Parts that follow one another, and what was pushed last.
use Rattle.std.proofs.Common.{◌≡◌, List, [], ◌∷◌, ◌++◌, sym, ap, ◌∙◌, refl}
use Rattle.std.proofs.lemmas.List.{reverse-append}
use Rattle.c_tree.specs.declared.value.Value.{Value}
use Rattle.c_tree.specs.Tree.{Program}
use Rattle.c_meaning.specs.Meaning.{Frame as Place, World}
use Rattle.c_meaning.specs.Results.{State, Result, Go, Stop, after, then_do, Exit}
pub use Rattle.c_meaning.proofs.Following.{after_none, then_after, then_assoc, then_nothing}
use Rattle.ref_machine_frames.specs.declared.frames.ValueFrame.{ValueFrame}
use Rattle.ref_machine_frames.specs.declared.frames.StatementFrame.{StatementFrame}
use Rattle.ref_machine_frames.specs.declared.frames.ExitFrame.{ExitFrame}
use Rattle.ref_machine_frames.specs.declared.frames.Frame.{Frame}
use Rattle.ref_machine_frames.specs.declared.frames.Frame.TheVariants as frames
use Rattle.ref_machine_frames.specs.Frames.{stack, with_value, in_statement, with_exit, after_value, after_exit}

pub then_same : {A B : Type 0} (r : Result A) (f g : A → State → Result B) → ((a : A) (st : State) → f a st ≡ g a st) → then_do r f ≡ then_do r g
then_same (Go a st w) f g h = ap (λ r. after w r) (h a st)
then_same (Stop o w) f g h = refl

pub pushed : (old new : List Frame) (f : Frame) → new ≡ old ++ (f ∷ []) → stack new ≡ f ∷ stack old
pushed old new f e = ap stack e ∙ reverse-append old (f ∷ [])

-- a value is waited for in an expression
pub waits : (p : Program) (w : World) (fr : Place) (r : Result Value) (f : ValueFrame) (old new : List Frame) → new ≡ old ++ (frames.Value f ∷ []) → then_do r (after_value p w fr (stack new)) ≡ then_do (then_do r (with_value p w fr f)) (after_value p w fr (stack old))
waits p w fr r f old new e =
    ap (λ k. then_do r (after_value p w fr k)) (pushed old new (frames.Value f) e) ∙ sym (then_assoc r (with_value p w fr f) (after_value p w fr (stack old)))

-- a value is waited for in a statement
pub waits_in : (p : Program) (w : World) (fr : Place) (r : Result Value) (f : StatementFrame) (old new : List Frame) → new ≡ old ++ (frames.Statement f ∷ []) → then_do r (after_value p w fr (stack new)) ≡ then_do (then_do r (in_statement p w fr f)) (after_exit p w fr (stack old))
waits_in p w fr r f old new e =
    ap (λ k. then_do r (after_value p w fr k)) (pushed old new (frames.Statement f) e) ∙ sym (then_assoc r (in_statement p w fr f) (after_exit p w fr (stack old)))

-- an exit is waited for
pub waits_for : (p : Program) (w : World) (fr : Place) (r : Result Exit) (f : ExitFrame) (old new : List Frame) → new ≡ old ++ (frames.Exit f ∷ []) → then_do r (after_exit p w fr (stack new)) ≡ then_do (then_do r (with_exit p w fr f)) (after_exit p w fr (stack old))
waits_for p w fr r f old new e =
    ap (λ k. then_do r (after_exit p w fr k)) (pushed old new (frames.Exit f) e) ∙ sym (then_assoc r (with_exit p w fr f) (after_exit p w fr (stack old)))
