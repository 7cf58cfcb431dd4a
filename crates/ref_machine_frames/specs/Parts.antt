-- What a step of a machine does: it comes to the next thing and what is left to do, whose meaning is that of the part that it was given
-- and then of what was left to do before.
use Rattle.std.specs.Prelude.{◌≡◌, List}
use Rattle.c_tree.specs.declared.value.Value.{Value}
use Rattle.c_tree.specs.Tree.{Program}
use Rattle.c_values.specs.Answers.{Answer}
use Rattle.c_values.specs.Memory.{Objects}
use Rattle.c_meaning.specs.Meaning.{World, Frame as Place}
use Rattle.c_meaning.specs.Results.{State, with_memory, Result, then_do, answered, Exit}
use Rattle.ref_machine_frames.specs.declared.frames.Here.{Here}
use Rattle.ref_machine_frames.specs.declared.frames.Frame.{Frame}
use Rattle.ref_machine_frames.specs.declared.frames.Now.{Now}
use Rattle.ref_machine_frames.specs.Frames.{place_of, stack, after_value, after_exit, rest}

-- a part that gives a value
abbrev pub Gives : Program → Here → Objects → List Frame → (World → State → Result Value) → Now → Objects → List Frame → Type 0
Gives p h old before part now new todo =
    (w : World) (st : State) → rest p w (place_of h) now (stack todo) (with_memory st new) ≡ then_do (part w (with_memory st old)) (after_value p w (place_of h) (stack before))

-- a part that is left by an exit
abbrev pub Leaves : Program → Here → Objects → List Frame → (World → State → Result Exit) → Now → Objects → List Frame → Type 0
Leaves p h old before part now new todo =
    (w : World) (st : State) → rest p w (place_of h) now (stack todo) (with_memory st new) ≡ then_do (part w (with_memory st old)) (after_exit p w (place_of h) (stack before))

-- a step that leaves memory and what is left to do as they were, and gives this answer
abbrev pub IsAnswer : Answer Value → Now → Type 0
IsAnswer answer now =
    (p : Program) (w : World) (fr : Place) (todo : List Frame) (st : State) → rest p w fr now todo st ≡ then_do (answered answer st) (after_value p w fr todo)

-- a part that gives a value and leaves memory and what is left to do as they were
abbrev pub Does : Program → Objects → (World → State → Result Value) → Now → Type 0
Does p m part now =
    (w : World) (fr : Place) (todo : List Frame) (st : State) → rest p w fr now todo (with_memory st m) ≡ then_do (part w (with_memory st m)) (after_value p w fr todo)
