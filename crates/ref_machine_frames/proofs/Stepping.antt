-- Steps in statements: what is left to do after them.
use Rattle.std.proofs.Common.{◌≡◌, List, [], ◌∷◌, ◌++◌, sym, ap, ◌∙◌}
use Rattle.c_tree.specs.Tree.{Program}
use Rattle.c_values.specs.Memory.{Objects}
use Rattle.c_meaning.specs.Meaning.{World}
use Rattle.c_meaning.specs.Results.{State, with_memory, Result, Go, then_do, Exit}
use Rattle.ref_machine_frames.specs.declared.frames.Here.{Here}
use Rattle.ref_machine_frames.specs.declared.frames.ExitFrame.{ExitFrame}
use Rattle.ref_machine_frames.specs.declared.frames.Frame.{Frame}
use Rattle.ref_machine_frames.specs.declared.frames.Frame.TheVariants as frames
use Rattle.ref_machine_frames.specs.declared.frames.Left.{Left}
use Rattle.ref_machine_frames.specs.declared.frames.Now.{Now}
use Rattle.ref_machine_frames.specs.declared.frames.Now.TheVariants as nows
use Rattle.ref_machine_frames.specs.Frames.{place_of, stack, exit_in, after_exit, with_exit}
use Rattle.ref_machine_frames.specs.Parts.{Leaves}
use Rattle.ref_machine_frames.proofs.Joining.{after_none, waits_for}

-- a part is left at once
pub left_at : (p : Program) (h : Here) (m : Objects) (todo : List Frame) (x : Left) → Leaves p h m todo (λ w st. Go (exit_in x) st []) (nows.Left x) m todo
left_at p h m todo x w st = sym (after_none (after_exit p w (place_of h) (stack todo) (exit_in x) (with_memory st m)))

-- with other memory
pub left_with : (p : Program) (h : Here) (old new : Objects) (todo : List Frame) (x : Left) (change : Objects → Objects) → new ≡ change old → Leaves p h old todo (λ w st. Go (exit_in x) (with_memory st (change st.memory)) []) (nows.Left x) new todo
left_with p h old new todo x change e w st =
    ap (λ m. after_exit p w (place_of h) (stack todo) (exit_in x) (with_memory st m)) e ∙ sym (after_none (after_exit p w (place_of h) (stack todo) (exit_in x) (with_memory st (change old))))

-- a part is another one
pub as_part : (p : Program) (h : Here) (old new : Objects) (before todo : List Frame) (r q : World → State → Result Exit) (now : Now) → ((w : World) (st : State) → q w st ≡ r w st) → Leaves p h old before r now new todo → Leaves p h old before q now new todo
as_part p h old new before todo r q now e l w st = l w st ∙ ap (λ x. then_do x (after_exit p w (place_of h) (stack before))) (sym (e w (with_memory st old)))

-- a part for whose exit something waits
pub under : (p : Program) (h : Here) (m m2 : Objects) (f : ExitFrame) (old inner new : List Frame) (r : World → State → Result Exit) (now : Now) → inner ≡ old ++ (frames.Exit f ∷ []) → Leaves p h m inner r now m2 new
    → Leaves p h m old (λ w st. then_do (r w st) (with_exit p w (place_of h) f)) now m2 new
under p h m m2 f old inner new r now e l w st = l w st ∙ waits_for p w (place_of h) (r w (with_memory st m)) f old inner e
