-- What is left to do after a frame was pushed.
use Rattle.std.proofs.Common.{◌≡◌, ◌+◌, List, [], ◌∷◌, ◌++◌, ap, ◌∙◌, refl, arith}
use Rattle.ref_machine_frames.specs.declared.frames.Frame.{Frame}
use Rattle.ref_machine_frames.specs.Work.{of_all, of_frame}

all_more : (todo : List Frame) (f : Frame) → of_all (todo ++ (f ∷ [])) ≡ of_frame f + of_all todo
all_more [] f = refl
all_more (g ∷ todo) f = let h = all_more todo f in omega (arith, h)

-- one frame more is left to do
pub pushed_work : (old new : List Frame) (f : Frame) → new ≡ old ++ (f ∷ []) → of_all new ≡ of_frame f + of_all old
pushed_work old new f grown = ap of_all grown ∙ all_more old f
