-- Each language has the first parts of its words.
use Rattle.std.proofs.Common.{ℕ, List, [], ◌∷◌, ◌++◌, sym, subst, ◌∙◌}
use Rattle.std.proofs.lemmas.List.{append_cancel_right, append-nil}
use Rattle.dm_base.specs.declared.event.Event.{Event}
use Rattle.dm_base.specs.Trace.{erase}
use Rattle.c_meaning.specs.Shape.{Shape, Shapes, shape_of}
use Rattle.c_meaning.specs.Words.{Marks, brackets, no_brackets, Front}
use Rattle.c_meaning.specs.Walks.{Point, Walks}
use Rattle.c_meaning.specs.Walks as W
use Rattle.c_meaning.specs.Languages.{Dyck, Stack, Callgraph}
use Rattle.flow_model.proofs.Histories.{erase-append}
use Rattle.c_meaning.proofs.Joining.{front_from, front_to}
use Rattle.c_meaning.proofs.Cutting.{Rest, here, later, past, IsShort, short_brackets, short_no_brackets, front}

left_alone : (t : List Event) → Rest t []
left_alone [] = here
left_alone (e ∷ t) = later (left_alone t)

-- what follows a front is nothing to it
alone : (env : Shapes) (m : Marks) (S : Shape) (a b : List Event) → Front env m S (a ++ b) b → Front env m S a []
alone env m S a b h = let r = front_to env m h in subst (λ t. Front env m S t []) (append-nil (r.0) ∙ sym (append_cancel_right a (r.0) b r.1)) (front_from env m r.2 [])

cut_word : (env : Shapes) (m : Marks) → IsShort m → (S : Shape) (a b : List Event) → Front env m S (a ++ b) [] → Front env m S a []
cut_word env m short S a b h = alone env m S a b (front env m short h (past a b) (left_alone b))

-- a is a first part of t
data First : List Event → List Event → Type 0 where
  empty : {t : List Event} → First [] t
  more : {e : Event} {a t : List Event} → First a t → First (e ∷ a) (e ∷ t)

first : (a b : List Event) → First a (a ++ b)
first [] b = empty
first (e ∷ a) b = more (first a b)

cut_walk : {env : Shapes} {f : ℕ} {x : Point (shape_of env f)} {a t : List Event} → Walks env f x t → First a t → Walks env f x a
cut_walk W.over empty = W.over
cut_walk (W.quiet h k) i = W.quiet h (cut_walk k i)
cut_walk (W.reads h fits k) empty = W.over
cut_walk (W.reads h fits k) (more i) = W.reads h fits (cut_walk k i)
cut_walk (W.stops h fits) empty = W.over
cut_walk (W.stops h fits) (more empty) = W.stops h fits
cut_walk (W.return h k) i = W.return h (cut_walk k i)
cut_walk (W.enter h among k) i = W.enter h among (cut_walk k i)
cut_walk (W.leave h among k) i = W.leave h among (cut_walk k i)

pub dyck_front : (env : Shapes) (a b : List Event) → Dyck env (a ++ b) → Dyck env a
dyck_front env a b h = cut_word env brackets short_brackets (shape_of env env.main) a b h

pub stack_front : (env : Shapes) (a b : List Event) → Stack env (a ++ b) → Stack env a
stack_front env a b h = cut_word env no_brackets short_no_brackets (shape_of env env.main) (erase a) (erase b) (subst (λ t. Front env no_brackets (shape_of env env.main) t []) (erase-append a b) h)

pub callgraph_front : (env : Shapes) (a b : List Event) → Callgraph env (a ++ b) → Callgraph env a
callgraph_front env a b h = cut_walk h (subst (λ t. First (erase a) t) (sym (erase-append a b)) (first (erase a) (erase b)))
