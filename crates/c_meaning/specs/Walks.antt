-- The callgraph language: walks over the points before and after each part of the shapes (Wagner and Dean 2001).
use Rattle.std.specs.Prelude.{ℕ, ℤ, Bool, false, List, [], ◌∷◌, Option, Contains}
use Rattle.dm_base.specs.declared.event.Event.{Event}
use Rattle.dm_base.specs.Fits.{Fits}
use Rattle.c_meaning.specs.Shape.{Shape, Skip, Sys, Exit, Call, Seq, Alt, Loop, Do, Cases, Break, Continue, Return, Parts, End, Part, Shapes, shape_of, exit_call}

mutual
  -- before or after a shape, or at a point of one of its parts
  pub data Point : Shape → Type 0 where
    before : {S : Shape} → Point S
    after : {S : Shape} → Point S
    left : {S T : Shape} → Point S → Point (Alt S T)
    right : {S T : Shape} → Point T → Point (Alt S T)
    test : {C B P : Shape} → Point C → Point (Loop C B P)
    inner : {C B P : Shape} → Point B → Point (Loop C B P)
    step : {C B P : Shape} → Point P → Point (Loop C B P)
    do_inner : {B C : Shape} → Point B → Point (Do B C)
    do_test : {B C : Shape} → Point C → Point (Do B C)
    parts : {S : Shape} {ps : Parts} → PartPoint (Part S ps) → Point (Seq S ps)
    case : {ps : Parts} {d : Bool} → PartPoint ps → Point (Cases ps d)

  pub data PartPoint : Parts → Type 0 where
    this : {S : Shape} {ps : Parts} → Point S → PartPoint (Part S ps)
    later : {S : Shape} {ps : Parts} → PartPoint ps → PartPoint (Part S ps)

-- where a step leads: to a point, out of the shape by an exit, past the last part of a switch, or to the end of the program
pub data Target (P : Type 0) : Type 0 where
  at : P → Target P
  by_break : Target P
  by_continue : Target P
  by_return : Target P
  past : Target P
  stopped : Target P

-- what the targets of a part are for the whole
pub record Map (P Q : Type 0) : Type 0 where
  pub point : P → Q
  pub break_to : Target Q
  pub continue_to : Target Q
  pub past_to : Target Q

abbrev pub apply : {P Q : Type 0} → Map P Q → Target P → Target Q
apply m (at x) = at (m.point x)
apply m by_break = m.break_to
apply m by_continue = m.continue_to
apply m by_return = by_return
apply m past = m.past_to
apply m stopped = stopped

abbrev pub plain : {P Q : Type 0} → (P → Q) → Map P Q
plain f = record { point = f; break_to = by_break; continue_to = by_continue; past_to = past }

abbrev pub of_body : (C B P : Shape) → Map (Point B) (Point (Loop C B P))
of_body C B P = record { point = inner; break_to = at after; continue_to = at (step before); past_to = past }

abbrev pub of_do : (B C : Shape) → Map (Point B) (Point (Do B C))
of_do B C = record { point = do_inner; break_to = at after; continue_to = at (do_test before); past_to = past }

abbrev pub of_seq : (S : Shape) (ps : Parts) → Map (PartPoint (Part S ps)) (Point (Seq S ps))
of_seq S ps = record { point = parts; break_to = by_break; continue_to = by_continue; past_to = at after }

abbrev pub of_cases : (ps : Parts) (d : Bool) → Map (PartPoint ps) (Point (Cases ps d))
of_cases ps d = record { point = case; break_to = at after; continue_to = by_continue; past_to = at after }

-- before one of the parts of a switch
pub data Starts : (ps : Parts) → PartPoint ps → Type 0 where
  starts_this : {S : Shape} {ps : Parts} → Starts (Part S ps) (this before)
  starts_later : {S : Shape} {ps : Parts} {k : PartPoint ps} → Starts ps k → Starts (Part S ps) (later k)

-- what a step of a walk reads: nothing, or a system call; or a call at a site is passed
pub data Label : Type 0 where
  Silent : Label
  System : ℕ → List (Option ℤ) → Label
  Site : ℕ → Label

-- the steps within a shape; one with the label of a site goes from before a call to after it
mutual
  pub data Hop : (S : Shape) → Point S → Label → Target (Point S) → Type 0 where
    skip : Hop Skip before Silent (at after)
    sys : {x : ℕ} {q : List (Option ℤ)} → Hop (Sys x q) before (System x q) (at after)
    exit : {q : List (Option ℤ)} → Hop (Exit q) before (System exit_call q) stopped
    call : {s : ℕ} → Hop (Call s) before (Site s) (at after)
    to_left : {S T : Shape} → Hop (Alt S T) before Silent (at (left before))
    to_right : {S T : Shape} → Hop (Alt S T) before Silent (at (right before))
    left_out : {S T : Shape} → Hop (Alt S T) (left after) Silent (at after)
    right_out : {S T : Shape} → Hop (Alt S T) (right after) Silent (at after)
    in_left : {S T : Shape} {x : Point S} {l : Label} {t : Target (Point S)} → Hop S x l t → Hop (Alt S T) (left x) l (apply (plain left) t)
    in_right : {S T : Shape} {x : Point T} {l : Label} {t : Target (Point T)} → Hop T x l t → Hop (Alt S T) (right x) l (apply (plain right) t)
    loop_in : {C B P : Shape} → Hop (Loop C B P) before Silent (at (test before))
    loop_on : {C B P : Shape} → Hop (Loop C B P) (test after) Silent (at (inner before))
    loop_out : {C B P : Shape} → Hop (Loop C B P) (test after) Silent (at after)
    loop_next : {C B P : Shape} → Hop (Loop C B P) (inner after) Silent (at (step before))
    loop_again : {C B P : Shape} → Hop (Loop C B P) (step after) Silent (at (test before))
    in_test : {C B P : Shape} {x : Point C} {l : Label} {t : Target (Point C)} → Hop C x l t → Hop (Loop C B P) (test x) l (apply (plain test) t)
    in_inner : {C B P : Shape} {x : Point B} {l : Label} {t : Target (Point B)} → Hop B x l t → Hop (Loop C B P) (inner x) l (apply (of_body C B P) t)
    in_step : {C B P : Shape} {x : Point P} {l : Label} {t : Target (Point P)} → Hop P x l t → Hop (Loop C B P) (step x) l (apply (plain step) t)
    do_in : {B C : Shape} → Hop (Do B C) before Silent (at (do_inner before))
    do_on : {B C : Shape} → Hop (Do B C) (do_inner after) Silent (at (do_test before))
    do_again : {B C : Shape} → Hop (Do B C) (do_test after) Silent (at (do_inner before))
    do_out : {B C : Shape} → Hop (Do B C) (do_test after) Silent (at after)
    in_do : {B C : Shape} {x : Point B} {l : Label} {t : Target (Point B)} → Hop B x l t → Hop (Do B C) (do_inner x) l (apply (of_do B C) t)
    in_until : {B C : Shape} {x : Point C} {l : Label} {t : Target (Point C)} → Hop C x l t → Hop (Do B C) (do_test x) l (apply (plain do_test) t)
    seq_in : {S : Shape} {ps : Parts} → Hop (Seq S ps) before Silent (at (parts (this before)))
    in_seq : {S : Shape} {ps : Parts} {x : PartPoint (Part S ps)} {l : Label} {t : Target (PartPoint (Part S ps))} → PartHop (Part S ps) x l t → Hop (Seq S ps) (parts x) l (apply (of_seq S ps) t)
    case_in : {ps : Parts} {d : Bool} {k : PartPoint ps} → Starts ps k → Hop (Cases ps d) before Silent (at (case k))
    no_case : {ps : Parts} → Hop (Cases ps false) before Silent (at after)
    in_case : {ps : Parts} {d : Bool} {x : PartPoint ps} {l : Label} {t : Target (PartPoint ps)} → PartHop ps x l t → Hop (Cases ps d) (case x) l (apply (of_cases ps d) t)
    break_out : Hop Break before Silent by_break
    continue_on : Hop Continue before Silent by_continue
    return_now : Hop Return before Silent by_return

  pub data PartHop : (ps : Parts) → PartPoint ps → Label → Target (PartPoint ps) → Type 0 where
    in_this : {S : Shape} {ps : Parts} {x : Point S} {l : Label} {t : Target (Point S)} → Hop S x l t → PartHop (Part S ps) (this x) l (apply (plain this) t)
    in_later : {S : Shape} {ps : Parts} {x : PartPoint ps} {l : Label} {t : Target (PartPoint ps)} → PartHop ps x l t → PartHop (Part S ps) (later x) l (apply (plain later) t)
    case_on : {S T : Shape} {ps : Parts} → PartHop (Part S (Part T ps)) (this after) Silent (at (later (this before)))
    case_out : {S : Shape} → PartHop (Part S End) (this after) Silent past

-- the word t is read along some walk from the point x of f; the end of f goes on after each call that may be of f
pub data Walks (env : Shapes) : (f : ℕ) → Point (shape_of env f) → List Event → Type 0 where
  over : {f : ℕ} {x : Point (shape_of env f)} → Walks env f x []
  quiet : {f : ℕ} {x y : Point (shape_of env f)} {t : List Event} → Hop (shape_of env f) x Silent (at y) → Walks env f y t → Walks env f x t
  reads : {f n : ℕ} {q : List (Option ℤ)} {x y : Point (shape_of env f)} {e : Event} {t : List Event} → Hop (shape_of env f) x (System n q) (at y) → Fits n q e → Walks env f y t → Walks env f x (e ∷ t)
  stops : {f n : ℕ} {q : List (Option ℤ)} {x : Point (shape_of env f)} {e : Event} → Hop (shape_of env f) x (System n q) stopped → Fits n q e → Walks env f x (e ∷ [])
  return : {f : ℕ} {x : Point (shape_of env f)} {t : List Event} → Hop (shape_of env f) x Silent by_return → Walks env f after t → Walks env f x t
  enter : {f h s : ℕ} {x y : Point (shape_of env f)} {t : List Event} → Hop (shape_of env f) x (Site s) (at y) → Contains (env.candidates s) h → Walks env h before t → Walks env f x t
  leave : {f h s : ℕ} {x y : Point (shape_of env f)} {t : List Event} → Hop (shape_of env f) x (Site s) (at y) → Contains (env.candidates s) h → Walks env f y t → Walks env h after t
