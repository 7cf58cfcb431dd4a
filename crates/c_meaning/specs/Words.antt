-- The words of a shape, each said by what is still to be read before it and after it: what stands in t before u is read.
use Rattle.std.specs.Prelude.{◌≡◌, ℕ, ℤ, Bool, false, List, [], ◌∷◌, ◌++◌, Option, Contains}
use Rattle.dm_base.specs.declared.event.Event.{Event}
use Rattle.dm_base.specs.declared.event.Event.TheVariants.{Pre, Post}
use Rattle.dm_base.specs.Fits.{Fits}
use Rattle.c_meaning.specs.Shape.{Shape, Skip, Sys, Exit, Call, Seq, Alt, Loop, Do, Cases, Break, Continue, Return, Parts, End, Part, Shapes, shape_of, exit_call, Leave, goes_on, breaks, continues, returns, IsDone, IsNext, IsAway}

-- what is read before a call at a site and after it
pub record Marks : Type 0 where
  pub pre : ℕ → List Event
  pub post : ℕ → List Event

-- the null calls of the site (Giffin, Jha and Miller 2004)
abbrev pub brackets : Marks
brackets = record { pre = λ s. Pre s ∷ []; post = λ s. Post s ∷ [] }

-- nothing
abbrev pub no_brackets : Marks
no_brackets = record { pre = λ s. []; post = λ s. [] }

-- S is left by the exit x, having read what stands in t before u
mutual
  pub data Whole (env : Shapes) (m : Marks) : Shape → Leave → List Event → List Event → Type 0 where
    skip : {t : List Event} → Whole env m Skip goes_on t t
    sys : {x : ℕ} {q : List (Option ℤ)} {e : Event} {t : List Event} → Fits x q e → Whole env m (Sys x q) goes_on (e ∷ t) t
    call : {s f : ℕ} {x : Leave} {t u v w : List Event} → Contains (env.candidates s) f → t ≡ m.pre s ++ u → Whole env m (shape_of env f) x u v → IsDone x → v ≡ m.post s ++ w → Whole env m (Call s) goes_on t w
    left : {S T : Shape} {x : Leave} {t u : List Event} → Whole env m S x t u → Whole env m (Alt S T) x t u
    right : {S T : Shape} {x : Leave} {t u : List Event} → Whole env m T x t u → Whole env m (Alt S T) x t u
    loop_end : {C B P : Shape} {t u v : List Event} → Rounds env m C B P t u → Whole env m C goes_on u v → Whole env m (Loop C B P) goes_on t v
    loop_break : {C B P : Shape} {t u v w : List Event} → Rounds env m C B P t u → Whole env m C goes_on u v → Whole env m B breaks v w → Whole env m (Loop C B P) goes_on t w
    loop_return : {C B P : Shape} {t u v w : List Event} → Rounds env m C B P t u → Whole env m C goes_on u v → Whole env m B returns v w → Whole env m (Loop C B P) returns t w
    do_end : {B C : Shape} {y : Leave} {t u v w : List Event} → Again env m B C t u → IsNext y → Whole env m B y u v → Whole env m C goes_on v w → Whole env m (Do B C) goes_on t w
    do_break : {B C : Shape} {t u v : List Event} → Again env m B C t u → Whole env m B breaks u v → Whole env m (Do B C) goes_on t v
    do_return : {B C : Shape} {t u v : List Event} → Again env m B C t u → Whole env m B returns u v → Whole env m (Do B C) returns t v
    in_order : {S : Shape} {ps : Parts} {x : Leave} {t u : List Event} → Falls env m (Part S ps) x t u → Whole env m (Seq S ps) x t u
    cases_end : {ps : Parts} {d : Bool} {t u : List Event} → Picks env m ps goes_on t u → Whole env m (Cases ps d) goes_on t u
    cases_break : {ps : Parts} {d : Bool} {t u : List Event} → Picks env m ps breaks t u → Whole env m (Cases ps d) goes_on t u
    cases_continue : {ps : Parts} {d : Bool} {t u : List Event} → Picks env m ps continues t u → Whole env m (Cases ps d) continues t u
    cases_return : {ps : Parts} {d : Bool} {t u : List Event} → Picks env m ps returns t u → Whole env m (Cases ps d) returns t u
    cases_none : {ps : Parts} {t : List Event} → Whole env m (Cases ps false) goes_on t t
    break_out : {t : List Event} → Whole env m Break breaks t t
    continue_on : {t : List Event} → Whole env m Continue continues t t
    return_now : {t : List Event} → Whole env m Return returns t t

  pub data Rounds (env : Shapes) (m : Marks) : Shape → Shape → Shape → List Event → List Event → Type 0 where
    none : {C B P : Shape} {t : List Event} → Rounds env m C B P t t
    round : {C B P : Shape} {y : Leave} {t u v w a : List Event} → Rounds env m C B P t u → Whole env m C goes_on u v → IsNext y → Whole env m B y v w → Whole env m P goes_on w a → Rounds env m C B P t a

  pub data Again (env : Shapes) (m : Marks) : Shape → Shape → List Event → List Event → Type 0 where
    first : {B C : Shape} {t : List Event} → Again env m B C t t
    again : {B C : Shape} {y : Leave} {t u v w : List Event} → Again env m B C t u → IsNext y → Whole env m B y u v → Whole env m C goes_on v w → Again env m B C t w

  -- the parts in order, from the first on
  pub data Falls (env : Shapes) (m : Marks) : Parts → Leave → List Event → List Event → Type 0 where
    ended : {t : List Event} → Falls env m End goes_on t t
    falls_on : {S : Shape} {ps : Parts} {x : Leave} {t u v : List Event} → Whole env m S goes_on t u → Falls env m ps x u v → Falls env m (Part S ps) x t v
    falls_away : {S : Shape} {ps : Parts} {x : Leave} {t u : List Event} → IsAway x → Whole env m S x t u → Falls env m (Part S ps) x t u

  -- the parts in order, from some part on
  pub data Picks (env : Shapes) (m : Marks) : Parts → Leave → List Event → List Event → Type 0 where
    this : {S : Shape} {ps : Parts} {x : Leave} {t u : List Event} → Falls env m (Part S ps) x t u → Picks env m (Part S ps) x t u
    later : {S : Shape} {ps : Parts} {x : Leave} {t u : List Event} → Picks env m ps x t u → Picks env m (Part S ps) x t u

-- from the start of S what stands in t before u is read
mutual
  pub data Front (env : Shapes) (m : Marks) : Shape → List Event → List Event → Type 0 where
    nothing : {S : Shape} {t : List Event} → Front env m S t t
    all : {S : Shape} {x : Leave} {t u : List Event} → Whole env m S x t u → Front env m S t u
    exits : {q : List (Option ℤ)} {e : Event} {t : List Event} → Fits exit_call q e → Front env m (Exit q) (e ∷ t) t
    inside : {s f : ℕ} {t u v : List Event} → Contains (env.candidates s) f → t ≡ m.pre s ++ u → Front env m (shape_of env f) u v → Front env m (Call s) t v
    in_left : {S T : Shape} {t u : List Event} → Front env m S t u → Front env m (Alt S T) t u
    in_right : {S T : Shape} {t u : List Event} → Front env m T t u → Front env m (Alt S T) t u
    in_test : {C B P : Shape} {t u v : List Event} → Rounds env m C B P t u → Front env m C u v → Front env m (Loop C B P) t v
    in_body : {C B P : Shape} {t u v w : List Event} → Rounds env m C B P t u → Whole env m C goes_on u v → Front env m B v w → Front env m (Loop C B P) t w
    in_step : {C B P : Shape} {y : Leave} {t u v w a : List Event} → Rounds env m C B P t u → Whole env m C goes_on u v → IsNext y → Whole env m B y v w → Front env m P w a → Front env m (Loop C B P) t a
    in_do : {B C : Shape} {t u v : List Event} → Again env m B C t u → Front env m B u v → Front env m (Do B C) t v
    in_until : {B C : Shape} {y : Leave} {t u v w : List Event} → Again env m B C t u → IsNext y → Whole env m B y u v → Front env m C v w → Front env m (Do B C) t w
    in_seq : {S : Shape} {ps : Parts} {t u : List Event} → FrontFalls env m (Part S ps) t u → Front env m (Seq S ps) t u
    in_cases : {ps : Parts} {d : Bool} {t u : List Event} → FrontPicks env m ps t u → Front env m (Cases ps d) t u

  pub data FrontFalls (env : Shapes) (m : Marks) : Parts → List Event → List Event → Type 0 where
    in_part : {S : Shape} {ps : Parts} {t u : List Event} → Front env m S t u → FrontFalls env m (Part S ps) t u
    in_next : {S : Shape} {ps : Parts} {t u v : List Event} → Whole env m S goes_on t u → FrontFalls env m ps u v → FrontFalls env m (Part S ps) t v

  pub data FrontPicks (env : Shapes) (m : Marks) : Parts → List Event → List Event → Type 0 where
    from_this : {ps : Parts} {t u : List Event} → FrontFalls env m ps t u → FrontPicks env m ps t u
    from_later : {S : Shape} {ps : Parts} {t u : List Event} → FrontPicks env m ps t u → FrontPicks env m (Part S ps) t u
