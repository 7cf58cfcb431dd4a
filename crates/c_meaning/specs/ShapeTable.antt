-- The words of a shape as a table: those of its parts, joined. The first four columns of the table are `Whole`, the last is `Front`.
use Rattle.std.specs.Prelude.{ℕ, ℤ, Bool, false, List, [], ◌∷◌, ◌++◌, Option, Contains}
use Rattle.dm_base.specs.declared.event.Event.{Event}
use Rattle.dm_base.specs.Fits.{Fits}
use Rattle.c_meaning.specs.Shape.{Shape, Skip, Sys, Exit, Call, Seq, Alt, Loop, Do, Cases, Break, Continue, Return, Parts, End, Part, Shapes, shape_of, exit_call, Leave, goes_on, breaks, continues, returns, IsDone, IsNext, IsAway}
use Rattle.c_meaning.specs.Words.{Marks}

mutual
  -- S is read whole and left by the exit x
  pub data Whole (env : Shapes) (m : Marks) : Shape → Leave → List Event → Type 0 where
    skip : Whole env m Skip goes_on []
    sys : {x : ℕ} {q : List (Option ℤ)} {e : Event} → Fits x q e → Whole env m (Sys x q) goes_on (e ∷ [])
    call : {s f : ℕ} {x : Leave} {a : List Event} → Contains (env.candidates s) f → Whole env m (shape_of env f) x a → IsDone x → Whole env m (Call s) goes_on (m.pre s ++ (a ++ m.post s))
    left : {S T : Shape} {x : Leave} {a : List Event} → Whole env m S x a → Whole env m (Alt S T) x a
    right : {S T : Shape} {x : Leave} {a : List Event} → Whole env m T x a → Whole env m (Alt S T) x a
    loop_end : {C B P : Shape} {a b : List Event} → Rounds env m C B P a → Whole env m C goes_on b → Whole env m (Loop C B P) goes_on (a ++ b)
    loop_break : {C B P : Shape} {a b c : List Event} → Rounds env m C B P a → Whole env m C goes_on b → Whole env m B breaks c → Whole env m (Loop C B P) goes_on (a ++ (b ++ c))
    loop_return : {C B P : Shape} {a b c : List Event} → Rounds env m C B P a → Whole env m C goes_on b → Whole env m B returns c → Whole env m (Loop C B P) returns (a ++ (b ++ c))
    do_end : {B C : Shape} {y : Leave} {a b c : List Event} → Again env m B C a → IsNext y → Whole env m B y b → Whole env m C goes_on c → Whole env m (Do B C) goes_on (a ++ (b ++ c))
    do_break : {B C : Shape} {a b : List Event} → Again env m B C a → Whole env m B breaks b → Whole env m (Do B C) goes_on (a ++ b)
    do_return : {B C : Shape} {a b : List Event} → Again env m B C a → Whole env m B returns b → Whole env m (Do B C) returns (a ++ b)
    in_order : {S : Shape} {ps : Parts} {x : Leave} {a : List Event} → Falls env m (Part S ps) x a → Whole env m (Seq S ps) x a
    cases_end : {ps : Parts} {d : Bool} {a : List Event} → Picks env m ps goes_on a → Whole env m (Cases ps d) goes_on a
    cases_break : {ps : Parts} {d : Bool} {a : List Event} → Picks env m ps breaks a → Whole env m (Cases ps d) goes_on a
    cases_continue : {ps : Parts} {d : Bool} {a : List Event} → Picks env m ps continues a → Whole env m (Cases ps d) continues a
    cases_return : {ps : Parts} {d : Bool} {a : List Event} → Picks env m ps returns a → Whole env m (Cases ps d) returns a
    cases_none : {ps : Parts} → Whole env m (Cases ps false) goes_on []
    break_out : Whole env m Break breaks []
    continue_on : Whole env m Continue continues []
    return_now : Whole env m Return returns []

  pub data Rounds (env : Shapes) (m : Marks) : Shape → Shape → Shape → List Event → Type 0 where
    none : {C B P : Shape} → Rounds env m C B P []
    round : {C B P : Shape} {y : Leave} {a b c d : List Event} → Rounds env m C B P a → Whole env m C goes_on b → IsNext y → Whole env m B y c → Whole env m P goes_on d → Rounds env m C B P (a ++ (b ++ (c ++ d)))

  pub data Again (env : Shapes) (m : Marks) : Shape → Shape → List Event → Type 0 where
    first : {B C : Shape} → Again env m B C []
    again : {B C : Shape} {y : Leave} {a b c : List Event} → Again env m B C a → IsNext y → Whole env m B y b → Whole env m C goes_on c → Again env m B C (a ++ (b ++ c))

  pub data Falls (env : Shapes) (m : Marks) : Parts → Leave → List Event → Type 0 where
    ended : Falls env m End goes_on []
    falls_on : {S : Shape} {ps : Parts} {x : Leave} {a b : List Event} → Whole env m S goes_on a → Falls env m ps x b → Falls env m (Part S ps) x (a ++ b)
    falls_away : {S : Shape} {ps : Parts} {x : Leave} {a : List Event} → IsAway x → Whole env m S x a → Falls env m (Part S ps) x a

  pub data Picks (env : Shapes) (m : Marks) : Parts → Leave → List Event → Type 0 where
    this : {S : Shape} {ps : Parts} {x : Leave} {a : List Event} → Falls env m (Part S ps) x a → Picks env m (Part S ps) x a
    later : {S : Shape} {ps : Parts} {x : Leave} {a : List Event} → Picks env m ps x a → Picks env m (Part S ps) x a

mutual
  pub data Front (env : Shapes) (m : Marks) : Shape → List Event → Type 0 where
    nothing : {S : Shape} → Front env m S []
    all : {S : Shape} {x : Leave} {a : List Event} → Whole env m S x a → Front env m S a
    exits : {q : List (Option ℤ)} {e : Event} → Fits exit_call q e → Front env m (Exit q) (e ∷ [])
    inside : {s f : ℕ} {a : List Event} → Contains (env.candidates s) f → Front env m (shape_of env f) a → Front env m (Call s) (m.pre s ++ a)
    in_left : {S T : Shape} {a : List Event} → Front env m S a → Front env m (Alt S T) a
    in_right : {S T : Shape} {a : List Event} → Front env m T a → Front env m (Alt S T) a
    in_test : {C B P : Shape} {a b : List Event} → Rounds env m C B P a → Front env m C b → Front env m (Loop C B P) (a ++ b)
    in_body : {C B P : Shape} {a b c : List Event} → Rounds env m C B P a → Whole env m C goes_on b → Front env m B c → Front env m (Loop C B P) (a ++ (b ++ c))
    in_step : {C B P : Shape} {y : Leave} {a b c d : List Event} → Rounds env m C B P a → Whole env m C goes_on b → IsNext y → Whole env m B y c → Front env m P d → Front env m (Loop C B P) (a ++ (b ++ (c ++ d)))
    in_do : {B C : Shape} {a b : List Event} → Again env m B C a → Front env m B b → Front env m (Do B C) (a ++ b)
    in_until : {B C : Shape} {y : Leave} {a b c : List Event} → Again env m B C a → IsNext y → Whole env m B y b → Front env m C c → Front env m (Do B C) (a ++ (b ++ c))
    in_seq : {S : Shape} {ps : Parts} {a : List Event} → FrontFalls env m (Part S ps) a → Front env m (Seq S ps) a
    in_cases : {ps : Parts} {d : Bool} {a : List Event} → FrontPicks env m ps a → Front env m (Cases ps d) a

  pub data FrontFalls (env : Shapes) (m : Marks) : Parts → List Event → Type 0 where
    in_part : {S : Shape} {ps : Parts} {a : List Event} → Front env m S a → FrontFalls env m (Part S ps) a
    in_next : {S : Shape} {ps : Parts} {a b : List Event} → Whole env m S goes_on a → FrontFalls env m ps b → FrontFalls env m (Part S ps) (a ++ b)

  pub data FrontPicks (env : Shapes) (m : Marks) : Parts → List Event → Type 0 where
    from_this : {ps : Parts} {a : List Event} → FrontFalls env m ps a → FrontPicks env m ps a
    from_later : {S : Shape} {ps : Parts} {a : List Event} → FrontPicks env m ps a → FrontPicks env m (Part S ps) a
