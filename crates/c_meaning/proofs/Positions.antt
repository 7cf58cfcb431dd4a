-- Where a run stands in a shape: the position at a fresh node, with what has been read up to there.
use Rattle.std.specs.Prelude.{◌≡◌, ℕ, ℤ, Bool, ◌+◌, List, ◌∷◌, ◌++◌, Option, Contains}
use Rattle.dm_base.specs.declared.event.Event.{Event}
use Rattle.dm_base.specs.Fits.{Fits}
use Rattle.c_meaning.specs.Shape.{Shape, Exit, Call, Seq, Alt, Loop, Do, Cases, Parts, Part, Shapes, shape_of, exit_call, Leave, goes_on, IsDone, IsNext}
use Rattle.c_meaning.specs.Words.{Marks, Whole, Rounds, Again}
use Rattle.c_meaning.specs.GraphLayout.{Places, ends, body, width, count, group, switch}
use Rattle.c_meaning.proofs.Laid.{Graph, leads}

-- from the start of S with the open sites z, having read what stands in t before u, a run stands inside S at the node x with the open sites y
mutual
  pub data Inside (env : Shapes) (g : Graph) (base : ℕ → ℕ) (m : Marks) : Shape → ℕ → Places → List ℕ → List Event → List Event → ℕ → List ℕ → Type 0 where
    at_end : {n : ℕ} {q : List (Option ℤ)} {p : Places} {z : List ℕ} {e : Event} {t : List Event} → Fits exit_call q e → Inside env g base m (Exit q) n p z (e ∷ t) t n z
    entered : {s f n : ℕ} {p : Places} {z : List ℕ} {t u : List Event} → Contains (env.candidates s) f → t ≡ m.pre s ++ u → Inside env g base m (Call s) n p z t u (g.entry f) (s ∷ z)
    within : {s f n x : ℕ} {p : Places} {y z : List ℕ} {t u v : List Event} → Contains (env.candidates s) f → t ≡ m.pre s ++ u → Inside env g base m (shape_of env f) (base f) (ends (g.exit f)) (s ∷ z) u v x y → Inside env g base m (Call s) n p z t v x y
    returned : {s f n : ℕ} {x : Leave} {p : Places} {z : List ℕ} {t u v : List Event} → Contains (env.candidates s) f → t ≡ m.pre s ++ u → Whole env m (shape_of env f) x u v → IsDone x → Inside env g base m (Call s) n p z t v (g.exit f) (s ∷ z)
    in_left : {S T : Shape} {n x : ℕ} {p : Places} {y z : List ℕ} {t u : List Event} → Inside env g base m S n p z t u x y → Inside env g base m (Alt S T) n p z t u x y
    in_right : {S T : Shape} {n x : ℕ} {p : Places} {y z : List ℕ} {t u : List Event} → Inside env g base m T (n + width S) p z t u x y → Inside env g base m (Alt S T) n p z t u x y
    at_head : {C B P : Shape} {n : ℕ} {p : Places} {z : List ℕ} {t u : List Event} → Rounds env m C B P t u → Inside env g base m (Loop C B P) n p z t u n z
    in_test : {C B P : Shape} {n x : ℕ} {p : Places} {y z : List ℕ} {t u v : List Event} → Rounds env m C B P t u → Inside env g base m C (n + 3) (record p { to = n + 1 }) z u v x y → Inside env g base m (Loop C B P) n p z t v x y
    at_body : {C B P : Shape} {n : ℕ} {p : Places} {z : List ℕ} {t u v : List Event} → Rounds env m C B P t u → Whole env m C goes_on u v → Inside env g base m (Loop C B P) n p z t v (n + 1) z
    in_body : {C B P : Shape} {n x : ℕ} {p : Places} {y z : List ℕ} {t u v w : List Event} → Rounds env m C B P t u → Whole env m C goes_on u v → Inside env g base m B (n + 3 + width C) (body p (n + 2) (p.to) (n + 2)) z v w x y → Inside env g base m (Loop C B P) n p z t w x y
    at_step : {C B P : Shape} {e : Leave} {n : ℕ} {p : Places} {z : List ℕ} {t u v w : List Event} → Rounds env m C B P t u → Whole env m C goes_on u v → IsNext e → Whole env m B e v w → Inside env g base m (Loop C B P) n p z t w (n + 2) z
    in_step : {C B P : Shape} {e : Leave} {n x : ℕ} {p : Places} {y z : List ℕ} {t u v w a : List Event} → Rounds env m C B P t u → Whole env m C goes_on u v → IsNext e → Whole env m B e v w → Inside env g base m P (n + 3 + width C + width B) (record p { to = n }) z w a x y → Inside env g base m (Loop C B P) n p z t a x y
    at_do : {B C : Shape} {n : ℕ} {p : Places} {z : List ℕ} {t u : List Event} → Again env m B C t u → Inside env g base m (Do B C) n p z t u n z
    in_do : {B C : Shape} {n x : ℕ} {p : Places} {y z : List ℕ} {t u v : List Event} → Again env m B C t u → Inside env g base m B (n + 3) (body p (n + 1) (p.to) (n + 1)) z u v x y → Inside env g base m (Do B C) n p z t v x y
    at_until : {B C : Shape} {e : Leave} {n : ℕ} {p : Places} {z : List ℕ} {t u v : List Event} → Again env m B C t u → IsNext e → Whole env m B e u v → Inside env g base m (Do B C) n p z t v (n + 1) z
    in_until : {B C : Shape} {e : Leave} {n x : ℕ} {p : Places} {y z : List ℕ} {t u v w : List Event} → Again env m B C t u → IsNext e → Whole env m B e u v → Inside env g base m C (n + 3 + width B) (record p { to = n + 2 }) z v w x y → Inside env g base m (Do B C) n p z t w x y
    at_choice : {B C : Shape} {e : Leave} {n : ℕ} {p : Places} {z : List ℕ} {t u v w : List Event} → Again env m B C t u → IsNext e → Whole env m B e u v → Whole env m C goes_on v w → Inside env g base m (Do B C) n p z t w (n + 2) z
    in_cases : {ps : Parts} {d : Bool} {n x : ℕ} {p : Places} {y z : List ℕ} {t u : List Event} → InPicks env g base m ps n (n + count ps) (switch p) z t u x y → Inside env g base m (Cases ps d) n p z t u x y
    in_seq : {S : Shape} {ps : Parts} {n x : ℕ} {p : Places} {y z : List ℕ} {t u : List Event} → Inside env g base m S (n + count ps) (group p ps n) z t u x y → Inside env g base m (Seq S ps) n p z t u x y
    in_rest : {S : Shape} {ps : Parts} {n x : ℕ} {p : Places} {y z : List ℕ} {t u v : List Event} → Whole env m S goes_on t u → InFalls env g base m ps n (n + count ps + width S) p z u v x y → Inside env g base m (Seq S ps) n p z t v x y

  -- inside the parts from the first on, whose node is i
  pub data InFalls (env : Shapes) (g : Graph) (base : ℕ → ℕ) (m : Marks) : Parts → ℕ → ℕ → Places → List ℕ → List Event → List Event → ℕ → List ℕ → Type 0 where
    at_part : {S : Shape} {ps : Parts} {i n : ℕ} {p : Places} {z : List ℕ} {t : List Event} → InFalls env g base m (Part S ps) i n p z t t i z
    in_part : {S : Shape} {ps : Parts} {i n x : ℕ} {p : Places} {y z : List ℕ} {t u : List Event} → Inside env g base m S n (group p ps (i + 1)) z t u x y → InFalls env g base m (Part S ps) i n p z t u x y
    in_next : {S : Shape} {ps : Parts} {i n x : ℕ} {p : Places} {y z : List ℕ} {t u v : List Event} → Whole env m S goes_on t u → InFalls env g base m ps (i + 1) (n + width S) p z u v x y → InFalls env g base m (Part S ps) i n p z t v x y

  pub data InPicks (env : Shapes) (g : Graph) (base : ℕ → ℕ) (m : Marks) : Parts → ℕ → ℕ → Places → List ℕ → List Event → List Event → ℕ → List ℕ → Type 0 where
    from_this : {ps : Parts} {i n x : ℕ} {p : Places} {y z : List ℕ} {t u : List Event} → InFalls env g base m ps i n p z t u x y → InPicks env g base m ps i n p z t u x y
    from_later : {S : Shape} {ps : Parts} {i n x : ℕ} {p : Places} {y z : List ℕ} {t u : List Event} → InPicks env g base m ps (i + 1) (n + width S) p z t u x y → InPicks env g base m (Part S ps) i n p z t u x y

-- the same, or the whole is read and the run stands where its exit leads, with the open sites as they were
pub data Goes (inside : List ℕ → List Event → List Event → ℕ → List ℕ → Type 0) (whole : Leave → List Event → List Event → Type 0) (p : Places) (z : List ℕ) (t u : List Event) : ℕ → List ℕ → Type 0 where
  still : {x : ℕ} {y : List ℕ} → inside z t u x y → Goes inside whole p z t u x y
  gone : (e : Leave) → whole e t u → Goes inside whole p z t u (leads p e) z
