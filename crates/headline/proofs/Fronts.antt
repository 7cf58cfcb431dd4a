-- The languages of a model hold each first part of their words, so a monitor accepts what its model reads, up to its bound.
use Rattle.std.proofs.Common.{◌≡◌, ℕ, zero, suc, ◌+◌, ◌<◌, ◌≤◌, List, [], ◌∷◌, length, take, refl, sym, subst, ap, arith}
use Rattle.std.proofs.lemmas.List.{take_all}
use Rattle.dm_base.specs.declared.event.Event.{Event}
use Rattle.dm_base.specs.declared.event.Event.TheVariants.{Sys, Pre, Post}
use Rattle.dm_base.specs.declared.verdict.Verdict.TheVariants.{Accepted, Rejected, Bound}
use Rattle.dm_base.specs.Trace.{depth, erase}
use Rattle.flow_model.specs.declared.which.Which.{Which}
use Rattle.flow_model.specs.declared.which.Which.TheVariants.{Callgraph, Stack, Dyck}
use Rattle.flow_model.specs.Graph.{Graph}
use Rattle.flow_model.specs.Language.{DyckRun, StackRun, Walk, Reads}
use Rattle.flow_model.specs.Language.DyckRun.{over as d_over, inside as d_inside, calls as d_calls, enters as d_enters, leaves as d_leaves}
use Rattle.flow_model.specs.Language.StackRun.{over as s_over, inside as s_inside, calls as s_calls, enters as s_enters, leaves as s_leaves}
use Rattle.flow_model.specs.Language.Walk.{over as w_over, quiet as w_quiet, calls as w_calls}
use Rattle.flow_model.specs.Verdict.{IsKept, IsVerdict}

dyck_front : (g : Graph) (a c : ℕ) (y w : List ℕ) (t : List Event) (k : ℕ) → DyckRun g a y t c w → (b : ℕ) × (z : List ℕ) × DyckRun g a y (take k t) b z
dyck_front g a c y w t zero run = (a, y, d_over)
dyck_front g a c y w t (suc k) d_over = (a, y, d_over)
dyck_front g a c y w t (suc k) (d_inside {b = b} {z = z} step rest) = let f = dyck_front g b c z w t (suc k) rest in (f.0, f.1, d_inside step f.2)
dyck_front g a c y w t (suc k) (d_calls {b = b} {z = z} {t = u} step fits rest) = let f = dyck_front g b c z w u k rest in (f.0, f.1, d_calls step fits f.2)
dyck_front g a c y w t (suc k) (d_enters {b = b} {z = z} {t = u} step rest) = let f = dyck_front g b c z w u k rest in (f.0, f.1, d_enters step f.2)
dyck_front g a c y w t (suc k) (d_leaves {b = b} {z = z} {t = u} step rest) = let f = dyck_front g b c z w u k rest in (f.0, f.1, d_leaves step f.2)

stack_front : (g : Graph) (a c : ℕ) (y w : List ℕ) (t : List Event) (k : ℕ) → StackRun g a y t c w → (b : ℕ) × (z : List ℕ) × StackRun g a y (take k t) b z
stack_front g a c y w t zero run = (a, y, s_over)
stack_front g a c y w t (suc k) s_over = (a, y, s_over)
stack_front g a c y w t (suc k) (s_inside {b = b} {z = z} step rest) = let f = stack_front g b c z w t (suc k) rest in (f.0, f.1, s_inside step f.2)
stack_front g a c y w t (suc k) (s_calls {b = b} {z = z} {t = u} step fits rest) = let f = stack_front g b c z w u k rest in (f.0, f.1, s_calls step fits f.2)
stack_front g a c y w t (suc k) (s_enters {b = b} {z = z} step rest) = let f = stack_front g b c z w t (suc k) rest in (f.0, f.1, s_enters step f.2)
stack_front g a c y w t (suc k) (s_leaves {b = b} {z = z} step rest) = let f = stack_front g b c z w t (suc k) rest in (f.0, f.1, s_leaves step f.2)

walk_front : (g : Graph) (a c : ℕ) (t : List Event) (k : ℕ) → Walk g a t c → (b : ℕ) × Walk g a (take k t) b
walk_front g a c t zero walk = (a, w_over)
walk_front g a c t (suc k) w_over = (a, w_over)
walk_front g a c t (suc k) (w_quiet {b = b} step rest) = let f = walk_front g b c t (suc k) rest in (f.0, w_quiet step f.1)
walk_front g a c t (suc k) (w_calls {b = b} {t = u} has fits rest) = let f = walk_front g b c u k rest in (f.0, w_calls has fits f.1)

-- a first part without its null calls is a first part of the trace without its null calls
pub erased_front : (k : ℕ) (t : List Event) → (m : ℕ) × (erase (take k t) ≡ take m (erase t))
erased_front zero t = (zero, refl)
erased_front (suc k) [] = (zero, refl)
erased_front (suc k) (Sys x xs r ∷ t) = let f = erased_front k t in (suc f.0, ap (λ u. Sys x xs r ∷ u) f.1)
erased_front (suc k) (Pre s ∷ t) = erased_front k t
erased_front (suc k) (Post s ∷ t) = erased_front k t

reads_front : (w : Which) (g : Graph) (k : ℕ) (t : List Event) → Reads w g t → Reads w g (take k t)
reads_front Dyck g k t (entry, exit, a, z, has, run) = let f = dyck_front g entry a [] z t k run in (entry, exit, f.0, f.1, has, f.2)
reads_front Stack g k t (entry, exit, a, z, has, run) =
    let e = erased_front k t in
    let f = stack_front g entry a [] z (erase t) e.0 run in
    (entry, exit, f.0, f.1, has, subst (λ (u : List Event). StackRun g entry [] u f.0 f.1) (sym e.1) f.2)
reads_front Callgraph g k t (entry, exit, a, has, walk) =
    let e = erased_front k t in
    let f = walk_front g entry a (erase t) e.0 walk in
    (entry, exit, f.0, has, subst (λ (u : List Event). Walk g entry u f.0) (sym e.1) f.1)

-- no first part is deeper than the whole
pub depth_front : (k : ℕ) (t : List Event) → depth (take k t) ≤ depth t
depth_front zero t = omega arith
depth_front (suc k) [] = omega arith
depth_front (suc k) (Sys x xs r ∷ t) = depth_front k t
depth_front (suc k) (Pre s ∷ t) = let h = depth_front k t in omega (arith, h)
depth_front (suc k) (Post s ∷ t) = let h = depth_front k t in omega (arith, h)

kept_front : (w : Which) (g : Graph) (bound k : ℕ) (t : List Event) → IsKept w g bound t → IsKept w g bound (take k t)
kept_front Callgraph g bound k t kept = reads_front Callgraph g k t kept
kept_front Stack g bound k t kept = reads_front Stack g k t kept
kept_front Dyck g bound k t kept = (reads_front Dyck g k t kept.0, (let h = depth_front k t in omega (arith, h, kept.1)))

-- the languages as the monitors' contract has them

pub kept_whole : (w : Which) (g : Graph) (bound : ℕ) (t : List Event) → IsVerdict w g bound t (Accepted (length t)) → IsKept w g bound t
kept_whole w g bound t verdict = subst (λ (u : List Event). IsKept w g bound u) (take_all (length t) t (omega arith)) (verdict.1.kept (length t) (omega arith))

pub accepted_where_kept : (w : Which) (g : Graph) (bound : ℕ) (t : List Event) → IsKept w g bound t → IsVerdict w g bound t (Accepted (length t))
accepted_where_kept w g bound t kept = (refl, record { kept = λ k le. kept_front w g bound k t kept })

-- a word is rejected nowhere
pub word_not_rejected : (w : Which) (g : Graph) (bound : ℕ) (t : List Event) (k : ℕ) → Reads w g t → IsVerdict w g bound t (Rejected k) → ⊥
word_not_rejected w g bound t k reads verdict = verdict.refused (reads_front w g k t reads)

-- the first event that opens one call too many
record IsTooDeep (bound : ℕ) (t : List Event) (k : ℕ) : Type 0 where
  pub within : k ≤ length t
  pub shallow : (j : ℕ) → j < k → depth (take j t) ≤ bound
  pub deep : depth (take k t) ≡ bound + 1

shallow_on : (bound less : ℕ) (e : Event) (t : List Event) (k : ℕ) → ((j : ℕ) → depth (take j t) ≤ less → depth (e ∷ take j t) ≤ bound) → ((j : ℕ) → j < k → depth (take j t) ≤ less) → (j : ℕ) → j < suc k → depth (take j (e ∷ t)) ≤ bound
shallow_on bound less e t k on before zero lt = omega arith
shallow_on bound less e t k on before (suc j) lt = on j (before j (omega (arith, lt)))

too_deep : (bound : ℕ) (t : List Event) → bound < depth t → (k : ℕ) × IsTooDeep bound t k
too_deep bound [] deep = absurd (omega (arith, deep))
too_deep bound (Sys x xs r ∷ t) deep =
    let f = too_deep bound t deep in
    (suc f.0, record { within = (let h = f.1.within in omega (arith, h)); shallow = shallow_on bound bound (Sys x xs r) t f.0 (λ j h. h) f.1.shallow; deep = f.1.deep })
too_deep zero (Pre s ∷ t) deep = (1, record { within = omega arith; shallow = λ j lt. first j lt; deep = refl })
  where
    first : (j : ℕ) → j < 1 → depth (take j (Pre s ∷ t)) ≤ 0
    first zero lt = omega arith
    first (suc j) lt = absurd (omega (arith, lt))
too_deep (suc bound) (Pre s ∷ t) deep =
    let f = too_deep bound t (omega (arith, deep)) in
    (suc f.0, record { within = (let h = f.1.within in omega (arith, h)); shallow = shallow_on (suc bound) bound (Pre s) t f.0 (λ j h. omega (arith, h)) f.1.shallow; deep = (let h = f.1.deep in omega (arith, h)) })
too_deep bound (Post s ∷ t) deep =
    let f = too_deep (suc bound) t (omega (arith, deep)) in
    (suc f.0, record { within = (let h = f.1.within in omega (arith, h)); shallow = shallow_on bound (suc bound) (Post s) t f.0 (λ j h. omega (arith, h)) f.1.shallow; deep = (let h = f.1.deep in omega (arith, h)) })

-- a word of the Dyck model with more open calls than the bound gets Bound
pub bound_where_deep : (g : Graph) (bound : ℕ) (t : List Event) → Reads Dyck g t → bound < depth t → (k : ℕ) × IsVerdict Dyck g bound t (Bound k)
bound_where_deep g bound t reads deep =
    let f = too_deep bound t deep in
    (f.0, record { dyck = refl; within = f.1.within; kept = λ j lt. (reads_front Dyck g j t reads, f.1.shallow j lt); read = reads_front Dyck g f.0 t reads; deep = f.1.deep })
