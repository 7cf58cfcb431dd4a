-- What one monitor accepts, the monitor of a larger language accepts.
use Rattle.std.proofs.Common.{◌≡◌, ℕ, zero, suc, List, [], ◌∷◌, length, take, Some, slice_get, refl, sym, ◌∙◌, ap, subst, arith}
use Rattle.std.specs.List.{AllZip}
use Rattle.std.proofs.lemmas.Option.{slice_get_within}
use Rattle.dm_base.specs.declared.event.Event.{Event}
use Rattle.dm_base.specs.declared.verdict.Verdict.{Verdict}
use Rattle.dm_base.specs.declared.verdict.Verdict.TheVariants.{Accepted, Rejected, Bound}
use Rattle.flow_model.specs.declared.which.Which.{Which}
use Rattle.flow_model.specs.Graph.{Graph}
use Rattle.flow_model.specs.Verdict.{IsAccepted, IsVerdict}
use Rattle.flow_model.proofs.Nested.{dyck_accepted_by_stack, stack_accepted_by_callgraph}
use Rattle.flow_model.proofs.Verdicts.{kept-reads, kept-within}
use Rattle.tool_monitors.specs.Judged.{IsInside, AreNested}
use Rattle.tool_monitors.specs.Judged.IsInside.{dyck, stack}

-- an accepted trace has no other verdict
only_accepted : (which : Which) (g : Graph) (bound : ℕ) (t : List Event) (v : Verdict) → IsAccepted which g bound t → IsVerdict which g bound t v → v ≡ Accepted (length t)
only_accepted which g bound t (Accepted n) accepted told = ap Accepted told.0
only_accepted which g bound t (Rejected k) accepted told = absurd (told.refused (kept-reads which g bound (take k t) (accepted.kept k told.within)))
only_accepted which g bound t (Bound k) accepted told =
    let few = kept-within which g bound (take k t) told.dyck (accepted.kept k told.within) in
    absurd (omega (arith, few, told.deep))

outer_accepts : (inner outer : Which) (g : Graph) (bound : ℕ) (t : List Event) → IsInside inner outer → IsAccepted inner g bound t → IsAccepted outer g bound t
outer_accepts inner outer g bound t dyck accepted = dyck_accepted_by_stack g t bound bound accepted
outer_accepts inner outer g bound t stack accepted = stack_accepted_by_callgraph g t bound bound accepted

-- what stands at one place of two lists
zip_at : {X Y : Type 0} (R : X → Y → Type 0) (xs : List X) (ys : List Y) (i : ℕ) (x : X) → AllZip R xs ys → slice_get xs i ≡ Some x → (y : Y) × (slice_get ys i ≡ Some y) × R x y
zip_at R [] ys i x all here = absurd (omega (arith, slice_get_within [] i x here))
zip_at R (a ∷ xs) [] i x all here = absurd all
zip_at R (a ∷ xs) (b ∷ ys) zero x all here = let same : a ≡ x = cc in (b, refl, subst (λ w. R w b) same all.0)
zip_at R (a ∷ xs) (b ∷ ys) (suc i) x all here = zip_at R xs ys i x all.1 here

-- the verdicts of monitors on one trace are nested
pub verdicts_nested : (g : Graph) (bound : ℕ) (t : List Event) (monitors : List Which) (verdicts : List Verdict) → AllZip (λ which v. IsVerdict which g bound t v) monitors verdicts → AreNested monitors verdicts
verdicts_nested g bound t monitors verdicts all inner outer i j n inside at_i at_j told =
    let R : Which → Verdict → Type 0 = λ which v. IsVerdict which g bound t v in
    let first = zip_at R monitors verdicts i inner all at_i in
    let next = zip_at R monitors verdicts j outer all at_j in
    let same : first.0 ≡ Accepted n = some_same first.0 (Accepted n) (sym first.1 ∙ told) in
    let accepted : IsVerdict inner g bound t (Accepted n) = subst (IsVerdict inner g bound t) same first.2 in
    let is : next.0 ≡ Accepted (length t) = only_accepted outer g bound t next.0 (outer_accepts inner outer g bound t inside accepted.1) next.2 in
    next.1 ∙ ap Some (is ∙ ap Accepted (sym accepted.0))
  where
    some_same : (v w : Verdict) → Some v ≡ Some w → v ≡ w
    some_same v w same = cc
