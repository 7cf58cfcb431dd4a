-- Events that stand for the edges of a model.
use Rattle.std.proofs.Common.{◌≡◌, ℕ, ◌+◌, ◌<◌, ◌≤◌, ℤ, get_or, slice_get, pos, List, [], ◌∷◌, ◌++◌, length, take, Option, None, Some, Contains, slice_index_or, refl, sym, ◌∙◌, ap, subst, inl, inr, arith}
use Rattle.std.specs.List.{AllZip}
use Rattle.dm_base.specs.declared.event.Arg.{Arg}
use Rattle.dm_base.specs.declared.event.Event.{Event}
use Rattle.dm_base.specs.Fits.{Fits, FitArguments}
use Rattle.sys_table.specs.declared.kinds.ArgKind.{ArgKind}
use Rattle.sys_table.specs.declared.kinds.ResultKind.{ResultKind}
use Rattle.sys_table.specs.declared.kinds.ResultKind.TheVariants.{Int, UnsignedInt, Void}
use Rattle.sys_table.specs.Table.{FitsArgument, FitsEntry, FitsResult, IsRecorded, result_of, recorded_of}
use Rattle.flow_model.specs.declared.records.SysEdge.{SysEdge}
use Rattle.flow_model.specs.Graph.{Graph}
use Rattle.std.proofs.lemmas.Bool.{cases_lt}
use Rattle.std.proofs.lemmas.List.{take_all, take_more}
use Rattle.std.proofs.lemmas.List.Elements.{Contains-push_cases}
use Rattle.std.proofs.lemmas.Option.{get_or_from_slice_get, slice_get-get_or, slice_get_within}
use Rattle.report.specs.Trials.{AreFilled, AreTrials, FillsEntry, HasTrial}

-- one pair more
pub zip_push : {A B : Type 0} (R : A → B → Type 0) (xs : List A) (ys : List B) (x : A) (y : B) → AllZip R xs ys → R x y → AllZip R (xs ++ x ∷ []) (ys ++ y ∷ [])
zip_push R [] [] x y all holds = (holds, tt)
zip_push R [] (v ∷ ys) x y all holds = absurd all
zip_push R (u ∷ xs) [] x y all holds = absurd all
zip_push R (u ∷ xs) (v ∷ ys) x y (one, all) holds = (one, zip_push R xs ys x y all holds)

-- arguments that fill the entries fit the pattern
pub filled_fit : (entries : List (Option ℤ)) (arguments : List Arg) → AllZip FillsEntry entries arguments → FitArguments entries arguments
filled_fit [] arguments all = tt
filled_fit (entry ∷ entries) [] all = tt
filled_fit (None ∷ entries) (argument ∷ arguments) (fills, all) = filled_fit entries arguments all
filled_fit (Some n ∷ entries) (argument ∷ arguments) (fills, all) = (fills, filled_fit entries arguments all)

-- 0 is in the range of each result
pub zero_fits : (kind : ResultKind) → FitsResult kind (pos 0)
zero_fits Int = omega arith
zero_fits UnsignedInt = omega arith
zero_fits Void = refl

-- one argument more
pub filled_more : (kinds : List ArgKind) (entries : List (Option ℤ)) (arguments new : List Arg) (i : ℕ) (d : ArgKind) (entry : Option ℤ) (argument : Arg) → i < length kinds → slice_get entries i ≡ Some entry → AreFilled (take i kinds) (take i entries) arguments → FitsArgument (get_or kinds i d) argument → FillsEntry entry argument → new ≡ arguments ++ argument ∷ [] → AreFilled (take (i + 1) kinds) (take (i + 1) entries) new
filled_more kinds entries arguments new i d entry argument within there filled fits fills is =
    let kinds_more : take (i + 1) kinds ≡ take i kinds ++ get_or kinds i d ∷ [] = take_more kinds i d within in
    let entries_more : take (i + 1) entries ≡ take i entries ++ entry ∷ [] = take_more entries i entry (slice_get_within entries i entry there) ∙ ap (λ x. take i entries ++ x ∷ []) (get_or_from_slice_get entries i entry entry there) in
    record {
      kind = rw (kinds_more, is) (zip_push FitsArgument (take i kinds) arguments (get_or kinds i d) argument filled.kind fits);
      entry = rw (entries_more, is) (zip_push FillsEntry (take i entries) arguments entry argument filled.entry fills);
    }

pub filled_all : (kinds : List ArgKind) (entries : List (Option ℤ)) (arguments : List Arg) (n : ℕ) → length kinds ≤ n → length entries ≤ n → AreFilled (take n kinds) (take n entries) arguments → AreFilled kinds entries arguments
filled_all kinds entries arguments n all_kinds all_entries filled = record {
  kind = subst (λ xs. AllZip FitsArgument xs arguments) (take_all n kinds all_kinds) filled.kind;
  entry = subst (λ xs. AllZip FillsEntry xs arguments) (take_all n entries all_entries) filled.entry;
}

-- an event more
pub recorded_push : (es new : List Event) (e : Event) → new ≡ es ++ e ∷ [] → IsRecorded e → ((x : Event) → Contains es x → IsRecorded x) → (x : Event) → Contains new x → IsRecorded x
recorded_push es new e is one all x has =
    elim (Contains-push_cases es e x (subst (λ xs. Contains xs x) is has)) [
      | inl before ↦ all x before
      | inr here ↦ subst IsRecorded here one
    ]

-- the edges so far have a trial
pub trials_more : (sys : List SysEdge) (es new : List Event) (i : ℕ) (edge : SysEdge) → get_or sys i edge ≡ edge → i < length sys → ((e : Event) → Contains es e → Contains new e) → HasTrial new edge → ((k : ℕ) (d : SysEdge) → k < i → HasTrial es (slice_index_or sys k d)) → (k : ℕ) (d : SysEdge) → k < i + 1 → HasTrial new (slice_index_or sys k d)
trials_more sys es new i edge here within kept one before k d below =
    elim (cases_lt k i) [
      | inl less ↦ let old = before k d less in (old.0, kept old.0 old.1, old.2)
      | inr more ↦
          let same : i ≡ k = omega (arith, below) in
          let item : edge ≡ slice_index_or sys i d = sym (get_or_from_slice_get sys i edge d (slice_get-get_or sys i edge within ∙ ap Some here)) in
          subst (λ n. HasTrial new (slice_index_or sys n d)) same (subst (HasTrial new) item one)
    ]

pub all_trials : (g : Graph) (es : List Event) (i : ℕ) → length g.sys ≤ i → ((e : Event) → Contains es e → IsRecorded e) → ((k : ℕ) (d : SysEdge) → k < i → HasTrial es (slice_index_or g.sys k d)) → AreTrials g es
all_trials g es i all recorded complete = record {
  recorded = recorded;
  complete = λ d has. subst (HasTrial es) has.2 (complete has.0 d (omega (arith, all, has.1)));
}
