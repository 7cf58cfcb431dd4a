-- The marks of a run beside those of the words: with null calls at marked sites, and without.
use Rattle.std.proofs.Common.{◌≡◌, ℕ, Bool, if◌then◌else◌, List, [], ◌∷◌, refl, ap, ◌∙◌}
use Rattle.dm_base.specs.declared.event.Event.{Event}
use Rattle.dm_base.specs.declared.event.Event.TheVariants.{Sys, Pre, Post}
use Rattle.dm_base.specs.Trace.{erase}
use Rattle.c_tree.specs.Tree.{Program}
use Rattle.c_meaning.specs.Mentions.{Direct, Calls}
use Rattle.c_meaning.specs.CallGraph.{marked}
use Rattle.c_meaning.specs.Words.{brackets, no_brackets}
use Rattle.c_meaning.specs.Runs.{no_marks}
use Rattle.c_meaning.specs.WithoutNullCalls.{MakesNoNullCall}
use Rattle.c_meaning.specs.NullCalls.{AreNullCalls}
use Rattle.c_meaning.proofs.ErasedParts.{null_calls_change_nothing}
use Rattle.c_meaning.proofs.Plain.{run_plain}
use Rattle.c_meaning.specs.MarkedRuns.{null_calls_of, MarkedRunsDifferInNullCalls, ErasedMarkedRunsAreRuns}
use Rattle.c_meaning.proofs.Lists.{if_has}
use Rattle.c_meaning.proofs.Says.{told}
use Rattle.c_meaning.proofs.Guards.{IsTied}
use Rattle.c_meaning.proofs.NullFree.{calls_others}

-- every event is read
abbrev pub every : Event → List Event
every e = e ∷ []

-- null calls are not read
abbrev pub system_calls : Event → List Event
system_calls (Sys x xs r) = Sys x xs r ∷ []
system_calls a = []

pub told_every : (t : List Event) → told every t ≡ t
told_every [] = refl
told_every (e ∷ t) = ap (λ u. e ∷ u) (told_every t)

pub told_system_calls : (t : List Event) → told system_calls t ≡ erase t
told_system_calls [] = refl
told_system_calls (Sys x xs r ∷ t) = ap (λ u. Sys x xs r ∷ u) (told_system_calls t)
told_system_calls (Pre s ∷ t) = told_system_calls t
told_system_calls (Post s ∷ t) = told_system_calls t

abbrev pub marks_if : ℕ → Bool → List Event × List Event
marks_if s b = if b then (Pre s ∷ [], Post s ∷ []) else ([], [])

pub marked_tied : (p : Program) → MakesNoNullCall p → IsTied p (null_calls_of p) brackets every
marked_tied p free = record {
  system = λ x xs r. refl;
  before = λ s e. ap (λ b. told every ((marks_if s b).0)) e;
  behind = λ s e. ap (λ b. told every ((marks_if s b).1)) e;
  none_before = λ s e. ap (λ b. told every ((marks_if s b).0)) e;
  none_behind = λ s e. ap (λ b. told every ((marks_if s b).1)) e;
  null_pre = λ s f k e site. absurd ((calls_others p free (Calls s (Direct f)) k).0 e);
  null_post = λ s f k e site. absurd ((calls_others p free (Calls s (Direct f)) k).1 e);
}

pub plain_tied : (p : Program) → IsTied p no_marks no_brackets system_calls
plain_tied p = record {
  system = λ x xs r. refl;
  before = λ s e. refl;
  behind = λ s e. refl;
  none_before = λ s e. refl;
  none_behind = λ s e. refl;
  null_pre = λ s f k e site. refl;
  null_post = λ s f k e site. refl;
}

-- marks are null calls
are_null_calls : (p : Program) → AreNullCalls (null_calls_of p)
are_null_calls p s =
    if_has (λ (x : List Event × List Event). (erase x.0 ≡ []) × (erase x.1 ≡ [])) (marked p s) (Pre s ∷ [], Post s ∷ []) ([], []) (λ e. (refl, refl)) (λ e. (refl, refl))

pub marked_runs_differ : MarkedRunsDifferInNullCalls
marked_runs_differ p records turns = null_calls_change_nothing p (null_calls_of p) (are_null_calls p) records turns

pub erased_marked_runs : ErasedMarkedRunsAreRuns
erased_marked_runs p free records turns =
    (marked_runs_differ p records turns).system_calls ∙ run_plain p free records turns
