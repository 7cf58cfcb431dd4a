-- How many names may come next: what a monitor keeps of the trials tells it.
use Rattle.std.proofs.Common.{◌≡◌, ◌⊎◌, ℕ, ℤ, Bool, true, false, Option, zero, suc, ◌+◌, ◌-◌, ◌<◌, ◌≤◌, List, [], ◌∷◌, ◌++◌, length, take, get_or, Contains, slice_index_or, refl, sym, ◌∙◌, ap, subst, inl, inr, arith, length-append}
use Rattle.std.specs.Prelude.{◌↔◌, AllPairs, IsTrue}
use Rattle.std.proofs.lemmas.Bool.{cases_lt}
use Rattle.std.proofs.lemmas.List.{get_or_push, get_or_append_left, take_all, take-append-le}
use Rattle.std.proofs.lemmas.List.Elements.{Contains-append_left, Contains-get_or, Contains-push, Contains-push_cases}
use Rattle.dm_base.specs.declared.event.Event.{Event}
use Rattle.dm_base.specs.declared.event.Event.TheVariants.{Sys, Pre, Post}
use Rattle.dm_base.specs.declared.verdict.Step.{Step}
use Rattle.dm_base.specs.declared.verdict.Step.TheVariants as steps
use Rattle.dm_base.specs.Fits.{Fits}
use Rattle.dm_base.specs.Trace.{depth}
use Rattle.flow_model.specs.declared.records.SysEdge.{SysEdge}
use Rattle.flow_model.specs.declared.which.Which.{Which}
use Rattle.flow_model.specs.declared.which.Which.TheVariants.{Callgraph, Stack, Dyck}
use Rattle.flow_model.specs.Graph.{Graph}
use Rattle.flow_model.specs.Language.{Reads}
use Rattle.flow_model.specs.Verdict.{IsAccepted, IsKept, IsRejectedAt, IsBoundAt, IsStep}
use Rattle.flow_model.proofs.Histories.{accepted_more, accepted_whole}
use Rattle.flow_model.proofs.Verdicts.{kept-reads, kept-within}
use Rattle.sys_table.specs.Table.{IsRecorded}
use Rattle.report.specs.Precision.{IsNumberOf, IsCall, MayComeNext, IsNext}
use Rattle.report.specs.Trials.{AreTrials, Comes, IsNamed, KeepsPool}
use Rattle.report.proofs.LastCalls.{FitsLast, last_fits}

-- numbers that are counted one after another

pub number_zero : (Has : ℕ → Type 0) → IsNumberOf Has 0 0
number_zero Has = record {
  those = [];
  rise = λ i j d less within. absurd (omega (arith, within));
  exact = λ x. (λ has. absurd (omega (arith, has.1)), λ below. absurd (omega (arith, below.0)));
  count = refl;
}

rise_push : (those : List ℕ) (n : ℕ) → AllPairs (λ x y. x < y) those → ((x : ℕ) → Contains those x → x < n) → AllPairs (λ x y. x < y) (those ++ n ∷ [])
rise_push those n rise below i j d less within =
    elim (cases_lt j (length those)) [
      | inl before ↦
          let first : i < length those = omega arith in
          let pair = rise i j d less before in
          omega (arith, pair, get_or_append_left those (n ∷ []) d i first, get_or_append_left those (n ∷ []) d j before)
      | inr last ↦
          let here : length those ≡ j = omega (arith, within, length-append those (n ∷ [])) in
          let first : i < length those = omega arith in
          let small = below (get_or those i d) (Contains-get_or those i d first) in
          omega (arith, small, get_or_append_left those (n ∷ []) d i first, get_or_push those n d j here)
    ]

pub number_yes : (Has : ℕ → Type 0) (limit n : ℕ) → Has limit → IsNumberOf Has limit n → IsNumberOf Has (limit + 1) (n + 1)
number_yes Has limit n holds number = record {
  those = number.those ++ limit ∷ [];
  rise = rise_push number.those limit number.rise (λ x has. ((number.exact x).0 has).0);
  exact = λ x. (
    (λ has. elim (Contains-push_cases number.those limit x has) [
      | inl before ↦ let old = (number.exact x).0 before in (omega (arith, old.0), old.1)
      | inr here ↦ (omega (arith, here), subst Has here holds)
    ]),
    (λ below. elim (cases_lt x limit) [
      | inl less ↦ Contains-append_left number.those (limit ∷ []) x ((number.exact x).1 (less, below.1))
      | inr more ↦
          let same : limit ≡ x = omega (arith, below.0) in
          subst (Contains (number.those ++ limit ∷ [])) same (Contains-push number.those limit)
    ]),
  );
  count = omega (arith, number.count, length-append number.those (limit ∷ []));
}

pub number_no : (Has : ℕ → Type 0) (limit n : ℕ) → (Has limit → ⊥) → IsNumberOf Has limit n → IsNumberOf Has (limit + 1) n
number_no Has limit n fails number = record {
  those = number.those;
  rise = number.rise;
  exact = λ x. (
    (λ has. let old = (number.exact x).0 has in (omega (arith, old.0), old.1)),
    (λ below. elim (cases_lt x limit) [
      | inl less ↦ (number.exact x).1 (less, below.1)
      | inr more ↦
          let same : x ≡ limit = omega (arith, below.0) in
          absurd (fails (subst Has same below.1))
    ]),
  );
  count = number.count;
}

pub number_counted : (Has : ℕ → Type 0) (limit n m : ℕ) (kept : Bool) → IsTrue kept ↔ Has limit → (IsTrue kept → m ≡ n + 1) → ((IsTrue kept → ⊥) → m ≡ n) → IsNumberOf Has limit n → IsNumberOf Has (limit + 1) m
number_counted Has limit n m true tells more same number = subst (IsNumberOf Has (limit + 1)) (sym (more refl)) (number_yes Has limit n (tells.0 refl) number)
number_counted Has limit n m false tells more same number =
    let fails : IsTrue false → ⊥ = λ yes. cc in
    subst (IsNumberOf Has (limit + 1)) (sym (same fails)) (number_no Has limit n (λ has. fails (tells.1 has)) number)

number_same : (Has Got : ℕ → Type 0) (limit n : ℕ) → ((x : ℕ) → Has x → Got x) → ((x : ℕ) → Got x → Has x) → IsNumberOf Has limit n → IsNumberOf Got limit n
number_same Has Got limit n to from number = record {
  those = number.those;
  rise = number.rise;
  exact = λ x. ((λ has. let old = (number.exact x).0 has in (old.0, to x old.1)), (λ below. (number.exact x).1 (below.0, from x below.1)));
  count = number.count;
}

no_members : (those : List ℕ) → ((x : ℕ) → Contains those x → ⊥) → length those ≡ 0
no_members [] none = refl
no_members (x ∷ those) none = absurd (none x (0, omega arith, refl))

number_none : (Has : ℕ → Type 0) (limit n : ℕ) → ((x : ℕ) → Has x → ⊥) → IsNumberOf Has limit n → n ≡ 0
number_none Has limit n none number = number.count ∙ no_members number.those (λ x has. none x ((number.exact x).0 has).1)

-- what an answer says

pub accepted_part : (which : Which) (g : Graph) (bound : ℕ) (h : List Event) (e : Event) → IsAccepted which g bound (h ++ e ∷ []) → IsAccepted which g bound h
accepted_part which g bound h e accepted = record {
  kept = λ j le. subst (IsKept which g bound) (take-append-le j h (e ∷ []) le) (accepted.kept j (omega (arith, le, length-append h (e ∷ []))));
}

not_rejected : (which : Which) (g : Graph) (bound : ℕ) (t : List Event) (k : ℕ) → IsAccepted which g bound t → IsRejectedAt which g bound t k → ⊥
not_rejected which g bound t k accepted at = at.refused (kept-reads which g bound (take k t) (accepted.kept k at.within))

not_bound : (which : Which) (g : Graph) (bound : ℕ) (t : List Event) (k : ℕ) → IsAccepted which g bound t → IsBoundAt which g bound t k → ⊥
not_bound which g bound t k accepted at =
    let few = kept-within which g bound (take k t) at.dyck (accepted.kept k at.within) in
    omega (arith, few, at.deep)

pub step_not_accepted : (which : Which) (g : Graph) (bound : ℕ) (t : List Event) (step : Step) → (step ≡ steps.Kept → ⊥) → IsStep which g bound t step → IsAccepted which g bound t → ⊥
step_not_accepted which g bound t steps.Kept other told accepted = other refl
step_not_accepted which g bound t steps.Rejected other told accepted = not_rejected which g bound t told.0 accepted told.1
step_not_accepted which g bound t steps.Bound other told accepted = not_bound which g bound t told.0 accepted told.1

-- a trial that is kept, and a name that may come next

named_call : (x : ℕ) (e : Event) → IsNamed x e → IsRecorded e → IsCall x e
named_call x (Sys name arguments outcome) named recorded = (named, recorded)
named_call x (Pre site) named recorded = named
named_call x (Post site) named recorded = named

fits_named : (x name : ℕ) (e other : Event) (p : List (Option ℤ)) → IsCall x e → Fits name p e → Fits name p other → IsNamed x other
fits_named x name (Sys called arguments outcome) (Sys another more result) p call fits too = too.0 ∙ sym fits.0 ∙ call.0
fits_named x name (Sys called arguments outcome) (Pre site) p call fits too = absurd too
fits_named x name (Sys called arguments outcome) (Post site) p call fits too = absurd too
fits_named x name (Pre site) other p call fits too = absurd call
fits_named x name (Post site) other p call fits too = absurd call

depth_fits : (h : List Event) (name : ℕ) (p : List (Option ℤ)) (e : Event) → Fits name p e → depth (h ++ e ∷ []) ≡ depth h
depth_fits [] name p (Sys called arguments outcome) fits = refl
depth_fits [] name p (Pre site) fits = absurd fits
depth_fits [] name p (Post site) fits = absurd fits
depth_fits (Sys called arguments outcome ∷ h) name p e fits = depth_fits h name p e fits
depth_fits (Pre site ∷ h) name p e fits = ap (λ n. n + 1) (depth_fits h name p e fits)
depth_fits (Post site ∷ h) name p e fits = ap (λ n. n - 1) (depth_fits h name p e fits)

kept_call : (which : Which) (g : Graph) (bound : ℕ) (h : List Event) (name : ℕ) (p : List (Option ℤ)) (e : Event) → Fits name p e → IsKept which g bound h → Reads which g (h ++ e ∷ []) → IsKept which g bound (h ++ e ∷ [])
kept_call Callgraph g bound h name p e fits kept read = read
kept_call Stack g bound h name p e fits kept read = read
kept_call Dyck g bound h name p e fits kept read = (read, omega (arith, kept.1, depth_fits h name p e fits))

pub next_is : (which : Which) (g : Graph) (bound : ℕ) (h : List Event) (es : List Event) (n : ℕ) → AreTrials g es → IsNumberOf (Comes which g bound h es) 24 n → IsNext which g bound h n
next_is which g bound h es n trials number = record {
  accepted = λ accepted. number_same (Comes which g bound h es) (MayComeNext which g h) 24 n
      (λ x comes.
      (comes.0, named_call x comes.0 comes.2 (trials.recorded comes.0 comes.1), kept-reads which g bound (h ++ comes.0 ∷ []) (accepted_whole which g bound (h ++ comes.0 ∷ []) comes.3)))
      (λ x may.
      let last = last_fits which g h x may.0 may.1 may.2 in
      let trial = trials.complete last.edge last.has in
      let kept = kept_call which g bound h last.edge.name last.edge.args trial.0 trial.2 (accepted_whole which g bound h accepted) (last.others trial.0 trial.2) in
      (trial.0, trial.1, fits_named x last.edge.name may.0 trial.0 last.edge.args may.1 last.fits trial.2, accepted_more which g bound h trial.0 accepted kept))
      number;
  refused = λ refused. number_none (Comes which g bound h es) 24 n (λ x comes. refused (accepted_part which g bound h comes.0 comes.3)) number;
}

-- one change of the pool after another
module _ {P M : Type 0} (IsPool : P → Graph → Type 0) (Stands : M → P → Graph → ℕ → List Event → Type 0) (AreNoted : P → Graph → List M → Type 0) (g : Graph) where
  pub keeps_then : (a b c : P) → KeepsPool IsPool Stands AreNoted g a b → KeepsPool IsPool Stands AreNoted g b c → KeepsPool IsPool Stands AreNoted g a c
  keeps_then a b c first second = record {
    pool = second.pool;
    others = λ m k h stands. second.others m k h (first.others m k h stands);
    notes = λ none. second.notes (first.notes none);
  }
