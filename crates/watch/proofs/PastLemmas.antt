-- What is kept and refused of a history, and of the same history with one event more.
use Rattle.std.proofs.Common.{◌≡◌, ℕ, ◌+◌, ◌-◌, ◌<◌, ◌≤◌, List, [], ◌∷◌, ◌++◌, length, take, drop, Option, Some, None, slice_get, Vec, Global, refl, sym, ◌∙◌, ap, subst, inl, inr, arith, length-append}
use Rattle.std.specs.Prelude.{IfOk, Result, Ok, Err}
use Rattle.std.proofs.lemmas.Bool.{cases_lt}
use Rattle.std.proofs.lemmas.List.{take-append-le, take_all, get_or_append_left, length-drop, drop-drop, drop-append-le}
use Rattle.std.proofs.lemmas.Option.{slice_get_within, get_or_from_slice_get, slice_get_read}
use Rattle.std.proofs.Math.Seq.{get_or-append_seam, take-append_seam}
use Rattle.circular_buffer.specs.Buffer.{Buffer, buffer, keep_last}
use Rattle.dm_base.specs.declared.event.Event.{Event}
use Rattle.dm_base.specs.declared.verdict.Step.{Step}
use Rattle.dm_base.specs.declared.verdict.Step.TheVariants.{Kept, Rejected, Bound}
use Rattle.dm_base.specs.declared.verdict.Verdict.{Verdict}
use Rattle.dm_base.specs.declared.verdict.Verdict.TheVariants as verdicts
use Rattle.dm_base.specs.Trace.{depth}
use Rattle.flow_model.specs.declared.which.Which.{Which}
use Rattle.flow_model.specs.Graph.{Graph}
use Rattle.flow_model.specs.Language.{Reads}
use Rattle.flow_model.specs.Verdict.{IsKept, IsAccepted, IsRejectedAt, IsBoundAt, IsStep, IsVerdict}
use Rattle.flow_model.proofs.Histories.{rejected_stays, bound_stays}
use Rattle.flow_model.proofs.Verdicts.{rejected_next, bound_next, kept-reads, kept-within}
use Rattle.watch.specs.declared.past.Past.{Past}
use Rattle.watch.specs.declared.past.Refusal.{Refusal}
use Rattle.watch.specs.Keeping.{verdict_of, told}
use Rattle.watch.specs.Pasts.{kept_events, last_kept, IsRefusalAt, IsKeptWhole, IsRefused, HasCome, IsPast}

-- windows

-- one event more, of a list of which the last were kept
pub keep_push : {X : Type 0} (n : ℕ) (xs : List X) (y : X) → keep_last n (keep_last n xs ++ y ∷ []) ≡ keep_last n (xs ++ y ∷ [])
keep_push n xs y =
    let a : ℕ = length xs - n in
    let le : a ≤ length xs = omega arith in
    let part : drop a (xs ++ y ∷ []) ≡ drop a xs ++ y ∷ [] = drop-append-le a xs (y ∷ []) le in
    let long : length (drop a xs ++ y ∷ []) ≡ length xs - a + 1 = omega (arith, length-append (drop a xs) (y ∷ []), length-drop a xs) in
    let more : a + (length (drop a xs ++ y ∷ []) - n) ≡ length (xs ++ y ∷ []) - n = omega (arith, length-append xs (y ∷ [])) in
    ap (λ (w : List _). drop (length (drop a xs ++ y ∷ []) - n) w) (sym part)
    ∙ drop-drop (length (drop a xs ++ y ∷ []) - n) a (xs ++ y ∷ [])
    ∙ ap (λ (m : ℕ). drop m (xs ++ y ∷ [])) more

module _ (which : Which) (g : Graph) (bound : ℕ) where
  -- how many events were kept

  pub kept_within : (h : List Event) (past : Past) → HasCome which g bound h past.kept past.refusal → past.kept ≤ length h
  kept_within h past come = by past.refusal come
    where
      by : (r : Option Refusal) → HasCome which g bound h past.kept r → past.kept ≤ length h
      by None whole = omega (arith, whole.count)
      by (Some r) at = let lt : past.kept < length h = slice_get_within h past.kept r.event at.event in omega arith

  -- the empty history
  pub nothing_kept : (past : Past) → IsAccepted which g bound [] → past.kept ≡ 0 → past.refusal ≡ None → past.window ≡ buffer [] 8 → IsPast which g bound [] past
  nothing_kept past accepted kept none window = record {
    come = subst (HasCome which g bound [] past.kept) (sym none) (record { accepted = accepted; count = kept });
    window = window ∙ sym (ap (λ (n : ℕ). buffer (keep_last 8 (take n [])) 8) kept);
  }

  -- one event more

  module _ (h : List Event) (e : Event) where
    verdict_stays : (v : Verdict) (k : ℕ) → IsRefusalAt v k → IsVerdict which g bound h v → IsVerdict which g bound (h ++ e ∷ []) v
    verdict_stays (verdicts.Accepted n) k place told = absurd place
    verdict_stays (verdicts.Rejected n) k place told = rejected_stays which g bound h e n told
    verdict_stays (verdicts.Bound n) k place told = bound_stays which g bound h e n told

    event_stays : (k : ℕ) (x : Event) → slice_get h k ≡ Some x → slice_get (h ++ e ∷ []) k ≡ Some x
    event_stays k x here =
        let within : k < length h = slice_get_within h k x here in
        slice_get_read (h ++ e ∷ []) (length (h ++ e ∷ [])) k x refl (omega (arith, within, length-append h (e ∷ []))) (sym (get_or_append_left h (e ∷ []) x k within ∙ get_or_from_slice_get h k x x here))

    -- a refused history stays refused
    pub refused_more : (past : Past) (r : Refusal) → past.refusal ≡ Some r → IsPast which g bound h past → IsPast which g bound (h ++ e ∷ []) past
    refused_more past r is at =
        let come : IsRefused which g bound h past.kept r = subst (HasCome which g bound h past.kept) is at.come in
        let lt : past.kept < length h = slice_get_within h past.kept r.event come.event in
        let le : past.kept ≤ length h = omega arith in
        record {
          come = subst (HasCome which g bound (h ++ e ∷ []) past.kept) (sym is) (record {
            verdict = verdict_stays r.verdict (past.kept + 1) come.place come.verdict;
            place = come.place;
            event = event_stays past.kept r.event come.event;
          });
          window = at.window ∙ ap (λ (w : List Event). buffer (keep_last 8 w) 8) (sym (take-append-le past.kept h (e ∷ []) le));
        }

    whole_next : take (length h + 1) (h ++ e ∷ []) ≡ h ++ e ∷ []
    whole_next = take_all (length h + 1) (h ++ e ∷ []) (omega (arith, length-append h (e ∷ [])))

    last_place : slice_get (h ++ e ∷ []) (length h) ≡ Some e
    last_place = slice_get_read (h ++ e ∷ []) (length (h ++ e ∷ [])) (length h) e refl (omega (arith, length-append h (e ∷ []))) (sym (get_or-append_seam h e [] e))

    whole : (old : Past) → old.refusal ≡ None → IsPast which g bound h old → IsKeptWhole which g bound h old.kept
    whole old none at = subst (HasCome which g bound h old.kept) none at.come

    -- the event is kept too
    pub kept_more : (old new : Past) → old.refusal ≡ None → new.refusal ≡ None → new.kept ≡ old.kept + 1 → new.window ≡ buffer (keep_last old.window.capacity (old.window.items ++ e ∷ [])) old.window.capacity → IsPast which g bound h old → IsStep which g bound (h ++ e ∷ []) Kept → IsPast which g bound (h ++ e ∷ []) new
    kept_more old new none still kept window at step =
        let was = whole old none at in
        let all : take old.kept h ≡ h = ap (λ (n : ℕ). take n h) was.count ∙ take_all (length h) h (omega arith) in
        let held : old.window ≡ buffer (keep_last 8 h) 8 = at.window ∙ ap (λ (w : List Event). buffer (keep_last 8 w) 8) all in
        let pushed : new.window ≡ buffer (keep_last 8 (keep_last 8 h ++ e ∷ [])) 8 = window ∙ ap (λ (b : Buffer Event). buffer (keep_last b.capacity (b.items ++ e ∷ [])) b.capacity) held in
        let now : take new.kept (h ++ e ∷ []) ≡ h ++ e ∷ [] = ap (λ (n : ℕ). take n (h ++ e ∷ [])) (kept ∙ ap (λ (n : ℕ). n + 1) was.count) ∙ whole_next in
        record {
          come = subst (HasCome which g bound (h ++ e ∷ []) new.kept) (sym still) (record { accepted = step; count = omega (arith, kept, was.count, length-append h (e ∷ [])) });
          window = pushed ∙ ap (λ (w : List Event). buffer w 8) (keep_push 8 h e) ∙ ap (λ (w : List Event). buffer (keep_last 8 w) 8) (sym now);
        }

    window_stays : (old new : Past) → new.kept ≡ old.kept → new.window ≡ old.window → IsKeptWhole which g bound h old.kept → IsPast which g bound h old → new.window ≡ buffer (keep_last 8 (take new.kept (h ++ e ∷ []))) 8
    window_stays old new kept window was at =
        let le : new.kept ≤ length h = omega (arith, kept, was.count) in
        window ∙ at.window ∙ ap (λ (n : ℕ). buffer (keep_last 8 (take n h)) 8) (sym kept) ∙ ap (λ (w : List Event). buffer (keep_last 8 w) 8) (sym (take-append-le new.kept h (e ∷ []) le))

    place_of : (old new : Past) → new.kept ≡ old.kept → IsKeptWhole which g bound h old.kept → slice_get (h ++ e ∷ []) new.kept ≡ Some e
    place_of old new kept was = ap (λ (n : ℕ). slice_get (h ++ e ∷ []) n) (kept ∙ was.count) ∙ last_place

    within : length h + 1 ≤ length (h ++ e ∷ [])
    within = omega (arith, length-append h (e ∷ []))

    before : IsAccepted which g bound h → IsAccepted which g bound (take (length h) (h ++ e ∷ []))
    before accepted = subst (IsAccepted which g bound) (sym (take-append_seam h (e ∷ []))) accepted

    at_last : (step : Step) → IsStep which g bound (h ++ e ∷ []) step → IsStep which g bound (take (length h + 1) (h ++ e ∷ [])) step
    at_last step told = subst (λ (u : List Event). IsStep which g bound u step) (sym whole_next) told

    -- the event is refused
    pub rejected_more : (old new : Past) → old.refusal ≡ None → new.refusal ≡ Some (record { verdict = verdicts.Rejected (old.kept + 1); event = e }) → new.kept ≡ old.kept → new.window ≡ old.window → IsPast which g bound h old → IsStep which g bound (h ++ e ∷ []) Rejected → IsPast which g bound (h ++ e ∷ []) new
    rejected_more old new none is kept window at step =
        let was = whole old none at in
        let refused : IsRejectedAt which g bound (h ++ e ∷ []) (length h + 1) = rejected_next which g bound (h ++ e ∷ []) (length h) within (before was.accepted) (at_last Rejected step) in
        let count : length h + 1 ≡ old.kept + 1 = ap (λ (n : ℕ). n + 1) (sym was.count) in
        record {
          come = subst (HasCome which g bound (h ++ e ∷ []) new.kept) (sym is) (record {
            verdict = subst (IsRejectedAt which g bound (h ++ e ∷ [])) count refused;
            place = ap (λ (n : ℕ). n + 1) (sym kept);
            event = place_of old new kept was;
          });
          window = window_stays old new kept window was at;
        }

    pub bound_more : (old new : Past) → old.refusal ≡ None → new.refusal ≡ Some (record { verdict = verdicts.Bound (old.kept + 1); event = e }) → new.kept ≡ old.kept → new.window ≡ old.window → IsPast which g bound h old → IsStep which g bound (h ++ e ∷ []) Bound → IsPast which g bound (h ++ e ∷ []) new
    bound_more old new none is kept window at step =
        let was = whole old none at in
        let refused : IsBoundAt which g bound (h ++ e ∷ []) (length h + 1) = bound_next which g bound (h ++ e ∷ []) (length h) within (before was.accepted) (at_last Bound step) in
        let count : length h + 1 ≡ old.kept + 1 = ap (λ (n : ℕ). n + 1) (sym was.count) in
        record {
          come = subst (HasCome which g bound (h ++ e ∷ []) new.kept) (sym is) (record {
            verdict = subst (IsBoundAt which g bound (h ++ e ∷ [])) count refused;
            place = ap (λ (n : ℕ). n + 1) (sym kept);
            event = place_of old new kept was;
          });
          window = window_stays old new kept window was at;
        }

-- how many events of a history were kept

-- the first n events are kept, and no more
record Cuts (which : Which) (g : Graph) (bound : ℕ) (h : List Event) (n : ℕ) : Type 0 where
  le : n ≤ length h
  kept : (j : ℕ) → j ≤ n → IsKept which g bound (take j h)
  stops : n < length h → IsKept which g bound (take (n + 1) h) → ⊥

module _ (which : Which) (g : Graph) (bound : ℕ) (h : List Event) where
  one_cut : (a b : ℕ) → Cuts which g bound h a → Cuts which g bound h b → a ≡ b
  one_cut a b ca cb =
      elim (cases_lt a b) as (λ _. a ≡ b) [
        | inl lt ↦ absurd (ca.stops (omega (arith, cb.le)) (cb.kept (a + 1) (omega arith)))
        | inr ge ↦ elim (cases_lt b a) as (λ _. a ≡ b) [
          | inl lt ↦ absurd (cb.stops (omega (arith, ca.le)) (ca.kept (b + 1) (omega arith)))
          | inr ge' ↦ omega arith
        ]
      ]

  rejected_cuts : (n k : ℕ) → k ≡ n + 1 → IsRejectedAt which g bound h k → Cuts which g bound h n
  rejected_cuts n k is at = record {
    le = omega (arith, at.within);
    kept = λ j le. at.kept j (omega arith);
    stops = λ lt kept. at.refused (subst (λ (m : ℕ). Reads which g (take m h)) (sym is) (kept-reads which g bound (take (n + 1) h) kept));
  }

  bound_cuts : (n k : ℕ) → k ≡ n + 1 → IsBoundAt which g bound h k → Cuts which g bound h n
  bound_cuts n k is at = record {
    le = omega (arith, at.within);
    kept = λ j le. at.kept j (omega arith);
    stops = λ lt kept. let few : depth (take (n + 1) h) ≤ bound = kept-within which g bound (take (n + 1) h) at.dyck kept in
        let deep : depth (take (n + 1) h) ≡ bound + 1 = ap (λ (m : ℕ). depth (take m h)) (sym is) ∙ at.deep in
        absurd (omega (arith, few, deep));
  }

  whole_cuts : IsAccepted which g bound h → Cuts which g bound h (length h)
  whole_cuts accepted = record {
    le = omega arith;
    kept = accepted.kept;
    stops = λ lt kept. absurd (omega arith);
  }

  refused_cuts : (v : Verdict) (n : ℕ) → IsRefusalAt v (n + 1) → IsVerdict which g bound h v → Cuts which g bound h n
  refused_cuts (verdicts.Accepted m) n place told = absurd place
  refused_cuts (verdicts.Rejected m) n place told = rejected_cuts n m place told
  refused_cuts (verdicts.Bound m) n place told = bound_cuts n m place told

  past_cuts : (past : Past) → HasCome which g bound h past.kept past.refusal → Cuts which g bound h past.kept
  past_cuts past come = by past.refusal come
    where
      by : (r : Option Refusal) → HasCome which g bound h past.kept r → Cuts which g bound h past.kept
      by None whole = subst (Cuts which g bound h) (sym whole.count) (whole_cuts whole.accepted)
      by (Some r) at = refused_cuts r.verdict past.kept at.place at.verdict

  -- how many events come before the verdict's place
  count : Verdict → ℕ
  count (verdicts.Accepted n) = length h
  count (verdicts.Rejected k) = k - 1
  count (verdicts.Bound k) = k - 1

  after_first : (k : ℕ) → (k ≡ 0 → ⊥) → k ≡ k - 1 + 1
  after_first k more = elim (cases_lt 0 k) as (λ _. k ≡ k - 1 + 1) [ inl lt ↦ omega arith | inr ge ↦ absurd (more (omega arith)) ]

  verdict_cuts : (v : Verdict) → IsKept which g bound (take 0 h) → IsVerdict which g bound h v → Cuts which g bound h (count v)
  unfolding count
  verdict_cuts (verdicts.Accepted n) first told = whole_cuts told.1
  verdict_cuts (verdicts.Rejected k) first told = rejected_cuts (k - 1) k (after_first k (λ is. told.refused (subst (λ (m : ℕ). Reads which g (take m h)) (sym is) (kept-reads which g bound (take 0 h) first)))) told
  verdict_cuts (verdicts.Bound k) first told = bound_cuts (k - 1) k (after_first k (λ is. absurd (too_deep is))) told
    where
      too_deep : k ≡ 0 → ⊥
      too_deep is =
          let few : depth (take 0 h) ≤ bound = kept-within which g bound (take 0 h) told.dyck first in
          let deep : depth (take 0 h) ≡ bound + 1 = ap (λ (m : ℕ). depth (take m h)) (sym is) ∙ told.deep in
          absurd (omega (arith, few, deep))

  -- every verdict on the history has the events that were kept before its place
  kept_count : (past : Past) (v : Verdict) → IsPast which g bound h past → IsVerdict which g bound h v → past.kept ≡ count v
  kept_count past v at told =
      let cuts = past_cuts past at.come in
      one_cut past.kept (count v) cuts (verdict_cuts v (cuts.kept 0 (omega arith)) told)

  -- the window
  pub window_told : (past : Past) (v : Verdict) → IsPast which g bound h past → IsVerdict which g bound h v → past.window.items ≡ last_kept v h
  unfolding count
  window_told past v at told =
      ap (λ (b : Buffer Event). b.items) at.window
      ∙ ap (λ (n : ℕ). keep_last 8 (take n h)) (kept_count past v at told)
      ∙ ap (keep_last 8) (by v)
    where
      by : (w : Verdict) → take (count w) h ≡ kept_events w h
      by (verdicts.Accepted n) = take_all (length h) h (omega arith)
      by (verdicts.Rejected k) = refl
      by (verdicts.Bound k) = refl

-- copies of the window
pub last_told : {E : Type 0} (past : Past) (r : Result (Vec Event Global) E) → IfOk r (λ events. events.items ≡ past.window.items) → IfOk r (λ events. (which : Which) (g : Graph) (k : ℕ) (h : List Event) (v : Verdict) → IsPast which g k h past → IsVerdict which g k h v → events.items ≡ last_kept v h)
last_told past (Ok events) copied = λ which g k h v at told. copied ∙ window_told which g k h past v at told
last_told past (Err e) copied = tt

-- a refused history isn't accepted, and an accepted one wasn't refused

module _ (which : Which) (g : Graph) (bound : ℕ) (h : List Event) (past : Past) where
  pub refused_is_not : (r : Refusal) → past.refusal ≡ Some r → IsPast which g bound h past → IsAccepted which g bound h → ⊥
  refused_is_not r is at accepted =
      let come : IsRefused which g bound h past.kept r = subst (HasCome which g bound h past.kept) is at.come in
      let lt : past.kept < length h = slice_get_within h past.kept r.event come.event in
      let cuts = refused_cuts which g bound h r.verdict past.kept come.place come.verdict in
      cuts.stops lt (accepted.kept (past.kept + 1) (omega arith))

  pub accepted_is_kept : IsPast which g bound h past → IsAccepted which g bound h → past.refusal ≡ None
  accepted_is_kept at accepted = by past.refusal refl
    where
      by : (r : Option Refusal) → past.refusal ≡ r → past.refusal ≡ None
      by None is = is
      by (Some r) is = absurd (refused_is_not r is at accepted)

  pub kept_is_accepted : past.refusal ≡ None → IsPast which g bound h past → IsAccepted which g bound h
  kept_is_accepted none at = let was : IsKeptWhole which g bound h past.kept = subst (HasCome which g bound h past.kept) none at.come in was.accepted

  -- what is told is the verdict
  pub verdict_told : IsPast which g bound h past → IsVerdict which g bound h (verdict_of past)
  verdict_told at = by past.refusal at.come
    where
      by : (r : Option Refusal) → HasCome which g bound h past.kept r → IsVerdict which g bound h (told past.kept r)
      by None was = (was.count, was.accepted)
      by (Some r) was = was.verdict
