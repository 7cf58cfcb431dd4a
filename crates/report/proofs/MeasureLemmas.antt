-- The precision along a trace, and along the same trace with one event more.
use Rattle.std.proofs.Common.{◌≡◌, ◌⊎◌, ℕ, zero, suc, ◌+◌, ◌*◌, ◌<◌, ◌≤◌, Bool, true, false, List, [], ◌∷◌, ◌++◌, length, take, get_or, slice_index_or, refl, sym, ◌∙◌, ap, subst, inl, inr, arith, length-append}
use Rattle.std.specs.Prelude.{◌↔◌}
use Rattle.std.specs.List.{sum}
use Rattle.std.proofs.lemmas.Bool.{cases_lt}
use Rattle.std.proofs.lemmas.List.{get_or_push, get_or_append_left, length-take, take-take, take_all, take-append-le}
use Rattle.std.proofs.lemmas.List.Sums.{sum_by-append}
use Rattle.dm_base.specs.declared.event.Event.{Event}
use Rattle.flow_model.specs.declared.which.Which.{Which}
use Rattle.flow_model.specs.Graph.{Graph}
use Rattle.flow_model.specs.Verdict.{IsAccepted, IsKept}
use Rattle.report.specs.declared.precision.Precision.{Precision}
use Rattle.report.specs.Precision.{IsNextCount, IsNext, IsPrecision, precision_bound}
use Rattle.report.specs.Measuring.{HasComeTo, HasMeasured, Measured}
use Rattle.report.specs.Trials.{AreTrials}
use Rattle.report.proofs.NextLemmas.{accepted_part}

sum_push : (xs : List ℕ) (n : ℕ) → sum (xs ++ n ∷ []) ≡ sum xs + n
sum_push xs n = sum_by-append (λ x. x) xs (n ∷ []) ∙ ap (λ k. sum xs + k) (none n)
  where
    none : (n : ℕ) → 0 + n ≡ n
    none n = omega arith

-- the first parts of an accepted trace are accepted
accepted_front : (which : Which) (g : Graph) (bound : ℕ) (t : List Event) (j : ℕ) → IsAccepted which g bound t → IsAccepted which g bound (take j t)
accepted_front which g bound t j accepted = record {
  kept = λ i le.
      let short : i ≤ j = omega (arith, le, length-take j t) in
      let within : i ≤ length t = omega (arith, le, length-take j t) in
      subst (IsKept which g bound) (sym (take-take i j t short)) (accepted.kept i within);
}

module _ (which : Which) (g : Graph) where
  -- before the first event
  pub precision_start : (n : ℕ) (p : Precision) → IsAccepted which g precision_bound [] → IsNextCount which g [] n → p.prefixes ≡ 1 → p.sum ≡ n → IsPrecision which g [] p
  precision_start n p accepted count prefixes total = record {
    counts = n ∷ [];
    kept = λ j le. ((λ less. accepted_front which g precision_bound [] j accepted), (λ yes. omega (arith, le)));
    within = omega arith;
    names = λ j d less.
        let first : 0 ≡ j = omega (arith, less) in
        subst (λ i. IsNextCount which g (take i []) (slice_index_or (n ∷ []) i d)) first count;
    prefixes = prefixes;
    total = omega (arith, total);
  }

  module _ (t : List Event) (e : Event) where
    same_front : (j : ℕ) → j ≤ length t → take j (t ++ e ∷ []) ≡ take j t
    same_front j le = take-append-le j t (e ∷ []) le

    whole : take (length t + 1) (t ++ e ∷ []) ≡ t ++ e ∷ []
    whole = let all : length (t ++ e ∷ []) ≤ length t + 1 = omega (arith, length-append t (e ∷ [])) in take_all (length t + 1) (t ++ e ∷ []) all

    -- the event is kept
    pub precision_more : (n : ℕ) (p q : Precision) → IsAccepted which g precision_bound (t ++ e ∷ []) → IsNextCount which g (t ++ e ∷ []) n → p.prefixes ≡ length t + 1 → IsPrecision which g t p → q.prefixes ≡ p.prefixes + 1 → q.sum ≡ p.sum + n → IsPrecision which g (t ++ e ∷ []) q
    precision_more n p q accepted count whole_so_far before prefixes total =
        let long : length before.counts ≡ length t + 1 = sym before.prefixes ∙ whole_so_far in
        record {
          counts = before.counts ++ n ∷ [];
          kept = λ j le. (
            (λ less. accepted_front which g precision_bound (t ++ e ∷ []) j accepted),
            (λ yes. omega (arith, le, long, length-append t (e ∷ []), length-append before.counts (n ∷ []))),
          );
          within = omega (arith, long, length-append t (e ∷ []), length-append before.counts (n ∷ []));
          names = λ j d less.
              elim (cases_lt j (length before.counts)) [
                | inl old ↦
                    let le : j ≤ length t = omega (arith, old, long) in
                    rw (same_front j le, get_or_append_left before.counts (n ∷ []) d j old) (before.names j d old)
                | inr new ↦
                    let here : length before.counts ≡ j = omega (arith, new, less, length-append before.counts (n ∷ [])) in
                    let last : length t + 1 ≡ j = omega (arith, here, long) in
                    let part : take j (t ++ e ∷ []) ≡ t ++ e ∷ [] = subst (λ i. take i (t ++ e ∷ []) ≡ t ++ e ∷ []) last whole in
                    rw (part, get_or_push before.counts n d j here) count
              ];
          prefixes = omega (arith, prefixes, before.prefixes, length-append before.counts (n ∷ []));
          total = omega (arith, total, before.total, sum_push before.counts n);
        }

    -- the trace was refused
    pub precision_stays : (p : Precision) → (IsAccepted which g precision_bound (t ++ e ∷ []) → ⊥) → IsPrecision which g t p → IsPrecision which g (t ++ e ∷ []) p
    precision_stays p refused before = record {
      counts = before.counts;
      kept = λ j le.
          elim (cases_lt (length t) j) as (λ s. (j < length before.counts) ↔ IsAccepted which g precision_bound (take j (t ++ e ∷ []))) [
            | inl over ↦
                let last : length t + 1 ≡ j = omega (arith, over, le, length-append t (e ∷ [])) in
                let part : take j (t ++ e ∷ []) ≡ t ++ e ∷ [] = subst (λ i. take i (t ++ e ∷ []) ≡ t ++ e ∷ []) last whole in
                ((λ less. absurd (omega (arith, less, last, before.within))), (λ yes. absurd (refused (subst (IsAccepted which g precision_bound) part yes))))
            | inr within ↦
                subst (λ u. (j < length before.counts) ↔ IsAccepted which g precision_bound u) (sym (same_front j within)) (before.kept j within)
          ];
      within = omega (arith, before.within, length-append t (e ∷ []));
      names = λ j d less.
          let within : j ≤ length t = omega (arith, less, before.within) in
          subst (λ u. IsNextCount which g u (slice_index_or before.counts j d)) (sym (same_front j within)) (before.names j d less);
      prefixes = before.prefixes;
      total = before.total;
    }

-- what a meter has come to
module _ {P M : Type 0} (IsPool : P → Graph → Type 0) (Stands : M → P → Graph → ℕ → List Event → Type 0) (AreNoted : P → Graph → List M → Type 0) (which : Which) (g : Graph) where
  pub measured_start : (m : Measured P M) (n : ℕ) → m.goes_on ≡ true → IsPool m.pool g → AreNoted m.pool g [] → AreTrials g m.trials → Stands m.monitor m.pool g precision_bound [] → IsAccepted which g precision_bound [] → IsNext which g precision_bound [] n → n ≤ 24 → m.figures.prefixes ≡ 1 → m.figures.sum ≡ n → HasMeasured IsPool Stands AreNoted which m g []
  measured_start m n goes pool notes trials stands accepted next few prefixes total = record {
    pool = pool;
    notes = notes;
    trials = trials;
    precision = precision_start which g n m.figures accepted (next.accepted accepted) prefixes total;
    few = omega (arith, few, prefixes, total);
    state = subst (λ b. HasComeTo b (Stands m.monitor m.pool g precision_bound []) which g [] m.figures) (sym goes) (stands, accepted, prefixes);
  }

  module _ (t : List Event) (e : Event) where
    -- the trace was refused before
    pub measured_over : (m : Measured P M) → m.goes_on ≡ false → HasMeasured IsPool Stands AreNoted which m g t → HasMeasured IsPool Stands AreNoted which m g (t ++ e ∷ [])
    measured_over m over before =
        let refused = subst (λ b. HasComeTo b (Stands m.monitor m.pool g precision_bound t) which g t m.figures) over before.state in
        let later : IsAccepted which g precision_bound (t ++ e ∷ []) → ⊥ = λ accepted. refused (accepted_part which g precision_bound t e accepted) in
        record {
          pool = before.pool;
          notes = before.notes;
          trials = before.trials;
          precision = precision_stays which g t e m.figures later before.precision;
          few = before.few;
          state = subst (λ b. HasComeTo b (Stands m.monitor m.pool g precision_bound (t ++ e ∷ [])) which g (t ++ e ∷ []) m.figures) (sym over) later;
        }

    -- the event is refused
    pub measured_refused : (m : Measured P M) (pool : P) (monitor : M) → IsPool pool g → AreNoted pool g [] → (IsAccepted which g precision_bound (t ++ e ∷ []) → ⊥) → HasMeasured IsPool Stands AreNoted which m g t → HasMeasured IsPool Stands AreNoted which (record { pool = pool; monitor = monitor; trials = m.trials; figures = m.figures; goes_on = false }) g (t ++ e ∷ [])
    measured_refused m pool monitor is_pool notes later before = record {
      pool = is_pool;
      notes = notes;
      trials = before.trials;
      precision = precision_stays which g t e m.figures later before.precision;
      few = before.few;
      state = later;
    }

    -- where it went on, the monitor stood for the trace
    pub measured_stands : (m : Measured P M) → m.goes_on ≡ true → HasMeasured IsPool Stands AreNoted which m g t → Stands m.monitor m.pool g precision_bound t × IsAccepted which g precision_bound t × (m.figures.prefixes ≡ length t + 1)
    measured_stands m goes before = subst (λ b. HasComeTo b (Stands m.monitor m.pool g precision_bound t) which g t m.figures) goes before.state

    -- the event is kept
    pub measured_more : (m : Measured P M) (pool : P) (monitor : M) (figures : Precision) (n : ℕ) → m.goes_on ≡ true → IsPool pool g → AreNoted pool g [] → Stands monitor pool g precision_bound (t ++ e ∷ []) → IsAccepted which g precision_bound (t ++ e ∷ []) → IsNext which g precision_bound (t ++ e ∷ []) n → n ≤ 24 → figures.prefixes ≡ m.figures.prefixes + 1 → figures.sum ≡ m.figures.sum + n → HasMeasured IsPool Stands AreNoted which m g t → HasMeasured IsPool Stands AreNoted which (record { pool = pool; monitor = monitor; trials = m.trials; figures = figures; goes_on = m.goes_on }) g (t ++ e ∷ [])
    measured_more m pool monitor figures n goes is_pool notes stands accepted next few prefixes total before =
        let long = (measured_stands m goes before).2 in
        record {
          pool = is_pool;
          notes = notes;
          trials = before.trials;
          precision = precision_more which g t e n m.figures figures accepted (next.accepted accepted) long before.precision prefixes total;
          few = omega (arith, before.few, few, prefixes, total);
          state = subst (λ b. HasComeTo b (Stands monitor pool g precision_bound (t ++ e ∷ [])) which g (t ++ e ∷ []) figures) (sym goes) (stands, accepted, omega (arith, long, prefixes, length-append t (e ∷ [])));
        }
