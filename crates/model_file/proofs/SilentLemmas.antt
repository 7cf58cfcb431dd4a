-- The lines of silent edges.
use Rattle.std.proofs.Common.{◌≡◌, ℕ, ◌+◌, ◌<◌, ◌≤◌, List, ◌++◌, refl, subst, inl, inr, append_assoc, arith}
use Rattle.std.specs.Prelude.{Option, Some, None, codes}
use Rattle.std.proofs.lemmas.Bool.{cases_lt}
use Rattle.std.specs.Ordering.{nat_cmp}
use Rattle.flow_model.specs.declared.records.SilentEdge.{SilentEdge}
use Rattle.line_text.specs.Words.{number_word}
use Rattle.model_file.specs.Bounds.{IsLeast, IsNextSilent, BeginsSilent, JoinsSilent}
use Rattle.model_file.specs.Lines.{IsAfterSilent}
use Rattle.model_file.specs.ModelText.{silent_line, IsSmall}
use Rattle.model_file.proofs.LineLemmas.{first_word, plain_number, plain_word}
use Rattle.model_file.proofs.Narrowing.{IsPart, IsWhole, With}
use Rattle.model_file.proofs.Orders.{less_first, less_next, less_cases, less_from_lt, lt_from_less}

-- bounds

-- the edge from a node to another, where it goes after the last one
joined : (last : Option SilentEdge) (n m : ℕ) → IsSmall n → IsSmall m → IsAfterSilent last (record { from = n; to = m }) → IsNextSilent last (record { from = n; to = m })
joined last n m small_n small_m after = record { spelled = record { from = small_n; to = small_m }; after = after }

pub least_free : IsLeast (BeginsSilent None) 0
least_free = record {
  above = λ n from small. (record { from = n; to = 0 }, joined None n 0 small (omega arith) tt, refl);
  below = λ n fits. omega arith;
}

goes_on : (d : SilentEdge) (n m : ℕ) → d.from ≤ n → d.to < m → IsAfterSilent (Some d) (record { from = n; to = m })
goes_on d n m from to = elim (cases_lt d.from n) [
  | inl lt ↦ less_first d.from n (nat_cmp d.to m) lt
  | inr ge ↦ less_next d.from n (nat_cmp d.to m) (omega arith) (less_from_lt d.to m to)
]

begins_from : (d e : SilentEdge) → IsAfterSilent (Some d) e → d.from ≤ e.from
begins_from d e after = elim (less_cases d.from e.from (nat_cmp d.to e.to) after) [
  | inl lt ↦ omega arith
  | inr same ↦ omega (arith, same.0)
]

pub least_tied : (d : SilentEdge) → d.to < 4294967295 → IsLeast (BeginsSilent (Some d)) d.from
least_tied d more = record {
  above = λ n from small. (record { from = n; to = d.to + 1 }, joined (Some d) n (d.to + 1) small (omega arith) (goes_on d n (d.to + 1) from (omega arith)), refl);
  below = λ n begins. let from = begins_from d begins.0 begins.1.after in omega (arith, begins.2);
}

pub least_past : (d : SilentEdge) → 4294967295 ≤ d.to → IsLeast (BeginsSilent (Some d)) (d.from + 1)
least_past d no_more = record {
  above = λ n from small. (record { from = n; to = 0 }, joined (Some d) n 0 small (omega arith) (less_first d.from n (nat_cmp d.to 0) (omega arith)), refl);
  below = not_before;
} where
  not_before : (n : ℕ) → BeginsSilent (Some d) n → d.from + 1 ≤ n
  not_before n (e, fits, is) = elim (less_cases d.from e.from (nat_cmp d.to e.to) fits.after) [
    | inl lt ↦ omega arith
    | inr same ↦
        let to = lt_from_less d.to e.to same.1 in
        let small = fits.spelled.to in
        absurd (omega arith)
  ]

-- parts

abbrev pub after_word : SilentEdge → List ℕ
after_word e = number_word 32 e.from ++ number_word 10 e.to

pub silent_word : (last : Option SilentEdge) (least : ℕ) → IsLeast (BeginsSilent last) least → least ≤ 4294967295 → IsPart (IsNextSilent last) silent_line (λ e. tt {0}) (λ u. Unit {0}) (λ u. codes "e ") after_word
silent_word last least bound small =
    let found = bound.above least (omega arith) (omega arith) in
    first_word (codes "e ") found.0 found.1 (λ e fits. simp append_assoc) (plain_word (codes "e ") refl)

abbrev pub Named : Option SilentEdge → SilentEdge → Type 0
Named last = With (IsNextSilent last) (λ e. tt {0}) (tt {0})

pub silent_from : (last : Option SilentEdge) (least : ℕ) → IsLeast (BeginsSilent last) least → IsPart (Named last) after_word (λ e. e.from) (λ n. (least ≤ n) × IsSmall n) (number_word 32) (λ e. number_word 10 e.to)
silent_from last least bound = record {
  into = λ e fits. (bound.below e.from (e, fits.0, refl), fits.0.spelled.from);
  some = λ n in_n. let found = bound.above n in_n.0 in_n.1 in (found.0, (found.1, refl), found.2);
  splits = λ e fits. refl;
  plain = λ n in_n. plain_number n (omega (arith, in_n.1));
}

pub silent_to : (last : Option SilentEdge) (n least : ℕ) → IsLeast (JoinsSilent last n) least → IsWhole (With (Named last) (λ e. e.from) n) (λ e. number_word 10 e.to) (λ m. (least ≤ m) × IsSmall m) (number_word 10) (λ m. record { from = n; to = m })
silent_to last n least bound = record {
  made = λ m in_m. (((bound.above m in_m.0 in_m.1, refl), refl), refl);
  only = λ e fits.
      let whole : e ≡ record { from = n; to = e.to } = λ i. record { from = fits.1 i; to = e.to } in
      (e.to, (bound.below e.to (subst (IsNextSilent last) whole fits.0.0), fits.0.0.spelled.to), whole);
}
