-- The end lines of traces, by the first byte after `end `.
use Rattle.std.proofs.Common.{◌≡◌, ℕ, ◌<◌, ◌≤◌, ℤ, pos, List, ◌++◌, length, get_or, refl, sym, ◌∙◌, arith}
use Rattle.std.specs.Prelude.{codes, FitsSigned}
use Rattle.std.specs.Int.{w32}
use Rattle.dm_base.specs.declared.outcome.Outcome.TheVariants.{Exit, Undefined, Turns, Results, BadResult}
use Rattle.dm_base.specs.declared.outcome.TraceEnd.{TraceEnd}
use Rattle.dm_base.specs.declared.outcome.TraceEnd.TheVariants.{Open, Ended}
use Rattle.line_text.specs.Reading.{Agree, IsCutShort}
use Rattle.line_text.specs.Words.{integer_word, number_word}
use Rattle.line_text.proofs.Splits.{IsSplit, IsCase}
use Rattle.trace_file.specs.EventText.{IsRightEnd}
use Rattle.trace_file.specs.LineParts.{ending_line}
use Rattle.trace_file.specs.Lines.{end_line}
use Rattle.trace_file.proofs.Parts.{word_split, first_agrees, cut_at_start}

pub end_split : IsSplit IsRightEnd end_line (λ (u : Unit {0}). Unit {0}) (λ u. codes "end ") (λ u. IsRightEnd) (λ u. ending_line) (λ u end. end)
end_split = word_split IsRightEnd end_line ending_line (codes "end ") refl text Open tt where
  text : (end : TraceEnd) → IsRightEnd end → end_line end ≡ codes "end " ++ ending_line end
  text Open fits = refl
  text (Ended outcome) fits = refl

pub exit_split : IsSplit (FitsSigned w32) (λ z. codes "exit " ++ integer_word 10 z) (λ (u : Unit {0}). Unit {0}) (λ u. codes "exit ") (λ u. FitsSigned w32) (λ u. integer_word 10) (λ u z. z)
exit_split = word_split (FitsSigned w32) (λ z. codes "exit " ++ integer_word 10 z) (integer_word 10) (codes "exit ") refl (λ z fits. refl) (pos 0) (record { sfits = omega arith })

-- the first byte after `end `
abbrev initial : TraceEnd → ℕ
initial Open = 111
initial (Ended (Exit z)) = 101
initial (Ended (Undefined kind)) = 117
initial (Ended Turns) = 116
initial (Ended Results) = 114
initial (Ended (BadResult n)) = 98

initial_agrees : (end : TraceEnd) (old : List ℕ) → Agree (ending_line end) old → 0 < length old → get_or old 0 0 ≡ initial end
initial_agrees Open old agree some = first_agrees 111 _ old agree some
initial_agrees (Ended (Exit z)) old agree some = first_agrees 101 _ old agree some
initial_agrees (Ended (Undefined kind)) old agree some = first_agrees 117 _ old agree some
initial_agrees (Ended Turns) old agree some = first_agrees 116 _ old agree some
initial_agrees (Ended Results) old agree some = first_agrees 114 _ old agree some
initial_agrees (Ended (BadResult n)) old agree some = first_agrees 98 _ old agree some

module _ (old : List ℕ) (some : 0 < length old) where
  same_initial : (b : ℕ) → get_or old 0 0 ≡ b → (end : TraceEnd) → Agree (ending_line end) old → initial end ≡ b
  same_initial b first end agree = sym (initial_agrees end old agree some) ∙ first

  pub open_case : get_or old 0 0 ≡ 111 → IsCase IsRightEnd ending_line (λ (u : Unit {0}). Unit {0}) (λ u. codes "open\n") (λ u. Open) old
  open_case first = record { made = λ u one. (tt, refl); only = λ end fits agree. only end (same_initial 111 first end agree) } where
    only : (end : TraceEnd) → initial end ≡ 111 → Unit {0} × Unit {0} × (end ≡ Open)
    only Open is = (tt, tt, refl)
    only (Ended Turns) is = absurd (omega arith)
    only (Ended _) is = absurd (omega arith)

  pub exit_case : get_or old 0 0 ≡ 101 → IsCase IsRightEnd ending_line (FitsSigned w32) (λ z. codes "exit " ++ integer_word 10 z) (λ z. Ended (Exit z)) old
  exit_case first = record { made = λ z fits. (fits, refl); only = λ end fits agree. only end fits (same_initial 101 first end agree) } where
    only : (end : TraceEnd) → IsRightEnd end → initial end ≡ 101 → (z : ℤ) × FitsSigned w32 z × (end ≡ Ended (Exit z))
    only (Ended (Exit z)) fits is = (z, fits, refl)
    only _ fits is = absurd (omega arith)

  pub undefined_case : get_or old 0 0 ≡ 117 → IsCase IsRightEnd ending_line (λ n. (1 ≤ n) × (n ≤ 12)) (λ n. codes "undefined U" ++ number_word 10 n) (λ n. Ended (Undefined n)) old
  undefined_case first = record { made = λ n fits. (fits, refl); only = λ end fits agree. only end fits (same_initial 117 first end agree) } where
    only : (end : TraceEnd) → IsRightEnd end → initial end ≡ 117 → (n : ℕ) × ((1 ≤ n) × (n ≤ 12)) × (end ≡ Ended (Undefined n))
    only (Ended (Undefined n)) fits is = (n, fits, refl)
    only _ fits is = absurd (omega arith)

  pub turns_case : get_or old 0 0 ≡ 116 → IsCase IsRightEnd ending_line (λ (u : Unit {0}). Unit {0}) (λ u. codes "turns\n") (λ u. Ended Turns) old
  turns_case first = record { made = λ u one. (tt, refl); only = λ end fits agree. only end (same_initial 116 first end agree) } where
    only : (end : TraceEnd) → initial end ≡ 116 → Unit {0} × Unit {0} × (end ≡ Ended Turns)
    only (Ended Turns) is = (tt, tt, refl)
    only _ is = absurd (omega arith)

  pub results_case : get_or old 0 0 ≡ 114 → IsCase IsRightEnd ending_line (λ (u : Unit {0}). Unit {0}) (λ u. codes "results\n") (λ u. Ended Results) old
  results_case first = record { made = λ u one. (tt, refl); only = λ end fits agree. only end (same_initial 114 first end agree) } where
    only : (end : TraceEnd) → initial end ≡ 114 → Unit {0} × Unit {0} × (end ≡ Ended Results)
    only (Ended Results) is = (tt, tt, refl)
    only _ is = absurd (omega arith)

  pub bad_result_case : get_or old 0 0 ≡ 98 → IsCase IsRightEnd ending_line (λ n. (1 ≤ n) × (n ≤ 18446744073709551615)) (λ n. codes "badresult " ++ number_word 10 n) (λ n. Ended (BadResult n)) old
  bad_result_case first = record { made = λ n fits. ((fits.0, omega (arith, fits.1)), refl); only = λ end fits agree. only end fits (same_initial 98 first end agree) } where
    only : (end : TraceEnd) → IsRightEnd end → initial end ≡ 98 → (n : ℕ) × ((1 ≤ n) × (n ≤ 18446744073709551615)) × (end ≡ Ended (BadResult n))
    only (Ended (BadResult n)) fits is = (n, (fits.0, omega (arith, fits.1)), refl)
    only _ fits is = absurd (omega arith)

pub no_ending_left : (old : List ℕ) → length old < 1 → IsCutShort IsRightEnd ending_line old
no_ending_left old none = cut_at_start IsRightEnd ending_line old (omega arith) Open tt (λ is. cc)
