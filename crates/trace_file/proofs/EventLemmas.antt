-- The lines of events and of records, by their first byte.
use Rattle.std.proofs.Common.{◌≡◌, ◌≢◌, ℕ, ◌<◌, ◌≤◌, ◌^◌, List, [], ◌∷◌, ◌++◌, length, get_or, decimal, refl, sym, ◌∙◌, append_assoc, arith}
use Rattle.std.specs.Prelude.{codes}
use Rattle.dm_base.specs.declared.event.Event.{Event}
use Rattle.dm_base.specs.declared.event.Event.TheVariants.{Sys, Pre, Post}
use Rattle.line_text.specs.Reading.{Agree, IsCutShort}
use Rattle.line_text.specs.Words.{number_word}
use Rattle.line_text.proofs.Splits.{IsSplit, IsCase}
use Rattle.trace_file.specs.EventText.{IsWritten}
use Rattle.trace_file.specs.LineParts.{IsWrittenCall}
use Rattle.trace_file.specs.Lines.{event_line, record_line, IsWrittenRecord}
use Rattle.trace_file.proofs.Parts.{first_agrees, cut_at_start}
use Rattle.trace_file.proofs.PlainWords.{number_plain}

-- the first byte of an event's line
abbrev letter : Event → ℕ
letter (Sys x arguments outcome) = 83
letter (Pre site) = 66
letter (Post site) = 69

letter_agrees : (e : Event) (old : List ℕ) → Agree (event_line e) old → 0 < length old → get_or old 0 0 ≡ letter e
letter_agrees (Sys x arguments outcome) old agree some = first_agrees 83 _ old agree some
letter_agrees (Pre site) old agree some = first_agrees 66 _ old agree some
letter_agrees (Post site) old agree some = first_agrees 69 _ old agree some

-- no event begins with `e`
pub event_letter : (e : Event) (old : List ℕ) → Agree (event_line e) old → 0 < length old → get_or old 0 0 ≢ 101
event_letter e old agree some is = other e (sym (letter_agrees e old agree some) ∙ is) where
  other : (e : Event) → letter e ≢ 101
  other (Sys x arguments outcome) is = omega arith
  other e is = omega arith

pub call_case : (old : List ℕ) → 0 < length old → get_or old 0 0 ≡ 83 → IsCase IsWritten event_line IsWrittenCall event_line (λ e. e) old
call_case old some first = record { made = λ e fits. (made e fits, refl); only = λ e fits agree. (e, only e fits (sym (letter_agrees e old agree some) ∙ first), refl) } where
  made : (e : Event) → IsWrittenCall e → IsWritten e
  made (Sys x arguments outcome) fits = fits
  made e fits = absurd fits

  only : (e : Event) → IsWritten e → letter e ≡ 83 → IsWrittenCall e
  only (Sys x arguments outcome) fits is = fits
  only e fits is = absurd (omega arith)

pub pre_case : (old : List ℕ) → 0 < length old → get_or old 0 0 ≡ 66 → IsCase IsWritten event_line (λ n. n < 2 ^ 32) (λ n. codes "B " ++ number_word 10 n) Pre old
pre_case old some first = record { made = λ n fits. (fits, refl); only = λ e fits agree. only e fits (sym (letter_agrees e old agree some) ∙ first) } where
  only : (e : Event) → IsWritten e → letter e ≡ 66 → (n : ℕ) × (n < 2 ^ 32) × (e ≡ Pre n)
  only (Pre site) fits is = (site, fits, refl)
  only e fits is = absurd (omega arith)

pub post_case : (old : List ℕ) → 0 < length old → get_or old 0 0 ≡ 69 → IsCase IsWritten event_line (λ n. n < 2 ^ 32) (λ n. codes "E " ++ number_word 10 n) Post old
post_case old some first = record { made = λ n fits. (fits, refl); only = λ e fits agree. only e fits (sym (letter_agrees e old agree some) ∙ first) } where
  only : (e : Event) → IsWritten e → letter e ≡ 69 → (n : ℕ) × (n < 2 ^ 32) × (e ≡ Post n)
  only (Post site) fits is = (site, fits, refl)
  only e fits is = absurd (omega arith)

pub no_event_left : (old : List ℕ) → length old < 1 → IsCutShort IsWritten event_line old
no_event_left old none = cut_at_start IsWritten event_line old (omega arith) (Pre 0) (omega arith) (λ is. cc)

-- a record

pub record_split : IsSplit IsWrittenRecord record_line (λ n. (0 ≤ n) × (n ≤ 4294967295)) (number_word 32) (λ n. IsWritten) (λ n. event_line) (λ n e. record { pid = n; event = e })
record_split = record {
  apart = λ r fits. (r.pid, r.event, (omega arith, omega (arith, fits.0)), fits.1, refl);
  joined = λ n e within fits. ((omega (arith, within.1), fits), sym (append_assoc (decimal n) (32 ∷ []) (event_line e)));
  goes_on = λ n within. (Pre 0, omega arith);
  plain = λ n within. number_plain n (omega (arith, within.1));
}
