-- The lines of the facts, one after another, and that what is written is a certificate's text.
use Rattle.std.proofs.Common.{◌≡◌, ℕ, zero, suc, ◌+◌, ◌<◌, List, [], ◌∷◌, ◌++◌, length, get_or, take, slice_index_or, refl, sym, ◌∙◌, ap, subst, inl, inr, append_assoc, arith}
use Rattle.std.proofs.lemmas.Bool.{cases_lt}
use Rattle.std.proofs.lemmas.List.{append-nil, take_more}
use Rattle.std.proofs.lemmas.List.Concat.{flat_map-append}
use Rattle.certify_facts.specs.declared.fact.FactLine.{FactLine}
use Rattle.certify_file.specs.CertificateText.{fact_line}
use Rattle.certify_file.specs.Lines.{IsSmallLine}
use Rattle.certify_file.proofs.FreeLemmas.{lines_of}

pub next_line : (ls : List FactLine) (i : ℕ) (l : FactLine) (old text new : List ℕ) → i < length ls → text ≡ old ++ lines_of (take i ls) → new ≡ text ++ fact_line (get_or ls i l) → new ≡ old ++ lines_of (take (i + 1) ls)
next_line ls i l old text new within before is =
    let next : lines_of (take (i + 1) ls) ≡ lines_of (take i ls) ++ fact_line (get_or ls i l) =
    ap lines_of (take_more ls i l within) ∙ flat_map-append fact_line (take i ls) (get_or ls i l ∷ []) ∙ ap (λ (t : List ℕ). lines_of (take i ls) ++ t) (append-nil (fact_line (get_or ls i l))) in
    is ∙ ap (λ (t : List ℕ). t ++ fact_line (get_or ls i l)) before ∙ append_assoc old (lines_of (take i ls)) (fact_line (get_or ls i l)) ∙ ap (λ (t : List ℕ). old ++ t) (sym next)

get_same : (ls : List FactLine) (i : ℕ) (l m : FactLine) → i < length ls → get_or ls i l ≡ get_or ls i m
get_same [] i l m within = absurd (omega (arith, within))
get_same (x ∷ ls) zero l m within = refl
get_same (x ∷ ls) (suc i) l m within = get_same ls i l m (omega (arith, within))

-- what holds of the lines before one, and of it, holds of those before the next
pub so_far : (ls : List FactLine) (i : ℕ) (l : FactLine) → i < length ls → IsSmallLine (get_or ls i l) → ((k : ℕ) (d : FactLine) → k < i → IsSmallLine (slice_index_or ls k d)) → (k : ℕ) (d : FactLine) → k < i + 1 → IsSmallLine (slice_index_or ls k d)
so_far ls i l within holds before k d less =
    elim (cases_lt k i) [
      | inl earlier ↦ before k d earlier
      | inr more ↦
          let same : k ≡ i = omega (arith, less, more) in
          subst (λ (n : ℕ). IsSmallLine (slice_index_or ls n d)) (sym same) (subst IsSmallLine (get_same ls i l d within) holds)
    ]
