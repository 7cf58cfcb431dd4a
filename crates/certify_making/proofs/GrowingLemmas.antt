-- Lines that grow, and the facts that are known.
use Rattle.std.proofs.Common.{◌≡◌, ℕ, ◌+◌, ◌<◌, ◌≤◌, Bool, true, false, not, cond, List, [], ◌∷◌, ◌++◌, length, take, drop, get_or, Contains, refl, sym, ◌∙◌, ap, subst, inl, inr, arith, append-nil}
use Rattle.std.specs.List.{list_any}
use Rattle.std.proofs.lemmas.List.{append_assoc, map-append, take_more, take_all, take-append-drop}
use Rattle.std.proofs.lemmas.List.Elements.{Contains-append_left, Contains-get_or, Contains-push, Contains-push_cases}
use Rattle.indexmap.specs.IndexSet.{insert_key}
use Rattle.certify_facts.specs.declared.fact.Fact.{Fact}
use Rattle.certify_facts.specs.contracts.fact.FactPartialEq.TheImpl.{eq-value as fact_eq}
use Rattle.certify_facts.specs.declared.fact.FactLine.{FactLine}
use Rattle.certify_facts.specs.Confirms.{facts_of}
use Rattle.certify.proofs.KnownLemmas.{any_contains, fact_exact, fact_same}
use Rattle.certify_making.specs.declared.error.CertifyError.{CertifyError}
use Rattle.certify_making.specs.declared.error.CertifyError.TheVariants.{OutOfMemory, TooLarge}
use Rattle.certify_making.specs.Adding.{HasFact, Remembers, AddsOne, Added, CannotAdd, CannotAddEach, IsOverfull}
use Rattle.certify_making.specs.Adding.Added.{none, more}
use Rattle.certify_making.specs.Made.{most}

-- a fact that is inserted
pub remembered : (old new : List Fact) (x : Fact) (fresh : Bool) → fresh ≡ not (list_any (fact_eq.it x) old) → new ≡ insert_key fact_eq.it old x → Remembers fresh x old new
remembered old new x fresh told is = by_test (list_any (fact_eq.it x) old) refl told is
  where
    by_test : (b : Bool) → list_any (fact_eq.it x) old ≡ b → fresh ≡ not b → new ≡ cond b old (old ++ x ∷ []) → Remembers fresh x old new
    by_test true has said made = subst (λ r. Remembers r x old new) (sym said) ((any_contains fact_eq.it fact_exact fact_same old x).0 has, made)
    by_test false has said made = subst (λ r. Remembers r x old new) (sym said) (
      λ known. let both : true ≡ false = sym ((any_contains fact_eq.it fact_exact fact_same old x).1 known) ∙ has in absurd cc,
      made,
    )

-- the facts of the lines with one more
pub facts_push : (lines : List FactLine) (l : FactLine) → facts_of (lines ++ l ∷ []) ≡ facts_of lines ++ l.fact ∷ []
facts_push lines l = map-append (λ (k : FactLine). k.fact) lines (l ∷ [])

pub facts_append : (lines others : List FactLine) → facts_of (lines ++ others) ≡ facts_of lines ++ facts_of others
facts_append lines others = map-append (λ (k : FactLine). k.fact) lines others

pub known_push : (known known' : List Fact) (lines lines' : List FactLine) (l : FactLine) → known ≡ facts_of lines → known' ≡ known ++ l.fact ∷ [] → lines' ≡ lines ++ l ∷ [] → known' ≡ facts_of lines'
known_push known known' lines lines' l same grown more_lines = grown ∙ ap (λ ks. ks ++ l.fact ∷ []) same ∙ sym (facts_push lines l) ∙ ap facts_of (sym more_lines)

pub has_append : (lines others : List FactLine) (x : Fact) → HasFact lines x → HasFact (lines ++ others) x
has_append lines others x has = subst (λ ks. Contains ks x) (sym (facts_append lines others)) (Contains-append_left (facts_of lines) (facts_of others) x has)

pub has_push : (lines : List FactLine) (l : FactLine) → HasFact (lines ++ l ∷ []) l.fact
has_push lines l = subst (λ ks. Contains ks l.fact) (sym (facts_push lines l)) (Contains-push (facts_of lines) l.fact)

-- a fact stays known
pub one_keeps : (l : FactLine) (old new : List FactLine) (x : Fact) → AddsOne l old new → HasFact old x → HasFact new x
one_keeps l old new x (inl (known, same)) has = subst (λ ls. HasFact ls x) (sym same) has
one_keeps l old new x (inr (unknown, is)) has = subst (λ ls. HasFact ls x) (sym is) (has_append old (l ∷ []) x has)

one_knows : (l : FactLine) (old new : List FactLine) → AddsOne l old new → HasFact new l.fact
one_knows l old new (inl (known, same)) = subst (λ ls. HasFact ls l.fact) (sym same) known
one_knows l old new (inr (unknown, is)) = subst (λ ls. HasFact ls l.fact) (sym is) (has_push old l)

-- what was there comes first
pub grown : {lines done new : List FactLine} → Added lines done new → (rest : List FactLine) × (new ≡ lines ++ rest)
grown {lines} none = ([], sym (append-nil lines))
grown {lines} (more l before (inl (known, same))) = let (rest, is) = grown before in (rest, same ∙ is)
grown {lines} (more l before (inr (unknown, added))) =
    let (rest, is) = grown before in
    (rest ++ l ∷ [], added ∙ ap (λ ls. ls ++ l ∷ []) is ∙ append_assoc lines rest (l ∷ []))

pub stays_known : {lines done new : List FactLine} (x : Fact) → Added lines done new → HasFact lines x → HasFact new x
stays_known {lines} x added has = let (rest, is) = grown added in subst (λ ls. HasFact ls x) (sym is) (has_append lines rest x has)

-- what was added is known
pub added_known : {lines done new : List FactLine} (x : FactLine) → Added lines done new → Contains done x → HasFact new x.fact
added_known x none has = absurd (omega (arith, has.1))
added_known x (more {done = done} {mid = mid} {new = new} l before adds) has = elim (Contains-push_cases done l x has) as (λ _. HasFact new x.fact) [
  | inl was ↦ one_keeps l mid new x.fact adds (added_known x before was)
  | inr same ↦ subst (λ (k : FactLine). HasFact new k.fact) same (one_knows l mid new adds)
]

-- a loop that adds
pub added_step : (lines mid new found : List FactLine) (i : ℕ) (d : FactLine) → i < length found → Added lines (take i found) mid → AddsOne (get_or found i d) mid new → Added lines (take (i + 1) found) new
added_step lines mid new found i d lt before adds = subst (λ done. Added lines done new) (sym (take_more found i d lt)) (more (get_or found i d) before adds)

pub added_all : (lines new found : List FactLine) (i : ℕ) → length found ≤ i → Added lines (take i found) new → Added lines found new
added_all lines new found i over added = subst (λ done. Added lines done new) (take_all i found over) added

in_front : (found : List FactLine) (i : ℕ) (l : FactLine) → Contains (take i found) l → Contains found l
in_front found i l has = subst (λ ls. Contains ls l) (take-append-drop i found) (Contains-append_left (take i found) (drop i found) l has)

overfull_at : (lines mid found : List FactLine) (i : ℕ) (d : FactLine) → i < length found → Added lines (take i found) mid → (HasFact mid (get_or found i d).fact → ⊥) → most ≤ length mid → IsOverfull found lines
overfull_at lines mid found i d lt added unknown full = record {
  done = take i found;
  mid = mid;
  last = get_or found i d;
  added = added;
  some = in_front found i;
  one = Contains-get_or found i d lt;
  unknown = unknown;
  full = full;
}

pub cannot_add_each : (lines mid found : List FactLine) (i : ℕ) (d : FactLine) (error : CertifyError) → i < length found → Added lines (take i found) mid → CannotAdd (get_or found i d) mid error → CannotAddEach found lines error
cannot_add_each lines mid found i d OutOfMemory lt added why = tt
cannot_add_each lines mid found i d TooLarge lt added why = overfull_at lines mid found i d lt added why.0 why.1
