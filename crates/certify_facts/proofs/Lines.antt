-- Where each reason holds, each fact follows; and what a certificate claims is the verdict.
use Rattle.std.proofs.Common.{◌≡◌, ℕ, zero, suc, ◌+◌, ◌-◌, ◌<◌, ◌≤◌, List, take, Contains, Option, Some, None, slice_get, refl, sym, ◌∙◌, ap, subst, arith}
use Rattle.std.specs.Prelude.{All, option_map}
use Rattle.std.proofs.lemmas.Option.{slice_get-map, slice_get-get_or, slice_get_within, get_or_from_slice_get}
use Rattle.dm_base.specs.declared.event.Event.{Event}
use Rattle.dm_base.specs.declared.verdict.Verdict.{Verdict}
use Rattle.dm_base.specs.declared.verdict.Verdict.TheVariants.{Accepted, Rejected, Bound}
use Rattle.flow_model.specs.Graph.{Graph}
use Rattle.flow_model.specs.Rules.{IsValid}
use Rattle.flow_model.specs.Verdict.{IsVerdict}
use Rattle.certify_facts.specs.declared.fact.Fact.{Fact}
use Rattle.certify_facts.specs.declared.fact.Fact.TheVariants as facts
use Rattle.certify_facts.specs.declared.fact.FactLine.{FactLine}
use Rattle.certify_facts.specs.declared.fact.Judge.{Judge}
use Rattle.certify_facts.specs.declared.fact.Reason.{Reason}
use Rattle.certify_facts.specs.declared.fact.Reason.TheVariants as reasons
use Rattle.certify_facts.specs.Confirms.{which_of, facts_of, AllHold, IsClaim, Confirms}
use Rattle.certify_facts.specs.Form.{IsOfModel, IsFormed}
use Rattle.certify_facts.specs.Reasons.{IsNamed, HasReason, Follows}
use Rattle.certify_facts.specs.Reasons.Follows.{begins, one, both}
use Rattle.certify_facts.specs.Reasons.FollowsFrom.{silent, entered, returned, read, linked}
use Rattle.certify_facts.specs.Told.{Told}
use Rattle.certify_facts.proofs.Places.{in_whole}
use Rattle.certify_facts.proofs.Sound.{sound, kept_before}
use Rattle.certify_facts.proofs.Closed.{refused_after}

-- what stands at a place of the facts stands there in the lines
pub record LineAt (lines : List FactLine) (i : ℕ) (x : Fact) : Type 0 where
  pub line : FactLine
  pub at : slice_get lines i ≡ Some line
  pub fact : line.fact ≡ x

line_from : (lines : List FactLine) (i : ℕ) (x : Fact) (slot : Option FactLine) → slice_get lines i ≡ slot → option_map (λ l. l.fact) slot ≡ Some x → LineAt lines i x
line_from lines i x None at is = absurd cc
line_from lines i x (Some line) at is = record { line = line; at = at; fact = cc }

pub line_at : (lines : List FactLine) (i : ℕ) (x : Fact) → slice_get (facts_of lines) i ≡ Some x → LineAt lines i x
line_at lines i x at = line_from lines i x (slice_get lines i) refl (sym (slice_get-map (λ l. l.fact) lines i) ∙ at)

-- a fact follows from facts that follow
reason_follows : (judge : Judge) (g : Graph) (t : List Event) (earlier : List Fact) (reason : Reason) (y : Fact) → HasReason g t earlier reason y → IsOfModel judge y
    → ((r : ℕ) (x : Fact) → IsNamed earlier r x → Follows judge g t x) → Follows judge g t y
reason_follows judge g t earlier reasons.Start y is model before = begins model is
reason_follows judge g t earlier (reasons.Silent r) y (x, named, is) model before = one (before r x named) (silent is)
reason_follows judge g t earlier (reasons.Enter r s) y (x, named, is) model before = one (before r x named) (entered s is)
reason_follows judge g t earlier (reasons.Return r l) (facts.Callgraph k v) (x, named, is) model before = one (before r x named) (returned l is)
reason_follows judge g t earlier (reasons.Return r l) (facts.At k i f v) (x, z, named, link, is) model before = both (before r x named) (before l z link) is
reason_follows judge g t earlier (reasons.Return r l) (facts.Link i f j h s) is model before = absurd is
reason_follows judge g t earlier (reasons.Event r) y (x, named, is) model before = one (before r x named) (read is)
reason_follows judge g t earlier (reasons.Link r) y (x, named, is) model before = one (before r x named) (linked is)

module _ (judge : Judge) (g : Graph) (t : List Event) (lines : List FactLine) (formed : All (IsFormed judge) lines) (hold : AllHold g t lines) where
  formed_at : (n : ℕ) (line : FactLine) → slice_get lines n ≡ Some line → IsFormed judge line
  formed_at n line at = subst (IsFormed judge) (get_or_from_slice_get lines n line line at) (formed n line (slice_get_within lines n line at))

  follows_at : (n : ℕ) (line : FactLine) → slice_get lines n ≡ Some line → ((i : ℕ) (other : FactLine) → i < n → slice_get lines i ≡ Some other → Follows judge g t other.fact) → Follows judge g t line.fact
  follows_at n line at before =
      reason_follows judge g t (facts_of (take n lines)) line.reason line.fact (hold n (slice_get_within lines n line at) line at) (formed_at n line at).model
      (λ r x named.
      let there = line_at (take n lines) (r - 1) x named.1 in
      let (lt, whole) = in_whole lines n (r - 1) there.line there.at in
      subst (Follows judge g t) there.fact (before (r - 1) there.line lt whole))

  follows_below : (m n : ℕ) (line : FactLine) → n < m → slice_get lines n ≡ Some line → Follows judge g t line.fact
  follows_below zero n line lt at = absurd (omega arith)
  follows_below (suc m) n line lt at = follows_at n line at (λ i other less there. follows_below m i other (omega arith) there)

  pub lines_follow : (x : Fact) → Contains (facts_of lines) x → Follows judge g t x
  lines_follow x (i, lt, is) =
      let there = line_at lines i x (slice_get-get_or (facts_of lines) i x lt ∙ ap Some is) in
      subst (Follows judge g t) there.fact (follows_below (i + 1) i there.line (omega arith) there.at)

  lines_model : (x : Fact) → Contains (facts_of lines) x → IsOfModel judge x
  lines_model x (i, lt, is) =
      let there = line_at lines i x (slice_get-get_or (facts_of lines) i x lt ∙ ap Some is) in
      subst (IsOfModel judge) there.fact (formed_at i there.line there.at).model

  pub claim_is_verdict : (bound : ℕ) (verdict : Verdict) → IsValid g → IsClaim judge g t verdict (facts_of lines) → IsVerdict (which_of judge) g bound t verdict
  claim_is_verdict bound (Accepted n) valid claim =
      let (x, has, after) = claim.last in
      (claim.whole, record { kept = λ j le. let most : j ≤ n = omega (arith, le, claim.whole) in kept_before g t judge bound x n (lines_model x has) (sound g t (lines_follow x has)) after j most })
  claim_is_verdict bound (Rejected n) valid claim =
      let (x, has, after) = claim.before in
      record {
        within = claim.within;
        kept = λ j lt. let most : j ≤ n - 1 = omega (arith, lt) in kept_before g t judge bound x (n - 1) (lines_model x has) (sound g t (lines_follow x has)) after j most;
        refused = refused_after judge g t n (facts_of lines) valid claim.some claim.within claim.closed claim.stops;
      }
  claim_is_verdict bound (Bound n) valid claim = absurd claim

-- what a certificate claims is the verdict
pub confirmed : (g : Graph) (t : List Event) (c : Told) (bound : ℕ) → IsValid g → All (IsFormed c.judge) c.lines → Confirms g t c → IsVerdict (which_of c.judge) g bound t c.verdict
confirmed g t c bound valid formed shown = claim_is_verdict c.judge g t c.lines formed shown.reasons bound c.verdict valid shown.claim
