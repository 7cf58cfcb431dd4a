-- Where each fact that follows is known, the lines are a certificate of the verdict.
use Rattle.std.proofs.Common.{◌≡◌, ◌≢◌, ℕ, ◌+◌, ◌-◌, ◌<◌, ◌≤◌, Bool, true, false, cond, nat_eq, List, [], ◌∷◌, ◌++◌, length, get_or, Contains, Some, slice_get, refl, sym, ◌∙◌, ap, subst, inl, inr, arith}
use Rattle.std.proofs.lemmas.Bool.{eq-eqb, eqb-true}
use Rattle.std.proofs.lemmas.List.{get_or-map, length-map}
use Rattle.std.proofs.lemmas.List.Elements.{Contains-get_or}
use Rattle.std.proofs.lemmas.Option.{slice_get-get_or, slice_get_within, get_or_from_slice_get}
use Rattle.dm_base.specs.declared.event.Event.{Event}
use Rattle.dm_base.specs.declared.verdict.Verdict.{Verdict}
use Rattle.dm_base.specs.declared.verdict.Verdict.TheVariants.{Accepted, Rejected}
use Rattle.flow_model.specs.Graph.{Graph}
use Rattle.flow_model.specs.Rules.{IsValid}
use Rattle.certify_facts.specs.declared.fact.Fact.{Fact}
use Rattle.certify_facts.specs.declared.fact.Fact.TheVariants as facts
use Rattle.certify_facts.specs.declared.fact.FactLine.{FactLine}
use Rattle.certify_facts.specs.declared.fact.Judge.{Judge}
use Rattle.certify_facts.specs.declared.fact.Reason.TheVariants.{Start}
use Rattle.certify_facts.specs.Confirms.{Confirms, HasAfter, IsAfter, IsClaim, IsClosed, facts_of}
use Rattle.certify_facts.specs.Form.{IsCounted, IsOfModel}
use Rattle.certify_facts.specs.Reasons.{Follows, IsRead, IsStart}
use Rattle.certify_facts.specs.Reasons.Follows.{begins, one, both}
use Rattle.certify_facts.specs.Reasons.FollowsFrom.{read}
use Rattle.certify_facts.specs.Told.{Told}
use Rattle.certify_facts.proofs.Lines.{confirmed, line_at, lines_follow}
use Rattle.certify_making.specs.Adding.{AddsOne, HasFact}
use Rattle.certify_making.specs.Ahead.{AreClosed, IsBegun, IsDeepest, events_of, verdict_at}
use Rattle.certify_making.specs.Made.{most, reach, IsMade, HasTooMany}
use Rattle.certify_making.proofs.AheadLemmas.{fact_at}
use Rattle.certify_making.proofs.DepthLemmas.{after_is, deep_at, follows_trace, place_of, read_events, within_from}
use Rattle.certify_making.proofs.FewLemmas.{no_more}

module _ (judge : Judge) (g : Graph) (t : List Event) (lines : List FactLine) (closed : AreClosed judge g t lines) where
  known : {y : Fact} → Follows judge g t y → HasFact lines y
  known (begins {y = y} model is) = closed.begun y model is
  known (one {x = x} {y = y} follows is) = closed.one x y (known follows) is
  known (both {x = x} {z = z} {y = y} follows more is) = closed.both x z y (known follows) (known more) is

  follow : (x : Fact) → HasFact lines x → Follows judge g t x
  follow = lines_follow judge g t lines closed.shown.formed closed.shown.hold

  is_closed : (m : ℕ) → IsClosed judge g t m (facts_of lines)
  is_closed m = record {
    begins = closed.begun;
    one = λ x y has is within. closed.one x y has is;
    both = λ x z y has link is within. closed.both x z y has link is;
  }

  module _ (n : ℕ) (deepest : IsDeepest lines n) where
    -- a fact of the lines
    fact_in : (l : FactLine) → Contains lines l → HasFact lines l.fact
    fact_in l (k, lt, is) = (k, omega (arith, lt, length-map lines (λ (l : FactLine). l.fact)), get_or-map (λ (l : FactLine). l.fact) lines k l l.fact lt ∙ ap (λ (l : FactLine). l.fact) is)

    events_within : (x : Fact) → HasFact lines x → events_of x ≤ n
    events_within x has = let (l, in_lines, same) = line_in x has in subst (λ y. events_of y ≤ n) same (deepest.least l in_lines)
      where
        line_in : (x : Fact) → HasFact lines x → (l : FactLine) × Contains lines l × (l.fact ≡ x)
        line_in x (k, lt, is) =
            let there = line_at lines k x (slice_get-get_or (facts_of lines) k x lt ∙ ap Some is) in
            (there.line, (k, slice_get_within lines k there.line there.at, get_or_from_slice_get lines k there.line there.line there.at), there.fact)

    has_after : HasAfter (facts_of lines) n
    has_after = elim deepest.reached as (λ _. HasAfter (facts_of lines) n) [
      | inl none ↦
          let first = get_or (facts_of lines) 0 (facts.Callgraph 0 0) in
          let has : HasFact lines first = Contains-get_or (facts_of lines) 0 (facts.Callgraph 0 0) (omega (arith, closed.some, length-map lines (λ (l : FactLine). l.fact))) in
          let (x, follows, after) = place_of g t (follow first has) in
          let same : events_of first ≡ n = omega (arith, none, events_within first has) in
          (x, known follows, subst (λ k. IsAfter k x) same after)
      | inr (l, in_lines, same) ↦
          let (x, follows, after) = place_of g t (follow l.fact (fact_in l in_lines)) in
          (x, known follows, subst (λ k. IsAfter k x) same after)
    ]

    -- no fact is after more events
    stops : (x y : Fact) → HasFact lines x → IsAfter n x → IsRead g t x y → ⊥
    stops x y has after is =
        let more = (read_events g t x y is).0 in
        let le = events_within y (closed.one x y has (read is)) in
        omega (arith, more, le, after_is n x after)

    deep : n ≤ length t
    deep = let (x, has, after) = has_after in let le = follows_trace g t (follow x has) in omega (arith, le, after_is n x after)

    claim_by : (b : Bool) → nat_eq n (length t) ≡ b → IsClaim judge g t (cond b (Accepted n) (Rejected (n + 1))) (facts_of lines)
    claim_by true is = record { whole = eqb-true n (length t) is; last = has_after }
    claim_by false is =
        let differ : n ≢ length t = λ same. let both : true ≡ false = sym (eq-eqb n (length t) same) ∙ is in absurd cc in
        let back : n ≡ n + 1 - 1 = omega arith in
        record {
          some = omega arith;
          within = omega (arith, deep, differ);
          before = subst (HasAfter (facts_of lines)) back has_after;
          closed = is_closed (n + 1 - 1);
          stops = λ x y has after. stops x y has (subst (λ k. IsAfter k x) (sym back) after);
        }

    claim : IsClaim judge g t (verdict_at t n) (facts_of lines)
    claim = claim_by (nat_eq n (length t)) refl

    reach_by : (b : Bool) → reach (cond b (Accepted n) (Rejected (n + 1))) ≡ n
    reach_by true = refl
    reach_by false = omega arith

    pub made : (c : Told) → IsValid g → length lines ≤ most → c ≡ record { judge = judge; verdict = verdict_at t n; lines = lines } → IsMade judge g t c
    made c valid few is =
        let told : Told = record { judge = judge; verdict = verdict_at t n; lines = lines } in
        let confirms : Confirms g t told = record { reasons = closed.shown.hold; claim = claim } in
        subst (IsMade judge g t) (sym is) (record {
          judges = refl;
          confirms = confirms;
          verdict = λ bound. confirmed g t told bound valid closed.shown.formed confirms;
          all = λ x. (follow x, known);
          once = closed.shown.once;
          within = λ x has. within_from (reach (verdict_at t n)) x (omega (arith, events_within x has, reach_by (nat_eq n (length t))));
          few = few;
        })

-- the number of the verdict fits u32
counted_by : (n : ℕ) (b : Bool) → n < most → IsCounted (cond b (Accepted n) (Rejected (n + 1)))
counted_by n true lt = omega (arith, lt)
counted_by n false lt = omega (arith, lt)

counted : (judge : Judge) (g : Graph) (t : List Event) (lines : List FactLine) (n : ℕ) → AreClosed judge g t lines → length lines ≤ most → IsDeepest lines n → IsCounted (verdict_at t n)
counted judge g t lines n closed few deepest = counted_by n (nat_eq n (length t)) (elim deepest.reached as (λ _. n < most) [
  | inl none ↦ omega (arith, none)
  | inr (l, (k, lt, is), same) ↦
      let at : slice_get (facts_of lines) k ≡ Some l.fact = fact_at lines k l (slice_get-get_or lines k l lt ∙ ap Some is) in
      let le = deep_at g t lines closed.shown.hold k l.fact at in
      omega (arith, le, same, lt, few)
])

-- The same of the lines as they were seen, and of the verdict as it was told.
module _ (judge : Judge) (g : Graph) (t : List Event) (lines seen : List FactLine) (n : ℕ) (v : Verdict) (closed : AreClosed judge g t lines) (few : length lines ≤ most) (seen_is : seen ≡ lines) (deepest : IsDeepest seen n) (told_is : v ≡ verdict_at t n) where
  deepest_here : IsDeepest lines n
  deepest_here = subst (λ ls. IsDeepest ls n) seen_is deepest

  pub counted_told : IsCounted v
  counted_told = subst IsCounted (sym told_is) (counted judge g t lines n closed few deepest_here)

  pub made_told : (c : Told) → IsValid g → c ≡ record { judge = judge; verdict = v; lines = lines } → IsMade judge g t c
  made_told c valid is =
      let told : Verdict → Told = λ w. record { judge = judge; verdict = w; lines = lines } in
      made judge g t lines closed n deepest_here c valid few (is ∙ ap told told_is)

-- the fact with which a run begins, alone
pub begun_by : (judge : Judge) (g : Graph) (x : Fact) (old new : List FactLine) → old ≡ [] → AddsOne (record { fact = x; reason = Start }) old new
    → IsOfModel judge x → IsStart g x → ((y : Fact) → IsOfModel judge y → IsStart g y → x ≡ y) → IsBegun judge g new
begun_by judge g x old new empty adds model start only = record {
  line = record { fact = x; reason = Start };
  is = by adds;
  reason = refl;
  model = model;
  start = start;
  only = only;
}
  where
    by : AddsOne (record { fact = x; reason = Start }) old new → new ≡ record { fact = x; reason = Start } ∷ []
    by (inl (known, same)) = let has : HasFact [] x = subst (λ ls. HasFact ls x) empty known in absurd (omega (arith, has.1))
    by (inr (unknown, is)) = is ∙ ap (λ ls. ls ++ record { fact = x; reason = Start } ∷ []) empty

-- a certificate was made only where not too many facts follow
pub few_follow : (judge : Judge) (g : Graph) (t : List Event) (c : Told) → IsMade judge g t c → HasTooMany judge g t → ⊥
few_follow judge g t c made many =
    let le = no_more many.known (facts_of c.lines) many.once (λ x has. (made.all x).1 (many.follow x has)) in
    omega (arith, le, many.many, made.few, length-map c.lines (λ (l : FactLine). l.fact))
