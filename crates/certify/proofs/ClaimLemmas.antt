-- What the checks of a claim say.
use Rattle.std.proofs.Common.{◌≡◌, ◌↔◌, ℕ, ◌-◌, ◌<◌, ◌≤◌, Bool, true, false, IsTrue, List, [], length, get_or, slice_get, Contains, Some, None, refl, sym, ◌∙◌, ap, subst, inl, inr, arith}
use Rattle.dm_base.specs.declared.event.Event.{Event}
use Rattle.std.proofs.lemmas.Option.{slice_get-get_or}
use Rattle.flow_model.specs.declared.records.ModelFunction.{ModelFunction}
use Rattle.flow_model.specs.Graph.{Graph, HasFunction}
use Rattle.flow_model.proofs.Walks.{same_entry}
use Rattle.certify_facts.specs.declared.fact.Judge.TheVariants as judges
use Rattle.certify_facts.specs.declared.fact.Fact.{Fact}
use Rattle.certify_facts.specs.declared.fact.Fact.TheVariants.{Callgraph, At, Link}
use Rattle.certify_facts.specs.declared.fact.FactLine.{FactLine}
use Rattle.certify_facts.specs.declared.fact.Judge.{Judge}
use Rattle.certify_facts.specs.declared.fact.Reason.{Reason}
use Rattle.certify_facts.specs.declared.fact.Reason.TheVariants as reasons
use Rattle.certify_facts.specs.Confirms.{facts_of, IsAfter, IsWithin, IsClosed, Stops, IsAcceptedBy, IsRejectedBy}
use Rattle.certify_facts.specs.Form.{IsOfModel}
use Rattle.certify_facts.specs.Reasons.{IsStart, IsExit, IsReturnedAlong, FollowsFrom}
use Rattle.certify_facts.specs.Reasons.FollowsFrom.{silent, entered, returned, read, linked}
use Rattle.dm_base.specs.Adding.{Has}
use Rattle.certify_steps.specs.Adding.{Adds}
use Rattle.certify_steps.specs.Stepping.{GivesBy, Gives}
use Rattle.certify_steps.proofs.ReadingLemmas.{contains_map, contains_none}
use Rattle.certify.specs.declared.ends.Ends.{Ends}
use Rattle.certify.specs.declared.ends.Activation.{Activation}
use Rattle.certify.specs.Closing.{GoesPast, IsFollowed, IsReturnKnown, EndsActivation}
use Rattle.certify.specs.Ends.{HasEnd, HasEndOf}

-- one of the lines, and one of their facts
pub facts_has : (P : Fact → Type 0) (lines : List FactLine) → Has (λ l. P l.fact) lines ↔ ((x : Fact) × Contains (facts_of lines) x × P x)
facts_has P lines = (
  λ (l, has, p). (l.fact, (contains_map (λ (k : FactLine). k.fact) lines l.fact).1 (l, has, refl), p),
  λ (x, has, p). let (l, in_lines, same) = (contains_map (λ (k : FactLine). k.fact) lines x).0 has in (l, in_lines, subst P (sym same) p),
)

pub accepted_by : (t : List Event) (n : ℕ) (lines : List FactLine) (b : Bool) → n ≡ length t → (IsTrue b ↔ Has (λ l. IsAfter n l.fact) lines) → IsTrue b ↔ IsAcceptedBy t n (facts_of lines)
accepted_by t n lines b whole is = (
  λ yes. record { whole = whole; last = (facts_has (IsAfter n) lines).0 (is.0 yes) },
  λ claim. is.1 ((facts_has (IsAfter n) lines).1 claim.last),
)

module _ (judge : Judge) (g : Graph) (t : List Event) (n : ℕ) (lines : List FactLine) where
  no_claim : (IsRejectedBy judge g t n (facts_of lines) → ⊥) → IsTrue false ↔ IsRejectedBy judge g t n (facts_of lines)
  no_claim not = (λ yes. absurd cc, λ claim. absurd (not claim))

  pub too_early : n < 1 → IsTrue false ↔ IsRejectedBy judge g t n (facts_of lines)
  too_early early = no_claim (λ claim. omega (arith, early, claim.some))

  pub too_late : length t < n → IsTrue false ↔ IsRejectedBy judge g t n (facts_of lines)
  too_late late = no_claim (λ claim. omega (arith, late, claim.within))

  pub none_before : (Has (λ l. IsAfter (n - 1) l.fact) lines → ⊥) → IsTrue false ↔ IsRejectedBy judge g t n (facts_of lines)
  none_before none = no_claim (λ claim. none ((facts_has (IsAfter (n - 1)) lines).1 claim.before))

  goes_past : Has (λ l. GoesPast g t (n - 1) l.fact) lines → Stops g t (n - 1) (facts_of lines) → ⊥
  goes_past has stops = let (x, known, (after, (y, step))) = (facts_has (GoesPast g t (n - 1)) lines).0 has in stops x y known after step

  pub one_past : Has (λ l. GoesPast g t (n - 1) l.fact) lines → IsTrue false ↔ IsRejectedBy judge g t n (facts_of lines)
  one_past has = no_claim (λ claim. goes_past has claim.stops)

  pub rejected_by : (b : Bool) → 1 ≤ n → n ≤ length t → Has (λ l. IsAfter (n - 1) l.fact) lines → (Has (λ l. GoesPast g t (n - 1) l.fact) lines → ⊥)
      → (IsTrue b ↔ IsClosed judge g t (n - 1) (facts_of lines)) → IsTrue b ↔ IsRejectedBy judge g t n (facts_of lines)
  rejected_by b some within before none is = (
    λ yes. record {
      some = some;
      within = within;
      before = (facts_has (IsAfter (n - 1)) lines).0 before;
      closed = is.0 yes;
      stops = λ x y known after step. none ((facts_has (GoesPast g t (n - 1)) lines).1 (x, known, (after, (y, step))));
    },
    λ claim. is.1 claim.closed,
  )

-- what follows from one fact, by its reasons
gives_follows : (g : Graph) (t : List Event) (r : ℕ) (x y : Fact) (reason : Reason) → GivesBy g t r x reason y → FollowsFrom g t x y
gives_follows g t r x y reasons.Start is = absurd is
gives_follows g t r x y (reasons.Silent n) (same, is) = silent is
gives_follows g t r x y (reasons.Enter n s) (same, is) = entered s is
gives_follows g t r x y (reasons.Return n s) (same, is) = returned s is
gives_follows g t r x y (reasons.Event n) (same, is) = read is
gives_follows g t r x y (reasons.Link n) (same, is) = linked is

follows_gives : (g : Graph) (t : List Event) (r : ℕ) (x y : Fact) → FollowsFrom g t x y → (reason : Reason) × GivesBy g t r x reason y
follows_gives g t r x y (silent is) = (reasons.Silent r, (refl, is))
follows_gives g t r x y (entered s is) = (reasons.Enter r s, (refl, is))
follows_gives g t r x y (returned s is) = (reasons.Return r s, (refl, is))
follows_gives g t r x y (read is) = (reasons.Event r, (refl, is))
follows_gives g t r x y (linked is) = (reasons.Link r, (refl, is))

pub followed_by : (g : Graph) (t : List Event) (m r : ℕ) (known : List Fact) (x : Fact) (none found : List FactLine) (b : Bool) → none ≡ [] → Adds none found (Gives g t m r x)
    → (IsTrue b ↔ ((l : FactLine) → Contains found l → Contains known l.fact)) → IsTrue b ↔ IsFollowed g t m known x
followed_by g t m r known x none found b empty adds is = (
  λ yes y follows within.
      let (reason, gives) = follows_gives g t r x y follows in
      is.0 yes (record { fact = y; reason = reason }) ((adds.is (record { fact = y; reason = reason })).1 (inr (gives, within))),
  λ all. is.1 (λ l has. elim ((adds.is l).0 has) as (λ _. Contains known l.fact) [
    | inl was ↦ absurd (contains_none l (subst (λ ls. Contains ls l) empty was))
    | inr gives ↦ all l.fact (gives_follows g t r x l.fact l.reason gives.0) gives.1
  ]),
)

pub start_by : (g : Graph) (judge : Judge) (known : List Fact) (start : Fact) (b : Bool) → IsOfModel judge start → IsStart g start → ((y : Fact) → IsOfModel judge y → IsStart g y → start ≡ y)
    → (IsTrue b ↔ Contains known start) → IsTrue b ↔ ((y : Fact) → IsOfModel judge y → IsStart g y → Contains known y)
start_by g judge known start b model begins only is = (
  λ yes y of_model is_start. subst (Contains known) (only y of_model is_start) (is.0 yes),
  λ all. is.1 (all start model begins),
)

module _ (g : Graph) (m : ℕ) (known : List Fact) (x z : Fact) where
  pub return_here : (y : Fact) (b : Bool) → IsReturnedAlong g x z y → ((w : Fact) → IsReturnedAlong g x z w → Some y ≡ Some w) → IsWithin m y → (IsTrue b ↔ Contains known y) → IsTrue b ↔ IsReturnKnown g m known x z
  return_here y b along only within is = (
    λ yes w other in_time. let both : Some y ≡ Some w = only w other in let same : y ≡ w = cc in subst (Contains known) same (is.0 yes),
    λ all. is.1 (all y along within),
  )

  pub return_late : (y : Fact) → ((w : Fact) → IsReturnedAlong g x z w → Some y ≡ Some w) → (IsWithin m y → ⊥) → IsTrue true ↔ IsReturnKnown g m known x z
  return_late y only late = (
    λ yes w other in_time. let both : Some y ≡ Some w = only w other in let same : y ≡ w = cc in absurd (late (subst (IsWithin m) (sym same) in_time)),
    λ all. refl,
  )

  pub return_none : ((w : Fact) → IsReturnedAlong g x z w → None ≡ Some w) → IsTrue true ↔ IsReturnKnown g m known x z
  return_none only = (λ yes w other in_time. let both : None ≡ Some w = only w other in absurd cc, λ all. refl)

-- The whole.
module _ (judge : Judge) (g : Graph) (t : List Event) (m : ℕ) (lines : List FactLine) (known : List Fact) (is_known : (x : Fact) → Contains known x ↔ Has (λ l. x ≡ l.fact) lines) where
  listed : (x : Fact) → Contains known x → Contains (facts_of lines) x
  listed x has = let (l, in_lines, same) = (is_known x).0 has in (contains_map (λ (k : FactLine). k.fact) lines x).1 (l, in_lines, sym same)

  line_for : (x : Fact) → Contains (facts_of lines) x → Has (λ (l : FactLine). l.fact ≡ x) lines
  line_for x has = (contains_map (λ (k : FactLine). k.fact) lines x).0 has

  in_known : (x : Fact) → Contains (facts_of lines) x → Contains known x
  in_known x has = let (l, in_lines, same) = line_for x has in (is_known x).1 (l, in_lines, sym same)

  abbrev pub StartKnown : Type 0
  StartKnown = (y : Fact) → IsOfModel judge y → IsStart g y → Contains known y

  abbrev pub AllFollowed : Type 0
  AllFollowed = (l : FactLine) → Contains lines l → IsFollowed g t m known l.fact

  pub no_start : (StartKnown → ⊥) → IsTrue false ↔ IsClosed judge g t m (facts_of lines)
  no_start not = (λ yes. absurd cc, λ closed. absurd (not (λ y model is. in_known y (closed.begins y model is))))

  module _ (ends : Ends) (are_ends : (a : Activation) (x : Fact) → HasEnd ends a x ↔ Has (λ l. (x ≡ l.fact) × EndsActivation g a.entered a.function l.fact) lines) where
    -- the fact from which a return follows is at the exit of its activation
    end_of_return : (x z y : Fact) → IsReturnedAlong g x z y → Contains (facts_of lines) x → HasEndOf ends z x
    end_of_return (At k i f u) (Link i' f' j h s) (At k' j' h' v) (p, q, r, q', r', exit, returns) has =
        let (l, in_lines, same) = line_for (At k i f u) has in
        (are_ends (record { entered = i'; function = f' }) (At k i f u)).1 (l, in_lines, (sym same, subst (EndsActivation g i' f') (sym same) (sym q, sym r, subst (λ n. IsExit g n u) (sym r) exit)))
    end_of_return x z y is has = absurd is

    end_listed : (z x : Fact) → HasEndOf ends z x → Contains (facts_of lines) x
    end_listed (Link i f j h s) x has =
        let (l, in_lines, (same, at)) = (are_ends (record { entered = i; function = f }) x).0 has in
        (contains_map (λ (k : FactLine). k.fact) lines x).1 (l, in_lines, sym same)
    end_listed (Callgraph k v) x has = absurd has
    end_listed (At k i f v) x has = absurd has

    abbrev pub LinksClosed : Type 0
    LinksClosed = (l : FactLine) → Contains lines l → (x : Fact) → HasEndOf ends l.fact x → IsReturnKnown g m known x l.fact

    closed_links : IsClosed judge g t m (facts_of lines) → LinksClosed
    closed_links closed l in_lines x end y along within =
        in_known y (closed.both x l.fact y (end_listed l.fact x end) ((contains_map (λ (k : FactLine). k.fact) lines l.fact).1 (l, in_lines, refl)) along within)

    pub no_links : (LinksClosed → ⊥) → IsTrue false ↔ IsClosed judge g t m (facts_of lines)
    no_links not = (λ yes. absurd cc, λ closed. absurd (not (closed_links closed)))

    pub closed_by : (b : Bool) → StartKnown → LinksClosed → (IsTrue b ↔ AllFollowed) → IsTrue b ↔ IsClosed judge g t m (facts_of lines)
    closed_by b start links is = (
      λ yes. record {
        begins = λ y model begin. listed y (start y model begin);
        one = λ x y has follows within.
            let (l, in_lines, same) = line_for x has in
            listed y (is.0 yes l in_lines y (subst (λ z. FollowsFrom g t z y) (sym same) follows) within);
        both = λ x z y has link along within.
            let (l, in_lines, same) = line_for z link in
            listed y (links l in_lines x (subst (λ w. HasEndOf ends w x) (sym same) (end_of_return x z y along has)) y (subst (λ w. IsReturnedAlong g x w y) (sym same) along) within);
      },
      λ closed. is.1 (λ l in_lines y follows within. in_known y (closed.one l.fact y ((contains_map (λ (k : FactLine). k.fact) lines l.fact).1 (l, in_lines, refl)) follows within)),
    )

-- The fact with which a run begins.
module _ (g : Graph) where
  pub start_function : (functions : List ModelFunction) (start : ℕ) (one : ModelFunction) → functions ≡ g.functions → start ≡ g.start → start < length g.functions → one ≡ get_or functions start one → HasFunction g g.start one.entry one.exit
  start_function functions start one same is lt at =
      let within : start < length functions = omega (arith, lt, ap length same) in
      let there : slice_get functions start ≡ Some one = slice_get-get_or functions start one within ∙ ap Some (sym at) in
      record { one = one; has = subst (λ n. slice_get g.functions n ≡ Some one) is (subst (λ fs. slice_get fs start ≡ Some one) same there); begins = refl; ends = refl }

  pub only_walk : (judge : Judge) → judge ≡ judges.Callgraph → (entry exit : ℕ) → HasFunction g g.start entry exit → (y : Fact) → IsOfModel judge y → IsStart g y → Callgraph 0 entry ≡ y
  only_walk judge is entry exit at y model begin = by_fact y (subst (λ j. IsOfModel j y) is model) begin
    where
      by_fact : (y : Fact) → IsOfModel judges.Callgraph y → IsStart g y → Callgraph 0 entry ≡ y
      by_fact (Callgraph k v) model (none, (end, other)) = let same : entry ≡ v = same_entry at other in λ i. Callgraph (sym none i) (same i)
      by_fact (At k i f v) model begin = absurd model
      by_fact (Link i f j h s) model begin = absurd model

  pub only_run : (judge : Judge) (start : ℕ) → judge ≡ judges.Stack → start ≡ g.start → (entry exit : ℕ) → HasFunction g g.start entry exit → (y : Fact) → IsOfModel judge y → IsStart g y → At 0 0 start entry ≡ y
  only_run judge start is start_is entry exit at y model begin = by_fact y (subst (λ j. IsOfModel j y) is model) begin
    where
      by_fact : (y : Fact) → IsOfModel judges.Stack y → IsStart g y → At 0 0 start entry ≡ y
      by_fact (At k i f v) model (none, early, first, (end, other)) =
          let same : entry ≡ v = same_entry at (subst (λ n. HasFunction g n v end) first other) in
          let function : start ≡ f = start_is ∙ sym first in
          λ n. At (sym none n) (sym early n) (function n) (same n)
      by_fact (Callgraph k v) model begin = absurd model
      by_fact (Link i f j h s) model begin = absurd begin
