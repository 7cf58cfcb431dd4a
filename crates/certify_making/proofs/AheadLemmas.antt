-- The turns of the facts, one after another, until each fact that follows is known.
use Rattle.std.proofs.Common.{◌≡◌, ◌≢◌, ◌⊎◌, ℕ, zero, suc, ◌+◌, ◌-◌, ◌^◌, ◌<◌, ◌≤◌, true, false, ltb, List, [], ◌∷◌, ◌++◌, length, take, get_or, Contains, Some, slice_get, refl, sym, ◌∙◌, ap, subst, inl, inr, arith}
use Rattle.std.specs.Prelude.{AllPairs, option_map}
use Rattle.std.proofs.lemmas.Bool.{cases_lt, lt-ltb}
use Rattle.std.proofs.lemmas.List.{get_or_default, length-append, length-map, length_push, take-append-le, take_at}
use Rattle.std.proofs.lemmas.List.Elements.{All-push, Contains-append_left, Contains-push}
use Rattle.std.proofs.lemmas.List.Quantifiers.{all_pairs_push}
use Rattle.std.proofs.lemmas.Option.{slice_get-get_or, slice_get-map, slice_get_within, get_or_from_slice_get}
use Rattle.dm_base.specs.declared.event.Event.{Event}
use Rattle.flow_model.specs.Graph.{Graph}
use Rattle.certify_facts.specs.declared.fact.Fact.{Fact}
use Rattle.certify_facts.specs.declared.fact.Fact.TheVariants.{Callgraph, At, Link}
use Rattle.certify_facts.specs.declared.fact.FactLine.{FactLine}
use Rattle.certify_facts.specs.declared.fact.Judge.{Judge}
use Rattle.certify_facts.specs.declared.fact.Reason.TheVariants.{Start, Return}
use Rattle.certify_facts.specs.Confirms.{AllHold, facts_of}
use Rattle.certify_facts.specs.Form.{IsFormed, IsOfModel, GoesWith}
use Rattle.certify_facts.specs.Reasons.{FollowsFrom, HasReason, IsNamed, IsReturnedAlong, IsStart}
use Rattle.certify_facts.proofs.Lines.{line_at, lines_follow}
use Rattle.certify_facts.proofs.Places.{at_seam}
use Rattle.certify_steps.specs.Stepping.{line_of}
use Rattle.certify_steps.proofs.FollowLemmas.{item_at}
use Rattle.certify_making.specs.declared.error.CertifyError.{CertifyError}
use Rattle.certify_making.specs.declared.error.CertifyError.TheVariants.{OutOfMemory, TooLarge}
use Rattle.certify_making.specs.declared.notes.Key.{Key}
use Rattle.certify_making.specs.declared.notes.Key.TheVariants.{Exits, Links}
use Rattle.certify_making.specs.declared.notes.Notes.{Notes}
use Rattle.certify_making.specs.Adding.{HasFact, Added}
use Rattle.certify_making.specs.Adding.Added.{none, more}
use Rattle.certify_making.specs.Ahead.{AreShown, IsAhead, AreClosed, IsBegun}
use Rattle.certify_making.specs.Made.{most, HasTooMany, IsCertifyRefusal}
use Rattle.certify_making.specs.Notes.{HasKey, HasNote}
use Rattle.certify_making.specs.Pairs.{CannotTurn, IsFound, IsPaired, HasTurn, IsTurnedAway}
use Rattle.certify_making.proofs.DepthLemmas.{deep_at, from_deep, within_from}
use Rattle.certify_making.proofs.GrowingLemmas.{added_known, facts_append, facts_push, grown, stays_known}
use Rattle.certify_making.proofs.GroundLemmas.{along_reason, given_formed, given_reason, gives_each, reason_more, return_formed}

-- a number below the next one
below_or : (p n : ℕ) → p < n + 1 → (p < n) ⊎ (p ≡ n)
below_or zero zero lt = inr refl
below_or zero (suc n) lt = inl (omega arith)
below_or (suc p) zero lt = absurd (omega (arith, lt))
below_or (suc p) (suc n) lt = elim (below_or p n (omega (arith, lt))) as (λ _. (suc p < suc n) ⊎ (suc p ≡ suc n)) [
  | inl less ↦ inl (omega (arith, less))
  | inr same ↦ inr (omega (arith, same))
]

slice_get_more : {X : Type 0} (xs ys : List X) (n : ℕ) → n < length xs → slice_get (xs ++ ys) n ≡ slice_get xs n
slice_get_more [] ys n lt = absurd (omega (arith, lt))
slice_get_more (x ∷ xs) ys zero lt = refl
slice_get_more (x ∷ xs) ys (suc n) lt = slice_get_more xs ys n (omega (arith, lt))

pub fact_at : (lines : List FactLine) (n : ℕ) (l : FactLine) → slice_get lines n ≡ Some l → slice_get (facts_of lines) n ≡ Some l.fact
fact_at lines n l at = slice_get-map (λ (k : FactLine). k.fact) lines n ∙ ap (option_map (λ (k : FactLine). k.fact)) at

-- the fact of the line that was read at the place, and a place where none stands
pub fact_read : (lines seen : List FactLine) (n : ℕ) (l : FactLine) → seen ≡ lines → true ≡ ltb n (length seen) → l ≡ get_or seen n l → slice_get (facts_of lines) n ≡ Some l.fact
fact_read lines seen n l seen_is lt at = fact_at lines n l (subst (λ ls. slice_get ls n ≡ Some l) seen_is (item_at seen n l lt at))

pub past_end : (lines seen : List FactLine) (n : ℕ) → seen ≡ lines → false ≡ ltb n (length seen) → length lines ≤ n
past_end lines seen n seen_is past = subst (λ ls. length ls ≤ n) seen_is (elim (cases_lt n (length seen)) as (λ _. length seen ≤ n) [
  | inl lt ↦ let both : true ≡ false = sym (lt-ltb n (length seen) lt) ∙ sym past in absurd cc
  | inr le ↦ le
])

at_contained : {X : Type 0} (xs : List X) (x : X) → Contains xs x → (n : ℕ) × (n < length xs) × (slice_get xs n ≡ Some x)
at_contained xs x (n, lt, is) = (n, lt, slice_get-get_or xs n x lt ∙ ap Some is)

module _ (judge : Judge) (g : Graph) (t : List Event) where
  -- the line may be added
  pub record IsGrounded (lines : List FactLine) (l : FactLine) : Type 0 where
    pub reason : HasReason g t (facts_of lines) l.reason l.fact
    pub formed : IsFormed judge l

  -- one line more
  hold_push : (lines : List FactLine) (l : FactLine) → AllHold g t lines → HasReason g t (facts_of lines) l.reason l.fact → AllHold g t (lines ++ l ∷ [])
  hold_push lines l hold reason n lt line at = elim (below_or n (length lines) (omega (arith, lt, length_push lines l))) as (λ _. HasReason g t (facts_of (take n (lines ++ l ∷ []))) line.reason line.fact) [
    | inl less ↦ subst (λ ls. HasReason g t (facts_of ls) line.reason line.fact) (sym (take-append-le n lines (l ∷ []) (omega (arith, less)))) (hold n less line (sym (slice_get_more lines (l ∷ []) n less) ∙ at))
    | inr same ↦
        let last : slice_get (lines ++ l ∷ []) n ≡ Some l = subst (λ m. slice_get (lines ++ l ∷ []) m ≡ Some l) (sym same) (at_seam lines l []) in
        let equal : l ≡ line = let both : Some l ≡ Some line = sym last ∙ at in cc in
        subst (λ (k : FactLine). HasReason g t (facts_of (take n (lines ++ l ∷ []))) k.reason k.fact) equal
        (subst (λ ls. HasReason g t (facts_of ls) l.reason l.fact) (sym (take_at lines (l ∷ []) n (sym same))) reason)
  ]

  shown_push : (lines : List FactLine) (l : FactLine) → AreShown judge g t lines → IsGrounded lines l → (HasFact lines l.fact → ⊥) → AreShown judge g t (lines ++ l ∷ [])
  shown_push lines l shown grounded unknown = record {
    once = subst (λ ks. AllPairs (λ (x : Fact) y. x ≢ y) ks) (sym (facts_push lines l)) (all_pairs_push (λ x y. x ≢ y) (facts_of lines) l.fact shown.once (λ k d lt same. unknown (k, lt, get_or_default (facts_of lines) k l.fact d lt ∙ same)));
    hold = hold_push lines l shown.hold grounded.reason;
    formed = All-push (IsFormed judge) lines l shown.formed grounded.formed;
  }

  -- a line may be added after others
  later : {lines done mid : List FactLine} {l : FactLine} → Added lines done mid → IsGrounded lines l → IsGrounded mid l
  later {lines} {done} {mid} {l} before grounded = let (rest, is) = grown before in record {
    reason = subst (λ ls. HasReason g t (facts_of ls) l.reason l.fact) (sym is) (subst (λ ks. HasReason g t ks l.reason l.fact) (sym (facts_append lines rest)) (reason_more g t (facts_of lines) (facts_of rest) l.reason l.fact grounded.reason));
    formed = grounded.formed;
  }

  -- more lines
  added_shown : {lines done new : List FactLine} → Added lines done new → AreShown judge g t lines → ((l : FactLine) → Contains done l → IsGrounded lines l) → AreShown judge g t new
  added_shown none shown grounded = shown
  added_shown {lines} (more {done = done} {mid = mid} {new = new} l before adds) shown grounded =
      let so_far = added_shown before shown (λ k has. grounded k (Contains-append_left done (l ∷ []) k has)) in
      elim adds as (λ _. AreShown judge g t new) [
        | inl (known, same) ↦ subst (AreShown judge g t) (sym same) so_far
        | inr (unknown, is) ↦ subst (AreShown judge g t) (sym is) (shown_push mid l so_far (later before (grounded l (Contains-push done l))) unknown)
      ]

  -- What is found from the fact at the place c.
  module _ (c : ℕ) (lines : List FactLine) (notes : Notes) (x : Fact) (ahead : IsAhead judge g t c lines notes) (at : slice_get (facts_of lines) c ≡ Some x) where
    named_at : (p : ℕ) (y : Fact) → slice_get (facts_of lines) p ≡ Some y → IsNamed (facts_of lines) (p + 1) y
    named_at p y there = let same : p ≡ p + 1 - 1 = omega arith in (omega arith, subst (λ n. slice_get (facts_of lines) n ≡ Some y) same there)

    model_at : (p : ℕ) (y : Fact) → slice_get (facts_of lines) p ≡ Some y → IsOfModel judge y
    model_at p y there =
        let found = line_at lines p y there in
        let formed : IsFormed judge found.line = subst (IsFormed judge) (get_or_from_slice_get lines p found.line found.line found.at) (ahead.shown.formed p found.line (slice_get_within lines p found.line found.at)) in
        subst (IsOfModel judge) found.fact formed.model

    model_named : (n : ℕ) (y : Fact) → IsNamed (facts_of lines) n y → IsOfModel judge y
    model_named n y named = model_at (n - 1) y named.1

    found_grounded : (l : FactLine) → IsFound g t lines notes x (c + 1) l → IsGrounded lines l
    found_grounded l (inl (gives, within)) =
        let (model, goes) = given_formed g t judge (facts_of lines) (c + 1) x (named_at c x at) (model_at c x at) l.reason l.fact gives in
        record { reason = given_reason g t judge (facts_of lines) (c + 1) x (named_at c x at) (model_at c x at) l.reason l.fact gives; formed = record { model = model; reason = goes } }
    found_grounded l (inr (key, keyed, (n, note, (z, named, inl (is, reason))))) =
        let (model, goes) = return_formed g t judge x z l.fact (c + 1) n is (model_at c x at) in
        record {
          reason = subst (λ r. HasReason g t (facts_of lines) r l.fact) (sym reason) (along_reason g t (facts_of lines) (c + 1) n x z l.fact (named_at c x at) named is);
          formed = record { model = model; reason = subst (GoesWith l.fact) (sym reason) goes };
        }
    found_grounded l (inr (key, keyed, (n, note, (z, named, inr (is, reason))))) =
        let (model, goes) = return_formed g t judge z x l.fact n (c + 1) is (model_named n z named) in
        record {
          reason = subst (λ r. HasReason g t (facts_of lines) r l.fact) (sym reason) (along_reason g t (facts_of lines) n (c + 1) z x l.fact named (named_at c x at) is);
          formed = record { model = model; reason = subst (GoesWith l.fact) (sym reason) goes };
        }

    -- a return from the fact along a link that is noted
    found_return : (q : ℕ) (x z y : Fact) → slice_get (facts_of lines) q ≡ Some z → ((key : Key) → HasKey g z key → HasNote notes key (q + 1)) → IsReturnedAlong g x z y
        → IsPaired g lines notes x (c + 1) (line_of y (Return (c + 1) (q + 1)))
    found_return q (At k i f u) (Link i' f' j h s) (At k' j' h' v) there noted (p, outer, same, also, too, exit, back) =
        (Exits i f, (exit, refl), (q + 1, noted (Links i f) (λ n. Links (sym outer n) (sym same n)), (Link i' f' j h s, named_at q (Link i' f' j h s) there, inl ((p, outer, same, also, too, exit, back), refl))))
    found_return q x z y there noted is = absurd is

    -- a return along the link from a fact that is noted
    found_return_along : (q : ℕ) (x z y : Fact) → slice_get (facts_of lines) q ≡ Some x → ((key : Key) → HasKey g x key → HasNote notes key (q + 1)) → IsReturnedAlong g x z y
        → IsPaired g lines notes z (c + 1) (line_of y (Return (q + 1) (c + 1)))
    found_return_along q (At k i f u) (Link i' f' j h s) (At k' j' h' v) there noted (p, outer, same, also, too, exit, back) =
        (Links i' f', refl, (q + 1, noted (Exits i' f') (exit, (λ n. Exits (outer n) (same n))), (At k i f u, named_at q (At k i f u) there, inr ((p, outer, same, also, too, exit, back), refl))))
    found_return_along q x z y there noted is = absurd is

    -- no fact returns along itself
    not_itself : (x y : Fact) → IsReturnedAlong g x x y → ⊥
    not_itself (Callgraph k v) y is = is
    not_itself (At k i f v) y is = is
    not_itself (Link i f j h s) y is = is

    -- What is placed at its turn.
    module _ (few : length lines ≤ most) (lines' : List FactLine) (notes' : Notes) (turn : HasTurn g t x (c + 1) lines notes lines' notes') where
      grounded_each : (l : FactLine) → Contains turn.found l → IsGrounded lines l
      grounded_each l has = found_grounded l ((turn.are l).0 has)

      known_found : (l : FactLine) → IsFound g t lines notes x (c + 1) l → HasFact lines' l.fact
      known_found l found = added_known l turn.added ((turn.are l).1 found)

      known_still : (y : Fact) → HasFact lines y → HasFact lines' y
      known_still y has = stays_known y turn.added has

      rest : (r : List FactLine) × (lines' ≡ lines ++ r)
      rest = grown turn.added

      short : c < length (facts_of lines)
      short = slice_get_within (facts_of lines) c x at

      at_old : (p : ℕ) (y : Fact) → p < c + 1 → slice_get (facts_of lines') p ≡ Some y → slice_get (facts_of lines) p ≡ Some y
      at_old p y lt there =
          let is : facts_of lines' ≡ facts_of lines ++ facts_of rest.0 = ap facts_of rest.1 ∙ facts_append lines rest.0 in
          let less : p < length (facts_of lines) = omega (arith, lt, short) in
          sym (slice_get_more (facts_of lines) (facts_of rest.0) p less) ∙ ap (λ ks. slice_get ks p) (sym is) ∙ there

      at_here : (p : ℕ) (y : Fact) → p ≡ c → slice_get (facts_of lines) p ≡ Some y → x ≡ y
      at_here p y same there = let both : Some x ≡ Some y = sym at ∙ subst (λ n. slice_get (facts_of lines) n ≡ Some y) same there in cc

      follows_here : (y : Fact) → FollowsFrom g t x y → HasFact lines' y
      follows_here y is =
          let deep = deep_at g t lines ahead.shown.hold c x at in
          let within = within_from (2 ^ 32 - 1) y (omega (arith, deep, from_deep g t x y is, short, length-map lines (λ (l : FactLine). l.fact), few)) in
          let (l, gives, same) = gives_each g t (2 ^ 32 - 1) (c + 1) x y is within in
          subst (HasFact lines') same (known_found l (inl gives))

      one_here : (p : ℕ) (w y : Fact) → p < c + 1 → slice_get (facts_of lines') p ≡ Some w → FollowsFrom g t w y → HasFact lines' y
      one_here p w y lt there is =
          let old = at_old p w lt there in
          elim (below_or p c lt) as (λ _. HasFact lines' y) [
            | inl less ↦ known_still y (ahead.one p w y less old is)
            | inr same ↦ follows_here y (subst (λ z. FollowsFrom g t z y) (sym (at_here p w same old)) is)
          ]

      both_here : (p q : ℕ) (w z y : Fact) → p < c + 1 → q < c + 1 → slice_get (facts_of lines') p ≡ Some w → slice_get (facts_of lines') q ≡ Some z → IsReturnedAlong g w z y → HasFact lines' y
      both_here p q w z y lt lt' there link is = both_by (below_or p c lt) (below_or q c lt')
        where
          old : slice_get (facts_of lines) p ≡ Some w
          old = at_old p w lt there

          old_link : slice_get (facts_of lines) q ≡ Some z
          old_link = at_old q z lt' link

          both_by : (p < c) ⊎ (p ≡ c) → (q < c) ⊎ (q ≡ c) → HasFact lines' y
          both_by (inl less) (inl also) = known_still y (ahead.both p q w z y less also old old_link is)
          both_by (inr same) (inl also) =
              let here : IsReturnedAlong g x z y = subst (λ u. IsReturnedAlong g u z y) (sym (at_here p w same old)) is in
              known_found (line_of y (Return (c + 1) (q + 1))) (inr (found_return q x z y old_link (λ key keyed. ahead.noted q z key also old_link keyed) here))
          both_by (inl less) (inr also) =
              let here : IsReturnedAlong g w x y = subst (λ u. IsReturnedAlong g w u y) (sym (at_here q z also old_link)) is in
              known_found (line_of y (Return (p + 1) (c + 1))) (inr (found_return_along p w x y old (λ key keyed. ahead.noted p w key less old keyed) here))
          both_by (inr same) (inr also) =
              let here : IsReturnedAlong g x x y = subst (λ u. IsReturnedAlong g x u y) (sym (at_here q z also old_link)) (subst (λ u. IsReturnedAlong g u z y) (sym (at_here p w same old)) is) in
              absurd (not_itself x y here)

      noted_here : (p : ℕ) (w : Fact) (key : Key) → p < c + 1 → slice_get (facts_of lines') p ≡ Some w → HasKey g w key → HasNote notes' key (p + 1)
      noted_here p w key lt there keyed =
          let old = at_old p w lt there in
          elim (below_or p c lt) as (λ _. HasNote notes' key (p + 1)) [
            | inl less ↦ (turn.noted key (p + 1)).1 (inl (ahead.noted p w key less old keyed))
            | inr same ↦ (turn.noted key (p + 1)).1 (inr (subst (λ z. HasKey g z key) (sym (at_here p w same old)) keyed, ap (λ n. n + 1) same))
          ]

      -- the next one
      pub ahead_more : IsAhead judge g t (c + 1) lines' notes'
      ahead_more = record {
        shown = added_shown turn.added ahead.shown grounded_each;
        begun = λ y model is. known_still y (ahead.begun y model is);
        one = one_here;
        both = both_here;
        noted = noted_here;
        some = omega (arith, ahead.some, ap length rest.1, length-append lines rest.0);
      }

    -- where not all of it can be added
    pub too_many : IsTurnedAway g t x (c + 1) lines notes → HasTooMany judge g t
    too_many away =
        let full = away.overfull in
        let grounded : (l : FactLine) → Contains away.found l → IsGrounded lines l = λ l has. found_grounded l ((away.are l).0 has) in
        let shown = added_shown full.added ahead.shown (λ l has. grounded l (full.some l has)) in
        let whole = shown_push full.mid full.last shown (later full.added (grounded full.last full.one)) full.unknown in
        record {
          known = facts_of (full.mid ++ full.last ∷ []);
          many = omega (arith, full.full, length-map (full.mid ++ full.last ∷ []) (λ (l : FactLine). l.fact), length_push full.mid full.last);
          once = whole.once;
          follow = lines_follow judge g t (full.mid ++ full.last ∷ []) whole.formed whole.hold;
        }

  -- why a fact had no turn
  pub turned_away : (c : ℕ) (lines : List FactLine) (notes : Notes) (x : Fact) (error : CertifyError) → IsAhead judge g t c lines notes → slice_get (facts_of lines) c ≡ Some x → CannotTurn g t x (c + 1) lines notes error → IsCertifyRefusal judge g t error
  turned_away c lines notes x OutOfMemory ahead at why = tt
  turned_away c lines notes x TooLarge ahead at why = too_many c lines notes x ahead at why

  -- the end
  pub all_closed : (c : ℕ) (lines : List FactLine) (notes : Notes) → IsAhead judge g t c lines notes → length lines ≤ c → AreClosed judge g t lines
  all_closed c lines notes ahead over = record {
    shown = ahead.shown;
    begun = ahead.begun;
    one = λ x y has is. let (n, lt, at) = at_contained (facts_of lines) x has in ahead.one n x y (omega (arith, lt, over, length-map lines (λ (l : FactLine). l.fact))) at is;
    both = λ x z y has link is.
        let (n, lt, at) = at_contained (facts_of lines) x has in
        let (m, less, there) = at_contained (facts_of lines) z link in
        ahead.both n m x z y (omega (arith, lt, over, length-map lines (λ (l : FactLine). l.fact))) (omega (arith, less, over, length-map lines (λ (l : FactLine). l.fact))) at there is;
    some = ahead.some;
  }

  -- the beginning
  start_goes : (y : Fact) → IsStart g y → GoesWith y Start
  start_goes (Callgraph k v) is = λ b. b
  start_goes (At k i f v) is = λ b. b
  start_goes (Link i f j h s) is = absurd is

  pub ahead_none : (lines : List FactLine) (notes : Notes) → IsBegun judge g lines → IsAhead judge g t 0 lines notes
  ahead_none lines notes begun =
      let l = begun.line in
      let grounded : IsGrounded [] l = record {
        reason = subst (λ r. HasReason g t [] r l.fact) (sym begun.reason) begun.start;
        formed = record { model = begun.model; reason = subst (GoesWith l.fact) (sym begun.reason) (start_goes l.fact begun.start) };
      } in
      let nothing : AreShown judge g t [] = record { once = λ i j d lt within. absurd (omega (arith, within)); hold = λ n lt. absurd (omega (arith, lt)); formed = λ k d lt. absurd (omega (arith, lt)) } in
      subst (λ ls. IsAhead judge g t 0 ls notes) (sym begun.is) (record {
        shown = shown_push [] l nothing grounded (λ has. omega (arith, has.1));
        begun = λ y model is. (0, omega arith, begun.only y model is);
        one = λ p x y lt at is. absurd (omega (arith, lt));
        both = λ p q x z y lt less at there is. absurd (omega (arith, lt));
        noted = λ p x key lt at keyed. absurd (omega (arith, lt));
        some = omega arith;
      })
