-- How many events facts are about.
use Rattle.std.proofs.Common.{◌≡◌, ℕ, zero, suc, ◌+◌, ◌-◌, ◌<◌, ◌≤◌, List, length, take, Some, slice_get, refl, sym, subst, arith}
use Rattle.std.proofs.lemmas.Option.{slice_get_within}
use Rattle.dm_base.specs.declared.event.Event.{Event}
use Rattle.flow_model.specs.Graph.{Graph}
use Rattle.certify_facts.specs.declared.fact.Fact.{Fact}
use Rattle.certify_facts.specs.declared.fact.Fact.TheVariants.{Callgraph, At, Link}
use Rattle.certify_facts.specs.declared.fact.FactLine.{FactLine}
use Rattle.certify_facts.specs.declared.fact.Judge.{Judge}
use Rattle.certify_facts.specs.declared.fact.Reason.{Reason}
use Rattle.certify_facts.specs.declared.fact.Reason.TheVariants as reasons
use Rattle.certify_facts.specs.Confirms.{AllHold, IsAfter, IsWithin, facts_of}
use Rattle.certify_facts.specs.Reasons.{Follows, FollowsFrom, HasReason, IsEntered, IsLinked, IsNamed, IsRead, IsReturned, IsReturnedAlong, IsSilent, IsStart}
use Rattle.certify_facts.specs.Reasons.Follows.{begins, one, both}
use Rattle.certify_facts.specs.Reasons.FollowsFrom.{silent, entered, returned, read, linked}
use Rattle.certify_facts.proofs.Lines.{line_at}
use Rattle.certify_facts.proofs.Places.{in_whole}
use Rattle.certify_making.specs.Ahead.{events_of}
use Rattle.certify_making.proofs.GroundLemmas.{IsPlace, silent_like, entered_like, returned_like, read_like, along_like}

pub within_from : (m : ℕ) (y : Fact) → events_of y ≤ m → IsWithin m y
within_from m (Callgraph k v) le = le
within_from m (At k i f v) le = le
within_from m (Link i f j h s) le = le

pub after_is : (m : ℕ) (y : Fact) → IsAfter m y → events_of y ≡ m
after_is m (Callgraph k v) is = is
after_is m (At k i f v) is = is
after_is m (Link i f j h s) is = absurd is

module _ (g : Graph) where
  start_events : (y : Fact) → IsStart g y → events_of y ≡ 0
  start_events (Callgraph k v) is = is.0
  start_events (At k i f v) is = is.0
  start_events (Link i f j h s) is = absurd is

  silent_events : (x y : Fact) → IsSilent g x y → events_of y ≡ events_of x
  silent_events (Callgraph k u) (Callgraph k' v) is = is.0
  silent_events (At k i f u) (At k' i' f' v) is = is.0
  silent_events x y is = absurd is

  entered_events : (s : ℕ) (x y : Fact) → IsEntered g s x y → events_of y ≡ events_of x
  entered_events s (Callgraph k u) (Callgraph k' v) is = is.0
  entered_events s (At k i f u) (At k' i' f' v) is = is.0
  entered_events s x y is = absurd is

  returned_events : (s : ℕ) (x y : Fact) → IsReturned g s x y → events_of y ≡ events_of x
  returned_events s (Callgraph k u) (Callgraph k' v) is = is.0
  returned_events s x y is = absurd is

  linked_events : (x y : Fact) → IsLinked g x y → events_of y ≡ events_of x
  linked_events (At k i f u) (Link i' f' j h s) is = is.0
  linked_events x y is = absurd is

  along_events : (x z y : Fact) → IsReturnedAlong g x z y → events_of y ≡ events_of x
  along_events (At k i f u) (Link i' f' j h s) (At k' j' h' v) is = is.0
  along_events x z y is = absurd is

  module _ (t : List Event) where
    pub read_events : (x y : Fact) → IsRead g t x y → (events_of y ≡ events_of x + 1) × (events_of x < length t)
    read_events (Callgraph k u) (Callgraph k' v) (next, (e, at, leads)) = (next, slice_get_within t k e at)
    read_events (At k i f u) (At k' i' f' v) (next, same, also, (e, at, leads)) = (next, slice_get_within t k e at)
    read_events x y is = absurd is

    -- one event more at most
    pub from_deep : (x y : Fact) → FollowsFrom g t x y → events_of y ≤ events_of x + 1
    from_deep x y (silent is) = omega (arith, silent_events x y is)
    from_deep x y (entered s is) = omega (arith, entered_events s x y is)
    from_deep x y (returned s is) = omega (arith, returned_events s x y is)
    from_deep x y (read is) = omega (arith, (read_events x y is).0)
    from_deep x y (linked is) = omega (arith, linked_events x y is)

    -- no more than the trace has
    from_trace : (x y : Fact) → FollowsFrom g t x y → events_of x ≤ length t → events_of y ≤ length t
    from_trace x y (silent is) le = omega (arith, silent_events x y is, le)
    from_trace x y (entered s is) le = omega (arith, entered_events s x y is, le)
    from_trace x y (returned s is) le = omega (arith, returned_events s x y is, le)
    from_trace x y (read is) le = let (next, lt) = read_events x y is in omega (arith, next, lt)
    from_trace x y (linked is) le = omega (arith, linked_events x y is, le)

    pub follows_trace : {judge : Judge} {y : Fact} → Follows judge g t y → events_of y ≤ length t
    follows_trace (begins {y = y} model is) = omega (arith, start_events y is)
    follows_trace (one {x = x} {y = y} follows is) = from_trace x y is (follows_trace follows)
    follows_trace (both {x = x} {z = z} {y = y} follows more is) = let le = follows_trace follows in omega (arith, along_events x z y is, le)

    -- where an activation was called, it was at a place after as many events
    abbrev pub HasPlace : Judge → ℕ → Type 0
    HasPlace judge n = (x : Fact) × Follows judge g t x × IsAfter n x

    linked_place : {judge : Judge} (x y : Fact) → Follows judge g t x → IsLinked g x y → HasPlace judge (events_of y)
    linked_place (At k i f u) (Link i' f' j h s) follows is = (At k i f u, follows, sym is.0)
    linked_place x y follows is = absurd is

    held_place : {judge : Judge} (y : Fact) → IsPlace y → Follows judge g t y → HasPlace judge (events_of y)
    held_place (Callgraph k v) place follows = (Callgraph k v, follows, refl)
    held_place (At k i f v) place follows = (At k i f v, follows, refl)
    held_place (Link i f j h s) place follows = absurd place

    start_place : (y : Fact) → IsStart g y → IsPlace y
    start_place (Callgraph k v) is = tt
    start_place (At k i f v) is = tt
    start_place (Link i f j h s) is = absurd is

    pub place_of : {judge : Judge} {y : Fact} → Follows judge g t y → HasPlace judge (events_of y)
    place_of (begins {y = y} model is) = held_place y (start_place y is) (begins model is)
    place_of (one {x = x} {y = y} follows (silent is)) = held_place y (silent_like g x y is).1 (one follows (silent is))
    place_of (one {x = x} {y = y} follows (entered s is)) = held_place y (entered_like g s x y is).1 (one follows (entered s is))
    place_of (one {x = x} {y = y} follows (returned s is)) = held_place y (returned_like g s x y is).1 (one follows (returned s is))
    place_of (one {x = x} {y = y} follows (read is)) = held_place y (read_like g t x y is).1 (one follows (read is))
    place_of (one {x = x} {y = y} follows (linked is)) = linked_place x y follows is
    place_of (both {x = x} {z = z} {y = y} follows more is) = held_place y (along_like g x z y is).2 (both follows more is)

    -- the reason names facts before, so there are no more events than facts before
    module _ (earlier : List Fact) (n : ℕ) (before : (r : ℕ) (x : Fact) → IsNamed earlier r x → events_of x + 1 ≤ n) where
      reason_deep : (reason : Reason) (y : Fact) → HasReason g t earlier reason y → events_of y ≤ n
      reason_deep reasons.Start y is = omega (arith, start_events y is)
      reason_deep (reasons.Silent r) y (x, named, is) = let le = before r x named in omega (arith, le, silent_events x y is)
      reason_deep (reasons.Enter r s) y (x, named, is) = let le = before r x named in omega (arith, le, entered_events s x y is)
      reason_deep (reasons.Return r l) (Callgraph k v) (x, named, is) = let le = before r x named in omega (arith, le, returned_events l x (Callgraph k v) is)
      reason_deep (reasons.Return r l) (At k i f v) (x, z, named, link, is) = let le = before r x named in omega (arith, le, along_events x z (At k i f v) is)
      reason_deep (reasons.Return r l) (Link i f j h s) is = absurd is
      reason_deep (reasons.Event r) y (x, named, is) = let le = before r x named in omega (arith, le, (read_events x y is).0)
      reason_deep (reasons.Link r) y (x, named, is) = let le = before r x named in omega (arith, le, linked_events x y is)

    -- the fact of a line is about no more events than there are lines before
    module _ (lines : List FactLine) (hold : AllHold g t lines) where
      deep_below : (m n : ℕ) (line : FactLine) → n < m → slice_get lines n ≡ Some line → events_of line.fact ≤ n
      deep_below zero n line lt at = absurd (omega arith)
      deep_below (suc m) n line lt at = reason_deep (facts_of (take n lines)) n (λ r x named.
          let there = line_at (take n lines) (r - 1) x named.1 in
          let (less, whole) = in_whole lines n (r - 1) there.line there.at in
          let le : events_of there.line.fact ≤ r - 1 = deep_below m (r - 1) there.line (omega (arith, less, lt)) whole in
          let some : 1 ≤ r = named.0 in
          subst (λ y. events_of y + 1 ≤ n) there.fact (omega (arith, le, less, some))) line.reason line.fact (hold n (slice_get_within lines n line at) line at)

      pub deep_at : (n : ℕ) (x : Fact) → slice_get (facts_of lines) n ≡ Some x → events_of x ≤ n
      deep_at n x at =
          let there = line_at lines n x at in
          subst (λ y. events_of y ≤ n) there.fact (deep_below (n + 1) n there.line (omega arith) there.at)
