-- What is found from a fact has a reason that holds, and a form that fits the judge.
use Rattle.std.proofs.Common.{◌≡◌, ℕ, ◌-◌, List, [], ◌∷◌, ◌++◌, zero, suc, Some, slice_get, refl, sym, subst}
use Rattle.dm_base.specs.declared.event.Event.{Event}
use Rattle.flow_model.specs.Graph.{Graph}
use Rattle.certify_facts.specs.declared.fact.Fact.{Fact}
use Rattle.certify_facts.specs.declared.fact.Fact.TheVariants.{Callgraph, At, Link}
use Rattle.certify_facts.specs.declared.fact.FactLine.{FactLine}
use Rattle.certify_facts.specs.declared.fact.Judge.{Judge}
use Rattle.certify_facts.specs.declared.fact.Judge.TheVariants as judges
use Rattle.certify_facts.specs.declared.fact.Reason.{Reason}
use Rattle.certify_facts.specs.declared.fact.Reason.TheVariants as reasons
use Rattle.certify_facts.specs.Confirms.{IsWithin}
use Rattle.certify_facts.specs.Form.{IsOfLinks, IsOfModel, GoesWith}
use Rattle.certify_facts.specs.Reasons.{FollowsFrom, HasReason, IsEntered, IsLinked, IsNamed, IsRead, IsReturned, IsReturnedAlong, IsSilent}
use Rattle.certify_facts.specs.Reasons.FollowsFrom.{silent, entered, returned, read, linked}
use Rattle.certify_steps.specs.Stepping.{Gives, GivesBy, line_of}

-- the facts are of one model
abbrev pub IsLike : Fact → Fact → Type 0
IsLike (Callgraph k v) (Callgraph k' v') = Unit {0}
IsLike (Callgraph k v) (At k' i f v') = ⊥
IsLike (Callgraph k v) (Link i f j h s) = ⊥
IsLike (At k i f v) (Callgraph k' v') = ⊥
IsLike (At k i f v) (At k' i' f' v') = Unit {0}
IsLike (At k i f v) (Link i' f' j h s) = Unit {0}
IsLike (Link i f j h s) (Callgraph k v) = ⊥
IsLike (Link i f j h s) (At k i' f' v) = Unit {0}
IsLike (Link i f j h s) (Link i' f' j' h' s') = Unit {0}

abbrev pub IsPlace : Fact → Type 0
IsPlace (Callgraph k v) = Unit {0}
IsPlace (At k i f v) = Unit {0}
IsPlace (Link i f j h s) = ⊥

pub of_model : (judge : Judge) (x y : Fact) → IsLike x y → IsOfModel judge x → IsOfModel judge y
of_model judges.Callgraph (Callgraph k v) (Callgraph k' v') like model = tt
of_model judges.Callgraph (Callgraph k v) (At k' i f v') like model = absurd like
of_model judges.Callgraph (Callgraph k v) (Link i f j h s) like model = absurd like
of_model judges.Callgraph (At k i f v) y like model = absurd model
of_model judges.Callgraph (Link i f j h s) y like model = absurd model
of_model judges.Stack (Callgraph k v) y like model = absurd model
of_model judges.Stack (At k i f v) (Callgraph k' v') like model = absurd like
of_model judges.Stack (At k i f v) (At k' i' f' v') like model = tt
of_model judges.Stack (At k i f v) (Link i' f' j h s) like model = tt
of_model judges.Stack (Link i f j h s) (Callgraph k v) like model = absurd like
of_model judges.Stack (Link i f j h s) (At k i' f' v) like model = tt
of_model judges.Stack (Link i f j h s) (Link i' f' j' h' s') like model = tt

place_goes : (y : Fact) (reason : Reason) → IsPlace y → (IsOfLinks reason → ⊥) → GoesWith y reason
place_goes (Callgraph k v) reason place not = not
place_goes (At k i f v) reason place not = not
place_goes (Link i f j h s) reason place not = absurd place

module _ (g : Graph) where
  pub silent_like : (x y : Fact) → IsSilent g x y → IsLike x y × IsPlace y
  silent_like (Callgraph k u) (Callgraph k' v) is = (tt, tt)
  silent_like (At k i f u) (At k' i' f' v) is = (tt, tt)
  silent_like x y is = absurd is

  pub entered_like : (s : ℕ) (x y : Fact) → IsEntered g s x y → IsLike x y × IsPlace y
  entered_like s (Callgraph k u) (Callgraph k' v) is = (tt, tt)
  entered_like s (At k i f u) (At k' i' f' v) is = (tt, tt)
  entered_like s x y is = absurd is

  pub returned_like : (s : ℕ) (x y : Fact) → IsReturned g s x y → IsLike x y × IsPlace y
  returned_like s (Callgraph k u) (Callgraph k' v) is = (tt, tt)
  returned_like s x y is = absurd is

  linked_like : (x y : Fact) (reason : Reason) → IsOfLinks reason → IsLinked g x y → IsLike x y × GoesWith y reason
  linked_like (At k i f u) (Link i' f' j h s) reason links is = (tt, links)
  linked_like x y reason links is = absurd is

  pub along_like : (x z y : Fact) → IsReturnedAlong g x z y → IsLike x y × IsLike z y × IsPlace y
  along_like (At k i f u) (Link i' f' j h s) (At k' j' h' v) is = (tt, tt, tt)
  along_like x z y is = absurd is

  -- the reason `return R L` of the stack model
  pub along_reason : (t : List Event) (earlier : List Fact) (r n : ℕ) (x z y : Fact) → IsNamed earlier r x → IsNamed earlier n z → IsReturnedAlong g x z y → HasReason g t earlier (reasons.Return r n) y
  along_reason t earlier r n (At k i f u) (Link i' f' j h s) (At k' j' h' v) first second is = (At k i f u, Link i' f' j h s, first, second, is)
  along_reason t earlier r n x z y first second is = absurd is

  returned_reason : (t : List Event) (earlier : List Fact) (r s : ℕ) (x y : Fact) → IsNamed earlier r x → IsReturned g s x y → HasReason g t earlier (reasons.Return r s) y
  returned_reason t earlier r s (Callgraph k u) (Callgraph k' v) named is = (Callgraph k u, named, is)
  returned_reason t earlier r s x y named is = absurd is

  module _ (t : List Event) where
    pub read_like : (x y : Fact) → IsRead g t x y → IsLike x y × IsPlace y
    read_like (Callgraph k u) (Callgraph k' v) is = (tt, tt)
    read_like (At k i f u) (At k' i' f' v) is = (tt, tt)
    read_like x y is = absurd is

    -- what follows from the fact with the number r
    module _ (judge : Judge) (earlier : List Fact) (r : ℕ) (x : Fact) (named : IsNamed earlier r x) (model : IsOfModel judge x) where
      at : (n : ℕ) → n ≡ r → IsNamed earlier n x
      at n is = subst (λ m. IsNamed earlier m x) (sym is) named

      pub given_reason : (reason : Reason) (y : Fact) → GivesBy g t r x reason y → HasReason g t earlier reason y
      given_reason reasons.Start y gives = absurd gives
      given_reason (reasons.Silent n) y (is, step) = (x, at n is, step)
      given_reason (reasons.Enter n s) y (is, step) = (x, at n is, step)
      given_reason (reasons.Return n s) y (is, step) = returned_reason t earlier n s x y (at n is) step
      given_reason (reasons.Event n) y (is, step) = (x, at n is, step)
      given_reason (reasons.Link n) y (is, step) = (x, at n is, step)

      formed_place : (reason : Reason) (y : Fact) → (IsOfLinks reason → ⊥) → IsLike x y × IsPlace y → IsOfModel judge y × GoesWith y reason
      formed_place reason y not like = (of_model judge x y like.0 model, place_goes y reason like.1 not)

      pub given_formed : (reason : Reason) (y : Fact) → GivesBy g t r x reason y → IsOfModel judge y × GoesWith y reason
      given_formed reasons.Start y gives = absurd gives
      given_formed (reasons.Silent n) y (is, step) = formed_place (reasons.Silent n) y (λ b. b) (silent_like x y step)
      given_formed (reasons.Enter n s) y (is, step) = formed_place (reasons.Enter n s) y (λ b. b) (entered_like s x y step)
      given_formed (reasons.Return n s) y (is, step) = formed_place (reasons.Return n s) y (λ b. b) (returned_like s x y step)
      given_formed (reasons.Event n) y (is, step) = formed_place (reasons.Event n) y (λ b. b) (read_like x y step)
      given_formed (reasons.Link n) y (is, step) = let like = linked_like x y (reasons.Link n) tt step in (of_model judge x y like.0 model, like.1)

    -- each fact that follows from the one is given
    pub gives_each : (m r : ℕ) (x y : Fact) → FollowsFrom g t x y → IsWithin m y → (l : FactLine) × Gives g t m r x l × (l.fact ≡ y)
    gives_each m r x y (silent is) within = (line_of y (reasons.Silent r), ((refl, is), within), refl)
    gives_each m r x y (entered s is) within = (line_of y (reasons.Enter r s), ((refl, is), within), refl)
    gives_each m r x y (returned s is) within = (line_of y (reasons.Return r s), ((refl, is), within), refl)
    gives_each m r x y (read is) within = (line_of y (reasons.Event r), ((refl, is), within), refl)
    gives_each m r x y (linked is) within = (line_of y (reasons.Link r), ((refl, is), within), refl)

    -- a return by two facts, of which one is of the judge's model
    pub return_formed : (judge : Judge) (x z y : Fact) (r n : ℕ) → IsReturnedAlong g x z y → IsOfModel judge x → IsOfModel judge y × GoesWith y (reasons.Return r n)
    return_formed judge x z y r n is model = let like = along_like x z y is in (of_model judge x y like.0 model, place_goes y (reasons.Return r n) like.2 (λ b. b))

    -- a reason holds where more facts are known
    named_more : (earlier others : List Fact) (r : ℕ) (x : Fact) → IsNamed earlier r x → IsNamed (earlier ++ others) r x
    named_more earlier others r x (some, at) = (some, gets earlier (r - 1) at)
      where
        gets : (xs : List Fact) (n : ℕ) → slice_get xs n ≡ Some x → slice_get (xs ++ others) n ≡ Some x
        gets [] n at = absurd cc
        gets (y ∷ xs) zero at = at
        gets (y ∷ xs) (suc n) at = gets xs n at

    pub reason_more : (earlier others : List Fact) (reason : Reason) (y : Fact) → HasReason g t earlier reason y → HasReason g t (earlier ++ others) reason y
    reason_more earlier others reasons.Start y is = is
    reason_more earlier others (reasons.Silent r) y (x, named, is) = (x, named_more earlier others r x named, is)
    reason_more earlier others (reasons.Enter r s) y (x, named, is) = (x, named_more earlier others r x named, is)
    reason_more earlier others (reasons.Return r l) (Callgraph k v) (x, named, is) = (x, named_more earlier others r x named, is)
    reason_more earlier others (reasons.Return r l) (At k i f v) (x, z, named, link, is) = (x, z, named_more earlier others r x named, named_more earlier others l z link, is)
    reason_more earlier others (reasons.Return r l) (Link i f j h s) is = absurd is
    reason_more earlier others (reasons.Event r) y (x, named, is) = (x, named_more earlier others r x named, is)
    reason_more earlier others (reasons.Link r) y (x, named, is) = (x, named_more earlier others r x named, is)
