-- A function that comes to no system call shows nothing: its shape has no call, and only the empty word.
use Rattle.std.proofs.Common.{◌≡◌, ℕ, suc, ◌+◌, ◌-◌, ◌<◌, ◌≤◌, Bool, true, false, ◌||◌, nat_lt, List, [], ◌∷◌, Some, slice_get, refl, ap, sym, ◌∙◌, arith}
use Rattle.std.proofs.lemmas.Bool.{false≢true}
use Rattle.std.proofs.lemmas.Option.{slice_get_within}
use Rattle.dm_base.specs.declared.event.Event.{Event}
use Rattle.c_tree.specs.Tree.{Function, Program}
use Rattle.c_tree.specs.Functions.{defined}
use Rattle.c_meaning.specs.Shape.{Shape, Sys, Exit, Call, Seq, Alt, Loop, Do, Cases, Parts, End, Part, Shapes, Leave}
use Rattle.c_meaning.specs.Words.{Marks, Whole, Rounds, Again, Falls, Picks, Front, FrontFalls, FrontPicks}
use Rattle.c_meaning.specs.Words as F
use Rattle.c_meaning.specs.Mentions.{all_mentions, Callee, Direct, Through, Mention, Calls, mentions_of_function}
use Rattle.c_meaning.specs.CallGraph.{is_in, has_one, functions_of, enters, said_by, one_round, reaching, reaches}
use Rattle.c_meaning.specs.ShapeOf.{shape_of_function}
use Rattle.c_meaning.proofs.Members.{or_left, or_right, and_right}
use Rattle.c_meaning.proofs.Rounds.{enough}
use Rattle.c_meaning.proofs.Lists.{not_below, below, in_filter, in_range, is_in_of, one, counted, counted_append, none_counted}
use Rattle.c_meaning.proofs.ShapesOfTrees.{Spreads, Stands, tree_has}

-- nothing is called
abbrev mutual
  pub IsSilent : Shape → Type 0
  IsSilent (Sys x q) = ⊥
  IsSilent (Exit q) = ⊥
  IsSilent (Call s) = ⊥
  IsSilent (Seq S ps) = IsSilent S × AreSilent ps
  IsSilent (Alt S T) = IsSilent S × IsSilent T
  IsSilent (Loop C B P) = IsSilent C × IsSilent B × IsSilent P
  IsSilent (Do B C) = IsSilent B × IsSilent C
  IsSilent (Cases ps d) = AreSilent ps
  IsSilent a = Unit {0}

  pub AreSilent : Parts → Type 0
  AreSilent End = Unit {0}
  AreSilent (Part S ps) = IsSilent S × AreSilent ps

module _ (env : Shapes) (m : Marks) where
  mutual
    pub whole_quiet : {S : Shape} {x : Leave} {t u : List Event} → Whole env m S x t u → IsSilent S → t ≡ u
    whole_quiet (F.sys h) s = absurd s
    whole_quiet (F.call k a h d b) s = absurd s
    whole_quiet (F.left h) s = whole_quiet h s.0
    whole_quiet (F.right h) s = whole_quiet h s.1
    whole_quiet (F.loop_end r h) s = rounds_quiet r s.0 s.1 s.2 ∙ whole_quiet h s.0
    whole_quiet (F.loop_break r h k) s = rounds_quiet r s.0 s.1 s.2 ∙ (whole_quiet h s.0 ∙ whole_quiet k s.1)
    whole_quiet (F.loop_return r h k) s = rounds_quiet r s.0 s.1 s.2 ∙ (whole_quiet h s.0 ∙ whole_quiet k s.1)
    whole_quiet (F.do_end r n h k) s = again_quiet r s.0 s.1 ∙ (whole_quiet h s.0 ∙ whole_quiet k s.1)
    whole_quiet (F.do_break r h) s = again_quiet r s.0 s.1 ∙ whole_quiet h s.0
    whole_quiet (F.do_return r h) s = again_quiet r s.0 s.1 ∙ whole_quiet h s.0
    whole_quiet (F.in_order h) s = falls_quiet h s
    whole_quiet (F.cases_end h) s = picks_quiet h s
    whole_quiet (F.cases_break h) s = picks_quiet h s
    whole_quiet (F.cases_continue h) s = picks_quiet h s
    whole_quiet (F.cases_return h) s = picks_quiet h s
    whole_quiet a s = refl

    rounds_quiet : {C B P : Shape} {t u : List Event} → Rounds env m C B P t u → IsSilent C → IsSilent B → IsSilent P → t ≡ u
    rounds_quiet F.none c b p = refl
    rounds_quiet (F.round r h n k l) c b p = rounds_quiet r c b p ∙ (whole_quiet h c ∙ (whole_quiet k b ∙ whole_quiet l p))

    again_quiet : {B C : Shape} {t u : List Event} → Again env m B C t u → IsSilent B → IsSilent C → t ≡ u
    again_quiet F.first b c = refl
    again_quiet (F.again r n h k) b c = again_quiet r b c ∙ (whole_quiet h b ∙ whole_quiet k c)

    falls_quiet : {ps : Parts} {x : Leave} {t u : List Event} → Falls env m ps x t u → AreSilent ps → t ≡ u
    falls_quiet F.ended s = refl
    falls_quiet (F.falls_on h r) s = whole_quiet h s.0 ∙ falls_quiet r s.1
    falls_quiet (F.falls_away a h) s = whole_quiet h s.0

    picks_quiet : {ps : Parts} {x : Leave} {t u : List Event} → Picks env m ps x t u → AreSilent ps → t ≡ u
    picks_quiet (F.this h) s = falls_quiet h s
    picks_quiet (F.later h) s = picks_quiet h s.1

  mutual
    pub front_quiet : {S : Shape} {t u : List Event} → Front env m S t u → IsSilent S → t ≡ u
    front_quiet F.nothing s = refl
    front_quiet (F.all h) s = whole_quiet h s
    front_quiet (F.in_left h) s = front_quiet h s.0
    front_quiet (F.in_right h) s = front_quiet h s.1
    front_quiet (F.in_test r h) s = rounds_quiet r s.0 s.1 s.2 ∙ front_quiet h s.0
    front_quiet (F.in_body r h k) s = rounds_quiet r s.0 s.1 s.2 ∙ (whole_quiet h s.0 ∙ front_quiet k s.1)
    front_quiet (F.in_step r h n k l) s = rounds_quiet r s.0 s.1 s.2 ∙ (whole_quiet h s.0 ∙ (whole_quiet k s.1 ∙ front_quiet l s.2))
    front_quiet (F.in_do r h) s = again_quiet r s.0 s.1 ∙ front_quiet h s.0
    front_quiet (F.in_until r n h k) s = again_quiet r s.0 s.1 ∙ (whole_quiet h s.0 ∙ front_quiet k s.1)
    front_quiet (F.in_seq h) s = front_falls_quiet h s
    front_quiet (F.in_cases h) s = front_picks_quiet h s
    front_quiet a s = absurd s

    front_falls_quiet : {ps : Parts} {t u : List Event} → FrontFalls env m ps t u → AreSilent ps → t ≡ u
    front_falls_quiet (F.in_part h) s = front_quiet h s.0
    front_falls_quiet (F.in_next h r) s = whole_quiet h s.0 ∙ front_falls_quiet r s.1

    front_picks_quiet : {ps : Parts} {t u : List Event} → FrontPicks env m ps t u → AreSilent ps → t ≡ u
    front_picks_quiet (F.from_this h) s = front_falls_quiet h s
    front_picks_quiet (F.from_later h) s = front_picks_quiet h s.1

-- that nothing is called where a number is 0
abbrev Hushes : Shape → ℕ → Type 0
Hushes S n = n ≡ 0 → IsSilent S

abbrev HushAll : Parts → ℕ → Type 0
HushAll End n = Unit {0}
HushAll (Part S ps) n = (m : ℕ) × (k : ℕ) × (m + k ≤ n) × Hushes S m × HushAll ps k

all_silent : (ps : Parts) (n : ℕ) → HushAll ps n → n ≡ 0 → AreSilent ps
all_silent End n h e = tt
all_silent (Part S ps) n h e = (h.3 (omega (arith, h.2, e)), all_silent ps h.1 h.4 (omega (arith, h.2, e)))

all_more : (ps : Parts) (m n : ℕ) → HushAll ps m → m ≤ n → HushAll ps n
all_more End m n h le = tt
all_more (Part S ps) m n h le = (h.0, h.1, omega (arith, h.2, le), h.3, h.4)

silence_spreads : Spreads Hushes HushAll
silence_spreads = record {
  skip = λ n e. tt;
  none = λ n. tt;
  some = λ S ps m n h k. (m, n, omega arith, h, k);
  split = λ S ps n h. h;
  row = λ S ps n h e. all_silent (Part S ps) n h e;
  either = λ S T m n h k e. (h (omega (arith, e)), k (omega (arith, e)));
  more = λ S m n h le e. h (omega (arith, le, e));
  parts_more = all_more;
}

silence_stands : Stands Hushes HushAll
silence_stands = record {
  loop = λ C B T l m n h i k e. (h (omega (arith, e)), i (omega (arith, e)), k (omega (arith, e)));
  until = λ B C m n h k e. (h (omega (arith, e)), k (omega (arith, e)));
  cases = λ ps d n h e. all_silent ps n h e;
  breaks = λ n e. tt;
  continues = λ n e. tt;
  returns = λ n e. tt;
}

module _ (p : Program) where
  -- whether a call may come to a system call
  abbrev comes : Mention → Bool
  comes x = enters p (reaching p (defined p)) x

  is_counted : (s : ℕ) (callee : Callee) → comes (Calls s callee) ≡ true → counted comes (Calls s callee ∷ []) ≡ 0 → ⊥
  is_counted s callee h e = let k : one (comes (Calls s callee)) ≡ 1 = ap one h in omega (arith, k, e)

  -- a system call comes to itself
  pub system_reaches : (f : ℕ) → defined p ≤ f → f - defined p < 24 → reaches p f ≡ true
  system_reaches f le lt =
      enough p 0 f (is_in_of f (reaching p 0) (in_range (defined p) 24 f le (omega (arith, le, lt))))

  -- what a function calls comes to no system call, where the function does not
  none_entered : (f : ℕ) (g : Function) → slice_get p.functions f ≡ Some g → reaches p f ≡ false → (b : Bool) → has_one comes (said_by (slice_get p.functions f)) ≡ b → b ≡ false
  none_entered f g is never false e = refl
  none_entered f g is never true e =
      let R = reaching p (defined p) in
      let lt = slice_get_within p.functions f g is in
      absurd (false≢true (sym never ∙ enough p (suc (defined p)) f (is_in_of f (one_round p R) (in_filter (λ f. is_in f R || has_one (enters p R) (said_by (slice_get p.functions f))) (functions_of p) f (in_range 0 (defined p + 24) f (omega arith) (omega arith)) (or_right (is_in f R) _ e)))))

  pub silent_body : (f : ℕ) (g : Function) → slice_get p.functions f ≡ Some g → reaches p f ≡ false → IsSilent (shape_of_function p g)
  silent_body f g is never =
      tree_has Hushes HushAll silence_spreads all_mentions (counted comes) (counted_append comes) p
      (λ s f h e. is_counted s (Direct f) (or_left (reaches p f) false (and_right (nat_lt f (defined p)) (reaches p f) h)) e)
      (λ s t h e. is_counted s (Through t) h e)
      (λ s f es h k e. absurd (is_counted s (Direct f) (or_left (reaches p f) false (system_reaches f (not_below f (defined p) h) (below (f - defined p) 24 k))) e))
      silence_stands g.body (none_counted comes (mentions_of_function g) (ap (λ o. has_one comes (said_by o)) (sym is) ∙ none_entered f g is never (has_one comes (said_by (slice_get p.functions f))) refl))
