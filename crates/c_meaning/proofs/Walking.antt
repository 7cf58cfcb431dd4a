-- A word without brackets is read along a walk.
use Rattle.std.proofs.Common.{◌≡◌, ℕ, ℤ, Bool, List, [], ◌∷◌, Option, sym, subst, refl}
use Rattle.dm_base.specs.declared.event.Event.{Event}
use Rattle.dm_base.specs.Fits.{Fits}
use Rattle.c_meaning.specs.Shape.{Shape, Seq, Alt, Loop, Do, Cases, Parts, End, Part, Shapes, shape_of, Leave, goes_on, breaks, continues, returns, IsDone, IsNext, IsAway}
use Rattle.c_meaning.specs.Words.{no_brackets, Whole, Rounds, Again, Falls, Picks, Front, FrontFalls, FrontPicks}
use Rattle.c_meaning.specs.Words as F
use Rattle.c_meaning.specs.Walks.{Point, PartPoint, before, after, left, right, test, inner, step, do_inner, do_test, parts, case, this, later, Target, at, by_break, by_continue, by_return, past, stopped, apply, plain, of_body, of_do, of_seq, of_cases, Starts, starts_this, starts_later, Label, Silent, System, Hop, PartHop, Walks}
use Rattle.c_meaning.specs.Walks as W

-- where an exit leads
abbrev pub target : {S : Shape} → Leave → Target (Point S)
target goes_on = at after
target breaks = by_break
target continues = by_continue
target returns = by_return

-- where the end of the parts leads
abbrev pub part_target : {ps : Parts} → Leave → Target (PartPoint ps)
part_target goes_on = past
part_target breaks = by_break
part_target continues = by_continue
part_target returns = by_return

module _ (env : Shapes) where
  -- the walk goes on from a target, or is over
  abbrev Then : (f : ℕ) → Target (Point (shape_of env f)) → List Event → Type 0
  Then f (at x) t = Walks env f x t
  Then f by_return t = Walks env f after t
  Then f a t = t ≡ []

  over_at : {f : ℕ} {x : Point (shape_of env f)} {t : List Event} → t ≡ [] → Walks env f x t
  over_at {f = f} {x = x} e = subst (λ t. Walks env f x t) (sym e) W.over

  quietly : {f : ℕ} {x : Point (shape_of env f)} {t : List Event} (y : Target (Point (shape_of env f))) → Hop (shape_of env f) x Silent y → Then f y t → Walks env f x t
  quietly (at y) h k = W.quiet h k
  quietly by_return h k = W.return h k
  quietly y h k = over_at k

  nothing_left : (f : ℕ) (y : Target (Point (shape_of env f))) → Then f y []
  nothing_left f (at y) = W.over
  nothing_left f by_return = W.over
  nothing_left f y = refl

  -- the points and steps of S are some of those of the function f
  record Sits (f : ℕ) (S : Shape) : Type 0 where
    point : Point S → Point (shape_of env f)
    target : Target (Point S) → Target (Point (shape_of env f))
    hops : (x : Point S) (l : Label) (y : Target (Point S)) → Hop S x l y → Hop (shape_of env f) (point x) l (target y)
    is_at : (x : Point S) → target (at x) ≡ at (point x)
    stops : target stopped ≡ stopped

  record SitParts (f : ℕ) (ps : Parts) : Type 0 where
    point : PartPoint ps → Point (shape_of env f)
    target : Target (PartPoint ps) → Target (Point (shape_of env f))
    hops : (x : PartPoint ps) (l : Label) (y : Target (PartPoint ps)) → PartHop ps x l y → Hop (shape_of env f) (point x) l (target y)
    is_at : (x : PartPoint ps) → target (at x) ≡ at (point x)
    stops : target stopped ≡ stopped

  abbrev itself : (f : ℕ) → Sits f (shape_of env f)
  itself f = record { point = λ x. x; target = λ y. y; hops = λ x l y h. h; is_at = λ x. refl; stops = refl }

  abbrev in_left : {f : ℕ} {S T : Shape} → Sits f (Alt S T) → Sits f S
  in_left k = record { point = λ x. k.point (left x); target = λ y. k.target (apply (plain left) y); hops = λ x l y h. k.hops (left x) l (apply (plain left) y) (W.in_left h); is_at = λ x. k.is_at (left x); stops = k.stops }

  abbrev in_right : {f : ℕ} {S T : Shape} → Sits f (Alt S T) → Sits f T
  in_right k = record { point = λ x. k.point (right x); target = λ y. k.target (apply (plain right) y); hops = λ x l y h. k.hops (right x) l (apply (plain right) y) (W.in_right h); is_at = λ x. k.is_at (right x); stops = k.stops }

  abbrev in_test : {f : ℕ} {C B P : Shape} → Sits f (Loop C B P) → Sits f C
  in_test k = record { point = λ x. k.point (test x); target = λ y. k.target (apply (plain test) y); hops = λ x l y h. k.hops (test x) l (apply (plain test) y) (W.in_test h); is_at = λ x. k.is_at (test x); stops = k.stops }

  abbrev in_body : {f : ℕ} {C B P : Shape} → Sits f (Loop C B P) → Sits f B
  in_body {C = C} {B = B} {P = P} k = record { point = λ x. k.point (inner x); target = λ y. k.target (apply (of_body C B P) y); hops = λ x l y h. k.hops (inner x) l (apply (of_body C B P) y) (W.in_inner h); is_at = λ x. k.is_at (inner x); stops = k.stops }

  abbrev in_step : {f : ℕ} {C B P : Shape} → Sits f (Loop C B P) → Sits f P
  in_step k = record { point = λ x. k.point (step x); target = λ y. k.target (apply (plain step) y); hops = λ x l y h. k.hops (step x) l (apply (plain step) y) (W.in_step h); is_at = λ x. k.is_at (step x); stops = k.stops }

  abbrev in_do : {f : ℕ} {B C : Shape} → Sits f (Do B C) → Sits f B
  in_do {B = B} {C = C} k = record { point = λ x. k.point (do_inner x); target = λ y. k.target (apply (of_do B C) y); hops = λ x l y h. k.hops (do_inner x) l (apply (of_do B C) y) (W.in_do h); is_at = λ x. k.is_at (do_inner x); stops = k.stops }

  abbrev in_until : {f : ℕ} {B C : Shape} → Sits f (Do B C) → Sits f C
  in_until k = record { point = λ x. k.point (do_test x); target = λ y. k.target (apply (plain do_test) y); hops = λ x l y h. k.hops (do_test x) l (apply (plain do_test) y) (W.in_until h); is_at = λ x. k.is_at (do_test x); stops = k.stops }

  abbrev in_seq : {f : ℕ} {S : Shape} {ps : Parts} → Sits f (Seq S ps) → SitParts f (Part S ps)
  in_seq {S = S} {ps = ps} k = record { point = λ x. k.point (parts x); target = λ y. k.target (apply (of_seq S ps) y); hops = λ x l y h. k.hops (parts x) l (apply (of_seq S ps) y) (W.in_seq h); is_at = λ x. k.is_at (parts x); stops = k.stops }

  abbrev in_cases : {f : ℕ} {ps : Parts} {d : Bool} → Sits f (Cases ps d) → SitParts f ps
  in_cases {ps = ps} {d = d} k = record { point = λ x. k.point (case x); target = λ y. k.target (apply (of_cases ps d) y); hops = λ x l y h. k.hops (case x) l (apply (of_cases ps d) y) (W.in_case h); is_at = λ x. k.is_at (case x); stops = k.stops }

  abbrev in_this : {f : ℕ} {S : Shape} {ps : Parts} → SitParts f (Part S ps) → Sits f S
  in_this k = record { point = λ x. k.point (this x); target = λ y. k.target (apply (plain this) y); hops = λ x l y h. k.hops (this x) l (apply (plain this) y) (W.in_this h); is_at = λ x. k.is_at (this x); stops = k.stops }

  abbrev in_later : {f : ℕ} {S : Shape} {ps : Parts} → SitParts f (Part S ps) → SitParts f ps
  in_later k = record { point = λ x. k.point (later x); target = λ y. k.target (apply (plain later) y); hops = λ x l y h. k.hops (later x) l (apply (plain later) y) (W.in_later h); is_at = λ x. k.is_at (later x); stops = k.stops }

  -- a walk from a point goes on from its target
  there : {f : ℕ} {x : Point (shape_of env f)} {y : Target (Point (shape_of env f))} {t : List Event} → y ≡ at x → Walks env f x t → Then f y t
  there {f = f} {t = t} e k = subst (λ y. Then f y t) (sym e) k

  hop : {f : ℕ} {S : Shape} {x : Point S} {y : Target (Point S)} {t : List Event} (k : Sits f S) → Hop S x Silent y → Then f (k.target y) t → Walks env f (k.point x) t
  hop {x = x} {y = y} k h w = quietly (k.target y) (k.hops x Silent y h) w

  arrive : {f : ℕ} {S : Shape} {t : List Event} (k : Sits f S) (x : Point S) → Walks env f (k.point x) t → Then f (k.target (at x)) t
  arrive k x w = there (k.is_at x) w

  hop_part : {f : ℕ} {ps : Parts} {x : PartPoint ps} {y : Target (PartPoint ps)} {t : List Event} (k : SitParts f ps) → PartHop ps x Silent y → Then f (k.target y) t → Walks env f (k.point x) t
  hop_part {x = x} {y = y} k h w = quietly (k.target y) (k.hops x Silent y h) w

  arrive_part : {f : ℕ} {ps : Parts} {t : List Event} (k : SitParts f ps) (x : PartPoint ps) → Walks env f (k.point x) t → Then f (k.target (at x)) t
  arrive_part k x w = there (k.is_at x) w

  -- an edge that leads to a point
  straight : {f : ℕ} {S : Shape} {x y : Point S} {l : Label} (k : Sits f S) → Hop S x l (at y) → Hop (shape_of env f) (k.point x) l (at (k.point y))
  straight {f = f} {x = x} {y = y} {l = l} k h = subst (λ z. Hop (shape_of env f) (k.point x) l z) (k.is_at y) (k.hops x l (at y) h)

  back_at : {f : ℕ} {S : Shape} {t : List Event} (k : Sits f S) (x : Point S) → Then f (k.target (at x)) t → Walks env f (k.point x) t
  back_at {f = f} {t = t} k x w = subst (λ y. Then f y t) (k.is_at x) w

  same : {f : ℕ} {x : Point (shape_of env f)} {t u : List Event} → t ≡ u → Walks env f x u → Walks env f x t
  same {f = f} {x = x} e w = subst (λ t. Walks env f x t) (sym e) w

  done : {f : ℕ} {t : List Event} (x : Leave) → IsDone x → Walks env f after t → Then f (target x) t
  done breaks d w = absurd d
  done continues d w = absurd d
  done x d w = w

  -- a body that is left for the next round
  next_step : {f : ℕ} {C B P : Shape} (t : List Event) (k : Sits f (Loop C B P)) (y : Leave) → IsNext y → Walks env f (k.point (step before)) t → Then f (k.target (apply (of_body C B P) (target y))) t
  next_step t k goes_on d w = arrive k (inner after) (hop k W.loop_next (arrive k (step before) w))
  next_step t k continues d w = arrive k (step before) w
  next_step t k y d w = absurd d

  next_test : {f : ℕ} {B C : Shape} (t : List Event) (k : Sits f (Do B C)) (y : Leave) → IsNext y → Walks env f (k.point (do_test before)) t → Then f (k.target (apply (of_do B C) (target y))) t
  next_test t k goes_on d w = arrive k (do_inner after) (hop k W.do_on (arrive k (do_test before) w))
  next_test t k continues d w = arrive k (do_test before) w
  next_test t k y d w = absurd d

  part_away : {f : ℕ} {S : Shape} {ps : Parts} (t : List Event) (k : SitParts f (Part S ps)) (x : Leave) → IsAway x → Then f (k.target (part_target x)) t → Then f (k.target (apply (plain this) (target x))) t
  part_away t k goes_on a w = absurd a
  part_away t k x a w = w

  -- the part's end is that of the row, or the next part goes on
  abbrev Begins : (f : ℕ) (ps : Parts) → SitParts f ps → List Event → Type 0
  Begins f End k t = Then f (k.target past) t
  Begins f (Part S ps) k t = Walks env f (k.point (this before)) t

  part_on : {f : ℕ} {S : Shape} {t : List Event} (ps : Parts) (k : SitParts f (Part S ps)) → Begins f ps (in_later k) t → Walks env f (k.point (this after)) t
  part_on End k w = hop_part k W.case_out w
  part_on (Part S ps) k w = hop_part k W.case_on (arrive_part k (later (this before)) w)

  seq_exit : {f : ℕ} {S : Shape} {ps : Parts} (t : List Event) (k : Sits f (Seq S ps)) (x : Leave) → Then f (k.target (target x)) t → Then f (k.target (apply (of_seq S ps) (part_target x))) t
  seq_exit t k goes_on w = w
  seq_exit t k x w = w

  left_exit : {f : ℕ} {S T : Shape} (t : List Event) (k : Sits f (Alt S T)) (x : Leave) → Then f (k.target (target x)) t → Then f (k.target (apply (plain left) (target x))) t
  left_exit t k goes_on w = arrive k (left after) (hop k W.left_out w)
  left_exit t k x w = w

  right_exit : {f : ℕ} {S T : Shape} (t : List Event) (k : Sits f (Alt S T)) (x : Leave) → Then f (k.target (target x)) t → Then f (k.target (apply (plain right) (target x))) t
  right_exit t k goes_on w = arrive k (right after) (hop k W.right_out w)
  right_exit t k x w = w

  later_exit : {f : ℕ} {S : Shape} {ps : Parts} (t : List Event) (k : SitParts f (Part S ps)) (x : Leave) → Then f (k.target (part_target x)) t → Then f (k.target (apply (plain later) (part_target x))) t
  later_exit t k goes_on w = w
  later_exit t k x w = w

  -- the walk is over wherever the exit leads
  ended : (f : ℕ) {t : List Event} (y : Target (Point (shape_of env f))) → t ≡ [] → Then f y t
  ended f y e = subst (λ t. Then f y t) (sym e) (nothing_left f y)

  stop : {f : ℕ} {n : ℕ} {q : List (Option ℤ)} {S : Shape} {x : Point S} {e : Event} {t : List Event} (k : Sits f S) → Hop S x (System n q) stopped → Fits n q e → t ≡ [] → Walks env f (k.point x) (e ∷ t)
  stop {f = f} {n = n} {q = q} {x = x} {e = e} k h fits i = subst (λ t. Walks env f (k.point x) (e ∷ t)) (sym i) (W.stops (subst (λ z. Hop (shape_of env f) (k.point x) (System n q) z) k.stops (k.hops x (System n q) stopped h)) fits)

  mutual
    whole : {f : ℕ} {S : Shape} {x : Leave} {t u : List Event} → Whole env no_brackets S x t u → (k : Sits f S) → Then f (k.target (target x)) u → Walks env f (k.point before) t
    whole F.skip k w = hop k W.skip w
    whole (F.sys fits) k w = W.reads (straight k W.sys) fits (back_at k after w)
    whole (F.call {f = g} {x = x} among e h d i) k w = same e (W.enter (straight k W.call) among (whole h (itself g) (done x d (same i (W.leave (straight k W.call) among (back_at k after w))))))
    whole (F.left {x = x} {u = u} h) k w = hop k W.to_left (arrive k (left before) (whole h (in_left k) (left_exit u k x w)))
    whole (F.right {x = x} {u = u} h) k w = hop k W.to_right (arrive k (right before) (whole h (in_right k) (right_exit u k x w)))
    whole (F.loop_end r h) k w = hop k W.loop_in (arrive k (test before) (rounds r k (whole h (in_test k) (arrive k (test after) (hop k W.loop_out w)))))
    whole (F.loop_break r h b) k w = hop k W.loop_in (arrive k (test before) (rounds r k (whole h (in_test k) (arrive k (test after) (hop k W.loop_on (arrive k (inner before) (whole b (in_body k) w)))))))
    whole (F.loop_return r h b) k w = hop k W.loop_in (arrive k (test before) (rounds r k (whole h (in_test k) (arrive k (test after) (hop k W.loop_on (arrive k (inner before) (whole b (in_body k) w)))))))
    whole (F.do_end {y = y} {v = v} r n b h) k w = hop k W.do_in (arrive k (do_inner before) (agains r k (whole b (in_do k) (next_test v k y n (whole h (in_until k) (arrive k (do_test after) (hop k W.do_out w)))))))
    whole (F.do_break r b) k w = hop k W.do_in (arrive k (do_inner before) (agains r k (whole b (in_do k) w)))
    whole (F.do_return r b) k w = hop k W.do_in (arrive k (do_inner before) (agains r k (whole b (in_do k) w)))
    whole (F.in_order {x = x} {u = u} h) k w = hop k W.seq_in (arrive k (parts (this before)) (falls h (in_seq k) (seq_exit u k x w)))
    whole (F.cases_end h) k w = let r = picks h (in_cases k) w in hop k (W.case_in r.1) (arrive k (case r.0) r.2)
    whole (F.cases_break h) k w = let r = picks h (in_cases k) w in hop k (W.case_in r.1) (arrive k (case r.0) r.2)
    whole (F.cases_continue h) k w = let r = picks h (in_cases k) w in hop k (W.case_in r.1) (arrive k (case r.0) r.2)
    whole (F.cases_return h) k w = let r = picks h (in_cases k) w in hop k (W.case_in r.1) (arrive k (case r.0) r.2)
    whole F.cases_none k w = hop k W.no_case w
    whole F.break_out k w = hop k W.break_out w
    whole F.continue_on k w = hop k W.continue_on w
    whole F.return_now k w = hop k W.return_now w

    rounds : {f : ℕ} {C B P : Shape} {t u : List Event} → Rounds env no_brackets C B P t u → (k : Sits f (Loop C B P)) → Walks env f (k.point (test before)) u → Walks env f (k.point (test before)) t
    rounds F.none k w = w
    rounds (F.round {y = y} {w = v} r h n b p) k w = rounds r k (whole h (in_test k) (arrive k (test after) (hop k W.loop_on (arrive k (inner before) (whole b (in_body k) (next_step v k y n (whole p (in_step k) (arrive k (step after) (hop k W.loop_again (arrive k (test before) w))))))))))

    agains : {f : ℕ} {B C : Shape} {t u : List Event} → Again env no_brackets B C t u → (k : Sits f (Do B C)) → Walks env f (k.point (do_inner before)) u → Walks env f (k.point (do_inner before)) t
    agains F.first k w = w
    agains (F.again {y = y} {v = v} r n b h) k w = agains r k (whole b (in_do k) (next_test v k y n (whole h (in_until k) (arrive k (do_test after) (hop k W.do_again (arrive k (do_inner before) w))))))

    falls : {f : ℕ} {ps : Parts} {x : Leave} {t u : List Event} → Falls env no_brackets ps x t u → (k : SitParts f ps) → Then f (k.target (part_target x)) u → Begins f ps k t
    falls F.ended k w = w
    falls (F.falls_on {ps = ps} {x = x} {v = u} h r) k w = whole h (in_this k) (arrive_part k (this after) (part_on ps k (falls r (in_later k) (later_exit u k x w))))
    falls (F.falls_away {x = x} {u = u} a h) k w = whole h (in_this k) (part_away u k x a w)

    picks : {f : ℕ} {ps : Parts} {x : Leave} {t u : List Event} → Picks env no_brackets ps x t u → (k : SitParts f ps) → Then f (k.target (part_target x)) u → (q : PartPoint ps) × Starts ps q × Walks env f (k.point q) t
    picks (F.this h) k w = (this before, starts_this, falls h k w)
    picks (F.later {x = x} {u = u} h) k w = let r = picks h (in_later k) (later_exit u k x w) in (later r.0, starts_later r.1, r.2)

  mutual
    front : {f : ℕ} {S : Shape} {t u : List Event} → Front env no_brackets S t u → (k : Sits f S) → u ≡ [] → Walks env f (k.point before) t
    front F.nothing k e = over_at e
    front {f = f} (F.all {x = x} h) k e = whole h k (ended f (k.target (target x)) e)
    front (F.exits fits) k e = stop k W.exit fits e
    front (F.inside {f = g} among i h) k e = same i (W.enter (straight k W.call) among (front h (itself g) e))
    front (F.in_left h) k e = hop k W.to_left (arrive k (left before) (front h (in_left k) e))
    front (F.in_right h) k e = hop k W.to_right (arrive k (right before) (front h (in_right k) e))
    front (F.in_test r h) k e = hop k W.loop_in (arrive k (test before) (rounds r k (front h (in_test k) e)))
    front (F.in_body r c h) k e = hop k W.loop_in (arrive k (test before) (rounds r k (whole c (in_test k) (arrive k (test after) (hop k W.loop_on (arrive k (inner before) (front h (in_body k) e)))))))
    front (F.in_step {y = y} {w = v} r c n b h) k e = hop k W.loop_in (arrive k (test before) (rounds r k (whole c (in_test k) (arrive k (test after) (hop k W.loop_on (arrive k (inner before) (whole b (in_body k) (next_step v k y n (front h (in_step k) e)))))))))
    front (F.in_do r h) k e = hop k W.do_in (arrive k (do_inner before) (agains r k (front h (in_do k) e)))
    front (F.in_until {y = y} {v = v} r n b h) k e = hop k W.do_in (arrive k (do_inner before) (agains r k (whole b (in_do k) (next_test v k y n (front h (in_until k) e)))))
    front (F.in_seq h) k e = hop k W.seq_in (arrive k (parts (this before)) (front_falls h (in_seq k) e))
    front (F.in_cases h) k e = let r = front_picks h (in_cases k) e in hop k (W.case_in r.1) (arrive k (case r.0) r.2)

    front_falls : {f : ℕ} {ps : Parts} {t u : List Event} → FrontFalls env no_brackets ps t u → (k : SitParts f ps) → u ≡ [] → Begins f ps k t
    front_falls (F.in_part h) k e = front h (in_this k) e
    front_falls (F.in_next {ps = ps} h r) k e = whole h (in_this k) (arrive_part k (this after) (part_on ps k (front_falls r (in_later k) e)))

    front_picks : {f : ℕ} {ps : Parts} {t u : List Event} → FrontPicks env no_brackets ps t u → (k : SitParts f ps) → u ≡ [] → (q : PartPoint ps) × Starts ps q × Walks env f (k.point q) t
    front_picks (F.from_this {ps = End} h) k e = elim h [ ]
    front_picks (F.from_this {ps = Part S ps} h) k e = (this before, starts_this, front_falls h k e)
    front_picks (F.from_later h) k e = let r = front_picks h (in_later k) e in (later r.0, starts_later r.1, r.2)

  pub walked : (f : ℕ) (t : List Event) → Front env no_brackets (shape_of env f) t [] → Walks env f before t
  walked f t h = front h (itself f) refl
