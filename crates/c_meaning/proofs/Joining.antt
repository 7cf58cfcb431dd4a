-- The words by what is left to read are the joined words.
use Rattle.std.proofs.Common.{◌≡◌, List, [], ◌∷◌, ◌++◌, sym, ap, ◌∙◌, subst, refl, append_assoc}
use Rattle.std.proofs.lemmas.List.{append-nil}
use Rattle.dm_base.specs.declared.event.Event.{Event}
use Rattle.c_meaning.specs.Shape.{Shape, Shapes, Call, Loop, Do, Parts, Part, Leave, goes_on, returns}
use Rattle.c_meaning.specs.Words.{Marks, Whole, Rounds, Again, Falls, Picks, Front, FrontFalls, FrontPicks}
use Rattle.c_meaning.specs.Words as F
use Rattle.c_meaning.specs.ShapeTable as J

three : (a b c u : List Event) → (a ++ (b ++ c)) ++ u ≡ a ++ (b ++ (c ++ u))
three a b c u = append_assoc a (b ++ c) u ∙ ap (λ t. a ++ t) (append_assoc b c u)

four : (a b c d u : List Event) → (a ++ (b ++ (c ++ d))) ++ u ≡ a ++ (b ++ (c ++ (d ++ u)))
four a b c d u = append_assoc a (b ++ (c ++ d)) u ∙ ap (λ t. a ++ t) (three b c d u)

join : (t a u b v : List Event) → t ≡ a ++ u → u ≡ b ++ v → t ≡ (a ++ b) ++ v
join t a u b v e f = e ∙ ap (λ z. a ++ z) f ∙ sym (append_assoc a b v)

abbrev pub Read : (List Event → Type 0) → List Event → List Event → Type 0
Read J t u = (a : List Event) × (t ≡ a ++ u) × J a

module _ (env : Shapes) (m : Marks) where
  mutual
    whole_from : {S : Shape} {x : Leave} {a : List Event} → J.Whole env m S x a → (u : List Event) → Whole env m S x (a ++ u) u
    whole_from J.skip u = F.skip
    whole_from (J.sys q0) u = F.sys q0
    whole_from (J.call {s = s} {f = f} {x = x} {a = a} k h d) u = subst (λ t. Whole env m (Call s) goes_on t u) (sym (three (m.pre s) a (m.post s) u)) (F.call k refl (whole_from h (m.post s ++ u)) d refl)
    whole_from (J.left h0) u = F.left (whole_from h0 u)
    whole_from (J.right h0) u = F.right (whole_from h0 u)
    whole_from (J.loop_end {C = C} {B = B} {P = P} {a = a} {b = b} h0 h1) u = subst (λ t. Whole env m (Loop C B P) goes_on t u) (sym (append_assoc a b u)) (F.loop_end (rounds_from h0 (b ++ u)) (whole_from h1 u))
    whole_from (J.loop_break {C = C} {B = B} {P = P} {a = a} {b = b} {c = c} h0 h1 h2) u = subst (λ t. Whole env m (Loop C B P) goes_on t u) (sym (three a b c u)) (F.loop_break (rounds_from h0 (b ++ (c ++ u))) (whole_from h1 (c ++ u)) (whole_from h2 u))
    whole_from (J.loop_return {C = C} {B = B} {P = P} {a = a} {b = b} {c = c} h0 h1 h2) u = subst (λ t. Whole env m (Loop C B P) returns t u) (sym (three a b c u)) (F.loop_return (rounds_from h0 (b ++ (c ++ u))) (whole_from h1 (c ++ u)) (whole_from h2 u))
    whole_from (J.do_end {B = B} {C = C} {a = a} {b = b} {c = c} h0 q1 h2 h3) u = subst (λ t. Whole env m (Do B C) goes_on t u) (sym (three a b c u)) (F.do_end (agains_from h0 (b ++ (c ++ u))) q1 (whole_from h2 (c ++ u)) (whole_from h3 u))
    whole_from (J.do_break {B = B} {C = C} {a = a} {b = b} h0 h1) u = subst (λ t. Whole env m (Do B C) goes_on t u) (sym (append_assoc a b u)) (F.do_break (agains_from h0 (b ++ u)) (whole_from h1 u))
    whole_from (J.do_return {B = B} {C = C} {a = a} {b = b} h0 h1) u = subst (λ t. Whole env m (Do B C) returns t u) (sym (append_assoc a b u)) (F.do_return (agains_from h0 (b ++ u)) (whole_from h1 u))
    whole_from (J.in_order h0) u = F.in_order (falls_from h0 u)
    whole_from (J.cases_end h0) u = F.cases_end (picks_from h0 u)
    whole_from (J.cases_break h0) u = F.cases_break (picks_from h0 u)
    whole_from (J.cases_continue h0) u = F.cases_continue (picks_from h0 u)
    whole_from (J.cases_return h0) u = F.cases_return (picks_from h0 u)
    whole_from J.cases_none u = F.cases_none
    whole_from J.break_out u = F.break_out
    whole_from J.continue_on u = F.continue_on
    whole_from J.return_now u = F.return_now

    rounds_from : {C B P : Shape} {a : List Event} → J.Rounds env m C B P a → (u : List Event) → Rounds env m C B P (a ++ u) u
    rounds_from J.none u = F.none
    rounds_from (J.round {C = C} {B = B} {P = P} {a = a} {b = b} {c = c} {d = d} h0 h1 q2 h3 h4) u = subst (λ t. Rounds env m C B P t u) (sym (four a b c d u)) (F.round (rounds_from h0 (b ++ (c ++ (d ++ u)))) (whole_from h1 (c ++ (d ++ u))) q2 (whole_from h3 (d ++ u)) (whole_from h4 u))

    agains_from : {B C : Shape} {a : List Event} → J.Again env m B C a → (u : List Event) → Again env m B C (a ++ u) u
    agains_from J.first u = F.first
    agains_from (J.again {B = B} {C = C} {a = a} {b = b} {c = c} h0 q1 h2 h3) u = subst (λ t. Again env m B C t u) (sym (three a b c u)) (F.again (agains_from h0 (b ++ (c ++ u))) q1 (whole_from h2 (c ++ u)) (whole_from h3 u))

    falls_from : {ps : Parts} {x : Leave} {a : List Event} → J.Falls env m ps x a → (u : List Event) → Falls env m ps x (a ++ u) u
    falls_from J.ended u = F.ended
    falls_from (J.falls_on {S = S} {ps = ps} {x = x} {a = a} {b = b} h0 h1) u = subst (λ t. Falls env m (Part S ps) x t u) (sym (append_assoc a b u)) (F.falls_on (whole_from h0 (b ++ u)) (falls_from h1 u))
    falls_from (J.falls_away q0 h1) u = F.falls_away q0 (whole_from h1 u)

    picks_from : {ps : Parts} {x : Leave} {a : List Event} → J.Picks env m ps x a → (u : List Event) → Picks env m ps x (a ++ u) u
    picks_from (J.this h0) u = F.this (falls_from h0 u)
    picks_from (J.later h0) u = F.later (picks_from h0 u)

  mutual
    pub whole_to : {S : Shape} {x : Leave} {t u : List Event} → Whole env m S x t u → Read (J.Whole env m S x) t u
    whole_to F.skip = ([], refl, J.skip)
    whole_to (F.sys {e = e} q0) = (e ∷ [], refl, J.sys q0)
    whole_to (F.call {s = s} {t = t} {u = u} {v = v} {w = w} k e h d i) = let r = whole_to h in (m.pre s ++ (r.0 ++ m.post s), join t (m.pre s) u (r.0 ++ m.post s) w e (join u (r.0) v (m.post s) w r.1 i), J.call k r.2 d)
    whole_to (F.left {t = t} {u = u} h0) = let r0 = whole_to h0 in (r0.0, r0.1, J.left r0.2)
    whole_to (F.right {t = t} {u = u} h0) = let r0 = whole_to h0 in (r0.0, r0.1, J.right r0.2)
    whole_to (F.loop_end {t = t} {u = u} {v = v} h0 h1) = let r0 = rounds_to h0 in let r1 = whole_to h1 in ((r0.0 ++ r1.0), (join t (r0.0) u (r1.0) v r0.1 r1.1), J.loop_end r0.2 r1.2)
    whole_to (F.loop_break {t = t} {u = u} {v = v} {w = w} h0 h1 h2) = let r0 = rounds_to h0 in let r1 = whole_to h1 in let r2 = whole_to h2 in ((r0.0 ++ (r1.0 ++ r2.0)), (join t (r0.0) u (r1.0 ++ r2.0) w r0.1 (join u (r1.0) v (r2.0) w r1.1 r2.1)), J.loop_break r0.2 r1.2 r2.2)
    whole_to (F.loop_return {t = t} {u = u} {v = v} {w = w} h0 h1 h2) = let r0 = rounds_to h0 in let r1 = whole_to h1 in let r2 = whole_to h2 in ((r0.0 ++ (r1.0 ++ r2.0)), (join t (r0.0) u (r1.0 ++ r2.0) w r0.1 (join u (r1.0) v (r2.0) w r1.1 r2.1)), J.loop_return r0.2 r1.2 r2.2)
    whole_to (F.do_end {t = t} {u = u} {v = v} {w = w} h0 q1 h2 h3) = let r0 = agains_to h0 in let r1 = whole_to h2 in let r2 = whole_to h3 in ((r0.0 ++ (r1.0 ++ r2.0)), (join t (r0.0) u (r1.0 ++ r2.0) w r0.1 (join u (r1.0) v (r2.0) w r1.1 r2.1)), J.do_end r0.2 q1 r1.2 r2.2)
    whole_to (F.do_break {t = t} {u = u} {v = v} h0 h1) = let r0 = agains_to h0 in let r1 = whole_to h1 in ((r0.0 ++ r1.0), (join t (r0.0) u (r1.0) v r0.1 r1.1), J.do_break r0.2 r1.2)
    whole_to (F.do_return {t = t} {u = u} {v = v} h0 h1) = let r0 = agains_to h0 in let r1 = whole_to h1 in ((r0.0 ++ r1.0), (join t (r0.0) u (r1.0) v r0.1 r1.1), J.do_return r0.2 r1.2)
    whole_to (F.in_order {t = t} {u = u} h0) = let r0 = falls_to h0 in (r0.0, r0.1, J.in_order r0.2)
    whole_to (F.cases_end {t = t} {u = u} h0) = let r0 = picks_to h0 in (r0.0, r0.1, J.cases_end r0.2)
    whole_to (F.cases_break {t = t} {u = u} h0) = let r0 = picks_to h0 in (r0.0, r0.1, J.cases_break r0.2)
    whole_to (F.cases_continue {t = t} {u = u} h0) = let r0 = picks_to h0 in (r0.0, r0.1, J.cases_continue r0.2)
    whole_to (F.cases_return {t = t} {u = u} h0) = let r0 = picks_to h0 in (r0.0, r0.1, J.cases_return r0.2)
    whole_to F.cases_none = ([], refl, J.cases_none)
    whole_to F.break_out = ([], refl, J.break_out)
    whole_to F.continue_on = ([], refl, J.continue_on)
    whole_to F.return_now = ([], refl, J.return_now)

    pub rounds_to : {C B P : Shape} {t u : List Event} → Rounds env m C B P t u → Read (J.Rounds env m C B P) t u
    rounds_to F.none = ([], refl, J.none)
    rounds_to (F.round {t = t} {u = u} {v = v} {w = w} {a = a} h0 h1 q2 h3 h4) = let r0 = rounds_to h0 in let r1 = whole_to h1 in let r2 = whole_to h3 in let r3 = whole_to h4 in ((r0.0 ++ (r1.0 ++ (r2.0 ++ r3.0))), (join t (r0.0) u (r1.0 ++ (r2.0 ++ r3.0)) a r0.1 (join u (r1.0) v (r2.0 ++ r3.0) a r1.1 (join v (r2.0) w (r3.0) a r2.1 r3.1))), J.round r0.2 r1.2 q2 r2.2 r3.2)

    pub agains_to : {B C : Shape} {t u : List Event} → Again env m B C t u → Read (J.Again env m B C) t u
    agains_to F.first = ([], refl, J.first)
    agains_to (F.again {t = t} {u = u} {v = v} {w = w} h0 q1 h2 h3) = let r0 = agains_to h0 in let r1 = whole_to h2 in let r2 = whole_to h3 in ((r0.0 ++ (r1.0 ++ r2.0)), (join t (r0.0) u (r1.0 ++ r2.0) w r0.1 (join u (r1.0) v (r2.0) w r1.1 r2.1)), J.again r0.2 q1 r1.2 r2.2)

    falls_to : {ps : Parts} {x : Leave} {t u : List Event} → Falls env m ps x t u → Read (J.Falls env m ps x) t u
    falls_to F.ended = ([], refl, J.ended)
    falls_to (F.falls_on {t = t} {u = u} {v = v} h0 h1) = let r0 = whole_to h0 in let r1 = falls_to h1 in ((r0.0 ++ r1.0), (join t (r0.0) u (r1.0) v r0.1 r1.1), J.falls_on r0.2 r1.2)
    falls_to (F.falls_away {t = t} {u = u} q0 h1) = let r0 = whole_to h1 in (r0.0, r0.1, J.falls_away q0 r0.2)

    picks_to : {ps : Parts} {x : Leave} {t u : List Event} → Picks env m ps x t u → Read (J.Picks env m ps x) t u
    picks_to (F.this {t = t} {u = u} h0) = let r0 = falls_to h0 in (r0.0, r0.1, J.this r0.2)
    picks_to (F.later {t = t} {u = u} h0) = let r0 = picks_to h0 in (r0.0, r0.1, J.later r0.2)

  mutual
    pub front_from : {S : Shape} {a : List Event} → J.Front env m S a → (u : List Event) → Front env m S (a ++ u) u
    front_from J.nothing u = F.nothing
    front_from (J.all h0) u = F.all (whole_from h0 u)
    front_from (J.exits q0) u = F.exits q0
    front_from (J.inside {s = s} {a = a} k h) u = subst (λ t. Front env m (Call s) t u) (sym (append_assoc (m.pre s) a u)) (F.inside k refl (front_from h u))
    front_from (J.in_left h0) u = F.in_left (front_from h0 u)
    front_from (J.in_right h0) u = F.in_right (front_from h0 u)
    front_from (J.in_test {C = C} {B = B} {P = P} {a = a} {b = b} h0 h1) u = subst (λ t. Front env m (Loop C B P) t u) (sym (append_assoc a b u)) (F.in_test (rounds_from h0 (b ++ u)) (front_from h1 u))
    front_from (J.in_body {C = C} {B = B} {P = P} {a = a} {b = b} {c = c} h0 h1 h2) u = subst (λ t. Front env m (Loop C B P) t u) (sym (three a b c u)) (F.in_body (rounds_from h0 (b ++ (c ++ u))) (whole_from h1 (c ++ u)) (front_from h2 u))
    front_from (J.in_step {C = C} {B = B} {P = P} {a = a} {b = b} {c = c} {d = d} h0 h1 q2 h3 h4) u = subst (λ t. Front env m (Loop C B P) t u) (sym (four a b c d u)) (F.in_step (rounds_from h0 (b ++ (c ++ (d ++ u)))) (whole_from h1 (c ++ (d ++ u))) q2 (whole_from h3 (d ++ u)) (front_from h4 u))
    front_from (J.in_do {B = B} {C = C} {a = a} {b = b} h0 h1) u = subst (λ t. Front env m (Do B C) t u) (sym (append_assoc a b u)) (F.in_do (agains_from h0 (b ++ u)) (front_from h1 u))
    front_from (J.in_until {B = B} {C = C} {a = a} {b = b} {c = c} h0 q1 h2 h3) u = subst (λ t. Front env m (Do B C) t u) (sym (three a b c u)) (F.in_until (agains_from h0 (b ++ (c ++ u))) q1 (whole_from h2 (c ++ u)) (front_from h3 u))
    front_from (J.in_seq h0) u = F.in_seq (front_falls_from h0 u)
    front_from (J.in_cases h0) u = F.in_cases (front_picks_from h0 u)

    front_falls_from : {ps : Parts} {a : List Event} → J.FrontFalls env m ps a → (u : List Event) → FrontFalls env m ps (a ++ u) u
    front_falls_from (J.in_part h0) u = F.in_part (front_from h0 u)
    front_falls_from (J.in_next {S = S} {ps = ps} {a = a} {b = b} h0 h1) u = subst (λ t. FrontFalls env m (Part S ps) t u) (sym (append_assoc a b u)) (F.in_next (whole_from h0 (b ++ u)) (front_falls_from h1 u))

    front_picks_from : {ps : Parts} {a : List Event} → J.FrontPicks env m ps a → (u : List Event) → FrontPicks env m ps (a ++ u) u
    front_picks_from (J.from_this h0) u = F.from_this (front_falls_from h0 u)
    front_picks_from (J.from_later h0) u = F.from_later (front_picks_from h0 u)

  mutual
    pub front_to : {S : Shape} {t u : List Event} → Front env m S t u → Read (J.Front env m S) t u
    front_to F.nothing = ([], refl, J.nothing)
    front_to (F.all {t = t} {u = u} h0) = let r0 = whole_to h0 in (r0.0, r0.1, J.all r0.2)
    front_to (F.exits {e = e} q0) = (e ∷ [], refl, J.exits q0)
    front_to (F.inside {s = s} {t = t} {u = u} {v = v} k e h) = let r = front_to h in (m.pre s ++ r.0, join t (m.pre s) u (r.0) v e r.1, J.inside k r.2)
    front_to (F.in_left {t = t} {u = u} h0) = let r0 = front_to h0 in (r0.0, r0.1, J.in_left r0.2)
    front_to (F.in_right {t = t} {u = u} h0) = let r0 = front_to h0 in (r0.0, r0.1, J.in_right r0.2)
    front_to (F.in_test {t = t} {u = u} {v = v} h0 h1) = let r0 = rounds_to h0 in let r1 = front_to h1 in ((r0.0 ++ r1.0), (join t (r0.0) u (r1.0) v r0.1 r1.1), J.in_test r0.2 r1.2)
    front_to (F.in_body {t = t} {u = u} {v = v} {w = w} h0 h1 h2) = let r0 = rounds_to h0 in let r1 = whole_to h1 in let r2 = front_to h2 in ((r0.0 ++ (r1.0 ++ r2.0)), (join t (r0.0) u (r1.0 ++ r2.0) w r0.1 (join u (r1.0) v (r2.0) w r1.1 r2.1)), J.in_body r0.2 r1.2 r2.2)
    front_to (F.in_step {t = t} {u = u} {v = v} {w = w} {a = a} h0 h1 q2 h3 h4) = let r0 = rounds_to h0 in let r1 = whole_to h1 in let r2 = whole_to h3 in let r3 = front_to h4 in ((r0.0 ++ (r1.0 ++ (r2.0 ++ r3.0))), (join t (r0.0) u (r1.0 ++ (r2.0 ++ r3.0)) a r0.1 (join u (r1.0) v (r2.0 ++ r3.0) a r1.1 (join v (r2.0) w (r3.0) a r2.1 r3.1))), J.in_step r0.2 r1.2 q2 r2.2 r3.2)
    front_to (F.in_do {t = t} {u = u} {v = v} h0 h1) = let r0 = agains_to h0 in let r1 = front_to h1 in ((r0.0 ++ r1.0), (join t (r0.0) u (r1.0) v r0.1 r1.1), J.in_do r0.2 r1.2)
    front_to (F.in_until {t = t} {u = u} {v = v} {w = w} h0 q1 h2 h3) = let r0 = agains_to h0 in let r1 = whole_to h2 in let r2 = front_to h3 in ((r0.0 ++ (r1.0 ++ r2.0)), (join t (r0.0) u (r1.0 ++ r2.0) w r0.1 (join u (r1.0) v (r2.0) w r1.1 r2.1)), J.in_until r0.2 q1 r1.2 r2.2)
    front_to (F.in_seq {t = t} {u = u} h0) = let r0 = front_falls_to h0 in (r0.0, r0.1, J.in_seq r0.2)
    front_to (F.in_cases {t = t} {u = u} h0) = let r0 = front_picks_to h0 in (r0.0, r0.1, J.in_cases r0.2)

    front_falls_to : {ps : Parts} {t u : List Event} → FrontFalls env m ps t u → Read (J.FrontFalls env m ps) t u
    front_falls_to (F.in_part {t = t} {u = u} h0) = let r0 = front_to h0 in (r0.0, r0.1, J.in_part r0.2)
    front_falls_to (F.in_next {t = t} {u = u} {v = v} h0 h1) = let r0 = whole_to h0 in let r1 = front_falls_to h1 in ((r0.0 ++ r1.0), (join t (r0.0) u (r1.0) v r0.1 r1.1), J.in_next r0.2 r1.2)

    front_picks_to : {ps : Parts} {t u : List Event} → FrontPicks env m ps t u → Read (J.FrontPicks env m ps) t u
    front_picks_to (F.from_this {t = t} {u = u} h0) = let r0 = front_falls_to h0 in (r0.0, r0.1, J.from_this r0.2)
    front_picks_to (F.from_later {t = t} {u = u} h0) = let r0 = front_picks_to h0 in (r0.0, r0.1, J.from_later r0.2)

  pub whole_of_table : (s : Shape) (x : Leave) (t : List Event) → J.Whole env m s x t → Whole env m s x t []
  whole_of_table s x t h = subst (λ a. Whole env m s x a []) (append-nil t) (whole_from h [])

  pub table_of_whole : (s : Shape) (x : Leave) (t : List Event) → Whole env m s x t [] → J.Whole env m s x t
  table_of_whole s x t h = let r = whole_to h in subst (λ a. J.Whole env m s x a) (sym (r.1 ∙ append-nil (r.0))) r.2

  pub front_of_table : (s : Shape) (t : List Event) → J.Front env m s t → Front env m s t []
  front_of_table s t h = subst (λ a. Front env m s a []) (append-nil t) (front_from h [])

  pub table_of_front : (s : Shape) (t : List Event) → Front env m s t [] → J.Front env m s t
  table_of_front s t h = let r = front_to h in subst (λ a. J.Front env m s a) (sym (r.1 ∙ append-nil (r.0))) r.2
