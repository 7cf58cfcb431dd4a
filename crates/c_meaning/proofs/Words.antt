-- Words of parts in turn, of one of two parts, and of loops, put together.
use Rattle.std.proofs.Common.{◌≡◌, List, sym, subst, refl}
use Rattle.dm_base.specs.declared.event.Event.{Event}
use Rattle.c_meaning.specs.Shape.{Shape, Skip, Loop, Do, Cases, Parts, End, Part, Shapes, Leave, goes_on, breaks, continues, returns, IsNext, IsAway}
use Rattle.c_meaning.specs.Words.{Marks, Whole, Rounds, Again, Falls, Picks, Front, FrontFalls}
use Rattle.c_meaning.specs.Words as F
use Rattle.c_meaning.specs.ShapeOf.{before_parts, without_skips, in_turn, seq}
use Rattle.std.specs.Prelude.{Bool}

-- what stands in t before u is read from parts in turn, along a path that may stop anywhere
pub data Stands (env : Shapes) (m : Marks) : Parts → List Event → List Event → Type 0 where
  here : {ps : Parts} {t : List Event} → Stands env m ps t t
  inside : {S : Shape} {ps : Parts} {t u : List Event} → Front env m S t u → Stands env m (Part S ps) t u
  beyond : {S : Shape} {ps : Parts} {t u v : List Event} → Whole env m S goes_on t u → Stands env m ps u v → Stands env m (Part S ps) t v

-- how a switch is left, by how its statements are
abbrev pub out_of : Leave → Leave
out_of continues = continues
out_of returns = returns
out_of a = goes_on

module _ (env : Shapes) (m : Marks) where
  pub whole_skip : {x : Leave} {t u : List Event} → Whole env m Skip x t u → (x ≡ goes_on) × (t ≡ u)
  whole_skip F.skip = (refl, refl)

  pub front_skip : {t u : List Event} → Front env m Skip t u → t ≡ u
  front_skip F.nothing = refl
  front_skip (F.all h) = (whole_skip h).1

  -- parts in turn
  skip_falls : {ps : Parts} {x : Leave} {t u : List Event} → Falls env m (Part Skip ps) x t u → Falls env m ps x t u
  skip_falls (F.falls_on {ps = ps} {x = x} {v = v} h r) = subst (λ z. Falls env m ps x z v) (sym (whole_skip h).1) r
  skip_falls (F.falls_away a h) = absurd (subst IsAway (whole_skip h).0 a)

  before_falls : (S : Shape) (ps : Parts) {x : Leave} {t u : List Event} → Falls env m (Part S ps) x t u → Falls env m (before_parts S ps) x t u
  before_falls Skip ps h = skip_falls h
  before_falls S ps h = h

  falls_skips : {ps : Parts} {x : Leave} {t u : List Event} → Falls env m ps x t u → Falls env m (without_skips ps) x t u
  falls_skips F.ended = F.ended
  falls_skips (F.falls_on {S = S} {ps = ps} h r) = before_falls S (without_skips ps) (F.falls_on h (falls_skips r))
  falls_skips (F.falls_away {S = S} {ps = ps} a h) = before_falls S (without_skips ps) (F.falls_away a h)

  end_falls : {x : Leave} {t u : List Event} → Falls env m End x t u → Whole env m Skip x t u
  end_falls F.ended = F.skip

  pub one_falls : {S : Shape} {x : Leave} {t u : List Event} → Falls env m (Part S End) x t u → Whole env m S x t u
  one_falls (F.falls_on h F.ended) = h
  one_falls (F.falls_away a h) = h

  turn_falls : (ps : Parts) {x : Leave} {t u : List Event} → Falls env m ps x t u → Whole env m (in_turn ps) x t u
  turn_falls End h = end_falls h
  turn_falls (Part S End) h = one_falls h
  turn_falls (Part S (Part T ps)) h = F.in_order h

  pub seq_whole : (ps : Parts) {x : Leave} {t u : List Event} → Falls env m ps x t u → Whole env m (seq ps) x t u
  seq_whole ps h = turn_falls (without_skips ps) (falls_skips h)

  skip_stands : {ps : Parts} {t u : List Event} → Stands env m (Part Skip ps) t u → Stands env m ps t u
  skip_stands here = here
  skip_stands (inside {ps = ps} {t = t} h) = subst (λ z. Stands env m ps t z) (front_skip h) here
  skip_stands (beyond {ps = ps} {v = v} h r) = subst (λ z. Stands env m ps z v) (sym (whole_skip h).1) r

  before_stands : (S : Shape) (ps : Parts) {t u : List Event} → Stands env m (Part S ps) t u → Stands env m (before_parts S ps) t u
  before_stands Skip ps h = skip_stands h
  before_stands S ps h = h

  stands_skips : {ps : Parts} {t u : List Event} → Stands env m ps t u → Stands env m (without_skips ps) t u
  stands_skips here = here
  stands_skips (inside {S = S} {ps = ps} h) = before_stands S (without_skips ps) (inside h)
  stands_skips (beyond {S = S} {ps = ps} h r) = before_stands S (without_skips ps) (beyond h (stands_skips r))

  pub stands_falls : {S : Shape} {ps : Parts} {t u : List Event} → Stands env m (Part S ps) t u → FrontFalls env m (Part S ps) t u
  stands_falls here = F.in_part F.nothing
  stands_falls (inside h) = F.in_part h
  stands_falls (beyond h here) = F.in_part (F.all h)
  stands_falls (beyond h (inside k)) = F.in_next h (F.in_part k)
  stands_falls (beyond h (beyond k r)) = F.in_next h (stands_falls (beyond k r))

  end_stands : {t u : List Event} → Stands env m End t u → Front env m Skip t u
  end_stands here = F.nothing

  pub one_stands : {S : Shape} {t u : List Event} → Stands env m (Part S End) t u → Front env m S t u
  one_stands here = F.nothing
  one_stands (inside h) = h
  one_stands (beyond h here) = F.all h

  turn_stands : (ps : Parts) {t u : List Event} → Stands env m ps t u → Front env m (in_turn ps) t u
  turn_stands End h = end_stands h
  turn_stands (Part S End) h = one_stands h
  turn_stands (Part S (Part T ps)) h = F.in_seq (stands_falls h)

  pub seq_front : (ps : Parts) {t u : List Event} → Stands env m ps t u → Front env m (seq ps) t u
  seq_front ps h = turn_stands (without_skips ps) (stands_skips h)

  -- a round before those of a loop
  round_before : {C B P : Shape} {y : Leave} {t u v w a : List Event} → Whole env m C goes_on t u → IsNext y → Whole env m B y u v → Whole env m P goes_on v w → Rounds env m C B P w a → Rounds env m C B P t a
  round_before c n b p F.none = F.round F.none c n b p
  round_before c n b p (F.round r d k e q) = F.round (round_before c n b p r) d k e q

  pub loop_whole : {C B P : Shape} {x y : Leave} {t u v w a : List Event} → Whole env m C goes_on t u → IsNext y → Whole env m B y u v → Whole env m P goes_on v w → Whole env m (Loop C B P) x w a → Whole env m (Loop C B P) x t a
  loop_whole c n b p (F.loop_end r h) = F.loop_end (round_before c n b p r) h
  loop_whole c n b p (F.loop_break r h k) = F.loop_break (round_before c n b p r) h k
  loop_whole c n b p (F.loop_return r h k) = F.loop_return (round_before c n b p r) h k

  pub loop_front : {C B P : Shape} {y : Leave} {t u v w a : List Event} → Whole env m C goes_on t u → IsNext y → Whole env m B y u v → Whole env m P goes_on v w → Front env m (Loop C B P) w a → Front env m (Loop C B P) t a
  loop_front c n b p F.nothing = F.in_step F.none c n b (F.all p)
  loop_front c n b p (F.all h) = F.all (loop_whole c n b p h)
  loop_front c n b p (F.in_test r h) = F.in_test (round_before c n b p r) h
  loop_front c n b p (F.in_body r h k) = F.in_body (round_before c n b p r) h k
  loop_front c n b p (F.in_step r h j k q) = F.in_step (round_before c n b p r) h j k q

  -- rounds of a body and then its test, and a body at last
  record Turned (B C : Shape) (t v : List Event) : Type 0 where
    exit : Leave
    between : List Event
    rounds : Again env m B C t between
    next : IsNext exit
    last : Whole env m B exit between v

  turned : {B C : Shape} {y : Leave} {t u v : List Event} → IsNext y → Whole env m B y t u → Rounds env m C B Skip u v → Turned B C t v
  turned {y = y} {t = t} n b F.none = record { exit = y; between = t; rounds = F.first; next = n; last = b }
  turned {B = B} {C = C} {t = t} n b (F.round r c k d p) =
      let q = turned n b r in
      subst (λ z. Turned B C t z) (whole_skip p).1 (record { exit = _; between = _; rounds = F.again q.rounds q.next q.last c; next = k; last = d })

  pub do_whole : {B C : Shape} {x y : Leave} {t u v : List Event} → IsNext y → Whole env m B y t u → Whole env m (Loop C B Skip) x u v → Whole env m (Do B C) x t v
  do_whole n b (F.loop_end r h) = let q = turned n b r in F.do_end q.rounds q.next q.last h
  do_whole n b (F.loop_break r h k) = let q = turned n b r in F.do_break (F.again q.rounds q.next q.last h) k
  do_whole n b (F.loop_return r h k) = let q = turned n b r in F.do_return (F.again q.rounds q.next q.last h) k

  pub do_front : {B C : Shape} {y : Leave} {t u v : List Event} → IsNext y → Whole env m B y t u → Front env m (Loop C B Skip) u v → Front env m (Do B C) t v
  do_front n b F.nothing = F.in_do F.first (F.all b)
  do_front n b (F.all h) = F.all (do_whole n b h)
  do_front n b (F.in_test r h) = let q = turned n b r in F.in_until q.rounds q.next q.last h
  do_front n b (F.in_body r h k) = let q = turned n b r in F.in_do (F.again q.rounds q.next q.last h) k
  do_front {B = B} {C = C} {t = t} n b (F.in_step r h i k f) =
      let q = turned n b r in
      subst (λ z. Front env m (Do B C) t z) (front_skip f) (F.in_do (F.again q.rounds q.next q.last h) (F.all k))

  -- the groups of a switch
  pub cases_whole : {ps : Parts} {d : Bool} (x : Leave) {t u : List Event} → Picks env m ps x t u → Whole env m (Cases ps d) (out_of x) t u
  cases_whole goes_on h = F.cases_end h
  cases_whole breaks h = F.cases_break h
  cases_whole continues h = F.cases_continue h
  cases_whole returns h = F.cases_return h
