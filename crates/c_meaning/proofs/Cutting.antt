-- What is read along a path is read by cutting it short.
use Rattle.std.proofs.Common.{◌≡◌, ℕ, List, [], ◌∷◌, ◌++◌, length, ◌≤◌, ◌⊎◌, inl, inr, sym, subst, refl, ◌∙◌, arith}
use Rattle.dm_base.specs.declared.event.Event.{Event}
use Rattle.c_meaning.specs.Shape.{Shape, Shapes, Call, Loop, Do, Parts, End, Part, Leave, goes_on}
use Rattle.c_meaning.specs.Words.{Marks, brackets, no_brackets, Whole, Rounds, Again, Falls, Picks, Front, FrontFalls, FrontPicks}
use Rattle.c_meaning.specs.Words as F
use Rattle.c_meaning.proofs.Joining.{whole_to, rounds_to, agains_to}

-- u is what is left of t
pub data Rest : List Event → List Event → Type 0 where
  here : {t : List Event} → Rest t t
  later : {e : Event} {t u : List Event} → Rest t u → Rest (e ∷ t) u

long : {t u : List Event} → Rest t u → length u ≤ length t
long here = omega arith
long (later r) = let k = long r in omega (arith, k)

only : {t u : List Event} → Rest t u → Rest u t → u ≡ t
only here s = refl
only (later r) s = let k = long r in let i = long s in absurd (omega (arith, k, i))

pub past : (a u : List Event) → Rest (a ++ u) u
past [] u = here
past (e ∷ a) u = later (past a u)

told : {t u v : List Event} → t ≡ u → Rest u v → Rest t v
told {v = v} e r = subst (λ t. Rest t v) (sym e) r

split : {t u v : List Event} → Rest t u → Rest t v → Rest u v ⊎ Rest v u
split here s = inl s
split (later r) here = inr (later r)
split (later r) (later s) = split r s

-- the cut is after the part, or in it
via : {G : Type 0} {t u z : List Event} → Rest t u → Rest t z → (Rest u z → G) → (Rest z u → G) → G
via {G = G} r s behind inside = elim (split r s) as (λ x. G) [ inl a ↦ behind a | inr b ↦ inside b ]

-- what is read before and after a call is cut at one of its ends
pub record IsShort (m : Marks) : Type 0 where
  pre : (s : ℕ) (t u z : List Event) → t ≡ m.pre s ++ u → Rest t z → (z ≡ t) ⊎ Rest u z
  post : (s : ℕ) (t u z : List Event) → t ≡ m.post s ++ u → Rest t z → (z ≡ t) ⊎ Rest u z

cut_event : {e : Event} {u z : List Event} → Rest (e ∷ u) z → (z ≡ e ∷ u) ⊎ Rest u z
cut_event here = inl refl
cut_event (later s) = inr s

one_event : {e : Event} {t u z : List Event} → t ≡ e ∷ u → Rest t z → (z ≡ t) ⊎ Rest u z
one_event {e = e} {t = t} {u = u} {z = z} same r = elim (cut_event (subst (λ t. Rest t z) same r)) as (λ x. (z ≡ t) ⊎ Rest u z) [ inl a ↦ inl (a ∙ sym same) | inr b ↦ inr b ]

pub short_brackets : IsShort brackets
short_brackets = record { pre = λ s t u z e r. one_event e r; post = λ s t u z e r. one_event e r }

pub short_no_brackets : IsShort no_brackets
short_no_brackets = record { pre = λ s t u z e r. inr (told (sym e) r); post = λ s t u z e r. inr (told (sym e) r) }

module _ (env : Shapes) (m : Marks) where
  read : {S : Shape} {x : Leave} {t u : List Event} → Whole env m S x t u → Rest t u
  read {u = u} h = let r = whole_to env m h in told r.1 (past r.0 u)

  read_rounds : {C B P : Shape} {t u : List Event} → Rounds env m C B P t u → Rest t u
  read_rounds {u = u} h = let r = rounds_to env m h in told r.1 (past r.0 u)

  read_agains : {B C : Shape} {t u : List Event} → Again env m B C t u → Rest t u
  read_agains {u = u} h = let r = agains_to env m h in told r.1 (past r.0 u)

  -- a front of the parts, or nothing of none
  abbrev Begun : Parts → List Event → List Event → Type 0
  Begun End t z = z ≡ t
  Begun (Part S ps) t z = FrontFalls env m (Part S ps) t z

  at_end : {S : Shape} {t u z : List Event} → z ≡ u → Front env m S t u → Front env m S t z
  at_end {S = S} {t = t} e h = subst (λ z. Front env m S t z) (sym e) h

  at_start : {S : Shape} {t z : List Event} → z ≡ t → Front env m S t z
  at_start e = at_end e F.nothing

  next_begun : {S : Shape} {t u z : List Event} (ps : Parts) → Whole env m S goes_on t u → Begun ps u z → FrontFalls env m (Part S ps) t z
  next_begun End h e = F.in_part (at_end e (F.all h))
  next_begun (Part T ps) h r = F.in_next h r

  module _ (short : IsShort m) where
    mutual
      cut : {S : Shape} {x : Leave} {t u : List Event} → Whole env m S x t u → {z : List Event} → Rest t z → Rest z u → Front env m S t z
      cut (F.sys fits) here j = F.nothing
      cut (F.sys fits) (later i) j = at_end (only i j) (F.all (F.sys fits))
      cut (F.call {s = s} {t = t} {u = u} {v = v} {w = w} k e h d p) {z = z} i j = elim (short.pre s t u z e i) as (λ r. Front env m (Call s) t z) [ inl a ↦ at_start a | inr b ↦ via (read h) b (λ r. elim (short.post s v w z p r) as (λ q. Front env m (Call s) t z) [ inl a ↦ at_end a (F.inside k e (F.all h)) | inr q ↦ at_end (only q j) (F.all (F.call k e h d p)) ]) (λ r. F.inside k e (cut h b r)) ]
      cut (F.left h) i j = F.in_left (cut h i j)
      cut (F.right h) i j = F.in_right (cut h i j)
      cut (F.loop_end r c) i j = via (read_rounds r) i (λ a. F.in_test r (cut c a j)) (λ b. cut_rounds r i b)
      cut (F.loop_break r c h) i j = via (read_rounds r) i (λ a. via (read c) a (λ b. F.in_body r c (cut h b j)) (λ b. F.in_test r (cut c a b))) (λ b. cut_rounds r i b)
      cut (F.loop_return r c h) i j = via (read_rounds r) i (λ a. via (read c) a (λ b. F.in_body r c (cut h b j)) (λ b. F.in_test r (cut c a b))) (λ b. cut_rounds r i b)
      cut (F.do_end r n h c) i j = via (read_agains r) i (λ a. via (read h) a (λ b. F.in_until r n h (cut c b j)) (λ b. F.in_do r (cut h a b))) (λ b. cut_agains r i b)
      cut (F.do_break r h) i j = via (read_agains r) i (λ a. F.in_do r (cut h a j)) (λ b. cut_agains r i b)
      cut (F.do_return r h) i j = via (read_agains r) i (λ a. F.in_do r (cut h a j)) (λ b. cut_agains r i b)
      cut (F.in_order h) i j = F.in_seq (cut_parts h i j)
      cut (F.cases_end h) i j = F.in_cases (cut_picks h i j)
      cut (F.cases_break h) i j = F.in_cases (cut_picks h i j)
      cut (F.cases_continue h) i j = F.in_cases (cut_picks h i j)
      cut (F.cases_return h) i j = F.in_cases (cut_picks h i j)
      cut a i j = at_start (only i j)

      cut_rounds : {C B P : Shape} {t u : List Event} → Rounds env m C B P t u → {z : List Event} → Rest t z → Rest z u → Front env m (Loop C B P) t z
      cut_rounds F.none i j = at_start (only i j)
      cut_rounds (F.round r c n h p) i j = via (read_rounds r) i (λ a. via (read c) a (λ b. via (read h) b (λ d. F.in_step r c n h (cut p d j)) (λ d. F.in_body r c (cut h b d))) (λ b. F.in_test r (cut c a b))) (λ b. cut_rounds r i b)

      cut_agains : {B C : Shape} {t u : List Event} → Again env m B C t u → {z : List Event} → Rest t z → Rest z u → Front env m (Do B C) t z
      cut_agains F.first i j = at_start (only i j)
      cut_agains (F.again r n h c) i j = via (read_agains r) i (λ a. via (read h) a (λ b. F.in_until r n h (cut c b j)) (λ b. F.in_do r (cut h a b))) (λ b. cut_agains r i b)

      cut_parts : {ps : Parts} {x : Leave} {t u : List Event} → Falls env m ps x t u → {z : List Event} → Rest t z → Rest z u → Begun ps t z
      cut_parts F.ended i j = only i j
      cut_parts (F.falls_on {ps = ps} h r) i j = via (read h) i (λ a. next_begun ps h (cut_parts r a j)) (λ a. F.in_part (cut h i a))
      cut_parts (F.falls_away a h) i j = F.in_part (cut h i j)

      cut_picks : {ps : Parts} {x : Leave} {t u : List Event} → Picks env m ps x t u → {z : List Event} → Rest t z → Rest z u → FrontPicks env m ps t z
      cut_picks (F.this h) i j = F.from_this (cut_parts h i j)
      cut_picks (F.later h) i j = F.from_later (cut_picks h i j)

    mutual
      pub front : {S : Shape} {t u : List Event} → Front env m S t u → {z : List Event} → Rest t z → Rest z u → Front env m S t z
      front F.nothing i j = at_start (only i j)
      front (F.all h) i j = cut h i j
      front (F.exits fits) here j = F.nothing
      front (F.exits fits) (later i) j = at_end (only i j) (F.exits fits)
      front (F.inside {s = s} {t = t} {u = u} k e h) {z = z} i j = elim (short.pre s t u z e i) as (λ r. Front env m (Call s) t z) [ inl a ↦ at_start a | inr b ↦ F.inside k e (front h b j) ]
      front (F.in_left h) i j = F.in_left (front h i j)
      front (F.in_right h) i j = F.in_right (front h i j)
      front (F.in_test r c) i j = via (read_rounds r) i (λ a. F.in_test r (front c a j)) (λ b. cut_rounds r i b)
      front (F.in_body r c h) i j = via (read_rounds r) i (λ a. via (read c) a (λ b. F.in_body r c (front h b j)) (λ b. F.in_test r (cut c a b))) (λ b. cut_rounds r i b)
      front (F.in_step r c n h p) i j = via (read_rounds r) i (λ a. via (read c) a (λ b. via (read h) b (λ d. F.in_step r c n h (front p d j)) (λ d. F.in_body r c (cut h b d))) (λ b. F.in_test r (cut c a b))) (λ b. cut_rounds r i b)
      front (F.in_do r h) i j = via (read_agains r) i (λ a. F.in_do r (front h a j)) (λ b. cut_agains r i b)
      front (F.in_until r n h c) i j = via (read_agains r) i (λ a. via (read h) a (λ b. F.in_until r n h (front c b j)) (λ b. F.in_do r (cut h a b))) (λ b. cut_agains r i b)
      front (F.in_seq h) i j = F.in_seq (front_parts h i j)
      front (F.in_cases h) i j = F.in_cases (front_picks h i j)

      front_parts : {ps : Parts} {t u : List Event} → FrontFalls env m ps t u → {z : List Event} → Rest t z → Rest z u → FrontFalls env m ps t z
      front_parts (F.in_part h) i j = F.in_part (front h i j)
      front_parts (F.in_next h r) i j = via (read h) i (λ a. F.in_next h (front_parts r a j)) (λ a. F.in_part (cut h i a))

      front_picks : {ps : Parts} {t u : List Event} → FrontPicks env m ps t u → {z : List Event} → Rest t z → Rest z u → FrontPicks env m ps t z
      front_picks (F.from_this h) i j = F.from_this (front_parts h i j)
      front_picks (F.from_later h) i j = F.from_later (front_picks h i j)
