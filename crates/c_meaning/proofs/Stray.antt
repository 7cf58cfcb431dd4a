-- No break and no continue leads out of a function.
use Rattle.std.proofs.Common.{◌≡◌, Bool, true}
use Rattle.c_meaning.specs.Shape.{Shape, Parts}
use Rattle.c_meaning.specs.Bodies.{IsStatement, AreStatements}
use Rattle.c_meaning.specs.Walks.{Point, PartPoint, left, right, test, step, do_test, this, later, Target, at, by_break, by_continue, past, stopped, Map, apply, plain, of_body, of_do, of_seq, of_cases, Label, Silent, System, Hop, PartHop}
use Rattle.c_meaning.specs.Walks as W
use Rattle.c_meaning.proofs.Owns.{statement}

-- what is read there is nothing, and A holds
abbrev Silently : Label → Type 0 → Type 0
Silently Silent A = A
Silently l A = ⊥

abbrev IsSystem : Label → Type 0
IsSystem (System n q) = Unit {0}
IsSystem l = ⊥

-- a step with these flags may lead there: one that reads, to a point or to the end of the program, a call to a point
abbrev pub Allowed : {P : Type 0} → Target P → Label → Bool → Bool → Type 0
Allowed (at x) l b c = Unit {0}
Allowed by_break l b c = Silently l (b ≡ true)
Allowed by_continue l b c = Silently l (c ≡ true)
Allowed stopped l b c = IsSystem l
Allowed t l b c = Silently l (Unit {0})

-- a part's step in the whole, where the exits that the map changes may lead
carried : {P Q : Type 0} (m : Map P Q) (t : Target P) (l : Label) (b c d e : Bool) → (Silently l (b ≡ true) → Allowed (m.break_to) l d e) → (Silently l (c ≡ true) → Allowed (m.continue_to) l d e) → (Silently l (Unit {0}) → Allowed (m.past_to) l d e) → Allowed t l b c → Allowed (apply m t) l d e
carried m (at x) l b c d e f g k h = tt
carried m by_break l b c d e f g k h = f h
carried m by_continue l b c d e f g k h = g h
carried m past l b c d e f g k h = k h
carried m t l b c d e f g k h = h

plainly : {P Q : Type 0} (f : P → Q) (t : Target P) (l : Label) (b c : Bool) → Allowed t l b c → Allowed (apply (plain f) t) l b c
plainly f t l b c h = carried (plain f) t l b c b c (λ k. k) (λ k. k) (λ k. k) h

mutual
  pub allowed : {S : Shape} {x : Point S} {l : Label} {t : Target (Point S)} → Hop S x l t → (b c : Bool) → IsStatement S b c → Allowed t l b c
  allowed (W.in_left {l = l} {t = t} h) b c s = plainly left t l b c (allowed h b c s.0)
  allowed (W.in_right {l = l} {t = t} h) b c s = plainly right t l b c (allowed h b c s.1)
  allowed (W.in_test {C = C} {l = l} {t = t} h) b c s = plainly test t l b c (allowed h b c (statement C b c s.0))
  allowed (W.in_inner {C = C} {B = B} {P = P} {l = l} {t = t} h) b c s = carried (of_body C B P) t l true true b c (λ k. tt) (λ k. tt) (λ k. k) (allowed h true true s.1)
  allowed (W.in_step {P = P} {l = l} {t = t} h) b c s = plainly step t l b c (allowed h b c (statement P b c s.2))
  allowed (W.in_do {B = B} {C = C} {l = l} {t = t} h) b c s = carried (of_do B C) t l true true b c (λ k. tt) (λ k. tt) (λ k. k) (allowed h true true s.0)
  allowed (W.in_until {C = C} {l = l} {t = t} h) b c s = plainly do_test t l b c (allowed h b c (statement C b c s.1))
  allowed (W.in_seq {S = S} {ps = ps} {l = l} {t = t} h) b c s = carried (of_seq S ps) t l b c b c (λ k. k) (λ k. k) (λ k. tt) (part_allowed h b c s)
  allowed (W.in_case {ps = ps} {d = d} {l = l} {t = t} h) b c s = carried (of_cases ps d) t l true c b c (λ k. tt) (λ k. k) (λ k. tt) (part_allowed h true c s)
  allowed W.break_out b c s = s
  allowed W.continue_on b c s = s
  allowed u b c s = tt

  part_allowed : {ps : Parts} {x : PartPoint ps} {l : Label} {t : Target (PartPoint ps)} → PartHop ps x l t → (b c : Bool) → AreStatements ps b c → Allowed t l b c
  part_allowed (W.in_this {l = l} {t = t} h) b c s = plainly this t l b c (allowed h b c s.0)
  part_allowed (W.in_later {l = l} {t = t} h) b c s = plainly later t l b c (part_allowed h b c s.1)
  part_allowed u b c s = tt
