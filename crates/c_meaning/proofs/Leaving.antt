-- By which exits a shape is left.
use Rattle.std.proofs.Common.{◌≡◌, Bool, true, false, true≢false, List, sym, subst, refl}
use Rattle.dm_base.specs.declared.event.Event.{Event}
use Rattle.c_meaning.specs.Shape.{Shape, Shapes, Parts, Leave, goes_on, breaks, continues, IsDone, IsAway}
use Rattle.c_meaning.specs.Bodies.{IsExpression, AreExpressions, IsStatement, AreStatements, IsBody}
use Rattle.c_meaning.specs.Words.{Marks, Whole, Falls, Picks}
use Rattle.c_meaning.specs.Words as F

-- the exit is one by which a statement with these flags may be left
abbrev May : Leave → Bool → Bool → Type 0
May breaks b c = b ≡ true
May continues b c = c ≡ true
May a b c = Unit {0}

may_done : (x : Leave) → May x false false → IsDone x
may_done breaks h = absurd (true≢false (sym h))
may_done continues h = absurd (true≢false (sym h))
may_done x h = tt

module _ (env : Shapes) (m : Marks) where
  mutual
    pub straight : {S : Shape} {x : Leave} {t u : List Event} → Whole env m S x t u → IsExpression S → x ≡ goes_on
    straight F.skip e = refl
    straight (F.sys h) e = refl
    straight (F.call k h d i j) e = refl
    straight (F.left h) e = straight h e.0
    straight (F.right h) e = straight h e.1
    straight (F.in_order h) e = straight_parts h e
    straight a e = absurd e

    straight_parts : {ps : Parts} {x : Leave} {t u : List Event} → Falls env m ps x t u → AreExpressions ps → x ≡ goes_on
    straight_parts F.ended e = refl
    straight_parts (F.falls_on h r) e = straight_parts r e.1
    straight_parts (F.falls_away a h) e = absurd (subst IsAway (straight h e.0) a)

  mutual
    may : {S : Shape} {x : Leave} {t u : List Event} → Whole env m S x t u → (b c : Bool) → IsStatement S b c → May x b c
    may (F.left h) b c s = may h b c s.0
    may (F.right h) b c s = may h b c s.1
    may (F.in_order h) b c s = may_parts h b c s
    may (F.cases_continue h) b c s = may_picks h true c s
    may F.break_out b c s = s
    may F.continue_on b c s = s
    may a b c s = tt

    may_parts : {ps : Parts} {x : Leave} {t u : List Event} → Falls env m ps x t u → (b c : Bool) → AreStatements ps b c → May x b c
    may_parts F.ended b c s = tt
    may_parts (F.falls_on h r) b c s = may_parts r b c s.1
    may_parts (F.falls_away a h) b c s = may h b c s.0

    may_picks : {ps : Parts} {x : Leave} {t u : List Event} → Picks env m ps x t u → (b c : Bool) → AreStatements ps b c → May x b c
    may_picks (F.this h) b c s = may_parts h b c s
    may_picks (F.later h) b c s = may_picks h b c s.1

  pub done : {S : Shape} {x : Leave} {t u : List Event} → Whole env m S x t u → IsBody S → IsDone x
  done {x = x} h s = may_done x (may h false false s)
