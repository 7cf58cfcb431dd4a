-- Scopes that stand beside each other.
use Rattle.std.proofs.Common.{◌≡◌, Bool, true, false, cond, if◌then◌else◌, nat_eq, List, [], ◌∷◌, ◌++◌, Some, None, codes, refl, ap, ◌∙◌}
use Rattle.std.specs.Prelude.{bytes_eq, is_some}
use Rattle.c_tree.specs.Tree.{Program}
use Rattle.c_rules.specs.Names.{Name, after_front, begins_with, is_reserved, is_added}
use Rattle.c_rules.specs.Scopes.{Env, Binding, Meaning, lookup, with_name, inside}
use Rattle.null_calls_laws.specs.TypedAlike.{More, plain_scope, instrumented_scope, AreUnreserved, MeanAlike}
use Rattle.null_calls_laws.proofs.FileNames.{other_name, nulls_past}
use Rattle.null_calls_laws.specs.InstrumentedCalls.{NullCallsStand}
use Rattle.null_calls_laws.specs.Standing.{ReservedMeanAlike, StandBeside, stand_beside, BlocksStandBeside}

pub blocks_stand_beside : BlocksStandBeside
blocks_stand_beside p names e f (stand_beside env w u m n r) =
    stand_beside (inside env) w u m (record { runs = n.runs; named = n.named; functions = n.functions; pre_free = n.pre_free; post_free = n.post_free }) r

-- ## A name that isn't reserved

past_name : (c : Binding) (ns : List Binding) (y : Name) → is_reserved c.name ≡ false → is_reserved y ≡ true → lookup (c ∷ ns) y ≡ lookup ns y
past_name c ns y u r = ap (λ t. cond t (Some c) (lookup ns y)) (other_name c.name y u r)

-- behind the declaration of such a name with the same meaning in both
pub named_stand : (p : Program) (names : List Binding) (env : Env) (w : More) → AreUnreserved env.names → MeanAlike env.names w.names → NullCallsStand p env w → ReservedMeanAlike names w.names → (x : Name) (n : Meaning) → is_reserved x ≡ false → StandBeside p names (with_name (plain_scope env) x n) (with_name (instrumented_scope env w) x n)
named_stand p names env w u m s r x n h =
    let c : Binding = record { name = x; depth = env.depth; means = n } in
    stand_beside (with_name env x n) (record w { names = c ∷ w.names }) (h, u) (λ y e. ap (λ o. cond (bytes_eq x y) (Some c) o) (m y e))
    (record { runs = s.runs; named = nulls_past c w.names h s.named; functions = s.functions; pre_free = s.pre_free; post_free = s.post_free })
    (λ y e. past_name c w.names y h e ∙ r y e)

-- isn't one of the instrumenter's
begins_less : (xs ys z : Name) → begins_with xs z ≡ false → begins_with (xs ++ ys) z ≡ false
begins_less [] ys z h = (let no : true ≡ false = h in cc)
begins_less (b ∷ bs) ys [] h = refl
begins_less (b ∷ bs) ys (c ∷ cs) h = by_test (nat_eq b c) (begins_less bs ys cs) h
  where
    by_test : (t : Bool) → (is_some (after_front bs cs) ≡ false → is_some (after_front (bs ++ ys) cs) ≡ false) → is_some (if t then after_front bs cs else None) ≡ false → is_some (if t then after_front (bs ++ ys) cs else None) ≡ false
    by_test true k h = k h
    by_test false k h = refl

pub unadded : (x : Name) → is_reserved x ≡ false → is_added x ≡ false
unadded x h = begins_less (codes "__") (codes "dyck_") x h
