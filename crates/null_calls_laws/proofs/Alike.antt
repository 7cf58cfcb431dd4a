-- What is counted in a part with null calls round its marked calls, and in the plain part.
use Rattle.std.proofs.Common.{◌≡◌, ℕ, suc, ◌+◌, ◌*◌, ◌≤◌, max, List, [], ◌++◌, refl, ap, ap₂, arith}
use Rattle.c_rules.specs.Names.{Name}

-- the same names or strings, the same tags of structs, at most three times as many calls, and nodes that are at most twice as deep
pub record Alike {A : Type 0} (s s' : List A) (g g' : List Name) (c c' h h' : ℕ) : Type 0 where
  pub listed : s ≡ s'
  pub tagged : g ≡ g'
  pub calls_most : c ≤ 3 * c'
  pub low : h ≤ 2 * h'

pub same : {A : Type 0} (s : List A) (g : List Name) (c h : ℕ) → Alike s s g g c c h h
same s g c h = record { listed = refl; tagged = refl; calls_most = omega arith; low = omega arith }

pub beside : {A : Type 0} {s s' t t' : List A} {g g' i i' : List Name} {c c' d d' h h' k k' : ℕ} → Alike s s' g g' c c' h h' → Alike t t' i i' d d' k k' → Alike (s ++ t) (s' ++ t') (g ++ i) (g' ++ i') (c + d) (c' + d') (max h k) (max h' k')
beside a b = record {
  listed = ap₂ (λ xs ys. xs ++ ys) a.listed b.listed;
  tagged = ap₂ (λ xs ys. xs ++ ys) a.tagged b.tagged;
  calls_most = (let m = a.calls_most in let n = b.calls_most in omega (arith, m, n));
  low = (let m = a.low in let n = b.low in omega (arith, m, n));
}

-- behind the same part without calls
pub behind : {A : Type 0} {t t' : List A} {i i' : List Name} {d d' k k' : ℕ} (s : List A) (g : List Name) (h : ℕ) → Alike t t' i i' d d' k k' → Alike (s ++ t) (s ++ t') (g ++ i) (g ++ i') d d' (max h k) (max h k')
behind s g h a = record { listed = ap (λ xs. s ++ xs) a.listed; tagged = ap (λ xs. g ++ xs) a.tagged; calls_most = a.calls_most; low = (let l = a.low in omega (arith, l)) }

-- of which the second lists nothing
pub before : {A : Type 0} {s s' : List A} {g g' i i' : List Name} {c c' d d' h h' k k' : ℕ} → Alike s s' g g' c c' h h' → Alike {A = A} [] [] i i' d d' k k' → Alike s s' (g ++ i) (g' ++ i') (c + d) (c' + d') (max h k) (max h' k')
before a b = (let r = beside a b in record { listed = a.listed; tagged = r.tagged; calls_most = r.calls_most; low = r.low })

pub unlisted : {A B : Type 0} {s s' : List A} {g g' : List Name} {c c' h h' : ℕ} → Alike s s' g g' c c' h h' → Alike {A = B} [] [] g g' c c' h h'
unlisted a = record { listed = refl; tagged = a.tagged; calls_most = a.calls_most; low = a.low }

-- a node over it in both, or in the plain one
pub deeper : {A : Type 0} {s s' : List A} {g g' : List Name} {c c' h h' : ℕ} → Alike s s' g g' c c' h h' → Alike s s' g g' c c' (suc h) (suc h')
deeper a = record { listed = a.listed; tagged = a.tagged; calls_most = a.calls_most; low = (let l = a.low in omega (arith, l)) }

pub lower : {A : Type 0} {s s' : List A} {g g' : List Name} {c c' h h' : ℕ} → Alike s s' g g' c c' h h' → Alike s s' g g' c c' h (suc h')
lower a = record { listed = a.listed; tagged = a.tagged; calls_most = a.calls_most; low = (let l = a.low in omega (arith, l)) }
