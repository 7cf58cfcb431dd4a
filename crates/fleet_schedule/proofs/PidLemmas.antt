-- Numbers of processes, and what their decimals begin with.
use Rattle.std.proofs.Common.{◌≡◌, ◌≢◌, ℕ, zero, suc, ◌+◌, ◌*◌, ◌/◌, ◌%◌, ◌^◌, ◌<◌, ◌≤◌, Bool, true, false, not, nat_eq, List, [], ◌∷◌, ◌++◌, length, get_or, decimal, refl, sym, ◌∙◌, ap, subst, inl, inr, Contains, All, IsTrue, arith}
use Rattle.std.specs.Prelude.{◌⊎◌, ◌↔◌, if◌then◌else◌}
use Rattle.std.proofs.Math.Nat.{pow-succ', mul-le-mul_left}
use Rattle.std.proofs.lemmas.Bool.{cases_eq, eqb-true, eq-eqb, false≢true}
use Rattle.std.proofs.lemmas.List.{append-nil, get_or_default}
use Rattle.std.proofs.lemmas.List.Elements.{All-head, All-tail}
use Rattle.std.proofs.lemmas.Fmt.{decimal_injective, decimal_nonempty}
use Rattle.line_text.specs.Numbers.{IsFrontOf}
use Rattle.line_text.specs.Spelling.{BeginsOne}
use Rattle.line_text.proofs.NumberLemmas.{front_same, front_of_shorter, front_le, decimal_of_longer, decimal_of_front}
use Rattle.fleet_schedule.specs.declared.line.Line.{Line}
use Rattle.fleet_schedule.specs.Lines.{IsFresh}
use Rattle.fleet_schedule.specs.ScheduleText.{IsRightLine, pids}
use Rattle.dm_base.proofs.Without.{without, without_le, without_less, in_without}

-- the numbers by their places

pub pid_at : (ps : List Line) (k : ℕ) (d : Line) → k < length ps → Contains (pids ps) (get_or ps k d).pid
pid_at [] k d less = absurd (omega arith)
pid_at (l ∷ ps) zero d less = (0, omega arith, refl)
pid_at (l ∷ ps) (suc k) d less = let more = pid_at ps k d (omega arith) in (suc more.0, omega (arith, more.1), more.2)

pub pid_place : (ps : List Line) (p : ℕ) → Contains (pids ps) p → (k : ℕ) × (k < length ps) × ((d : Line) → (get_or ps k d).pid ≡ p)
pid_place [] p (k, within, is) = absurd (omega (arith, within))
pid_place (l ∷ ps) p (zero, within, is) = (0, omega arith, λ d. is)
pid_place (l ∷ ps) p (suc k, within, is) =
    let more = pid_place ps p (k, omega (arith, within), is) in
    (suc more.0, omega (arith, more.1), more.2)

-- a number that is not in a list

later_in : (x y : ℕ) (xs : List ℕ) → Contains xs y → Contains (x ∷ xs) y
later_in x y xs (k, within, is) = (suc k, omega (arith, within), is)

has_or_not : (xs : List ℕ) (n : ℕ) → Contains xs n ⊎ (Contains xs n → ⊥)
has_or_not [] n = inr (λ has. omega (arith, has.1))
has_or_not (x ∷ xs) n = elim (cases_eq x n) [
  | inl same ↦ inl (0, omega arith, same)
  | inr other ↦ elim (has_or_not xs n) [
    | inl has ↦ inl (later_in x n xs has)
    | inr none ↦ inr (not_in x xs n other none)
  ]
] where
  not_in : (x : ℕ) (xs : List ℕ) (n : ℕ) → (x ≡ n → ⊥) → (Contains xs n → ⊥) → Contains (x ∷ xs) n → ⊥
  not_in x xs n other none (zero, within, is) = other is
  not_in x xs n other none (suc k, within, is) = none (k, omega (arith, within), is)

-- of more numbers than a list has, one is not in it
pub some_outside : (k : ℕ) (xs : List ℕ) → length xs < k → (n : ℕ) × (n < k) × (Contains xs n → ⊥)
some_outside zero xs less = absurd (omega arith)
some_outside (suc k) xs less = elim (has_or_not xs k) [
  | inr none ↦ (k, omega arith, none)
  | inl has ↦
      let fewer = without_less k xs has in
      let found = some_outside k (without k xs) (omega arith) in
      let below : found.0 < k = found.1 in
      (found.0, omega arith, λ in_xs. found.2 (in_without k found.0 xs (λ same. omega arith) in_xs))
]

pids_length : (ps : List Line) → length (pids ps) ≡ length ps
pids_length [] = refl
pids_length (l ∷ ps) = ap suc (pids_length ps)

-- of 64 processes none has some number
pub some_fresh : (ps : List Line) → length ps ≤ 64 → (n : ℕ) × IsFresh ps n
some_fresh ps few =
    let same : length (pids ps) ≡ length ps = pids_length ps in
    let found = some_outside 65 (pids ps) (omega arith) in
    (found.0, record { small = omega (arith, found.1); new = found.2 })

-- fronts of decimals

-- what begins with m is m, or begins with one digit more
front_down_at : (k m n j : ℕ) → j < 10 ^ k → n ≡ m * 10 ^ k + j → (n ≡ m) ⊎ ((d : ℕ) × (d < 10) × IsFrontOf (10 * m + d) n)
front_down_at zero m n j small is = inl (omega arith)
front_down_at (suc k) m n j small is =
    let small' : j < 10 * 10 ^ k = rw pow-succ' at small in
    let is' : n ≡ m * (10 * 10 ^ k) + j = rw pow-succ' at is in
    elim (front_down_at k m (n / 10) (j / 10) (omega arith) (omega arith)) [
      | inl same ↦ inr (n % 10, omega arith, front_same (10 * m + n % 10) n (omega arith))
      | inr longer ↦ inr (longer.0, longer.1, front_of_shorter (10 * m + longer.0) n longer.2)
    ]

pub front_down : (m n : ℕ) → IsFrontOf m n → (n ≡ m) ⊎ ((d : ℕ) × (d < 10) × IsFrontOf (10 * m + d) n)
front_down m n (k, j, small, is) = front_down_at k m n j small is

pub front_up : (m n d : ℕ) → d < 10 → IsFrontOf (10 * m + d) n → IsFrontOf m n
front_up m n d digit (k, j, small, is) =
    let nine : 10 ^ k * d ≤ 10 ^ k * 9 = mul-le-mul_left (10 ^ k) (omega arith) in
    (suc k, d * 10 ^ k + j, rw pow-succ' (omega arith), rw pow-succ' (omega arith))

-- what a text begins

pub begins_all : (P : ℕ → Type 0) (n : ℕ) → P n → BeginsOne P decimal []
begins_all P n has = (n, decimal n, has, refl)

pub begins_zero : (P : ℕ → Type 0) (text : List ℕ) → ((n : ℕ) → P n → n < 2 ^ 32) → text ≡ decimal 0 → P 0 ↔ BeginsOne P decimal text
begins_zero P text small is = (
  λ has. (0, [], has, sym is ∙ sym (append-nil text)),
  λ (n, rest, has, begins).
      let low = small n has in
      let found = decimal_of_front text rest n (λ empty. omega (arith, decimal_nonempty 0 (omega arith), ap length (sym is ∙ empty))) (omega arith) begins in
      let none : found.0 ≡ 0 = decimal_injective found.0 0 (omega (arith, front_le found.0 n found.2)) (omega arith) (sym found.1 ∙ is) in
      subst P (found.3 none) has,
)

pub begins_some : (P : ℕ → Type 0) (text : List ℕ) (front : ℕ) → ((n : ℕ) → P n → n < 2 ^ 32) → text ≡ decimal front → 0 < front → front < 2 ^ 32 → ((n : ℕ) × P n × IsFrontOf front n) ↔ BeginsOne P decimal text
begins_some P text front small is some fits = (
  λ (n, has, goes_on).
      let low = small n has in
      let found = decimal_of_longer front n some (omega arith) goes_on in
      (n, found.0, has, found.1 ∙ ap (λ w. w ++ found.0) (sym is)),
  λ (n, rest, has, begins).
      let low = small n has in
      let found = decimal_of_front text rest n (λ empty. omega (arith, decimal_nonempty front (omega arith), ap length (sym is ∙ empty))) (omega arith) begins in
      let same : found.0 ≡ front = decimal_injective found.0 front (omega (arith, front_le found.0 n found.2)) (omega arith) (sym found.1 ∙ is) in
      (n, has, subst (λ (m : ℕ). IsFrontOf m n) same found.2),
)

pub begins_none : (P : ℕ → Type 0) (text : List ℕ) → ((n : ℕ) → P n → n < 2 ^ 32) → text ≢ [] → ((n : ℕ) → n < 2 ^ 32 → text ≡ decimal n → ⊥) → BeginsOne P decimal text → ⊥
begins_none P text small some none (n, rest, has, begins) =
    let low = small n has in
    let found = decimal_of_front text rest n some (omega arith) begins in
    none found.0 (omega (arith, front_le found.0 n found.2)) found.1

-- what a test on the front of a decimal tells
pub begins_front : (P : ℕ → Type 0) (text : List ℕ) (front f : ℕ) (b : Bool) → ((n : ℕ) → P n → n < 2 ^ 32) → f ≡ front → text ≡ decimal front → 0 < front → front < 2 ^ 32 → IsTrue b ↔ ((n : ℕ) × P n × IsFrontOf f n) → IsTrue b ↔ BeginsOne P decimal text
begins_front P text front f b small same is some fits tells =
    let both = begins_some P text front small is some fits in (
      λ holds. (let found = tells.0 holds in both.0 (found.0, found.1, subst (λ (m : ℕ). IsFrontOf m found.0) same found.2)),
      λ begins. (let found = both.1 begins in tells.1 (found.0, found.1, subst (λ (m : ℕ). IsFrontOf m found.0) (sym same) found.2)),
    )

pub fresh_tells : (ps : List Line) (b : Bool) (n : ℕ) → n < 2 ^ 32 → IsTrue b ↔ Contains (pids ps) n → IsTrue (not b) ↔ IsFresh ps n
fresh_tells ps true n small tells = (λ holds. absurd (false≢true holds), λ fresh. absurd (fresh.new (tells.0 refl)))
fresh_tells ps false n small tells = (λ holds. record { small = small; new = λ has. false≢true (tells.1 has) }, λ fresh. refl)

-- where the text is empty: whether there is a process
pub known_all : (ps : List Line) (b : Bool) (text : List ℕ) → b ≡ nat_eq (length ps) 0 → text ≡ [] → IsTrue (not b) ↔ BeginsOne (Contains (pids ps)) decimal text
known_all [] true text is none = (λ holds. absurd (false≢true holds), λ begins. absurd (omega (arith, begins.2.1)))
known_all [] false text is none = absurd (false≢true (is ∙ eq-eqb 0 0 refl))
known_all (l ∷ ps) true text is none = absurd (omega (arith, eqb-true (suc (length ps)) 0 (sym is)))
known_all (l ∷ ps) false text is none = (λ holds. (l.pid, decimal l.pid, (0, omega arith, refl), ap (λ t. t ++ decimal l.pid) (sym none)), λ begins. refl)

pub any_line : Line
any_line = record { pid = 0; file = []; model = []; results = []; turns = 0; bound = 0 }

pub same_at : (ps : List Line) (k i : ℕ) (d item : Line) → k ≡ i → i < length ps → item ≡ get_or ps i item → get_or ps k d ≡ item
same_at ps k i d item same within is = ap (λ (n : ℕ). get_or ps n d) same ∙ get_or_default ps i d item within ∙ sym is

pub pid_small : (ps : List Line) (p : ℕ) → All IsRightLine ps → Contains (pids ps) p → p < 2 ^ 32
pid_small [] p right (k, within, is) = absurd (omega (arith, within))
pid_small (l ∷ ps) p right (zero, within, is) = subst (λ (n : ℕ). n < 2 ^ 32) is (All-head IsRightLine l ps right).pid
pid_small (l ∷ ps) p right (suc k, within, is) = pid_small ps p (All-tail IsRightLine l ps right) (k, omega (arith, within), is)
