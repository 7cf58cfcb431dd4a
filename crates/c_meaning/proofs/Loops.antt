-- What loops and switches do, beside their shapes.
use Rattle.std.proofs.Common.{◌≡◌, ℕ, suc, ◌<◌, Bool, true, false, ◌||◌, if◌then◌else◌, List, [], ◌∷◌, ◌++◌, Option, Some, None, sym, ap, ◌∙◌, subst, refl, append-nil, arith}
use Rattle.std.specs.List.{list_any}
use Rattle.std.specs.Option.{option_map}
use Rattle.std.proofs.lemmas.Bool.{false≢true}
use Rattle.dm_base.specs.declared.event.Event.{Event}
use Rattle.c_tree.specs.declared.value.Value.{Value}
use Rattle.c_tree.specs.declared.tree.TLabel.{TLabel}
use Rattle.c_tree.specs.declared.tree.TLabel.TheVariants.{Case}
use Rattle.c_tree.specs.Tree.{Groups, no_groups, more_groups}
use Rattle.c_meaning.specs.Meaning.{either, is_case, is_default, group_with, count_groups, or_else, selected}
use Rattle.c_meaning.specs.Results.{State, Result, Go, Stop, then_do, Exit, on, broken, returned, on_round}
use Rattle.c_meaning.specs.Shape.{Shape, Skip, Loop, Do, Shapes, Leave, goes_on, breaks, returns, IsNext}
use Rattle.c_meaning.specs.Words.{Marks, Whole, Front}
use Rattle.c_meaning.specs.Words as F
use Rattle.c_meaning.specs.ShapeOf.{has_default_label, has_default}
use Rattle.c_meaning.proofs.Words.{loop_whole, loop_front, do_whole, do_front}
use Rattle.c_meaning.proofs.Says.{told, Gives, Tells, left_by, Straight, after_tells, Says}

module _ (env : Shapes) (m : Marks) (keep : Event → List Event) where
  module _ (C B P : Shape) where
    abbrev Whole_loop : Leave → List Event → List Event → Type 0
    Whole_loop = Whole env m (Loop C B P)

    abbrev Front_loop : List Event → List Event → Type 0
    Front_loop = Front env m (Loop C B P)

    -- what is read of the loop once its test was read
    abbrev Tested : Leave → List Event → List Event → Type 0
    Tested x t u = (s : List Event) → Whole env m C goes_on s t → Whole_loop x s u

    abbrev FrontTested : List Event → List Event → Type 0
    FrontTested t u = (s : List Event) → Whole env m C goes_on s t → Front_loop s u

    -- and once its body was read
    abbrev Rounded : Leave → List Event → List Event → Type 0
    Rounded x t u = (s r : List Event) (y : Leave) → Whole env m C goes_on s r → IsNext y → Whole env m B y r t → Whole_loop x s u

    abbrev FrontRounded : List Event → List Event → Type 0
    FrontRounded t u = (s r : List Event) (y : Leave) → Whole env m C goes_on s r → IsNext y → Whole env m B y r t → Front_loop s u

    module _ (Good : State → Type 0) where
      after_step : (q : Result Exit) (again : State → Result Exit) → Says env m keep {A = Exit} Straight P q → Gives {A = Exit} (λ x st. Good st) q → ((st : State) → Good st → Says env m keep {A = Exit} left_by (Loop C B P) (again st)) → Tells keep {A = Exit} left_by Rounded FrontRounded (then_do q (λ y st. again st))
      after_step (Go y st v) again h g k =
          after_tells keep {A = Exit} left_by Whole_loop Rounded Front_loop FrontRounded v (again st) (λ x t u q s r y c n b. loop_whole env m c n b (h t) q) (λ t u q s r y c n b. loop_front env m c n b (h t) q) (k st g)
      after_step (Stop o v) again h g k = λ u s r y c n b. F.in_step F.none c n b (h u)

      after_body : (q : Result Exit) (step again : State → Result Exit) → Says env m keep {A = Exit} left_by B q → Gives {A = Exit} (λ x st. Good st) q → ((st : State) → Good st → Says env m keep {A = Exit} Straight P (step st)) → ((st : State) → Good st → Gives {A = Exit} (λ x st. Good st) (step st)) → ((st : State) → Good st → Says env m keep {A = Exit} left_by (Loop C B P) (again st)) → Tells keep {A = Exit} left_by Tested FrontTested (then_do q (λ x st. on_round x st (λ st. then_do (step st) (λ y st. again st))))
      after_body (Go broken st z) step again h g hs gs k =
          λ u s c. F.loop_break F.none c (subst (λ z. Whole env m B breaks (told keep z ++ u) u) (sym (append-nil z)) (h u))
      after_body (Go (returned v) st z) step again h g hs gs k =
          λ u s c. F.loop_return F.none c (subst (λ z. Whole env m B returns (told keep z ++ u) u) (sym (append-nil z)) (h u))
      after_body (Go x st z) step again h g hs gs k =
          after_tells keep {A = Exit} left_by Rounded Tested FrontRounded FrontTested z (then_do (step st) (λ y st. again st)) (λ y t u q s c. q s (told keep z ++ t) (left_by x) c tt (h t)) (λ t u q s c. q s (told keep z ++ t) (left_by x) c tt (h t)) (after_step (step st) again (hs st g) (gs st g) k)
      after_body (Stop o z) step again h g hs gs k = λ u s c. F.in_body F.none c (h u)

      pub round_says : (test : Result Bool) (body step again : State → Result Exit) → Says env m keep {A = Bool} Straight C test → Gives {A = Bool} (λ b st. Good st) test → ((st : State) → Good st → Says env m keep {A = Exit} left_by B (body st)) → ((st : State) → Good st → Gives {A = Exit} (λ x st. Good st) (body st)) → ((st : State) → Good st → Says env m keep {A = Exit} Straight P (step st)) → ((st : State) → Good st → Gives {A = Exit} (λ x st. Good st) (step st)) → ((st : State) → Good st → Says env m keep {A = Exit} left_by (Loop C B P) (again st)) → Says env m keep {A = Exit} left_by (Loop C B P) (then_do test (λ holds st. either holds (then_do (body st) (λ x st. on_round x st (λ st. then_do (step st) (λ y st. again st)))) (Go on st [])))
      round_says (Go true st w) body step again h g hb gb hs gs k =
          after_tells keep {A = Exit} left_by Tested Whole_loop FrontTested Front_loop w (then_do (body st) (λ x st. on_round x st (λ st. then_do (step st) (λ y st. again st)))) (λ x t u q. q (told keep w ++ t) (h t)) (λ t u q. q (told keep w ++ t) (h t)) (after_body (body st) step again (hb st g) (gb st g) hs gs k)
      round_says (Go false st w) body step again h g hb gb hs gs k =
          λ u. F.loop_end F.none (subst (λ z. Whole env m C goes_on (told keep z ++ u) u) (sym (append-nil w)) (h u))
      round_says (Stop o w) body step again h g hb gb hs gs k = λ u. F.in_test F.none (h u)

  -- a body, and then the loop with the test first
  pub do_says : (B C : Shape) (Good : State → Type 0) (q : Result Exit) (again : State → Result Exit) → Says env m keep {A = Exit} left_by B q → Gives {A = Exit} (λ x st. Good st) q → ((st : State) → Good st → Says env m keep {A = Exit} left_by (Loop C B Skip) (again st)) → Says env m keep {A = Exit} left_by (Do B C) (then_do q (λ x st. on_round x st again))
  do_says B C Good (Go broken st z) again h g k =
      λ u. F.do_break F.first (subst (λ z. Whole env m B breaks (told keep z ++ u) u) (sym (append-nil z)) (h u))
  do_says B C Good (Go (returned v) st z) again h g k =
      λ u. F.do_return F.first (subst (λ z. Whole env m B returns (told keep z ++ u) u) (sym (append-nil z)) (h u))
  do_says B C Good (Go x st z) again h g k =
      after_tells keep {A = Exit} left_by (Whole env m (Loop C B Skip)) (Whole env m (Do B C)) (Front env m (Loop C B Skip)) (Front env m (Do B C)) z (again st) (λ y t u q. do_whole env m {y = left_by x} tt (h t) q) (λ t u q. do_front env m {y = left_by x} tt (h t) q) (k st g)
  do_says B C Good (Stop o z) again h g k = λ u. F.in_do F.first (h u)

-- which group a switch goes on at
labels_default : (ls : List TLabel) → has_default_label ls ≡ list_any is_default ls
labels_default (Case v ∷ ls) = labels_default ls
labels_default ls = refl

found_from : (b : Bool) (o : Option ℕ) (n : ℕ) → ((k : ℕ) → o ≡ Some k → k < n) → (k : ℕ) → (if b then Some 0 else option_map suc o) ≡ Some k → k < suc n
found_from false (Some j) n h k e = let i = h j refl in grind (arith, e, i)
found_from b o n h k e = grind (arith, e)

group_within : (is : TLabel → Bool) (gs : Groups) (k : ℕ) → group_with is gs ≡ Some k → k < count_groups gs
group_within is no_groups k e = grind (arith, e)
group_within is (more_groups ls ss gs) k e = found_from (list_any is ls) (group_with is gs) (count_groups gs) (group_within is gs) k e

low_from : (b c : Bool) (o : Option ℕ) (n : ℕ) → (b || c) ≡ true → (c ≡ true → or_else o n < n) → or_else (if b then Some 0 else option_map suc o) (suc n) < suc n
low_from true c o n h k = omega arith
low_from false c None n h k = let i = k h in omega (arith, i)
low_from false c (Some j) n h k = let i = k h in omega (arith, i)

default_low : (gs : Groups) → has_default gs ≡ true → or_else (group_with is_default gs) (count_groups gs) < count_groups gs
default_low no_groups h = absurd (false≢true h)
default_low (more_groups ls ss gs) h =
    low_from (list_any is_default ls) (has_default gs) (group_with is_default gs) (count_groups gs) (ap (λ b. b || has_default gs) (sym (labels_default ls)) ∙ h) (default_low gs)

selected_if : (a : Option ℕ) (m n : ℕ) → ((k : ℕ) → a ≡ Some k → k < n) → m < n → or_else a m < n
selected_if (Some j) m n h k = h j refl
selected_if None m n h k = k

-- with a default some group is selected
pub selected_within : (v : Value) (gs : Groups) → has_default gs ≡ true → selected v gs < count_groups gs
selected_within v gs h =
    selected_if (group_with (is_case v) gs) (or_else (group_with is_default gs) (count_groups gs)) (count_groups gs) (group_within (is_case v) gs) (default_low gs h)
