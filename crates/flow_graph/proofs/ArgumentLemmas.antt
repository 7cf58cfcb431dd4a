-- Recorded arguments by their places, and the entries of a pattern one after another.
use Rattle.std.proofs.Common.{◌≡◌, ◌≢◌, ℕ, zero, suc, ◌+◌, ◌<◌, ◌≤◌, List, [], ◌∷◌, length, get_or, replicate, Option, None, ℤ, refl, ap, ap₂, ◌∙◌, arith}
use Rattle.std.specs.Prelude.{slice_get}
use Rattle.sys_table.specs.declared.kinds.ArgKind.{ArgKind}
use Rattle.sys_table.specs.declared.kinds.ArgKind.TheVariants.{Signed}
use Rattle.sys_table.specs.Table.{recorded_of}
use Rattle.c_tree.specs.declared.tree.TExpr.{TExpr}
use Rattle.c_tree.specs.View.{exprs_of}
use Rattle.c_tree.specs.Constants.{entries, recorded_arguments, pattern_of}
use Rattle.flow_graph.specs.Recorded.{recorded, entry_where}

pub other_place : (name : ℕ) (i : ℕ) → name ≢ 0 → (es : List TExpr) → slice_get es i ≡ slice_get (recorded name es) i
other_place zero i h es = absurd (h refl)
other_place (suc name) i h es = refl

pub first_place : (name : ℕ) (es : List TExpr) → slice_get es 0 ≡ slice_get (recorded name es) 0
first_place zero [] = refl
first_place zero (descriptor ∷ []) = refl
first_place zero (descriptor ∷ (buffer ∷ es)) = refl
first_place (suc name) es = refl

recorded_are : (name : ℕ) (es : List TExpr) → exprs_of (recorded name es) ≡ recorded_arguments name (exprs_of es)
recorded_are zero [] = refl
recorded_are zero (descriptor ∷ []) = refl
recorded_are zero (descriptor ∷ (buffer ∷ es)) = refl
recorded_are (suc name) es = refl

entries_are : (kinds : List ArgKind) (es : List TExpr) (xs : List (Option ℤ)) → length xs ≡ length kinds → ((i : ℕ) → i < length kinds → get_or xs i None ≡ entry_where (get_or kinds i Signed) (slice_get es i)) → xs ≡ entries kinds (exprs_of es)
entries_are [] es [] many are = refl
entries_are [] es (x ∷ xs) many are = absurd (omega (arith, many))
entries_are (kind ∷ kinds) es [] many are = absurd (omega (arith, many))
entries_are (kind ∷ kinds) [] (x ∷ xs) many are = ap₂ (λ y ys. y ∷ ys) (are 0 (omega arith)) (entries_are kinds [] xs (omega (arith, many)) (λ i lt. are (suc i) (omega (arith, lt))))
entries_are (kind ∷ kinds) (e ∷ es) (x ∷ xs) many are = ap₂ (λ y ys. y ∷ ys) (are 0 (omega arith)) (entries_are kinds es xs (omega (arith, many)) (λ i lt. are (suc i) (omega (arith, lt))))

-- of which nothing is known
abbrev pub nothing : Option ℤ
nothing = None

pub nothing_known : (n k : ℕ) → get_or (replicate n nothing) k None ≡ None
nothing_known (suc n) (suc k) = nothing_known n k
nothing_known n k = refl

-- what is known of the arguments before the place i
pub record AreKnown (name : ℕ) (kinds : List ArgKind) (es : List TExpr) (i : ℕ) (xs : List (Option ℤ)) : Type 0 where
  pub many : length xs ≡ length kinds
  pub known : (k : ℕ) → k < i → get_or xs k None ≡ entry_where (get_or kinds k Signed) (slice_get (recorded name es) k)
  pub open_from : (k : ℕ) → i ≤ k → get_or xs k None ≡ None

pub none_known : (name n : ℕ) (kinds : List ArgKind) (es : List TExpr) → length (replicate n nothing) ≡ length kinds → AreKnown name kinds es 0 (replicate n nothing)
none_known name n kinds es many = record { many = many; known = λ k lt. absurd (omega (arith, lt)); open_from = λ k le. nothing_known n k }

below_or_same : (k i : ℕ) → k < i + 1 → k ≢ i → k < i
below_or_same k i lt ne = omega (arith, lt, ne)

same_or_not : (k i : ℕ) → (P : ℕ → Type 0) → P i → (k ≢ i → P k) → P k
same_or_not zero zero P at other = at
same_or_not zero (suc i) P at other = other (λ e. absurd (omega (arith, e)))
same_or_not (suc k) zero P at other = other (λ e. absurd (omega (arith, e)))
same_or_not (suc k) (suc i) P at other = same_or_not k i (λ m. P (suc m)) at (λ ne. other (λ e. ne (omega (arith, e))))

pub one_known : (name : ℕ) (kinds : List ArgKind) (es : List TExpr) (i : ℕ) (old new : List (Option ℤ)) (x : Option ℤ) → AreKnown name kinds es i old → length new ≡ length old
    → get_or new i None ≡ x → ((k : ℕ) → k ≢ i → get_or new k None ≡ get_or old k None) → x ≡ entry_where (get_or kinds i Signed) (slice_get (recorded name es) i) → AreKnown name kinds es (i + 1) new
one_known name kinds es i old new x before many here others is = record {
  many = many ∙ before.many;
  known = λ k lt. same_or_not k i (λ k. k < i + 1 → get_or new k None ≡ entry_where (get_or kinds k Signed) (slice_get (recorded name es) k)) (λ _. here ∙ is) (λ ne lt. others k ne ∙ before.known k (below_or_same k i lt ne)) lt;
  open_from = λ k le. others k (λ e. omega (arith, le, e)) ∙ before.open_from k (omega (arith, le));
}

pub all_known : (name : ℕ) (kinds : List ArgKind) (es : List TExpr) (i : ℕ) (xs : List (Option ℤ)) → kinds ≡ recorded_of name → length kinds ≤ i → AreKnown name kinds es i xs → xs ≡ pattern_of name (exprs_of es)
all_known name kinds es i xs are over known =
    entries_are kinds (recorded name es) xs known.many (λ k lt. known.known k (omega (arith, lt, over))) ∙ ap (entries kinds) (recorded_are name es) ∙ ap (λ ks. entries ks (recorded_arguments name (exprs_of es))) are
