-- Names behind blanks; past the system calls a function has no name.
use Rattle.std.proofs.Common.{◌≡◌, ℕ, zero, suc, ◌+◌, ◌-◌, ◌≤◌, List, [], ◌∷◌, ◌++◌, length, Result, Ok, Err, OnOk, if◌then◌else◌, slice_get, slice_index_or, refl, sym, ap, ◌∙◌, arith, append-nil}
use Rattle.std.specs.Prelude.{codes}
use Rattle.std.proofs.lemmas.Bool.{le-ltb}
use Rattle.std.proofs.lemmas.List.{append_assoc}
use Rattle.sys_table.specs.Table.{Row, row, table, name_of}
use Rattle.sys_table.specs.declared.kinds.ResultKind.TheVariants.{Void}
use Rattle.c_tree.specs.Functions.{defined, name_where, name_of_function}
use Rattle.c_tree.specs.Tree.{Program}
use Rattle.site_lines.specs.SiteLines.{name_behind}

past_rows : (rows : List Row) (k : ℕ) (d : Row) → length rows ≤ k → slice_index_or rows k d ≡ d
past_rows [] zero d l = refl
past_rows [] (suc k) d l = refl
past_rows (r ∷ rows) zero d l = absurd (omega (arith, l))
past_rows (r ∷ rows) (suc k) d l = past_rows rows k d (omega (arith, l))

many_rows : length table ≡ 24
unfolding table
many_rows = refl

unnamed : (n : ℕ) → 24 ≤ n → name_of n ≡ []
unnamed n l = ap (λ (r : Row). r.name) (past_rows table n (row [] [] Void) (let m = many_rows in omega (arith, l, m)))

no_name : (p : Program) (f : ℕ) → defined p + 24 ≤ f → name_of_function p f ≡ []
no_name p f l =
    ap (λ b. if b then name_where (slice_get p.functions f) else name_of (f - defined p)) (le-ltb f (defined p) (omega (arith, l)))
    ∙ unnamed (f - defined p) (omega (arith, l))

-- a blank alone
pub without_name : (p : Program) (f : ℕ) (old new : List ℕ) → defined p + 24 ≤ f → new ≡ old ++ codes " " → new ≡ old ++ name_behind p f
without_name p f old new l e = e ∙ ap (λ z. old ++ z) (sym (append-nil (codes " ")) ∙ ap (λ z. codes " " ++ z) (sym (no_name p f l)))

-- a blank and a name
pub with_name : {E : Type 0} (r : Result (Unit {0}) E) (p : Program) (f : ℕ) (old mid new name : List ℕ) → mid ≡ old ++ codes " " → name ≡ name_of_function p f → OnOk r (new ≡ mid ++ name) → OnOk r (new ≡ old ++ name_behind p f)
with_name (Ok u) p f old mid new name first e is = is ∙ ap (λ z. z ++ name) first ∙ append_assoc old (codes " ") name ∙ ap (λ z. old ++ (codes " " ++ z)) e
with_name (Err x) p f old mid new name first e is = is
