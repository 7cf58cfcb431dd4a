-- The names of temporaries are reserved, so a temporary means the same where reserved names do.
use Rattle.std.proofs.Common.{◌≡◌, ℕ, suc, ◌+◌, Bool, true, false, if◌then◌else◌, List, [], ◌∷◌, ◌++◌, Option, None, Some, refl, ◌∙◌}
use Rattle.c_tree.specs.Tree.{CType, CTypes, no_types, more_types}
use Rattle.c_syntax.specs.Tree.{Expr}
use Rattle.c_rules.specs.Names.{is_reserved}
use Rattle.c_rules.specs.Scopes.{Binding}
use Rattle.null_calls_laws.specs.MarkedCalls.{Called, Sites}
use Rattle.null_calls_laws.specs.Temporaries.{result_name, is_kept, Temporary, designator_kept, arguments_kept, result_kept, temporaries_where}
use Rattle.null_calls_laws.specs.InstrumentedExpressions.{kept}
use Rattle.null_calls_laws.proofs.Kept.{kept_has}
use Rattle.null_calls_laws.specs.Tabled.{AreFound}
use Rattle.null_calls_laws.specs.Standing.{ReservedMeanAlike, TemporariesStay}

abbrev pub AreReserved : List Temporary → Type 0
AreReserved [] = Unit {0}
AreReserved (x ∷ xs) = (is_reserved x.name ≡ true) × AreReserved xs

pub reserved_both : (xs ys : List Temporary) → AreReserved xs → AreReserved ys → AreReserved (xs ++ ys)
reserved_both [] ys g h = h
reserved_both (x ∷ xs) ys g h = (g.0, reserved_both xs ys g.1 h)

pub found_stay : (names ns : List Binding) → ReservedMeanAlike names ns → (k : ℕ) (xs : List Temporary) → AreReserved xs → AreFound names k xs → AreFound ns k xs
found_stay names ns alike k [] r f = tt
found_stay names ns alike k (x ∷ xs) r f = ((f.0.0, alike x.name r.0 ∙ f.0.1, f.0.2), found_stay names ns alike (suc k) xs r.1 f.1)

-- ## The temporaries of a call

designator_reserved : (site : ℕ) (o : Option CType) → AreReserved (designator_kept site o)
designator_reserved site None = tt
designator_reserved site (Some t) = (refl, tt)

arguments_reserved : (site i : ℕ) (ts : CTypes) → AreReserved (arguments_kept site i ts)
arguments_reserved site i no_types = tt
arguments_reserved site i (more_types t ts) = (refl, arguments_reserved site (suc i) ts)

result_reserved : (site : ℕ) (wanted : Bool) (t : CType) → AreReserved (result_kept site wanted t)
result_reserved site wanted t = by_test (is_kept wanted t)
  where
    by_test : (b : Bool) → AreReserved (if b then record { name = result_name site; ctype = t } ∷ [] else [])
    by_test true = (refl, tt)
    by_test false = tt

call_reserved : (site : ℕ) (wanted : Bool) (o : Option Called) → AreReserved (temporaries_where site wanted o)
call_reserved site wanted None = tt
call_reserved site wanted (Some c) = reserved_both _ _ (designator_reserved site c.pointer_type) (reserved_both _ _ (arguments_reserved site 0 c.parameters) (result_reserved site wanted c.returns))

-- ## Expressions

pub expr_reserved : (sites : Sites) (x : Expr) (b : ℕ) (wanted : Bool) → AreReserved (kept sites b wanted x)
expr_reserved sites x b wanted = kept_has sites (λ _ _ xs. AreReserved xs) (λ _. tt) (λ _ _ _ xs ys h k. reserved_both xs ys h k) (λ s wanted. call_reserved s wanted (sites s)) x b wanted

pub temporaries_stay : TemporariesStay
temporaries_stay sites names ns alike b k wanted x f = found_stay names ns alike k (kept sites b wanted x) (expr_reserved sites x b wanted) f
