-- Runs with null calls: round the calls of a program, and made by it.
use Rattle.std.proofs.Common.{◌≡◌, zero, suc, pos, [], ◌∷◌, Option, Some, None, subst, refl, arith}
use Rattle.std.proofs.lemmas.Option.{none-some}
use Rattle.dm_base.specs.declared.event.Event.TheVariants.{Pre, Post}
use Rattle.sys_table.specs.Table.{table}
use Rattle.c_tree.specs.Tree.{Function, void, call, evaluate}
use Rattle.c_meaning.specs.Meaning.{Marks}
use Rattle.c_meaning.specs.Runs.{run_with}
use Rattle.c_meaning.specs.NullCalls.{AreNullCalls}
use Rattle.c_meaning.specs.WithoutNullCalls.{IsFreeStmt, MakesNoNullCall}
use Rattle.c_meaning.proofs.RunTrials.{source_b, the_record, the_call, ended}
use Rattle.c_meaning.proofs.TrialTerms.{run_of, exits, body, exprs, size, return_0}

-- each call between its two null calls
abbrev pub each : Marks
each site = (Pre site ∷ [], Post site ∷ [])

each_is_null : AreNullCalls each
each_is_null site = (refl, refl)

b_between : run_with source_b each (the_record 100 ∷ the_record 0 ∷ the_record 101 ∷ []) 3 ≡ ended (pos 0) (Pre 1 ∷ Pre 0 ∷ the_call 14 100 ∷ Post 0 ∷ Post 1 ∷ Pre 2 ∷ the_call 16 0 ∷ Post 2 ∷ Pre 3 ∷ Pre 0 ∷ the_call 14 101 ∷ Post 0 ∷ Post 3 ∷ [])
unfolding table
b_between = refl

abbrev FreeWhere : Option Function → Type 0
FreeWhere None = Unit {0}
FreeWhere (Some g) = IsFreeStmt 2 g.body

b_makes_none : MakesNoNullCall source_b
b_makes_none zero g h = subst FreeWhere h ((omega arith, omega arith, tt), tt)
b_makes_none (suc zero) g h =
    subst FreeWhere h ((omega arith, omega arith, tt), ((omega arith, omega arith, tt), ((omega arith, omega arith, tt), (tt, tt))))
b_makes_none (suc (suc f)) g h = absurd (none-some g h)

-- void pre(unsigned int), void post(unsigned int): int main(void) { pre(5u); post(5u); return 0; }
made : run_of [] [] (body (evaluate (call void 0 25 (exprs (size 5 ∷ []))) ∷ evaluate (call void 1 26 (exprs (size 5 ∷ []))) ∷ return_0 ∷ [])) [] 1 ≡ exits (pos 0) (Pre 5 ∷ Post 5 ∷ [])
made = refl
