-- What a unit is typed as, by what is found of it.
use Rattle.std.proofs.Common.{◌≡◌, ℕ, Bool, true, false, ◌++◌, length, map, refl, ap, sym, subst, ◌∙◌, arith}
use Rattle.std.specs.Prelude.{unwrap_or, codes}
use Rattle.dm_base.specs.declared.mode.Mode.{Mode}
use Rattle.c_check_values.specs.declared.error.CheckError.TheVariants as errors
use Rattle.c_check_values.specs.Agreement.{Names}
use Rattle.c_rules.specs.Checked.{fine, faults, demand, on, met}
use Rattle.c_rules.specs.Items.{Output, after_items, items}
use Rattle.c_rules.specs.Names.{number_among}
use Rattle.c_rules.specs.Scopes.{Env, Before, binding_of, layout_of, nothing_before}
use Rattle.c_rules.specs.Units.{checked, env_before, env_behind, few_names, functions_of, has_main, is_main_bound, program_of, static_string}
use Rattle.c_syntax.specs.Tree.{Items}
use Rattle.c_tree.specs.Tree.{Program}
use Rattle.c_check_units.proofs.KeptLemmas.{structs_counted, unit_kept}

module _ (u : Items) (m : Mode) (env : Env) (before : Before) (o : Output) (number : ℕ) (behind : env ≡ env_behind m u) (counted : before ≡ after_items (env_before m u) nothing_before u) (given : items (env_before m u) nothing_before u ≡ fine o)
    (numbered : number ≡ unwrap_or (number_among env.whole.functions (codes "main")) 0) (few : few_names u ≡ fine met) where
  abbrev pub program : Program
  program = record { structs = layout_of env; functions = o.functions; main = number; statics = o.statics ++ map static_string before.strings }

  numbers : number ≡ unwrap_or (number_among (functions_of u) (codes "main")) 0
  numbers = numbered ∙ ap (λ w. unwrap_or (number_among w.functions (codes "main")) 0) (ap (λ e. e.whole) behind ∙ unit_kept m u)

  program_is : program ≡ program_of m u o
  program_is = λ i. record { structs = layout_of (behind i); functions = o.functions; main = numbers i; statics = o.statics ++ map static_string ((counted i).strings) }

  told : (b : Bool) → is_main_bound (binding_of env (codes "main")) ≡ b → checked u m ≡ demand b 9 0 (program_of m u o)
  told b main =
      ap (λ r. on r (λ _. on (items (env_before m u) nothing_before u) (λ p. demand (has_main m u) 9 0 (program_of m u p)))) few
      ∙ ap (λ r. on r (λ p. demand (has_main m u) 9 0 (program_of m u p))) given
      ∙ ap (λ t. demand t 9 0 (program_of m u o)) (sym (ap (λ e. is_main_bound (binding_of e (codes "main"))) behind) ∙ main)

  -- main is defined
  pub typed : is_main_bound (binding_of env (codes "main")) ≡ true → checked u m ≡ fine program
  typed main = told true main ∙ ap fine (sym program_is)

  -- main isn't defined
  pub no_main : is_main_bound (binding_of env (codes "main")) ≡ false → Names (errors.At 9 0) (faults (checked u m))
  no_main main = subst (λ r. Names (errors.At 9 0) (faults r)) (sym (told false main)) (0, omega arith, refl)

  pub as_many : length env.structs ≡ length env.whole.tags
  as_many = ap (λ e. length e.structs) behind ∙ (structs_counted m u ∙ sym (ap (λ e. length e.whole.tags) behind))
