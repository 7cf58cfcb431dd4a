-- The lines of functions.
use Rattle.std.proofs.Common.{ℕ, ◌≤◌, List, ◌++◌, refl, append_assoc, arith}
use Rattle.std.specs.Prelude.{codes}
use Rattle.dm_base.specs.Name.{IsName}
use Rattle.flow_model.specs.declared.records.ModelFunction.{ModelFunction}
use Rattle.line_text.specs.Words.{number_word}
use Rattle.model_file.specs.ModelText.{function_line, IsSmall, IsSpelledFunction}
use Rattle.model_file.specs.Words.{name_word}
use Rattle.model_file.proofs.LineLemmas.{first_word, plain_number, plain_word, plain_spaced}
use Rattle.model_file.proofs.NameLemmas.{name-IsPlain, some_name}
use Rattle.model_file.proofs.Narrowing.{IsPart, IsWhole, With}

abbrev pub after_word : ModelFunction → List ℕ
after_word f = name_word f.name ++ (number_word 32 f.entry ++ number_word 10 f.exit)

abbrev pub some_function : ModelFunction
some_function = record { name = some_name.0; entry = 0; exit = 0 }

pub some_spelled : IsSpelledFunction some_function
some_spelled = record { name = some_name.1; entry = omega arith; exit = omega arith }

pub function_word : IsPart IsSpelledFunction function_line (λ f. tt {0}) (λ u. Unit {0}) (λ u. codes "f ") after_word
function_word = first_word (codes "f ") some_function some_spelled (λ f fits. simp append_assoc) (plain_word (codes "f ") refl)

abbrev pub Worded : ModelFunction → Type 0
Worded = With IsSpelledFunction (λ f. tt {0}) (tt {0})

pub function_name : IsPart Worded after_word (λ f. f.name) IsName name_word (λ f. number_word 32 f.entry ++ number_word 10 f.exit)
function_name = record {
  into = λ f fits. fits.0.name;
  some = λ name is_name. (record { name = name; entry = 0; exit = 0 }, (record { name = is_name; entry = omega arith; exit = omega arith }, refl), refl);
  splits = λ f fits. refl;
  plain = λ name is_name. plain_spaced name (name-IsPlain name is_name);
}

abbrev pub Named : List ℕ → ModelFunction → Type 0
Named name = With Worded (λ f. f.name) name

pub function_entry : (name : List ℕ) → IsName name → IsPart (Named name) (λ f. number_word 32 f.entry ++ number_word 10 f.exit) (λ f. f.entry) (λ n. (0 ≤ n) × IsSmall n) (number_word 32) (λ f. number_word 10 f.exit)
function_entry name is_name = record {
  into = λ f fits. (omega arith, fits.0.0.entry);
  some = λ n in_n. (record { name = name; entry = n; exit = 0 }, ((record { name = is_name; entry = in_n.1; exit = omega arith }, refl), refl), refl);
  splits = λ f fits. refl;
  plain = λ n in_n. plain_number n (omega (arith, in_n.1));
}

pub function_exit : (name : List ℕ) (entry : ℕ) → IsName name → IsSmall entry → IsWhole (With (Named name) (λ f. f.entry) entry) (λ f. number_word 10 f.exit) (λ n. (0 ≤ n) × IsSmall n) (number_word 10) (λ n. record { name = name; entry = entry; exit = n })
function_exit name entry is_name small = record {
  made = λ n in_n. ((((record { name = is_name; entry = small; exit = in_n.1 }, refl), refl), refl), refl);
  only = λ f fits. (f.exit, (omega arith, fits.0.0.0.exit), λ i. record { name = fits.0.1 i; entry = fits.1 i; exit = f.exit });
}
