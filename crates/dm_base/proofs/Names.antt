-- When a text is a name.
use Rattle.std.proofs.Common.{ℕ, ◌≤◌, ◌⊎◌, ◌↔◌, Bool, true, false, not, IsTrue, List, length, get_or, All, Contains, arith, refl, ⊎_elim}
use Rattle.std.proofs.lemmas.Bool.{false≢true}
use Rattle.dm_base.specs.Name.{IsName, IsLetter, IsDigit, keywords}

pub IsName-from_parts : (text : List ℕ) → 1 ≤ length text → length text ≤ 63 → (IsDigit (get_or text 0 0) → ⊥) → All (λ b. IsLetter b ⊎ IsDigit b) text → (Contains keywords text → ⊥) → IsName text
IsName-from_parts text some short plain bytes free = record {
  some = some;
  short = short;
  begins = λ b rest e. ⊎_elim (λ letter. letter) (λ digit. absurd (plain (rw e digit))) (rw e at (bytes 0 0 (omega arith)));
  bytes = bytes;
  free = free;
}

-- a text with all the other parts of a name is one exactly where it is no keyword
pub IsName-not_keyword : (text : List ℕ) (keyword : Bool) → 1 ≤ length text → length text ≤ 63 → (IsDigit (get_or text 0 0) → ⊥) → All (λ b. IsLetter b ⊎ IsDigit b) text → (IsTrue keyword ↔ Contains keywords text) → IsTrue (not keyword) ↔ IsName text
IsName-not_keyword text true some short plain bytes tells = (λ e. absurd (false≢true e), λ name. absurd (name.free (tells.0 refl)))
IsName-not_keyword text false some short plain bytes tells = (λ _. IsName-from_parts text some short plain bytes (λ among. false≢true (tells.1 among)), λ _. refl)
