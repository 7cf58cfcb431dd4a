-- For private contracts and proofs alone: the words of names, and of several numbers.
use Rattle.std.specs.Prelude.{◌≡◌, ◌≢◌, ◌⊎◌, ℕ, ◌≤◌, List, [], ◌∷◌, ◌++◌, length, All}
use Rattle.std.specs.Ordering.{nat_cmp}
use Rattle.dm_base.specs.Name.{IsLetter, IsDigit}
use Rattle.flow_model.specs.Call.{Call}
use Rattle.flow_model.specs.Order.{StrictlyRise}
use Rattle.line_text.specs.Words.{IsPlain, number_word}
use Rattle.model_file.specs.ModelText.{IsSmall}

-- a name, and the space after it
abbrev pub name_word : List ℕ → List ℕ
name_word name = name ++ 32 ∷ []

-- at most 63 letters, digits and underscores, a digit not first
pub record IsNameFront (text : List ℕ) : Type 0 where
  pub short : length text ≤ 63
  pub begins : (b : ℕ) (rest : List ℕ) → text ≡ b ∷ rest → IsLetter b
  pub bytes : All (λ b. IsLetter b ⊎ IsDigit b) text

-- the numbers, each with the byte after it: a space before a further one, a line feed after the last
abbrev pub numbers_text : List ℕ → List ℕ
numbers_text [] = []
numbers_text (n ∷ []) = number_word 10 n
numbers_text (n ∷ m ∷ rest) = number_word 32 n ++ numbers_text (m ∷ rest)

-- the first byte of the text that ends a word is a space
abbrev pub HasSpace : List ℕ → Type 0
HasSpace text = (front : List ℕ) × (later : List ℕ) × IsPlain front × (text ≡ front ++ 32 ∷ later)

-- one or more candidates of a call edge
pub record AreCandidates (candidates : List ℕ) : Type 0 where
  pub some : candidates ≢ []
  pub small : All IsSmall candidates
  pub rise : StrictlyRise nat_cmp candidates

-- a call edge with these two numbers
pub record IsCallEnd (from site : ℕ) (c : Call) : Type 0 where
  pub begins : c.from ≡ from
  pub at_site : c.site ≡ site
  pub to : IsSmall c.to
  pub candidates : All IsSmall c.candidates
  pub rise : StrictlyRise nat_cmp c.candidates

-- from its second node on, the text of a call edge
abbrev pub call_end : Call → List ℕ
call_end c = numbers_text (c.to ∷ c.candidates)
