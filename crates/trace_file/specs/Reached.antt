-- For private contracts and proofs alone: what is known of a file once some of its lines were read.
use Rattle.std.specs.Prelude.{ℕ, List, ◌++◌}
use Rattle.line_text.proofs.FilesLemmas.{HasRead}

-- So many lines stand first. What a text that begins with them goes on with where it is formed, and where it has too much; it has no other version.
pub record IsReached (Formed TooMuch Other Follow FollowTooMuch : List ℕ → Type 0) (k : ℕ) (lines : List ℕ) : Type 0 where
  pub read : HasRead Formed Follow k lines
  pub too_much : (rest : List ℕ) → TooMuch (lines ++ rest) → FollowTooMuch rest
  pub own : (rest : List ℕ) → Other (lines ++ rest) → ⊥
