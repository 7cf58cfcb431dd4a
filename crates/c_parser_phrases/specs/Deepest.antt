-- For private contracts and proofs alone: which of two nodes is deeper.
use Rattle.std.specs.Prelude.{◌≡◌, ◌<◌, ◌≤◌, ◌⊎◌, ℕ}
use Rattle.c_parser_phrases.specs.declared.depth.Depth.{Depth}

-- the deeper one, the first of two that are as deep
abbrev pub IsDeeper : Depth → Depth → Depth → Type 0
IsDeeper a b d = ((d ≡ a) × (b.height ≤ a.height)) ⊎ ((d ≡ b) × (a.height < b.height))

-- the node at the place is the deepest, where it has none inside, or the deepest one inside is
abbrev pub IsAround : ℕ → Depth → Depth → Type 0
IsAround at a d = ((a.height ≡ 0) × (d.deepest ≡ at)) ⊎ ((a.height ≡ 0 → ⊥) × (d.deepest ≡ a.deepest))

-- the place of the deepest node, or the one that is given where there is none
abbrev pub IsPlace : ℕ → Depth → ℕ → Type 0
IsPlace at d place = ((d.height ≡ 0) × (place ≡ at)) ⊎ ((d.height ≡ 0 → ⊥) × (place ≡ d.deepest))
