-- Lists of shapes, one part after another.
use Rattle.std.proofs.Common.{◌≡◌, ℕ, zero, suc, ◌+◌, ◌<◌, min, List, [], ◌∷◌, Bool, Vec, Global, length, take, get_or, ap, arith}
use Rattle.flow_graph.specs.declared.shape.Shape.{Shape as Tree}
use Rattle.std.specs.Prelude.{Box}
use Rattle.flow_graph.specs.declared.shape.Shape.TheVariants.{Seq as SeqTree, Cases as CasesTree}
use Rattle.c_meaning.specs.GraphLayout.{width, widths, count}
use Rattle.flow_graph.specs.View.{shape_of, parts_of}
use Rattle.flow_graph.proofs.Rows.{seq_is, cases_is}

-- the fresh nodes of parts, with one for each
abbrev pub weight : List Tree → ℕ
weight ts = count (parts_of ts) + widths (parts_of ts)

pub weight_take : (ts : List Tree) (i : ℕ) (d : Tree) → i < length ts → weight (take (i + 1) ts) ≡ weight (take i ts) + (1 + width (shape_of (get_or ts i d)))
weight_take [] i d lt = absurd (omega (arith, lt))
weight_take (t ∷ ts) zero d lt = omega arith
weight_take (t ∷ ts) (suc i) d lt =
    let k = weight_take ts i d (omega (arith, lt)) in
    let n : suc i + 1 ≡ suc (i + 1) = omega arith in
    let e : take (suc i + 1) (t ∷ ts) ≡ t ∷ take (i + 1) ts = ap (λ n. take n (t ∷ ts)) n in
    let w : weight (take (suc i + 1) (t ∷ ts)) ≡ weight (t ∷ take (i + 1) ts) = ap weight e in
    omega (arith, k, w)

pub seq_width : (s : Tree) (t : Box Tree Global) (v : Vec Tree Global) (r a b m : ℕ) → s ≡ SeqTree t v → r ≡ min (a + b) m → a ≡ min (width (shape_of t.value)) m → b ≡ min (weight v.items) m → r ≡ min (width (shape_of s)) m
seq_width s t v r a b m is sum one other =
    let e : width (shape_of s) ≡ width (shape_of (SeqTree t v)) = ap (λ s. width (shape_of s)) is in
    let f : width (shape_of (SeqTree t v)) ≡ count (parts_of v.items) + width (shape_of t.value) + widths (parts_of v.items) = ap width (seq_is t v) in
    omega (arith, e, f, sum, one, other)

pub cases_width : (s : Tree) (v : Vec Tree Global) (d : Bool) (r m : ℕ) → s ≡ CasesTree v d → r ≡ min (weight v.items) m → r ≡ min (width (shape_of s)) m
cases_width s v d r m is all =
    let e : width (shape_of s) ≡ width (shape_of (CasesTree v d)) = ap (λ s. width (shape_of s)) is in
    let f : width (shape_of (CasesTree v d)) ≡ weight v.items = ap width (cases_is v d) in
    omega (arith, e, f, all)

pub one_more : (ts : List Tree) (i : ℕ) (d s : Tree) (r sum a w m : ℕ) → i < length ts → r ≡ min (sum + a) m → a ≡ min (1 + w) m → w ≡ min (width (shape_of s)) m → s ≡ get_or ts i d → sum ≡ min (weight (take i ts)) m → r ≡ min (weight (take (i + 1) ts)) m
one_more ts i d s r sum a w m lt added one wide is before =
    let k = weight_take ts i d lt in
    let e : width (shape_of s) ≡ width (shape_of (get_or ts i d)) = ap (λ s. width (shape_of s)) is in
    omega (arith, k, e, added, one, wide, before)
