-- Parts that are laid one after another.
use Rattle.std.proofs.Common.{◌≡◌, ℕ, ◌+◌, ◌-◌, ◌<◌, ◌≤◌, Bool, List, [], ◌∷◌, ◌++◌, length, drop, get_or, Vec, Global, Result, Ok, Err, OnOk, IfOk, refl, sym, ap, ◌∙◌, arith}
use Rattle.std.specs.Prelude.{Box}
use Rattle.dm_base.specs.declared.memory.OutOfMemory.{OutOfMemory}
use Rattle.flow_graph.specs.declared.shape.Shape.TheVariants.{Seq as SeqTree, Cases as CasesTree}
use Rattle.flow_graph.proofs.Rows.{seq_is, cases_is}
use Rattle.std.proofs.lemmas.List.{append-nil, append_assoc, length-drop, drop_all}
use Rattle.flow_graph.proofs.RecordLemmas.{dropped}
use Rattle.flow_graph.specs.declared.shape.Shape.{Shape as Tree}
use Rattle.dm_base.proofs.ListLemmas.{two_parts}
use Rattle.flow_graph.specs.View.{shape_of, parts_of}
use Rattle.c_meaning.specs.Shape.{Shape, Alt, Loop, Do, Seq, Cases}
use Rattle.c_meaning.specs.Walks.{Silent}
use Rattle.c_meaning.specs.GraphLayout.{Edge, edge, Places, head, width, widths, count, edges, edges_of_parts, body, to_each}

pub parts_many : (ts : List Tree) → count (parts_of ts) ≡ length ts
parts_many [] = refl
parts_many (t ∷ ts) = let k = parts_many ts in omega (arith, k)

-- where a part leads
pub leads_to : (ts : List Tree) (r i b : ℕ) → (0 < length ts → r ≡ i) → (length ts ≡ 0 → r ≡ b) → r ≡ head (parts_of ts) i b
leads_to [] r i b some none = none refl
leads_to (t ∷ ts) r i b some none = some (omega arith)

-- one part more
pub laid_more : (ts : List Tree) (k : ℕ) (s : Tree) (old mid new : List Edge) (i n node next following to : ℕ) (p : Places)
    → k < length ts → s ≡ get_or ts k s → following ≡ node + 1
    → (0 < length ts - k - 1 → to ≡ following) → (length ts - k - 1 ≡ 0 → to ≡ p.to)
    → mid ++ edges_of_parts (parts_of (drop k ts)) node next p ≡ old ++ edges_of_parts (parts_of ts) i n p
    → new ≡ mid ++ edges (shape_of s) node next (record p { to = to })
    → new ++ edges_of_parts (parts_of (drop (k + 1) ts)) following (next + width (shape_of s)) p ≡ old ++ edges_of_parts (parts_of ts) i n p
laid_more ts k s old mid new i n node next following to p lt is after some none before step =
    let rest = parts_of (drop (k + 1) ts) in
    let many : length (drop (k + 1) ts) ≡ length ts - (k + 1) = length-drop (k + 1) ts in
    let at : to ≡ head rest (node + 1) (p.to) = leads_to (drop (k + 1) ts) to (node + 1) (p.to) (λ h. some (omega (arith, h, many)) ∙ after) (λ h. none (omega (arith, h, many))) in
    ap (λ es. es ++ edges_of_parts rest following (next + width (shape_of s)) p) step
    ∙ append_assoc mid (edges (shape_of s) node next (record p { to = to })) (edges_of_parts rest following (next + width (shape_of s)) p)
    ∙ ap (λ m. mid ++ (edges (shape_of s) node next (record p { to = to }) ++ edges_of_parts rest m (next + width (shape_of s)) p)) after
    ∙ ap (λ t. mid ++ (edges (shape_of s) node next (record p { to = t }) ++ edges_of_parts rest (node + 1) (next + width (shape_of s)) p)) at
    ∙ ap (λ ps. mid ++ edges_of_parts ps node next p) (sym (ap parts_of (dropped ts k s s lt is)))
    ∙ before

pub fresh_more : (ts : List Tree) (k : ℕ) (s : Tree) (n next new : ℕ) → k < length ts → s ≡ get_or ts k s → next + widths (parts_of (drop k ts)) ≡ n + widths (parts_of ts) → new ≡ next + width (shape_of s) → new + widths (parts_of (drop (k + 1) ts)) ≡ n + widths (parts_of ts)
fresh_more ts k s n next new lt is before step =
    let e : widths (parts_of (drop k ts)) ≡ width (shape_of s) + widths (parts_of (drop (k + 1) ts)) = ap widths (ap parts_of (dropped ts k s s lt is)) in
    omega (arith, e, before, step)

-- an edge to one part more
pub each_more : (ts : List Tree) (k : ℕ) (s : Tree) (old mid new : List Edge) (a i node following : ℕ) → k < length ts → s ≡ get_or ts k s → following ≡ node + 1
    → mid ++ to_each a (parts_of (drop k ts)) node ≡ old ++ to_each a (parts_of ts) i → new ≡ mid ++ edge a Silent node ∷ [] → new ++ to_each a (parts_of (drop (k + 1) ts)) following ≡ old ++ to_each a (parts_of ts) i
each_more ts k s old mid new a i node following lt is after before step =
    let rest = parts_of (drop (k + 1) ts) in
    ap (λ es. es ++ to_each a rest following) step
    ∙ append_assoc mid (edge a Silent node ∷ []) (to_each a rest following)
    ∙ ap (λ m. mid ++ edge a Silent node ∷ to_each a rest m) after
    ∙ ap (λ ps. mid ++ to_each a ps node) (sym (ap parts_of (dropped ts k s s lt is)))
    ∙ before

pub each_end : (ts : List Tree) (k : ℕ) (old new : List Edge) (a i node : ℕ) → length ts ≤ k → new ++ to_each a (parts_of (drop k ts)) node ≡ old ++ to_each a (parts_of ts) i → new ≡ old ++ to_each a (parts_of ts) i
each_end ts k old new a i node over is = sym (append-nil new) ∙ ap (λ ps. new ++ to_each a ps node) (sym (ap parts_of (drop_all k ts over))) ∙ is

-- a call's clauses by other words
pub on_same : (r : Result ℕ OutOfMemory) (old new m b : List Edge) → m ≡ b → OnOk r (new ≡ old ++ b) → OnOk r (new ≡ old ++ m)
on_same (Ok u) old new m b e is = is ∙ ap (λ es. old ++ es) (sym e)
on_same (Err x) old new m b e is = is

pub next_same : (r : Result ℕ OutOfMemory) (n w v : ℕ) → w ≡ v → IfOk r (λ next. next ≡ n + v) → IfOk r (λ next. next ≡ n + w)
next_same (Ok u) n w v e is = is ∙ ap (λ k. n + k) (sym e)
next_same (Err x) n w v e is = is

pub of_seq : (s : Tree) (t : Box Tree Global) (v : Vec Tree Global) (rest : List Tree) → s ≡ SeqTree t v → rest ≡ v.items → (f : Tree) → f ≡ t.value → shape_of s ≡ Seq (shape_of f) (parts_of rest)
of_seq s t v rest is same f e = ap shape_of is ∙ seq_is t v ∙ ap (λ x. Seq (shape_of x) (parts_of v.items)) (sym e) ∙ ap (λ ts. Seq (shape_of f) (parts_of ts)) (sym same)

pub of_cases : (s : Tree) (v : Vec Tree Global) (d : Bool) (gs : List Tree) → s ≡ CasesTree v d → gs ≡ v.items → shape_of s ≡ Cases (parts_of gs) d
of_cases s v d gs is same = ap shape_of is ∙ cases_is v d ∙ ap (λ ts. Cases (parts_of ts) d) (sym same)

pub then_on : (r : Result ℕ OutOfMemory) (old mid new a b m : List Edge) → mid ≡ old ++ a → m ≡ a ++ b → OnOk r (new ≡ mid ++ b) → OnOk r (new ≡ old ++ m)
then_on (Ok u) old mid new a b m first e is = is ∙ ap (λ es. es ++ b) first ∙ append_assoc old a b ∙ ap (λ es. old ++ es) (sym e)
then_on (Err x) old mid new a b m first e is = is

-- where the nodes end
pub ends_at : (r : Result ℕ OutOfMemory) (start n w v : ℕ) → start + w ≡ n + v → IfOk r (λ next. next ≡ start + w) → IfOk r (λ next. next ≡ n + v)
ends_at (Ok x) start n w v e is = is ∙ e
ends_at (Err x) start n w v e is = is

-- one of two, and loops, laid part after part
pub alt_laid : (r : Result ℕ OutOfMemory) (old mid new : List Edge) (W S T : Shape) (a n next : ℕ) (p : Places) → W ≡ Alt S T → next ≡ n + width S → mid ≡ old ++ edges S a n p
    → OnOk r (new ≡ mid ++ edges T a next p) → OnOk r (new ≡ old ++ edges W a n p)
alt_laid r old mid new W S T a n next p is past first =
    then_on r old mid new (edges S a n p) (edges T a next p) (edges W a n p) first (ap (λ W. edges W a n p) is ∙ ap (λ k. edges S a n p ++ edges T a k p) (sym past))

pub loop_laid : (r : Result ℕ OutOfMemory) (old one two three four new : List Edge) (W C B P : Shape) (a n k m : ℕ) (p : Places) → W ≡ Loop C B P
    → one ≡ old ++ edge a Silent n ∷ [] → two ≡ one ++ edge (n + 1) Silent (p.to) ∷ []
    → three ≡ two ++ edges C n (n + 3) (record p { to = n + 1 }) → k ≡ n + 3 + width C
    → four ≡ three ++ edges B (n + 1) k (body p (n + 2) (p.to) (n + 2)) → m ≡ k + width B
    → OnOk r (new ≡ four ++ edges P (n + 2) m (record p { to = n })) → OnOk r (new ≡ old ++ edges W a n p)
loop_laid r old one two three four new W C B P a n k m p is e1 e2 e3 e4 e5 e6 =
    let begin : List Edge → List Edge = λ es. edge a Silent n ∷ edge (n + 1) Silent (p.to) ∷ es in
    let X = edges C n (n + 3) (record p { to = n + 1 }) in
    let Y = edges B (n + 1) k (body p (n + 2) (p.to) (n + 2)) in
    let Z = edges P (n + 2) m (record p { to = n }) in
    then_on r old four new (begin (X ++ Y)) Z (edges W a n p)
    (two_parts old one four (edge a Silent n ∷ []) (edge (n + 1) Silent (p.to) ∷ (X ++ Y)) e1 (two_parts one two four (edge (n + 1) Silent (p.to) ∷ []) (X ++ Y) e2 (two_parts two three four X Y e3 e5)))
    (ap (λ W. edges W a n p) is
    ∙ ap (λ j. begin (X ++ (edges B (n + 1) j (body p (n + 2) (p.to) (n + 2)) ++ edges P (n + 2) (j + width B) (record p { to = n })))) (sym e4)
    ∙ ap (λ j. begin (X ++ (Y ++ edges P (n + 2) j (record p { to = n })))) (sym e6)
    ∙ ap begin (sym (append_assoc X Y Z)))

pub do_laid : (r : Result ℕ OutOfMemory) (old one two three four new : List Edge) (W B C : Shape) (a n k : ℕ) (p : Places) → W ≡ Do B C
    → one ≡ old ++ edge a Silent n ∷ [] → two ≡ one ++ edge (n + 2) Silent n ∷ [] → three ≡ two ++ edge (n + 2) Silent (p.to) ∷ []
    → four ≡ three ++ edges B n (n + 3) (body p (n + 1) (p.to) (n + 1)) → k ≡ n + 3 + width B
    → OnOk r (new ≡ four ++ edges C (n + 1) k (record p { to = n + 2 })) → OnOk r (new ≡ old ++ edges W a n p)
do_laid r old one two three four new W B C a n k p is e1 e2 e3 e4 e5 =
    let X = edges B n (n + 3) (body p (n + 1) (p.to) (n + 1)) in
    let rest = edge (n + 2) Silent (p.to) ∷ X in
    then_on r old four new (edge a Silent n ∷ edge (n + 2) Silent n ∷ rest) (edges C (n + 1) k (record p { to = n + 2 })) (edges W a n p)
    (two_parts old one four (edge a Silent n ∷ []) (edge (n + 2) Silent n ∷ rest) e1
    (two_parts one two four (edge (n + 2) Silent n ∷ []) rest e2 (two_parts two three four (edge (n + 2) Silent (p.to) ∷ []) X e3 e4)))
    (ap (λ W. edges W a n p) is ∙ ap (λ j. edge a Silent n ∷ edge (n + 2) Silent n ∷ edge (n + 2) Silent (p.to) ∷ (X ++ edges C (n + 1) j (record p { to = n + 2 }))) (sym e5))

-- a first part and the others
module _ (s : Tree) (t : Box Tree Global) (v : Vec Tree Global) (rest : List Tree) (f : Tree) (is : s ≡ SeqTree t v) (same : rest ≡ v.items) (first : f ≡ t.value) (n start next : ℕ) (from : start ≡ n + count (parts_of rest)) (past : next ≡ start + width (shape_of f)) where
  shape_is : shape_of s ≡ Seq (shape_of f) (parts_of rest)
  shape_is = of_seq s t v rest is same f first

  pub seq_laid : (r : Result ℕ OutOfMemory) (old mid new : List Edge) (a to : ℕ) (p : Places) → (0 < length rest → to ≡ n) → (length rest ≡ 0 → to ≡ p.to)
      → mid ≡ old ++ edges (shape_of f) a start (record p { to = to }) → OnOk r (new ≡ mid ++ edges_of_parts (parts_of rest) n next p) → OnOk r (new ≡ old ++ edges (shape_of s) a n p)
  seq_laid r old mid new a to p some none step rest_laid =
      let at : to ≡ head (parts_of rest) n (p.to) = leads_to rest to n (p.to) some none in
      let go : next ≡ n + count (parts_of rest) + width (shape_of f) = omega (arith, from, past) in
      let S = shape_of f in
      let ps = parts_of rest in
      then_on r old mid new (edges S a start (record p { to = to })) (edges_of_parts ps n next p) (edges (shape_of s) a n p) step
      (ap (λ S. edges S a n p) shape_is
      ∙ ap (λ x. edges S a (n + count ps) (record p { to = x }) ++ edges_of_parts ps n (n + count ps + width S) p) (sym at)
      ∙ ap (λ k. edges S a k (record p { to = to }) ++ edges_of_parts ps n (n + count ps + width S) p) (sym from)
      ∙ ap (λ k. edges S a start (record p { to = to }) ++ edges_of_parts ps n k p) (sym go))
      rest_laid

  pub seq_next : (r : Result ℕ OutOfMemory) → IfOk r (λ m. m ≡ next + widths (parts_of rest)) → IfOk r (λ m. m ≡ n + width (shape_of s))
  seq_next (Ok m) end = let w : width (shape_of s) ≡ count (parts_of rest) + width (shape_of f) + widths (parts_of rest) = ap width shape_is in omega (arith, w, from, past, end)
  seq_next (Err x) end = end

-- where there is room for a shape, there is room for its parts
module _ (s : Tree) (t : Box Tree Global) (v : Vec Tree Global) (rest : List Tree) (n most : ℕ) (is : s ≡ SeqTree t v) (same : rest ≡ v.items) (room : n + width (shape_of s) < most) where
  seq_room : n + (count (parts_of rest) + width (shape_of t.value) + widths (parts_of rest)) < most
  seq_room = let w : width (shape_of s) ≡ count (parts_of rest) + width (shape_of t.value) + widths (parts_of rest) = ap width (of_seq s t v rest is same t.value refl) in omega (arith, w, room)

  pub rest_nodes : n + count (parts_of rest) < most
  rest_nodes = let k = seq_room in omega (arith, k)

  pub first_fits : (f : Tree) (start : ℕ) → f ≡ t.value → start ≡ n + count (parts_of rest) → start + width (shape_of f) < most
  first_fits f start first from = let k = seq_room in let e : width (shape_of f) ≡ width (shape_of t.value) = ap (λ x. width (shape_of x)) first in omega (arith, k, e, from)

  pub rest_fits : (f : Tree) (start next : ℕ) → f ≡ t.value → start ≡ n + count (parts_of rest) → next ≡ start + width (shape_of f) → next + widths (parts_of rest) < most
  rest_fits f start next first from past =
      let k = seq_room in
      let e : width (shape_of f) ≡ width (shape_of t.value) = ap (λ x. width (shape_of x)) first in
      omega (arith, k, e, from, past)

pub cases_fit : (s : Tree) (v : Vec Tree Global) (d : Bool) (gs : List Tree) (n most : ℕ) → s ≡ CasesTree v d → gs ≡ v.items → n + width (shape_of s) < most → n + width (Cases (parts_of gs) d) < most
cases_fit s v d gs n most is same room = let w : width (shape_of s) ≡ width (Cases (parts_of gs) d) = ap width (of_cases s v d gs is same) in omega (arith, w, room)
