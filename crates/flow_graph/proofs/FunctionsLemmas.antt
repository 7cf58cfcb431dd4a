-- Functions that are laid one after another.
use Rattle.std.proofs.Common.{◌≡◌, ℕ, ◌+◌, ◌<◌, ◌≤◌, min, List, [], ◌∷◌, ◌++◌, length, take, drop, get_or, refl, sym, ap, ◌∙◌, arith}
use Rattle.std.proofs.lemmas.List.{append-nil, append_assoc, take_more, map-append, drop_all}
use Rattle.flow_graph.proofs.RecordLemmas.{dropped}
use Rattle.flow_graph.specs.declared.shape.Shape.{Shape as Tree}
use Rattle.flow_graph.specs.View.{shape_of, shapes_in}
use Rattle.c_meaning.specs.Shape.{Shape}
use Rattle.c_meaning.specs.GraphLayout.{Edge, ends, width, edges}
use Rattle.c_meaning.specs.GraphOf.{nodes_from, edges_from}

nodes_append : (n : ℕ) (xs : List Shape) (S : Shape) → nodes_from n (xs ++ S ∷ []) ≡ nodes_from n xs + 2 + width S
nodes_append n [] S = refl
nodes_append n (T ∷ xs) S = nodes_append (n + 2 + width T) xs S

pub nodes_more : (ts : List Tree) (i : ℕ) (t : Tree) (sum one wide new most : ℕ) → i < length ts → t ≡ get_or ts i t → sum ≡ min (nodes_from 0 (shapes_in (take i ts))) most → wide ≡ min (width (shape_of t)) most → one ≡ min (2 + wide) most → new ≡ min (sum + one) most → new ≡ min (nodes_from 0 (shapes_in (take (i + 1) ts))) most
nodes_more ts i t sum one wide new most lt is before w o step =
    let more : take (i + 1) ts ≡ take i ts ++ t ∷ [] = take_more ts i t lt ∙ ap (λ y. take i ts ++ y ∷ []) (sym is) in
    let e : nodes_from 0 (shapes_in (take (i + 1) ts)) ≡ nodes_from 0 (shapes_in (take i ts)) + 2 + width (shape_of t) =
    ap (λ us. nodes_from 0 (shapes_in us)) more ∙ ap (nodes_from 0) (map-append shape_of (take i ts) (t ∷ [])) ∙ nodes_append 0 (shapes_in (take i ts)) (shape_of t) in
    omega (arith, e, before, w, o, step)

nodes_least : (n : ℕ) (xs : List Shape) → n ≤ nodes_from n xs
nodes_least n [] = omega arith
nodes_least n (S ∷ xs) = let k = nodes_least (n + 2 + width S) xs in omega (arith, k)

-- the nodes past one function more, and those of all
pub nodes_next : (ts : List Tree) (k : ℕ) (s : Tree) (entry next : ℕ) → k < length ts → s ≡ get_or ts k s → next ≡ entry + 2 + width (shape_of s)
    → nodes_from entry (shapes_in (drop k ts)) ≡ nodes_from 0 (shapes_in ts) → nodes_from next (shapes_in (drop (k + 1) ts)) ≡ nodes_from 0 (shapes_in ts)
nodes_next ts k s entry next lt is step before =
    ap (λ m. nodes_from m (shapes_in (drop (k + 1) ts))) step ∙ ap (nodes_from entry) (sym (ap shapes_in (dropped ts k s s lt is))) ∙ before

-- what is left for a function where there is room for all
pub nodes_room : (ts : List Tree) (k : ℕ) (s : Tree) (entry most : ℕ) → k < length ts → s ≡ get_or ts k s → nodes_from entry (shapes_in (drop k ts)) ≡ nodes_from 0 (shapes_in ts) → nodes_from 0 (shapes_in ts) < most → entry + 2 + width (shape_of s) < most
nodes_room ts k s entry most lt is before room =
    let next = entry + 2 + width (shape_of s) in
    let all = nodes_next ts k s entry next lt is refl before in
    let least = nodes_least next (shapes_in (drop (k + 1) ts)) in
    omega (arith, all, least, room)

-- one function more
pub function_more : (ts : List Tree) (k : ℕ) (s : Tree) (mid new all : List Edge) (entry exit fresh next : ℕ) → k < length ts → s ≡ get_or ts k s → exit ≡ entry + 1 → fresh ≡ entry + 2
    → mid ++ edges_from entry (shapes_in (drop k ts)) ≡ all → new ≡ mid ++ edges (shape_of s) entry fresh (ends exit) → next ≡ fresh + width (shape_of s) → new ++ edges_from next (shapes_in (drop (k + 1) ts)) ≡ all
function_more ts k s mid new all entry exit fresh next lt is at after before step to =
    let rest = shapes_in (drop (k + 1) ts) in
    let past : next ≡ entry + 2 + width (shape_of s) = omega (arith, to, after) in
    ap (λ es. es ++ edges_from next rest) step
    ∙ append_assoc mid (edges (shape_of s) entry fresh (ends exit)) (edges_from next rest)
    ∙ ap (λ m. mid ++ (edges (shape_of s) entry fresh (ends exit) ++ edges_from m rest)) past
    ∙ ap (λ m. mid ++ (edges (shape_of s) entry m (ends exit) ++ edges_from (entry + 2 + width (shape_of s)) rest)) after
    ∙ ap (λ x. mid ++ (edges (shape_of s) entry (entry + 2) (ends x) ++ edges_from (entry + 2 + width (shape_of s)) rest)) at
    ∙ ap (λ us. mid ++ edges_from entry us) (sym (ap shapes_in (dropped ts k s s lt is)))
    ∙ before

pub function_end : (ts : List Tree) (k entry : ℕ) (new all : List Edge) → length ts ≤ k → new ++ edges_from entry (shapes_in (drop k ts)) ≡ all → new ≡ all
function_end ts k entry new all over is = sym (append-nil new) ∙ ap (λ us. new ++ edges_from entry us) (sym (ap shapes_in (drop_all k ts over))) ∙ is
