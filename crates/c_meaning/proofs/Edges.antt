-- The edges of a shape, one rule for each.
use Rattle.std.proofs.Common.{ℕ, ℤ, ◌+◌, Bool, true, false, List, [], ◌∷◌, ◌++◌, Option, Contains, inl, inr, zero, suc, subst, refl, arith}
use Rattle.std.proofs.lemmas.List.Elements.{Contains-append_left, Contains-append_right, Contains-append_cases}
use Rattle.c_meaning.specs.Shape.{Shape, Skip, Sys, Exit, Call, Seq, Alt, Loop, Do, Cases, Parts, End, Part, Break, Continue, Return, exit_call}
use Rattle.c_meaning.specs.Walks.{Label, Silent, System, Site}
use Rattle.c_meaning.specs.GraphLayout.{Edge, edge, Places, body, width, count, group, switch, to_each, past_all, edges, edges_of_parts}
use Rattle.c_meaning.proofs.Laid.{Heads}
use Rattle.c_meaning.proofs.Laid as G
use Rattle.c_meaning.proofs.Members.{is_first, is_later}

-- an edge of S, laid from the node a with the fresh nodes from n on
mutual
  pub data Lays : Shape → ℕ → ℕ → Places → ℕ → Label → ℕ → Type 0 where
    skip : {a n : ℕ} {p : Places} → Lays Skip a n p a Silent (p.to)
    sys : {x a n : ℕ} {q : List (Option ℤ)} {p : Places} → Lays (Sys x q) a n p a (System x q) (p.to)
    exit : {a n : ℕ} {q : List (Option ℤ)} {p : Places} → Lays (Exit q) a n p a (System exit_call q) n
    call : {s a n : ℕ} {p : Places} → Lays (Call s) a n p a (Site s) (p.to)
    in_left : {S T : Shape} {a n x y : ℕ} {p : Places} {l : Label} → Lays S a n p x l y → Lays (Alt S T) a n p x l y
    in_right : {S T : Shape} {a n x y : ℕ} {p : Places} {l : Label} → Lays T a (n + width S) p x l y → Lays (Alt S T) a n p x l y
    to_loop : {C B P : Shape} {a n : ℕ} {p : Places} → Lays (Loop C B P) a n p a Silent n
    loop_ends : {C B P : Shape} {a n : ℕ} {p : Places} → Lays (Loop C B P) a n p (n + 1) Silent (p.to)
    in_test : {C B P : Shape} {a n x y : ℕ} {p : Places} {l : Label} → Lays C n (n + 3) (record p { to = n + 1 }) x l y → Lays (Loop C B P) a n p x l y
    in_body : {C B P : Shape} {a n x y : ℕ} {p : Places} {l : Label} → Lays B (n + 1) (n + 3 + width C) (body p (n + 2) (p.to) (n + 2)) x l y → Lays (Loop C B P) a n p x l y
    in_step : {C B P : Shape} {a n x y : ℕ} {p : Places} {l : Label} → Lays P (n + 2) (n + 3 + width C + width B) (record p { to = n }) x l y → Lays (Loop C B P) a n p x l y
    to_do : {B C : Shape} {a n : ℕ} {p : Places} → Lays (Do B C) a n p a Silent n
    do_again : {B C : Shape} {a n : ℕ} {p : Places} → Lays (Do B C) a n p (n + 2) Silent n
    do_ends : {B C : Shape} {a n : ℕ} {p : Places} → Lays (Do B C) a n p (n + 2) Silent (p.to)
    in_do : {B C : Shape} {a n x y : ℕ} {p : Places} {l : Label} → Lays B n (n + 3) (body p (n + 1) (p.to) (n + 1)) x l y → Lays (Do B C) a n p x l y
    in_until : {B C : Shape} {a n x y : ℕ} {p : Places} {l : Label} → Lays C (n + 1) (n + 3 + width B) (record p { to = n + 2 }) x l y → Lays (Do B C) a n p x l y
    break_out : {a n : ℕ} {p : Places} → Lays Break a n p a Silent (p.brk)
    continue_on : {a n : ℕ} {p : Places} → Lays Continue a n p a Silent (p.con)
    return_now : {a n : ℕ} {p : Places} → Lays Return a n p a Silent (p.ret)
    in_seq : {S : Shape} {ps : Parts} {a n x y : ℕ} {p : Places} {l : Label} → Lays S a (n + count ps) (group p ps n) x l y → Lays (Seq S ps) a n p x l y
    in_rest : {S : Shape} {ps : Parts} {a n x y : ℕ} {p : Places} {l : Label} → LaysParts ps n (n + count ps + width S) p x l y → Lays (Seq S ps) a n p x l y
    to_case : {ps : Parts} {d : Bool} {a n b : ℕ} {p : Places} → Heads ps n b → Lays (Cases ps d) a n p a Silent b
    in_cases : {ps : Parts} {d : Bool} {a n x y : ℕ} {p : Places} {l : Label} → LaysParts ps n (n + count ps) (switch p) x l y → Lays (Cases ps d) a n p x l y
    no_default : {ps : Parts} {a n : ℕ} {p : Places} → Lays (Cases ps false) a n p a Silent (p.to)

  -- an edge of the parts whose nodes stand from i on
  pub data LaysParts : Parts → ℕ → ℕ → Places → ℕ → Label → ℕ → Type 0 where
    in_part : {S : Shape} {ps : Parts} {i n x y : ℕ} {p : Places} {l : Label} → Lays S i n (group p ps (i + 1)) x l y → LaysParts (Part S ps) i n p x l y
    in_later : {S : Shape} {ps : Parts} {i n x y : ℕ} {p : Places} {l : Label} → LaysParts ps (i + 1) (n + width S) p x l y → LaysParts (Part S ps) i n p x l y

-- elements of lists
pub first_or : {X : Type 0} (P : X → Type 0) (x : X) (xs : List X) (z : X) → Contains (x ∷ xs) z → P x → (Contains xs z → P z) → P z
first_or P x xs z (zero, lt, is) here rest = subst P is here
first_or P x xs z (suc k, lt, is) here rest = rest (k, omega arith, is)

pub none_of : {X : Type 0} (P : X → Type 0) (z : X) → Contains [] z → P z
none_of P z has = absurd (omega (arith, has.1))

pub either : {X : Type 0} (P : X → Type 0) (xs ys : List X) (z : X) → Contains (xs ++ ys) z → (Contains xs z → P z) → (Contains ys z → P z) → P z
either P xs ys z has one two = elim (Contains-append_cases xs ys z has) as (λ h. P z) [ inl a ↦ one a | inr b ↦ two b ]

pub only_one : {X : Type 0} (P : X → Type 0) (x : X) (z : X) → Contains (x ∷ []) z → P x → P z
only_one P x z has here = first_or P x [] z has here (λ h. none_of P z h)

-- the ends of an edge, and what is done along it
abbrev pub source : Edge → ℕ
source (edge x l y) = x

abbrev pub label : Edge → Label
label (edge x l y) = l

abbrev pub goal : Edge → ℕ
goal (edge x l y) = y

-- the edge is one of the shape
abbrev pub Has : Shape → ℕ → ℕ → Places → Edge → Type 0
Has S a n p e = Lays S a n p (source e) (label e) (goal e)

abbrev pub HaveParts : Parts → ℕ → ℕ → Places → Edge → Type 0
HaveParts ps i n p e = LaysParts ps i n p (source e) (label e) (goal e)

-- a silent edge to one of the parts
to_from : (P : Edge → Type 0) (a : ℕ) (ps : Parts) (i : ℕ) (e : Edge) → Contains (to_each a ps i) e → ((b : ℕ) → Heads ps i b → P (edge a Silent b)) → P e
to_from P a End i e h f = none_of P e h
to_from P a (Part S ps) i e h f = first_or P (edge a Silent i) (to_each a ps (i + 1)) e h (f i G.this) (λ k. to_from P a ps (i + 1) e k (λ b q. f b (G.later q)))

to_have : (a : ℕ) {ps : Parts} {i b : ℕ} → Heads ps i b → Contains (to_each a ps i) (edge a Silent b)
to_have a (G.this {S = S} {ps = ps} {m = i}) = is_first (edge a Silent i) (to_each a ps (i + 1))
to_have a (G.later {S = S} {ps = ps} {m = i} {b = b} h) = is_later (edge a Silent i) (to_each a ps (i + 1)) (edge a Silent b) (to_have a h)

past_from : (ps : Parts) (d : Bool) (a n : ℕ) (p : Places) (e : Edge) → Contains (past_all d a (p.to)) e → Has (Cases ps d) a n p e
past_from ps true a n p e h = none_of (Has (Cases ps true) a n p) e h
past_from ps false a n p e h = only_one (Has (Cases ps false) a n p) (edge a Silent (p.to)) e h no_default

mutual
  pub lays_from : (S : Shape) (a n : ℕ) (p : Places) (e : Edge) → Contains (edges S a n p) e → Has S a n p e
  lays_from Skip a n p e h = only_one (Has Skip a n p) (edge a Silent (p.to)) e h skip
  lays_from (Sys x q) a n p e h = only_one (Has (Sys x q) a n p) (edge a (System x q) (p.to)) e h sys
  lays_from (Exit q) a n p e h = only_one (Has (Exit q) a n p) (edge a (System exit_call q) n) e h exit
  lays_from (Call s) a n p e h = only_one (Has (Call s) a n p) (edge a (Site s) (p.to)) e h call
  lays_from (Seq S ps) a n p e h = either (Has (Seq S ps) a n p) (edges S a (n + count ps) (group p ps n)) (edges_of_parts ps n (n + count ps + width S) p) e h (λ k. in_seq (lays_from S a (n + count ps) (group p ps n) e k)) (λ k. in_rest (parts_from ps n (n + count ps + width S) p e k))
  lays_from (Alt S T) a n p e h = either (Has (Alt S T) a n p) (edges S a n p) (edges T a (n + width S) p) e h (λ k. in_left (lays_from S a n p e k)) (λ k. in_right (lays_from T a (n + width S) p e k))
  lays_from (Loop C B P) a n p e h =
      let c = edges C n (n + 3) (record p { to = n + 1 }) in
      let b = edges B (n + 1) (n + 3 + width C) (body p (n + 2) (p.to) (n + 2)) in
      let s = edges P (n + 2) (n + 3 + width C + width B) (record p { to = n }) in
      first_or (Has (Loop C B P) a n p) (edge a Silent n) (edge (n + 1) Silent (p.to) ∷ (c ++ (b ++ s))) e h to_loop (λ k.
      first_or (Has (Loop C B P) a n p) (edge (n + 1) Silent (p.to)) (c ++ (b ++ s)) e k loop_ends (λ k.
      either (Has (Loop C B P) a n p) c (b ++ s) e k (λ k. in_test (lays_from C n (n + 3) (record p { to = n + 1 }) e k)) (λ k.
      either (Has (Loop C B P) a n p) b s e k (λ k. in_body (lays_from B (n + 1) (n + 3 + width C) (body p (n + 2) (p.to) (n + 2)) e k)) (λ k. in_step (lays_from P (n + 2) (n + 3 + width C + width B) (record p { to = n }) e k)))))
  lays_from (Do B C) a n p e h =
      let b = edges B n (n + 3) (body p (n + 1) (p.to) (n + 1)) in
      let c = edges C (n + 1) (n + 3 + width B) (record p { to = n + 2 }) in
      first_or (Has (Do B C) a n p) (edge a Silent n) (edge (n + 2) Silent n ∷ edge (n + 2) Silent (p.to) ∷ (b ++ c)) e h to_do (λ k.
      first_or (Has (Do B C) a n p) (edge (n + 2) Silent n) (edge (n + 2) Silent (p.to) ∷ (b ++ c)) e k do_again (λ k.
      first_or (Has (Do B C) a n p) (edge (n + 2) Silent (p.to)) (b ++ c) e k do_ends (λ k.
      either (Has (Do B C) a n p) b c e k (λ k. in_do (lays_from B n (n + 3) (body p (n + 1) (p.to) (n + 1)) e k)) (λ k. in_until (lays_from C (n + 1) (n + 3 + width B) (record p { to = n + 2 }) e k)))))
  lays_from (Cases ps d) a n p e h =
      either (Has (Cases ps d) a n p) (to_each a ps n) (past_all d a (p.to) ++ edges_of_parts ps n (n + count ps) (switch p)) e h (λ k. to_from (Has (Cases ps d) a n p) a ps n e k (λ b q. to_case q)) (λ k.
      either (Has (Cases ps d) a n p) (past_all d a (p.to)) (edges_of_parts ps n (n + count ps) (switch p)) e k (λ k. past_from ps d a n p e k) (λ k. in_cases (parts_from ps n (n + count ps) (switch p) e k)))
  lays_from Break a n p e h = only_one (Has Break a n p) (edge a Silent (p.brk)) e h break_out
  lays_from Continue a n p e h = only_one (Has Continue a n p) (edge a Silent (p.con)) e h continue_on
  lays_from Return a n p e h = only_one (Has Return a n p) (edge a Silent (p.ret)) e h return_now

  parts_from : (ps : Parts) (i n : ℕ) (p : Places) (e : Edge) → Contains (edges_of_parts ps i n p) e → HaveParts ps i n p e
  parts_from End i n p e h = none_of (HaveParts End i n p) e h
  parts_from (Part S ps) i n p e h = either (HaveParts (Part S ps) i n p) (edges S i n (group p ps (i + 1))) (edges_of_parts ps (i + 1) (n + width S) p) e h (λ k. in_part (lays_from S i n (group p ps (i + 1)) e k)) (λ k. in_later (parts_from ps (i + 1) (n + width S) p e k))

in_loop : (C B P : Shape) (a n : ℕ) (p : Places) (e : Edge) → Contains (edges C n (n + 3) (record p { to = n + 1 }) ++ (edges B (n + 1) (n + 3 + width C) (body p (n + 2) (p.to) (n + 2)) ++ edges P (n + 2) (n + 3 + width C + width B) (record p { to = n }))) e → Contains (edges (Loop C B P) a n p) e
in_loop C B P a n p e (k, lt, is) = (suc (suc k), omega (arith, lt), is)

in_do_loop : (B C : Shape) (a n : ℕ) (p : Places) (e : Edge) → Contains (edges B n (n + 3) (body p (n + 1) (p.to) (n + 1)) ++ edges C (n + 1) (n + 3 + width B) (record p { to = n + 2 })) e → Contains (edges (Do B C) a n p) e
in_do_loop B C a n p e (k, lt, is) = (suc (suc (suc k)), omega (arith, lt), is)

mutual
  pub lays_to : {S : Shape} {a n x y : ℕ} {p : Places} {l : Label} → Lays S a n p x l y → Contains (edges S a n p) (edge x l y)
  lays_to (in_seq {S = S} {ps = ps} {a = a} {n = n} {x = x} {y = y} {p = p} {l = l} h) = Contains-append_left (edges S a (n + count ps) (group p ps n)) (edges_of_parts ps n (n + count ps + width S) p) (edge x l y) (lays_to h)
  lays_to (in_rest {S = S} {ps = ps} {a = a} {n = n} {x = x} {y = y} {p = p} {l = l} h) = Contains-append_right (edges S a (n + count ps) (group p ps n)) (edges_of_parts ps n (n + count ps + width S) p) (edge x l y) (parts_to h)
  lays_to (in_left {S = S} {T = T} {a = a} {n = n} {x = x} {y = y} {p = p} {l = l} h) = Contains-append_left (edges S a n p) (edges T a (n + width S) p) (edge x l y) (lays_to h)
  lays_to (in_right {S = S} {T = T} {a = a} {n = n} {x = x} {y = y} {p = p} {l = l} h) = Contains-append_right (edges S a n p) (edges T a (n + width S) p) (edge x l y) (lays_to h)
  lays_to loop_ends = (1, omega arith, refl)
  lays_to (in_test {C = C} {B = B} {P = P} {a = a} {n = n} {x = x} {y = y} {p = p} {l = l} h) = in_loop C B P a n p (edge x l y) (Contains-append_left (edges C n (n + 3) (record p { to = n + 1 })) (edges B (n + 1) (n + 3 + width C) (body p (n + 2) (p.to) (n + 2)) ++ edges P (n + 2) (n + 3 + width C + width B) (record p { to = n })) (edge x l y) (lays_to h))
  lays_to (in_body {C = C} {B = B} {P = P} {a = a} {n = n} {x = x} {y = y} {p = p} {l = l} h) = in_loop C B P a n p (edge x l y) (Contains-append_right (edges C n (n + 3) (record p { to = n + 1 })) (edges B (n + 1) (n + 3 + width C) (body p (n + 2) (p.to) (n + 2)) ++ edges P (n + 2) (n + 3 + width C + width B) (record p { to = n })) (edge x l y) (Contains-append_left (edges B (n + 1) (n + 3 + width C) (body p (n + 2) (p.to) (n + 2))) (edges P (n + 2) (n + 3 + width C + width B) (record p { to = n })) (edge x l y) (lays_to h)))
  lays_to (in_step {C = C} {B = B} {P = P} {a = a} {n = n} {x = x} {y = y} {p = p} {l = l} h) = in_loop C B P a n p (edge x l y) (Contains-append_right (edges C n (n + 3) (record p { to = n + 1 })) (edges B (n + 1) (n + 3 + width C) (body p (n + 2) (p.to) (n + 2)) ++ edges P (n + 2) (n + 3 + width C + width B) (record p { to = n })) (edge x l y) (Contains-append_right (edges B (n + 1) (n + 3 + width C) (body p (n + 2) (p.to) (n + 2))) (edges P (n + 2) (n + 3 + width C + width B) (record p { to = n })) (edge x l y) (lays_to h)))
  lays_to do_again = (1, omega arith, refl)
  lays_to do_ends = (2, omega arith, refl)
  lays_to (in_do {B = B} {C = C} {a = a} {n = n} {x = x} {y = y} {p = p} {l = l} h) = in_do_loop B C a n p (edge x l y) (Contains-append_left (edges B n (n + 3) (body p (n + 1) (p.to) (n + 1))) (edges C (n + 1) (n + 3 + width B) (record p { to = n + 2 })) (edge x l y) (lays_to h))
  lays_to (in_until {B = B} {C = C} {a = a} {n = n} {x = x} {y = y} {p = p} {l = l} h) = in_do_loop B C a n p (edge x l y) (Contains-append_right (edges B n (n + 3) (body p (n + 1) (p.to) (n + 1))) (edges C (n + 1) (n + 3 + width B) (record p { to = n + 2 })) (edge x l y) (lays_to h))
  lays_to (to_case {ps = ps} {d = d} {a = a} {n = n} {b = b} {p = p} h) = Contains-append_left (to_each a ps n) (past_all d a (p.to) ++ edges_of_parts ps n (n + count ps) (switch p)) (edge a Silent b) (to_have a h)
  lays_to (in_cases {ps = ps} {d = d} {a = a} {n = n} {x = x} {y = y} {p = p} {l = l} h) = Contains-append_right (to_each a ps n) (past_all d a (p.to) ++ edges_of_parts ps n (n + count ps) (switch p)) (edge x l y) (Contains-append_right (past_all d a (p.to)) (edges_of_parts ps n (n + count ps) (switch p)) (edge x l y) (parts_to h))
  lays_to (no_default {ps = ps} {a = a} {n = n} {p = p}) = Contains-append_right (to_each a ps n) (edge a Silent (p.to) ∷ edges_of_parts ps n (n + count ps) (switch p)) (edge a Silent (p.to)) (is_first (edge a Silent (p.to)) (edges_of_parts ps n (n + count ps) (switch p)))
  lays_to e = (0, omega arith, refl)

  parts_to : {ps : Parts} {i n x y : ℕ} {p : Places} {l : Label} → LaysParts ps i n p x l y → Contains (edges_of_parts ps i n p) (edge x l y)
  parts_to (in_part {S = S} {ps = ps} {i = i} {n = n} {x = x} {y = y} {p = p} {l = l} h) = Contains-append_left (edges S i n (group p ps (i + 1))) (edges_of_parts ps (i + 1) (n + width S) p) (edge x l y) (lays_to h)
  parts_to (in_later {S = S} {ps = ps} {i = i} {n = n} {x = x} {y = y} {p = p} {l = l} h) = Contains-append_right (edges S i n (group p ps (i + 1))) (edges_of_parts ps (i + 1) (n + width S) p) (edge x l y) (parts_to h)
