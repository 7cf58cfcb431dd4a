-- The graph of the layout is laid: each fresh node has the edges of the parts that begin there, and no others.
use Rattle.std.proofs.Common.{◌≡◌, ◌≢◌, ℕ, ℤ, Bool, true, ◌+◌, ◌<◌, ◌≤◌, List, Option, length, ◌⊎◌, inl, inr, refl, arith}
use Rattle.c_meaning.specs.Shape.{Shape, Skip, Sys, Exit, Call, Seq, Alt, Loop, Do, Cases, Parts, End, Part, Break, Continue, Return, Shapes, exit_call}
use Rattle.c_meaning.specs.Bodies.{IsExpression, AreExpressions, IsStatement, AreStatements}
use Rattle.c_meaning.specs.Walks.{Label, Silent, System, Site}
use Rattle.c_meaning.specs.GraphLayout.{Places, body, width, widths, count, group, switch}
use Rattle.c_meaning.proofs.Laid.{Graph, Laid, Only, First, OrSilent, out, into, TwoSilent, to_a, to_b, LaidParts, no_part, one_part}
use Rattle.c_meaning.proofs.Laid as G
use Rattle.c_meaning.proofs.Edges.{Lays, skip, sys, exit, call, in_left, in_right, to_loop, loop_ends, in_test, in_body, in_step, to_do, do_again, do_ends, in_do, in_until, break_out, continue_on, return_now, in_cases, in_seq, in_rest, to_case, no_default, LaysParts, in_part, in_later}

pub record Within (lo hi x : ℕ) : Type 0 where
  pub low : lo ≤ x
  pub high : x < hi

-- where an edge of S may leave
abbrev pub At : Shape → ℕ → ℕ → ℕ → Type 0
At S a n x = (x ≡ a) ⊎ Within n (n + width S) x

-- where an edge of the parts of a row may leave
abbrev AtParts : Parts → ℕ → ℕ → ℕ → Type 0
AtParts ps i n x = Within i (i + count ps) x ⊎ Within n (n + widths ps) x

grown : {lo hi low high x : ℕ} → Within lo hi x → low ≤ lo → hi ≤ high → Within low high x
grown h l r = record { low = omega (arith, h, l); high = omega (arith, h, r) }

wider : {a lo hi low high x : ℕ} → (x ≡ a) ⊎ Within lo hi x → low ≤ lo → hi ≤ high → (x ≡ a) ⊎ Within low high x
wider (inl e) l r = inl e
wider (inr h) l r = inr (grown h l r)

first_wider : {i top lo hi high x : ℕ} → (x ≡ i) ⊎ Within lo hi x → i < top → hi ≤ high → Within i top x ⊎ Within lo high x
first_wider (inl e) t r = inl (record { low = omega (arith, e); high = omega (arith, e, t) })
first_wider (inr h) t r = inr (grown h (omega arith) r)

both_wider : {i j k m lo hi low high x : ℕ} → Within j k x ⊎ Within lo hi x → i ≤ j → k ≤ m → low ≤ lo → hi ≤ high → Within i m x ⊎ Within low high x
both_wider (inl h) a b l r = inl (grown h a b)
both_wider (inr h) a b l r = inr (grown h l r)

mutual
  pub sources : {S : Shape} {a n x y : ℕ} {p : Places} {l : Label} → Lays S a n p x l y → At S a n x
  sources (in_left e) = wider (sources e) (omega arith) (omega arith)
  sources (in_right e) = wider (sources e) (omega arith) (omega arith)
  sources (in_seq e) = wider (sources e) (omega arith) (omega arith)
  sources loop_ends = inr (record { low = omega arith; high = omega arith })
  sources do_again = inr (record { low = omega arith; high = omega arith })
  sources do_ends = inr (record { low = omega arith; high = omega arith })
  sources (in_test e) = let k = sources e in inr (record { low = omega (arith, k); high = omega (arith, k) })
  sources (in_body e) = let k = sources e in inr (record { low = omega (arith, k); high = omega (arith, k) })
  sources (in_step e) = let k = sources e in inr (record { low = omega (arith, k); high = omega (arith, k) })
  sources (in_do e) = let k = sources e in inr (record { low = omega (arith, k); high = omega (arith, k) })
  sources (in_until e) = let k = sources e in inr (record { low = omega (arith, k); high = omega (arith, k) })
  sources (in_cases e) = let k = sources_parts e in inr (record { low = omega (arith, k); high = omega (arith, k) })
  sources (in_rest e) = let k = sources_parts e in inr (record { low = omega (arith, k); high = omega (arith, k) })
  sources e = inl refl

  sources_parts : {ps : Parts} {i n x y : ℕ} {p : Places} {l : Label} → LaysParts ps i n p x l y → AtParts ps i n x
  sources_parts (in_part e) = first_wider (sources e) (omega arith) (omega arith)
  sources_parts (in_later e) = both_wider (sources_parts e) (omega arith) (omega arith) (omega arith) (omega arith)

-- the edges of S from where it begins are those with which it begins
pub begin : {S : Shape} {a n x y : ℕ} {p : Places} {l : Label} → Lays S a n p x l y → x ≡ a → a < n → First S n p l y
begin skip e h = G.skip
begin sys e h = G.sys
begin exit e h = G.exit
begin call e h = G.call
begin (in_left d) e h = G.left (begin d e h)
begin (in_right d) e h = G.right (begin d e (omega (arith, h)))
begin to_loop e h = G.loop
begin (in_test d) e h = let k = sources d in absurd (omega (arith, k, e, h))
begin (in_body d) e h = let k = sources d in absurd (omega (arith, k, e, h))
begin (in_step d) e h = let k = sources d in absurd (omega (arith, k, e, h))
begin to_do e h = G.until
begin (in_do d) e h = let k = sources d in absurd (omega (arith, k, e, h))
begin (in_until d) e h = let k = sources d in absurd (omega (arith, k, e, h))
begin (to_case k) e h = G.case k
begin (in_cases d) e h = let k = sources_parts d in absurd (omega (arith, k, e, h))
begin (in_seq d) e h = G.row (begin d e (omega (arith, h)))
begin (in_rest d) e h = let k = sources_parts d in absurd (omega (arith, k, e, h))
begin no_default e h = G.no_case
begin break_out e h = G.break_out
begin continue_on e h = G.continue_on
begin return_now e h = G.return_now
begin d e h = absurd (omega (arith, e, h))

-- which part an edge belongs to, by the node that it leaves
alt_left : {S T : Shape} {a n x y : ℕ} {p : Places} {l : Label} → Lays (Alt S T) a n p x l y → a < n → Within n (n + width S) x → Lays S a n p x l y
alt_left (in_left e) h at = e
alt_left (in_right e) h at = let k = sources e in absurd (omega (arith, k, h, at))

alt_right : {S T : Shape} {a n x y : ℕ} {p : Places} {l : Label} → Lays (Alt S T) a n p x l y → a < n → Within (n + width S) (n + width S + width T) x → Lays T a (n + width S) p x l y
alt_right (in_right e) h at = e
alt_right (in_left e) h at = let k = sources e in absurd (omega (arith, k, h, at))

loop_test : {C B P : Shape} {a n x y : ℕ} {p : Places} {l : Label} → Lays (Loop C B P) a n p x l y → a < n → At C n (n + 3) x → Lays C n (n + 3) (record p { to = n + 1 }) x l y
loop_test (in_test e) h at = e
loop_test (in_body e) h at = let k = sources e in absurd (omega (arith, k, h, at))
loop_test (in_step e) h at = let k = sources e in absurd (omega (arith, k, h, at))
loop_test e h at = absurd (omega (arith, h, at))

loop_body : {C B P : Shape} {a n x y : ℕ} {p : Places} {l : Label} → Lays (Loop C B P) a n p x l y → a < n → Within (n + 3 + width C) (n + 3 + width C + width B) x → Lays B (n + 1) (n + 3 + width C) (body p (n + 2) (p.to) (n + 2)) x l y
loop_body (in_body e) h at = e
loop_body (in_test e) h at = let k = sources e in absurd (omega (arith, k, h, at))
loop_body (in_step e) h at = let k = sources e in absurd (omega (arith, k, h, at))
loop_body e h at = absurd (omega (arith, h, at))

loop_step : {C B P : Shape} {a n x y : ℕ} {p : Places} {l : Label} → Lays (Loop C B P) a n p x l y → a < n → At P (n + 2) (n + 3 + width C + width B) x → Lays P (n + 2) (n + 3 + width C + width B) (record p { to = n }) x l y
loop_step (in_step e) h at = e
loop_step (in_test e) h at = let k = sources e in absurd (omega (arith, k, h, at))
loop_step (in_body e) h at = let k = sources e in absurd (omega (arith, k, h, at))
loop_step e h at = absurd (omega (arith, h, at))

loop_after : {C B P : Shape} {a n x y : ℕ} {p : Places} {l : Label} → Lays (Loop C B P) a n p x l y → a < n → x ≡ n + 1 → OrSilent (p.to) (First B (n + 3 + width C) (body p (n + 2) (p.to) (n + 2))) l y
loop_after loop_ends h at = out
loop_after (in_body e) h at = into (begin e at (omega arith))
loop_after (in_test e) h at = let k = sources e in absurd (omega (arith, k, h, at))
loop_after (in_step e) h at = let k = sources e in absurd (omega (arith, k, h, at))
loop_after e h at = absurd (omega (arith, h, at))

do_body : {B C : Shape} {a n x y : ℕ} {p : Places} {l : Label} → Lays (Do B C) a n p x l y → a < n → At B n (n + 3) x → Lays B n (n + 3) (body p (n + 1) (p.to) (n + 1)) x l y
do_body (in_do e) h at = e
do_body (in_until e) h at = let k = sources e in absurd (omega (arith, k, h, at))
do_body e h at = absurd (omega (arith, h, at))

do_test : {B C : Shape} {a n x y : ℕ} {p : Places} {l : Label} → Lays (Do B C) a n p x l y → a < n → At C (n + 1) (n + 3 + width B) x → Lays C (n + 1) (n + 3 + width B) (record p { to = n + 2 }) x l y
do_test (in_until e) h at = e
do_test (in_do e) h at = let k = sources e in absurd (omega (arith, k, h, at))
do_test e h at = absurd (omega (arith, h, at))

do_choice : {B C : Shape} {a n x y : ℕ} {p : Places} {l : Label} → Lays (Do B C) a n p x l y → a < n → x ≡ n + 2 → TwoSilent n (p.to) l y
do_choice do_again h at = to_a
do_choice do_ends h at = to_b
do_choice (in_do e) h at = let k = sources e in absurd (omega (arith, k, h, at))
do_choice (in_until e) h at = let k = sources e in absurd (omega (arith, k, h, at))
do_choice e h at = absurd (omega (arith, h, at))

exit_node : {a n x y : ℕ} {q : List (Option ℤ)} {p : Places} {l : Label} → Lays (Exit q) a n p x l y → a < n → x ≡ n → ⊥
exit_node exit h at = omega (arith, h, at)

-- the graph has the edges of S, its fresh nodes have no others, and are no exits
pub record Owns (env : Shapes) (g : Graph) (S : Shape) (a n : ℕ) (p : Places) : Type 0 where
  pub has : (x : ℕ) (l : Label) (y : ℕ) → Lays S a n p x l y → g.edge x l y
  pub only : (x : ℕ) (l : Label) (y : ℕ) → Within n (n + width S) x → g.edge x l y → Lays S a n p x l y
  pub inner : (x : ℕ) → Within n (n + width S) x → (f : ℕ) → f < length env.functions → x ≢ g.exit f

pub record OwnsParts (env : Shapes) (g : Graph) (ps : Parts) (i n : ℕ) (p : Places) : Type 0 where
  pub has : (x : ℕ) (l : Label) (y : ℕ) → LaysParts ps i n p x l y → g.edge x l y
  pub only : (x : ℕ) (l : Label) (y : ℕ) → AtParts ps i n x → g.edge x l y → LaysParts ps i n p x l y
  pub inner : (x : ℕ) → AtParts ps i n x → (f : ℕ) → f < length env.functions → x ≢ g.exit f

-- a part of what the graph has
part_of : {env : Shapes} {g : Graph} {S T : Shape} {a b n k : ℕ} {p r : Places} → Owns env g T a n p → ((x : ℕ) (l : Label) (y : ℕ) → Lays S b k r x l y → Lays T a n p x l y) → ((x : ℕ) (l : Label) (y : ℕ) → Lays T a n p x l y → Within k (k + width S) x → Lays S b k r x l y) → n ≤ k → k + width S ≤ n + width T → Owns env g S b k r
part_of o whole back lo hi = record { has = λ x l y e. o.has x l y (whole x l y e); only = λ x l y at e. back x l y (o.only x l y (grown at lo hi) e) at; inner = λ x at. o.inner x (grown at lo hi) }

-- the edges of one fresh node
only_of : {env : Shapes} {g : Graph} {S : Shape} {a n : ℕ} {p : Places} {A : Label → ℕ → Type 0} (x : ℕ) → Owns env g S a n p → Within n (n + width S) x → ((l : Label) (y : ℕ) → Lays S a n p x l y → A l y) → Only env g x A
only_of x o at f = record { edges = λ l y e. f l y (o.only x l y at e); inner = o.inner x at }

part_first : {S : Shape} {ps : Parts} {i n x y : ℕ} {p : Places} {l : Label} → LaysParts (Part S ps) i n p x l y → i + 1 + count ps ≤ n → At S i n x → Lays S i n (group p ps (i + 1)) x l y
part_first (in_part e) k at = e
part_first (in_later e) k at = let s = sources_parts e in absurd (omega (arith, s, k, at))

part_later : {S : Shape} {ps : Parts} {i n x y : ℕ} {p : Places} {l : Label} → LaysParts (Part S ps) i n p x l y → i + 1 + count ps ≤ n → AtParts ps (i + 1) (n + width S) x → LaysParts ps (i + 1) (n + width S) p x l y
part_later (in_part e) k at = let s = sources e in absurd (omega (arith, s, k, at))
part_later (in_later e) k at = e

row_first : {S : Shape} {ps : Parts} {a n x y : ℕ} {p : Places} {l : Label} → Lays (Seq S ps) a n p x l y → Within (n + count ps) (n + count ps + width S) x → Lays S a (n + count ps) (group p ps n) x l y
row_first (in_seq e) at = e
row_first (in_rest e) at = let s = sources_parts e in absurd (omega (arith, s, at))

row_rest : {S : Shape} {ps : Parts} {a n x y : ℕ} {p : Places} {l : Label} → Lays (Seq S ps) a n p x l y → a < n → AtParts ps n (n + count ps + width S) x → LaysParts ps n (n + count ps + width S) p x l y
row_rest (in_seq e) h at = let s = sources e in absurd (omega (arith, s, h, at))
row_rest (in_rest e) h at = e

cases_edge : {ps : Parts} {a n x y : ℕ} {p : Places} {l : Label} {d : Bool} → Lays (Cases ps d) a n p x l y → a < n → n ≤ x → LaysParts ps n (n + count ps) (switch p) x l y
cases_edge (in_cases e) h lo = e
cases_edge e h lo = absurd (omega (arith, h, lo))

-- an expression is a statement
mutual
  pub statement : (S : Shape) (b c : Bool) → IsExpression S → IsStatement S b c
  statement (Seq S ps) b c s = (statement S b c s.0, statements ps b c s.1)
  statement (Alt S T) b c s = (statement S b c s.0, statement T b c s.1)
  statement (Loop C B P) b c s = absurd s
  statement (Do B C) b c s = absurd s
  statement (Cases ps d) b c s = absurd s
  statement Break b c s = absurd s
  statement Continue b c s = absurd s
  statement S b c s = tt

  statements : (ps : Parts) (b c : Bool) → AreExpressions ps → AreStatements ps b c
  statements End b c s = tt
  statements (Part S ps) b c s = (statement S b c s.0, statements ps b c s.1)

mutual
  pub laid : (env : Shapes) (g : Graph) (S : Shape) (a n : ℕ) (p : Places) (b c : Bool) → IsStatement S b c → a < n → Owns env g S a n p → Laid env g S a n p
  laid env g Skip a n p b c s h o = G.skip (o.has a Silent (p.to) skip)
  laid env g (Sys x q) a n p b c s h o = G.sys (o.has a (System x q) (p.to) sys)
  laid env g (Exit q) a n p b c s h o = G.exit (o.has a (System exit_call q) n exit) (only_of n o (record { low = omega arith; high = omega arith }) (λ l y e. exit_node e h refl))
  laid env g (Call k) a n p b c s h o = G.call (o.has a (Site k) (p.to) call)
  laid env g (Alt S T) a n p b c s h o = G.either (laid env g S a n p b c s.0 h (part_of o (λ x l y e. in_left e) (λ x l y e at. alt_left e h at) (omega arith) (omega arith))) (laid env g T a (n + width S) p b c s.1 (omega (arith, h)) (part_of o (λ x l y e. in_right e) (λ x l y e at. alt_right e h at) (omega arith) (omega arith)))
  laid env g (Loop C B P) a n p b c s h o =
      G.loop s.0 s.2 (o.has a Silent n to_loop) (o.has (n + 1) Silent (p.to) loop_ends)
      (laid env g C n (n + 3) (record p { to = n + 1 }) b c (statement C b c s.0) (omega arith) (part_of o (λ x l y e. in_test e) (λ x l y e at. loop_test e h (inr at)) (omega arith) (omega arith)))
      (laid env g B (n + 1) (n + 3 + width C) (body p (n + 2) (p.to) (n + 2)) true true s.1 (omega arith) (part_of o (λ x l y e. in_body e) (λ x l y e at. loop_body e h at) (omega arith) (omega arith)))
      (laid env g P (n + 2) (n + 3 + width C + width B) (record p { to = n }) b c (statement P b c s.2) (omega arith) (part_of o (λ x l y e. in_step e) (λ x l y e at. loop_step e h (inr at)) (omega arith) (omega arith)))
      (only_of n o (record { low = omega arith; high = omega arith }) (λ l y e. begin (loop_test e h (inl refl)) refl (omega arith)))
      (only_of (n + 1) o (record { low = omega arith; high = omega arith }) (λ l y e. loop_after e h refl))
      (only_of (n + 2) o (record { low = omega arith; high = omega arith }) (λ l y e. begin (loop_step e h (inl refl)) refl (omega arith)))
  laid env g (Do B C) a n p b c s h o =
      G.until s.1 (o.has a Silent n to_do) (o.has (n + 2) Silent n do_again) (o.has (n + 2) Silent (p.to) do_ends)
      (laid env g B n (n + 3) (body p (n + 1) (p.to) (n + 1)) true true s.0 (omega arith) (part_of o (λ x l y e. in_do e) (λ x l y e at. do_body e h (inr at)) (omega arith) (omega arith)))
      (laid env g C (n + 1) (n + 3 + width B) (record p { to = n + 2 }) b c (statement C b c s.1) (omega arith) (part_of o (λ x l y e. in_until e) (λ x l y e at. do_test e h (inr at)) (omega arith) (omega arith)))
      (only_of n o (record { low = omega arith; high = omega arith }) (λ l y e. begin (do_body e h (inl refl)) refl (omega arith)))
      (only_of (n + 1) o (record { low = omega arith; high = omega arith }) (λ l y e. begin (do_test e h (inl refl)) refl (omega arith)))
      (only_of (n + 2) o (record { low = omega arith; high = omega arith }) (λ l y e. do_choice e h refl))
  laid env g Break a n p b c s h o = G.break_out (o.has a Silent (p.brk) break_out)
  laid env g Continue a n p b c s h o = G.continue_on (o.has a Silent (p.con) continue_on)
  laid env g Return a n p b c s h o = G.return_now (o.has a Silent (p.ret) return_now)
  laid env g (Seq S ps) a n p b c s h o = G.row (laid env g S a (n + count ps) (group p ps n) b c s.0 (omega (arith, h)) (part_of o (λ x l y e. in_seq e) (λ x l y e at. row_first e at) (omega arith) (omega arith))) (laid_parts env g ps n (n + count ps + width S) p b c s.1 (omega arith) (record { has = λ x l y e. o.has x l y (in_rest e); only = λ x l y at e. row_rest (o.only x l y (record { low = omega (arith, at); high = omega (arith, at) }) e) h at; inner = λ x at. o.inner x (record { low = omega (arith, at); high = omega (arith, at) }) }))
  laid env g (Cases ps d) a n p b c s h o = G.cases (laid_parts env g ps n (n + count ps) (switch p) true c s (omega arith) (record { has = λ x l y e. o.has x l y (in_cases e); only = λ x l y at e. cases_edge (o.only x l y (record { low = omega (arith, at); high = omega (arith, at) }) e) h (omega (arith, at)); inner = λ x at. o.inner x (record { low = omega (arith, at); high = omega (arith, at) }) })) (λ y k. o.has a Silent y (to_case k)) (λ e. o.has a Silent (p.to) (rw e no_default))

  laid_parts : (env : Shapes) (g : Graph) (ps : Parts) (i n : ℕ) (p : Places) (b c : Bool) → AreStatements ps b c → i + count ps ≤ n → OwnsParts env g ps i n p → LaidParts env g ps i n p
  laid_parts env g End i n p b c s k o = no_part
  laid_parts env g (Part S ps) i n p b c s k o =
      one_part
      (laid env g S i n (group p ps (i + 1)) b c s.0 (omega (arith, k)) (record { has = λ x l y e. o.has x l y (in_part e); only = λ x l y at e. part_first (o.only x l y (inr (grown at (omega arith) (omega arith))) e) (omega (arith, k)) (inr at); inner = λ x at. o.inner x (inr (grown at (omega arith) (omega arith))) }))
      (record { edges = λ l y e. begin (part_first (o.only i l y (inl (record { low = omega arith; high = omega arith })) e) (omega (arith, k)) (inl refl)) refl (omega (arith, k)); inner = o.inner i (inl (record { low = omega arith; high = omega arith })) })
      (laid_parts env g ps (i + 1) (n + width S) p b c s.1 (omega (arith, k)) (record { has = λ x l y e. o.has x l y (in_later e); only = λ x l y at e. part_later (o.only x l y (both_wider at (omega arith) (omega arith) (omega arith) (omega arith)) e) (omega (arith, k)) at; inner = λ x at. o.inner x (both_wider at (omega arith) (omega arith) (omega arith) (omega arith)) }))
