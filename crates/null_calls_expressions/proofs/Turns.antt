-- Parts of a tree that are made in turn, each with more calls and temporaries before it.
use Rattle.std.proofs.Common.{◌≡◌, ℕ, ◌+◌, ◌<◌, ◌≤◌, List, [], ◌∷◌, ◌++◌, Result, Ok, Err, IfOk, OnOk, length, drop, get_or, refl, sym, ap, subst, ◌∙◌, arith}
use Rattle.std.proofs.lemmas.List.{append_assoc, append-nil}
use Rattle.null_calls_temporaries.proofs.KeptLemmas.{at_place, all_gone}
use Rattle.null_calls_expressions.specs.Marked.{Marking, Reached, IsMarked, IsMarkedBefore}

-- ## Parts of one node

-- a part, and then another
abbrev pub in_turn : {D E : Type 0} → Marking D → Marking E → Marking (D × E)
in_turn u v = record { mark = λ b z. (u.mark b z.0, v.mark (b + u.count z.0) z.1); kept = λ b z. u.kept b z.0 ++ v.kept (b + u.count z.0) z.1; count = λ z. u.count z.0 + v.count z.1 }

pub both : {D E : Type 0} {u : Marking D} {v : Marking E} {s t r : Reached} {d x : D} {e y : E} → IsMarked u s t d x → IsMarked v t r e y → IsMarked (in_turn u v) s r (d, e) (x, y)
both {u = u} {v = v} {s = s} {t = t} {d = d} {e = e} p q = record {
  tree = λ i. (p.tree i, (q.tree ∙ ap (λ k. v.mark k e) p.counts) i);
  keeps = q.keeps ∙ (ap (λ ys. ys ++ v.kept t.0 e) p.keeps ∙ (append_assoc s.1 (u.kept s.0 d) (v.kept t.0 e) ∙ ap (λ k. s.1 ++ (u.kept s.0 d ++ v.kept k e)) p.counts));
  counts = omega (arith, p.counts, q.counts);
}

-- another word for the part
pub alike : {D : Type 0} {m : Marking D} {s t : Reached} {d e x : D} → d ≡ e → IsMarked m s t d x → IsMarked m s t e x
alike {m = m} {s = s} {t = t} {x = x} is p = subst (λ z. IsMarked m s t z x) is p

-- a node of one part, or of some in turn
pub node : {D E : Type 0} {u : Marking D} {v : Marking E} {s t : Reached} {d x : D} {whole made : E} → IsMarked u s t d x → (F : D → E) → whole ≡ F d → made ≡ F x
    → v.mark s.0 (F d) ≡ F (u.mark s.0 d) → v.kept s.0 (F d) ≡ u.kept s.0 d → v.count (F d) ≡ u.count d → IsMarked v s t whole made
node {s = s} p F is built mark kept count =
    alike (sym is) (record { tree = built ∙ (ap F p.tree ∙ sym mark); keeps = p.keeps ∙ ap (λ ys. s.1 ++ ys) (sym kept); counts = p.counts ∙ ap (λ n. s.0 + n) (sym count) })

-- a part that stays, and has no calls
pub leaf : {D : Type 0} {m : Marking D} {s : Reached} {d z made : D} → d ≡ z → made ≡ z → m.mark s.0 z ≡ z → m.kept s.0 z ≡ [] → m.count z ≡ 0 → IsMarked m s s d made
leaf {s = s} is built mark kept count =
    alike (sym is) (record { tree = built ∙ sym mark; keeps = sym (append-nil s.1) ∙ ap (λ ys. s.1 ++ ys) (sym kept); counts = omega (arith, count) })

-- the three facts of a call as one
pub all_told : {A E D : Type 0} (m : Marking D) (s t : Reached) (d : D) (f : A → D) (r : Result A E) → IfOk r (λ a. f a ≡ m.mark s.0 d) → OnOk r (t.1 ≡ s.1 ++ m.kept s.0 d) → OnOk r (t.0 ≡ s.0 + m.count d) → IfOk r (λ a. IsMarked m s t d (f a))
all_told m s t d f (Ok a) tree keeps counts = record { tree = tree; keeps = keeps; counts = counts }
all_told m s t d f (Err e) tree keeps counts = tt

pub told_apart : {A E D : Type 0} (m : Marking D) (s t : Reached) (d : D) (f : A → D) (r : Result A E) → IfOk r (λ a. IsMarked m s t d (f a)) → IfOk r (λ a. f a ≡ m.mark s.0 d) × OnOk r (t.1 ≡ s.1 ++ m.kept s.0 d) × OnOk r (t.0 ≡ s.0 + m.count d)
told_apart m s t d f (Ok a) p = (p.tree, p.keeps, p.counts)
told_apart m s t d f (Err e) p = (tt, tt, tt)

-- ## Parts of a list

-- one part, whatever stands behind it
pub first : {D L : Type 0} {u : Marking D} {m : Marking L} {s t : Reached} {d x : D} {before made : L → L} → IsMarked u s t d x → (F : D → L → L) → before ≡ F d → made ≡ F x
    → ((rest : L) → m.mark s.0 (F d rest) ≡ F (u.mark s.0 d) (m.mark (s.0 + u.count d) rest)) → ((rest : L) → m.kept s.0 (F d rest) ≡ u.kept s.0 d ++ m.kept (s.0 + u.count d) rest)
    → ((rest : L) → m.count (F d rest) ≡ u.count d + m.count rest) → IsMarkedBefore m s t before made
first p F is built mark kept count = record { on = λ r rest others q. node (both p q) (λ z. F z.0 z.1) (λ i. is i rest) (λ i. built i others) (mark rest) (kept rest) (count rest) }

-- trees, and then others
abbrev pub onto : {T L : Type 0} → (T → L → L) → List T → L → L
onto before [] rest = rest
onto before (x ∷ xs) rest = before x (onto before xs rest)

onto_more : {T L : Type 0} (before : T → L → L) (xs : List T) (x : T) (rest : L) → onto before (xs ++ x ∷ []) rest ≡ onto before xs (before x rest)
onto_more before [] x rest = refl
onto_more before (y ∷ ys) x rest = ap (before y) (onto_more before ys x rest)

seen : {T L : Type 0} (before : T → L → L) (all : List T → L) → ((x : T) (xs : List T) → before x (all xs) ≡ all (x ∷ xs)) → (xs : List T) → onto before xs (all []) ≡ all xs
seen before all more [] = refl
seen before all more (x ∷ xs) = ap (before x) (seen before all more xs) ∙ more x xs

-- the first parts were made: with whatever is made of the others behind them, all are
pub record GoesOn {T L : Type 0} (m : Marking L) (before : T → L → L) (all : List T → L) (xs made : List T) (i : ℕ) (s t : Reached) : Type 0 where
  pub with_others : (r : Reached) (others : L) → IsMarked m t r (all (drop i xs)) others → IsMarked m s r (all xs) (onto before made others)

pub starts : {T L : Type 0} {m : Marking L} {before : T → L → L} {all : List T → L} {xs made : List T} {s : Reached} → made ≡ [] → GoesOn m before all xs made 0 s s
starts {before = before} none = record { with_others = λ r others p. record { tree = ap (λ zs. onto before zs others) none ∙ p.tree; keeps = p.keeps; counts = p.counts } }

pub goes_on : {T L : Type 0} {m : Marking L} {before : T → L → L} {all : List T → L} {xs made new : List T} {i : ℕ} {x : T} {s t u : Reached} (y : T) → GoesOn m before all xs made i s t → i < length xs → x ≡ get_or xs i x → new ≡ made ++ y ∷ []
    → ((r : Reached) (others : L) → IsMarked m u r (all (drop (i + 1) xs)) others → IsMarked m t r (all (x ∷ drop (i + 1) xs)) (before y others)) → GoesOn m before all xs new (i + 1) s u
goes_on {before = before} {all = all} {xs = xs} {made = made} {i = i} {x = x} y w lt is grown one = record {
  with_others = λ r others q.
      let p = w.with_others r (before y others) (alike (ap all (sym (at_place xs i x lt is))) (one r others q)) in
      record { tree = ap (λ zs. onto before zs others) grown ∙ (onto_more before made y others ∙ p.tree); keeps = p.keeps; counts = p.counts };
}

pub ends : {T L : Type 0} {m : Marking L} {before : T → L → L} {all : List T → L} {xs made : List T} {i : ℕ} {s t : Reached} → GoesOn m before all xs made i s t → length xs ≤ i → ((x : T) (ys : List T) → before x (all ys) ≡ all (x ∷ ys))
    → m.mark t.0 (all []) ≡ all [] → m.kept t.0 (all []) ≡ [] → m.count (all []) ≡ 0 → IsMarked m s t (all xs) (all made)
ends {before = before} {all = all} {xs = xs} {made = made} {i = i} {t = t} w over more mark kept count =
    let p = w.with_others t (all []) (leaf (ap all (all_gone xs i over)) refl mark kept count) in
    record { tree = sym (seen before all more made) ∙ p.tree; keeps = p.keeps; counts = p.counts }
