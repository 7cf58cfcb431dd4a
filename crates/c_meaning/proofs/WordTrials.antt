-- Words of small shapes, and lists of events that are none.
use Rattle.std.proofs.Common.{◌≡◌, ℕ, zero, suc, ℤ, pos, List, [], ◌∷◌, ◌++◌, Option, None, Contains, ◌⊎◌, inl, inr, refl, sym, ap, ◌∙◌, subst, arith}
use Rattle.dm_base.specs.declared.event.Arg.TheVariants as args
use Rattle.dm_base.specs.declared.event.Event.{Event}
use Rattle.dm_base.specs.declared.event.Event.TheVariants as events
use Rattle.dm_base.specs.Fits.{Fits}
use Rattle.c_meaning.specs.Shape.{Shape, Sys, Call, Seq, Alt, Return, Parts, End, Part, Shapes, shape_of, Leave, goes_on, returns}
use Rattle.c_meaning.specs.Words.{Marks, brackets, no_brackets, Whole, Front}
use Rattle.c_meaning.specs.Words as F
use Rattle.c_meaning.specs.Walks.{before, after, parts, this, Walks}
use Rattle.c_meaning.specs.Walks as W
use Rattle.c_meaning.specs.Languages.{Dyck, Stack, Callgraph}
use Rattle.c_meaning.proofs.Erasing.{front as erased}
use Rattle.c_meaning.proofs.Walking.{walked}

-- int f(void) { return getpid(); } int main(void) { f(); getuid(); f(); return 0; }
abbrev env_b : Shapes
env_b = record {
  functions =
      Seq (Sys 14 []) (Part Return End)
      ∷ Seq (Call 1) (Part (Sys 16 []) (Part (Call 3) (Part Return End)))
      ∷ [];
  candidates = λ s. 0 ∷ [];
  main = 1;
}

-- int f(int n) { if (n) { dup(n); f(n - 1); close(n); } else getpid(); return 0; } int main(void) { return f(2); }
abbrev env_e : Shapes
env_e = record {
  functions =
      Seq (Alt (Seq (Sys 5 (None ∷ [])) (Part (Call 1) (Part (Sys 3 (None ∷ [])) End))) (Sys 14 [])) (Part Return End)
      ∷ Seq (Call 4) (Part Return End)
      ∷ [];
  candidates = λ s. 0 ∷ [];
  main = 1;
}

abbrev getpid : Event
getpid = events.Sys 14 [] (pos 100)

abbrev getuid : Event
getuid = events.Sys 16 [] (pos 0)

abbrev dup : ℕ → Event
dup n = events.Sys 5 (args.Int (pos n) ∷ []) (pos 7)

abbrev close : ℕ → Event
close n = events.Sys 3 (args.Int (pos n) ∷ []) (pos 0)

f_is_called : Contains {X = ℕ} (0 ∷ []) 0
f_is_called = (0, omega arith, refl)

-- f of B, and a call of it
f_of_b : {m : Marks} {t : List Event} → Whole env_b m (shape_of env_b 0) returns (getpid ∷ t) t
f_of_b = F.in_order (F.falls_on (F.sys (refl, tt)) (F.falls_away tt F.return_now))

b_calls : (m : Marks) (s : ℕ) (t : List Event) → Whole env_b m (Call s) goes_on (m.pre s ++ getpid ∷ (m.post s ++ t)) t
b_calls m s t = F.call {f = 0} f_is_called refl f_of_b tt refl

b_empty : Dyck env_b []
b_empty = F.nothing

b_open : Dyck env_b (events.Pre 1 ∷ [])
b_open = F.in_seq (F.in_part (F.inside {f = 0} f_is_called refl F.nothing))

b_inside : Dyck env_b (events.Pre 1 ∷ getpid ∷ [])
b_inside = F.in_seq (F.in_part (F.inside {f = 0} f_is_called refl (F.all f_of_b)))

b_second : Dyck env_b (events.Pre 1 ∷ getpid ∷ events.Post 1 ∷ getuid ∷ events.Pre 3 ∷ [])
b_second = F.in_seq (F.in_next (b_calls brackets 1 (getuid ∷ events.Pre 3 ∷ [])) (F.in_next (F.sys (refl, tt)) (F.in_part (F.inside {f = 0} f_is_called refl F.nothing))))

b_whole : Dyck env_b (events.Pre 1 ∷ getpid ∷ events.Post 1 ∷ getuid ∷ events.Pre 3 ∷ getpid ∷ events.Post 3 ∷ [])
b_whole = F.all (F.in_order (F.falls_on (b_calls brackets 1 (getuid ∷ events.Pre 3 ∷ getpid ∷ events.Post 3 ∷ [])) (F.falls_on (F.sys (refl, tt)) (F.falls_on (b_calls brackets 3 []) (F.falls_away tt F.return_now)))))

b_stack : Stack env_b (getpid ∷ getuid ∷ getpid ∷ [])
b_stack = erased env_b b_whole

-- what f of B reads, where the walk goes on after it
b_f_walks : (t : List Event) → Walks env_b 0 after t → Walks env_b 0 before (getpid ∷ t)
b_f_walks t k = W.quiet W.seq_in (W.reads (W.in_seq (W.in_this W.sys)) (refl, tt) (W.quiet (W.in_seq W.case_on) (W.return (W.in_seq (W.in_later (W.in_this W.return_now))) k)))

-- after the first call of f
b_after_first : (t : List Event) → Walks env_b 1 (parts (this after)) t → Walks env_b 0 after t
b_after_first t k = W.leave {f = 1} {h = 0} {s = 1} (W.in_seq (W.in_this W.call)) f_is_called k

-- f returns to the site from which it was not called
b_callgraph : Callgraph env_b (getpid ∷ getuid ∷ getpid ∷ getuid ∷ [])
b_callgraph =
    W.quiet W.seq_in (W.enter {h = 0} (W.in_seq (W.in_this W.call)) f_is_called (b_f_walks (getuid ∷ getpid ∷ getuid ∷ []) (b_after_first (getuid ∷ getpid ∷ getuid ∷ [])
    (W.quiet (W.in_seq W.case_on) (W.reads (W.in_seq (W.in_later (W.in_this W.sys))) (refl, tt) (W.quiet (W.in_seq (W.in_later W.case_on))
    (W.enter {h = 0} (W.in_seq (W.in_later (W.in_later (W.in_this W.call)))) f_is_called (b_f_walks (getuid ∷ []) (b_after_first (getuid ∷ [])
    (W.quiet (W.in_seq W.case_on) (W.reads (W.in_seq (W.in_later (W.in_this W.sys))) (refl, tt) W.over)))))))))))

-- f of E without a further call, and with one that reads what stands in t before u
e_f_ends : {m : Marks} {t : List Event} → Whole env_e m (shape_of env_e 0) returns (getpid ∷ t) t
e_f_ends = F.in_order (F.falls_on (F.right (F.sys (refl, tt))) (F.falls_away tt F.return_now))

e_f_calls : (m : Marks) (n : ℕ) (t u : List Event) → Whole env_e m (shape_of env_e 0) returns t (m.post 1 ++ close n ∷ u) → Whole env_e m (shape_of env_e 0) returns (dup n ∷ (m.pre 1 ++ t)) u
e_f_calls m n t u k = F.in_order (F.falls_on (F.left (F.in_order (F.falls_on (F.sys (refl, tt)) (F.falls_on (F.call {f = 0} f_is_called refl k tt refl) (F.falls_on (F.sys (refl, tt)) F.ended))))) (F.falls_away tt F.return_now))

e_shallow : Dyck env_e (events.Pre 4 ∷ getpid ∷ events.Post 4 ∷ [])
e_shallow = F.all (F.in_order (F.falls_on (F.call {f = 0} f_is_called refl e_f_ends tt refl) (F.falls_away tt F.return_now)))

e_deep : Dyck env_e (events.Pre 4 ∷ dup 2 ∷ events.Pre 1 ∷ dup 1 ∷ events.Pre 1 ∷ getpid ∷ events.Post 1 ∷ close 1 ∷ events.Post 1 ∷ close 2 ∷ events.Post 4 ∷ [])
e_deep = F.all (F.in_order (F.falls_on (F.call {f = 0} f_is_called refl (e_f_calls brackets 2 (dup 1 ∷ events.Pre 1 ∷ getpid ∷ events.Post 1 ∷ close 1 ∷ events.Post 1 ∷ close 2 ∷ events.Post 4 ∷ []) (events.Post 4 ∷ []) (e_f_calls brackets 1 (getpid ∷ events.Post 1 ∷ close 1 ∷ events.Post 1 ∷ close 2 ∷ events.Post 4 ∷ []) (events.Post 1 ∷ close 2 ∷ events.Post 4 ∷ []) e_f_ends)) tt refl) (F.falls_away tt F.return_now)))

e_stack : Stack env_e (dup 2 ∷ dup 1 ∷ getpid ∷ close 1 ∷ close 2 ∷ [])
e_stack = erased env_e e_deep

e_callgraph : Callgraph env_e (dup 2 ∷ dup 1 ∷ getpid ∷ close 1 ∷ close 2 ∷ [])
e_callgraph = walked env_e 1 (dup 2 ∷ dup 1 ∷ getpid ∷ close 1 ∷ close 2 ∷ []) e_stack

-- the first event is read by the first part
module _ (env : Shapes) (m : Marks) where
  front_of_seq : {S : Shape} {ps : Parts} {t u : List Event} → Front env m (Seq S ps) t u → Front env m S t u ⊎ ((x : Leave) × (v : List Event) × Whole env m S x t v)
  front_of_seq F.nothing = inl F.nothing
  front_of_seq (F.all (F.in_order (F.falls_on {u = v} h r))) = inr (goes_on, v, h)
  front_of_seq (F.all (F.in_order (F.falls_away {x = x} {u = v} a h))) = inr (x, v, h)
  front_of_seq (F.in_seq (F.in_part h)) = inl h
  front_of_seq (F.in_seq (F.in_next {u = v} h r)) = inr (goes_on, v, h)

  whole_of_call : {s : ℕ} {x : Leave} {t u : List Event} → Whole env m (Call s) x t u → (v : List Event) × (t ≡ m.pre s ++ v)
  whole_of_call (F.call {u = v} k e h d i) = (v, e)

  front_of_call : {s : ℕ} {t u : List Event} → Front env m (Call s) t u → (t ≡ u) ⊎ ((v : List Event) × (t ≡ m.pre s ++ v))
  front_of_call F.nothing = inl refl
  front_of_call (F.all h) = inr (whole_of_call h)
  front_of_call (F.inside {u = v} k e h) = inr (v, e)

-- what a list begins with
abbrev begins : Event → List Event → Type 0
begins e [] = ⊥
begins e (d ∷ t) = d ≡ e

abbrev IsEmpty : List Event → Type 0
IsEmpty [] = Unit {0}
IsEmpty (e ∷ t) = ⊥

-- a word that begins with a call begins with its null call
first_is_pre : (env : Shapes) (s : ℕ) (ps : Parts) (e : Event) (t : List Event) → Front env brackets (Seq (Call s) ps) (e ∷ t) [] → e ≡ events.Pre s
first_is_pre env s ps e t h = by (front_of_seq env brackets h)
  where
    by : Front env brackets (Call s) (e ∷ t) [] ⊎ ((x : Leave) × (v : List Event) × Whole env brackets (Call s) x (e ∷ t) v) → e ≡ events.Pre s
    by (inl k) = elim (front_of_call env brackets k) as (λ q. e ≡ events.Pre s) [ inl q ↦ absurd (subst IsEmpty (sym q) tt) | inr q ↦ sym (subst (begins e) q.1 refl) ]
    by (inr k) = let q = whole_of_call env brackets k.2 in sym (subst (begins e) q.1 refl)

-- which site a null call before a call names
abbrev site_of : Event → ℕ
site_of (events.Pre s) = suc s
site_of a = 0

-- the call of f isn't instrumented
b_no_bracket : Dyck env_b (getpid ∷ []) → ⊥
b_no_bracket h = let e : 0 ≡ 2 = ap site_of (first_is_pre env_b 1 _ getpid [] h) in omega (arith, e)

-- the bracket is that of another site
b_other_bracket : Dyck env_b (events.Pre 3 ∷ []) → ⊥
b_other_bracket h = let e : 4 ≡ 2 = ap site_of (first_is_pre env_b 1 _ (events.Pre 3) [] h) in omega (arith, e)

-- the bracket after a call comes first
b_post_first : Dyck env_b (events.Post 1 ∷ []) → ⊥
b_post_first h = let e : 0 ≡ 2 = ap site_of (first_is_pre env_b 1 _ (events.Post 1) [] h) in omega (arith, e)

-- main calls f at another site
e_inner_bracket : Dyck env_e (events.Pre 1 ∷ dup 1 ∷ []) → ⊥
e_inner_bracket h = let e : 2 ≡ 5 = ap site_of (first_is_pre env_e 4 _ (events.Pre 1) (dup 1 ∷ []) h) in omega (arith, e)

-- a system call is read by its name
module _ (env : Shapes) (m : Marks) where
  whole_of_sys : {n : ℕ} {q : List (Option ℤ)} {x : Leave} {e : Event} {t u : List Event} → Whole env m (Sys n q) x (e ∷ t) u → Fits n q e
  whole_of_sys (F.sys fits) = fits

  front_of_sys : {n : ℕ} {q : List (Option ℤ)} {e : Event} {t : List Event} → Front env m (Sys n q) (e ∷ t) [] → Fits n q e
  front_of_sys (F.all h) = whole_of_sys h

  whole_of_seq : {S : Shape} {ps : Parts} {x : Leave} {t u : List Event} → Whole env m (Seq S ps) x t u → (y : Leave) × (v : List Event) × Whole env m S y t v
  whole_of_seq (F.in_order (F.falls_on {u = v} h r)) = (goes_on, v, h)
  whole_of_seq (F.in_order (F.falls_away {x = x} {u = v} a h)) = (x, v, h)

-- the first event of a run of B is a getpid
only_f : (f : ℕ) → Contains {X = ℕ} (0 ∷ []) f → f ≡ 0
only_f f (zero, lt, is) = sym is
only_f f (suc k, lt, is) = absurd (omega (arith, lt))

first_of_f : (f : ℕ) (e : Event) (t u : List Event) (x : Leave) → f ≡ 0 → Whole env_b no_brackets (shape_of env_b f) x (e ∷ t) u → Fits 14 [] e
first_of_f f e t u x is h = let r = whole_of_seq env_b no_brackets (subst (λ f. Whole env_b no_brackets (shape_of env_b f) x (e ∷ t) u) is h) in whole_of_sys env_b no_brackets r.2

front_of_f : (f : ℕ) (e : Event) (t : List Event) → f ≡ 0 → Front env_b no_brackets (shape_of env_b f) (e ∷ t) [] → Fits 14 [] e
front_of_f f e t is h =
    elim (front_of_seq env_b no_brackets (subst (λ f. Front env_b no_brackets (shape_of env_b f) (e ∷ t) []) is h)) as (λ r. Fits 14 [] e) [
      | inl k ↦ front_of_sys env_b no_brackets k
      | inr k ↦ whole_of_sys env_b no_brackets k.2
    ]

call_reads : {s : ℕ} {x : Leave} {t u : List Event} → Whole env_b no_brackets (Call s) x t u → (e : Event) (v : List Event) → t ≡ e ∷ v → Fits 14 [] e
call_reads (F.call {f = f} {x = y} {v = w} k q h d i) e v is = first_of_f f e v w y (only_f f k) (subst (λ t. Whole env_b no_brackets (shape_of env_b f) y t w) (sym q ∙ is) h)

call_begins : {s : ℕ} {t u : List Event} → Front env_b no_brackets (Call s) t u → u ≡ [] → (e : Event) (v : List Event) → t ≡ e ∷ v → Fits 14 [] e
call_begins F.nothing n e v is = absurd (subst IsEmpty (sym n ∙ is) tt)
call_begins (F.all h) n e v is = call_reads h e v is
call_begins (F.inside {f = f} {u = z} {v = w} k q h) n e v is = front_of_f f e v (only_f f k) (subst (λ t. Front env_b no_brackets (shape_of env_b f) t []) (sym q ∙ is) (subst (λ w. Front env_b no_brackets (shape_of env_b f) z w) n h))

b_getuid_first : Stack env_b (getuid ∷ []) → ⊥
b_getuid_first h =
    let fits : Fits 14 [] getuid = elim (front_of_seq env_b no_brackets h) as (λ r. Fits 14 [] getuid) [
      | inl k ↦ call_begins k refl getuid [] refl
      | inr k ↦ call_reads k.2 getuid [] refl
    ] in
    let wrong : 16 ≡ 14 = fits.0 in omega (arith, wrong)
