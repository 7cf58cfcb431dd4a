-- What the functions of the generated program say of functions, and that each may come to a system call.
use Rattle.std.proofs.Common.{◌≡◌, ℕ, zero, suc, ◌+◌, ◌/◌, ◌%◌, ◌<◌, ◌≤◌, Bool, true, false, ◌||◌, nat_eq, nat_lt, if◌then◌else◌, List, [], ◌∷◌, ◌++◌, flat_map, filter, length, Some, slice_get, sym, ap, ◌∙◌, subst, refl, arith}
use Rattle.std.specs.List.{range_with_len}
use Rattle.std.proofs.lemmas.Bool.{false≢true, lt-ltb, eqb-true, eq-eqb, ne_eqb, and_from}
use Rattle.std.proofs.lemmas.Nat.{mod_below}
use Rattle.c_tree.specs.Tree.{Function, Program}
use Rattle.c_tree.specs.Functions.{defined}
use Rattle.c_meaning.specs.Mentions.{Callee, Direct, Mention, Calls, mentions_of_function, mentions_of_program}
use Rattle.c_meaning.specs.CallGraph.{is_in, has_one, names, is_taken, functions_of, enters, said_by, reaching, reaches, is_marked, callee_at}
use Rattle.c_meaning.specs.ShapeOf.{taken_calls}
use Rattle.c_meaning.proofs.Rounds.{enough}
use Rattle.generated_program.specs.Generator.{drawn, called_by}
use Rattle.generated_program.specs.Typed.{getpid_number, getppid_number, system_number_by, typed_first, call_site, system_site, typed_later, typed_main, typed_behind, generated_program}

or_left : (a b : Bool) → a ≡ true → (a || b) ≡ true
or_left a b e = ap (λ x. x || b) e

or_right : (a b : Bool) → b ≡ true → (a || b) ≡ true
or_right true b e = refl
or_right false b e = e

-- ## Lists

in_range : (a n k f : ℕ) → k < n → f ≡ a + k → is_in f (range_with_len a n) ≡ true
in_range a zero k f below e = absurd (omega (arith, below))
in_range a (suc n) zero f below e = or_left (nat_eq f a) (is_in f (range_with_len (a + 1) n)) (eq-eqb f a (omega (arith, e)))
in_range a (suc n) (suc k) f below e =
    or_right (nat_eq f a) (is_in f (range_with_len (a + 1) n)) (in_range (a + 1) n k f (omega (arith, below)) (omega (arith, e)))

kept : (test : ℕ → Bool) (x : ℕ) (xs : List ℕ) (f : ℕ) → test f ≡ true → nat_eq f x ≡ true → (b : Bool) → test x ≡ b → is_in f (if b then x ∷ filter test xs else filter test xs) ≡ true
kept test x xs f t e true s = or_left (nat_eq f x) (is_in f (filter test xs)) e
kept test x xs f t e false s = absurd (false≢true (sym s ∙ ap test (sym (eqb-true f x e)) ∙ t))

passed : (test : ℕ → Bool) (x : ℕ) (xs : List ℕ) (f : ℕ) → is_in f (filter test xs) ≡ true → (b : Bool) → is_in f (if b then x ∷ filter test xs else filter test xs) ≡ true
passed test x xs f h true = or_right (nat_eq f x) (is_in f (filter test xs)) h
passed test x xs f h false = h

-- what passes a test is among those that pass it
in_filter : (test : ℕ → Bool) (xs : List ℕ) (f : ℕ) → is_in f xs ≡ true → test f ≡ true → is_in f (filter test xs) ≡ true
in_filter test [] f h t = absurd (false≢true h)
in_filter test (x ∷ xs) f h t = by (nat_eq f x) refl (λ k. in_filter test xs f k t)
  where
    by : (b : Bool) → nat_eq f x ≡ b → (is_in f xs ≡ true → is_in f (filter test xs) ≡ true) → is_in f (filter test (x ∷ xs)) ≡ true
    by true e more = kept test x xs f t e (test x) refl
    by false e more = passed test x xs f (more (sym (ap (λ c. c || is_in f xs) e) ∙ h)) (test x)

none_pass : (test : ℕ → Bool) → ((x : ℕ) → test x ≡ false) → (xs : List ℕ) → filter test xs ≡ []
none_pass test unlike [] = refl
none_pass test unlike (x ∷ xs) = ap (λ b. if b then x ∷ filter test xs else filter test xs) (unlike x) ∙ none_pass test unlike xs

module _ (number last : ℕ) where
  abbrev p : Program
  p = generated_program number last

  abbrev later : ℕ → Function
  later i = typed_later last (drawn number (suc i)) i

  -- the number of the function that the one behind the i-th calls
  abbrev pub callee : ℕ → ℕ
  callee i = called_by (drawn number (suc i)) (suc i)

  pub callee_before : (i : ℕ) → callee i ≤ i
  callee_before i = let below = mod_below (drawn number (suc i) / 65536) (suc i) (omega arith) in omega (arith, below)

  -- ## Its functions

  length_behind : (i count : ℕ) (rest : List Function) → length (typed_behind number last i count rest) ≡ count + length rest
  length_behind i zero rest = omega arith
  length_behind i (suc count) rest = let k = length_behind (suc i) count rest in omega (arith, k)

  pub defined_is : defined p ≡ last + 2
  defined_is = let k = length_behind 0 last (typed_main last ∷ []) in omega (arith, k)

  get_behind : (i count j : ℕ) (rest : List Function) → j < count → slice_get (typed_behind number last i count rest) j ≡ Some (later (i + j))
  get_behind i zero j rest below = absurd (omega (arith, below))
  get_behind i (suc count) zero rest below = let e : i ≡ i + 0 = omega arith in ap (λ k. Some (later k)) e
  get_behind i (suc count) (suc j) rest below =
      let e : suc i + j ≡ i + suc j = omega arith in get_behind (suc i) count j rest (omega (arith, below)) ∙ ap (λ k. Some (later k)) e

  get_later : (j : ℕ) → j < last → slice_get p.functions (suc j) ≡ Some (later j)
  get_later j below = let e : 0 + j ≡ j = omega arith in get_behind 0 last j (typed_main last ∷ []) below ∙ ap (λ k. Some (later k)) e

  -- ## No name stands other than to call its function

  names_behind : (f i count : ℕ) (rest : List Function) (others : List Mention) → has_one (names f) (flat_map mentions_of_function rest ++ others) ≡ false
      → has_one (names f) (flat_map mentions_of_function (typed_behind number last i count rest) ++ others) ≡ false
  names_behind f i zero rest others h = h
  names_behind f i (suc count) rest others h = names_behind f (suc i) count rest others h

  not_taken : (f : ℕ) → is_taken p f ≡ false
  not_taken f = names_behind f 0 last (typed_main last ∷ []) [] refl

  pub none_taken : taken_calls p ≡ []
  none_taken = none_pass (λ x. is_taken p (defined p + x)) (λ x. not_taken (defined p + x)) (range_with_len 0 24)

  -- ## Which functions may come to a system call

  is_function : (f : ℕ) → f < defined p + 24 → is_in f (functions_of p) ≡ true
  is_function f below = in_range 0 (defined p + 24) f f below (omega arith)

  in_round : (n f : ℕ) → f < defined p + 24 → (is_in f (reaching p n) || has_one (enters p (reaching p n)) (said_by (slice_get p.functions f))) ≡ true → is_in f (reaching p (suc n)) ≡ true
  in_round n f below h =
      in_filter (λ g. is_in g (reaching p n) || has_one (enters p (reaching p n)) (said_by (slice_get p.functions g))) (functions_of p) f (is_function f below) h

  system_reached : (n x f : ℕ) → x < 24 → f ≡ defined p + x → is_in f (reaching p n) ≡ true
  system_reached zero x f below e = in_range (defined p) 24 x f below e
  system_reached (suc n) x f below e =
      in_round n f (omega (arith, below, e)) (or_left (is_in f (reaching p n)) (has_one (enters p (reaching p n)) (said_by (slice_get p.functions f))) (system_reached n x f below e))

  -- the two system calls
  pub getpid_is : getpid_number last ≡ defined p + 14
  getpid_is = ap (λ d. d + 14) (sym defined_is)

  pub getppid_is : getppid_number last ≡ defined p + 15
  getppid_is = ap (λ d. d + 15) (sym defined_is)

  chosen_reached : (n x : ℕ) → is_in (system_number_by last x) (reaching p n) ≡ true
  chosen_reached n x = by (nat_eq (x / 16 % 2) 0)
    where
      by : (b : Bool) → is_in (if b then getpid_number last else getppid_number last) (reaching p n) ≡ true
      by true = system_reached n 14 (getpid_number last) (omega arith) getpid_is
      by false = system_reached n 15 (getppid_number last) (omega arith) getppid_is

  by_call : (f : ℕ) (one : Function) → f < defined p → slice_get p.functions f ≡ Some one → has_one (enters p (reaching p 0)) (mentions_of_function one) ≡ true → is_in f (reaching p 1) ≡ true
  by_call f one below is h =
      in_round 0 f (omega (arith, below))
      (or_right (is_in f (reaching p 0)) (has_one (enters p (reaching p 0)) (said_by (slice_get p.functions f))) (ap (λ o. has_one (enters p (reaching p 0)) (said_by o)) is ∙ h))

  -- each function before main may
  pub reached : (f : ℕ) → f ≤ last → reaches p f ≡ true
  reached zero below =
      let d = defined_is in
      enough p 1 0 (by_call 0 (typed_first last) (omega (arith, d)) refl (or_left (is_in (getpid_number last) (reaching p 0) || false) false (or_left (is_in (getpid_number last) (reaching p 0)) false (system_reached 0 14 (getpid_number last) (omega arith) getpid_is))))
  reached (suc i) below =
      let d = defined_is in
      let x : ℕ = drawn number (suc i) in
      let first : Bool = is_in (callee i) (reaching p 0) || false in
      let second : Bool = is_in (system_number_by last x) (reaching p 0) || false in
      enough p 1 (suc i) (by_call (suc i) (later i) (omega (arith, d, below)) (get_later i (omega (arith, below)))
      (or_right first (second || false) (or_left second false (or_left (is_in (system_number_by last x) (reaching p 0)) false (chosen_reached 0 x)))))

  pub is_before : (f : ℕ) → f ≤ last → nat_lt f (defined p) ≡ true
  is_before f below = let d = defined_is in lt-ltb f (defined p) (omega (arith, d, below))

  pub call_marked : (f : ℕ) → f ≤ last → is_marked p (Direct f) ≡ true
  call_marked f below = and_from (nat_lt f (defined p)) (reaches p f) (is_before f below) (reached f below)

  -- ## Which call stands at a site

  skip_two : (s a b : ℕ) (c d : Callee) (ms : List Mention) → (s ≡ a → ⊥) → (s ≡ b → ⊥) → callee_at s (Calls a c ∷ Calls b d ∷ ms) ≡ callee_at s ms
  skip_two s a b c d ms unlike unlike_too =
      ap (λ t. if t then Some c else callee_at s (Calls b d ∷ ms)) (ne_eqb s a unlike) ∙ ap (λ t. if t then Some d else callee_at s ms) (ne_eqb s b unlike_too)

  at_first : (s : ℕ) (c : Callee) (ms : List Mention) → callee_at s (Calls s c ∷ ms) ≡ Some c
  at_first s c ms = ap (λ t. if t then Some c else callee_at s ms) (eq-eqb s s refl)

  at_other : (s r : ℕ) (c : Callee) (ms : List Mention) → (s ≡ r → ⊥) → callee_at s (Calls r c ∷ ms) ≡ callee_at s ms
  at_other s r c ms unlike = ap (λ t. if t then Some c else callee_at s ms) (ne_eqb s r unlike)

  call_behind : (i count j : ℕ) (rest : List Function) (others : List Mention) → j < count
      → callee_at (call_site (i + j)) (flat_map mentions_of_function (typed_behind number last i count rest) ++ others) ≡ Some (Direct (callee (i + j)))
  call_behind i zero j rest others below = absurd (omega (arith, below))
  call_behind i (suc count) zero rest others below =
      let ms : List Mention = flat_map mentions_of_function (typed_behind number last (suc i) count rest) ++ others in
      let x : ℕ = drawn number (suc i) in
      let e : i ≡ i + 0 = omega arith in
      subst (λ k. callee_at (call_site k) (Calls (call_site i) (Direct (callee i)) ∷ Calls (system_site i) (Direct (system_number_by last x)) ∷ ms) ≡ Some (Direct (callee k)))
      e (at_first (call_site i) (Direct (callee i)) (Calls (system_site i) (Direct (system_number_by last x)) ∷ ms))
  call_behind i (suc count) (suc j) rest others below =
      let ms : List Mention = flat_map mentions_of_function (typed_behind number last (suc i) count rest) ++ others in
      let x : ℕ = drawn number (suc i) in
      let e : suc i + j ≡ i + suc j = omega arith in
      skip_two (call_site (i + suc j)) (call_site i) (system_site i) (Direct (callee i)) (Direct (system_number_by last x)) ms (λ q. omega (arith, q)) (λ q. omega (arith, q))
      ∙ subst (λ k. callee_at (call_site k) ms ≡ Some (Direct (callee k))) e (call_behind (suc i) count j rest others (omega (arith, below)))

  main_behind : (i count : ℕ) (ms : List Mention) → i + count ≡ last
      → callee_at (call_site last) (flat_map mentions_of_function (typed_behind number last i count (typed_main last ∷ [])) ++ ms) ≡ Some (Direct last)
  main_behind i zero ms e = at_first (call_site last) (Direct last) ms
  main_behind i (suc count) ms e =
      let rest : List Mention = flat_map mentions_of_function (typed_behind number last (suc i) count (typed_main last ∷ [])) ++ ms in
      let x : ℕ = drawn number (suc i) in
      skip_two (call_site last) (call_site i) (system_site i) (Direct (callee i)) (Direct (system_number_by last x)) rest (λ q. omega (arith, q, e)) (λ q. omega (arith, q, e))
      ∙ main_behind (suc i) count ms (omega (arith, e))

  system_behind : (i count j : ℕ) (rest : List Function) (others : List Mention) → j < count
      → callee_at (system_site (i + j)) (flat_map mentions_of_function (typed_behind number last i count rest) ++ others) ≡ Some (Direct (system_number_by last (drawn number (suc (i + j)))))
  system_behind i zero j rest others below = absurd (omega (arith, below))
  system_behind i (suc count) zero rest others below =
      let ms : List Mention = flat_map mentions_of_function (typed_behind number last (suc i) count rest) ++ others in
      let named : ℕ → Callee = λ k. Direct (system_number_by last (drawn number (suc k))) in
      let e : i ≡ i + 0 = omega arith in
      subst (λ k. callee_at (system_site k) (Calls (call_site i) (Direct (callee i)) ∷ Calls (system_site i) (named i) ∷ ms) ≡ Some (named k)) e
      (at_other (system_site i) (call_site i) (Direct (callee i)) (Calls (system_site i) (named i) ∷ ms) (λ q. omega (arith, q)) ∙ at_first (system_site i) (named i) ms)
  system_behind i (suc count) (suc j) rest others below =
      let ms : List Mention = flat_map mentions_of_function (typed_behind number last (suc i) count rest) ++ others in
      let named : ℕ → Callee = λ k. Direct (system_number_by last (drawn number (suc k))) in
      let e : suc i + j ≡ i + suc j = omega arith in
      skip_two (system_site (i + suc j)) (call_site i) (system_site i) (Direct (callee i)) (named i) ms (λ q. omega (arith, q)) (λ q. omega (arith, q))
      ∙ subst (λ k. callee_at (system_site k) ms ≡ Some (named k)) e (system_behind (suc i) count j rest others (omega (arith, below)))

  pub system_at : (i : ℕ) → i < last → callee_at (system_site i) (mentions_of_program p) ≡ Some (Direct (system_number_by last (drawn number (suc i))))
  system_at i below =
      let ms : List Mention = flat_map mentions_of_function (typed_behind number last 0 last (typed_main last ∷ [])) ++ [] in
      let e : 0 + i ≡ i = omega arith in
      at_other (system_site i) 0 (Direct (getpid_number last)) ms (λ q. omega (arith, q))
      ∙ subst (λ k. callee_at (system_site k) ms ≡ Some (Direct (system_number_by last (drawn number (suc k))))) e (system_behind 0 last i (typed_main last ∷ []) [] below)

  pub call_at : (i : ℕ) → i < last → callee_at (call_site i) (mentions_of_program p) ≡ Some (Direct (callee i))
  call_at i below =
      let ms : List Mention = flat_map mentions_of_function (typed_behind number last 0 last (typed_main last ∷ [])) ++ [] in
      let e : 0 + i ≡ i = omega arith in
      at_other (call_site i) 0 (Direct (getpid_number last)) ms (λ q. omega (arith, q))
      ∙ subst (λ k. callee_at (call_site k) ms ≡ Some (Direct (callee k))) e (call_behind 0 last i (typed_main last ∷ []) [] below)

  pub main_call_at : callee_at (call_site last) (mentions_of_program p) ≡ Some (Direct last)
  main_call_at =
      let ms : List Mention = flat_map mentions_of_function (typed_behind number last 0 last (typed_main last ∷ [])) ++ [] in
      at_other (call_site last) 0 (Direct (getpid_number last)) ms (λ q. omega (arith, q)) ∙ main_behind 0 last [] (omega arith)
