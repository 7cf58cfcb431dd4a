-- What stands before a # on its line.
use Rattle.std.proofs.Common.{◌≡◌, ◌≢◌, ℕ, ◌+◌, ◌-◌, ◌<◌, ◌≤◌, List, [], ◌∷◌, ◌++◌, length, get_or, take, drop, refl, sym, ap, ◌∙◌, subst, inl, inr, ⊎_elim, arith, append_assoc, length-append}
use Rattle.std.specs.Prelude.{All, ◌⊎◌}
use Rattle.std.proofs.lemmas.Bool.{cases_lt, cases_eq}
use Rattle.std.proofs.lemmas.List.{drop_more, get_or-drop, take-append-drop, get_or_at, get_or-append_right, length-drop}
use Rattle.c_lexer.specs.TokenSpelling.{EndsInMargin}

abbrev IsMarginByte : ℕ → Type 0
IsMarginByte b = (b ≡ 32) ⊎ (b ≡ 9)

pub margin_at_feed : (front : List ℕ) (n : ℕ) → n < length front → get_or front n 0 ≡ 10 → All (λ b. (b ≡ 32) ⊎ (b ≡ 9)) (drop (n + 1) front) → EndsInMargin front
margin_at_feed front n low feed blank = record {
  lines = take n front ++ 10 ∷ [];
  margin = drop (n + 1) front;
  is =
      let whole = take-append-drop n front in
      let rest : drop n front ≡ 10 ∷ drop (n + 1) front = let e = drop_more front n 0 low in cc in
      sym (append_assoc (take n front) (10 ∷ []) (drop (n + 1) front) ∙ ap (λ r. take n front ++ r) (sym rest) ∙ whole);
  begins = inr (take n front, refl);
  blank = blank;
}

module _ (front : List ℕ) (n : ℕ) (low : n < length front) (no_feed : get_or front n 0 ≢ 10) (no_space : get_or front n 0 ≢ 32) (no_tab : get_or front n 0 ≢ 9) (blank : All (λ b. (b ≡ 32) ⊎ (b ≡ 9)) (drop (n + 1) front)) where
  no_margin_byte : IsMarginByte (get_or front n 0) → ⊥
  no_margin_byte (inl e) = no_space e
  no_margin_byte (inr e) = no_tab e

  -- the byte is in the margin
  in_margin : (lines margin : List ℕ) → front ≡ lines ++ margin → All (λ b. (b ≡ 32) ⊎ (b ≡ 9)) margin → length lines ≤ n → ⊥
  in_margin lines margin is all past =
      let at : get_or front n 0 ≡ get_or margin (n - length lines) 0 = ap (λ w. get_or w n 0) is ∙ get_or-append_right lines margin (length lines) n 0 refl past in
      let long : length front ≡ length lines + length margin = ap length is ∙ length-append lines margin in
      no_margin_byte (subst IsMarginByte (sym at) (all (n - length lines) 0 (omega arith)))

  -- a line feed stands after the byte
  feed_after : (before margin : List ℕ) → front ≡ (before ++ 10 ∷ []) ++ margin → n < length before → ⊥
  feed_after before margin is under =
      let split : front ≡ before ++ 10 ∷ margin = is ∙ append_assoc before (10 ∷ []) margin in
      let long : length front ≡ length before + length {A = ℕ} (10 ∷ margin) = ap length split ∙ length-append before (10 ∷ margin) in
      let place : n + 1 + (length before - (n + 1)) ≡ length before = omega arith in
      let at : get_or (drop (n + 1) front) (length before - (n + 1)) 0 ≡ 10 = get_or-drop (n + 1) front (length before - (n + 1)) 0 ∙ ap (λ k. get_or front k 0) place ∙ ap (λ w. get_or w (length before) 0) split ∙ get_or_at before 10 margin 0 (length before) refl in
      let within : length before - (n + 1) < length (drop (n + 1) front) = rw length-drop (omega arith) in
      let byte : IsMarginByte 10 = subst IsMarginByte at (blank (length before - (n + 1)) 0 within) in
      ⊎_elim (λ e. omega arith) (λ e. omega arith) byte

  feed_here : (before margin : List ℕ) → front ≡ (before ++ 10 ∷ []) ++ margin → n ≡ length before → ⊥
  feed_here before margin is here =
      let split : front ≡ before ++ 10 ∷ margin = is ∙ append_assoc before (10 ∷ []) margin in
      no_feed (ap (λ w. get_or w n 0) split ∙ get_or_at before 10 margin 0 n (sym here))

  after_feed : (before margin : List ℕ) → front ≡ (before ++ 10 ∷ []) ++ margin → n ≤ length before → ⊥
  after_feed before margin is under =
      ⊎_elim (feed_here before margin is) (λ apart. feed_after before margin is (omega arith)) (cases_eq n (length before))

  pub no_margin : EndsInMargin front → ⊥
  no_margin m =
      ⊎_elim (λ under. ⊎_elim
      (λ (none : m.lines ≡ []). let e : length m.lines ≡ 0 = ap length none in absurd (omega arith))
      (λ (some : (before : List ℕ) × (m.lines ≡ before ++ 10 ∷ [])).
      let e : length m.lines ≡ length some.0 + 1 = ap length some.1 ∙ length-append some.0 (10 ∷ []) in
      after_feed some.0 m.margin (m.is ∙ ap (λ l. l ++ m.margin) some.1) (omega arith))
      m.begins)
      (in_margin m.lines m.margin m.is m.blank)
      (cases_lt n (length m.lines))

-- the same at the place before m
module _ (front : List ℕ) (m : ℕ) (some : 0 < m) (within : m ≤ length front) (blank : All (λ b. (b ≡ 32) ⊎ (b ≡ 9)) (drop m front)) where
  blank_after : All (λ b. (b ≡ 32) ⊎ (b ≡ 9)) (drop (m - 1 + 1) front)
  blank_after =
      let e : m - 1 + 1 ≡ m = omega arith in
      subst (λ k. All (λ b. (b ≡ 32) ⊎ (b ≡ 9)) (drop k front)) (sym e) blank

  pub margin_before : get_or front (m - 1) 0 ≡ 10 → EndsInMargin front
  margin_before feed = margin_at_feed front (m - 1) (omega arith) feed blank_after

  pub no_margin_before : get_or front (m - 1) 0 ≢ 10 → get_or front (m - 1) 0 ≢ 32 → get_or front (m - 1) 0 ≢ 9 → EndsInMargin front → ⊥
  no_margin_before no_feed no_space no_tab = no_margin front (m - 1) (omega arith) no_feed no_space no_tab blank_after
