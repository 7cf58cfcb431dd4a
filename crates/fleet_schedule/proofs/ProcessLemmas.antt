-- The lines of processes and of advances, part by part.
use Rattle.std.proofs.Common.{◌≡◌, ◌≢◌, ℕ, zero, suc, ◌<◌, ◌≤◌, ◌^◌, List, [], ◌∷◌, ◌++◌, length, get_or, decimal, refl, sym, ◌∙◌, ap, subst, inl, inr, append_assoc, Contains, All, arith}
use Rattle.std.specs.Prelude.{codes, Result, Ok, Err}
use Rattle.line_text.specs.declared.miss.Miss.{Miss}
use Rattle.line_text.specs.Reading.{StandsFirst, Reads}
use Rattle.std.proofs.lemmas.Fmt.{decimal_injective}
use Rattle.std.proofs.lemmas.List.{append_cancel_left}
use Rattle.std.proofs.lemmas.List.Elements.{Contains-append_cases}
use Rattle.line_text.specs.Words.{IsEnd, IsPlain, ended_word, number_word}
use Rattle.line_text.proofs.NumberLemmas.{decimal-IsPlain}
use Rattle.line_text.proofs.Splits.{IsSplit, err_next, ok_both}
use Rattle.line_text.proofs.WordLemmas.{IsPlain-no_feed, same_word}
use Rattle.fleet_schedule.specs.declared.line.Line.{Line}
use Rattle.fleet_schedule.specs.Lines.{IsFresh, IsNewLine}
use Rattle.fleet_schedule.specs.ScheduleText.{IsFileName, IsRightLine, process_line, advance_line, pids}
use Rattle.fleet_schedule.proofs.ComparedLemmas.{IsTold}
use Rattle.fleet_schedule.proofs.FileNameLemmas.{name-IsPlain, some_name}
use Rattle.fleet_schedule.proofs.Narrowing.{IsPart, IsWhole, With}
use Rattle.fleet_schedule.proofs.PidLemmas.{pid_small, some_fresh}
use Rattle.line_text.proofs.Separators.{no_feed_space, space, feed}

-- line feeds

pub no_feed_append : (a b : List ℕ) → (Contains a 10 → ⊥) → (Contains b 10 → ⊥) → Contains (a ++ b) 10 → ⊥
no_feed_append a b in_a in_b has = elim (Contains-append_cases a b 10 has) [ inl front ↦ in_a front | inr back ↦ in_b back ]

no_feed_two : (b : ℕ) → b ≢ 10 → Contains {X = ℕ} (b ∷ 32 ∷ []) 10 → ⊥
no_feed_two b other (zero, within, is) = other is
no_feed_two b other (suc zero, within, is) = omega (arith, is)
no_feed_two b other (suc (suc k), within, is) = omega (arith, within)

plain_then_space : (word : List ℕ) → IsPlain word → Contains (ended_word 32 word) 10 → ⊥
plain_then_space word plain = no_feed_append word (32 ∷ []) (IsPlain-no_feed word plain) no_feed_space

plain_number : (n : ℕ) → n < 2 ^ 32 → IsPlain (decimal n)
plain_number n small = decimal-IsPlain n (omega arith)

-- the parts of the line of a process

abbrev pub line_of : ℕ → List ℕ → List ℕ → List ℕ → ℕ → ℕ → Line
line_of pid file model results turns bound = record { pid = pid; file = file; model = model; results = results; turns = turns; bound = bound }

new_line : (ps : List Line) (pid : ℕ) (file model results : List ℕ) (turns bound : ℕ) → IsFresh ps pid → IsFileName file → IsFileName model → IsFileName results → turns ≤ 1000000 → 1 ≤ bound → bound ≤ 65535 → IsNewLine ps (line_of pid file model results turns bound)
new_line ps pid file model results turns bound fresh f m r t low high = record {
  right = record { pid = fresh.small; file = f; model = m; results = r; turns = t; some = low; bound = high };
  fresh = fresh;
}

-- what follows each part

abbrev pub after_turns : Line → List ℕ
after_turns l = number_word 10 l.bound

abbrev pub after_results : Line → List ℕ
after_results l = number_word 32 l.turns ++ after_turns l

abbrev pub after_model : Line → List ℕ
after_model l = ended_word 32 l.results ++ after_results l

abbrev pub after_file : Line → List ℕ
after_file l = ended_word 32 l.model ++ after_model l

abbrev pub after_pid : Line → List ℕ
after_pid l = ended_word 32 l.file ++ after_file l

abbrev pub after_word : Line → List ℕ
after_word l = number_word 32 l.pid ++ after_pid l

pub process_word : (ps : List Line) → length ps ≤ 64 → IsPart (IsNewLine ps) process_line (λ l. tt {0}) (λ u. Unit {0}) (λ u. codes "p ") after_word
process_word ps few =
    let found = some_fresh ps few in
    record {
      into = λ l fits. tt;
      some = λ u in_u. (line_of found.0 (97 ∷ []) (97 ∷ []) (97 ∷ []) 0 1, new_line ps found.0 (97 ∷ []) (97 ∷ []) (97 ∷ []) 0 1 found.1 some_name some_name some_name (omega arith) (omega arith) (omega arith), refl);
      splits = λ l fits. refl;
      plain = λ u in_u. no_feed_two 112 (λ is. omega (arith, is));
    }

abbrev pub Worded : List Line → Line → Type 0
Worded ps = With (IsNewLine ps) (λ l. tt {0}) (tt {0})

pub process_pid : (ps : List Line) → IsPart (Worded ps) after_word (λ l. l.pid) (IsFresh ps) (number_word 32) after_pid
process_pid ps = record {
  into = λ l fits. fits.0.fresh;
  some = λ n fresh. (line_of n (97 ∷ []) (97 ∷ []) (97 ∷ []) 0 1, (new_line ps n (97 ∷ []) (97 ∷ []) (97 ∷ []) 0 1 fresh some_name some_name some_name (omega arith) (omega arith) (omega arith), refl), refl);
  splits = λ l fits. refl;
  plain = λ n fresh. plain_then_space (decimal n) (plain_number n fresh.small);
}

abbrev pub Numbered : List Line → ℕ → Line → Type 0
Numbered ps pid = With (Worded ps) (λ l. l.pid) pid

module _ (ps : List Line) (pid : ℕ) (fresh : IsFresh ps pid) where
  pub process_file : IsPart (Numbered ps pid) after_pid (λ l. l.file) IsFileName (ended_word 32) after_file
  process_file = record {
    into = λ l fits. fits.0.0.right.file;
    some = λ f is. (line_of pid f (97 ∷ []) (97 ∷ []) 0 1, ((new_line ps pid f (97 ∷ []) (97 ∷ []) 0 1 fresh is some_name some_name (omega arith) (omega arith) (omega arith), refl), refl), refl);
    splits = λ l fits. refl;
    plain = λ f is. plain_then_space f (name-IsPlain f is);
  }

  module _ (file : List ℕ) (is_file : IsFileName file) where
    abbrev pub Filed : Line → Type 0
    Filed = With (Numbered ps pid) (λ l. l.file) file

    pub process_model : IsPart Filed after_file (λ l. l.model) IsFileName (ended_word 32) after_model
    process_model = record {
      into = λ l fits. fits.0.0.0.right.model;
      some = λ m is. (line_of pid file m (97 ∷ []) 0 1, (((new_line ps pid file m (97 ∷ []) 0 1 fresh is_file is some_name (omega arith) (omega arith) (omega arith), refl), refl), refl), refl);
      splits = λ l fits. refl;
      plain = λ m is. plain_then_space m (name-IsPlain m is);
    }

    module _ (model : List ℕ) (is_model : IsFileName model) where
      abbrev pub Modelled : Line → Type 0
      Modelled = With Filed (λ l. l.model) model

      pub process_results : IsPart Modelled after_model (λ l. l.results) IsFileName (ended_word 32) after_results
      process_results = record {
        into = λ l fits. fits.0.0.0.0.right.results;
        some = λ r is. (line_of pid file model r 0 1, ((((new_line ps pid file model r 0 1 fresh is_file is_model is (omega arith) (omega arith) (omega arith), refl), refl), refl), refl), refl);
        splits = λ l fits. refl;
        plain = λ r is. plain_then_space r (name-IsPlain r is);
      }

      module _ (results : List ℕ) (is_results : IsFileName results) where
        abbrev pub Given : Line → Type 0
        Given = With Modelled (λ l. l.results) results

        pub process_turns : IsPart Given after_results (λ l. l.turns) (λ n. (0 ≤ n) × (n ≤ 1000000)) (number_word 32) after_turns
        process_turns = record {
          into = λ l fits. (omega arith, fits.0.0.0.0.0.right.turns);
          some = λ t within. (line_of pid file model results t 1, (((((new_line ps pid file model results t 1 fresh is_file is_model is_results within.1 (omega arith) (omega arith), refl), refl), refl), refl), refl), refl);
          splits = λ l fits. refl;
          plain = λ t within. plain_then_space (decimal t) (plain_number t (omega (arith, within.1)));
        }

        pub process_bound : (turns : ℕ) → turns ≤ 1000000 → IsWhole (With Given (λ l. l.turns) turns) after_turns (λ n. (1 ≤ n) × (n ≤ 65535)) (number_word 10) (λ n. line_of pid file model results turns n)
        process_bound turns few = record {
          made = λ n within. (((((((new_line ps pid file model results turns n fresh is_file is_model is_results few within.0 within.1, refl), refl), refl), refl), refl), refl), refl);
          only = λ l fits. (l.bound, (fits.0.0.0.0.0.0.right.some, fits.0.0.0.0.0.0.right.bound), λ i. record { pid = fits.0.0.0.0.1 i; file = fits.0.0.0.1 i; model = fits.0.0.1 i; results = fits.0.1 i; turns = fits.1 i; bound = l.bound });
        }

-- the line of an advance

some_pid : (ps : List Line) → 1 ≤ length ps → (p : ℕ) × Contains (pids ps) p
some_pid [] some = absurd (omega arith)
some_pid (l ∷ ps) some = (l.pid, (0, omega arith, refl))

pub advance_split : (ps : List Line) → 1 ≤ length ps → IsSplit (Contains (pids ps)) advance_line (λ (u : Unit {0}). Unit {0}) (λ u. codes "a ") (λ u. Contains (pids ps)) (λ u. number_word 10) (λ u p. p)
advance_split ps some = record {
  apart = λ p has. (tt, p, tt, has, refl);
  joined = λ u p fits has. (has, refl);
  goes_on = λ u fits. some_pid ps some;
  plain = λ u fits. no_feed_two 97 (λ is. omega (arith, is));
}

pub plain_pid : (ps : List Line) (p : ℕ) → All IsRightLine ps → Contains (pids ps) p → IsPlain (decimal p)
plain_pid ps p right has = plain_number p (pid_small ps p right has)

pub plain_fresh : (ps : List Line) (p : ℕ) → IsFresh ps p → IsPlain (decimal p)
plain_fresh ps p fresh = plain_number p fresh.small

pub one_number : (m n : ℕ) → m < 2 ^ 32 → n < 2 ^ 32 → decimal m ≡ decimal n → m ≡ n
one_number m n small_m small_n is = decimal_injective m n (omega arith) (omega arith) is

-- whole lines

abbrev pub process_front : Line → List ℕ
process_front l =
    codes "p " ++ (number_word 32 l.pid ++ (ended_word 32 l.file ++ (ended_word 32 l.model ++ (ended_word 32 l.results ++ (number_word 32 l.turns ++ decimal l.bound)))))

pub process_ends : (l : Line) → process_line l ≡ process_front l ++ 10 ∷ []
process_ends l = simp append_assoc

abbrev pub advance_front : ℕ → List ℕ
advance_front p = codes "a " ++ decimal p

pub advance_ends : (p : ℕ) → advance_line p ≡ advance_front p ++ 10 ∷ []
advance_ends p = refl

pub process_no_feed : (l : Line) → IsRightLine l → Contains (process_front l) 10 → ⊥
process_no_feed l right =
    no_feed_append (codes "p ") _ (no_feed_two 112 (λ is. omega (arith, is)))
    (no_feed_append (number_word 32 l.pid) _ (plain_then_space (decimal l.pid) (plain_number l.pid right.pid))
    (no_feed_append (ended_word 32 l.file) _ (plain_then_space l.file (name-IsPlain l.file right.file))
    (no_feed_append (ended_word 32 l.model) _ (plain_then_space l.model (name-IsPlain l.model right.model))
    (no_feed_append (ended_word 32 l.results) _ (plain_then_space l.results (name-IsPlain l.results right.results))
    (no_feed_append (number_word 32 l.turns) _ (plain_then_space (decimal l.turns) (plain_number l.turns (omega (arith, right.turns))))
    (IsPlain-no_feed (decimal l.bound) (plain_number l.bound (omega (arith, right.bound)))))))))

pub advance_no_feed : (p : ℕ) → p < 2 ^ 32 → Contains (advance_front p) 10 → ⊥
advance_no_feed p small = no_feed_append (codes "a ") (decimal p) (no_feed_two 97 (λ is. omega (arith, is))) (IsPlain-no_feed (decimal p) (plain_number p small))

-- a line tells its value

word_told : (a b : List ℕ) (e : ℕ) (r s : List ℕ) → IsEnd e → IsPlain a → IsPlain b → a ++ e ∷ r ≡ b ++ e ∷ s → (a ≡ b) × (r ≡ s)
word_told a b e r s ends in_a in_b is =
    let same = same_word a b e e r s in_a in_b ends ends is in
    let tails : e ∷ r ≡ e ∷ s = append_cancel_left a (e ∷ r) (e ∷ s) (is ∙ ap (λ (w : List ℕ). w ++ e ∷ s) (sym same.0)) in
    (same.0, cc)

flat_process : Line → List ℕ → List ℕ
flat_process l x = 112 ∷ 32 ∷ (decimal l.pid ++ 32 ∷ (l.file ++ 32 ∷ (l.model ++ 32 ∷ (l.results ++ 32 ∷ (decimal l.turns ++ 32 ∷ (decimal l.bound ++ 10 ∷ x))))))

flattened : (l : Line) (x : List ℕ) → process_line l ++ x ≡ flat_process l x
unfolding flat_process
flattened l x = simp append_assoc

behind_word : (b : ℕ) (s t : List ℕ) → b ∷ 32 ∷ s ≡ b ∷ 32 ∷ t → s ≡ t
behind_word b s t is = cc

pub process_told : IsTold IsRightLine process_line
unfolding flat_process
process_told v w x y in_v in_w is =
    let flat : flat_process v x ≡ flat_process w y = sym (flattened v x) ∙ is ∙ flattened w y in
    let pid = word_told (decimal v.pid) (decimal w.pid) 32 _ _ space (plain_number v.pid in_v.pid) (plain_number w.pid in_w.pid) (behind_word 112 _ _ flat) in
    let file = word_told v.file w.file 32 _ _ space (name-IsPlain v.file in_v.file) (name-IsPlain w.file in_w.file) pid.1 in
    let model = word_told v.model w.model 32 _ _ space (name-IsPlain v.model in_v.model) (name-IsPlain w.model in_w.model) file.1 in
    let results = word_told v.results w.results 32 _ _ space (name-IsPlain v.results in_v.results) (name-IsPlain w.results in_w.results) model.1 in
    let turns = word_told (decimal v.turns) (decimal w.turns) 32 _ _ space (plain_number v.turns (omega (arith, in_v.turns))) (plain_number w.turns (omega (arith, in_w.turns))) results.1 in
    let bound = word_told (decimal v.bound) (decimal w.bound) 10 _ _ feed (plain_number v.bound (omega (arith, in_v.bound))) (plain_number w.bound (omega (arith, in_w.bound))) turns.1 in
    let pids_same : v.pid ≡ w.pid = one_number v.pid w.pid in_v.pid in_w.pid pid.0 in
    let turns_same : v.turns ≡ w.turns = one_number v.turns w.turns (omega (arith, in_v.turns)) (omega (arith, in_w.turns)) turns.0 in
    let bounds_same : v.bound ≡ w.bound = one_number v.bound w.bound (omega (arith, in_v.bound)) (omega (arith, in_w.bound)) bound.0 in
    (λ i. record { pid = pids_same i; file = file.0 i; model = model.0 i; results = results.0 i; turns = turns_same i; bound = bounds_same i }, bound.1)

abbrev pub IsSmall : ℕ → Type 0
IsSmall n = n < 2 ^ 32

pub advance_told : IsTold IsSmall advance_line
advance_told p q x y in_p in_q is =
    let told = word_told (decimal p) (decimal q) 10 x y feed (plain_number p in_p) (plain_number q in_q) (behind_word 97 _ _ (sym (flat p x) ∙ is ∙ flat q y)) in
    (one_number p q in_p in_q told.0, told.1)
  where
    flat : (n : ℕ) (z : List ℕ) → advance_line n ++ z ≡ 97 ∷ 32 ∷ (decimal n ++ 10 ∷ z)
    flat n z = simp append_assoc

-- lines of different kinds

pub process_not_advance : (l : Line) (p : ℕ) (x y : List ℕ) → process_line l ++ x ≡ advance_line p ++ y → ⊥
process_not_advance l p x y is = let first : ◌≡◌ {A = ℕ} 112 97 = ap (λ (w : List ℕ). get_or w 0 0) is in omega arith

pub process_not_end : (l : Line) (x y : List ℕ) → process_line l ++ x ≡ codes "end\n" ++ y → ⊥
process_not_end l x y is = let first : ◌≡◌ {A = ℕ} 112 101 = ap (λ (w : List ℕ). get_or w 0 0) is in omega arith

pub advance_not_end : (p : ℕ) (x y : List ℕ) → advance_line p ++ x ≡ codes "end\n" ++ y → ⊥
advance_not_end p x y is = let first : ◌≡◌ {A = ℕ} 97 101 = ap (λ (w : List ℕ). get_or w 0 0) is in omega arith

-- numbers that are read

pub known_pid : (ps : List Line) (p n : ℕ) → All IsRightLine ps → Contains (pids ps) p → n < 2 ^ 32 → decimal p ≡ decimal n → Contains (pids ps) n
known_pid ps p n right has small is = subst (Contains (pids ps)) (one_number p n (pid_small ps p right has) small is) has

pub known_not_fresh : (ps : List Line) (p n : ℕ) → IsFresh ps p → Contains (pids ps) n → n < 2 ^ 32 → decimal p ≡ decimal n → ⊥
known_not_fresh ps p n fresh has small is = fresh.new (subst (Contains (pids ps)) (sym (one_number p n fresh.small small is)) has)

pub no_pids : (ps : List Line) (p : ℕ) → Contains (pids ps) p → length ps ≡ 0 → ⊥
no_pids [] p has none = omega (arith, has.1)
no_pids (l ∷ ps) p has none = omega arith

pub advance_read : (ps : List Line) (old mid new : List ℕ) (found : Result ℕ Miss) → 1 ≤ length ps → StandsFirst {V = Unit {0}} (λ u. Unit {0}) (λ u. codes "a ") old mid (tt {0}) → Reads (Contains (pids ps)) (number_word 10) mid new found → Reads (Contains (pids ps)) advance_line old new found
advance_read ps old mid new (Ok p) some taken reads = ok_both (advance_split ps some) old mid new tt p taken reads
advance_read ps old mid new (Err miss) some taken reads = err_next (advance_split ps some) old mid new tt taken miss reads
