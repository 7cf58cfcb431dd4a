-- The lines of call edges.
use Rattle.std.proofs.Common.{◌≡◌, ℕ, ◌≤◌, List, [], ◌∷◌, ◌++◌, decimal, flat_map, refl, sym, ◌∙◌, ap, subst, append_assoc, arith}
use Rattle.std.specs.Prelude.{Option, codes}
use Rattle.std.proofs.lemmas.List.Elements.{All-nil}
use Rattle.flow_model.specs.Call.{Call}
use Rattle.line_text.specs.Words.{number_word}
use Rattle.model_file.specs.Bounds.{IsLeast, IsNextCall}
use Rattle.model_file.specs.Lines.{IsAfterSite}
use Rattle.model_file.specs.ModelText.{call_line, IsSmall, IsSpelledCall}
use Rattle.model_file.specs.Words.{numbers_text, IsCallEnd, call_end}
use Rattle.model_file.proofs.CandidateLemmas.{call_of}
use Rattle.model_file.proofs.LineLemmas.{first_word, plain_number, plain_word}
use Rattle.model_file.proofs.Narrowing.{IsPart, With}

-- parts

numbers_parts : (n : ℕ) (ns : List ℕ) → numbers_text (n ∷ ns) ≡ decimal n ++ (flat_map (λ f. 32 ∷ decimal f) ns ++ 10 ∷ [])
numbers_parts n [] = refl
numbers_parts n (m ∷ ns) =
    append_assoc (decimal n) (32 ∷ []) (numbers_text (m ∷ ns))
    ∙ ap (λ t. decimal n ++ (32 ∷ t)) (numbers_parts m ns ∙ sym (append_assoc (decimal m) (flat_map (λ f. 32 ∷ decimal f) ns) (10 ∷ [])))

abbrev pub after_from : Call → List ℕ
after_from c = number_word 32 c.site ++ call_end c

abbrev pub after_word : Call → List ℕ
after_word c = number_word 32 c.from ++ after_from c

call_line-parts : (c : Call) → call_line c ≡ codes "c " ++ after_word c
call_line-parts c = rw (numbers_parts c.to c.candidates) (simp append_assoc)

fits_call : (last : Option ℕ) (from site : ℕ) → IsSmall from → IsSmall site → IsAfterSite last site → IsNextCall last (call_of from site 0 [])
fits_call last from site small_from small_site after = record {
  spelled = record { from = small_from; site = small_site; to = omega arith; candidates = All-nil IsSmall; rise = λ i j d before within. absurd (omega arith) };
  after = after;
}

pub call_word : (last : Option ℕ) (least : ℕ) → IsLeast (IsAfterSite last) least → least ≤ 4294967295 → IsPart (IsNextCall last) call_line (λ c. tt {0}) (λ u. Unit {0}) (λ u. codes "c ") after_word
call_word last least bound small =
    first_word (codes "c ") (call_of 0 least 0 []) (fits_call last 0 least (omega arith) (omega arith) (bound.above least (omega arith) (omega arith))) (λ c fits. call_line-parts c) (plain_word (codes "c ") refl)

abbrev pub Worded : Option ℕ → Call → Type 0
Worded last = With (IsNextCall last) (λ c. tt {0}) (tt {0})

pub call_from : (last : Option ℕ) (least : ℕ) → IsLeast (IsAfterSite last) least → least ≤ 4294967295 → IsPart (Worded last) after_word (λ c. c.from) (λ n. (0 ≤ n) × IsSmall n) (number_word 32) after_from
call_from last least bound small = record {
  into = λ c fits. (omega arith, fits.0.spelled.from);
  some = λ n in_n. (call_of n least 0 [], (fits_call last n least in_n.1 (omega arith) (bound.above least (omega arith) (omega arith)), refl), refl);
  splits = λ c fits. refl;
  plain = λ n in_n. plain_number n (omega (arith, in_n.1));
}

abbrev pub Begun : Option ℕ → ℕ → Call → Type 0
Begun last from = With (Worded last) (λ c. c.from) from

pub call_site : (last : Option ℕ) (from least : ℕ) → IsSmall from → IsLeast (IsAfterSite last) least → IsPart (Begun last from) after_from (λ c. c.site) (λ n. (least ≤ n) × IsSmall n) (number_word 32) call_end
call_site last from least small bound = record {
  into = λ c fits. (bound.below c.site fits.0.0.after, fits.0.0.spelled.site);
  some = λ n in_n. (call_of from n 0 [], ((fits_call last from n small in_n.1 (bound.above n in_n.0 in_n.1), refl), refl), refl);
  splits = λ c fits. refl;
  plain = λ n in_n. plain_number n (omega (arith, in_n.1));
}

pub end_of_begun : (last : Option ℕ) (from site : ℕ) (c : Call) → With (Begun last from) (λ d. d.site) site c → IsCallEnd from site c
end_of_begun last from site c fits =
    let spelled = fits.0.0.0.spelled in
    record { begins = fits.0.1; at_site = fits.1; to = spelled.to; candidates = spelled.candidates; rise = spelled.rise }

pub begun_of_end : (last : Option ℕ) (from site : ℕ) → IsSmall from → IsSmall site → IsAfterSite last site → (c : Call) → IsCallEnd from site c → With (Begun last from) (λ d. d.site) site c
begun_of_end last from site small_from small_site after c end =
    let spelled : IsSpelledCall c = record { from = subst IsSmall (sym end.begins) small_from; site = subst IsSmall (sym end.at_site) small_site; to = end.to; candidates = end.candidates; rise = end.rise } in
    (((record { spelled = spelled; after = subst (IsAfterSite last) (sym end.at_site) after }, refl), end.begins), end.at_site)
