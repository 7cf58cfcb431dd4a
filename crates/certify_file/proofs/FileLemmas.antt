-- How the text of a certificate is read line by line.
use Rattle.std.proofs.Common.{◌≡◌, ◌≢◌, ℕ, suc, ◌+◌, ◌≤◌, List, [], ◌∷◌, ◌++◌, length, Err, refl, sym, ◌∙◌, ap, subst, append_assoc, Contains, All, arith}
use Rattle.std.specs.Prelude.{codes}
use Rattle.std.proofs.lemmas.List.{append_cancel_left, append-nil, flat_map_more}
use Rattle.std.proofs.lemmas.List.Elements.{Contains-append_right, All-nil, All-cons, All-head, All-tail}
use Rattle.dm_base.specs.declared.verdict.Verdict.{Verdict}
use Rattle.dm_base.specs.declared.verdict.Verdict.TheVariants.{Accepted}
use Rattle.line_text.specs.declared.miss.Miss.{Miss}
use Rattle.line_text.specs.declared.miss.Miss.TheVariants.{OutOfMemory as NoMemory, Short, Wrong}
use Rattle.line_text.specs.Files.{through, IsFirstLine, IsBadLine}
use Rattle.line_text.specs.Files.IsFirstLine.{ended, unended}
use Rattle.line_text.specs.Reading.{StandsFirst, Reads}
use Rattle.line_text.proofs.FilesLemmas.{through_front, first_line_whole, HasRead, nothing_read, one_more, bad_line, proper_prefix, GoesOn, wrong_line, short_line, after_line, before_line}
use Rattle.certify_facts.specs.declared.fact.FactLine.{FactLine}
use Rattle.certify_facts.specs.declared.fact.Judge.{Judge}
use Rattle.certify_facts.specs.declared.fact.Judge.TheVariants as judges
use Rattle.certify_facts.specs.Form.{IsCounted}
use Rattle.certify_facts.specs.Told.{Told}
use Rattle.certify_file.specs.declared.error.CertificateError.TheVariants.{BadLine}
use Rattle.certify_file.specs.declared.line.CertificateLine.{CertificateLine}
use Rattle.certify_file.specs.declared.line.CertificateLine.TheVariants as lines
use Rattle.certify_file.specs.CertificateText.{IsRightLine, fact_line, which_line, verdict_line, certificate_head, IsCertificate, IsFormedCertificate, HasTooManyFacts, most}
use Rattle.certify_file.specs.Lines.{certificate_line, IsCertificateLine, IsAnyJudge, IsLinesRefusal, refusal_of}
use Rattle.certify_file.proofs.Parts.{IsEnded, has_feed, no_feed_within, free_stands}
use Rattle.certify_file.proofs.LineLemmas.{fact_line_ended, line_ended, which_ended, verdict_ended}
use Rattle.certify_file.proofs.FreeLemmas.{end_line, lines_of, which_free, verdict_free, line_free}
use Rattle.line_text.proofs.FirstLines.{first_of, nonempty_first, nil_front}
pub use Rattle.line_text.proofs.FirstLines.{first_is_line}

-- what may follow

-- after the third line: the lines of facts, and the end line
abbrev pub IsRest : Judge → List ℕ → Type 0
IsRest judge w = (more : List FactLine) × All (IsRightLine judge) more × (w ≡ lines_of more ++ end_line)

-- after the second line
abbrev pub IsClaimed : Judge → List ℕ → Type 0
IsClaimed judge w = GoesOn IsCounted verdict_line (λ verdict. IsRest judge) w

-- after the first line
abbrev pub IsJudged : List ℕ → Type 0
IsJudged w = GoesOn IsAnyJudge which_line IsClaimed w

-- after a line that is one after the third
abbrev pub IsAfter : Judge → CertificateLine → List ℕ → Type 0
IsAfter judge (lines.Fact l) w = IsRest judge w
IsAfter judge lines.End w = w ≡ []

pub end_rest : (judge : Judge) → IsRest judge end_line
end_rest judge = ([], All-nil (IsRightLine judge), refl)

pub some_rest : (judge : Judge) → (w : List ℕ) × IsRest judge w
some_rest judge = (end_line, end_rest judge)

pub some_claimed : (judge : Judge) → (w : List ℕ) × IsClaimed judge w
some_claimed judge = (verdict_line (Accepted 0) ++ end_line, (Accepted 0, end_line, omega arith, end_rest judge, refl))

pub some_judged : (w : List ℕ) × IsJudged w
some_judged = let more = some_claimed judges.Stack in (which_line judges.Stack ++ more.0, (judges.Stack, more.0, tt, more.1, refl))

rest_on : (judge : Judge) (w : List ℕ) → IsRest judge w → GoesOn (IsCertificateLine judge) certificate_line (IsAfter judge) w
rest_on judge w ([], all, is) = (lines.End, [], tt, refl, is ∙ sym (append-nil end_line))
rest_on judge w (l ∷ more, all, is) = (lines.Fact l, lines_of more ++ end_line, All-head (IsRightLine judge) l more all, (more, All-tail (IsRightLine judge) l more all, refl), is ∙ append_assoc (fact_line l) (lines_of more) end_line)

on_rest : (judge : Judge) (w : List ℕ) → GoesOn (IsCertificateLine judge) certificate_line (IsAfter judge) w → IsRest judge w
on_rest judge w (lines.Fact l, u, fits, (more, all, is), whole) = (l ∷ more, All-cons (IsRightLine judge) l more fits all, whole ∙ ap (λ (t : List ℕ). fact_line l ++ t) is ∙ sym (append_assoc (fact_line l) (lines_of more) end_line))
on_rest judge w (lines.End, u, fits, none, whole) = ([], All-nil (IsRightLine judge), whole ∙ ap (λ (t : List ℕ). end_line ++ t) none ∙ append-nil end_line)

formed_judged : (w : List ℕ) → IsFormedCertificate (certificate_head ++ w) → IsJudged w
formed_judged w (c, formed) =
    let is : w ≡ which_line c.judge ++ (verdict_line c.verdict ++ (lines_of c.lines ++ end_line)) = append_cancel_left certificate_head w (which_line c.judge ++ (verdict_line c.verdict ++ (lines_of c.lines ++ end_line))) formed.is in
    (c.judge, verdict_line c.verdict ++ (lines_of c.lines ++ end_line), tt, (c.verdict, lines_of c.lines ++ end_line, formed.counted, (c.lines, formed.right, refl), refl), is)

pub judged_formed : (w : List ℕ) → IsJudged w → IsFormedCertificate (certificate_head ++ w)
judged_formed w (judge, u, fits, (verdict, v, counted, (more, right, is_3), is_2), is_1) = (
  record { judge = judge; verdict = verdict; lines = more },
  record {
    counted = counted;
    right = right;
    is = ap (λ (t : List ℕ). certificate_head ++ t) (is_1 ∙ ap (λ (t : List ℕ). which_line judge ++ t) (is_2 ∙ ap (λ (t : List ℕ). verdict_line verdict ++ t) is_3));
  },
)

-- the lines that were read

pub head_ended : IsEnded certificate_head
head_ended = (codes "dyckmon-certificate 1", no_feed_within (codes "dyckmon-certificate 1") refl, refl)

-- the text before the lines of facts
abbrev pub front_of : Judge → Verdict → List ℕ
front_of judge verdict = (certificate_head ++ which_line judge) ++ verdict_line verdict

pub head_read : HasRead IsFormedCertificate IsJudged 1 certificate_head
head_read =
    let some = some_judged in
    one_more IsFormedCertificate IsFormedCertificate IsJudged 0 [] certificate_head head_ended.0
    (nothing_read IsFormedCertificate (certificate_head ++ some.0) (judged_formed some.0 some.1)) head_ended.2 head_ended.1 formed_judged judged_formed some

pub which_read : (judge : Judge) → HasRead IsFormedCertificate (IsClaimed judge) 2 (certificate_head ++ which_line judge)
which_read judge =
    let line = which_ended judge tt in
    let stands = free_stands IsAnyJudge which_line which_free judge tt in
    one_more IsFormedCertificate IsJudged (IsClaimed judge) 1 certificate_head (which_line judge) line.0 head_read line.2 line.1
    (after_line IsAnyJudge which_line IsClaimed (which_line judge) judge stands) (before_line IsAnyJudge which_line IsClaimed (which_line judge) judge stands) (some_claimed judge)

pub verdict_read : (judge : Judge) (verdict : Verdict) → IsCounted verdict → HasRead IsFormedCertificate (IsRest judge) 3 (front_of judge verdict)
verdict_read judge verdict counted =
    let line = verdict_ended verdict counted in
    let stands = free_stands IsCounted verdict_line verdict_free verdict counted in
    one_more IsFormedCertificate (IsClaimed judge) (IsRest judge) 2 (certificate_head ++ which_line judge) (verdict_line verdict) line.0 (which_read judge) line.2 line.1
    (after_line IsCounted verdict_line (λ v. IsRest judge) (verdict_line verdict) verdict stands) (before_line IsCounted verdict_line (λ v. IsRest judge) (verdict_line verdict) verdict stands) (some_rest judge)

-- one line of a fact more was read
fact_read : (judge : Judge) (l : FactLine) → IsRightLine judge l → (k : ℕ) (done : List ℕ) → HasRead IsFormedCertificate (IsRest judge) k done → HasRead IsFormedCertificate (IsRest judge) (k + 1) (done ++ fact_line l)
fact_read judge l right k done read =
    let line = fact_line_ended judge l right in
    let stands = free_stands (IsCertificateLine judge) certificate_line (line_free judge) (lines.Fact l) right in
    one_more IsFormedCertificate (IsRest judge) (IsRest judge) k done (fact_line l) line.0 read line.2 line.1
    (λ w on. after_line (IsCertificateLine judge) certificate_line (IsAfter judge) (fact_line l) (lines.Fact l) stands w (rest_on judge (fact_line l ++ w) on))
    (λ w rest. on_rest judge (fact_line l ++ w) (before_line (IsCertificateLine judge) certificate_line (IsAfter judge) (fact_line l) (lines.Fact l) stands w rest))
    (some_rest judge)

more_read : (judge : Judge) (k : ℕ) (done : List ℕ) → HasRead IsFormedCertificate (IsRest judge) k done → (ls : List FactLine) → All (IsRightLine judge) ls → HasRead IsFormedCertificate (IsRest judge) (k + length ls) (done ++ lines_of ls)
more_read judge k done read [] right =
    let count : k ≡ k + 0 = omega arith in
    subst (λ (n : ℕ). HasRead IsFormedCertificate (IsRest judge) n (done ++ [])) count (subst (HasRead IsFormedCertificate (IsRest judge) k) (sym (append-nil done)) read)
more_read judge k done read (l ∷ ls) right =
    let next = fact_read judge l (All-head (IsRightLine judge) l ls right) k done read in
    let all = more_read judge (k + 1) (done ++ fact_line l) next ls (All-tail (IsRightLine judge) l ls right) in
    let count : k + 1 + length ls ≡ k + suc (length ls) = omega arith in
    subst (λ (n : ℕ). HasRead IsFormedCertificate (IsRest judge) n (done ++ (fact_line l ++ lines_of ls))) count
    (subst (HasRead IsFormedCertificate (IsRest judge) (k + 1 + length ls)) (append_assoc done (fact_line l) (lines_of ls)) all)

-- the first three lines and those of right facts were read
pub lines_read : (judge : Judge) (verdict : Verdict) (ls : List FactLine) → IsCounted verdict → All (IsRightLine judge) ls → HasRead IsFormedCertificate (IsRest judge) (length ls + 3) (front_of judge verdict ++ lines_of ls)
lines_read judge verdict ls counted right =
    let count : 3 + length ls ≡ length ls + 3 = omega arith in
    subst (λ (n : ℕ). HasRead IsFormedCertificate (IsRest judge) n (front_of judge verdict ++ lines_of ls)) count (more_read judge 3 (front_of judge verdict) (verdict_read judge verdict counted) ls right)

end_after : (judge : Judge) (w : List ℕ) → IsRest judge (end_line ++ w) → w ≡ []
end_after judge w on =
    after_line (IsCertificateLine judge) certificate_line (IsAfter judge) end_line lines.End (free_stands (IsCertificateLine judge) certificate_line (line_free judge) lines.End tt) w (rest_on judge (end_line ++ w) on)

end_before : (judge : Judge) (w : List ℕ) → w ≡ [] → IsRest judge (end_line ++ w)
end_before judge w none = ([], All-nil (IsRightLine judge), ap (λ (t : List ℕ). end_line ++ t) none ∙ append-nil end_line)

-- the end line was read
end_read : (judge : Judge) (k : ℕ) (done : List ℕ) → HasRead IsFormedCertificate (IsRest judge) k done → HasRead IsFormedCertificate (λ w. w ≡ []) (k + 1) (done ++ end_line)
end_read judge k done read =
    let line = line_ended judge lines.End tt in
    one_more IsFormedCertificate (IsRest judge) (λ w. w ≡ []) k done end_line line.0 read line.2 line.1 (end_after judge) (end_before judge) ([], refl)

-- how texts are grouped
pub grouped : (judge : Judge) (verdict : Verdict) (w : List ℕ) → front_of judge verdict ++ w ≡ certificate_head ++ (which_line judge ++ (verdict_line verdict ++ w))
grouped judge verdict w =
    append_assoc (certificate_head ++ which_line judge) (verdict_line verdict) w ∙ append_assoc certificate_head (which_line judge) (verdict_line verdict ++ w)

pub grouped_lines : (judge : Judge) (verdict : Verdict) (ls : List FactLine) (w : List ℕ) → (front_of judge verdict ++ lines_of ls) ++ w ≡ certificate_head ++ (which_line judge ++ (verdict_line verdict ++ (lines_of ls ++ w)))
grouped_lines judge verdict ls w = append_assoc (front_of judge verdict) (lines_of ls) w ∙ grouped judge verdict (lines_of ls ++ w)

-- too many facts

-- the lines before the last one
abbrev before_last : (text : List ℕ) → HasTooManyFacts text → List ℕ
before_last text many = front_of many.front.judge many.front.verdict ++ lines_of many.front.lines

many_is : (text : List ℕ) (many : HasTooManyFacts text) → text ≡ before_last text many ++ (fact_line many.last ++ many.rest)
many_is text many = many.is ∙ sym (grouped_lines many.front.judge many.front.verdict many.front.lines (fact_line many.last ++ many.rest))

many_read : (text : List ℕ) (many : HasTooManyFacts text) → HasRead IsFormedCertificate (IsRest many.front.judge) 1000003 (before_last text many)
many_read text many =
    let count : length many.front.lines + 3 ≡ 1000003 = ap (λ (n : ℕ). n + 3) many.full in
    subst (λ (n : ℕ). HasRead IsFormedCertificate (IsRest many.front.judge) n (before_last text many)) count (lines_read many.front.judge many.front.verdict many.front.lines many.counted many.right)

last_read : (text : List ℕ) (many : HasTooManyFacts text) → HasRead IsFormedCertificate (IsRest many.front.judge) 1000004 (before_last text many ++ fact_line many.last)
last_read text many = fact_read many.front.judge many.last many.right_last 1000003 (before_last text many) (many_read text many)

last_is : (text : List ℕ) (many : HasTooManyFacts text) → text ≡ (before_last text many ++ fact_line many.last) ++ many.rest
last_is text many = many_is text many ∙ sym (append_assoc (before_last text many) (fact_line many.last) many.rest)

-- the lines through one of the first 1,000,004 begin the lines of the text with too many facts
many_front : (text : List ℕ) (many : HasTooManyFacts text) (k : ℕ) → k ≤ 1000004 → (more : List ℕ) × (before_last text many ++ fact_line many.last ≡ through k text ++ more)
many_front text many k le =
    let front = through_front k 1000004 text le in
    (front.0, sym ((last_read text many).whole many.rest) ∙ ap (through 1000004) (sym (last_is text many)) ∙ front.1)

-- no line up to the last of them is bad
pub many_not_bad : (text : List ℕ) (k : ℕ) → k ≤ 1000004 → IsBadLine IsFormedCertificate text k → HasTooManyFacts text → ⊥
many_not_bad text k le bad many =
    let front = many_front text many k le in
    let done : List ℕ = before_last text many ++ fact_line many.last in
    let rest = last_read text many in
    bad.bad (front.0 ++ rest.some.0, subst IsFormedCertificate (ap (λ (t : List ℕ). t ++ rest.some.0) front.1 ∙ append_assoc (through k text) front.0 rest.some.0) (rest.back rest.some.0 rest.some.1))

-- a text that is cut before the last of them has a line feed too few
pub many_not_cut : (text done line : List ℕ) (k : ℕ) → k ≤ 1000003 → through k text ≡ done → text ≡ done ++ line → (Contains line 10 → ⊥) → HasTooManyFacts text → ⊥
many_not_cut text done line k le whole is none many =
    let front = through_front k 1000003 text le in
    let before : before_last text many ≡ done ++ front.0 =
    sym ((many_read text many).whole (fact_line many.last ++ many.rest)) ∙ ap (through 1000003) (sym (many_is text many)) ∙ front.1 ∙ ap (λ (t : List ℕ). t ++ front.0) whole in
    let all : done ++ line ≡ done ++ (front.0 ++ (fact_line many.last ++ many.rest)) =
    sym is ∙ many_is text many ∙ ap (λ (t : List ℕ). t ++ (fact_line many.last ++ many.rest)) before ∙ append_assoc done front.0 (fact_line many.last ++ many.rest) in
    let tail : line ≡ front.0 ++ (fact_line many.last ++ many.rest) = append_cancel_left done line (front.0 ++ (fact_line many.last ++ many.rest)) all in
    none (subst (λ (t : List ℕ). Contains t 10) (sym tail) (Contains-append_right front.0 (fact_line many.last ++ many.rest) 10 (has_feed (fact_line many.last) many.rest (fact_line_ended many.front.judge many.last many.right_last))))

-- a text whose end line is no later than they has not too many facts
many_not_ended : (text done w : List ℕ) (k : ℕ) → k ≤ 1000004 → HasRead IsFormedCertificate (λ w. w ≡ []) k done → text ≡ done ++ w → HasTooManyFacts text → ⊥
many_not_ended text done w k le read is many =
    let front = many_front text many k le in
    let whole : through k text ≡ done = ap (through k) is ∙ read.whole w in
    let judge : Judge = many.front.judge in
    let formed : IsFormedCertificate ((before_last text many ++ fact_line many.last) ++ end_line) = (last_read text many).back end_line (end_rest judge) in
    let same : (before_last text many ++ fact_line many.last) ++ end_line ≡ done ++ (front.0 ++ end_line) =
    ap (λ (t : List ℕ). t ++ end_line) (front.1 ∙ ap (λ (t : List ℕ). t ++ front.0) whole) ∙ append_assoc done front.0 end_line in
    no_end front.0 (read.follows (front.0 ++ end_line) (subst IsFormedCertificate same formed))
  where
    no_end : (a : List ℕ) → a ++ end_line ≡ [] → ⊥
    no_end [] is = cc
    no_end (b ∷ a) is = cc

-- a line that was not read

pub unended_is : (text line later : List ℕ) → IsFirstLine text line later → (Contains line 10 → ⊥) → text ≡ line
unended_is text line later (ended front none is whole) no_feed = absurd (no_feed (subst (λ (t : List ℕ). Contains t 10) (sym is) (Contains-append_right front (10 ∷ []) 10 (0, omega arith, refl))))
unended_is text line later (unended none end whole) no_feed = whole

-- why a text is refused whose line after so many that were read was not
pub line_missed : {V : Type 0} (Fits : V → Type 0) (text : V → List ℕ) (After : V → List ℕ → Type 0) (Rest : List ℕ → Type 0) → ((w : List ℕ) → Rest w → GoesOn Fits text After w) → ((w : List ℕ) → GoesOn Fits text After w → Rest w) → ((v : V) → Fits v → (u : List ℕ) × After v u) → (k : ℕ) (done rest line later : List ℕ) → k ≤ 1000003 → HasRead IsFormedCertificate Rest k done → IsFirstLine rest line later → (miss : Miss) → Reads Fits text line [] (Err miss) → IsLinesRefusal (refusal_of miss k) (done ++ rest)
line_missed Fits text After Rest on back after k done rest line later le read first NoMemory none = tt
line_missed Fits text After Rest on back after k done rest line later le read first Short cut =
    let is : rest ≡ line = unended_is rest line later first cut.unended in
    let more = short_line Fits text After line after cut in (
      many_not_cut (done ++ rest) done rest k le (read.whole rest) refl (λ has. cut.unended (subst (λ (t : List ℕ). Contains t 10) is has)),
      proper_prefix IsFormedCertificate Rest k done rest more.0 read more.1 (subst (λ (t : List ℕ). Rest (t ++ more.0)) (sym is) (back (line ++ more.0) more.2)),
    )
line_missed Fits text After Rest on back after k done rest line later le read first Wrong none =
    let bad = bad_line IsFormedCertificate Rest k done rest line later read first (λ w follows. wrong_line Fits text After line [] none w (on (line ++ w) follows)) in
    (many_not_bad (done ++ rest) (k + 1) (omega arith) bad, bad)

-- the line of the judge, the one of the verdict, and one after them

pub which_missed : (text line later : List ℕ) (miss : Miss) → IsFirstLine text line later → Reads IsAnyJudge which_line line [] (Err miss) → IsLinesRefusal (refusal_of miss 1) (certificate_head ++ text)
which_missed text line later miss first reads =
    line_missed IsAnyJudge which_line IsClaimed IsJudged (λ w on. on) (λ w on. on) (λ judge fits. some_claimed judge) 1 certificate_head text line later (omega arith) head_read first miss reads

pub verdict_missed : (judge : Judge) (text line later : List ℕ) (miss : Miss) → IsFirstLine text line later → Reads IsCounted verdict_line line [] (Err miss) → IsLinesRefusal (refusal_of miss 2) (certificate_head ++ (which_line judge ++ text))
verdict_missed judge text line later miss first reads =
    subst (IsLinesRefusal (refusal_of miss 2)) (append_assoc certificate_head (which_line judge) text)
    (line_missed IsCounted verdict_line (λ v. IsRest judge) (IsClaimed judge) (λ w on. on) (λ w on. on) (λ verdict fits. some_rest judge) 2 (certificate_head ++ which_line judge) text line later (omega arith) (which_read judge) first miss reads)

some_after : (judge : Judge) (v : CertificateLine) → IsCertificateLine judge v → (u : List ℕ) × IsAfter judge v u
some_after judge (lines.Fact l) fits = some_rest judge
some_after judge lines.End fits = ([], refl)

pub fact_missed : (judge : Judge) (verdict : Verdict) (ls : List FactLine) (text rest line later : List ℕ) (miss : Miss) → IsCounted verdict → All (IsRightLine judge) ls → length ls ≤ most → text ≡ lines_of ls ++ rest → IsFirstLine rest line later → Reads (IsCertificateLine judge) certificate_line line [] (Err miss) → IsLinesRefusal (refusal_of miss (length ls + 3)) (certificate_head ++ (which_line judge ++ (verdict_line verdict ++ text)))
fact_missed judge verdict ls text rest line later miss counted right few is first reads =
    subst (IsLinesRefusal (refusal_of miss (length ls + 3))) (grouped_lines judge verdict ls rest ∙ ap (λ (t : List ℕ). certificate_head ++ (which_line judge ++ (verdict_line verdict ++ t))) (sym is))
    (line_missed (IsCertificateLine judge) certificate_line (IsAfter judge) (IsRest judge) (rest_on judge) (on_rest judge) (some_after judge) (length ls + 3) (front_of judge verdict ++ lines_of ls) rest line later (omega arith) (lines_read judge verdict ls counted right) first miss reads)

-- the end line

-- bytes after the end line
pub bytes_after_end : (judge : Judge) (verdict : Verdict) (ls : List FactLine) (text rest later : List ℕ) (n : ℕ) → IsCounted verdict → All (IsRightLine judge) ls → length ls ≤ most → text ≡ lines_of ls ++ rest → rest ≡ end_line ++ later → later ≢ [] → n ≡ length ls → IsLinesRefusal (BadLine (n + 5)) (certificate_head ++ (which_line judge ++ (verdict_line verdict ++ text)))
bytes_after_end judge verdict ls text rest later n counted right few is stands some count =
    let done : List ℕ = front_of judge verdict ++ lines_of ls in
    let read = end_read judge (length ls + 3) done (lines_read judge verdict ls counted right) in
    let line = first_of later in
    let bad = bad_line IsFormedCertificate (λ w. w ≡ []) (length ls + 3 + 1) (done ++ end_line) later line.0 line.1 read line.2 (λ w empty. nonempty_first later line.0 line.1 line.2 some (nil_front line.0 w empty)) in
    let number : length ls + 3 + 1 + 1 ≡ n + 5 = omega (arith, count) in
    let whole : (done ++ end_line) ++ later ≡ certificate_head ++ (which_line judge ++ (verdict_line verdict ++ text)) =
    append_assoc done end_line later ∙ ap (λ (t : List ℕ). done ++ t) (sym stands) ∙ grouped_lines judge verdict ls rest ∙ ap (λ (t : List ℕ). certificate_head ++ (which_line judge ++ (verdict_line verdict ++ t))) (sym is) in
    subst (IsLinesRefusal (BadLine (n + 5))) whole (
      many_not_ended ((done ++ end_line) ++ later) (done ++ end_line) later (length ls + 3 + 1) (omega arith) read refl,
      subst (λ (m : ℕ). IsBadLine IsFormedCertificate ((done ++ end_line) ++ later) m) number bad,
    )

pub finished : (judge : Judge) (verdict : Verdict) (ls : List FactLine) (text rest later : List ℕ) → IsCounted verdict → All (IsRightLine judge) ls → text ≡ lines_of ls ++ rest → rest ≡ end_line ++ later → later ≡ [] → IsCertificate (certificate_head ++ (which_line judge ++ (verdict_line verdict ++ text))) (record { judge = judge; verdict = verdict; lines = ls })
finished judge verdict ls text rest later counted right is stands none = record {
  counted = counted;
  right = right;
  is = ap (λ (t : List ℕ). certificate_head ++ (which_line judge ++ (verdict_line verdict ++ t))) (is ∙ ap (λ (t : List ℕ). lines_of ls ++ t) (stands ∙ ap (λ (t : List ℕ). end_line ++ t) none ∙ append-nil end_line));
}

-- one fact more

pub fact_more : (ls : List FactLine) (l : FactLine) (text rest later : List ℕ) → text ≡ lines_of ls ++ rest → rest ≡ fact_line l ++ later → text ≡ lines_of (ls ++ l ∷ []) ++ later
fact_more ls l text rest later is first =
    is ∙ ap (λ (t : List ℕ). lines_of ls ++ t) first ∙ sym (append_assoc (lines_of ls) (fact_line l) later) ∙ ap (λ (t : List ℕ). t ++ later) (flat_map_more fact_line [] ls l)

pub one_too_many : (judge : Judge) (verdict : Verdict) (ls : List FactLine) (l : FactLine) (text rest later : List ℕ) → IsCounted verdict → All (IsRightLine judge) ls → IsRightLine judge l → length ls ≡ most → text ≡ lines_of ls ++ rest → rest ≡ fact_line l ++ later → HasTooManyFacts (certificate_head ++ (which_line judge ++ (verdict_line verdict ++ text)))
one_too_many judge verdict ls l text rest later counted right right_l full is first = record {
  front = record { judge = judge; verdict = verdict; lines = ls };
  last = l;
  rest = later;
  full = full;
  counted = counted;
  right = right;
  right_last = right_l;
  is = ap (λ (t : List ℕ). certificate_head ++ (which_line judge ++ (verdict_line verdict ++ t))) (is ∙ ap (λ (t : List ℕ). lines_of ls ++ t) first);
}

-- what stands first in the rest
pub line_stands : {V : Type 0} (Fits : V → Type 0) (text : V → List ℕ) (v : V) (rest line later : List ℕ) → IsFirstLine rest line later → StandsFirst Fits text line [] v → rest ≡ text v ++ later
line_stands Fits text v rest line later first stands =
    first_line_whole rest line later first ∙ ap (λ (t : List ℕ). t ++ later) (stands.stands ∙ append-nil (text v))

-- a text with too many facts is of no certificate within the limits
pub many_not_within : (text : List ℕ) (c : Told) → IsCertificate text c → length c.lines ≤ most → HasTooManyFacts text → ⊥
many_not_within text c is few many =
    let done : List ℕ = front_of c.judge c.verdict ++ lines_of c.lines in
    let read = end_read c.judge (length c.lines + 3) done (lines_read c.judge c.verdict c.lines is.counted is.right) in
    let whole : text ≡ (done ++ end_line) ++ [] = is.is ∙ sym (grouped_lines c.judge c.verdict c.lines end_line) ∙ sym (append-nil (done ++ end_line)) in
    many_not_ended text (done ++ end_line) [] (length c.lines + 3 + 1) (omega arith) read whole many
