-- What one command line asks for, and what its files are, once and for all.
use Rattle.std.proofs.Common.{◌≡◌, ℕ, true, false, List, [], ◌∷◌, codes, get_or, nat_eq, if◌then◌else◌, Option, Some, None, inl, inr, refl, sym, ◌∙◌, ap, subst, arith}
use Rattle.std.proofs.lemmas.Fmt.{decimal_injective}
use Rattle.std.specs.Prelude.{IsSome}
use Rattle.dm_base.specs.declared.mode.Mode.TheVariants.{Plain}
use Rattle.dm_base.specs.declared.verdict.Status.{Status}
use Rattle.dm_base.specs.declared.verdict.Status.TheVariants as statuses
use Rattle.dm_io.specs.Store.{Files}
use Rattle.tool_audit.proofs.FileLemmas.{audit_ready, audit_apart, audit_status, audit_made}
use Rattle.tool_audit.specs.Audit.{IsAuditStatus}
use Rattle.certify_facts.specs.declared.fact.Judge.{Judge as CertifiedModel}
use Rattle.certify_facts.specs.declared.fact.Judge.TheVariants as judges
use Rattle.flow_model.specs.declared.which.Which.{Which}
use Rattle.flow_model.specs.declared.which.Which.TheVariants as whiches
use Rattle.report.specs.VerdictLine.{word_of}
use Rattle.tool_fleet.proofs.FileLemmas.{fleet_ready, fleet_apart, fleet_status}
use Rattle.tool_reading.proofs.CertifyFiles.{certify_ready, certify_apart, certify_status}
use Rattle.tool_reading.proofs.FileLemmas.{confirm_ready, confirm_apart, confirm_status}
use Rattle.tool_reading.proofs.DepthLemmas.{depth_ready, depth_apart, depth_status}
use Rattle.tool_reading.proofs.InlineLemmas.{inline_ready, inline_apart, inline_status}
use Rattle.tool_instrument.proofs.FileLemmas.{instrument_ready, instrumented_apart, instrument_status}
use Rattle.tool_monitors.specs.declared.asked.Asked.{Asked}
use Rattle.tool_monitors.specs.declared.asked.Asked.TheVariants as asked
use Rattle.tool_monitors.specs.Monitors.{asked_word, monitors_of}
use Rattle.tool_files.proofs.InputLemmas.{judge_ready, judge_status}
use Rattle.tool_models.proofs.FileLemmas.{watch_ready, upgrade_ready, judged_apart, measured_apart, watched_apart, upgrade_or_refused, watch_status, upgrade_status}
use Rattle.tool_reading.proofs.PictureFiles.{picture_ready, picture_apart, picture_status}
use Rattle.tool_texts.proofs.RunFiles.{run_ready, run_apart, run_status}
use Rattle.tool_texts.proofs.ExplainLemmas.{explain_ready, explained_apart, explain_status}
use Rattle.tool_texts.proofs.SitesFiles.{sites_ready, sites_apart}
use Rattle.tool_texts.proofs.TextFiles.{check_ready, checked_apart, check_status, model_ready, modelled_apart, model_status}
use Rattle.tool_words.specs.Command.{Command, IsCommandLine, IsAskedBy, judge_word}
use Rattle.tool_words.specs.Command.{FileCommand, TraceCommand, file_word, trace_word, WordCommand, command_word}
use Rattle.tool_words.specs.Command.FileCommand.{Check, Depth, Explain, Inline, Instrument, Model, Picture, Sites, Upgrade}
use Rattle.tool_words.specs.Command.Command.{Version, OfWord, OfFile, OfTrace, Measure, Fleet, Run, Audit, Confirm, Certify, Selftest}
use Rattle.tool_words.specs.Command.WordCommand.{Help, Codes}
use Rattle.tool_words.specs.Command.TraceCommand.{Expected, Judge, Watch}
use Rattle.tool.specs.Commands.{Makes, Refuses, IsReady}

-- command lines

-- the monitors that a word asks for, told by its first byte
abbrev asked_of : ℕ → Asked
asked_of byte =
    if nat_eq byte 99 then asked.Callgraph else (if nat_eq byte 115 then asked.Stack else (if nat_eq byte 100 then asked.Dyck else asked.All))

of_asked : (which : Asked) → asked_of (get_or (asked_word which) 0 0) ≡ which
of_asked asked.Callgraph = refl
of_asked asked.Stack = refl
of_asked asked.Dyck = refl
of_asked asked.All = refl

one_asked : (which other : Asked) → asked_word which ≡ asked_word other → which ≡ other
one_asked which other same = sym (of_asked which) ∙ ap (λ (w : List ℕ). asked_of (get_or w 0 0)) same ∙ of_asked other

one_asked_for : (which other : Asked) (bound most : ℕ) (words : List (List ℕ)) → IsAskedBy which bound words → IsAskedBy other most words → (which ≡ other) × (bound ≡ most)
one_asked_for which other bound most words (inl a) (inl b) = (one_asked which other (cc (a.0, b.0)), a.1 ∙ sym b.1)
one_asked_for which other bound most words (inl a) (inr b) = cc (a.0, b.0)
one_asked_for which other bound most words (inr a) (inl b) = cc (a.0, b.0)
one_asked_for which other bound most words (inr a) (inr b) =
    (one_asked which other (cc (a.0, b.0)), decimal_injective bound most (omega (arith, a.2)) (omega (arith, b.2)) (cc (a.0, b.0)))

-- the monitor that a word asks for, told by its first byte
abbrev which_of : ℕ → Which
which_of byte = if nat_eq byte 99 then whiches.Callgraph else (if nat_eq byte 115 then whiches.Stack else whiches.Dyck)

of_which : (which : Which) → which_of (get_or (word_of which) 0 0) ≡ which
of_which whiches.Callgraph = refl
of_which whiches.Stack = refl
of_which whiches.Dyck = refl

one_which : (which other : Which) → word_of which ≡ word_of other → which ≡ other
one_which which other same = sym (of_which which) ∙ ap (λ (w : List ℕ). which_of (get_or w 0 0)) same ∙ of_which other

-- the model that a word names, told by its first byte
abbrev judge_of : ℕ → CertifiedModel
judge_of byte = if nat_eq byte 99 then judges.Callgraph else judges.Stack

of_judge : (which : CertifiedModel) → judge_of (get_or (judge_word which) 0 0) ≡ which
of_judge judges.Callgraph = refl
of_judge judges.Stack = refl

one_judge : (which other : CertifiedModel) → judge_word which ≡ judge_word other → which ≡ other
one_judge which other same = sym (of_judge which) ∙ ap (λ (w : List ℕ). judge_of (get_or w 0 0)) same ∙ of_judge other

abbrev trace_command_of : ℕ → TraceCommand
trace_command_of byte = if nat_eq byte 106 then Judge else (if nat_eq byte 119 then Watch else Expected)

of_trace_command : (which : TraceCommand) → trace_command_of (get_or (trace_word which) 0 0) ≡ which
of_trace_command Expected = refl
of_trace_command Judge = refl
of_trace_command Watch = refl

one_trace_command : (which other : TraceCommand) → trace_word which ≡ trace_word other → which ≡ other
one_trace_command which other same = sym (of_trace_command which) ∙ ap (λ (w : List ℕ). trace_command_of (get_or w 0 0)) same ∙ of_trace_command other

-- a command of one word, told by its first byte
abbrev word_command_of : ℕ → WordCommand
word_command_of byte = if nat_eq byte 99 then Codes else Help

of_word_command : (which : WordCommand) → word_command_of (get_or (command_word which) 0 0) ≡ which
of_word_command Help = refl
of_word_command Codes = refl

one_word_command : (which other : WordCommand) → command_word which ≡ command_word other → which ≡ other
one_word_command which other same = sym (of_word_command which) ∙ ap (λ (w : List ℕ). word_command_of (get_or w 0 0)) same ∙ of_word_command other

-- a command of one file, told by its first and its third byte
abbrev file_command_of : List ℕ → FileCommand
file_command_of w =
    if nat_eq (get_or w 0 0) 101 then Explain else (if nat_eq (get_or w 2 0) 101 then Check else (if nat_eq (get_or w 2 0) 112 then Depth else (if nat_eq (get_or w 2 0) 108 then Inline else (if nat_eq (get_or w 2 0) 115 then Instrument else (if nat_eq (get_or w 2 0) 100 then Model else (if nat_eq (get_or w 2 0) 99 then Picture else (if nat_eq (get_or w 2 0) 116 then Sites else Upgrade)))))))

of_file_command : (which : FileCommand) → file_command_of (file_word which) ≡ which
of_file_command Check = refl
of_file_command Depth = refl
of_file_command Explain = refl
of_file_command Inline = refl
of_file_command Instrument = refl
of_file_command Model = refl
of_file_command Picture = refl
of_file_command Sites = refl
of_file_command Upgrade = refl

one_file_command : (which other : FileCommand) → file_word which ≡ file_word other → which ≡ other
one_file_command which other same = sym (of_file_command which) ∙ ap file_command_of same ∙ of_file_command other

no_clash : false ≡ true → ⊥
no_clash same = cc same

-- `--version` is no such word
no_version : (which : WordCommand) → codes "--version" ≡ command_word which → ⊥
no_version Help same = no_clash (ap (λ (w : List ℕ). nat_eq (get_or w 2 0) 104) same)
no_version Codes same = no_clash (ap (λ (w : List ℕ). nat_eq (get_or w 0 0) 99) same)

-- two words that differ in a letter don't both begin the words
apart : (words : List (List ℕ)) (i x y : ℕ) (a b : List ℕ) (s t : List (List ℕ)) → get_or a i 0 ≡ x → get_or b i 0 ≡ y → nat_eq x y ≡ false → nat_eq y y ≡ true → words ≡ a ∷ s → words ≡ b ∷ t → ⊥
apart words i x y a b s t one two differ itself line next =
    let letter : get_or a i 0 ≡ get_or b i 0 = ap (λ (ws : List (List ℕ)). get_or (get_or ws 0 []) i 0) (sym line ∙ next) in
    no_clash (sym differ ∙ ap (λ (n : ℕ). nat_eq n y) (sym one ∙ letter ∙ two) ∙ itself)

-- words ask for one command
one_command : (c d : Command) (words : List (List ℕ)) → IsCommandLine c words → IsCommandLine d words → c ≡ d
one_command Version Version words line next = refl
one_command Version (OfWord other) words line next = elim line [ inl is ↦ cc (is, next) | inr is ↦ absurd (no_version other (cc (is, next))) ]
one_command Version (OfFile other file) words line next = elim line [ inl is ↦ cc (is, next) | inr is ↦ cc (is, next) ]
one_command Version (OfTrace other m t again most) words line next = elim line [ inl is ↦ cc (is, next.1) | inr is ↦ cc (is, next.1) ]
one_command Version (Measure m t again) words line next = elim line [ inl is ↦ cc (is, next) | inr is ↦ cc (is, next) ]
one_command Version (Fleet m again) words line next = elim line [ inl is ↦ cc (is, next) | inr is ↦ cc (is, next) ]
one_command Version (Run m t again) words line next = elim line [ inl is ↦ cc (is, next.0) | inr is ↦ cc (is, next.0) ]
one_command Version (Audit m t again greatest) words line next = elim line [ inl is ↦ cc (is, next.0) | inr is ↦ cc (is, next.0) ]
one_command Version (Confirm m t q) words line next = elim line [ inl is ↦ cc (is, next) | inr is ↦ cc (is, next) ]
one_command Version (Certify m t again) words line next = elim line [ inl is ↦ cc (is, next) | inr is ↦ cc (is, next) ]
one_command Version (Selftest m t) words line next = elim line [ inl is ↦ cc (is, next.0) | inr is ↦ cc (is, next.0) ]
one_command (OfWord which) Version words line next = elim next [ inl is ↦ cc (is, line) | inr is ↦ absurd (no_version which (cc (is, line))) ]
one_command (OfWord which) (OfWord other) words line next =
    let command : which ≡ other = one_word_command which other (cc (line, next)) in
    cc command
one_command (OfWord which) (OfFile other file) words line next = cc (line, next)
one_command (OfWord which) (OfTrace other m t again most) words line next = cc (line, next.1)
one_command (OfWord which) (Measure m t again) words line next = cc (line, next)
one_command (OfWord which) (Fleet m again) words line next = cc (line, next)
one_command (OfWord which) (Run m t again) words line next = cc (line, next.0)
one_command (OfWord which) (Audit m t again greatest) words line next = cc (line, next.0)
one_command (OfWord which) (Confirm m t q) words line next = cc (line, next)
one_command (OfWord which) (Certify m t again) words line next = cc (line, next)
one_command (OfWord which) (Selftest m t) words line next = cc (line, next.0)
one_command (OfFile which name) Version words line next = elim next [ inl is ↦ cc (is, line) | inr is ↦ cc (is, line) ]
one_command (OfFile which name) (OfWord other) words line next = cc (line, next)
one_command (OfFile which name) (OfFile other file) words line next =
    let command : which ≡ other = one_file_command which other (cc (line, next)) in
    let same : name ≡ file = cc (line, next) in
    cc (command, same)
one_command (OfFile which name) (OfTrace other m t again most) words line next = cc (line, next.1)
one_command (OfFile which name) (Measure m t again) words line next = cc (line, next)
one_command (OfFile which name) (Fleet m again) words line next = cc (line, next)
one_command (OfFile which name) (Run m t again) words line next = cc (line, next.0)
one_command (OfFile which name) (Audit m t again greatest) words line next = cc (line, next.0)
one_command (OfFile which name) (Confirm m t q) words line next = cc (line, next)
one_command (OfFile which name) (Certify m t again) words line next = cc (line, next)
one_command (OfFile which name) (Selftest m t) words line next = cc (line, next.0)
one_command (OfTrace command model trace which bound) Version words line next = elim next [ inl is ↦ cc (is, line.1) | inr is ↦ cc (is, line.1) ]
one_command (OfTrace command model trace which bound) (OfWord other) words line next = cc (line.1, next)
one_command (OfTrace command model trace which bound) (OfFile other file) words line next = cc (line.1, next)
one_command (OfTrace command model trace which bound) (OfTrace other m t again most) words line next =
    let commands : command ≡ other = one_trace_command command other (cc (line.1, next.1)) in
    let rest : line.0 ≡ next.0 = cc (line.1, next.1) in
    let parts = one_asked_for which again bound most next.0 (subst (IsAskedBy which bound) rest line.2) next.2 in
    let models : model ≡ m = cc (line.1, next.1) in
    let traces : trace ≡ t = cc (line.1, next.1) in
    cc (commands, models, traces, parts.0, parts.1)
one_command (OfTrace Expected model trace which bound) (Measure m t again) words line next = absurd (apart words 0 101 109 (trace_word Expected) (codes "measure") _ _ refl refl refl refl line.1 next)
one_command (OfTrace Judge model trace which bound) (Measure m t again) words line next = absurd (apart words 0 106 109 (trace_word Judge) (codes "measure") _ _ refl refl refl refl line.1 next)
one_command (OfTrace Watch model trace which bound) (Measure m t again) words line next = absurd (apart words 0 119 109 (trace_word Watch) (codes "measure") _ _ refl refl refl refl line.1 next)
one_command (OfTrace Expected model trace which bound) (Fleet m again) words line next = absurd (apart words 0 101 102 (trace_word Expected) (codes "fleet") _ _ refl refl refl refl line.1 next)
one_command (OfTrace Judge model trace which bound) (Fleet m again) words line next = absurd (apart words 0 106 102 (trace_word Judge) (codes "fleet") _ _ refl refl refl refl line.1 next)
one_command (OfTrace Watch model trace which bound) (Fleet m again) words line next = absurd (apart words 0 119 102 (trace_word Watch) (codes "fleet") _ _ refl refl refl refl line.1 next)
one_command (OfTrace Expected model trace which bound) (Run m t again) words line next = absurd (apart words 0 101 114 (trace_word Expected) (codes "run") _ _ refl refl refl refl line.1 next.0)
one_command (OfTrace Judge model trace which bound) (Run m t again) words line next = absurd (apart words 0 106 114 (trace_word Judge) (codes "run") _ _ refl refl refl refl line.1 next.0)
one_command (OfTrace Watch model trace which bound) (Run m t again) words line next = absurd (apart words 0 119 114 (trace_word Watch) (codes "run") _ _ refl refl refl refl line.1 next.0)
one_command (OfTrace Expected model trace which bound) (Audit m t again greatest) words line next = absurd (apart words 0 101 97 (trace_word Expected) (codes "audit") _ _ refl refl refl refl line.1 next.0)
one_command (OfTrace Judge model trace which bound) (Audit m t again greatest) words line next = absurd (apart words 0 106 97 (trace_word Judge) (codes "audit") _ _ refl refl refl refl line.1 next.0)
one_command (OfTrace Watch model trace which bound) (Audit m t again greatest) words line next = absurd (apart words 0 119 97 (trace_word Watch) (codes "audit") _ _ refl refl refl refl line.1 next.0)
one_command (OfTrace Expected model trace which bound) (Confirm m t q) words line next = absurd (apart words 0 101 99 (trace_word Expected) (codes "confirm") _ _ refl refl refl refl line.1 next)
one_command (OfTrace Judge model trace which bound) (Confirm m t q) words line next = absurd (apart words 0 106 99 (trace_word Judge) (codes "confirm") _ _ refl refl refl refl line.1 next)
one_command (OfTrace Watch model trace which bound) (Confirm m t q) words line next = absurd (apart words 0 119 99 (trace_word Watch) (codes "confirm") _ _ refl refl refl refl line.1 next)
one_command (OfTrace Expected model trace which bound) (Certify m t again) words line next = absurd (apart words 0 101 99 (trace_word Expected) (codes "certify") _ _ refl refl refl refl line.1 next)
one_command (OfTrace Judge model trace which bound) (Certify m t again) words line next = absurd (apart words 0 106 99 (trace_word Judge) (codes "certify") _ _ refl refl refl refl line.1 next)
one_command (OfTrace Watch model trace which bound) (Certify m t again) words line next = absurd (apart words 0 119 99 (trace_word Watch) (codes "certify") _ _ refl refl refl refl line.1 next)
one_command (OfTrace Expected model trace which bound) (Selftest m t) words line next = absurd (apart words 0 101 115 (trace_word Expected) (codes "selftest") _ _ refl refl refl refl line.1 next.0)
one_command (OfTrace Judge model trace which bound) (Selftest m t) words line next = absurd (apart words 0 106 115 (trace_word Judge) (codes "selftest") _ _ refl refl refl refl line.1 next.0)
one_command (OfTrace Watch model trace which bound) (Selftest m t) words line next = absurd (apart words 0 119 115 (trace_word Watch) (codes "selftest") _ _ refl refl refl refl line.1 next.0)
one_command (Measure model trace which) Version words line next = elim next [ inl is ↦ cc (is, line) | inr is ↦ cc (is, line) ]
one_command (Measure model trace which) (OfWord other) words line next = cc (line, next)
one_command (Measure model trace which) (OfFile other file) words line next = cc (line, next)
one_command (Measure model trace which) (OfTrace Expected m t again most) words line next = absurd (apart words 0 109 101 (codes "measure") (trace_word Expected) _ _ refl refl refl refl line next.1)
one_command (Measure model trace which) (OfTrace Judge m t again most) words line next = absurd (apart words 0 109 106 (codes "measure") (trace_word Judge) _ _ refl refl refl refl line next.1)
one_command (Measure model trace which) (OfTrace Watch m t again most) words line next = absurd (apart words 0 109 119 (codes "measure") (trace_word Watch) _ _ refl refl refl refl line next.1)
one_command (Measure model trace which) (Measure m t again) words line next =
    let asked : which ≡ again = one_asked which again (cc (line, next)) in
    let models : model ≡ m = cc (line, next) in
    let traces : trace ≡ t = cc (line, next) in
    cc (models, traces, asked)
one_command (Measure model trace which) (Fleet m again) words line next = cc (line, next)
one_command (Measure model trace which) (Run m t again) words line next = absurd (apart words 0 109 114 (codes "measure") (codes "run") _ _ refl refl refl refl line next.0)
one_command (Measure model trace which) (Audit m t again greatest) words line next = cc (line, next.0)
one_command (Measure model trace which) (Confirm m t q) words line next = absurd (apart words 0 109 99 (codes "measure") (codes "confirm") _ _ refl refl refl refl line next)
one_command (Measure model trace which) (Certify m t again) words line next = absurd (apart words 0 109 99 (codes "measure") (codes "certify") _ _ refl refl refl refl line next)
one_command (Measure model trace which) (Selftest m t) words line next = cc (line, next.0)
one_command (Fleet schedule which) Version words line next = elim next [ inl is ↦ cc (is, line) | inr is ↦ cc (is, line) ]
one_command (Fleet schedule which) (OfWord other) words line next = cc (line, next)
one_command (Fleet schedule which) (OfFile other file) words line next = cc (line, next)
one_command (Fleet schedule which) (OfTrace Expected m t again most) words line next = absurd (apart words 0 102 101 (codes "fleet") (trace_word Expected) _ _ refl refl refl refl line next.1)
one_command (Fleet schedule which) (OfTrace Judge m t again most) words line next = absurd (apart words 0 102 106 (codes "fleet") (trace_word Judge) _ _ refl refl refl refl line next.1)
one_command (Fleet schedule which) (OfTrace Watch m t again most) words line next = absurd (apart words 0 102 119 (codes "fleet") (trace_word Watch) _ _ refl refl refl refl line next.1)
one_command (Fleet schedule which) (Measure m t again) words line next = cc (line, next)
one_command (Fleet schedule which) (Fleet m again) words line next =
    let asked : which ≡ again = one_which which again (cc (line, next)) in
    let schedules : schedule ≡ m = cc (line, next) in
    cc (schedules, asked)
one_command (Fleet schedule which) (Run m t again) words line next = cc (line, next.0)
one_command (Fleet schedule which) (Audit m t again greatest) words line next = cc (line, next.0)
one_command (Fleet schedule which) (Confirm m t q) words line next = cc (line, next)
one_command (Fleet schedule which) (Certify m t again) words line next = cc (line, next)
one_command (Fleet schedule which) (Selftest m t) words line next = absurd (apart words 0 102 115 (codes "fleet") (codes "selftest") _ _ refl refl refl refl line next.0)
one_command (Run source results turns) Version words line next = elim next [ inl is ↦ cc (is, line.0) | inr is ↦ cc (is, line.0) ]
one_command (Run source results turns) (OfWord other) words line next = cc (line.0, next)
one_command (Run source results turns) (OfFile other file) words line next = cc (line.0, next)
one_command (Run source results turns) (OfTrace Expected m t again most) words line next = absurd (apart words 0 114 101 (codes "run") (trace_word Expected) _ _ refl refl refl refl line.0 next.1)
one_command (Run source results turns) (OfTrace Judge m t again most) words line next = absurd (apart words 0 114 106 (codes "run") (trace_word Judge) _ _ refl refl refl refl line.0 next.1)
one_command (Run source results turns) (OfTrace Watch m t again most) words line next = absurd (apart words 0 114 119 (codes "run") (trace_word Watch) _ _ refl refl refl refl line.0 next.1)
one_command (Run source results turns) (Measure m t again) words line next = absurd (apart words 0 114 109 (codes "run") (codes "measure") _ _ refl refl refl refl line.0 next)
one_command (Run source results turns) (Fleet m again) words line next = cc (line.0, next)
one_command (Run source results turns) (Run m t again) words line next =
    let numbers : turns ≡ again = decimal_injective turns again (omega (arith, line.1)) (omega (arith, next.1)) (cc (line.0, next.0)) in
    let sources : source ≡ m = cc (line.0, next.0) in
    let records : results ≡ t = cc (line.0, next.0) in
    cc (sources, records, numbers)
one_command (Run source results turns) (Audit m t again greatest) words line next = cc (line.0, next.0)
one_command (Run source results turns) (Confirm m t q) words line next = absurd (apart words 0 114 99 (codes "run") (codes "confirm") _ _ refl refl refl refl line.0 next)
one_command (Run source results turns) (Certify m t again) words line next = absurd (apart words 0 114 99 (codes "run") (codes "certify") _ _ refl refl refl refl line.0 next)
one_command (Run source results turns) (Selftest m t) words line next = cc (line.0, next.0)
one_command (Audit source results turns bound) Version words line next = elim next [ inl is ↦ cc (is, line.0) | inr is ↦ cc (is, line.0) ]
one_command (Audit source results turns bound) (OfWord other) words line next = cc (line.0, next)
one_command (Audit source results turns bound) (OfFile other file) words line next = cc (line.0, next)
one_command (Audit source results turns bound) (OfTrace Expected m t again most) words line next = absurd (apart words 0 97 101 (codes "audit") (trace_word Expected) _ _ refl refl refl refl line.0 next.1)
one_command (Audit source results turns bound) (OfTrace Judge m t again most) words line next = absurd (apart words 0 97 106 (codes "audit") (trace_word Judge) _ _ refl refl refl refl line.0 next.1)
one_command (Audit source results turns bound) (OfTrace Watch m t again most) words line next = absurd (apart words 0 97 119 (codes "audit") (trace_word Watch) _ _ refl refl refl refl line.0 next.1)
one_command (Audit source results turns bound) (Measure m t again) words line next = cc (line.0, next)
one_command (Audit source results turns bound) (Fleet m again) words line next = cc (line.0, next)
one_command (Audit source results turns bound) (Run m t again) words line next = cc (line.0, next.0)
one_command (Audit source results turns bound) (Audit m t again greatest) words line next =
    let numbers : turns ≡ again = decimal_injective turns again (omega (arith, line.1)) (omega (arith, next.1)) (cc (line.0, next.0)) in
    let bounds : bound ≡ greatest = decimal_injective bound greatest (omega (arith, line.3)) (omega (arith, next.3)) (cc (line.0, next.0)) in
    let sources : source ≡ m = cc (line.0, next.0) in
    let records : results ≡ t = cc (line.0, next.0) in
    cc (sources, records, numbers, bounds)
one_command (Audit source results turns bound) (Confirm m t q) words line next = cc (line.0, next)
one_command (Audit source results turns bound) (Certify m t again) words line next = cc (line.0, next)
one_command (Audit source results turns bound) (Selftest m t) words line next = cc (line.0, next.0)
one_command (Confirm model trace certificate) Version words line next = elim next [ inl is ↦ cc (is, line) | inr is ↦ cc (is, line) ]
one_command (Confirm model trace certificate) (OfWord other) words line next = cc (line, next)
one_command (Confirm model trace certificate) (OfFile other file) words line next = cc (line, next)
one_command (Confirm model trace certificate) (OfTrace Expected m t again most) words line next = absurd (apart words 0 99 101 (codes "confirm") (trace_word Expected) _ _ refl refl refl refl line next.1)
one_command (Confirm model trace certificate) (OfTrace Judge m t again most) words line next = absurd (apart words 0 99 106 (codes "confirm") (trace_word Judge) _ _ refl refl refl refl line next.1)
one_command (Confirm model trace certificate) (OfTrace Watch m t again most) words line next = absurd (apart words 0 99 119 (codes "confirm") (trace_word Watch) _ _ refl refl refl refl line next.1)
one_command (Confirm model trace certificate) (Measure m t again) words line next = absurd (apart words 0 99 109 (codes "confirm") (codes "measure") _ _ refl refl refl refl line next)
one_command (Confirm model trace certificate) (Fleet m again) words line next = cc (line, next)
one_command (Confirm model trace certificate) (Run m t again) words line next = absurd (apart words 0 99 114 (codes "confirm") (codes "run") _ _ refl refl refl refl line next.0)
one_command (Confirm model trace certificate) (Audit m t again greatest) words line next = cc (line, next.0)
one_command (Confirm model trace certificate) (Confirm m t q) words line next =
    let models : model ≡ m = cc (line, next) in
    let traces : trace ≡ t = cc (line, next) in
    let certificates : certificate ≡ q = cc (line, next) in
    cc (models, traces, certificates)
one_command (Confirm model trace certificate) (Certify m t again) words line next = absurd (apart words 1 111 101 (codes "confirm") (codes "certify") _ _ refl refl refl refl line next)
one_command (Confirm model trace certificate) (Selftest m t) words line next = cc (line, next.0)
one_command (Certify model trace which) Version words line next = elim next [ inl is ↦ cc (is, line) | inr is ↦ cc (is, line) ]
one_command (Certify model trace which) (OfWord other) words line next = cc (line, next)
one_command (Certify model trace which) (OfFile other file) words line next = cc (line, next)
one_command (Certify model trace which) (OfTrace Expected m t again most) words line next = absurd (apart words 0 99 101 (codes "certify") (trace_word Expected) _ _ refl refl refl refl line next.1)
one_command (Certify model trace which) (OfTrace Judge m t again most) words line next = absurd (apart words 0 99 106 (codes "certify") (trace_word Judge) _ _ refl refl refl refl line next.1)
one_command (Certify model trace which) (OfTrace Watch m t again most) words line next = absurd (apart words 0 99 119 (codes "certify") (trace_word Watch) _ _ refl refl refl refl line next.1)
one_command (Certify model trace which) (Measure m t again) words line next = absurd (apart words 0 99 109 (codes "certify") (codes "measure") _ _ refl refl refl refl line next)
one_command (Certify model trace which) (Fleet m again) words line next = cc (line, next)
one_command (Certify model trace which) (Run m t again) words line next = absurd (apart words 0 99 114 (codes "certify") (codes "run") _ _ refl refl refl refl line next.0)
one_command (Certify model trace which) (Audit m t again greatest) words line next = cc (line, next.0)
one_command (Certify model trace which) (Confirm m t q) words line next = absurd (apart words 1 101 111 (codes "certify") (codes "confirm") _ _ refl refl refl refl line next)
one_command (Certify model trace which) (Certify m t again) words line next =
    let asked : which ≡ again = one_judge which again (cc (line, next)) in
    let models : model ≡ m = cc (line, next) in
    let traces : trace ≡ t = cc (line, next) in
    cc (models, traces, asked)
one_command (Certify model trace which) (Selftest m t) words line next = cc (line, next.0)
one_command (Selftest number size) Version words line next = elim next [ inl is ↦ cc (is, line.0) | inr is ↦ cc (is, line.0) ]
one_command (Selftest number size) (OfWord other) words line next = cc (line.0, next)
one_command (Selftest number size) (OfFile other file) words line next = cc (line.0, next)
one_command (Selftest number size) (OfTrace Expected m t again most) words line next = absurd (apart words 0 115 101 (codes "selftest") (trace_word Expected) _ _ refl refl refl refl line.0 next.1)
one_command (Selftest number size) (OfTrace Judge m t again most) words line next = absurd (apart words 0 115 106 (codes "selftest") (trace_word Judge) _ _ refl refl refl refl line.0 next.1)
one_command (Selftest number size) (OfTrace Watch m t again most) words line next = absurd (apart words 0 115 119 (codes "selftest") (trace_word Watch) _ _ refl refl refl refl line.0 next.1)
one_command (Selftest number size) (Measure m t again) words line next = cc (line.0, next)
one_command (Selftest number size) (Fleet m again) words line next = absurd (apart words 0 115 102 (codes "selftest") (codes "fleet") _ _ refl refl refl refl line.0 next)
one_command (Selftest number size) (Run m t again) words line next = cc (line.0, next.0)
one_command (Selftest number size) (Audit m t again greatest) words line next = cc (line.0, next.0)
one_command (Selftest number size) (Confirm m t q) words line next = cc (line.0, next)
one_command (Selftest number size) (Certify m t again) words line next = cc (line.0, next)
one_command (Selftest number size) (Selftest m t) words line next =
    let numbers : number ≡ m = decimal_injective number m (omega (arith, line.1)) (omega (arith, next.1)) (cc (line.0, next.0)) in
    let sizes : size ≡ t = decimal_injective size t (omega (arith, line.3)) (omega (arith, next.3)) (cc (line.0, next.0)) in
    cc (numbers, sizes)

-- a command that is ready refuses nothing
ready_apart : (c : Command) (files : Option Files) (status : Status) (line : List ℕ) → IsReady c files → Refuses c files status line → ⊥
ready_apart Version files status line ready refuses = refuses
ready_apart (OfWord which) files status line ready refuses = refuses
ready_apart (OfFile Check name) files status line ready refuses = check_ready files name line status ready refuses
ready_apart (OfFile Depth name) files status line ready refuses = depth_ready files name line status ready refuses
ready_apart (OfFile Explain name) files status line ready refuses = explain_ready files name line status ready refuses
ready_apart (OfFile Inline name) files status line ready refuses = inline_ready files name line status ready refuses
ready_apart (OfFile Instrument name) files status line ready refuses = instrument_ready files name line status ready refuses
ready_apart (OfFile Model name) files status line ready refuses = model_ready files name line status ready refuses
ready_apart (OfFile Picture name) files status line ready refuses = picture_ready files name line status ready refuses
ready_apart (OfFile Sites name) files status line ready refuses = sites_ready files name line status ready refuses
ready_apart (OfFile Upgrade name) files status line ready refuses = upgrade_ready files name line status ready refuses
ready_apart (OfTrace Expected model trace which bound) files status line ready refuses = judge_ready files model trace line status ready refuses
ready_apart (OfTrace Judge model trace which bound) files status line ready refuses = judge_ready files model trace line status ready refuses
ready_apart (OfTrace Watch model trace which bound) files status line ready refuses = watch_ready files model trace line status ready refuses
ready_apart (Measure model trace which) files status line ready refuses = judge_ready files model trace line status ready refuses
ready_apart (Fleet schedule which) files status line ready refuses = fleet_ready files schedule status line ready refuses
ready_apart (Run source results turns) files status line ready refuses = run_ready files source results status line ready refuses
ready_apart (Audit source results turns bound) files status line ready refuses = audit_ready files source results status line ready refuses
ready_apart (Selftest number size) files status line ready refuses = refuses
ready_apart (Confirm model trace certificate) files status line ready refuses = confirm_ready files model trace certificate line status ready refuses
ready_apart (Certify model trace which) files status line ready refuses = certify_ready files model trace line which status ready refuses

-- a command that makes a text refuses nothing
made_apart : (c : Command) (files : Option Files) (status later : Status) (text line : List ℕ) → IsSome files → Makes c files status text → Refuses c files later line → ⊥
made_apart Version files status later text line told makes refuses = refuses
made_apart (OfWord which) files status later text line told makes refuses = refuses
made_apart (OfFile which name) None status later text line told makes refuses = absurd (cc told)
made_apart (OfFile Check name) (Some files) status later text line told makes refuses = checked_apart files name text line later makes.1 refuses
made_apart (OfFile Depth name) (Some files) status later text line told makes refuses = depth_apart files name text line later makes.1 refuses
made_apart (OfFile Explain name) (Some files) status later text line told makes refuses = explained_apart files name text line later makes.1 refuses
made_apart (OfFile Inline name) (Some files) status later text line told makes refuses = inline_apart files name text line later makes.1 refuses
made_apart (OfFile Instrument name) (Some files) status later text line told makes refuses = instrumented_apart files name text line later makes.1 refuses
made_apart (OfFile Model name) (Some files) status later text line told makes refuses = modelled_apart files name text line later makes.1 refuses
made_apart (OfFile Picture name) (Some files) status later text line told makes refuses = picture_apart files name text line later makes.1 refuses
made_apart (OfFile Sites name) (Some files) status later text line told makes refuses = sites_apart files name text line later makes.1 refuses
made_apart (OfFile Upgrade name) (Some files) status later text line told makes refuses = upgrade_or_refused files name text line later makes.1 refuses
made_apart (OfTrace command model trace which bound) None status later text line told makes refuses = absurd (cc told)
made_apart (OfTrace Expected model trace which bound) (Some files) status later text line told makes refuses =
    judge_ready (Some files) model trace line later ((makes.graph, makes.is_model), (makes.events, makes.end, makes.is_trace)) refuses
made_apart (OfTrace Judge model trace which bound) (Some files) status later text line told makes refuses = judged_apart files model trace text line (monitors_of which) bound status later makes refuses
made_apart (OfTrace Watch model trace which bound) (Some files) status later text line told makes refuses = watched_apart files model trace text line (monitors_of which) bound status later makes refuses
made_apart (Measure model trace which) None status later text line told makes refuses = absurd (cc told)
made_apart (Measure model trace which) (Some files) status later text line told makes refuses = measured_apart files model trace text line (monitors_of which) status later makes refuses
made_apart (Fleet schedule which) None status later text line told makes refuses = absurd (cc told)
made_apart (Fleet schedule which) (Some files) status later text line told makes refuses = fleet_apart files schedule which status later text line makes refuses
made_apart (Run source results turns) None status later text line told makes refuses = absurd (cc told)
made_apart (Run source results turns) (Some files) status later text line told makes refuses = run_apart files source results turns text later line makes.1 refuses
made_apart (Audit source results turns bound) None status later text line told makes refuses = absurd (cc told)
made_apart (Audit source results turns bound) (Some files) status later text line told makes refuses = audit_apart files source results turns bound status text later line makes refuses
made_apart (Selftest number size) files status later text line told makes refuses = refuses
made_apart (Confirm model trace certificate) None status later text line told makes refuses = absurd (cc told)
made_apart (Confirm model trace certificate) (Some files) status later text line told makes refuses = confirm_apart files model trace certificate text line later makes.1 refuses
made_apart (Certify model trace which) None status later text line told makes refuses = absurd (cc told)
made_apart (Certify model trace which) (Some files) status later text line told makes refuses = certify_apart files model trace which text line status later makes refuses

-- two refusals of one command have one status
same_refusal : (c : Command) (files : Option Files) (status later : Status) (line other : List ℕ) → IsSome files → Refuses c files status line → Refuses c files later other → status ≡ later
same_refusal Version files status later line other told refuses too = absurd refuses
same_refusal (OfWord which) files status later line other told refuses too = absurd refuses
same_refusal (OfFile Check name) files status later line other told refuses too = check_status Plain files name line status refuses ∙ sym (check_status Plain files name other later too)
same_refusal (OfFile Depth name) files status later line other told refuses too = depth_status files name line status refuses ∙ sym (depth_status files name other later too)
same_refusal (OfFile Explain name) files status later line other told refuses too = explain_status files name line status refuses ∙ sym (explain_status files name other later too)
same_refusal (OfFile Inline name) files status later line other told refuses too = inline_status files name line status refuses ∙ sym (inline_status files name other later too)
same_refusal (OfFile Instrument name) files status later line other told refuses too = instrument_status files name line status refuses ∙ sym (instrument_status files name other later too)
same_refusal (OfFile Model name) files status later line other told refuses too = model_status files name line status refuses ∙ sym (model_status files name other later too)
same_refusal (OfFile Picture name) files status later line other told refuses too = picture_status files name line status refuses ∙ sym (picture_status files name other later too)
same_refusal (OfFile Sites name) files status later line other told refuses too = check_status Plain files name line status refuses ∙ sym (check_status Plain files name other later too)
same_refusal (OfFile Upgrade name) files status later line other told refuses too = upgrade_status files name line status refuses ∙ sym (upgrade_status files name other later too)
same_refusal (OfTrace command model trace which bound) None status later line other told refuses too = absurd (cc told)
same_refusal (OfTrace Expected model trace which bound) (Some files) status later line other told refuses too = judge_status files model trace line other status later refuses too
same_refusal (OfTrace Judge model trace which bound) (Some files) status later line other told refuses too = judge_status files model trace line other status later refuses too
same_refusal (OfTrace Watch model trace which bound) (Some files) status later line other told refuses too = watch_status files model trace line other status later refuses too
same_refusal (Measure model trace which) None status later line other told refuses too = absurd (cc told)
same_refusal (Measure model trace which) (Some files) status later line other told refuses too = judge_status files model trace line other status later refuses too
same_refusal (Fleet schedule which) None status later line other told refuses too = absurd (cc told)
same_refusal (Fleet schedule which) (Some files) status later line other told refuses too = fleet_status files schedule status later line other refuses too
same_refusal (Run source results turns) None status later line other told refuses too = absurd (cc told)
same_refusal (Run source results turns) (Some files) status later line other told refuses too = run_status files source results status later line other refuses too
same_refusal (Audit source results turns bound) None status later line other told refuses too = absurd (cc told)
same_refusal (Audit source results turns bound) (Some files) status later line other told refuses too = audit_status files source results status later line other refuses too
same_refusal (Selftest number size) files status later line other told refuses too = absurd refuses
same_refusal (Confirm model trace certificate) None status later line other told refuses too = absurd (cc told)
same_refusal (Confirm model trace certificate) (Some files) status later line other told refuses too = confirm_status files model trace certificate line other status later refuses too
same_refusal (Certify model trace which) None status later line other told refuses too = absurd (cc told)
same_refusal (Certify model trace which) (Some files) status later line other told refuses too = certify_status files model trace which line other status later refuses too

-- the command of the words refuses nothing where it is ready
pub ready_not_refused : (c d : Command) (words : List (List ℕ)) (files : Option Files) (status : Status) (line : List ℕ) → IsCommandLine c words → IsCommandLine d words → IsReady c files → Refuses d files status line → ⊥
ready_not_refused c d words files status line asked again ready refuses =
    ready_apart d files status line (subst (λ (x : Command). IsReady x files) (one_command c d words asked again) ready) refuses

-- the command of the words makes nothing where it refuses a file
pub made_not_refused : (c d : Command) (words : List (List ℕ)) (files : Option Files) (status later : Status) (text line : List ℕ) → IsSome files → IsCommandLine c words → IsCommandLine d words → Makes c files status text → Refuses d files later line → ⊥
made_not_refused c d words files status later text line told asked again makes refuses =
    made_apart d files status later text line told (subst (λ (x : Command). Makes x files status text) (one_command c d words asked again) makes) refuses

-- a file is refused with one status
pub refused_once : (c d : Command) (words : List (List ℕ)) (files : Option Files) (status later : Status) (line other : List ℕ) → IsSome files → IsCommandLine c words → IsCommandLine d words → Refuses c files status line → Refuses d files later other → status ≡ later
refused_once c d words files status later line other told asked again refuses too =
    same_refusal d files status later line other told (subst (λ (x : Command). Refuses x files status line) (one_command c d words asked again) refuses) too

-- what `audit` makes never ends as a rejection

audit_ended : (files : Option Files) (source results : List ℕ) (turns bound : ℕ) (status : Status) (text : List ℕ) → Makes (Audit source results turns bound) files status text → IsAuditStatus status
audit_ended None source results turns bound status text makes = makes
audit_ended (Some files) source results turns bound status text makes = audit_made files source results turns bound status text makes

pub audit_never_rejects : (c : Command) (words : List (List ℕ)) (files : Option Files) (status : Status) (text source results : List ℕ) (turns bound : ℕ) → IsCommandLine c words → IsCommandLine (Audit source results turns bound) words → Makes c files status text → status ≡ statuses.Rejected → ⊥
audit_never_rejects c words files status text source results turns bound asked again makes rejected =
    of (audit_ended files source results turns bound status text (subst (λ (x : Command). Makes x files status text) (one_command c (Audit source results turns bound) words asked again) makes))
  where
    of : IsAuditStatus status → ⊥
    of (inl done) = cc (done, rejected)
    of (inr bounded) = cc (bounded, rejected)

-- what holds of the command of the words holds of `selftest`, where they are its words
pub of_test : (P : Command → Type 0) (c : Command) (number size : ℕ) (words : List (List ℕ)) → IsCommandLine c words → IsCommandLine (Selftest number size) words → P c → P (Selftest number size)
of_test P c number size words asked again h = subst P (one_command c (Selftest number size) words asked again) h
