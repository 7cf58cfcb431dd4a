-- What each command makes of its words and files: one line a command in each definition.
use Rattle.std.specs.Prelude.{◌≡◌, ℕ, List, ◌++◌, Option, Some, None, codes}
use Rattle.code_reasons.specs.Reasons.{codes_text}
use Rattle.dm_base.specs.declared.mode.Mode.TheVariants.{Plain}
use Rattle.dm_base.specs.declared.verdict.Status.{Status}
use Rattle.dm_base.specs.declared.verdict.Status.TheVariants.{Done}
use Rattle.dm_io.specs.Store.{Files, IsMissing}
use Rattle.tool_frame.specs.Stop.{IsFinished}
use Rattle.tool_words.specs.Command.{Command}
use Rattle.tool_words.specs.Command.FileCommand.{Check, Depth, Explain, Inline, Instrument, Model, Picture, Sites, Upgrade}
use Rattle.tool_words.specs.Command.Command.{Version, OfWord, OfFile, OfTrace, Measure, Fleet, Run, Audit, Confirm, Certify, Selftest}
use Rattle.tool_words.specs.Command.WordCommand.{Help, Codes}
use Rattle.tool_words.specs.Command.TraceCommand.{Expected, Judge, Watch}
use Rattle.tool_reading.specs.Certify.{TellsCertificate, RefusesToCertify, IsReadyToCertify}
use Rattle.tool_reading.specs.Confirm.{TellsConfirmed, RefusesToConfirm, LacksToConfirm, IsReadyToConfirm}
use Rattle.tool_audit.specs.Audit.{Audits, IsAuditStatus, RefusesToAudit, LacksToAudit, IsReadyToAudit}
use Rattle.tool_instrument.specs.Instrument.{Instruments, RefusesToInstrument, IsReadyToInstrument}
use Rattle.tool_fleet.specs.Fleet.{RunsFleet, RefusesFleet, LacksForFleet, IsReadyForFleet}
use Rattle.tool_reading.specs.Depth.{TellsDepth, IsReadyToTellDepth}
use Rattle.tool_reading.specs.Inline.{Inlines, RefusesToInline, IsReadyToInline}
use Rattle.tool_reading.specs.Expects.{Expects}
use Rattle.tool_models.specs.Judge.{Judges}
use Rattle.tool_files.specs.Inputs.{RefusesModel, RefusesToJudge, LacksToJudge, IsReadyToJudge}
use Rattle.tool_models.specs.Measure.{Measures}
use Rattle.tool_monitors.specs.Monitors.{monitors_of}
use Rattle.tool_models.specs.Upgrade.{Upgrades, RefusesToUpgrade, IsReadyToUpgrade}
use Rattle.tool_models.specs.Watch.{Watches, RefusesToWatch, IsReadyToWatch}
use Rattle.tool_reading.specs.Picture.{Pictures, RefusesToPicture, IsReadyToPicture}
use Rattle.tool_texts.specs.Run.{Runs, RefusesToRun, LacksToRun, IsReadyToRun}
use Rattle.tool_audit.specs.Selftest.{TellsSelftest}
use Rattle.tool_texts.specs.Explained.{RefusesToExplain}
use Rattle.tool_texts.specs.Sites.{TellsSites, IsReadyToTellSites}
use Rattle.tool_texts.specs.Check.{Checks, IsReadyToCheck}
use Rattle.tool_texts.specs.Modelled.{Models, RefusesToModel, IsReadyToModel}
use Rattle.tool_texts.specs.Sources.{RefusesSource}

abbrev pub version_text : List ℕ
version_text = codes "dyckmon 1\n"

abbrev pub help_text : List ℕ
help_text =
    codes "dyckmon, dyckmon --version               the version\n"
    ++ codes "dyckmon --help                           this text\n"
    ++ codes "dyckmon audit FILE RESULTS TURNS K       the trace of the C text's instrumented program, and its verdicts\n"
    ++ codes "dyckmon certify MODEL TRACE WHICH        a certificate of the verdict of callgraph or stack on the trace\n"
    ++ codes "dyckmon check FILE                       how many functions and calls the C text has\n"
    ++ codes "dyckmon codes                            each code of a refusal or of undefined behaviour, with its reason\n"
    ++ codes "dyckmon confirm MODEL TRACE CERTIFICATE  the verdict of the certificate, where it shows it\n"
    ++ codes "dyckmon depth MODEL                      how many calls may be open at once\n"
    ++ codes "dyckmon expected MODEL TRACE WHICH [K]   the verdict lines, and after each what may come next\n"
    ++ codes "dyckmon explain FILE                     where the C text is refused and why, or what check tells\n"
    ++ codes "dyckmon fleet SCHEDULE WHICH             what each process of the schedule comes to under its model\n"
    ++ codes "dyckmon inline MODEL                     the file of a model without calls that has the same words\n"
    ++ codes "dyckmon instrument FILE                  the C text with null calls round its marked calls\n"
    ++ codes "dyckmon judge MODEL TRACE WHICH [K]      the verdict lines of the model on the trace\n"
    ++ codes "dyckmon measure MODEL TRACE WHICH        how many calls may come next along the trace\n"
    ++ codes "dyckmon model FILE                       the file of the model of the C text\n"
    ++ codes "dyckmon picture MODEL                    the model as a graph in the DOT language of Graphviz\n"
    ++ codes "dyckmon run FILE RESULTS TURNS           the trace of the C text's program with recorded results\n"
    ++ codes "dyckmon selftest NUMBER SIZE             a program made from the number, audited\n"
    ++ codes "dyckmon sites FILE                       where each call of the C text stands, and what it may call\n"
    ++ codes "dyckmon upgrade MODEL                    the file of the model in the newest version\n"
    ++ codes "dyckmon watch MODEL TRACES WHICH [K]     the verdict lines of each process of interleaved traces\n"
    ++ codes "CERTIFICATE, FILE, MODEL, RESULTS, SCHEDULE, TRACE and TRACES are names of files. WHICH is callgraph,\n"
    ++ codes "stack, dyck, or all for the three in this order; with certify one of the first two, with fleet one of the\n"
    ++ codes "first three. K is how many calls may be open at once in the Dyck model, 1 to 65535; it is 1000 where none\n"
    ++ codes "is given. TURNS is how many functions may be entered and loops be tested, together, 0 to 1000000.\n"
    ++ codes "NUMBER is 0 to 4294967295, and SIZE how many functions stand before main, 1 to 500.\n"

-- the command writes this text and ends with this status
abbrev pub Makes : Command → Option Files → Status → List ℕ → Type 0
Makes Version files status text = (status ≡ Done) × (text ≡ version_text)
Makes (OfWord Help) files status text = (status ≡ Done) × (text ≡ help_text)
Makes (OfWord Codes) files status text = (status ≡ Done) × (text ≡ codes_text)
Makes (OfFile which file) None status text = status ≡ Done
Makes (OfFile Check file) (Some files) status text = (status ≡ Done) × Checks files file text
Makes (OfFile Depth file) (Some files) status text = (status ≡ Done) × TellsDepth files file text
Makes (OfFile Explain file) (Some files) status text = (status ≡ Done) × Checks files file text
Makes (OfFile Inline file) (Some files) status text = (status ≡ Done) × Inlines files file text
Makes (OfFile Instrument file) (Some files) status text = (status ≡ Done) × Instruments files file text
Makes (OfFile Model file) (Some files) status text = (status ≡ Done) × Models files file text
Makes (OfFile Picture file) (Some files) status text = (status ≡ Done) × Pictures files file text
Makes (OfFile Sites file) (Some files) status text = (status ≡ Done) × TellsSites files file text
Makes (OfFile Upgrade file) (Some files) status text = (status ≡ Done) × Upgrades files file text
Makes (OfTrace command model trace which bound) None status text = IsFinished status
Makes (OfTrace Expected model trace which bound) (Some files) status text = Expects files model trace (monitors_of which) bound status text
Makes (OfTrace Judge model trace which bound) (Some files) status text = Judges files model trace (monitors_of which) bound status text
Makes (OfTrace Watch model traces which bound) (Some files) status text = Watches files model traces (monitors_of which) bound status text
Makes (Measure model trace which) None status text = status ≡ Done
Makes (Measure model trace which) (Some files) status text = Measures files model trace (monitors_of which) status text
Makes (Fleet schedule which) None status text = IsFinished status
Makes (Fleet schedule which) (Some files) status text = RunsFleet files schedule which status text
Makes (Run source results turns) None status text = status ≡ Done
Makes (Run source results turns) (Some files) status text = (status ≡ Done) × Runs files source results turns text
Makes (Audit source results turns bound) None status text = IsAuditStatus status
Makes (Audit source results turns bound) (Some files) status text = Audits files source results turns bound status text
Makes (Confirm model trace certificate) None status text = status ≡ Done
Makes (Confirm model trace certificate) (Some files) status text = (status ≡ Done) × TellsConfirmed files model trace certificate text
Makes (Certify model trace which) None status text = IsFinished status
Makes (Certify model trace which) (Some files) status text = TellsCertificate files model trace which status text
Makes (Selftest number size) files status text = (status ≡ Done) × TellsSelftest number size text

-- the command refuses a file, with this status and this line
abbrev pub Refuses : Command → Option Files → Status → List ℕ → Type 0
Refuses Version files status line = ⊥
Refuses (OfWord which) files status line = ⊥
Refuses (OfFile Check file) files status line = RefusesSource Plain files file status line
Refuses (OfFile Depth file) files status line = RefusesModel files file status line
Refuses (OfFile Explain file) files status line = RefusesToExplain files file status line
Refuses (OfFile Inline file) files status line = RefusesToInline files file status line
Refuses (OfFile Instrument file) files status line = RefusesToInstrument files file status line
Refuses (OfFile Model file) files status line = RefusesToModel files file status line
Refuses (OfFile Picture file) files status line = RefusesToPicture files file status line
Refuses (OfFile Sites file) files status line = RefusesSource Plain files file status line
Refuses (OfFile Upgrade file) files status line = RefusesToUpgrade files file status line
Refuses (OfTrace Expected model trace which bound) files status line = RefusesToJudge files model trace status line
Refuses (OfTrace Judge model trace which bound) files status line = RefusesToJudge files model trace status line
Refuses (OfTrace Watch model traces which bound) files status line = RefusesToWatch files model traces status line
Refuses (Measure model trace which) files status line = RefusesToJudge files model trace status line
Refuses (Fleet schedule which) files status line = RefusesFleet files schedule status line
Refuses (Run source results turns) files status line = RefusesToRun files source results status line
Refuses (Audit source results turns bound) files status line = RefusesToAudit files source results status line
Refuses (Confirm model trace certificate) files status line = RefusesToConfirm files model trace certificate status line
Refuses (Certify model trace which) files status line = RefusesToCertify files model trace which status line
Refuses (Selftest number size) files status line = ⊥

-- the command reads files
abbrev pub ReadsFiles : Command → Type 0
ReadsFiles Version = ⊥
ReadsFiles (OfWord which) = ⊥
ReadsFiles (OfFile which file) = Unit {0}
ReadsFiles (OfTrace command model trace which bound) = Unit {0}
ReadsFiles (Measure model trace which) = Unit {0}
ReadsFiles (Fleet schedule which) = Unit {0}
ReadsFiles (Run source results turns) = Unit {0}
ReadsFiles (Audit source results turns bound) = Unit {0}
ReadsFiles (Confirm model trace certificate) = Unit {0}
ReadsFiles (Certify model trace which) = Unit {0}
ReadsFiles (Selftest number size) = ⊥

-- a file that the command asks for isn't there
abbrev pub Lacks : Command → Option Files → Type 0
Lacks Version files = ⊥
Lacks (OfWord which) files = ⊥
Lacks (OfFile which file) files = IsMissing files file
Lacks (OfTrace command model trace which bound) files = LacksToJudge files model trace
Lacks (Measure model trace which) files = LacksToJudge files model trace
Lacks (Fleet schedule which) files = LacksForFleet files schedule
Lacks (Run source results turns) files = LacksToRun files source results
Lacks (Audit source results turns bound) files = LacksToAudit files source results
Lacks (Confirm model trace certificate) files = LacksToConfirm files model trace certificate
Lacks (Certify model trace which) files = LacksToJudge files model trace
Lacks (Selftest number size) files = ⊥

-- the command's files are told, and are such that it refuses none
abbrev pub IsReady : Command → Option Files → Type 0
IsReady Version files = Unit {0}
IsReady (OfWord which) files = Unit {0}
IsReady (OfFile Check file) files = IsReadyToCheck files file
IsReady (OfFile Depth file) files = IsReadyToTellDepth files file
IsReady (OfFile Explain file) files = IsReadyToCheck files file
IsReady (OfFile Inline file) files = IsReadyToInline files file
IsReady (OfFile Instrument file) files = IsReadyToInstrument files file
IsReady (OfFile Model file) files = IsReadyToModel files file
IsReady (OfFile Picture file) files = IsReadyToPicture files file
IsReady (OfFile Sites file) files = IsReadyToTellSites files file
IsReady (OfFile Upgrade file) files = IsReadyToUpgrade files file
IsReady (OfTrace Expected model trace which bound) files = IsReadyToJudge files model trace
IsReady (OfTrace Judge model trace which bound) files = IsReadyToJudge files model trace
IsReady (OfTrace Watch model traces which bound) files = IsReadyToWatch files model traces
IsReady (Measure model trace which) files = IsReadyToJudge files model trace
IsReady (Fleet schedule which) files = IsReadyForFleet files schedule
IsReady (Run source results turns) files = IsReadyToRun files source results
IsReady (Audit source results turns bound) files = IsReadyToAudit files source results
IsReady (Confirm model trace certificate) files = IsReadyToConfirm files model trace certificate
IsReady (Certify model trace which) files = IsReadyToCertify files model trace which
IsReady (Selftest number size) files = Unit {0}
