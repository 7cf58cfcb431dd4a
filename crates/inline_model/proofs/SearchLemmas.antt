-- The turns of the search.
use Rattle.std.proofs.Common.{◌≡◌, ◌⊎◌, inl, inr, ℕ, ◌+◌, ◌<◌, ◌≤◌, List, [], ◌∷◌, ◌++◌, length, take, drop, set, Option, Some, None, refl, sym, ap, ◌∙◌, subst, arith}
use Prim.Native.Nat.{zero, suc}
use Rattle.std.specs.Prelude.{slice_get, replicate, sum_by, IfSome, IfNone}
use Rattle.std.proofs.lemmas.Bool.{cases_lt, cases_eq}
use Rattle.std.proofs.lemmas.List.{length-set, append-nil, take_all, drop_all}
use Rattle.std.proofs.lemmas.List.Sums.{sum_by-cons, sum_by-set}
use Rattle.std.proofs.lemmas.Option.{slice_get_within, get_or_from_slice_get}
use Rattle.flow_model.specs.Graph.{Graph, HasCall}
use Rattle.flow_model.specs.Rules.{IsValid}
use Rattle.flow_model.proofs.ModelLemmas.{functions_few}
use Rattle.inline_model.proofs.Basics.{candidate_below}
use Rattle.inline_model.specs.Within.{Within}
use Rattle.flow_model.proofs.Rising.{cons_cases, is_first, is_later}
use Rattle.inline_model.specs.declared.path.Frame.{Frame}
use Rattle.inline_model.specs.declared.search.Mark.{Mark}
use Rattle.inline_model.specs.declared.search.Mark.TheVariants.{Unseen, Open, Done}
use Rattle.inline_model.specs.declared.table.Entry.{Entry}
use Rattle.inline_model.specs.Entries.{IsEntry, AreEntries}
use Rattle.inline_model.specs.Searching.{Enters, HasPlace, OpensPlace, IsDone, IsOpen, Passed, OnPath, IsPath, AreSearching, IsNext, IsReady, StayLow, Completes, mark_left, frame_left, turns_left}
use Rattle.inline_model.specs.Searching.IsPath.{bottom, above}
use Rattle.inline_model.proofs.HeightLemmas.{slice_get-set_same, slice_get-set_other}

-- what is done stays done
pub path_still : {g : Graph} {old new : List Mark} {path : List Frame} → ((p : ℕ) → IsDone old p → IsDone new p) → IsPath g old path → IsPath g new path
path_still still (bottom passed) = bottom (λ p opens lt. still p (passed p opens lt))
path_still still (above opens passed fresh below) = above opens (λ p is lt. still p (passed p is lt)) fresh (path_still still below)

-- the newest frame
pub top_passed : {g : Graph} {marks : List Mark} {frame : Frame} {rest : List Frame} → IsPath g marks (frame ∷ rest) → Passed g marks frame.opener frame.next
top_passed (bottom passed) = passed
top_passed (above opens passed fresh below) = passed

-- the newest frame looks further
pub top_moved : {g : Graph} {marks : List Mark} {frame : Frame} {rest : List Frame} (next : ℕ) → IsPath g marks (frame ∷ rest) → Passed g marks frame.opener next → IsPath g marks (record { opener = frame.opener; next = next } ∷ rest)
top_moved next (bottom before) passed = bottom passed
top_moved next (above opens before fresh below) passed = above opens passed fresh below

pub on_path_cases : (frame : Frame) (rest : List Frame) (p : ℕ) → OnPath (frame ∷ rest) p → (frame.opener ≡ Some p) ⊎ OnPath rest p
on_path_cases frame rest p on = elim (cons_cases frame rest on.frame on.has) [
  | inl same ↦ inl (ap (λ (f : Frame). f.opener) same ∙ on.is)
  | inr later ↦ inr (record { frame = on.frame; has = later; is = on.is })
]

pub on_path_here : (frame : Frame) (rest : List Frame) (p : ℕ) → frame.opener ≡ Some p → OnPath (frame ∷ rest) p
on_path_here frame rest p is = record { frame = frame; has = is_first frame rest; is = is }

pub on_path_later : (frame : Frame) (rest : List Frame) (p : ℕ) → OnPath rest p → OnPath (frame ∷ rest) p
on_path_later frame rest p on = record { frame = on.frame; has = is_later frame rest on.frame on.has; is = on.is }

pub moved_on_path : (frame : Frame) (next : ℕ) (rest : List Frame) (p : ℕ) → OnPath (frame ∷ rest) p → OnPath (record { opener = frame.opener; next = next } ∷ rest) p
moved_on_path frame next rest p on = elim (on_path_cases frame rest p on) [
  | inl here ↦ on_path_here (record { opener = frame.opener; next = next }) rest p here
  | inr later ↦ on_path_later (record { opener = frame.opener; next = next }) rest p later
]

-- before the first turn
pub begun : (g : Graph) → IsValid g → (marks : List Mark) (heights : List (Option ℕ)) → length marks ≡ length g.calls → length heights ≡ length g.functions → ((p : ℕ) (m : Mark) → slice_get marks p ≡ Some m → m ≡ Unseen) → ((f : ℕ) (h : Option ℕ) → slice_get heights f ≡ Some h → h ≡ None) → AreSearching g marks heights (record { opener = None; next = 0 } ∷ [])
begun g valid marks heights long tall unseen unknown = record {
  sound = record {
    long = long;
    tall = tall;
    low = record {
      few = omega (arith, tall, functions_few g.functions g.nodes valid.entries, valid.entries.few);
      below = λ f n at. absurd (let same = unknown f (Some n) at in cc);
    };
    right = λ f n at. absurd (let same = unknown f (Some n) at in cc);
    complete = λ f p known. absurd (let same = unknown f (Some known.0) known.1 in cc);
    done = λ p f is. absurd (let same = unseen p Done is in cc);
  };
  is_path = bottom (λ p opens lt. absurd (omega (arith, lt)));
  on_path = λ p. (
    λ is. absurd (let same = unseen p Open is in cc),
    λ on. elim (on_path_cases (record { opener = None; next = 0 }) [] p on) [ inl is ↦ absurd (let none : None ≡ Some p = is in cc) | inr later ↦ absurd (omega (arith, later.has.1)) ],
  );
}

-- A turn, where the newest frame of the path is known.
module _ (g : Graph) (marks : List Mark) (heights : List (Option ℕ)) (path : List Frame) (frame : Frame) (rest : List Frame) (is : path ≡ frame ∷ rest) (inv : AreSearching g marks heights path) where
  here : IsPath g marks (frame ∷ rest)
  here = subst (IsPath g marks) is inv.is_path

  -- all that is opened before the next place is done
  done_before : (q : ℕ) → IsNext g heights (Enters g frame.opener) frame.next (Some q) → Passed g marks frame.opener q
  done_before q next p opens lt = elim (cases_lt p frame.next) [
    | inl before ↦ top_passed here p opens before
    | inr least ↦ inv.sound.complete opens.0 p (next.2 opens.0 p opens.1 least lt opens.2) opens.2
  ]

  pub pass_done : (q : ℕ) → IsNext g heights (Enters g frame.opener) frame.next (Some q) → IsDone marks q → AreSearching g marks heights (record { opener = frame.opener; next = q + 1 } ∷ rest)
  pass_done q next done = record {
    sound = inv.sound;
    is_path = top_moved (q + 1) here (λ p opens lt. elim (cases_eq p q) [
      | inl same ↦ subst (IsDone marks) (sym same) done
      | inr other ↦ (let less : p < q = omega (arith, other) in done_before q next p opens less)
    ]);
    on_path = λ p. (
      λ open_here. moved_on_path frame (q + 1) rest p (subst (λ xs. OnPath xs p) is ((inv.on_path p).0 open_here)),
      λ on. (inv.on_path p).1 (subst (λ xs. OnPath xs p) (sym is) (moved_on_path (record { opener = frame.opener; next = q + 1 }) frame.next rest p on)),
    );
  }

  pub enter_unseen : (q : ℕ) (new : List Mark) → IsNext g heights (Enters g frame.opener) frame.next (Some q) → slice_get marks q ≡ Some Unseen → new ≡ set marks q Open → AreSearching g new heights (record { opener = Some q; next = 0 } ∷ path)
  enter_unseen q new next unseen set_is =
      let lt : q < length marks = slice_get_within marks q Unseen unseen in
      let now : slice_get new q ≡ Some Open = ap (λ xs. slice_get xs q) set_is ∙ slice_get-set_same marks q Open lt in
      let others : (p : ℕ) → (p ≡ q → ⊥) → slice_get new p ≡ slice_get marks p = λ p ne. ap (λ xs. slice_get xs p) set_is ∙ slice_get-set_other marks q p Open ne in
      let not_open : IsOpen marks q → ⊥ = λ open_here. (let two : Some Unseen ≡ Some Open = sym unseen ∙ open_here in cc) in
      let not_done : IsDone marks q → ⊥ = λ done. (let two : Some Unseen ≡ Some Done = sym unseen ∙ done in cc) in
      let not_done_now : IsDone new q → ⊥ = λ done. (let two : Some Open ≡ Some Done = sym now ∙ done in cc) in
      let still : (p : ℕ) → IsDone marks p → IsDone new p = λ p done. elim (cases_eq p q) [ inl same ↦ absurd (not_done (subst (IsDone marks) same done)) | inr ne ↦ others p ne ∙ done ] in
      let back : (p : ℕ) → IsDone new p → IsDone marks p = λ p done. elim (cases_eq p q) [ inl same ↦ absurd (not_done_now (subst (IsDone new) same done)) | inr ne ↦ sym (others p ne) ∙ done ] in
      record {
        sound = record {
          long = ap length set_is ∙ length-set marks q Open ∙ inv.sound.long;
          tall = inv.sound.tall;
          low = inv.sound.low;
          right = inv.sound.right;
          complete = λ f p known place. still p (inv.sound.complete f p known place);
          done = λ p f done enters. inv.sound.done p f (back p done) enters;
        };
        is_path = subst (λ xs. IsPath g new (record { opener = Some q; next = 0 } ∷ xs)) (sym is)
            (above (next.1.0, next.1.1, next.1.2) (λ p opens none. absurd (omega (arith, none))) (λ on. not_open ((inv.on_path q).1 (subst (λ xs. OnPath xs q) (sym is) on))) (path_still still here));
        on_path = λ p. (
          λ open_now. elim (cases_eq p q) [
            | inl same ↦ on_path_here (record { opener = Some q; next = 0 }) path p (ap Some (sym same))
            | inr ne ↦ on_path_later (record { opener = Some q; next = 0 }) path p ((inv.on_path p).0 (sym (others p ne) ∙ open_now))
          ],
          λ on. elim (on_path_cases (record { opener = Some q; next = 0 }) path p on) [
            | inl same ↦ (let equal : q ≡ p = cc in subst (IsOpen new) equal now)
            | inr later ↦ (let open_before = (inv.on_path p).1 later in others p (λ e. not_open (subst (IsOpen marks) e open_before)) ∙ open_before)
          ],
        );
      }

  -- where nothing is next, all that is opened is done
  pub all_done : IsNext g heights (Enters g frame.opener) frame.next None → (p : ℕ) → OpensPlace g frame.opener p → IsDone marks p
  all_done next p opens = elim (cases_lt p frame.next) [
    | inl before ↦ top_passed here p opens before
    | inr least ↦ inv.sound.complete opens.0 p (next opens.0 p opens.1 least opens.2) opens.2
  ]

-- a function that is entered is one of the model's
entered_known : (g : Graph) → IsValid g → (opener : Option ℕ) (f : ℕ) → Enters g opener f → f < length g.functions
entered_known g valid None f enters = omega (arith, enters, valid.functions.start)
entered_known g valid (Some p) f (call, at, candidate) =
    let has : HasCall g call.from call.site call.to f = record {
      call = call;
      has = (p, slice_get_within g.calls p call at, get_or_from_slice_get g.calls p call call at);
      from = refl;
      site = refl;
      to = refl;
      candidate = candidate;
    } in
    candidate_below valid has

-- where nothing is next, the heights of the functions that the newest frame enters can be told
pub ready_here : (g : Graph) → IsValid g → (marks : List Mark) (heights : List (Option ℕ)) (path : List Frame) (frame : Frame) (rest : List Frame) → path ≡ frame ∷ rest → AreSearching g marks heights path → IsNext g heights (Enters g frame.opener) frame.next None → (entries : List Entry) → AreEntries g entries → (f : ℕ) → Enters g frame.opener f → IsReady entries heights f
ready_here g valid marks heights path frame rest is inv next entries are f enters = record {
  within = omega (arith, inv.sound.tall, entered_known g valid frame.opener f enters);
  candidates = λ e has same.
      let entry = (are.all e).0 has in
      let here : IsEntry g (record { function = f; place = e.place; candidate = e.candidate }) = record { call = entry.call; stands = entry.stands; within = subst (λ k. Within g k entry.call.from) same entry.within; candidate = entry.candidate } in
      inv.sound.done e.place e.candidate (all_done g marks heights path frame rest is inv next e.place (f, enters, (e.candidate, here))) (entry.call, entry.stands, entry.candidate);
}

-- the place of the newest frame is open
pub top_open : (g : Graph) (marks : List Mark) (heights : List (Option ℕ)) (path : List Frame) (frame : Frame) (rest : List Frame) → path ≡ frame ∷ rest → AreSearching g marks heights path → (q : ℕ) → frame.opener ≡ Some q → IsOpen marks q
top_open g marks heights path frame rest is inv q opener = (inv.on_path q).1 (subst (λ xs. OnPath xs q) (sym is) (on_path_here frame rest q opener))

-- a path has a frame
pub path_some : {g : Graph} {marks : List Mark} {path : List Frame} → IsPath g marks path → path ≡ [] → ⊥
path_some (bottom passed) is = cc
path_some (above opens passed fresh below) is = cc

-- a place by which a function goes on has a mark
pub place_marked : (g : Graph) (marks : List Mark) (f p : ℕ) → length marks ≡ length g.calls → HasPlace g f p → p < length marks
place_marked g marks f p long (h, entry) = omega (arith, long, slice_get_within g.calls p entry.call entry.stands)

-- the turns that are left where a mark changes
marks_fall : (n : ℕ) (marks new : List Mark) (q : ℕ) (before after : Mark) → slice_get marks q ≡ Some before → new ≡ set marks q after → sum_by (mark_left n) new + mark_left n before ≡ sum_by (mark_left n) marks + mark_left n after
marks_fall n marks new q before after at is =
    ap (λ xs. sum_by (mark_left n) xs + mark_left n before) is
    ∙ ap (λ m. sum_by (mark_left n) (set marks q after) + mark_left n m) (sym (get_or_from_slice_get marks q before before at))
    ∙ sum_by-set (mark_left n) marks q after before (slice_get_within marks q before at)

pub pass_left : (n : ℕ) (marks : List Mark) (frame : Frame) (rest : List Frame) (q : ℕ) → frame.next ≤ q → q < n → turns_left n marks (record { opener = frame.opener; next = q + 1 } ∷ rest) < turns_left n marks (frame ∷ rest)
pass_left n marks frame rest q least less = omega (arith, sum_by-cons (frame_left n) frame rest, sum_by-cons (frame_left n) (record { opener = frame.opener; next = q + 1 }) rest)

pub enter_left : (n : ℕ) (marks new : List Mark) (path : List Frame) (q : ℕ) → slice_get marks q ≡ Some Unseen → new ≡ set marks q Open → turns_left n new (record { opener = Some q; next = 0 } ∷ path) < turns_left n marks path
enter_left n marks new path q at is = omega (arith, marks_fall n marks new q Unseen Open at is, sum_by-cons (frame_left n) (record { opener = Some q; next = 0 }) path)

pub leave_left : (n : ℕ) (marks new : List Mark) (frame : Frame) (rest : List Frame) (q : ℕ) → slice_get marks q ≡ Some Open → new ≡ set marks q Done → turns_left n new rest < turns_left n marks (frame ∷ rest)
leave_left n marks new frame rest q at is = omega (arith, marks_fall n marks new q Open Done at is, sum_by-cons (frame_left n) frame rest)

-- the frames below one that was opened
below_path : {g : Graph} {marks : List Mark} {frame : Frame} {rest : List Frame} {q : ℕ} → frame.opener ≡ Some q → IsPath g marks (frame ∷ rest) → IsPath g marks rest × (OnPath rest q → ⊥)
below_path {q = q} is (bottom passed) = absurd (let none : None ≡ Some q = is in cc)
below_path {q = q} is (above {p = p} {below = below} {rest = rest} opens passed fresh path) = let same : p ≡ q = cc in (path, λ on. fresh (subst (OnPath (below ∷ rest)) (sym same) on))

pub leave_done : (g : Graph) (marks : List Mark) (heights : List (Option ℕ)) (path : List Frame) (frame : Frame) (rest : List Frame) → path ≡ frame ∷ rest → AreSearching g marks heights path → (q : ℕ) → frame.opener ≡ Some q → IsNext g heights (Enters g frame.opener) frame.next None
    → (new_marks : List Mark) (new_heights : List (Option ℕ)) → Completes g heights new_heights (Enters g frame.opener) → StayLow heights new_heights → new_marks ≡ set marks q Done → AreSearching g new_marks new_heights rest
leave_done g marks heights path frame rest is inv q opener next new_marks new_heights made stays set_is =
    let here : IsPath g marks (frame ∷ rest) = subst (IsPath g marks) is inv.is_path in
    let below = below_path opener here in
    let open_q : IsOpen marks q = (inv.on_path q).1 (subst (λ xs. OnPath xs q) (sym is) (on_path_here frame rest q opener)) in
    let lt : q < length marks = slice_get_within marks q Open open_q in
    let now : slice_get new_marks q ≡ Some Done = ap (λ xs. slice_get xs q) set_is ∙ slice_get-set_same marks q Done lt in
    let others : (p : ℕ) → (p ≡ q → ⊥) → slice_get new_marks p ≡ slice_get marks p = λ p ne. ap (λ xs. slice_get xs p) set_is ∙ slice_get-set_other marks q p Done ne in
    let still : (p : ℕ) → IsDone marks p → IsDone new_marks p = λ p done. elim (cases_eq p q) [ inl same ↦ subst (IsDone new_marks) (sym same) now | inr ne ↦ others p ne ∙ done ] in
    let done = all_done g marks heights path frame rest is inv next in
    record {
      sound = record {
        long = ap length set_is ∙ length-set marks q Done ∙ inv.sound.long;
        tall = made.tall ∙ inv.sound.tall;
        low = stays.low;
        right = made.heights;
        complete = λ f p known place. elim (made.only f known) [
          | inl before ↦ still p (inv.sound.complete f p before place)
          | inr enters ↦ still p (done p (f, enters, place))
        ];
        done = λ p f is_done enters. elim (cases_eq p q) [
          | inl same ↦ made.all f (subst (λ o. Enters g o f) (ap Some same ∙ sym opener) enters)
          | inr ne ↦ made.still f (inv.sound.done p f (sym (others p ne) ∙ is_done) enters)
        ];
      };
      is_path = path_still still below.0;
      on_path = λ p. (
        λ open_now. elim (cases_eq p q) [
          | inl same ↦ absurd (let two : Some Done ≡ Some Open = sym now ∙ ap (slice_get new_marks) (sym same) ∙ open_now in cc)
          | inr ne ↦ elim (on_path_cases frame rest p (subst (λ xs. OnPath xs p) is ((inv.on_path p).0 (sym (others p ne) ∙ open_now)))) [
            | inl top ↦ absurd (let equal : Some q ≡ Some p = sym opener ∙ top in let same : q ≡ p = cc in ne (sym same))
            | inr later ↦ later
          ]
        ],
        λ on. others p (λ same. below.1 (subst (OnPath rest) same on)) ∙ (inv.on_path p).1 (subst (λ xs. OnPath xs p) (sym is) (on_path_later frame rest p on)),
      );
    }

-- what is left where the newest frame is taken away
pub popped : (r : Option Frame) (old new : List Frame) (frame : Frame) (rest : List Frame) → IfSome r (λ f. old ≡ f ∷ new) → IfNone r (old ≡ []) → old ≡ frame ∷ rest → new ≡ rest
popped None old new frame rest some none is = absurd (let two : [] ≡ frame ∷ rest = sym none ∙ is in cc)
popped (Some f) old new frame rest some none is = let two : f ∷ new ≡ frame ∷ rest = sym some ∙ is in cc

pub slice_get-replicate : {X : Type 0} (n p : ℕ) (x m : X) → slice_get (replicate n x) p ≡ Some m → m ≡ x
slice_get-replicate zero p x m at = absurd (let two : None ≡ Some m = at in cc)
slice_get-replicate (suc n) zero x m at = let two : Some x ≡ Some m = at in cc
slice_get-replicate (suc n) (suc p) x m at = slice_get-replicate n p x m at

-- a slice of all items that was written to
pub written_back : {X : Type 0} (new old : List X) (n : ℕ) → n ≡ length old → length new ≡ length old → take n (new ++ drop (length new) old) ≡ new
written_back new old n len same =
    let none : drop (length new) old ≡ [] = drop_all (length new) old (omega arith) in
    ap (λ xs. take n (new ++ xs)) none ∙ ap (take n) (append-nil new) ∙ take_all n new (omega arith)
