-- Labels and groups of a switch, one after another.
use Rattle.std.proofs.Common.{◌≡◌, ℕ, ◌+◌, ◌<◌, List, [], ◌∷◌, ◌++◌, length, drop, get_or, refl, ap, sym, subst, ◌∙◌, append_assoc, append-nil}
use Rattle.std.proofs.lemmas.List.{drop_more}
use Rattle.c_syntax.proofs.NodeRows.{group_is}
use Rattle.c_check_bodies.specs.Named.{names_of_group}
use Rattle.c_check_declarations.specs.CheckError.{CheckError}
use Rattle.c_check_declarations.specs.Agreement.{Names}
use Rattle.c_check_declarations.proofs.Parts.{names_on}
use Rattle.c_check_bodies.specs.LabelledView.{groups_before, labelled_before}
use Rattle.c_rules.specs.Blocks.{StatementTree, after_stmts, held_by_groups, held_by_stmts}
use Rattle.c_rules.specs.Checked.{Checked, fine, faulty, faults, all_three, both, gives, on}
use Rattle.c_rules.specs.Counts.{past}
use Rattle.c_rules.specs.Scopes.{Env, Before}
use Rattle.c_rules.specs.Statements.{Around, Labelled, groups_of_switch, labelled, labels_of, no_labelled, stmts}
use Rattle.c_rules.specs.Variables.{Next, calls_of_groups, calls_of_stmts, names_of_groups, names_of_stmts, past_names}
use Rattle.c_check_statements.specs.Listed.{label_alone, labels_in, stmts_in}
use Rattle.c_check_statements.specs.Ruled.{group_behind}
use Rattle.c_check_statements.proofs.PartLemmas.{faulty_not_fine, fine_same, names_of_three}
use Rattle.c_check_expressions.proofs.NodeLemmas.{past_past}
use Rattle.c_check_expressions.proofs.Turns.{next_fine, next_fails}
use Rattle.c_syntax.specs.declared.tree.Group.{Group}
use Rattle.c_syntax.specs.declared.tree.Label.{Label}
use Rattle.c_syntax.specs.declared.tree.LabelKind.{LabelKind}
use Rattle.c_syntax.specs.declared.tree.LabelKind.TheVariants as kinds
use Rattle.c_syntax.specs.Tree.{Labels, Groups, no_groups, more_groups}
use Rattle.c_syntax.specs.UnitView.{label_before, labels_of as labels_seen}
use Rattle.c_syntax.specs.WritesUnit.{groups_of}
use Rattle.c_tree.specs.declared.tree.TLabel.{TLabel}
use Rattle.c_tree.specs.declared.tree.TLabel.TheVariants.{Default}
use Rattle.c_tree.specs.declared.value.IntType.{IntType}
use Rattle.c_tree.specs.Tree as typed

-- ## Labels

abbrev pub onto_labels : List TLabel → Checked (List TLabel) → Checked (List TLabel)
onto_labels done r = on r (λ ls. fine (done ++ ls))

abbrev labels_and : Checked TLabel → Checked (List TLabel) → Checked (List TLabel)
labels_and p r = both p r (λ l ls. fine (l ∷ ls))

gives_and : {A : Type 0} (p : Checked A) (f : A → TLabel) (r : Checked (List TLabel)) → both p r (λ v ls. fine (f v ∷ ls)) ≡ labels_and (on p (λ v. fine (f v))) r
gives_and (fine v) f (fine ls) = refl
gives_and (fine v) f (faulty g gs) = refl
gives_and (faulty g gs) f r = refl

default_and : (r : Checked (List TLabel)) → gives r (λ ls. Default ∷ ls) ≡ labels_and (fine Default) r
default_and (fine ls) = refl
default_and (faulty g gs) = refl

label_rule : (env : Env) (i : IntType) (at : ℕ) (kind : LabelKind) (ls : Labels) → labels_of env i (label_before at kind ls) ≡ labels_and (label_alone env i kind) (labels_of env i ls)
label_rule env i at (kinds.Case e) ls = gives_and _ _ (labels_of env i ls)
label_rule env i at kinds.Default ls = default_and (labels_of env i ls)

labels_at : (ls : List Label) (n : ℕ) (l : Label) → n < length ls → l ≡ get_or ls n l → labels_seen (drop n ls) ≡ label_before l.at l.kind (labels_seen (drop (n + 1) ls))
labels_at ls n l lt is = ap labels_seen (drop_more ls n l lt) ∙ ap (λ x. label_before x.at x.kind (labels_seen (drop (n + 1) ls))) (sym is)

pub label_more : (env here : Env) (i : IntType) (ls : List Label) (n : ℕ) (l : Label) (done new : List TLabel) (t : TLabel) (all : Checked (List TLabel)) → n < length ls → l ≡ get_or ls n l → here ≡ env
    → all ≡ onto_labels done (labels_of env i (labels_seen (drop n ls))) → label_alone here i l.kind ≡ fine t → new ≡ done ++ t ∷ [] → all ≡ onto_labels new (labels_of env i (labels_seen (drop (n + 1) ls)))
label_more env here i ls n l done new t all lt is same before given grown =
    let rest : Labels = labels_seen (drop (n + 1) ls) in
    next_fine all (labels_of env i (labels_seen (drop n ls))) (label_alone env i l.kind) (labels_of env i rest) (λ u us. fine (u ∷ us)) (λ us. fine (done ++ us)) before
    (ap (λ r. labels_of env i r) (labels_at ls n l lt is) ∙ label_rule env i l.at l.kind rest) t (λ us. fine (new ++ us)) ((λ j. label_alone (sym same j) i l.kind) ∙ given) (λ us. ap fine (sym (append_assoc done (t ∷ []) us) ∙ ap (λ ts. ts ++ us) (sym grown)))

pub label_fails : (e : CheckError) (env here : Env) (i : IntType) (ls : List Label) (n : ℕ) (l : Label) (done : List TLabel) (all : Checked (List TLabel)) → n < length ls → l ≡ get_or ls n l → here ≡ env
    → all ≡ onto_labels done (labels_of env i (labels_seen (drop n ls))) → Names e (faults (label_alone here i l.kind)) → Names e (faults all)
label_fails e env here i ls n l done all lt is same before h =
    let rest : Labels = labels_seen (drop (n + 1) ls) in
    next_fails all (labels_of env i (labels_seen (drop n ls))) (label_alone env i l.kind) (labels_of env i rest) (λ u us. fine (u ∷ us)) (λ us. fine (done ++ us)) before
    (ap (λ r. labels_of env i r) (labels_at ls n l lt is) ∙ label_rule env i l.at l.kind rest) e (subst (λ v. Names e (faults (label_alone v i l.kind))) same h)

-- ## Groups

tree_assoc : (d e q : typed.Groups) → groups_before (groups_before d e) q ≡ groups_before d (groups_before e q)
tree_assoc typed.no_groups e q = refl
tree_assoc (typed.more_groups ls ss d) e q = ap (typed.more_groups ls ss) (tree_assoc d e q)

tree_none : (d : typed.Groups) → groups_before d typed.no_groups ≡ d
tree_none typed.no_groups = refl
tree_none (typed.more_groups ls ss d) = ap (typed.more_groups ls ss) (tree_none d)

one_behind : (d : Labelled) (vs : List TLabel) (p : StatementTree typed.Stmts) (q : Labelled) → labelled_before d (labelled vs p q) ≡ labelled_before (labelled_before d (labelled vs p no_labelled)) q
one_behind d vs p q = λ i. record {
  groups = record {
    tree = sym (tree_assoc d.groups.tree (typed.more_groups vs p.tree typed.no_groups) q.groups.tree) i;
    plain = (ap (λ z. d.groups.plain ++ (z ++ q.groups.plain)) (sym (append-nil p.plain)) ∙ sym (append_assoc d.groups.plain (p.plain ++ []) q.groups.plain)) i;
    added = (ap (λ z. d.groups.added ++ (z ++ q.groups.added)) (sym (append-nil p.added)) ∙ sym (append_assoc d.groups.added (p.added ++ []) q.groups.added)) i;
  };
  labels = (ap (λ z. d.labels ++ (z ++ q.labels)) (sym (append-nil vs)) ∙ sym (append_assoc d.labels (vs ++ []) q.labels)) i;
}

pub none_behind : (d : Labelled) → labelled_before d no_labelled ≡ d
none_behind d = λ i. record {
  groups = record { tree = tree_none d.groups.tree i; plain = append-nil d.groups.plain i; added = append-nil d.groups.added i };
  labels = append-nil d.labels i;
}

abbrev pub onto_groups : Labelled → Checked Labelled → Checked Labelled
onto_groups d r = on r (λ q. fine (labelled_before d q))

abbrev three_of : Checked (List TLabel) → Checked (StatementTree typed.Stmts) → Checked Labelled → Checked Labelled
three_of l s r = all_three l s r (λ vs p q. fine (labelled vs p q))

group_onto : (l : Checked (List TLabel)) (s : Checked (StatementTree typed.Stmts)) (r : Checked Labelled) (d new : Labelled) → both l s (λ vs p. fine (labelled_before d (labelled vs p no_labelled))) ≡ fine new → onto_groups d (three_of l s r) ≡ onto_groups new r
group_onto (fine vs) (fine p) (fine q) d new h = ap fine (one_behind d vs p q ∙ ap (λ z. labelled_before z q) (fine_same (labelled_before d (labelled vs p no_labelled)) new h))
group_onto (fine vs) (fine p) (faulty g gs) d new h = refl
group_onto (fine vs) (faulty g gs) r d new h = absurd (faulty_not_fine g gs new h)
group_onto (faulty g gs) s r d new h = absurd (faulty_not_fine g (gs ++ faults s) new h)

groups_at : (gs : List Group) (n : ℕ) (g : Group) → n < length gs → g ≡ get_or gs n g → groups_of (drop n gs) ≡ more_groups (labels_in g) (stmts_in g) (groups_of (drop (n + 1) gs))
groups_at gs n g lt is =
    ap groups_of (drop_more gs n g lt ∙ ap (λ x. x ∷ drop (n + 1) gs) (sym is)) ∙ group_is g (groups_of (drop (n + 1) gs))

pub group_names : (g : Group) → names_of_group g ≡ names_of_stmts (stmts_in g)
group_names g = ap names_of_groups (group_is g no_groups) ∙ append-nil (names_of_stmts (stmts_in g))

pub groups_names : (gs : List Group) (n : ℕ) (g : Group) → n < length gs → g ≡ get_or gs n g → names_of_groups (groups_of (drop n gs)) ≡ names_of_group g ++ names_of_groups (groups_of (drop (n + 1) gs))
groups_names gs n g lt is = ap names_of_groups (groups_at gs n g lt is) ∙ ap (λ ns. ns ++ names_of_groups (groups_of (drop (n + 1) gs))) (sym (group_names g))

pub names_past : (next : Next) (g : Group) → past_names next (names_of_group g) ≡ past_names next (names_of_stmts (stmts_in g))
names_past next g = ap (past_names next) (group_names g)

module _ (a : Around) (i : IntType) (gs : List Group) (n : ℕ) (g : Group) where
  pub group_more : (env here : Env) (b b' : Before) (next next' : Next) (d new : Labelled) (all : Checked Labelled) → n < length gs → g ≡ get_or gs n g → here ≡ env
      → all ≡ onto_groups d (groups_of_switch env a b next i (groups_of (drop n gs))) → group_behind here a b next i d g ≡ fine new → b' ≡ after_stmts here b next (stmts_in g) → next' ≡ past_names next (names_of_group g)
      → all ≡ onto_groups new (groups_of_switch env a b' next' i (groups_of (drop (n + 1) gs)))
  group_more env here b b' next next' d new all lt is same before given counted numbered =
      let rest : Groups = groups_of (drop (n + 1) gs) in
      before
      ∙ (ap (λ r. onto_groups d (groups_of_switch env a b next i r)) (groups_at gs n g lt is)
      ∙ (group_onto (labels_of env i (labels_in g)) (stmts env a b next (stmts_in g)) (groups_of_switch env a (after_stmts env b next (stmts_in g)) (past_names next (names_of_stmts (stmts_in g))) i rest) d new ((λ j. group_behind (sym same j) a b next i d g) ∙ given)
      ∙ (λ j. onto_groups new (groups_of_switch env a (sym (counted ∙ (λ k. after_stmts (same k) b next (stmts_in g))) j) (sym (numbered ∙ names_past next g) j) i rest))))

  pub group_fails : (e : CheckError) (env here : Env) (b : Before) (next : Next) (d : Labelled) (all : Checked Labelled) → n < length gs → g ≡ get_or gs n g → here ≡ env
      → all ≡ onto_groups d (groups_of_switch env a b next i (groups_of (drop n gs))) → Names e (faults (group_behind here a b next i d g)) → Names e (faults all)
  group_fails e env here b next d all lt is same before h =
      let rest : Groups = groups_of (drop (n + 1) gs) in
      let behind : Checked Labelled = groups_of_switch env a (after_stmts env b next (stmts_in g)) (past_names next (names_of_stmts (stmts_in g))) i rest in
      let here : Names e (faults (three_of (labels_of env i (labels_in g)) (stmts env a b next (stmts_in g)) behind)) =
      names_of_three e (labels_of env i (labels_in g)) (stmts env a b next (stmts_in g)) behind (λ vs p. labelled_before d (labelled vs p no_labelled)) (λ vs p q. labelled vs p q) (subst (λ v. Names e (faults (group_behind v a b next i d g))) same h) in
      let onto : Names e (faults (onto_groups d (three_of (labels_of env i (labels_in g)) (stmts env a b next (stmts_in g)) behind))) = names_on e (three_of (labels_of env i (labels_in g)) (stmts env a b next (stmts_in g)) behind) (λ q. fine (labelled_before d q)) here in
      subst (λ r. Names e (faults r)) (sym (before ∙ ap (λ r. onto_groups d (groups_of_switch env a b next i r)) (groups_at gs n g lt is))) onto

  pub group_counted : (env here : Env) (b b' whole : Before) (next next' : Next) → n < length gs → g ≡ get_or gs n g → here ≡ env
      → whole ≡ past b (calls_of_groups (groups_of (drop n gs))) (held_by_groups env next (groups_of (drop n gs))) → b' ≡ after_stmts here b next (stmts_in g) → next' ≡ past_names next (names_of_group g)
      → whole ≡ past b' (calls_of_groups (groups_of (drop (n + 1) gs))) (held_by_groups env next' (groups_of (drop (n + 1) gs)))
  group_counted env here b b' whole next next' lt is same before counted numbered =
      let rest : Groups = groups_of (drop (n + 1) gs) in
      before
      ∙ (ap (λ r. past b (calls_of_groups r) (held_by_groups env next r)) (groups_at gs n g lt is)
      ∙ (sym (past_past b (calls_of_stmts (stmts_in g)) (calls_of_groups rest) (held_by_stmts env next (stmts_in g)) (held_by_groups env (past_names next (names_of_stmts (stmts_in g))) rest))
      ∙ (λ j. past (sym (counted ∙ (λ k. after_stmts (same k) b next (stmts_in g))) j) (calls_of_groups rest) (held_by_groups env (sym (numbered ∙ names_past next g) j) rest))))

pub groups_start : (r : Checked Labelled) → r ≡ onto_groups no_labelled r
groups_start (fine q) = refl
groups_start (faulty g gs) = refl
