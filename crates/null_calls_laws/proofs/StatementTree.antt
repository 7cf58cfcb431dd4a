-- What declarations give, part by part.
use Rattle.std.proofs.Common.{◌≡◌, ℕ, Bool, true, false, if◌then◌else◌, List, [], ◌∷◌, append-nil, refl, ap, ap₂, sym, subst, ◌∙◌}
use Rattle.c_tree.specs.Tree.{CType, Program}
use Rattle.c_tree.specs.Tree as typed
use Rattle.c_rules.specs.Checked.{Checked, fine, faulty, on, both, gives, Met, fails_with}
use Rattle.c_rules.specs.Names.{Name, is_added}
use Rattle.c_rules.specs.TypedExpression.{TypedExpression, tree_of}
use Rattle.c_rules.specs.Initialisers.{stores_from}
use Rattle.c_rules.specs.Blocks.{StatementTree, bare, alone, laid_variable}
use Rattle.null_calls_laws.specs.InstrumentedPrograms as with_null_calls
use Rattle.null_calls_laws.proofs.Leads.{Leads}
use Rattle.null_calls_laws.specs.Follow.{UnusedFollows}
use Rattle.null_calls_laws.specs.Initialisers.{CellsFollow}
use Rattle.null_calls_laws.specs.DeclarationsBeside.{StatementTreeFollow}
use Rattle.null_calls_laws.specs.StatementsBeside.{StatementTreeFollows}

-- a variable, by whether it is the instrumenter's
abbrev pub laid_if : Bool → (number : ℕ) → CType → List TypedExpression → StatementTree typed.Stmt
laid_if b n t cs =
    if b
    then record { tree = typed.declare n (stores_from 0 cs); plain = []; added = t ∷ [] }
    else record { tree = typed.declare n (stores_from 0 cs); plain = t ∷ []; added = [] }

module _ (p : Program) (k : ℕ) (ts : List CType) where
  -- a demand beside the statement
  pub named_follows : (c d : Checked Met) (r s : Checked (StatementTree typed.Stmt)) → Leads c d → ((a : Met) → c ≡ fine a → StatementTreeFollows p k ts r s) → StatementTreeFollows p k ts (both c r (λ _ q. fine q)) (both d s (λ _ q. fine q))
  named_follows (fine a) d (fine q) s h l =
      (let m = l a refl in (m.0, ap₂ (λ y z. both y z (λ _ q. fine q)) h.0 m.1, m.2, m.3, m.4))
  named_follows c d r s h l = tt

  -- with one demand in place of what fails
  pub alone_follows : (t u : Bool) (code at to : ℕ) (r s : Checked (StatementTree typed.Stmt)) → StatementTreeFollows p k ts r s → StatementTreeFollows p k ts (fails_with t code at r) (fails_with u code to s)
  alone_follows t u code at to (fine q) s h = (h.0, ap (fails_with u code to) h.1, h.2, h.3, h.4)
  alone_follows true u code at to (faulty f fs) s h = tt
  alone_follows false u code at to (faulty f fs) s h = tt

  pub behind_part_follows : {A : Type 0} (r s : Checked A) (g h : A → Checked (StatementTree typed.Stmt)) → Leads r s → ((a : A) → r ≡ fine a → StatementTreeFollows p k ts (g a) (h a)) → StatementTreeFollows p k ts (on r g) (on s h)
  behind_part_follows (fine a) s g h l m = subst (λ z. StatementTreeFollows p k ts (g a) (on z h)) (sym l.0) (m a refl)
  behind_part_follows (faulty f fs) s g h l m = tt

  -- a variable with its cells
  pub variable_follows : (x : Name) (n m : ℕ) (t : CType) (r s : Checked (List TypedExpression)) → is_added x ≡ false → m ≡ n → CellsFollow p k ts r s → StatementTreeFollows p k ts (gives r (laid_variable x n t)) (gives s (laid_variable x m t))
  variable_follows x n m t (fine cs) s a e h = by_test (is_added x) a
    where
      by_test : (b : Bool) → b ≡ false → StatementTreeFollows p k ts (fine (laid_if b n t cs)) (gives s (laid_if b m t))
      by_test true a = absurd (let no : true ≡ false = a in cc)
      by_test false a = (typed.declare n (stores_from 0 h.0), ap₂ (λ i z. gives z (laid_if false i t)) e h.1, refl, h.2.types 0, ap (typed.declare n) (h.2.trees 0))
  variable_follows x n m t (faulty f fs) s a e h = tt

-- no statement
pub nothing_follows : (p : Program) (k : ℕ) → StatementTreeFollow p k [] (fine (bare typed.no_stmts)) (fine (bare typed.no_stmts))
nothing_follows p k = (typed.no_stmts, refl, refl, refl, refl)

-- an expression in the head of a for
pub expression_follows : (p : Program) (k : ℕ) (ts : List CType) (r s : Checked TypedExpression) → UnusedFollows p k ts r s
    → StatementTreeFollow p k ts (gives r (λ g. alone (bare (typed.evaluate (tree_of g))))) (gives s (λ g. alone (bare (typed.evaluate (tree_of g)))))
expression_follows p k ts (fine g) s h =
    (typed.more_stmts (typed.evaluate (tree_of h.0)) typed.no_stmts, ap (λ z. gives z (λ g. alone (bare (typed.evaluate (tree_of g))))) h.1, refl, append-nil (with_null_calls.kept p false (tree_of g)) ∙ h.2, ap (λ x. typed.more_stmts (typed.evaluate x) typed.no_stmts) h.3)
expression_follows p k ts (faulty f fs) s h = tt
