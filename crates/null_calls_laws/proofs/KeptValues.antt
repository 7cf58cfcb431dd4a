-- The temporaries of the arguments of a marked call are passed to it.
use Rattle.std.proofs.Common.{suc, false, ◌&&◌, ◌∷◌, refl, ap, ap₂}
use Rattle.c_tree.specs.Tree.{no_types, more_types}
use Rattle.c_tree.specs.Tree as typed
use Rattle.c_syntax.specs.Tree.{a_name, no_exprs, more_exprs}
use Rattle.c_rules.specs.Checked.{fine, both}
use Rattle.c_rules.specs.Counts.{after}
use Rattle.c_rules.specs.TypedExpression.{tree_of}
use Rattle.null_calls_laws.specs.Temporaries.{argument_name}
use Rattle.null_calls_laws.specs.WithoutSites.{unsited}
use Rattle.null_calls_laws.specs.KeptValues.{KeptValuesAreGiven}
use Rattle.null_calls_laws.proofs.AddedParts.{temporaries_are_read}
use Rattle.null_calls_laws.proofs.OwnTypes.{values_fit}

pub kept_values_are_given : KeptValuesAreGiven
kept_values_are_given env w no_exprs no_types c at site i j m s f = record { given = refl; many = refl; fitting = refl; kept = refl }
kept_values_are_given env w (more_exprs e es) (more_types t ps) c at site i j m s f =
    let one = temporaries_are_read env w c at (argument_name site i) j t s.0 f.0 in
    let rest = kept_values_are_given env w es ps (after c (a_name at (argument_name site i))) at site (suc i) (suc j) m s.1 f.1 in
    let x : typed.Expr = typed.load t (typed.variable t false j) in
    let own = values_fit t x s.0 in
    record {
      given = ap₂ (λ v ws. both v ws (λ g gs. fine (g ∷ gs))) one rest.given;
      many = ap suc rest.many;
      fitting = ap₂ (λ a b. a && b) own.fitting rest.fitting;
      kept = ap₂ (λ g es. typed.more_exprs (unsited (tree_of g)) es) own.same rest.kept;
    }
kept_values_are_given env w es ps c at site i j m s f = absurd m
