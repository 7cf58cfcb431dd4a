use Rattle.std.proofs.Common.{refl, ap}
use Rattle.c_syntax.specs.Tree.{decl}
use Rattle.c_syntax.specs.View.{spec_of}
use Rattle.c_syntax.specs.UnitView.{parts_of, storage_of}
use Rattle.null_calls_expressions.proofs.Turns.{alike, node}
use Rattle.null_calls.proofs.declarations.declaration.Goals as goal

pub returns : goal.returns
returns c =
    let d = c.args.d.now in
    node (alike (ap parts_of c.deref.ensures.value) c.in_ok-parts.ensures) (decl d.at (storage_of d.storage) (spec_of d.spec)) refl (ap (λ s. decl d.at (storage_of d.storage) s (parts_of c.in_ok-parts.parts.items)) c.in_ok-spec.ensures) refl refl refl
