use Rattle.null_calls_laws.proofs.PieceLemmas.{null_calls_are_events, keeping_sets, kept_is_given, kept_are_given, declarations_declare, types_stay, shapes_stay}
use Rattle.null_calls_laws.proofs.pieces.added_pieces_do.Goals as goal

pub returns : goal.returns
returns c = record {
  null_calls = null_calls_are_events;
  keeping = keeping_sets;
  kept = kept_is_given;
  arguments = kept_are_given;
  declarations = declarations_declare;
  types = types_stay;
  shapes = shapes_stay;
}
