use Rattle.std.proofs.Common.{refl, rules}
use Rattle.fb_grammar.specs.{Gives.{Gives}, Reading.{read}}
use Rattle.fb_grammar.proofs.Loops.{gives_shorter}
use Rattle.fb_structured_text.specs.{Expression.{flat_part, further_part}, Part.{part_tree}}
use Rattle.fb_structured_text.proofs.references.FlatReaderReader.read.Goals as goal

pub returns-clause-takes : goal.returns-clause-takes
returns-clause-takes c =
    let gives : Gives part_tree c.flat_part.result c.flat_part.new.tokens (read (further_part flat_part) c.args.tokens.now) = search rules in
    gives_shorter part_tree (further_part flat_part) c.flat_part.result c.args.tokens.now c.flat_part.new.tokens refl gives
