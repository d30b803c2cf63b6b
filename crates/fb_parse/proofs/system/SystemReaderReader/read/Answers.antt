use Rattle.fb_structured_text.proofs.Forms.Loops.{gives_shorter}
use Rattle.fb_parse.specs.{Grammar.{system_section}, SystemContents.{system_contents_tree}}
use Rattle.fb_parse.proofs.Predictive.{system_section_filled}
use Rattle.fb_parse.proofs.system.SystemReaderReader.read.Goals as goal

pub returns-clause-takes : goal.returns-clause-takes
returns-clause-takes c = gives_shorter system_contents_tree system_section c.system_section.result c.args.tokens.now c.system_section.new.tokens system_section_filled c.system_section.ensures
