use Rattle.fb_structured_text.proofs.Forms.Loops.{gives_shorter}
use Rattle.fb_parse.specs.{declared.frame.Frame.TheVariants.{Block, Adapter, Subapplication, Application}, Contents.{contents_tree}}
use Rattle.fb_parse.specs.Grammar.{adapter_section, application_section, block_section, subapplication_section}
use Rattle.fb_parse.proofs.Predictive.{section_filled}
use Rattle.fb_parse.proofs.frame.SectionReaderReader.read.Goals as goal

pub returns-in-Block-clause-takes : goal.returns-in-Block-clause-takes
returns-in-Block-clause-takes c = gives_shorter contents_tree block_section c.block_section.result c.args.tokens.now c.block_section.new.tokens (section_filled Block) c.block_section.ensures

pub returns-in-Adapter-clause-takes : goal.returns-in-Adapter-clause-takes
returns-in-Adapter-clause-takes c = gives_shorter contents_tree adapter_section c.adapter_section.result c.args.tokens.now c.adapter_section.new.tokens (section_filled Adapter) c.adapter_section.ensures

pub returns-in-Subapplication-clause-takes : goal.returns-in-Subapplication-clause-takes
returns-in-Subapplication-clause-takes c = gives_shorter contents_tree subapplication_section c.subapplication_section.result c.args.tokens.now c.subapplication_section.new.tokens (section_filled Subapplication) c.subapplication_section.ensures

pub returns-in-Application-clause-takes : goal.returns-in-Application-clause-takes
returns-in-Application-clause-takes c = gives_shorter contents_tree application_section c.application_section.result c.args.tokens.now c.application_section.new.tokens (section_filled Application) c.application_section.ensures
