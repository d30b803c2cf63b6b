-- The sections that a frame may have.
use Rattle.fb_structured_text.specs.Forms.Form.{Form}
use Rattle.fb_parse.specs.{declared.frame.Frame.{Frame}, declared.frame.Frame.TheVariants.{Block, Adapter, Subapplication, Application}}
use Rattle.fb_parse.specs.{Contents.{ContentsTree}, Grammar.{block_section, adapter_section, subapplication_section, application_section}}

abbrev pub section_of : Frame → Form ContentsTree
section_of Block = block_section
section_of Adapter = adapter_section
section_of Subapplication = subapplication_section
section_of Application = application_section
