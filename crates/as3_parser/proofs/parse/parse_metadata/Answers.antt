use Rattle.as3_parser.proofs.Sentences.{metadata_begun, metadata_of}
use Rattle.as3_parser.proofs.parse.parse_metadata.Goals as goal

pub metadata_tags-requires : goal.metadata_tags-requires
metadata_tags-requires c = metadata_begun c.as_slice.ensures c.utf8.text c.requires c.in_ok-check_syntax.ensures.sentence

pub returns-clause-tree : goal.returns-clause-tree
returns-clause-tree c = metadata_of c.in_ok-tags.tags c.as_slice.ensures c.in_ok-check_syntax.ensures.sentence c.in_ok-tags.ensures
