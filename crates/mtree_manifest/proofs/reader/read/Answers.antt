use Rattle.mtree_manifest.proofs.Spelling.{decodes_all}
use Rattle.mtree_manifest.proofs.reader.read.Goals as goal

pub returns-then-text-gt-MANIFEST_MAX-clause-words : goal.returns-then-text-gt-MANIFEST_MAX-clause-words
returns-then-text-gt-MANIFEST_MAX-clause-words c = decodes_all

pub returns-in_err-read_lines-clause-words : goal.returns-in_err-read_lines-clause-words
returns-in_err-read_lines-clause-words c = decodes_all

pub returns-clause-words : goal.returns-clause-words
returns-clause-words c = decodes_all
