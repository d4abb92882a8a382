-- The values of the specification that the code's values represent.
use Rattle.std.specs.Prelude.{ℕ, Bool, true, false, List, Option}
use Rattle.std.specs.Option.{option_copied}
use Rattle.image_tree.specs.Node.{is_key}
use Rattle.manifest_words.specs.Escape.{decoded}
use Rattle.manifest_words.specs.Keys.{Values, Given, is_link_text, text_fault, fault_unless}
use Rattle.manifest_words.specs.declared.fault.LineKind.{LineKind}
use Rattle.manifest_words.specs.declared.fault.LineKind.TheVariants.{BadLine}
use Rattle.manifest_words.specs.declared.keys.Keys as the_keys
use Rattle.manifest_words.specs.declared.keys.Given as the_given

abbrev pub values_in : the_keys.Keys → Values
values_in k = record {
  kind = k.kind;
  link = k.link.now;
  dev = k.dev;
  inode = k.inode;
  ctime = k.ctime;
  size = k.size;
  contents = option_copied k.contents;
}

abbrev pub given_in : the_given.Given → Given
given_in g = record { values = values_in g.keys; fault = g.fault }

-- the test of a value of `contents` or `link`
abbrev pub may_be : Bool → List ℕ → Bool
may_be true text = is_key text
may_be false text = is_link_text text

abbrev pub fault_of_text : Bool → List ℕ → Option LineKind
fault_of_text is_contents text = fault_unless (may_be is_contents text) BadLine

abbrev pub written_fault : Bool → List ℕ → Option LineKind
written_fault is_contents value = text_fault (may_be is_contents) (decoded value)
