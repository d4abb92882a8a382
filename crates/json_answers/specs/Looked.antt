-- The answer of a lookup as a JSON value.
use Rattle.std.specs.Prelude.{ℕ, List, codes, Option}
use Rattle.lib_types.specs.Abi.{row_of}
use Rattle.lib_types.specs.declared.abi.Abi.{Abi}
use Rattle.serde_json.specs.Data.{Data, object, member, no_members}
use Rattle.json_texts.specs.Texts.{bytes_data, optional_data}

-- the name and ABI that are looked up, and the path that is found or null
abbrev pub lookup_data : List ℕ → Abi → Option (List ℕ) → Data
lookup_data name abi path = object
    (member (codes "abi") (bytes_data (row_of abi).word)
    (member (codes "name") (bytes_data name)
    (member (codes "path") (optional_data path) no_members)))
