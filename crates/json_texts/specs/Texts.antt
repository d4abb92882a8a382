-- Texts as JSON values (RFC 8259). A JSON string is UTF-8. Other bytes are an object with their base64 (RFC 4648).
use Rattle.std.specs.Prelude.{ℕ, List, codes, Option, Some, None, if◌then◌else◌}
use Rattle.std.specs.Str.{is_utf8}
use Rattle.base64.specs.Engines.{standard}
use Rattle.base64.specs.GeneralPurpose.{encode_of}
use Rattle.serde_json.specs.Data.{Data, null, string, object, member, no_members}

abbrev pub base64_data : List ℕ → Data
base64_data bytes = object (member (codes "base64") (string (encode_of standard bytes)) no_members)

-- a string if the bytes are UTF-8, else an object with their base64
abbrev pub bytes_data : List ℕ → Data
bytes_data bytes = if is_utf8 bytes then string bytes else base64_data bytes

-- the same, or null
abbrev pub optional_data : Option (List ℕ) → Data
optional_data None = null
optional_data (Some bytes) = bytes_data bytes
