-- Bytes as JSON: a string where they are UTF-8, else an object with their base64.
use Rattle.std.specs.Prelude.{ℕ, List, cond, codes}
use Rattle.std.specs.Str.{is_utf8}
use Rattle.base64.specs.Engines.{standard}
use Rattle.base64.specs.GeneralPurpose.{encode_of}
use Rattle.serde_json.specs.Data.{Data, string, object, no_members, member}

-- the base64 of bytes (RFC 4648, section 4)
abbrev pub base64_data : List ℕ → Data
base64_data bytes = object (member (codes "base64") (string (encode_of standard bytes)) no_members)

abbrev pub bytes_data : List ℕ → Data
bytes_data bytes = cond (is_utf8 bytes) (string bytes) (base64_data bytes)
