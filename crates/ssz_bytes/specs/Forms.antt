-- What a run of bytes holds, in itself or in memory of its own.
use Rattle.std.specs.Prelude.{ℕ, List}
use Rattle.ssz_bytes.specs.declared.runs.Form.{Form}
use Rattle.ssz_bytes.specs.declared.runs.Form.TheVariants.{Inside, Outside}

abbrev pub bytes_of : Form → List ℕ
bytes_of (Inside bytes) = bytes
bytes_of (Outside bytes) = bytes.items
