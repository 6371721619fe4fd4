-- What a reader answers where the reader of a part has failed.
use Rattle.std.proofs.Common.{◌≡◌, Option, None, Err}
use Rattle.ssz_schema_json.specs.Views.{GivesView}
use Rattle.ssz_schema_json.specs.declared.fault.SchemaRead.{SchemaRead}
use Rattle.ssz_schema_json.specs.declared.fault.SchemaRead.TheVariants.{NotJson, Shape, Def, Memory}

-- an error of a part is that of the whole, which is unwritten where the part is
pub passed_on : {A B C D : Type 0} (seen : A → B) (part : Option B) (seen_whole : C → D)
    (whole : Option D) (e : SchemaRead)
    → GivesView seen (Err e) part → (part ≡ None → whole ≡ None)
    → GivesView seen_whole (Err e) whole
passed_on seen part seen_whole whole NotJson h none = h
passed_on seen part seen_whole whole Shape h none = none h
passed_on seen part seen_whole whole (Def number fault) h none = h
passed_on seen part seen_whole whole Memory h none = tt
