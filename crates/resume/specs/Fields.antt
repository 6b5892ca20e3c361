-- RULES "State record and simulator", bytes 32 to 39 as they stand in a record. Assumes nothing.
use Rattle.std.specs.Prelude.{ℕ, cond, List, eqb, length, Option, Some, None}
use Rattle.ground.specs.Sizes.{record_length}
use Rattle.ground.specs.Written.{byte}
use Rattle.phases.specs.Frame.{frame_at, code_at, count_at, address_at, position_at, data_at, value_in}
use Rattle.resume.specs.declared.fields.Fields.{Fields}

-- Each by itself, but for the two of the unfinished bits' value, which make one number.
abbrev pub fields_at : List ℕ → Fields
fields_at b =
    record {
      lines = byte b frame_at;
      code = byte b code_at;
      count = byte b count_at;
      value = value_in b;
      at = byte b address_at;
      position = byte b position_at;
      line = byte b data_at;
    }

-- A list that is not as long as a record has none.
abbrev pub fields_in : List ℕ → Option Fields
fields_in b = cond (eqb (length b) record_length) (Some (fields_at b)) None
