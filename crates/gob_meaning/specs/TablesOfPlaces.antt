-- Places, computed.
use Rattle.std.specs.Prelude.{◌≡◌, ℕ, List, [], ◌∷◌, map, codes, pos, negsuc, true}
use Rattle.gob_plan.specs.declared.rows.Value.{Value}
use Rattle.gob_plan.specs.declared.rows.Value.TheVariants as value
use Rattle.gob_meaning.specs.Days.{day_folder}

-- values, each with the folder that it is placed in by day
abbrev day_table : List (Value × List ℕ)
day_table =
    (value.Int (pos 0), codes "1970/01/01/")
    ∷ (value.Int (pos 86399), codes "1970/01/01/")
    ∷ (value.Int (pos 86400), codes "1970/01/02/")
    ∷ (value.Int (pos 5097599), codes "1970/02/28/")
    ∷ (value.Int (pos 5097600), codes "1970/03/01/")
    ∷ (value.Int (pos 951782400), codes "2000/02/29/")
    ∷ (value.Int (pos 978307199), codes "2000/12/31/")
    ∷ (value.Int (pos 978307200), codes "2001/01/01/")
    ∷ (value.Int (pos 4107542400), codes "2100/03/01/")
    ∷ (value.Int (pos 253402300799), codes "9999/12/31/")
    ∷ (value.Int (pos 253402300800), codes "none/")
    ∷ (value.Int (negsuc 0), codes "none/")
    ∷ (value.Null, codes "none/")
    ∷ (value.Bool true, codes "none/")
    ∷ (value.Text (codes "0"), codes "none/")
    ∷ []

-- each value is placed so
abbrev pub DayTable : Type 0
DayTable = map (λ r. day_folder r.0) day_table ≡ map (λ r. r.1) day_table
