-- What decoders and encoders make fits the shapes that they tell.
use Rattle.std.specs.Prelude.{◌≡◌, ℕ, true, List, [], ◌∷◌, refl}
use Rattle.std.specs.declared.option.Option.{Option}
use Rattle.std.specs.declared.option.Option.TheVariants.{None, Some}
use Rattle.std.specs.Option.{option_map}
use Rattle.std.specs.Cmp.Derive.{both_true}
use Rattle.gob_bytes.specs.Lines.{ends_in_lf}
use Rattle.gob_convert.specs.Made.{all_made}
use Rattle.gob_plan.specs.declared.plan.Format.{Format}
use Rattle.gob_plan.specs.declared.rows.Column.{Column}
use Rattle.gob_plan.specs.declared.rows.Row.{Row}
use Rattle.gob_plan.specs.Rows.{conforms}
use Rattle.gob_meaning.specs.Formats.{line_rows, record_of}
use Rattle.gob_meaning.specs.Plans.{writes_columns}
use Rattle.gob_meaning.proofs.FormatRows.{format_keeps}

-- the rows of a line conform to the columns that it is read for
pub rows_conform : (f : Format) (columns : List Column) (line : List ℕ) → writes_columns f columns ≡ true
    → all_made (conforms columns) (line_rows f columns line) ≡ true
rows_conform f columns line = (format_keeps f columns).rows line

one_ends : (o : Option (List ℕ)) → ((bytes : List ℕ) → o ≡ Some bytes → ends_in_lf bytes ≡ true)
    → all_made (λ bytes. ends_in_lf bytes) (option_map (λ bytes. bytes ∷ []) o) ≡ true
one_ends None ends = refl
one_ends (Some bytes) ends = both_true (ends bytes refl) refl

-- a record ends in a line feed
pub record_ends : (f : Format) (columns : List Column) (row : Row)
    → all_made (λ bytes. ends_in_lf bytes) (option_map (λ bytes. bytes ∷ []) (record_of f columns row)) ≡ true
record_ends f columns row =
    one_ends (record_of f columns row) (λ bytes is. (format_keeps f columns).record_ends row bytes is)
