-- Rows in a branch: their folders, their ends and their items.
use Rattle.std.proofs.Common.{◌≡◌, ℕ, true, false, ◌&&◌, nat_le, List, [], length, get_or, Option}
use Rattle.std.proofs.Common.{None, Some, refl, sym, ap, ap₂, ◌∙◌, subst}
use Rattle.std.proofs.lemmas.Bool.{and_parts}
use Rattle.std.specs.Option.{is_none}
use Rattle.gob_convert.specs.Made.{Made, concatenation, then_each}
use Rattle.gob_convert.proofs.MadeLemmas.{joined-nothing, made_each-one}
use Rattle.gob_plan.specs.declared.rows.Column.{Column}
use Rattle.gob_plan.specs.declared.rows.Row.{Row}
use Rattle.gob_plan.specs.declared.rows.Value.TheVariants as value
use Rattle.gob_plan.specs.declared.plan.PlaceSpec.TheVariants as place
use Rattle.gob_plan.specs.declared.plan.BranchSpec.{BranchSpec}
use Rattle.gob_plan.specs.Columns.{position_of}
use Rattle.gob_plan.specs.Rows.{conforms, kind_of}
use Rattle.gob_rowcheck.specs.Places.{columns_judged, stand_at}
use Rattle.gob_rowcheck.proofs.Places.{told_place, told_none, value_at}
use Rattle.gob_meaning.specs.Days.{day_folder}
use Rattle.gob_meaning.specs.Fork.{place_of}
use Rattle.std.specs.List.{list_all}
use Rattle.gob_plan.specs.declared.plan.PolicySpec.{PolicySpec}
use Rattle.gob_plan.specs.Tests.{test_fits}
use Rattle.gob_meaning.specs.Plans.{int_refusal, branch_fits, branch_is_short, max_policies, max_steps, writes_columns}
use Rattle.gob_meaning.specs.Policies.{pass, to_error, kill}
use Rattle.gob_meaning.specs.Steps.{chain_rows, columns_through, first_refused}
use Rattle.gob_meaning.specs.Items.{row_made_of, made_in_branch}
use Rattle.gob_timeplace.specs.declared.day.Day.{Day}
use Rattle.gob_branch.specs.declared.items.ItemEnd.TheVariants as item_end
use Rattle.gob_branch.specs.Branches.{ChainValue, after_chain, made_of_row, place_by, Places, EndsSo, EndsBad}

-- ---- folders

pub plain_places : (columns : List Column) → Places place.Plain columns None
unfolding place_of
plain_places columns row fit = refl

-- by the place that a look-up found
pub day_places : (lent name : List ℕ) (columns : List Column) (i : ℕ) (day : Day) → lent ≡ name
    → Some i ≡ position_of lent columns
    → ((row : Row) → place_by (Some day) row ≡ day_folder (get_or row.values i value.Null))
    → Places (place.Day name) columns (Some day)
unfolding place_of conforms
day_places lent name columns i day same found made row fit =
    let stands = told_place lent name columns i same found in
    ap day_folder (sym ((value_at name columns row.values i fit stands).value value.Null)) ∙ sym (made row)

-- a column of days is there
pub day_is_there : (lent name : List ℕ) (columns : List Column) → lent ≡ name → None ≡ position_of lent columns
    → is_none (int_refusal name (kind_of name columns)) ≡ true → ⊥
day_is_there lent name columns same none fits =
    let missing : false ≡ true = sym (ap (λ o. is_none (int_refusal name o)) (told_none lent name columns same none))
    ∙ fits in cc

-- ---- ends

-- a record in a buffer that was empty
pub one_record : (old new : List ℕ) (m : Option (List ℕ)) → old ≡ [] → concatenation (Some old) m ≡ Some new
    → m ≡ Some new
one_record old new m none made = sym (joined-nothing m) ∙ ap (λ o. concatenation (Some o) m) (sym none) ∙ made

pub ends_killed : (k : ℕ) (m : Option (List ℕ)) (bytes : List ℕ) → EndsSo (kill k) m (item_end.Killed k) bytes
ends_killed k m bytes b place n = refl

pub ends_error : (k : ℕ) (m : Option (List ℕ)) (bytes : List ℕ) → m ≡ Some bytes
    → EndsSo (to_error k) m item_end.Error bytes
ends_error k m bytes made b place n = ap (row_made_of b place (to_error k, n)) made

pub ends_written : (m : Option (List ℕ)) (bytes : List ℕ) → m ≡ Some bytes → EndsSo pass m item_end.Written bytes
ends_written m bytes made b place n = ap (row_made_of b place (pass, n)) made

pub bad_error : (k : ℕ) (m : Option (List ℕ)) → m ≡ None → EndsBad (to_error k) m
bad_error k m bad b place n = ap (row_made_of b place (to_error k, n)) bad

pub bad_written : (m : Option (List ℕ)) → m ≡ None → EndsBad pass m
bad_written m bad b place n = ap (row_made_of b place (pass, n)) bad

-- ---- steps

-- a branch without steps
pub no_steps : (spec : BranchSpec) (b : ℕ) (columns : List Column) (row : Row) → spec.steps ≡ []
    → made_in_branch spec b columns row ≡ made_of_row (record { number = b; spec = spec; columns = columns }) row
unfolding made_in_branch
no_steps spec b columns row none =
    let f = made_of_row (record { number = b; spec = spec; columns = columns }) in
    ap (λ steps. then_each f (chain_rows steps columns row)) none ∙ made_each-one f row

pub through_steps : (spec : BranchSpec) (b : ℕ) (columns : List Column) (row : Row) (m : Made Row)
    → chain_rows spec.steps columns row ≡ m
    → made_in_branch spec b columns row
    ≡ then_each (made_of_row (record { number = b; spec = spec; columns = columns })) m
unfolding made_in_branch
through_steps spec b columns row m rows =
    ap (then_each (made_of_row (record { number = b; spec = spec; columns = columns }))) rows

-- ---- a branch that is set up

-- its policies are of the columns behind its steps
pub policies_fit : (spec f : BranchSpec) (columns after : List Column) (chain : ChainValue) (policies : List PolicySpec)
    → f ≡ spec → chain ≡ record { steps = f.steps; before = columns } → after ≡ after_chain chain
    → policies ≡ f.policies → branch_fits columns spec ≡ true
    → list_all (λ p. test_fits p.test after) policies ≡ true
policies_fit spec f columns after chain policies same chain_is after_is are fits =
    let fits_here : branch_fits columns f ≡ true = ap (branch_fits columns) same ∙ fits in
    let behind = columns_through f.steps columns in
    let three = and_parts (is_none (first_refused f.steps columns)
    && list_all (λ (p : PolicySpec). test_fits p.test behind) f.policies && writes_columns f.format behind) _ fits_here
    in
    let two = and_parts (is_none (first_refused f.steps columns)
    && list_all (λ (p : PolicySpec). test_fits p.test behind) f.policies) _ three.0 in
    ap₂ (λ cs ps. list_all (λ (p : PolicySpec). test_fits p.test cs) ps) (after_is ∙ ap after_chain chain_is) are
    ∙ (and_parts (is_none (first_refused f.steps columns)) _ two.0).1

pub branch_is : (spec f : BranchSpec) (columns after : List Column) (chain : ChainValue) (day : Option Day)
    (written_columns judged : List Column) (policies : List PolicySpec) (stand_where : List ℕ) → f ≡ spec
    → chain ≡ record { steps = f.steps; before = columns }
    → after ≡ after_chain chain → branch_fits columns spec ≡ true → branch_is_short spec ≡ true
    → Places f.place after day → written_columns ≡ after_chain chain
    → judged ≡ after_chain chain → policies ≡ f.policies
    → stand_at (columns_judged policies) judged stand_where ≡ true
    → (list_all (λ p. test_fits p.test (after_chain chain)) f.policies ≡ true)
    × (nat_le (length f.policies) max_policies ≡ true)
    × Places f.place (after_chain chain) day × (written_columns ≡ after_chain chain)
    × (stand_at (columns_judged f.policies) (after_chain chain) stand_where ≡ true)
branch_is spec f columns after chain day written_columns judged policies stand_where same chain_is after_is fits short
    places writes judged_is are stand =
    let short_here : branch_is_short f ≡ true = ap branch_is_short same ∙ short in (
      policies_fit spec f columns (after_chain chain) chain f.policies same chain_is refl refl fits,
      (and_parts (nat_le (length f.steps) max_steps) _ short_here).1,
      subst (λ cs. Places f.place cs day) after_is places,
      writes,
      ap₂ (λ cs ps. stand_at (columns_judged ps) cs stand_where) (sym judged_is) (sym are) ∙ stand,
    )
