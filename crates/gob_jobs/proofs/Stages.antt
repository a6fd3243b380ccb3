-- What is known of the plan after each row that tells it.
use Rattle.std.proofs.Common.{◌≡◌, ℕ, zero, suc, ◌+◌, ◌≤◌, Bool, true, false, cond, ◌&&◌, nat_eq, nat_le, List, [], ◌∷◌}
use Rattle.std.proofs.Common.{◌++◌, length, map, filter, Option, Some, None, Ok, Err, Result, refl, sym, ap, subst, ◌∙◌}
use Rattle.std.proofs.Common.{arith, length-append}
use Rattle.std.specs.List.{list_all, range_with_len}
use Rattle.std.specs.Option.{is_none, option_and_then}
use Rattle.std.proofs.lemmas.Bool.{true≢false, and_parts, and_from, leb-true}
use Rattle.std.proofs.lemmas.List.{length-map}
use Rattle.std.proofs.lemmas.List.Folds.{list_all-append}
use Rattle.gob_plan.specs.declared.rows.Column.{Column}
use Rattle.gob_plan.specs.declared.plan.BranchSpec.{BranchSpec}
use Rattle.gob_plan.specs.declared.plan.Plan.{Plan}
use Rattle.gob_plan.specs.Columns.{is_columns}
use Rattle.gob_bytes.specs.Numbers.{number_read}
use Rattle.gob_bytes.specs.Tables.{at_name}
use Rattle.gob_meaning.specs.Steps.{first_refused, columns_through}
use Rattle.gob_meaning.specs.Plans.{reads_columns, writes_columns, place_fits, branch_fits, branch_is_short}
use Rattle.gob_jobs.specs.Words.{and_then, value_map, only_if, number_within}
use Rattle.gob_jobs.specs.KeyTable.{Draft, ValueFault, Reader, known_value, into_plan, into_branch, formats, truths}
use Rattle.gob_jobs.specs.KeyTable.{forks}
use Rattle.gob_jobs.specs.KeyTable.{row_modes, columns_read, source_columns, shared_columns, branch_columns}
use Rattle.gob_jobs.specs.KeyTable.{steps_listed, tests_listed, shared_steps, fork_tests, branch_test, branch_steps}
use Rattle.gob_jobs.specs.KeyTable.{strict_policy, row_policies, modes_listed, with_modes, row_policy_modes}
use Rattle.gob_jobs.specs.KeyTable.{format_read, branch_format, place_read, branch_place, with_format, with_header}
use Rattle.gob_jobs.specs.KeyTable.{with_fork, with_branches, plan_word, plan_number, Row, tells_plan, first_rows}
use Rattle.gob_jobs.specs.KeyTable.{branch_rows, last_rows}
use Rattle.gob_jobs.specs.Reading.{LookUp, Reading, read_value, read_row, read_rows, no_branch, with_branch}
use Rattle.gob_jobs.specs.Reading.{read_branches, nothing_read}
use Rattle.gob_jobs.proofs.Results.{then_ok, map_ok, known_ok, some_then, only_some}
use Rattle.gob_jobs.proofs.Rows.{with_draft, row_parts}
use Rattle.gob_jobs.proofs.Fitting.{tests_fit, many_tests, fork_tests_fit, columns_read_fit, steps_listed_fit}
use Rattle.gob_jobs.proofs.Fitting.{tests_listed_fit, policies_fit, strict_fit, modes_fit, format_read_fits}
use Rattle.gob_jobs.proofs.Fitting.{place_read_fits}

-- ---- what holds before and after rows

-- from P before a value is read, Q after it
abbrev pub Step : Reader → (Reading → Type 0) → (Reading → Type 0) → Type 0
Step reader P Q = (r s : Reading) (v : List ℕ) → P r → read_value reader r v ≡ Ok s → Q s

-- from P before rows are read, Q after them
pub record Leads (look : LookUp) (rows : List Row) (b : ℕ) (P Q : Reading → Type 0) : Type 0 where
  pub go : (r s : Reading) → P r → read_rows look rows b r ≡ Ok s → Q s

pub done : {look : LookUp} {b : ℕ} {P : Reading → Type 0} → Leads look [] b P P
done {P} = record { go = λ r s p is. let e : r ≡ s = cc in subst P e p }

pub row_then : {look : LookUp} {row : Row} {rows : List Row} {b : ℕ} {P R : Reading → Type 0} (Q : Reading → Type 0)
    → Step row.reader P Q → Leads look rows b Q R → Leads look (row ∷ rows) b P R
row_then {look} {row} {rows} {b} Q step later = record {
  go = λ r s p is.
      let h = then_ok (read_rows look rows b) (read_row look row b r) s is in
      let q = row_parts look row b r h.0 h.1 in
      later.go h.0 s (step r h.0 q.0 p q.2) h.2;
}

pub plan_value : {X : Type 0} (read : Plan → List ℕ → Result X ValueFault) (put : X → Plan → Plan) (r s : Reading)
    (v : List ℕ) → read_value (into_plan read put) r v ≡ Ok s
    → (x : X) × (read r.draft.plan v ≡ Ok x) × (with_draft (record r.draft { plan = put x r.draft.plan }) r ≡ s)
plan_value read put r s v is =
    let m = map_ok (λ d. with_draft d r) (value_map (λ x. record r.draft { plan = put x r.draft.plan })
    (read r.draft.plan v)) s is in
    let n = map_ok (λ x. record r.draft { plan = put x r.draft.plan }) (read r.draft.plan v) m.0 m.1 in
    (n.0, n.1, ap (λ d. with_draft d r) n.2 ∙ m.2)

pub branch_value : {X : Type 0} (read : Draft → List ℕ → Result X ValueFault) (put : X → BranchSpec → BranchSpec)
    (r s : Reading) (v : List ℕ) → read_value (into_branch read put) r v ≡ Ok s
    → (x : X) × (read r.draft v ≡ Ok x) × (with_draft (record r.draft { branch = put x r.draft.branch }) r ≡ s)
branch_value read put r s v is =
    let m = map_ok (λ d. with_draft d r) (value_map (λ x. record r.draft { branch = put x r.draft.branch })
    (read r.draft v)) s is in
    let n = map_ok (λ x. record r.draft { branch = put x r.draft.branch }) (read r.draft v) m.0 m.1 in
    (n.0, n.1, ap (λ d. with_draft d r) n.2 ∙ m.2)

-- ---- the first rows

-- no branch and no test yet
abbrev pub NoneYet : Plan → Type 0
NoneYet p = (p.fork.tests ≡ []) × (p.branches ≡ [])

-- the columns go together
abbrev pub ColumnsFit : Plan → Type 0
ColumnsFit p = (is_columns p.columns ≡ true) × (reads_columns p.format p.columns ≡ true)

-- and so do the shared steps
abbrev pub StepsFit : Plan → Type 0
StepsFit p = ColumnsFit p × (is_none (first_refused p.steps p.columns) ≡ true) × (nat_le (length p.steps) 32 ≡ true)

-- there are so many branches to be read
abbrev pub CountFits : ℕ → Plan → Type 0
CountFits n p = ((nat_le 1 n && nat_le n 8) ≡ true) × (p.fork.branches ≡ n)

Before : Reading → Type 0
Before r = NoneYet r.draft.plan

WithColumns : Reading → Type 0
WithColumns r = NoneYet r.draft.plan × ColumnsFit r.draft.plan

WithSteps : Reading → Type 0
WithSteps r = NoneYet r.draft.plan × StepsFit r.draft.plan

unfoldable pub AfterFirst : Reading → Type 0
AfterFirst r = NoneYet r.draft.plan × StepsFit r.draft.plan × CountFits r.draft.plan.fork.branches r.draft.plan

format_step : Step (plan_word formats with_format) Before Before
unfolding Before
format_step r s v p is =
    let x = plan_value (λ plan value. known_value (at_name formats value)) with_format r s v is in
    subst (λ (t : Reading). NoneYet t.draft.plan) x.2 p

columns_step : Step source_columns Before WithColumns
unfolding Before WithColumns
columns_step r s v p is =
    let x = plan_value (λ plan value. known_value (columns_read plan.format value))
    (λ columns plan. record plan { columns = columns }) r s v is in
    let fit = columns_read_fit r.draft.plan.format v x.0 (known_ok (columns_read r.draft.plan.format v) x.0 x.1) in
    subst (λ (t : Reading). NoneYet t.draft.plan × ColumnsFit t.draft.plan) x.2 (p, fit)

header_step : Step (plan_word truths with_header) WithColumns WithColumns
unfolding WithColumns
header_step r s v p is =
    let x = plan_value (λ plan value. known_value (at_name truths value)) with_header r s v is in
    subst (λ (t : Reading). NoneYet t.draft.plan × ColumnsFit t.draft.plan) x.2 p

steps_step : Step shared_steps WithColumns WithSteps
unfolding WithColumns WithSteps
steps_step r s v p is =
    let x = plan_value (λ plan value. steps_listed plan.columns value) (λ steps plan. record plan { steps = steps }) r s
    v is in
    let fit = steps_listed_fit r.draft.plan.columns v x.0 x.1 in
    subst (λ (t : Reading). NoneYet t.draft.plan × StepsFit t.draft.plan) x.2 (p.0, (p.1, fit.0, fit.1))

fork_step : Step (plan_word forks with_fork) WithSteps WithSteps
unfolding WithSteps
fork_step r s v p is =
    let x = plan_value (λ plan value. known_value (at_name forks value)) with_fork r s v is in
    subst (λ (t : Reading). NoneYet t.draft.plan × StepsFit t.draft.plan) x.2 p

pub within : (low high n : ℕ) (text : List ℕ) → number_within low high text ≡ Some n
    → (nat_le low n && nat_le n high) ≡ true
unfolding number_within
within low high n text is =
    let passes : ℕ → Bool = λ m. nat_le low m && nat_le m high in
    let p = some_then (only_if passes) (number_read text) n is in
    let q = only_some passes p.0 n p.2 in ap passes (sym q.1) ∙ q.0

branches_step : Step (plan_number 1 8 with_branches) WithSteps AfterFirst
unfolding WithSteps AfterFirst
branches_step r s v p is =
    let x = plan_value (λ plan value. known_value (number_within 1 8 value)) with_branches r s v is in
    let fit = within 1 8 x.0 v (known_ok (number_within 1 8 v) x.0 x.1) in
    subst (λ (t : Reading). NoneYet t.draft.plan × StepsFit t.draft.plan
    × CountFits t.draft.plan.fork.branches t.draft.plan) x.2 (p.0, p.1, (fit, refl))

firsts_lead : (look : LookUp) → Leads look (filter tells_plan first_rows) 0 Before AfterFirst
unfolding first_rows
firsts_lead look =
    row_then Before format_step (row_then WithColumns columns_step (row_then WithColumns header_step
    (row_then WithSteps steps_step (row_then WithSteps fork_step (row_then AfterFirst branches_step done)))))

pub first_known : (look : LookUp) (s : Reading) → read_rows look (filter tells_plan first_rows) 0 nothing_read ≡ Ok s
    → AfterFirst s
unfolding Before
first_known look s is = (firsts_lead look).go nothing_read s (refl, refl) is

-- ---- the rows of a branch

-- what stays while branches are read
abbrev pub Stays : ℕ → Plan → Type 0
Stays n p = StepsFit p × CountFits n p

-- the tests of so many branches were read
abbrev pub TestsRead : ℕ → Plan → Type 0
TestsRead k p = (tests_fit (shared_columns p) p.fork.tests ≡ true) × (length p.fork.tests ≡ many_tests p.fork.how k)

-- and so were the branches
abbrev pub BranchesRead : ℕ → Plan → Type 0
BranchesRead k p = (list_all (branch_fits (shared_columns p)) p.branches ≡ true)
    × (list_all branch_is_short p.branches ≡ true) × (length p.branches ≡ k)

-- the branch's steps fit
abbrev pub OwnSteps : Draft → Type 0
OwnSteps d = (is_none (first_refused d.branch.steps (shared_columns d.plan)) ≡ true)
    × (nat_le (length d.branch.steps) 32 ≡ true)

-- and its policies
abbrev pub OwnPolicies : Draft → Type 0
OwnPolicies d = (policies_fit (branch_columns d) d.branch.policies ≡ true)
    × (nat_le (length d.branch.policies) 16 ≡ true)

-- and its format
abbrev pub OwnFormat : Draft → Type 0
OwnFormat d = writes_columns d.branch.format (branch_columns d) ≡ true

-- and its place
abbrev pub OwnPlace : Draft → Type 0
OwnPlace d = place_fits d.branch.place (branch_columns d) ≡ true

unfoldable pub BetweenBranches : ℕ → ℕ → Reading → Type 0
BetweenBranches n k r = Stays n r.draft.plan × TestsRead k r.draft.plan × BranchesRead k r.draft.plan

WithTest : ℕ → ℕ → Reading → Type 0
WithTest n k r = Stays n r.draft.plan × TestsRead (suc k) r.draft.plan × BranchesRead k r.draft.plan

WithOwnSteps : ℕ → ℕ → Reading → Type 0
WithOwnSteps n k r = Stays n r.draft.plan × TestsRead (suc k) r.draft.plan × BranchesRead k r.draft.plan
    × OwnSteps r.draft

WithPolicies : ℕ → ℕ → Reading → Type 0
WithPolicies n k r = Stays n r.draft.plan × TestsRead (suc k) r.draft.plan × BranchesRead k r.draft.plan
    × OwnSteps r.draft × OwnPolicies r.draft

WithOwnFormat : ℕ → ℕ → Reading → Type 0
WithOwnFormat n k r = Stays n r.draft.plan × TestsRead (suc k) r.draft.plan × BranchesRead k r.draft.plan
    × OwnSteps r.draft × OwnPolicies r.draft × OwnFormat r.draft

WithPlace : ℕ → ℕ → Reading → Type 0
WithPlace n k r = Stays n r.draft.plan × TestsRead (suc k) r.draft.plan × BranchesRead k r.draft.plan × OwnSteps r.draft
    × OwnPolicies r.draft × OwnFormat r.draft × OwnPlace r.draft

test_step : (n k : ℕ) → Step branch_test (BetweenBranches n k) (WithTest n k)
unfolding BetweenBranches WithTest
test_step n k r s v p is =
    let x = plan_value (λ plan value. fork_tests plan.fork.how plan.fork.tests (shared_columns plan) value)
    (λ tests plan. record plan { fork = record plan.fork { tests = tests } }) r s v is in
    let fit = fork_tests_fit r.draft.plan.fork.how (shared_columns r.draft.plan) r.draft.plan.fork.tests x.0 k v p.1.0
    p.1.1 x.1 in
    subst (λ (t : Reading). Stays n t.draft.plan × TestsRead (suc k) t.draft.plan × BranchesRead k t.draft.plan) x.2
    (p.0, fit, p.2)

own_steps_step : (n k : ℕ) → Step branch_steps (WithTest n k) (WithOwnSteps n k)
unfolding WithTest WithOwnSteps
own_steps_step n k r s v p is =
    let x = branch_value (λ d value. steps_listed (shared_columns d.plan) value)
    (λ steps branch. record branch { steps = steps }) r s v is in
    let fit = steps_listed_fit (shared_columns r.draft.plan) v x.0 x.1 in
    subst (λ (t : Reading). Stays n t.draft.plan × TestsRead (suc k) t.draft.plan × BranchesRead k t.draft.plan
    × OwnSteps t.draft) x.2 (p.0, p.1, p.2, fit)

policies_step : (n k : ℕ) → Step row_policies (WithOwnSteps n k) (WithPolicies n k)
unfolding WithOwnSteps WithPolicies
policies_step n k r s v p is =
    let x = branch_value (λ d value. tests_listed (branch_columns d) value)
    (λ tests branch. record branch { policies = map strict_policy tests }) r s v is in
    let fit = tests_listed_fit (branch_columns r.draft) v x.0 x.1 in
    let own : OwnPolicies (record r.draft { branch = record r.draft.branch { policies = map strict_policy x.0 } }) =
    (strict_fit (branch_columns r.draft) x.0 ∙ fit.0, ap (λ m. nat_le m 16) (length-map x.0 strict_policy) ∙ fit.1) in
    subst (λ (t : Reading). Stays n t.draft.plan × TestsRead (suc k) t.draft.plan × BranchesRead k t.draft.plan
    × OwnSteps t.draft × OwnPolicies t.draft) x.2 (p.0, p.1, p.2, p.3, own)

modes_step : (n k : ℕ) → Step row_policy_modes (WithPolicies n k) (WithPolicies n k)
unfolding WithPolicies
modes_step n k r s v p is =
    let x = branch_value (λ d value. modes_listed row_modes d.branch.policies value)
    (λ modes branch. record branch { policies = with_modes modes branch.policies }) r s v is in
    let same = modes_fit (branch_columns r.draft) row_modes r.draft.branch.policies v x.0 x.1 in
    let own : OwnPolicies (record r.draft {
      branch = record r.draft.branch
          { policies = with_modes x.0 r.draft.branch.policies };
    }) =
    (same.0 ∙ p.4.0, ap (λ m. nat_le m 16) same.1 ∙ p.4.1) in
    subst (λ (t : Reading). Stays n t.draft.plan × TestsRead (suc k) t.draft.plan × BranchesRead k t.draft.plan
    × OwnSteps t.draft × OwnPolicies t.draft) x.2 (p.0, p.1, p.2, p.3, own)

own_format_step : (n k : ℕ) → Step branch_format (WithPolicies n k) (WithOwnFormat n k)
unfolding WithPolicies WithOwnFormat
own_format_step n k r s v p is =
    let x = branch_value (λ d value. format_read (branch_columns d) value) (λ f branch. record branch { format = f }) r
    s v is in
    let fit = format_read_fits (branch_columns r.draft) v x.0 x.1 in
    subst (λ (t : Reading). Stays n t.draft.plan × TestsRead (suc k) t.draft.plan × BranchesRead k t.draft.plan
    × OwnSteps t.draft × OwnPolicies t.draft × OwnFormat t.draft) x.2 (p.0, p.1, p.2, p.3, p.4, fit)

place_step : (n k : ℕ) → Step branch_place (WithOwnFormat n k) (WithPlace n k)
unfolding WithOwnFormat WithPlace
place_step n k r s v p is =
    let x = branch_value (λ d value. place_read (branch_columns d) value) (λ q branch. record branch { place = q }) r s
    v is in
    let fit = place_read_fits (branch_columns r.draft) v x.0 x.1 in
    subst (λ (t : Reading). Stays n t.draft.plan × TestsRead (suc k) t.draft.plan × BranchesRead k t.draft.plan
    × OwnSteps t.draft × OwnPolicies t.draft × OwnFormat t.draft × OwnPlace t.draft) x.2
    (p.0, p.1, p.2, p.3, p.4, p.5, fit)

branch_leads : (look : LookUp) (b n k : ℕ) → Leads look (filter tells_plan branch_rows) b (BetweenBranches n k)
    (WithPlace n k)
unfolding branch_rows
branch_leads look b n k =
    row_then (WithTest n k) (test_step n k) (row_then (WithOwnSteps n k) (own_steps_step n k)
    (row_then (WithPolicies n k) (policies_step n k)
    (row_then (WithPolicies n k) (modes_step n k) (row_then (WithOwnFormat n k) (own_format_step n k)
    (row_then (WithPlace n k) (place_step n k) done)))))

-- the branch that was read joins the others
joined : (n k : ℕ) (r : Reading) → WithPlace n k r → BetweenBranches n (suc k) (with_branch r)
unfolding WithPlace BetweenBranches
joined n k r p =
    let shared = shared_columns r.draft.plan in
    let fits : branch_fits shared r.draft.branch ≡ true =
    and_from _ _ (and_from _ _ (and_from _ _ p.3.0 p.4.0) p.5) p.6 in
    let short : branch_is_short r.draft.branch ≡ true = and_from _ _ p.3.1 p.4.1 in (
      p.0,
      p.1,
      (
        list_all-append (branch_fits shared) r.draft.plan.branches (r.draft.branch ∷ [])
            ∙ and_from _ _ p.2.0 (and_from _ _ fits refl),
        list_all-append branch_is_short r.draft.plan.branches (r.draft.branch ∷ [])
            ∙ and_from _ _ p.2.1 (and_from _ _ short refl),
        pushed r.draft.plan.branches r.draft.branch ∙ ap suc p.2.2,
      ),
    )
  where
    pushed : (xs : List BranchSpec) (x : BranchSpec) → length (xs ++ x ∷ []) ≡ suc (length xs)
    pushed [] x = refl
    pushed (y ∷ ys) x = ap suc (pushed ys x)

pub branches_known : (look : LookUp) (n k : ℕ) (bs : List ℕ) (r s : Reading) → BetweenBranches n k r
    → read_branches look (filter tells_plan branch_rows) bs r ≡ Ok s → BetweenBranches n (k + length bs) s
branches_known look n k [] r s p is =
    let e : r ≡ s = cc in
    let m : k ≡ k + 0 = omega arith in
    subst (λ j. BetweenBranches n j s) m (subst (BetweenBranches n k) e p)
branches_known look n k (b ∷ bs) r s p is =
    let h = then_ok (λ x. read_branches look (filter tells_plan branch_rows) bs (with_branch x))
    (read_rows look (filter tells_plan branch_rows) b r) s is in
    let one = (branch_leads look b n k).go r h.0 p h.1 in
    let later = branches_known look n (suc k) bs (with_branch h.0) s (joined n k h.0 one) h.2 in
    let m : suc k + length bs ≡ k + suc (length bs) = omega arith in
    subst (λ j. BetweenBranches n j s) m later
