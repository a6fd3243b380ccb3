-- The numbers of a job lie in the ranges of their keys, and its task policies fit.
use Rattle.std.proofs.Common.{◌≡◌, ◌⊎◌, inl, inr, ⊎_elim, ℕ, zero, suc, ◌+◌, ◌<◌, ◌≤◌, Bool, true, false, cond, ◌&&◌}
use Rattle.std.proofs.Common.{nat_eq, nat_le, nat_lt, List, [], ◌∷◌, ◌++◌, length, map, filter, All, Option, Some, None}
use Rattle.std.proofs.Common.{Ok, Err, Result, refl, sym, ap, subst, ◌∙◌, arith}
use Rattle.std.specs.Prelude.{zip}
use Rattle.std.specs.List.{AllByRecursion, list_all, range_with_len}
use Rattle.std.specs.Option.{option_map, option_and_then, option_or}
use Rattle.std.proofs.lemmas.Bool.{true≢false, cond_both, and_parts, and_from, leb-true}
use Rattle.std.specs.Str.{bytes_eq}
use Rattle.std.proofs.lemmas.List.{length-map}
use Rattle.std.proofs.lemmas.List.Elements.{All-from_recursion}
use Rattle.gob_bytes.specs.Numbers.{number_read}
use Rattle.gob_bytes.specs.Tables.{Table, at_name}
use Rattle.gob_plan.specs.declared.plan.Counter.{Counter}
use Rattle.gob_plan.specs.declared.plan.Counter.TheVariants as counter
use Rattle.gob_plan.specs.declared.plan.Plan.{Plan}
use Rattle.gob_plan.specs.declared.plan.TaskPolicy.{TaskPolicy}
use Rattle.gob_plan.specs.declared.plan.TaskRule.{TaskRule}
use Rattle.gob_plan.specs.declared.plan.TaskRule.TheVariants as rule
use Rattle.gob_meaning.specs.Plans.{counter_fits, rule_fits}
use Rattle.gob_jobs.specs.Words.{and_then, value_map, both, only_if, each_read, pieces, elements, few_elements}
use Rattle.gob_jobs.specs.Words.{words_of, number_within}
use Rattle.gob_jobs.specs.Elements.{Form, form_in, unit_counters, branch_counters, branch_counter, counter_read}
use Rattle.gob_jobs.specs.Elements.{range_words, share_words, rule_is_right, rule_forms, rule_read}
use Rattle.gob_jobs.specs.KeyTable.{Draft, RunRules, ValueFault, Reader, of_plan, of_runs, is_of_plan, known_value}
use Rattle.gob_jobs.specs.KeyTable.{into_rules, plan_word, plan_number, formats, truths, forks, source_columns}
use Rattle.gob_jobs.specs.KeyTable.{shared_steps, with_format, with_header, with_fork, with_branches, run_word}
use Rattle.gob_jobs.specs.KeyTable.{run_number, run_text, sources, commit_policies, commit_scopes, list_read}
use Rattle.gob_jobs.specs.KeyTable.{modes_listed, task_modes, rules_listed, strict_rule, task_rules, with_task_modes}
use Rattle.gob_jobs.specs.KeyTable.{task_policy_modes, schedule_read, schedule, as_before, with_prefix, with_max_bytes}
use Rattle.gob_jobs.specs.KeyTable.{with_max_units, with_skip_errors, with_policy, with_retries, with_slots, with_piece}
use Rattle.gob_jobs.specs.KeyTable.{with_schedule, with_scope, Row, tells_plan, first_rows, branch_rows, last_rows}
use Rattle.gob_jobs.specs.Reading.{LookUp, Reading, read_value, read_row, read_rows, with_branch, read_branches}
use Rattle.gob_jobs.specs.Reading.{read_table, nothing_read}
use Rattle.gob_jobs.specs.Laws.{IsBetween}
use Rattle.gob_jobs.proofs.Results.{then_ok, map_ok, known_ok, some_then, some_map, some_both, only_some}
use Rattle.gob_jobs.proofs.Rows.{with_draft, row_parts, TableParts, table_parts}
use Rattle.gob_jobs.proofs.Fitting.{few_known, modes_count}
use Rattle.gob_jobs.proofs.Stages.{Step, Leads, done, row_then, within}

-- ---- steps that change the rules of runs

run_value : {X : Type 0} (read : Plan → RunRules → List ℕ → Result X ValueFault) (put : X → RunRules → RunRules)
    (r s : Reading) (v : List ℕ) → read_value (into_rules read put) r v ≡ Ok s
    → (x : X) × (read r.draft.plan r.rules v ≡ Ok x) × (record r { rules = put x r.rules } ≡ s)
run_value read put r s v is =
    let m = map_ok (λ q. record r { rules = q }) (value_map (λ x. put x r.rules) (read r.draft.plan r.rules v)) s is in
    let n = map_ok (λ x. put x r.rules) (read r.draft.plan r.rules v) m.0 m.1 in
    (n.0, n.1, ap (λ q. record r { rules = q }) n.2 ∙ m.2)

-- it is said of a reading
abbrev Of : (ℕ → RunRules → Type 0) → Reading → Type 0
Of P r = P r.draft.plan.fork.branches r.rules

-- a reader of this form takes P to Q, where each value that it reads does
into_step : {X : Type 0} (P Q : ℕ → RunRules → Type 0) (read : Plan → RunRules → List ℕ → Result X ValueFault)
    (put : X → RunRules → RunRules)
    → ((plan : Plan) (q : RunRules) (v : List ℕ) (x : X) → read plan q v ≡ Ok x → P plan.fork.branches q
    → Q plan.fork.branches (put x q)) → Step (into_rules read put) (Of P) (Of Q)
into_step P Q read put one r s v p is =
    let x = run_value read put r s v is in subst (Of Q) x.2 (one r.draft.plan r.rules v x.0 x.1 p)

numbers : (low high n : ℕ) (text : List ℕ) → known_value (number_within low high text) ≡ Ok n → (low ≤ n) × (n ≤ high)
numbers low high n text is =
    let p = and_parts (nat_le low n) (nat_le n high) (within low high n text
    (known_ok (number_within low high text) n is)) in
    (leb-true low n p.0, leb-true n high p.1)

number_step : (P Q : ℕ → RunRules → Type 0) (low high : ℕ) (put : ℕ → RunRules → RunRules)
    → ((b n : ℕ) (q : RunRules) → low ≤ n → n ≤ high → P b q → Q b (put n q))
    → Step (run_number low high put) (Of P) (Of Q)
number_step P Q low high put one =
    into_step P Q (λ plan rules value. known_value (number_within low high value)) put
    (λ plan q v n is p. let h = numbers low high n v is in one plan.fork.branches n q h.0 h.1 p)

word_step : {X : Type 0} (P : ℕ → RunRules → Type 0) (words : Table X) (put : X → RunRules → RunRules)
    → ((b : ℕ) (x : X) (q : RunRules) → P b q → P b (put x q)) → Step (run_word words put) (Of P) (Of P)
word_step P words put one = into_step P P (λ plan rules value. known_value (at_name words value)) put
    (λ plan q v x is p. one plan.fork.branches x q p)

text_step : (P : ℕ → RunRules → Type 0) (put : List ℕ → RunRules → RunRules)
    → ((b : ℕ) (x : List ℕ) (q : RunRules) → P b q → P b (put x q)) → Step (run_text put) (Of P) (Of P)
text_step P put one = into_step P P (λ plan rules value. Ok value) put (λ plan q v x is p. one plan.fork.branches x q p)

rules_stay : (reader : Reader) → is_of_plan reader ≡ true → (r s : Reading) (v : List ℕ) → read_value reader r v ≡ Ok s
    → r.rules ≡ s.rules
rules_stay (of_plan read) of r s v is =
    let m = map_ok (λ d. with_draft d r) (read r.draft v) s is in ap (λ (x : Reading). x.rules) m.2
rules_stay (of_runs read) of r s v is = absurd (true≢false (sym of))

-- what is said of the rules alone stays where a row tells the plan
stay_step : (P : RunRules → Type 0) (reader : Reader) → is_of_plan reader ≡ true
    → Step reader (λ r. P r.rules) (λ r. P r.rules)
stay_step P reader of r s v p is = subst P (rules_stay reader of r s v is) p

-- ---- the first rows

abbrev WithBytes : RunRules → Type 0
WithBytes q = IsBetween 1 1073741824 q.limits.max_bytes

abbrev WithUnits : RunRules → Type 0
WithUnits q = WithBytes q × IsBetween 1 10000 q.limits.max_new_units

abbrev pub WithSkips : RunRules → Type 0
WithSkips q = WithBytes q × IsBetween 1 10000 q.limits.max_new_units × (q.skip_errors ≤ 1000000000)

Any : RunRules → Type 0
Any q = Unit {0}

Bytes : RunRules → Type 0
Bytes q = WithBytes q

Units : RunRules → Type 0
Units q = WithUnits q

pub Skips : RunRules → Type 0
Skips q = WithSkips q

bytes_step : Step (run_number 1 1073741824 with_max_bytes) (λ r. Any r.rules) (λ r. Bytes r.rules)
unfolding Any Bytes
bytes_step = number_step (λ b q. Any q) (λ b q. Bytes q) 1 1073741824 with_max_bytes (λ b n q low high p. (low, high))

units_step : Step (run_number 1 10000 with_max_units) (λ r. Bytes r.rules) (λ r. Units r.rules)
unfolding Bytes Units
units_step = number_step (λ b q. Bytes q) (λ b q. Units q) 1 10000 with_max_units (λ b n q low high p. (p, (low, high)))

skips_step : Step (run_number 0 1000000000 with_skip_errors) (λ r. Units r.rules) (λ r. Skips r.rules)
unfolding Units Skips
skips_step = number_step (λ b q. Units q) (λ b q. Skips q) 0 1000000000 with_skip_errors
    (λ b n q low high p. (p.0, p.1, high))

any_text : (put : List ℕ → RunRules → RunRules) → Step (run_text put) (λ r. Any r.rules) (λ r. Any r.rules)
unfolding Any
any_text put = text_step (λ b q. Any q) put (λ b x q p. tt)

firsts_range : (look : LookUp) → Leads look first_rows 0 (λ r. Any r.rules) (λ r. Skips r.rules)
unfolding first_rows
firsts_range look =
    row_then (λ r. Any r.rules) (text_step (λ b q. Any q) as_before (λ b x q p. p))
    (row_then (λ r. Any r.rules) (word_step (λ b q. Any q) sources as_before (λ b x q p. p))
    (row_then (λ r. Any r.rules) (any_text with_prefix)
    (row_then (λ r. Any r.rules) (stay_step Any (plan_word formats with_format) refl)
    (row_then (λ r. Any r.rules) (stay_step Any source_columns refl)
    (row_then (λ r. Any r.rules) (stay_step Any (plan_word truths with_header) refl)
    (row_then (λ r. Bytes r.rules) bytes_step
    (row_then (λ r. Units r.rules) units_step
    (row_then (λ r. Units r.rules) (stay_step Units shared_steps refl)
    (row_then (λ r. Skips r.rules) skips_step
    (row_then (λ r. Skips r.rules) (stay_step Skips (plan_word forks with_fork) refl)
    (row_then (λ r. Skips r.rules) (stay_step Skips (plan_number 1 8 with_branches) refl) done)))))))))))

-- ---- the rows of branches

rows_stay : (look : LookUp) (rows : List Row) (b : ℕ) (r s : Reading) → list_all tells_plan rows ≡ true
    → read_rows look rows b r ≡ Ok s → r.rules ≡ s.rules
rows_stay look [] b r s all is = let e : r ≡ s = cc in ap (λ (x : Reading). x.rules) e
rows_stay look (row ∷ rows) b r s all is =
    let a = and_parts (tells_plan row) (list_all tells_plan rows) all in
    let h = then_ok (read_rows look rows b) (read_row look row b r) s is in
    let q = row_parts look row b r h.0 h.1 in
    rules_stay row.reader a.0 r h.0 q.0 q.2 ∙ rows_stay look rows b h.0 s a.1 h.2

branches_stay : (look : LookUp) (rows : List Row) (bs : List ℕ) (r s : Reading) → list_all tells_plan rows ≡ true
    → read_branches look rows bs r ≡ Ok s → r.rules ≡ s.rules
branches_stay look rows [] r s all is = let e : r ≡ s = cc in ap (λ (x : Reading). x.rules) e
branches_stay look rows (b ∷ bs) r s all is =
    let h = then_ok (λ x. read_branches look rows bs (with_branch x)) (read_rows look rows b r) s is in
    rows_stay look rows b r h.0 all h.1 ∙ branches_stay look rows bs (with_branch h.0) s all h.2

branch_rows_tell : list_all tells_plan branch_rows ≡ true
unfolding branch_rows
branch_rows_tell = refl

-- ---- task rules

-- what holds of each value of a table holds of the one that is found
at_all : {X : Type 0} (P : X → Type 0) (table : Table X) (name : List ℕ) (x : X) → AllByRecursion (λ e. P e.1) table
    → at_name table name ≡ Some x → P x
at_all P [] name x all is = cc
at_all P (e ∷ es) name x all is =
    cond_both (bytes_eq name e.0) (Some e.1) (at_name es name) (λ o. o ≡ Some x → P x)
    (λ _ there. let same : e.1 ≡ x = cc in subst P same all.0)
    (λ _ there. at_all P es name x all.1 there)
    is

or_some : {X : Type 0} (o p : Option X) (x : X) → option_or o p ≡ Some x → (o ≡ Some x) ⊎ (p ≡ Some x)
or_some None p x is = inr is
or_some (Some y) p x is = inl is

-- a counter of a branch that is there fits
Counts : ℕ → (ℕ → Counter) → Type 0
Counts branches make = (n : ℕ) → nat_lt n branches ≡ true → counter_fits branches (make n) ≡ true

branch_counter_fits : (branches : ℕ) (words : List (List ℕ)) (c : Counter) → branch_counter branches words ≡ Some c
    → counter_fits branches c ≡ true
unfolding Counts
branch_counter_fits branches [] c is = cc
branch_counter_fits branches (w ∷ []) c is = cc
branch_counter_fits branches (w ∷ b ∷ []) c is =
    let below : ℕ → Bool = λ n. nat_lt n branches in
    let p = some_both (λ make n. make n) (at_name branch_counters w) (option_and_then (only_if below) (number_read b)) c
    is in
    let q = some_then (only_if below) (number_read b) p.1 p.3 in
    let r = only_some below q.0 p.1 q.2 in
    let fits : Counts branches p.0 = at_all (Counts branches) branch_counters w p.0
    ((λ n few. few), ((λ n few. few), ((λ n few. few), tt))) p.2 in
    ap (counter_fits branches) (sym p.4) ∙ fits p.1 (ap below (sym r.1) ∙ r.0)
branch_counter_fits branches (w ∷ b ∷ d ∷ ws) c is = cc

counter_from : (branches : ℕ) (word : List ℕ) (c : Counter) → counter_read branches word ≡ Some c
    → counter_fits branches c ≡ true
unfolding counter_read
counter_from branches word c is =
    ⊎_elim
    (λ plain. at_all (λ d. counter_fits branches d ≡ true) unit_counters word c (refl, (refl, (refl, (refl, tt))))
    plain)
    (λ own. branch_counter_fits branches (pieces (nat_eq 46) word) c own)
    (or_some (at_name unit_counters word) (branch_counter branches (pieces (nat_eq 46) word)) c is)

-- a form of rules whose counters fit
Rules : ℕ → Form TaskRule → Type 0
Rules branches form = (words : List (List ℕ)) (t : TaskRule) → form words ≡ Some t → rule_fits branches t ≡ true

range_fits : (branches : ℕ) → Rules branches (range_words branches)
unfolding Rules
range_fits branches [] t is = cc
range_fits branches (c ∷ []) t is = cc
range_fits branches (c ∷ l ∷ []) t is = cc
range_fits branches (c ∷ l ∷ h ∷ []) t is =
    let p = some_then (λ of. both (λ low high. rule.Range of low high) (number_read l) (number_read h))
    (counter_read branches c) t is in
    let q = some_both (λ low high. rule.Range p.0 low high) (number_read l) (number_read h) t p.2 in
    ap (rule_fits branches) (sym q.4) ∙ counter_from branches c p.0 p.1
range_fits branches (c ∷ l ∷ h ∷ w ∷ ws) t is = cc

share_fits : (branches : ℕ) → Rules branches (share_words branches)
unfolding Rules
share_fits branches [] t is = cc
share_fits branches (c ∷ []) t is = cc
share_fits branches (c ∷ d ∷ []) t is = cc
share_fits branches (c ∷ d ∷ n ∷ []) t is =
    let p = some_then (λ m. both (λ part whole. rule.Share part whole m) (counter_read branches c)
    (counter_read branches d)) (number_within 0 1000 n) t is in
    let q = some_both (λ part whole. rule.Share part whole p.0) (counter_read branches c) (counter_read branches d) t
    p.2 in
    ap (rule_fits branches) (sym q.4) ∙ and_from _ _ (counter_from branches c q.0 q.2) (counter_from branches d q.1 q.3)
share_fits branches (c ∷ d ∷ n ∷ w ∷ ws) t is = cc

formed_fits : (branches : ℕ) (words : List (List ℕ)) (t : TaskRule) → form_in (rule_forms branches) words ≡ Some t
    → rule_fits branches t ≡ true
unfolding Rules
formed_fits branches [] t is = cc
formed_fits branches (first ∷ more) t is =
    let p = some_then (λ (form : Form TaskRule). form more) (at_name (rule_forms branches) first) t is in
    at_all (Rules branches) (rule_forms branches) first p.0 (range_fits branches, (share_fits branches, tt)) p.1 more t
    p.2

rule_from : (branches : ℕ) (element : List ℕ) (t : TaskRule) → rule_read branches element ≡ Some t
    → rule_fits branches t ≡ true
unfolding rule_read
rule_from branches element t is =
    let p = some_then (only_if rule_is_right) (form_in (rule_forms branches) (words_of element)) t is in
    let q = only_some rule_is_right p.0 t p.2 in
    ap (rule_fits branches) (sym q.1) ∙ formed_fits branches (words_of element) p.0 p.1

-- the branches of rules' counters are there
abbrev rules_fit : ℕ → List TaskPolicy → Bool
rules_fit branches policies = list_all (λ p. rule_fits branches p.rule) policies

each_rule : (branches : ℕ) (es : List (List ℕ)) (rs : List TaskRule) → each_read (rule_read branches) es ≡ Some rs
    → (list_all (rule_fits branches) rs ≡ true) × (length rs ≡ length es)
each_rule branches [] rs is = let e : [] ≡ rs = cc in (ap (list_all (rule_fits branches)) (sym e), ap length (sym e))
each_rule branches (x ∷ xs) rs is =
    let p = some_both (λ y ys. y ∷ ys) (rule_read branches x) (each_read (rule_read branches) xs) rs is in
    let later = each_rule branches xs p.1 p.3 in (
      ap (list_all (rule_fits branches)) (sym p.4) ∙ and_from _ _ (rule_from branches x p.0 p.2) later.0,
      ap length (sym p.4) ∙ ap suc later.1,
    )

strict_rules : (branches : ℕ) (rs : List TaskRule) → rules_fit branches (map strict_rule rs) ≡ list_all
    (rule_fits branches) rs
strict_rules branches [] = refl
strict_rules branches (r ∷ rs) = ap (λ b. rule_fits branches r && b) (strict_rules branches rs)

moded_rules : (branches : ℕ) (policies : List TaskPolicy) (modes : List Bool) → length modes ≡ length policies
    → (rules_fit branches (with_task_modes modes policies) ≡ rules_fit branches policies)
    × (length (with_task_modes modes policies) ≡ length policies)
moded_rules branches [] [] same = (refl, refl)
moded_rules branches [] (m ∷ ms) same = (refl, refl)
moded_rules branches (p ∷ ps) [] same = absurd (omega arith)
moded_rules branches (p ∷ ps) (m ∷ ms) same =
    let later = moded_rules branches ps ms (omega arith) in (
      ap (λ b. rule_fits branches p.rule && b) later.0,
      ap suc later.1,
    )

listed_rules : (branches : ℕ) (value : List ℕ) (rs : List TaskRule) → known_value (rules_listed branches value) ≡ Ok rs
    → (list_all (rule_fits branches) rs ≡ true) × (nat_le (length rs) 16 ≡ true)
unfolding rules_listed
listed_rules branches value rs is =
    let p = some_then (each_read (rule_read branches)) (few_elements 16 59 value) rs
    (known_ok (rules_listed branches value) rs is) in
    let q = each_rule branches p.0 rs p.2 in
    (q.0, ap (λ n. nat_le n 16) q.1 ∙ few_known 16 59 value p.0 (ap known' p.1))
  where
    known' : Option (List (List ℕ)) → Result (List (List ℕ)) ValueFault
    known' o = known_value o

-- ---- the last rows

abbrev pub TasksFit : ℕ → RunRules → Type 0
TasksFit b q = Skips q × (rules_fit b q.task_policies ≡ true) × (nat_le (length q.task_policies) 16 ≡ true)

abbrev pub TurnsFit : RunRules → Type 0
TurnsFit q = (q.max_retries ≤ 100) × IsBetween 1 64 q.turns.slots × IsBetween 1 1048576 q.turns.piece
    × IsBetween 1 64 (length q.turns.schedule) × AllByRecursion (λ n. n ≤ 63) q.turns.schedule

FirstKnown : ℕ → RunRules → Type 0
FirstKnown b q = Skips q

Tasks : ℕ → RunRules → Type 0
Tasks b q = TasksFit b q

Retries : ℕ → RunRules → Type 0
Retries b q = TasksFit b q × (q.max_retries ≤ 100)

Slots : ℕ → RunRules → Type 0
Slots b q = TasksFit b q × (q.max_retries ≤ 100) × IsBetween 1 64 q.turns.slots

Piece : ℕ → RunRules → Type 0
Piece b q = TasksFit b q × (q.max_retries ≤ 100) × IsBetween 1 64 q.turns.slots × IsBetween 1 1048576 q.turns.piece

pub LastKnown : ℕ → RunRules → Type 0
LastKnown b q = TasksFit b q × TurnsFit q

tasks_step : Step task_rules (Of FirstKnown) (Of Tasks)
unfolding FirstKnown Tasks Skips
tasks_step =
    into_step FirstKnown Tasks (λ plan rules value. known_value (rules_listed plan.fork.branches value))
    (λ rs rules. record rules { task_policies = map strict_rule rs })
    (λ plan q v rs is p.
    let h = listed_rules plan.fork.branches v rs is in
    (p, strict_rules plan.fork.branches rs ∙ h.0, ap (λ n. nat_le n 16) (length-map rs strict_rule) ∙ h.1))

task_modes_step : Step task_policy_modes (Of Tasks) (Of Tasks)
unfolding Tasks Skips
task_modes_step =
    into_step Tasks Tasks (λ plan rules value. modes_listed task_modes rules.task_policies value)
    (λ modes rules. record rules { task_policies = with_task_modes modes rules.task_policies })
    (λ plan q v modes is p.
    let h = moded_rules plan.fork.branches q.task_policies modes (modes_count task_modes q.task_policies v modes is) in
    (p.0, h.0 ∙ p.1, ap (λ n. nat_le n 16) h.1 ∙ p.2))

each_number : (es : List (List ℕ)) (ns : List ℕ) → each_read (number_within 0 63) es ≡ Some ns
    → AllByRecursion (λ n. n ≤ 63) ns
each_number [] ns is = let e : [] ≡ ns = cc in subst (AllByRecursion (λ n. n ≤ 63)) e tt
each_number (x ∷ xs) ns is =
    let p = some_both (λ y ys. y ∷ ys) (number_within 0 63 x) (each_read (number_within 0 63) xs) ns is in
    let h = and_parts (nat_le 0 p.0) (nat_le p.0 63) (within 0 63 p.0 x p.2) in
    subst (AllByRecursion (λ n. n ≤ 63)) p.4 (leb-true p.0 63 h.1, each_number xs p.1 p.3)

schedule_fits : (value : List ℕ) (ns : List ℕ) → schedule_read value ≡ Some ns → IsBetween 1 64 (length ns)
    × AllByRecursion (λ n. n ≤ 63) ns
unfolding schedule_read
schedule_fits value ns is =
    let passes : List ℕ → Bool = λ ms. nat_le 1 (length ms) && nat_le (length ms) 64 in
    let p = some_then (only_if passes) (list_read 44 (number_within 0 63) value) ns is in
    let q = only_some passes p.0 ns p.2 in
    let h = and_parts (nat_le 1 (length p.0)) (nat_le (length p.0) 64) q.0 in
    let e = some_then (each_read (number_within 0 63)) (elements 44 value) p.0 p.1 in
    subst (λ ms. IsBetween 1 64 (length ms) × AllByRecursion (λ n. n ≤ 63) ms) q.1
    ((leb-true 1 (length p.0) h.0, leb-true (length p.0) 64 h.1), each_number e.0 p.0 e.2)

schedule_step : Step schedule (Of Piece) (Of LastKnown)
unfolding Piece LastKnown Skips
schedule_step =
    into_step Piece LastKnown (λ plan rules value. known_value (schedule_read value)) with_schedule
    (λ plan q v ns is p. let h = schedule_fits v ns (known_ok (schedule_read v) ns is) in
    (p.0, (p.1, p.2, p.3, h.0, h.1)))

policy_step : Step (run_word commit_policies with_policy) (Of Tasks) (Of Tasks)
unfolding Tasks Skips
policy_step = word_step Tasks commit_policies with_policy (λ b x q p. p)

retries_step : Step (run_number 0 100 with_retries) (Of Tasks) (Of Retries)
unfolding Tasks Retries Skips
retries_step = number_step Tasks Retries 0 100 with_retries (λ b n q low high p. (p, high))

slots_step : Step (run_number 1 64 with_slots) (Of Retries) (Of Slots)
unfolding Retries Slots Skips
slots_step = number_step Retries Slots 1 64 with_slots (λ b n q low high p. (p.0, p.1, (low, high)))

piece_step : Step (run_number 1 1048576 with_piece) (Of Slots) (Of Piece)
unfolding Slots Piece Skips
piece_step = number_step Slots Piece 1 1048576 with_piece (λ b n q low high p. (p.0, p.1, p.2, (low, high)))

scope_step : Step (run_word commit_scopes with_scope) (Of LastKnown) (Of LastKnown)
unfolding LastKnown Skips
scope_step = word_step LastKnown commit_scopes with_scope (λ b x q p. p)

lasts_range : (look : LookUp) → Leads look last_rows 0 (Of FirstKnown) (Of LastKnown)
unfolding last_rows
lasts_range look =
    row_then (Of Tasks) tasks_step (row_then (Of Tasks) task_modes_step
    (row_then (Of Tasks) policy_step (row_then (Of Retries) retries_step
    (row_then (Of Slots) slots_step (row_then (Of Piece) piece_step
    (row_then (Of LastKnown) schedule_step (row_then (Of LastKnown) scope_step done)))))))

-- what is known of the rules of a table that was read
pub rules_known : (look : LookUp) (s : Reading) → read_table look first_rows branch_rows last_rows nothing_read ≡ Ok s
    → TasksFit s.draft.plan.fork.branches s.rules × WithSkips s.rules × TurnsFit s.rules
unfolding Any FirstKnown LastKnown Skips
rules_known look s is =
    let p = table_parts look first_rows branch_rows last_rows nothing_read s is in
    let one : Skips p.first.rules = (firsts_range look).go nothing_read p.first tt p.firsts_read in
    let two : Skips p.second.rules = subst Skips (branches_stay look branch_rows
    (range_with_len 0 p.first.draft.plan.fork.branches) p.first p.second branch_rows_tell p.each_read) one in
    let three = (lasts_range look).go p.second s two p.lasts_read in
    (three.0, three.0.0, three.1)
