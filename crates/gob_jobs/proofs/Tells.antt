-- A job's pipeline text tells its plan, and a plan that is told fits.
use Rattle.std.proofs.Common.{◌≡◌, ℕ, zero, suc, ◌+◌, ◌-◌, ◌^◌, ◌<◌, ◌≤◌, Bool, true, false, ◌&&◌, nat_le, List, []}
use Rattle.std.proofs.Common.{◌∷◌, ◌++◌, length, map, filter, All, Option, Some, None, Ok, Err, Result, refl, sym, ap}
use Rattle.std.proofs.Common.{subst, ◌∙◌, arith, IsUtf8}
use lib.Utf8.{encode}
use Rattle.std.specs.Fmt.{digits}
use Rattle.std.specs.List.{AllByRecursion, list_all, flat_map, range_with_len}
use Rattle.std.specs.Option.{option_map, option_and_then, is_none}
use Rattle.std.specs.Result.{result_ok}
use Rattle.std.specs.Str.{is_utf8, chars}
use Rattle.std.proofs.lemmas.Bool.{and_parts, leb-true, eq-eqb, agree_below_at}
use Rattle.std.proofs.lemmas.List.Elements.{All-from_recursion}
use Rattle.std.proofs.lemmas.List.FromFn.{length-range_with_len}
use Rattle.std.proofs.lemmas.Str.{IsUtf8-from_is_utf8}
use Rattle.gob_bytes.specs.Escapes.{AreBytes}
use Rattle.gob_bytes.proofs.Forms.{bytes_from_utf8}
use Rattle.gob_bytes.specs.Tables.{Table, at_name}
use Rattle.gob_plan.specs.declared.plan.Plan.{Plan}
use Rattle.gob_plan.specs.declared.plan.TaskPolicy.{TaskPolicy}
use Rattle.gob_plan.specs.declared.plan.ForkHow.{ForkHow}
use Rattle.gob_plan.specs.declared.plan.ForkHow.TheVariants as fork_how
use Rattle.gob_meaning.specs.Job.{Job}
use Rattle.gob_meaning.specs.Plans.{IsFitting, has_tests_for, rule_fits, branch_fits, branch_is_short}
use Rattle.gob_jobs.specs.Words.{without_blanks, value_map}
use Rattle.gob_jobs.specs.Pipelines.{Setting, is_key, IsSetting, IsPipeline, pipeline_text, settings_in, last_value}
use Rattle.gob_jobs.specs.KeyTable.{Row, Draft, RunRules, shared_columns, tells_plan, first_rows, branch_rows}
use Rattle.gob_jobs.specs.KeyTable.{last_rows}
use Rattle.gob_jobs.specs.Reading.{LookUp, Reading, own_key, default_text, spelled_value, setting_of_row}
use Rattle.gob_jobs.specs.Reading.{settings_of_rows, plan_settings, pipeline_of, read_rows, read_branches, read_table}
use Rattle.gob_jobs.specs.Reading.{nothing_read, with_rules, job_read, job_of}
use Rattle.gob_meaning.specs.Plans.{without_rules}
use Rattle.gob_jobs.specs.Plans.{plan_told, plan_of, TellsPlan}
use Rattle.gob_jobs.specs.Laws.{IsTold, PlansAreRight}
use Rattle.gob_jobs.proofs.Results.{then_ok, map_ok, some_then, some_map}
use Rattle.gob_jobs.proofs.Rows.{with_draft, TableParts, table_parts, table_told}
use Rattle.gob_jobs.proofs.Again.{IsFine, HasFineDefault, HasValue, CanBeRead, table_again, rows_fine, branches_fine}
use Rattle.gob_jobs.proofs.Lines.{settings_read}
use Rattle.gob_jobs.proofs.Keys.{HasValues, first_values, branch_values}
use Rattle.gob_jobs.proofs.Fitting.{tests_fit, many_tests}
use Rattle.gob_jobs.proofs.Stages.{NoneYet, StepsFit, CountFits, AfterFirst, Stays, TestsRead, BranchesRead}
use Rattle.gob_jobs.proofs.Stages.{BetweenBranches, first_known, branches_known}

-- ---- facts of the key table

-- the rows that tell the plan
abbrev pub firsts : List Row
firsts = filter tells_plan first_rows

abbrev pub each : List Row
each = filter tells_plan branch_rows

no_last : filter tells_plan last_rows ≡ []
unfolding last_rows
no_last = refl

fine_empty : IsFine []
unfolding without_blanks is_utf8 chars encode
fine_empty = record { plain = refl; utf8 = refl; bare = refl }

fine_firsts : AllByRecursion HasFineDefault firsts
unfolding first_rows without_blanks is_utf8 chars encode
fine_firsts = (
  fine_empty,
  (
    fine_empty,
    (
      record { plain = refl; utf8 = refl; bare = refl },
      (
        fine_empty,
        (
          record { plain = refl; utf8 = refl; bare = refl },
          (record { plain = refl; utf8 = refl; bare = refl }, tt),
        ),
      ),
    ),
  ),
)

fine_each : AllByRecursion HasFineDefault each
unfolding branch_rows without_blanks is_utf8 chars encode
fine_each = (
  fine_empty,
  (
    fine_empty,
    (
      fine_empty,
      (
        fine_empty,
        (fine_empty, (record { plain = refl; utf8 = refl; bare = refl }, tt)),
      ),
    ),
  ),
)

-- ---- settings

-- the keys of a table's rows in a branch are keys of a pipeline text
keys_right : ℕ → List Row → Bool
keys_right b rows = list_all (λ row. is_key (own_key row b)) rows

setting_fine : (look : LookUp) (b : ℕ) (row : Row) → is_key (own_key row b) ≡ true → IsFine (spelled_value look row b)
    → IsSetting (own_key row b) (spelled_value look row b)
setting_fine look b row key fine = record {
  keyed = key;
  bytes =
      bytes_from_utf8 (spelled_value look row b) (utf8_of (spelled_value look row b) fine.utf8);
}
  where
    utf8_of : (text : List ℕ) → is_utf8 text ≡ true → IsUtf8 text
    utf8_of text is = IsUtf8-from_is_utf8 text is

settings_fine : (look : LookUp) (b : ℕ) (rows : List Row) → keys_right b rows ≡ true
    → AllByRecursion (λ row. IsFine (spelled_value look row b)) rows
    → AllByRecursion (λ s. IsSetting s.0 s.1) (map (setting_of_row look b) rows)
unfolding keys_right
settings_fine look b [] keys fine = tt
settings_fine look b (row ∷ rows) keys fine =
    let p = and_parts (is_key (own_key row b)) (list_all (λ r. is_key (own_key r b)) rows) keys in
    (setting_fine look b row p.0 fine.0, settings_fine look b rows p.1 fine.1)

both_all : (P : Setting → Type 0) (xs ys : List Setting) → AllByRecursion P xs → AllByRecursion P ys
    → AllByRecursion P (xs ++ ys)
both_all P [] ys xs_all ys_all = ys_all
both_all P (x ∷ xs) ys xs_all ys_all = (xs_all.0, both_all P xs ys xs_all.1 ys_all)

branches_settings : (look : LookUp) (rows : List Row) (bs : List ℕ) → list_all (λ b. keys_right b rows) bs ≡ true
    → AllByRecursion (λ b. AllByRecursion (λ row. IsFine (spelled_value look row b)) rows) bs
    → AllByRecursion (λ s. IsSetting s.0 s.1) (flat_map (λ b. map (setting_of_row look b) rows) bs)
branches_settings look rows [] keys fine = tt
branches_settings look rows (b ∷ bs) keys fine =
    let p = and_parts (keys_right b rows) (list_all (λ c. keys_right c rows) bs) keys in
    both_all (λ s. IsSetting s.0 s.1) (map (setting_of_row look b) rows)
    (flat_map (λ c. map (setting_of_row look c) rows) bs)
    (settings_fine look b rows p.0 fine.0) (branches_settings look rows bs p.1 fine.1)

first_keys : keys_right 0 firsts ≡ true
unfolding keys_right first_rows digits
first_keys = refl

branch_keys : (n : ℕ) → n < 9 → list_all (λ b. keys_right b each) (range_with_len 0 n) ≡ true
unfolding keys_right branch_rows digits
branch_keys n few = agree_below_at (λ m. list_all (λ b. keys_right b each) (range_with_len 0 m)) (λ m. true) 9 n refl
    few

-- ---- a table that was read

-- what is known once the rows that tell the plan were read
pub record Told (look : LookUp) (s : Reading) : Type 0 where
  pub parts : TableParts look firsts each [] nothing_read s
  pub count : ℕ
  pub few : count < 9
  pub same : count ≡ parts.first.draft.plan.fork.branches
  pub known : BetweenBranches count count s

told : (look : LookUp) (s : Reading) → read_table look firsts each (filter tells_plan last_rows) nothing_read ≡ Ok s
    → Told look s
unfolding AfterFirst BetweenBranches
told look s is =
    let e : read_table look firsts each [] nothing_read ≡ Ok s =
    ap (λ rows. read_table look firsts each rows nothing_read) (sym no_last) ∙ is in
    let parts = table_parts look firsts each [] nothing_read s e in
    let p = first_known look parts.first parts.firsts_read in
    let n = parts.first.draft.plan.fork.branches in
    let few = leb-true n 8 (and_parts (nat_le 1 n) (nat_le n 8) p.2.0).1 in
    let tests : TestsRead 0 parts.first.draft.plan = none_tests parts.first.draft.plan p.0.0 in
    let branches : BranchesRead 0 parts.first.draft.plan = none_branches parts.first.draft.plan p.0.1 in
    let last : parts.second ≡ s = cc_ok parts.second s parts.lasts_read in
    let known = branches_known look n 0 (range_with_len 0 n) parts.first parts.second ((p.1, p.2), tests, branches)
    parts.each_read in
    let len = length-range_with_len 0 n in
    let many : 0 + length (range_with_len 0 n) ≡ n = omega arith in
    record {
      parts = parts;
      count = n;
      few = omega arith;
      same = refl;
      known = subst (BetweenBranches n n) last (subst (λ k. BetweenBranches n k parts.second) many known);
    }
  where
    cc_ok : (x y : Reading) → read_rows look [] 0 x ≡ Ok y → x ≡ y
    cc_ok x y e = cc

    none_many : (how : ForkHow) → many_tests how 0 ≡ 0
    none_many fork_how.All = refl
    none_many fork_how.Each = refl
    none_many fork_how.First = refl

    none_tests : (p : Plan) → p.fork.tests ≡ [] → TestsRead 0 p
    none_tests p none = (ap (tests_fit (shared_columns p)) none, ap length none ∙ sym (none_many p.fork.how))

    none_branches : (p : Plan) → p.branches ≡ [] → BranchesRead 0 p
    none_branches p none = (
      ap (list_all (branch_fits (shared_columns p))) none,
      ap (list_all branch_is_short) none,
      ap length none,
    )

-- ---- the plan fits

as_many : (how : ForkHow) (n tests : ℕ) → tests ≡ many_tests how n → has_tests_for how n tests ≡ true
as_many fork_how.All n tests is = eq-eqb tests 0 is
as_many fork_how.Each n tests is = eq-eqb tests n is
as_many fork_how.First n tests is = eq-eqb tests n is

pub fitting : (look : LookUp) (s : Reading) (rules : RunRules) → Told look s
    → list_all (λ (p : TaskPolicy). rule_fits s.draft.plan.fork.branches p.rule) rules.task_policies ≡ true
    → nat_le (length rules.task_policies) 16 ≡ true
    → IsFitting (with_rules s.draft.plan rules)
unfolding BetweenBranches
fitting look s rules t counters few_policies =
    let k = t.known in
    let count : s.draft.plan.fork.branches ≡ t.count = k.0.1.1 in
    record {
      columns = k.0.0.0.0;
      reads = k.0.0.0.1;
      steps = k.0.0.1;
      tests = k.1.0;
      as_many_tests = ap (λ n. has_tests_for s.draft.plan.fork.how n (length s.draft.plan.fork.tests)) count
          ∙ as_many s.draft.plan.fork.how t.count (length s.draft.plan.fork.tests) k.1.1;
      as_many_branches = k.2.2 ∙ sym count;
      branches = k.2.0;
      counters = counters;
      few_steps = k.0.0.2;
      some_branches = ap (λ n. nat_le 1 n && nat_le n 8) count ∙ k.0.1.0;
      short_branches = k.2.1;
      few_policies = few_policies;
    }

-- ---- plans that are told

pub ok_from : {X E : Type 0} (r : Result X E) (x : X) → result_ok r ≡ Some x → r ≡ Ok x
ok_from (Ok y) x is = cc
ok_from (Err e) x is = cc

-- what no pipeline text tells
no_rules : RunRules
no_rules = record nothing_read.rules { skip_errors = 2 ^ 64 - 1; task_policies = [] }

pub plans_right : PlansAreRight
unfolding plan_of plan_told no_rules
plans_right text plan is =
    let p = some_then (λ settings. plan_told (last_value settings)) (settings_in text) plan is in
    let look : LookUp = last_value p.0 in
    let m = some_map (λ (r : Reading). without_rules r.draft.plan)
    (result_ok (read_table look firsts each (filter tells_plan last_rows) nothing_read)) plan p.2 in
    let t = told look m.0 (ok_from (read_table look firsts each (filter tells_plan last_rows) nothing_read) m.0 m.1) in
    let fit : IsFitting (without_rules m.0.draft.plan) = fitting look m.0 no_rules t refl refl in
    let q = (settings_read text p.0).0 p.1 in
    record {
      pipeline = (p.0, q.0, q.1);
      fitting = subst IsFitting m.2 fit;
      without_rules = sym m.2 ∙ ap without_rules m.2;
    }

-- ---- jobs

can_all : (look : LookUp) (settings : List Setting) (b : ℕ) (rows : List Row) → AllByRecursion HasFineDefault rows
    → HasValues look settings b rows → AllByRecursion (CanBeRead look (last_value settings) b) rows
can_all look settings b [] fine values = tt
can_all look settings b (row ∷ rows) fine values = (
  record { default = fine.0; value = values.0 },
  can_all look settings b rows fine.1 values.1,
)

can_branches : (look : LookUp) (settings : List Setting) (rows : List Row) (bs : List ℕ)
    → AllByRecursion HasFineDefault rows → AllByRecursion (λ b. HasValues look settings b rows) bs
    → AllByRecursion (λ b. AllByRecursion (CanBeRead look (last_value settings) b) rows) bs
can_branches look settings rows [] fine values = tt
can_branches look settings rows (b ∷ bs) fine values = (
  can_all look settings b rows fine values.0,
  can_branches look settings rows bs fine values.1,
)

-- what the pipeline text of a table that was read has and tells
pub record Spelled (look : LookUp) (s : Reading) : Type 0 where
  pub all : AllByRecursion (λ t. IsSetting t.0 t.1) (plan_settings look s.draft.plan.fork.branches)
  pub again : read_table (last_value (plan_settings look s.draft.plan.fork.branches)) firsts each [] nothing_read ≡ Ok s

spelled_at : (look : LookUp) (s : Reading) (n : ℕ) → Told look s → n < 9
    → (parts : TableParts look firsts each [] nothing_read s) → n ≡ parts.first.draft.plan.fork.branches
    → AllByRecursion (λ t. IsSetting t.0 t.1) (plan_settings look n)
    × (read_table (last_value (plan_settings look n)) firsts each [] nothing_read ≡ Ok s)
spelled_at look s n t few parts same =
    let branches : List ℕ → Type 0 = λ bs. AllByRecursion (λ b.
    AllByRecursion (λ row. IsFine (spelled_value look row b)) each) bs in
    let fine : branches (range_with_len 0 n) =
    subst (λ m. branches (range_with_len 0 m)) (sym same) (branches_fine look each
    (range_with_len 0 parts.first.draft.plan.fork.branches) parts.first parts.second fine_each parts.each_read) in
    let can : ℕ → Type 0 = λ m. AllByRecursion (λ b. AllByRecursion
    (CanBeRead look (last_value (plan_settings look n)) b) each) (range_with_len 0 m) in (
      both_all (λ u. IsSetting u.0 u.1) (map (setting_of_row look 0) firsts)
          (flat_map (λ b. map (setting_of_row look b) each) (range_with_len 0 n))
          (settings_fine look 0 firsts first_keys (rows_fine look firsts 0 nothing_read parts.first fine_firsts
          parts.firsts_read))
          (branches_settings look each (range_with_len 0 n) (branch_keys n few) fine),
      table_again look (last_value (plan_settings look n)) firsts each nothing_read s parts
          (can_all look (plan_settings look n) 0 firsts fine_firsts (first_values look n few))
          (subst can same (can_branches look (plan_settings look n) each (range_with_len 0 n) fine_each
          (branch_values look n few))),
    )

pub spelled : (look : LookUp) (s : Reading) → Told look s → Spelled look s
unfolding BetweenBranches
spelled look s t =
    let count : t.count ≡ s.draft.plan.fork.branches = sym t.known.0.1.1 in
    let at = spelled_at look s t.count t t.few t.parts t.same in
    record {
      all = subst (λ n. AllByRecursion (λ u. IsSetting u.0 u.1) (plan_settings look n)) count at.0;
      again = subst (λ n. read_table (last_value (plan_settings look n)) firsts each [] nothing_read ≡ Ok s) count at.1;
    }

-- what is known of a job's table
pub job_told : (look : LookUp) (r : Reading) → read_table look first_rows branch_rows last_rows nothing_read ≡ Ok r
    → Told look (with_draft r.draft nothing_read)
job_told look r is = told look (with_draft r.draft nothing_read)
    (table_told look first_rows branch_rows last_rows nothing_read r is)

pub is_pipeline : (look : LookUp) (s : Reading) → Spelled look s
    → IsPipeline (pipeline_of look s.draft.plan.fork.branches)
unfolding pipeline_of
is_pipeline look s p =
    let settings = plan_settings look s.draft.plan.fork.branches in
    (settings, All-from_recursion (λ t. IsSetting t.0 t.1) settings p.all, refl)

pub tells : (look : LookUp) (s : Reading) → Spelled look s → plan_of (pipeline_of look s.draft.plan.fork.branches) ≡
    Some (without_rules s.draft.plan)
unfolding pipeline_of plan_of plan_told
tells look s p =
    let settings = plan_settings look s.draft.plan.fork.branches in
    let read = (settings_read (pipeline_text settings) settings).1
    (All-from_recursion (λ t. IsSetting t.0 t.1) settings p.all, refl) in
    let other = last_value settings in
    let again : read_table other firsts each (filter tells_plan last_rows) nothing_read ≡ Ok s =
    ap (λ rows. read_table other firsts each rows nothing_read) no_last ∙ p.again in
    ap (option_and_then (λ ss. plan_told (last_value ss))) read
    ∙ ap (λ r. option_map (λ (x : Reading). without_rules x.draft.plan) (result_ok r)) again
