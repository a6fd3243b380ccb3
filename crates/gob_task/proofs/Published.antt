-- What a task was fed, and what is staged of its unit, told over a source.
use Rattle.std.proofs.Common.{◌≡◌, ◌≢◌, ⊎_elim, ℕ, ◌+◌, ◌-◌, ◌≤◌, Bool, true, false, not, ◌||◌, nat_lt, List, [], ◌∷◌}
use Rattle.std.proofs.Common.{◌++◌, length, map, take, drop, refl, sym, ap, subst, ◌∙◌, None, Some, is_some, IsSome}
use Rattle.std.proofs.Common.{arith, length-append}
use Rattle.std.specs.declared.option.Option.{Option}
use Rattle.std.specs.List.{Contains}
use Rattle.std.proofs.lemmas.Bool.{ltb-false}
use Rattle.std.proofs.lemmas.Grind.{common_steps}
use Rattle.std.proofs.Math.Seq.{take-add}
use Rattle.gob_bytes.specs.Lines.{lines_from, rest, start_from}
use Rattle.gob_bytes.specs.Paths.{begins_with, under}
use Rattle.gob_bytes.proofs.Paths.{front_more}
use Rattle.gob_device.specs.Disk.{clean}
use Rattle.gob_device.specs.Supply.{Held, bytes_at, bytes_from}
use Rattle.gob_ledger.specs.Expected.{IsMade, IsPublished, bytes_of_range}
use Rattle.gob_ledger.specs.Next.{Judged}
use Rattle.gob_ledger.specs.Units.{span_of}
use Rattle.gob_ledger.proofs.Members.{first_in, in_cases, none_in}
use Rattle.gob_meaning.specs.Fold.{Delivery, Folded, folded_line, sent_to, stop_from, stop_of, stops_or, unit_fold}
use Rattle.gob_meaning.specs.Items.{Target}
use Rattle.gob_meaning.specs.Laws.{bad_line_count}
use Rattle.gob_meaning.specs.Results.{verdict_of}
use Rattle.gob_meaning.proofs.Joins.{fold_joins, parts_join}
use Rattle.gob_plan.specs.declared.plan.Plan.{Plan}
use Rattle.gob_plan.specs.declared.units.Cause.{Cause}
use Rattle.gob_plan.specs.declared.units.StagedFile.{StagedFile}
use Rattle.gob_plan.specs.declared.units.Unit.{Unit as WorkUnit}
use Rattle.gob_stage.specs.Attempt.{AreThere, staged_name}
use Rattle.gob_stage.proofs.Held.{staged_same}
use Rattle.gob_task.specs.Finish.{AreStagedFor, HoldCleanly, IsStagedFor}
use Rattle.gob_task.specs.Laws.{FirstBytesDecide, PulledAreFirst, StagedArePublished, TasksKeepTheirOwn}
use Rattle.gob_task.specs.Task.{HoldsSent, name_in, unit_length, unit_sends}
use Rattle.gob_task.proofs.Ends.{stopped_verdict}

-- ---- the first bytes of a unit

-- so many bytes, and then the next
pub next_bytes : (held : Held) (part : List ℕ) (at n k : ℕ)
    → bytes_from held part at (n + k) ≡ bytes_from held part at n ++ bytes_from held part (at + n) k
unfolding bytes_from
next_bytes held part at n k =
    take-add n k (drop at (bytes_at held part))
    ∙ ap (λ ys. take n (drop at (bytes_at held part)) ++ take k ys) (dropped at n (bytes_at held part))
  where
    dropped : (a b : ℕ) (xs : List ℕ) → drop b (drop a xs) ≡ drop (a + b) xs
    dropped a b xs = grind (arith, common_steps)

pub pulled_are_first : PulledAreFirst
pulled_are_first held u fed given first told =
    ap (λ xs. xs ++ given) first
    ∙ (ap (λ ys. bytes_from held u.part u.lo (length fed) ++ ys) told
    ∙ (sym (next_bytes held u.part u.lo (length fed) (length given))
    ∙ ap (bytes_from held u.part u.lo) (sym (length-append fed given))))

stop_stays : (plan : Plan) (u : WorkUnit) (x y : List ℕ) (cause : Cause)
    → stop_of plan (unit_fold plan u.lo x) ≡ Some cause → stop_of plan (unit_fold plan u.lo (x ++ y)) ≡ Some cause
stop_stays plan u x y cause is =
    let later : List Folded = map (folded_line plan u.lo) (lines_from (start_from 0 [] x) (rest x) y) in
    ap (stop_of plan) (fold_joins plan u.lo x y).lines
    ∙ ((parts_join plan (unit_fold plan u.lo x) later).stop
    ∙ ap (λ o. stops_or o (λ c. Some c) (stop_from (plan.skip_errors - bad_line_count (unit_fold plan u.lo x))
    later)) is)

pub first_bytes_decide : FirstBytesDecide
first_bytes_decide plan held u fed listed first within ends =
    cases (stop_of plan (unit_fold plan u.lo fed)) (nat_lt (length fed) (unit_length u)) refl refl ends
  where
    all : List ℕ
    all = bytes_of_range held u.part (span_of u)

    more : List ℕ
    more = bytes_from held u.part (u.lo + length fed) (unit_length u - length fed)

    joined : all ≡ fed ++ more
    joined =
        ap (bytes_from held u.part u.lo) (let e : unit_length u ≡ length fed + (unit_length u - length fed) = omega
        (arith, within) in e)
        ∙ (next_bytes held u.part u.lo (length fed) (unit_length u - length fed) ∙ ap (λ xs. xs ++ more) (sym first))

    cases : (o : Option Cause) (less : Bool) → stop_of plan (unit_fold plan u.lo fed) ≡ o
        → nat_lt (length fed) (unit_length u) ≡ less → (is_some o || not less) ≡ true
        → verdict_of plan u fed ≡ verdict_of plan u all
    cases (Some cause) less os ls e =
        stopped_verdict plan u fed cause listed os
        ∙ sym (ap (verdict_of plan u) joined
        ∙ stopped_verdict plan u (fed ++ more) cause listed (stop_stays plan u fed more cause os))
    cases None true os ls e = absurd (let no : false ≡ true = e in cc)
    cases None false os ls e =
        let long : unit_length u ≤ length fed = ltb-false (length fed) (unit_length u) ls in
        let same : length fed ≡ unit_length u = omega (arith, long, within) in
        ap (verdict_of plan u) (first ∙ ap (bytes_from held u.part u.lo) same)

-- ---- what has to be published

pub staged_published : StagedArePublished
staged_published job plan held u v folder bytes files m is staged clean_files = record { made = made; all = all }
  where
    given : List Delivery
    given = unit_sends plan u bytes

    sends : (t : Target) → sent_to t given ≡ sent_to t (unit_sends plan u (bytes_of_range held u.part (span_of u)))
    sends t = ap (λ bs. sent_to t (unit_sends plan u bs)) is

    made : (f : StagedFile) → Contains files f
        → (content : List ℕ) × (m f.from ≡ Some (clean content)) × IsPublished job plan held ((u, v) ∷ []) f.to content
    made f within =
        let s : IsStagedFor job plan u folder given f = staged.each f within in (
          sent_to s.target given,
          clean_files f s.target within s.some s.published,
          record {
            unit = (u, v);
            of_units = first_in (u, v) [] (u, v) refl;
            path = name_in plan u s.target;
            made = record { target = s.target; sends = sym (sends s.target); some = s.some; called = refl };
            called = s.published;
          },
        )

    by_unit : (name content : List ℕ) (j : Judged) (path : List ℕ) → j ≡ (u, v)
        → IsMade plan j.0.part (span_of j.0) (bytes_of_range held j.0.part (span_of j.0)) path content → name
        ≡ under job path
        → (f : StagedFile) × Contains files f × (f.to ≡ name) × (m f.from ≡ Some (clean content))
    by_unit name content j path same made_of called =
        let one : IsMade plan u.part (span_of u) (bytes_of_range held u.part (span_of u)) path content =
        subst (λ (k : Judged). IsMade plan k.0.part (span_of k.0)
        (bytes_of_range held k.0.part (span_of k.0)) path content)
        same made_of in
        let here : sent_to one.target given ≡ content = sends one.target ∙ one.sends in
        let some : sent_to one.target given ≢ [] = λ none. one.some (sym here ∙ none) in
        let found = staged.all one.target some in (
          found.0,
          found.1,
          found.2 ∙ (ap (under job) one.called ∙ sym called),
          clean_files found.0 one.target found.1 some found.2 ∙ ap (λ c. Some (clean c)) here,
        )

    all : (name content : List ℕ) → IsPublished job plan held ((u, v) ∷ []) name content
        → (f : StagedFile) × Contains files f × (f.to ≡ name) × (m f.from ≡ Some (clean content))
    all name content p = by_unit name content p.unit p.path
        (⊎_elim (λ same. sym same) (λ later. none_in p.unit later) (in_cases (u, v) [] p.unit p.of_units)) p.made
        p.called

-- ---- other attempts

pub keep_their_own : TasksKeepTheirOwn
keep_their_own plan t m n same = record { there = there; sent = sent; cleanly = cleanly }
  where
    there : AreThere t.staged m → AreThere t.staged n
    there all target begun =
        subst IsSome (sym (same (staged_name t.staged target) (front_more t.staged.folder target))) (all target begun)

    sent : (fed : List ℕ) → HoldsSent plan t fed m → HoldsSent plan t fed n
    sent fed h = record {
      contents = h.contents;
      sent = h.sent;
      holds = staged_same t.staged h.contents m n same h.holds;
    }

    cleanly : (job bytes : List ℕ) (files : List StagedFile)
        → AreStagedFor job plan t.unit t.staged.folder (unit_sends plan t.unit bytes) files
        → HoldCleanly plan t.unit job (unit_sends plan t.unit bytes) files m
        → HoldCleanly plan t.unit job (unit_sends plan t.unit bytes) files n
    cleanly job bytes files staged held f s within some called =
        let from = (staged.each f within).staged in
        let below : begins_with t.staged.folder f.from ≡ true =
        ap (begins_with t.staged.folder) from ∙ front_more t.staged.folder _ in
        same f.from below ∙ held f s within some called
