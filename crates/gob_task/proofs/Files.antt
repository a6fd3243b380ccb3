-- The files of a good unit.
use Rattle.std.proofs.Common.{◌≡◌, ◌≢◌, ⊎_elim, ℕ, ◌<◌, ◌^◌, Bool, true, false, cond, ◌||◌, nat_eq, List, [], ◌∷◌, ◌++◌}
use Rattle.std.proofs.Common.{map, refl, sym, ap, subst, ◌∙◌, Some, codes, decimal, arith, Contains}
use Rattle.std.specs.declared.option.Option.{Option}
use Rattle.std.specs.List.{list_all}
use Rattle.std.specs.Char.{is_ascii_digit}
use Rattle.std.specs.Str.{all_ascii_digits, bytes_eq}
use Rattle.std.specs.Str.Parse.{digits_value}
use Rattle.std.proofs.lemmas.Bool.{and_from, and_parts}
use Rattle.std.proofs.lemmas.Fmt.{digits_decimal}
use Rattle.std.proofs.lemmas.List.{append_cancel_left}
use Rattle.std.proofs.lemmas.List.Folds.{list_all-append}
use Rattle.std.proofs.lemmas.Str.Parse.{IsNumeralModel, numerals_by_value, tells_all_ascii_digits}
use Rattle.gob_bytes.specs.Escapes.{is_digit, is_letter}
use Rattle.gob_bytes.specs.Paths.{attempt_folder, staging, under}
use Rattle.gob_bytes.specs.Tables.{IsInByteOrder, Table, at_name, names_of}
use Rattle.gob_bytes.proofs.Tables.{member_from_at, name_itself}
use Rattle.gob_bytes.proofs.Forms.{own}
use Rattle.gob_device.specs.Disk.{Both, Disk}
use Rattle.gob_device.proofs.Trail.{both_map}
use Rattle.gob_ledger.proofs.Members.{in_cases, in_map, map_in, none_in}
use Rattle.gob_meaning.specs.Fold.{Delivery, counts_of, sent_to, unit_fold}
use Rattle.gob_meaning.specs.Items.{Target}
use Rattle.gob_meaning.specs.Results.{good, warnings_of}
use Rattle.gob_plan.specs.declared.plan.Plan.{Plan}
use Rattle.gob_plan.specs.declared.units.Counts.{Counts}
use Rattle.gob_plan.specs.declared.units.StagedFile.{StagedFile}
use Rattle.gob_plan.specs.declared.units.UnitResult.TheVariants as unit_result
use Rattle.gob_recovery.specs.Sequence.{is_file_name, is_sequence_byte}
use Rattle.gob_stage.specs.Attempt.{AttemptValue, staged_file, staged_files, staged_name}
use Rattle.gob_stage.specs.Stages.{HoldsAll}
use Rattle.gob_task.specs.Finish.{AreStagedFor, HoldCleanly, IsFinished, IsStagedFor}
use Rattle.gob_task.specs.Task.{AreBegun, HoldsSent, IsWhole, TaskValue, WasFedIn, name_in, unit_sends}
use Rattle.gob_task.specs.Turn.{TurnRulesValue}
use Rattle.gob_task.proofs.Ends.{good_is}

-- ---- names that can be published

spelled_both : (x y : List ℕ) → list_all is_sequence_byte x ≡ true → list_all is_sequence_byte y ≡ true
    → list_all is_sequence_byte (x ++ y) ≡ true
spelled_both x y a b =
    list_all-append is_sequence_byte x y ∙ and_from (list_all is_sequence_byte x) (list_all is_sequence_byte y) a b

bytes_spelled : (name : List ℕ) → is_file_name name ≡ true → list_all is_sequence_byte name ≡ true
bytes_spelled [] e = refl
bytes_spelled (b ∷ bs) e = e

named_before : (name bytes : List ℕ) → is_file_name name ≡ true → list_all is_sequence_byte bytes ≡ true
    → is_file_name (name ++ bytes) ≡ true
named_before [] bytes e spelled = absurd (let no : false ≡ true = e in cc)
named_before (b ∷ bs) bytes e spelled = spelled_both (b ∷ bs) bytes e spelled

digit_spelled : (b : ℕ) → is_digit b ≡ true → is_sequence_byte b ≡ true
digit_spelled b digit = elim (is_letter b)
    as (λ l. ((l || is_digit b || nat_eq b 46 || nat_eq b 95 || nat_eq b 45) || nat_eq b 47 || nat_eq b 64 || nat_eq
    b 37) ≡ true) [
      | true ↦ refl
      | false ↦ rw digit refl
    ]

digits_spelled : (bs : List ℕ) → all_ascii_digits bs ≡ true → list_all is_sequence_byte bs ≡ true
digits_spelled [] all = refl
digits_spelled (b ∷ bs) all =
    let parts = and_parts (is_ascii_digit b) (all_ascii_digits bs) all in
    and_from (is_sequence_byte b) (list_all is_sequence_byte bs) (digit_spelled b parts.0) (digits_spelled bs parts.1)

decimal_spelled : (n : ℕ) → n < 2 ^ 32 → list_all is_sequence_byte (decimal n) ≡ true
decimal_spelled n small = digits_spelled (decimal n) (digits_decimal own n (omega (arith, small)))

folder_spelled : (job : List ℕ) (unit attempt : ℕ) → is_file_name job ≡ true → unit < 2 ^ 32 → attempt < 2 ^ 32
    → is_file_name (attempt_folder job unit attempt) ≡ true
folder_spelled job unit attempt named small few =
    named_before (staging job ++ decimal unit ++ 45 ∷ decimal attempt) (47 ∷ [])
    (named_before (staging job ++ decimal unit) (45 ∷ decimal attempt)
    (named_before (staging job) (decimal unit) (named_before job (47 ∷ codes "stage/") named refl)
    (decimal_spelled unit small)) (decimal_spelled attempt few)) refl

-- ---- what is begun

all_at : {X : Type 0} (p : X → Bool) (xs : List X) (x : X) → list_all p xs ≡ true → Contains xs x → p x ≡ true
all_at p [] x all within = none_in x within
all_at p (y ∷ ys) x all within =
    let parts = and_parts (p y) (list_all p ys) all in
    ⊎_elim (λ same. ap p (sym same) ∙ parts.0) (λ later. all_at p ys x parts.1 later) (in_cases y ys x within)

named_at : {X : Type 0} (t : Table X) (name : List ℕ) → Contains (names_of t) name
    → (x : X) × (at_name t name ≡ Some x)
named_at [] name within = none_in name within
named_at {X} (e ∷ es) name within = cases (bytes_eq name e.0) refl (named_at es name)
  where
    behind : bytes_eq name e.0 ≡ false → Contains (names_of es) name
    behind apart = ⊎_elim
        (λ same. absurd (
        let yes : bytes_eq name name ≡ true = name_itself name in
        let no : bytes_eq name name ≡ false = subst (λ n. bytes_eq name n ≡ false) same apart in cc))
        (λ later. later) (in_cases e.0 (names_of es) name within)

    cases : (b : Bool) → bytes_eq name e.0 ≡ b → (Contains (names_of es) name → (x : X) × (at_name es name ≡ Some x))
        → (x : X) × (at_name (e ∷ es) name ≡ Some x)
    cases true is later = (e.1, ap (λ b. cond b (Some e.1) (at_name es name)) is)
    cases false is later =
        let found = later (behind is) in
        (found.0, ap (λ b. cond b (Some e.1) (at_name es name)) is ∙ found.1)

files_of : (job : List ℕ) (plan : Plan) (t : TaskValue) (fed : List ℕ) → WasFedIn job plan t fed
    → is_file_name job ≡ true → IsInByteOrder (map (λ f. f.to) (staged_files t.staged))
    → AreStagedFor job plan t.unit t.staged.folder (unit_sends plan t.unit fed) (staged_files t.staged)
files_of job plan t fed w named order = record { order = order; each = each; all = all }
  where
    given : List Delivery
    given = unit_sends plan t.unit fed

    begun : AreBegun plan t.unit given t.staged.begun
    begun = w.begun

    folder_named : is_file_name t.staged.folder ≡ true
    folder_named = ap is_file_name w.folder ∙ folder_spelled job t.index t.failures named w.small.0 w.small.1

    one : (name : List ℕ) → Contains t.staged.begun name
        → IsStagedFor job plan t.unit t.staged.folder given (staged_file t.staged name)
    one name within =
        let found = named_at begun.contents name (subst (λ ns. Contains ns name) (sym begun.names) within) in
        let told = begun.sent.only name found.0 found.1 in
        let spelled = bytes_spelled name (all_at is_file_name t.staged.begun name begun.spelled within) in
        let to : under t.staged.job name ≡ under job name = ap (λ j. under j name) w.of_job in
        record {
          target = told.0;
          some = λ none. told.3 (told.2 ∙ none);
          staged = ap (λ n. t.staged.folder ++ n) told.1;
          published = to ∙ ap (under job) told.1;
          spelled = (
            named_before t.staged.folder name folder_named spelled,
            ap is_file_name to ∙ named_before job (47 ∷ name) named spelled,
          );
        }

    each : (f : StagedFile) → Contains (staged_files t.staged) f
        → IsStagedFor job plan t.unit t.staged.folder given f
    each f within =
        let m = in_map (staged_file t.staged) t.staged.begun f within in
        subst (IsStagedFor job plan t.unit t.staged.folder given) m.2 (one m.0 m.1)

    all : (s : Target) → sent_to s given ≢ []
        → (f : StagedFile) × Contains (staged_files t.staged) f × (f.to ≡ under job (name_in plan t.unit s))
    all s some =
        let name : List ℕ = name_in plan t.unit s in
        let member = member_from_at begun.contents name (sent_to s given) (begun.sent.all s some) in
        let within : Contains t.staged.begun name =
        subst (λ ns. Contains ns name) begun.names
        (map_in (λ (e : List ℕ × List ℕ). e.0) begun.contents (name, sent_to s given) member) in (
          staged_file t.staged name,
          map_in (staged_file t.staged) t.staged.begun name within,
          ap (λ j. under j name) w.of_job,
        )

pub under_same : (job x y : List ℕ) → under job x ≡ under job y → x ≡ y
under_same job x y same = let slashed : 47 ∷ x ≡ 47 ∷ y = append_cancel_left job (47 ∷ x) (47 ∷ y) same in cc

hold_cleanly : (job : List ℕ) (plan : Plan) (t : TaskValue) (fed : List ℕ) → WasFedIn job plan t fed
    → (d e : Disk) → HoldsAll t.staged d e → HoldsSent plan t fed d.files
    → HoldCleanly plan t.unit job (unit_sends plan t.unit fed) (staged_files t.staged) e.files
hold_cleanly job plan t fed w d e all h f s within some called =
    let m = in_map (staged_file t.staged) t.staged.begun f within in
    let to : under job m.0 ≡ under job (name_in plan t.unit s) =
    sym (ap (λ j. under j m.0) w.of_job) ∙ (ap (λ (g : StagedFile). g.to) m.2 ∙ called) in
    let same : m.0 ≡ name_in plan t.unit s = under_same job m.0 (name_in plan t.unit s) to in
    let from : f.from ≡ staged_name t.staged (name_in plan t.unit s) =
    ap (λ (g : StagedFile). g.from) (sym m.2) ∙ ap (staged_name t.staged) same in
    ap e.files from
    ∙ (all h.contents h.holds).files (name_in plan t.unit s) (sent_to s (unit_sends plan t.unit fed)) (h.sent.all s
    some)

-- ---- the end of a good unit

pub finished : (rules : TurnRulesValue) (t : TaskValue) (fed : List ℕ) (counts : Counts) (warnings : List ℕ)
    (staged : List StagedFile) (old new : Option Disk) → IsWhole rules.job rules.plan t fed
    → is_file_name rules.job ≡ true → counts ≡ t.machine.counts
    → warnings ≡ warnings_of rules.plan.task_policies t.machine.counts → staged ≡ staged_files t.staged
    → IsInByteOrder (map (λ f. f.to) staged) → Both (HoldsAll t.staged) old new
    → IsFinished rules t fed (unit_result.Good counts warnings staged) old new
finished rules t fed counts warnings staged old new whole named counted warned is order held = record {
  verdict = ap (λ c. good c warnings) (counted ∙ told)
      ∙ (ap (good n) (warned ∙ ap (warnings_of plan.task_policies) told)
      ∙ sym (good_is plan t.unit fed whole.was.pullable.listed whole.good));
  files = subst (AreStagedFor rules.job plan t.unit t.staged.folder (unit_sends plan t.unit fed)) (sym is)
      (files_of rules.job plan t fed whole.was named
      (subst (λ fs. IsInByteOrder (map (λ f. f.to) fs)) is order));
  hold = both_map (HoldsAll t.staged)
      (λ d e. HoldsSent plan t fed d.files
      → HoldCleanly plan t.unit rules.job (unit_sends plan t.unit fed) staged e.files)
      (λ d e all h. subst
      (λ fs. HoldCleanly plan t.unit rules.job (unit_sends plan t.unit fed) fs e.files) (sym is)
      (hold_cleanly rules.job plan t fed whole.was d e all h)) old new held;
}
  where
    plan : Plan
    plan = rules.plan

    n : Counts
    n = counts_of plan (unit_fold plan t.unit.lo fed)

    told : t.machine.counts ≡ n
    told = whole.was.known.counts whole.was.goes_on
        ∙ ap (λ l. counts_of plan (unit_fold plan l fed)) whole.was.lo

pub held_as : {a b : AttemptValue} (old new : Option Disk) → a ≡ b → Both (HoldsAll a) old new → Both (HoldsAll b)
    old new
held_as {a} {b} old new same = subst (λ v. Both (HoldsAll v) old new) same
