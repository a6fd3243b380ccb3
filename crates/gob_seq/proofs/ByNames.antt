-- The calls of a commit, by the names that they were given.
use Rattle.std.proofs.Common.{◌≡◌, ℕ, List, [], ap, subst, ◌∙◌, option_map, IfSome}
use Rattle.std.specs.declared.option.Option.{Option}
use Rattle.std.specs.declared.result.Result.{Result}
use Rattle.gob_bytes.specs.Paths.{begins_with, sequence_name, staging, under}
use Rattle.gob_device.specs.Disk.{AddsMaps, AddsOne, Along, Changes, Disk, OnlyAt, Whole, after_change, after_rename}
use Rattle.gob_device.proofs.Trail.{along_map, maps_change}
use Rattle.gob_recovery.specs.Commits.{OnlyBelow, staged_sequence}
use Rattle.gob_recovery.specs.Sequence.{CommitStep, sequence_text, WellFormed}
use Rattle.gob_recovery.proofs.Commits.{sequence_staged}
use Rattle.gob_seq.specs.Maps.{EndsBy, CanFinish, EndsAs, Finishes, SettlingGoesOn, SettlesUnstaged, after_write}
use Rattle.gob_seq.specs.Maps.{finished_files}
use Rattle.gob_seq.proofs.GoingOver.{opened_map}
use Rattle.gob_seq.proofs.Named.{finishes_below, sequence_below, staged_below}
use Rattle.gob_seq.proofs.Resettled.{finish_along, finish_becomes}
use Rattle.gob_seq.proofs.Trails.{changed_ends, ends_then}
use Rattle.gob_seq.proofs.Written.{only_below, renamed_below}

-- ---- the staged sequence is written

pub write_below : (job name : List ℕ) {old new : Option Disk} → name ≡ staged_sequence job → Along (OnlyAt name) old new
    → Along (OnlyBelow (staging job)) old new
write_below job name is a = only_below (staging job) name (ap (begins_with (staging job)) is ∙ sequence_staged job) a

pub write_ends : (job name bytes : List ℕ) (steps : List CommitStep) {old new : Option Disk}
    → name ≡ staged_sequence job
    → bytes ≡ sequence_text steps → AddsMaps (EndsAs (after_write name bytes)) old new
    → AddsMaps (EndsAs (after_write (staged_sequence job) (sequence_text steps))) old new
write_ends job name bytes steps {old} {new} is text a =
    subst (λ (p : List ℕ × List ℕ). AddsMaps (EndsAs (after_write p.0 p.1)) old new) (λ i. (is i, text i)) a

-- ---- and opened

pub rename_one : {T E : Type 0} (job source target : List ℕ) {old new : Option Disk} {result : Result T E}
    → source ≡ staged_sequence job
    → target ≡ sequence_name job → Changes (after_rename source target) (Whole (after_rename source target)) old new
    result
    → AddsMaps (AddsOne (after_rename (staged_sequence job) (sequence_name job))
    (Whole (after_rename (staged_sequence job) (sequence_name job)))) old new
rename_one job source target {old} {new} {result} from to c =
    subst (λ (p : List ℕ × List ℕ). AddsMaps (AddsOne (after_rename p.0 p.1) (Whole (after_rename p.0 p.1))) old new)
    (λ i. (from i, to i)) (maps_change c)

pub rename_below : {T E : Type 0} (job source target : List ℕ) {old new : Option Disk} {result : Result T E}
    → source ≡ staged_sequence job
    → target ≡ sequence_name job → Changes (after_rename source target) (Whole (after_rename source target)) old new
    result
    → Along (OnlyBelow (under job [])) old new
rename_below job source target from to c =
    renamed_below (under job []) source target (ap (begins_with (under job [])) from ∙ staged_below job)
    (ap (begins_with (under job [])) to ∙ sequence_below job) c

pub opens_ends : (job source target : List ℕ) (steps : List CommitStep) {old between new : Option Disk}
    → source ≡ staged_sequence job
    → target ≡ sequence_name job → AddsMaps (EndsAs (after_write (staged_sequence job) (sequence_text steps))) old
    between
    → new ≡ option_map (after_change (after_rename source target)) between
    → AddsMaps (EndsAs (opened_map job steps)) old new
opens_ends job source target steps {old} {between} {new} from to written changed =
    ends_then (after_write (staged_sequence job) (sequence_text steps))
    (after_rename (staged_sequence job) (sequence_name job)) written
    (subst (λ (p : List ℕ × List ℕ). AddsMaps (EndsAs (after_rename p.0 p.1)) between new) (λ i. (from i, to i))
    (changed_ends (after_rename source target) between new changed))

-- ---- and done

pub finish_maps : (job name : List ℕ) (steps ss : List CommitStep) {old new : Option Disk} → name ≡ sequence_name job
    → ss ≡ steps
    → Along (Finishes name ss) old new → Along (Finishes (sequence_name job) steps) old new
finish_maps job name steps ss {old} {new} is same a =
    subst (λ (p : List ℕ × List CommitStep). Along (Finishes p.0 p.1) old new) (λ i. (is i, same i)) a

pub finish_ends : (job name : List ℕ) (steps ss : List CommitStep) {old new : Option Disk} → name ≡ sequence_name job
    → ss ≡ steps
    → AddsMaps (EndsAs (finished_files name ss)) old new → AddsMaps
    (EndsAs (finished_files (sequence_name job) steps)) old new
finish_ends job name steps ss {old} {new} is same a =
    subst (λ (p : List ℕ × List CommitStep). AddsMaps (EndsAs (finished_files p.0 p.1)) old new) (λ i. (is i, same i)) a

pub finish_below : (job : List ℕ) (steps : List CommitStep) {old new : Option Disk} → WellFormed job steps
    → Along (Finishes (sequence_name job) steps) old new → Along (OnlyBelow (under job [])) old new
finish_below job steps fits a =
    along_map (Finishes (sequence_name job) steps) (OnlyBelow (under job []))
    (λ m n f. finishes_below job steps m n fits.each f) a

-- ---- an open sequence is found and done

pub done_goes : (job name : List ℕ) (steps ss : List CommitStep) {old between new : Option Disk}
    → name ≡ sequence_name job
    → ss ≡ steps → between ≡ old → IfSome old (λ d. CanFinish job d.files steps) → Along (Finishes name ss) between new
    → Along (SettlingGoesOn job) old new
done_goes job name steps ss {old} {between} {new} is same still can a =
    finish_along job steps can
    (subst (λ o. Along (Finishes (sequence_name job) steps) o new) still (finish_maps job name steps ss is same a))

pub done_becomes : (job name : List ℕ) (steps ss : List CommitStep) {old between new : Option Disk}
    → name ≡ sequence_name job
    → ss ≡ steps → between ≡ old → IfSome old (λ d. CanFinish job d.files steps)
    → AddsMaps (EndsAs (finished_files name ss)) between new
    → AddsMaps (EndsBy (SettlesUnstaged job)) old new
done_becomes job name steps ss {old} {between} {new} is same still can a =
    finish_becomes job steps can
    (subst (λ o. AddsMaps (EndsAs (finished_files (sequence_name job) steps)) o new) still
    (finish_ends job name steps ss is same a))

pub done_below : (job name : List ℕ) (steps ss : List CommitStep) {old between new : Option Disk}
    → name ≡ sequence_name job
    → ss ≡ steps → between ≡ old → WellFormed job steps → Along (Finishes name ss) between new
    → Along (OnlyBelow (under job [])) old new
done_below job name steps ss {old} {between} {new} is same still fits a =
    finish_below job steps fits
    (subst (λ o. Along (Finishes (sequence_name job) steps) o new) still (finish_maps job name steps ss is same a))
