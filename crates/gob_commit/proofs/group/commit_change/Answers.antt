use Rattle.std.proofs.Common.{◌≡◌, ◌∙◌, [], List, ap, sym, subst, IfSome}
use Rattle.gob_bytes.specs.Paths.{under}
use Rattle.gob_device.specs.Disk.{AddsMaps, Along}
use Rattle.gob_device.specs.Names.{IsPathname}
use Rattle.gob_device.proofs.Trail.{along_then}
use Rattle.gob_ledger.specs.Delta.{Change, change_of}
use Rattle.gob_recovery.specs.Commits.{OnlyBelow, part_done}
use Rattle.gob_recovery.specs.Sequence.{CommitStep}
use Rattle.gob_recovery.proofs.Commits.{below_then}
use Rattle.gob_recovery.proofs.Names.{file_pathname}
use Rattle.gob_history.specs.Laws.{staged_state}
use Rattle.gob_seq.specs.Maps.{CommitsByName, EndsAs, GoesOver, IsReady}
use Rattle.gob_commit.specs.Going.{ChangeNamed, DoesChange}
use Rattle.gob_commit.specs.Staged.{all_pairs}
use Rattle.gob_commit.proofs.Fitting.{change_named, staged_state_named}
use Rattle.gob_commit.proofs.Stepping.{as_it_is, done_ends, done_rises, nothing_rises, ready_then, state_ends}
use Rattle.gob_commit.proofs.Stepping.{where_there, written_below, written_rises}
use Rattle.gob_commit.proofs.group.commit_change.Goals as goal

pub returns-in_err-change-clause-rises : goal.returns-in_err-change-clause-rises
returns-in_err-change-clause-rises g c =
    let job = c.args.job.now in
    let l = c.args.before.now in
    let change = change_of job l.state l.deltas l.version c.args.after.now in
    let pairs = all_pairs c.args.results.now in
    let named : ChangeNamed job change =
    change_named job l.state l.deltas l.version c.args.after.now c.requires.job c.requires.before.proper
    c.requires.before.counted in
    nothing_rises job change pairs _ (as_it_is job change pairs c.requires.job c.requires.names named)

pub returns-in_err-sequence-clause-rises : goal.returns-in_err-sequence-clause-rises
returns-in_err-sequence-clause-rises g c =
    let job = c.args.job.now in
    let l = c.args.before.now in
    let change = change_of job l.state l.deltas l.version c.args.after.now in
    let pairs = all_pairs c.args.results.now in
    let named : ChangeNamed job change =
    change_named job l.state l.deltas l.version c.args.after.now c.requires.job c.requires.before.proper
    c.requires.before.counted in
    nothing_rises job change pairs _ (as_it_is job change pairs c.requires.job c.requires.names named)

pub returns-in_err-staged-clause-rises : goal.returns-in_err-staged-clause-rises
returns-in_err-staged-clause-rises g c =
    let job = c.args.job.now in
    let l = c.args.before.now in
    let change = change_of job l.state l.deltas l.version c.args.after.now in
    let pairs = all_pairs c.args.results.now in
    let named : ChangeNamed job change =
    change_named job l.state l.deltas l.version c.args.after.now c.requires.job c.requires.before.proper
    c.requires.before.counted in
    nothing_rises job change pairs _ (as_it_is job change pairs c.requires.job c.requires.names named)

pub sequence_of-requires-clause-change : goal.sequence_of-requires-clause-change
sequence_of-requires-clause-change g c =
    let job = c.args.job.now in
    let l = c.args.before.now in
    subst (ChangeNamed job) (sym c.in_ok-change.ensures)
    (change_named job l.state l.deltas l.version c.args.after.now c.requires.job c.requires.before.proper
    c.requires.before.counted)

pub write_file-requires : goal.write_file-requires
write_file-requires g c =
    let job = c.args.job.now in
    record {
      named = subst IsPathname (sym (c.as_str.ensures ∙ c.in_ok-staged.ensures))
          (file_pathname (staged_state job) (staged_state_named job c.requires.job));
    }

pub returns-in_err-write_file-clause-rises : goal.returns-in_err-write_file-clause-rises
returns-in_err-write_file-clause-rises g c =
    let job = c.args.job.now in
    let l = c.args.before.now in
    let change = change_of job l.state l.deltas l.version c.args.after.now in
    let pairs = all_pairs c.args.results.now in
    let does : DoesChange job change pairs c.in_ok-sequence.sequence =
    subst (λ (d : Change). DoesChange job d pairs c.in_ok-sequence.sequence) c.in_ok-change.ensures
    c.in_ok-sequence.ensures in
    let name : c.as_str.result.now ≡ staged_state job = c.as_str.ensures ∙ c.in_ok-staged.ensures in
    where_there job pairs c.requires.there
    (written_rises job _ change pairs does.sorted name does.order c.write_file.ensures.only)

pub returns-in_err-write_file-clause-below : goal.returns-in_err-write_file-clause-below
returns-in_err-write_file-clause-below g c =
    written_below c.args.job.now _ (c.as_str.ensures ∙ c.in_ok-staged.ensures) c.write_file.ensures.only

pub commit_part-requires-clause-named : goal.commit_part-requires-clause-named
commit_part-requires-clause-named g c = file_pathname c.args.job.now c.requires.job

pub commit_part-requires-clause-ready : goal.commit_part-requires-clause-ready
commit_part-requires-clause-ready g c =
    let job = c.args.job.now in
    let l = c.args.before.now in
    let change = change_of job l.state l.deltas l.version c.args.after.now in
    let pairs = all_pairs c.args.results.now in
    let does : DoesChange job change pairs c.in_ok-sequence.sequence =
    subst (λ (d : Change). DoesChange job d pairs c.in_ok-sequence.sequence) c.in_ok-change.ensures
    c.in_ok-sequence.ensures in
    let name : c.as_str.result.now ≡ staged_state job = c.as_str.ensures ∙ c.in_ok-staged.ensures in
    let text : c.as_slice.result.now ≡ change.text =
    c.as_slice.ensures ∙ ap (λ (d : Change). d.text) c.in_ok-change.ensures in
    let ends = state_ends job _ _ change name text c.in_ok-write_file.ensures.ok in
    subst (λ (ss : List CommitStep). IfSome (g.V.Volume.disk c.write_file.new.volume) (λ d. IsReady job ss d.files))
    (sym does.are)
    (ready_then job change pairs does.sorted c.requires.names does.order c.requires.there ends)

pub returns-in_err-commit_part-clause-rises : goal.returns-in_err-commit_part-clause-rises
returns-in_err-commit_part-clause-rises g c =
    let job = c.args.job.now in
    let l = c.args.before.now in
    let change = change_of job l.state l.deltas l.version c.args.after.now in
    let pairs = all_pairs c.args.results.now in
    let does : DoesChange job change pairs c.in_ok-sequence.sequence =
    subst (λ (d : Change). DoesChange job d pairs c.in_ok-sequence.sequence) c.in_ok-change.ensures
    c.in_ok-sequence.ensures in
    let name : c.as_str.result.now ≡ staged_state job = c.as_str.ensures ∙ c.in_ok-staged.ensures in
    let text : c.as_slice.result.now ≡ change.text =
    c.as_slice.ensures ∙ ap (λ (d : Change). d.text) c.in_ok-change.ensures in
    let ends = state_ends job _ _ change name text c.in_ok-write_file.ensures.ok in
    let over = subst (λ (ss : List CommitStep). AddsMaps (GoesOver job ss) (g.V.Volume.disk c.write_file.new.volume)
    (g.V.Volume.disk c.commit_part.new.volume)) does.are c.commit_part.ensures.rises in
    let reads = subst (λ (ss : List CommitStep). Along (CommitsByName job ss) (g.V.Volume.disk c.write_file.new.volume)
    (g.V.Volume.disk c.commit_part.new.volume)) does.are c.commit_part.ensures.readers in
    where_there job pairs c.requires.there
    (done_rises job _ change pairs does.sorted name does.order c.write_file.ensures.only ends over reads)

pub returns-clause-rises : goal.returns-clause-rises
returns-clause-rises g c =
    let job = c.args.job.now in
    let l = c.args.before.now in
    let change = change_of job l.state l.deltas l.version c.args.after.now in
    let pairs = all_pairs c.args.results.now in
    let does : DoesChange job change pairs c.in_ok-sequence.sequence =
    subst (λ (d : Change). DoesChange job d pairs c.in_ok-sequence.sequence) c.in_ok-change.ensures
    c.in_ok-sequence.ensures in
    let name : c.as_str.result.now ≡ staged_state job = c.as_str.ensures ∙ c.in_ok-staged.ensures in
    let text : c.as_slice.result.now ≡ change.text =
    c.as_slice.ensures ∙ ap (λ (d : Change). d.text) c.in_ok-change.ensures in
    let ends = state_ends job _ _ change name text c.in_ok-write_file.ensures.ok in
    let over = subst (λ (ss : List CommitStep). AddsMaps (GoesOver job ss) (g.V.Volume.disk c.write_file.new.volume)
    (g.V.Volume.disk c.commit_part.new.volume)) does.are c.commit_part.ensures.rises in
    let reads = subst (λ (ss : List CommitStep). Along (CommitsByName job ss) (g.V.Volume.disk c.write_file.new.volume)
    (g.V.Volume.disk c.commit_part.new.volume)) does.are c.commit_part.ensures.readers in
    where_there job pairs c.requires.there
    (done_rises job _ change pairs does.sorted name does.order c.write_file.ensures.only ends over reads)

pub returns-in_err-commit_part-clause-below : goal.returns-in_err-commit_part-clause-below
returns-in_err-commit_part-clause-below g c =
    let job = c.args.job.now in
    along_then (OnlyBelow (under job [])) (below_then (under job []))
    (written_below job _ (c.as_str.ensures ∙ c.in_ok-staged.ensures) c.write_file.ensures.only)
    c.commit_part.ensures.below

pub returns-clause-below : goal.returns-clause-below
returns-clause-below g c =
    let job = c.args.job.now in
    along_then (OnlyBelow (under job [])) (below_then (under job []))
    (written_below job _ (c.as_str.ensures ∙ c.in_ok-staged.ensures) c.write_file.ensures.only)
    c.commit_part.ensures.below

pub returns-clause-ok : goal.returns-clause-ok
returns-clause-ok g c =
    let job = c.args.job.now in
    let l = c.args.before.now in
    let change = change_of job l.state l.deltas l.version c.args.after.now in
    let pairs = all_pairs c.args.results.now in
    let does : DoesChange job change pairs c.in_ok-sequence.sequence =
    subst (λ (d : Change). DoesChange job d pairs c.in_ok-sequence.sequence) c.in_ok-change.ensures
    c.in_ok-sequence.ensures in
    let name : c.as_str.result.now ≡ staged_state job = c.as_str.ensures ∙ c.in_ok-staged.ensures in
    let text : c.as_slice.result.now ≡ change.text =
    c.as_slice.ensures ∙ ap (λ (d : Change). d.text) c.in_ok-change.ensures in
    let ends = state_ends job _ _ change name text c.in_ok-write_file.ensures.ok in
    let over = subst (λ (ss : List CommitStep). AddsMaps (GoesOver job ss) (g.V.Volume.disk c.write_file.new.volume)
    (g.V.Volume.disk c.commit_part.new.volume)) does.are c.commit_part.ensures.rises in
    let reads = subst (λ (ss : List CommitStep). Along (CommitsByName job ss) (g.V.Volume.disk c.write_file.new.volume)
    (g.V.Volume.disk c.commit_part.new.volume)) does.are c.commit_part.ensures.readers in
    where_there job pairs c.requires.there
    (done_ends job _ change pairs does.sorted name does.order c.write_file.ensures.only ends over reads
    (subst (λ (ss : List CommitStep). AddsMaps (EndsAs (part_done job ss)) (g.V.Volume.disk c.write_file.new.volume)
    (g.V.Volume.disk c.commit_part.new.volume)) does.are c.in_ok-commit_part.ensures.ok))
