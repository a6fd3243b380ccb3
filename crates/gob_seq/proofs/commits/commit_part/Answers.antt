use Rattle.std.proofs.Common.{◌≡◌, ◌∙◌, true, List, [], sym, ap, subst, IfSome, IsSome}
use Rattle.std.specs.List.{list_all}
use Rattle.gob_bytes.specs.Paths.{sequence_name, staging, under}
use Rattle.gob_device.specs.Names.{IsPathname}
use Rattle.gob_device.proofs.Trail.{along_map, along_nothing, along_then}
use Rattle.gob_recovery.specs.Commits.{OnlyBelow, staged_sequence}
use Rattle.gob_recovery.specs.Sequence.{CommitStep, sequence_text}
use Rattle.gob_recovery.proofs.Commits.{below_then}
use Rattle.gob_seq.specs.Maps.{CommitsByName}
use Rattle.gob_seq.specs.Steps.{is_callable}
use Rattle.gob_seq.specs.declared.place.Place.{Place}
use Rattle.gob_seq.proofs.ByNames.{finish_below, finish_ends, finish_maps, opens_ends, rename_below, rename_one}
use Rattle.gob_seq.proofs.ByNames.{write_below, write_ends}
use Rattle.gob_seq.proofs.GoingOver.{ends_part, over_finished, over_nothing, over_renamed, over_written, staged_apart}
use Rattle.gob_seq.proofs.GoingOver.{staged_there, where_ready}
use Rattle.gob_seq.proofs.Named.{below_job, callable, sequence_named, staged_named}
use Rattle.gob_seq.proofs.Readers.{commits_read, keeps_read, renamed_keeps, written_keeps}
use Rattle.gob_seq.proofs.commits.commit_part.Goals as goal

pub returns-in_err-place-clause-rises : goal.returns-in_err-place-clause-rises
returns-in_err-place-clause-rises g c = over_nothing c.args.job.now c.args.sequence.now _

pub returns-in_err-place-clause-readers : goal.returns-in_err-place-clause-readers
returns-in_err-place-clause-readers g c = along_nothing (CommitsByName c.args.job.now c.args.sequence.now) _

pub returns-in_err-place-clause-below : goal.returns-in_err-place-clause-below
returns-in_err-place-clause-below g c = along_nothing (OnlyBelow (under c.args.job.now [])) _

pub returns-in_err-text-clause-rises : goal.returns-in_err-text-clause-rises
returns-in_err-text-clause-rises g c = over_nothing c.args.job.now c.args.sequence.now _

pub returns-in_err-text-clause-readers : goal.returns-in_err-text-clause-readers
returns-in_err-text-clause-readers g c = along_nothing (CommitsByName c.args.job.now c.args.sequence.now) _

pub returns-in_err-text-clause-below : goal.returns-in_err-text-clause-below
returns-in_err-text-clause-below g c = along_nothing (OnlyBelow (under c.args.job.now [])) _

pub write_file-requires : goal.write_file-requires
write_file-requires g c =
    let staged : c.as_str-staged.result.now ≡ staged_sequence c.args.job.now =
    c.as_str-staged.ensures ∙ ap (λ (p : Place). p.staged) c.in_ok-place.ensures in
    record { named = subst IsPathname (sym staged) (staged_named c.args.job.now c.requires.named) }

pub rename-requires : goal.rename-requires
rename-requires g c =
    let staged : c.as_str-staged.result.now ≡ staged_sequence c.args.job.now =
    c.as_str-staged.ensures ∙ ap (λ (p : Place). p.staged) c.in_ok-place.ensures in
    let opened : c.as_str-opened.result.now ≡ sequence_name c.args.job.now =
    c.as_str-opened.ensures ∙ ap (λ (p : Place). p.sequence) c.in_ok-place.ensures in
    let text : c.as_slice.result.now ≡ sequence_text c.args.sequence.now = c.as_slice.ensures ∙ c.in_ok-text.ensures in
    let job = c.args.job.now in
    let steps = c.args.sequence.now in
    let written = write_ends job _ _ steps staged text c.in_ok-write_file.ensures.ok in
    record {
      named = (
        subst IsPathname (sym staged) (staged_named job c.requires.named),
        subst IsPathname (sym opened)
            (sequence_named job c.requires.named),
      );
      there = subst (λ n. IfSome (g.V.Volume.disk c.write_file.new.volume) (λ d. IsSome (d.files n))) (sym staged)
          (staged_there job (sequence_text steps) written);
      differ = λ same. staged_apart job (sym staged ∙ (same ∙ opened));
    }

pub finish-requires : goal.finish-requires
finish-requires g c =
    let opened : c.as_str-opened.result.now ≡ sequence_name c.args.job.now =
    c.as_str-opened.ensures ∙ ap (λ (p : Place). p.sequence) c.in_ok-place.ensures in
    record {
      named = subst IsPathname (sym opened) (sequence_named c.args.job.now c.requires.named);
      steps = subst (λ (t : List CommitStep). list_all is_callable t ≡ true) (sym c.steps.ensures)
          (callable c.args.job.now c.args.sequence.now c.requires.fits);
    }

pub returns-in_err-write_file-clause-rises : goal.returns-in_err-write_file-clause-rises
returns-in_err-write_file-clause-rises g c =
    let staged : c.as_str-staged.result.now ≡ staged_sequence c.args.job.now =
    c.as_str-staged.ensures ∙ ap (λ (p : Place). p.staged) c.in_ok-place.ensures in
    let job = c.args.job.now in
    let steps = c.args.sequence.now in
    let below = write_below job _ staged c.write_file.ensures.only in
    where_ready job steps c.requires.fits c.requires.ready (over_written job steps below)

pub returns-in_err-write_file-clause-readers : goal.returns-in_err-write_file-clause-readers
returns-in_err-write_file-clause-readers g c =
    let staged : c.as_str-staged.result.now ≡ staged_sequence c.args.job.now =
    c.as_str-staged.ensures ∙ ap (λ (p : Place). p.staged) c.in_ok-place.ensures in
    let job = c.args.job.now in
    let steps = c.args.sequence.now in
    let below = write_below job _ staged c.write_file.ensures.only in
    keeps_read job steps (written_keeps job below)

pub returns-in_err-write_file-clause-below : goal.returns-in_err-write_file-clause-below
returns-in_err-write_file-clause-below g c =
    let staged : c.as_str-staged.result.now ≡ staged_sequence c.args.job.now =
    c.as_str-staged.ensures ∙ ap (λ (p : Place). p.staged) c.in_ok-place.ensures in
    let job = c.args.job.now in
    let steps = c.args.sequence.now in
    let below = write_below job _ staged c.write_file.ensures.only in
    along_map (OnlyBelow (staging job)) (OnlyBelow (under job [])) (below_job job) below

pub returns-in_err-rename-clause-rises : goal.returns-in_err-rename-clause-rises
returns-in_err-rename-clause-rises g c =
    let staged : c.as_str-staged.result.now ≡ staged_sequence c.args.job.now =
    c.as_str-staged.ensures ∙ ap (λ (p : Place). p.staged) c.in_ok-place.ensures in
    let opened : c.as_str-opened.result.now ≡ sequence_name c.args.job.now =
    c.as_str-opened.ensures ∙ ap (λ (p : Place). p.sequence) c.in_ok-place.ensures in
    let text : c.as_slice.result.now ≡ sequence_text c.args.sequence.now = c.as_slice.ensures ∙ c.in_ok-text.ensures in
    let job = c.args.job.now in
    let steps = c.args.sequence.now in
    let below = write_below job _ staged c.write_file.ensures.only in
    let written = write_ends job _ _ steps staged text c.in_ok-write_file.ensures.ok in
    let one = rename_one job _ _ staged opened c.rename.ensures.change in
    where_ready job steps c.requires.fits c.requires.ready (over_renamed job steps below written one)

pub returns-in_err-rename-clause-readers : goal.returns-in_err-rename-clause-readers
returns-in_err-rename-clause-readers g c =
    let staged : c.as_str-staged.result.now ≡ staged_sequence c.args.job.now =
    c.as_str-staged.ensures ∙ ap (λ (p : Place). p.staged) c.in_ok-place.ensures in
    let opened : c.as_str-opened.result.now ≡ sequence_name c.args.job.now =
    c.as_str-opened.ensures ∙ ap (λ (p : Place). p.sequence) c.in_ok-place.ensures in
    let job = c.args.job.now in
    let steps = c.args.sequence.now in
    let below = write_below job _ staged c.write_file.ensures.only in
    let one = rename_one job _ _ staged opened c.rename.ensures.change in
    keeps_read job steps (renamed_keeps job (written_keeps job below) one)

pub returns-in_err-rename-clause-below : goal.returns-in_err-rename-clause-below
returns-in_err-rename-clause-below g c =
    let staged : c.as_str-staged.result.now ≡ staged_sequence c.args.job.now =
    c.as_str-staged.ensures ∙ ap (λ (p : Place). p.staged) c.in_ok-place.ensures in
    let opened : c.as_str-opened.result.now ≡ sequence_name c.args.job.now =
    c.as_str-opened.ensures ∙ ap (λ (p : Place). p.sequence) c.in_ok-place.ensures in
    let job = c.args.job.now in
    let steps = c.args.sequence.now in
    let below = write_below job _ staged c.write_file.ensures.only in
    along_then (OnlyBelow (under job [])) (below_then (under job []))
    (along_map (OnlyBelow (staging job)) (OnlyBelow (under job [])) (below_job job) below)
    (rename_below job _ _ staged opened c.rename.ensures.change)

pub returns-in_err-finish-clause-rises : goal.returns-in_err-finish-clause-rises
returns-in_err-finish-clause-rises g c =
    let staged : c.as_str-staged.result.now ≡ staged_sequence c.args.job.now =
    c.as_str-staged.ensures ∙ ap (λ (p : Place). p.staged) c.in_ok-place.ensures in
    let opened : c.as_str-opened.result.now ≡ sequence_name c.args.job.now =
    c.as_str-opened.ensures ∙ ap (λ (p : Place). p.sequence) c.in_ok-place.ensures in
    let text : c.as_slice.result.now ≡ sequence_text c.args.sequence.now = c.as_slice.ensures ∙ c.in_ok-text.ensures in
    let job = c.args.job.now in
    let steps = c.args.sequence.now in
    let below = write_below job _ staged c.write_file.ensures.only in
    let written = write_ends job _ _ steps staged text c.in_ok-write_file.ensures.ok in
    let one = rename_one job _ _ staged opened c.rename.ensures.change in
    let open_ends = opens_ends job _ _ steps staged opened written c.in_ok-rename.ensures.change.ok in
    let done = finish_maps job _ steps _ opened c.steps.ensures c.finish.ensures.maps in
    where_ready job steps c.requires.fits c.requires.ready
    (over_finished job steps (over_renamed job steps below written one) open_ends done)

pub returns-in_err-finish-clause-readers : goal.returns-in_err-finish-clause-readers
returns-in_err-finish-clause-readers g c =
    let staged : c.as_str-staged.result.now ≡ staged_sequence c.args.job.now =
    c.as_str-staged.ensures ∙ ap (λ (p : Place). p.staged) c.in_ok-place.ensures in
    let opened : c.as_str-opened.result.now ≡ sequence_name c.args.job.now =
    c.as_str-opened.ensures ∙ ap (λ (p : Place). p.sequence) c.in_ok-place.ensures in
    let text : c.as_slice.result.now ≡ sequence_text c.args.sequence.now = c.as_slice.ensures ∙ c.in_ok-text.ensures in
    let job = c.args.job.now in
    let steps = c.args.sequence.now in
    let below = write_below job _ staged c.write_file.ensures.only in
    let written = write_ends job _ _ steps staged text c.in_ok-write_file.ensures.ok in
    let one = rename_one job _ _ staged opened c.rename.ensures.change in
    let open_ends = opens_ends job _ _ steps staged opened written c.in_ok-rename.ensures.change.ok in
    let done = finish_maps job _ steps _ opened c.steps.ensures c.finish.ensures.maps in
    where_ready job steps c.requires.fits c.requires.ready
    (commits_read job steps (renamed_keeps job (written_keeps job below) one) open_ends done)

pub returns-in_err-finish-clause-below : goal.returns-in_err-finish-clause-below
returns-in_err-finish-clause-below g c =
    let staged : c.as_str-staged.result.now ≡ staged_sequence c.args.job.now =
    c.as_str-staged.ensures ∙ ap (λ (p : Place). p.staged) c.in_ok-place.ensures in
    let opened : c.as_str-opened.result.now ≡ sequence_name c.args.job.now =
    c.as_str-opened.ensures ∙ ap (λ (p : Place). p.sequence) c.in_ok-place.ensures in
    let job = c.args.job.now in
    let steps = c.args.sequence.now in
    let below = write_below job _ staged c.write_file.ensures.only in
    let done = finish_maps job _ steps _ opened c.steps.ensures c.finish.ensures.maps in
    along_then (OnlyBelow (under job [])) (below_then (under job []))
    (along_then (OnlyBelow (under job [])) (below_then (under job []))
    (along_map (OnlyBelow (staging job)) (OnlyBelow (under job [])) (below_job job) below)
    (rename_below job _ _ staged opened c.rename.ensures.change))
    (finish_below job steps c.requires.fits done)

pub returns-clause-rises : goal.returns-clause-rises
returns-clause-rises g c =
    let staged : c.as_str-staged.result.now ≡ staged_sequence c.args.job.now =
    c.as_str-staged.ensures ∙ ap (λ (p : Place). p.staged) c.in_ok-place.ensures in
    let opened : c.as_str-opened.result.now ≡ sequence_name c.args.job.now =
    c.as_str-opened.ensures ∙ ap (λ (p : Place). p.sequence) c.in_ok-place.ensures in
    let text : c.as_slice.result.now ≡ sequence_text c.args.sequence.now = c.as_slice.ensures ∙ c.in_ok-text.ensures in
    let job = c.args.job.now in
    let steps = c.args.sequence.now in
    let below = write_below job _ staged c.write_file.ensures.only in
    let written = write_ends job _ _ steps staged text c.in_ok-write_file.ensures.ok in
    let one = rename_one job _ _ staged opened c.rename.ensures.change in
    let open_ends = opens_ends job _ _ steps staged opened written c.in_ok-rename.ensures.change.ok in
    let done = finish_maps job _ steps _ opened c.steps.ensures c.finish.ensures.maps in
    where_ready job steps c.requires.fits c.requires.ready
    (over_finished job steps (over_renamed job steps below written one) open_ends done)

pub returns-clause-readers : goal.returns-clause-readers
returns-clause-readers g c =
    let staged : c.as_str-staged.result.now ≡ staged_sequence c.args.job.now =
    c.as_str-staged.ensures ∙ ap (λ (p : Place). p.staged) c.in_ok-place.ensures in
    let opened : c.as_str-opened.result.now ≡ sequence_name c.args.job.now =
    c.as_str-opened.ensures ∙ ap (λ (p : Place). p.sequence) c.in_ok-place.ensures in
    let text : c.as_slice.result.now ≡ sequence_text c.args.sequence.now = c.as_slice.ensures ∙ c.in_ok-text.ensures in
    let job = c.args.job.now in
    let steps = c.args.sequence.now in
    let below = write_below job _ staged c.write_file.ensures.only in
    let written = write_ends job _ _ steps staged text c.in_ok-write_file.ensures.ok in
    let one = rename_one job _ _ staged opened c.rename.ensures.change in
    let open_ends = opens_ends job _ _ steps staged opened written c.in_ok-rename.ensures.change.ok in
    let done = finish_maps job _ steps _ opened c.steps.ensures c.finish.ensures.maps in
    where_ready job steps c.requires.fits c.requires.ready
    (commits_read job steps (renamed_keeps job (written_keeps job below) one) open_ends done)

pub returns-clause-below : goal.returns-clause-below
returns-clause-below g c =
    let staged : c.as_str-staged.result.now ≡ staged_sequence c.args.job.now =
    c.as_str-staged.ensures ∙ ap (λ (p : Place). p.staged) c.in_ok-place.ensures in
    let opened : c.as_str-opened.result.now ≡ sequence_name c.args.job.now =
    c.as_str-opened.ensures ∙ ap (λ (p : Place). p.sequence) c.in_ok-place.ensures in
    let job = c.args.job.now in
    let steps = c.args.sequence.now in
    let below = write_below job _ staged c.write_file.ensures.only in
    let done = finish_maps job _ steps _ opened c.steps.ensures c.finish.ensures.maps in
    along_then (OnlyBelow (under job [])) (below_then (under job []))
    (along_then (OnlyBelow (under job [])) (below_then (under job []))
    (along_map (OnlyBelow (staging job)) (OnlyBelow (under job [])) (below_job job) below)
    (rename_below job _ _ staged opened c.rename.ensures.change))
    (finish_below job steps c.requires.fits done)

pub returns-clause-ok : goal.returns-clause-ok
returns-clause-ok g c =
    let staged : c.as_str-staged.result.now ≡ staged_sequence c.args.job.now =
    c.as_str-staged.ensures ∙ ap (λ (p : Place). p.staged) c.in_ok-place.ensures in
    let opened : c.as_str-opened.result.now ≡ sequence_name c.args.job.now =
    c.as_str-opened.ensures ∙ ap (λ (p : Place). p.sequence) c.in_ok-place.ensures in
    let text : c.as_slice.result.now ≡ sequence_text c.args.sequence.now = c.as_slice.ensures ∙ c.in_ok-text.ensures in
    let job = c.args.job.now in
    let steps = c.args.sequence.now in
    let written = write_ends job _ _ steps staged text c.in_ok-write_file.ensures.ok in
    let open_ends = opens_ends job _ _ steps staged opened written c.in_ok-rename.ensures.change.ok in
    where_ready job steps c.requires.fits c.requires.ready
    (ends_part job steps open_ends (finish_ends job _ steps _ opened c.steps.ensures c.in_ok-finish.ensures.ok))
