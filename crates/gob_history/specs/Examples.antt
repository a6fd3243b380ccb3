-- A worked example: one plain run, from an empty volume.
use Rattle.std.specs.Prelude.{◌≡◌, [], ◌∷◌, codes}
use Rattle.std.specs.declared.option.Option.TheVariants.{None, Some}
use Rattle.gob_bytes.specs.Tables.{at_name}
use Rattle.gob_device.specs.Disk.{Files, clean, no_files, put}
use Rattle.gob_device.specs.Supply.{Held}
use Rattle.gob_ledger.specs.Spelling.{version_2, state_spelling}
use Rattle.gob_ledger.specs.Examples.{plain_state, two_lines, job}
use Rattle.gob_history.specs.Sound.{AllRecoverTo}
use Rattle.gob_history.specs.Runs.{RunLeft, TrailOfRun}
use Rattle.gob_history.specs.Rounds.{History, Round}
use Rattle.gob_jobs.specs.Plans.{TellsPlan}

-- the file of the state, and the one published file
abbrev pub after_plain : Files
after_plain = put (put no_files (codes "j1/state") (Some (clean (state_spelling version_2 plain_state))))
    (codes "j1/out/0/a.log@00000000000000000000-00000000000000000004.txt") (Some (clean (codes "x\ny\n")))

-- an archive that has the partition of the example
abbrev pub HasTwoLines : Held → Type 0
HasTwoLines archive = at_name archive (codes "a.log") ≡ Some (codes "x\ny\n")

pub record PlainHistory : Type 0 where
  pub nothing_stands : (archive : Held) → AllRecoverTo (codes "j1") archive None no_files
  pub run_stands : (archive : Held) → HasTwoLines archive → AllRecoverTo (codes "j1") archive (Some plain_state)
      after_plain
  pub tells : TellsPlan job
  pub left : RunLeft job two_lines no_files None [] after_plain
  pub trail : TrailOfRun job two_lines [] no_files (after_plain ∷ [])
  pub history : History (Round (codes "j1")) (codes "j1") ((two_lines, after_plain) ∷ (two_lines, no_files) ∷ [])
