-- A worked map: a state file that isn't synced.
use Rattle.std.specs.Prelude.{[], codes}
use Rattle.std.specs.declared.option.Option.{Option}
use Rattle.std.specs.declared.option.Option.TheVariants.{Some}
use Rattle.gob_device.specs.Disk.{Files, dirty, no_files, put}
use Rattle.gob_device.specs.Supply.{Held}
use Rattle.gob_ledger.specs.Examples.{plain_state}
use Rattle.gob_ledger.specs.Spelling.{version_2, state_spelling}
use Rattle.gob_ledger.specs.State.{State}
use Rattle.gob_history.specs.Sound.{AllRecoverTo}

-- the whole text of a state was appended, and not synced
abbrev pub unsynced_files : Files
unsynced_files = put no_files (codes "j1/state") (Some (dirty [] (state_spelling version_2 plain_state)))

abbrev pub UnsyncedStandsForNothing : Type 0
UnsyncedStandsForNothing = (archive : Held) (o : Option State) → AllRecoverTo (codes "j1") archive o unsynced_files → ⊥
